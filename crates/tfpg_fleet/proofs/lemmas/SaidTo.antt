-- What a line says to a vehicle: a name, a space, and the rest.
use Rattle.std.proofs.Common.{◌≡◌, ℕ, ◌+◌, ◌<◌, false, List, [], ◌∷◌, ◌++◌, length, take, drop, Some, None, position, suc, refl, sym, ap, ◌∙◌, append_assoc, add-one, drop-cons, length-append}
use Rattle.std.specs.Prelude.{◌↔◌, IsTrue, slice_get, option_map, bytes_eq, ◌==◌}
use Rattle.std.proofs.lemmas.Bool.{eqb-true, le-ltb, ltb-false}
use Rattle.std.proofs.lemmas.List.{take-append-drop}
use Rattle.std.proofs.Math.Seq.{take-append_seam, drop-append_seam}
use Rattle.std.proofs.lemmas.Option.{slice_get_within, get_or_from_slice_get}
use Rattle.tfpg_base.specs.Lines.{is_too_long}
use Rattle.tfpg_base.specs.Words.{is_name}
use Rattle.tfpg_base.proofs.lemmas.lists.Elements.{All-at}
use Rattle.tfpg_base.proofs.lemmas.lists.FirstFound.{position-passes, position-append}
use Rattle.tfpg_base.proofs.lemmas.lists.Positions.{position-All_fail, position-push_yes}
use Rattle.tfpg_base.proofs.lemmas.lists.SameBytes.{bytes_eq-true, position-bytes}
use Rattle.tfpg_base.proofs.lemmas.Separators.{name_lacks}
use Rattle.tfpg_fleet.specs.Belonging.{AreVehicleNames, SaysTo, VehicleLine, addressed, belongs, first_space, vehicle_line, vehicle_named}
use Rattle.tfpg_fleet.proofs.lemmas.LinesFor.{named_in}

-- a list cut at an index
cut_at : (line : List ℕ) (index byte : ℕ) → slice_get line index ≡ Some byte → line ≡ take index line ++ byte ∷ drop (index + 1) line
cut_at line index byte at =
    let within : index < length line = slice_get_within line index byte at in
    sym (take-append-drop index line)
    ∙ ap (λ rest. take index line ++ rest) (rw (add-one, drop-cons line index byte) (ap (λ b. b ∷ drop (suc index) line) (get_or_from_slice_get line index byte byte at)))

module _ (names : List (List ℕ)) (line : List ℕ) (found : VehicleLine) where
  -- what belongs to a vehicle says so
  says : belongs names line ≡ Some found → SaysTo names line found
  says is =
      let named = named_in names line found is in
      let space = position-passes (λ byte. byte == 32) line named.space named.space_is in
      let vehicle = position-passes (λ name. bytes_eq name (take named.space line)) names found.vehicle named.named in
      record {
        name = vehicle.0;
        name_is = vehicle.1;
        line_is =
            cut_at line named.space 32 (space.1 ∙ ap Some (eqb-true space.0 32 space.2))
            ∙ (λ i. sym (bytes_eq-true vehicle.0 (take named.space line) vehicle.2) i ++ 32 ∷ named.text_is i);
        short = ltb-false _ _ named.short;
      }

  -- and what says so belongs to it
  module _ (are : AreVehicleNames names) (is : SaysTo names line found) where
    space_is : first_space line ≡ Some (length is.name)
    space_is =
        let lacks = name_lacks 32 is.name refl (All-at (λ name. IsTrue (is_name name)) names found.vehicle is.name are.each is.name_is) in
        let none : position (λ byte. byte == 32) is.name ≡ None = position-All_fail (λ byte. byte == 32) is.name lacks in
        ap first_space (is.line_is ∙ sym (append_assoc is.name (32 ∷ []) found.text))
        ∙ position-append (λ byte. byte == 32) (is.name ++ 32 ∷ []) found.text (length is.name) (position-push_yes (λ byte. byte == 32) is.name 32 none refl)

    front_is : take (length is.name) line ≡ is.name
    front_is = ap (take (length is.name)) is.line_is ∙ take-append_seam is.name (32 ∷ found.text)

    back_is : drop (length is.name + 1) line ≡ found.text
    back_is =
        ap (drop (length is.name + 1)) (is.line_is ∙ sym (append_assoc is.name (32 ∷ []) found.text))
        ∙ ap (λ n. drop n ((is.name ++ 32 ∷ []) ++ found.text)) (sym (length-append is.name (32 ∷ [])))
        ∙ drop-append_seam (is.name ++ 32 ∷ []) found.text

    vehicle_is : vehicle_named names is.name ≡ Some found.vehicle
    vehicle_is =
        let same = get_or_from_slice_get names found.vehicle is.name [] is.name_is in
        ap (vehicle_named names) (sym same) ∙ position-bytes (λ name. name) names found.vehicle [] are.distinct (slice_get_within names found.vehicle is.name is.name_is)

    belongs_so : belongs names line ≡ Some found
    belongs_so =
        let fits : is_too_long line ≡ false = le-ltb _ _ is.short in
        let at : addressed names line (length is.name) ≡ Some found =
        (λ i. option_map (λ (vehicle : ℕ). vehicle_line vehicle (back_is i)) (vehicle_named names (front_is i)))
        ∙ ap (option_map (λ (vehicle : ℕ). vehicle_line vehicle found.text)) vehicle_is in
        rw (fits, space_is) at

pub belongs_exactly : (names : List (List ℕ)) (line : List ℕ) (found : VehicleLine) → AreVehicleNames names → (belongs names line ≡ Some found) ↔ SaysTo names line found
belongs_exactly names line found are = (says names line found, belongs_so names line found are)
