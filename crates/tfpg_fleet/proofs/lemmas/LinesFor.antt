-- What it comes to that a line belongs to a vehicle.
use Rattle.std.proofs.Common.{◌≡◌, ℕ, ◌+◌, ◌≤◌, false, true, List, [], ◌∷◌, ◌++◌, length, take, drop, Some, None, sym, ap, ◌∙◌, arith, length-drop}
use Rattle.std.specs.Prelude.{option_map, option_and_then, ◌==◌}
use Rattle.std.specs.Bool.{then_some}
use Rattle.std.specs.List.{cons_option}
use Rattle.std.proofs.lemmas.Bool.{le-ltb, ltb-false}
use Rattle.std.proofs.lemmas.List.{append-nil}
use Rattle.std.proofs.lemmas.List.Elements.{filter_map-append}
use Rattle.tfpg_base.specs.declared.limits.TheConstants.{LONGEST_LINE}
use Rattle.tfpg_base.specs.Lines.{is_too_long}
use Rattle.tfpg_base.proofs.lemmas.lists.Choices.{cond-some_second, option_and_then-some, option_map-some}
use Rattle.tfpg_fleet.specs.Belonging.{VehicleLine, IsFor, addressed, belongs, first_space, line_for, lines_for, vehicle_line, vehicle_named}

-- The line belongs to this vehicle by its word before this space.
pub record IsNamedIn (names : List (List ℕ)) (line : List ℕ) (found : VehicleLine) : Type 0 where
  pub short : is_too_long line ≡ false
  pub space : ℕ
  pub space_is : first_space line ≡ Some space
  pub named : vehicle_named names (take space line) ≡ Some found.vehicle
  pub text_is : drop (space + 1) line ≡ found.text

module _ (names : List (List ℕ)) (line : List ℕ) where
  pub named_in : (found : VehicleLine) → belongs names line ≡ Some found → IsNamedIn names line found
  named_in found is =
      let fits = cond-some_second (is_too_long line) (option_and_then (addressed names line) (first_space line)) found is in
      let first = option_and_then-some (addressed names line) (first_space line) found fits.1 in
      let second = option_map-some (λ (vehicle : ℕ). vehicle_line vehicle (drop (first.0 + 1) line)) (vehicle_named names (take first.0 line)) found first.2 in
      record {
        short = fits.0;
        space = first.0;
        space_is = first.1;
        named = second.1 ∙ ap (λ (f : VehicleLine). Some f.vehicle) second.2;
        text_is = ap (λ (f : VehicleLine). f.text) second.2;
      }

  module _ (vehicle : ℕ) (own : List ℕ) (is : belongs names line ≡ Some (vehicle_line vehicle own)) where
    -- what a vehicle is told is not too long
    pub own_short : is_too_long own ≡ false
    own_short =
        let named = named_in (vehicle_line vehicle own) is in
        let fits : length line ≤ LONGEST_LINE = ltb-false _ _ named.short in
        le-ltb _ _ (omega (arith, fits, length-drop (named.space + 1) line, ap length named.text_is))

    -- the line belongs to that vehicle, and no other
    pub is_for : IsFor names vehicle line
    is_for = ap (option_map (λ (found : VehicleLine). found.vehicle)) is

    pub only_for : (other : ℕ) → IsFor names other line → vehicle ≡ other
    only_for other its = let same : Some vehicle ≡ Some other = sym is_for ∙ its in cc

    -- the lines of the vehicle with this one
    pub lines-own : (stream : List (List ℕ)) (number : ℕ) → (vehicle == number) ≡ true → lines_for names number (stream ++ line ∷ []) ≡ lines_for names number stream ++ own ∷ []
    lines-own stream number same =
        filter_map-append (line_for names number) stream (line ∷ [])
        ∙ ap (λ o. lines_for names number stream ++ cons_option o []) (ap (option_and_then (λ (found : VehicleLine). then_some (found.vehicle == number) found.text)) is ∙ ap (λ b. then_some b own) same)

    -- those of another one stay
    pub lines-other : (stream : List (List ℕ)) (number : ℕ) → (vehicle == number) ≡ false → lines_for names number (stream ++ line ∷ []) ≡ lines_for names number stream
    lines-other stream number other =
        filter_map-append (line_for names number) stream (line ∷ [])
        ∙ ap (λ o. lines_for names number stream ++ cons_option o []) (ap (option_and_then (λ (found : VehicleLine). then_some (found.vehicle == number) found.text)) is ∙ ap (λ b. then_some b own) other)
        ∙ append-nil (lines_for names number stream)

  -- a stray line adds to none
  pub lines-stray : belongs names line ≡ None → (stream : List (List ℕ)) (number : ℕ) → lines_for names number (stream ++ line ∷ []) ≡ lines_for names number stream
  lines-stray none stream number =
      filter_map-append (line_for names number) stream (line ∷ [])
      ∙ ap (λ o. lines_for names number stream ++ cons_option (option_and_then (λ (found : VehicleLine). then_some (found.vehicle == number) found.text) o) []) none
      ∙ append-nil (lines_for names number stream)
