-- Which vehicle a line belongs to, by the vehicles that the code goes through.
use Rattle.std.proofs.Common.{◌≡◌, ℕ, ◌+◌, ◌≤◌, false, List, length, map, take, drop, Option, Some, None, position, refl, sym, ap, ◌∙◌}
use Rattle.std.specs.Prelude.{option_map, bytes_eq}
use Rattle.std.proofs.lemmas.Bool.{le-ltb}
use Rattle.tfpg_base.specs.declared.limits.TheConstants.{LONGEST_LINE}
use Rattle.tfpg_base.specs.Lines.{is_too_long}
use Rattle.tfpg_base.proofs.lemmas.lists.Positions.{position-map}
use Rattle.tfpg_fleet.specs.Belonging.{VehicleLine, belongs, first_space, vehicle_line}
use Rattle.tfpg_fleet.specs.FleetState.{VehicleState}

module _ (vehicles : List VehicleState) (line : List ℕ) where
  abbrev names : List (List ℕ)
  names = map (λ (vehicle : VehicleState). vehicle.name) vehicles

  -- a line with this vehicle, whose text stands after this space
  abbrev line_of_vehicle : ℕ → ℕ → VehicleLine
  line_of_vehicle space vehicle = vehicle_line vehicle (drop (space + 1) line)

  module _ (short : length line ≤ LONGEST_LINE) where
    -- a line without a space belongs to none
    pub belongs-no_space : first_space line ≡ None → None ≡ belongs names line
    belongs-no_space none = let fits : is_too_long line ≡ false = le-ltb _ _ short in rw (fits, none) refl

    module _ (space : ℕ) (space_is : first_space line ≡ Some space) where
      -- one with a space belongs to the first vehicle whose name stands before it
      pub belongs-named : (word : List ℕ) (found : Option ℕ) → word ≡ take space line → found ≡ position (λ (vehicle : VehicleState). bytes_eq vehicle.name word) vehicles
          → option_map (line_of_vehicle space) found ≡ belongs names line
      belongs-named word found word_is named =
          let fits : is_too_long line ≡ false = le-ltb _ _ short in
          ap (option_map (line_of_vehicle space)) (named ∙ ap (λ w. position (λ (vehicle : VehicleState). bytes_eq vehicle.name w) vehicles) word_is ∙ sym (position-map (λ name. bytes_eq name (take space line)) (λ (vehicle : VehicleState). vehicle.name) vehicles))
          ∙ sym (rw (fits, space_is) refl)
