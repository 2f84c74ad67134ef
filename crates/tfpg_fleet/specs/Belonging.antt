-- Which vehicle a line of the stream belongs to.
use Rattle.std.specs.Prelude.{◌≡◌, ◌≢◌, ℕ, ◌+◌, ◌≤◌, List, ◌∷◌, ◌++◌, length, take, drop, All, AllPairs, IsTrue, ◌==◌, if◌then◌else◌, Option, Some, None, option_map, option_and_then, bytes_eq, position, slice_get}
use Rattle.std.specs.Bool.{then_some}
use Rattle.std.specs.List.{filter_map}
use Rattle.tfpg_base.specs.Lines.{is_too_long}
use Rattle.tfpg_base.specs.Words.{is_name}
use Rattle.tfpg_base.specs.declared.limits.TheConstants.{LONGEST_LINE, MAX_VEHICLES}

-- Names that the vehicles of a fleet can have: 1 to 64, each of the form of a name, and no two alike.
pub record AreVehicleNames (names : List (List ℕ)) : Type 0 where
  pub some : 1 ≤ length names
  pub few : length names ≤ MAX_VEHICLES
  pub each : All (λ name. IsTrue (is_name name)) names
  pub distinct : AllPairs (λ name other. name ≢ other) names

-- a line of a vehicle: the number of the vehicle, and its own line
pub record VehicleLine : Type 0 where
  pub vehicle : ℕ
  pub text : List ℕ

-- this line of this vehicle
abbrev pub vehicle_line : ℕ → List ℕ → VehicleLine
vehicle_line vehicle text = record { vehicle = vehicle; text = text }

-- the number of the vehicle of this name
abbrev pub vehicle_named : List (List ℕ) → List ℕ → Option ℕ
vehicle_named names word = position (λ name. bytes_eq name word) names

-- the index of the first space of a line
abbrev pub first_space : List ℕ → Option ℕ
first_space line = position (λ byte. byte == 32) line

-- the vehicle that the word before this space names, and what stands after the space
abbrev pub addressed : List (List ℕ) → List ℕ → ℕ → Option VehicleLine
addressed names line space =
    option_map (λ vehicle. vehicle_line vehicle (drop (space + 1) line)) (vehicle_named names (take space line))

-- A line belongs to a vehicle where it is not too long, its first word is the vehicle's name, and a space follows. What
-- stands after that space is the vehicle's own line.
abbrev pub belongs : List (List ℕ) → List ℕ → Option VehicleLine
belongs names line = if is_too_long line then None else option_and_then (addressed names line) (first_space line)

-- the vehicle that a line belongs to
abbrev pub addressee : List (List ℕ) → List ℕ → Option ℕ
addressee names line = option_map (λ found. found.vehicle) (belongs names line)

-- The line belongs to the vehicle of this number.
abbrev pub IsFor : List (List ℕ) → ℕ → List ℕ → Type 0
IsFor names number line = addressee names line ≡ Some number

-- the own line of the vehicle of this number, where a line belongs to it
abbrev pub line_for : List (List ℕ) → ℕ → List ℕ → Option (List ℕ)
line_for names number line = option_and_then (λ found. then_some (found.vehicle == number) found.text) (belongs names line)

-- the own lines of the vehicle of this number, of all lines of a stream
abbrev pub lines_for : List (List ℕ) → ℕ → List (List ℕ) → List (List ℕ)
lines_for names number stream = filter_map (line_for names number) stream

-- The line is the name of the vehicle, a space, and the vehicle's own line, and is not too long.
pub record SaysTo (names : List (List ℕ)) (line : List ℕ) (found : VehicleLine) : Type 0 where
  pub name : List ℕ
  pub name_is : slice_get names found.vehicle ≡ Some name
  pub line_is : line ≡ name ++ 32 ∷ found.text
  pub short : length line ≤ LONGEST_LINE
