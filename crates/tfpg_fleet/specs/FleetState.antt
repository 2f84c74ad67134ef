-- What contracts see of a fleet, which rounds it represents, and what a line brings.
use Rattle.std.specs.Prelude.{◌≡◌, ℕ, ◌+◌, ◌^◌, ◌<◌, List, [], ◌∷◌, ◌++◌, length, map, ◌==◌, if◌then◌else◌, Bool, true, false, Option, Some, None, is_none, slice_get, sum_by, Result, Ok, Err}
use Rattle.tfpg_base.specs.declared.terms.Terms.{Terms}
use Rattle.tfpg_graph.specs.Graph.{Tfpg}
use Rattle.tfpg_log.specs.declared.event.Offered.TheVariants.{Refused}
use Rattle.tfpg_log.specs.declared.refusal.Refusal.{Refusal}
use Rattle.tfpg_log.specs.Accepted.{reply_to}
use Rattle.tfpg_log.specs.LogOfLines.{log_of_lines}
use Rattle.tfpg_evidence.specs.declared.round.Round.{Round}
use Rattle.tfpg_engine.specs.declared.told.Told.{Told}
use Rattle.tfpg_engine.specs.declared.told.Told.TheVariants as told
use Rattle.tfpg_engine.specs.declared.told.EventFault.{EventFault}
use Rattle.tfpg_engine.specs.declared.told.EventFault.TheVariants.{NoMemory, Ended}
use Rattle.tfpg_engine.specs.EngineState.{EngineState, EngineRepresents, Brings, CountsCalls, calls_of_engine}
use Rattle.tfpg_fleet.specs.declared.fleet_told.FleetTold.{FleetTold}
use Rattle.tfpg_fleet.specs.declared.fleet_told.FleetTold.TheVariants.{Stray, Of}
use Rattle.tfpg_fleet.specs.Belonging.{IsFor, belongs, lines_for, vehicle_line}

-- A vehicle: its name, its engine, and the number of its next line. After an earlier line at which memory ran out there is no next one.
pub record VehicleState : Type 0 where
  pub name : List ℕ
  pub engine : EngineState
  pub next : Option ℕ

-- a fleet: its vehicles, numbered from 0 in the order of their names
pub record FleetState : Type 0 where
  pub vehicles : List VehicleState

-- the names of the vehicles, in their order
abbrev pub names_of : FleetState → List (List ℕ)
names_of fleet = map (λ vehicle. vehicle.name) fleet.vehicles

-- how many counted calls there were for all vehicles
abbrev pub calls_of_fleet : FleetState → ℕ
calls_of_fleet fleet = sum_by (λ vehicle. calls_of_engine vehicle.engine) fleet.vehicles

-- whether memory ran out in an earlier call for the vehicle
abbrev pub has_ended : VehicleState → Bool
has_ended vehicle = is_none vehicle.next

-- The vehicle represents these lines and rounds: its engine is of this graph and on these terms, it took these lines, numbered from 1,
-- has their log, and returned these rounds.
pub record VehicleRepresents (graph : Tfpg) (terms : Terms) (vehicle : VehicleState) (lines : List (List ℕ))
    (rounds : List Round) : Type 0 where
  pub graph_is : vehicle.engine.graph ≡ graph
  pub terms_is : vehicle.engine.terms ≡ terms
  pub log_is : vehicle.engine.log ≡ log_of_lines graph lines
  pub next_is : vehicle.next ≡ Some (length lines + 1)
  pub represents : EngineRepresents vehicle.engine rounds

-- A new vehicle took no line.
abbrev pub IsNew : Tfpg → Terms → VehicleState → Type 0
IsNew graph terms vehicle = VehicleRepresents graph terms vehicle [] []

-- The fleet represents these lines of the stream, and these rounds of each vehicle: each vehicle that has not ended represents its own
-- lines among them, and its own rounds.
pub record FleetRepresents (graph : Tfpg) (terms : Terms) (fleet : FleetState) (stream : List (List ℕ))
    (rounds : ℕ → List Round) : Type 0 where
  pub each : (number : ℕ) (vehicle : VehicleState) → slice_get fleet.vehicles number ≡ Some vehicle → has_ended vehicle ≡ false
      → VehicleRepresents graph terms vehicle (lines_for (names_of fleet) number stream) (rounds number)

-- What the next line of a vehicle leads to: it has this number, and brings what it brings to any engine.
pub record IsVehicleTold (text : List ℕ) (old new : VehicleState) (line : ℕ) (told : Told) : Type 0 where
  pub name : new.name ≡ old.name
  pub graph : new.engine.graph ≡ old.engine.graph
  pub terms : new.engine.terms ≡ old.engine.terms
  pub table : new.engine.table ≡ old.engine.table
  pub line_is : old.next ≡ Some line
  pub next_is : new.next ≡ Some (line + 1)
  pub brings : (rounds : List Round) → EngineRepresents old.engine rounds → Brings line text rounds old.engine new.engine (Ok told)

-- The line belongs to the vehicle of this number, and is the next line of that vehicle.
pub record IsToldTo (text : List ℕ) (old new : FleetState) (number line : ℕ) (told : Told) : Type 0 where
  pub own : List ℕ
  pub is_for : belongs (names_of old) text ≡ Some (vehicle_line number own)
  pub before : VehicleState
  pub after : VehicleState
  pub there : slice_get old.vehicles number ≡ Some before
  pub still_there : slice_get new.vehicles number ≡ Some after
  pub taken : IsVehicleTold own before after line told

-- The line belongs to a vehicle that has ended.
pub record IsForEnded (fleet : FleetState) (text : List ℕ) : Type 0 where
  pub number : ℕ
  pub is_for : IsFor (names_of fleet) number text
  pub vehicle : VehicleState
  pub there : slice_get fleet.vehicles number ≡ Some vehicle
  pub ended : has_ended vehicle ≡ true

-- The log of a vehicle that has not ended refuses the own line that it has next, for this cause, and there is a number for one line more.
pub record Refuses (own : List ℕ) (vehicle : VehicleState) (line : ℕ) (refusal : Refusal) : Type 0 where
  pub next_is : vehicle.next ≡ Some line
  pub within : line + 1 < 2 ^ 64
  pub reply : reply_to vehicle.engine.graph vehicle.engine.log own ≡ Refused refusal

-- The line belongs to the vehicle of this number, whose log refuses it for this cause.
pub record RefusesFor (text : List ℕ) (fleet : FleetState) (number line : ℕ) (refusal : Refusal) : Type 0 where
  pub own : List ℕ
  pub is_for : belongs (names_of fleet) text ≡ Some (vehicle_line number own)
  pub vehicle : VehicleState
  pub there : slice_get fleet.vehicles number ≡ Some vehicle
  pub refuses : Refuses own vehicle line refusal

-- What a line of the stream brings. A stray one belongs to no vehicle, and changes nothing. Another one goes to its vehicle. Where
-- memory ran out the vehicle has ended, and then each later line of it changes nothing.
abbrev pub FleetBrings : List ℕ → FleetState → FleetState → Result FleetTold EventFault → Type 0
FleetBrings text old new (Ok Stray) = (belongs (names_of old) text ≡ None) × (new ≡ old)
FleetBrings text old new (Ok (Of number line told)) = IsToldTo text old new number line told
FleetBrings text old new (Err NoMemory) = IsForEnded new text
FleetBrings text old new (Err Ended) = IsForEnded old text × (new ≡ old)

-- How the count of calls goes from one number to the other at a line: a stray one costs none, and another one what it costs the
-- engine of its vehicle.
abbrev pub FleetCounts : FleetState → FleetState → Result FleetTold EventFault → ℕ → ℕ → Type 0
FleetCounts old new (Ok Stray) start end = end ≡ start
FleetCounts old new (Ok (Of number line told)) start end =
    (before after : VehicleState) (rounds : List Round) → slice_get old.vehicles number ≡ Some before
    → slice_get new.vehicles number ≡ Some after → EngineRepresents before.engine rounds
    → CountsCalls after.engine rounds (Ok told) start end
FleetCounts old new (Err fault) start end = Unit {0}

-- the rounds of a vehicle after what a line of it brought
abbrev pub rounds_with : List Round → Told → List Round
rounds_with rounds (told.Refused refusal) = rounds
rounds_with rounds (told.Round round) = rounds ++ round ∷ []

-- the rounds of each vehicle after what a line of the stream brought
abbrev pub rounds_after : (ℕ → List Round) → Result FleetTold EventFault → ℕ → List Round
rounds_after rounds (Ok Stray) number = rounds number
rounds_after rounds (Ok (Of vehicle line told)) number = if vehicle == number then rounds_with (rounds number) told else rounds number
rounds_after rounds (Err fault) number = rounds number
