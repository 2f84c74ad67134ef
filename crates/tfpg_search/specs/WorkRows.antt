-- A graph and logs of it, by which the limit of counted calls is worked out.
use Rattle.std.specs.Prelude.{ℕ, List, [], ◌∷◌, Some, None}
use Rattle.tfpg_graph.specs.declared.kind.Kind.TheVariants.{Failure, Or, And}
use Rattle.tfpg_graph.specs.Graph.{Tfpg, lag_up_to}
use Rattle.tfpg_log.specs.declared.event.Event.TheVariants.{Alarm, Tick}
use Rattle.tfpg_log.specs.Log.{Logbook}

-- Node 0 is the failure mode F1 and node 1 is F2. Node 2 is A, an OR node with a monitor; node 3 is B, a hidden OR node; and
-- node 4 is C, an AND node with a monitor. There are edges from F1 and F2 to A, from F1 to B, and from A and B to C.
abbrev pub two_failures : Tfpg
two_failures = record {
  nodes =
      record { name = 70 ∷ 49 ∷ []; kind = Failure 3 }
      ∷ record { name = 70 ∷ 50 ∷ []; kind = Failure 5 }
      ∷ record { name = 65 ∷ []; kind = Or (Some (lag_up_to 0)) }
      ∷ record { name = 66 ∷ []; kind = Or None }
      ∷ record { name = 67 ∷ []; kind = And (Some (lag_up_to 0)) }
      ∷ [];
  edges =
      record { source = 0; target = 2; tmin = 10; tmax = Some 20; modes = 3 }
      ∷ record { source = 1; target = 2; tmin = 5; tmax = Some 5; modes = 1 }
      ∷ record { source = 0; target = 3; tmin = 0; tmax = None; modes = 3 }
      ∷ record { source = 2; target = 4; tmin = 0; tmax = Some 10; modes = 3 }
      ∷ record { source = 3; target = 4; tmin = 0; tmax = Some 10; modes = 3 }
      ∷ [];
  modes = (78 ∷ []) ∷ (68 ∷ []) ∷ [];
}

-- what the set of F1 reaches: all nodes but F2
abbrev pub reach_of_first : List ℕ
reach_of_first = 0 ∷ 2 ∷ 3 ∷ 4 ∷ []

-- an alarm of A at 30
abbrev pub first_alarm : Logbook
first_alarm = record { events = Alarm 30 2 ∷ []; ignored = [] }

-- and a tick at 31 after it
abbrev pub then_tick : Logbook
then_tick = record { events = Alarm 30 2 ∷ Tick 31 ∷ []; ignored = [] }

-- a tick at 0, with which a log begins
abbrev pub tick_alone : Logbook
tick_alone = record { events = Tick 0 ∷ []; ignored = [] }
