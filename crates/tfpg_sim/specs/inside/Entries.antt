-- What the code knows of the lines of a script, of draws and of events.
use Rattle.std.specs.Prelude.{◌≡◌, ℕ, ◌≤◌, List, take, All, true, Option, Some, IfSome, slice_get}
use Rattle.tfpg_base.specs.declared.limits.TheConstants.{MAX_TIME}
use Rattle.tfpg_graph.specs.Graph.{Tfpg}
use Rattle.tfpg_sim.specs.declared.draws.Lateness.{Lateness}
use Rattle.tfpg_sim.specs.declared.entry.Entry.{Entry}
use Rattle.tfpg_sim.specs.Script.{IsEntryOf}
use Rattle.tfpg_sim.specs.inside.ScriptReading.{may_follow}

-- an alarm is drawn no earlier than its least lag, and not too late
pub record IsLatenessInRange (late : Lateness) : Type 0 where
  pub in_order : late.least ≤ late.drawn
  pub in_range : late.drawn ≤ MAX_TIME

-- each lateness is so
abbrev pub AreLatenessesInRange : List (Option Lateness) → Type 0
AreLatenessesInRange latenesses = All (λ lateness. IfSome lateness IsLatenessInRange) latenesses

-- These are lines of a script: each names what the graph has, and may come after those before it.
pub record IsScript (graph : Tfpg) (entries : List Entry) : Type 0 where
  pub own : All (IsEntryOf graph) entries
  pub follows : (index : ℕ) (entry : Entry) → slice_get entries index ≡ Some entry
      → may_follow (take index entries) entry ≡ true
