use Rattle.std.proofs.Common.{ℕ, ◌<◌, ◌≤◌, ◌-◌, length}
use Rattle.tfpg_log.specs.Log.{now_of}
use Rattle.tfpg_clause.specs.inside.FirstSpan.{MeetsIfAny}
use Rattle.tfpg_clause.specs.inside.KnownWindows.{AreKnown}
use Rattle.tfpg_clause.specs.inside.Musts.{musts_of}
use Rattle.tfpg_clause.proofs.must_violated.must_violated.Given as goal

abbrev pub decreases-loop-until : goal.decreases-loop-until
decreases-loop-until l = l.last - l.number

abbrev pub invariant-loop-until : goal.invariant-loop-until
invariant-loop-until l = record {
  met : (other : ℕ) → other < l.number → MeetsIfAny l.times (musts_of l.graph l.log l.must.node l.must.edge other);
  known : AreKnown l.graph l.log (now_of l.log) l.must.edges.now l.known;
  room : length l.must.edges.now ≤ length l.known;
}
