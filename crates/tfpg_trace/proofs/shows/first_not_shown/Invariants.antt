use Rattle.tfpg_trace.specs.inside.Shown.{ShowsBefore}
use Rattle.tfpg_trace.proofs.shows.first_not_shown.Given as goal

abbrev pub invariant-loop-index : goal.invariant-loop-index
invariant-loop-index l = ShowsBefore l.graph l.log l.trace l.index
