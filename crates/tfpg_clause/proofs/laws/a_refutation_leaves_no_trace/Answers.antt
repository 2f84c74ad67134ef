use Rattle.tfpg_clause.proofs.lemmas.traces.NoTrace.{no_trace}
use Rattle.tfpg_clause.proofs.laws.a_refutation_leaves_no_trace.Goals as goal

pub returns : goal.returns
returns c = no_trace
