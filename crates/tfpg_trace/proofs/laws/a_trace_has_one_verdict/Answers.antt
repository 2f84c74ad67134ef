use Rattle.tfpg_trace.proofs.lemmas.OneVerdict.{one_verdict}
use Rattle.tfpg_trace.proofs.lemmas.SomeVerdict.{some_verdict}
use Rattle.tfpg_trace.proofs.laws.a_trace_has_one_verdict.Goals as goal

pub returns : goal.returns
returns c = record { some = some_verdict; one = one_verdict }
