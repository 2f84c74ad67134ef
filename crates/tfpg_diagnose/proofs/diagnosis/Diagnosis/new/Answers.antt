use Rattle.std.proofs.Common.{None, refl}
use Rattle.tfpg_diagnose.proofs.lemmas.CountedHypotheses.{counted_when_made, counted_when_not}
use Rattle.tfpg_diagnose.proofs.lemmas.Diagnosed.{nothing_diagnosed}
use Rattle.tfpg_diagnose.proofs.diagnosis.Diagnosis.new.Goals as goal

pub returns-in-Ok-clause-new : goal.returns-in-Ok-clause-new
returns-in-Ok-clause-new c =
    nothing_diagnosed c.args.graph c.args.terms (record { engine = c.in-Ok.engine; last = None }) c.is_always_valid.ensures.valid c.in-Ok.ensures.graph c.in-Ok.ensures.terms c.in-Ok.ensures.log
    c.in-Ok.ensures.represents refl

pub returns-in-Ok-clause-too_many : goal.returns-in-Ok-clause-too_many
returns-in-Ok-clause-too_many c = counted_when_made c.args.graph c.args.terms c.in-Ok.engine _ c.in-Ok.ensures.too_many

pub returns-in-Err-clause-too_many : goal.returns-in-Err-clause-too_many
returns-in-Err-clause-too_many c = counted_when_not c.args.graph c.args.terms c.in-Err.fault c.in-Err.ensures.too_many
