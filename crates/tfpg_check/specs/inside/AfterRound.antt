-- The basis after a round.
use Rattle.tfpg_clause.specs.Paths.{with_steps}
use Rattle.tfpg_report.specs.declared.read_round.ReadRound.{ReadRound}
use Rattle.tfpg_check.specs.Judging.{RoundBasis, steps_read}

-- the basis with the steps of a round that was judged
abbrev pub after_round : RoundBasis → ReadRound → RoundBasis
after_round basis read =
    record basis { steps = λ number. with_steps (basis.steps number) basis.log (steps_read read number) }
