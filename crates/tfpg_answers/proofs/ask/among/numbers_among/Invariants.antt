use Rattle.std.proofs.Common.{◌≡◌, take}
use Rattle.tfpg_base.specs.Choice.{numbers_from}
use Rattle.tfpg_evidence.specs.declared.finding.Finding.{Finding}
use Rattle.tfpg_engine.specs.Work.{is_ranked_or_open}
use Rattle.tfpg_answers.proofs.ask.among.numbers_among.Given as goal

-- the numbers of those of the first findings
abbrev pub invariant-loop-index : goal.invariant-loop-index
invariant-loop-index l = l.numbers ≡ numbers_from 0 (λ (finding : Finding). is_ranked_or_open finding.status) (take l.index l.findings)
