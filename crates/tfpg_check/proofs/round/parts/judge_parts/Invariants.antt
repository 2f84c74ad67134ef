-- The first parts are taken, the next number is above theirs, and the checkers from it on are as they were.
use Rattle.std.proofs.Common.{◌≡◌, ◌≤◌, ℕ, take, slice_get}
use Rattle.tfpg_report.specs.declared.read_round.Part.{Part}
use Rattle.tfpg_check.specs.HypothesesState.{KeepsBasis}
use Rattle.tfpg_check.specs.Judging.{RoundBasis}
use Rattle.tfpg_check.specs.inside.Parts.{IsNextAfter, kept_of}
use Rattle.tfpg_check.proofs.lemmas.judging.PartsSoFar.{AreFirstTaken}
use Rattle.tfpg_check.proofs.round.parts.judge_parts.Given as goal

abbrev pub invariant-loop-part : goal.invariant-loop-part
invariant-loop-part l =
    (l.log ≡ l.initial.log) × IsNextAfter (λ (part : Part). part.number) (take l.part-index l.parts) l.next
    × ((number : ℕ) → l.next ≤ number → slice_get l.checkers number ≡ slice_get l.initial.checkers number)
    × ((basis : RoundBasis) → basis.graph ≡ l.graph → basis.log ≡ l.initial.log → KeepsBasis basis basis.log (kept_of basis.terms l.table l.initial.checkers)
    → AreFirstTaken basis l.parts l.part-index (kept_of basis.terms l.table l.checkers))
