-- What passes does not fail.
use Rattle.std.proofs.Common.{List, [], map, take, slice_get, ap}
use Rattle.tfpg_report.specs.declared.read_round.RankedLine.{RankedLine}
use Rattle.tfpg_report.specs.declared.read_round.NamedSet.{NamedSet}
use Rattle.tfpg_report.specs.declared.read_round.ReadRound.{ReadRound}
use Rattle.tfpg_check.specs.Tests.{Passes, InTurn, HoldInTurn}
use Rattle.tfpg_check.specs.Judging.{RoundBasis, NumberedHypothesis, MayBeOpen, AreNewlyClosed, RankedFails, OpenFails, RejectedFails, named_hypothesis}
use Rattle.tfpg_check.specs.Passing.{RankedPasses}
use Rattle.tfpg_check.specs.inside.InTurn.{PassesWith}
use Rattle.tfpg_check.proofs.lemmas.judging.TestsInTurn.{owes_passes, then_passes, in_turn_passes}
use Rattle.tfpg_check.proofs.lemmas.passing.ByNumber.{same_by_number}

module _ (basis : RoundBasis) (read : ReadRound) where
  pub ranked_not_fails : (before : List RankedLine) (r : RankedLine) → RankedPasses basis read before r → PassesWith (RankedFails basis read) before r
  ranked_not_fails before r passes = then_passes _ _ (owes_passes _ _ _ passes.may) (owes_passes _ _ _ passes.explains)

  pub open_not_fails : (before : List NamedSet) (named : NamedSet) → MayBeOpen basis read before named → PassesWith (OpenFails basis read) before named
  open_not_fails before named passes = owes_passes _ _ _ passes

  pub all_ranked_pass : HoldInTurn (RankedPasses basis read) read.ranked → Passes (InTurn (RankedFails basis read) [] read.ranked)
  all_ranked_pass each = in_turn_passes (RankedFails basis read) read.ranked (λ index r at. ranked_not_fails (take index read.ranked) r (each index r at))

  pub all_open_pass : HoldInTurn (MayBeOpen basis read) read.unsettled → Passes (InTurn (OpenFails basis read) [] read.unsettled)
  all_open_pass each = in_turn_passes (OpenFails basis read) read.unsettled (λ index named at. open_not_fails (take index read.unsettled) named (each index named at))

  pub rejected_not_fails : AreNewlyClosed basis read (map named_hypothesis read.rejected) → Passes (RejectedFails basis read)
  rejected_not_fails are line why fails =
      fails.differ.differ
      (ap (λ (xs : List NumberedHypothesis). slice_get xs fails.index)
      (same_by_number (λ (named : NumberedHypothesis). named.number) (map named_hypothesis read.rejected) fails.closed are.rising fails.are.rising
      (λ named member. (fails.are.exact named.number named.hypothesis).1 ((are.exact named.number named.hypothesis).0 member))
      (λ named member. (are.exact named.number named.hypothesis).1 ((fails.are.exact named.number named.hypothesis).0 member))))
