use Rattle.std.proofs.Common.{[], subst}
use Rattle.tfpg_graph.proofs.lemmas.zero_cycle.ZeroRanks.{HasZeroOrder-valid}
use Rattle.tfpg_log.specs.Explains.{Explains}
use Rattle.tfpg_log.proofs.lemmas.causes.NoFailures.{none_active}
use Rattle.tfpg_log.proofs.laws.nothing_without_failures.Goals as goal

pub returns : goal.returns
returns c = record {
  trace = λ graph log trace valid explains. none_active graph log trace valid (HasZeroOrder-valid graph valid) explains;
  fits = λ graph log valid fits.
      subst (Explains graph log []) (none_active graph log fits.0 valid (HasZeroOrder-valid graph valid) fits.1) fits.1;
}
