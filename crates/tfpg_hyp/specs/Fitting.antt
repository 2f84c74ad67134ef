-- Which hypotheses fit a log, and how a round stands to them.
use Rattle.std.specs.Prelude.{◌≡◌, ◌↔◌, List, Contains, false, IsTrue}
use Rattle.tfpg_base.specs.declared.terms.Terms.{Terms}
use Rattle.tfpg_base.specs.Hypothesis.{Hypothesis, IsProperPart}
use Rattle.tfpg_graph.specs.Graph.{Tfpg}
use Rattle.tfpg_log.specs.Log.{Logbook}
use Rattle.tfpg_evidence.specs.declared.finding.Finding.{Finding}
use Rattle.tfpg_evidence.specs.RoundOf.{is_ranked, is_covered, is_rejected, is_open}
use Rattle.tfpg_evidence.specs.Findings.{hypothesis_of}
use Rattle.tfpg_hyp.specs.Table.{IsHypothesis}
use Rattle.tfpg_hyp.specs.Views.{HypothesisFits}

-- Some hypothesis fits the log that is a proper part of the hypothesis.
pub record HasFittingPart (graph : Tfpg) (log : Logbook) (terms : Terms) (hypothesis : Hypothesis) : Type 0 where
  pub part : Hypothesis
  pub is_one : IsHypothesis graph terms part
  pub proper : IsProperPart part hypothesis
  pub fits : HypothesisFits graph log part

-- No finding on a proper part of the hypothesis is open.
abbrev pub AreNoneOpenBelow : List Finding → Hypothesis → Type 0
AreNoneOpenBelow findings hypothesis =
    (finding : Finding) → Contains findings finding
    → IsProperPart (hypothesis_of finding) hypothesis → is_open finding.status ≡ false

-- What the statuses of a round say of the hypotheses, whatever became of the others: one that is not open is rejected exactly
-- where it does not fit the log; and a ranked one of whose proper parts none is open has no proper part that fits.
pub record SayWhichSetsFit (graph : Tfpg) (log : Logbook) (terms : Terms) (findings : List Finding) : Type 0 where
  pub rejected : (finding : Finding) → Contains findings finding → is_open finding.status ≡ false
      → IsTrue (is_rejected finding.status) ↔ (HypothesisFits graph log (hypothesis_of finding) → ⊥)
  pub minimal : (finding : Finding) → Contains findings finding → IsTrue (is_ranked finding.status)
      → AreNoneOpenBelow findings (hypothesis_of finding)
      → HasFittingPart graph log terms (hypothesis_of finding) → ⊥

-- The statuses are those of the minimal hypotheses that fit: ranked are exactly those that fit while no proper part does, covered
-- exactly the others that fit, and rejected exactly those that do not.
pub record AreStatusesOfMinimalSets (graph : Tfpg) (log : Logbook) (terms : Terms) (findings : List Finding) : Type 0 where
  pub ranked : (finding : Finding) → Contains findings finding → IsTrue (is_ranked finding.status)
      ↔ (HypothesisFits graph log (hypothesis_of finding) × (HasFittingPart graph log terms (hypothesis_of finding) → ⊥))
  pub covered : (finding : Finding) → Contains findings finding → IsTrue (is_covered finding.status)
      ↔ (HypothesisFits graph log (hypothesis_of finding) × HasFittingPart graph log terms (hypothesis_of finding))
  pub rejected : (finding : Finding) → Contains findings finding → IsTrue (is_rejected finding.status)
      ↔ (HypothesisFits graph log (hypothesis_of finding) → ⊥)
