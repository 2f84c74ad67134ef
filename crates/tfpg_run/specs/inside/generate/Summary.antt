-- What the code knows when it writes the three lines of `generate`.
use Rattle.std.specs.Prelude.{◌≡◌, ◌++◌, ℕ, List, Contains}
use Rattle.tfpg_base.specs.Hypothesis.{believing}
use Rattle.tfpg_graph.specs.Graph.{Tfpg}
use Rattle.tfpg_evidence.specs.declared.finding.Finding.{Finding}
use Rattle.tfpg_evidence.specs.declared.round.Round.{Round}
use Rattle.tfpg_evidence.specs.Findings.{hypothesis_of}
use Rattle.tfpg_run.specs.generate.Summary.{rounds_text, truth_text}

-- the round has a finding on the set, which believes each monitor
pub record HasFindingOn (set : List ℕ) (round : Round) : Type 0 where
  pub finding : Finding
  pub there : Contains round.findings finding
  pub on_set : hypothesis_of finding ≡ believing set

-- The text is the line of what was drawn and two more, by this round, the last of as many, and by its finding on the set.
pub record SaysOfRound (drawn : List ℕ) (graph : Tfpg) (rounds : ℕ) (set text : List ℕ) (round : Round) : Type 0 where
  pub has : HasFindingOn set round
  pub text_is : text ≡ drawn ++ rounds_text rounds round.counts ++ truth_text graph set has.finding.status
