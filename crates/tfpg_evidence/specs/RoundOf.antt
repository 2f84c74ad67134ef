-- Rounds that name only what a graph has: so many nodes, edges and failure modes.
use Rattle.std.specs.Prelude.{◌≡◌, ℕ, ◌<◌, List, All, AllPairs, Bool, true, false, IsTrue, find, ◌==◌, Option, Some}
use Rattle.tfpg_graph.specs.Graph.{Sizes}
use Rattle.tfpg_evidence.specs.declared.clause_name.ClauseName.{ClauseName}
use Rattle.tfpg_evidence.specs.declared.clause_name.ClauseName.TheVariants.{OrMay, AndMay, OrMust, AndMust}
use Rattle.tfpg_evidence.specs.declared.reason.Reason.{Reason}
use Rattle.tfpg_evidence.specs.declared.reason.Reason.TheVariants.{Zero, Top, Unreached, From, Upto, Quiet, Pick}
use Rattle.tfpg_evidence.specs.declared.step.Step.{Step}
use Rattle.tfpg_evidence.specs.declared.step.Step.TheVariants.{Split, Cycle, Again}
use Rattle.tfpg_evidence.specs.declared.finding.Finding.{Finding}
use Rattle.tfpg_evidence.specs.declared.finding.Status.{Status}
use Rattle.tfpg_evidence.specs.declared.finding.Status.TheVariants.{Ranked, Covered, Rejected, Open}
use Rattle.tfpg_evidence.specs.declared.round.Round.{Round}

-- The reason names no node but those of the graph.
abbrev pub IsReasonOf : Sizes → Reason → Type 0
IsReasonOf sizes (Zero node) = node < sizes.nodes
IsReasonOf sizes (Top node) = node < sizes.nodes
IsReasonOf sizes (Unreached node horizon) = node < sizes.nodes
IsReasonOf sizes (From event) = Unit {0}
IsReasonOf sizes (Upto event) = Unit {0}
IsReasonOf sizes (Quiet event node) = node < sizes.nodes
IsReasonOf sizes (Pick split constraint) = Unit {0}

-- The clause names a node or an edge of the graph.
abbrev pub IsClauseOf : Sizes → ClauseName → Type 0
IsClauseOf sizes (OrMay node span horizon) = node < sizes.nodes
IsClauseOf sizes (AndMay edge span horizon) = edge < sizes.edges
IsClauseOf sizes (OrMust edge span horizon) = edge < sizes.edges
IsClauseOf sizes (AndMust node span horizon) = node < sizes.nodes

-- The step names only what the graph has: in its clause, or in each of its reasons.
abbrev pub IsStepOf : Sizes → Step → Type 0
IsStepOf sizes (Split name) = IsClauseOf sizes name
IsStepOf sizes (Cycle reasons) = All (IsReasonOf sizes) reasons
IsStepOf sizes Again = Unit {0}

-- The status names no node but those of the graph: a ranked one has a trace, the others name no node.
abbrev pub IsStatusOf : Sizes → Status → Type 0
IsStatusOf sizes (Ranked trace cost alarmed monitored) = All (λ activation. activation.node < sizes.nodes) trace
IsStatusOf sizes (Covered by) = Unit {0}
IsStatusOf sizes Rejected = Unit {0}
IsStatusOf sizes Open = Unit {0}

-- a finding that names only what the graph has
pub record IsFindingOf (sizes : Sizes) (finding : Finding) : Type 0 where
  pub set : All (λ position. position < sizes.failures) finding.set
  pub doubts : All (λ node. node < sizes.nodes) finding.doubts
  pub steps : All (IsStepOf sizes) finding.steps
  pub status : IsStatusOf sizes finding.status

-- the test of a status that ranks
abbrev pub is_ranked : Status → Bool
is_ranked (Ranked trace cost alarmed monitored) = true
is_ranked (Covered by) = false
is_ranked Rejected = false
is_ranked Open = false

-- the test of a status that is covered
abbrev pub is_covered : Status → Bool
is_covered (Ranked trace cost alarmed monitored) = false
is_covered (Covered by) = true
is_covered Rejected = false
is_covered Open = false

-- the test of a status that rejects
abbrev pub is_rejected : Status → Bool
is_rejected (Ranked trace cost alarmed monitored) = false
is_rejected (Covered by) = false
is_rejected Rejected = true
is_rejected Open = false

-- the test of a status that is open
abbrev pub is_open : Status → Bool
is_open (Ranked trace cost alarmed monitored) = false
is_open (Covered by) = false
is_open Rejected = false
is_open Open = true

-- the finding of a number
abbrev pub finding_numbered : List Finding → ℕ → Option Finding
finding_numbered findings number = find (λ finding. finding.number == number) findings

-- the number is that of a ranked finding
abbrev pub IsRankedIn : List Finding → ℕ → Type 0
IsRankedIn findings number =
    (finding : Finding) × (finding_numbered findings number ≡ Some finding) × IsTrue (is_ranked finding.status)

-- A round is of a graph of these sizes: it names only what the graph has, the numbers of its findings rise, and each
-- number of its order is that of a ranked one.
pub record IsRoundOf (sizes : Sizes) (round : Round) : Type 0 where
  pub findings : All (IsFindingOf sizes) round.findings
  pub numbers_rise : AllPairs (λ earlier later. earlier.number < later.number) round.findings
  pub order : All (IsRankedIn round.findings) round.order
