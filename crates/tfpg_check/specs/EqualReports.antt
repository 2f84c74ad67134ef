-- That equal reports say the same.
use Rattle.std.specs.Prelude.{◌≡◌, ℕ, List, length, Some, slice_get}
use Rattle.tfpg_base.specs.declared.terms.Terms.{Terms}
use Rattle.tfpg_graph.specs.Graph.{Tfpg}
use Rattle.tfpg_graph.specs.Valid.{IsValid}
use Rattle.tfpg_evidence.specs.declared.finding.Finding.{Finding}
use Rattle.tfpg_evidence.specs.declared.round.Round.{Round}
use Rattle.tfpg_evidence.specs.Findings.{hypothesis_of}
use Rattle.tfpg_report.specs.Blocks.{Block, RefusedBlock, RoundBlock}
use Rattle.tfpg_check.specs.Report.{IsReport}

-- Two findings are on one hypothesis, and have the same status: also the same trace, cost and counts, or the same covering
-- hypothesis.
pub record AgreeOnStatus (finding other : Finding) : Type 0 where
  pub hypothesis : hypothesis_of finding ≡ hypothesis_of other
  pub status : finding.status ≡ other.status

-- Two rounds have a finding on the same hypotheses, and agree on the status of each.
pub record HaveSameStatuses (round other : Round) : Type 0 where
  pub as_many : length round.findings ≡ length other.findings
  pub each : (number : ℕ) (finding found : Finding) → slice_get round.findings number ≡ Some finding
      → slice_get other.findings number ≡ Some found → AgreeOnStatus finding found

-- Two blocks say the same of their line: both are of the same refusal, or both of rounds with the same statuses.
abbrev pub SayTheSame : Block → Block → Type 0
SayTheSame (RefusedBlock line cause) (RefusedBlock number why) = (line ≡ number) × (cause ≡ why)
SayTheSame (RoundBlock round losses) (RoundBlock other lost) = HaveSameStatuses round other
SayTheSame (RefusedBlock line cause) (RoundBlock round losses) = ⊥
SayTheSame (RoundBlock round losses) (RefusedBlock line cause) = ⊥

-- Reports of one valid graph and one list of lines that are equal byte by byte are on the same terms, and say the same of each
-- line.
abbrev pub EqualReportsSayTheSame : Type 0
EqualReportsSayTheSame =
    (graph : Tfpg) (lines : List (List ℕ)) (terms others : Terms) (blocks more : List Block) (bytes : List ℕ)
    → IsValid graph → IsReport graph terms lines blocks bytes → IsReport graph others lines more bytes
    → (terms ≡ others)
    × ((index : ℕ) (block other : Block) → slice_get blocks index ≡ Some block → slice_get more index ≡ Some other
    → SayTheSame block other)
