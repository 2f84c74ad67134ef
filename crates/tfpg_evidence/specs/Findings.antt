-- What the findings of a round are on, and which of them say what.
use Rattle.std.specs.Prelude.{ℕ, ◌&&◌, List, length, filter, filter_map, Bool, not, ◌==◌}
use Rattle.tfpg_base.specs.Hypothesis.{Hypothesis}
use Rattle.tfpg_evidence.specs.declared.finding.Finding.{Finding}
use Rattle.tfpg_evidence.specs.declared.round.Round.{Round}
use Rattle.tfpg_evidence.specs.RoundOf.{is_open, is_rejected, finding_numbered}

-- the hypothesis that a finding is on
abbrev pub hypothesis_of : Finding → Hypothesis
hypothesis_of finding = record { set = finding.set; doubts = finding.doubts }

-- the findings of these numbers
abbrev pub findings_at : List Finding → List ℕ → List Finding
findings_at findings numbers = filter_map (finding_numbered findings) numbers

-- the ranked findings of a round, best first
abbrev pub ranked_in_order : Round → List Finding
ranked_in_order round = findings_at round.findings round.order

-- the open findings of a round, by rising numbers
abbrev pub open_in : Round → List Finding
open_in round = filter (λ finding. is_open finding.status) round.findings

-- the test of a finding whose hypothesis its own round rejected: it is rejected, and by a step of this round
abbrev pub is_rejected_now : Finding → Bool
is_rejected_now finding = is_rejected finding.status && not (length finding.steps == 0)

-- the findings whose hypotheses this round rejected, by rising numbers
abbrev pub newly_rejected : Round → List Finding
newly_rejected round = filter is_rejected_now round.findings
