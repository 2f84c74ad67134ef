-- What a round of some lines alone is, and when two rounds find the same.
use Rattle.std.specs.Prelude.{◌≡◌, ℕ, List, length, Some, slice_get}
use Rattle.tfpg_base.specs.declared.terms.Terms.{Terms}
use Rattle.tfpg_graph.specs.Graph.{Tfpg}
use Rattle.tfpg_log.specs.LogOfLines.{log_of_lines}
use Rattle.tfpg_hyp.specs.Rounds.{IsRound, HasNoneOpen}
use Rattle.tfpg_search.specs.Enough.{IsEnough}
use Rattle.tfpg_engine.specs.Earned.{AreEarned}
use Rattle.tfpg_evidence.specs.declared.finding.Finding.{Finding}
use Rattle.tfpg_evidence.specs.declared.round.Round.{Round}
use Rattle.tfpg_evidence.specs.Findings.{hypothesis_of}
use Rattle.tfpg_evidence.specs.RoundOf.{is_ranked, is_covered, is_rejected, is_open}

-- Two findings are on one hypothesis and have the same status, whatever trace or steps show it.
pub record FindTheSame (finding other : Finding) : Type 0 where
  pub hypothesis : hypothesis_of finding ≡ hypothesis_of other
  pub ranked : is_ranked finding.status ≡ is_ranked other.status
  pub covered : is_covered finding.status ≡ is_covered other.status
  pub rejected : is_rejected finding.status ≡ is_rejected other.status
  pub left_open : is_open finding.status ≡ is_open other.status

-- Two rounds have findings on the same hypotheses, with the same status for each.
pub record RoundsFindTheSame (round other : Round) : Type 0 where
  pub as_many : length round.findings ≡ length other.findings
  pub each : (number : ℕ) (finding found : Finding) → slice_get round.findings number ≡ Some finding
      → slice_get other.findings number ≡ Some found → FindTheSame finding found

-- The last of these lines has this number and brought this round, in a diagnosis of these lines alone that had brought these rounds
-- before: it is a round of their log, its steps are earned, and with a budget that is enough no hypothesis of it is open.
pub record IsRoundOfLines (graph : Tfpg) (terms : Terms) (lines : List (List ℕ)) (rounds : List Round) (line : ℕ)
    (round : Round) : Type 0 where
  pub number : line ≡ length lines
  pub is : IsRound graph terms rounds (log_of_lines graph lines) line round
  pub earned : AreEarned graph (log_of_lines graph lines) terms rounds round
  pub none_open : IsEnough graph (log_of_lines graph lines) terms.budget → HasNoneOpen round

-- The round is one of a diagnosis of these lines on these terms, and has no open hypothesis.
pub record IsSettledRound (graph : Tfpg) (terms : Terms) (lines : List (List ℕ)) (round : Round) : Type 0 where
  pub rounds : List Round
  pub line : ℕ
  pub is : IsRound graph terms rounds (log_of_lines graph lines) line round
  pub none_open : HasNoneOpen round
