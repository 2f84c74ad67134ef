-- How many counted calls a round makes at most: the sum of the limits for the hypotheses that it works on.
use Rattle.std.specs.Prelude.{◌≡◌, ℕ, ◌+◌, ◌≤◌, List, length, sum, Bool, false, not, ◌&&◌, ◌||◌, Some, slice_get, option_map, unwrap_or, if◌then◌else◌}
use Rattle.std.specs.Bool.{MatchBool}
use Rattle.std.specs.List.{fold, list_any}
use Rattle.tfpg_graph.specs.Graph.{Tfpg}
use Rattle.tfpg_log.specs.Log.{Logbook}
use Rattle.tfpg_evidence.specs.declared.finding.Finding.{Finding}
use Rattle.tfpg_evidence.specs.declared.finding.Status.{Status}
use Rattle.tfpg_evidence.specs.declared.round.Round.{Round}
use Rattle.tfpg_evidence.specs.RoundOf.{is_ranked, is_rejected, is_open}
use Rattle.tfpg_evidence.specs.Findings.{hypothesis_of}
use Rattle.tfpg_hyp.specs.Views.{IsReachOf, case_for}
use Rattle.tfpg_search.specs.Work.{IsWorkLimit}

-- whether the hypothesis of a number has a status in the round that passes this test
abbrev pub has_status : (Status → Bool) → ℕ → Round → Bool
has_status test number round =
    unwrap_or (option_map (λ finding. test finding.status) (slice_get round.findings number)) false

-- whether a status is ranked or open
abbrev pub is_ranked_or_open : Status → Bool
is_ranked_or_open status = is_ranked status || is_open status

-- whether the hypothesis of a number was rejected in one of these rounds
abbrev pub was_rejected : ℕ → List Round → Bool
was_rejected number rounds = list_any (has_status is_rejected number) rounds

-- how many events there were at the last of these rounds in which the hypothesis of a number was ranked or open; 0 where there was
-- no such round
abbrev pub last_worked_on : ℕ → List Round → ℕ
last_worked_on number rounds =
    fold (λ events round. if has_status is_ranked_or_open number round then round.number else events) 0 rounds

-- whether a round works on a hypothesis that has this status in it: it is ranked or open, or it is rejected and was not before
abbrev pub is_worked_on : Bool → Status → Bool
is_worked_on rejected_before status = is_ranked_or_open status || (is_rejected status && not rejected_before)

-- The limit for the hypothesis of a number, which has this finding in a round after these rounds. Where the round works on it, it is
-- that of its search, which saw the log, as the hypothesis sees it, at the last of these rounds in which it was worked on; else it is 0.
pub record IsFindingLimit (graph : Tfpg) (log : Logbook) (rounds : List Round) (number : ℕ) (finding : Finding)
    (limit : ℕ) : Type 0 where
  pub reach : List ℕ
  pub reach_is : IsReachOf graph (hypothesis_of finding) reach
  pub is : MatchBool (is_worked_on (was_rejected number rounds) finding.status)
      (IsWorkLimit (case_for graph log (hypothesis_of finding) reach) (last_worked_on number rounds) (length finding.steps) limit)
      (limit ≡ 0)

-- The limit of a round that comes after these rounds: the sum of the limits for its hypotheses, of which there is one for each.
pub record IsRoundLimit (graph : Tfpg) (log : Logbook) (rounds : List Round) (round : Round) (limit : ℕ) : Type 0 where
  pub limits : List ℕ
  pub one_each : length limits ≡ length round.findings
  pub each : (number : ℕ) (finding : Finding) (one : ℕ) → slice_get round.findings number ≡ Some finding
      → slice_get limits number ≡ Some one → IsFindingLimit graph log rounds number finding one
  pub is : limit ≡ sum limits

-- In the round the count of calls went from one number to the other, by at most its limit.
abbrev pub IsRoundWithin : Tfpg → Logbook → List Round → Round → ℕ → ℕ → Type 0
IsRoundWithin graph log rounds round before after =
    (limit : ℕ) × IsRoundLimit graph log rounds round limit × (after ≤ before + limit)
