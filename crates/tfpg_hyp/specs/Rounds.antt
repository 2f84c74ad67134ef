-- What a round is: a finding for each hypothesis, each with its evidence, in order and counted.
use Rattle.std.specs.Prelude.{◌≡◌, ℕ, ◌≤◌, List, [], ◌∷◌, ◌++◌, length, map, count_by, flat_map, AllPairs, Contains, false, IsTrue, Option, Some, None, slice_get, option_map, option_and_then, unwrap_or}
use Rattle.std.specs.List.{list_any}
use Rattle.tfpg_base.specs.declared.terms.Terms.{Terms}
use Rattle.tfpg_base.specs.Hypothesis.{Hypothesis, IsProperPart}
use Rattle.tfpg_graph.specs.Graph.{Tfpg}
use Rattle.tfpg_log.specs.Log.{Logbook, now_of}
use Rattle.tfpg_log.specs.Explains.{Explains}
use Rattle.tfpg_evidence.specs.declared.finding.Finding.{Finding}
use Rattle.tfpg_evidence.specs.declared.finding.Status.{Status}
use Rattle.tfpg_evidence.specs.declared.finding.Status.TheVariants.{Ranked, Covered, Rejected, Open}
use Rattle.tfpg_evidence.specs.declared.round.Round.{Round}
use Rattle.tfpg_evidence.specs.declared.round.Counts.{Counts}
use Rattle.tfpg_evidence.specs.RoundOf.{is_ranked, is_covered, is_rejected, is_open}
use Rattle.tfpg_evidence.specs.Findings.{hypothesis_of}
use Rattle.tfpg_clause.specs.Case.{Case}
use Rattle.tfpg_clause.specs.Trees.{Judged, IsRefutation, IsPartial, split_count}
use Rattle.tfpg_hyp.specs.Table.{IsTable}
use Rattle.tfpg_hyp.specs.Views.{IsReachOf, case_for}
use Rattle.tfpg_hyp.specs.declared.place.Place.{Place}
use Rattle.tfpg_hyp.specs.Ranking.{cost_of, robustness_of, IsRankedBefore}

-- the steps of one hypothesis in a round, judged by the log of that round, which has as many events as the round's
-- number
abbrev pub steps_in : ℕ → Round → List Judged
steps_in number round =
    map (λ step. record { seen = round.number; step = step })
    (unwrap_or (option_map (λ finding. finding.steps) (slice_get round.findings number)) [])

-- the steps of one hypothesis in these rounds
abbrev pub steps_so_far : ℕ → List Round → List Judged
steps_so_far number rounds = flat_map (steps_in number) rounds

-- the hypothesis of this number is ranked, and is a proper part of the hypothesis
pub record IsRankedPart (findings : List Finding) (hypothesis : Hypothesis) (number : ℕ) : Type 0 where
  pub finding : Finding
  pub numbered : slice_get findings number ≡ Some finding
  pub ranked : IsTrue (is_ranked finding.status)
  pub part : IsProperPart (hypothesis_of finding) hypothesis

-- Some hypothesis is ranked that is a proper part of the hypothesis.
abbrev pub HasRankedPart : List Finding → Hypothesis → Type 0
HasRankedPart findings hypothesis = (number : ℕ) × IsRankedPart findings hypothesis number

-- The number is the least of those of ranked hypotheses that are proper parts of the hypothesis.
pub record IsLeastPart (findings : List Finding) (hypothesis : Hypothesis) (by : ℕ) : Type 0 where
  pub part : IsRankedPart findings hypothesis by
  pub least : (other : ℕ) → IsRankedPart findings hypothesis other → by ≤ other

-- What each status says of a hypothesis, whose steps of all rounds so far are these.
abbrev pub HasEvidence : Case → ℕ → List Finding → List Judged → Finding → Status → Type 0
-- The steps of all rounds are a refutation.
HasEvidence case budget findings steps finding Rejected = IsRefutation case steps
-- A proper part is ranked, this one was not searched in this round, and the steps go on to be a partial tree.
HasEvidence case budget findings steps finding (Covered by) =
    IsPartial case steps × (finding.steps ≡ []) × IsLeastPart findings (hypothesis_of finding) by
-- The trace explains what the hypothesis sees of the log from its set, and no proper part is ranked.
HasEvidence case budget findings steps finding (Ranked trace c alarmed monitored) =
    IsPartial case steps × Explains case.graph case.log finding.set trace
    × (HasRankedPart findings (hypothesis_of finding) → ⊥) × (c ≡ cost_of case.graph (hypothesis_of finding))
    × (robustness_of case.graph case.log case.reach finding.doubts ≡ record { alarmed = alarmed; monitored = monitored })
-- This round spent its whole budget on splits, the tree is not closed, and no proper part is ranked.
HasEvidence case budget findings steps finding Open =
    IsPartial case steps × (HasRankedPart findings (hypothesis_of finding) → ⊥)
    × (split_count finding.steps ≡ budget)

-- what a round is asked: a graph, its log so far, and the terms
pub record Inquiry : Type 0 where
  pub graph : Tfpg
  pub log : Logbook
  pub terms : Terms

-- The finding on the hypothesis of this number.
pub record IsFinding (inquiry : Inquiry) (rounds : List Round) (findings : List Finding) (number : ℕ)
    (hypothesis : Hypothesis) (finding : Finding) : Type 0 where
  pub number_is : finding.number ≡ number
  pub hypothesis_is : hypothesis_of finding ≡ hypothesis
  pub reach : List ℕ
  pub reach_is : IsReachOf inquiry.graph hypothesis reach
  pub evidence : HasEvidence (case_for inquiry.graph inquiry.log hypothesis reach)
      inquiry.terms.budget findings (steps_so_far number rounds) finding finding.status

-- the key of a ranked finding
abbrev pub key_of_status : ℕ → Status → Option Place
key_of_status number (Ranked trace cost alarmed monitored) =
    Some (record { cost = cost; robust = record { alarmed = alarmed; monitored = monitored }; number = number })
key_of_status number (Covered by) = None
key_of_status number Rejected = None
key_of_status number Open = None

-- the key of the hypothesis of a number, if it is ranked
abbrev pub key_at : List Finding → ℕ → Option Place
key_at findings number =
    option_and_then (λ finding. key_of_status number finding.status) (slice_get findings number)

-- The numbers of the ranked hypotheses, best first.
pub record IsOrder (findings : List Finding) (order : List ℕ) : Type 0 where
  pub keys : List Place
  pub all_ranked : map (key_at findings) order ≡ map Some keys
  pub each_ranked : (number : ℕ) (key : Place) → key_at findings number ≡ Some key → Contains order number
  pub in_order : AllPairs IsRankedBefore keys

-- No finding of the round is open.
abbrev pub HasNoneOpen : Round → Type 0
HasNoneOpen round = list_any (λ finding. is_open finding.status) round.findings ≡ false

-- how many hypotheses have each status
abbrev pub counts_of : List Finding → Counts
counts_of findings =
    record {
      ranked = count_by (λ finding. is_ranked finding.status) findings;
      covered = count_by (λ finding. is_covered finding.status) findings;
      rejected = count_by (λ finding. is_rejected finding.status) findings;
      unsettled = count_by (λ finding. is_open finding.status) findings;
    }

-- The round of an accepted line after these rounds: a finding for each hypothesis of the table.
pub record IsRound (graph : Tfpg) (terms : Terms) (rounds : List Round) (log : Logbook)
    (line : ℕ) (round : Round) : Type 0 where
  pub number : round.number ≡ length log.events
  pub line_is : round.line ≡ line
  pub now_is : round.now ≡ now_of log
  pub hypotheses : List Hypothesis
  pub table : IsTable graph terms hypotheses
  pub complete : length round.findings ≡ length hypotheses
  pub findings : (number : ℕ) (hypothesis : Hypothesis) (finding : Finding)
      → slice_get hypotheses number ≡ Some hypothesis → slice_get round.findings number ≡ Some finding
      → IsFinding (record { graph = graph; log = log; terms = terms }) (rounds ++ round ∷ [])
      round.findings number hypothesis finding
  pub order : IsOrder round.findings round.order
  pub counts : round.counts ≡ counts_of round.findings
