-- A round is of its graph.
use Rattle.std.proofs.Common.{◌≡◌, ℕ, ◌<◌, List, [], ◌∷◌, ◌++◌, length, get_or, map, Option, Some, refl, ap, subst, ◌∙◌, arith}
use Rattle.std.specs.Prelude.{All, IsTrue, slice_get}
use Rattle.std.proofs.lemmas.Option.{slice_get-get_or, option_and_then_some}
use Rattle.std.proofs.lemmas.List.Elements.{All-same, All-weaker}
use Rattle.tfpg_base.specs.declared.terms.Terms.{Terms}
use Rattle.tfpg_graph.specs.Graph.{Tfpg, failures, is_monitored, sizes_of}
use Rattle.tfpg_graph.proofs.lemmas.NodeAt.{monitored_within}
use Rattle.tfpg_log.specs.Log.{Logbook, IsLogOf}
use Rattle.tfpg_evidence.specs.declared.step.Step.{Step}
use Rattle.tfpg_evidence.specs.declared.finding.Finding.{Finding}
use Rattle.tfpg_evidence.specs.declared.finding.Status.{Status}
use Rattle.tfpg_evidence.specs.declared.finding.Status.TheVariants.{Ranked, Covered, Rejected, Open}
use Rattle.tfpg_evidence.specs.declared.round.Round.{Round}
use Rattle.tfpg_evidence.specs.RoundOf.{IsStepOf, IsStatusOf, IsFindingOf, IsRankedIn, IsRoundOf, is_ranked, finding_numbered}
use Rattle.tfpg_base.specs.Hypothesis.{Hypothesis}
use Rattle.tfpg_base.specs.Choice.{each_of}
use Rattle.tfpg_clause.specs.Case.{Case}
use Rattle.tfpg_clause.specs.Trees.{Judged}
use Rattle.tfpg_clause.proofs.lemmas.trees.NamedSteps.{AreStepsOfGraph, partial_named, refutation_named}
use Rattle.tfpg_base.proofs.lemmas.lists.Choices.{Contains-each_of, each_of-some}
use Rattle.tfpg_evidence.proofs.lemmas.FindingsByNumber.{finding_numbered-first}
use Rattle.tfpg_base.proofs.lemmas.lists.Images.{All-unmap}
use Rattle.tfpg_base.proofs.lemmas.lists.Elements.{All-back, All-from_members, Contains-at}
use Rattle.tfpg_hyp.specs.Table.{IsHypothesis}
use Rattle.tfpg_hyp.specs.Views.{case_for}
use Rattle.tfpg_hyp.specs.Rounds.{IsRound, HasEvidence, key_at, key_of_status, steps_so_far}
use Rattle.tfpg_hyp.specs.declared.place.Place.{Place}
use Rattle.tfpg_hyp.proofs.lemmas.FittingSets.{of_view}
use Rattle.tfpg_hyp.proofs.lemmas.FindingsOfRound.{HasFindingAt, evidence, steps_so_far-push}

-- ---- the steps of this round

-- the steps of a finding, whatever its status
evidence_named : (case : Case) (of : IsLogOf case.graph case.log) (budget : ℕ) (findings : List Finding) (steps : List Judged) (finding : Finding) (status : Status)
    → HasEvidence case budget findings steps finding status → AreStepsOfGraph case.graph steps
evidence_named case of budget findings steps finding (Ranked trace cost alarmed monitored) own = partial_named case of steps own.0
evidence_named case of budget findings steps finding (Covered by) own = partial_named case of steps own.0
evidence_named case of budget findings steps finding Rejected own = refutation_named case of steps own
evidence_named case of budget findings steps finding Open own = partial_named case of steps own.0

last_named : (graph : Tfpg) (number : ℕ) (rounds : List Round) (round : Round) (finding : Finding) → slice_get round.findings number ≡ Some finding
    → AreStepsOfGraph graph (steps_so_far number (rounds ++ round ∷ [])) → All (IsStepOf (sizes_of graph)) finding.steps
last_named graph number rounds round finding at named =
    All-unmap (λ (judged : Judged). IsStepOf (sizes_of graph) judged.step) (λ (step : Step). record { seen = round.number; step = step }) finding.steps
    (All-back (λ (judged : Judged). IsStepOf (sizes_of graph) judged.step) (steps_so_far number rounds) (map (λ (step : Step). record { seen = round.number; step = step }) finding.steps)
    (subst (AreStepsOfGraph graph) (steps_so_far-push number rounds round round.number finding refl at) named))

-- ---- statuses

status_named : (case : Case) (budget : ℕ) (findings : List Finding) (steps : List Judged) (finding : Finding) (status : Status)
    → HasEvidence case budget findings steps finding status → IsStatusOf (sizes_of case.graph) status
status_named case budget findings steps finding (Ranked trace cost alarmed monitored) own = own.1.trace_of.1
status_named case budget findings steps finding (Covered by) own = tt
status_named case budget findings steps finding Rejected own = tt
status_named case budget findings steps finding Open own = tt

key_ranked : (number : ℕ) (status : Status) (key : Place) → key_of_status number status ≡ Some key → IsTrue (is_ranked status)
key_ranked number (Ranked trace cost alarmed monitored) key at = refl
key_ranked number (Covered by) key at = absurd cc
key_ranked number Rejected key at = absurd cc
key_ranked number Open key at = absurd cc

-- ---- the round

module _ (graph : Tfpg) (terms : Terms) (line : ℕ) (rounds : List Round) (log : Logbook) (round : Round) (of : IsLogOf graph log) (is_round : IsRound graph terms rounds log line round) where
  -- the number of a finding is its index
  number_at : (number : ℕ) (finding : Finding) → HasFindingAt round number finding → finding.number ≡ number
  number_at number finding at = (evidence is_round number finding at).2.number_is

  hypothesis_at : (number : ℕ) (hypothesis : Hypothesis) → slice_get is_round.hypotheses number ≡ Some hypothesis → IsHypothesis graph terms hypothesis
  hypothesis_at number hypothesis at = (is_round.table.exact hypothesis).0 (Contains-at is_round.hypotheses number hypothesis at)

  nodes_at : (number : ℕ) (hypothesis : Hypothesis) → slice_get is_round.hypotheses number ≡ Some hypothesis → All (λ (node : ℕ). node < length graph.nodes) hypothesis.doubts
  nodes_at number hypothesis at =
      All-weaker (λ (node : ℕ). IsTrue (is_monitored graph node)) (λ (node : ℕ). node < length graph.nodes) (λ node monitored. monitored_within graph node monitored) hypothesis.doubts
      (hypothesis_at number hypothesis at).doubts_of_graph.monitored

  finding_named : (number : ℕ) (finding : Finding) → HasFindingAt round number finding → IsFindingOf (sizes_of graph) finding
  finding_named number finding at =
      let own = evidence is_round number finding at in
      record {
        set = All-same (λ (position : ℕ). position < length (failures graph)) finding.set own.0.set (ap (λ (h : Hypothesis). h.set) own.2.hypothesis_is) (hypothesis_at number own.0 own.1).of_graph.members;
        doubts = All-same (λ (node : ℕ). node < length graph.nodes) finding.doubts own.0.doubts (ap (λ (h : Hypothesis). h.doubts) own.2.hypothesis_is) (nodes_at number own.0 own.1);
        steps = last_named graph number rounds round finding at
            (evidence_named (case_for graph log own.0 own.2.reach) (of_view graph log terms own.0 of (hypothesis_at number own.0 own.1)) terms.budget round.findings (steps_so_far number (rounds ++ round ∷ [])) finding finding.status own.2.evidence);
        status = status_named (case_for graph log own.0 own.2.reach) terms.budget round.findings (steps_so_far number (rounds ++ round ∷ [])) finding finding.status own.2.evidence;
      }

  -- the finding of a number is found by it
  found_by_number : (number : ℕ) (finding : Finding) → HasFindingAt round number finding → finding_numbered round.findings number ≡ Some finding
  found_by_number number finding at =
      finding_numbered-first round.findings number number finding at (number_at number finding at)
      (λ other f lt there is. (let own : f.number ≡ other = number_at other f there in omega (arith, own, is, lt)))

  ranked_in : (number : ℕ) (key : Place) → key_at round.findings number ≡ Some key → IsRankedIn round.findings number
  ranked_in number key at =
      option_and_then_some (λ (finding : Finding). key_of_status number finding.status) (slice_get round.findings number) key at
      (λ finding there rest. (finding, found_by_number number finding there, key_ranked number finding.status key rest))

  pub round_of : IsRoundOf (sizes_of graph) round
  round_of = record {
    findings = λ number d in_range. finding_named number (get_or round.findings number d) (slice_get-get_or round.findings number d in_range);
    numbers_rise = λ earlier later d before in_range. (
        let one = number_at earlier (get_or round.findings earlier d) (slice_get-get_or round.findings earlier d (omega (arith, before, in_range))) in
        let other = number_at later (get_or round.findings later d) (slice_get-get_or round.findings later d in_range) in
        omega (arith, one, other, before)
        );
    order = All-from_members (IsRankedIn round.findings) round.order
        (λ number has.
        let all : each_of (map (key_at round.findings) round.order) ≡ Some is_round.order.keys =
        ap (λ (keys : List (Option Place)). each_of keys) is_round.order.all_ranked ∙ each_of-some is_round.order.keys in
        let own = Contains-each_of (key_at round.findings) round.order is_round.order.keys number all has in
        ranked_in number own.0 own.2);
  }
