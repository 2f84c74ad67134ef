-- What a right round has on the hypotheses of a basis.
use Rattle.std.proofs.Common.{◌≡◌, ℕ, ◌<◌, Bool, true, false, List, [], ◌∷◌, ◌++◌, length, map, Some, slice_get, eqb, refl, sym, ap, subst, subst₂, ◌∙◌, arith}
use Rattle.std.specs.List.{AllPairs}
use Rattle.std.proofs.lemmas.Bool.{eqb-true}
use Rattle.std.proofs.lemmas.Option.{same_Some}
use Rattle.tfpg_base.specs.declared.terms.Terms.{Terms}
use Rattle.tfpg_base.specs.Hypothesis.{Hypothesis}
use Rattle.tfpg_base.proofs.lemmas.lists.Elements.{slice_get-same_length, slice_get-contains}
use Rattle.tfpg_base.proofs.lemmas.lists.FirstFound.{find-passes}
use Rattle.tfpg_graph.specs.Graph.{Tfpg}
use Rattle.tfpg_graph.proofs.lemmas.reach.Reaches.{reach_is_one}
use Rattle.tfpg_evidence.specs.declared.finding.Finding.{Finding}
use Rattle.tfpg_evidence.specs.declared.finding.Status.{Status}
use Rattle.tfpg_evidence.specs.declared.finding.Status.TheVariants.{Ranked, Covered, Rejected, Open}
use Rattle.tfpg_evidence.specs.declared.round.Round.{Round}
use Rattle.tfpg_evidence.specs.RoundOf.{finding_numbered, is_rejected}
use Rattle.tfpg_evidence.specs.Findings.{hypothesis_of}
use Rattle.tfpg_evidence.proofs.lemmas.FindingsByNumber.{finding_numbered-first}
use Rattle.tfpg_clause.specs.Case.{Case}
use Rattle.tfpg_clause.specs.Trees.{Judged, IsRefutation, IsPartial}
use Rattle.tfpg_clause.specs.Paths.{judged_by, with_steps}
use Rattle.tfpg_clause.proofs.lemmas.trees.TreeFronts.{partial_front, refutation_front}
use Rattle.tfpg_clause.proofs.lemmas.trees.LedPaths.{no_partial}
use Rattle.tfpg_hyp.specs.Table.{IsTable}
use Rattle.tfpg_hyp.specs.Views.{IsReachOf, case_for}
use Rattle.tfpg_hyp.specs.Rounds.{IsRound, HasEvidence, steps_so_far}
use Rattle.tfpg_hyp.proofs.lemmas.FindingsOfRound.{HasFindingAt, evidence, steps_so_far-push}
use Rattle.tfpg_hyp.proofs.lemmas.Tables.{one_table}
use Rattle.tfpg_check.specs.Judging.{RoundBasis, IsNumberOf, AreClosed, WasClosed}
use Rattle.tfpg_check.proofs.lemmas.passing.ByNumber.{AllPairs-from_indexes}

-- The round is right by the basis, after some rounds: it is one of the basis's log, and the basis has the steps of the rounds
-- before.
pub record IsRightBy (basis : RoundBasis) (line : ℕ) (round : Round) : Type 0 where
  pub rounds : List Round
  pub steps : (number : ℕ) → basis.steps number ≡ steps_so_far number rounds
  pub table : IsTable basis.graph basis.terms basis.hypotheses
  pub is_round : IsRound basis.graph basis.terms rounds basis.log line round

-- A right round of a graph, on terms and after rounds that a basis has, is right by it.
pub right_by : (graph : Tfpg) (terms : Terms) (rounds : List Round) (basis : RoundBasis) (line : ℕ) (round : Round) → basis.graph ≡ graph → basis.terms ≡ terms
    → IsTable graph terms basis.hypotheses → ((number : ℕ) → basis.steps number ≡ steps_so_far number rounds) → IsRound graph terms rounds basis.log line round → IsRightBy basis line round
right_by graph terms rounds basis line round of_graph on_terms table steps is_round = record {
  rounds = rounds;
  steps = steps;
  table = subst₂ (λ (g : Tfpg) (t : Terms). IsTable g t basis.hypotheses) (sym of_graph) (sym on_terms) table;
  is_round = subst₂ (λ (g : Tfpg) (t : Terms). IsRound g t rounds basis.log line round) (sym of_graph) (sym on_terms) is_round;
}

-- ---- cases

-- what the evidence on a hypothesis with this reach is about
abbrev pub case_by : RoundBasis → Hypothesis → List ℕ → Case
case_by basis hypothesis reach = case_for basis.graph basis.log hypothesis reach

-- it is one for a number
pub one_case : (basis : RoundBasis) (number : ℕ) (one other : Hypothesis) (reach reached : List ℕ) → IsNumberOf basis number one → IsNumberOf basis number other
    → IsReachOf basis.graph one reach → IsReachOf basis.graph other reached → case_by basis one reach ≡ case_by basis other reached
one_case basis number one other reach reached at also is too =
    let same : one ≡ other = same_Some one other (sym at ∙ also) in
    let same_reach : reach ≡ reached = reach_is_one basis.graph other.set reach (subst (λ (h : Hypothesis). IsReachOf basis.graph h reach) same is) reached too in
    λ i. case_by basis (same i) (same_reach i)

-- closed steps are a refutation, whatever hypothesis and reach one names
pub refutation_of : (basis : RoundBasis) (number : ℕ) (steps : List Judged) → AreClosed basis number steps → (hypothesis : Hypothesis) → IsNumberOf basis number hypothesis
    → (reach : List ℕ) → IsReachOf basis.graph hypothesis reach → IsRefutation (case_by basis hypothesis reach) steps
refutation_of basis number steps closed hypothesis at reach is =
    subst (λ (c : Case). IsRefutation c steps) (one_case basis number closed.hypothesis hypothesis closed.reach reach closed.listed at closed.reach_is is) closed.refutation

-- ---- what a status says of the steps

-- The steps are right, and a refutation exactly where the status rejects.
abbrev pub AreStepsOf : Case → List Judged → Bool → Type 0
AreStepsOf case steps rejected = (rejected ≡ true → IsRefutation case steps) × (rejected ≡ false → IsPartial case steps)

steps_by_status : (case : Case) (budget : ℕ) (findings : List Finding) (steps : List Judged) (finding : Finding) (status : Status) → HasEvidence case budget findings steps finding status
    → AreStepsOf case steps (is_rejected status)
steps_by_status case budget findings steps finding (Ranked trace cost alarmed monitored) is = (λ not_so. absurd cc, λ so. is.0)
steps_by_status case budget findings steps finding (Covered by) is = (λ not_so. absurd cc, λ so. is.0)
steps_by_status case budget findings steps finding Rejected is = (λ so. is, λ not_so. absurd cc)
steps_by_status case budget findings steps finding Open is = (λ not_so. absurd cc, λ so. is.0)

-- after a refutation comes no step
none_after : (case : Case) (before : List Judged) (rejected : Bool) (added : List Judged) → AreStepsOf case (before ++ added) rejected → IsRefutation case before → added ≡ []
none_after case before rejected [] are refuted = refl
none_after case before true (next ∷ added) are refuted = absurd (no_partial case before refuted (refutation_front case before next added (are.0 refl)))
none_after case before false (next ∷ added) are refuted = absurd (no_partial case before refuted (partial_front case before (next ∷ added) (are.1 refl)))

no_items : {X Y : Type 0} (f : X → Y) (xs : List X) → map f xs ≡ [] → xs ≡ []
no_items f [] none = refl
no_items f (x ∷ xs) none = absurd cc

module _ (basis : RoundBasis) (line : ℕ) (round : Round) (right : IsRightBy basis line round) where
  same_table : right.is_round.hypotheses ≡ basis.hypotheses
  same_table = one_table basis.graph basis.terms right.is_round.hypotheses basis.hypotheses right.is_round.table right.table

  -- there are as many findings as hypotheses
  pub as_many : length round.findings ≡ length basis.hypotheses
  as_many = right.is_round.complete ∙ ap length same_table

  -- a hypothesis has a finding
  pub finding_for : (number : ℕ) (hypothesis : Hypothesis) → IsNumberOf basis number hypothesis → (finding : Finding) × HasFindingAt round number finding × (hypothesis_of finding ≡ hypothesis)
  finding_for number hypothesis at =
      let found = slice_get-same_length round.findings basis.hypotheses number hypothesis (sym as_many) at in
      let own = evidence right.is_round number found.0 found.1 in (
        found.0,
        found.1,
        own.2.hypothesis_is ∙ same_Some own.0 hypothesis (sym (ap (λ (hs : List Hypothesis). slice_get hs number) (sym same_table) ∙ own.1) ∙ at),
      )

  module _ (number : ℕ) (finding : Finding) (at : HasFindingAt round number finding) where
    -- its number is its index
    pub number_of : finding.number ≡ number
    number_of = (evidence right.is_round number finding at).2.number_is

    -- its hypothesis is that of the number
    pub listed_of : IsNumberOf basis number (hypothesis_of finding)
    listed_of =
        let own = evidence right.is_round number finding at in
        sym (ap (λ (hs : List Hypothesis). slice_get hs number) same_table) ∙ own.1 ∙ ap Some (sym own.2.hypothesis_is)

    -- what it reaches
    abbrev pub Reach : List ℕ
    Reach = (evidence right.is_round number finding at).2.reach

    -- and it reaches that
    pub reach_of : IsReachOf basis.graph (hypothesis_of finding) Reach
    reach_of =
        let own = (evidence right.is_round number finding at).2 in
        subst (λ (h : Hypothesis). IsReachOf basis.graph h own.reach) (sym own.hypothesis_is) own.reach_is

    -- its steps of all rounds
    abbrev pub AllSteps : List Judged
    AllSteps = with_steps (basis.steps number) basis.log finding.steps

    -- its evidence, if this is its status
    abbrev pub OwnEvidence : Status → Type 0
    OwnEvidence status = HasEvidence (case_by basis (hypothesis_of finding) Reach) basis.terms.budget round.findings AllSteps finding status

    -- it has its evidence
    pub evidence_of : OwnEvidence finding.status
    evidence_of =
        let own = (evidence right.is_round number finding at).2 in
        let steps : steps_so_far number (right.rounds ++ round ∷ []) ≡ AllSteps =
        steps_so_far-push number right.rounds round (length basis.log.events) finding right.is_round.number at
        ∙ ap (λ (before : List Judged). with_steps before basis.log finding.steps) (sym (right.steps number)) in
        subst (λ (all : List Judged). HasEvidence (case_by basis (hypothesis_of finding) Reach) basis.terms.budget round.findings all finding finding.status) steps
        (subst (λ (h : Hypothesis). HasEvidence (case_by basis h Reach) basis.terms.budget round.findings (steps_so_far number (right.rounds ++ round ∷ [])) finding finding.status)
        (sym own.hypothesis_is) own.evidence)

    -- its steps are right
    pub steps_of_finding : AreStepsOf (case_by basis (hypothesis_of finding) Reach) AllSteps (is_rejected finding.status)
    steps_of_finding =
        steps_by_status (case_by basis (hypothesis_of finding) Reach) basis.terms.budget round.findings AllSteps finding finding.status evidence_of

    -- its tree is closed where it is rejected,
    pub closed_where_rejected : is_rejected finding.status ≡ true → AreClosed basis number AllSteps
    closed_where_rejected rejected =
        record { hypothesis = hypothesis_of finding; listed = listed_of; reach = Reach; reach_is = reach_of; refutation = steps_of_finding.0 rejected }

    -- and there alone.
    pub rejected_where_closed : AreClosed basis number AllSteps → is_rejected finding.status ≡ true
    rejected_where_closed closed = by (is_rejected finding.status) refl
      where
        by : (rejected : Bool) → is_rejected finding.status ≡ rejected → rejected ≡ true
        by true is = refl
        by false is =
            absurd (no_partial (case_by basis (hypothesis_of finding) Reach) AllSteps
            (refutation_of basis number AllSteps closed (hypothesis_of finding) listed_of Reach reach_of) (steps_of_finding.1 is))

    -- Where it was closed before, it has no steps in this round.
    pub no_steps_after : WasClosed basis number → finding.steps ≡ []
    no_steps_after closed =
        no_items (judged_by basis.log) finding.steps
        (none_after (case_by basis (hypothesis_of finding) Reach) (basis.steps number) (is_rejected finding.status) (map (judged_by basis.log) finding.steps) steps_of_finding
        (refutation_of basis number (basis.steps number) closed (hypothesis_of finding) listed_of Reach reach_of))

    -- it is found by its number
    pub found_by_number : finding_numbered round.findings number ≡ Some finding
    found_by_number =
        finding_numbered-first round.findings number number finding at number_of
        (λ earlier other before there same. (let own : other.number ≡ earlier = (evidence right.is_round earlier other there).2.number_is in omega (arith, before, same, own)))

  -- the finding of a number stands at it
  pub finding_at_number : (number : ℕ) (finding : Finding) → finding_numbered round.findings number ≡ Some finding → HasFindingAt round number finding
  finding_at_number number finding found =
      let from = find-passes (λ (f : Finding). eqb f.number number) round.findings finding found in
      let at = slice_get-contains round.findings finding from.0 in
      subst (λ (n : ℕ). HasFindingAt round n finding) (sym (number_of from.0.0 finding at) ∙ eqb-true finding.number number from.1) at

  -- the numbers of the findings rise
  pub numbers_rise : AllPairs (λ (earlier later : Finding). earlier.number < later.number) round.findings
  numbers_rise =
      AllPairs-from_indexes (λ (earlier later : Finding). earlier.number < later.number) round.findings
      (λ i j x y before at also. omega (arith, before, number_of i x at, number_of j y also))
