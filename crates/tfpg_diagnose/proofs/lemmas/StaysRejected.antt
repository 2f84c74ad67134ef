-- What is rejected in one round of a report has no step in a later one, and is rejected there.
use Rattle.std.proofs.Common.{◌≡◌, ℕ, ◌+◌, ◌<◌, List, [], ◌∷◌, ◌++◌, map, take, drop, Some, refl, sym, ap, subst, ◌∙◌, append_assoc, arith}
use Rattle.std.specs.Prelude.{slice_get, flat_map}
use Rattle.std.proofs.lemmas.Grind.{flat_map-append}
use Rattle.std.proofs.lemmas.List.{take-append-drop, take-take}
use Rattle.std.proofs.lemmas.Option.{same_Some}
use Rattle.tfpg_base.specs.declared.terms.Terms.{Terms}
use Rattle.tfpg_base.specs.Hypothesis.{Hypothesis}
use Rattle.tfpg_base.proofs.lemmas.lists.Cuts.{take-next}
use Rattle.tfpg_graph.specs.Graph.{Tfpg}
use Rattle.tfpg_graph.specs.Reach.{IsReach}
use Rattle.tfpg_graph.proofs.lemmas.reach.Reaches.{reach_is_one}
use Rattle.tfpg_log.specs.Log.{Logbook, IsOrdered, GoesOn, ignoring}
use Rattle.tfpg_log.specs.LogOfLines.{log_of_lines}
use Rattle.tfpg_log.proofs.lemmas.logs_of_lines.LogsOfLines.{ordered-log_of_lines}
use Rattle.tfpg_evidence.specs.declared.finding.Finding.{Finding}
use Rattle.tfpg_evidence.specs.declared.finding.Status.{Status}
use Rattle.tfpg_evidence.specs.declared.finding.Status.TheVariants.{Ranked, Covered, Rejected, Open}
use Rattle.tfpg_evidence.specs.declared.round.Round.{Round}
use Rattle.tfpg_evidence.specs.declared.step.Step.{Step}
use Rattle.tfpg_clause.specs.Case.{Case}
use Rattle.tfpg_clause.specs.Laws.{FrontsOfPartialTreesArePartial, FrontsOfRefutationsArePartial, RefutationsStay, RefutationsAreNotPartial}
use Rattle.tfpg_clause.specs.Trees.{Judged, IsRefutation, IsPartial}
use Rattle.tfpg_hyp.specs.Rounds.{IsRound, HasEvidence, steps_in, steps_so_far}
use Rattle.tfpg_hyp.specs.Views.{case_for}
use Rattle.tfpg_hyp.proofs.lemmas.FindingsOfRound.{HasFindingAt, evidence, steps_so_far-push}
use Rattle.tfpg_hyp.proofs.lemmas.Tables.{one_table}
use Rattle.tfpg_report.specs.Blocks.{Block, Loss, RoundBlock}
use Rattle.tfpg_check.specs.Report.{AreBlocks, rounds_of}
use Rattle.tfpg_check.proofs.lemmas.RoundsOfReports.{round_there}
use Rattle.tfpg_diagnose.specs.BlockFindings.{HasFindingInBlock}
use Rattle.tfpg_diagnose.proofs.lemmas.NeverRejected.{GoesOn-first}

-- ---- trees

-- The laws of trees that this rests on.
pub record RefutationLaws : Type 0 where
  pub finished : RefutationsAreNotPartial
  pub partial_front : FrontsOfPartialTreesArePartial
  pub refutation_front : FrontsOfRefutationsArePartial
  pub stays : RefutationsStay

-- where nothing comes after some steps, no step does
no_step : (earlier : List Judged) (steps : List Step) (seen : ℕ) → earlier ++ map (λ (step : Step). record { seen = seen; step = step }) steps ≡ [] → steps ≡ []
no_step [] [] seen none = refl
no_step [] (step ∷ steps) seen none = cc
no_step (first ∷ earlier) steps seen none = cc

module _ (laws : RefutationLaws) where
  -- nothing comes after a refutation in another one
  nothing_after : (case : Case) (steps more : List Judged) → IsRefutation case steps → IsRefutation case (steps ++ more) → more ≡ []
  nothing_after case steps [] refuted longer = refl
  nothing_after case steps (next ∷ more) refuted longer = absurd (laws.finished case steps refuted (laws.refutation_front case steps next more longer))

  -- no partial tree goes on from a refutation
  no_partial : (case : Case) (steps more : List Judged) → IsRefutation case steps → IsPartial case (steps ++ more) → ⊥
  no_partial case steps more refuted partial = laws.finished case steps refuted (laws.partial_front case steps more partial)

  -- whatever evidence goes on from a refutation is that of a rejection, and has no step more
  rejected_by : (case : Case) (budget : ℕ) (findings : List Finding) (steps more : List Judged) (finding : Finding) → IsRefutation case steps → (status : Status)
      → HasEvidence case budget findings (steps ++ more) finding status → (status ≡ Rejected) × (more ≡ [])
  rejected_by case budget findings steps more finding refuted Rejected own = (refl, nothing_after case steps more refuted own)
  rejected_by case budget findings steps more finding refuted (Ranked trace cost alarmed monitored) own = absurd (no_partial case steps more refuted own.0)
  rejected_by case budget findings steps more finding refuted (Covered by) own = absurd (no_partial case steps more refuted own.0)
  rejected_by case budget findings steps more finding refuted Open own = absurd (no_partial case steps more refuted own.0)

  -- ---- two rounds

  module _ (graph : Tfpg) (terms : Terms) (rounds between : List Round) (log later : Logbook) (line next : ℕ) (first second : Round)
      (is_first : IsRound graph terms rounds log line first) (is_second : IsRound graph terms ((rounds ++ first ∷ []) ++ between) later next second) (ordered : IsOrdered later) (goes_on : GoesOn log later)
      (number : ℕ) (finding other : Finding) (at_first : HasFindingAt first number finding) (at_second : HasFindingAt second number other) (rejected : finding.status ≡ Rejected) where
    -- the steps up to the first round, and those after it
    abbrev Steps : List Judged
    Steps = steps_so_far number (rounds ++ first ∷ [])

    abbrev More : List Judged
    More = steps_so_far number (between ++ second ∷ [])

    -- what the hypothesis reaches
    abbrev Reached : List ℕ
    Reached = (evidence is_first number finding at_first).2.reach

    abbrev ReachedLater : List ℕ
    ReachedLater = (evidence is_second number other at_second).2.reach

    same_hypothesis : (evidence is_first number finding at_first).0 ≡ (evidence is_second number other at_second).0
    same_hypothesis =
        let own = evidence is_first number finding at_first in
        let own_later = evidence is_second number other at_second in
        same_Some own.0 own_later.0
        (sym own.1 ∙ ap (λ (hypotheses : List Hypothesis). slice_get hypotheses number) (one_table graph terms is_first.hypotheses is_second.hypotheses is_first.table is_second.table) ∙ own_later.1)

    same_reach : Reached ≡ ReachedLater
    same_reach =
        let own = evidence is_first number finding at_first in
        let own_later = evidence is_second number other at_second in
        reach_is_one graph own_later.0.set Reached (subst (λ (hypothesis : Hypothesis). IsReach graph hypothesis.set Reached) same_hypothesis own.2.reach_is) ReachedLater own_later.2.reach_is

    -- what the evidence of the later round is about
    abbrev CaseLater : Case
    CaseLater = case_for graph later (evidence is_second number other at_second).0 ReachedLater

    -- the steps up to the first round are a refutation, also at the later log
    refuted : IsRefutation CaseLater Steps
    refuted =
        let own = evidence is_first number finding at_first in
        let own_later = evidence is_second number other at_second in
        let first_refuted : IsRefutation (case_for graph log own.0 Reached) Steps = subst (HasEvidence (case_for graph log own.0 Reached) terms.budget first.findings Steps finding) rejected own.2.evidence in
        laws.stays (case_for graph log own_later.0 ReachedLater) (ignoring later own_later.0.doubts) Steps
        (record { in_order = ordered.in_order; in_range = ordered.in_range })
        (record { more = goes_on.more; events = goes_on.events; ignored = refl })
        (subst (λ (reach : List ℕ). IsRefutation (case_for graph log own_later.0 reach) Steps) same_reach
        (subst (λ (hypothesis : Hypothesis). IsRefutation (case_for graph log hypothesis Reached) Steps) same_hypothesis first_refuted))

    all_steps : steps_so_far number (((rounds ++ first ∷ []) ++ between) ++ second ∷ []) ≡ Steps ++ More
    all_steps =
        ap (steps_so_far number) (append_assoc (rounds ++ first ∷ []) between (second ∷ []))
        ∙ flat_map-append (steps_in number) (rounds ++ first ∷ []) (between ++ second ∷ [])

    both : (other.status ≡ Rejected) × (More ≡ [])
    both =
        rejected_by CaseLater terms.budget second.findings Steps More other refuted other.status
        (subst (λ (steps : List Judged). HasEvidence CaseLater terms.budget second.findings steps other other.status) all_steps
        (evidence is_second number other at_second).2.evidence)

    no_step_later : other.steps ≡ []
    no_step_later =
        no_step (steps_so_far number between) other.steps second.number
        (sym (steps_so_far-push number between second second.number other refl at_second) ∙ both.1)

    still_rejected : (other.status ≡ Rejected) × (other.steps ≡ [])
    still_rejected = (both.0, no_step_later)

  -- ---- two blocks

  module _ (graph : Tfpg) (terms : Terms) (lines : List (List ℕ)) (blocks : List Block) (are : AreBlocks graph terms lines blocks) (earlier later : ℕ) (in_order : earlier < later) where
    -- the rounds of the blocks between
    abbrev Between : List Round
    Between = flat_map rounds_of (drop (earlier + 1) (take later blocks))

    rounds_before : (first : Round) (losses : List Loss) → slice_get blocks earlier ≡ Some (RoundBlock first losses)
        → flat_map rounds_of (take later blocks) ≡ (flat_map rounds_of (take earlier blocks) ++ first ∷ []) ++ Between
    rounds_before first losses at =
        ap (flat_map rounds_of)
        (sym (take-append-drop (earlier + 1) (take later blocks))
        ∙ ap (λ (front : List Block). front ++ drop (earlier + 1) (take later blocks))
        (take-take (earlier + 1) later blocks (omega (arith, in_order)) ∙ take-next blocks earlier (RoundBlock first losses) at))
        ∙ flat_map-append rounds_of (take earlier blocks ++ RoundBlock first losses ∷ []) (drop (earlier + 1) (take later blocks))
        ∙ ap (λ (rounds : List Round). rounds ++ Between) (flat_map-append rounds_of (take earlier blocks) (RoundBlock first losses ∷ []))

    goes_on_between : GoesOn (log_of_lines graph (take (earlier + 1) lines)) (log_of_lines graph (take (later + 1) lines))
    goes_on_between =
        subst (λ (front : List (List ℕ)). GoesOn (log_of_lines graph front) (log_of_lines graph (take (later + 1) lines)))
        (take-take (earlier + 1) (later + 1) lines (omega (arith, in_order)))
        (GoesOn-first graph (take (later + 1) lines) (earlier + 1))

    pub stays_rejected : (number : ℕ) (finding other : Finding) → HasFindingInBlock blocks earlier number finding → HasFindingInBlock blocks later number other → finding.status ≡ Rejected
        → (other.status ≡ Rejected) × (other.steps ≡ [])
    stays_rejected number finding other has has_later rejected =
        still_rejected graph terms (flat_map rounds_of (take earlier blocks)) Between (log_of_lines graph (take (earlier + 1) lines)) (log_of_lines graph (take (later + 1) lines)) (earlier + 1) (later + 1)
        has.0 has_later.0
        (round_there graph terms lines blocks are earlier has.0 has.1 has.2)
        (subst (λ (rounds : List Round). IsRound graph terms rounds (log_of_lines graph (take (later + 1) lines)) (later + 1) has_later.0) (rounds_before has.0 has.1 has.2)
        (round_there graph terms lines blocks are later has_later.0 has_later.1 has_later.2))
        (ordered-log_of_lines graph (take (later + 1) lines)) goes_on_between
        number finding other has.3 has_later.3 rejected
