-- The counted calls for one finding, and for one finding more, are within their limits.
use Rattle.std.proofs.Common.{◌≡◌, ℕ, ◌+◌, ◌-◌, ◌≤◌, ◌<◌, Bool, true, false, List, [], ◌∷◌, ◌++◌, length, refl, sym, ap, subst, ◌∙◌, arith, ⊎_elim}
use Rattle.std.specs.Prelude.{Some, slice_get}
use Rattle.std.proofs.lemmas.List.{length-append}
use Rattle.std.proofs.lemmas.List.Sums.{sum_by_push}
use Rattle.std.proofs.lemmas.Option.{slice_get_within, same_Some}
use Rattle.tfpg_base.specs.Hypothesis.{Hypothesis}
use Rattle.tfpg_base.proofs.lemmas.lists.Sequences.{below_or_last}
use Rattle.tfpg_base.proofs.lemmas.lists.Written.{slice_get-push_before, slice_get-push_at}
use Rattle.tfpg_log.specs.Log.{Logbook, ignoring}
use Rattle.tfpg_graph.specs.Graph.{Tfpg}
use Rattle.tfpg_evidence.specs.declared.finding.Finding.{Finding}
use Rattle.tfpg_evidence.specs.declared.finding.Status.{Status}
use Rattle.tfpg_evidence.specs.declared.finding.Status.TheVariants as status
use Rattle.tfpg_evidence.specs.declared.step.Step.{Step}
use Rattle.tfpg_clause.specs.Case.{Case, case_of}
use Rattle.tfpg_hyp.specs.Hypotheses.{Hypotheses, Row, IsRowOf}
use Rattle.tfpg_hyp.specs.Views.{case_for}
use Rattle.tfpg_hyp.specs.Rounds.{Inquiry}
use Rattle.tfpg_hyp.specs.declared.place.Fraction.{Fraction}
use Rattle.tfpg_search.specs.Work.{IsWorkLimit}
use Rattle.tfpg_search.specs.declared.found.Found.{Found}
use Rattle.tfpg_search.specs.declared.found.Found.TheVariants.{Shown, Closed, Spent}
use Rattle.tfpg_engine.specs.declared.slot.Slot.{Slot}
use Rattle.tfpg_engine.specs.EngineState.{is_rejected_slot, events_seen}
use Rattle.tfpg_engine.specs.Work.{is_worked_on}
use Rattle.tfpg_engine.specs.inside.NewFindings.{status_by}
use Rattle.tfpg_engine.specs.inside.SlotWork.{IsLimitWhere, IsWithin, IsSlotLimit, IsSlotWithin, IsLimitBySlots, AreSlotsWithin}
use Rattle.tfpg_engine.proofs.lemmas.Ignoring.{own_log}
use Rattle.tfpg_engine.proofs.lemmas.NewFindingIsRight.{same_row}

-- ---- one finding

-- a rejected hypothesis costs no call
pub rejected_within : (case : Case) (slot : Slot) (count number : ℕ) (set doubts : List ℕ) (written : Finding) → is_rejected_slot slot ≡ true
    → written ≡ record { number = number; set = set; doubts = doubts; steps = []; status = status.Rejected } → IsSlotWithin case slot count count written
rejected_within case slot count number set doubts written rejected is = (
  0,
  subst (λ (f : Finding). IsSlotLimit case slot f 0) (sym is) (subst (λ (b : Bool). IsLimitWhere (is_worked_on b status.Rejected) case (events_seen slot) 0 0) (sym rejected) refl),
  omega arith,
)

-- nor does a covered one
pub covered_within : (case : Case) (slot : Slot) (count number : ℕ) (set doubts : List ℕ) (by : ℕ) (written : Finding)
    → written ≡ record { number = number; set = set; doubts = doubts; steps = []; status = status.Covered by } → IsSlotWithin case slot count count written
covered_within case slot count number set doubts by written is = (
  0,
  subst (λ (f : Finding). IsSlotLimit case slot f 0) (sym is) refl,
  omega arith,
)

-- a round works on each hypothesis that is searched
searched_worked_on : (cost : ℕ) (robust : Fraction) (found : Found) → is_worked_on false (status_by cost robust found) ≡ true
searched_worked_on cost robust (Shown trace) = refl
searched_worked_on cost robust Closed = refl
searched_worked_on cost robust Spent = refl

-- a searched one costs at most the limit of its search
pub searched_within : (there : (case : Case) (seen steps : ℕ) → (limit : ℕ) × IsWorkLimit case seen steps limit) (graph : Tfpg) (log : Logbook) (hypothesis : Hypothesis) (reach own : List ℕ) (slot : Slot)
    → log.ignored ≡ hypothesis.doubts → own ≡ reach → is_rejected_slot slot ≡ false → (seen : ℕ) → seen ≡ events_seen slot → (steps none : List Step) → none ≡ []
    → (cost : ℕ) (robust : Fraction) (found : Found) (status : Status) → status ≡ status_by cost robust found → (number : ℕ) (written : Finding)
    → written ≡ record { number = number; set = hypothesis.set; doubts = hypothesis.doubts; steps = steps; status = status } → (before after : ℕ)
    → ((limit : ℕ) → IsWorkLimit (case_of graph log own) seen (length steps - length none) limit → after ≤ before + limit)
    → IsSlotWithin (case_for graph log hypothesis reach) slot before after written
searched_within there graph log hypothesis reach own slot ignores same_reach fresh seen is_seen steps none is_none cost robust found status is_status number written is_written before after work =
    let case : Case = case_for graph log hypothesis reach in
    let has = there case (events_seen slot) (length steps) in
    let worked : is_worked_on (is_rejected_slot slot) status ≡ true = ap (λ (b : Bool). is_worked_on b status) fresh ∙ ap (is_worked_on false) is_status ∙ searched_worked_on cost robust found in
    let same_case : case ≡ case_of graph log own = λ i. case_of graph (sym (own_log log hypothesis.doubts ignores) i) (sym same_reach i) in
    let same_length : length steps ≡ length steps - length none = omega (arith, ap length is_none) in (
      has.0,
      subst (λ (f : Finding). IsSlotLimit case slot f has.0) (sym is_written) (subst (λ (b : Bool). IsLimitWhere b case (events_seen slot) (length steps) has.0) (sym worked) has.1),
      work has.0 (subst (λ (n : ℕ). IsWorkLimit (case_of graph log own) n (length steps - length none) has.0) (sym is_seen)
          (subst (λ (n : ℕ). IsWorkLimit (case_of graph log own) (events_seen slot) n has.0) same_length (subst (λ (c : Case). IsWorkLimit c (events_seen slot) (length steps) has.0) same_case has.1))),
    )

-- ---- one finding more

-- without a finding there is nothing to count
pub none_within : (IsLimit : ℕ → Finding → ℕ → Type 0) (count : ℕ) → IsWithin IsLimit [] count count
none_within IsLimit count = record {
  limits = [];
  are = record { one_each = refl; each = λ number finding limit at there. absurd (omega (arith, slice_get_within {A = Finding} [] number finding at)) };
  within = omega arith;
}

-- With one finding more that keeps within its limit, all keep within theirs.
pub one_more_within : (IsLimit : ℕ → Finding → ℕ → Type 0) (findings : List Finding) (finding : Finding) (before middle after limit : ℕ) → IsWithin IsLimit findings before middle → IsLimit (length findings) finding limit
    → after ≤ middle + limit → IsWithin IsLimit (findings ++ finding ∷ []) before after
one_more_within IsLimit findings finding before middle after limit is own within = record {
  limits = is.limits ++ limit ∷ [];
  are = record {
    one_each = omega (arith, is.are.one_each, length-append is.limits (limit ∷ []), length-append findings (finding ∷ []));
    each = λ number f l at there.
        ⊎_elim
        (λ early.
        let early_limit : number < length is.limits = omega (arith, early, is.are.one_each) in
        is.are.each number f l (sym (slice_get-push_before findings finding number early) ∙ at) (sym (slice_get-push_before is.limits limit number early_limit) ∙ there))
        (λ late.
        let late_limit : number ≡ length is.limits = omega (arith, late, is.are.one_each) in
        subst (λ (n : ℕ). IsLimit n f l) (sym late)
        (subst (λ (x : Finding). IsLimit (length findings) x l) (same_Some finding f (sym (slice_get-push_at findings finding number late) ∙ at))
        (subst (IsLimit (length findings) finding) (same_Some limit l (sym (slice_get-push_at is.limits limit number late_limit) ∙ there)) own)))
        (below_or_last number (length findings) (omega (arith, slice_get_within (findings ++ finding ∷ []) number f at, length-append findings (finding ∷ []))));
  };
  within = omega (arith, within, is.within, sum_by_push (λ (n : ℕ). n) is.limits limit);
}

-- Where each limit of the one kind is one of the other, what is within the ones is within the others.
pub within_others : (IsLimit IsOther : ℕ → Finding → ℕ → Type 0) (findings : List Finding) (before after : ℕ) → ((number : ℕ) (finding : Finding) (limit : ℕ) → slice_get findings number ≡ Some finding → IsLimit number finding limit → IsOther number finding limit)
    → IsWithin IsLimit findings before after → IsWithin IsOther findings before after
within_others IsLimit IsOther findings before after each is = record {
  limits = is.limits;
  are = record { one_each = is.are.one_each; each = λ number finding limit at there. each number finding limit at (is.are.each number finding limit at there) };
  within = is.within;
}

-- One finding more, as the code has them.
pub found_within : (inquiry : Inquiry) (table : Hypotheses) (old : List Slot) (findings after_push : List Finding) (hypothesis : Hypothesis) (reach : List ℕ) (own : Logbook) (slot : Slot) (finding : Finding) (start before after number : ℕ)
    → own ≡ ignoring inquiry.log hypothesis.doubts → number ≡ length findings → after_push ≡ findings ++ finding ∷ [] → IsRowOf table (record { number = number; hypothesis = hypothesis; reach = reach }) → slice_get old number ≡ Some slot
    → AreSlotsWithin inquiry table old findings start before → IsSlotWithin (case_for inquiry.graph own hypothesis reach) slot before after finding → AreSlotsWithin inquiry table old after_push start after
found_within inquiry table old findings after_push hypothesis reach own slot finding start before after number own_is counted pushed at_row at_slot so_far here =
    let row : Row = record { number = number; hypothesis = hypothesis; reach = reach } in
    let own_limit : IsSlotLimit (case_for inquiry.graph inquiry.log hypothesis reach) slot finding here.0 =
    subst (λ (l : Logbook). IsSlotLimit (case_for inquiry.graph l hypothesis reach) slot finding here.0) own_is here.1 in
    let each : IsLimitBySlots inquiry table old number finding here.0 = λ h r s at there.
    let same = same_row table row (record { number = number; hypothesis = h; reach = r }) at_row at refl in
    subst (λ (x : Row). IsSlotLimit (case_for inquiry.graph inquiry.log x.hypothesis x.reach) s finding here.0) same
    (subst (λ (x : Slot). IsSlotLimit (case_for inquiry.graph inquiry.log hypothesis reach) x finding here.0) (same_Some slot s (sym at_slot ∙ there)) own_limit) in
    subst (λ (fs : List Finding). AreSlotsWithin inquiry table old fs start after) (sym pushed)
    (one_more_within (IsLimitBySlots inquiry table old) findings finding start before after here.0 so_far (subst (λ (n : ℕ). IsLimitBySlots inquiry table old n finding here.0) counted each) here.2)
