-- What a round finds of one hypothesis.
use Rattle.std.proofs.Common.{◌≡◌, ℕ, ◌+◌, ◌<◌, ◌≤◌, ◌⊎◌, inl, inr, ◌↔◌, Bool, true, false, cond, List, [], ◌∷◌, ◌++◌, length, map, get_or, take, set as set_at, refl, sym, ap, subst, ◌∙◌, arith}
use Rattle.std.proofs.Math.Arith.{lt_of_le-ne}
use Rattle.std.specs.Prelude.{IsTrue, ◌==◌, ◌||◌, Option, option_map, Result, Ok, Some, None, slice_get}
use Rattle.std.proofs.lemmas.List.{append-nil, length-append, length-set, take-append-le, take_at}
use Rattle.std.proofs.lemmas.Option.{slice_get-get_or, slice_get-map, slice_get_within, get_or_from_slice_get, same_Some}
use Rattle.tfpg_base.proofs.lemmas.lists.Sequences.{below_or_last}
use Rattle.tfpg_base.proofs.lemmas.lists.Written.{slice_get-set_same, slice_get-set_other, slice_get-push_before, slice_get-push_at}
use Rattle.tfpg_base.specs.declared.no_memory.NoMemory.{NoMemory}
use Rattle.tfpg_base.specs.Hypothesis.{Hypothesis, IsProperPart}
use Rattle.std.proofs.lemmas.Bool.Decides.{nat_tests}
use Rattle.tfpg_base.proofs.lemmas.lists.Cuts.{append_cons-not_nil}
use Rattle.tfpg_graph.specs.Graph.{Tfpg}
use Rattle.tfpg_log.specs.Log.{Logbook, IsOrdered, first_events, ignoring}
use Rattle.tfpg_log.proofs.lemmas.events.Events.{whole_log}
use Rattle.tfpg_evidence.specs.declared.finding.Finding.{Finding}
use Rattle.tfpg_evidence.specs.declared.finding.Status.{Status}
use Rattle.tfpg_evidence.specs.declared.finding.Status.TheVariants as status
use Rattle.tfpg_evidence.specs.declared.step.Step.{Step}
use Rattle.tfpg_evidence.specs.RoundOf.{is_ranked, is_open}
use Rattle.tfpg_evidence.specs.Findings.{hypothesis_of}
use Rattle.tfpg_clause.specs.Case.{Case, case_of}
use Rattle.tfpg_clause.specs.Trees.{Judged, IsPartial, IsRefutation, split_count}
use Rattle.tfpg_hyp.specs.Hypotheses.{Hypotheses, Row, IsRowOf}
use Rattle.tfpg_hyp.specs.Views.{log_for}
use Rattle.tfpg_hyp.specs.declared.place.Fraction.{Fraction}
use Rattle.tfpg_hyp.specs.Ranking.{cost_of, robustness_of, believed_in, alarmed_in}
use Rattle.tfpg_hyp.specs.Rounds.{Inquiry, IsRankedPart, HasRankedPart, IsLeastPart}
use Rattle.tfpg_log.specs.Explains.{Explains}
use Rattle.tfpg_search.specs.Enough.{IsEnough}
use Rattle.tfpg_search.specs.Live.{HasNoNameTwice, AllowsReuse, IsUnsettled}
use Rattle.tfpg_search.specs.SearchState.{SearchState}
use Rattle.tfpg_search.specs.Represents.{SearchRepresents, RepresentsSome}
use Rattle.tfpg_clause.specs.Paths.{with_steps}
use Rattle.tfpg_search.specs.Searched.{AreSearchSteps, Finds, IsSearched}
use Rattle.tfpg_search.specs.declared.found.Found.{Found}
use Rattle.tfpg_search.specs.declared.found.Found.TheVariants.{Shown, Closed, Spent}
use Rattle.tfpg_engine.specs.declared.slot.Slot.{Slot}
use Rattle.tfpg_engine.specs.declared.slot.Slot.TheVariants.{Untouched, Searched, Rejected}
use Rattle.tfpg_engine.specs.Earned.{IsEarned}
use Rattle.tfpg_engine.specs.EngineState.{SlotRepresents, is_rejected_slot}
use Rattle.tfpg_engine.specs.inside.TreeLaws.{TreeLaws}
use Rattle.tfpg_engine.specs.inside.NewFindings.{kept, status_by, IsKeptAfter, RanksByFraction, GoesOnFrom, IsNewFinding, AreFirstFindings, PartsStandFirst}
use Rattle.tfpg_engine.proofs.lemmas.KeptStaysRight.{slot_partial}
use Rattle.tfpg_engine.proofs.lemmas.Ignoring.{own_log, ordered_for}
use Rattle.tfpg_engine.proofs.lemmas.EnoughIgnoring.{enough_ignoring}

-- ---- the robustness of a set is a fraction

fraction_by : (monitored alarmed : ℕ) (b : Bool) → (monitored == 0) ≡ b → 1 ≤ (cond {A = Fraction} b (record { alarmed = 1; monitored = 1 }) (record { alarmed = alarmed; monitored = monitored })).monitored
fraction_by monitored alarmed true is = omega arith
fraction_by monitored alarmed false is = grind (arith, nat_tests)

fraction_of : (graph : Tfpg) (log : Logbook) (reach doubts : List ℕ) → 1 ≤ (robustness_of graph log reach doubts).monitored
fraction_of graph log reach doubts = fraction_by (believed_in graph reach doubts) (alarmed_in graph log reach doubts) (believed_in graph reach doubts == 0) refl

module _ (inquiry : Inquiry) (hypothesis : Hypothesis) (reach : List ℕ) (number : ℕ) (findings : List Finding) (ordered : IsOrdered inquiry.log) where
  abbrev graph : Tfpg
  graph = inquiry.graph

  -- what the hypothesis sees of the log
  abbrev log : Logbook
  log = log_for inquiry.log hypothesis

  ordered_log : IsOrdered log
  ordered_log = ordered_for inquiry.log hypothesis.doubts ordered

  abbrev budget : ℕ
  budget = inquiry.terms.budget

  abbrev case : Case
  case = case_of graph log reach

  abbrev row : Row
  row = record { number = number; hypothesis = hypothesis; reach = reach }

  -- ---- a hypothesis that is not searched

  no_steps : (earlier : List Judged) → with_steps earlier log [] ≡ earlier
  no_steps earlier = append-nil earlier

  abbrev passed : Status → Finding
  passed s = record { number = number; set = hypothesis.set; doubts = hypothesis.doubts; steps = []; status = s }

  earned_none : (earlier : List Judged) (s : Status) → is_open s ≡ false → is_ranked s ≡ false → HasNoNameTwice case earlier → IsEarned case budget earlier (passed s)
  earned_none earlier s none_open none_ranked names = record {
    steps = record {
      each = λ front step back is. absurd (append_cons-not_nil front step back is);
      names = subst (HasNoNameTwice case) (sym (no_steps earlier)) names;
    };
    within = omega arith;
    unsettled = λ holds. (let clash : true ≡ false = sym holds ∙ none_open in cc);
    none_reusable = λ holds allows. (let clash : true ≡ false = sym holds ∙ (λ i. none_ranked i || none_open i) in cc);
  }

  rejected_goes : (slot : Slot) → is_rejected_slot slot ≡ true → (earlier : List Judged) → SlotRepresents case hypothesis slot earlier
      → GoesOnFrom inquiry row findings earlier slot (passed status.Rejected)
  rejected_goes Untouched is earlier represents = cc
  rejected_goes (Searched search) is earlier represents = cc
  rejected_goes (Rejected calls) is earlier represents = record {
    represents = subst (SlotRepresents case hypothesis (Rejected calls)) (sym (no_steps earlier)) represents;
    evidence = subst (IsRefutation case) (sym (no_steps earlier)) represents.0;
    earned = earned_none earlier status.Rejected refl refl represents.1;
  }

  -- A rejected hypothesis is passed over.
  pub new_finding_rejected : (slot : Slot) → is_rejected_slot slot ≡ true → IsNewFinding inquiry row findings slot slot (passed status.Rejected)
  new_finding_rejected slot is = record { number_is = refl; hypothesis_is = refl; whole = λ key key_is. cc; none_open = λ enough. refl; kept_is = is; goes_on = rejected_goes slot is }

  -- So is one with a ranked proper part.
  pub new_finding_covered : TreeLaws → (slot : Slot) (by : ℕ) → is_rejected_slot slot ≡ false → IsLeastPart findings hypothesis by → IsNewFinding inquiry row findings slot slot (passed (status.Covered by))
  new_finding_covered laws slot by open_yet least = record {
    number_is = refl;
    hypothesis_is = refl;
    whole = λ key key_is. cc;
    none_open = λ enough. refl;
    kept_is = refl;
    goes_on = λ earlier represents.
        let good = slot_partial laws case ordered_log hypothesis slot earlier open_yet represents in
        record {
          represents = subst (SlotRepresents case hypothesis slot) (sym (no_steps earlier)) represents;
          evidence = (subst (IsPartial case) (sym (no_steps earlier)) good.partial, refl, least);
          earned = earned_none earlier (status.Covered by) refl refl good.names;
        };
  }

  -- ---- a hypothesis that is searched

  module _ (old : Slot) (fresh : is_rejected_slot old ≡ false) (before new : SearchState) (steps : List Step) (none : HasRankedPart findings hypothesis → ⊥)
      (begins : (earlier : List Judged) → SlotRepresents case hypothesis old earlier → SlotRepresents case hypothesis (Searched before) earlier)
      (same_set : new.set ≡ before.set) (same_reach : new.reach ≡ before.reach) (seen : new.seen ≡ length log.events) where
    abbrev searched_finding : Status → Finding
    searched_finding s = record { number = number; set = hypothesis.set; doubts = hypothesis.doubts; steps = steps; status = s }

    abbrev status_of : Found → Status
    status_of found = status_by (cost_of graph hypothesis) (robustness_of graph log reach hypothesis.doubts) found

    whole_of : (found : Found) → RanksByFraction number (status_of found)
    whole_of (Shown trace) key is =
        let robust : (robustness_of graph log reach hypothesis.doubts).monitored ≡ key.robust.monitored = cc in
        subst (λ (n : ℕ). 1 ≤ n) robust (fraction_of graph log reach hypothesis.doubts)
    whole_of Closed key is = cc
    whole_of Spent key is = cc

    module _ (earlier : List Judged) (is_set : new.set ≡ hypothesis.set) (is_reach : new.reach ≡ reach) (within : split_count steps ≤ budget) (right : AreSearchSteps case earlier steps) where
      abbrev all : List Judged
      all = with_steps earlier log steps

      -- no subtree is reusable after all steps, where this is the reach
      abbrev NoneAfter : List ℕ → Type 0
      NoneAfter r = AllowsReuse (case_of graph log r) all → ⊥

      still : SearchRepresents graph log new all → SlotRepresents case hypothesis (Searched new) all
      still represents =
          let at_seen : log ≡ first_events log new.seen = sym (ap (first_events log) seen ∙ whole_log log) in
          (is_set, is_reach, subst (λ (l : Logbook). SearchRepresents graph l new all) at_seen represents)

      partial_of : SearchRepresents graph log new all → IsPartial case all
      partial_of represents = subst (λ (r : List ℕ). IsPartial (case_of graph log r) all) is_reach represents.leaf.partial

      goes : (found : Found) → Finds (case_of graph log new.reach) budget steps all new found → GoesOnFrom inquiry row findings earlier (kept new found) (searched_finding (status_of found))
      goes (Shown trace) finds = record {
        represents = still finds.1;
        evidence = (partial_of finds.1, subst (λ (s : List ℕ). Explains graph log s trace) is_set finds.0, none, refl, refl);
        earned = record { steps = right; within = within; unsettled = λ holds. cc; none_reusable = λ holds. subst NoneAfter is_reach finds.2 };
      }
      goes Closed finds =
          let refutes : IsRefutation case all = subst (λ (r : List ℕ). IsRefutation (case_of graph log r) all) is_reach finds in
          record {
            represents = (refutes, right.names);
            evidence = refutes;
            earned = record { steps = right; within = within; unsettled = λ holds. cc; none_reusable = λ holds. cc };
          }
      goes Spent finds = record {
        represents = still finds.2;
        evidence = (partial_of finds.2, none, finds.0);
        earned = record { steps = right; within = within; unsettled = λ holds. subst (λ (r : List ℕ). IsUnsettled (case_of graph log r) all) is_reach finds.1; none_reusable = λ holds. subst NoneAfter is_reach finds.3 };
      }

    -- with a budget that is enough it is not open
    none_open_of : (found : Found) → (IsEnough graph log budget → found ≡ Spent → ⊥) → IsEnough graph log budget → is_open (status_of found) ≡ false
    none_open_of (Shown trace) never enough = refl
    none_open_of Closed never enough = refl
    none_open_of Spent never enough = absurd (never enough refl)

    kept_after : (found : Found) → IsKeptAfter (length log.events) (status_of found) old (kept new found)
    kept_after (Shown trace) = record { not_before = fresh; not_now = refl; seen = seen }
    kept_after Closed = refl
    kept_after Spent = record { not_before = fresh; not_now = refl; seen = seen }

    -- The finding on a hypothesis that is searched on.
    pub new_finding_searched : (found : Found) → (IsEnough graph log budget → found ≡ Spent → ⊥) → IsSearched graph log budget (record { old = before; new = new; before = []; after = steps }) (Ok found)
        → IsNewFinding inquiry row findings old (kept new found) (searched_finding (status_of found))
    new_finding_searched found never searched = record {
      number_is = refl;
      hypothesis_is = refl;
      whole = whole_of found;
      none_open = λ enough. none_open_of found never (enough_ignoring graph inquiry.log hypothesis.doubts budget enough);
      kept_is = kept_after found;
      goes_on = λ earlier represents.
          let start = begins earlier represents in
          let added : searched.added ≡ steps = sym searched.appended in
          let right = subst (λ (r : List ℕ). AreSearchSteps (case_of graph log r) earlier steps) start.1
          (subst (AreSearchSteps (case_of graph log before.reach) earlier) added (searched.right earlier start.2)) in
          goes earlier (same_set ∙ start.0) (same_reach ∙ start.1) (subst (λ (s : List Step). split_count s ≤ budget) added searched.within) right found
          (subst (λ (s : List Step). Finds (case_of graph log new.reach) budget s (with_steps earlier log s) new found) added (searched.found earlier start.2));
    }

-- ---- the log that ignores the monitors of the hypothesis

module _ (graph : Tfpg) (log : Logbook) (doubts : List ℕ) (own : log.ignored ≡ doubts) where
  same : log ≡ ignoring log doubts
  same = own_log log doubts own

  -- what a search represents at the log that ignores these monitors, it represents at the log, if that ignores them
  pub represents_some : (search : SearchState) → RepresentsSome graph (ignoring log doubts) search → RepresentsSome graph log search
  represents_some search some = subst (λ (l : Logbook). RepresentsSome graph l search) (sym same) some

  -- what was searched by the log, was searched by the log that ignores them
  pub searched_ignoring : (budget : ℕ) (old new : SearchState) (before after : List Step) (found : Found) → before ≡ [] → IsSearched graph log budget (record { old = old; new = new; before = before; after = after }) (Ok found)
      → IsSearched graph (ignoring log doubts) budget (record { old = old; new = new; before = []; after = after }) (Ok found)
  searched_ignoring budget old new before after found none searched =
      subst (λ (l : Logbook). IsSearched graph l budget (record { old = old; new = new; before = []; after = after }) (Ok found)) same
      (subst (λ (steps : List Step). IsSearched graph log budget (record { old = old; new = new; before = steps; after = after }) (Ok found)) none searched)

  -- a budget that is enough for the one log is enough for the other
  pub not_spent : (budget : ℕ) (found : Found) → (IsEnough graph log budget → ◌≡◌ {A = Result Found NoMemory} (Ok found) (Ok Spent) → ⊥) → IsEnough graph (ignoring log doubts) budget → found ≡ Spent → ⊥
  not_spent budget found never enough is = never (subst (λ (l : Logbook). IsEnough graph l budget) (sym same) enough) (ap Ok is)

-- The finding and the slot as the code has them.
pub as_written : (inquiry : Inquiry) (row : Row) (findings : List Finding) (old new written_slot : Slot) (number : ℕ) (set doubts : List ℕ) (steps : List Step) (by written_status : Status) (written : Finding)
    → written ≡ record { number = number; set = set; doubts = doubts; steps = steps; status = written_status } → written_slot ≡ new → written_status ≡ by
    → IsNewFinding inquiry row findings old new (record { number = number; set = set; doubts = doubts; steps = steps; status = by }) → IsNewFinding inquiry row findings old written_slot written
as_written inquiry row findings old new written_slot number set doubts steps by written_status written is_written same_slot same_status is_new =
    subst (λ (f : Finding). IsNewFinding inquiry row findings old written_slot f) (sym is_written)
    (subst (λ (slot : Slot). IsNewFinding inquiry row findings old slot (record { number = number; set = set; doubts = doubts; steps = steps; status = written_status })) (sym same_slot)
    (subst (λ (s : Status). IsNewFinding inquiry row findings old new (record { number = number; set = set; doubts = doubts; steps = steps; status = s })) (sym same_status) is_new))

-- The finding by the log that ignores the monitors of the hypothesis is that of the round.
pub found_ignoring : (inquiry : Inquiry) (row : Row) (own : Logbook) (findings : List Finding) (old new : Slot) (finding : Finding) → own ≡ ignoring inquiry.log row.hypothesis.doubts
    → IsNewFinding (record inquiry { log = own }) row findings old new finding → IsNewFinding inquiry row findings old new finding
found_ignoring inquiry row own findings old new finding is found =
    let is_new = subst (λ (l : Logbook). IsNewFinding (record inquiry { log = l }) row findings old new finding) is found in
    record {
      number_is = is_new.number_is;
      hypothesis_is = is_new.hypothesis_is;
      whole = is_new.whole;
      none_open = λ enough. is_new.none_open (enough_ignoring inquiry.graph inquiry.log row.hypothesis.doubts inquiry.terms.budget enough);
      kept_is = is_new.kept_is;
      goes_on = λ earlier represents.
          let goes = is_new.goes_on earlier represents in
          record { represents = goes.represents; evidence = goes.evidence; earned = goes.earned };
    }

-- ---- which ranked hypothesis covers one

module _ (findings : List Finding) (hypothesis : Hypothesis) (number : ℕ) where
  -- the finding of this number does not rank a proper part of the hypothesis
  pub not_yet : (read : Finding) (covers : Bool) → read ≡ get_or findings number read → ((other : ℕ) → IsRankedPart findings hypothesis other → number ≤ other)
      → IsTrue covers ↔ (IsTrue (is_ranked read.status) × IsProperPart (hypothesis_of read) hypothesis) → covers ≡ false → (other : ℕ) → IsRankedPart findings hypothesis other → number + 1 ≤ other
  not_yet read covers is so_far test not_covering other part = omega (arith, lt_of_le-ne (so_far other part) (differs other part))
    where
      differs : (other : ℕ) → IsRankedPart findings hypothesis other → number ≡ other → ⊥
      differs other part same =
          let here : read ≡ part.finding = is ∙ get_or_from_slice_get findings number part.finding read (ap (slice_get findings) same ∙ part.numbered) in
          let holds : IsTrue covers = test.1 (subst (λ (f : Finding). IsTrue (is_ranked f.status)) (sym here) part.ranked, subst (λ (f : Finding). IsProperPart (hypothesis_of f) hypothesis) (sym here) part.part) in
          let clash : true ≡ false = sym holds ∙ not_covering in
          cc

  pub none_at_all : length findings ≤ number → ((other : ℕ) → IsRankedPart findings hypothesis other → number ≤ other) → HasRankedPart findings hypothesis → ⊥
  none_at_all long so_far has = absurd (omega (arith, long, so_far has.0 has.1, slice_get_within findings has.0 has.1.finding has.1.numbered))

  -- no finding from this one on ranks a proper part, where this one has as many failure modes as the hypothesis has members
  pub none_from_here : (read : Finding) → PartsStandFirst (map hypothesis_of findings) hypothesis → read ≡ get_or findings number read → number < length findings
      → length hypothesis.set + length hypothesis.doubts ≤ length read.set → ((other : ℕ) → IsRankedPart findings hypothesis other → number ≤ other) → HasRankedPart findings hypothesis → ⊥
  none_from_here read first is within many so_far has =
      first number has.0 (hypothesis_of read) (hypothesis_of has.1.finding)
      (slice_get-map hypothesis_of findings number ∙ ap (option_map hypothesis_of) (slice_get-get_or findings number read within ∙ ap Some (sym is)))
      (slice_get-map hypothesis_of findings has.0 ∙ ap (option_map hypothesis_of) has.1.numbered) (so_far has.0 has.1) (omega (arith, many)) has.1.part

-- ---- one hypothesis after the other

same_new_finding : (inquiry : Inquiry) (row row' : Row) (fs fs' : List Finding) (a a' b b' : Slot) (f f' : Finding) → row ≡ row' → fs ≡ fs' → a ≡ a' → b ≡ b' → f ≡ f'
    → IsNewFinding inquiry row fs a b f → IsNewFinding inquiry row' fs' a' b' f'
same_new_finding inquiry row row' fs fs' a a' b b' f f' e1 e2 e3 e4 e5 is_new =
    subst (λ (x : Row). IsNewFinding inquiry x fs' a' b' f') e1
    (subst (λ (x : List Finding). IsNewFinding inquiry row x a' b' f') e2
    (subst (λ (x : Slot). IsNewFinding inquiry row fs x b' f') e3
    (subst (λ (x : Slot). IsNewFinding inquiry row fs a x f') e4
    (subst (λ (x : Finding). IsNewFinding inquiry row fs a b x) e5 is_new))))

-- rows of one table with one number are the same
pub same_row : (table : Hypotheses) (one other : Row) → IsRowOf table one → IsRowOf table other → one.number ≡ other.number → one ≡ other
same_row table one other is also same = λ i. record {
  number = same i;
  hypothesis = same_Some one.hypothesis other.hypothesis (sym is.hypothesis ∙ ap (slice_get table.hypotheses) same ∙ also.hypothesis) i;
  reach = same_Some one.reach other.reach (sym is.reach ∙ ap (slice_get table.reaches) same ∙ also.reach) i;
}

pub none_found : (inquiry : Inquiry) (table : Hypotheses) (slots : List Slot) → AreFirstFindings inquiry table slots slots [] 0
none_found inquiry table slots =
    record { counted = refl; one_each = refl; each = λ row is before now finding at_before at_now at. cc; same = λ number least. refl }

module _ (inquiry : Inquiry) (table : Hypotheses) (old slots : List Slot) (findings : List Finding) (row : Row) (so_far : AreFirstFindings inquiry table old slots findings row.number)
    (before now : Slot) (finding : Finding) (at_row : IsRowOf table row)
    (at_slot : slice_get slots row.number ≡ Some before) (is_new : IsNewFinding inquiry row findings before now finding) where
  abbrev slots_now : List Slot
  slots_now = set_at slots row.number now

  abbrev findings_now : List Finding
  findings_now = findings ++ finding ∷ []

  -- one more finding
  pub turned : AreFirstFindings inquiry table old slots_now findings_now (row.number + 1)
  turned = record {
    counted = omega (arith, length-append findings (finding ∷ []), so_far.counted);
    one_each = length-set slots row.number now ∙ so_far.one_each;
    each = λ other is b w f at_b at_w at_f.
        by other is b w f at_b at_w at_f (below_or_last other.number row.number (omega (arith, slice_get_within findings_now other.number f at_f, length-append findings (finding ∷ []), so_far.counted)));
    same = λ n least. slice_get-set_other slots row.number n now (λ same. omega (arith, same, least)) ∙ so_far.same n (omega (arith, least));
  }
    where
      by : (other : Row) → IsRowOf table other → (b w : Slot) (f : Finding) → slice_get old other.number ≡ Some b → slice_get slots_now other.number ≡ Some w
          → slice_get findings_now other.number ≡ Some f → (other.number < row.number) ⊎ (other.number ≡ row.number) → IsNewFinding inquiry other (take other.number findings_now) b w f
      by other is b w f at_b at_w at_f (inl less) =
          let within : other.number < length findings = omega (arith, less, so_far.counted) in
          let front : take other.number findings_now ≡ take other.number findings = take-append-le other.number findings (finding ∷ []) (omega (arith, within)) in
          subst (λ (fs : List Finding). IsNewFinding inquiry other fs b w f) (sym front)
          (so_far.each other is b w f at_b (sym (slice_get-set_other slots row.number other.number now (λ same. omega (arith, same, less))) ∙ at_w)
          (sym (slice_get-push_before findings finding other.number within) ∙ at_f))
      by other is b w f at_b at_w at_f (inr same) =
          let inside : row.number < length slots = slice_get_within slots row.number before at_slot in
          same_new_finding inquiry row other findings (take other.number findings_now) before b now w finding f (same_row table row other at_row is (sym same))
          (sym (ap (λ (m : ℕ). take m findings_now) same ∙ take_at findings (finding ∷ []) row.number so_far.counted))
          (same_Some before b (sym at_slot ∙ so_far.same row.number (omega arith) ∙ ap (slice_get old) (sym same) ∙ at_b))
          (same_Some now w (sym (slice_get-set_same slots row.number now inside) ∙ ap (slice_get slots_now) (sym same) ∙ at_w))
          (same_Some finding f (sym (slice_get-push_at findings finding row.number (sym so_far.counted)) ∙ ap (slice_get findings_now) (sym same) ∙ at_f)) is_new

-- ---- what a new finding takes

module _ (inquiry : Inquiry) (table : Hypotheses) (old slots : List Slot) (findings : List Finding) (number : ℕ) (so_far : AreFirstFindings inquiry table old slots findings number)
    (one_each : length old ≡ length table.hypotheses) (within : number < length table.hypotheses) where
  -- what is kept of the hypothesis of this number is what was kept before
  pub slot_there : (d : Slot) → slice_get slots number ≡ Some (get_or slots number d)
  slot_there d = slice_get-get_or slots number d (omega (arith, so_far.one_each, one_each, within))

  pub slot_before : (d : Slot) → slice_get old number ≡ Some (get_or slots number d)
  slot_before d = sym (so_far.same number (omega arith)) ∙ slot_there d

  -- one more finding, as the code has them
  pub found_by : (hypothesis : Hypothesis) (reach : List ℕ) (d now : Slot) (finding : Finding) (read after : List Finding) → slice_get table.hypotheses number ≡ Some hypothesis
      → slice_get table.reaches number ≡ Some reach → read ≡ findings → after ≡ findings ++ finding ∷ []
      → IsNewFinding inquiry (record { number = number; hypothesis = hypothesis; reach = reach }) read (get_or slots number d) now finding
      → AreFirstFindings inquiry table old (set_at slots number now) after (number + 1)
  found_by hypothesis reach d now finding read after at_hypothesis at_reach is_read is_after is_new =
      let row : Row = record { number = number; hypothesis = hypothesis; reach = reach } in
      subst (λ (fs : List Finding). AreFirstFindings inquiry table old (set_at slots number now) fs (number + 1)) (sym is_after)
      (turned inquiry table old slots findings row so_far (get_or slots number d) now finding (record { hypothesis = at_hypothesis; reach = at_reach }) (slot_there d)
      (subst (λ (fs : List Finding). IsNewFinding inquiry row fs (get_or slots number d) now finding) is_read is_new))

  -- a finding so far is on the hypothesis of its number
  finding_on : length table.reaches ≡ length table.hypotheses → (other : ℕ) (finding : Finding) → slice_get findings other ≡ Some finding → slice_get table.hypotheses other ≡ Some (hypothesis_of finding)
  finding_on reached other finding at =
      let below : other < length table.hypotheses = omega (arith, slice_get_within findings other finding at, so_far.counted, within) in
      let there = slice_get-get_or table.hypotheses other (hypothesis_of finding) below in
      let row : Row = record { number = other; hypothesis = get_or table.hypotheses other (hypothesis_of finding); reach = get_or table.reaches other [] } in
      let is_new =
      so_far.each row (record { hypothesis = there; reach = slice_get-get_or table.reaches other [] (omega (arith, below, reached)) }) (get_or old other Untouched) (get_or slots other Untouched) finding
      (slice_get-get_or old other Untouched (omega (arith, below, one_each))) (slice_get-get_or slots other Untouched (omega (arith, below, one_each, so_far.one_each))) at in
      there ∙ ap Some (sym is_new.hypothesis_is)

  -- parts stand first among the findings so far, as they do in the table
  pub parts_first_so_far : length table.reaches ≡ length table.hypotheses → (read : List Finding) → read ≡ findings → (whole : Hypothesis) → PartsStandFirst table.hypotheses whole
      → PartsStandFirst (map hypothesis_of read) whole
  parts_first_so_far reached read is_read whole first =
      subst (λ (fs : List Finding). PartsStandFirst (map hypothesis_of fs) whole) (sym is_read)
      (λ one other hypothesis part at at_part. first one other hypothesis part (on_table one hypothesis at) (on_table other part at_part))
    where
      by : (other : ℕ) (hypothesis : Hypothesis) (at : Option Finding) → slice_get findings other ≡ at → option_map hypothesis_of at ≡ Some hypothesis → slice_get table.hypotheses other ≡ Some hypothesis
      by other hypothesis None is none = cc
      by other hypothesis (Some finding) is some = finding_on reached other finding is ∙ some

      on_table : (other : ℕ) (hypothesis : Hypothesis) → slice_get (map hypothesis_of findings) other ≡ Some hypothesis → slice_get table.hypotheses other ≡ Some hypothesis
      on_table other hypothesis at = by other hypothesis (slice_get findings other) refl (sym (slice_get-map hypothesis_of findings other) ∙ at)
