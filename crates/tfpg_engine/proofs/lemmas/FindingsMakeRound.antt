-- The findings of a round, whatever the earlier rounds were, are a round for all rounds that the engine represents.
use Rattle.std.proofs.Common.{◌≡◌, ℕ, ◌<◌, List, [], ◌∷◌, ◌++◌, length, take, Option, Some, None, refl, sym, ap, subst, ◌∙◌, false}
use Rattle.std.specs.Prelude.{slice_get, sum, option_and_then}
use Rattle.std.proofs.lemmas.List.Folds.{list_any_none}
use Rattle.std.proofs.lemmas.Option.{same_Some}
use Rattle.tfpg_base.specs.declared.terms.Terms.{Terms}
use Rattle.tfpg_base.proofs.lemmas.lists.Cuts.{slice_get-take, slice_get-taken}
use Rattle.tfpg_base.proofs.lemmas.lists.Elements.{All-from_indexes, slice_get-same_length}
use Rattle.tfpg_base.specs.Hypothesis.{Hypothesis, IsProperPart}
use Rattle.tfpg_graph.specs.Graph.{Tfpg}
use Rattle.tfpg_log.specs.Log.{Logbook, IsOrdered, GoesOn, now_of}
use Rattle.tfpg_evidence.specs.declared.finding.Finding.{Finding}
use Rattle.tfpg_evidence.specs.declared.finding.Status.{Status}
use Rattle.tfpg_evidence.specs.declared.finding.Status.TheVariants as status
use Rattle.tfpg_evidence.specs.declared.round.Round.{Round}
use Rattle.tfpg_evidence.specs.declared.round.Counts.{Counts}
use Rattle.tfpg_evidence.specs.RoundOf.{is_open}
use Rattle.tfpg_evidence.specs.Findings.{hypothesis_of}
use Rattle.tfpg_clause.specs.Case.{Case}
use Rattle.tfpg_clause.specs.Trees.{Judged}
use Rattle.tfpg_hyp.specs.Table.{IsTable}
use Rattle.tfpg_hyp.specs.Hypotheses.{Hypotheses, Row, IsRowOf, IsTableOf}
use Rattle.tfpg_hyp.specs.Views.{IsReachOf, case_for}
use Rattle.tfpg_hyp.specs.declared.place.Place.{Place}
use Rattle.tfpg_hyp.specs.Rounds.{Inquiry, IsRound, IsFinding, IsOrder, HasNoneOpen, counts_of, HasEvidence, IsRankedPart, steps_so_far, key_at, key_of_status}
use Rattle.tfpg_hyp.proofs.lemmas.FindingsOfRound.{steps_so_far-push}
use Rattle.tfpg_search.specs.Enough.{IsEnough}
use Rattle.tfpg_clause.specs.Paths.{with_steps}
use Rattle.tfpg_engine.specs.declared.slot.Slot.{Slot}
use Rattle.tfpg_engine.specs.Earned.{IsEarned, AreEarned}
use Rattle.tfpg_engine.specs.EngineState.{SlotRepresents, IsWorkedOn}
use Rattle.tfpg_engine.specs.Work.{was_rejected, last_worked_on, is_worked_on, IsFindingLimit, IsRoundWithin}
use Rattle.tfpg_engine.specs.inside.SlotWork.{IsLimitWhere, IsLimitBySlots, AreSlotsWithin}
use Rattle.tfpg_engine.proofs.lemmas.RoundWork.{worked_on_still, limit_by_rounds}
use Rattle.tfpg_engine.proofs.lemmas.FindingWork.{within_others}
use Rattle.tfpg_engine.specs.inside.Slots.{AllCanGoOn}
use Rattle.tfpg_engine.specs.inside.RankedKeys.{HasFraction}
use Rattle.tfpg_engine.specs.inside.TreeLaws.{TreeLaws}
use Rattle.tfpg_engine.specs.inside.NewFindings.{GoesOnFrom, IsNewFinding, AreNewFindings, MakesRound}
use Rattle.tfpg_engine.proofs.lemmas.KeptStaysRight.{stays_for}

-- ---- one new finding

-- the row of these parts
abbrev pub row_with : ℕ → Hypothesis → List ℕ → Row
row_with number hypothesis reach = record { number = number; hypothesis = hypothesis; reach = reach }

module _ (inquiry : Inquiry) (table : Hypotheses) (old new : List Slot) (findings : List Finding) (each : AreNewFindings inquiry table old new findings)
    (complete : length findings ≡ length table.hypotheses) (reached : length table.reaches ≡ length table.hypotheses) (old_each : length old ≡ length table.hypotheses) (new_each : length new ≡ length old) where
  -- the new finding of a number, with what the table and the slots have there
  pub record NewFindingAt (number : ℕ) (finding : Finding) : Type 0 where
    pub hypothesis : Hypothesis
    pub reach : List ℕ
    pub before : Slot
    pub now : Slot
    pub at : IsRowOf table (row_with number hypothesis reach)
    pub at_before : slice_get old number ≡ Some before
    pub at_now : slice_get new number ≡ Some now
    pub is_new : IsNewFinding inquiry (row_with number hypothesis reach) (take number findings) before now finding

  new_finding_at : (number : ℕ) (finding : Finding) → slice_get findings number ≡ Some finding → NewFindingAt number finding
  new_finding_at number finding at =
      let hypothesis = slice_get-same_length table.hypotheses findings number finding complete at in
      let reach = slice_get-same_length table.reaches findings number finding (complete ∙ sym reached) at in
      let before = slice_get-same_length old findings number finding (complete ∙ sym old_each) at in
      let now = slice_get-same_length new findings number finding (complete ∙ sym old_each ∙ sym new_each) at in
      record {
        hypothesis = hypothesis.0;
        reach = reach.0;
        before = before.0;
        now = now.0;
        at = record { hypothesis = hypothesis.1; reach = reach.1 };
        at_before = before.1;
        at_now = now.1;
        is_new = each (row_with number hypothesis.0 reach.0) (record { hypothesis = hypothesis.1; reach = reach.1 }) before.0 now.0 finding before.1 now.1 at;
      }

  fraction_by : (number : ℕ) (key : Place) (at : Option Finding) → slice_get findings number ≡ at → option_and_then (λ (f : Finding). key_of_status number f.status) at ≡ Some key → HasFraction key
  fraction_by number key None is key_is = cc
  fraction_by number key (Some finding) is key_is = (new_finding_at number finding is).is_new.whole key key_is

  -- the robustness of each key is a fraction
  pub fractions_of : (number : ℕ) (key : Place) → key_at findings number ≡ Some key → HasFraction key
  fractions_of number key key_is = fraction_by number key (slice_get findings number) refl key_is

  -- what is kept now can go on
  pub still_go_on : AllCanGoOn inquiry.graph inquiry.log table old → AllCanGoOn inquiry.graph inquiry.log table new
  still_go_on can row slot is at_slot =
      let finding = slice_get-same_length findings new row.number slot (new_each ∙ old_each ∙ sym complete) at_slot in
      let before = slice_get-same_length old new row.number slot new_each at_slot in
      let earlier = can row before.0 is before.1 in
      let goes = (each row is before.0 slot finding.0 before.1 at_slot finding.1).goes_on earlier.0 earlier.1 in
      (with_steps earlier.0 inquiry.log finding.0.steps, goes.represents)

-- what is kept can go on at a log that goes on
pub can_go_on : TreeLaws → (graph : Tfpg) (earlier later : Logbook) → IsOrdered later → GoesOn earlier later → (table : Hypotheses) (slots : List Slot) → AllCanGoOn graph earlier table slots
    → AllCanGoOn graph later table slots
can_go_on laws graph earlier later ordered goes_on table slots can row slot is at_slot =
    let some = can row slot is at_slot in
    (some.0, stays_for laws graph earlier later ordered goes_on row.hypothesis row.reach slot some.0 some.1)

-- ---- the round

-- That proper parts have lesser numbers is a law of the table.
abbrev pub StandBefore : Type 0
StandBefore =
    (graph : Tfpg) (terms : Terms) (hypotheses : List Hypothesis) → IsTable graph terms hypotheses → (number other : ℕ) (part whole : Hypothesis) → slice_get hypotheses number ≡ Some part
    → slice_get hypotheses other ≡ Some whole → IsProperPart part whole → number < other

module _ (laws : TreeLaws) (stand_before : StandBefore) (inquiry : Inquiry) (line : ℕ) (rounds : List Round) (old_log : Logbook) (table : Hypotheses) (old new : List Slot) (round : Round)
    (is_table : IsTableOf inquiry.graph inquiry.terms table) (ordered : IsOrdered inquiry.log) (goes_on : GoesOn old_log inquiry.log) (made : MakesRound inquiry table old new line round)
    (old_each : length old ≡ length table.hypotheses) (new_each : length new ≡ length old)
    (represented : (row : Row) (slot : Slot) → IsRowOf table row → slice_get old row.number ≡ Some slot
    → SlotRepresents (case_for inquiry.graph old_log row.hypothesis row.reach) row.hypothesis slot (steps_so_far row.number rounds))
    (worked : (row : Row) (slot : Slot) → IsRowOf table row → slice_get old row.number ≡ Some slot → IsWorkedOn row.number rounds slot) where
  abbrev findings : List Finding
  findings = round.findings

  at_number : (number : ℕ) (finding : Finding) → slice_get findings number ≡ Some finding → NewFindingAt inquiry table old new findings made.each made.complete is_table.reached.complete old_each new_each number finding
  at_number number finding at = new_finding_at inquiry table old new findings made.each made.complete is_table.reached.complete old_each new_each number finding at

  -- a ranked proper part stands before
  below : (number : ℕ) (finding : Finding) → slice_get findings number ≡ Some finding → (other : ℕ) → IsRankedPart findings (hypothesis_of finding) other → other < number
  below number finding at other part =
      let own = at_number number finding at in
      let there = at_number other part.finding part.numbered in
      stand_before inquiry.graph inquiry.terms table.hypotheses is_table.hypotheses other number (hypothesis_of part.finding) (hypothesis_of finding) (there.at.hypothesis ∙ ap Some (sym there.is_new.hypothesis_is))
      (own.at.hypothesis ∙ ap Some (sym own.is_new.hypothesis_is)) part.part

  -- a ranked proper part among all is one among those before
  among_first : (number : ℕ) (finding : Finding) → slice_get findings number ≡ Some finding → (other : ℕ) → IsRankedPart findings (hypothesis_of finding) other → IsRankedPart (take number findings) (hypothesis_of finding) other
  among_first number finding at other part =
      record { finding = part.finding; numbered = slice_get-take number findings other (below number finding at other part) ∙ part.numbered; ranked = part.ranked; part = part.part }

  among_all : (number : ℕ) (hypothesis : Hypothesis) (other : ℕ) → IsRankedPart (take number findings) hypothesis other → IsRankedPart findings hypothesis other
  among_all number hypothesis other part =
      record { finding = part.finding; numbered = (slice_get-taken number findings other part.finding part.numbered).1; ranked = part.ranked; part = part.part }

  evidence_by : (number : ℕ) (finding : Finding) → slice_get findings number ≡ Some finding → (case : Case) (steps : List Judged) (s : Status)
      → HasEvidence case inquiry.terms.budget (take number findings) steps finding s → HasEvidence case inquiry.terms.budget findings steps finding s
  evidence_by number finding at case steps status.Rejected is = is
  evidence_by number finding at case steps (status.Covered by) is =
      (is.0, is.1, record { part = among_all number (hypothesis_of finding) by is.2.part; least = λ other part. is.2.least other (among_first number finding at other part) })
  evidence_by number finding at case steps (status.Ranked trace c alarmed monitored) is =
      (is.0, is.1, (λ has. is.2 (has.0, among_first number finding at has.0 has.1)), is.3, is.4)
  evidence_by number finding at case steps status.Open is = (is.0, (λ has. is.1 (has.0, among_first number finding at has.0 has.1)), is.2)

  -- what a new finding comes to, for the rounds that were represented
  goes_at : (row : Row) (before now : Slot) (finding : Finding) → IsRowOf table row → slice_get old row.number ≡ Some before → slice_get new row.number ≡ Some now
      → slice_get findings row.number ≡ Some finding → GoesOnFrom inquiry row (take row.number findings) (steps_so_far row.number rounds) now finding
  goes_at row before now finding is at_before at_now at =
      (made.each row is before now finding at_before at_now at).goes_on (steps_so_far row.number rounds)
      (stays_for laws inquiry.graph old_log inquiry.log ordered goes_on row.hypothesis row.reach before (steps_so_far row.number rounds) (represented row before is at_before))

  finding_is : (number : ℕ) (hypothesis : Hypothesis) (finding : Finding) → slice_get table.hypotheses number ≡ Some hypothesis → slice_get findings number ≡ Some finding
      → IsFinding inquiry (rounds ++ round ∷ []) findings number hypothesis finding
  finding_is number hypothesis finding at_hypothesis at =
      let own = at_number number finding at in
      let goes = goes_at (row_with number own.hypothesis own.reach) own.before own.now finding own.at own.at_before own.at_now at in
      let same : own.hypothesis ≡ hypothesis = same_Some own.hypothesis hypothesis (sym own.at.hypothesis ∙ at_hypothesis) in
      record {
        number_is = own.is_new.number_is;
        hypothesis_is = own.is_new.hypothesis_is ∙ same;
        reach = own.reach;
        reach_is = subst (λ (h : Hypothesis). IsReachOf inquiry.graph h own.reach) same (is_table.reached.exact number own.hypothesis own.reach own.at.hypothesis own.at.reach);
        evidence = subst (λ (h : Hypothesis). HasEvidence (case_for inquiry.graph inquiry.log h own.reach) inquiry.terms.budget findings (steps_so_far number (rounds ++ round ∷ [])) finding finding.status) same
            (evidence_by number finding at (case_for inquiry.graph inquiry.log own.hypothesis own.reach) (steps_so_far number (rounds ++ round ∷ [])) finding.status
            (subst (λ (steps : List Judged). HasEvidence (case_for inquiry.graph inquiry.log own.hypothesis own.reach) inquiry.terms.budget (take number findings) steps finding finding.status)
            (sym (steps_so_far-push number rounds round (length inquiry.log.events) finding made.number at)) goes.evidence));
      }

  pub round_is : IsRound inquiry.graph inquiry.terms rounds inquiry.log line round
  round_is = record {
    number = made.number;
    line_is = made.line_is;
    now_is = made.now_is;
    hypotheses = table.hypotheses;
    table = is_table.hypotheses;
    complete = made.complete;
    findings = finding_is;
    order = made.order;
    counts = made.counts;
  }

  -- with a budget that is enough no hypothesis is open
  pub none_open : IsEnough inquiry.graph inquiry.log inquiry.terms.budget → HasNoneOpen round
  none_open enough = list_any_none (λ (f : Finding). is_open f.status) findings (All-from_indexes (λ (f : Finding). is_open f.status ≡ false) findings (λ number finding at. (at_number number finding at).is_new.none_open enough))

  pub earned : AreEarned inquiry.graph inquiry.log inquiry.terms rounds round
  earned number finding at =
      let own = at_number number finding at in
      let goes = goes_at (row_with number own.hypothesis own.reach) own.before own.now finding own.at own.at_before own.at_now at in
      let same : own.hypothesis ≡ hypothesis_of finding = sym own.is_new.hypothesis_is in (
        own.reach,
        subst (λ (h : Hypothesis). IsReachOf inquiry.graph h own.reach) same (is_table.reached.exact number own.hypothesis own.reach own.at.hypothesis own.at.reach),
        subst (λ (h : Hypothesis). IsEarned (case_for inquiry.graph inquiry.log h own.reach) inquiry.terms.budget (steps_so_far number rounds) finding) same goes.earned,
      )

  pub represents : (row : Row) (slot : Slot) → IsRowOf table row → slice_get new row.number ≡ Some slot
      → SlotRepresents (case_for inquiry.graph inquiry.log row.hypothesis row.reach) row.hypothesis slot (steps_so_far row.number (rounds ++ round ∷ []))
  represents row slot is at_slot =
      let finding = slice_get-same_length findings new row.number slot (new_each ∙ old_each ∙ sym made.complete) at_slot in
      let before = slice_get-same_length old new row.number slot new_each at_slot in
      subst (SlotRepresents (case_for inquiry.graph inquiry.log row.hypothesis row.reach) row.hypothesis slot)
      (sym (steps_so_far-push row.number rounds round (length inquiry.log.events) finding.0 made.number finding.1))
      (goes_at row before.0 slot finding.0 is before.1 at_slot finding.1).represents

  -- what is kept is as it was worked on in the rounds
  pub worked_on : (row : Row) (slot : Slot) → IsRowOf table row → slice_get new row.number ≡ Some slot → IsWorkedOn row.number (rounds ++ round ∷ []) slot
  worked_on row slot is at_slot =
      let finding = slice_get-same_length findings new row.number slot (new_each ∙ old_each ∙ sym made.complete) at_slot in
      let before = slice_get-same_length old new row.number slot new_each at_slot in
      worked_on_still row.number rounds round finding.0 finding.1 before.0 slot (length inquiry.log.events) made.number (worked row before.0 is before.1)
      (made.each row is before.0 slot finding.0 before.1 at_slot finding.1).kept_is

  finding_limit : (number : ℕ) (finding : Finding) (limit : ℕ) → slice_get findings number ≡ Some finding → IsLimitBySlots inquiry table old number finding limit
      → IsFindingLimit inquiry.graph inquiry.log rounds number finding limit
  finding_limit number finding limit at limited =
      let own = at_number number finding at in
      let same : own.hypothesis ≡ hypothesis_of finding = sym own.is_new.hypothesis_is in
      record {
        reach = own.reach;
        reach_is = subst (λ (h : Hypothesis). IsReachOf inquiry.graph h own.reach) same (is_table.reached.exact number own.hypothesis own.reach own.at.hypothesis own.at.reach);
        is = subst
            (λ (h : Hypothesis). IsLimitWhere (is_worked_on (was_rejected number rounds) finding.status) (case_for inquiry.graph inquiry.log h own.reach) (last_worked_on number rounds) (length finding.steps) limit) same
            (limit_by_rounds number rounds own.before own.now (length inquiry.log.events) (length finding.steps) limit (case_for inquiry.graph inquiry.log own.hypothesis own.reach)
            (worked (row_with number own.hypothesis own.reach) own.before own.at own.at_before) finding.status own.is_new.kept_is (limited own.hypothesis own.reach own.before own.at own.at_before));
      }

  -- the round keeps within its limits
  pub within : (before after : ℕ) → AreSlotsWithin inquiry table old findings before after → IsRoundWithin inquiry.graph inquiry.log rounds round before after
  within before after is =
      let by_rounds = within_others (IsLimitBySlots inquiry table old) (IsFindingLimit inquiry.graph inquiry.log rounds) findings before after finding_limit is in
      (sum by_rounds.limits, record { limits = by_rounds.limits; one_each = by_rounds.are.one_each; each = by_rounds.are.each; is = refl }, by_rounds.within)

-- The findings as the code has them make a round.
pub makes : (inquiry : Inquiry) (table : Hypotheses) (old new : List Slot) (line number now : ℕ) (found read listed : List Finding) (order : List ℕ) (counts : Counts)
    → number ≡ length inquiry.log.events → now ≡ now_of inquiry.log → (length found ≡ length table.hypotheses) × AreNewFindings inquiry table old new found → listed ≡ found → read ≡ found → IsOrder read order
    → counts ≡ counts_of found
    → MakesRound inquiry table old new line (record { number = number; line = line; now = now; findings = listed; order = order; counts = counts })
makes inquiry table old new line number now found read listed order counts is_number is_now each is_listed is_read in_order counted =
    subst (λ (fs : List Finding). MakesRound inquiry table old new line (record { number = number; line = line; now = now; findings = fs; order = order; counts = counts })) (sym is_listed)
    (record {
      number = is_number;
      line_is = refl;
      now_is = is_now;
      complete = each.0;
      each = each.1;
      order = subst (λ (fs : List Finding). IsOrder fs order) is_read in_order;
      counts = counted;
    })
