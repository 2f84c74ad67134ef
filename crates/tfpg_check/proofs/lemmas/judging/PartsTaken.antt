-- The parts of a round, taken one by one.
use Rattle.std.proofs.Common.{◌≡◌, ◌↔◌, ◌⊎◌, ◌<◌, ℕ, [], List, Bool, true, false, Option, Some, None, length, take, set, slice_get, inl, inr, refl, sym, ap, subst, arith, ◌∙◌}
use Rattle.std.specs.List.{All}
use Rattle.std.specs.Prelude.{IsTrue, Result, Ok, Err, MatchResult, option_map}
use Rattle.std.proofs.lemmas.Bool.{false≢true}
use Rattle.std.proofs.lemmas.Option.{none-some, same_Some, slice_get_within}
use Rattle.tfpg_base.specs.declared.terms.Terms.{Terms}
use Rattle.tfpg_base.specs.Hypothesis.{Hypothesis}
use Rattle.tfpg_base.proofs.lemmas.lists.Elements.{Contains-at, slice_get-there}
use Rattle.tfpg_base.proofs.lemmas.lists.Written.{slice_get-set_same}
use Rattle.tfpg_graph.specs.Graph.{Tfpg, is_monitored}
use Rattle.tfpg_graph.proofs.lemmas.reach.Reaches.{reach_is_one}
use Rattle.tfpg_log.specs.Log.{Logbook, IsLogOf, ignoring}
use Rattle.tfpg_evidence.specs.declared.step.Step.{Step}
use Rattle.tfpg_clause.specs.Case.{Case, case_of}
use Rattle.tfpg_clause.specs.Trees.{Judged, IsRefutation, IsPartial}
use Rattle.tfpg_clause.specs.Paths.{judged_by, with_steps}
use Rattle.tfpg_clause.specs.declared.path.PathSplit.{PathSplit}
use Rattle.tfpg_kernel.specs.CheckerState.{CheckerState}
use Rattle.tfpg_kernel.specs.Represents.{CheckerRepresents, Represented}
use Rattle.tfpg_kernel.specs.Breaks.{IsFirstBroken}
use Rattle.tfpg_hyp.specs.Hypotheses.{Hypotheses, IsTableOf, AreReaches}
use Rattle.tfpg_hyp.specs.Views.{IsReachOf, case_for, log_for}
use Rattle.tfpg_report.specs.declared.read_round.Part.{Part}
use Rattle.tfpg_check.specs.declared.cause.CheckCause.{CheckCause}
use Rattle.tfpg_check.specs.declared.round_fault.RoundFault.{RoundFault}
use Rattle.tfpg_check.specs.declared.round_fault.RoundFault.TheVariants.{NotAccepted, NoMemory}
use Rattle.tfpg_check.specs.Tests.{InTurn}
use Rattle.tfpg_check.specs.Judging.{RoundBasis, IsNumberOf, WasClosed, MayHaveSteps, StepFails, PartFails}
use Rattle.tfpg_check.specs.HypothesesState.{HasChecker}
use Rattle.tfpg_check.specs.Passing.{PartPasses}
use Rattle.tfpg_check.specs.inside.InTurn.{IsFaultOf}
use Rattle.tfpg_check.specs.inside.Parts.{StepBreaks, HasTaken, IsNextAfter, IsUnfinished, MayTake, KeepsNumber, IsPartTaken, kept_of, after_steps}
use Rattle.tfpg_check.proofs.lemmas.judging.ClosedTrees.{closed_exactly}
use Rattle.tfpg_check.proofs.lemmas.judging.TestsInTurn.{owes_passes, then_passes, in_turn_passes, in_turn_alike}

-- ---- the log that a hypothesis sees

-- what the table's hypotheses doubt is monitored
pub doubts_monitored : (graph : Tfpg) (terms : Terms) (table : Hypotheses) → IsTableOf graph terms table → (number : ℕ) (hypothesis : Hypothesis) → slice_get table.hypotheses number ≡ Some hypothesis
    → All (λ node. IsTrue (is_monitored graph node)) hypothesis.doubts
doubts_monitored graph terms table is number hypothesis at = ((is.hypotheses.exact hypothesis).0 (Contains-at table.hypotheses number hypothesis at)).doubts_of_graph.monitored

-- so the log that ignores it is of the graph
pub log_ignoring : (graph : Tfpg) (log view : Logbook) (doubts : List ℕ) → IsLogOf graph log → All (λ node. IsTrue (is_monitored graph node)) doubts → view ≡ ignoring log doubts → IsLogOf graph view
log_ignoring graph log view doubts of monitored same = subst (IsLogOf graph) (sym same) (record { own = of.own; ignored = monitored })

-- a log that ignored none ignores none again
pub ignoring_none : (log view again : Logbook) (doubts : List ℕ) → log.ignored ≡ [] → view ≡ ignoring log doubts → again ≡ ignoring view [] → again ≡ log
ignoring_none log view again doubts none same back = back ∙ ap (λ (l : Logbook). ignoring l []) same ∙ (λ i. record { events = log.events; ignored = sym none i })

-- ---- whether a part may have steps

pub unfinished_within : (checkers : List CheckerState) (number : ℕ) → IsUnfinished checkers number → number < length checkers
unfinished_within checkers number is = by (slice_get checkers number) refl is
  where
    by : (found : Option CheckerState) → slice_get checkers number ≡ found → option_map (λ (c : CheckerState). c.closed) found ≡ Some false → number < length checkers
    by None at is = absurd (none-some false is)
    by (Some checker) at is = slice_get_within checkers number checker at

-- the number of a hypothesis whose tree is not closed is in the table
pub take_within : (table : Hypotheses) (checkers : List CheckerState) (next number : ℕ) → length checkers ≡ length table.hypotheses → MayTake checkers next number → number < length table.hypotheses
take_within table checkers next number as_many may = omega (arith, as_many, unfinished_within checkers number may.1)

module _ (basis : RoundBasis) (before : List Part) (part : Part) (next : ℕ) (after : IsNextAfter (λ (p : Part). p.number) before next) (table : Hypotheses) (checkers : List CheckerState)
    (reached : AreReaches basis.graph table.hypotheses table.reaches) (same : basis.hypotheses ≡ table.hypotheses) (as_many : length checkers ≡ length table.hypotheses)
    (keeps : KeepsNumber basis (kept_of basis.terms table checkers) part.number) where
  listed : (hypothesis : Hypothesis) → IsNumberOf basis part.number hypothesis → slice_get table.hypotheses part.number ≡ Some hypothesis
  listed hypothesis at = ap (λ (hs : List Hypothesis). slice_get hs part.number) (sym same) ∙ at

  reach_of : (hypothesis : Hypothesis) (at : IsNumberOf basis part.number hypothesis) → IsReachOf basis.graph hypothesis (keeps hypothesis at).checker.reach
  reach_of hypothesis at = reached.exact part.number hypothesis (keeps hypothesis at).checker.reach (listed hypothesis at) (keeps hypothesis at).reach

  closed_is : (hypothesis : Hypothesis) (at : IsNumberOf basis part.number hypothesis) → ((keeps hypothesis at).checker.closed ≡ true) ↔ WasClosed basis part.number
  closed_is hypothesis at =
      let has = keeps hypothesis at in closed_exactly basis part.number hypothesis at has.checker (reach_of hypothesis at) (basis.steps part.number) has.represents

  unfinished_is : (hypothesis : Hypothesis) (at : IsNumberOf basis part.number hypothesis) → IsUnfinished checkers part.number ↔ ((keeps hypothesis at).checker.closed ≡ false)
  unfinished_is hypothesis at =
      let has = keeps hypothesis at in (
        λ is. same_Some has.checker.closed false (sym (ap (option_map (λ (c : CheckerState). c.closed)) has.at) ∙ is),
        λ is. ap (option_map (λ (c : CheckerState). c.closed)) has.at ∙ ap (λ (b : Bool). Some b) is,
      )

  not_true : (b : Bool) → (b ≡ true → ⊥) → b ≡ false
  not_true true never = absurd (never refl)
  not_true false never = refl

  -- it may where it is found so;
  pub may_from : (hypothesis : Hypothesis) → IsNumberOf basis part.number hypothesis → MayTake checkers next part.number → MayHaveSteps basis before part
  may_from hypothesis at may = record {
    rising = (after part.number).1 may.0;
    hypothesis = hypothesis;
    listed = at;
    not_closed = λ closed. false≢true (sym ((unfinished_is hypothesis at).0 may.1) ∙ (closed_is hypothesis at).1 closed);
  }

  -- and only there.
  pub may_only : MayHaveSteps basis before part → MayTake checkers next part.number
  may_only may = (
    (after part.number).0 may.rising,
    (unfinished_is may.hypothesis may.listed).1 (not_true _ (λ closed. may.not_closed ((closed_is may.hypothesis may.listed).0 closed))),
  )

-- ---- the steps of a part

module _ (basis : RoundBasis) (part : Part) (hypothesis : Hypothesis) (at : IsNumberOf basis part.number hypothesis) (reach : List ℕ) (reach_is : IsReachOf basis.graph hypothesis reach) where
  abbrev case : Case
  case = case_for basis.graph basis.log hypothesis reach

  abbrev breaks : List Step → Step → ℕ → CheckCause → Type 0
  breaks before step line why = StepBreaks case (basis.steps part.number) part.step_lines before step line why

  -- a step of it fails where it breaks a condition
  step_alike : (before : List Step) (step : Step) (line : ℕ) (why : CheckCause)
      → StepBreaks (case_for basis.graph basis.log hypothesis reach) (basis.steps part.number) part.step_lines before step line why ↔ StepFails basis part before step line why
  step_alike before step line why = (
    λ is. record { hypothesis = hypothesis; listed = at; reach = reach; reach_is = reach_is; at = is.1; broken = is.0; cause_is = is.2; first = is.3 },
    λ fails. (let own : fails.hypothesis ≡ hypothesis = same_Some fails.hypothesis hypothesis (sym fails.listed ∙ at) in
        let nodes : fails.reach ≡ reach =
        reach_is_one basis.graph hypothesis.set fails.reach (subst (λ (h : Hypothesis). IsReachOf basis.graph h fails.reach) own fails.reach_is) reach reach_is in
        let earlier = with_steps (basis.steps part.number) basis.log before in (
          fails.broken,
          fails.at,
          fails.cause_is,
          subst (λ (ns : List ℕ). IsFirstBroken (case_for basis.graph basis.log hypothesis ns) earlier (judged_by basis.log step) fails.broken) nodes
              (subst (λ (h : Hypothesis). IsFirstBroken (case_for basis.graph basis.log h fails.reach) earlier (judged_by basis.log step) fails.broken) own fails.first),
        )),
  )

  partial_or_closed : (path : List PathSplit) (steps : List Judged) (closed : Bool) → Represented case path steps closed → IsPartial case steps ⊎ IsRefutation case steps
  partial_or_closed path steps true is = inr is
  partial_or_closed path steps false is = inl is.partial

  module _ (before : List Part) (may : MayHaveSteps basis before part) (table : Hypotheses) (checkers : List CheckerState) (new : CheckerState)
      (stands : slice_get checkers part.number ≡ Some new) (row : slice_get table.reaches part.number ≡ Some reach) (own : new.reach ≡ reach) where
    -- a part whose steps are taken
    taken : HasTaken case (basis.steps part.number) part new → IsPartTaken basis before part (kept_of basis.terms table checkers)
    taken has = record {
      passes = passes;
      not_fails = then_passes _ _ (owes_passes _ _ _ may)
          (in_turn_passes (StepFails basis part) part.steps
          (λ index step there line why fails. has.none_breaks index step there line why ((step_alike (take index part.steps) step line why).1 fails)));
      keeps = λ other there. keep other (same_Some hypothesis other (sym at ∙ there)) there;
    }
      where
        represented : Represented case new.path (with_steps (basis.steps part.number) basis.log part.steps) new.closed
        represented =
            subst (λ (nodes : List ℕ). Represented (case_for basis.graph basis.log hypothesis nodes) new.path (with_steps (basis.steps part.number) basis.log part.steps) new.closed) own
            has.represents.steps_are

        mine : hypothesis ≡ may.hypothesis
        mine = same_Some hypothesis may.hypothesis (sym at ∙ may.listed)

        passes : PartPasses basis before part
        passes = record {
          may = may;
          reach = reach;
          reach_is = subst (λ (h : Hypothesis). IsReachOf basis.graph h reach) mine reach_is;
          steps = subst
              (λ (h : Hypothesis).
              IsPartial (case_for basis.graph basis.log h reach) (with_steps (basis.steps part.number) basis.log part.steps)
              ⊎ IsRefutation (case_for basis.graph basis.log h reach) (with_steps (basis.steps part.number) basis.log part.steps))
              mine
              (partial_or_closed new.path (with_steps (basis.steps part.number) basis.log part.steps) new.closed represented);
        }

        keep : (other : Hypothesis) → hypothesis ≡ other → IsNumberOf basis part.number other
            → HasChecker (after_steps basis part.steps) basis.log (kept_of basis.terms table checkers) part.number other
        keep other is there = record {
          checker = new;
          at = stands;
          reach = row ∙ ap (λ (nodes : List ℕ). Some nodes) (sym own);
          represents = subst (λ (h : Hypothesis). CheckerRepresents basis.graph (log_for basis.log h) new (with_steps (basis.steps part.number) basis.log part.steps)) is has.represents;
        }

    -- What came of the steps is what came of the part.
    pub part_result : (result : Result (Unit {0}) RoundFault) → MatchResult result (λ _. HasTaken (case_for basis.graph basis.log hypothesis reach) (basis.steps part.number) part new)
        (IsFaultOf (InTurn (StepBreaks (case_for basis.graph basis.log hypothesis reach) (basis.steps part.number) part.step_lines) [] part.steps))
        → MatchResult result (λ _. IsPartTaken basis before part (kept_of basis.terms table checkers)) (IsFaultOf (PartFails basis before part))
    part_result (Ok done) is = taken is
    part_result (Err (NotAccepted line why)) is =
        inr (owes_passes _ _ _ may, in_turn_alike (StepBreaks case (basis.steps part.number) part.step_lines) (StepFails basis part) step_alike [] part.steps line why is)
    part_result (Err NoMemory) is = tt

-- what the hypotheses of a basis reach
pub table_reached : (basis : RoundBasis) (graph : Tfpg) (terms : Terms) (table : Hypotheses) → basis.graph ≡ graph → IsTableOf graph terms table
    → AreReaches basis.graph table.hypotheses table.reaches
table_reached basis graph terms table same is = subst (λ (g : Tfpg). AreReaches g table.hypotheses table.reaches) (sym same) is.reached

-- ---- a part, as the code judges it

module _ (basis : RoundBasis) (graph : Tfpg) (log : Logbook) (same_graph : basis.graph ≡ graph) (same_log : basis.log ≡ log) (terms : Terms) (table : Hypotheses) (is : IsTableOf graph terms table)
    (same : basis.hypotheses ≡ table.hypotheses) (checkers : List CheckerState) (as_many : length checkers ≡ length table.hypotheses) where
  pub part_judged : (before : List Part) (part : Part) (next : ℕ) → IsNextAfter (λ (p : Part). p.number) before next → KeepsNumber basis (kept_of basis.terms table checkers) part.number
      → MayTake checkers next part.number → (doubts : List ℕ) → option_map (λ (h : Hypothesis). h.doubts) (slice_get table.hypotheses part.number) ≡ Some doubts
      → (view : Logbook) → view ≡ ignoring log doubts → (old new : CheckerState) → slice_get checkers part.number ≡ Some old → new.reach ≡ old.reach → (result : Result (Unit {0}) RoundFault)
      → ((earlier : List Judged) → CheckerRepresents graph view old earlier → MatchResult result (λ _. HasTaken (case_of graph view old.reach) earlier part new)
      (IsFaultOf (InTurn (StepBreaks (case_of graph view old.reach) earlier part.step_lines) [] part.steps)))
      → MatchResult result (λ _. IsPartTaken basis before part (kept_of basis.terms table (set checkers part.number new))) (IsFaultOf (PartFails basis before part))
  part_judged before part next after keeps may doubts doubts_are view view_is old new old_at own result take =
      let there = slice_get-there table.hypotheses part.number (take_within table checkers next part.number as_many may) in
      let hypothesis : Hypothesis = there.0 in
      let at : IsNumberOf basis part.number hypothesis = ap (λ (hs : List Hypothesis). slice_get hs part.number) same ∙ there.1 in
      let has = keeps hypothesis at in
      let old_is : has.checker ≡ old = same_Some has.checker old (sym has.at ∙ old_at) in
      let own_doubts : hypothesis.doubts ≡ doubts =
      same_Some hypothesis.doubts doubts (sym (ap (option_map (λ (h : Hypothesis). h.doubts)) there.1) ∙ doubts_are) in
      let seen : log_for basis.log hypothesis ≡ view = (λ i. ignoring (same_log i) (own_doubts i)) ∙ sym view_is in
      let reached : AreReaches basis.graph table.hypotheses table.reaches = table_reached basis graph terms table same_graph is in
      let reach_is : IsReachOf basis.graph hypothesis old.reach =
      subst (λ (checker : CheckerState). IsReachOf basis.graph hypothesis checker.reach) old_is
      (reach_of basis before part next after table checkers reached same as_many keeps hypothesis at) in
      let represents : CheckerRepresents graph view old (basis.steps part.number) =
      subst (λ (g : Tfpg). CheckerRepresents g view old (basis.steps part.number)) same_graph
      (subst (λ (l : Logbook). CheckerRepresents basis.graph l old (basis.steps part.number)) seen
      (subst (λ (checker : CheckerState). CheckerRepresents basis.graph (log_for basis.log hypothesis) checker (basis.steps part.number)) old_is has.represents)) in
      let case_same : case_of graph view old.reach ≡ case_for basis.graph basis.log hypothesis old.reach = λ i. case_of (sym same_graph i) (sym seen i) old.reach in
      let taken =
      subst (λ (case : Case). MatchResult result (λ _. HasTaken case (basis.steps part.number) part new)
      (IsFaultOf (InTurn (StepBreaks case (basis.steps part.number) part.step_lines) [] part.steps))) case_same (take (basis.steps part.number) represents) in
      part_result basis part hypothesis at old.reach reach_is before (may_from basis before part next after table checkers reached same as_many keeps hypothesis at may) table
      (set checkers part.number new) new (slice_get-set_same checkers part.number new (slice_get_within checkers part.number old old_at))
      (has.reach ∙ ap (λ (checker : CheckerState). Some checker.reach) old_is) own result taken
