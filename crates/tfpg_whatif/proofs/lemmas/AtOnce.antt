-- What the last event shows at once.
use Rattle.std.proofs.Common.{◌≡◌, ℕ, suc, ◌+◌, ◌<◌, ◌≤◌, true, not, ◌&&◌, leb, ltb, List, [], ◌∷◌, ◌++◌, length, refl, sym, ap, subst, ◌∙◌, ⊎_elim, arith, pos}
use Rattle.std.specs.Prelude.{◌+ℤ◌, ◌<ℤ◌, neg_ℤ, All, IfSome, IsTrue, Option, Some, option_and_then, option_map, slice_get}
use Rattle.std.specs.Bool.{then_some}
use Rattle.std.proofs.lemmas.Bool.{and_from, le-leb, lt-ltb, false_from_ne_true}
use Rattle.std.proofs.lemmas.Int.{ints}
use Rattle.std.proofs.lemmas.List.{length-append, take-append-le, take_all}
use Rattle.std.proofs.lemmas.Option.{slice_get_within}
use Rattle.tfpg_base.specs.Bounds.{at_least, at_most}
use Rattle.tfpg_base.specs.Choice.{each_of}
use Rattle.tfpg_base.specs.ConstraintCycle.{IsNegativeCycle}
use Rattle.tfpg_base.specs.Hypothesis.{Hypothesis}
use Rattle.tfpg_base.specs.declared.activation.Activation.{Activation}
use Rattle.tfpg_base.proofs.lemmas.lists.Elements.{All-at}
use Rattle.tfpg_base.proofs.lemmas.lists.Written.{slice_get-push_cases, slice_get-push_last}
use Rattle.tfpg_graph.specs.Graph.{Tfpg, is_monitored}
use Rattle.tfpg_graph.specs.Reach.{is_among}
use Rattle.tfpg_graph.proofs.lemmas.NodeAt.{monitored_within}
use Rattle.tfpg_graph.proofs.lemmas.reach.Reaches.{Contains-from_among}
use Rattle.tfpg_log.specs.declared.event.Event.{Event}
use Rattle.tfpg_log.specs.declared.event.Event.TheVariants.{Alarm, Silent, Sweep, Tick, Mode}
use Rattle.tfpg_log.specs.declared.interval.Interval.{Interval}
use Rattle.tfpg_log.specs.Explains.{Explains, Shows}
use Rattle.tfpg_log.specs.inside.ShownByLookUp.{KeepsInterval, KeepsInactive}
use Rattle.tfpg_log.specs.Log.{Logbook, IsEventOf, IsLogOf, event_at, first_events, ignoring, mode_at, now_of, time_of_event, with_event}
use Rattle.tfpg_log.proofs.lemmas.changes.ModeChanges.{mode_after-append}
use Rattle.tfpg_log.proofs.lemmas.events.AlarmIntervals.{interval_is}
use Rattle.tfpg_log.proofs.lemmas.events.Events.{now-with_event}
use Rattle.tfpg_log.proofs.lemmas.events.ShownByLookUp.{shows_alarm_from_interval, shows_silence_from_instant}
use Rattle.tfpg_evidence.specs.declared.reason.Reason.TheVariants.{Unreached, Upto}
use Rattle.tfpg_evidence.specs.declared.step.Step.{Step}
use Rattle.tfpg_evidence.specs.declared.step.Step.TheVariants.{Cycle}
use Rattle.tfpg_clause.specs.Paths.{with_steps}
use Rattle.tfpg_clause.specs.Case.{Case, case_of}
use Rattle.tfpg_clause.specs.Facts.{fact, upto_alarm}
use Rattle.tfpg_clause.specs.Trees.{IsClosedLeaf, IsRefutation, split_count}
use Rattle.tfpg_clause.proofs.lemmas.trees.LeafSteps.{leaf_begins, leaf_ends}
use Rattle.tfpg_whatif.specs.declared.asking.Asking.{Asking}
use Rattle.tfpg_whatif.specs.declared.asking.LastEvent.{LastEvent}
use Rattle.tfpg_whatif.specs.declared.outcome.Outcome.{Outcome}
use Rattle.tfpg_whatif.specs.declared.outcome.Outcome.TheVariants.{Fits, Out}
use Rattle.tfpg_whatif.specs.Outcomes.{HasOutcomeEvidence}
use Rattle.tfpg_whatif.specs.inside.Asking.{IsLastEvent, IsShown}
use Rattle.tfpg_whatif.specs.inside.AtOnce.{ExplainsBefore, IsKept, IsLatestUnreached, ShowsAnswer, unreached_steps}
use Rattle.tfpg_whatif.proofs.lemmas.SameRules.{same_rules}

-- ---- an alarm of a node that is not reached

-- no number is below itself and above it
below_zero : (n : ℕ) → ((pos 0 +ℤ neg_ℤ (pos (n + 1))) +ℤ pos n) <ℤ pos 0
below_zero n = omega (arith, ints)

-- not before the one instant, and by then at most
negative_cycle : (node horizon : ℕ) → IsNegativeCycle (at_least node (horizon + 1) ∷ at_most node (pos horizon) ∷ [])
negative_cycle node horizon = record { chained = (refl, refl); negative = below_zero horizon }

module _ (graph : Tfpg) (log earlier : Logbook) (reach : List ℕ) (event : Event) (time node latest count : ℕ) (of : IsLogOf graph log) (is : log ≡ with_event earlier event) (alarm : event ≡ Alarm time node)
    (last : IsLatestUnreached graph log reach node time latest) (counted : count ≡ length log.events) where
  abbrev case : Case
  case = case_of graph log reach

  many : length log.events ≡ suc (length earlier.events)
  many = omega (arith, ap (λ (l : Logbook). length l.events) is, length-append earlier.events (event ∷ []))

  there : slice_get log.events (length earlier.events) ≡ Some (Alarm time node)
  there = ap (λ (l : Logbook). slice_get l.events (length earlier.events)) is ∙ slice_get-push_last earlier.events event ∙ ap Some alarm

  within : node < length graph.nodes
  within = monitored_within graph node (All-at (IsEventOf graph) log.events (length earlier.events) (Alarm time node) of.own there)

  by_now : latest ≤ now_of log
  by_now =
      omega (
        arith,
        last.latest_is,
        (interval_is graph log node time last.interval last.left).latest,
        ap now_of is ∙ now-with_event earlier event ∙ ap time_of_event alarm,
      )

  not_reached : not (is_among reach node) ≡ true
  not_reached = ap not (false_from_ne_true (is_among reach node) (λ among. last.outside (Contains-from_among reach node among)))

  unreached_is : fact case (Unreached node latest) ≡ Some (at_least node (latest + 1))
  unreached_is =
      ap (λ b. then_some b (at_least node (latest + 1)))
      (and_from (ltb node (length graph.nodes)) (leb latest (now_of log) && not (is_among reach node)) (lt-ltb node (length graph.nodes) within)
      (and_from (leb latest (now_of log)) (not (is_among reach node)) (le-leb latest (now_of log) by_now) not_reached))

  event_there : event_at log count ≡ Some (Alarm time node)
  event_there = ap (event_at log) (counted ∙ many) ∙ there

  upto_is : fact case (Upto count) ≡ Some (at_most node (pos latest))
  upto_is =
      ap (option_and_then (upto_alarm graph log)) event_there
      ∙ (ap (option_map (λ (interval : Interval). at_most node (pos interval.latest))) last.left ∙ ap (λ (n : ℕ). Some (at_most node (pos n))) (sym last.latest_is))

  closed : IsClosedLeaf case [] (Unreached node latest ∷ Upto count ∷ [])
  closed = record {
    constraints = at_least node (latest + 1) ∷ at_most node (pos latest) ∷ [];
    hold = λ i. each_of (unreached_is i ∷ upto_is i ∷ []);
    negative_cycle = negative_cycle node latest;
  }

  refutation : IsRefutation case (with_steps [] case.log (unreached_steps node latest count))
  refutation = leaf_ends case [] [] (Cycle (Unreached node latest ∷ Upto count ∷ [])) (leaf_begins case) (closed, refl)

  no_splits : split_count (unreached_steps node latest count) ≡ 0
  no_splits = refl

  -- These steps refute, with no split.
  pub refutes : (set : List ℕ) (budget : ℕ) (steps : List Step) → steps ≡ unreached_steps node latest count → HasOutcomeEvidence (case_of graph log reach) set budget (Out steps)
  refutes set budget steps are = subst (λ (all : List Step). HasOutcomeEvidence case set budget (Out all)) (sym are) (refutation, omega (arith, no_splits))

-- A refutation with so few splits is an outcome.
pub refuted : (case : Case) (set : List ℕ) (budget : ℕ) (found : Option (List Step)) (steps : List Step) → found ≡ Some steps
    → IfSome found (λ (s : List Step). HasOutcomeEvidence case set budget (Out s)) → IsShown case set budget (Out steps)
refuted case set budget found steps is refutes = record {
  evidence = subst (λ (f : Option (List Step)). IfSome f (λ (s : List Step). HasOutcomeEvidence case set budget (Out s))) is refutes;
  known = λ enough. refl;
}

-- ---- a trace that shows the event

module _ (graph : Tfpg) (log : Logbook) (trace : List Activation) (event : Event) (time node : ℕ) where
  -- An alarm whose node became active at one of the instants that it leaves is shown.
  pub answers_alarm : event ≡ Alarm time node → IsTrue (is_monitored graph node) → KeepsInterval graph log trace node time → ShowsAnswer graph log trace event
  answers_alarm is monitored keeps = subst (ShowsAnswer graph log trace) (sym is) (shows_alarm_from_interval graph log trace node time monitored keeps)

  -- A silence whose node is not active by the instant up to which it says so is shown.
  pub answers_silence : event ≡ Silent time node → KeepsInactive graph log trace node time → ShowsAnswer graph log trace event
  answers_silence is keeps = subst (ShowsAnswer graph log trace) (sym is) (shows_silence_from_instant graph log trace node time keeps)

module _ (graph : Tfpg) (earlier : Logbook) (trace : List Activation) where
  -- a silence and an alarm change no mode
  same_modes : (event : Event) → ShowsAnswer graph (with_event earlier event) trace event → (instant : ℕ) → mode_at earlier instant ≡ mode_at (with_event earlier event) instant
  same_modes (Alarm time node) shown instant = sym (mode_after-append 0 earlier.events (Alarm time node ∷ []) instant)
  same_modes (Silent time node) shown instant = sym (mode_after-append 0 earlier.events (Silent time node ∷ []) instant)
  same_modes (Sweep time) shown instant = absurd shown
  same_modes (Tick time) shown instant = absurd shown
  same_modes (Mode time mode) shown instant = absurd shown

  -- what they say depends on what is ignored alone
  shown_before : (event : Event) → ShowsAnswer graph (with_event earlier event) trace event → Shows graph earlier trace event
  shown_before (Alarm time node) shown = shown
  shown_before (Silent time node) shown = shown
  shown_before (Sweep time) shown = absurd shown
  shown_before (Tick time) shown = absurd shown
  shown_before (Mode time mode) shown = absurd shown

  -- A trace that explains the log before an answer at now, and shows the answer, explains the log after it.
  pub explains_after : (event : Event) (set : List ℕ) → Explains graph earlier set trace → ShowsAnswer graph (with_event earlier event) trace event → time_of_event event ≡ now_of earlier
      → Explains graph (with_event earlier event) set trace
  explains_after event set explains shown at_now =
      let now : now_of (with_event earlier event) ≡ now_of earlier = now-with_event earlier event ∙ at_now in
      record {
        trace_of = explains.trace_of;
        by_now = subst (λ (t : ℕ). All (λ (activation : Activation). activation.time ≤ t) trace) (sym now) explains.by_now;
        from_set = explains.from_set;
        rules = same_rules graph trace earlier (with_event earlier event) (same_modes event shown) now explains.rules;
        shows = λ index one at.
            ⊎_elim
            (λ there.
            subst (λ (events : List Event). Shows graph (record earlier { events = events }) trace one)
            (sym (take-append-le index earlier.events (event ∷ []) (omega (arith, slice_get_within earlier.events index one there)))) (explains.shows index one there))
            (λ last.
            subst (Shows graph (first_events (with_event earlier event) index) trace) last.1
            (subst (λ (events : List Event). Shows graph (record earlier { events = events }) trace event)
            (sym (take-append-le index earlier.events (event ∷ []) (omega (arith, last.0)) ∙ take_all index earlier.events (omega (arith, last.0)))) (shown_before event shown)))
            (slice_get-push_cases earlier.events event index one at);
      }

-- The trace that is kept is an outcome.
pub kept : (graph : Tfpg) (log earlier : Logbook) (reach set : List ℕ) (budget : ℕ) (last : LastEvent) (index : ℕ) (trace : List Activation) → log ≡ with_event earlier last.event
    → ExplainsBefore graph earlier set last index → IsKept graph log last index trace → IsShown (case_of graph log reach) set budget (Fits trace)
kept graph log earlier reach set budget last index trace is explains keeps =
    let before = explains trace keeps.known in
    let shown = subst (λ (l : Logbook). ShowsAnswer graph l trace last.event) is keeps.shown in
    record {
      evidence = subst (λ (l : Logbook). Explains graph l set trace) (sym is) (explains_after graph earlier trace last.event set before.0 shown before.1);
      known = λ enough. refl;
    }

-- what holds of a trace that there is
pub kept_is : (found : Option (List Activation)) (trace : List Activation) → found ≡ Some trace → (P : List Activation → Type 0) → IfSome found P → P trace
kept_is found trace is P holds = subst (λ (t : Option (List Activation)). IfSome t P) is holds

-- ---- the hypothesis of a number

-- what is shown of an outcome that there is
pub shown_at_once : (found : Option Outcome) (outcome : Outcome) → found ≡ Some outcome → (P : Outcome → Type 0) → IfSome found P → P outcome
shown_at_once found outcome is P shows = subst (λ (o : Option Outcome). IfSome o P) is shows

-- The log as a hypothesis sees it ends with the event too.
pub own_last : (log earlier own : Logbook) (nodes : List ℕ) (event : Event) → log.events ≡ earlier.events ++ event ∷ [] → own ≡ ignoring log nodes → own ≡ with_event (ignoring earlier nodes) event
own_last log earlier own nodes event ends is = is ∙ ap (λ (events : List Event). record log { events = events; ignored = nodes }) ends

-- What is known of the hypothesis explains the log before the event as the hypothesis sees it.
pub explained_before : (asking : Asking) (last : LastEvent) (log : Logbook) (ends : IsLastEvent asking last log) (lent : Tfpg) (index number : ℕ) (hypothesis : Hypothesis) → lent ≡ asking.engine.now.graph
    → slice_get asking.among.now index ≡ Some number → slice_get asking.engine.now.table.hypotheses number ≡ Some hypothesis → ExplainsBefore lent (ignoring ends.earlier hypothesis.doubts) hypothesis.set last index
explained_before asking last log ends lent index number hypothesis same at here trace there = (
  subst (λ (g : Tfpg). Explains g (ignoring ends.earlier hypothesis.doubts) hypothesis.set trace) (sym same) (ends.known index number (Fits trace) at there hypothesis here).evidence,
  ends.at_now index (Fits trace) there,
)
