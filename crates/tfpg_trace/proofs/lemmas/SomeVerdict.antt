-- A trace has a verdict: each part of it is decided, and its faults have a first one.
use Rattle.std.proofs.Common.{◌≡◌, ℕ, suc, ◌<◌, List, length, Option, Some, None, ◌⊎◌, inl, inr, slice_get, refl, sym, ap, subst, ◌∙◌}
use Rattle.std.specs.Prelude.{IsTrue, Contains}
use Rattle.std.proofs.lemmas.Bool.Decides.{eqb_tells}
use Rattle.std.proofs.lemmas.Option.{slice_get_within}
use Rattle.tfpg_base.specs.declared.activation.Activation.{Activation}
use Rattle.tfpg_base.specs.Trace.{time_of}
use Rattle.tfpg_graph.specs.Graph.{Tfpg, is_kind_at, is_failure, position_of_failure}
use Rattle.tfpg_log.specs.declared.event.Event.{Event}
use Rattle.tfpg_log.specs.Log.{Logbook, now_of, first_events}
use Rattle.tfpg_log.specs.Rules.{KeepsRulesOf, IsTraceOf}
use Rattle.tfpg_log.specs.Explains.{IsMember, Shows}
use Rattle.tfpg_trace.specs.declared.verdict.Verdict.{Verdict}
use Rattle.tfpg_trace.specs.declared.verdict.Verdict.TheVariants as verdict
use Rattle.tfpg_trace.specs.FirstFault.{IsLate, IsStranger, NoneBefore, IsFaultlessBefore, IsVerdict}
use Rattle.tfpg_trace.specs.inside.RuleFaults.{IsBroken}
use Rattle.tfpg_trace.specs.inside.Shown.{ShowsBefore, IsNotShown}
use Rattle.tfpg_base.proofs.lemmas.lists.Decided.{IsDecided, first_below, same_decided, test_decided, le_decided, some_decided, some_member_decided}
use Rattle.tfpg_trace.proofs.lemmas.Explained.{explained}
use Rattle.tfpg_trace.proofs.lemmas.FirstEventsShown.{first_shown}
use Rattle.tfpg_trace.proofs.lemmas.FailureModes.{member_by_position, no_failure}
use Rattle.tfpg_trace.proofs.lemmas.RulesDecided.{rules_decided}
use Rattle.tfpg_trace.proofs.lemmas.EventsDecided.{event_decided}

-- whether a failure mode is a member of the set
member_decided : (graph : Tfpg) (set : List ℕ) (node : ℕ) → IsTrue (is_kind_at is_failure graph node) → IsDecided (IsMember graph set node)
member_decided graph set node failure = by (position_of_failure graph node) refl
  where
    is_here : (position number : ℕ) → IsDecided (number ≡ position)
    is_here position number = elim (eqb_tells number position) [
      | inl same ↦ inl same.1
      | inr apart ↦ inr apart.1
    ]

    by : (position : Option ℕ) → position_of_failure graph node ≡ position → IsDecided (IsMember graph set node)
    by None none = absurd (no_failure graph node none failure)
    by (Some position) at =
        let same = member_by_position graph set position node at in
        same_decided ((number : ℕ) × Contains set number × (number ≡ position)) (IsMember graph set node)
        (λ has. same.1 (subst (Contains set) has.2 has.1)) (λ member. (position, same.0 member, refl))
        (some_member_decided (λ number. number ≡ position) (is_here position) set)

module _ (graph : Tfpg) (log : Logbook) (set : List ℕ) (trace : List Activation) where
  -- ---- late nodes, and strangers

  -- the node has this at some time, or at none
  abbrev AtSomeTime : (ℕ → ℕ → Type 0) → ℕ → Type 0
  AtSomeTime Has node = (time : ℕ) × Has node time

  abbrev AtNoTime : (ℕ → ℕ → Type 0) → ℕ → Type 0
  AtNoTime Has node = (time : ℕ) → Has node time → ⊥

  late_or_not : (node : ℕ) → AtSomeTime (IsLate log trace) node ⊎ AtNoTime (IsLate log trace) node
  late_or_not node = elim (some_decided (λ time. now_of log < time) (time_of trace node) (λ time. le_decided (suc (now_of log)) time)) [
    | inl late ↦ inl (late.0, record { at = late.1; late = late.2 })
    | inr none ↦ inr (λ time late. none (time, late.at, late.late))
  ]

  stranger_or_not : (node : ℕ) → AtSomeTime (IsStranger graph set trace) node ⊎ AtNoTime (IsStranger graph set trace) node
  stranger_or_not node = by_kind (test_decided (is_kind_at is_failure graph node))
    where
      by_time : (time : Option ℕ) → time_of trace node ≡ time → IsTrue (is_kind_at is_failure graph node) → (IsMember graph set node → ⊥)
          → AtSomeTime (IsStranger graph set trace) node ⊎ AtNoTime (IsStranger graph set trace) node
      by_time None none failure outside = inr (λ time stranger. let at = stranger.at in absurd cc)
      by_time (Some time) at failure outside = inl (time, record { at = at; failure = failure; outside = outside })

      by_kind : IsDecided (IsTrue (is_kind_at is_failure graph node))
          → AtSomeTime (IsStranger graph set trace) node ⊎ AtNoTime (IsStranger graph set trace) node
      by_kind (inr other) = inr (λ time stranger. other stranger.failure)
      by_kind (inl failure) = elim (member_decided graph set node failure) [
        | inl member ↦ inr (λ time stranger. stranger.outside member)
        | inr outside ↦ by_time (time_of trace node) refl failure outside
      ]

  -- ---- events

  -- something is said of the event at this index
  abbrev IsNotShownAt : ℕ → Type 0
  IsNotShownAt index =
      (event : Event) × (slice_get log.events index ≡ Some event)
      × ((said : Verdict) × IsNotShown graph (first_events log index) trace event said)

  -- the event at this index is shown
  abbrev IsShownAt : ℕ → Type 0
  IsShownAt index = (event : Event) → slice_get log.events index ≡ Some event → Shows graph (first_events log index) trace event

  fault_or_shown : (index : ℕ) → IsNotShownAt index ⊎ IsShownAt index
  fault_or_shown index = by (slice_get log.events index) refl
    where
      by : (found : Option Event) → slice_get log.events index ≡ found → IsNotShownAt index ⊎ IsShownAt index
      by None none = inr (λ event at. absurd cc)
      by (Some event) at = elim (event_decided graph trace (first_events log index) event) [
        | inl fault ↦ inl (event, at, fault)
        | inr shown ↦ inr (λ other also. (let same : event ≡ other = cc in subst (Shows graph (first_events log index) trace) same shown))
      ]

  -- ---- verdicts

  -- there is a verdict of the trace
  abbrev pub HasVerdict : Type 0
  HasVerdict = (said : Verdict) × IsVerdict graph log set trace said

  -- What is said of the first event that is not shown is the verdict.
  pub by_event : IsFaultlessBefore graph log set trace (length graph.nodes) → (index : ℕ) (event : Event)
      → slice_get log.events index ≡ Some event → ShowsBefore graph log trace index
      → (said : Verdict) → IsNotShown graph (first_events log index) trace event said → IsVerdict graph log set trace said
  by_event nodes index event at before said (inl alarm) =
      let is : IsVerdict graph log set trace (verdict.Alarm alarm.0 alarm.1) = (
        index,
        record { nodes = nodes; at = at ∙ ap Some alarm.3.alarm; before = first_shown graph log trace index before },
        alarm.3.not_shown,
      ) in
      subst (IsVerdict graph log set trace) (sym alarm.2) is
  by_event nodes index event at before said (inr silence) =
      let is : IsVerdict graph log set trace (verdict.Silence silence.0 silence.1) = (
        index,
        event,
        record { nodes = nodes; at = at; before = first_shown graph log trace index before },
        silence.3,
      ) in
      subst (IsVerdict graph log set trace) (sym silence.2) is

  -- What is said of the first node that breaks a rule is the verdict.
  pub by_rules : (node : ℕ) → node < length graph.nodes → IsFaultlessBefore graph log set trace node → (said : Verdict)
      → IsBroken graph log trace node said → IsVerdict graph log set trace said
  by_rules node within before said (inl fault) =
      let is : IsVerdict graph log set trace (verdict.May node fault.time) = (within, before, fault.breaks) in
      subst (IsVerdict graph log set trace) (sym fault.is) is
  by_rules node within before said (inr fault) =
      let is : IsVerdict graph log set trace (verdict.Must node fault.time) = (within, before, fault.may, fault.breaks) in
      subst (IsVerdict graph log set trace) (sym fault.is) is

  module _ (of : IsTraceOf graph trace) where
    of_events : IsFaultlessBefore graph log set trace (length graph.nodes) → HasVerdict
    of_events nodes = elim (first_below IsNotShownAt IsShownAt fault_or_shown (length log.events)) [
      | inl found ↦ (
        found.1.holds.2.0,
        by_event nodes found.0 found.1.holds.0 found.1.holds.1
            (λ index event below at. found.1.before index below event at) found.1.holds.2.0 found.1.holds.2.1,
      )
      | inr shown ↦ (
        verdict.Yes,
        explained graph log set trace of.0 of.1 nodes
            (λ index event at. shown index (slice_get_within log.events index event at) event at),
      )
    ]

    of_rules : NoneBefore (IsLate log trace) (length graph.nodes) → NoneBefore (IsStranger graph set trace) (length graph.nodes)
        → HasVerdict
    of_rules on_time from_set =
        elim
        (first_below (λ node. (said : Verdict) × IsBroken graph log trace node said) (KeepsRulesOf graph log trace)
        (rules_decided graph log trace) (length graph.nodes)) [
          | inl found ↦ (
            found.1.holds.0,
            by_rules found.0 found.1.below
                (record { on_time = on_time; from_set = from_set; rules = found.1.before }) found.1.holds.0 found.1.holds.1,
          )
          | inr keeps ↦ of_events (record { on_time = on_time; from_set = from_set; rules = keeps })
        ]

    -- A trace has a verdict.
    pub some_verdict : HasVerdict
    some_verdict = elim (first_below (AtSomeTime (IsLate log trace)) (AtNoTime (IsLate log trace)) late_or_not (length graph.nodes)) [
      | inl late ↦ (
        verdict.Late late.0 late.1.holds.0,
        record {
          in_range = late.1.below;
          has = late.1.holds.1;
          first = λ node time below has. late.1.before node below time has;
        },
      )
      | inr on_time ↦
          elim
          (first_below (AtSomeTime (IsStranger graph set trace)) (AtNoTime (IsStranger graph set trace)) stranger_or_not
          (length graph.nodes)) [
            | inl stranger ↦ (
              verdict.Stranger stranger.0 stranger.1.holds.0,
              (
                λ node time below has. on_time node below time has,
                record {
                  in_range = stranger.1.below;
                  has = stranger.1.holds.1;
                  first = λ node time below has. stranger.1.before node below time has;
                },
              ),
            )
            | inr from_set ↦ of_rules (λ node time below has. on_time node below time has) (λ node time below has. from_set node below time has)
          ]
    ]
