-- Where, in a span, an edge begins to be due, by the gap that it has when the span begins.
use Rattle.std.proofs.Common.{◌≡◌, ℕ, ◌+◌, ◌<◌, ◌≤◌, false, List, Option, Some, None, inl, inr, slice_get, sym, subst, arith, max}
use Rattle.std.specs.Prelude.{IsTrue}
use Rattle.std.proofs.lemmas.Bool.{both_ways, cases_lt}
use Rattle.tfpg_base.specs.declared.activation.Activation.{Activation}
use Rattle.tfpg_base.specs.Trace.{time_of}
use Rattle.tfpg_graph.specs.declared.edge.Edge.{Edge}
use Rattle.tfpg_graph.specs.Graph.{Tfpg, is_active_in}
use Rattle.tfpg_log.specs.declared.span.Span.{Span}
use Rattle.tfpg_log.specs.Log.{Logbook, now_of, is_active_at}
use Rattle.tfpg_log.specs.Rules.{IsDue}
use Rattle.tfpg_log.specs.Spans.{span_number, span_at}
use Rattle.tfpg_log.proofs.lemmas.ages.Ages.{age_since_start}
use Rattle.tfpg_log.proofs.lemmas.instants.SpanRuns.{number_rises, lies_inside}
use Rattle.tfpg_trace.specs.inside.Due.{Begins, IsDueBy}
use Rattle.tfpg_trace.specs.inside.Gaps.{IsGap, after_gap}
use Rattle.tfpg_trace.proofs.lemmas.Beginnings.{carried}
use Rattle.tfpg_trace.proofs.lemmas.SpanOrder.{numbered, by_now, in_mode}

module _ (graph : Tfpg) (log : Logbook) (trace : List Activation) (item number : ℕ) (span : Span) (edge : Edge)
    (at : slice_get graph.edges item ≡ Some edge) (here : span_at log number (now_of log) ≡ Some span) where
  -- what is due by its number is the edge itself
  own : (instant : ℕ) → IsDueBy graph log trace item instant → IsDue log trace edge instant
  own instant due = let same : due.0 ≡ edge = cc (due.1, at) in subst (λ e. IsDue log trace e instant) same due.2

  -- An edge is not due in a span in whose mode it is not active.
  pub without_mode : is_active_in edge span.mode ≡ false → Begins (IsDueBy graph log trace item) span.lo span.hi None
  without_mode shut = λ instant from upto due.
      let own_due = own instant due in
      let open_here : IsTrue (is_active_in edge span.mode) =
      subst (λ m. IsTrue (is_active_in edge m)) (in_mode log number span here instant from upto)
      (own_due.2.active_since instant (omega arith) (omega arith)) in
      absurd (both_ways (is_active_in edge span.mode) shut open_here)

  module _ (active : IsTrue (is_active_in edge span.mode)) where
    -- where it is active from an instant on to the span, it is so on in the span
    active_on : (begin : ℕ) → ((x : ℕ) → begin ≤ x → x ≤ now_of log → span_number log x < number → IsTrue (is_active_at log edge x))
        → (instant x : ℕ) → span.lo ≤ instant → instant ≤ span.hi → begin ≤ x → x ≤ instant → IsTrue (is_active_at log edge x)
    active_on begin given instant x from upto since before =
        let within : instant ≤ now_of log = by_now log number span here instant upto in
        let not_above : span_number log x ≤ span_number log instant = number_rises log x instant before in
        let is : span_number log instant ≡ number = numbered log number span here instant from upto in
        elim (cases_lt (span_number log x) number) [
          | inl below ↦ given x since (omega (arith, before, within)) below
          | inr above ↦ (
              let lies = lies_inside log number span here x (omega (arith, before, within)) (omega (arith, not_above, is, above)) in
              subst (λ m. IsTrue (is_active_in edge m)) (sym (in_mode log number span here x lies.0 lies.1)) active)
        ]

    -- the edge is due where it is active for so long
    due_for : (begin start delay instant : ℕ) → edge.tmax ≡ Some delay → time_of trace edge.source ≡ Some start
        → ((x : ℕ) → begin ≤ x → x ≤ now_of log → span_number log x < number → IsTrue (is_active_at log edge x))
        → span.lo ≤ instant → instant ≤ span.hi → start + delay ≤ instant → begin + delay ≤ instant → IsDueBy graph log trace item instant
    due_for begin start delay instant tmax source given from upto since since_begin = (
      edge,
      at,
      (
        delay,
        tmax,
        record {
          start = start;
          source = source;
          since = since;
          active_since = λ x after before. active_on begin given instant x from upto (omega (arith, after, since_begin)) before;
        },
      ),
    )

    -- when it is due, its source is active for so long
    since_start : (start delay instant : ℕ) → edge.tmax ≡ Some delay → time_of trace edge.source ≡ Some start
        → IsDueBy graph log trace item instant
        → start + delay ≤ instant
    since_start start delay instant tmax source due =
        let own_due = own instant due in
        let same : own_due.0 ≡ delay = cc (own_due.1, tmax) in
        omega (arith, age_since_start log trace edge instant own_due.0 start source own_due.2, same)

    -- and so is it itself
    since_gap : (gap delay instant : ℕ) → edge.tmax ≡ Some delay → span_number log gap < number → (IsTrue (is_active_at log edge gap) → ⊥)
        → span.lo ≤ instant → instant ≤ span.hi → IsDueBy graph log trace item instant → gap + 1 + delay ≤ instant
    since_gap gap delay instant tmax before shut from upto due =
        let own_due = own instant due in
        let same : own_due.0 ≡ delay = cc (own_due.1, tmax) in
        let is : span_number log instant ≡ number = numbered log number span here instant from upto in
        let earlier : gap ≤ instant = elim (cases_lt instant gap) [
          | inl above ↦ absurd (omega (arith, number_rises log instant gap (omega (arith, above)), is, before))
          | inr upto ↦ upto
        ] in
        elim (cases_lt (gap + delay) instant) [
          | inl behind ↦ omega (arith, behind)
          | inr short ↦ absurd (shut (own_due.2.active_since gap (omega (arith, short, same)) earlier))
        ]

    -- It is due so long after the later of two, the instant after its gap and the time of its source.
    pub behind : (gap : Option ℕ) (start delay : ℕ) (found : Option ℕ) → IsGap log edge number gap → edge.tmax ≡ Some delay
        → time_of trace edge.source ≡ Some start → Begins (λ instant. after_gap gap start + delay ≤ instant) span.lo span.hi found
        → Begins (IsDueBy graph log trace item) span.lo span.hi found
    behind None start delay found is_gap tmax source begins =
        carried (λ instant. start + delay ≤ instant) (IsDueBy graph log trace item) span.lo span.hi found
        (λ instant from upto late. due_for 0 start delay instant tmax source (λ x since within below. is_gap x within below) from upto late
        (omega (arith, late)))
        (λ instant from upto due. since_start start delay instant tmax source due)
        begins
    behind (Some gap) start delay found is_gap tmax source begins =
        carried (λ instant. max start (gap + 1) + delay ≤ instant) (IsDueBy graph log trace item) span.lo span.hi found
        (λ instant from upto late.
        due_for (gap + 1) start delay instant tmax source
        (λ x since within below. is_gap.active_since x (omega (arith, since)) within below) from upto
        (omega (arith, late)) (omega (arith, late)))
        (λ instant from upto due.
        omega (
          arith,
          since_start start delay instant tmax source due,
          since_gap gap delay instant tmax is_gap.before is_gap.shut from upto due,
        ))
        begins
