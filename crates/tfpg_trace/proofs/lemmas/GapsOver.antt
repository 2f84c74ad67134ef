-- The gaps of the edges into a node, over the spans.
use Rattle.std.proofs.Common.{◌≡◌, ℕ, ◌+◌, ◌<◌, ◌≤◌, Bool, true, false, cond, List, length, replicate, get_or, Option, Some, None, inl, inr, sym, ap, subst, ◌∙◌, arith}
use Rattle.std.specs.Prelude.{IsTrue}
use Rattle.std.specs.Option.{option_map_or}
use Rattle.std.proofs.lemmas.Bool.{both_ways, cases_lt}
use Rattle.std.proofs.lemmas.List.{get_or_default, get_or-replicate}
use Rattle.tfpg_graph.specs.declared.edge.Edge.{Edge}
use Rattle.tfpg_graph.specs.Graph.{Tfpg, incoming, is_active_in}
use Rattle.tfpg_log.specs.declared.span.Span.{Span}
use Rattle.tfpg_log.specs.Log.{Logbook, now_of, is_active_at}
use Rattle.tfpg_log.specs.Spans.{span_number, span_at}
use Rattle.tfpg_log.proofs.lemmas.instants.SpanRuns.{number_rises, lies_inside}
use Rattle.tfpg_trace.specs.inside.Gaps.{IsGap, IsGapOf, AreGaps, gap_after}
use Rattle.tfpg_trace.proofs.lemmas.SpanOrder.{none_inside, numbered, in_mode, in_order}

-- the gap at an index is that of the edge there
pub gap_at : (graph : Tfpg) (log : Logbook) (node number index : ℕ) (numbers : List ℕ) (gaps : List (Option ℕ)) (default : Option ℕ)
    → numbers ≡ incoming graph node → index < length numbers → length (incoming graph node) ≤ length gaps
    → AreGaps graph log node number gaps
    → IsGapOf graph log (get_or numbers index 0) number (get_or gaps index default)
gap_at graph log node number index numbers gaps default are below room all =
    let into : index < length (incoming graph node) = omega (arith, ap length are, below) in
    let within : index < length gaps = omega (arith, into, room) in
    subst (λ gap. IsGapOf graph log (get_or numbers index 0) number gap) (get_or_default gaps index None default within)
    (subst (λ (ns : List ℕ). IsGapOf graph log (get_or ns index 0) number (get_or gaps index None)) (sym are) (all index into))

-- Before all spans there are no gaps.
pub no_gaps : (graph : Tfpg) (log : Logbook) (node count : ℕ) → length (incoming graph node) ≤ count
    → AreGaps graph log node 0 (replicate count None)
no_gaps graph log node count room index below =
    subst (λ gap. IsGapOf graph log (get_or (incoming graph node) index 0) 0 gap)
    (sym (get_or-replicate {A = Option ℕ} count index None None (omega arith)))
    (λ edge at instant within before. absurd (omega (arith, before)))

module _ (log : Logbook) (edge : Edge) (number : ℕ) where
  -- Where no instant of the next span adds to it, a gap stays.
  same_gap : (gap : Option ℕ)
      → ((instant : ℕ) → instant ≤ now_of log → span_number log instant ≡ number → IsTrue (is_active_at log edge instant))
      → IsGap log edge number gap → IsGap log edge (number + 1) gap
  same_gap None active is = λ instant within below. elim (cases_lt (span_number log instant) number) [
    | inl earlier ↦ is instant within earlier
    | inr above ↦ active instant within (omega (arith, below, above))
  ]
  same_gap (Some gap) active is = record {
    before = omega (arith, is.before);
    shut = is.shut;
    active_since = λ instant since within below. elim (cases_lt (span_number log instant) number) [
      | inl earlier ↦ is.active_since instant since within earlier
      | inr above ↦ active instant within (omega (arith, below, above))
    ];
  }

  module _ (span : Span) (here : span_at log number (now_of log) ≡ Some span) where
    -- A span in whose mode the edge is not active has a gap at its end.
    new_gap : is_active_in edge span.mode ≡ false → IsGap log edge (number + 1) (Some span.hi)
    new_gap shut =
        let order : span.lo ≤ span.hi = in_order log number span here in
        let last : span_number log span.hi ≡ number = numbered log number span here span.hi order (omega arith) in
        record {
          before = omega (arith, last);
          shut = λ active.
              both_ways (is_active_in edge span.mode) shut
              (subst (λ m. IsTrue (is_active_in edge m)) (in_mode log number span here span.hi order (omega arith)) active);
          active_since = λ instant since within below.
              let upto : span_number log span.hi ≤ span_number log instant = number_rises log span.hi instant (omega (arith, since)) in
              let lies = lies_inside log number span here instant within (omega (arith, upto, last, below)) in
              absurd (omega (arith, since, lies.1));
        }

    by_mode : (gap : Option ℕ) (b : Bool) → is_active_in edge span.mode ≡ b → IsGap log edge number gap
        → IsGap log edge (number + 1) (cond b gap (Some span.hi))
    by_mode gap true active is =
        same_gap gap
        (λ instant within at.
        let lies = lies_inside log number span here instant within at in
        subst (λ m. IsTrue (is_active_in edge m)) (sym (in_mode log number span here instant lies.0 lies.1)) active)
        is
    by_mode gap false shut is = new_gap shut

    -- The gap once a span is over.
    pub gap_over : (gap : Option ℕ) → IsGap log edge number gap
        → IsGap log edge (number + 1) (cond (is_active_in edge span.mode) gap (Some span.hi))
    gap_over gap is = by_mode gap (is_active_in edge span.mode) (λ i. is_active_in edge span.mode) is

  -- Where there is no such span, a gap stays.
  pub gap_kept : (gap : Option ℕ) → span_at log number (now_of log) ≡ None → IsGap log edge number gap → IsGap log edge (number + 1) gap
  gap_kept gap none is = same_gap gap (λ instant within at. absurd (none_inside log number none instant within at)) is

module _ (graph : Tfpg) (log : Logbook) (node number : ℕ) where
  -- The gaps once a span is over.
  pub gaps_over : (span : Span) (gaps after : List (Option ℕ)) → span_at log number (now_of log) ≡ Some span
      → ((index : ℕ) → index < length (incoming graph node)
      → get_or after index None ≡ gap_after graph span (get_or (incoming graph node) index 0) (get_or gaps index None))
      → AreGaps graph log node number gaps → AreGaps graph log node (number + 1) after
  gaps_over span gaps after here passed are index below edge at =
      let gap : Option ℕ = get_or gaps index None in
      let over : IsGap log edge (number + 1) (cond (is_active_in edge span.mode) gap (Some span.hi)) =
      gap_over log edge number span here gap (are index below edge at) in
      let is : get_or after index None ≡ cond (is_active_in edge span.mode) gap (Some span.hi) =
      passed index below
      ∙ ap (λ (there : Option Edge). option_map_or (λ (e : Edge). cond (is_active_in e span.mode) gap (Some span.hi)) there gap) at in
      subst (IsGap log edge (number + 1)) (sym is) over

  -- Where there is no such span, they stay.
  pub gaps_kept : (gaps : List (Option ℕ)) → span_at log number (now_of log) ≡ None → AreGaps graph log node number gaps
      → AreGaps graph log node (number + 1) gaps
  gaps_kept gaps none are index below edge at = gap_kept log edge number (get_or gaps index None) none (are index below edge at)
