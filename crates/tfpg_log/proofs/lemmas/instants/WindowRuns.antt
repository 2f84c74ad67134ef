-- A window is a maximal run of whole spans whose instants pass.
use Rattle.std.proofs.Common.{◌≡◌, ℕ, zero, suc, ◌+◌, ◌≤◌, Bool, true, false, cond, leb, inl, inr, Option, Some, None, refl, sym, ap, subst, ◌∙◌, arith, max}
use Rattle.std.specs.Prelude.{◌↔◌, IsTrue, MatchOption, All, ◌&&◌, nat_le, option_and_then}
use Rattle.std.specs.List.{list_all}
use Rattle.std.proofs.lemmas.Bool.{both_ways, leb-true, le-leb, cond-true, and_parts, and_from, cases_eq, cases_lt}
use Rattle.std.proofs.lemmas.List.Sums.{list_all-from_AllPass}
use Rattle.tfpg_graph.specs.declared.edge.Edge.{Edge}
use Rattle.tfpg_graph.specs.Graph.{Tfpg, is_active_in, edges_into}
use Rattle.tfpg_log.specs.declared.span.Span.{Span}
use Rattle.tfpg_log.specs.declared.span.Window.{Window}
use Rattle.tfpg_log.specs.Log.{Logbook, mode_at, is_active_at}
use Rattle.tfpg_log.specs.Spans.{span_number, span_at, run_start, run_end, window_between, window_round, are_active_at, window_of, joint_of}
use Rattle.tfpg_log.specs.Runs.{IsMaximalRun, Overlaps, LiesIn, IsWindowRound}
use Rattle.tfpg_log.proofs.lemmas.instants.MaximalRuns.{takes_in, one_run}
use Rattle.tfpg_base.proofs.lemmas.lists.Trials.{NonePassesUpTo, IsGreatest, greatest_found, greatest_there}
use Rattle.tfpg_log.proofs.lemmas.instants.SpanRuns.{is_span, found_span}

-- ---- where a run begins and ends

-- the run of passing instants up to this one begins there
record BeginsRun (passes : ℕ → Bool) (start instant : ℕ) : Type 0 where
  upto : start ≤ instant
  throughout : (other : ℕ) → start ≤ other → other ≤ instant → passes other ≡ true
  not_before : (other : ℕ) → other + 1 ≡ start → passes other ≡ false

module _ (passes : ℕ → Bool) where
  start_more : (instant : ℕ) (b : Bool) → passes instant ≡ b → passes (suc instant) ≡ true
      → (passes instant ≡ true → BeginsRun passes (run_start passes instant) instant)
      → BeginsRun passes (cond b (run_start passes instant) (suc instant)) (suc instant)
  start_more instant true at here earlier = let is = earlier at in record {
    upto = omega (arith, is.upto);
    throughout = λ other from upto. elim (cases_eq (suc instant) other) [
      | inl same ↦ subst (λ n. passes n ≡ true) same here
      | inr unlike ↦ is.throughout other from (omega (arith, unlike))
    ];
    not_before = is.not_before;
  }
  start_more instant false at here earlier = record {
    upto = omega arith;
    throughout = λ other from upto. let same : suc instant ≡ other = omega arith in subst (λ n. passes n ≡ true) same here;
    not_before = λ other next. let same : instant ≡ other = omega arith in subst (λ n. passes n ≡ false) same at;
  }

  starts : (instant : ℕ) → passes instant ≡ true → BeginsRun passes (run_start passes instant) instant
  starts zero here = record {
    upto = omega arith;
    throughout = λ other from upto. let same : 0 ≡ other = omega arith in subst (λ n. passes n ≡ true) same here;
    not_before = λ other next. absurd (omega arith);
  }
  starts (suc instant) here = start_more instant (passes instant) refl here (starts instant)

  -- whether the run of an instant reaches up to another
  abbrev reaches : ℕ → ℕ → Bool
  reaches instant last = nat_le instant last && (passes last && nat_le (run_start passes last) instant)

  reaches_next : (instant last : ℕ) → instant ≤ last → passes last ≡ true → run_start passes last ≤ instant → passes (suc last) ≡ true
      → reaches instant (suc last) ≡ true
  reaches_next instant last upto here start next =
      let from : run_start passes (suc last) ≡ run_start passes last = cond-true (passes last) (run_start passes last) (suc last) here in
      and_from (leb instant (suc last)) (passes (suc last) && leb (run_start passes (suc last)) instant)
      (le-leb instant (suc last) (omega arith))
      (and_from (passes (suc last)) (leb (run_start passes (suc last)) instant) next
      (le-leb (run_start passes (suc last)) instant (omega (arith, from, start))))

  reaches_itself : (instant : ℕ) → passes instant ≡ true → reaches instant instant ≡ true
  reaches_itself instant here =
      and_from (leb instant instant) (passes instant && leb (run_start passes instant) instant) (le-leb instant instant (omega arith))
      (and_from (passes instant) (leb (run_start passes instant) instant) here
      (le-leb (run_start passes instant) instant (starts instant here).upto))

  -- what it is that the run of an instant reaches up to another
  record Reached (instant last : ℕ) : Type 0 where
    upto : instant ≤ last
    here : passes last ≡ true
    start : run_start passes last ≤ instant

  reached : (instant last : ℕ) → reaches instant last ≡ true → Reached instant last
  reached instant last e =
      let parts = and_parts (leb instant last) (passes last && leb (run_start passes last) instant) e in
      let more = and_parts (passes last) (leb (run_start passes last) instant) parts.1 in
      record { upto = leb-true instant last parts.0; here = more.0; start = leb-true (run_start passes last) instant more.1 }

  module _ (instant horizon hi : ℕ) (here : passes instant ≡ true) (end : IsGreatest (reaches instant) horizon hi) where
    throughout : (other : ℕ) → run_start passes instant ≤ other → other ≤ hi → passes other ≡ true
    throughout other from upto =
        let last = reached instant hi end.here in
        elim (cases_lt other instant) [
          | inl before ↦ (starts instant here).throughout other from (omega arith)
          | inr behind ↦ (starts hi last.here).throughout other (omega (arith, last.start, behind)) upto
        ]

    not_after : (other : ℕ) → other ≡ hi + 1 → other ≤ horizon → passes other ≡ true → ⊥
    not_after other next upto passing =
        let last = reached instant hi end.here in
        let same : other ≡ suc hi = omega arith in
        both_ways (reaches instant (suc hi)) (end.none_above (suc hi) (omega arith) (omega arith))
        (reaches_next instant hi last.upto last.here last.start (subst (λ n. passes n ≡ true) same passing))

    -- from its start to its end the run is maximal
    is_run : IsMaximalRun (λ other. IsTrue (passes other)) (run_start passes instant) hi horizon
    is_run = let first = starts instant here in record {
      in_order = omega (arith, first.upto, (reached instant hi end.here).upto);
      in_range = end.within;
      throughout = throughout;
      not_before = λ other next passing. both_ways (passes other) (first.not_before other next) passing;
      not_after = not_after;
    }

-- ---- the window round a span

module _ (log : Logbook) (passes : ℕ → Bool) (horizon : ℕ) where
  -- the window is the one that the search finds round a span
  record IsFoundWindow (span : Span) (window : Window) : Type 0 where
    here : passes span.lo ≡ true
    start : run_start passes span.lo ≡ window.lo
    end : IsGreatest (reaches passes span.lo) horizon window.hi
    first : window.first ≡ span_number log window.lo

  between : (span : Span) (window : Window) (hi : Option ℕ) → passes span.lo ≡ true
      → MatchOption hi (NonePassesUpTo (reaches passes span.lo) horizon) (IsGreatest (reaches passes span.lo) horizon)
      → window_between log (run_start passes span.lo) hi ≡ Some window → IsFoundWindow span window
  between span window None here end e = absurd cc
  between span window (Some hi) here end e =
      let found : Window = record { first = span_number log (run_start passes span.lo); lo = run_start passes span.lo; hi = hi } in
      let same : found ≡ window = cc in
      subst (IsFoundWindow span) same (record { here = here; start = refl; end = end; first = refl })

  by_test : (span : Span) (window : Window) (b : Bool) → passes span.lo ≡ b
      → cond b (window_between log (run_start passes span.lo) (run_end passes span.lo horizon)) None ≡ Some window
      → IsFoundWindow span window
  by_test span window true here e =
      between span window (run_end passes span.lo horizon) here (greatest_found (reaches passes span.lo) horizon) e
  by_test span window false here e = absurd cc

  found_window : (span : Span) (window : Window) → window_round log passes span horizon ≡ Some window → IsFoundWindow span window
  found_window span window e = by_test span window (passes span.lo) refl e

  run_of : (span : Span) (window : Window) → IsFoundWindow span window
      → IsMaximalRun (λ other. IsTrue (passes other)) window.lo window.hi horizon
  run_of span window found =
      subst (λ lo. IsMaximalRun (λ other. IsTrue (passes other)) lo window.hi horizon) found.start
      (is_run passes span.lo horizon window.hi found.here found.end)

  window_there : (span : Span) (b : Bool) (hi : Option ℕ) (at : ℕ) → b ≡ true → hi ≡ Some at
      → (window : Window) × (cond b (window_between log (run_start passes span.lo) hi) None ≡ Some window)
  window_there span b hi at here e =
      (record { first = span_number log (run_start passes span.lo); lo = run_start passes span.lo; hi = at }, rw (here, e) refl)

  -- There is a window round each span whose instants pass.
  pub has_window : (number : ℕ) (span : Span) → span_at log number horizon ≡ Some span → passes span.lo ≡ true
      → (window : Window) × (option_and_then (λ s. window_round log passes s horizon) (span_at log number horizon) ≡ Some window)
  has_window number span e here =
      let within = (found_span log number horizon span e).first.within in
      let end = greatest_there (reaches passes span.lo) horizon span.lo within (reaches_itself passes span.lo here) in
      let window = window_there span (passes span.lo) (run_end passes span.lo horizon) end.0 here end.1 in
      (window.0, ap (option_and_then (λ s. window_round log passes s horizon)) e ∙ window.1)

  module _ (alike : (one other : ℕ) → mode_at log one ≡ mode_at log other → passes one ≡ passes other) where
    -- A maximal run of passing instants has whole spans.
    pub whole : (window : Window) → IsMaximalRun (λ instant. IsTrue (passes instant)) window.lo window.hi horizon
        → (number : ℕ) (span : Span) → span_at log number horizon ≡ Some span → Overlaps span window → LiesIn span window
    whole window run number span e meets =
        let is = (is_span log number horizon span e).run in
        let common : ℕ = max window.lo span.lo in
        let mode = is.throughout common (omega arith) (omega (arith, meets.0, is.in_order)) in
        let here : passes common ≡ true = run.throughout common (omega arith) (omega (arith, meets.1, run.in_order)) in
        takes_in (λ instant. IsTrue (passes instant)) horizon window.lo window.hi span.lo span.hi run
        (λ instant from upto. alike instant common (is.throughout instant from upto ∙ sym mode) ∙ here) is.in_range meets.0 meets.1

    meets_own : (number : ℕ) (span : Span) (window : Window) → span_at log number horizon ≡ Some span → IsFoundWindow span window
        → Overlaps span window
    meets_own number span window e found =
        let run = (is_span log number horizon span e).run in (
          omega (arith, found.start, (starts passes span.lo found.here).upto, run.in_order),
          (reached passes span.lo window.hi found.end.here).upto,
        )

    by_span : (number : ℕ) (window : Window) (span : Option Span) → span_at log number horizon ≡ span
        → option_and_then (λ s. window_round log passes s horizon) span ≡ Some window → IsWindowRound log passes number horizon window
    by_span number window None at e = absurd cc
    by_span number window (Some span) at e =
        let found = found_window span window e in
        let run = run_of span window found in
        record {
          run = run;
          whole_spans = whole window run;
          round = (span, at, whole window run number span at (meets_own number span window at found));
          first_span = found.first;
        }

    -- The window round the span of a number is a maximal run of whole spans.
    pub is_window : (number : ℕ) (window : Window)
        → option_and_then (λ span. window_round log passes span horizon) (span_at log number horizon) ≡ Some window
        → IsWindowRound log passes number horizon window
    is_window number window e = by_span number window (span_at log number horizon) refl e

    -- ---- the one window round a span

    same_window : (one other : Window) → one.lo ≡ other.lo → one.hi ≡ other.hi → one.first ≡ other.first → one ≡ other
    same_window one other lo hi first =
        ap (λ l. let window : Window = record { first = one.first; lo = l; hi = one.hi } in window) lo
        ∙ ap (λ h. let window : Window = record { first = one.first; lo = other.lo; hi = h } in window) hi
        ∙ ap (λ f. let window : Window = record { first = f; lo = other.lo; hi = other.hi } in window) first

    -- two windows round the span of a number are one
    one_window : (number : ℕ) (one other : Window) → IsWindowRound log passes number horizon one
        → IsWindowRound log passes number horizon other → one ≡ other
    one_window number one other is same =
        let span : Span = is.round.0 in
        let order = (is_span log number horizon span is.round.1).run.in_order in
        let spans : same.round.0 ≡ span = cc (is.round.1, same.round.1) in
        let lies : LiesIn span other = subst (λ s. LiesIn s other) spans same.round.2 in
        let ends = one_run (λ instant. IsTrue (passes instant)) horizon one.lo one.hi other.lo other.hi span.lo is.run same.run
        is.round.2.0 (omega (arith, order, is.round.2.1)) lies.0 (omega (arith, order, lies.1)) in
        same_window one other ends.0 ends.1 (is.first_span ∙ ap (span_number log) ends.0 ∙ sym same.first_span)

    -- The search finds what is the window round the span of a number.
    pub window_is_found : (number : ℕ) (window : Window) → IsWindowRound log passes number horizon window
        → option_and_then (λ span. window_round log passes span horizon) (span_at log number horizon) ≡ Some window
    window_is_found number window is =
        let span : Span = is.round.0 in
        let order = (is_span log number horizon span is.round.1).run.in_order in
        let there = has_window number span is.round.1 (is.run.throughout span.lo is.round.2.0 (omega (arith, order, is.round.2.1))) in
        there.1 ∙ ap Some (one_window number there.0 window (is_window number there.0 there.1) is)

-- ---- the windows of an edge, and of all edges into a node

-- The window of an edge is the one round the span of the number.
pub edge_window : (log : Logbook) (edge : Edge) (number horizon : ℕ) (window : Window)
    → (window_of log edge number horizon ≡ Some window) ↔ IsWindowRound log (is_active_at log edge) number horizon window
edge_window log edge number horizon window =
    let alike : (one other : ℕ) → mode_at log one ≡ mode_at log other → is_active_at log edge one ≡ is_active_at log edge other =
    λ one other same. ap (is_active_in edge) same in (
      is_window log (is_active_at log edge) horizon alike number window,
      window_is_found log (is_active_at log edge) horizon alike number window,
    )

-- An edge that is active in the mode of a span has a window round it.
pub edge_window_there : (log : Logbook) (edge : Edge) (number horizon : ℕ) (span : Span) → span_at log number horizon ≡ Some span
    → IsTrue (is_active_in edge span.mode)
    → (window : Window) × (window_of log edge number horizon ≡ Some window)
edge_window_there log edge number horizon span e active =
    has_window log (is_active_at log edge) horizon number span e
    (subst (λ mode. IsTrue (is_active_in edge mode)) (sym (found_span log number horizon span e).mode_is) active)

-- The window of all edges into a node is the one round the span of the number.
pub node_window : (graph : Tfpg) (log : Logbook) (node number horizon : ℕ) (window : Window)
    → (joint_of graph log node number horizon ≡ Some window) ↔ IsWindowRound log (are_active_at graph log node) number horizon window
node_window graph log node number horizon window =
    let alike : (one other : ℕ) → mode_at log one ≡ mode_at log other
    → are_active_at graph log node one ≡ are_active_at graph log node other =
    λ one other same. ap (λ mode. list_all (λ edge. is_active_in edge mode) (edges_into graph node)) same in (
      is_window log (are_active_at graph log node) horizon alike number window,
      window_is_found log (are_active_at graph log node) horizon alike number window,
    )

-- Edges into a node that are all active in the mode of a span have a window round it.
pub node_window_there : (graph : Tfpg) (log : Logbook) (node number horizon : ℕ) (span : Span) → span_at log number horizon ≡ Some span
    → All (λ edge. IsTrue (is_active_in edge span.mode)) (edges_into graph node)
    → (window : Window) × (joint_of graph log node number horizon ≡ Some window)
node_window_there graph log node number horizon span e active =
    has_window log (are_active_at graph log node) horizon number span e
    (subst (λ mode. IsTrue (list_all (λ edge. is_active_in edge mode) (edges_into graph node)))
    (sym (found_span log number horizon span e).mode_is)
    (list_all-from_AllPass (λ edge. is_active_in edge span.mode) (edges_into graph node) active))
