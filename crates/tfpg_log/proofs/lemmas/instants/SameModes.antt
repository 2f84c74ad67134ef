-- Two logs whose instants have the same modes up to a limit have the same spans and windows up to it.
use Rattle.std.proofs.Common.{◌≡◌, ℕ, zero, suc, ◌+◌, ◌≤◌, Bool, cond, eqb, leb, Option, Some, None, refl, sym, ap, ◌∙◌, arith}
use Rattle.std.specs.Prelude.{MatchOption, ◌&&◌, nat_le, option_and_then}
use Rattle.std.specs.List.{list_all}
use Rattle.std.proofs.lemmas.Bool.{le-leb, cond-true, cond_both}
use Rattle.tfpg_base.specs.Trials.{least, greatest}
use Rattle.tfpg_base.proofs.lemmas.lists.Trials.{NonePassesUpTo, IsLeast, AgreeUpTo, least_found, agree_below, least_same, greatest_same}
use Rattle.tfpg_graph.specs.declared.edge.Edge.{Edge}
use Rattle.tfpg_graph.specs.Graph.{Tfpg, is_active_in, edges_into}
use Rattle.tfpg_log.specs.declared.span.Span.{Span}
use Rattle.tfpg_log.specs.declared.span.Window.{Window}
use Rattle.tfpg_log.specs.Log.{Logbook, now_of, mode_at, is_active_at}
use Rattle.tfpg_log.specs.Spans.{span_number, span_between, span_at, run_start, run_end, window_between, window_round, are_active_at, window_of, joint_of}
use Rattle.tfpg_log.proofs.lemmas.instants.SpanRuns.{found_span}

-- ---- searches by tests that agree

module _ (passes tests : ℕ → Bool) where
  run_start_same : (instant : ℕ) → AgreeUpTo passes tests instant → run_start passes instant ≡ run_start tests instant
  run_start_same zero agree = refl
  run_start_same (suc instant) agree =
      ap (λ start. cond (passes instant) start (suc instant)) (run_start_same instant (agree_below passes tests instant agree))
      ∙ ap (λ b. cond b (run_start tests instant) (suc instant)) (agree instant (omega arith))

run_end_same : (passes tests : ℕ → Bool) (instant horizon : ℕ) → AgreeUpTo passes tests horizon
    → run_end passes instant horizon ≡ run_end tests instant horizon
run_end_same passes tests instant horizon agree =
    greatest_same (λ last. nat_le instant last && (passes last && nat_le (run_start passes last) instant))
    (λ last. nat_le instant last && (tests last && nat_le (run_start tests last) instant)) horizon
    (λ last upto.
    ap (λ b. nat_le instant last && (b && nat_le (run_start passes last) instant)) (agree last upto)
    ∙ ap (λ start. nat_le instant last && (tests last && nat_le start instant))
    (run_start_same passes tests last (λ number below. agree number (omega arith))))

-- a run begins at its instant or before
start_within : (passes : ℕ → Bool) (instant : ℕ) → run_start passes instant ≤ instant
start_within passes zero = omega arith
start_within passes (suc instant) =
    cond_both (passes instant) (run_start passes instant) (suc instant) (λ x. x ≤ suc instant)
    (λ _. omega (arith, start_within passes instant)) (λ _. omega arith)

-- ---- spans and windows

module _ (log other : Logbook) (limit : ℕ) (alike : (instant : ℕ) → instant ≤ limit → mode_at log instant ≡ mode_at other instant) where
  -- Each instant up to the limit has the same number of its span.
  pub same_number : (instant : ℕ) → instant ≤ limit → span_number log instant ≡ span_number other instant
  same_number zero upto = refl
  same_number (suc instant) upto =
      ap (λ count. count + cond (eqb (mode_at log instant) (mode_at log (suc instant))) 0 1) (same_number instant (omega arith))
      ∙ ap (λ mode. span_number other instant + cond (eqb mode (mode_at log (suc instant))) 0 1) (alike instant (omega arith))
      ∙ ap (λ mode. span_number other instant + cond (eqb (mode_at other instant) mode) 0 1) (alike (suc instant) upto)

  between_same : (lo hi : Option ℕ) → MatchOption lo (Unit {0}) (λ first. first ≤ limit) → span_between log lo hi ≡ span_between other lo hi
  between_same None hi within = refl
  between_same (Some lo) None within = refl
  between_same (Some lo) (Some hi) within =
      ap (λ mode. let span : Span = record { lo = lo; hi = hi; mode = mode } in Some span) (alike lo within)

  least_within : (passes : ℕ → Bool) (horizon : ℕ) (found : Option ℕ) → horizon ≤ limit
      → MatchOption found (NonePassesUpTo passes horizon) (IsLeast passes horizon)
      → MatchOption found (Unit {0}) (λ first. first ≤ limit)
  least_within passes horizon None within none = tt
  least_within passes horizon (Some first) within is = omega (arith, is.within)

  module _ (number horizon : ℕ) (within : horizon ≤ limit) (by_now : horizon ≤ now_of log) (by_other_now : horizon ≤ now_of other) where
    abbrev has_number : Logbook → ℕ → Bool
    has_number book instant = eqb (span_number book instant) number

    same_numbers : AgreeUpTo (has_number log) (has_number other) horizon
    same_numbers instant upto = ap (λ count. eqb count number) (same_number instant (omega arith))

    -- The span of a number is the same.
    pub same_span : span_at log number horizon ≡ span_at other number horizon
    same_span =
        cond-true (leb horizon (now_of log)) _ None (le-leb horizon (now_of log) by_now)
        ∙ between_same (least (has_number log) horizon) (greatest (has_number log) horizon)
        (least_within (has_number log) horizon (least (has_number log) horizon) within (least_found (has_number log) horizon))
        ∙ ap (λ lo. span_between other lo (greatest (has_number log) horizon))
        (least_same (has_number log) (has_number other) horizon same_numbers)
        ∙ ap (span_between other (least (has_number other) horizon))
        (greatest_same (has_number log) (has_number other) horizon same_numbers)
        ∙ sym (cond-true (leb horizon (now_of other)) _ None (le-leb horizon (now_of other) by_other_now))

    window_between_same : (lo : ℕ) (hi : Option ℕ) → lo ≤ limit → window_between log lo hi ≡ window_between other lo hi
    window_between_same lo None upto = refl
    window_between_same lo (Some hi) upto =
        ap (λ first. let window : Window = record { first = first; lo = lo; hi = hi } in Some window) (same_number lo upto)

    module _ (passes tests : ℕ → Bool) (agree : AgreeUpTo passes tests limit) where
      round_same : (span : Span) → span.lo ≤ limit → window_round log passes span horizon ≡ window_round other tests span horizon
      round_same span upto =
          ap (λ b. cond b (window_between log (run_start passes span.lo) (run_end passes span.lo horizon)) None) (agree span.lo upto)
          ∙ ap (λ window. cond (tests span.lo) window None)
          (window_between_same (run_start passes span.lo) (run_end passes span.lo horizon) (omega (arith, start_within passes span.lo))
          ∙ ap (λ lo. window_between other lo (run_end passes span.lo horizon))
          (run_start_same passes tests span.lo (λ n below. agree n (omega arith)))
          ∙ ap (window_between other (run_start tests span.lo))
          (run_end_same passes tests span.lo horizon (λ n below. agree n (omega arith))))

      by_span : (span : Option Span) → span_at log number horizon ≡ span
          → option_and_then (λ s. window_round log passes s horizon) span ≡ option_and_then (λ s. window_round other tests s horizon) span
      by_span None at = refl
      by_span (Some span) at = round_same span (omega (arith, (found_span log number horizon span at).first.within))

      same_round : option_and_then (λ s. window_round log passes s horizon) (span_at log number horizon)
          ≡ option_and_then (λ s. window_round other tests s horizon) (span_at other number horizon)
      same_round = by_span (span_at log number horizon) refl ∙ ap (option_and_then (λ s. window_round other tests s horizon)) same_span

    -- The window of an edge round a span is the same.
    pub same_window : (edge : Edge) → window_of log edge number horizon ≡ window_of other edge number horizon
    same_window edge =
        same_round (is_active_at log edge) (is_active_at other edge) (λ instant upto. ap (is_active_in edge) (alike instant upto))

    -- The window of all edges into a node round a span is the same.
    pub same_joint : (graph : Tfpg) (node : ℕ) → joint_of graph log node number horizon ≡ joint_of graph other node number horizon
    same_joint graph node =
        same_round (are_active_at graph log node) (are_active_at graph other node)
        (λ instant upto. ap (λ mode. list_all (λ edge. is_active_in edge mode) (edges_into graph node)) (alike instant upto))
