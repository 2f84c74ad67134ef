-- The age of an edge by its window up to the instant, found by numbers.
use Rattle.std.proofs.Common.{◌≡◌, ℕ, ◌+◌, ◌≤◌, Bool, false, cond, nat_le, List, Option, Some, None, slice_get, ap, sym, subst, ◌∙◌, arith}
use Rattle.std.specs.Prelude.{IsTrue, IsSomeAnd, ◌↔◌, option_and_then}
use Rattle.std.proofs.lemmas.Bool.{false≢true}
use Rattle.std.proofs.lemmas.Option.{cond_some}
use Rattle.tfpg_base.specs.declared.activation.Activation.{Activation}
use Rattle.tfpg_base.specs.Trace.{time_of}
use Rattle.tfpg_graph.specs.declared.edge.Edge.{Edge}
use Rattle.tfpg_log.specs.declared.span.Window.{Window}
use Rattle.tfpg_log.specs.Log.{Logbook, now_of}
use Rattle.tfpg_log.specs.Rules.{HasAge}
use Rattle.tfpg_log.specs.Spans.{span_number, window_of}
use Rattle.tfpg_log.proofs.lemmas.instants.WindowInstants.{inside}
use Rattle.tfpg_log.proofs.lemmas.ages.WindowAges.{exactly, at_least}

module _ (log : Logbook) (trace : List Activation) (instant age : ℕ) (by_now : instant ≤ now_of log) (span : ℕ)
    (number : Some span ≡ cond (nat_le instant (now_of log)) (Some (span_number log instant)) None) where
  -- where the edge's window and its source are there, both must have the age
  by_window : (edge : Edge) (window : Window) (start : ℕ) → window_of log edge span instant ≡ Some window
      → time_of trace edge.source ≡ Some start
      → HasAge log trace edge instant age ↔ ((window.lo + age ≤ instant) × (start + age ≤ instant))
  by_window edge window start there at =
      let is : span ≡ span_number log instant =
      sym (cond_some (nat_le instant (now_of log)) (span_number log instant) span (sym number)).1 in
      let found : window_of log edge (span_number log instant) instant ≡ Some window =
      (λ i. window_of log edge (sym is i) instant) ∙ there in
      let lies = inside log edge instant instant window (omega arith) found in
      at_least log trace edge (span_number log instant) instant instant age start window found lies.0 lies.1 at

  -- where there is no window, the edge has no age
  without_window : (edge : Edge) → window_of log edge span instant ≡ None → HasAge log trace edge instant age → ⊥
  without_window edge none has =
      let is : span ≡ span_number log instant =
      sym (cond_some (nat_le instant (now_of log)) (span_number log instant) span (sym number)).1 in
      let found = (exactly log trace edge instant instant age (omega arith) by_now).0 has in
      let missing : window_of log edge (span_number log instant) instant ≡ None = (λ i. window_of log edge (sym is i) instant) ∙ none in
      let there = found.there in
      let bad : Some found.window ≡ None = sym there ∙ missing in
      cc

  module _ (edges : List Edge) (index : ℕ) where
    -- no window, no age
    pub no_window : None ≡ option_and_then (λ e. window_of log e span instant) (slice_get edges index)
        → IsTrue false ↔ IsSomeAnd (slice_get edges index) (λ e. HasAge log trace e instant age)
    no_window none = (λ no. absurd (false≢true no), by (slice_get edges index) none)
      where
        by : (there : Option Edge) → None ≡ option_and_then (λ e. window_of log e span instant) there
            → IsSomeAnd there (λ e. HasAge log trace e instant age) → IsTrue false
        by None none has = absurd has
        by (Some edge) none has = absurd (without_window edge (sym none) has)

    -- the age by window and source
    pub by_both : (edge : Edge) → slice_get edges index ≡ Some edge → (window : Window)
        → Some window ≡ option_and_then (λ e. window_of log e span instant) (slice_get edges index)
        → (start : ℕ) → Some start ≡ time_of trace edge.source
        → (result : Bool) → IsTrue result ↔ ((window.lo + age ≤ instant) × (start + age ≤ instant))
        → IsTrue result ↔ IsSomeAnd (slice_get edges index) (λ e. HasAge log trace e instant age)
    by_both edge at window there start source result both =
        let found : window_of log edge span instant ≡ Some window =
        ap (option_and_then (λ e. window_of log e span instant)) (sym at) ∙ sym there in
        let same = by_window edge window start found (sym source) in (
          λ yes. subst (λ o. IsSomeAnd o (λ e. HasAge log trace e instant age)) (sym at) (same.1 (both.0 yes)),
          λ has. both.1 (same.0 (subst (λ o. IsSomeAnd o (λ e. HasAge log trace e instant age)) at has)),
        )
