-- The age of an edge by its window.
use Rattle.std.proofs.Common.{◌≡◌, ℕ, ◌+◌, ◌-◌, ◌≤◌, List, Some, ap, arith, max}
use Rattle.std.specs.Prelude.{◌↔◌, IsTrue}
use Rattle.tfpg_base.specs.declared.activation.Activation.{Activation}
use Rattle.tfpg_base.specs.Trace.{time_of}
use Rattle.tfpg_graph.specs.declared.edge.Edge.{Edge}
use Rattle.tfpg_log.specs.declared.span.Window.{Window}
use Rattle.tfpg_log.specs.Log.{Logbook, now_of, is_active_at}
use Rattle.tfpg_log.specs.Rules.{HasAge, IsAge}
use Rattle.tfpg_log.specs.Spans.{span_number, window_of}
use Rattle.tfpg_log.specs.AgeInWindow.{HasAgeInWindow}
use Rattle.tfpg_log.proofs.lemmas.ages.Ages.{age_since_start}
use Rattle.tfpg_log.proofs.lemmas.instants.MaximalRuns.{holds_since}
use Rattle.tfpg_log.proofs.lemmas.instants.WindowInstants.{is_window, inside, window_there}

module _ (log : Logbook) (trace : List Activation) (edge : Edge) where
  -- In a window the edge has an age exactly where the window and the activation of its source have it.
  pub at_least : (number horizon instant age start : ℕ) (window : Window) → window_of log edge number horizon ≡ Some window
      → window.lo ≤ instant → instant ≤ window.hi
      → time_of trace edge.source ≡ Some start → HasAge log trace edge instant age ↔ ((window.lo + age ≤ instant) × (start + age ≤ instant))
  at_least number horizon instant age start window e from upto at =
      let run = (is_window log edge number horizon window e).run in
      let IsEdgeActive : ℕ → Type 0 = λ x. IsTrue (is_active_at log edge x) in (
        λ has.
            let since = age_since_start log trace edge instant age start at has in
            ((holds_since IsEdgeActive horizon window.lo window.hi instant age run from upto (omega (arith, since))).0 has.active_since, since),
        λ both. record {
          start = start;
          source = at;
          since = both.1;
          active_since = (holds_since IsEdgeActive horizon window.lo window.hi instant age run from upto (omega (arith, both.1))).1 both.0;
        },
      )

  -- So it has the age exactly where it has it by the window.
  pub by_window : (number horizon instant age : ℕ) (window : Window) → window_of log edge number horizon ≡ Some window → window.lo ≤ instant
      → instant ≤ window.hi
      → HasAge log trace edge instant age ↔ HasAgeInWindow (window_of log edge number horizon) trace edge instant age
  by_window number horizon instant age window e from upto = (
    λ has.
        let both = (at_least number horizon instant age has.start window e from upto has.source).0 has in
        record { window = window; there = e; start = has.start; source = has.source; since_window = both.0; since_source = both.1 },
    λ has.
        let same : has.window ≡ window = cc (has.there, e) in
        let lo : has.window.lo ≡ window.lo = ap (λ (w : Window). w.lo) same in
        (at_least number horizon instant age has.start window e from upto has.source).1
        (omega (arith, lo, has.since_window), has.since_source),
  )

  -- So it is with the window round the instant's span.
  pub exactly : (instant horizon age : ℕ) → instant ≤ horizon → horizon ≤ now_of log
      → HasAge log trace edge instant age ↔ HasAgeInWindow (window_of log edge (span_number log instant) horizon) trace edge instant age
  exactly instant horizon age within by_now = (
    λ has.
        let window = window_there log edge instant horizon within by_now (has.active_since instant (omega arith) (omega arith)) in
        (by_window (span_number log instant) horizon instant age window.0 window.1 window.2 window.3).0 has,
    λ has.
        let lies = inside log edge instant horizon has.window within has.there in
        (by_window (span_number log instant) horizon instant age has.window has.there lies.0 lies.1).1 has,
  )

  -- An edge has an age only where it is active and its source has it.
  pub only_there : (instant age : ℕ) → HasAge log trace edge instant age
      → IsTrue (is_active_at log edge instant) × (start : ℕ) × (time_of trace edge.source ≡ Some start) × (start + age ≤ instant)
  only_there instant age has = (has.active_since instant (omega arith) (omega arith), has.start, has.source, has.since)

  -- The greatest age in a window is the time since the later of the two.
  pub age : (number horizon instant start : ℕ) (window : Window) → window_of log edge number horizon ≡ Some window → window.lo ≤ instant
      → instant ≤ window.hi
      → time_of trace edge.source ≡ Some start → start ≤ instant → IsAge log trace edge instant (instant - max window.lo start)
  age number horizon instant start window e from upto at active = record {
    has = (at_least number horizon instant (instant - max window.lo start) start window e from upto at).1 (omega arith, omega arith);
    greatest = λ other more.
        let both = (at_least number horizon instant other start window e from upto at).0 more in
        omega (arith, both.0, both.1);
  }

  -- An age that is reached stays to the end of the window.
  pub stays : (number horizon instant later age : ℕ) (window : Window) → window_of log edge number horizon ≡ Some window
      → window.lo ≤ instant
      → instant ≤ later → later ≤ window.hi → HasAge log trace edge instant age → HasAge log trace edge later age
  stays number horizon instant later age window e from behind upto has =
      let both = (at_least number horizon instant age has.start window e from (omega (arith, behind, upto)) has.source).0 has in
      (at_least number horizon later age has.start window e (omega (arith, from, behind)) upto has.source).1
      (omega (arith, both.0, behind), omega (arith, both.1, behind))
