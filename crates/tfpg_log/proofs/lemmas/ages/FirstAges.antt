-- Where in its windows an edge first has an age.
use Rattle.std.proofs.Common.{◌≡◌, ℕ, ◌+◌, ◌≤◌, List, Some, arith, max}
use Rattle.std.specs.Prelude.{◌↔◌}
use Rattle.tfpg_base.specs.declared.activation.Activation.{Activation}
use Rattle.tfpg_base.specs.Trace.{time_of}
use Rattle.tfpg_graph.specs.declared.edge.Edge.{Edge}
use Rattle.tfpg_log.specs.declared.span.Window.{Window}
use Rattle.tfpg_log.specs.Log.{Logbook, now_of}
use Rattle.tfpg_log.specs.Rules.{IsActive, HasAge}
use Rattle.tfpg_log.specs.Spans.{span_number, window_of}
use Rattle.tfpg_log.proofs.lemmas.instants.WindowInstants.{is_window, inside}
use Rattle.tfpg_log.proofs.lemmas.ages.WindowAges.{at_least, exactly}

module _ (log : Logbook) (trace : List Activation) (edge : Edge) where
  -- A node is active at all instants of a window at which the edge has an age where it is so at the first.
  pub in_one : (number horizon age start node : ℕ) (window : Window) → window_of log edge number horizon ≡ Some window
      → time_of trace edge.source ≡ Some start
      → ((instant : ℕ) → window.lo ≤ instant → instant ≤ window.hi → HasAge log trace edge instant age → IsActive trace node instant)
      ↔ (max window.lo start + age ≤ window.hi → IsActive trace node (max window.lo start + age))
  in_one number horizon age start node window e at =
      let soonest : ℕ = max window.lo start + age in (
        λ each room. each soonest (omega arith) room
            ((at_least log trace edge number horizon soonest age start window e (omega arith) room at).1 (omega arith, omega arith)),
        λ then instant from upto has.
            let both = (at_least log trace edge number horizon instant age start window e from upto at).0 has in
            let by_then : soonest ≤ instant = omega (arith, both.0, both.1) in
            let active = then (omega (arith, by_then)) in
            (active.0, active.1, omega (arith, active.2, by_then)),
      )

  -- So it is with all windows up to a horizon.
  pub in_all : (horizon age start node : ℕ) → horizon ≤ now_of log → time_of trace edge.source ≡ Some start
      → ((instant : ℕ) → instant ≤ horizon → HasAge log trace edge instant age → IsActive trace node instant)
      ↔ ((number : ℕ) (window : Window) → window_of log edge number horizon ≡ Some window → max window.lo start + age ≤ window.hi
      → IsActive trace node (max window.lo start + age))
  in_all horizon age start node by_now at = (
    λ each number window e.
        (in_one number horizon age start node window e at).0
        (λ instant from upto. each instant (omega (arith, upto, (is_window log edge number horizon window e).run.in_range))),
    λ firsts instant within has.
        let in_window = (exactly log trace edge instant horizon age within by_now).0 has in
        let lies = inside log edge instant horizon in_window.window within in_window.there in
        (in_one (span_number log instant) horizon age start node in_window.window in_window.there at).1
        (firsts (span_number log instant) in_window.window in_window.there) instant lies.0 lies.1 has,
  )
