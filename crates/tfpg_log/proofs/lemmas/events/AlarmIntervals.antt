-- The instants that an alarm of a node leaves for its activation.
use Rattle.std.proofs.Common.{◌≡◌, ℕ, ◌-◌, false, not, Some, None, sym, ap}
use Rattle.std.specs.Bool.{then_some}
use Rattle.std.proofs.lemmas.Bool.{not-true}
use Rattle.tfpg_base.proofs.lemmas.lists.Choices.{then_some-true}
use Rattle.tfpg_graph.specs.Graph.{Tfpg, lag_or_zero}
use Rattle.tfpg_log.specs.declared.interval.Interval.{Interval}
use Rattle.tfpg_log.specs.Log.{Logbook, is_ignored, interval_before, alarm_interval}

-- What an alarm leaves: the node is not ignored, and the instants lie so long before as its lag says.
pub record LeavesInterval (graph : Tfpg) (log : Logbook) (node time : ℕ) (interval : Interval) : Type 0 where
  pub heard : is_ignored log node ≡ false
  pub earliest : interval.earliest ≡ time - (lag_or_zero graph node).most
  pub latest : interval.latest ≡ time - (lag_or_zero graph node).least

module _ (graph : Tfpg) (log : Logbook) (node : ℕ) where
  -- The instants that are left are those that the lag says.
  pub interval_is : (time : ℕ) (interval : Interval) → alarm_interval graph log node time ≡ Some interval
      → LeavesInterval graph log node time interval
  interval_is time interval e =
      let parts = then_some-true (not (is_ignored log node)) (interval_before (lag_or_zero graph node) time) interval e in
      record {
        heard = not-true (is_ignored log node) parts.0;
        earliest = ap (λ (i : Interval). i.earliest) (sym parts.1);
        latest = ap (λ (i : Interval). i.latest) (sym parts.1);
      }

  -- Where one alarm of a node leaves no instants, none leaves any.
  pub none_left : (time other : ℕ) (interval : Interval) → alarm_interval graph log node time ≡ None
      → alarm_interval graph log node other ≡ Some interval → ⊥
  none_left time other interval none some =
      let there : alarm_interval graph log node time ≡ Some (interval_before (lag_or_zero graph node) time) =
      ap (λ b. then_some (not b) (interval_before (lag_or_zero graph node) time)) (interval_is other interval some).heard in
      absurd cc
