-- What lets a probed graph and a probed log be made.
use Rattle.std.proofs.Common.{ℕ, ◌≤◌, cond, List, [], ◌∷◌, ◌++◌, length, All, IsTrue, refl, sym, ap, ◌∙◌, subst, arith}
use Rattle.std.specs.Prelude.{count_by}
use Rattle.std.proofs.lemmas.List.{length_push}
use Rattle.std.proofs.lemmas.List.Elements.{All-push, All-get_or}
use Rattle.std.proofs.lemmas.List.Quantifiers.{all_pairs_push}
use Rattle.std.proofs.lemmas.List.Sums.{sum_by-append, sum_by-cons}
use Rattle.tfpg_base.proofs.lemmas.lists.Elements.{All-from_indexes}
use Rattle.tfpg_base.specs.declared.limits.TheConstants.{MAX_TIME}
use Rattle.tfpg_base.specs.Words.{is_name}
use Rattle.tfpg_graph.specs.Graph.{Tfpg, node_named}
use Rattle.tfpg_graph.specs.Probe.{TakesProbe, with_probe}
use Rattle.tfpg_graph.specs.Valid.{IsValid}
use Rattle.tfpg_log.specs.declared.event.Event.{Event}
use Rattle.tfpg_log.specs.declared.event.Event.TheVariants.{Alarm}
use Rattle.tfpg_log.specs.declared.limits.TheConstants.{MAX_MODE_CHANGES}
use Rattle.tfpg_log.specs.Log.{IsOrdered, time_of_event, is_mode_change}
use Rattle.tfpg_log.specs.EventLines.{AreNextEvents}
use Rattle.tfpg_log.proofs.lemmas.events.Order.{event_by_now}
use Rattle.tfpg_predict.specs.Kept.{kept_events}
use Rattle.tfpg_predict.specs.LeastTime.{Lookahead}
use Rattle.tfpg_predict.specs.Probed.{IsProbeable, IsProbed, probe_lag, probed_log}
use Rattle.tfpg_predict.specs.inside.ProbeNames.{IsProbeName}
use Rattle.tfpg_predict.proofs.lemmas.AsProbed.{of_probed}
use Rattle.tfpg_predict.proofs.lemmas.ProbeNames.{is_name-probe}
use Rattle.tfpg_predict.proofs.lemmas.keeping.KeptOrder.{kept_in_order, kept_in_range, kept_by, changes_kept}
use Rattle.tfpg_predict.proofs.lemmas.keeping.KeptCount.{kept_few}
use Rattle.tfpg_predict.proofs.lemmas.keeping.NextEvents.{AreInOrder, are_next}

module _ (asked : Lookahead) (bound : ℕ) (valid : IsValid asked.graph) (able : IsProbeable asked) (ordered : IsOrdered asked.log) (upto : bound ≤ asked.to)
    (name : List ℕ) (named : IsProbeName asked.graph name) where
  abbrev kept : List Event
  kept = kept_events asked.graph asked.log

  abbrev alarm : Event
  alarm = Alarm asked.to (length asked.graph.nodes)

  abbrev widened : Tfpg
  widened = with_probe asked.graph name asked.node (probe_lag asked.to bound)

  -- The graph takes the probe.
  pub takes_probe : TakesProbe asked.graph name asked.node (probe_lag asked.to bound)
  takes_probe = record {
    source_in = able.node;
    named = subst (λ (word : List ℕ). IsTrue (is_name word)) (sym named.is) (is_name-probe named.number named.small);
    new = ap (node_named asked.graph) named.is ∙ named.named.new;
    lag_valid = record { in_order = omega arith; most = able.in_range };
    node_room = able.few_nodes;
    edge_room = able.few_edges;
  }

  -- What is made is probed.
  pub probed_is : IsProbed asked bound widened (probed_log asked.graph asked.log asked.to)
  probed_is = record {
    number = named.number;
    named = named.named;
    graph_is = ap (λ (word : List ℕ). with_probe asked.graph word asked.node (probe_lag asked.to bound)) named.is;
    log_is = refl;
  }

  -- each kept event has come by the time up to which is looked
  by_end : All (λ event. time_of_event event ≤ asked.to) kept
  by_end = kept_by asked.graph asked.log asked.to (All-from_indexes (λ event. time_of_event event ≤ asked.to) asked.log.events
      (λ index event at. let upto_now = event_by_now asked.log index event ordered at in let later = able.not_back in omega (arith, upto_now, later)))

  in_order : count_by is_mode_change asked.log.events ≤ MAX_MODE_CHANGES → AreInOrder widened (kept ++ alarm ∷ [])
  in_order few = record {
    own = (of_probed asked bound valid able ordered upto widened (probed_log asked.graph asked.log asked.to) probed_is).own;
    in_order = all_pairs_push (λ (earlier : Event) (later : Event). time_of_event earlier ≤ time_of_event later) kept alarm (kept_in_order asked.graph asked.log ordered.in_order)
        (λ k d within. All-get_or (λ event. time_of_event event ≤ asked.to) kept k d within by_end);
    in_range = All-push (λ event. time_of_event event ≤ MAX_TIME) kept alarm (kept_in_range asked.graph asked.log ordered.in_range) able.in_range;
    few =
        let nodes = able.few_nodes in
        let all = kept_few asked.graph asked.log able.of ordered in
        omega (arith, length_push kept alarm, nodes, all, few);
    few_changes = omega (
      arith,
      sum_by-append (λ event. cond (is_mode_change event) 1 0) kept (alarm ∷ []),
      sum_by-cons (λ event. cond (is_mode_change event) 1 0) alarm [],
      changes_kept asked.graph asked.log,
      few,
    );
  }

  -- Each event of the probed log may come next after those before it.
  pub next_events : count_by is_mode_change asked.log.events ≤ MAX_MODE_CHANGES → AreNextEvents widened (kept ++ alarm ∷ [])
  next_events few = are_next widened (kept ++ alarm ∷ []) (in_order few)
