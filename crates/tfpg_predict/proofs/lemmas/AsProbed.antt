-- What a probed log says of the traces that explain the continued one.
use Rattle.std.proofs.Common.{◌≡◌, ◌≢◌, ℕ, ◌+◌, ◌<◌, ◌≤◌, List, [], ◌∷◌, ◌++◌, length, All, Some, IsTrue, sym, ap, ◌∙◌, subst, arith}
use Rattle.std.proofs.lemmas.List.{length_push}
use Rattle.std.proofs.lemmas.List.Elements.{All-push, All-weaker}
use Rattle.tfpg_base.specs.declared.activation.Activation.{Activation}
use Rattle.tfpg_base.specs.Trace.{time_of}
use Rattle.tfpg_base.proofs.lemmas.TraceTimes.{time_holds}
use Rattle.tfpg_graph.specs.Graph.{Tfpg, AreFailures, failures, is_monitored}
use Rattle.tfpg_graph.specs.Probe.{probe_node, with_probe}
use Rattle.tfpg_graph.specs.Valid.{IsValid}
use Rattle.tfpg_graph.proofs.lemmas.NodeAt.{monitored_within}
use Rattle.tfpg_log.specs.declared.event.Event.{Event}
use Rattle.tfpg_log.specs.declared.event.Event.TheVariants.{Alarm, Silent, Sweep, Tick, Mode}
use Rattle.tfpg_log.specs.Log.{Logbook, IsLogOf, IsEventOf, IsOrdered, ignoring, now_of}
use Rattle.tfpg_log.specs.Rules.{IsTraceOf}
use Rattle.tfpg_log.specs.Explains.{Explains, Fits}
use Rattle.tfpg_log.proofs.lemmas.events.Events.{now-with_event}
use Rattle.tfpg_log.proofs.lemmas.events.SilentNodes.{event_own, silent_monitored}
use Rattle.tfpg_predict.specs.Kept.{kept_events}
use Rattle.tfpg_predict.specs.LeastTime.{Lookahead, continued, lookahead_of, ExplainsContinued}
use Rattle.tfpg_predict.specs.Probed.{probe_word, probe_lag, probed_log, without_probe, IsProbed, IsProbeable, ExplainsAsProbed}
use Rattle.tfpg_predict.specs.inside.Tried.{FitsBy, IsNotBy}
use Rattle.tfpg_predict.proofs.lemmas.explained.ProbeParts.{monitored_before, monitored_probe, failures_same}
use Rattle.tfpg_predict.proofs.lemmas.explained.ProbedTraces.{time_without, without_with, time_other, rising_with, time_probe}
use Rattle.tfpg_predict.proofs.lemmas.explained.KeptFacts.{IsSaidBy}
use Rattle.tfpg_predict.proofs.lemmas.explained.Equivalence.{from_probed, to_probed}
use Rattle.tfpg_predict.proofs.lemmas.keeping.KeptEventsKeep.{keeps}
use Rattle.tfpg_predict.proofs.lemmas.keeping.SameKept.{kept_ignoring}

module _ (asked : Lookahead) (bound : ℕ) (valid : IsValid asked.graph) (able : IsProbeable asked) (ordered : IsOrdered asked.log) (upto : bound ≤ asked.to) where
  abbrev probe : ℕ
  probe = length asked.graph.nodes

  as_made : (number : ℕ)
      → ExplainsAsProbed asked bound (with_probe asked.graph (probe_word number) asked.node (probe_lag asked.to bound)) (probed_log asked.graph asked.log asked.to)
  as_made number set trace trace_of = (
    from_probed asked bound (probe_word number) valid able upto (kept_events asked.graph asked.log) (keeps asked.graph asked.log able.of ordered) set trace,
    to_probed asked bound (probe_word number) valid able upto (kept_events asked.graph asked.log) (keeps asked.graph asked.log able.of ordered) set trace trace_of,
  )

  module _ (graph : Tfpg) (log : Logbook) (is : IsProbed asked bound graph log) where
    -- Exactly the traces that give the node a time by the bound, and the probe the same one, explain the probed log.
    pub as_probed : ExplainsAsProbed asked bound graph log
    as_probed =
        subst (λ (g : Tfpg). ExplainsAsProbed asked bound g log) (sym is.graph_is)
        (subst (λ (l : Logbook). ExplainsAsProbed asked bound (with_probe asked.graph (probe_word is.number) asked.node (probe_lag asked.to bound)) l) (sym is.log_is)
        (as_made is.number))

    -- ---- the probed log is one of the probed graph

    own_said : (event : Event) → IsSaidBy asked.graph asked.log event
        → IsEventOf (with_probe asked.graph (probe_word is.number) asked.node (probe_lag asked.to bound)) event
    own_said (Alarm time node) said =
        let own : IsTrue (is_monitored asked.graph node) = event_own asked.graph asked.log said.0 (Alarm time node) able.of said.1 in
        monitored_before asked.graph (probe_word is.number) asked.node (probe_lag asked.to bound) node (monitored_within asked.graph node own) ∙ own
    own_said (Silent time node) said =
        let own : IsTrue (is_monitored asked.graph node) = silent_monitored asked.graph asked.log said.0 node time able.of said.1 in
        monitored_before asked.graph (probe_word is.number) asked.node (probe_lag asked.to bound) node (monitored_within asked.graph node own) ∙ own
    own_said (Sweep time) said = absurd said
    own_said (Tick time) said = absurd said
    own_said (Mode time mode) said = event_own asked.graph asked.log said.0 (Mode time mode) able.of said.1

    of_made : IsLogOf (with_probe asked.graph (probe_word is.number) asked.node (probe_lag asked.to bound)) (probed_log asked.graph asked.log asked.to)
    of_made = record {
      own = All-push (IsEventOf (with_probe asked.graph (probe_word is.number) asked.node (probe_lag asked.to bound))) (kept_events asked.graph asked.log) (Alarm asked.to probe)
          (All-weaker (IsSaidBy asked.graph asked.log) (IsEventOf (with_probe asked.graph (probe_word is.number) asked.node (probe_lag asked.to bound))) own_said
          (kept_events asked.graph asked.log) (keeps asked.graph asked.log able.of ordered).each)
          (monitored_probe asked.graph (probe_word is.number) asked.node (probe_lag asked.to bound));
      ignored = All-weaker (λ node. IsTrue (is_monitored asked.graph node))
          (λ node. IsTrue (is_monitored (with_probe asked.graph (probe_word is.number) asked.node (probe_lag asked.to bound)) node))
          (λ node own. monitored_before asked.graph (probe_word is.number) asked.node (probe_lag asked.to bound) node (monitored_within asked.graph node own) ∙ own)
          asked.log.ignored able.of.ignored;
    }

    pub of_probed : IsLogOf graph log
    of_probed = subst (λ (g : Tfpg). IsLogOf g log) (sym is.graph_is)
        (subst (λ (l : Logbook). IsLogOf (with_probe asked.graph (probe_word is.number) asked.node (probe_lag asked.to bound)) l) (sym is.log_is) of_made)

    pub some_event : 1 ≤ length log.events
    some_event = omega (arith, ap (λ (l : Logbook). length l.events) is.log_is, length_push (kept_events asked.graph asked.log) (Alarm asked.to probe))

    -- a failure mode of the graph is one of the probed graph
    pub members : (set : List ℕ) → AreFailures asked.graph set → AreFailures graph set
    members set are = subst (λ (count : ℕ). All (λ position. position < count) set)
        (ap length (sym (ap failures is.graph_is ∙ failures_same asked.graph (probe_word is.number) asked.node (probe_lag asked.to bound)))) are

    -- ---- what a search of the probed log finds

    module _ (set : List ℕ) where
      other_node : asked.node ≢ probe
      other_node same = let within = able.node in omega (arith, within, same)

      -- a trace that explains it
      pub fits : (trace : List Activation) → Explains graph log set trace → FitsBy asked set bound (without_probe probe trace)
      fits trace explains =
          let explained = (as_probed set trace explains.trace_of).0 explains in
          record {
            explains = explained.explains;
            by_bound = (explained.time, time_without probe trace asked.node other_node ∙ explained.active, explained.by_bound);
          }

      -- or none does
      pub not_by : (Fits graph log set → ⊥) → IsNotBy asked set bound
      not_by none trace time explained at early =
          let below : All (λ (a : Activation). a.node < probe) trace = explained.trace_of.1 in
          let longer : List Activation = trace ++ record { node = probe; time = time } ∷ [] in
          let count : length graph.nodes ≡ probe + 1 =
          ap (λ (g : Tfpg). length g.nodes) is.graph_is ∙ length_push asked.graph.nodes (probe_node (probe_word is.number) (probe_lag asked.to bound)) in
          let trace_of : IsTraceOf graph longer = (
            rising_with probe trace below time explained.trace_of.0,
            All-push (λ (a : Activation). a.node < length graph.nodes) trace (record { node = probe; time = time })
                (All-weaker (λ (a : Activation). a.node < probe) (λ (a : Activation). a.node < length graph.nodes) (λ a less. omega (arith, less, count)) trace below) (omega (arith, count)),
          ) in
          none (
            longer,
            (as_probed set longer trace_of).1 (record {
              explains = subst (ExplainsContinued asked set) (sym (without_with probe trace below time)) explained;
              time = time;
              active = time_other probe trace below time asked.node other_node ∙ at;
              by_bound = early;
              probe = time_probe probe trace below time explained.trace_of.0;
            }),
          )

-- By the time up to which is looked each activation has come.
pub by_its_end : (asked : Lookahead) (set : List ℕ) (trace : List Activation) (node time : ℕ) → ExplainsContinued asked set trace → time_of trace node ≡ Some time → time ≤ asked.to
by_its_end asked set trace node time explained at =
    let by_now : time ≤ now_of (continued asked.log asked.to) = time_holds (λ (a : Activation). a.time ≤ now_of (continued asked.log asked.to)) trace node time explained.by_now at in
    omega (arith, by_now, now-with_event asked.log (Tick asked.to))

-- A look ahead by the log that ignores others allows a probe as well.
pub able_ignoring : (graph : Tfpg) (log : Logbook) (node to : ℕ) (doubts : List ℕ) → IsProbeable (lookahead_of graph log node to) → All (λ n. IsTrue (is_monitored graph n)) doubts
    → IsProbeable (lookahead_of graph (ignoring log doubts) node to)
able_ignoring graph log node to doubts able own = record {
  of = record { own = able.of.own; ignored = own };
  node = able.node;
  few_nodes = able.few_nodes;
  few_edges = able.few_edges;
  not_back = able.not_back;
  in_range = able.in_range;
}

pub ordered_ignoring : (log : Logbook) (doubts : List ℕ) → IsOrdered log → IsOrdered (ignoring log doubts)
ordered_ignoring log doubts ordered = record { in_order = ordered.in_order; in_range = ordered.in_range }

-- What is probed by a log is probed by the log that ignores others, where the probed log does so too.
pub probed_ignoring : (graph : Tfpg) (log : Logbook) (node to : ℕ) (doubts : List ℕ) (bound : ℕ) (next : Tfpg) (later : Logbook)
    → IsProbed (lookahead_of graph log node to) bound next later → IsProbed (lookahead_of graph (ignoring log doubts) node to) bound next (ignoring later doubts)
probed_ignoring graph log node to doubts bound next later is = record {
  number = is.number;
  named = record { new = is.named.new; taken = is.named.taken };
  graph_is = is.graph_is;
  log_is = ap (λ (l : Logbook). ignoring l doubts) is.log_is
      ∙ ap (λ (kept : List Event). record { events = kept ++ Alarm to (length graph.nodes) ∷ []; ignored = doubts }) (sym (kept_ignoring graph log doubts));
}
