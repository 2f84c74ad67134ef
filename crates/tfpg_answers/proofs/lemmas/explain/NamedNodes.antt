-- A verdict names a node of the graph, where it names one.
use Rattle.std.proofs.Common.{◌≡◌, ℕ, suc, ◌-◌, List, ap, ◌∙◌, arith}
use Rattle.std.specs.Option.{option_and_then}
use Rattle.tfpg_base.specs.declared.activation.Activation.{Activation}
use Rattle.tfpg_graph.specs.Graph.{Tfpg}
use Rattle.tfpg_graph.proofs.lemmas.NodeAt.{monitored_within}
use Rattle.tfpg_log.specs.declared.event.Event.{Event}
use Rattle.tfpg_log.specs.declared.event.Event.TheVariants as event
use Rattle.tfpg_log.specs.Log.{Logbook, IsLogOf, first_events, silence_time}
use Rattle.tfpg_log.proofs.lemmas.events.SilentNodes.{event_own, silent_within}
use Rattle.tfpg_trace.specs.declared.verdict.Verdict.{Verdict}
use Rattle.tfpg_trace.specs.declared.verdict.Verdict.TheVariants.{Yes, Late, Stranger, May, Must, Alarm, Silence}
use Rattle.tfpg_trace.specs.FirstFault.{IsVerdict}
use Rattle.tfpg_answers.specs.inside.Verdicts.{NamesNode}

module _ (graph : Tfpg) (log : Logbook) (set : List ℕ) (trace : List Activation) (of : IsLogOf graph log) where
  pub names_node : (v : Verdict) → IsVerdict graph log set trace v → NamesNode graph v
  names_node Yes right = tt
  names_node (Late node time) right = right.in_range
  names_node (Stranger node time) right = right.1.in_range
  names_node (May node time) right = right.0
  names_node (Must node time) right = right.0
  names_node (Alarm node time) right = monitored_within graph node (event_own graph log (suc right.0) (event.Alarm time node) of right.1.at)
  names_node (Silence node time) right =
      let before : suc right.0 - 1 ≡ right.0 = omega arith in
      silent_within graph log (suc right.0) node time of
      (ap (option_and_then (λ (e : Event). silence_time graph (first_events log (suc right.0 - 1)) e node)) right.2.at
      ∙ ap (λ (count : ℕ). silence_time graph (first_events log count) right.1 node) before ∙ right.3.silent)
