use Rattle.std.proofs.Common.{List, ℕ, subst, ◌∙◌}
use Rattle.tfpg_base.specs.Lines.{lines_of}
use Rattle.tfpg_graph.specs.Graph.{Tfpg}
use Rattle.tfpg_sim.specs.Generated.{generated_script}
use Rattle.tfpg_sim.specs.Script.{IsScriptFault}
use Rattle.tfpg_run.proofs.generate.draw_simulation.Goals as goal

pub unreachable-requires : goal.unreachable-requires
unreachable-requires c =
    let line = c.in-Err-BadScript.field-0-0 in
    let fault = rw c.in-Err-BadScript.field-0-is at c.in-Err-BadScript.ensures.fault in
    c.a_generated_script_is_right.ensures.right c.args.number c.args.size line c.requires.some c.requires.few
    (subst (λ (graph : Tfpg). IsScriptFault graph (lines_of (generated_script c.args.number c.args.size)) line) c.in_ok-graph.ensures.graph
    (subst (λ (script : List ℕ). IsScriptFault c.in_ok-graph.field-0.graph (lines_of script) line) (c.as_slice.ensures ∙ c.in_ok-graph.ensures.script) fault))

pub returns-in-Ok : goal.returns-in-Ok
returns-in-Ok c = record {
  some = c.requires.some;
  few = c.requires.few;
  graph_is = c.in_ok-graph.ensures.graph;
  script = c.as_slice.result.now;
  script_is = c.as_slice.ensures ∙ c.in_ok-graph.ensures.script;
  simulation = c.in-Ok.ensures.simulated;
  accepted = c.in-Ok.ensures.accepted;
  explained = c.in-Ok.ensures.explained;
}
