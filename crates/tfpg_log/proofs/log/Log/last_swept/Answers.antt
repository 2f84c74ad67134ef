use Rattle.std.proofs.Common.{◌≡◌, true, sym, subst, ◌∙◌}
use Rattle.tfpg_graph.specs.Graph.{is_monitored}
use Rattle.tfpg_log.specs.inside.NodeEvents.{IsLast, IsSweep}
use Rattle.tfpg_log.proofs.lemmas.events.LastQuiets.{last_swept_before, last_swept_ever}
use Rattle.tfpg_log.proofs.log.Log.last_swept.Goals as goal

pub returns-in-Some : goal.returns-in-Some
returns-in-Some c =
    let monitored : is_monitored c.args.graph.now c.args.node ≡ true = cc in
    let events = c.node_events-events in
    let alarm = sym events.ensures.first_alarm ∙ c.in-Some.is in
    last_swept_before c.args.graph.now c.args.self.now c.args.node monitored c.in-Some.field-0 events.result.sweep alarm
    (events.ensures.sweep c.in-Some.field-0 alarm)

pub returns-in-None : goal.returns-in-None
returns-in-None c =
    let monitored : is_monitored c.args.graph.now c.args.node ≡ true = cc in
    let events = c.node_events-events in
    last_swept_ever c.args.graph.now c.args.self.now c.args.node monitored c.self.inside.last_sweep
    (sym events.ensures.first_alarm ∙ c.in-None.is)
    (subst (λ log. IsLast (IsSweep log) c.self.inside.last_sweep) c.self.view_is c.self.invariant.swept)
