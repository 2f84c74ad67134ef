use Rattle.std.proofs.Common.{◌≡◌, ◌∙◌, ap, sym, subst}
use Rattle.tfpg_graph.specs.Graph.{Tfpg}
use Rattle.tfpg_log.specs.Log.{Logbook, ignoring}
use Rattle.tfpg_log.specs.EventLines.{IsNextEvent}
use Rattle.tfpg_log.specs.LogOfLines.{log_of_events}
use Rattle.tfpg_predict.specs.LeastTime.{lookahead_of}
use Rattle.tfpg_predict.specs.Probed.{IsProbed, probed_log}
use Rattle.tfpg_predict.specs.inside.ProbeNames.{IsProbeName}
use Rattle.tfpg_predict.proofs.lemmas.AsProbed.{as_probed, of_probed}
use Rattle.tfpg_predict.proofs.lemmas.Making.{takes_probe, probed_is, next_events}
use Rattle.tfpg_predict.proofs.probed_log.probed.Goals as goal

pub with_probe-requires : goal.with_probe-requires
with_probe-requires c =
    takes_probe (lookahead_of c.args.graph.now c.args.log.now c.args.node c.args.to) c.args.bound c.is_always_valid.ensures.valid c.requires.probeable c.is_always_ordered.ensures c.requires.bound
    c.deref.result.now (subst (IsProbeName c.args.graph.now) (sym c.deref.ensures.value) c.in_ok-name.ensures)

pub log_of_events-requires : goal.log_of_events-requires
log_of_events-requires c front back event parts =
    subst (λ (graph : Tfpg). IsNextEvent graph (log_of_events front) event) (sym c.in_ok-widened.ensures)
    (next_events (lookahead_of c.args.graph.now c.args.log.now c.args.node c.args.to) c.args.bound c.is_always_valid.ensures.valid c.requires.probeable c.is_always_ordered.ensures c.requires.bound
    c.deref.result.now (subst (IsProbeName c.args.graph.now) (sym c.deref.ensures.value) c.in_ok-name.ensures) c.is_always_within_limits.ensures.changes
    front back event (sym (c.deref-2.ensures.value ∙ c.in_ok-events.ensures) ∙ parts))

-- what is made is probed
pub returns-clause-probed : goal.returns-clause-probed
returns-clause-probed c =
    let later : c.in_ok-later.later ≡ log_of_events (probed_log c.args.graph.now c.args.log.now c.args.to).events =
    c.in_ok-later.ensures ∙ ap log_of_events (c.deref-2.ensures.value ∙ c.in_ok-events.ensures) in
    subst (λ (log : Logbook). IsProbed (lookahead_of c.args.graph.now c.args.log.now c.args.node c.args.to) c.args.bound c.in_ok-widened.widened log)
    (sym (c.ignore.ensures ∙ (λ i. ignoring (later i) (c.ignored.ensures i))))
    (subst (λ (graph : Tfpg). IsProbed (lookahead_of c.args.graph.now c.args.log.now c.args.node c.args.to) c.args.bound graph (probed_log c.args.graph.now c.args.log.now c.args.to))
    (sym c.in_ok-widened.ensures)
    (probed_is (lookahead_of c.args.graph.now c.args.log.now c.args.node c.args.to) c.args.bound c.is_always_valid.ensures.valid c.requires.probeable c.is_always_ordered.ensures c.requires.bound
    c.deref.result.now (subst (IsProbeName c.args.graph.now) (sym c.deref.ensures.value) c.in_ok-name.ensures)))

pub returns-clause-of : goal.returns-clause-of
returns-clause-of c =
    of_probed (lookahead_of c.args.graph.now c.args.log.now c.args.node c.args.to) c.args.bound c.is_always_valid.ensures.valid c.requires.probeable c.is_always_ordered.ensures c.requires.bound
    c.in_ok-widened.widened c.ignore.new.self (returns-clause-probed c)

pub returns-clause-explains : goal.returns-clause-explains
returns-clause-explains c =
    as_probed (lookahead_of c.args.graph.now c.args.log.now c.args.node c.args.to) c.args.bound c.is_always_valid.ensures.valid c.requires.probeable c.is_always_ordered.ensures c.requires.bound
    c.in_ok-widened.widened c.ignore.new.self (returns-clause-probed c)
