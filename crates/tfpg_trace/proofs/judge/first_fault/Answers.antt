use Rattle.tfpg_trace.proofs.lemmas.Explained.{explained}
use Rattle.tfpg_trace.proofs.lemmas.SomeVerdict.{by_event, by_rules}
use Rattle.tfpg_trace.proofs.judge.first_fault.Goals as goal

pub returns-in-Some-first_not_shown : goal.returns-in-Some-first_not_shown
returns-in-Some-first_not_shown c =
    let first = c.in-Some-first_not_shown.ensures in
    by_event c.args.graph.now c.args.log.now c.args.set c.args.trace.now
    (record {
      on_time = c.in_default.ensures;
      from_set = c.in_default-first_stranger.ensures;
      rules = c.in_default-broken_rule.ensures;
    })
    first.index first.event first.at first.before c.in-Some-first_not_shown.fault first.not_shown

pub returns : goal.returns
returns c =
    explained c.args.graph.now c.args.log.now c.args.set c.args.trace.now c.is_always_rising.ensures c.requires.nodes
    (record {
      on_time = c.in_default.ensures;
      from_set = c.in_default-first_stranger.ensures;
      rules = c.in_default-broken_rule.ensures;
    })
    c.in_default-first_not_shown.ensures
