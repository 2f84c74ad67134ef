use Rattle.std.proofs.Common.{rules, ◌≢◌}
use Rattle.tfpg_graph.proofs.lemmas.declaring.Named.{node_named-same}
use Rattle.tfpg_graph.proofs.reading.check_edge.end_cause.Goals as goal

pub returns-else-is_some-clause-clear : goal.returns-else-is_some-clause-clear
returns-else-is_some-clause-clear c =
    let differ : c.args.words.source.now ≢ c.args.words.target.now = search rules in
    record {
      source_in = c.requires.source_in;
      target_in = c.requires.target_in;
      into_discrepancy = search rules;
      no_self_edge = λ same. differ (node_named-same c.args.declared.now c.args.words.source.now c.args.words.target.now c.args.source c.args.target c.requires.source c.requires.target same);
      new = search rules;
    }
