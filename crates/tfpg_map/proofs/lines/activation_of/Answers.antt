use Rattle.std.proofs.Common.{rules, ◌≡◌, None, sym, ap, ◌∙◌}
use Rattle.tfpg_graph.specs.Graph.{node_named}
use Rattle.tfpg_base.specs.Words.{number_of, number_up_to}
use Rattle.tfpg_base.specs.declared.limits.TheConstants.{MAX_TIME}
use Rattle.tfpg_report.proofs.lemmas.MemberWords.{node_of_word, word_of_named}
use Rattle.tfpg_map.proofs.lemmas.LineWords.{time_read, time_spelled}
use Rattle.tfpg_map.proofs.lines.activation_of.Goals as goal

pub returns-in_err-node-clause-none : goal.returns-in_err-node-clause-none
returns-in_err-node-clause-none c none activation of name time =
    let absent : node_named c.args.graph.now c.args.name.now ≡ None = search rules in
    let found = node_of_word c.args.graph.now c.is_always_valid.ensures.valid activation.node of.in_graph in
    let same = ap (node_named c.args.graph.now) name ∙ found in
    cc

pub returns-in-Value-clause-found : goal.returns-in-Value-clause-found
returns-in-Value-clause-found c =
    let word = word_of_named c.args.graph.now c.args.name.now c.in_ok-node.node (search rules) in
    let spelled = time_spelled c.args.time.now c.in-Value.time (sym c.read_number.ensures ∙ c.in-Value.is) in
    (record { in_graph = word.0; in_range = spelled.1 }, word.1, spelled.0)

pub returns-in_default : goal.returns-in_default
returns-in_default c = record {
  found = tt;
  none = λ none activation of name time. c.in_default.not-Value activation.time
      (c.read_number.ensures ∙ ap (λ word. number_up_to MAX_TIME (number_of word)) time ∙ time_read activation.time of.in_range);
}
