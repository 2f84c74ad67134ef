use Rattle.std.proofs.Common.{map}
use Rattle.std.proofs.lemmas.List.{map-append}
use Rattle.serde_json.specs.Data.{string}
use Rattle.tfpg_graph.specs.Graph.{failure_word}
use Rattle.tfpg_graph.specs.Members.{doubt_word}
use Rattle.tfpg_json.proofs.lemmas.TokensWritten.{list_of_two}
use Rattle.tfpg_json.proofs.writing.from_round.append_set.Goals as goal

pub returns-clause-ok : goal.returns-clause-ok
returns-clause-ok c =
    let graph = c.args.graph.now in
    let finding = c.args.finding.now in
    list_of_two _ _ _ _ _ _ _ _ (map-append string (map (failure_word graph) finding.set) (map (doubt_word graph) finding.doubts))
    c.in_ok-begin_array.ensures.ok c.in_ok-append_failures.ensures.ok c.in_ok-append_doubts.ensures.ok c.in_ok-end_array.ensures.ok
