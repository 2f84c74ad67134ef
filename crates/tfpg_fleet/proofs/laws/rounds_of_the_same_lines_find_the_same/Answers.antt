use Rattle.tfpg_log.specs.LogOfLines.{log_of_lines}
use Rattle.tfpg_fleet.proofs.lemmas.OneLog.{find_one_thing}
use Rattle.tfpg_fleet.proofs.laws.rounds_of_the_same_lines_find_the_same.Goals as goal

pub returns : goal.returns
returns c graph terms alone lines round other valid same_k same_doubt settled its =
    find_one_thing c.statuses_are_those_of_minimal_sets.ensures c.the_table_is_one.ensures.hypotheses graph terms alone same_k same_doubt valid (log_of_lines graph lines)
    (c.a_log_of_lines_is_of_its_graph.ensures.of graph lines) (c.a_log_of_lines_is_of_its_graph.ensures.ordered graph lines)
    settled.rounds its.rounds settled.line its.line round other settled.is its.is settled.none_open its.none_open
