-- What is kept of the hypotheses judges the round.
use Rattle.tfpg_check.proofs.lemmas.going_on.BlocksJudged.{judged_by_kept, still_of_graph, table_after}
use Rattle.tfpg_check.proofs.block_judge.BlockJudge.judge_by_hypotheses.Goals as goal

pub judge_round-requires-clause-table : goal.judge_round-requires-clause-table
judge_round-requires-clause-table g c = c.self.invariant.table_of c.in-Some.hypotheses c.in-Some.is

pub invariant_of-self : goal.invariant_of-self
invariant_of-self g c =
    still_of_graph c.self.inside.graph c.self.inside.log c.judge_round.new.log c.self.inside.hypotheses c.judge_round.new.self c.self.invariant c.judge_round.ensures.log
    (table_after c.self.inside.graph c.in-Some.hypotheses c.judge_round.new.self c.judge_round.ensures.terms c.judge_round.ensures.table
    (c.self.invariant.table_of c.in-Some.hypotheses c.in-Some.is))

pub returns-clause-judged : goal.returns-clause-judged
returns-clause-judged g c =
    judged_by_kept c.args.read.now c.args.self.now c.self.inside.graph c.self.inside.log_lines c.self.inside.log c.judge_round.new.log c.self.inside.hypotheses c.in-Some.hypotheses c.judge_round.new.self
    c.passed-line.result c.self.view_is c.in-Some.is c.judge_round.ensures.log c.passed-line.ensures c.judge_round.result
    c.judge_round.ensures.passes c.judge_round.ensures.keeps c.judge_round.ensures.fails
