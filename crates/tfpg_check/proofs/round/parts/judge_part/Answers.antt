use Rattle.std.proofs.Common.{get_or, refl, inl}
use Rattle.std.proofs.lemmas.Option.{slice_get-get_or}
use Rattle.tfpg_base.proofs.lemmas.lists.Written.{slice_get-set_other}
use Rattle.tfpg_check.proofs.lemmas.judging.PartsTaken.{may_only, table_reached, part_judged, unfinished_within}
use Rattle.tfpg_check.proofs.lemmas.judging.TestsInTurn.{not_where_false}
use Rattle.tfpg_check.proofs.round.parts.judge_part.Goals as goal

pub returns-then-not-may_have_steps-clause-taken : goal.returns-then-not-may_have_steps-clause-taken
returns-then-not-may_have_steps-clause-taken c = λ basis before same_graph same_log same after keeps.
    inl (
      refl,
      refl,
      λ may. not_where_false _ c.may_have_steps.result c.if-not-may_have_steps.true c.may_have_steps.ensures
          (may_only basis before c.args.part.now c.args.next after c.args.table.now c.args.checkers.now (table_reached basis c.args.graph.now c.requires.table.0 c.args.table.now same_graph c.requires.table.1) same
          c.requires.one_each (keeps ((after c.args.part.now.number).0 may.rising)) may),
    )

pub returns-clause-others : goal.returns-clause-others
returns-clause-others c = λ number other. slice_get-set_other c.args.checkers.now c.args.part.now.number number c.take_steps-taken.new.checker other

pub returns-clause-taken : goal.returns-clause-taken
returns-clause-taken c = λ basis before same_graph same_log same after keeps.
    let may = c.may_have_steps.ensures.0 c.if-not-may_have_steps.false in
    part_judged basis c.args.graph.now c.args.log.now same_graph same_log c.requires.table.0 c.args.table.now c.requires.table.1 same c.args.checkers.now c.requires.one_each before c.args.part.now
    c.args.next after (keeps may.0) may c.doubts.result c.doubts.ensures c.ignore.new.self c.ignore.ensures (get_or c.args.checkers.now c.args.part.now.number c.index-checkers-part.result)
    c.take_steps-taken.new.checker
    (slice_get-get_or c.args.checkers.now c.args.part.now.number c.index-checkers-part.result (unfinished_within c.args.checkers.now c.args.part.now.number may.1))
    c.take_steps-taken.ensures.reach c.take_steps-taken.result c.take_steps-taken.ensures.taken
