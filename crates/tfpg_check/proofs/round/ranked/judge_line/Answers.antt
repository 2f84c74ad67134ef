use Rattle.std.proofs.Common.{refl, inl, inr}
use Rattle.tfpg_check.proofs.lemmas.judging.LookupSays.{ranked_exactly_by, explained_by}
use Rattle.tfpg_check.proofs.lemmas.judging.TestsInTurn.{not_where_false, owes_passes}
use Rattle.tfpg_check.proofs.round.ranked.judge_line.Goals as goal

pub returns-then-not-may_be_ranked-clause-ranked : goal.returns-then-not-may_be_ranked-clause-ranked
returns-then-not-may_be_ranked-clause-ranked c = λ basis earlier is same last.
    let exact = ranked_exactly_by basis c.args.lookup.now is c.args.log.now same earlier c.args.last c.args.r.now last in
    inl (refl, refl, λ may. not_where_false _ c.may_be_ranked.result c.if-not-may_be_ranked.true c.may_be_ranked.ensures.right (exact.1 may))

pub returns-then-not-is_explained-clause-ranked : goal.returns-then-not-is_explained-clause-ranked
returns-then-not-is_explained-clause-ranked c = λ basis earlier is same last.
    let exact = ranked_exactly_by basis c.args.lookup.now is c.args.log.now same earlier c.args.last c.args.r.now last in
    inr (
      owes_passes _ _ _ (exact.0 (c.may_be_ranked.ensures.right.0 c.if-not-may_be_ranked.false)),
      (
        refl,
        refl,
        λ explains. not_where_false _ c.is_explained.result c.if-not-is_explained.true c.is_explained.ensures.explains
            ((explained_by basis c.args.lookup.now is c.args.log.now same c.args.r.now).1 explains),
      ),
    )

pub returns-clause-ranked : goal.returns-clause-ranked
returns-clause-ranked c = λ basis earlier is same last.
    let exact = ranked_exactly_by basis c.args.lookup.now is c.args.log.now same earlier c.args.last c.args.r.now last in
    record {
      may = exact.0 (c.may_be_ranked.ensures.right.0 c.if-not-may_be_ranked.false);
      explains = (explained_by basis c.args.lookup.now is c.args.log.now same c.args.r.now).0 (c.is_explained.ensures.explains.0 c.if-not-is_explained.false);
    }
