use Rattle.std.proofs.Common.{◌≡◌, ◌-◌, ◌<◌, length, Some, sym, ap, ◌∙◌, arith, pos, [], ◌∷◌}
use Rattle.tfpg_base.specs.declared.constraint.Constraint.{Constraint}
use Rattle.std.proofs.lemmas.Option.{none-some}
use Rattle.tfpg_base.specs.Bounds.{at_most}
use Rattle.tfpg_clause.specs.inside.Alternatives.{due_seen, due_by_number, latest_within}
use Rattle.tfpg_base.proofs.lemmas.lists.Choices.{each_of-map_at, each_of-map_none, length-each_of_map}
use Rattle.tfpg_clause.proofs.lemmas.alternatives.Dues.{late_at, follows_at, last_at, none_past, latest_is}
use Rattle.tfpg_clause.proofs.must.must_alternative.Goals as goal

pub returns-in_err-due : goal.returns-in_err-due
returns-in_err-due c dues are =
    let f = due_by_number c.args.site.now.graph.now c.args.site.now.log.now c.args.site.now.span c.args.site.now.horizon in
    let gone = each_of-map_none f c.args.edges.now c.in_ok-index.index 0 c.if-index-count.true (sym c.in_err-due.ensures.value) in
    absurd (none-some dues (sym gone ∙ are))

pub returns-then-index-count : goal.returns-then-index-count
returns-then-index-count c dues are =
    let f = due_by_number c.args.site.now.graph.now c.args.site.now.log.now c.args.site.now.span c.args.site.now.horizon in
    let edges = c.args.edges.now in
    let index = c.in_ok-index.index in
    let many : length dues ≡ length edges = length-each_of_map f edges dues are in
    ap Some c.starts_late.ensures
    ∙ sym
    (late_at c.args.node c.args.hi dues c.args.alternative index (due_seen c.in_ok-due.due)
    (omega (arith, c.in_ok-index.ensures.0, c.in_ok-index.ensures.1))
    (sym (c.in_ok-due.ensures.value ∙ each_of-map_at f edges dues index 0 c.if-index-count.true are))
    (omega (arith, many, c.if-index-count.true)))

pub returns-in_err-due-2 : goal.returns-in_err-due-2
returns-in_err-due-2 c dues are =
    let f = due_by_number c.args.site.now.graph.now c.args.site.now.log.now c.args.site.now.span c.args.site.now.horizon in
    let gone =
    each_of-map_none f c.args.edges.now (c.in_ok-index.index - length c.args.edges.now) 0 (omega arith)
    (sym c.in_err-due-2.ensures.value) in
    absurd (none-some dues (sym gone ∙ are))

pub returns-then-index-count-2 : goal.returns-then-index-count-2
returns-then-index-count-2 c dues are =
    let f = due_by_number c.args.site.now.graph.now c.args.site.now.log.now c.args.site.now.span c.args.site.now.horizon in
    let edges = c.args.edges.now in
    let index = c.in_ok-index.index in
    let many : length dues ≡ length edges = length-each_of_map f edges dues are in
    let within : index - length edges < length edges = omega (arith, c.if-index-count-2.true, c.if-index-count.false) in
    ap Some c.follows_in_time.ensures
    ∙ sym
    (follows_at c.args.node c.args.hi dues c.args.alternative index (due_seen c.in_ok-due-2.due) (index - length edges)
    (omega (arith, c.in_ok-index.ensures.0, c.in_ok-index.ensures.1))
    (omega (arith, many, c.if-index-count.false))
    (sym (c.in_ok-due-2.ensures.value ∙ each_of-map_at f edges dues (index - length edges) 0 within are)) (omega (arith, many, within)))

pub returns-then-index-count-3 : goal.returns-then-index-count-3
returns-then-index-count-3 c dues are =
    let f = due_by_number c.args.site.now.graph.now c.args.site.now.log.now c.args.site.now.span c.args.site.now.horizon in
    let edges = c.args.edges.now in
    let many : length dues ≡ length edges = length-each_of_map f edges dues are in
    ap (λ (bound : Constraint). Some (bound ∷ []))
    (c.at_most.ensures ∙ ap (λ latest. at_most c.args.node (pos latest))
    (latest_is c.args.hi c.args.latest dues (sym (ap (latest_within c.args.hi) are) ∙ c.requires.dues)))
    ∙ sym
    (last_at c.args.node c.args.hi dues c.args.alternative c.in_ok-index.index
    (omega (arith, c.in_ok-index.ensures.0, c.in_ok-index.ensures.1)) (omega (arith, many, c.if-index-count-3.true)))

pub returns : goal.returns
returns c dues are =
    let f = due_by_number c.args.site.now.graph.now c.args.site.now.log.now c.args.site.now.span c.args.site.now.horizon in
    let edges = c.args.edges.now in
    let many : length dues ≡ length edges = length-each_of_map f edges dues are in
    sym
    (none_past c.args.node c.args.hi dues c.args.alternative c.in_ok-index.index
    (omega (arith, c.in_ok-index.ensures.0, c.in_ok-index.ensures.1))
    (omega (arith, many, c.if-index-count-3.false, c.if-index-count-2.false)))
