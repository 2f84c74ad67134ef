use Rattle.std.proofs.Common.{get_or, min, ap, ◌∙◌, arith}
use Rattle.tfpg_clause.specs.inside.Musts.{musts_of}
use Rattle.tfpg_clause.proofs.lemmas.logs.SpanNumbers.{numbered_so}
use Rattle.tfpg_clause.proofs.lemmas.first_violated.MustSpans.{met_below}
use Rattle.tfpg_clause.proofs.lemmas.first_violated.MustsBySpan.{must_met_all}
use Rattle.tfpg_clause.proofs.must_violated.must_violated.Goals as goal

pub returns-then-until-last : goal.returns-then-until-last
returns-then-until-last c =
    let log = c.args.log.now in
    let last = (numbered_so log c.min-end.result c.in_ok-last.last c.in_ok-last.ensures).1 in
    must_met_all c.args.graph.now log c.args.times.now c.args.must.now.node c.args.must.now.edges.now c.args.must.now.edge c.requires.must.due c.loop-until.number c.min-end.result c.in-Some.until
    (c.min-end.ensures ∙ ap (min (get_or c.args.times.now c.args.must.now.node 0)) c.now.ensures.now) (omega (arith, last))
    c.loop-until.invariant.met c.in-Some.ensures.met.1

pub loop-until-preserved : goal.loop-until-preserved
loop-until-preserved c = record {
  met =
      met_below c.args.times.now
      (musts_of c.args.graph.now c.args.log.now c.args.must.now.node c.args.must.now.edge) c.loop-until.number c.in-Some.until
      c.loop-until.invariant.met c.in-Some.ensures.met.1;
  known = c.must_met_up_to.ensures.known;
  room = omega (arith, c.must_met_up_to.auto.known, c.loop-until.invariant.room);
}
