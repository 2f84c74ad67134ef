use Rattle.std.proofs.Common.{◌+◌, ◌≤◌, length, arith}
use Rattle.tfpg_graph.specs.Graph.{incoming}
use Rattle.tfpg_graph.specs.declared.limits.TheConstants.{MAX_INCOMING}
use Rattle.tfpg_trace.proofs.lemmas.GapsOver.{no_gaps}
use Rattle.tfpg_trace.proofs.lemmas.FirstMustFaults.{one_span_more, first_of_all, none_at_all}
use Rattle.tfpg_trace.proofs.must.first_must_fault.Goals as goal

pub loop-number-init : goal.loop-number-init
loop-number-init c =
    let few : length (incoming c.args.graph.now c.args.node) ≤ MAX_INCOMING =
    c.is_always_valid.ensures.valid.so_far.few_incoming c.args.node in
    record {
      keeps = λ instant within before. absurd (omega (arith, before));
      gaps = no_gaps c.args.graph.now c.args.log.now c.args.node MAX_INCOMING few;
      room = omega arith;
    }

pub returns-in-Some : goal.returns-in-Some
returns-in-Some c =
    first_of_all c.args.log.now c.args.graph.now c.args.trace.now c.args.node c.loop-number.number c.in-Some.instant c.loop-number.invariant.keeps
    c.in-Some.ensures.fault

pub loop-number-preserved : goal.loop-number-preserved
loop-number-preserved c = record {
  keeps =
      one_span_more c.args.log.now c.args.graph.now c.args.trace.now c.args.node c.loop-number.number c.loop-number.invariant.keeps c.in_default.ensures.fault;
  gaps = c.fault_at.ensures.gaps;
  room = omega (arith, c.fault_at.auto.gaps, c.loop-number.invariant.room);
}

pub returns-in_default : goal.returns-in_default
returns-in_default c =
    none_at_all c.args.log.now c.args.graph.now c.args.trace.now c.args.node c.last_to_try.result c.in_ok-last.last
    (c.loop-number.number + 1)
    c.last_to_try.ensures.by_now c.in_ok-last.ensures c.last_to_try.ensures.rest (omega arith)
    (one_span_more c.args.log.now c.args.graph.now c.args.trace.now c.args.node c.loop-number.number c.loop-number.invariant.keeps c.in_default.ensures.fault)

pub returns-then-not-can_be_late : goal.returns-then-not-can_be_late
returns-then-not-can_be_late c instant within = c.can_be_late.ensures c.if-not-can_be_late.true c.args.log.now instant
