use Rattle.std.proofs.Common.{Some, None, sym, subst}
use Rattle.tfpg_trace.specs.inside.FirstFaultIn.{IsFirstFaultIn}
use Rattle.tfpg_trace.proofs.lemmas.MustFaults.{span_reported, without_span}
use Rattle.tfpg_trace.proofs.lemmas.GapsOver.{gaps_over, gaps_kept}
use Rattle.tfpg_trace.proofs.must.fault_at.Goals as goal

pub returns-in_err-span-clause-fault : goal.returns-in_err-span-clause-fault
returns-in_err-span-clause-fault c =
    let none = span_reported c.args.log.now c.args.number c.now.result None c.now.ensures c.in_err-span.ensures in
    subst (IsFirstFaultIn c.args.graph.now c.args.log.now c.args.trace.now c.args.node c.args.number) (sym c.from_residual.ensures)
    (without_span c.args.graph.now c.args.log.now c.args.trace.now c.args.node c.args.number none)

pub returns-in_err-span-clause-gaps : goal.returns-in_err-span-clause-gaps
returns-in_err-span-clause-gaps c =
    let none = span_reported c.args.log.now c.args.number c.now.result None c.now.ensures c.in_err-span.ensures in
    gaps_kept c.args.graph.now c.args.log.now c.args.node c.args.number c.args.gaps.now none c.requires.gaps

pub returns-clause-gaps : goal.returns-clause-gaps
returns-clause-gaps c =
    let here = span_reported c.args.log.now c.args.number c.now.result (Some c.in_ok-span.span) c.now.ensures c.in_ok-span.ensures in
    gaps_over c.args.graph.now c.args.log.now c.args.node c.args.number c.in_ok-span.span c.args.gaps.now c.pass_span.new.gaps here
    c.pass_span.ensures c.requires.gaps
