use Rattle.std.proofs.Common.{◌≡◌, ℕ, ◌+◌, refl, sym, subst, ◌∙◌, arith}
use Rattle.tfpg_streams.specs.declared.fault.StreamFault.TheVariants as faults
use Rattle.tfpg_graph.specs.Valid.{IsValid}
use Rattle.tfpg_diagnose.specs.Watched.{watched}
use Rattle.tfpg_diagnose.specs.Diagnosing.{Diagnoses}
use Rattle.tfpg_diagnose.specs.inside.UnderWay.{ComesTo, ComesToWithin, diagnosis_at}
use Rattle.tfpg_base.proofs.lemmas.lists.Choices.{Err-from}
use Rattle.tfpg_streams.proofs.lemmas.Putting.{Puts-same}
use Rattle.tfpg_streams.proofs.lemmas.InputLines.{falls_short}
use Rattle.tfpg_diagnose.proofs.lemmas.NextBlocks.{few_given, head_as, begins_within, begins_without_memory, begins_badly}
use Rattle.tfpg_panel.specs.Desk.{seen_by}
use Rattle.tfpg_diagnose.proofs.report.write_report.Goals as goal

-- what was counted so far, and what is counted by one block more
counted_on : (calls before_calls more_calls work before more : ℕ) → calls + before ≡ before_calls + work → more_calls + work ≡ calls + more → more_calls + before ≡ before_calls + more
counted_on calls before_calls more_calls work before more so_far adds = omega (arith, so_far, adds)

pub returns-in_err-lines-clause-diagnoses : goal.returns-in_err-lines-clause-diagnoses
returns-in_err-lines-clause-diagnoses g c =
    let before = watched (g.S.Source.state c.args.input.now) (g.K.Sink.state c.args.out.now) (seen_by g.P.Panel.state c.args.desk.now) in
    let told = c.a_desk_is_told_round_by_round.ensures.start (seen_by g.P.Panel.state c.args.desk.now) c.always_keeps_its_panels.ensures in
    subst (Diagnoses c.args.engine.now.graph c.args.engine.now.terms before before) (sym (Err-from c.from_residual.result faults.NoMemory c.from_residual.ensures.1)) (begins_without_memory c.args.engine.now.graph c.args.engine.now.terms before c.requires.has_reports told)

pub returns-in_err-head-clause-diagnoses : goal.returns-in_err-head-clause-diagnoses
returns-in_err-head-clause-diagnoses g c =
    let before = watched (g.S.Source.state c.args.input.now) (g.K.Sink.state c.args.out.now) (seen_by g.P.Panel.state c.args.desk.now) in
    let told = c.a_desk_is_told_round_by_round.ensures.start (seen_by g.P.Panel.state c.args.desk.now) c.always_keeps_its_panels.ensures in
    subst (Diagnoses c.args.engine.now.graph c.args.engine.now.terms before before) (sym (Err-from c.from_residual-in_err-head.result faults.NoMemory c.from_residual-in_err-head.ensures.1)) (begins_without_memory c.args.engine.now.graph c.args.engine.now.terms before c.requires.has_reports told)

pub returns-in_err-write_all-clause-diagnoses : goal.returns-in_err-write_all-clause-diagnoses
returns-in_err-write_all-clause-diagnoses g c =
    let before = watched (g.S.Source.state c.args.input.now) (g.K.Sink.state c.args.out.now) (seen_by g.P.Panel.state c.args.desk.now) in
    let told = c.a_desk_is_told_round_by_round.ensures.start (seen_by g.P.Panel.state c.args.desk.now) c.always_keeps_its_panels.ensures in
    let output = g.K.Sink.state c.write_all.new.out in
    let front = c.in_err-write_all.ensures.front in
    subst (Diagnoses c.args.engine.now.graph c.args.engine.now.terms before (watched (g.S.Source.state c.args.input.now) output (seen_by g.P.Panel.state c.args.desk.now)))
    (sym (Err-from c.from_residual-in_err-write_all.result faults.WriteFault c.from_residual-in_err-write_all.ensures.1))
    (begins_badly c.args.engine.now.graph c.args.engine.now.terms before c.requires.has_reports told output c.deref.result.now front.0 front.1 (c.deref.ensures.value ∙ head_as _ _ _ c.terms.ensures c.in_ok-head.ensures) front.2 front.3 c.in_err-write_all.ensures.failed)

pub loop-head-init : goal.loop-head-init
loop-head-init g c =
    let before = watched (g.S.Source.state c.args.input.now) (g.K.Sink.state c.args.out.now) (seen_by g.P.Panel.state c.args.desk.now) in
    let told = c.a_desk_is_told_round_by_round.ensures.start (seen_by g.P.Panel.state c.args.desk.now) c.always_keeps_its_panels.ensures in
    let output = g.K.Sink.state c.write_all.new.out in (
      begins_within c.args.engine.now.graph c.args.engine.now.terms before c.in_ok-lines.lines c.args.engine.now output c.args.work.now
          c.requires.has_reports c.in_ok-lines.ensures.unread (record { graph_is = refl; terms_is = refl; log_is = c.requires.unread; represents = c.requires.new })
          (Puts-same (g.K.Sink.state c.args.out.now) output _ _ (c.deref.ensures.value ∙ head_as _ _ _ c.terms.ensures c.in_ok-head.ensures) c.in_ok-write_all.ensures.put) c.in_ok-write_all.ensures.no_fault told,
      refl,
    )

-- the engine is ready for the next block
pub write_next_block-requires : goal.write_next_block-requires
write_next_block-requires g c = record {
  valid = subst IsValid (sym c.loop-head.invariant.0.under.reports.graph_is) c.requires.valid;
  rounds = _;
  represents = c.loop-head.invariant.0.under.reports.represents;
}

pub loop-head-smaller : goal.loop-head-smaller
loop-head-smaller g c =
    let leads = c.in_ok-write_next_block.ensures.comes_to c.args.engine.now.graph c.args.engine.now.terms _ c.loop-head.invariant.0.under in
    let on = subst (ComesTo c.args.engine.now.graph c.args.engine.now.terms _ c.loop-head.lines.number (diagnosis_at _ c.write_next_block.new.lines c.write_next_block.new.engine)) c.in-Written.is leads in
    falls_short _ _ (few_given c.args.engine.now.graph c.args.engine.now.terms _ _ c.loop-head.lines c.loop-head.engine c.loop-head.invariant.0.under) on.1

pub returns-in-Ended-clause-diagnoses : goal.returns-in-Ended-clause-diagnoses
returns-in-Ended-clause-diagnoses g c =
    subst (ComesTo c.args.engine.now.graph c.args.engine.now.terms _ c.loop-head.lines.number (diagnosis_at _ c.write_next_block.new.lines c.write_next_block.new.engine)) c.in-Ended.is
    (c.in_ok-write_next_block.ensures.comes_to c.args.engine.now.graph c.args.engine.now.terms _ c.loop-head.invariant.0.under)

pub loop-head-preserved : goal.loop-head-preserved
loop-head-preserved g c = (
  subst (ComesToWithin c.args.engine.now.graph c.args.engine.now.terms _ (diagnosis_at _ c.write_next_block.new.lines c.write_next_block.new.engine) c.args.work.now c.write_next_block.new.work) c.in-Written.is
      (c.in_ok-write_next_block.ensures.counts c.args.engine.now.graph c.args.engine.now.terms _ c.args.work.now c.loop-head.invariant.0),
  counted_on _ _ _ _ _ _ c.loop-head.invariant.1 c.in_ok-write_next_block.ensures.counted,
)

pub returns-in-Ended-clause-work : goal.returns-in-Ended-clause-work
returns-in-Ended-clause-work g c =
    subst (ComesToWithin c.args.engine.now.graph c.args.engine.now.terms _ (diagnosis_at _ c.write_next_block.new.lines c.write_next_block.new.engine) c.args.work.now c.write_next_block.new.work) c.in-Ended.is
    (c.in_ok-write_next_block.ensures.counts c.args.engine.now.graph c.args.engine.now.terms _ c.args.work.now c.loop-head.invariant.0)

pub returns-in_err-write_next_block-clause-diagnoses : goal.returns-in_err-write_next_block-clause-diagnoses
returns-in_err-write_next_block-clause-diagnoses g c =
    subst (Diagnoses c.args.engine.now.graph c.args.engine.now.terms _ _) (sym (Err-from c.from_residual-in_err-write_next_block.result c.in_err-write_next_block.field-0.0 c.from_residual-in_err-write_next_block.ensures.1))
    (c.in_err-write_next_block.ensures.stopped c.args.engine.now.graph c.args.engine.now.terms _ c.loop-head.invariant.0.under)

pub returns-in-Ended-clause-counted : goal.returns-in-Ended-clause-counted
returns-in-Ended-clause-counted g c = counted_on _ _ _ _ _ _ c.loop-head.invariant.1 c.in_ok-write_next_block.ensures.counted

pub returns-in_err-write_next_block-clause-counted : goal.returns-in_err-write_next_block-clause-counted
returns-in_err-write_next_block-clause-counted g c = counted_on _ _ _ _ _ _ c.loop-head.invariant.1 c.in_err-write_next_block.ensures.counted
