use Rattle.std.proofs.Common.{length, ap, subst, sym, ◌∙◌, arith}
use Rattle.tfpg_log.specs.Log.{now_of}
use Rattle.tfpg_log.specs.LogOfLines.{log_of_events}
use Rattle.tfpg_hyp.specs.Rounds.{key_at, counts_of}
use Rattle.tfpg_engine.specs.inside.Inquiries.{inquiry_of}
use Rattle.tfpg_engine.specs.inside.SlotWork.{AreSlotsWithin}
use Rattle.tfpg_engine.proofs.lemmas.FindingsMakeRound.{fractions_of, makes}
use Rattle.tfpg_engine.proofs.round.by_each.Goals as goal

pub order-requires-clause-few : goal.order-requires-clause-few
order-requires-clause-few g c =
    omega (arith, ap length c.deref.ensures.value, c.in_ok-findings.ensures.each.0, c.len-few.ensures.count, c.len-few.ensures.few)

pub order-requires-clause-fractions : goal.order-requires-clause-fractions
order-requires-clause-fractions g c =
    let each = c.in_ok-findings.ensures.each in
    λ number key key_is.
    fractions_of (inquiry_of c.args.inquiry.now c.args.log.now) c.args.table.now c.args.slots.now c.new_findings.new.slots c.in_ok-findings.findings.items each.1 each.0
    c.requires.table.reached.complete c.requires.one_each c.new_findings.ensures.one_each number key (sym (ap (λ fs. key_at fs number) c.deref.ensures.value) ∙ key_is)

pub counts_of-counts-requires : goal.counts_of-counts-requires
counts_of-counts-requires g c =
    omega (arith, ap length c.deref-2.ensures.value, c.in_ok-findings.ensures.each.0, c.len-few.ensures.count, c.len-few.ensures.few)

pub returns-clause-round : goal.returns-clause-round
returns-clause-round g c =
    makes (inquiry_of c.args.inquiry.now c.args.log.now) c.args.table.now c.args.slots.now c.new_findings.new.slots c.args.line c.len.result c.now.result c.in_ok-findings.findings.items c.deref.result.now
    c.from_vec.result c.in_ok-order.order c.counts_of-counts.result (c.len.ensures.len ∙ ap length c.new_findings.ensures.events) (c.now.ensures ∙ ap (λ events. now_of (log_of_events events)) c.new_findings.ensures.events) c.in_ok-findings.ensures.each c.from_vec.ensures c.deref.ensures.value c.in_ok-order.ensures
    (c.counts_of-counts.ensures ∙ ap counts_of c.deref-2.ensures.value)

pub returns-clause-work : goal.returns-clause-work
returns-clause-work g c =
    subst (λ fs. AreSlotsWithin (inquiry_of c.args.inquiry.now c.args.log.now) c.args.table.now c.args.slots.now fs c.args.work.now c.new_findings.new.work) (sym c.from_vec.ensures) c.in_ok-findings.ensures.work
