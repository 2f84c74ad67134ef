use Rattle.std.proofs.Common.{length, drop, sym, ap, subst, ◌∙◌}
use Rattle.std.proofs.lemmas.List.{take_at}
use Rattle.tfpg_log.specs.LogOfLines.{log_after_reply}
use Rattle.std.specs.Prelude.{Ok}
use Rattle.tfpg_engine.specs.declared.told.Told.TheVariants as told
use Rattle.tfpg_engine.specs.EngineState.{EngineRepresents}
use Rattle.tfpg_engine.proofs.lemmas.CallsCounted.{event_calls}
use Rattle.tfpg_engine.proofs.lemmas.EventBringsRound.{of_graph, same_refusal, lent_go_on, engine_now, gives_from, counts_from}
use Rattle.tfpg_engine.proofs.engine.Engine.event.Goals as goal

pub make-requires-clause-table : goal.make-requires-clause-table
make-requires-clause-table g c = of_graph c.hypotheses_stand_by_size.ensures.in_order c.hypotheses_stand_by_size.ensures.fewer c.self.inside.graph c.self.inside.terms c.self.inside.table c.self.invariant.table

pub make-requires-clause-go_on : goal.make-requires-clause-go_on
make-requires-clause-go_on g c =
    lent_go_on c.tree_laws.ensures _ c.self.invariant c.if-self.false c.in-Ok-Accepted.field-0-0 c.offer.new.self (c.in-Ok-Accepted.ensures.log ∙ ap (log_after_reply c.self.inside.log) c.in-Ok-Accepted.field-0-is)
    c.is_always_ordered.ensures c.deref_mut.result.now c.deref_mut.ensures.value

pub invariant_of-self-in-Ok : goal.invariant_of-self-in-Ok
invariant_of-self-in-Ok g c =
    engine_now c.tree_laws.ensures _ c.self.invariant c.if-self.false c.in-Ok-Accepted.field-0-0 c.offer.new.self (c.in-Ok-Accepted.ensures.log ∙ ap (log_after_reply c.self.inside.log) c.in-Ok-Accepted.field-0-is)
    c.is_always_ordered.ensures c.deref_mut.result.now c.deref_mut.ensures.value c.args.line c.in-Ok.round c.make.new.slots _ c.in-Ok.ensures.round c.make.ensures.one_each
    (take_at c.make.new.slots (drop (length c.make.new.slots) c.self.inside.slots.items) c.self.inside.slots.len (c.make.ensures.one_each ∙ c.deref_mut.ensures.len)) c.make.new.log c.make.ensures.log c.offer.ensures.of

pub returns-in-Ok-clause-brings : goal.returns-in-Ok-clause-brings
returns-in-Ok-clause-brings g c rounds represented =
    gives_from c.tree_laws.ensures _ c.self.invariant c.if-self.false c.in-Ok-Accepted.field-0-0 c.offer.new.self (c.in-Ok-Accepted.ensures.log ∙ ap (log_after_reply c.self.inside.log) c.in-Ok-Accepted.field-0-is)
    c.is_always_ordered.ensures c.deref_mut.result.now c.deref_mut.ensures.value c.args.line c.in-Ok.round c.make.new.slots _ c.in-Ok.ensures.round c.make.ensures.one_each
    (take_at c.make.new.slots (drop (length c.make.new.slots) c.self.inside.slots.items) c.self.inside.slots.len (c.make.ensures.one_each ∙ c.deref_mut.ensures.len)) c.make.new.log c.make.ensures.log
    c.subsets_stand_before_their_supersets.ensures.before c.args.text.now (sym c.in-Ok-Accepted.ensures.reply ∙ c.in-Ok-Accepted.field-0-is) rounds
    (subst (λ e. EngineRepresents e rounds) (sym c.self.view_is) represented) c.args.self.now c.self.view_is

pub returns-in-Ok-Refused-clause-refused : goal.returns-in-Ok-Refused-clause-refused
returns-in-Ok-Refused-clause-refused g c refusal running reply =
    ap (λ r. Ok (told.Refused r))
    (same_refusal c.args.text.now _ c.args.self.now c.in-Ok-Refused.field-0 c.in-Ok-Refused.refusal refusal c.self.view_is c.in-Ok-Refused.ensures.reply c.in-Ok-Refused.field-0-is reply)

pub returns-in-Ok-clause-work : goal.returns-in-Ok-clause-work
returns-in-Ok-clause-work g c rounds represented =
    counts_from c.tree_laws.ensures _ c.self.invariant c.if-self.false c.in-Ok-Accepted.field-0-0 c.offer.new.self (c.in-Ok-Accepted.ensures.log ∙ ap (log_after_reply c.self.inside.log) c.in-Ok-Accepted.field-0-is)
    c.is_always_ordered.ensures c.deref_mut.result.now c.deref_mut.ensures.value c.args.line c.in-Ok.round c.make.new.slots _ c.in-Ok.ensures.round c.make.ensures.one_each
    (take_at c.make.new.slots (drop (length c.make.new.slots) c.self.inside.slots.items) c.self.inside.slots.len (c.make.ensures.one_each ∙ c.deref_mut.ensures.len)) c.make.new.log c.make.ensures.log
    c.subsets_stand_before_their_supersets.ensures.before c.args.text.now (sym c.in-Ok-Accepted.ensures.reply ∙ c.in-Ok-Accepted.field-0-is) rounds
    (subst (λ e. EngineRepresents e rounds) (sym c.self.view_is) represented) c.args.work.now c.make.new.work
    c.in-Ok.ensures.work

pub returns-in-Ok-clause-counted : goal.returns-in-Ok-clause-counted
returns-in-Ok-clause-counted g c =
    event_calls _ c.args.self.now c.deref_mut.result.now c.make.new.slots _ c.args.work.now c.make.new.work c.self.view_is c.deref_mut.ensures.value
    (take_at c.make.new.slots (drop (length c.make.new.slots) c.self.inside.slots.items) c.self.inside.slots.len (c.make.ensures.one_each ∙ c.deref_mut.ensures.len)) c.make.ensures.counted
