use Rattle.std.proofs.Common.{ℕ, refl}
use Rattle.std.proofs.lemmas.Result.{err_from_is_err_and}
use Rattle.tfpg_engine.proofs.lemmas.CallsCounted.{untouched_calls}
use Rattle.tfpg_engine.proofs.lemmas.EventBringsRound.{new_engine, new_represents, too_many_by, not_too_many}
use Rattle.tfpg_base.proofs.lemmas.lists.Choices.{ok-err}
use Rattle.tfpg_base.specs.declared.terms.Terms.{Terms}
use Rattle.tfpg_engine.proofs.engine.Engine.new.Goals as goal

-- the terms that the engine makes of its numbers
abbrev terms_of : ℕ → ℕ → ℕ → Terms
terms_of k doubt budget = record { k = k; doubt = doubt; budget = budget }

pub returns-in_err-table-clause-too_many : goal.returns-in_err-table-clause-too_many
returns-in_err-table-clause-too_many c count =
    let failed = err_from_is_err_and c.from_residual.result c.from_residual.ensures.1 in
    too_many_by c.from_residual.result failed.0 c.in_err-table.field-0.0 count failed.1 failed.2 (c.in_err-table.ensures.too_many (terms_of c.args.k c.args.doubt c.args.budget) refl refl count)

pub returns-in_err-slots-clause-too_many : goal.returns-in_err-slots-clause-too_many
returns-in_err-slots-clause-too_many c count =
    let failed = err_from_is_err_and c.from_residual-in_err-slots.result c.from_residual-in_err-slots.ensures.1 in
    not_too_many c.from_residual-in_err-slots.result failed.0 count failed.1 failed.2 (λ many. ok-err _ _ ((c.in_ok-table.ensures.too_many (terms_of c.args.k c.args.doubt c.args.budget) refl refl count).1 many))

pub invariant_of-result : goal.invariant_of-result
invariant_of-result c =
    new_engine c.args.graph (terms_of c.args.k c.args.doubt c.args.budget) c.in_ok-table.table c.new-2.result c.in_ok-slots.slots.items c.len.result c.in_ok-slots.ensures
    (c.in_ok-table.ensures.table (terms_of c.args.k c.args.doubt c.args.budget) refl refl) (c.new-2.ensures.of c.args.graph) c.new-2.ensures.empty c.requires.budget c.len.ensures.count

pub returns-clause-represents : goal.returns-clause-represents
returns-clause-represents c =
    new_represents c.args.graph (terms_of c.args.k c.args.doubt c.args.budget) c.in_ok-table.table c.new-2.result c.in_ok-slots.slots.items c.len.result c.in_ok-slots.ensures c.new-2.ensures.empty

pub returns-clause-too_many : goal.returns-clause-too_many
returns-clause-too_many c count = (λ is. absurd (ok-err _ _ is), λ many. absurd (ok-err _ _ ((c.in_ok-table.ensures.too_many (terms_of c.args.k c.args.doubt c.args.budget) refl refl count).1 many)))

pub returns-clause-uncounted : goal.returns-clause-uncounted
returns-clause-uncounted c = untouched_calls c.in_ok-slots.slots.items c.len.result c.in_ok-slots.ensures
