use Rattle.std.proofs.Common.{◌≡◌, Some, ap, sym, subst, ◌∙◌}
use Rattle.std.specs.Prelude.{slice_get}
use Rattle.std.proofs.lemmas.Bool.{ltb-true}
use Rattle.std.proofs.lemmas.Option.{slice_get-get_or}
use Rattle.tfpg_engine.specs.declared.slot.Slot.TheVariants.{Searched, Untouched}
use Rattle.tfpg_engine.specs.EngineState.{EngineState, IsLentSearch}
use Rattle.tfpg_engine.proofs.lemmas.LentSearch.{is_lent, lends}
use Rattle.tfpg_engine.proofs.engine.Engine.search.Goals as goal

pub returns-in-Searched-clause-represents : goal.returns-in-Searched-clause-represents
returns-in-Searched-clause-represents c hypothesis at =
    let there : slice_get c.self.inside.slots.items c.args.number ≡ Some (Searched c.in-Searched.search) =
    ap (λ slots. slice_get slots c.args.number) (sym c.deref.ensures.value)
    ∙ slice_get-get_or c.deref.result.now c.args.number c.in_ok-search.field-0.now (ltb-true c.args.number _ (sym c.in_ok-search.ensures.lookup.0))
    ∙ ap Some (sym c.in_ok-search.ensures.lookup.1 ∙ c.in-Searched.is) in
    subst (λ (e : EngineState). IsLentSearch e hypothesis c.in-Searched.search) c.self.view_is
    (is_lent _ c.self.invariant c.if-self.false c.args.number hypothesis c.in-Searched.search
    (ap (λ (e : EngineState). slice_get e.table.hypotheses c.args.number) c.self.view_is ∙ at) there)

pub returns-in-Searched-clause-lent : goal.returns-in-Searched-clause-lent
returns-in-Searched-clause-lent c =
    let there : slice_get c.self.inside.slots.items c.args.number ≡ Some (Searched c.in-Searched.search) =
    ap (λ slots. slice_get slots c.args.number) (sym c.deref.ensures.value)
    ∙ slice_get-get_or c.deref.result.now c.args.number c.in_ok-search.field-0.now (ltb-true c.args.number _ (sym c.in_ok-search.ensures.lookup.0))
    ∙ ap Some (sym c.in_ok-search.ensures.lookup.1 ∙ c.in-Searched.is) in
    lends _ c.args.self.now c.args.number (Some (Searched c.in-Searched.search)) c.self.view_is c.if-self.false there

pub returns-in-Untouched-clause-lent : goal.returns-in-Untouched-clause-lent
returns-in-Untouched-clause-lent c =
    let there : slice_get c.self.inside.slots.items c.args.number ≡ Some Untouched =
    ap (λ slots. slice_get slots c.args.number) (sym c.deref.ensures.value)
    ∙ slice_get-get_or c.deref.result.now c.args.number c.in_ok-search.field-0.now (ltb-true c.args.number _ (sym c.in_ok-search.ensures.lookup.0))
    ∙ ap Some (sym c.in_ok-search.ensures.lookup.1 ∙ c.in-Untouched.is) in
    lends _ c.args.self.now c.args.number (Some Untouched) c.self.view_is c.if-self.false there
