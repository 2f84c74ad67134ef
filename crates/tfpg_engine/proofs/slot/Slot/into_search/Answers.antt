use Rattle.std.proofs.Common.{◌≡◌, ℕ, List, ap, subst}
use Rattle.std.specs.Prelude.{IfOk}
use Rattle.tfpg_engine.specs.declared.listed.Listed.{Listed}
use Rattle.tfpg_engine.proofs.lemmas.KeptStaysRight.{begins_untouched}
use Rattle.tfpg_engine.proofs.slot.Slot.into_search.Goals as goal

pub returns-in-Untouched-clause-represents : goal.returns-in-Untouched-clause-represents
returns-in-Untouched-clause-represents c =
    begins_untouched c.args.graph.now c.args.listed.now.hypothesis c.args.listed.now.reach.now c.args.self c.new.result c.in-Untouched.is
    (subst (λ (set : List ℕ). IfOk c.new.result (λ search. search.set ≡ set)) (ap (λ (l : Listed). l.hypothesis.set) c.listed.view_is) c.new.ensures.set)
    (subst (λ (reach : List ℕ). IfOk c.new.result (λ search. search.reach ≡ reach)) (ap (λ (l : Listed). l.reach.now) c.listed.view_is) c.new.ensures.reach)
    c.new.ensures.seen c.new.ensures.represents
