use Rattle.std.proofs.Common.{rules}
use Rattle.std.proofs.lemmas.List.Sorted.{answers_always}
use Rattle.tfpg_base.proofs.lemmas.Traces.{StandsAt-searched, IsInsertedAt-searched}
use Rattle.tfpg_base.proofs.trace.search.Goals as goal

pub returns-clause-found : goal.returns-clause-found
returns-clause-found c =
    let facts = c.binary_search_by_key.ensures in
    StandsAt-searched c.args.items.now c.args.node _ c.requires facts.bound (facts.position (λ activation. activation.node) (answers_always _ _ _ (λ f a r g called. search rules)))

pub returns-clause-absent : goal.returns-clause-absent
returns-clause-absent c =
    let facts = c.binary_search_by_key.ensures in
    IsInsertedAt-searched c.args.items.now c.args.node _ c.requires facts.bound (facts.position (λ activation. activation.node) (answers_always _ _ _ (λ f a r g called. search rules)))
