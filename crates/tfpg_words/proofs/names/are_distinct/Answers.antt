use Rattle.std.proofs.Common.{◌≡◌, ℕ, ◌-◌, Bool, List, map, length, take, drop, sym, ap, ◌∙◌}
use Rattle.std.specs.Borrow.{Bor}
use Rattle.std.proofs.lemmas.List.{drop-drop, take_rest}
use Rattle.tfpg_words.specs.Names.{are_distinct}
use Rattle.tfpg_words.proofs.names.are_distinct.Goals as goal

-- whether no two of these are alike
abbrev distinct : List (Bor (List ℕ)) → Bool
distinct names = are_distinct (map (λ name. name.now) names)

-- from an index on, as the slice has the names
as_slice : (names : List (Bor (List ℕ))) (index : ℕ) → distinct (drop index names) ≡ distinct (take (length names - index) (drop index names))
as_slice names index = ap distinct (sym (take_rest names index))

pub returns-then-first_stands_again : goal.returns-then-first_stands_again
returns-then-first_stands_again c =
    sym (c.loop-index.invariant ∙ as_slice c.args.names.now c.loop-index.index
    ∙ c.first_stands_again.ensures.again c.if-first_stands_again.true)

pub loop-index-preserved : goal.loop-index-preserved
loop-index-preserved c =
    let names = c.args.names.now in
    let index = c.loop-index.index in
    c.loop-index.invariant ∙ as_slice names index ∙ c.first_stands_again.ensures.once c.if-first_stands_again.false
    ∙ ap (λ rest. distinct (drop 1 rest)) (take_rest names index) ∙ ap distinct (drop-drop 1 index names)
