use Rattle.std.proofs.Common.{◌≡◌, ◌∙◌, ◌<◌, ℕ, List, [], ◌∷◌, ◌++◌, length, map, set, ap, sym, subst, arith}
use Rattle.std.proofs.lemmas.List.{get_or-map, length-map, map-set}
use Rattle.tfpg_graph.specs.inside.zero_cycle.ZeroSearch.{row, with_step, AreStepsWithin}
use Rattle.tfpg_graph.proofs.lemmas.zero_cycle.StepRows.{AreStepsWithin-more}
use Rattle.tfpg_graph.proofs.node_steps.NodeSteps.with_step.Goals as goal
use Rattle.tfpg_graph.proofs.node_steps.NodeSteps.with_step.Goals.{In_ok-push}

-- the row of the node where the step begins has one more
row_more : (c : In_ok-push) → c.push.new.self.items ≡ row c.args.self c.args.from ++ c.args.to ∷ []
row_more c =
    let rows = c.steps.inside.rows.items in
    let within : c.args.from < length rows =
    omega (arith, ap length c.steps.view_is, length-map rows (λ row. row.items)) in
    let was : c.index_mut.result.now.items ≡ row c.args.self c.args.from =
    ap (λ row. row.items) c.index_mut.ensures.value
    ∙ sym (get_or-map (λ row. row.items) rows c.args.from c.index_mut.result.now [] within)
    ∙ ap (λ seen. row seen c.args.from) c.steps.view_is in
    c.in_ok-push.ensures.items ∙ ap (λ nodes. nodes ++ c.args.to ∷ []) was

seen_is : (c : In_ok-push) → map (λ row. row.items)
    (set c.steps.inside.rows.items c.args.from c.push.new.self) ≡ with_step c.args.self c.args.from c.args.to
seen_is c =
    map-set (λ row. row.items) c.steps.inside.rows.items c.args.from c.push.new.self
    ∙ (λ i. set (c.steps.view_is i) c.args.from (row_more c i))

pub invariant_of-steps : goal.invariant_of-steps
invariant_of-steps c =
    let within : AreStepsWithin c.args.self =
    subst (λ (rows : List (List ℕ)). AreStepsWithin rows) c.steps.view_is c.steps.invariant in
    subst (λ (rows : List (List ℕ)). AreStepsWithin rows) (sym (seen_is c))
    (AreStepsWithin-more c.args.self c.args.from c.args.to c.requires.from c.requires.to within)

pub returns : goal.returns
returns c = seen_is c
