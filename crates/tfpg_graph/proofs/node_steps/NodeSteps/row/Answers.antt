use Rattle.std.proofs.Common.{◌≡◌, ◌∙◌, ◌<◌, ℕ, List, [], length, get_or, Contains, ap, sym, subst, arith}
use Rattle.std.proofs.lemmas.List.{get_or-map, length-map}
use Rattle.std.proofs.lemmas.List.Elements.{Contains-get_or}
use Rattle.tfpg_graph.specs.inside.zero_cycle.ZeroSearch.{row, AreStepsWithin}
use Rattle.tfpg_graph.proofs.node_steps.NodeSteps.row.Goals as goal
use Rattle.tfpg_graph.proofs.node_steps.NodeSteps.row.Goals.{After-as_slice}

-- what is lent is the row of the node
row_is : (c : After-as_slice) → c.as_slice.result.now ≡ row c.args.self.now c.args.node
row_is c =
    let rows = c.self.inside.rows.items in
    let within : c.args.node < length rows =
    omega (arith, ap length c.self.view_is, length-map rows (λ row. row.items)) in
    c.as_slice.ensures.value ∙ ap (λ row. row.items) c.index.ensures
    ∙ sym (get_or-map (λ row. row.items) rows c.args.node c.index.result.now [] within)
    ∙ ap (λ seen. row seen c.args.node) c.self.view_is

pub returns-clause-row : goal.returns-clause-row
returns-clause-row c = row_is c

pub returns-clause-within : goal.returns-clause-within
returns-clause-within c =
    let within : AreStepsWithin c.args.self.now =
    subst (λ (rows : List (List ℕ)). AreStepsWithin rows) c.self.view_is c.self.invariant in
    λ k d lt. within c.args.node (get_or c.as_slice.result.now k d)
    (subst (λ (nodes : List ℕ). Contains nodes (get_or c.as_slice.result.now k d)) (row_is c)
    (Contains-get_or c.as_slice.result.now k d lt))
