use Rattle.std.proofs.Common.{◌*◌, length, All, ap, subst, sym, ◌∙◌, arith}
use Rattle.tfpg_graph.specs.Valid.{IsValid}
use Rattle.tfpg_sim.specs.Generated.{draft_after, draft_of, drawn_graph, script_drawn}
use Rattle.tfpg_sim.specs.inside.GraphText.{HasDrawnModes}
use Rattle.tfpg_graph.specs.Text.{version_for}
use Rattle.tfpg_sim.proofs.lemmas.drawn.DrawnVersions.{generated_version}
use Rattle.tfpg_sim.proofs.lemmas.drawn.GeneratedGraphs.{generated_valid, generated_kinds, generated_modes}
use Rattle.tfpg_sim.proofs.generating.generate.Goals as goal

pub drawn_graph-requires-clause-valid : goal.drawn_graph-requires-clause-valid
drawn_graph-requires-clause-valid c =
    let size = c.args.size in
    let kinds = c.in_ok-draft.ensures.kinds ∙ ap (λ s. (draft_after s (4 * size)).kinds) c.new-state.ensures in
    let edges = c.in_ok-draft.ensures.edges ∙ ap (λ s. (draft_after s (4 * size)).edges) c.new-state.ensures in
    subst (λ ks. IsValid (drawn_graph ks c.in_ok-draft.draft.edges.items)) (sym kinds)
    (subst (λ es. IsValid (drawn_graph (draft_of c.args.number size).kinds es)) (sym edges) (generated_valid c.args.number size c.requires.some c.requires.few))

pub drawn_graph-requires-clause-few : goal.drawn_graph-requires-clause-few
drawn_graph-requires-clause-few c =
    let size = c.args.size in
    let few = c.requires.few in
    let kinds = c.in_ok-draft.ensures.kinds ∙ ap (λ s. (draft_after s (4 * size)).kinds) c.new-state.ensures in
    omega (arith, ap length kinds, generated_kinds c.args.number size)

pub drawn_graph-requires-clause-modes : goal.drawn_graph-requires-clause-modes
drawn_graph-requires-clause-modes c =
    let edges = c.in_ok-draft.ensures.edges ∙ ap (λ s. (draft_after s (4 * c.args.size)).edges) c.new-state.ensures in
    subst (All HasDrawnModes) (sym edges) (generated_modes c.args.number c.args.size)

pub drawn_graph-requires-clause-version : goal.drawn_graph-requires-clause-version
drawn_graph-requires-clause-version c =
    let size = c.args.size in
    let kinds = c.in_ok-draft.ensures.kinds ∙ ap (λ s. (draft_after s (4 * size)).kinds) c.new-state.ensures in
    let edges = c.in_ok-draft.ensures.edges ∙ ap (λ s. (draft_after s (4 * size)).edges) c.new-state.ensures in
    (λ i. version_for (drawn_graph (kinds i) (edges i))) ∙ generated_version c.args.number size

pub returns-clause-graph : goal.returns-clause-graph
returns-clause-graph c =
    let size = c.args.size in
    let kinds = c.in_ok-draft.ensures.kinds ∙ ap (λ s. (draft_after s (4 * size)).kinds) c.new-state.ensures in
    let edges = c.in_ok-draft.ensures.edges ∙ ap (λ s. (draft_after s (4 * size)).edges) c.new-state.ensures in
    c.in_ok-graph.ensures ∙ (λ i. drawn_graph (kinds i) (edges i))

pub returns-clause-valid : goal.returns-clause-valid
returns-clause-valid c = subst IsValid (sym (returns-clause-graph c)) (generated_valid c.args.number c.args.size c.requires.some c.requires.few)

pub returns-clause-script : goal.returns-clause-script
returns-clause-script c =
    c.in_ok-script.ensures ∙ ap script_drawn (c.in_ok-draft.ensures.after ∙ ap (λ s. (draft_after s (4 * c.args.size)).state) c.new-state.ensures)
