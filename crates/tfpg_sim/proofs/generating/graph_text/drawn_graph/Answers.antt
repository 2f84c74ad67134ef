use Rattle.std.proofs.Common.{Err, ap, ◌∙◌, subst, ⊎_elim}
use Rattle.tfpg_graph.specs.Faults.{IsGraphResult}
use Rattle.tfpg_sim.specs.Generated.{drawn_graph}
use Rattle.tfpg_sim.specs.inside.GraphText.{draft_text}
use Rattle.tfpg_sim.proofs.lemmas.drawn.GraphTexts.{text_spells}
use Rattle.tfpg_sim.proofs.generating.graph_text.drawn_graph.Goals as goal

pub returns-in-Ok : goal.returns-in-Ok
returns-in-Ok c =
    let kinds = c.args.draft.now.kinds.items in
    let edges = c.args.draft.now.edges.items in
    let text = c.deref-3.ensures.value ∙ c.in_ok-text.ensures ∙ (λ i. draft_text (c.deref.ensures.value i) (c.deref-2.ensures.value i)) in
    ⊎_elim (λ same. cc) (λ none. cc) (subst (IsGraphResult (drawn_graph kinds edges)) c.in-Ok.is
    (c.read.ensures.exact (drawn_graph kinds edges) (text_spells kinds edges c.deref-3.result.now text c.requires.valid c.requires.modes c.requires.version) c.requires.valid))

pub unreachable-requires : goal.unreachable-requires
unreachable-requires c =
    let kinds = c.args.draft.now.kinds.items in
    let edges = c.args.draft.now.edges.items in
    let text = c.deref-3.ensures.value ∙ c.in_ok-text.ensures ∙ (λ i. draft_text (c.deref.ensures.value i) (c.deref-2.ensures.value i)) in
    ⊎_elim (λ same. cc) (λ none. cc) (subst (IsGraphResult (drawn_graph kinds edges)) (c.in-Err-Fault.is ∙ ap Err c.in-Err-Fault.field-0-is)
    (c.read.ensures.exact (drawn_graph kinds edges) (text_spells kinds edges c.deref-3.result.now text c.requires.valid c.requires.modes c.requires.version) c.requires.valid))
