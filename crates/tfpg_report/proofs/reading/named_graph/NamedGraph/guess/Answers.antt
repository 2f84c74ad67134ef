use Rattle.std.proofs.Common.{◌≡◌, Some, ap, sym, subst, ◌∙◌, arith}
use Rattle.tfpg_base.proofs.lemmas.lists.SameBytes.{bytes_eq-true}
use Rattle.tfpg_graph.specs.Graph.{Tfpg, name_word, node_named}
use Rattle.tfpg_report.proofs.lemmas.MemberWords.{node_of_word}
use Rattle.tfpg_report.proofs.reading.named_graph.NamedGraph.guess.Goals as goal

pub returns-then-eq : goal.returns-then-eq
returns-then-eq c =
    let graph : Tfpg = c.self.inside.graph.now in
    let node = c.from-guess.result in
    let name : name_word graph node ≡ c.args.name.now = sym c.name.ensures.word ∙ bytes_eq-true _ _ (sym c.if-eq.ensures) in
    subst (λ (g : Tfpg). node_named g c.args.name.now ≡ Some node) c.self.view_is
    (ap (node_named graph) (sym name)
    ∙ node_of_word graph c.is_always_valid.ensures.valid node (omega (arith, c.if-guess-node_count.true, c.node_count.ensures.count)))
