use Rattle.std.proofs.Common.{ℕ, List, sym, subst, ◌∙◌}
use Rattle.std.specs.List.{Contains}
use Rattle.tfpg_base.proofs.lemmas.Sets.{Contains-with_member, with_member-only}
use Rattle.std.proofs.lemmas.Bool.{false≢true}
use Rattle.tfpg_graph.proofs.lemmas.reach.Reaches.{Widens-to}
use Rattle.tfpg_graph.proofs.graph.Graph.add_if_fed.Goals as goal

pub returns-clause-widens : goal.returns-clause-widens
returns-clause-widens c =
    (Widens-to c.args.self.now c.args.reached.now c.with.result c.args.node c.with.ensures.nodes c.requires.small
    (λ member. false≢true (sym c.if-has.false ∙ c.has.ensures.node.1 member)) (c.is_fed.ensures.0 c.if-not-is_fed.false)).0

pub returns-clause-added : goal.returns-clause-added
returns-clause-added c added =
    (Widens-to c.args.self.now c.args.reached.now c.with.result c.args.node c.with.ensures.nodes c.requires.small
    (λ member. false≢true (sym c.if-has.false ∙ c.has.ensures.node.1 member)) (c.is_fed.ensures.0 c.if-not-is_fed.false)).1

pub returns-clause-here : goal.returns-clause-here
returns-clause-here c added = subst (λ (nodes : List ℕ). Contains nodes c.args.node) (sym c.with.ensures.nodes) (Contains-with_member c.args.node c.args.reached.now)

pub returns-clause-only : goal.returns-clause-only
returns-clause-only c other member =
    with_member-only c.args.node c.args.reached.now other (subst (λ (nodes : List ℕ). Contains nodes other) c.with.ensures.nodes member)
