use Rattle.std.proofs.Common.{rules, ◌≡◌, ap, ◌∙◌, map, ◌++◌, ◌∷◌, []}
use Rattle.tfpg_graph.specs.inside.declaring.Indexes.{with_mode}
use Rattle.tfpg_graph.proofs.lemmas.declaring.Inserts.{modes-insert}
use Rattle.tfpg_graph.proofs.lemmas.declaring.MoreDeclared.{IsDeclared-seen, IsDeclared-seen_as, HasIndexes-with_mode, IsValidSoFar-with_mode}
use Rattle.tfpg_graph.proofs.declared.Declared.with_mode.Goals as goal
use Rattle.tfpg_graph.proofs.declared.Declared.with_mode.Goals.{In_ok-insert}

-- the modes are seen as those before, and the new one
modes_seen : (c : In_ok-insert) → map (λ name. name.items) c.insert.new.self.keys ≡ c.args.self.modes ++ c.args.name.now ∷ []
modes_seen c =
    let named : c.in_ok-name.name.items ≡ c.args.name.now = search rules in
    ap (map (λ name. name.items)) c.in_ok-insert.ensures.keys
    ∙ modes-insert c.declared.inside c.args.self c.declared.view_is c.in_ok-name.name c.args.name.now named c.requires.new

pub returns : goal.returns
returns c = λ i. record { nodes = (c.declared.view_is i).nodes; edges = (c.declared.view_is i).edges; modes = modes_seen c i }

pub invariant_of-declared : goal.invariant_of-declared
invariant_of-declared c =
    let before = IsDeclared-seen_as c.declared.inside c.args.self c.declared.view_is c.declared.invariant in
    IsDeclared-seen _ (with_mode c.args.self c.args.name.now) (returns c) (HasIndexes-with_mode c.args.self c.args.name.now _ _ _ before.0)
    (IsValidSoFar-with_mode c.args.self c.args.name.now c.requires.before_edges c.requires.name c.requires.new c.requires.room before.1)
