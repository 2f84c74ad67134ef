use Rattle.std.proofs.Common.{rules, ◌≡◌, ◌∷◌, sym, ◌∙◌}
use Rattle.tfpg_graph.proofs.lemmas.reading.causes.Names.{has_twice-first, has_twice-later}
use Rattle.tfpg_graph.proofs.reading.list_modes.first_stands_again.Goals as goal

pub returns-in-Some : goal.returns-in-Some
returns-in-Some c =
    let are : c.args.names.now ≡ c.in-Some.first.now ∷ c.in-Some.others.now = search rules in record {
      again = λ is. has_twice-first c.args.names.now c.in-Some.others.now c.in-Some.first.now are (sym c.is_named_among.ensures ∙ is);
      once = λ is. has_twice-later c.args.names.now c.in-Some.others.now c.in-Some.first.now are (sym c.is_named_among.ensures ∙ is);
    }
