use Rattle.std.proofs.Common.{rules, ◌≡◌, ◌∷◌}
use Rattle.tfpg_words.proofs.lemmas.NamesTested.{first_again, first_once}
use Rattle.tfpg_words.proofs.names.first_stands_again.Goals as goal

pub returns-in-Some : goal.returns-in-Some
returns-in-Some c =
    let are : c.args.names.now ≡ c.in-Some.first.now ∷ c.in-Some.others.now = search rules in record {
      again = first_again c.args.names.now c.in-Some.others.now c.in-Some.first.now are c.is_among.result c.is_among.ensures;
      once = first_once c.args.names.now c.in-Some.others.now c.in-Some.first.now are c.is_among.result c.is_among.ensures;
    }
