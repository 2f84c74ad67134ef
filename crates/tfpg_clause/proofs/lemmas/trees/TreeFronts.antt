-- What steps begin with that are a partial tree or a refutation.
use Rattle.std.proofs.Common.{◌≡◌, ◌+◌, List, ◌∷◌, ◌++◌, length, take, sym, subst, ◌∙◌, arith, append_assoc, length-append}
use Rattle.std.specs.Prelude.{All}
use Rattle.std.proofs.lemmas.List.{take-take}
use Rattle.std.proofs.lemmas.List.Elements.{All-take}
use Rattle.tfpg_clause.specs.Case.{Case}
use Rattle.tfpg_clause.specs.Trees.{Judged, places_of, IsRight, IsPartial, IsRefutation}

module _ (case : Case) where
  -- What a partial tree begins with is one.
  pub partial_front : (front back : List Judged) → IsPartial case (front ++ back) → IsPartial case front
  partial_front front back partial =
      let long : length (front ++ back) ≡ length front + length back = length-append front back in
      let more : length (back ++ partial.more) ≡ length back + length partial.more = length-append back partial.more in
      record {
        tree = partial.tree;
        more = back ++ partial.more;
        unfinished = (let u = partial.unfinished in omega arith);
        steps_are = sym (append_assoc front back partial.more) ∙ partial.steps_are;
        right =
            subst (All (IsRight case)) (take-take (length front) (length (front ++ back)) (places_of partial.tree) (omega arith))
            (All-take (IsRight case) (length front) (take (length (front ++ back)) (places_of partial.tree)) partial.right);
      }

  -- What a refutation begins with, and goes on from, is a partial tree.
  pub refutation_front : (front : List Judged) (next : Judged) (back : List Judged) → IsRefutation case (front ++ next ∷ back)
      → IsPartial case front
  refutation_front front next back refutation = record {
    tree = refutation.tree;
    more = next ∷ back;
    unfinished = omega arith;
    steps_are = refutation.steps_are;
    right = All-take (IsRight case) (length front) (places_of refutation.tree) refutation.right;
  }
