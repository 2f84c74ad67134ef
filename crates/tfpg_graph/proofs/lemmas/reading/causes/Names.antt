-- Names in a list, as references to their bytes.
use Rattle.std.proofs.Common.{◌≡◌, ℕ, true, false, ◌||◌, List, ◌∷◌, map, drop, sym, ap, ◌∙◌}
use Rattle.tfpg_base.proofs.lemmas.lists.Images.{list_any-map}
use Rattle.std.specs.List.{list_any}
use Rattle.std.specs.Borrow.{Bor}
use Rattle.std.specs.Str.{bytes_eq}
use Rattle.tfpg_graph.specs.Causes.{has_twice}

module _ (names others : List (Bor (List ℕ))) (name : Bor (List ℕ)) (are : names ≡ name ∷ others) where
  -- the first name stands again
  pub has_twice-first : list_any (λ other. bytes_eq name.now other.now) others ≡ true → has_twice (map (λ other. other.now) names) ≡ true
  has_twice-first again =
      ap (λ all. has_twice (map (λ other. other.now) all)) are
      ∙ ap (λ b. b || has_twice (map (λ other. other.now) others)) (list_any-map (bytes_eq name.now) (λ other. other.now) others ∙ again)

  -- it does not, and the others decide
  pub has_twice-later : list_any (λ other. bytes_eq name.now other.now) others ≡ false → has_twice (map (λ other. other.now) names) ≡ has_twice (map (λ other. other.now) (drop 1 names))
  has_twice-later once =
      ap (λ all. has_twice (map (λ other. other.now) all)) are
      ∙ ap (λ b. b || has_twice (map (λ other. other.now) others)) (list_any-map (bytes_eq name.now) (λ other. other.now) others ∙ once)
      ∙ ap (λ all. has_twice (map (λ other. other.now) (drop 1 all))) (sym are)
