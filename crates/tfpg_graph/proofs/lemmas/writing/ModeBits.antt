-- The modes whose bits are set.
use Rattle.std.proofs.Common.{◌≡◌, ◌≢◌, ℕ, suc, zero, ◌+◌, ◌<◌, ◌≤◌, ◌^◌, ◌==◌, not, cond, List, [], ◌∷◌, ◌++◌, length, filter, All, refl, sym, ap, ◌∙◌, arith, zero-add, add-one}
use Rattle.std.specs.List.{range_with_len, AllPairs}
use Rattle.std.specs.Int.{bit_at}
use Rattle.std.proofs.Math.Nat.{mod-eq_of_lt}
use Rattle.std.proofs.lemmas.List.Elements.{All-filter}
use Rattle.std.proofs.lemmas.List.Filters.{length-filter_both}
use Rattle.std.proofs.lemmas.List.FromFn.{length-range_with_len, get_or-range_with_len, filter_of_map_range_with_len_more}
use Rattle.std.proofs.lemmas.List.Kept.{AllPairs-filter}
use Rattle.std.proofs.lemmas.List.{map-id}
use Rattle.tfpg_base.specs.SetBits.{ones_below, bits_of}
use Rattle.tfpg_base.proofs.lemmas.Sets.{bits_of-ones_below}
use Rattle.tfpg_graph.specs.inside.writing.Written.{modes_before}

-- one mode more stands after the others, where its bit is set
pub modes_before-more : (bits mode : ℕ) → modes_before bits (suc mode) ≡ modes_before bits mode ++ cond (bit_at bits mode == 1) (mode ∷ []) []
modes_before-more bits mode =
    ap (modes_before bits) (sym (add-one mode))
    ∙ ap (filter (λ m. bit_at bits m == 1)) (sym (map-id (range_with_len 0 (mode + 1))))
    ∙ filter_of_map_range_with_len_more (λ m. bit_at bits m == 1) (λ m. m) 0 mode mode (zero-add mode)
    ∙ ap (λ (modes : List ℕ). filter (λ m. bit_at bits m == 1) modes ++ cond (bit_at bits mode == 1) (mode ∷ []) []) (map-id (range_with_len 0 mode))

-- they are the ones among the lowest bits
modes_before-ones : (bits end : ℕ) → modes_before bits end ≡ ones_below end bits
unfolding ones_below
modes_before-ones bits zero = refl
modes_before-ones bits (suc mode) =
    modes_before-more bits mode
    ∙ ap (λ (modes : List ℕ). modes ++ cond (bit_at bits mode == 1) (mode ∷ []) []) (modes_before-ones bits mode)

module _ (bits end : ℕ) where
  -- bits that are all among these modes are worth what the modes are
  pub worth-all : bits < 2 ^ end → bits ≡ bits_of (modes_before bits end)
  worth-all own = sym (ap bits_of (modes_before-ones bits end) ∙ bits_of-ones_below end bits ∙ mod-eq_of_lt own)

  -- where a bit is set there is a mode
  pub modes_before-some : 0 < bits → bits < 2 ^ end → modes_before bits end ≢ []
  modes_before-some some own none = omega (arith, some, worth-all own, ap (bits_of) none)

  -- each mode is one of those before the end
  pub modes_before-within : All (λ m. m < end) (modes_before bits end)
  modes_before-within =
      All-filter (λ m. bit_at bits m == 1) (λ m. m < end) (range_with_len 0 end)
      (λ k d within. let inside : k < end = omega (arith, length-range_with_len 0 end) in omega (arith, get_or-range_with_len 0 end k d inside))

  -- no mode stands twice
  pub modes_before-differ : AllPairs (λ a b. a ≢ b) (modes_before bits end)
  modes_before-differ =
      AllPairs-filter (λ a b. a ≢ b) (λ m. bit_at bits m == 1) (range_with_len 0 end)
      (λ i j d before within same.
      let inside : j < end = omega (arith, length-range_with_len 0 end) in
      omega (arith, get_or-range_with_len 0 end i d (omega arith), get_or-range_with_len 0 end j d inside, same))

  -- there are no more than those before the end
  pub modes_before-few : length (modes_before bits end) ≤ end
  modes_before-few =
      omega (
        arith,
        length-filter_both (λ m. bit_at bits m == 1) (λ m. not (bit_at bits m == 1)) (λ m. refl) (range_with_len 0 end),
        length-range_with_len 0 end,
      )
