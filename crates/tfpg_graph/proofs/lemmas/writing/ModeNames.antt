-- The names of the modes whose bits are set.
use Rattle.std.proofs.Common.{◌≡◌, ℕ, ◌+◌, ◌==◌, Bool, true, false, cond, eqb, List, [], ◌∷◌, ◌++◌, length, Option, Some, slice_get, refl, sym, ap, ◌∙◌, append_assoc, append-nil, add-one, arith}
use Rattle.std.specs.List.{join_with_byte, filter_map, cons_option}
use Rattle.std.specs.Int.{bit_at}
use Rattle.std.proofs.lemmas.Bool.Decides.{nat_tests}
use Rattle.std.proofs.lemmas.List.{length-append}
use Rattle.std.proofs.lemmas.List.Elements.{filter_map-append}
use Rattle.tfpg_base.specs.TextLine.{separated}
use Rattle.tfpg_base.proofs.lemmas.lists.Joined.{join-push}
use Rattle.tfpg_graph.specs.Graph.{Tfpg}
use Rattle.tfpg_graph.specs.inside.writing.Written.{modes_before, mode_names_before}
use Rattle.tfpg_graph.proofs.lemmas.writing.ModeBits.{modes_before-more}

module _ (graph : Tfpg) (bits mode : ℕ) where
  -- the names before the next mode
  next_names : (is_set : Bool) → (bit_at bits mode == 1) ≡ is_set
      → mode_names_before graph bits (mode + 1) ≡ mode_names_before graph bits mode ++ filter_map (slice_get graph.modes) (cond is_set (mode ∷ []) [])
  next_names is_set is =
      ap (mode_names_before graph bits) (add-one mode)
      ∙ ap (filter_map (slice_get graph.modes)) (modes_before-more bits mode ∙ ap (λ (b : Bool). modes_before bits mode ++ cond b (mode ∷ []) []) is)
      ∙ filter_map-append (slice_get graph.modes) (modes_before bits mode) (cond is_set (mode ∷ []) [])

  -- a mode more, where its bit is set
  pub mode_names_before-more : (name : List ℕ) → (bit_at bits mode == 1) ≡ true → slice_get graph.modes mode ≡ Some name
      → mode_names_before graph bits (mode + 1) ≡ mode_names_before graph bits mode ++ name ∷ []
  mode_names_before-more name is at = next_names true is ∙ ap (λ (o : Option (List ℕ)). mode_names_before graph bits mode ++ cons_option o []) at

  -- and none where it is not
  pub mode_names_before-same : (bit_at bits mode == 1) ≡ false → mode_names_before graph bits (mode + 1) ≡ mode_names_before graph bits mode
  mode_names_before-same is = next_names false is ∙ append-nil (mode_names_before graph bits mode)

-- The names of the modes before this one stand after the old bytes, and whether there is none.
pub record AreListed (graph : Tfpg) (bits : ℕ) (old new : List ℕ) (is_first : Bool) (mode : ℕ) : Type 0 where
  pub text : new ≡ old ++ join_with_byte 44 (mode_names_before graph bits mode)
  pub first : is_first ≡ eqb (length (mode_names_before graph bits mode)) 0

-- none is listed at first
pub AreListed-none : (graph : Tfpg) (bits : ℕ) (old : List ℕ) → AreListed graph bits old old true 0
AreListed-none graph bits old = record { text = sym (append-nil old); first = refl }

module _ (graph : Tfpg) (bits : ℕ) (old mid : List ℕ) (is_first : Bool) (mode : ℕ) (listed : AreListed graph bits old mid is_first mode) where
  -- one mode more is listed
  pub AreListed-more : (name new : List ℕ) → (bit_at bits mode == 1) ≡ true → slice_get graph.modes mode ≡ Some name
      → new ≡ mid ++ separated 44 is_first name → AreListed graph bits old new false (mode + 1)
  AreListed-more name new is at appended =
      let names : List (List ℕ) = mode_names_before graph bits mode in
      let more : mode_names_before graph bits (mode + 1) ≡ names ++ name ∷ [] = mode_names_before-more graph bits mode name is at in
      record {
        text =
            appended ∙ ap (λ (t : List ℕ). t ++ separated 44 is_first name) listed.text
            ∙ append_assoc old (join_with_byte 44 names) (separated 44 is_first name)
            ∙ ap (λ (b : Bool). old ++ (join_with_byte 44 names ++ separated 44 b name)) listed.first
            ∙ ap (λ (t : List ℕ). old ++ t) (sym (ap (join_with_byte 44) more ∙ join-push 44 names name));
        first =
            let some : eqb (length (names ++ name ∷ [])) 0 ≡ false = grind (arith, nat_tests, length-append names (name ∷ [])) in
            sym (ap (λ (ns : List (List ℕ)). eqb (length ns) 0) more ∙ some);
      }

  -- no mode more is to be listed
  pub AreListed-same : (bit_at bits mode == 1) ≡ false → AreListed graph bits old mid is_first (mode + 1)
  AreListed-same is =
      let same : mode_names_before graph bits (mode + 1) ≡ mode_names_before graph bits mode = mode_names_before-same graph bits mode is in
      record {
        text = listed.text ∙ ap (λ (ns : List (List ℕ)). old ++ join_with_byte 44 ns) (sym same);
        first = listed.first ∙ ap (λ (ns : List (List ℕ)). eqb (length ns) 0) (sym same);
      }
