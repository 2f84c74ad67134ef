-- A word for modes that has no cause spells the modes that it says.
use Rattle.std.proofs.Common.{◌≡◌, ◌≢◌, ℕ, ◌<◌, ◌==◌, Bool, true, false, List, [], ◌∷◌, length, get_or, Option, Some, None, slice_get, codes, AllPairs, inl, inr, refl, ap, sym, ◌∙◌, arith}
use Rattle.std.specs.Str.{bytes_eq}
use Rattle.std.specs.List.{list_any, filter_map, cons_option, slice_split, join_with_byte}
use Rattle.std.specs.Option.{is_none}
use Rattle.std.proofs.lemmas.Bool.{or_parts, or_from, cond-true, cond-false}
use Rattle.std.proofs.lemmas.List.Splits.{length-slice_split, join_with_byte-slice_split}
use Rattle.std.proofs.lemmas.List.Quantifiers.{position-Some}
use Rattle.std.proofs.lemmas.Option.{slice_get-get_or}
use Rattle.std.proofs.lemmas.Slice.Eq.{bytes_eq-Decides}
use Rattle.tfpg_base.proofs.lemmas.lists.Elements.{AllPairs-cons}
use Rattle.tfpg_base.proofs.lemmas.lists.LookedUp.{filter_map-some, filter_map-back, filter_map-unlike_others}
use Rattle.tfpg_graph.specs.Graph.{Tfpg, mode_named}
use Rattle.tfpg_graph.specs.Text.{SpellsModes}
use Rattle.tfpg_graph.specs.Declares.{modes_listed, modes_of_word}
use Rattle.tfpg_graph.specs.Causes.{has_twice}
use Rattle.tfpg_base.proofs.lemmas.lists.Passing.{All-filter_map}

-- values that lead back to the words
module _ {Y : Type 0} (look : List ℕ → Option Y) (read : Y → Option (List ℕ))
    (leads : (word : List ℕ) (y : Y) → look word ≡ Some y → read y ≡ Some word) where
  -- words of which none stands twice have values that differ
  values_differ : (words : List (List ℕ)) → has_twice words ≡ false → AllPairs (λ a b. a ≢ b) (filter_map look words)
  values_differ [] once = λ i j d before within. absurd (omega (arith, within))
  values_differ (word ∷ others) once =
      let parts = or_parts (list_any (bytes_eq word) others) (has_twice others) once in
      by parts.0 (look word) refl (values_differ others parts.1)
    where
      by : list_any (bytes_eq word) others ≡ false → (o : Option Y) → look word ≡ o
          → AllPairs (λ a b. a ≢ b) (filter_map look others)
          → AllPairs (λ a b. a ≢ b) (cons_option o (filter_map look others))
      by unlike None none rest = rest
      by unlike (Some y) some rest = AllPairs-cons (λ a b. a ≢ b) y (filter_map look others) (filter_map-unlike_others look read leads word y others some unlike) rest

-- ---- modes

-- a mode that is found is read at its number
pub mode_found : (graph : Tfpg) (name : List ℕ) (mode : ℕ) → mode_named graph name ≡ Some mode
    → (mode < length graph.modes) × (slice_get graph.modes mode ≡ Some name)
mode_found graph name mode some =
    let is = position-Some (λ other. bytes_eq other name) graph.modes mode [] some in
    (is.0, slice_get-get_or graph.modes mode [] is.0 ∙ ap Some ((bytes_eq-Decides (get_or graph.modes mode []) name).0 is.1))

-- A word for modes that is not `-`, names no mode twice and none that there is not, spells the modes that it says.
pub SpellsModes-said : (graph : Tfpg) (word : List ℕ) → bytes_eq word (codes "-") ≡ false → has_twice (modes_listed word) ≡ false
    → list_any (λ name. is_none (mode_named graph name)) (modes_listed word) ≡ false → SpellsModes graph (modes_of_word graph word) word
SpellsModes-said graph word some_mode once known = by (bytes_eq word (codes "*")) refl
  where
    leads : (name : List ℕ) (mode : ℕ) → mode_named graph name ≡ Some mode → slice_get graph.modes mode ≡ Some name
    leads name mode some = (mode_found graph name mode some).1

    within : (name : List ℕ) (mode : ℕ) → mode_named graph name ≡ Some mode → mode < length graph.modes
    within name mode some = (mode_found graph name mode some).0

    by : (star : Bool) → bytes_eq word (codes "*") ≡ star → SpellsModes graph (modes_of_word graph word) word
    by true star = inl ((bytes_eq-Decides word (codes "*")).0 star, cond-true _ _ _ star)
    by false star =
        let listed : modes_listed word ≡ slice_split (λ byte. byte == 44) word = cond-false _ _ _ (or_from _ _ star some_mode) in
        let some : 0 < length (modes_listed word) = omega (arith, ap length listed, length-slice_split (λ byte. byte == 44) word) in
        let modes = filter_map (mode_named graph) (modes_listed word) in
        let names = filter_map-back (mode_named graph) (slice_get graph.modes) leads (modes_listed word) known in
        inr (
          modes,
          filter_map-some (mode_named graph) (modes_listed word) some known,
          values_differ (mode_named graph) (slice_get graph.modes) leads (modes_listed word) once,
          All-filter_map (mode_named graph) (λ mode. mode < length graph.modes) within (modes_listed word),
          sym (ap (join_with_byte 44) (names ∙ listed) ∙ join_with_byte-slice_split 44 word),
          cond-false _ _ _ star,
        )
