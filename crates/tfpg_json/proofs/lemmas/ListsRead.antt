-- A JSON text as data, and a list that is read item by item.
use Rattle.std.proofs.Common.{◌≡◌, ℕ, ◌+◌, ◌<◌, ◌≤◌, Bool, true, false, cond, List, [], ◌∷◌, ◌++◌, length, get_or, map, take, Option, Some, None, option_and_then, refl, sym, ap, ◌∙◌}
use Rattle.std.proofs.lemmas.Bool.{cond-true}
use Rattle.std.proofs.lemmas.List.{take_more, take_all}
use Rattle.std.proofs.lemmas.Str.{IsUtf8-from_is_utf8, is_utf8-from_IsUtf8}
use Rattle.std.specs.Str.{IsUtf8, is_utf8}
use Rattle.serde_json.specs.Data.{Data}
use Rattle.serde_json.specs.Find.{as_array}
use Rattle.serde_json.specs.Read.{read}
use Rattle.serde_json.specs.View.{view, items_view}
use Rattle.serde_json.specs.declared.value.Value.{Value}
use Rattle.tfpg_base.specs.Choice.{each_of}
use Rattle.tfpg_base.proofs.lemmas.lists.Choices.{each_of-map_none, each_of-map_push}
use Rattle.tfpg_base.proofs.lemmas.lists.Images.{map-map}
use Rattle.tfpg_json.specs.GraphSaid.{list_of, each_in}
use Rattle.tfpg_json.specs.GraphText.{data_in}

-- text is read as data
pub data_in-utf8 : (text : List ℕ) → IsUtf8 text → data_in text ≡ read text
data_in-utf8 text is = cond-true (is_utf8 text) (read text) None (is_utf8-from_IsUtf8 text is)

-- where it reads as nothing, or is no text, it is no data
pub data_in-none : (text : List ℕ) → (IsUtf8 text → read text ≡ None) → data_in text ≡ None
data_in-none text none = by (is_utf8 text) refl
  where
    by : (b : Bool) → is_utf8 text ≡ b → cond b (read text) None ≡ None
    by true is = none (IsUtf8-from_is_utf8 text is)
    by false is = refl

-- the items of a list of values
list_of-items_view : (values : List Value) → list_of (items_view values) ≡ map view values
list_of-items_view [] = refl
list_of-items_view (value ∷ values) = ap (λ ds. view value ∷ ds) (list_of-items_view values)

module _ {X : Type 0} (read_one : Data → Option X) (values : List Value) where
  -- what is read of a value
  abbrev pub read_value : Value → Option X
  read_value value = read_one (view value)

  -- each is read of a list
  each_in-values : (list : Data) → as_array list ≡ Some (items_view values) → each_in read_one list ≡ each_of (map read_value values)
  each_in-values list is =
      ap (option_and_then (λ items. each_of (map read_one (list_of items)))) is
      ∙ ap (λ ds. each_of (map read_one ds)) (list_of-items_view values)
      ∙ ap each_of (map-map read_one view values)

  module _ (index : ℕ) (value : Value) (within : index < length values) (at : value ≡ get_or values index value) where
    -- one item more is read
    pub each_more : (ys : List X) (y : X) → each_of (map read_value (take index values)) ≡ Some ys → read_one (view value) ≡ Some y
        → each_of (map read_value (take (index + 1) values)) ≡ Some (ys ++ y ∷ [])
    each_more ys y each is =
        ap (λ vs. each_of (map read_value vs)) (take_more values index value within ∙ ap (λ v. take index values ++ v ∷ []) (sym at))
        ∙ each_of-map_push read_value (take index values) value ys y each is

    -- one that cannot be read is the end
    pub each_missing : (list : Data) → as_array list ≡ Some (items_view values) → read_one (view value) ≡ None → each_in read_one list ≡ None
    each_missing list is none =
        each_in-values list is ∙ each_of-map_none read_value values index value within (ap read_value (sym at) ∙ none)

  -- all are read
  pub each_read : (list : Data) (index : ℕ) (ys : List X) → as_array list ≡ Some (items_view values) → length values ≤ index
      → each_of (map read_value (take index values)) ≡ Some ys → each_in read_one list ≡ Some ys
  each_read list index ys is past each =
      each_in-values list is ∙ ap (λ vs. each_of (map read_value vs)) (sym (take_all index values past)) ∙ each
