-- What the rows say after one more use of an argument.
use Rattle.std.proofs.Common.{◌≡◌, ◌∙◌, ◌+◌, ap, refl, sym, subst, ℕ, Bool, true, false, cond, List, [], ◌∷◌, ◌++◌, map, min, Option, Some, None, option_map, bytes_eq, arith}
use Rattle.std.specs.Prelude.{if◌then◌else◌, count_by, filter, unwrap_or, find}
use Rattle.std.specs.Option.{option_map_or}
use Rattle.std.proofs.lemmas.List.{append-nil, map-append}
use Rattle.std.proofs.lemmas.List.Elements.{filter-append}
use Rattle.std.proofs.lemmas.List.Sums.{sum_by-append}
use Rattle.clap.specs.Matches.{count_text}
use Rattle.clap.specs.Walk.{Row, Text, at_row, count_of, first_as_count, more_values, new_count, stronger, used, with_count, with_values, without}
use Rattle.clap.specs.declared.builder.value_parser.Reading.{Reading}
use Rattle.clap.specs.declared.builder.value_parser.Reading.TheVariants as reading
use Rattle.clap.specs.declared.parser.matches.ValueSource.{ValueSource}
use Rattle.clap.specs.declared.parser.matches.ValueSource.TheVariants.{CommandLine}
use Rattle.tfpg_base.proofs.lemmas.lists.SameBytes.{bytes_eq-same, bytes_eq-true, bytes_eq-apart}
use Rattle.tfpg_words.specs.Words.{Form, Parts, Use, Word, is_word_among}
use Rattle.tfpg_words.specs.inside.Rules.{flag_rule, option_rule, words_id, words_rule}
use Rattle.tfpg_words.specs.inside.Rows.{Apart, Holds, hyphened, vals, values_of}
use Rattle.tfpg_words.proofs.lemmas.walk.Walks.{add_use, add_word}

abbrev pub row_at : Text → List Row → Option Row
row_at id rows = find (λ r. bytes_eq r.id id) rows

-- a change of another row is not seen
pub other_row : (id changed : Text) (change : Row → List Row) (missing rows : List Row) → bytes_eq changed id ≡ false
    → ((r : Row) (rs : List Row) → bytes_eq r.id id ≡ false → row_at id (change r ++ rs) ≡ row_at id rs) → row_at id missing ≡ None
    → row_at id (at_row changed change missing rows) ≡ row_at id rows
other_row id changed change missing [] apart passes none = none
other_row id changed change missing (r ∷ rs) apart passes none =
    by (bytes_eq r.id changed) refl (other_row id changed change missing rs apart passes none)
  where
    by : (b : Bool) → bytes_eq r.id changed ≡ b → row_at id (at_row changed change missing rs) ≡ row_at id rs
        → row_at id (if b then change r ++ rs else r ∷ at_row changed change missing rs) ≡ row_at id (r ∷ rs)
    by true e rest =
        let off : bytes_eq r.id id ≡ false = subst (λ (t : Text). bytes_eq t id ≡ false) (sym (bytes_eq-true r.id changed e)) apart in
        passes r rs off ∙ (λ i. cond (sym off i) (Some r) (row_at id rs))
    by false e rest = ap (λ o. cond (bytes_eq r.id id) (Some r) o) rest

pub skipped : (id : Text) (r : Row) (rs : List Row) → bytes_eq r.id id ≡ false → row_at id (r ∷ rs) ≡ row_at id rs
skipped id r rs off = λ i. cond (off i) (Some r) (row_at id rs)

pub found : (id : Text) (r : Row) (rs : List Row) → bytes_eq r.id id ≡ true → row_at id (r ∷ rs) ≡ Some r
found id r rs on = λ i. cond (on i) (Some r) (row_at id rs)

abbrev valued : ValueSource → List Text → Row → Row
valued s vs r = record r { values = r.values ++ vs; source = Some (stronger r.source s) }

abbrev numbered : ValueSource → ℕ → Row → Row
numbered s n r = record r { values = r.values ++ count_text n ∷ []; count = Some n; source = Some (stronger r.source s) }

abbrev new_values : Text → Reading → ValueSource → List Text → Row
new_values id how s vs = record { id = id; values = vs; count = None; source = Some s; reading = how }

abbrev new_number : Text → Reading → ValueSource → ℕ → Row
new_number id how s n = record { id = id; values = count_text n ∷ []; count = Some n; source = Some s; reading = how }

module _ (id changed : Text) (how : Reading) (s : ValueSource) (rows : List Row) (apart : bytes_eq changed id ≡ false) where
  pub other_values : (vs : List Text) → row_at id (with_values changed how s vs rows) ≡ row_at id rows
  other_values vs = other_row id changed (more_values s vs) (new_values changed how s vs ∷ []) rows apart
      (λ r rs off. skipped id (valued s vs r) rs off) (skipped id (new_values changed how s vs) [] apart)

  pub other_count : (n : ℕ) → row_at id (with_count changed how s n rows) ≡ row_at id rows
  other_count n = other_row id changed (new_count s n) (new_number changed how s n ∷ []) rows apart
      (λ r rs off. skipped id (numbered s n r) rs off) (skipped id (new_number changed how s n) [] apart)

  pub other_without : row_at id (without changed rows) ≡ row_at id rows
  other_without = other_row id changed (λ _. []) [] rows apart (λ r rs off. refl) refl

abbrev pub vals_in : Option Row → List Text
vals_in found_row = unwrap_or (option_map (λ (r : Row). r.values) found_row) []

abbrev pub count_in : Option Row → ℕ
count_in found_row = option_map_or (λ (r : Row). unwrap_or r.count (first_as_count r.values)) found_row 0

pub same_values : (id : Text) (how : Reading) (s : ValueSource) (vs : List Text) (rows : List Row)
    → vals id (with_values id how s vs rows) ≡ vals id rows ++ vs
same_values id how s vs [] = ap vals_in (found id (new_values id how s vs) [] (bytes_eq-same id))
same_values id how s vs (r ∷ rs) = by (bytes_eq r.id id) refl (same_values id how s vs rs)
  where
    by : (b : Bool) → bytes_eq r.id id ≡ b → vals id (with_values id how s vs rs) ≡ vals id rs ++ vs
        → vals id (if b then more_values s vs r ++ rs else r ∷ with_values id how s vs rs) ≡ vals id (r ∷ rs) ++ vs
    by true e rest = ap vals_in (found id (valued s vs r) rs e) ∙ sym (ap (λ o. vals_in o ++ vs) (found id r rs e))
    by false e rest =
        ap vals_in (skipped id r (with_values id how s vs rs) e) ∙ (rest ∙ sym (ap (λ o. vals_in o ++ vs) (skipped id r rs e)))

pub same_count : (id : Text) (how : Reading) (s : ValueSource) (n : ℕ) (rows : List Row) → count_of id (with_count id how s n rows) ≡ n
same_count id how s n [] = ap count_in (found id (new_number id how s n) [] (bytes_eq-same id))
same_count id how s n (r ∷ rs) = by (bytes_eq r.id id) refl (same_count id how s n rs)
  where
    by : (b : Bool) → bytes_eq r.id id ≡ b → count_of id (with_count id how s n rs) ≡ n
        → count_of id (if b then new_count s n r ++ rs else r ∷ with_count id how s n rs) ≡ n
    by true e rest = ap count_in (found id (numbered s n r) rs e)
    by false e rest = ap count_in (skipped id r (with_count id how s n rs) e) ∙ rest

-- ---- the parts

values_more : (word name v : Word) (uses : List Use)
    → values_of word (uses ++ (record { name = name; value = v }) ∷ []) ≡ values_of word uses ++ (if bytes_eq name word then v ∷ [] else [])
values_more word name v uses =
    ap (map (λ (u : Use). u.value)) (filter-append (λ u. bytes_eq u.name word) uses ((record { name = name; value = v }) ∷ []))
    ∙ map-append (λ (u : Use). u.value) (filter (λ u. bytes_eq u.name word) uses) (filter (λ u. bytes_eq u.name word) ((record { name = name; value = v }) ∷ []))
    ∙ ap (λ (l : List Word). values_of word uses ++ l) (by (bytes_eq name word))
  where
    by : (b : Bool) → map (λ (u : Use). u.value) (if b then (record { name = name; value = v }) ∷ [] else []) ≡ (if b then v ∷ [] else [])
    by true = refl
    by false = refl

vals_more : (n name : Text) (how : Reading) (s : ValueSource) (vs : List Text) (rows : List Row)
    → vals n (with_values name how s vs rows) ≡ vals n rows ++ (if bytes_eq name n then vs else [])
vals_more n name how s vs rows = by (bytes_eq name n) refl
  where
    by : (b : Bool) → bytes_eq name n ≡ b → vals n (with_values name how s vs rows) ≡ vals n rows ++ (if b then vs else [])
    by true e = subst (λ (t : Text). vals n (with_values t how s vs rows) ≡ vals n rows ++ vs) (sym (bytes_eq-true name n e)) (same_values n how s vs rows)
    by false e = ap vals_in (other_values n name how s rows e vs) ∙ sym (append-nil (vals n rows))

counted_more : (word name v : Word) (uses : List Use)
    → count_by (λ u. bytes_eq u.name word) (uses ++ (record { name = name; value = v }) ∷ []) ≡ count_by (λ u. bytes_eq u.name word) uses + (0 + cond (bytes_eq name word) 1 0)
counted_more word name v uses = sum_by-append (λ u. cond (bytes_eq u.name word) 1 0) uses ((record { name = name; value = v }) ∷ [])

module _ (form : Form) (apart : Apart form) where
  module _ (rows : List Row) (parts : Parts) (h : Holds form rows parts) where
    pub hold_option : (name v : Text) → is_word_among form.options (hyphened name) ≡ true
        → Holds form (used (option_rule name) (v ∷ []) rows) (add_use parts (hyphened name) v)
    hold_option name v is = record {
      values = λ n e. vals_more n name _ _ (v ∷ []) rows ∙ ap (λ (l : List Text). l ++ (if bytes_eq name n then v ∷ [] else [])) (h.values n e)
          ∙ sym (values_more (hyphened n) (hyphened name) v parts.uses);
      counts = λ n e.
          let off : bytes_eq name n ≡ false = bytes_eq-apart (λ t. is_word_among form.options (hyphened t) ≡ true) (λ t. is_word_among form.flags (hyphened t) ≡ true) name n is e apart.kinds in
          ap count_in (other_values n name _ _ rows off (v ∷ [])) ∙ h.counts n e
          ∙ ap (λ c. min c 255) (sym (counted_more (hyphened n) (hyphened name) v parts.uses ∙ rw off (omega arith)));
      words =
          let off : bytes_eq name words_id ≡ false = bytes_eq-apart (λ t. is_word_among form.options (hyphened t) ≡ true) (λ t. t ≡ words_id) name words_id is refl
          (λ t o e. apart.no_option (subst (λ (x : Text). is_word_among form.options (hyphened x) ≡ true) e o)) in
          ap vals_in (other_values words_id name _ _ rows off (v ∷ [])) ∙ h.words;
    }

    pub hold_word : (word : Word) → Holds form (used words_rule (word ∷ []) rows) (add_word parts word)
    hold_word word = record {
      values = λ n e.
          let off : bytes_eq words_id n ≡ false = bytes_eq-apart (λ t. t ≡ words_id) (λ t. is_word_among form.options (hyphened t) ≡ true) words_id n refl e
          (λ t same o. apart.no_option (subst (λ (x : Text). is_word_among form.options (hyphened x) ≡ true) same o)) in
          ap vals_in (other_values n words_id _ _ rows off (word ∷ [])) ∙ h.values n e;
      counts = λ n e.
          let off : bytes_eq words_id n ≡ false = bytes_eq-apart (λ t. t ≡ words_id) (λ t. is_word_among form.flags (hyphened t) ≡ true) words_id n refl e
          (λ t same o. apart.no_flag (subst (λ (x : Text). is_word_among form.flags (hyphened x) ≡ true) same o)) in
          ap count_in (other_values n words_id _ _ rows off (word ∷ [])) ∙ h.counts n e;
      words = same_values words_id _ _ (word ∷ []) rows ∙ ap (λ (l : List Text). l ++ word ∷ []) h.words;
    }

    pub hold_flag : (name : Text) → is_word_among form.flags (hyphened name) ≡ true
        → Holds form (used (flag_rule name) [] rows) (add_use parts (hyphened name) [])
    hold_flag name is = record {
      values = λ n e.
          let off : bytes_eq name n ≡ false = bytes_eq-apart (λ t. is_word_among form.flags (hyphened t) ≡ true) (λ t. is_word_among form.options (hyphened t) ≡ true) name n is e (λ t f o. apart.kinds t o f) in
          ap vals_in (other_count n name reading.WithoutMinus CommandLine (without name rows) off (min (count_of name rows + 1) 255) ∙ other_without n name reading.WithoutMinus CommandLine rows off) ∙ h.values n e
          ∙ sym (values_more (hyphened n) (hyphened name) [] parts.uses ∙ rw off (append-nil (values_of (hyphened n) parts.uses)));
      counts = λ n e. flags n e (bytes_eq name n) refl;
      words =
          let off : bytes_eq name words_id ≡ false = bytes_eq-apart (λ t. is_word_among form.flags (hyphened t) ≡ true) (λ t. t ≡ words_id) name words_id is refl
          (λ t f e. apart.no_flag (subst (λ (x : Text). is_word_among form.flags (hyphened x) ≡ true) e f)) in
          ap vals_in (other_count words_id name reading.WithoutMinus CommandLine (without name rows) off (min (count_of name rows + 1) 255) ∙ other_without words_id name reading.WithoutMinus CommandLine rows off) ∙ h.words;
    }
      where
        flags : (n : Text) → is_word_among form.flags (hyphened n) ≡ true → (b : Bool) → bytes_eq name n ≡ b
            → count_of n (used (flag_rule name) [] rows) ≡ min (count_by (λ u. bytes_eq u.name (hyphened n)) (parts.uses ++ (record { name = hyphened name; value = [] }) ∷ [])) 255
        flags n e true on =
            let c = count_by (λ (u : Use). bytes_eq u.name (hyphened n)) parts.uses in
            let now : count_of n (used (flag_rule name) [] rows) ≡ min (count_of n rows + 1) 255 =
            subst (λ (t : Text). count_of n (used (flag_rule t) [] rows) ≡ min (count_of n rows + 1) 255) (sym (bytes_eq-true name n on)) (same_count n reading.WithoutMinus CommandLine (min (count_of n rows + 1) 255) (without n rows)) in
            let more : count_by (λ u. bytes_eq u.name (hyphened n)) (parts.uses ++ (record { name = hyphened name; value = [] }) ∷ []) ≡ c + 1 =
            counted_more (hyphened n) (hyphened name) [] parts.uses ∙ rw on (omega arith) in
            let capped : min (min c 255 + 1) 255 ≡ min (c + 1) 255 = omega arith in
            now ∙ (ap (λ m. min (m + 1) 255) (h.counts n e) ∙ (capped ∙ ap (λ m. min m 255) (sym more)))
        flags n e false off =
            let how = reading.WithoutMinus in
            let m = min (count_of name rows + 1) 255 in
            ap count_in (other_count n name how CommandLine (without name rows) off m ∙ other_without n name how CommandLine rows off) ∙ h.counts n e
            ∙ ap (λ c. min c 255) (sym (counted_more (hyphened n) (hyphened name) [] parts.uses ∙ rw off (omega arith)))
