-- clap's walk over the words comes to their parts, word by word.
use Rattle.std.proofs.Common.{◌≡◌, ◌∙◌, ◌+◌, ◌==◌, ◌&&◌, ap, refl, sym, subst, zero, suc, ℕ, Bool, true, false, List, [], ◌∷◌, ◌++◌, length, min, Option, Some, None, option_map, bytes_eq, codes, take, drop, slice_index, arith}
use Rattle.std.specs.Prelude.{if◌then◌else◌}
use Rattle.std.specs.Option.{option_map_or}
use Rattle.std.specs.List.{after_first, position}
use Rattle.std.specs.Str.{IsUtf8}
use Rattle.std.proofs.lemmas.Bool.{eqb-false}
use Rattle.std.proofs.lemmas.List.{append-nil, take_all}
use Rattle.tfpg_base.proofs.lemmas.lists.Cuts.{cons-not_nil}
use Rattle.tfpg_base.proofs.lemmas.lists.Positions.{before_first-none}
use Rattle.clap.specs.Lexer.{has_byte, name_and_value}
use Rattle.clap.specs.Walk.{Row, Rule, Text, Waiting, Walk, arg_by_id, arg_by_index, arg_by_long, arg_by_short, idle, next, option, positional, settled_rows, trailing, used, used_by_id, value, word_met}
use Rattle.clap.specs.Kinds.{Kinds, or_else, value_kinds}
use Rattle.clap.specs.Matches.{count_text}
use Rattle.clap.specs.Values.{refused_kind}
use Rattle.clap.specs.Walk.{count_of}
use Rattle.clap.specs.declared.builder.value_parser.ValueParser.TheVariants as vp
use Rattle.clap.proofs.ValueTestLemmas.{Accepts-accepts}
use Rattle.clap.proofs.CountText.{IsSignedIn-count_text}
use Rattle.std.specs.Prelude.{pos, ◌≤◌}
use Rattle.clap.specs.Faults.{settle_fault, turn_fault, use_fault, walk_fault, word_fault}
use Rattle.tfpg_words.specs.Words.{Form, Next, Any, ValueOf, OnlyPositional, Parts, WordUse, Divider, Positional, Used, Waits, Wrong, Use, Word, after_turn, is_word_among, option_turn, cut_at_equals, parts_from, use_of_word, with_positional, with_use}
use Rattle.tfpg_words.specs.inside.Rows.{no_parts, Apart, Holds, hyphened, joined_to}
use Rattle.tfpg_words.specs.inside.Rules.{LongIs, between, flag_rule, option_rule, shape_with, words_id, words_rule}
use Rattle.tfpg_words.proofs.lemmas.walk.View.{View, plain, divider, long, short, view, cut_long, named, parted}
use Rattle.tfpg_words.proofs.lemmas.walk.Turns.{held, quiet, no_subcommand, turn_by, walked_by, words_fault, words_step, plain_met, plain_fault, divider_met, divider_fault, short_fault_is, value_met, lacks, settles, attached, attached_fault, waits, waits_fault, flag, flag_fault, unneeded_fault, unknown_fault}
use Rattle.tfpg_words.proofs.lemmas.walk.Walks.{Outcome, Settled, WalkStands, add_use, add_word, forward, left_nil, rest_fault, rest_rows, stuck, use_first, word_first}
use Rattle.tfpg_words.proofs.lemmas.walk.Rows.{hold_option, hold_flag, hold_word}

-- The rules represent the form: each name finds its rule, and no other finds any.
pub record IsFor (R : List Rule) (form : Form) : Type 0 where
  pub apart : Apart form
  pub long_name : (name : Text) → LongIs (is_word_among form.options (hyphened name)) (is_word_among form.flags (hyphened name)) name (arg_by_long R name)
  pub by_id : (name : Text) → is_word_among form.options (hyphened name) ≡ true → arg_by_id R name ≡ Some (option_rule name)
  pub words_by_id : arg_by_id R words_id ≡ Some words_rule
  pub by_index : arg_by_index R 1 ≡ Some words_rule
  pub by_short : (x : ℕ) → arg_by_short R x ≡ None
  pub option_names : (word : Word) → is_word_among form.options word ≡ true → (name : Text) × (word ≡ hyphened name)
  pub flag_names : (word : Word) → is_word_among form.flags word ≡ true → (name : Text) × (word ≡ hyphened name)

abbrev pub AreUtf8 : List Word → Type 0
AreUtf8 [] = Unit {0}
AreUtf8 (word ∷ words) = IsUtf8 word × AreUtf8 words

-- a count of at most 255 is a number of the flag's
counts_fine : (c : ℕ) → value_kinds false (vp.Signed (pos 0) (pos 255)) (count_text (min (c + 1) 255)) ≡ []
counts_fine c =
    let few : min (c + 1) 255 ≤ 255 = omega arith in
    let ok = Accepts-accepts false (vp.Signed (pos 0) (pos 255)) (count_text (min (c + 1) 255)) (IsSignedIn-count_text (min (c + 1) 255) few) in
    λ i. if ok i then [] else refused_kind (vp.Signed (pos 0) (pos 255)) ∷ []

module _ (R : List Rule) (form : Form) (k : IsFor R form) where
  -- a word whose own turn is at fault ends the walk
  word_bad : (rows : List Row) (p : Option (Text × List Text)) (w : Waiting) (t : Bool) (word : Word)
      → (word_fault (shape_with R) [] t w word (held rows p) ≡ [] → ⊥) → turn_fault (shape_with R) [] (between rows p w t) word ≡ [] → ⊥
  word_bad rows p w t word bad e = bad (left_nil _ _ e)

  -- the positional with its word settles, and the rows then have the word
  word_settles : (rows : List Row) (word : Word) → settle_fault R false (held rows (Some (words_id, word ∷ []))) ≡ []
  word_settles rows word = ap (λ o. option_map_or (λ a. use_fault false a (word ∷ []) rows) o []) k.words_by_id

  word_settled : (parts : Parts) (rows : List Row) (word : Word) → Holds form rows parts
      → Settled R form rows (Some (words_id, word ∷ [])) (add_word parts word)
  word_settled parts rows word h = record {
    fine = word_settles rows word;
    holds = subst (λ (o : Option Rule). Holds form (used_by_id o (word ∷ []) rows) (add_word parts word)) (sym k.words_by_id)
        (hold_word form k.apart rows parts h word);
  }

  value_settled : (parts : Parts) (rows : List Row) (name v : Word) → is_word_among form.options (hyphened name) ≡ true → Holds form rows parts
      → Settled R form rows (Some (name, v ∷ [])) (add_use parts (hyphened name) v)
  value_settled parts rows name v is h = record {
    fine = settles R k.by_index name (k.by_id name is) rows v;
    holds = subst (λ (o : Option Rule). Holds form (used_by_id o (v ∷ []) rows) (add_use parts (hyphened name) v)) (sym (k.by_id name is))
        (hold_option form k.apart rows parts h name v is);
  }

  -- a word goes to the positional
  to_word : (parts : Parts) (rows : List Row) (p : Option (Text × List Text)) (w : Waiting) (t : Bool) (word : Word) (words : List Word) (others : Option Parts)
      → Settled R form rows p parts → word_met R [] t w 1 word (held rows p) ≡ (held rows p, value)
      → word_fault (shape_with R) [] t w word (held rows p) ≡ []
      → Outcome form (add_word parts word) others
      (rest_fault R (between (settled_rows R p rows) (Some (words_id, word ∷ [])) positional t) words)
      (rest_rows R (between (settled_rows R p rows) (Some (words_id, word ∷ [])) positional t) words)
      → Outcome form parts (option_map (with_positional word) others)
      (rest_fault R (between rows p w t) (word ∷ words)) (rest_rows R (between rows p w t) (word ∷ words))
  to_word parts rows p w t word words others s met fault rest =
      word_first form parts word others _ _
      (forward R form (add_word parts word) others (between rows p w t) _ word words
      (turn_by R k.by_index rows p w t word (held rows p) value [] met fault ∙ (words_fault R k.by_index rows p ∙ s.fine))
      (walked_by R k.by_index rows p w t word (held rows p) value met ∙ words_step R k.by_index rows p w t word)
      rest)

  -- after `--` an option that still waits has no value
  doomed : (rows : List Row) (name : Text) (w : Waiting) → arg_by_id R name ≡ Some (option_rule name) → (words : List Word)
      → rest_fault R (between rows (Some (name, [])) w true) words ≡ [] → ⊥
  unfolding walk_fault
  doomed rows name w by_id [] e = cons-not_nil _ _ (sym (lacks R k.by_index name by_id rows) ∙ e)
  doomed rows name w by_id (word ∷ words) e =
      stuck R (between rows (Some (name, [])) w true) word words
      (λ none. cons-not_nil _ _ (sym (lacks R k.by_index name by_id rows) ∙ (sym (words_fault R k.by_index rows (Some (name, [])))
      ∙ (sym (turn_by R k.by_index rows (Some (name, [])) w true word (held rows (Some (name, []))) value [] refl refl) ∙ none))))
      e

  -- ---- a word where any may stand

  -- an option word is what the definition says of it
  module _ (parts : Parts) (rows : List Row) (p : Option (Text × List Text)) (b : Bool) (x : ℕ) (xs : List ℕ) (words : List Word) (s : Settled R form rows p parts) where
    abbrev word : Word
    word = 45 ∷ 45 ∷ x ∷ xs

    abbrev here : Walk
    here = between rows p (quiet b) false

    abbrev given : Option Text
    given = (name_and_value (x ∷ xs)).1

    abbrev name : Text
    name = (name_and_value (x ∷ xs)).0

    -- the rest of the walk after what this word does
    After : Parts → List Row → Option (Text × List Text) → Waiting → Option Parts → Type 0
    After now rows' p' w' others = Outcome form now others (rest_fault R (between rows' p' w' false) words) (rest_rows R (between rows' p' w' false) words)

    took_value : (n v : Text) (others : Option Parts) → arg_by_long R name ≡ Some (option_rule n) → given ≡ Some v
        → is_word_among form.options (hyphened n) ≡ true
        → Outcome form (add_use parts (hyphened n) v) others (rest_fault R (between (used (option_rule n) (v ∷ []) (settled_rows R p rows)) None idle false) words) (rest_rows R (between (used (option_rule n) (v ∷ []) (settled_rows R p rows)) None idle false) words)
        → Outcome form parts (option_map (with_use (hyphened n) v) others) (rest_fault R here (word ∷ words)) (rest_rows R here (word ∷ words))
    took_value n v others finds gives is rest =
        let h = held rows p in
        let met = attached R k.by_index (quiet b) x xs h (no_subcommand b word) (arg_by_long R name) given refl refl n v finds gives in
        let fault = attached_fault R k.by_index (quiet b) x xs h (no_subcommand b word) (arg_by_long R name) given refl refl n v finds gives
        ∙ ap (λ (f : Kinds). or_else f []) s.fine in
        use_first form parts (hyphened n) v others _ _
        (forward R form (add_use parts (hyphened n) v) others here _ word words
        (turn_by R k.by_index rows p (quiet b) false word _ (next idle) [] met fault)
        (walked_by R k.by_index rows p (quiet b) false word _ (next idle) met)
        rest)

    now_waits : (n : Text) (others : Option Parts) → arg_by_long R name ≡ Some (option_rule n) → given ≡ None
        → Outcome form parts others (rest_fault R (between (settled_rows R p rows) (Some (n, [])) (option n) false) words) (rest_rows R (between (settled_rows R p rows) (Some (n, [])) (option n) false) words)
        → Outcome form parts others (rest_fault R here (word ∷ words)) (rest_rows R here (word ∷ words))
    now_waits n others finds gives rest =
        let h = held rows p in
        let met = waits R k.by_index (quiet b) x xs h (no_subcommand b word) (arg_by_long R name) given refl refl n finds gives in
        let fault = waits_fault R k.by_index (quiet b) x xs h (no_subcommand b word) (arg_by_long R name) given refl refl n finds gives ∙ s.fine in
        forward R form parts others here _ word words
        (turn_by R k.by_index rows p (quiet b) false word _ (next (option n)) [] met fault)
        (walked_by R k.by_index rows p (quiet b) false word _ (next (option n)) met)
        rest

    took_flag : (n : Text) (others : Option Parts) → arg_by_long R name ≡ Some (flag_rule n) → given ≡ None
        → Outcome form (add_use parts (hyphened n) []) others (rest_fault R (between (used (flag_rule n) [] (settled_rows R p rows)) None idle false) words) (rest_rows R (between (used (flag_rule n) [] (settled_rows R p rows)) None idle false) words)
        → Outcome form parts (option_map (with_use (hyphened n) []) others) (rest_fault R here (word ∷ words)) (rest_rows R here (word ∷ words))
    took_flag n others finds gives rest =
        let h = held rows p in
        let met = flag R k.by_index (quiet b) x xs h (no_subcommand b word) (arg_by_long R name) given refl refl n finds gives in
        let fault = flag_fault R k.by_index (quiet b) x xs h (no_subcommand b word) (arg_by_long R name) given refl refl n finds gives
        ∙ (ap (λ (f : Kinds). or_else f (value_kinds false (vp.Signed (pos 0) (pos 255)) (count_text (min (count_of n (settled_rows R p rows) + 1) 255)))) s.fine ∙ counts_fine (count_of n (settled_rows R p rows))) in
        use_first form parts (hyphened n) [] others _ _
        (forward R form (add_use parts (hyphened n) []) others here _ word words
        (turn_by R k.by_index rows p (quiet b) false word _ (next idle) [] met fault)
        (walked_by R k.by_index rows p (quiet b) false word _ (next idle) met)
        rest)

  -- ---- the whole walk

  after_flag_settled : (parts : Parts) (rows : List Row) → Holds form rows parts → Settled R form rows None parts
  after_flag_settled parts rows h = record { fine = refl; holds = h }

  hyphen_second : (index first : ℕ) (rest : List ℕ) (n : Text) → take index (45 ∷ first ∷ rest) ≡ hyphened n → first ≡ 45
  hyphen_second zero first rest n e = absurd (cons-not_nil 45 (45 ∷ n) (sym e))
  hyphen_second (suc zero) first rest n e = absurd (cons-not_nil 45 n (sym (ap (drop 1) e)))
  hyphen_second (suc (suc index)) first rest n e = ap (λ (l : List ℕ). slice_index l 1) e

  no_option : (first : ℕ) (rest : List ℕ) (index : ℕ) → (first == 45) ≡ false → is_word_among form.options (take index (45 ∷ first ∷ rest)) ≡ false
  no_option first rest index other = by (is_word_among form.options (take index (45 ∷ first ∷ rest))) refl
    where
      by : (b : Bool) → is_word_among form.options (take index (45 ∷ first ∷ rest)) ≡ b → is_word_among form.options (take index (45 ∷ first ∷ rest)) ≡ false
      by true e =
          let n = k.option_names (take index (45 ∷ first ∷ rest)) e in
          absurd (eqb-false first 45 other (hyphen_second index first rest n.0 n.1))
      by false e = e

  no_option_whole : (first : ℕ) (rest : List ℕ) → (first == 45) ≡ false → is_word_among form.options (45 ∷ first ∷ rest) ≡ false
  no_option_whole first rest other =
      subst (λ (l : List ℕ). is_word_among form.options l ≡ false) (take_all (suc (suc (length rest))) (45 ∷ first ∷ rest) (omega arith)) (no_option first rest (suc (suc (length rest))) other)

  no_flag_whole : (first : ℕ) (rest : List ℕ) → (first == 45) ≡ false → is_word_among form.flags (45 ∷ first ∷ rest) ≡ false
  no_flag_whole first rest other = by (is_word_among form.flags (45 ∷ first ∷ rest)) refl
    where
      by : (b : Bool) → is_word_among form.flags (45 ∷ first ∷ rest) ≡ b → is_word_among form.flags (45 ∷ first ∷ rest) ≡ false
      by true e =
          let n = k.flag_names (45 ∷ first ∷ rest) e in
          absurd (eqb-false first 45 other (ap (λ (l : List ℕ). slice_index l 1) n.1))
      by false e = e

  cut_wrong : (first : ℕ) (rest : List ℕ) → (first == 45) ≡ false → (o : Option ℕ)
      → option_turn form (45 ∷ first ∷ rest) (option_map (λ index. (take index (45 ∷ first ∷ rest), drop (index + 1) (45 ∷ first ∷ rest))) o) ≡ Wrong
  cut_wrong first rest other None =
      (λ i. if no_option_whole first rest other i then Waits (45 ∷ first ∷ rest) else (if no_flag_whole first rest other i then Used (45 ∷ first ∷ rest) [] else Wrong))
  cut_wrong first rest other (Some index) =
      (λ i. if no_option first rest index other i then Used (take index (45 ∷ first ∷ rest)) (drop (index + 1) (45 ∷ first ∷ rest)) else Wrong)

  -- a word with one hyphen is wrong to the definition too
  short_wrong : (first : ℕ) (rest : List ℕ) → (first == 45) ≡ false → use_of_word form Any (45 ∷ first ∷ rest) ≡ Wrong
  short_wrong first rest other =
      (λ i. if other i && bytes_eq rest [] then Divider else option_turn form (45 ∷ first ∷ rest) (cut_at_equals (45 ∷ first ∷ rest)))
      ∙ cut_wrong first rest other (position (λ byte. byte == 61) (45 ∷ first ∷ rest))

  -- a word with two hyphens, by whether it has `=` and what its name finds
  cut_given : (x : ℕ) (xs : List ℕ) → has_byte 61 (x ∷ xs) ≡ true
      → use_of_word form Any (45 ∷ 45 ∷ x ∷ xs) ≡ (if is_word_among form.options (hyphened (name_and_value (x ∷ xs)).0)
      then Used (hyphened (name_and_value (x ∷ xs)).0) (after_first (λ byte. byte == 61) (x ∷ xs)) else Wrong)
  cut_given x xs has =
      ap (option_turn form (45 ∷ 45 ∷ x ∷ xs)) (cut_long (x ∷ xs))
      ∙ (λ i. option_turn form (45 ∷ 45 ∷ x ∷ xs) (named (parted (x ∷ xs) (has i))))

  cut_none : (x : ℕ) (xs : List ℕ) → has_byte 61 (x ∷ xs) ≡ false
      → use_of_word form Any (45 ∷ 45 ∷ x ∷ xs) ≡ (if is_word_among form.options (hyphened (name_and_value (x ∷ xs)).0) then Waits (hyphened (name_and_value (x ∷ xs)).0)
      else (if is_word_among form.flags (hyphened (name_and_value (x ∷ xs)).0) then Used (hyphened (name_and_value (x ∷ xs)).0) [] else Wrong))
  cut_none x xs has =
      ap (option_turn form (45 ∷ 45 ∷ x ∷ xs)) (cut_long (x ∷ xs))
      ∙ ((λ i. option_turn form (45 ∷ 45 ∷ x ∷ xs) (named (parted (x ∷ xs) (has i))))
      ∙ ap (λ (t : List ℕ). option_turn form (hyphened t) None) (sym (before_first-none (λ byte. byte == 61) (x ∷ xs) has)))

  abbrev Goes : List Word → Type 0
  Goes words = (next_word : Next) (parts : Parts) (rows : List Row) (p : Option (Text × List Text)) (w : Waiting) (t : Bool)
      → WalkStands R form next_word parts rows p w t
      → Outcome form parts (parts_from form words next_word) (rest_fault R (between rows p w t) words) (rest_rows R (between rows p w t) words)

  no_more_parts : (parts : Parts) (rows : List Row) → Holds form rows parts → Holds form rows (joined_to parts no_parts)
  no_more_parts parts rows h =
      subst (λ (l : List Use). Holds form rows (record { uses = l; positional = parts.positional ++ [] })) (sym (append-nil parts.uses))
      (subst (λ (l : List Word). Holds form rows (record { uses = parts.uses; positional = l })) (sym (append-nil parts.positional)) h)

  ends : Goes []
  unfolding walk_fault
  ends Any parts rows p w t stands = (stands.0.fine, no_more_parts parts (settled_rows R p rows) stands.0.holds)
  ends OnlyPositional parts rows p w t stands = (stands.0.fine, no_more_parts parts (settled_rows R p rows) stands.0.holds)
  ends (ValueOf o) parts rows p w t stands = λ e.
      cons-not_nil _ _ (sym (lacks R k.by_index stands.0 (k.by_id stands.0 stands.2) rows)
      ∙ (ap (λ (q : Option (Text × List Text)). settle_fault R false (held rows q)) (sym stands.3) ∙ e))

  module _ (words : List Word) (again : Goes words) where
    -- ---- only positional words

    only : (word : Word) (parts : Parts) (rows : List Row) (p : Option (Text × List Text)) (w : Waiting) → Settled R form rows p parts
        → Outcome form parts (parts_from form (word ∷ words) OnlyPositional)
        (rest_fault R (between rows p w true) (word ∷ words)) (rest_rows R (between rows p w true) (word ∷ words))
    only word parts rows p w s =
        to_word parts rows p w true word words (parts_from form words OnlyPositional) s refl refl
        (again OnlyPositional (add_word parts word) _ _ _ _ (word_settled parts (settled_rows R p rows) word s.holds, refl))

    -- ---- any word

    as_turn : (parts : Parts) (rows : List Row) (p : Option (Text × List Text)) (b : Bool) (x : ℕ) (xs : List ℕ) (turn : WordUse)
        → use_of_word form Any (45 ∷ 45 ∷ x ∷ xs) ≡ turn
        → Outcome form parts (after_turn Any turn (parts_from form words))
        (rest_fault R (between rows p (quiet b) false) ((45 ∷ 45 ∷ x ∷ xs) ∷ words)) (rest_rows R (between rows p (quiet b) false) ((45 ∷ 45 ∷ x ∷ xs) ∷ words))
        → Outcome form parts (after_turn Any (use_of_word form Any (45 ∷ 45 ∷ x ∷ xs)) (parts_from form words))
        (rest_fault R (between rows p (quiet b) false) ((45 ∷ 45 ∷ x ∷ xs) ∷ words)) (rest_rows R (between rows p (quiet b) false) ((45 ∷ 45 ∷ x ∷ xs) ∷ words))
    as_turn parts rows p b x xs turn is h =
        subst (λ (t : WordUse). Outcome form parts (after_turn Any t (parts_from form words))
        (rest_fault R (between rows p (quiet b) false) ((45 ∷ 45 ∷ x ∷ xs) ∷ words)) (rest_rows R (between rows p (quiet b) false) ((45 ∷ 45 ∷ x ∷ xs) ∷ words))) (sym is) h

    any_long : (parts : Parts) (rows : List Row) (p : Option (Text × List Text)) (b : Bool) (x : ℕ) (xs : List ℕ) → Settled R form rows p parts
        → (has opt flg : Bool) → has_byte 61 (x ∷ xs) ≡ has
        → is_word_among form.options (hyphened (name_and_value (x ∷ xs)).0) ≡ opt → is_word_among form.flags (hyphened (name_and_value (x ∷ xs)).0) ≡ flg
        → LongIs opt flg (name_and_value (x ∷ xs)).0 (arg_by_long R (name_and_value (x ∷ xs)).0)
        → Outcome form parts (after_turn Any (use_of_word form Any (45 ∷ 45 ∷ x ∷ xs)) (parts_from form words))
        (rest_fault R (between rows p (quiet b) false) ((45 ∷ 45 ∷ x ∷ xs) ∷ words)) (rest_rows R (between rows p (quiet b) false) ((45 ∷ 45 ∷ x ∷ xs) ∷ words))
    any_long parts rows p b x xs s true true flg has opt flag_is finds =
        let n = (name_and_value (x ∷ xs)).0 in
        let v = after_first (λ byte. byte == 61) (x ∷ xs) in
        as_turn parts rows p b x xs (Used (hyphened n) v) (cut_given x xs has ∙ (λ i. if opt i then Used (hyphened n) v else Wrong))
        (took_value parts rows p b x xs words s n v (parts_from form words Any) finds (λ i. if has i then Some v else None) opt
        (again Any (add_use parts (hyphened n) v) _ None idle false
        (after_flag_settled (add_use parts (hyphened n) v) _ (hold_option form k.apart (settled_rows R p rows) parts s.holds n v opt), refl, (false, refl))))
    any_long parts rows p b x xs s true false true has opt flag_is finds =
        let n = (name_and_value (x ∷ xs)).0 in
        let v = after_first (λ byte. byte == 61) (x ∷ xs) in
        as_turn parts rows p b x xs Wrong (cut_given x xs has ∙ (λ i. if opt i then Used (hyphened n) v else Wrong))
        (stuck R (between rows p (quiet b) false) (45 ∷ 45 ∷ x ∷ xs) words (word_bad rows p (quiet b) false (45 ∷ 45 ∷ x ∷ xs)
        (λ e. cons-not_nil _ _ (sym (unneeded_fault R k.by_index (quiet b) x xs (held rows p) (no_subcommand b (45 ∷ 45 ∷ x ∷ xs)) (arg_by_long R n) _ refl refl n v finds (λ i. if has i then Some v else None)) ∙ e))))
    any_long parts rows p b x xs s true false false has opt flag_is finds =
        let n = (name_and_value (x ∷ xs)).0 in
        let v = after_first (λ byte. byte == 61) (x ∷ xs) in
        as_turn parts rows p b x xs Wrong (cut_given x xs has ∙ (λ i. if opt i then Used (hyphened n) v else Wrong))
        (stuck R (between rows p (quiet b) false) (45 ∷ 45 ∷ x ∷ xs) words (word_bad rows p (quiet b) false (45 ∷ 45 ∷ x ∷ xs)
        (λ e. cons-not_nil _ _ (sym (unknown_fault R k.by_index (quiet b) x xs (held rows p) (no_subcommand b (45 ∷ 45 ∷ x ∷ xs)) (arg_by_long R n) _ refl refl finds) ∙ e))))
    any_long parts rows p b x xs s false true flg has opt flag_is finds =
        let n = (name_and_value (x ∷ xs)).0 in
        let v = after_first (λ byte. byte == 61) (x ∷ xs) in
        as_turn parts rows p b x xs (Waits (hyphened n)) (cut_none x xs has ∙ (λ i. if opt i then Waits (hyphened n) else (if is_word_among form.flags (hyphened n) then Used (hyphened n) [] else Wrong)))
        (now_waits parts rows p b x xs words s n (parts_from form words (ValueOf (hyphened n))) finds (λ i. if has i then Some v else None)
        (again (ValueOf (hyphened n)) parts (settled_rows R p rows) (Some (n, [])) (option n) false (n, refl, opt, refl, refl, refl, s.holds)))
    any_long parts rows p b x xs s false false true has opt flag_is finds =
        let n = (name_and_value (x ∷ xs)).0 in
        let v = after_first (λ byte. byte == 61) (x ∷ xs) in
        as_turn parts rows p b x xs (Used (hyphened n) []) (cut_none x xs has ∙ (λ i. if opt i then Waits (hyphened n) else (if flag_is i then Used (hyphened n) [] else Wrong)))
        (took_flag parts rows p b x xs words s n (parts_from form words Any) finds (λ i. if has i then Some v else None)
        (again Any (add_use parts (hyphened n) []) _ None idle false
        (after_flag_settled (add_use parts (hyphened n) []) _ (hold_flag form k.apart (settled_rows R p rows) parts s.holds n flag_is), refl, (false, refl))))
    any_long parts rows p b x xs s false false false has opt flag_is finds =
        let n = (name_and_value (x ∷ xs)).0 in
        as_turn parts rows p b x xs Wrong (cut_none x xs has ∙ (λ i. if opt i then Waits (hyphened n) else (if flag_is i then Used (hyphened n) [] else Wrong)))
        (stuck R (between rows p (quiet b) false) (45 ∷ 45 ∷ x ∷ xs) words (word_bad rows p (quiet b) false (45 ∷ 45 ∷ x ∷ xs)
        (λ e. cons-not_nil _ _ (sym (unknown_fault R k.by_index (quiet b) x xs (held rows p) (no_subcommand b (45 ∷ 45 ∷ x ∷ xs)) (arg_by_long R n) _ refl refl finds) ∙ e))))

    any_by : (word : Word) → View word → IsUtf8 word → (parts : Parts) (rows : List Row) (p : Option (Text × List Text)) (b : Bool) → Settled R form rows p parts
        → Outcome form parts (parts_from form (word ∷ words) Any)
        (rest_fault R (between rows p (quiet b) false) (word ∷ words)) (rest_rows R (between rows p (quiet b) false) (word ∷ words))
    any_by _ (plain word is_plain not_divider not_long not_short) utf8 parts rows p b s =
        subst (λ (o : Option Parts). Outcome form parts o (rest_fault R (between rows p (quiet b) false) (word ∷ words)) (rest_rows R (between rows p (quiet b) false) (word ∷ words)))
        (λ i. after_turn Any (if sym is_plain i then (if bytes_eq word (codes "--") then Divider else option_turn form word (cut_at_equals word)) else Positional word) (parts_from form words))
        (to_word parts rows p (quiet b) false word words (parts_from form words Any) s
        (plain_met R k.by_index b word (held rows p) not_divider not_long not_short)
        (plain_fault R k.by_index (quiet b) word (held rows p) (no_subcommand b word) not_divider not_long not_short)
        (again Any (add_word parts word) _ _ _ _ (word_settled parts (settled_rows R p rows) word s.holds, refl, (true, refl))))
    any_by _ divider utf8 parts rows p b s =
        forward R form parts (parts_from form words OnlyPositional) (between rows p (quiet b) false) (between rows p (quiet b) true) (45 ∷ 45 ∷ []) words
        (turn_by R k.by_index rows p (quiet b) false (45 ∷ 45 ∷ []) (held rows p) (trailing 1) []
        (divider_met R k.by_index (quiet b) (held rows p) (no_subcommand b (45 ∷ 45 ∷ []))) (divider_fault R k.by_index (quiet b) (held rows p) (no_subcommand b (45 ∷ 45 ∷ []))))
        (walked_by R k.by_index rows p (quiet b) false (45 ∷ 45 ∷ []) (held rows p) (trailing 1) (divider_met R k.by_index (quiet b) (held rows p) (no_subcommand b (45 ∷ 45 ∷ []))))
        (again OnlyPositional parts rows p (quiet b) true (s, refl))
    any_by _ (long x xs) utf8 parts rows p b s = any_long parts rows p b x xs s _ _ _ refl refl refl (k.long_name (name_and_value (x ∷ xs)).0)
    any_by _ (short first rest other) utf8 parts rows p b s =
        subst (λ (o : Option Parts). Outcome form parts o (rest_fault R (between rows p (quiet b) false) ((45 ∷ first ∷ rest) ∷ words)) (rest_rows R (between rows p (quiet b) false) ((45 ∷ first ∷ rest) ∷ words)))
        (λ i. after_turn Any (sym (short_wrong first rest other) i) (parts_from form words))
        (stuck R (between rows p (quiet b) false) (45 ∷ first ∷ rest) words
        (word_bad rows p (quiet b) false (45 ∷ first ∷ rest)
        (λ e. cons-not_nil _ _ (sym (short_fault_is R k.by_index k.by_short (quiet b) first rest rows p (no_subcommand b (45 ∷ first ∷ rest)) other utf8) ∙ e))))

    -- ---- the value of an option

    abbrev pending : Text → Option (Text × List Text)
    pending name = Some (name, [])

    settle_bad : (rows : List Row) (n : Text) → arg_by_id R n ≡ Some (option_rule n) → settle_fault R false (held rows (pending n)) ≡ [] → ⊥
    settle_bad rows n by_id e = cons-not_nil _ _ (sym (lacks R k.by_index n by_id rows) ∙ e)

    -- an option word is no value
    long_no_value : (rows : List Row) (n : Text) → arg_by_id R n ≡ Some (option_rule n) → (x : ℕ) (xs : List ℕ)
        → (o : Option Text) → (name_and_value (x ∷ xs)).1 ≡ o → (opt flg : Bool) → LongIs opt flg (name_and_value (x ∷ xs)).0 (arg_by_long R (name_and_value (x ∷ xs)).0)
        → word_fault (shape_with R) [] false (option n) (45 ∷ 45 ∷ x ∷ xs) (held rows (pending n)) ≡ [] → ⊥
    long_no_value rows n by_id x xs (Some v) gives true flg finds e =
        settle_bad rows n by_id (left_nil _ _ (sym (attached_fault R k.by_index (option n) x xs (held rows (pending n)) refl _ _ refl refl _ v finds gives) ∙ e))
    long_no_value rows n by_id x xs None gives true flg finds e =
        settle_bad rows n by_id (sym (waits_fault R k.by_index (option n) x xs (held rows (pending n)) refl _ _ refl refl _ finds gives) ∙ e)
    long_no_value rows n by_id x xs (Some v) gives false true finds e =
        cons-not_nil _ _ (sym (unneeded_fault R k.by_index (option n) x xs (held rows (pending n)) refl _ _ refl refl _ v finds gives) ∙ e)
    long_no_value rows n by_id x xs None gives false true finds e =
        settle_bad rows n by_id (left_nil _ _ (sym (flag_fault R k.by_index (option n) x xs (held rows (pending n)) refl _ _ refl refl _ finds gives) ∙ e))
    long_no_value rows n by_id x xs o gives false false finds e =
        cons-not_nil _ _ (sym (unknown_fault R k.by_index (option n) x xs (held rows (pending n)) refl _ _ refl refl finds) ∙ e)

    value_by : (word : Word) → View word → IsUtf8 word → (parts : Parts) (rows : List Row) (n : Text) → is_word_among form.options (hyphened n) ≡ true → Holds form rows parts
        → Outcome form parts (parts_from form (word ∷ words) (ValueOf (hyphened n)))
        (rest_fault R (between rows (pending n) (option n) false) (word ∷ words)) (rest_rows R (between rows (pending n) (option n) false) (word ∷ words))
    value_by _ (plain word is_plain not_divider not_long not_short) utf8 parts rows n is h =
        let met = value_met R k.by_index n (k.by_id n is) rows word not_divider not_long not_short in
        let fault = plain_fault R k.by_index (option n) word (held rows (pending n)) refl not_divider not_long not_short in
        subst (λ (o : Option Parts). Outcome form parts o (rest_fault R (between rows (pending n) (option n) false) (word ∷ words)) (rest_rows R (between rows (pending n) (option n) false) (word ∷ words)))
        (λ i. after_turn (ValueOf (hyphened n)) (if sym is_plain i then Wrong else Used (hyphened n) word) (parts_from form words))
        (use_first form parts (hyphened n) word (parts_from form words Any) _ _
        (forward R form (add_use parts (hyphened n) word) (parts_from form words Any) (between rows (pending n) (option n) false) (between rows (Some (n, word ∷ [])) idle false) word words
        (turn_by R k.by_index rows (pending n) (option n) false word (held rows (Some (n, word ∷ []))) (next idle) [] met fault)
        (walked_by R k.by_index rows (pending n) (option n) false word (held rows (Some (n, word ∷ []))) (next idle) met)
        (again Any (add_use parts (hyphened n) word) rows (Some (n, word ∷ [])) idle false (value_settled parts rows n word is h, refl, (false, refl)))))
    value_by _ divider utf8 parts rows n is h =
        forward R form parts None (between rows (pending n) (option n) false) (between rows (pending n) (option n) true) (45 ∷ 45 ∷ []) words
        (turn_by R k.by_index rows (pending n) (option n) false (45 ∷ 45 ∷ []) (held rows (pending n)) (trailing 1) [] refl refl)
        (walked_by R k.by_index rows (pending n) (option n) false (45 ∷ 45 ∷ []) (held rows (pending n)) (trailing 1) refl)
        (doomed rows n (option n) (k.by_id n is) words)
    value_by _ (long x xs) utf8 parts rows n is h =
        stuck R (between rows (pending n) (option n) false) (45 ∷ 45 ∷ x ∷ xs) words
        (word_bad rows (pending n) (option n) false (45 ∷ 45 ∷ x ∷ xs)
        (long_no_value rows n (k.by_id n is) x xs _ refl _ _ (k.long_name (name_and_value (x ∷ xs)).0)))
    value_by _ (short first rest other) utf8 parts rows n is h =
        stuck R (between rows (pending n) (option n) false) (45 ∷ first ∷ rest) words
        (word_bad rows (pending n) (option n) false (45 ∷ first ∷ rest)
        (λ e. cons-not_nil _ _ (sym (short_fault_is R k.by_index k.by_short (option n) first rest rows (pending n) refl other utf8) ∙ e)))

    Comes : (word : Word) → Next → Parts → List Row → Option (Text × List Text) → Waiting → Bool → Type 0
    Comes word next_word parts rows p w t = Outcome form parts (parts_from form (word ∷ words) next_word)
        (rest_fault R (between rows p w t) (word ∷ words)) (rest_rows R (between rows p w t) (word ∷ words))

    one_more_word : (word : Word) → IsUtf8 word → Goes (word ∷ words)
    unfolding Comes
    one_more_word word utf8 Any parts rows p w t stands =
        subst (λ (t' : Bool). Comes word Any parts rows p w t') (sym stands.1)
        (subst (λ (w' : Waiting). Comes word Any parts rows p w' false) (sym stands.2.1)
        (any_by word (view word) utf8 parts rows p stands.2.0 stands.0))
    one_more_word word utf8 OnlyPositional parts rows p w t stands =
        subst (λ (t' : Bool). Comes word OnlyPositional parts rows p w t') (sym stands.1) (only word parts rows p w stands.0)
    one_more_word word utf8 (ValueOf o) parts rows p w t stands =
        subst (λ (t' : Bool). Comes word (ValueOf o) parts rows p w t') (sym stands.5)
        (subst (λ (w' : Waiting). Comes word (ValueOf o) parts rows p w' false) (sym stands.4)
        (subst (λ (p' : Option (Text × List Text)). Comes word (ValueOf o) parts rows p' (option stands.0) false) (sym stands.3)
        (subst (λ (o' : Word). Comes word (ValueOf o') parts rows (Some (stands.0, [])) (option stands.0) false) (sym stands.1)
        (value_by word (view word) utf8 parts rows stands.0 stands.2 stands.6))))

  -- what the definition makes of the words, and what the walk makes of them
  pub sim : (words : List Word) → AreUtf8 words → Goes words
  sim [] utf8 = ends
  sim (word ∷ words) utf8 = one_more_word words (sim words utf8.1) word utf8.0

  -- from the first word on: the walk has a fault exactly where the words have no parts, and its rows have the parts
  pub whole_walk : (words : List Word) → AreUtf8 words
      → Outcome form no_parts (parts_from form words Any) (rest_fault R (between [] None idle false) words) (rest_rows R (between [] None idle false) words)
  whole_walk words utf8 = sim words utf8 Any no_parts [] None idle false
      (record { fine = refl; holds = record { values = λ n e. refl; counts = λ n e. refl; words = refl } }, refl, (false, refl))
