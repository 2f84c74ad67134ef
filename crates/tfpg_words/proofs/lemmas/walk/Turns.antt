-- What one word does to clap's walk.
use Rattle.std.proofs.Common.{◌≡◌, ◌∙◌, ◌+◌, ◌<◌, ◌==◌, ◌&&◌, ◌||◌, ap, refl, ℕ, suc, drop, Bool, true, false, List, [], ◌∷◌, length, min, Option, Some, None, bytes_eq, pos, arith}
use Rattle.std.specs.Option.{option_map_or}
use Rattle.std.specs.Prelude.{if◌then◌else◌}
use Rattle.clap.specs.Walk.{Held, Row, Rule, Step, Text, Waiting, Walk, after_flag, after_step, arg_by_id, arg_by_index, arg_by_long, arg_by_short, idle, is_pending, long_met, next, option, positional, pushed, reacted, settled, settled_rows, subcommand_met, to_positional, trailing, value, walked, word_met}
use Rattle.clap.specs.Kinds.{Kinds, or_else}
use Rattle.clap.specs.Faults.{long_fault, positional_fault, settle_fault, step_fault, stray_fault, turn_fault, word_fault}
use Rattle.clap.specs.Lexer.{long_of, long_of_rest, name_and_value, short_of}
use Rattle.std.specs.Str.{IsUtf8, chars, encode_utf8_all}
use Rattle.std.specs.Prelude.{option_and_then, encode_utf8, slice_get}
use Rattle.std.proofs.lemmas.Bool.{cond-false, and_right}
use Rattle.std.proofs.lemmas.Slice.Eq.{bytes_eq-Decides}
use Rattle.tfpg_base.proofs.lemmas.lists.Elements.{slice_get-there}
use Rattle.std.proofs.lemmas.Str.{encodes-chars}
use Rattle.clap.specs.Matches.{count_text}
use Rattle.clap.specs.Walk.{count_of}
use Rattle.clap.specs.Kinds.{value_kinds}
use Rattle.clap.specs.Faults.{bundle_fault, flag_word_fault, other_fault, use_fault, bundle_step_fault, flags_fault, short_fault}
use Rattle.clap.specs.declared.builder.value_parser.ValueParser.TheVariants as vp
use Rattle.clap.specs.declared.error.kind.ErrorKind.TheVariants.{InvalidValue, TooManyValues, UnknownArgument}
use Rattle.tfpg_words.specs.inside.Rules.{between, flag_rule, option_rule, shape_with, words_id, words_rule}

abbrev pub held : List Row → Option (Text × List Text) → Held
held rows pending = record { rows = rows; pending = pending; skip = 0 }

-- no option waits for its value
abbrev pub quiet : Bool → Waiting
quiet true = positional
quiet false = idle

-- then no word is a command of its own
pub no_subcommand : (b : Bool) (word : Text) → subcommand_met [] (quiet b) word ≡ None
no_subcommand true word = refl
no_subcommand false word = refl

abbrev with_word : Text → Held → Bool → Walk
with_word word h t = record {
  held = pushed words_id word h;
  waiting = positional;
  position = 1;
  is_trailing = t;
  stopped = None;
}

-- what follows a hyphen is a text
after_hyphen : (first : ℕ) (rest : List ℕ) → IsUtf8 (45 ∷ first ∷ rest) → encode_utf8_all (chars (first ∷ rest)) ≡ first ∷ rest
unfolding chars lib.Utf8.encode
after_hyphen first rest utf8 = ap (drop 1) (encodes-chars (45 ∷ first ∷ rest) utf8)

module _ (R : List Rule) (by_index : arg_by_index R 1 ≡ Some words_rule) where
  -- the turn of a word, by what the word is and its own fault
  pub turn_by : (rows : List Row) (p : Option (Text × List Text)) (w : Waiting) (t : Bool) (word : Text) (h : Held) (st : Step) (k : Kinds)
      → word_met R [] t w 1 word (held rows p) ≡ (h, st) → word_fault (shape_with R) [] t w word (held rows p) ≡ k
      → turn_fault (shape_with R) [] (between rows p w t) word ≡ or_else k (step_fault (shape_with R) 1 h st)
  turn_by rows p w t word h st k met fault = λ i. or_else (fault i) (step_fault (shape_with R) 1 (met i).0 (met i).1)

  pub walked_by : (rows : List Row) (p : Option (Text × List Text)) (w : Waiting) (t : Bool) (word : Text) (h : Held) (st : Step)
      → word_met R [] t w 1 word (held rows p) ≡ (h, st)
      → walked R [] (between rows p w t) word ≡ after_step R word (between rows p w t) h st
  unfolding walked
  walked_by rows p w t word h st met = λ i. after_step R word (between rows p w t) (met i).0 (met i).1

  -- a word that goes to the positional
  pub words_fault : (rows : List Row) (p : Option (Text × List Text))
      → step_fault (shape_with R) 1 (held rows p) value ≡ settle_fault R false (held rows p)
  words_fault rows p =
      ap (λ o. option_map_or (λ a. positional_fault R false a (held rows p)) o (stray_fault (shape_with R))) by_index
      ∙ cond-false (is_pending words_rule p && false) [] (settle_fault R false (held rows p)) (and_right (is_pending words_rule p) false refl)

  pub words_step : (rows : List Row) (p : Option (Text × List Text)) (w : Waiting) (t : Bool) (word : Text)
      → after_step R word (between rows p w t) (held rows p) value ≡ between (settled_rows R p rows) (Some (words_id, word ∷ [])) positional t
  words_step rows p w t word =
      ap (λ o. to_positional R o word (between rows p w t) (held rows p)) by_index ∙ by (is_pending words_rule p) t
    where
      by : (b t : Bool) → with_word word (if b && false then held rows p else settled R (held rows p)) (t || false)
          ≡ between (settled_rows R p rows) (Some (words_id, word ∷ [])) positional t
      by true true = refl
      by true false = refl
      by false true = refl
      by false false = refl

  -- a word that is no option word, where none waits for a value
  pub plain_met : (b : Bool) (word : Text) (h : Held) → bytes_eq word (45 ∷ 45 ∷ []) ≡ false → long_of word ≡ None → short_of word ≡ None
      → word_met R [] false (quiet b) 1 word h ≡ (h, value)
  plain_met true word h divider long short = rw (divider, long, short) refl
  plain_met false word h divider long short = rw (divider, long, short) refl

  pub plain_fault : (w : Waiting) (word : Text) (h : Held) → subcommand_met [] w word ≡ None
      → bytes_eq word (45 ∷ 45 ∷ []) ≡ false → long_of word ≡ None → short_of word ≡ None
      → word_fault (shape_with R) [] false w word h ≡ []
  plain_fault w word h none divider long short = rw (none, divider, long, short) refl

  pub divider_met : (w : Waiting) (h : Held) → subcommand_met [] w (45 ∷ 45 ∷ []) ≡ None
      → word_met R [] false w 1 (45 ∷ 45 ∷ []) h ≡ (h, trailing 1)
  divider_met w h none = rw none refl

  pub divider_fault : (w : Waiting) (h : Held) → subcommand_met [] w (45 ∷ 45 ∷ []) ≡ None
      → word_fault (shape_with R) [] false w (45 ∷ 45 ∷ []) h ≡ []
  divider_fault w h none = rw none refl

  module _ (w : Waiting) (x : ℕ) (xs : List ℕ) (h : Held) (none : subcommand_met [] w (45 ∷ 45 ∷ x ∷ xs) ≡ None) (found : Option Rule)
      (given : Option Text) (finds : arg_by_long R (name_and_value (x ∷ xs)).0 ≡ found) (gives : (name_and_value (x ∷ xs)).1 ≡ given) where
    pub long_is : word_met R [] false w 1 (45 ∷ 45 ∷ x ∷ xs) h ≡ after_flag R w (45 ∷ 45 ∷ x ∷ xs) (long_met R found given h).0 (long_met R found given h).1
    long_is = rw none (λ i. after_flag R w (45 ∷ 45 ∷ x ∷ xs) (long_met R (finds i) (gives i) h).0 (long_met R (finds i) (gives i) h).1)

    pub long_fault_is : word_fault (shape_with R) [] false w (45 ∷ 45 ∷ x ∷ xs) h ≡ long_fault R false found given h
    long_fault_is = rw none (λ i. long_fault R false (finds i) (gives i) h)

    -- an option with its value after `=`
    pub attached : (name v : Text) → found ≡ Some (option_rule name) → given ≡ Some v
        → word_met R [] false w 1 (45 ∷ 45 ∷ x ∷ xs) h ≡ (reacted R (option_rule name) (v ∷ []) h, next idle)
    attached name v is has = long_is ∙ (λ i. after_flag R w (45 ∷ 45 ∷ x ∷ xs) (long_met R (is i) (has i) h).0 (long_met R (is i) (has i) h).1)

    pub attached_fault : (name v : Text) → found ≡ Some (option_rule name) → given ≡ Some v
        → word_fault (shape_with R) [] false w (45 ∷ 45 ∷ x ∷ xs) h ≡ or_else (settle_fault R false h) []
    attached_fault name v is has = long_fault_is ∙ (λ i. long_fault R false (is i) (has i) h)

    -- an option that waits for its value
    pub waits : (name : Text) → found ≡ Some (option_rule name) → given ≡ None
        → word_met R [] false w 1 (45 ∷ 45 ∷ x ∷ xs) h ≡ (record (settled R h) { pending = Some (name, []) }, next (option name))
    waits name is has = long_is ∙ (λ i. after_flag R w (45 ∷ 45 ∷ x ∷ xs) (long_met R (is i) (has i) h).0 (long_met R (is i) (has i) h).1)

    pub waits_fault : (name : Text) → found ≡ Some (option_rule name) → given ≡ None
        → word_fault (shape_with R) [] false w (45 ∷ 45 ∷ x ∷ xs) h ≡ settle_fault R false h
    waits_fault name is has = long_fault_is ∙ (λ i. long_fault R false (is i) (has i) h)

    -- a flag
    pub flag : (name : Text) → found ≡ Some (flag_rule name) → given ≡ None
        → word_met R [] false w 1 (45 ∷ 45 ∷ x ∷ xs) h ≡ (reacted R (flag_rule name) [] h, next idle)
    flag name is has = long_is ∙ (λ i. after_flag R w (45 ∷ 45 ∷ x ∷ xs) (long_met R (is i) (has i) h).0 (long_met R (is i) (has i) h).1)

    pub flag_fault : (name : Text) → found ≡ Some (flag_rule name) → given ≡ None
        → word_fault (shape_with R) [] false w (45 ∷ 45 ∷ x ∷ xs) h
        ≡ or_else (settle_fault R false h) (value_kinds false (vp.Signed (pos 0) (pos 255)) (count_text (min (count_of name (settled R h).rows + 1) 255)))
    flag_fault name is has = long_fault_is ∙ (λ i. long_fault R false (is i) (has i) h)

    -- a flag with a value, and a name that is unknown
    pub unneeded_fault : (name v : Text) → found ≡ Some (flag_rule name) → given ≡ Some v
        → word_fault (shape_with R) [] false w (45 ∷ 45 ∷ x ∷ xs) h ≡ TooManyValues ∷ []
    unneeded_fault name v is has = long_fault_is ∙ (λ i. long_fault R false (is i) (has i) h)

    pub unknown_fault : found ≡ None → word_fault (shape_with R) [] false w (45 ∷ 45 ∷ x ∷ xs) h ≡ UnknownArgument ∷ []
    unknown_fault is = long_fault_is ∙ (λ i. long_fault R false (is i) given h)

  -- one hyphen and no second one
  module _ (by_short : (x : ℕ) → arg_by_short R x ≡ None) where
    unknown_flag : (k : ℕ) (flags : Text) (h : Held) (x : ℕ) → slice_get (chars flags) 0 ≡ Some x
        → flags_fault R false (suc k) flags 0 h ≡ UnknownArgument ∷ []
    unfolding flags_fault
    unknown_flag k flags h x first =
        ap (λ o. bundle_step_fault R false o flags 0 h (flags_fault R false k)) first
        ∙ ap (λ o. short_fault R false o (drop (length (encode_utf8 x)) flags) h (flags_fault R false k (drop (length (encode_utf8 x)) flags) 0)) (by_short x)

    pub short_fault_is : (w : Waiting) (first : ℕ) (rest : List ℕ) (rows : List Row) (p : Option (Text × List Text))
        → subcommand_met [] w (45 ∷ first ∷ rest) ≡ None → (first == 45) ≡ false → IsUtf8 (45 ∷ first ∷ rest)
        → word_fault (shape_with R) [] false w (45 ∷ first ∷ rest) (held rows p) ≡ UnknownArgument ∷ []
    short_fault_is w first rest rows p none other utf8 =
        let x = slice_get-there (chars (first ∷ rest)) 0 (nonempty (chars (first ∷ rest)) (after_hyphen first rest utf8)) in
        let h = held rows p in
        ap (λ o. other_fault (shape_with R) o (45 ∷ first ∷ rest) h) none
        ∙ (λ i. if other i && bytes_eq rest [] then []
        else flag_word_fault R false (option_and_then long_of_rest (if other i then Some rest else None)) (45 ∷ first ∷ rest) h)
        ∙ (λ i. option_map_or (λ flags. bundle_fault R false flags h) (if other i then None else Some (first ∷ rest)) [])
        ∙ unknown_flag (length rest) (first ∷ rest) (held rows p) x.0 x.1
      where
        nonempty : (cs : List ℕ) → encode_utf8_all cs ≡ first ∷ rest → 0 < length cs
        nonempty [] e = absurd cc
        nonempty (c ∷ cs) e = omega arith

  -- the word after an option that waits for its value
  module _ (name : Text) (by_id : arg_by_id R name ≡ Some (option_rule name)) where
    pub value_met : (rows : List Row) (word : Text) → bytes_eq word (45 ∷ 45 ∷ []) ≡ false → long_of word ≡ None → short_of word ≡ None
        → word_met R [] false (option name) 1 word (held rows (Some (name, []))) ≡ (held rows (Some (name, word ∷ [])), next idle)
    value_met rows word divider long short =
        let same : bytes_eq name name ≡ true = (bytes_eq-Decides name name).1 refl in
        rw (divider, long, short) (rw by_id (rw same refl))

    -- an option that still waits has no value
    pub lacks : (rows : List Row) → settle_fault R false (held rows (Some (name, []))) ≡ InvalidValue ∷ []
    lacks rows = ap (λ o. option_map_or (λ a. use_fault false a [] rows) o []) by_id

    -- an option with its value settles
    pub settles : (rows : List Row) (v : Text) → settle_fault R false (held rows (Some (name, v ∷ []))) ≡ []
    settles rows v = ap (λ o. option_map_or (λ a. use_fault false a (v ∷ []) rows) o []) by_id
