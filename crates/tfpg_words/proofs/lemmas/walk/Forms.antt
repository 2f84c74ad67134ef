-- The rules of a form, and what a parse by them comes to.
use Rattle.std.proofs.Common.{◌≡◌, ◌∙◌, ◌==◌, ◌&&◌, ◌||◌, ap, refl, sym, subst, Bool, true, false, not, cond, List, [], ◌∷◌, ◌++◌, map, min, fold, Option, Some, None, is_some, bytes_eq, codes, true≢false}
use Rattle.std.specs.Prelude.{if◌then◌else◌, count_by, find}
use Rattle.std.specs.Option.{option_map_or}
use Rattle.std.specs.List.{list_any}
use Rattle.std.proofs.lemmas.Bool.{false_from_ne_true, cond-true, or_right}
use Rattle.std.proofs.Math.Bool.{or-false}
use Rattle.clap.specs.Walk.{Row, Rule, Text, arg_by_id, arg_by_long, count_of, finished, has_long, has_row, has_short, idle, nothing_held, settled, walk, with_default, with_values}
use Rattle.clap.specs.Simple.{App, argument_words, built, names_of, matches_of}
use Rattle.clap.specs.Kinds.{Kinds, or_else}
use Rattle.clap.specs.Faults.{built_fault, check_fault, defaults_fault, fault_of, given_default_fault, settle_fault, walk_fault}
use Rattle.clap.specs.Takes.{is_given}
use Rattle.clap.specs.Walk.{more_values, rows_after}
use Rattle.clap.specs.declared.error.kind.ErrorKind.TheVariants.{MissingRequiredArgument}
use Rattle.clap.proofs.FaultLemmas.{leaf_fault}
use Rattle.clap.specs.declared.parser.matches.ValueSource.TheVariants.{DefaultValue}
use Rattle.clap.specs.declared.builder.value_parser.Reading.TheVariants as reading
use Rattle.tfpg_base.proofs.lemmas.lists.Choices.{cond-same}
use Rattle.tfpg_base.proofs.lemmas.lists.FirstFound.{find-map_fail}
use Rattle.tfpg_base.proofs.lemmas.lists.SameBytes.{bytes_eq-same, bytes_eq-true, bytes_eq-apart}
use Rattle.tfpg_words.specs.Words.{Any, Form, Parts, Word, is_word_among, parts_from}
use Rattle.tfpg_words.specs.inside.Rows.{no_parts, AllAmong, Apart, Holds, form_for, hyphened, joined_to, rules_for, built_for}
use Rattle.tfpg_words.specs.inside.Rules.{LongIs, between, flag_rule, option_rule, shape_with, words_id, words_rule}
use Rattle.tfpg_words.proofs.lemmas.walk.Walks.{Outcome, all_nil, both_nil}
use Rattle.tfpg_words.proofs.lemmas.walk.Rows.{other_values, row_at, vals_in, count_in, skipped, found}
use Rattle.tfpg_words.proofs.lemmas.walk.Main.{AreUtf8, IsFor, whole_walk}

abbrev by_name : Text → Rule → Bool
by_name name a = not (is_some a.index) && has_long a name

-- a search by name through the rules of options and of flags
abbrev FoundByName : (Text → Rule) → Text → Bool → Option Rule → Option Rule → Type 0
FoundByName rule name true found_rule rest = found_rule ≡ Some (rule name)
FoundByName rule name false found_rule rest = found_rule ≡ rest

module _ (rule : Text → Rule) (test : Text → Rule → Bool) (tests : (n name : Text) → test name (rule n) ≡ bytes_eq n name) (rest : List Rule) (name : Text) where
  searched : (names : List Text) → FoundByName rule name (is_word_among (map hyphened names) (hyphened name)) (find (test name) (map rule names ++ rest)) (find (test name) rest)
  searched [] = refl
  searched (n ∷ names) = by (bytes_eq n name) refl (searched names)
    where
      by : (b : Bool) → bytes_eq n name ≡ b
          → FoundByName rule name (is_word_among (map hyphened names) (hyphened name)) (find (test name) (map rule names ++ rest)) (find (test name) rest)
          → FoundByName rule name (is_word_among (map hyphened (n ∷ names)) (hyphened name)) (find (test name) (map rule (n ∷ names) ++ rest)) (find (test name) rest)
      by true e more =
          subst (λ (t : Bool). FoundByName rule name (t || is_word_among (map hyphened names) (hyphened name)) (find (test name) (map rule (n ∷ names) ++ rest)) (find (test name) rest)) (sym e)
          ((λ i. cond ((tests n name ∙ e) i) (Some (rule n)) (find (test name) (map rule names ++ rest))) ∙ ap (λ (t : Text). Some (rule t)) (bytes_eq-true n name e))
      by false e more =
          subst (λ (t : Bool). FoundByName rule name (t || is_word_among (map hyphened names) (hyphened name)) (find (test name) (map rule (n ∷ names) ++ rest)) (find (test name) rest)) (sym e)
          (subst (λ (o : Option Rule). FoundByName rule name (is_word_among (map hyphened names) (hyphened name)) o (find (test name) rest))
          (λ i. cond (sym (tests n name ∙ e) i) (Some (rule n)) (find (test name) (map rule names ++ rest))) more)

hyphens : (names : List Text) (word : Word) → is_word_among (map hyphened names) word ≡ true → (name : Text) × (word ≡ hyphened name)
hyphens [] word e = absurd (true≢false (sym e))
hyphens (n ∷ names) word e = by (bytes_eq (hyphened n) word) refl (λ rest. hyphens names word rest) e
  where
    by : (b : Bool) → bytes_eq (hyphened n) word ≡ b → (is_word_among (map hyphened names) word ≡ true → (name : Text) × (word ≡ hyphened name))
        → (b || is_word_among (map hyphened names) word) ≡ true → (name : Text) × (word ≡ hyphened name)
    by true on rest e = (n, sym (bytes_eq-true (hyphened n) word on))
    by false on rest e = rest e

module _ (options flags : List Text) (apart : Apart (form_for options flags)) where
  by_long_name : (name : Text) → LongIs (is_word_among (map hyphened options) (hyphened name)) (is_word_among (map hyphened flags) (hyphened name)) name (arg_by_long (rules_for options flags) name)
  by_long_name name = joined (arg_by_long (rules_for options flags) name) (find (by_name name) (map flag_rule flags ++ words_rule ∷ []))
      (is_word_among (map hyphened options) (hyphened name)) (is_word_among (map hyphened flags) (hyphened name))
      (searched option_rule by_name (λ n t. or-false (bytes_eq n t)) (map flag_rule flags ++ words_rule ∷ []) name options)
      (searched flag_rule by_name (λ n t. or-false (bytes_eq n t)) (words_rule ∷ []) name flags)
    where
      joined : (rules rest : Option Rule) (b f : Bool) → FoundByName option_rule name b rules rest → FoundByName flag_rule name f rest None → LongIs b f name rules
      joined rules rest true f here more = here
      joined rules rest false true here more = here ∙ more
      joined rules rest false false here more = here ∙ more

  among_option : (name : Text) → is_word_among (map hyphened options) (hyphened name) ≡ true → arg_by_id (rules_for options flags) name ≡ Some (option_rule name)
  among_option name is =
      subst (λ (b : Bool). FoundByName option_rule name b (arg_by_id (rules_for options flags) name) (find (λ a. bytes_eq a.id name) (map flag_rule flags ++ words_rule ∷ []))) is
      (searched option_rule (λ t a. bytes_eq a.id t) (λ n t. refl) (map flag_rule flags ++ words_rule ∷ []) name options)

  words_are : arg_by_id (rules_for options flags) words_id ≡ Some words_rule
  words_are =
      subst (λ (b : Bool). FoundByName option_rule words_id b (arg_by_id (rules_for options flags) words_id) (find (λ a. bytes_eq a.id words_id) (map flag_rule flags ++ words_rule ∷ [])))
      (false_from_ne_true (is_word_among (map hyphened options) (hyphened words_id)) apart.no_option)
      (searched option_rule (λ t a. bytes_eq a.id t) (λ n t. refl) (map flag_rule flags ++ words_rule ∷ []) words_id options)
      ∙ subst (λ (b : Bool). FoundByName flag_rule words_id b (find (λ a. bytes_eq a.id words_id) (map flag_rule flags ++ words_rule ∷ [])) (find (λ a. bytes_eq a.id words_id) (words_rule ∷ [])))
      (false_from_ne_true (is_word_among (map hyphened flags) (hyphened words_id)) apart.no_flag)
      (searched flag_rule (λ t a. bytes_eq a.id t) (λ n t. refl) (words_rule ∷ []) words_id flags)

  pub is_for : IsFor (rules_for options flags) (form_for options flags)
  is_for = record {
    apart = apart;
    long_name = by_long_name;
    by_id = among_option;
    words_by_id = words_are;
    by_index = find-map_fail option_rule (λ a. option_map_or (λ k. k == 1) a.index false) (map flag_rule flags ++ words_rule ∷ []) (λ n. refl) options
        ∙ find-map_fail flag_rule (λ a. option_map_or (λ k. k == 1) a.index false) (words_rule ∷ []) (λ n. refl) flags;
    by_short = λ x. find-map_fail option_rule (λ a. not (is_some a.index) && has_short a x) (map flag_rule flags ++ words_rule ∷ []) (λ n. refl) options
        ∙ find-map_fail flag_rule (λ a. not (is_some a.index) && has_short a x) (words_rule ∷ []) (λ n. refl) flags;
    option_names = hyphens options;
    flag_names = hyphens flags;
  }

-- ---- after the walk

defaults_fine : (options flags : List Text) (rows : List Row) → defaults_fault rows (rules_for options flags) ≡ []
unfolding defaults_fault
defaults_fine (n ∷ options) flags rows =
    (λ i. or_else (cond-true (has_row n rows || true) [] (given_default_fault (option_rule n) []) (or_right (has_row n rows) true refl) i) (defaults_fault (with_default rows (option_rule n)) (rules_for options flags)))
    ∙ defaults_fine options flags (with_default rows (option_rule n))
defaults_fine [] (n ∷ flags) rows =
    (λ i. or_else (cond-same (has_row n rows || false) [] i) (defaults_fault (with_default rows (flag_rule n)) (rules_for [] flags)))
    ∙ defaults_fine [] flags (with_default rows (flag_rule n))
defaults_fine [] [] rows = (λ i. or_else (cond-true (has_row words_id rows || true) [] (given_default_fault words_rule []) (or_right (has_row words_id rows) true refl) i) [])

none_required : (options flags : List Text) (rows : List Row) → list_any (λ a. a.required && not (is_given a.id rows)) (rules_for options flags) ≡ false
none_required (n ∷ options) flags rows = none_required options flags rows
none_required [] (n ∷ flags) rows = none_required [] flags rows
none_required [] [] rows = refl

checks_fine : (options flags : List Text) (rows : List Row) → check_fault (shape_with (rules_for options flags)) rows false ≡ []
checks_fine options flags rows = λ i. if none_required options flags rows i then MissingRequiredArgument ∷ [] else []

-- ---- the rows with the defaults

absent : (n : Text) (rows : List Row) → has_row n rows ≡ false → row_at n rows ≡ None
absent n [] e = refl
absent n (r ∷ rows) e = by (bytes_eq r.id n) refl (λ less. absent n rows less) e
  where
    by : (b : Bool) → bytes_eq r.id n ≡ b → (has_row n rows ≡ false → row_at n rows ≡ None) → (b || has_row n rows) ≡ false → row_at n (r ∷ rows) ≡ None
    by true on rest none = absurd (true≢false none)
    by false on rest none = skipped n r rows on ∙ rest none

added : (n : Text) (rows : List Row) → has_row n rows ≡ false
    → count_of n (with_values n reading.WithoutMinus DefaultValue (codes "0" ∷ []) rows) ≡ 0
added n [] e = ap count_in (found n _ [] (bytes_eq-same n))
added n (r ∷ rows) e = by (bytes_eq r.id n) refl (λ less. added n rows less) e
  where
    by : (b : Bool) → bytes_eq r.id n ≡ b → (has_row n rows ≡ false → count_of n (with_values n reading.WithoutMinus DefaultValue (codes "0" ∷ []) rows) ≡ 0)
        → (b || has_row n rows) ≡ false
        → count_of n (if b then more_values DefaultValue (codes "0" ∷ []) r ++ rows else r ∷ with_values n reading.WithoutMinus DefaultValue (codes "0" ∷ []) rows) ≡ 0
    by true on rest none = absurd (true≢false none)
    by false on rest none = ap count_in (skipped n r (with_values n reading.WithoutMinus DefaultValue (codes "0" ∷ []) rows) on) ∙ rest none

module _ (form : Form) (apart : Apart form) (parts : Parts) where
  flag_default : (n : Text) (rows : List Row) → is_word_among form.flags (hyphened n) ≡ true → Holds form rows parts → Holds form (with_default rows (flag_rule n)) parts
  flag_default n rows is h = by (has_row n rows) refl
    where
      same_flag : (m : Text) → is_word_among form.flags (hyphened m) ≡ true → (b : Bool) → bytes_eq n m ≡ b → has_row n rows ≡ false
          → count_of m (with_values n reading.WithoutMinus DefaultValue (codes "0" ∷ []) rows) ≡ min (count_by (λ used. bytes_eq used.name (hyphened m)) parts.uses) 255
      same_flag m e true on none =
          subst (λ (t : Text). count_of t (with_values n reading.WithoutMinus DefaultValue (codes "0" ∷ []) rows) ≡ count_of t rows) (bytes_eq-true n m on)
          (added n rows none ∙ sym (ap count_in (absent n rows none)))
          ∙ h.counts m e
      same_flag m e false off none = ap count_in (other_values m n reading.WithoutMinus DefaultValue rows off (codes "0" ∷ [])) ∙ h.counts m e

      others : has_row n rows ≡ false → Holds form (with_values n reading.WithoutMinus DefaultValue (codes "0" ∷ []) rows) parts
      others none = record {
        values = λ m e.
            let off : bytes_eq n m ≡ false = bytes_eq-apart (λ t. is_word_among form.flags (hyphened t) ≡ true) (λ t. is_word_among form.options (hyphened t) ≡ true) n m is e (λ t f o. apart.kinds t o f) in
            ap vals_in (other_values m n reading.WithoutMinus DefaultValue rows off (codes "0" ∷ [])) ∙ h.values m e;
        counts = λ m e. same_flag m e (bytes_eq n m) refl none;
        words =
            let off : bytes_eq n words_id ≡ false = bytes_eq-apart (λ t. is_word_among form.flags (hyphened t) ≡ true) (λ t. t ≡ words_id) n words_id is refl
            (λ t f e. apart.no_flag (subst (λ (x : Text). is_word_among form.flags (hyphened x) ≡ true) e f)) in
            ap vals_in (other_values words_id n reading.WithoutMinus DefaultValue rows off (codes "0" ∷ [])) ∙ h.words;
      }

      by : (b : Bool) → has_row n rows ≡ b → Holds form (if b then rows else with_values n reading.WithoutMinus DefaultValue (codes "0" ∷ []) rows) parts
      by true some = h
      by false none = others none

  finished_holds : (options flags : List Text) → AllAmong form.flags flags → (rows : List Row) → Holds form rows parts
      → Holds form (fold with_default rows (rules_for options flags)) parts
  finished_holds (n ∷ options) flags all rows h =
      finished_holds options flags all (with_default rows (option_rule n)) (subst (λ (l : List Row). Holds form l parts) (sym (cond-same (has_row n rows) rows)) h)
  finished_holds [] (n ∷ flags) all rows h = finished_holds [] flags all.1 (with_default rows (flag_rule n)) (flag_default n rows all.0 h)
  finished_holds [] [] all rows h = subst (λ (l : List Row). Holds form l parts) (sym (cond-same (has_row words_id rows) rows)) h

-- ---- the parse

lift : (form : Form) (apart : Apart form) (options flags : List Text) → AllAmong form.flags flags → (o : Option Parts) (w s c : Kinds) (rows : List Row)
    → c ≡ [] → Outcome form no_parts o (or_else w s) rows
    → Outcome form no_parts o (or_else w (or_else s c)) (fold with_default rows (rules_for options flags))
lift form apart options flags all None w s c rows none h = λ e. h (both_nil w s c e)
lift form apart options flags all (Some more) w s c rows none h =
    (all_nil w s c none h.0, finished_holds form apart (joined_to no_parts more) options flags all rows h.1)

module _ (options flags : List Text) (apart : Apart (form_for options flags)) (all : AllAmong (form_for options flags).flags flags) where
  -- A parse has a fault exactly where the words have no parts, and else its rows have the parts.
  pub parsed : (app : App) → built app ≡ built_for options flags → (words : List Word) → argument_words app words ≡ words → AreUtf8 words
      → Outcome (form_for options flags) no_parts (parts_from (form_for options flags) words Any) (fault_of app words) (matches_of app words)
  parsed app is words same_words utf8 =
      let R = rules_for options flags in
      let w = between [] None idle false in
      let end = (walk R [] nothing_held words).held in
      let last = or_else (defaults_fault (settled R end).rows R) (check_fault (shape_with R) (finished R end) false) in
      let none : last ≡ [] = λ i. or_else (defaults_fine options flags (settled R end).rows i) (checks_fine options flags (finished R end) i) in
      let built_outcome : Outcome (form_for options flags) no_parts (parts_from (form_for options flags) words Any)
      (built_fault (built_for options flags) nothing_held words) (finished R end) =
      subst (λ (f : Kinds). Outcome (form_for options flags) no_parts (parts_from (form_for options flags) words Any) f (finished R end))
      (sym (leaf_fault (built_for options flags) nothing_held words refl))
      (lift (form_for options flags) apart options flags all (parts_from (form_for options flags) words Any)
      (walk_fault (shape_with R) [] w words) (settle_fault R false end) last (settled R end).rows none
      (whole_walk R (form_for options flags) (is_for options flags apart) words utf8)) in
      subst (λ (a : App). Outcome (form_for options flags) no_parts (parts_from (form_for options flags) words Any)
      (built_fault a nothing_held (argument_words app words)) (rows_after a.top.rules (names_of a) (argument_words app words))) (sym is)
      (subst (λ (l : List Word). Outcome (form_for options flags) no_parts (parts_from (form_for options flags) words Any)
      (built_fault (built_for options flags) nothing_held l) (rows_after R [] l)) (sym same_words) built_outcome)
