-- What the rows of a parse mean for a command is what the parts of the words mean.
use Rattle.std.proofs.Common.{◌≡◌, ◌∙◌, ◌+◌, ap, refl, sym, true, false, cond, List, [], ◌∷◌, ◌++◌, map, min, Option, Some, None, Result, option_map, bytes_eq, nat_lt, codes, arith}
use Rattle.std.specs.Prelude.{Ok, count_by, filter, find, is_some, ok_or, slice_get, unwrap_or}
use Rattle.tfpg_base.specs.Words.{number_of}
use Rattle.std.proofs.lemmas.Bool.{lt-ltb}
use Rattle.std.proofs.lemmas.List.Sums.{sum_by-cons}
use Rattle.clap.specs.Walk.{Row, Text}
use Rattle.tfpg_words.specs.declared.usage_cause.UsageCause.{UsageCause}
use Rattle.tfpg_words.specs.declared.usage_cause.UsageCause.TheVariants.{BadWords}
use Rattle.tfpg_words.specs.Words.{Form, Parts, Use, Word, is_word_among, parts_of_words}
use Rattle.tfpg_words.specs.Meaning.{Meant, NumberOption, and_then, both, within, by_form, number_by, use_of, terms_by, terms_options, k_option, doubt_option, budget_option, ahead_option, draw_option, size_option, diagnose_on, generate_on, simulate_on, convert_on, ask_on, fleet_on, predict_on}
use Rattle.tfpg_words.specs.inside.Given.{first_value, is_used, number_given, terms_of, terms_given, diagnose_by, diagnose_given, generate_by, generate_given, simulate_by, simulate_given, convert_by, convert_given, ask_by, ask_given, fleet_by, fleet_given, predict_by, predict_given}
use Rattle.tfpg_words.specs.inside.Rows.{Holds, hyphened}

-- the first value of an option is that of its first use
first_filtered : (name : Word) (uses : List Use) → slice_get (map (λ (u : Use). u.value) (filter (λ u. bytes_eq u.name name) uses)) 0
    ≡ option_map (λ (u : Use). u.value) (use_of name uses)
first_filtered name [] = refl
first_filtered name (u ∷ uses) =
    elim (bytes_eq u.name name) as (λ b. slice_get (map (λ (v : Use). v.value) (cond b (u ∷ filter (λ v. bytes_eq v.name name) uses) (filter (λ v. bytes_eq v.name name) uses))) 0
    ≡ option_map (λ (v : Use). v.value) (cond b (Some u) (find (λ v. bytes_eq v.name name) uses)))
    [ true ↦ refl | false ↦ first_filtered name uses ]

-- a flag is used where it is counted
counted : (name : Word) (uses : List Use) → nat_lt 0 (min (count_by (λ used. bytes_eq used.name name) uses) 255) ≡ is_some (use_of name uses)
counted name [] = refl
counted name (u ∷ uses) =
    ap (λ n. nat_lt 0 (min n 255)) (sum_by-cons (λ (v : Use). cond (bytes_eq v.name name) 1 0) u uses)
    ∙ elim (bytes_eq u.name name) as (λ b. nat_lt 0 (min (cond b 1 0 + count_by (λ v. bytes_eq v.name name) uses) 255)
    ≡ is_some (cond b (Some u) (find (λ v. bytes_eq v.name name) uses))) [
      | true ↦ lt-ltb 0 (min (1 + count_by (λ v. bytes_eq v.name name) uses) 255) (omega arith)
      | false ↦ ap (λ n. nat_lt 0 (min n 255)) (omega arith) ∙ counted name uses
    ]

-- the number by the value of the first use is the one by the uses
number_of_first : (option : NumberOption) (uses : List Use)
    → number_given option (option_map (λ (u : Use). u.value) (use_of option.name uses)) ≡ number_by option uses
number_of_first option uses = by (use_of option.name uses)
  where
    by : (used : Option Use) → number_given option (option_map (λ (u : Use). u.value) used)
        ≡ unwrap_or (option_map (λ (u : Use). within option.least option.limit (number_of u.value)) used) (Ok option.default)
    by None = refl
    by (Some used) = refl

module _ (form : Form) (rows : List Row) (said : Parts) (h : Holds form rows said) where
  number_is : (option : NumberOption) (name : Text) → option.name ≡ hyphened name → is_word_among form.options (hyphened name) ≡ true
      → number_given option (first_value name rows) ≡ number_by option said.uses
  number_is option name named is =
      ap (λ (values : List Word). number_given option (slice_get values 0)) (h.values name is)
      ∙ (ap (number_given option) (first_filtered (hyphened name) said.uses)
      ∙ (ap (λ (n : Word). number_given option (option_map (λ (u : Use). u.value) (use_of n said.uses))) (sym named) ∙ number_of_first option said.uses))

  -- so are the terms, where their options are among those of the form
  terms_is : is_word_among form.options k_option.name ≡ true → is_word_among form.options doubt_option.name ≡ true
      → is_word_among form.options budget_option.name ≡ true → terms_given rows ≡ terms_by said.uses
  terms_is k doubt budget =
      (λ i. terms_of (both (both (number_is k_option (codes "k") refl k i) (number_is doubt_option (codes "doubt") refl doubt i)) (number_is budget_option (codes "budget") refl budget i)))

  used_is : (name : Text) → is_word_among form.flags (hyphened name) ≡ true → is_used name rows ≡ is_some (use_of (hyphened name) said.uses)
  used_is name is = ap (λ n. nat_lt 0 n) (h.counts name is) ∙ counted (hyphened name) said.uses

-- what takes these options and flags
abbrev pub form_with : List Word → List Word → Form
form_with options flags = record { options = options; flags = flags }

-- the parts of the words by their form, with the rows that have them
abbrev pub Given : List Word → List Word → List Word → List Row → Type 0
Given options flags words rows =
    (said : Parts) × (parts_of_words (form_with options flags) words ≡ Some said) × Holds (form_with options flags) rows said

-- what the parts mean is what the words mean
module _ (options flags words : List Word) (means : List Use → List Word → Result Meant UsageCause) where
  by_parts : (said : Parts) → parts_of_words (form_with options flags) words ≡ Some said
      → means said.uses said.positional ≡ by_form options flags means words
  by_parts said is = ap (λ parts. and_then (ok_or parts BadWords) (λ (p : Parts). means p.uses p.positional)) (sym is)

diagnose_same : (uses : List Use) (words : List Word) → diagnose_by (terms_by uses) words ≡ diagnose_on uses words
diagnose_same uses [] = refl
diagnose_same uses (graph ∷ words) = refl

simulate_same : (uses : List Use) (words : List Word) → simulate_by (is_some (use_of (codes "--trace") uses)) (number_by draw_option uses) words ≡ simulate_on uses words
simulate_same uses [] = refl
simulate_same uses (graph ∷ []) = refl
simulate_same uses (graph ∷ script ∷ []) = refl
simulate_same uses (graph ∷ script ∷ word ∷ words) = refl

generate_same : (uses : List Use) (words : List Word) → generate_by (both (number_by draw_option uses) (number_by size_option uses)) words ≡ generate_on uses words
generate_same uses [] = refl
generate_same uses (word ∷ words) = refl

convert_same : (uses : List Use) (words : List Word) → convert_by (is_some (use_of (codes "--json") uses)) words ≡ convert_on uses words
convert_same uses [] = refl
convert_same uses (graph ∷ []) = refl
convert_same uses (graph ∷ word ∷ words) = refl

ask_same : (uses : List Use) (words : List Word) → ask_by (terms_by uses) words ≡ ask_on uses words
ask_same uses [] = refl
ask_same uses (graph ∷ []) = refl
ask_same uses (graph ∷ log ∷ []) = refl
ask_same uses (graph ∷ log ∷ word ∷ words) = refl

fleet_same : (uses : List Use) (words : List Word) → fleet_by (terms_by uses) words ≡ fleet_on uses words
fleet_same uses [] = refl
fleet_same uses (graph ∷ []) = refl
fleet_same uses (graph ∷ names ∷ []) = refl
fleet_same uses (graph ∷ names ∷ word ∷ words) = refl

predict_same : (uses : List Use) (words : List Word) → predict_by (both (terms_by uses) (number_by ahead_option uses)) words ≡ predict_on uses words
predict_same uses [] = refl
predict_same uses (graph ∷ []) = refl
predict_same uses (graph ∷ log ∷ []) = refl
predict_same uses (graph ∷ log ∷ node ∷ []) = refl
predict_same uses (graph ∷ log ∷ node ∷ word ∷ words) = refl

pub diagnose_is : (words : List Word) (rows : List Row) → Given terms_options [] words rows
    → diagnose_given rows ≡ by_form terms_options [] diagnose_on words
diagnose_is words rows (said, is, h) =
    (λ i. diagnose_by (terms_is (form_with terms_options []) rows said h refl refl refl i) (h.words i))
    ∙ (diagnose_same said.uses said.positional ∙ by_parts terms_options [] words diagnose_on said is)

pub simulate_is : (words : List Word) (rows : List Row) → Given (draw_option.name ∷ []) (codes "--trace" ∷ []) words rows
    → simulate_given rows ≡ by_form (draw_option.name ∷ []) (codes "--trace" ∷ []) simulate_on words
simulate_is words rows (said, is, h) =
    (λ i. simulate_by (used_is (form_with (draw_option.name ∷ []) (codes "--trace" ∷ [])) rows said h (codes "trace") refl i)
    (number_is (form_with (draw_option.name ∷ []) (codes "--trace" ∷ [])) rows said h draw_option (codes "draw") refl refl i) (h.words i))
    ∙ (simulate_same said.uses said.positional ∙ by_parts (draw_option.name ∷ []) (codes "--trace" ∷ []) words simulate_on said is)

pub generate_is : (words : List Word) (rows : List Row) → Given (draw_option.name ∷ size_option.name ∷ []) [] words rows
    → generate_given rows ≡ by_form (draw_option.name ∷ size_option.name ∷ []) [] generate_on words
generate_is words rows (said, is, h) =
    (λ i. generate_by (both (number_is (form_with (draw_option.name ∷ size_option.name ∷ []) []) rows said h draw_option (codes "draw") refl refl i)
    (number_is (form_with (draw_option.name ∷ size_option.name ∷ []) []) rows said h size_option (codes "size") refl refl i)) (h.words i))
    ∙ (generate_same said.uses said.positional ∙ by_parts (draw_option.name ∷ size_option.name ∷ []) [] words generate_on said is)

pub convert_is : (words : List Word) (rows : List Row) → Given [] (codes "--json" ∷ []) words rows
    → convert_given rows ≡ by_form [] (codes "--json" ∷ []) convert_on words
convert_is words rows (said, is, h) =
    (λ i. convert_by (used_is (form_with [] (codes "--json" ∷ [])) rows said h (codes "json") refl i) (h.words i))
    ∙ (convert_same said.uses said.positional ∙ by_parts [] (codes "--json" ∷ []) words convert_on said is)

pub ask_is : (words : List Word) (rows : List Row) → Given terms_options [] words rows
    → ask_given rows ≡ by_form terms_options [] ask_on words
ask_is words rows (said, is, h) =
    (λ i. ask_by (terms_is (form_with terms_options []) rows said h refl refl refl i) (h.words i))
    ∙ (ask_same said.uses said.positional ∙ by_parts terms_options [] words ask_on said is)

pub fleet_is : (words : List Word) (rows : List Row) → Given terms_options [] words rows
    → fleet_given rows ≡ by_form terms_options [] fleet_on words
fleet_is words rows (said, is, h) =
    (λ i. fleet_by (terms_is (form_with terms_options []) rows said h refl refl refl i) (h.words i))
    ∙ (fleet_same said.uses said.positional ∙ by_parts terms_options [] words fleet_on said is)

pub predict_is : (words : List Word) (rows : List Row) → Given (terms_options ++ ahead_option.name ∷ []) [] words rows
    → predict_given rows ≡ by_form (terms_options ++ ahead_option.name ∷ []) [] predict_on words
predict_is words rows (said, is, h) =
    (λ i. predict_by (both (terms_is (form_with (terms_options ++ ahead_option.name ∷ []) []) rows said h refl refl refl i)
    (number_is (form_with (terms_options ++ ahead_option.name ∷ []) []) rows said h ahead_option (codes "ahead") refl refl i)) (h.words i))
    ∙ (predict_same said.uses said.positional ∙ by_parts (terms_options ++ ahead_option.name ∷ []) [] words predict_on said is)
