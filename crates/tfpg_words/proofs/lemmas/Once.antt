-- That no option and no flag is used twice, by the rows of a parse and by the parts of the words.
use Rattle.std.proofs.Common.{◌≡◌, ◌∙◌, ◌&&◌, ap, ap₂, refl, sym, ℕ, Bool, true, false, List, [], ◌∷◌, length, map, Option, Some, None, bytes_eq, nat_le, arith}
use Rattle.std.specs.Prelude.{count_by, filter, option_and_then}
use Rattle.std.specs.Bool.{then_some}
use Rattle.std.specs.List.{list_all}
use Rattle.std.specs.Borrow.{Bor}
use Rattle.std.proofs.lemmas.List.{length-map}
use Rattle.std.proofs.lemmas.List.Sums.{length-filter}
use Rattle.std.proofs.lemmas.List.Folds.{list_all-map, list_all-append}
use Rattle.tfpg_base.proofs.lemmas.lists.Sequences.{nat_le-min}
use Rattle.clap.specs.Walk.{Row, Text, count_of}
use Rattle.tfpg_words.specs.declared.form.Form.{Form as CodeForm}
use Rattle.tfpg_words.specs.Words.{Form, Parts, Use, Word, are_once}
use Rattle.tfpg_words.specs.inside.Given.{once_given}
use Rattle.tfpg_words.specs.inside.Parts.{flags_in, options_in}
use Rattle.tfpg_words.specs.inside.Rows.{AllAmong, Holds, form_for, hyphened, vals, values_of}

-- the parts, where no option and no flag is used twice
abbrev once : Form → Option Parts → Option Parts
once form parts = option_and_then (λ said. then_some (are_once form said.uses) said) parts

-- how often a name is used
abbrev uses_of : Word → List Use → ℕ
uses_of name uses = count_by (λ used. bytes_eq used.name name) uses

abbrev names_once : List Use → List Word → Bool
names_once uses names = list_all (λ name. nat_le (uses_of name uses) 1) names

value_count : (name : Word) (uses : List Use) → length (values_of name uses) ≡ uses_of name uses
value_count name uses =
    length-map (filter (λ used. bytes_eq used.name name) uses) (λ used. used.value) ∙ length-filter (λ (used : Use). bytes_eq used.name name) uses

module _ (form : Form) (rows : List Row) (said : Parts) (h : Holds form rows said) where
  options_once : (names : List Text) → AllAmong form.options names
      → list_all (λ name. nat_le (length (vals name rows)) 1) names ≡ names_once said.uses (map hyphened names)
  options_once [] all = refl
  options_once (n ∷ names) all =
      ap₂ (λ (a b : Bool). a && b)
      (ap (λ k. nat_le k 1) (ap length (h.values n all.0) ∙ value_count (hyphened n) said.uses))
      (options_once names all.1)

  flags_once : (names : List Text) → AllAmong form.flags names
      → list_all (λ name. nat_le (count_of name rows) 1) names ≡ names_once said.uses (map hyphened names)
  flags_once [] all = refl
  flags_once (n ∷ names) all =
      ap₂ (λ (a b : Bool). a && b)
      (ap (λ k. nat_le k 1) (h.counts n all.0) ∙ nat_le-min (uses_of (hyphened n) said.uses) 255 1 (omega arith))
      (flags_once names all.1)

module _ (options flags : List Text) (among_options : AllAmong (map hyphened options) options) (among_flags : AllAmong (map hyphened flags) flags) where
  -- the rows say it of the parts
  pub once_is : (rows : List Row) (said : Parts) → Holds (form_for options flags) rows said
      → once_given options flags rows ≡ are_once (form_for options flags) said.uses
  once_is rows said h =
      ap₂ (λ (a b : Bool). a && b) (options_once (form_for options flags) rows said h options among_options) (flags_once (form_for options flags) rows said h flags among_flags)
      ∙ sym (list_all-append (λ name. nat_le (uses_of name said.uses) 1) (map hyphened options) (map hyphened flags))

  -- parts that are used once, and parts that are not
  pub kept : (parts : Option Parts) (rows : List Row) (b : Bool) → b ≡ once_given options flags rows → b ≡ true
      → (said : Parts) × (parts ≡ Some said) × Holds (form_for options flags) rows said
      → (said : Parts) × (once (form_for options flags) parts ≡ Some said) × Holds (form_for options flags) rows said
  kept parts rows b is on h =
      let all : are_once (form_for options flags) h.0.uses ≡ true = sym (once_is rows h.0 h.2) ∙ (sym is ∙ on) in
      (h.0, ap (once (form_for options flags)) h.1 ∙ (λ i. then_some (all i) h.0), h.2)

  pub repeated : (parts : Option Parts) (rows : List Row) (b : Bool) → b ≡ once_given options flags rows → b ≡ false
      → (said : Parts) × (parts ≡ Some said) × Holds (form_for options flags) rows said
      → once (form_for options flags) parts ≡ None
  repeated parts rows b is off h =
      let some : are_once (form_for options flags) h.0.uses ≡ false = sym (once_is rows h.0 h.2) ∙ (sym is ∙ off) in
      ap (once (form_for options flags)) h.1 ∙ (λ i. then_some (some i) h.0)

-- ---- over the code's form

module _ (form : CodeForm) (rows : List Row) (options flags : Bool) where
  pub once_then : options ≡ list_all (λ name. nat_le (length (vals name.now rows)) 1) form.options.now → options ≡ true
      → flags ≡ list_all (λ name. nat_le (count_of name.now rows) 1) form.flags.now
      → flags ≡ once_given (options_in form) (flags_in form) rows
  once_then first is second =
      second ∙ sym (list_all-map (λ name. nat_le (count_of name rows) 1) (λ (name : Bor Text). name.now) form.flags.now)
      ∙ ap (λ a. a && list_all (λ name. nat_le (count_of name rows) 1) (flags_in form)) (sym is ∙ first ∙ sym (list_all-map (λ name. nat_le (length (vals name rows)) 1) (λ (name : Bor Text). name.now) form.options.now))

  pub once_else : options ≡ list_all (λ name. nat_le (length (vals name.now rows)) 1) form.options.now → options ≡ false
      → options ≡ once_given (options_in form) (flags_in form) rows
  once_else first is =
      is ∙ ap (λ a. a && list_all (λ name. nat_le (count_of name rows) 1) (flags_in form)) (sym is ∙ first ∙ sym (list_all-map (λ name. nat_le (length (vals name rows)) 1) (λ (name : Bor Text). name.now) form.options.now))
