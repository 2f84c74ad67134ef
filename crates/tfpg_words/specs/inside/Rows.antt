-- What the rows of a parse by clap say, beside the parts of the words.
use Rattle.std.specs.Prelude.{◌≡◌, true, List, [], ◌∷◌, ◌++◌, map, min, Some, bytes_eq, count_by, filter, unwrap_or}
use Rattle.clap.specs.Walk.{Row, Rule, Text, all_of, count_of}
use Rattle.clap.specs.Simple.{App, built, new_rule, new_shape}
use Rattle.clap.specs.Faults.{is_simple_and_free}
use Rattle.clap.specs.declared.builder.action.ArgAction.TheVariants.{Append, Count}
use Rattle.std.specs.Prelude.{codes}
use Rattle.tfpg_words.specs.Words.{Form, Parts, Use, Word, is_word_among}
use Rattle.tfpg_words.specs.inside.Rules.{flag_rule, option_rule, shape_with, words_id, words_rule}

abbrev pub hyphened : Text → Word
hyphened name = 45 ∷ 45 ∷ name

-- the values of an argument, of all its uses
abbrev pub vals : Text → List Row → List Text
vals id rows = unwrap_or (all_of id rows) []

abbrev pub values_of : Word → List Use → List Word
values_of name uses = map (λ used. used.value) (filter (λ used. bytes_eq used.name name) uses)

-- the parts of no word
abbrev pub no_parts : Parts
no_parts = record { uses = []; positional = [] }

-- the rows have the parts
pub record Holds (form : Form) (rows : List Row) (parts : Parts) : Type 0 where
  pub values : (name : Text) → is_word_among form.options (hyphened name) ≡ true
      → vals name rows ≡ values_of (hyphened name) parts.uses
  pub counts : (name : Text) → is_word_among form.flags (hyphened name) ≡ true
      → count_of name rows ≡ min (count_by (λ used. bytes_eq used.name (hyphened name)) parts.uses) 255
  pub words : vals words_id rows ≡ parts.positional

-- names of options, names of flags, and the positional words are apart
pub record Apart (form : Form) : Type 0 where
  pub kinds : (name : Text) → is_word_among form.options (hyphened name) ≡ true
      → is_word_among form.flags (hyphened name) ≡ true → ⊥
  pub no_option : is_word_among form.options (hyphened words_id) ≡ true → ⊥
  pub no_flag : is_word_among form.flags (hyphened words_id) ≡ true → ⊥

abbrev pub joined_to : Parts → Parts → Parts
joined_to parts more = record { uses = parts.uses ++ more.uses; positional = parts.positional ++ more.positional }

abbrev pub rules_for : List Text → List Text → List Rule
rules_for options flags = map option_rule options ++ (map flag_rule flags ++ words_rule ∷ [])

abbrev pub form_for : List Text → List Text → Form
form_for options flags = record { options = map hyphened options; flags = map hyphened flags }

-- a command of a form, as it is built
abbrev pub built_for : List Text → List Text → App
built_for options flags = record { top = shape_with (rules_for options flags); subs = [] }

-- each of these names is among the words, with its hyphens
abbrev pub AllAmong : List Word → List Text → Type 0
AllAmong words [] = Unit {0}
AllAmong words (name ∷ names) = (is_word_among words (hyphened name) ≡ true) × AllAmong words names

abbrev pub option_arg : Text → Rule
option_arg name = record (new_rule name) { long = Some name; action = Some Append }

abbrev pub flag_arg : Text → Rule
flag_arg name = record (new_rule name) { long = Some name; action = Some Count }

abbrev pub words_arg : Rule
words_arg = record (new_rule words_id) { action = Some Append }

abbrev pub app_with : List Rule → App
app_with rules = record {
  top = record (new_shape (codes "tfpg")) {
    rules = rules;
    no_binary_name = true;
    disable_help_flag = true;
    disable_version_flag = true;
  };
  subs = [];
}

-- the command of a form
abbrev pub app_for : List Text → List Text → App
app_for options flags = app_with ((map option_arg options ++ map flag_arg flags) ++ words_arg ∷ [])

-- what is asked of the names of a form
pub record IsFormed (options flags : List Text) : Type 0 where
  pub apart : Apart (form_for options flags)
  pub options_in : AllAmong (map hyphened options) options
  pub flags_in : AllAmong (map hyphened flags) flags
  pub simple : is_simple_and_free (app_for options flags) ≡ true
  pub builds : built (app_for options flags) ≡ built_for options flags
