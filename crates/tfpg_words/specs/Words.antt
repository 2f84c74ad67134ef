-- How the words after a command come apart: uses of options and flags, and positional words.
use Rattle.std.specs.Prelude.{ℕ, ◌+◌, ◌==◌, Bool, false, List, [], ◌∷◌, ◌++◌, Option, Some, None}
use Rattle.std.specs.Prelude.{bytes_eq, codes, count_by, drop, if◌then◌else◌, nat_le, option_and_then, option_map, take}
use Rattle.std.specs.Bool.{then_some}
use Rattle.std.specs.List.{list_all, list_any, position}

-- a word of the command line, by its bytes
abbrev pub Word : Type 0
Word = List ℕ

-- The names of the options and of the flags that a command takes.
pub record Form : Type 0 where
  pub options : List Word
  pub flags : List Word

-- A word that begins with a hyphen and has another byte is an option word. The hyphen alone is a word like any other.
abbrev pub is_option_word : Word → Bool
is_option_word (first ∷ second ∷ others) = first == 45
is_option_word _ = false

-- What stands before and after the first `=` of a word, where it has one.
abbrev pub cut_at_equals : Word → Option (Word × Word)
cut_at_equals word = option_map (λ index. (take index word, drop (index + 1) word)) (position (λ byte. byte == 61) word)

-- the word is one of these names
abbrev pub is_word_among : List Word → Word → Bool
is_word_among names word = list_any (λ name. bytes_eq name word) names

-- What the next word may be: any word, the value of this option, or a positional word alone.
pub data Next : Type 0 where
  Any : Next
  ValueOf : (option : Word) → Next
  OnlyPositional : Next

-- What one word is: the first `--`, a positional word, the use of an option or a flag (a flag has the empty value), an
-- option that waits for its value, or nothing that the command takes.
pub data WordUse : Type 0 where
  Divider : WordUse
  Positional : (word : Word) → WordUse
  Used : (name value : Word) → WordUse
  Waits : (option : Word) → WordUse
  Wrong : WordUse

-- an option word with `=`, cut there, and one without
abbrev pub option_turn : Form → Word → Option (Word × Word) → WordUse
option_turn form word (Some (name, value)) = if is_word_among form.options name then Used name value else Wrong
option_turn form word None =
    if is_word_among form.options word then Waits word else (if is_word_among form.flags word then Used word [] else Wrong)

-- what the word is, by what the next word may be
abbrev pub use_of_word : Form → Next → Word → WordUse
use_of_word form OnlyPositional word = Positional word
use_of_word form (ValueOf option) word = if is_option_word word then Wrong else Used option word
use_of_word form Any word =
    if is_option_word word
    then (if bytes_eq word (codes "--") then Divider else option_turn form word (cut_at_equals word))
    else Positional word

-- The use of an option or a flag, with its value.
pub record Use : Type 0 where
  pub name : Word
  pub value : Word

-- The uses of options and flags, and the positional words, in their order.
pub record Parts : Type 0 where
  pub uses : List Use
  pub positional : List Word

-- the parts with one more use before the others
abbrev pub with_use : Word → Word → Parts → Parts
with_use name value parts = record parts { uses = (record { name = name; value = value }) ∷ parts.uses }

-- the parts with one more positional word before the others
abbrev pub with_positional : Word → Parts → Parts
with_positional word parts = record parts { positional = word ∷ parts.positional }

-- the parts of a word and of the words after it, by what those are
abbrev pub after_turn : Next → WordUse → (Next → Option Parts) → Option Parts
after_turn next Divider others = others OnlyPositional
after_turn next (Positional word) others = option_map (with_positional word) (others next)
after_turn next (Used name value) others = option_map (with_use name value) (others Any)
after_turn next (Waits option) others = others (ValueOf option)
after_turn next Wrong others = None

-- The parts of the words, where each word has its place, and no option lacks its value.
abbrev pub parts_from : Form → List Word → Next → Option Parts
parts_from form [] (ValueOf option) = None
parts_from form [] _ = Some (record { uses = []; positional = [] })
parts_from form (word ∷ words) next = after_turn next (use_of_word form next word) (parts_from form words)

-- no option and no flag is used twice
abbrev pub are_once : Form → List Use → Bool
are_once form uses =
    list_all (λ name. nat_le (count_by (λ used. bytes_eq used.name name) uses) 1) (form.options ++ form.flags)

-- The parts of the words after a command, where they are of its form and no option and no flag is used twice.
abbrev pub parts_of_words : Form → List Word → Option Parts
parts_of_words form words =
    option_and_then (λ parts. then_some (are_once form parts.uses) parts) (parts_from form words Any)
