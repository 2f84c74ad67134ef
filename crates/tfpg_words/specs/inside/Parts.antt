-- How contracts inside the crate see the code's values.
use Rattle.std.specs.Prelude.{◌≡◌, List, [], map, Option, Some, None, Result, Ok, Err, option_map, unwrap_or}
use Rattle.std.specs.Borrow.{Bor}
use Rattle.clap.specs.Walk.{Row, Text, rows_of}
use Rattle.clap.specs.Matches.{found_of}
use Rattle.clap.specs.Simple.{App, matches_of}
use Rattle.clap.specs.Faults.{fault_of}
use Rattle.clap.specs.declared.parser.matches.ArgMatches.{ArgMatches}
use Rattle.tfpg_words.specs.declared.usage_cause.UsageCause.TheVariants.{BadWords}
use Rattle.tfpg_words.specs.declared.plan_fault.PlanFault.{PlanFault}
use Rattle.tfpg_words.specs.declared.plan_fault.PlanFault.TheVariants as fault
use Rattle.tfpg_words.specs.declared.form.Form.{Form as CodeForm}
use Rattle.tfpg_words.specs.declared.parts.Parts.{Parts as CodeParts}
use Rattle.tfpg_words.specs.Words.{Form, Parts}
use Rattle.tfpg_words.specs.inside.Rows.{Holds, form_for}

abbrev pub options_in : CodeForm → List Text
options_in form = map (λ name. name.now) form.options.now

abbrev pub flags_in : CodeForm → List Text
flags_in form = map (λ name. name.now) form.flags.now

abbrev pub form_in : CodeForm → Form
form_in form = form_for (options_in form) (flags_in form)

abbrev pub rows_in : CodeParts → List Row
rows_in parts = rows_of (found_of parts.matches)

-- the texts that a look-up finds
abbrev pub texts_in : Option (Bor (List (Bor Text))) → List Text
texts_in found = unwrap_or (option_map (λ texts. map (λ text. text.now) texts.now) found) []

-- A parse has the rows of the words, or a fault of the words stands against it.
abbrev pub Parses : App → List Text → Result ArgMatches PlanFault → Type 0
Parses app words (Ok matches) = (fault_of app words ≡ []) × (rows_of (found_of matches) ≡ matches_of app words)
Parses app words (Err (fault.Usage cause)) = (cause ≡ BadWords) × (fault_of app words ≡ [] → ⊥)
Parses app words (Err fault.NoMemory) = Unit {0}

-- The rows have the parts of the words, or the words have none.
abbrev pub TakesApart : Form → Option Parts → Result CodeParts PlanFault → Type 0
TakesApart form parts (Ok taken) = (said : Parts) × (parts ≡ Some said) × Holds form (rows_in taken) said
TakesApart form parts (Err (fault.Usage cause)) = (cause ≡ BadWords) × (parts ≡ None)
TakesApart form parts (Err fault.NoMemory) = Unit {0}
