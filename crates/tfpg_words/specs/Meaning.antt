-- What the words of a command line mean: a command with its values and the panels, or the first cause by which they are refused.
use Rattle.std.specs.Prelude.{ℕ, ◌&&◌, Bool, List, [], ◌∷◌, ◌++◌, Option, Some, None, Result, Ok, Err}
use Rattle.std.specs.Prelude.{bytes_eq, codes, if◌then◌else◌, is_some, nat_le, find, ok_or, option_map, unwrap_or}
use Rattle.tfpg_base.specs.declared.terms.Terms.{Terms}
use Rattle.tfpg_base.specs.Words.{comma_parts, number_of}
use Rattle.tfpg_base.specs.declared.limits.TheConstants.{MAX_K, MAX_DOUBT, MAX_BUDGET, MAX_CASE_SIZE, MAX_TIME}
use Rattle.tfpg_words.specs.declared.limits.TheConstants.{MAX_DRAW, DEFAULT_K, DEFAULT_DOUBT, DEFAULT_BUDGET, DEFAULT_DRAW, DEFAULT_SIZE, DEFAULT_AHEAD}
use Rattle.tfpg_words.specs.declared.usage_cause.UsageCause.{UsageCause}
use Rattle.tfpg_words.specs.declared.usage_cause.UsageCause.TheVariants.{NoCommand, UnknownCommand, BadWords, BadNumber, OutOfRange, BadPanel, BadNames}
use Rattle.tfpg_words.specs.declared.panel_word.PanelWord.{PanelWord}
use Rattle.tfpg_words.specs.Names.{are_names}
use Rattle.tfpg_words.specs.Words.{Use, Word, parts_of_words}
use Rattle.tfpg_words.specs.PanelWords.{panels_named}

-- What a command asks for.
pub data Meaning : Type 0 where
  Diagnose : (terms : Terms) (graph : Word) → Meaning
  Explain : (graph log : Word) → Meaning
  Check : (graph log : Word) → Meaning
  Simulate : (draw : ℕ) (trace : Bool) (graph script : Word) → Meaning
  Generate : (draw size : ℕ) → Meaning
  Convert : (json : Bool) (graph : Word) → Meaning
  Ask : (terms : Terms) (graph log : Word) → Meaning
  Fleet : (terms : Terms) (graph : Word) (names : List Word) → Meaning
  Predict : (terms : Terms) (ahead : ℕ) (graph log node : Word) → Meaning

-- What words mean: what their command asks for, and the panels that they name.
pub record Meant : Type 0 where
  pub command : Meaning
  pub panels : List PanelWord

-- what words mean that name no panels: their command alone
abbrev pub alone : Meaning → Result Meant UsageCause
alone command = Ok (record { command = command; panels = [] })

-- The next step with a value. A value that is refused has no next step: its cause stays.
abbrev pub and_then : {A B : Type 0} → Result A UsageCause → (A → Result B UsageCause) → Result B UsageCause
and_then (Ok value) next = next value
and_then (Err cause) next = Err cause

-- The first use of this name.
abbrev pub use_of : Word → List Use → Option Use
use_of name uses = find (λ used. bytes_eq used.name name) uses

-- A number from `least` to `limit`, or why there is none.
abbrev pub within : ℕ → ℕ → Option ℕ → Result ℕ UsageCause
within least limit None = Err BadNumber
within least limit (Some number) = if nat_le least number && nat_le number limit then Ok number else Err OutOfRange

-- An option whose value is a number: its name, its limits, and what it is where it is not used.
pub record NumberOption : Type 0 where
  pub name : Word
  pub least : ℕ
  pub limit : ℕ
  pub default : ℕ

-- The number of an option by the uses: that of its first use, and its default where it is not used.
abbrev pub number_by : NumberOption → List Use → Result ℕ UsageCause
number_by option uses =
    unwrap_or (option_map (λ used. within option.least option.limit (number_of used.value)) (use_of option.name uses))
    (Ok option.default)

-- Of two causes that refuse a number the one that wins: a word that is no number comes before a number out of its limits.
abbrev pub winning_cause : UsageCause → UsageCause → UsageCause
winning_cause BadNumber other = BadNumber
winning_cause cause other = other

-- Two values, or the first cause by which one of them is refused.
abbrev pub both : {A B : Type 0} → Result A UsageCause → Result B UsageCause → Result (A × B) UsageCause
both (Ok first) (Ok second) = Ok (first, second)
both (Ok first) (Err cause) = Err cause
both (Err cause) (Ok second) = Err cause
both (Err cause) (Err other) = Err (winning_cause cause other)

-- `--k N`: the greatest number of members of a hypothesis: failure modes, and monitors that it doubts
abbrev pub k_option : NumberOption
k_option = record { name = codes "--k"; least = 0; limit = MAX_K; default = DEFAULT_K }

-- `--doubt N`: the greatest number of monitors that a hypothesis doubts
abbrev pub doubt_option : NumberOption
doubt_option = record { name = codes "--doubt"; least = 0; limit = MAX_DOUBT; default = DEFAULT_DOUBT }

-- `--budget N`: the greatest number of splits of a hypothesis in a round
abbrev pub budget_option : NumberOption
budget_option = record { name = codes "--budget"; least = 1; limit = MAX_BUDGET; default = DEFAULT_BUDGET }

-- `--ahead N`: how many milliseconds past the last event are looked ahead
abbrev pub ahead_option : NumberOption
ahead_option = record { name = codes "--ahead"; least = 0; limit = MAX_TIME; default = DEFAULT_AHEAD }

-- `--draw N`: the number of a draw
abbrev pub draw_option : NumberOption
draw_option = record { name = codes "--draw"; least = 0; limit = MAX_DRAW; default = DEFAULT_DRAW }

-- `--size N`: the size of a generated case
abbrev pub size_option : NumberOption
size_option = record { name = codes "--size"; least = 1; limit = MAX_CASE_SIZE; default = DEFAULT_SIZE }

-- the names of the options for the terms of a diagnosis
abbrev pub terms_options : List Word
terms_options = k_option.name ∷ doubt_option.name ∷ budget_option.name ∷ []

-- the terms of a diagnosis, by the uses
abbrev pub terms_by : List Use → Result Terms UsageCause
terms_by uses =
    and_then (both (both (number_by k_option uses) (number_by doubt_option uses)) (number_by budget_option uses))
    (λ numbers. Ok (record { k = numbers.0.0; doubt = numbers.0.1; budget = numbers.1 }))

-- What the uses and the positional words mean in `diagnose [--k N] [--doubt N] [--budget N] GRAPH [PANEL]..`.
abbrev pub diagnose_on : List Use → List Word → Result Meant UsageCause
diagnose_on uses [] = Err BadWords
diagnose_on uses (graph ∷ words) =
    and_then (terms_by uses) (λ terms. and_then (ok_or (panels_named words) BadPanel)
    (λ panels. Ok (record { command = Diagnose terms graph; panels = panels })))

-- The same in `explain GRAPH LOG` and in `check GRAPH LOG`, each of which asks for this of two files.
abbrev pub two_files_on : (Word → Word → Meaning) → List Use → List Word → Result Meant UsageCause
two_files_on asks uses (graph ∷ log ∷ []) = alone (asks graph log)
two_files_on asks uses _ = Err BadWords

-- The same in `simulate [--draw N] [--trace] GRAPH SCRIPT`.
abbrev pub simulate_on : List Use → List Word → Result Meant UsageCause
simulate_on uses (graph ∷ script ∷ []) =
    and_then (number_by draw_option uses)
    (λ draw. alone (Simulate draw (is_some (use_of (codes "--trace") uses)) graph script))
simulate_on uses _ = Err BadWords

-- The same in `generate [--draw N] [--size N]`.
abbrev pub generate_on : List Use → List Word → Result Meant UsageCause
generate_on uses [] =
    and_then (both (number_by draw_option uses) (number_by size_option uses)) (λ numbers. alone (Generate numbers.0 numbers.1))
generate_on uses _ = Err BadWords

-- The same in `convert [--json] GRAPH`.
abbrev pub convert_on : List Use → List Word → Result Meant UsageCause
convert_on uses (graph ∷ []) = alone (Convert (is_some (use_of (codes "--json") uses)) graph)
convert_on uses _ = Err BadWords

-- The same in `ask [--k N] [--doubt N] [--budget N] GRAPH LOG`.
abbrev pub ask_on : List Use → List Word → Result Meant UsageCause
ask_on uses (graph ∷ log ∷ []) = and_then (terms_by uses) (λ terms. alone (Ask terms graph log))
ask_on uses _ = Err BadWords

-- The same in `fleet [--k N] [--doubt N] [--budget N] GRAPH NAMES`, where NAMES has commas between the names.
abbrev pub fleet_on : List Use → List Word → Result Meant UsageCause
fleet_on uses (graph ∷ names ∷ []) =
    and_then (terms_by uses)
    (λ terms. if are_names (comma_parts names) then alone (Fleet terms graph (comma_parts names)) else Err BadNames)
fleet_on uses _ = Err BadWords

-- The same in `predict [--k N] [--doubt N] [--budget N] [--ahead N] GRAPH LOG NODE`.
abbrev pub predict_on : List Use → List Word → Result Meant UsageCause
predict_on uses (graph ∷ log ∷ node ∷ []) =
    and_then (both (terms_by uses) (number_by ahead_option uses)) (λ values. alone (Predict values.0 values.1 graph log node))
predict_on uses _ = Err BadWords

-- What words mean after a command that takes these options and flags: what their parts mean. Words without parts are bad.
abbrev pub by_form : List Word → List Word → (List Use → List Word → Result Meant UsageCause) → List Word → Result Meant UsageCause
by_form options flags means words =
    and_then (ok_or (parts_of_words (record { options = options; flags = flags }) words) BadWords)
    (λ parts. means parts.uses parts.positional)

-- What the words after a command mean: for each command its name, its options, its flags, and what the parts mean.
abbrev pub command_meaning : Word → List Word → Result Meant UsageCause
command_meaning command words =
    if bytes_eq command (codes "diagnose") then by_form terms_options [] diagnose_on words
    else (if bytes_eq command (codes "explain") then by_form [] [] (two_files_on Explain) words
    else (if bytes_eq command (codes "check") then by_form [] [] (two_files_on Check) words
    else (if bytes_eq command (codes "simulate") then by_form (draw_option.name ∷ []) (codes "--trace" ∷ []) simulate_on words
    else (if bytes_eq command (codes "generate") then by_form (draw_option.name ∷ size_option.name ∷ []) [] generate_on words
    else (if bytes_eq command (codes "convert") then by_form [] (codes "--json" ∷ []) convert_on words
    else (if bytes_eq command (codes "ask") then by_form terms_options [] ask_on words
    else (if bytes_eq command (codes "fleet") then by_form terms_options [] fleet_on words
    else (if bytes_eq command (codes "predict") then by_form (terms_options ++ ahead_option.name ∷ []) [] predict_on words
    else Err UnknownCommand))))))))

-- What the words after the program's name mean.
abbrev pub meant_by : List Word → Result Meant UsageCause
meant_by [] = Err NoCommand
meant_by (command ∷ words) = command_meaning command words

-- What the command of these words asks for.
abbrev pub meaning : List Word → Result Meaning UsageCause
meaning words = and_then (meant_by words) (λ meant. Ok meant.command)
