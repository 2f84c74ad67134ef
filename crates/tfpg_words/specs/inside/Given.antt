-- What the rows of a parse mean for each command.
use Rattle.std.specs.List.{list_all}
use Rattle.std.specs.Prelude.{ℕ, ◌&&◌, length, nat_le, Bool, List, [], ◌∷◌, Option, Some, None, Result, Ok, Err, codes, nat_lt, if◌then◌else◌, slice_get, ok_or}
use Rattle.clap.specs.Walk.{Row, Text, count_of}
use Rattle.tfpg_base.specs.declared.terms.Terms.{Terms}
use Rattle.tfpg_base.specs.Words.{comma_parts, number_of}
use Rattle.tfpg_words.specs.declared.usage_cause.UsageCause.{UsageCause}
use Rattle.tfpg_words.specs.declared.usage_cause.UsageCause.TheVariants.{BadNames, BadPanel, BadWords}
use Rattle.tfpg_words.specs.declared.panel_word.PanelWord.{PanelWord}
use Rattle.tfpg_words.specs.Names.{are_names}
use Rattle.tfpg_words.specs.PanelWords.{panels_named}
use Rattle.tfpg_words.specs.Words.{Word}
use Rattle.tfpg_words.specs.Meaning.{Diagnose, Simulate, Generate, Convert, Ask, Fleet, Predict, Meant, NumberOption, alone, and_then, both, within, k_option, doubt_option, budget_option, ahead_option, draw_option, size_option, two_files_on, Explain, Check}
use Rattle.tfpg_words.specs.inside.Rules.{words_id}
use Rattle.tfpg_words.specs.inside.Rows.{vals}

-- the first value of an option
abbrev pub first_value : Text → List Row → Option Word
first_value name rows = slice_get (vals name rows) 0

abbrev pub is_used : Text → List Row → Bool
is_used flag rows = nat_lt 0 (count_of flag rows)

-- the number of an option, by its first value
abbrev pub number_given : NumberOption → Option Word → Result ℕ UsageCause
number_given option None = Ok option.default
number_given option (Some value) = within option.least option.limit (number_of value)

-- the numbers of the terms of a diagnosis
abbrev pub numbers_given : List Row → Result ((ℕ × ℕ) × ℕ) UsageCause
numbers_given rows =
    both
    (both (number_given k_option (first_value (codes "k") rows))
    (number_given doubt_option (first_value (codes "doubt") rows)))
    (number_given budget_option (first_value (codes "budget") rows))

-- the terms of these numbers
abbrev pub terms_of : Result ((ℕ × ℕ) × ℕ) UsageCause → Result Terms UsageCause
terms_of numbers = and_then numbers (λ three. Ok (record { k = three.0.0; doubt = three.0.1; budget = three.1 }))

-- the terms of a diagnosis
abbrev pub terms_given : List Row → Result Terms UsageCause
terms_given rows = terms_of (numbers_given rows)

-- a diagnosis on these terms, with the panels that are named
abbrev pub diagnose_to : Terms → Word → Option (List PanelWord) → Result Meant UsageCause
diagnose_to terms graph named =
    and_then (ok_or named BadPanel) (λ panels. Ok (record { command = Diagnose terms graph; panels = panels }))

abbrev pub diagnose_by : Result Terms UsageCause → List Word → Result Meant UsageCause
diagnose_by terms [] = Err BadWords
diagnose_by terms (graph ∷ words) = and_then terms (λ found. diagnose_to found graph (panels_named words))

abbrev pub diagnose_given : List Row → Result Meant UsageCause
diagnose_given rows = diagnose_by (terms_given rows) (vals words_id rows)

abbrev pub explain_given : List Row → Result Meant UsageCause
explain_given rows = two_files_on Explain [] (vals words_id rows)

abbrev pub check_given : List Row → Result Meant UsageCause
check_given rows = two_files_on Check [] (vals words_id rows)

abbrev pub simulate_by : Bool → Result ℕ UsageCause → List Word → Result Meant UsageCause
simulate_by trace draw (graph ∷ script ∷ []) = and_then draw (λ number. alone (Simulate number trace graph script))
simulate_by trace draw _ = Err BadWords

abbrev pub simulate_given : List Row → Result Meant UsageCause
simulate_given rows =
    simulate_by (is_used (codes "trace") rows)
    (number_given draw_option (first_value (codes "draw") rows)) (vals words_id rows)

abbrev pub generate_by : Result (ℕ × ℕ) UsageCause → List Word → Result Meant UsageCause
generate_by numbers [] = and_then numbers (λ two. alone (Generate two.0 two.1))
generate_by numbers _ = Err BadWords

abbrev pub generate_given : List Row → Result Meant UsageCause
generate_given rows =
    generate_by
    (both (number_given draw_option (first_value (codes "draw") rows))
    (number_given size_option (first_value (codes "size") rows)))
    (vals words_id rows)

abbrev pub convert_by : Bool → List Word → Result Meant UsageCause
convert_by json (graph ∷ []) = alone (Convert json graph)
convert_by json _ = Err BadWords

abbrev pub convert_given : List Row → Result Meant UsageCause
convert_given rows = convert_by (is_used (codes "json") rows) (vals words_id rows)

abbrev pub ask_by : Result Terms UsageCause → List Word → Result Meant UsageCause
ask_by terms (graph ∷ log ∷ []) = and_then terms (λ found. alone (Ask found graph log))
ask_by terms _ = Err BadWords

abbrev pub ask_given : List Row → Result Meant UsageCause
ask_given rows = ask_by (terms_given rows) (vals words_id rows)

-- a fleet on these terms, where the names pass
abbrev pub fleet_to : Terms → Word → List Word → Result Meant UsageCause
fleet_to terms graph names = if are_names names then alone (Fleet terms graph names) else Err BadNames

abbrev pub fleet_by : Result Terms UsageCause → List Word → Result Meant UsageCause
fleet_by terms (graph ∷ names ∷ []) = and_then terms (λ found. fleet_to found graph (comma_parts names))
fleet_by terms _ = Err BadWords

abbrev pub fleet_given : List Row → Result Meant UsageCause
fleet_given rows = fleet_by (terms_given rows) (vals words_id rows)

abbrev pub predict_by : Result (Terms × ℕ) UsageCause → List Word → Result Meant UsageCause
predict_by values (graph ∷ log ∷ node ∷ []) = and_then values (λ two. alone (Predict two.0 two.1 graph log node))
predict_by values _ = Err BadWords

abbrev pub predict_given : List Row → Result Meant UsageCause
predict_given rows =
    predict_by (both (terms_given rows) (number_given ahead_option (first_value (codes "ahead") rows))) (vals words_id rows)

-- no option has two values, and no flag two uses
abbrev pub once_given : List Text → List Text → List Row → Bool
once_given options flags rows =
    list_all (λ name. nat_le (length (vals name rows)) 1) options
    && list_all (λ name. nat_le (count_of name rows) 1) flags
