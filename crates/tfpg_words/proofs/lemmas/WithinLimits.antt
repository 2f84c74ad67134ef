-- The numbers of a meaning are within their limits.
use Rattle.std.proofs.Common.{◌≡◌, ℕ, ◌≤◌, Bool, true, false, List, [], ◌∷◌, ◌++◌, Option, Some, None, Result, Ok, Err, refl, sym, subst, option_map, arith}
use Rattle.std.specs.Prelude.{◌&&◌, ⊤, IfOk, bytes_eq, codes, if◌then◌else◌, nat_le, ok_or, unwrap_or}
use Rattle.std.proofs.lemmas.Bool.{and_parts, leb-true}
use Rattle.std.proofs.lemmas.Result.{IfOk-weaker}
use Rattle.clap.specs.Walk.{Row}
use Rattle.tfpg_base.specs.declared.limits.TheConstants.{MAX_DOUBT, MAX_K}
use Rattle.tfpg_base.specs.declared.terms.Terms.{Terms}
use Rattle.tfpg_base.specs.Words.{comma_parts, number_of}
use Rattle.tfpg_words.specs.declared.panel_word.PanelWord.{PanelWord}
use Rattle.tfpg_words.specs.declared.usage_cause.UsageCause.{UsageCause}
use Rattle.tfpg_words.specs.declared.usage_cause.UsageCause.TheVariants.{BadNames, BadWords, OutOfRange, UnknownCommand}
use Rattle.tfpg_words.specs.Meaning.{Meaning, Diagnose, Explain, Check, Simulate, Generate, Convert, Ask, Fleet, Predict, Meant, NumberOption, alone, and_then, ahead_option, ask_on, both, budget_option, by_form, command_meaning, convert_on, diagnose_on, doubt_option, draw_option, fleet_on, generate_on, k_option, meaning, number_by, predict_on, simulate_on, size_option, terms_by, terms_options, use_of, within, two_files_on}
use Rattle.tfpg_words.specs.Names.{AreNames, are_names}
use Rattle.tfpg_words.specs.PanelWords.{panels_named}
use Rattle.tfpg_words.specs.Words.{Parts, Use, Word, parts_of_words}
use Rattle.tfpg_words.specs.inside.Given.{diagnose_to, first_value, number_given, numbers_given}
use Rattle.tfpg_words.proofs.lemmas.NamesTested.{names_tested}

-- a number within the limits of an option
pub record IsInLimits (option : NumberOption) (number : ℕ) : Type 0 where
  pub low : option.least ≤ number
  pub high : number ≤ option.limit

-- the terms are within the limits of their options
abbrev pub AreTermsInLimits : Terms → Type 0
AreTermsInLimits terms = (IsInLimits k_option terms.k × IsInLimits doubt_option terms.doubt) × IsInLimits budget_option terms.budget

-- so is each number of the meaning, and its names are names
abbrev pub AreInLimits : Meaning → Type 0
AreInLimits (Diagnose terms graph) = AreTermsInLimits terms
AreInLimits (Explain graph log) = ⊤
AreInLimits (Check graph log) = ⊤
AreInLimits (Simulate draw trace graph script) = IsInLimits draw_option draw
AreInLimits (Generate draw size) = IsInLimits draw_option draw × IsInLimits size_option size
AreInLimits (Convert json graph) = ⊤
AreInLimits (Ask terms graph log) = AreTermsInLimits terms
AreInLimits (Fleet terms graph names) = AreTermsInLimits terms × AreNames names
AreInLimits (Predict terms ahead graph log node) = AreTermsInLimits terms × IsInLimits ahead_option ahead

-- ---- one number, and two

module _ (option : NumberOption) where
  value_within : (number : ℕ) (test : Bool) → (nat_le option.least number && nat_le number option.limit) ≡ test
      → IfOk (if test then Ok number else Err OutOfRange) (IsInLimits option)
  value_within number true is =
      let tests = and_parts (nat_le option.least number) (nat_le number option.limit) is in
      record { low = leb-true _ _ tests.0; high = leb-true _ _ tests.1 }
  value_within number false is = tt

  read_within : (value : Option ℕ) → IfOk (within option.least option.limit value) (IsInLimits option)
  read_within None = tt
  read_within (Some number) = value_within number _ refl

  module _ (default : IsInLimits option option.default) where
    -- a number by the uses of its option
    number_within : (uses : List Use) → IfOk (number_by option uses) (IsInLimits option)
    number_within uses = by (use_of option.name uses)
      where
        by : (used : Option Use)
            → IfOk (unwrap_or (option_map (λ (u : Use). within option.least option.limit (number_of u.value)) used) (Ok option.default)) (IsInLimits option)
        by None = default
        by (Some used) = read_within (number_of used.value)

    -- the same by the first value of its option
    given_within : (value : Option Word) → IfOk (number_given option value) (IsInLimits option)
    given_within None = default
    given_within (Some value) = read_within (number_of value)

module _ {A B : Type 0} (One : A → Type 0) (Two : B → Type 0) where
  both_within : (first : Result A UsageCause) (second : Result B UsageCause) → IfOk first One → IfOk second Two
      → IfOk (both first second) (λ values. One values.0 × Two values.1)
  both_within (Ok first) (Ok second) one_is two_is = (one_is, two_is)
  both_within (Ok first) (Err cause) one_is two_is = tt
  both_within (Err cause) (Ok second) one_is two_is = tt
  both_within (Err cause) (Err other) one_is two_is = tt

-- what follows from a value within the limits is within them
module _ {A B : Type 0} (One : A → Type 0) (Two : B → Type 0) where
  then_within : (value : Result A UsageCause) (next : A → Result B UsageCause) → IfOk value One → ((x : A) → One x → IfOk (next x) Two)
      → IfOk (and_then value next) Two
  then_within (Ok value) next is follows = follows value is
  then_within (Err cause) next is follows = tt

draw_within : (uses : List Use) → IfOk (number_by draw_option uses) (IsInLimits draw_option)
draw_within = number_within draw_option (record { low = omega arith; high = omega arith })

size_within : (uses : List Use) → IfOk (number_by size_option uses) (IsInLimits size_option)
size_within = number_within size_option (record { low = omega arith; high = omega arith })

ahead_within : (uses : List Use) → IfOk (number_by ahead_option uses) (IsInLimits ahead_option)
ahead_within = number_within ahead_option (record { low = omega arith; high = omega arith })

-- the numbers of the terms of a diagnosis
abbrev AreNumbersWithin : (ℕ × ℕ) × ℕ → Type 0
AreNumbersWithin three = (IsInLimits k_option three.0.0 × IsInLimits doubt_option three.0.1) × IsInLimits budget_option three.1

three_within : (k doubt budget : Result ℕ UsageCause)
    → IfOk k (IsInLimits k_option) → IfOk doubt (IsInLimits doubt_option) → IfOk budget (IsInLimits budget_option)
    → IfOk (both (both k doubt) budget) AreNumbersWithin
three_within k doubt budget k_is doubt_is budget_is =
    both_within (λ (two : ℕ × ℕ). IsInLimits k_option two.0 × IsInLimits doubt_option two.1) (IsInLimits budget_option) (both k doubt) budget
    (both_within (IsInLimits k_option) (IsInLimits doubt_option) k doubt k_is doubt_is) budget_is

-- the terms of a diagnosis
terms_within : (uses : List Use) → IfOk (terms_by uses) AreTermsInLimits
terms_within uses =
    then_within AreNumbersWithin AreTermsInLimits (both (both (number_by k_option uses) (number_by doubt_option uses)) (number_by budget_option uses)) _
    (three_within (number_by k_option uses) (number_by doubt_option uses) (number_by budget_option uses)
    (number_within k_option (record { low = omega arith; high = omega arith }) uses)
    (number_within doubt_option (record { low = omega arith; high = omega arith }) uses)
    (number_within budget_option (record { low = omega arith; high = omega arith }) uses))
    (λ three are. are)

-- the numbers of the terms, by their first values
given_numbers_within : (rows : List Row) → IfOk (numbers_given rows) AreNumbersWithin
given_numbers_within rows =
    three_within (number_given k_option (first_value (codes "k") rows)) (number_given doubt_option (first_value (codes "doubt") rows)) (number_given budget_option (first_value (codes "budget") rows))
    (given_within k_option (record { low = omega arith; high = omega arith }) (first_value (codes "k") rows))
    (given_within doubt_option (record { low = omega arith; high = omega arith }) (first_value (codes "doubt") rows))
    (given_within budget_option (record { low = omega arith; high = omega arith }) (first_value (codes "budget") rows))

pub numbers_small : (rows : List Row) (result : Result ((ℕ × ℕ) × ℕ) UsageCause) → result ≡ numbers_given rows → IfOk result (λ three. (three.0.0 ≤ MAX_K) × (three.0.1 ≤ MAX_DOUBT))
numbers_small rows result is =
    subst (λ (r : Result ((ℕ × ℕ) × ℕ) UsageCause). IfOk r (λ three. (three.0.0 ≤ MAX_K) × (three.0.1 ≤ MAX_DOUBT))) (sym is)
    (IfOk-weaker (numbers_given rows) _ _ (λ three are. (are.0.0.high, are.0.1.high)) (given_numbers_within rows))

-- ---- the commands

-- what words mean has its numbers within the limits
abbrev IsMeantWithin : Meant → Type 0
IsMeantWithin meant = AreInLimits meant.command

diagnose_within : (uses : List Use) (words : List Word) → IfOk (diagnose_on uses words) IsMeantWithin
diagnose_within uses [] = tt
diagnose_within uses (graph ∷ words) =
    then_within AreTermsInLimits IsMeantWithin (terms_by uses) _ (terms_within uses) (λ terms are. to terms are (panels_named words))
  where
    to : (terms : Terms) → AreTermsInLimits terms → (panels : Option (List PanelWord)) → IfOk (diagnose_to terms graph panels) IsMeantWithin
    to terms are None = tt
    to terms are (Some panels) = are

explain_within : (uses : List Use) (words : List Word) → IfOk (two_files_on Explain uses words) IsMeantWithin
explain_within uses [] = tt
explain_within uses (a ∷ []) = tt
explain_within uses (a ∷ b ∷ []) = tt
explain_within uses (a ∷ b ∷ c ∷ others) = tt

check_within : (uses : List Use) (words : List Word) → IfOk (two_files_on Check uses words) IsMeantWithin
check_within uses [] = tt
check_within uses (a ∷ []) = tt
check_within uses (a ∷ b ∷ []) = tt
check_within uses (a ∷ b ∷ c ∷ others) = tt

simulate_within : (uses : List Use) (words : List Word) → IfOk (simulate_on uses words) IsMeantWithin
simulate_within uses [] = tt
simulate_within uses (a ∷ []) = tt
simulate_within uses (graph ∷ script ∷ []) =
    then_within (IsInLimits draw_option) IsMeantWithin (number_by draw_option uses) _ (draw_within uses) (λ draw is. is)
simulate_within uses (a ∷ b ∷ c ∷ others) = tt

generate_within : (uses : List Use) (words : List Word) → IfOk (generate_on uses words) IsMeantWithin
generate_within uses [] =
    then_within (λ (two : ℕ × ℕ). IsInLimits draw_option two.0 × IsInLimits size_option two.1) IsMeantWithin (both (number_by draw_option uses) (number_by size_option uses)) _
    (both_within (IsInLimits draw_option) (IsInLimits size_option) (number_by draw_option uses) (number_by size_option uses) (draw_within uses) (size_within uses))
    (λ two are. are)
generate_within uses (a ∷ others) = tt

convert_within : (uses : List Use) (words : List Word) → IfOk (convert_on uses words) IsMeantWithin
convert_within uses [] = tt
convert_within uses (a ∷ []) = tt
convert_within uses (a ∷ b ∷ others) = tt

ask_within : (uses : List Use) (words : List Word) → IfOk (ask_on uses words) IsMeantWithin
ask_within uses [] = tt
ask_within uses (a ∷ []) = tt
ask_within uses (graph ∷ log ∷ []) = then_within AreTermsInLimits IsMeantWithin (terms_by uses) _ (terms_within uses) (λ terms are. are)
ask_within uses (a ∷ b ∷ c ∷ others) = tt

fleet_within : (uses : List Use) (words : List Word) → IfOk (fleet_on uses words) IsMeantWithin
fleet_within uses [] = tt
fleet_within uses (a ∷ []) = tt
fleet_within uses (graph ∷ list ∷ []) =
    then_within AreTermsInLimits IsMeantWithin (terms_by uses) _ (terms_within uses) (λ terms are. named terms are (comma_parts list) (are_names (comma_parts list)) refl)
  where
    named : (terms : Terms) → AreTermsInLimits terms → (names : List Word) (test : Bool) → are_names names ≡ test
        → IfOk (if test then alone (Fleet terms graph names) else Err BadNames) IsMeantWithin
    named terms are names true is = (are, names_tested names is)
    named terms are names false is = tt
fleet_within uses (a ∷ b ∷ c ∷ others) = tt

predict_within : (uses : List Use) (words : List Word) → IfOk (predict_on uses words) IsMeantWithin
predict_within uses [] = tt
predict_within uses (a ∷ []) = tt
predict_within uses (a ∷ b ∷ []) = tt
predict_within uses (graph ∷ log ∷ node ∷ []) =
    then_within (λ (two : Terms × ℕ). AreTermsInLimits two.0 × IsInLimits ahead_option two.1) IsMeantWithin (both (terms_by uses) (number_by ahead_option uses)) _
    (both_within AreTermsInLimits (IsInLimits ahead_option) (terms_by uses) (number_by ahead_option uses) (terms_within uses) (ahead_within uses))
    (λ two are. are)
predict_within uses (a ∷ b ∷ c ∷ d ∷ others) = tt

-- What the words mean by a form is within the limits, if what their parts mean is.
module _ (options flags words : List Word) (means : List Use → List Word → Result Meant UsageCause) where
  form_within : ((uses : List Use) (positional : List Word) → IfOk (means uses positional) IsMeantWithin) → IfOk (by_form options flags means words) IsMeantWithin
  form_within are = by (parts_of_words (record { options = options; flags = flags }) words)
    where
      by : (parts : Option Parts) → IfOk (and_then (ok_or parts BadWords) (λ (p : Parts). means p.uses p.positional)) IsMeantWithin
      by None = tt
      by (Some parts) = are parts.uses parts.positional

-- So is what the words after a command mean.
command_within : (command : Word) (words : List Word) → IfOk (command_meaning command words) IsMeantWithin
command_within command words =
    by (bytes_eq command (codes "diagnose")) (bytes_eq command (codes "explain")) (bytes_eq command (codes "check")) (bytes_eq command (codes "simulate")) (bytes_eq command (codes "generate")) (bytes_eq command (codes "convert")) (bytes_eq command (codes "ask")) (bytes_eq command (codes "fleet")) (bytes_eq command (codes "predict"))
  where
    by : (diagnoses explains checks simulates generates converts asks fleets predicts : Bool)
        → IfOk (if diagnoses then by_form terms_options [] diagnose_on words
        else (if explains then by_form [] [] (two_files_on Explain) words
        else (if checks then by_form [] [] (two_files_on Check) words
        else (if simulates then by_form (draw_option.name ∷ []) (codes "--trace" ∷ []) simulate_on words
        else (if generates then by_form (draw_option.name ∷ size_option.name ∷ []) [] generate_on words
        else (if converts then by_form [] (codes "--json" ∷ []) convert_on words
        else (if asks then by_form terms_options [] ask_on words
        else (if fleets then by_form terms_options [] fleet_on words
        else (if predicts then by_form (terms_options ++ ahead_option.name ∷ []) [] predict_on words
        else Err UnknownCommand))))))))) IsMeantWithin
    by true explains checks simulates generates converts asks fleets predicts = form_within terms_options [] words diagnose_on diagnose_within
    by false true checks simulates generates converts asks fleets predicts = form_within [] [] words (two_files_on Explain) explain_within
    by false false true simulates generates converts asks fleets predicts = form_within [] [] words (two_files_on Check) check_within
    by false false false true generates converts asks fleets predicts = form_within (draw_option.name ∷ []) (codes "--trace" ∷ []) words simulate_on simulate_within
    by false false false false true converts asks fleets predicts = form_within (draw_option.name ∷ size_option.name ∷ []) [] words generate_on generate_within
    by false false false false false true asks fleets predicts = form_within [] (codes "--json" ∷ []) words convert_on convert_within
    by false false false false false false true fleets predicts = form_within terms_options [] words ask_on ask_within
    by false false false false false false false true predicts = form_within terms_options [] words fleet_on fleet_within
    by false false false false false false false false true = form_within (terms_options ++ ahead_option.name ∷ []) [] words predict_on predict_within
    by false false false false false false false false false = tt

-- What the command of the words asks for is within the limits.
pub meaning_within : (words : List Word) → IfOk (meaning words) AreInLimits
meaning_within [] = tt
meaning_within (command ∷ words) = then_within IsMeantWithin AreInLimits (command_meaning command words) _ (command_within command words) (λ meant are. are)
