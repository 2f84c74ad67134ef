-- What a parse by the command of a form comes to: the parts of the words, or that they have none.
use Rattle.std.proofs.Common.{◌≡◌, ◌∙◌, ap, refl, sym, subst, bytes_eq, List, [], ◌∷◌, map, Option, Some, None, option_map}
use Rattle.std.specs.Prelude.{find, slice_get}
use Rattle.std.specs.Prelude.{option_and_then, unwrap_or, String, Ok, Err}
use Rattle.std.proofs.Common.{Global}
use Rattle.std.specs.String.{string_bytes}
use Rattle.std.proofs.lemmas.Str.{IsUtf8-had}
use Rattle.clap.specs.Walk.{first_of, rows_of}
use Rattle.clap.specs.Matches.{found_of}
use Rattle.clap.specs.Simple.{App, argument_words, built, matches_of}
use Rattle.clap.specs.Faults.{fault_of}
use Rattle.clap.specs.declared.parser.matches.ArgMatches.{ArgMatches}
use Rattle.tfpg_words.specs.declared.plan_fault.PlanFault.{PlanFault}
use Rattle.tfpg_words.specs.declared.plan_fault.PlanFault.TheVariants as fault
use Rattle.tfpg_words.specs.Words.{Any, parts_from}
use Rattle.tfpg_words.specs.inside.Rows.{IsFormed, app_for, form_for}
use Rattle.tfpg_words.specs.inside.Parts.{Parses, TakesApart}
use Rattle.tfpg_words.proofs.lemmas.walk.Main.{AreUtf8}
use Rattle.tfpg_words.proofs.lemmas.walk.Forms.{parsed}
use Rattle.clap.specs.Walk.{Row, Text}
use Rattle.clap.specs.Kinds.{Kinds}
use Rattle.tfpg_words.specs.Words.{Form, Parts}
use Rattle.tfpg_words.specs.inside.Given.{first_value}
use Rattle.tfpg_words.specs.inside.Rows.{no_parts, Holds}
use Rattle.tfpg_words.proofs.lemmas.walk.Walks.{Outcome}

-- a parse that passes has the rows of the parts, and one that fails shows that there are none
pub ok_takes : (form : Form) (o : Option Parts) (fault : Kinds) (rows seen : List Row) → Outcome form no_parts o fault rows → fault ≡ [] → seen ≡ rows
    → (said : Parts) × (o ≡ Some said) × Holds form seen said
ok_takes form None fault rows seen h none same = absurd (h none)
ok_takes form (Some said) fault rows seen h none same = (said, refl, subst (λ (l : List Row). Holds form l said) (sym same) h.1)

pub err_takes : (form : Form) (o : Option Parts) (fault : Kinds) (rows : List Row) → Outcome form no_parts o fault rows → (fault ≡ [] → ⊥) → o ≡ None
err_takes form None fault rows h bad = refl
err_takes form (Some said) fault rows h bad = absurd (bad h.0)

pub first_given : (name : Text) (rows : List Row) → first_of name rows ≡ first_value name rows
first_given name rows = by (find (λ r. bytes_eq r.id name) rows)
  where
    by : (o : Option Row) → option_and_then (λ (r : Row). slice_get r.values 0) o ≡ slice_get (unwrap_or (option_map (λ (r : Row). r.values) o) []) 0
    by None = refl
    by (Some r) = refl

all_utf8 : (words : List (String Global)) → AreUtf8 (map string_bytes words)
all_utf8 [] = tt
all_utf8 (word ∷ words) = (IsUtf8-had (string_bytes word) word.ok, all_utf8 words)

-- what a parse by the command of a form comes to
comes_to : (options flags : List Text) → IsFormed options flags → (app : App) → app ≡ app_for options flags → (words : List (String Global))
    → Outcome (form_for options flags) no_parts (parts_from (form_for options flags) (map string_bytes words) Any) (fault_of app (map string_bytes words)) (matches_of app (map string_bytes words))
comes_to options flags formed app is words =
    parsed options flags formed.apart formed.flags_in app (ap built is ∙ formed.builds) (map string_bytes words)
    (ap (λ (a : App). argument_words a (map string_bytes words)) is) (all_utf8 words)

pub taken_ok : (options flags : List Text) → IsFormed options flags → (app : App) → app ≡ app_for options flags → (words : List (String Global)) (matches : ArgMatches)
    → Parses app (map string_bytes words) (Ok matches)
    → (said : Parts) × (parts_from (form_for options flags) (map string_bytes words) Any ≡ Some said) × Holds (form_for options flags) (rows_of (found_of matches)) said
taken_ok options flags formed app is words matches p =
    ok_takes (form_for options flags) _ _ _ _ (comes_to options flags formed app is words) p.0 p.1

pub taken_err : (options flags : List Text) → IsFormed options flags → (app : App) → app ≡ app_for options flags → (words : List (String Global)) (given : PlanFault)
    → Parses app (map string_bytes words) (Err given)
    → TakesApart (form_for options flags) (parts_from (form_for options flags) (map string_bytes words) Any) (Err given)
taken_err options flags formed app is words (fault.Usage cause) p =
    (p.0, err_takes (form_for options flags) _ _ _ (comes_to options flags formed app is words) p.1)
taken_err options flags formed app is words fault.NoMemory p = tt
