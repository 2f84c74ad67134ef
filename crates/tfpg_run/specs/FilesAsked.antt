-- Which files a run asks the shelf for.
use Rattle.std.specs.Prelude.{◌≡◌, ℕ, ◌-◌, List, [], ◌∷◌, ◌++◌, take, All, Some, IfSome, Result, Ok, Err}
use Rattle.tfpg_base.specs.Outside.{ShelfState}
use Rattle.tfpg_words.specs.declared.usage_cause.UsageCause.{UsageCause}
use Rattle.tfpg_words.specs.Meaning.{Meaning, Diagnose, Explain, Check, Simulate, Generate, Convert, Ask, Fleet, Predict}
use Rattle.tfpg_run.specs.Fetch.{HasFile}

-- the files that words of this meaning name, in their order; refused words name none
abbrev pub named_files : Result Meaning UsageCause → List (List ℕ)
named_files (Err cause) = []
named_files (Ok (Diagnose terms graph)) = graph ∷ []
named_files (Ok (Explain graph log)) = graph ∷ log ∷ []
named_files (Ok (Check graph log)) = graph ∷ log ∷ []
named_files (Ok (Simulate draw trace graph script)) = graph ∷ script ∷ []
named_files (Ok (Generate draw size)) = []
named_files (Ok (Convert json graph)) = graph ∷ []
named_files (Ok (Ask terms graph log)) = graph ∷ log ∷ []
named_files (Ok (Fleet terms graph names)) = graph ∷ []
named_files (Ok (Predict terms ahead graph log node)) = graph ∷ log ∷ []

-- The first few of these files were asked for, in their order, and no other. Each but the last of them is there, and not too long: so none was
-- asked for after one that is missing or too long.
pub record AsksInOrder (names : List (List ℕ)) (before now : ShelfState) : Type 0 where
  pub count : ℕ
  pub asked : IfSome before.asked (λ earlier. now.asked ≡ Some (earlier ++ take count names))
  pub there : All (λ name. (text : List ℕ) × HasFile before name text) (take (count - 1) names)
