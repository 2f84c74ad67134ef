-- The numbers of a command that was planned are within their limits, and its names are names.
use Rattle.std.proofs.Common.{◌≡◌, ℕ, ◌≤◌, List, Ok}
use Rattle.tfpg_base.specs.declared.limits.TheConstants.{MAX_CASE_SIZE, MAX_TIME}
use Rattle.tfpg_base.specs.declared.terms.Terms.{Terms}
use Rattle.tfpg_base.specs.Terms.{AreReportTerms}
use Rattle.tfpg_words.specs.Meaning.{Meaning, Diagnose, Explain, Check, Simulate, Generate, Convert, Ask, Fleet, Predict, meaning}
use Rattle.tfpg_words.specs.Names.{AreNames}
use Rattle.tfpg_words.specs.declared.limits.TheConstants.{MAX_DRAW}
use Rattle.tfpg_run.specs.inside.Plans.{AreWithinLimits}

-- the laws on the numbers and the names of commands
pub record NumberLaws : Type 0 where
  pub diagnose : (words : List (List ℕ)) (terms : Terms) (graph : List ℕ) → meaning words ≡ Ok (Diagnose terms graph) → AreReportTerms terms
  pub generate : (words : List (List ℕ)) (draw size : ℕ) → meaning words ≡ Ok (Generate draw size) → (draw ≤ MAX_DRAW) × (1 ≤ size) × (size ≤ MAX_CASE_SIZE)
  pub ask : (words : List (List ℕ)) (terms : Terms) (graph log : List ℕ) → meaning words ≡ Ok (Ask terms graph log) → AreReportTerms terms
  pub fleet : (words : List (List ℕ)) (terms : Terms) (graph : List ℕ) (names : List (List ℕ)) → meaning words ≡ Ok (Fleet terms graph names) → AreReportTerms terms × AreNames names
  pub predict : (words : List (List ℕ)) (terms : Terms) (ahead : ℕ) (graph log node : List ℕ) → meaning words ≡ Ok (Predict terms ahead graph log node) → AreReportTerms terms × (ahead ≤ MAX_TIME)

pub within_limits : NumberLaws → (words : List (List ℕ)) (meant : Meaning) → meaning words ≡ Ok meant → AreWithinLimits meant
within_limits laws words (Diagnose terms graph) is = laws.diagnose words terms graph is
within_limits laws words (Explain graph log) is = tt
within_limits laws words (Check graph log) is = tt
within_limits laws words (Simulate draw trace graph script) is = tt
within_limits laws words (Generate draw size) is = let are = laws.generate words draw size is in (are.1, are.2)
within_limits laws words (Convert json graph) is = tt
within_limits laws words (Ask terms graph log) is = laws.ask words terms graph log is
within_limits laws words (Fleet terms graph names) is = laws.fleet words terms graph names is
within_limits laws words (Predict terms ahead graph log node) is = laws.predict words terms ahead graph log node is
