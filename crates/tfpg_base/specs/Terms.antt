-- Which terms a diagnosis can have.
use Rattle.std.specs.Prelude.{◌≤◌}
use Rattle.tfpg_base.specs.declared.terms.Terms.{Terms}
use Rattle.tfpg_base.specs.declared.limits.TheConstants.{MAX_K, MAX_DOUBT, MAX_BUDGET}

-- The terms that a report can have: k is at most 64, doubt at most 4, and the budget is from 1 to 10^12.
pub record AreReportTerms (terms : Terms) : Type 0 where
  pub few_members : terms.k ≤ MAX_K
  pub few_doubts : terms.doubt ≤ MAX_DOUBT
  pub some_splits : 1 ≤ terms.budget
  pub few_splits : terms.budget ≤ MAX_BUDGET
