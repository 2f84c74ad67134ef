-- Where times solve what holds at a leaf, exactly one of them are the latest.
use Rattle.std.proofs.Common.{◌≡◌, ℕ, ◌<◌, List, [], ◌∷◌, length, false, refl, sym, ap, subst, ◌∙◌, arith}
use Rattle.std.proofs.lemmas.Grind.{same_number_lists}
use Rattle.tfpg_base.specs.declared.limits.TheConstants.{NEVER}
use Rattle.tfpg_log.specs.Log.{IsLogOf}
use Rattle.tfpg_clause.specs.Case.{Case}
use Rattle.tfpg_clause.specs.Trees.{Chosen}
use Rattle.tfpg_clause.specs.Paths.{chosen_on}
use Rattle.tfpg_clause.specs.declared.path.PathSplit.{PathSplit}
use Rattle.tfpg_search.specs.Solutions.{SolvesAt, IsLatestAt}
use Rattle.tfpg_search.proofs.lemmas.solutions.GreatestList.{greatest_below}
use Rattle.tfpg_search.proofs.lemmas.solutions.SolvesDecided.{greater_solves, solution_in_range, solves_decided}

-- a path with these alternatives, whatever its marks
path_with : (chosen : List Chosen) → (path : List PathSplit) × (chosen_on path ≡ chosen)
path_with [] = ([], refl)
path_with (first ∷ others) =
    let deeper = path_with others in
    let split : PathSplit = record { name = first.name; alternative = first.alternative; alternatives = 0; cited = false; reusable = false } in
    (split ∷ deeper.0, ap (λ (cs : List Chosen). first ∷ cs) deeper.1)

module _ (case : Case) (path : List PathSplit) where
  latest_on : (times : List ℕ) → IsLogOf case.graph case.log → SolvesAt case (chosen_on path) times → (latest : List ℕ) × IsLatestAt case (chosen_on path) latest
  latest_on times of solves =
      let greatest = greatest_below (SolvesAt case (chosen_on path)) (solves_decided case.graph case.log case.reach of path) NEVER (length case.graph.nodes)
      (λ others also. also.one_each) (solution_in_range case (chosen_on path)) (greater_solves case (chosen_on path)) times solves (length case.graph.nodes) in
      (greatest.0, record { solves = greatest.1; latest = greatest.2 })

module _ (case : Case) (path : List Chosen) where
  -- one of the solutions is the latest
  pub latest_there : (times : List ℕ) → IsLogOf case.graph case.log → SolvesAt case path times → (latest : List ℕ) × IsLatestAt case path latest
  latest_there times of solves =
      let marked = path_with path in
      let found = latest_on case marked.0 times of (subst (λ (p : List Chosen). SolvesAt case p times) (sym marked.1) solves) in
      (found.0, subst (λ (p : List Chosen). IsLatestAt case p found.0) marked.1 found.1)

  -- there is no other
  pub one_latest : (one other : List ℕ) → IsLatestAt case path one → IsLatestAt case path other → one ≡ other
  one_latest one other is also =
      same_number_lists one other (is.solves.one_each ∙ sym also.solves.one_each)
      (λ node within.
      let inside : node < length case.graph.nodes = omega (arith, within, is.solves.one_each) in
      omega (arith, is.latest other also.solves node inside, also.latest one is.solves node inside))
