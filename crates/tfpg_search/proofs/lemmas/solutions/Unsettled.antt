-- A tree is unsettled exactly where its latest solution violates a clause whose horizon is now.
use Rattle.std.proofs.Common.{List}
use Rattle.std.specs.Prelude.{◌↔◌}
use Rattle.tfpg_evidence.specs.declared.clause_name.ClauseName.{ClauseName}
use Rattle.tfpg_clause.specs.Case.{Case}
use Rattle.tfpg_clause.specs.Trees.{Judged}
use Rattle.tfpg_search.specs.Laws.{LatestSolutionViolates}
use Rattle.tfpg_search.specs.Live.{IsLive, IsUnsettled}
use Rattle.tfpg_search.proofs.lemmas.solutions.FirstViolation.{first_violated}

-- One of the two gives the other: a split is live on the clause that is violated first.
pub unsettled_there : (case : Case) (steps : List Judged) → IsUnsettled case steps ↔ LatestSolutionViolates case steps
unsettled_there case steps = (
  λ unsettled. violates unsettled.0 unsettled.1,
  λ violates.
      let first = first_violated case.graph case.log violates.times violates.name violates.at_now violates.violated in
      (first.0, record { place = violates.place; leaf = violates.leaf; live = record { times = violates.times; latest = violates.latest; first = first.1 } }),
)
  where
    violates : (name : ClauseName) → IsLive case steps name → LatestSolutionViolates case steps
    violates name live = record {
      place = live.place;
      leaf = live.leaf;
      times = live.live.times;
      latest = live.live.latest;
      name = name;
      at_now = live.live.first.at_now;
      violated = live.live.first.violated;
    }
