-- What is promised of a round's steps beyond the definition of a round.
use Rattle.std.specs.Prelude.{◌≡◌, ℕ, ◌≤◌, List, IsTrue, ◌||◌, Some, slice_get}
use Rattle.tfpg_base.specs.declared.terms.Terms.{Terms}
use Rattle.tfpg_graph.specs.Graph.{Tfpg}
use Rattle.tfpg_log.specs.Log.{Logbook}
use Rattle.tfpg_clause.specs.Case.{Case}
use Rattle.tfpg_clause.specs.Trees.{Judged, split_count}
use Rattle.tfpg_evidence.specs.declared.finding.Finding.{Finding}
use Rattle.tfpg_evidence.specs.declared.round.Round.{Round}
use Rattle.tfpg_evidence.specs.RoundOf.{is_open, is_ranked}
use Rattle.tfpg_evidence.specs.Findings.{hypothesis_of}
use Rattle.tfpg_hyp.specs.Views.{IsReachOf, case_for}
use Rattle.tfpg_hyp.specs.Rounds.{steps_so_far}
use Rattle.tfpg_search.specs.Live.{AllowsReuse, IsUnsettled}
use Rattle.tfpg_clause.specs.Paths.{with_steps}
use Rattle.tfpg_search.specs.Searched.{AreSearchSteps}

-- The steps of a finding are earned, after these of earlier rounds: each split is live, in no cycle does a left side stand twice,
-- no clause name stands twice on a path, and subtrees are reused where that is allowed; there are at most as many splits as the
-- budget; where the finding is open, the tree is unsettled; and where it is ranked or open, no subtree is reusable at the end.
pub record IsEarned (case : Case) (budget : ℕ) (earlier : List Judged) (finding : Finding) : Type 0 where
  pub steps : AreSearchSteps case earlier finding.steps
  pub within : split_count finding.steps ≤ budget
  pub unsettled : IsTrue (is_open finding.status)
      → IsUnsettled case (with_steps earlier case.log finding.steps)
  pub none_reusable : IsTrue (is_ranked finding.status || is_open finding.status)
      → AllowsReuse case (with_steps earlier case.log finding.steps) → ⊥

-- The steps of each finding of a round that comes after these rounds are earned.
abbrev pub AreEarned : Tfpg → Logbook → Terms → List Round → Round → Type 0
AreEarned graph log terms rounds round =
    (number : ℕ) (finding : Finding) → slice_get round.findings number ≡ Some finding →
    (reach : List ℕ) × IsReachOf graph (hypothesis_of finding) reach
    × IsEarned (case_for graph log (hypothesis_of finding) reach) terms.budget (steps_so_far number rounds)
    finding
