-- What is owed with each answer to when a node becomes active.
use Rattle.std.specs.Prelude.{◌≡◌, ◌⊎◌, ℕ, ◌+◌, ◌-◌, ◌/◌, ◌<◌, ◌≤◌, List, [], Some}
use Rattle.tfpg_base.specs.declared.activation.Activation.{Activation}
use Rattle.tfpg_base.specs.Trace.{time_of}
use Rattle.tfpg_graph.specs.Reach.{IsReach}
use Rattle.tfpg_evidence.specs.declared.step.Step.{Step}
use Rattle.tfpg_clause.specs.Case.{Case}
use Rattle.tfpg_clause.specs.Trees.{IsRefutation, split_count}
use Rattle.tfpg_clause.specs.Paths.{with_steps}
use Rattle.tfpg_search.specs.Live.{AllowsReuse, IsUnsettled}
use Rattle.tfpg_search.specs.Searched.{AreSearchSteps}
use Rattle.tfpg_search.specs.Enough.{IsEnough}
use Rattle.tfpg_predict.specs.LeastTime.{Lookahead, ExplainsContinued, IsLeastTime, HasNoTime}
use Rattle.tfpg_predict.specs.Probed.{IsProbed}
use Rattle.tfpg_predict.specs.declared.outlook.Outlook.{Outlook}
use Rattle.tfpg_predict.specs.declared.outlook.Outlook.TheVariants.{Earliest, Never, Unsettled}

-- The case is that of the probe with a bound: a probed graph, the probed log, and what the set reaches in it.
pub record IsProbeCase (asked : Lookahead) (set : List ℕ) (bound : ℕ) (case : Case) : Type 0 where
  pub probed : IsProbed asked bound case.graph case.log
  pub reach : IsReach case.graph set case.reach

-- The steps are those of a search for the probe with this bound, and a refutation, with no more splits than the budget.
pub record IsRefutedAt (asked : Lookahead) (set : List ℕ) (bound budget : ℕ) (steps : List Step) : Type 0 where
  pub case : Case
  pub probe : IsProbeCase asked set bound case
  pub right : AreSearchSteps case [] steps
  pub refutation : IsRefutation case (with_steps [] case.log steps)
  pub within : split_count steps ≤ budget

-- The steps are those of a search for the probe with this bound, which spent its budget: they have as many splits as the budget says,
-- their tree is unsettled, and no subtree is reusable after them. The budget is not one that is always enough.
pub record IsSpentAt (asked : Lookahead) (set : List ℕ) (bound budget : ℕ) (steps : List Step) : Type 0 where
  pub case : Case
  pub probe : IsProbeCase asked set bound case
  pub right : AreSearchSteps case [] steps
  pub spent : split_count steps ≡ budget
  pub unsettled : IsUnsettled case (with_steps [] case.log steps)
  pub none_reusable : AllowsReuse case (with_steps [] case.log steps) → ⊥
  pub not_enough : IsEnough case.graph case.log budget → ⊥

-- The time is the least one, attained by the trace. The steps are a refutation for the probe with the bound before it; at time 0
-- there are none.
pub record IsEarliest (asked : Lookahead) (set : List ℕ) (budget time : ℕ) (trace : List Activation) (earlier : List Step) : Type 0 where
  pub least : IsLeastTime asked set time trace
  pub refuted : 0 < time → IsRefutedAt asked set (time - 1) budget earlier
  pub at_zero : time ≡ 0 → earlier ≡ []

-- No trace activates the node, and the steps are a refutation for the probe with the time up to which is looked as its bound.
pub record IsNever (asked : Lookahead) (set : List ℕ) (budget : ℕ) (steps : List Step) : Type 0 where
  pub none : HasNoTime asked set
  pub refuted : IsRefutedAt asked set asked.to budget steps

-- The bound is the middle, rounded down, of the range in which the least time lies by what is known. A trace gives the node the
-- time `high`. Before `low`, which is less, it has no time: the steps are a refutation for the probe with the bound before
-- `low`, or `low` is 0.
pub record IsMiddle (asked : Lookahead) (set : List ℕ) (budget bound : ℕ) : Type 0 where
  pub low : ℕ
  pub high : ℕ
  pub middle : bound ≡ (low + high) / 2
  pub apart : low < high
  pub trace : List Activation
  pub explains : ExplainsContinued asked set trace
  pub attained : time_of trace asked.node ≡ Some high
  pub steps : List Step
  pub refuted : 0 < low → IsRefutedAt asked set (low - 1) budget steps

-- The search for the probe with this bound spent its budget. The bound is the time up to which is looked, or a middle before it.
pub record IsUnsettledAt (asked : Lookahead) (set : List ℕ) (budget bound : ℕ) (steps : List Step) : Type 0 where
  pub within : bound ≤ asked.to
  pub halved : (bound ≡ asked.to) ⊎ IsMiddle asked set budget bound
  pub spent : IsSpentAt asked set bound budget steps

-- The outlook is right for a set, where each search has this budget.
abbrev pub IsOutlook : Lookahead → List ℕ → ℕ → Outlook → Type 0
IsOutlook asked set budget (Earliest time trace earlier) = IsEarliest asked set budget time trace earlier
IsOutlook asked set budget (Never steps) = IsNever asked set budget steps
IsOutlook asked set budget (Unsettled bound steps) = IsUnsettledAt asked set budget bound steps
