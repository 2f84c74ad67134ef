-- What the search for a probe with a bound finds.
use Rattle.std.specs.Prelude.{◌≡◌, ℕ, ◌-◌, ◌<◌, ◌≤◌, List, [], length, Some}
use Rattle.tfpg_base.specs.Trace.{time_of}
use Rattle.tfpg_base.specs.declared.activation.Activation.{Activation}
use Rattle.tfpg_log.specs.Rules.{IsActive}
use Rattle.tfpg_evidence.specs.declared.step.Step.{Step}
use Rattle.tfpg_search.specs.declared.found.Found.{Found}
use Rattle.tfpg_search.specs.declared.found.Found.TheVariants.{Shown, Closed}
use Rattle.tfpg_search.specs.declared.found.Found.TheVariants as found
use Rattle.tfpg_predict.specs.Probed.{without_probe}
use Rattle.tfpg_predict.specs.LeastTime.{Lookahead, ExplainsContinued}
use Rattle.tfpg_predict.specs.Outlooks.{IsRefutedAt, IsSpentAt}
use Rattle.tfpg_predict.specs.inside.Quests.{asked_by}
use Rattle.tfpg_predict.specs.declared.quest.Quest.{Quest}
use Rattle.tfpg_predict.specs.declared.trial.Tried.{Tried}
use Rattle.tfpg_predict.specs.declared.trial.Tried.TheVariants.{Fits, Out, Spent}

-- No trace that explains the continued log activates the node by the bound.
abbrev pub IsNotBy : Lookahead → List ℕ → ℕ → Type 0
IsNotBy asked set bound =
    (trace : List Activation) (time : ℕ) → ExplainsContinued asked set trace → time_of trace asked.node ≡ Some time → time ≤ bound → ⊥

-- The trace explains the continued log, and activates the node by the bound.
pub record FitsBy (asked : Lookahead) (set : List ℕ) (bound : ℕ) (trace : List Activation) : Type 0 where
  pub explains : ExplainsContinued asked set trace
  pub by_bound : IsActive trace asked.node bound

-- No trace does so, and the steps are a refutation for the probe with this bound, with no more splits than the budget.
pub record IsOutBy (asked : Lookahead) (set : List ℕ) (bound budget : ℕ) (steps : List Step) : Type 0 where
  pub none : IsNotBy asked set bound
  pub refuted : IsRefutedAt asked set bound budget steps

-- what a search of the probed log found, where these are its steps
abbrev pub IsFoundAs : Lookahead → List ℕ → ℕ → ℕ → List Step → Found → Type 0
IsFoundAs asked set budget bound steps (Shown trace) = FitsBy asked set bound (without_probe (length asked.graph.nodes) trace)
IsFoundAs asked set budget bound steps Closed = IsOutBy asked set bound budget steps
IsFoundAs asked set budget bound steps found.Spent = IsSpentAt asked set bound budget steps

-- what was found with a bound
abbrev pub IsTried : Lookahead → List ℕ → ℕ → ℕ → Tried → Type 0
IsTried asked set budget bound (Fits trace) = FitsBy asked set bound trace
IsTried asked set budget bound (Out steps) = IsOutBy asked set bound budget steps
IsTried asked set budget bound (Spent steps) = IsSpentAt asked set bound budget steps

-- What is known while the range is halved: the trace gives the node the time `high`. Below `low` it has no time, and the steps are
-- a refutation for the probe with the bound before it.
pub record IsHalved (quest : Quest) (low high : ℕ) (trace : List Activation) (earlier : List Step) : Type 0 where
  pub in_order : low ≤ high
  pub within : high ≤ quest.to
  pub explains : ExplainsContinued (asked_by quest) quest.hypothesis.set trace
  pub attained : time_of trace quest.node ≡ Some high
  pub none_before : 0 < low → IsOutBy (asked_by quest) quest.hypothesis.set (low - 1) quest.budget earlier
  pub at_zero : low ≡ 0 → earlier ≡ []
