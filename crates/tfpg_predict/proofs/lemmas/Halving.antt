-- How a range is halved, and what is known at its end.
use Rattle.std.proofs.Common.{◌≡◌, ℕ, ◌+◌, ◌-◌, ◌<◌, ◌≤◌, ◌/◌, List, [], Some, inl, inr, ⊎_elim, refl, subst, arith}
use Rattle.std.proofs.lemmas.Bool.{cases_lt}
use Rattle.tfpg_base.specs.declared.activation.Activation.{Activation}
use Rattle.tfpg_base.specs.Trace.{time_of}
use Rattle.tfpg_base.proofs.lemmas.lists.Sequences.{middle-between}
use Rattle.tfpg_evidence.specs.declared.step.Step.{Step}
use Rattle.tfpg_predict.specs.LeastTime.{Lookahead, ExplainsContinued}
use Rattle.tfpg_predict.specs.Outlooks.{IsEarliest, IsMiddle, IsNever, IsRefutedAt, IsSpentAt, IsUnsettledAt}
use Rattle.tfpg_predict.specs.inside.Quests.{asked_by}
use Rattle.tfpg_predict.specs.inside.Tried.{FitsBy, IsOutBy, IsHalved}
use Rattle.tfpg_predict.specs.declared.quest.Quest.{Quest}
use Rattle.tfpg_predict.proofs.lemmas.AsProbed.{by_its_end}

module _ (quest : Quest) where
  -- at the beginning nothing is excluded
  pub halved_none : (high : ℕ) (trace : List Activation) (earlier : List Step) → FitsBy (asked_by quest) quest.hypothesis.set quest.to trace → time_of trace quest.node ≡ Some high → high ≤ quest.to
      → earlier ≡ [] → IsHalved quest 0 high trace earlier
  halved_none high trace earlier fits at within none = record {
    in_order = omega arith;
    within = within;
    explains = fits.explains;
    attained = at;
    none_before = λ some. absurd (omega (arith, some));
    at_zero = λ zero. none;
  }

  module _ (low high bound : ℕ) (trace : List Activation) (earlier : List Step) (halved : IsHalved quest low high trace earlier) (open_yet : low < high)
      (middle : bound ≡ low + (high - low) / 2) where
    pub bound_within : (low ≤ bound) × (bound < high)
    bound_within = let between = middle-between low high open_yet in (omega (arith, middle, between.0), omega (arith, middle, between.1))

    -- a trace leaves the lower half
    pub halved_lower : (other : List Activation) (time : ℕ) → FitsBy (asked_by quest) quest.hypothesis.set bound other → time_of other quest.node ≡ Some time → time ≤ bound → low ≤ time
        → IsHalved quest low time other earlier
    halved_lower other time fits at early from = record {
      in_order = from;
      within = let within = halved.within in let between = bound_within.1 in omega (arith, early, within, between);
      explains = fits.explains;
      attained = at;
      none_before = halved.none_before;
      at_zero = halved.at_zero;
    }

    -- no trace has a time below the range
    pub not_below : (other : List Activation) (time : ℕ) → ExplainsContinued (asked_by quest) quest.hypothesis.set other → time_of other quest.node ≡ Some time → low ≤ time
    not_below other time explained at = ⊎_elim
        (λ less. absurd ((halved.none_before (omega (arith, less))).none other time explained at (omega (arith, less))))
        (λ from. from)
        (cases_lt time low)

    -- a refutation leaves the upper half
    pub halved_upper : (steps : List Step) → IsOutBy (asked_by quest) quest.hypothesis.set bound quest.budget steps → IsHalved quest (bound + 1) high trace steps
    halved_upper steps none = record {
      in_order = let between = bound_within.1 in omega (arith, between);
      within = halved.within;
      explains = halved.explains;
      attained = halved.attained;
      none_before = λ some. let same : bound ≡ bound + 1 - 1 = omega arith in subst (λ (n : ℕ). IsOutBy (asked_by quest) quest.hypothesis.set n quest.budget steps) same none;
      at_zero = λ zero. absurd (omega (arith, zero));
    }

    -- where the budget is spent, the middle is unsettled
    halved_middle : IsMiddle (asked_by quest) quest.hypothesis.set quest.budget bound
    halved_middle = record {
      low = low;
      high = high;
      middle = omega (arith, middle, open_yet);
      apart = open_yet;
      trace = trace;
      explains = halved.explains;
      attained = halved.attained;
      steps = earlier;
      refuted = λ some. (halved.none_before some).refuted;
    }

    pub unsettled_within : (steps : List Step) → IsSpentAt (asked_by quest) quest.hypothesis.set bound quest.budget steps
        → IsUnsettledAt (asked_by quest) quest.hypothesis.set quest.budget bound steps
    unsettled_within steps spent = record {
      within = let within = halved.within in let between = bound_within.1 in omega (arith, within, between);
      halved = inr halved_middle;
      spent = spent;
    }

  -- At the end the time is the least.
  pub halved_all : (low high : ℕ) (trace : List Activation) (earlier : List Step) → IsHalved quest low high trace earlier → high ≤ low
      → IsEarliest (asked_by quest) quest.hypothesis.set quest.budget high trace earlier
  halved_all low high trace earlier halved done =
      let same : low ≡ high = (let upto = halved.in_order in omega (arith, upto, done)) in
      record {
        least = record {
          explains = halved.explains;
          attained = halved.attained;
          least = λ other at explained is. ⊎_elim
              (λ less. absurd ((halved.none_before (omega (arith, less, same))).none other at explained is (omega (arith, less, same))))
              (λ from. from)
              (cases_lt at high);
        };
        refuted = λ some. subst (λ (n : ℕ). IsRefutedAt (asked_by quest) quest.hypothesis.set n quest.budget earlier) (omega (arith, same)) (halved.none_before (omega (arith, some, same))).refuted;
        at_zero = λ zero. halved.at_zero (omega (arith, zero, same));
      }

-- Where no trace has a time by the end, none has any.
pub never_by_its_end : (asked : Lookahead) (set : List ℕ) (budget : ℕ) (steps : List Step) → IsOutBy asked set asked.to budget steps → IsNever asked set budget steps
never_by_its_end asked set budget steps none = record {
  none = λ trace time explained at. none.none trace time explained at (by_its_end asked set trace asked.node time explained at);
  refuted = none.refuted;
}

-- Where the first search spends its budget, the end is unsettled.
pub unsettled_at_end : (asked : Lookahead) (set : List ℕ) (budget : ℕ) (steps : List Step) → IsSpentAt asked set asked.to budget steps → IsUnsettledAt asked set budget asked.to steps
unsettled_at_end asked set budget steps spent = record { within = omega arith; halved = inl refl; spent = spent }
