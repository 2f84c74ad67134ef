use Rattle.std.proofs.Common.{◌≡◌, List, Ok, subst}
use Rattle.std.specs.Prelude.{Result, IfOk}
use Rattle.tfpg_words.specs.Meaning.{Meaning, Ask, Diagnose, Simulate, Generate, meaning, Fleet, Predict}
use Rattle.tfpg_words.specs.Words.{Word}
use Rattle.tfpg_words.specs.declared.usage_cause.UsageCause.{UsageCause}
use Rattle.tfpg_words.proofs.lemmas.WithinLimits.{AreInLimits, meaning_within}
use Rattle.tfpg_words.proofs.laws.numbers_are_within_their_limits.Goals as goal

within : (words : List Word) (means : Meaning) → meaning words ≡ Ok means → AreInLimits means
within words means is = subst (λ (r : Result Meaning UsageCause). IfOk r AreInLimits) is (meaning_within words)

pub returns-clause-diagnose : goal.returns-clause-diagnose
returns-clause-diagnose c words terms graph is =
    let are = within words (Diagnose terms graph) is in
    record { few_members = are.0.0.high; few_doubts = are.0.1.high; some_splits = are.1.low; few_splits = are.1.high }

pub returns-clause-simulate : goal.returns-clause-simulate
returns-clause-simulate c words draw trace graph script is = (within words (Simulate draw trace graph script) is).high

pub returns-clause-generate : goal.returns-clause-generate
returns-clause-generate c words draw size is = let are = within words (Generate draw size) is in (are.0.high, are.1.low, are.1.high)

pub returns-clause-ask : goal.returns-clause-ask
returns-clause-ask c words terms graph log is =
    let are = within words (Ask terms graph log) is in
    record { few_members = are.0.0.high; few_doubts = are.0.1.high; some_splits = are.1.low; few_splits = are.1.high }

pub returns-clause-fleet : goal.returns-clause-fleet
returns-clause-fleet c words terms graph names is =
    let are = within words (Fleet terms graph names) is in
    (record { few_members = are.0.0.0.high; few_doubts = are.0.0.1.high; some_splits = are.0.1.low; few_splits = are.0.1.high }, are.1)

pub returns-clause-predict : goal.returns-clause-predict
returns-clause-predict c words terms ahead graph log node is =
    let are = within words (Predict terms ahead graph log node) is in
    (record { few_members = are.0.0.0.high; few_doubts = are.0.0.1.high; some_splits = are.0.1.low; few_splits = are.0.1.high }, are.1.high)
