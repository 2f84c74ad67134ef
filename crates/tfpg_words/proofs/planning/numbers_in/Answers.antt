use Rattle.std.proofs.Common.{◌∙◌}
use Rattle.tfpg_words.specs.Meaning.{both}
use Rattle.tfpg_words.specs.inside.Parts.{rows_in}
use Rattle.tfpg_words.proofs.lemmas.WithinLimits.{numbers_small}
use Rattle.tfpg_words.proofs.planning.numbers_in.Goals as goal

pub returns-clause-small : goal.returns-clause-small
returns-clause-small c =
    numbers_small (rows_in c.args.parts.now) c.both.result
    (c.both.ensures ∙ (λ i. both ((c.both-members.ensures ∙ (λ j. both (c.number_in.ensures j) (c.number_in-2.ensures j))) i) (c.number_in-3.ensures i)))
