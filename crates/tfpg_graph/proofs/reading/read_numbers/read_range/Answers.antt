use Rattle.std.proofs.Common.{rules, subst, sym}
use Rattle.tfpg_base.specs.Choice.{first_of}
use Rattle.tfpg_graph.specs.inside.reading.WordValues.{numbers_of_words}
use Rattle.tfpg_graph.specs.inside.reading.LineCauses.{range_causes}
use Rattle.tfpg_graph.specs.inside.reading.Turns.{ReadAs}
use Rattle.tfpg_graph.proofs.lemmas.reading.causes.NumberCauses.{range-values}
use Rattle.tfpg_graph.proofs.reading.read_numbers.read_range.Goals as goal

pub returns-in-Value-Value-clause-range : goal.returns-in-Value-Value-clause-range
returns-in-Value-Value-clause-range c =
    subst (ReadAs (first_of (range_causes c.args.least.now c.args.greatest.now)) (numbers_of_words c.args.least.now c.args.greatest.now)) (sym c.in_order.ensures.range)
    (range-values c.args.least.now c.args.greatest.now _ _ (search rules) (search rules))
