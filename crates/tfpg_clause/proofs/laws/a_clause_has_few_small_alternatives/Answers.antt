use Rattle.tfpg_clause.proofs.lemmas.alternatives.FewAlternatives.{few_alternatives}
use Rattle.tfpg_clause.proofs.lemmas.alternatives.SmallAlternatives.{small_clause}
use Rattle.tfpg_clause.proofs.lemmas.alternatives.SomeAlternative.{some_alternative}
use Rattle.tfpg_clause.proofs.laws.a_clause_has_few_small_alternatives.Goals as goal

pub returns : goal.returns
returns c = record {
  some = some_alternative;
  few = few_alternatives;
  small = λ graph log name clause valid. small_clause graph valid log name clause;
}
