use Rattle.tfpg_graph.proofs.lemmas.Numbered.{incoming-below, failure_at-below}
use Rattle.tfpg_graph.proofs.laws.numbers_are_those_of_the_graph.Goals as goal

pub returns : goal.returns
returns c = record { incoming = incoming-below; failure = failure_at-below }
