use Rattle.tfpg_search.proofs.lemmas.budget.NamesListed.{names_listed}
use Rattle.tfpg_search.proofs.lemmas.budget.MaximumIncoming.{maximum_incoming}
use Rattle.tfpg_search.proofs.laws.there_is_a_budget_that_is_enough.Goals as goal

pub returns : goal.returns
returns c = record { names = names_listed; incoming = maximum_incoming }
