use Rattle.tfpg_hyp.proofs.lemmas.Tables.{one_table, one_count}
use Rattle.tfpg_hyp.proofs.lemmas.Subsets.{once}
use Rattle.tfpg_hyp.proofs.laws.the_table_is_one.Goals as goal

pub returns : goal.returns
returns c = record { hypotheses = one_table; count = one_count; once = once }
