use Rattle.tfpg_graph.proofs.lemmas.reading.saying.SaidLines.{says_both_ways}
use Rattle.tfpg_graph.proofs.laws.a_line_says_the_statement_whose_words_it_has.Goals as goal

pub returns : goal.returns
returns c = says_both_ways
