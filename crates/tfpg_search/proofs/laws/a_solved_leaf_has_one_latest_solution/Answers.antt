use Rattle.tfpg_search.proofs.lemmas.solutions.LatestSolution.{latest_there, one_latest}
use Rattle.tfpg_search.proofs.laws.a_solved_leaf_has_one_latest_solution.Goals as goal

pub returns : goal.returns
returns c = record { there = latest_there; only_one = one_latest }
