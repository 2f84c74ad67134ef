use Rattle.std.proofs.lemmas.Result.{err_from_is_err_and}
use Rattle.tfpg_graph.proofs.lemmas.reading.causes.NumberCauses.{failure-number}
use Rattle.tfpg_graph.proofs.reading.read_numbers.read_kind.Goals as goal

pub returns-in_err-rarity-in-Failure-clause-kind : goal.returns-in_err-rarity-in-Failure-clause-kind
returns-in_err-rarity-in-Failure-clause-kind c =
    let p = err_from_is_err_and c.from_residual.result c.from_residual.ensures.1 in
    rw (p.1, p.2, c.in-Failure.is) (failure-number c.in-Failure.rarity.now c.in_err-rarity-in-Failure.field-0.0 c.in_err-rarity-in-Failure.ensures.number)
