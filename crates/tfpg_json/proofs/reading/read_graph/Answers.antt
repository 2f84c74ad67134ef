use Rattle.std.proofs.Common.{sym, subst}
use Rattle.tfpg_graph.specs.Faults.{IsFirstFault}
use Rattle.tfpg_json.proofs.lemmas.StoodFor.{first_fault_of}
use Rattle.tfpg_json.proofs.reading.read_graph.Goals as goal

pub returns-clause-faulty : goal.returns-clause-faulty
returns-clause-faulty c = λ fault is.
    c.read.ensures.faulty fault (subst (λ lines. IsFirstFault lines fault) (sym c.as_slice.ensures.value) (first_fault_of c.args.text.now _ fault c.in_ok-lines.ensures is))
