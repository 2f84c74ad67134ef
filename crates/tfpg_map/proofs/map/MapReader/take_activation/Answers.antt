use Rattle.std.proofs.Common.{◌≡◌, true, is_some, sym, ap, ◌∙◌}
use Rattle.std.proofs.lemmas.Bool.{false≢true}
use Rattle.tfpg_base.specs.Trace.{time_of}
use Rattle.tfpg_map.proofs.lemmas.LineWords.{one_node}
use Rattle.tfpg_map.proofs.map.MapReader.take_activation.Goals as goal

pub returns-then-is_some-clause-bad : goal.returns-then-is_some-clause-bad
returns-then-is_some-clause-bad c bad activation of e new =
    let found = c.in-Some.ensures.found in
    let same = one_node c.args.graph.now c.is_always_valid.ensures.valid c.in-Some.activation activation found.0 of (sym found.1 ∙ e) in
    let some : is_some (time_of c.args.self.now.trace c.in-Some.activation.node) ≡ true = ap is_some (sym c.at.ensures) ∙ sym c.is_some.ensures ∙ c.if-is_some.true in
    false≢true (sym (ap is_some (ap (time_of c.args.self.now.trace) same ∙ new)) ∙ some)
