use Rattle.std.proofs.Common.{arith}
use Rattle.tfpg_graph.proofs.lemmas.reading.causes.DeclaredNames.{no_name_cause}
use Rattle.tfpg_graph.proofs.reading.check_edge.read_names.Goals as goal

pub returns-in-Some-clause-clear : goal.returns-in-Some-clause-clear
returns-in-Some-clause-clear c =
    no_name_cause c.args.declared.now c.args.words.source.now c.args.words.target.now c.args.words.modes.now
    (omega (arith, c.mode_count.ensures.count, c.if-mode_count-eq0.false)) c.mode_count.ensures.so_far c.in-Some.named c.in-Some.ensures.named
