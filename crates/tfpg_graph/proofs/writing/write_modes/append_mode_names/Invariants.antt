use Rattle.tfpg_graph.proofs.lemmas.writing.ModeNames.{AreListed}
use Rattle.tfpg_graph.proofs.writing.write_modes.append_mode_names.Given as goal

-- the modes before this one are listed
abbrev pub invariant-loop-mode : goal.invariant-loop-mode
invariant-loop-mode l = AreListed l.graph l.edge.modes l.fn.into.items l.into.items l.is_first l.mode
