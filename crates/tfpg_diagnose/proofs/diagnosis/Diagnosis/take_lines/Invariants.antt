use Rattle.std.proofs.Common.{[], map, take}
use Rattle.tfpg_base.specs.declared.terms.Terms.{Terms}
use Rattle.tfpg_graph.specs.Graph.{Tfpg}
use Rattle.tfpg_diagnose.specs.Diagnosed.{HasDiagnosed}
use Rattle.tfpg_diagnose.proofs.diagnosis.Diagnosis.take_lines.Given as goal

-- the lines so far were taken
abbrev pub invariant-loop-index : goal.invariant-loop-index
invariant-loop-index g l = (graph : Tfpg) (terms : Terms) → HasDiagnosed graph terms [] l.initial.self
    → HasDiagnosed graph terms (map (λ line. line.now) (take l.index l.lines)) l.self
