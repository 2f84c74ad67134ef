use Rattle.std.proofs.Common.{All, List, subst, sym}
use Rattle.tfpg_evidence.specs.declared.finding.Finding.{Finding}
use Rattle.tfpg_evidence.specs.RoundOf.{IsFindingOf}
use Rattle.tfpg_evidence.proofs.lemmas.FindingsByNumber.{RiseByNumber}
use Rattle.tfpg_graph.specs.Graph.{sizes_of}
use Rattle.tfpg_run.proofs.lemmas.panel_lines.BestFinding.{found_holds}
use Rattle.tfpg_run.proofs.panel_lines.best_of.Goals as goal

pub finding_numbered-requires : goal.finding_numbered-requires
finding_numbered-requires c = subst RiseByNumber (sym c.as_slice-2.ensures) c.requires.numbers_rise

pub returns-clause-of_graph : goal.returns-clause-of_graph
returns-clause-of_graph c =
    found_holds (IsFindingOf (sizes_of c.args.graph.now)) c.as_slice-2.result.now c.in_ok-number.number.now c.finding_numbered.result
    (subst (λ (findings : List Finding). All (IsFindingOf (sizes_of c.args.graph.now)) findings) (sym c.as_slice-2.ensures) c.requires.findings) c.finding_numbered.ensures
