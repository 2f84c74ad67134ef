use Rattle.std.proofs.Common.{sym}
use Rattle.tfpg_evidence.specs.RoundOf.{IsFindingOf}
use Rattle.tfpg_graph.specs.Graph.{sizes_of}
use Rattle.tfpg_evidence.proofs.lemmas.FindingsByNumber.{finding_numbered-all}
use Rattle.tfpg_report.proofs.ranked_lines.append_numbered.Goals as goal

pub append_ranked-requires : goal.append_ranked-requires
append_ranked-requires c =
    finding_numbered-all (IsFindingOf (sizes_of c.args.graph.now)) c.args.findings.now c.args.number _ c.requires.findings (sym c.in-Some.ensures)
