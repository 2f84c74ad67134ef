-- What a diagnosis that goes line by line does: it writes the report of the input, and tells the panels its rounds.
use Rattle.std.specs.Prelude.{Result}
use Rattle.tfpg_graph.specs.Graph.{Tfpg}
use Rattle.tfpg_base.specs.declared.terms.Terms.{Terms}
use Rattle.tfpg_streams.specs.declared.fault.StreamFault.{StreamFault}
use Rattle.tfpg_streams.specs.Outputs.{WorksLineByLine}
use Rattle.tfpg_diagnose.specs.Watched.{Watched, streams_in}
use Rattle.tfpg_diagnose.specs.RightReport.{IsRightReport, BeginsRightReport}
use Rattle.tfpg_diagnose.specs.TellsPanels.{desks}

-- A diagnosis of the graph on these terms took bytes from the input, wrote its report and told the desk's panels its rounds, with this
-- result.
abbrev pub Diagnoses : Tfpg → Terms → Watched → Watched → Result (Unit {0}) StreamFault → Type 0
Diagnoses graph terms before now result =
    WorksLineByLine (IsRightReport graph terms (desks before.desk now.desk)) (BeginsRightReport graph terms (desks before.desk now.desk))
    (streams_in before) (streams_in now) result
