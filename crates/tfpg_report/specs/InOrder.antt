-- Blocks whose lines may come in the order in which they are written.
use Rattle.std.specs.Prelude.{◌<◌, List, All, AllPairs}
use Rattle.tfpg_base.specs.Trace.{IsRisingByNode}
use Rattle.tfpg_evidence.specs.declared.finding.Status.{Status}
use Rattle.tfpg_evidence.specs.declared.finding.Status.TheVariants.{Ranked}
use Rattle.tfpg_evidence.specs.declared.round.Round.{Round}
use Rattle.tfpg_report.specs.Blocks.{Loss, Block, RefusedBlock, RoundBlock}

-- The trace of the status, if it has one, rises by node.
abbrev pub HasRisingTrace : Status → Type 0
HasRisingTrace (Ranked trace cost alarmed monitored) = IsRisingByNode trace
HasRisingTrace _ = Unit {0}

-- The traces of a round rise by node.
abbrev pub HasRisingTraces : Round → Type 0
HasRisingTraces round = All (λ finding. HasRisingTrace finding.status) round.findings

-- The panels stand by rising numbers.
abbrev pub RiseByPanel : List Loss → Type 0
RiseByPanel losses = AllPairs (λ earlier later. earlier.panel < later.panel) losses

-- Each trace of the block rises by node, and the panels that were lost at it stand by rising numbers.
abbrev pub IsInOrder : Block → Type 0
IsInOrder (RefusedBlock line cause) = Unit {0}
IsInOrder (RoundBlock round losses) = HasRisingTraces round × RiseByPanel losses
