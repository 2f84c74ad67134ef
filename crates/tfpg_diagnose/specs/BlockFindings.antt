-- The rounds in the blocks of a report, and their findings.
use Rattle.std.specs.Prelude.{◌≡◌, ℕ, List, Some, slice_get}
use Rattle.tfpg_evidence.specs.declared.finding.Finding.{Finding}
use Rattle.tfpg_evidence.specs.declared.round.Round.{Round}
use Rattle.tfpg_hyp.specs.Rounds.{HasNoneOpen}
use Rattle.tfpg_report.specs.Blocks.{Block, Loss, RoundBlock}

-- The block with this index is that of a round, which has this finding on the hypothesis of this number.
abbrev pub HasFindingInBlock : List Block → ℕ → ℕ → Finding → Type 0
HasFindingInBlock blocks index number finding =
    (round : Round) × (losses : List Loss) × (slice_get blocks index ≡ Some (RoundBlock round losses))
    × (slice_get round.findings number ≡ Some finding)

-- The block with this index is that of this round, in which no hypothesis is open.
abbrev pub HasSettledRoundInBlock : List Block → ℕ → Round → Type 0
HasSettledRoundInBlock blocks index round =
    (losses : List Loss) × (slice_get blocks index ≡ Some (RoundBlock round losses)) × HasNoneOpen round
