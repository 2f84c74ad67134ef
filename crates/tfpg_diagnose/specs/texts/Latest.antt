-- What came last: the last round, and what became of the last line.
use Rattle.std.specs.Prelude.{ℕ, List, [], fold, bytes_eq, false, not, Option, Some, None, slice_get, option_and_then}
use Rattle.std.specs.Option.{option_map_or}
use Rattle.tfpg_base.specs.declared.terms.Terms.{Terms}
use Rattle.tfpg_graph.specs.Graph.{Tfpg}
use Rattle.tfpg_log.specs.declared.refused_line.RefusedLine.{RefusedLine}
use Rattle.tfpg_evidence.specs.RoundOf.{finding_numbered}
use Rattle.tfpg_evidence.specs.declared.finding.Finding.{Finding}
use Rattle.tfpg_evidence.specs.declared.round.Round.{Round}
use Rattle.tfpg_report.specs.Blocks.{Block, RefusedBlock, RoundBlock, block_text, head_text}
use Rattle.tfpg_diagnose.specs.declared.texts.latest.Latest.{Latest}

-- the round of a block, if it has one
abbrev pub round_in : Block → Option Round
round_in (RefusedBlock number cause) = None
round_in (RoundBlock round losses) = Some round

-- why the line of a block was refused, if it was
abbrev pub refusal_in : Block → Option RefusedLine
refusal_in (RefusedBlock number cause) = Some cause
refusal_in (RoundBlock round losses) = None

-- the numbers of the hypotheses that a round ranks, best first; none if there is no round
abbrev pub order_of : Option Round → List ℕ
order_of None = []
order_of (Some round) = round.order

-- the finding of the hypothesis that a round ranks at this place, from 0 for the best
abbrev pub ranked_at : Option Round → ℕ → Option Finding
ranked_at None rank = None
ranked_at (Some round) rank = option_and_then (finding_numbered round.findings) (slice_get round.order rank)

-- before the first line
abbrev pub nothing_yet : Latest
nothing_yet = record { round = None; refusal = None; is_changed = false }

-- What came last, after one more line: it brought this round, or was refused for this cause. A round takes the place of the one before it,
-- and a refused line leaves that. The ranking changed if there is a round whose order is another list than that of the round before it.
abbrev pub latest_with : Latest → Option Round → Option RefusedLine → Latest
latest_with before None refusal = record { round = before.round; refusal = refusal; is_changed = false }
latest_with before (Some round) refusal =
    record { round = Some round; refusal = refusal; is_changed = not (bytes_eq (order_of before.round) round.order) }

-- what came last, after one more block
abbrev pub latest_with_block : Latest → Block → Latest
latest_with_block before block = latest_with before (round_in block) (refusal_in block)

-- what came last, after these blocks
abbrev pub latest_after : List Block → Latest
latest_after blocks = fold latest_with_block nothing_yet blocks

-- The block of what came last, where this is the number of the last line: that of this line, if it was refused, and else that of the last
-- round, at which no panel is lost. There is none before the first line.
abbrev pub latest_block : ℕ → Option RefusedLine → Option Round → Option Block
latest_block number (Some cause) round = Some (RefusedBlock number cause)
latest_block number None (Some round) = Some (RoundBlock round [])
latest_block number None None = None

-- the text of what came last: that of its block, and before the first line the first line of a report on these terms
abbrev pub text_of_latest : Tfpg → Terms → ℕ → Latest → List ℕ
text_of_latest graph terms number latest =
    option_map_or (block_text graph) (latest_block number latest.refusal latest.round) (head_text terms)
