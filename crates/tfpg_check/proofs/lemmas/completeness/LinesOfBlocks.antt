-- The lines of blocks: how each begins and ends, and where one has not ended.
use Rattle.std.proofs.Common.{◌≡◌, cond, Bool, true, false, eqb, List, [], ◌∷◌, ◌++◌, length, get_or, map, All, refl, sym, ap, ◌∙◌, append-nil, append_assoc}
use Rattle.std.specs.Prelude.{flat_map, fold}
use Rattle.std.proofs.lemmas.List.Elements.{All-nil, All-cons, All-append, All-map, All-weaker, All-head, All-tail}
use Rattle.std.proofs.lemmas.List.Sums.{fold-append}
use Rattle.tfpg_evidence.specs.declared.finding.Finding.{Finding}
use Rattle.tfpg_evidence.specs.declared.finding.Status.{Status}
use Rattle.tfpg_evidence.specs.declared.finding.Status.TheVariants as status
use Rattle.tfpg_evidence.specs.declared.round.Round.{Round as RoundOf}
use Rattle.tfpg_evidence.specs.declared.step.Step.{Step}
use Rattle.tfpg_evidence.specs.declared.step.Step.TheVariants as step
use Rattle.tfpg_evidence.specs.Findings.{newly_rejected, open_in, ranked_in_order, hypothesis_of}
use Rattle.tfpg_report.specs.declared.report_line.ReportLine.{ReportLine}
use Rattle.tfpg_report.specs.declared.report_line.ReportLine.TheVariants.{Head, OldHead, Refused, Round, Hyp, Split, Cycle, Why, Again, Ranked, At, Open, Rejected, Counts, Panel}
use Rattle.tfpg_report.specs.Blocks.{Block, RefusedBlock, RoundBlock, Loss, block_lines, lines_of_finding, lines_if_ranked, round_lines}
use Rattle.tfpg_report.specs.inside.LineNames.{loss_line, open_line, rejected_line}
use Rattle.tfpg_report.specs.ReadRounds.{step_lines}
use Rattle.tfpg_report.specs.Reading.{begun_with, is_last}
use Rattle.tfpg_check.proofs.lemmas.completeness.MappedLists.{All-flat_map}

-- ---- kinds of lines

-- the line stands within a round, between its first line and its counts
abbrev pub is_within : ReportLine → Bool
is_within (Head terms) = false
is_within (OldHead k budget) = false
is_within (Refused line cause) = false
is_within (Round number line now) = false
is_within (Hyp number) = true
is_within (Split name) = true
is_within (Cycle count) = true
is_within (Why reason) = true
is_within Again = true
is_within (Ranked number cost alarmed monitored hypothesis) = true
is_within (At activation) = true
is_within (Open number hypothesis) = true
is_within (Rejected number hypothesis) = true
is_within (Counts counts) = false
is_within (Panel panel memory) = false

-- the line begins a block
abbrev pub begins_block : ReportLine → Bool
begins_block (Refused line cause) = true
begins_block (Round number line now) = true
begins_block _ = false

-- the line is that of a lost panel
abbrev pub is_panel : ReportLine → Bool
is_panel (Panel panel memory) = true
is_panel _ = false

-- the line completes a block that may fail: it is a refused line, or the counts of a round
abbrev pub completes_block : ReportLine → Bool
completes_block (Refused line cause) = true
completes_block (Counts counts) = true
completes_block _ = false

-- what stands within a round is no last line,
pub within_not_last : (line : ReportLine) → is_within line ≡ true → is_last line ≡ false
within_not_last (Head terms) within = absurd cc
within_not_last (OldHead k budget) within = absurd cc
within_not_last (Refused line cause) within = absurd cc
within_not_last (Round number line now) within = absurd cc
within_not_last (Counts counts) within = absurd cc
within_not_last (Panel panel memory) within = absurd cc
within_not_last _ within = refl

-- begins no block,
pub within_begins_none : (line : ReportLine) → is_within line ≡ true → begins_block line ≡ false
within_begins_none (Refused line cause) within = absurd cc
within_begins_none (Round number line now) within = absurd cc
within_begins_none _ within = refl

-- and is that of no lost panel
pub within_no_panel : (line : ReportLine) → is_within line ≡ true → is_panel line ≡ false
within_no_panel (Panel panel memory) within = absurd cc
within_no_panel _ within = refl

-- what completes a block is a last line
pub last_completes : (line : ReportLine) → completes_block line ≡ true → is_last line ≡ true
last_completes (Refused line cause) completes = refl
last_completes (Counts counts) completes = refl
last_completes _ completes = absurd cc

-- that of a lost panel completes none
pub panel_completes_none : (line : ReportLine) → is_panel line ≡ true → completes_block line ≡ false
panel_completes_none (Panel panel memory) panel_is = refl
panel_completes_none _ panel_is = absurd cc

-- ---- the lines within a round

abbrev AreWithin : List ReportLine → Type 0
AreWithin lines = All (λ line. is_within line ≡ true) lines

-- the lines of a round after its first line, and before its counts
abbrev pub middle : RoundOf → List ReportLine
middle round =
    flat_map lines_of_finding round.findings
    ++ flat_map (λ (finding : Finding). lines_if_ranked finding finding.status) (ranked_in_order round)
    ++ map open_line (open_in round)
    ++ map rejected_line (newly_rejected round)

step_within : (s : Step) → AreWithin (step_lines s)
step_within (step.Split name) = All-cons (λ line. is_within line ≡ true) (Split name) [] refl (All-nil (λ line. is_within line ≡ true))
step_within (step.Cycle reasons) =
    All-cons (λ line. is_within line ≡ true) (Cycle (length reasons)) (map Why reasons) refl (All-map (λ line. is_within line ≡ true) Why reasons (λ k d within. refl))
step_within step.Again = All-cons (λ line. is_within line ≡ true) Again [] refl (All-nil (λ line. is_within line ≡ true))

finding_within : (finding : Finding) → AreWithin (lines_of_finding finding)
finding_within finding = by (eqb (length finding.steps) 0)
  where
    by : (none : Bool) → AreWithin (cond none [] (Hyp finding.number ∷ flat_map step_lines finding.steps))
    by true = All-nil (λ line. is_within line ≡ true)
    by false =
        All-cons (λ line. is_within line ≡ true) (Hyp finding.number) (flat_map step_lines finding.steps) refl
        (All-flat_map (λ line. is_within line ≡ true) step_lines finding.steps (λ k d within. step_within (get_or finding.steps k d)))

ranked_within : (finding : Finding) (s : Status) → AreWithin (lines_if_ranked finding s)
ranked_within finding (status.Ranked trace cost alarmed monitored) =
    All-cons (λ line. is_within line ≡ true) (Ranked finding.number cost alarmed monitored (hypothesis_of finding)) (map At trace) refl
    (All-map (λ line. is_within line ≡ true) At trace (λ k d within. refl))
ranked_within finding (status.Covered by) = All-nil (λ line. is_within line ≡ true)
ranked_within finding status.Rejected = All-nil (λ line. is_within line ≡ true)
ranked_within finding status.Open = All-nil (λ line. is_within line ≡ true)

-- These stand within a round.
pub middle_within : (round : RoundOf) → All (λ line. is_within line ≡ true) (middle round)
middle_within round =
    let steps : List ReportLine = flat_map lines_of_finding round.findings in
    let ranked : List ReportLine = flat_map (λ (finding : Finding). lines_if_ranked finding finding.status) (ranked_in_order round) in
    let opened : List ReportLine = map open_line (open_in round) in
    let rejected : List ReportLine = map rejected_line (newly_rejected round) in
    All-append (λ line. is_within line ≡ true) (steps ++ ranked ++ opened) rejected
    (All-append (λ line. is_within line ≡ true) (steps ++ ranked) opened
    (All-append (λ line. is_within line ≡ true) steps ranked
    (All-flat_map (λ line. is_within line ≡ true) lines_of_finding round.findings (λ k d within. finding_within (get_or round.findings k d)))
    (All-flat_map (λ line. is_within line ≡ true) (λ (finding : Finding). lines_if_ranked finding finding.status) (ranked_in_order round)
    (λ k d within. ranked_within (get_or (ranked_in_order round) k d) (get_or (ranked_in_order round) k d).status)))
    (All-map (λ line. is_within line ≡ true) open_line (open_in round) (λ k d within. refl)))
    (All-map (λ line. is_within line ≡ true) rejected_line (newly_rejected round) (λ k d within. refl))

-- the first line of a round
abbrev pub round_line : RoundOf → ReportLine
round_line round = Round round.number round.line round.now

-- A round's lines are the first one, those within it, and the counts.
pub round_lines_are : (round : RoundOf) → round_lines round ≡ round_line round ∷ middle round ++ Counts round.counts ∷ []
round_lines_are round = refl

-- None of them is that of a lost panel.
pub round_no_panels : (round : RoundOf) → All (λ line. is_panel line ≡ false) (round_lines round)
round_no_panels round =
    All-cons (λ line. is_panel line ≡ false) (round_line round) (middle round ++ Counts round.counts ∷ []) refl
    (All-append (λ line. is_panel line ≡ false) (middle round) (Counts round.counts ∷ [])
    (All-weaker (λ line. is_within line ≡ true) (λ line. is_panel line ≡ false) within_no_panel (middle round) (middle_within round))
    (All-cons (λ line. is_panel line ≡ false) (Counts round.counts) [] refl (All-nil (λ line. is_panel line ≡ false))))

-- The lines of lost panels are.
pub losses_are_panels : (losses : List Loss) → All (λ line. is_panel line ≡ true) (map loss_line losses)
losses_are_panels losses = All-map (λ line. is_panel line ≡ true) loss_line losses (λ k d within. refl)

-- ---- where blocks begin

-- the first line of a block
abbrev pub first_of_block : Block → ReportLine
first_of_block (RefusedBlock line cause) = Refused line cause
first_of_block (RoundBlock round losses) = round_line round

-- its other lines
abbrev pub others_of_block : Block → List ReportLine
others_of_block (RefusedBlock line cause) = []
others_of_block (RoundBlock round losses) = (middle round ++ Counts round.counts ∷ []) ++ map loss_line losses

-- these are its lines,
pub block_grouped : (block : Block) → block_lines block ≡ first_of_block block ∷ others_of_block block
block_grouped (RefusedBlock line cause) = refl
block_grouped (RoundBlock round losses) = refl

-- the first of which begins a block,
pub first_begins_block : (block : Block) → begins_block (first_of_block block) ≡ true
first_begins_block (RefusedBlock line cause) = refl
first_begins_block (RoundBlock round losses) = refl

-- and the others none
pub others_begin_none : (block : Block) → All (λ line. begins_block line ≡ false) (others_of_block block)
others_begin_none (RefusedBlock line cause) = All-nil (λ line. begins_block line ≡ false)
others_begin_none (RoundBlock round losses) =
    All-append (λ line. begins_block line ≡ false) (middle round ++ Counts round.counts ∷ []) (map loss_line losses)
    (All-append (λ line. begins_block line ≡ false) (middle round) (Counts round.counts ∷ [])
    (All-weaker (λ line. is_within line ≡ true) (λ line. begins_block line ≡ false) within_begins_none (middle round) (middle_within round))
    (All-cons (λ line. begins_block line ≡ false) (Counts round.counts) [] refl (All-nil (λ line. begins_block line ≡ false))))
    (All-map (λ line. begins_block line ≡ false) loss_line losses (λ k d within. refl))

-- ---- the round that has not ended

-- after a last line none has begun
pub begun_after_last : (begun : List ReportLine) (line : ReportLine) → is_last line ≡ true → begun_with begun line ≡ []
begun_after_last begun line last = ap (λ (b : Bool). cond b [] (begun ++ line ∷ [])) last

-- other lines are begun
pub begun_more : (begun lines : List ReportLine) → All (λ line. is_last line ≡ false) lines → fold begun_with begun lines ≡ begun ++ lines
begun_more begun [] not_last = sym (append-nil begun)
begun_more begun (line ∷ lines) not_last =
    ap (λ (b : Bool). fold begun_with (cond b [] (begun ++ line ∷ [])) lines) (All-head (λ l. is_last l ≡ false) line lines not_last)
    ∙ begun_more (begun ++ line ∷ []) lines (All-tail (λ l. is_last l ≡ false) line lines not_last)
    ∙ append_assoc begun (line ∷ []) lines

-- after lost panels none has begun
panels_end : (losses : List Loss) → fold begun_with [] (map loss_line losses) ≡ []
panels_end [] = refl
panels_end (loss ∷ losses) = panels_end losses

-- after the lines of a round none has begun
round_ends : (begun : List ReportLine) (round : RoundOf) → fold begun_with begun (round_lines round) ≡ []
round_ends begun round =
    fold-append begun_with begun (round_line round ∷ middle round) (Counts round.counts ∷ [])

-- and so after a block
pub block_ends : (begun : List ReportLine) (block : Block) → fold begun_with begun (block_lines block) ≡ []
block_ends begun (RefusedBlock line cause) = refl
block_ends begun (RoundBlock round losses) =
    fold-append begun_with begun (round_lines round) (map loss_line losses)
    ∙ ap (λ (b : List ReportLine). fold begun_with b (map loss_line losses)) (round_ends begun round)
    ∙ panels_end losses

-- and after blocks, where none had begun before
pub blocks_end : (blocks : List Block) → fold begun_with [] (flat_map block_lines blocks) ≡ []
blocks_end [] = refl
blocks_end (block ∷ blocks) =
    fold-append begun_with [] (block_lines block) (flat_map block_lines blocks)
    ∙ ap (λ (b : List ReportLine). fold begun_with b (flat_map block_lines blocks)) (block_ends [] block)
    ∙ blocks_end blocks
