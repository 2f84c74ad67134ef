-- The lines of a report, one more of them: what may come after them, and the round that they begin.
use Rattle.std.proofs.Common.{◌≡◌, ◌+◌, ◌≤◌, eqb, List, [], ◌∷◌, ◌++◌, length, map, All, true, false, Option, Some, refl, sym, ap, ◌∙◌, append_assoc, append-nil, length-append, arith}
use Rattle.std.specs.Prelude.{fold, flat_map, option_and_then}
use Rattle.std.proofs.lemmas.Bool.{cond-true, cond-false, cond_both}
use Rattle.std.proofs.lemmas.List.Elements.{All-cons, All-nil, All-append, All-head, All-tail}
use Rattle.std.proofs.lemmas.List.Sums.{fold-append}
use Rattle.tfpg_evidence.specs.declared.step.Step.{Step}
use Rattle.tfpg_evidence.specs.declared.step.Step.TheVariants as step
use Rattle.tfpg_evidence.specs.declared.finding.Status.{Status}
use Rattle.tfpg_evidence.specs.declared.finding.Status.TheVariants as status
use Rattle.tfpg_evidence.specs.declared.finding.Finding.{Finding}
use Rattle.tfpg_evidence.specs.declared.round.Round.{Round as RoundOf}
use Rattle.tfpg_evidence.specs.Findings.{ranked_in_order, open_in, newly_rejected, hypothesis_of}
use Rattle.tfpg_report.specs.declared.stand.Stand.{Stand}
use Rattle.tfpg_report.specs.declared.stand.Stand.TheVariants as stand
use Rattle.tfpg_report.specs.declared.report_line.ReportLine.{ReportLine}
use Rattle.tfpg_report.specs.declared.report_line.ReportLine.TheVariants.{Refused, Round, Hyp, Split, Cycle, Why, Again, Ranked, At, Counts}
use Rattle.tfpg_report.specs.Stands.{stand_after, stand_of}
use Rattle.tfpg_report.specs.ReadRounds.{step_lines}
use Rattle.tfpg_report.specs.Reading.{is_last, begun_with, begun_in}
use Rattle.tfpg_report.specs.Blocks.{lines_of_finding, lines_if_ranked, lines_before_counts, round_lines, Loss, Block, RefusedBlock, RoundBlock, block_lines}
use Rattle.tfpg_report.specs.inside.LineNames.{open_line, rejected_line, loss_line}

-- the stand after lines that one more follows
pub stand_of_more : (lines : List ReportLine) (line : ReportLine) (before : Stand) → stand_of lines ≡ Some before → stand_of (lines ++ line ∷ []) ≡ stand_after before line
stand_of_more lines line before stands =
    fold-append (λ (reached : Option Stand) (l : ReportLine). option_and_then (λ (at : Stand). stand_after at l) reached) (Some stand.Nothing) lines (line ∷ [])
    ∙ ap (λ (reached : Option Stand). option_and_then (λ (at : Stand). stand_after at line) reached) stands

-- the round that lines begin which one more follows
begun_in_more : (lines : List ReportLine) (line : ReportLine) → begun_in (lines ++ line ∷ []) ≡ begun_with (begun_in lines) line
begun_in_more lines line = fold-append begun_with [] lines (line ∷ [])

-- A line that ends what it belongs to leaves nothing begun.
pub begun_in_ended : (lines : List ReportLine) (line : ReportLine) → is_last line ≡ true → begun_in (lines ++ line ∷ []) ≡ []
begun_in_ended lines line last = begun_in_more lines line ∙ cond-true (is_last line) [] (begun_in lines ++ line ∷ []) last

-- Every other line goes on with what is begun.
pub begun_in_on : (lines : List ReportLine) (line : ReportLine) → is_last line ≡ false → begun_in (lines ++ line ∷ []) ≡ begun_in lines ++ line ∷ []
begun_in_on lines line within = begun_in_more lines line ∙ cond-false (is_last line) [] (begun_in lines ++ line ∷ []) within

-- What is begun has no more lines than there are.
pub begun_in_few : (lines : List ReportLine) → length (begun_in lines) ≤ length lines
begun_in_few lines = omega (arith, few [] lines)
  where
    few : (begun lines : List ReportLine) → length (fold begun_with begun lines) ≤ length begun + length lines
    few begun [] = omega arith
    few begun (line ∷ others) =
        let here : length (begun_with begun line) ≤ length begun + 1 =
        cond_both (is_last line) [] (begun ++ line ∷ []) (λ begun_then. length begun_then ≤ length begun + 1) (λ _. omega arith) (λ _. omega (arith, length-append begun (line ∷ []))) in
        omega (arith, few (begun_with begun line) others, here)

-- ---- written blocks

-- lines none of which ends what it belongs to
within_begun : (begun lines : List ReportLine) → All (λ line. is_last line ≡ false) lines → fold begun_with begun lines ≡ begun ++ lines
within_begun begun [] within = sym (append-nil begun)
within_begun begun (line ∷ lines) within =
    let Within : ReportLine → Type 0 = λ l. is_last l ≡ false in
    ap (λ (b : List ReportLine). fold begun_with b lines) (cond-false (is_last line) [] (begun ++ line ∷ []) (All-head Within line lines within))
    ∙ within_begun (begun ++ line ∷ []) lines (All-tail Within line lines within)
    ∙ append_assoc begun (line ∷ []) lines

-- losses after what has ended
losses_end : (losses : List Loss) → fold begun_with [] (map loss_line losses) ≡ []
losses_end [] = refl
losses_end (loss ∷ losses) = losses_end losses

-- Lines that end with a whole block leave nothing begun.
pub begun_in_block : (lines : List ReportLine) (block : Block) → begun_in (lines ++ block_lines block) ≡ []
begun_in_block lines (RefusedBlock line cause) = begun_in_ended lines (Refused line cause) refl
begun_in_block lines (RoundBlock round losses) =
    fold-append begun_with [] lines (round_lines round ++ map loss_line losses)
    ∙ fold-append begun_with (begun_in lines) (round_lines round) (map loss_line losses)
    ∙ ap (λ (b : List ReportLine). fold begun_with b (map loss_line losses)) counted
    ∙ losses_end losses
  where
    counted : fold begun_with (begun_in lines) (round_lines round) ≡ []
    counted = fold-append begun_with (begun_in lines) (lines_before_counts round) (Counts round.counts ∷ [])

-- the line ends nothing
abbrev pub IsWithin : ReportLine → Type 0
IsWithin line = is_last line ≡ false

-- each line of a list that is shown item by item
all_shown : {X : Type 0} (shown : X → List ReportLine) → ((x : X) → All IsWithin (shown x)) → (xs : List X) → All IsWithin (flat_map shown xs)
all_shown shown each [] = All-nil IsWithin
all_shown shown each (x ∷ xs) = All-append IsWithin (shown x) (flat_map shown xs) (each x) (all_shown shown each xs)

-- the same of a line for each item
all_mapped : {X : Type 0} (shown : X → ReportLine) → ((x : X) → IsWithin (shown x)) → (xs : List X) → All IsWithin (map shown xs)
all_mapped shown each [] = All-nil IsWithin
all_mapped shown each (x ∷ xs) = All-cons IsWithin (shown x) (map shown xs) (each x) (all_mapped shown each xs)

step_within : (step : Step) → All IsWithin (step_lines step)
step_within (step.Split name) = All-cons IsWithin (Split name) [] refl (All-nil IsWithin)
step_within (step.Cycle reasons) = All-cons IsWithin (Cycle (length reasons)) (map Why reasons) refl (all_mapped Why (λ reason. refl) reasons)
step_within step.Again = All-cons IsWithin Again [] refl (All-nil IsWithin)

finding_within : (finding : Finding) → All IsWithin (lines_of_finding finding)
finding_within finding =
    let lines : List ReportLine = Hyp finding.number ∷ flat_map step_lines finding.steps in
    cond_both (eqb (length finding.steps) 0) [] lines (All IsWithin) (λ _. All-nil IsWithin)
    (λ _. All-cons IsWithin (Hyp finding.number) (flat_map step_lines finding.steps) refl (all_shown step_lines step_within finding.steps))

ranked_within : (finding : Finding) (is : Status) → All IsWithin (lines_if_ranked finding is)
ranked_within finding (status.Ranked trace cost alarmed monitored) =
    All-cons IsWithin (Ranked finding.number cost alarmed monitored (hypothesis_of finding)) (map At trace) refl (all_mapped At (λ activation. refl) trace)
ranked_within finding (status.Covered by) = All-nil IsWithin
ranked_within finding status.Rejected = All-nil IsWithin
ranked_within finding status.Open = All-nil IsWithin

-- Before the counts, no line of a round ends it.
pub before_counts_within : (round : RoundOf) → All IsWithin (lines_before_counts round)
before_counts_within round =
    All-append IsWithin (front ++ steps ++ ranked ++ opened) rejected
    (All-append IsWithin (front ++ steps ++ ranked) opened
    (All-append IsWithin (front ++ steps) ranked
    (All-cons IsWithin (Round round.number round.line round.now) steps refl (all_shown lines_of_finding finding_within round.findings))
    (all_shown (λ finding. lines_if_ranked finding finding.status) (λ finding. ranked_within finding finding.status) (ranked_in_order round)))
    (all_mapped open_line (λ finding. refl) (open_in round)))
    (all_mapped rejected_line (λ finding. refl) (newly_rejected round))
  where
    front : List ReportLine
    front = Round round.number round.line round.now ∷ []

    steps : List ReportLine
    steps = flat_map lines_of_finding round.findings

    ranked : List ReportLine
    ranked = flat_map (λ finding. lines_if_ranked finding finding.status) (ranked_in_order round)

    opened : List ReportLine
    opened = map open_line (open_in round)

    rejected : List ReportLine
    rejected = map rejected_line (newly_rejected round)

-- After whole blocks, the lines of a round before its counts are what is begun.
pub begun_in_round : (lines : List ReportLine) (round : RoundOf) → begun_in lines ≡ [] → begun_in (lines ++ lines_before_counts round) ≡ lines_before_counts round
begun_in_round lines round none =
    fold-append begun_with [] lines (lines_before_counts round)
    ∙ ap (λ (b : List ReportLine). fold begun_with b (lines_before_counts round)) none
    ∙ within_begun [] (lines_before_counts round) (before_counts_within round)
