-- Lines with their numbers, one more of them.
use Rattle.std.proofs.Common.{◌≡◌, ℕ, suc, ◌+◌, ◌<◌, List, [], ◌∷◌, ◌++◌, length, All, refl, sym, ap, ◌∙◌, append_assoc, append-nil, length-append, arith}
use Rattle.std.proofs.lemmas.List.Elements.{All-head, All-tail}
use Rattle.tfpg_base.specs.Trace.{with_time}
use Rattle.tfpg_base.specs.declared.activation.Activation.{Activation}
use Rattle.tfpg_base.proofs.lemmas.Traces.{with_time-above}
use Rattle.tfpg_evidence.specs.declared.step.Step.{Step}
use Rattle.tfpg_report.specs.declared.read_round.Part.{Part}
use Rattle.tfpg_report.specs.declared.report_line.ReportLine.{ReportLine}
use Rattle.tfpg_report.specs.declared.report_line.ReportLine.TheVariants.{Hyp}
use Rattle.tfpg_report.specs.ReadRounds.{NumberedLine, numbered_from, step_lines, lines_of_steps, lines_of_part, HasLineForEachStep}
use Rattle.tfpg_report.specs.inside.Drafts.{part_with}

-- a line with its number
abbrev pub numbered : ℕ → ReportLine → NumberedLine
numbered number line = record { number = number; says = line }

-- One line more has the next number.
pub numbered_from_more : (first : ℕ) (lines : List ReportLine) (line : ReportLine) → numbered_from first (lines ++ line ∷ []) ≡ numbered_from first lines ++ numbered (first + length lines) line ∷ []
numbered_from_more first [] line = ap (λ n. numbered n line ∷ []) (omega arith)
numbered_from_more first (head ∷ others) line =
    ap (λ rest. numbered first head ∷ rest)
    (numbered_from_more (first + 1) others line
    ∙ ap (λ n. numbered_from (first + 1) others ++ numbered n line ∷ []) (omega arith))

-- as many numbered lines as lines
pub length-numbered_from : (first : ℕ) (lines : List ReportLine) → length (numbered_from first lines) ≡ length lines
length-numbered_from first [] = refl
length-numbered_from first (head ∷ others) = ap suc (length-numbered_from (first + 1) others)

-- Lines that end numbered ones are numbered too, up to the same number.
pub numbers_end : (before : List NumberedLine) (first : ℕ) (line : ReportLine) (others : List ReportLine) (whole_first : ℕ) (whole : List ReportLine) → before ++ numbered_from first (line ∷ others) ≡ numbered_from whole_first whole → first + length (line ∷ others) ≡ whole_first + length whole
numbers_end [] first line others whole_first [] same = absurd (omega (arith, ap length same))
numbers_end [] first line others whole_first (head ∷ tail) same =
    let lengths : suc (length (numbered_from (first + 1) others)) ≡ suc (length (numbered_from (whole_first + 1) tail)) = ap length same in
    let firsts : numbered first line ≡ numbered whole_first head = cc in
    omega (arith, lengths, ap (λ (l : NumberedLine). l.number) firsts, length-numbered_from (first + 1) others, length-numbered_from (whole_first + 1) tail)
numbers_end (earlier ∷ between) first line others whole_first [] same = absurd (omega (arith, ap length same))
numbers_end (earlier ∷ between) first line others whole_first (head ∷ tail) same =
    let rests : between ++ numbered_from first (line ∷ others) ≡ numbered_from (whole_first + 1) tail = cc in
    omega (arith, numbers_end between first line others (whole_first + 1) tail rests)

-- The lines of steps, one step more.
lines_of_steps_more : (firsts : List ℕ) (steps : List Step) (line : ℕ) (step : Step) → length firsts ≡ length steps → lines_of_steps (firsts ++ line ∷ []) (steps ++ step ∷ []) ≡ lines_of_steps firsts steps ++ numbered_from line (step_lines step)
lines_of_steps_more [] [] line step same = append-nil (numbered_from line (step_lines step))
lines_of_steps_more [] (head ∷ others) line step same = absurd (omega (arith, same))
lines_of_steps_more (first ∷ firsts) [] line step same = absurd (omega (arith, same))
lines_of_steps_more (first ∷ firsts) (head ∷ others) line step same =
    ap (λ rest. numbered_from first (step_lines head) ++ rest) (lines_of_steps_more firsts others line step (omega (arith, same)))
    ∙ sym (append_assoc (numbered_from first (step_lines head)) (lines_of_steps firsts others) (numbered_from line (step_lines step)))

-- The lines of a part, one step more.
pub lines_of_part_with : (line : ℕ) (step : Step) (part : Part) → HasLineForEachStep part → lines_of_part (part_with line step part) ≡ lines_of_part part ++ numbered_from line (step_lines step)
lines_of_part_with line step part has =
    ap (λ rest. numbered part.first_line (Hyp part.number) ∷ rest) (lines_of_steps_more part.step_lines part.steps line step has)

-- A part has a line for one more step.
pub has_line_with : (line : ℕ) (step : Step) (part : Part) → HasLineForEachStep part → HasLineForEachStep (part_with line step part)
has_line_with line step part has =
    length-append part.step_lines (line ∷ []) ∙ ap (λ n. n + 1) has ∙ sym (length-append part.steps (step ∷ []))

-- A time for a node above all others goes to the end of a trace.
pub with_time_at_end : (node time : ℕ) (trace : List Activation) → All (λ activation. activation.node < node) trace → with_time node time trace ≡ trace ++ record { node = node; time = time } ∷ []
with_time_at_end node time [] below = refl
with_time_at_end node time (first ∷ others) below =
    with_time-above node time first others (All-head (λ (activation : Activation). activation.node < node) first others below)
    ∙ ap (λ rest. first ∷ rest) (with_time_at_end node time others (All-tail (λ (activation : Activation). activation.node < node) first others below))
