-- The lines that a round was read from, each with its number in the report.
use Rattle.std.specs.Prelude.{◌≡◌, ℕ, ◌+◌, List, [], ◌∷◌, ◌++◌, length, map, flat_map}
use Rattle.tfpg_base.specs.Hypothesis.{Hypothesis}
use Rattle.tfpg_evidence.specs.declared.step.Step.{Step}
use Rattle.tfpg_evidence.specs.declared.step.Step.TheVariants as step
use Rattle.tfpg_report.specs.declared.read_round.Part.{Part}
use Rattle.tfpg_report.specs.declared.read_round.RankedLine.{RankedLine}
use Rattle.tfpg_report.specs.declared.read_round.NamedSet.{NamedSet}
use Rattle.tfpg_report.specs.declared.read_round.ReadRound.{ReadRound}
use Rattle.tfpg_report.specs.declared.report_line.ReportLine.{ReportLine}
use Rattle.tfpg_report.specs.declared.report_line.ReportLine.TheVariants.{Round, Hyp, Split, Cycle, Why, Again, Ranked, At, Open, Rejected, Counts}

-- the hypothesis that the line of a ranked one names
abbrev pub hypothesis_ranked : RankedLine → Hypothesis
hypothesis_ranked ranked = record { set = ranked.set; doubts = ranked.doubts }

-- the hypothesis that the line of an open or a rejected one names
abbrev pub hypothesis_named : NamedSet → Hypothesis
hypothesis_named named = record { set = named.set; doubts = named.doubts }

-- a line of a report, with its number
pub record NumberedLine : Type 0 where
  pub number : ℕ
  pub says : ReportLine

-- lines with their numbers, the first of which is this
abbrev pub numbered_from : ℕ → List ReportLine → List NumberedLine
numbered_from number [] = []
numbered_from number (line ∷ lines) = record { number = number; says = line } ∷ numbered_from (number + 1) lines

-- the lines of a step
abbrev pub step_lines : Step → List ReportLine
step_lines (step.Split name) = Split name ∷ []
step_lines (step.Cycle reasons) = Cycle (length reasons) ∷ map Why reasons
step_lines step.Again = Again ∷ []

-- the lines of steps, each of which begins on its line
abbrev pub lines_of_steps : List ℕ → List Step → List NumberedLine
lines_of_steps [] steps = []
lines_of_steps (first ∷ firsts) [] = []
lines_of_steps (first ∷ firsts) (step ∷ steps) = numbered_from first (step_lines step) ++ lines_of_steps firsts steps

-- the lines of a hypothesis with its steps
abbrev pub lines_of_part : Part → List NumberedLine
lines_of_part part =
    record { number = part.first_line; says = Hyp part.number } ∷ lines_of_steps part.step_lines part.steps

-- the lines of a ranked hypothesis with its trace
abbrev pub lines_of_ranked : RankedLine → List NumberedLine
lines_of_ranked r =
    numbered_from r.first_line (Ranked r.number r.cost r.alarmed r.monitored (hypothesis_ranked r) ∷ map At r.trace)

-- the line of an open hypothesis
abbrev pub line_of_open : NamedSet → NumberedLine
line_of_open named = record { number = named.first_line; says = Open named.number (hypothesis_named named) }

-- the line of a rejected hypothesis
abbrev pub line_of_rejected : NamedSet → NumberedLine
line_of_rejected named = record { number = named.first_line; says = Rejected named.number (hypothesis_named named) }

-- the lines that a round was read from, each with its number
abbrev pub lines_of_round : ReadRound → List NumberedLine
lines_of_round round =
    record { number = round.first_line; says = Round round.number round.line round.now }
    ∷ flat_map lines_of_part round.parts
    ++ flat_map lines_of_ranked round.ranked
    ++ map line_of_open round.unsettled
    ++ map line_of_rejected round.rejected
    ++ record { number = round.counts_line; says = Counts round.counts } ∷ []

-- Each step of the part has a line on which it begins.
abbrev pub HasLineForEachStep : Part → Type 0
HasLineForEachStep part = length part.step_lines ≡ length part.steps
