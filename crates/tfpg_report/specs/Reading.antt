-- What a reader of reports represents, and what it says of a line.
use Rattle.std.specs.Prelude.{◌≡◌, ◌⊎◌, ℕ, ◌+◌, ◌-◌, List, [], ◌∷◌, ◌++◌, length, fold, All, Bool, true, false, if◌then◌else◌, Some}
use Rattle.tfpg_base.specs.declared.terms.Terms.{Terms}
use Rattle.tfpg_graph.specs.Graph.{Tfpg}
use Rattle.tfpg_report.specs.declared.fed.Fed.{Fed}
use Rattle.tfpg_report.specs.declared.fed.Fed.TheVariants as fed
use Rattle.tfpg_report.specs.declared.stand.Stand.{Stand}
use Rattle.tfpg_report.specs.declared.read_round.ReadRound.{ReadRound}
use Rattle.tfpg_report.specs.declared.report_line.ReportLine.{ReportLine}
use Rattle.tfpg_report.specs.declared.report_line.ReportLine.TheVariants.{Head, OldHead, Refused, Counts, Panel}
use Rattle.tfpg_report.specs.ReportLines.{Says}
use Rattle.tfpg_report.specs.Stands.{stand_of}
use Rattle.tfpg_report.specs.ReadRounds.{numbered_from, lines_of_round, HasLineForEachStep}

-- The line ends what it belongs to: it is the first line, a refused line, the counts of a round, or the loss of a panel.
abbrev pub is_last : ReportLine → Bool
is_last (Head terms) = true
is_last (OldHead k budget) = true
is_last (Refused line cause) = true
is_last (Counts counts) = true
is_last (Panel panel memory) = true
is_last _ = false

-- the lines of a round that has not ended, among those of a report, with one more line
abbrev pub begun_with : List ReportLine → ReportLine → List ReportLine
begun_with begun line = if is_last line then [] else begun ++ line ∷ []

-- the lines of a round that has not ended, with which these lines of a report end
abbrev pub begun_in : List ReportLine → List ReportLine
begun_in lines = fold begun_with [] lines

-- The line is the first one of a report on these terms: in its older form it says that nothing is doubted.
abbrev pub IsHead : Terms → ReportLine → Type 0
IsHead terms line = (line ≡ Head terms) ⊎ ((terms.doubt ≡ 0) × (line ≡ OldHead terms.k terms.budget))

-- The round was read from these lines of a report, the first of which has this number.
pub record IsReadFrom (first : ℕ) (lines : List ReportLine) (round : ReadRound) : Type 0 where
  pub lines_are : lines_of_round round ≡ numbered_from first lines
  pub each_step : All HasLineForEachStep round.parts

-- What a line completes, after these lines of a report.
abbrev pub Completes : List ReportLine → ReportLine → Fed → Type 0
Completes before line fed.More = is_last line ≡ false
Completes before line (fed.Head k doubt budget) = IsHead (record { k = k; doubt = doubt; budget = budget }) line
Completes before line (fed.Refused number cause) = line ≡ Refused number cause
Completes before line (fed.Round round) =
    ((counts : _) × (line ≡ Counts counts))
    × IsReadFrom (length before - length (begun_in before) + 1) (begun_in before ++ line ∷ []) round
Completes before line (fed.Lost panel memory) = line ≡ Panel panel memory

-- The bytes say a line that may come after these lines of a report.
pub record MayCome (graph : Tfpg) (before : List ReportLine) (bytes : List ℕ) (line : ReportLine) : Type 0 where
  pub says : Says graph line bytes
  pub stand : Stand
  pub stands : stand_of (before ++ line ∷ []) ≡ Some stand
