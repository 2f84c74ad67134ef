-- What a reader may return for the lines of what `render` appends for a round.
use Rattle.std.specs.Prelude.{◌≡◌, ℕ, List, [], ◌∷◌, ◌++◌, All, Result, Ok, Err}
use Rattle.tfpg_graph.specs.Graph.{Tfpg}
use Rattle.tfpg_evidence.specs.declared.round.Round.{Round}
use Rattle.tfpg_report.specs.declared.fed.Fed.{Fed}
use Rattle.tfpg_report.specs.declared.fed.Fed.TheVariants as fed
use Rattle.tfpg_report.specs.declared.fed.ReadRefusal.{ReadRefusal}
use Rattle.tfpg_report.specs.declared.fed.ReadRefusal.TheVariants.{BadReport, NoMemory}
use Rattle.tfpg_report.specs.declared.report_line.ReportLine.{ReportLine}
use Rattle.tfpg_report.specs.ReportLines.{Says, written_line}
use Rattle.tfpg_report.specs.Blocks.{round_lines}
use Rattle.tfpg_report.specs.InOrder.{HasRisingTraces}
use Rattle.tfpg_report.specs.ReadBack.{IsReadBack}
use Rattle.tfpg_report.specs.Represents.{ReaderState, TakesReportLine, NoneMayCome}

-- A round is within the limits of the format: each of its lines, as it is written, names what the graph has, has numbers
-- within their limits and is not too long; and its traces rise by node.
pub record IsWithinFormat (graph : Tfpg) (round : Round) : Type 0 where
  pub lines : All (λ line. Says graph line (written_line graph line)) (round_lines round)
  pub traces : HasRisingTraces round

-- What a reader that represents some lines may return for more, one by one: what each completes, or that it says none that may
-- come, or that memory ran out. After a line that it refuses it is given no more.
abbrev pub MayReturnInTurn : Tfpg → List ReportLine → List (List ℕ) → List (Result Fed ReadRefusal) → Type 0
MayReturnInTurn graph before [] results = results ≡ []
MayReturnInTurn graph before (bytes ∷ others) [] = ⊥
MayReturnInTurn graph before (bytes ∷ others) (Ok completed ∷ results) =
    (now : ReaderState) × (takes : TakesReportLine graph before bytes now completed)
    × MayReturnInTurn graph (before ++ takes.read ∷ []) others results
MayReturnInTurn graph before (bytes ∷ others) (Err (BadReport at) ∷ results) = NoneMayCome graph before bytes × (results ≡ [])
MayReturnInTurn graph before (bytes ∷ others) (Err NoMemory ∷ results) = results ≡ []

-- Each line but the last completes nothing, and the last completes this round; or memory ran out at one of them.
abbrev pub CompletesRound : Round → List (Result Fed ReadRefusal) → Type 0
CompletesRound round (Ok fed.More ∷ results) = CompletesRound round results
CompletesRound round (Ok (fed.Round read) ∷ results) = IsReadBack round read × (results ≡ [])
CompletesRound round (Err NoMemory ∷ results) = results ≡ []
CompletesRound round _ = ⊥
