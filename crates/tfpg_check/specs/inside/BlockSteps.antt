-- What the judge does with what a line completes, and with a line of the log.
use Rattle.std.specs.Prelude.{◌≡◌, ◌⊎◌, ℕ, ◌+◌, ◌<◌, ◌≤◌, List, [], ◌∷◌, Option, Some, None, Result, Ok, Err}
use Rattle.tfpg_base.specs.declared.terms.Terms.{Terms}
use Rattle.tfpg_base.specs.declared.limits.TheConstants.{MAX_DOUBT}
use Rattle.tfpg_graph.specs.Graph.{Tfpg}
use Rattle.tfpg_log.specs.declared.event.Event.{Event}
use Rattle.tfpg_log.specs.Log.{Logbook, IsLogOf, GoesOn}
use Rattle.tfpg_log.specs.LogOfLines.{log_after}
use Rattle.tfpg_hyp.specs.Hypotheses.{HasHypotheses, IsTableOf}
use Rattle.tfpg_hyp.specs.declared.limits.TheConstants.{MAX_HYPOTHESES}
use Rattle.tfpg_report.specs.declared.fed.Fed.{Fed}
use Rattle.tfpg_report.specs.declared.fed.Fed.TheVariants as fed
use Rattle.tfpg_log.specs.declared.refused_line.RefusedLine.{RefusedLine}
use Rattle.tfpg_report.specs.declared.read_round.ReadRound.{ReadRound}
use Rattle.tfpg_check.specs.declared.cause.CheckCause.{CheckCause}
use Rattle.tfpg_check.specs.declared.cause.CheckCause.TheVariants as cause
use Rattle.tfpg_check.specs.declared.block_judge.NextLine.{NextLine}
use Rattle.tfpg_check.specs.declared.block_judge.NextLine.TheVariants as next
use Rattle.tfpg_check.specs.declared.judge_fault.JudgeFault.{JudgeFault}
use Rattle.tfpg_check.specs.declared.judge_fault.JudgeFault.TheVariants as judge
use Rattle.tfpg_check.specs.declared.round_fault.RoundFault.{RoundFault}
use Rattle.tfpg_check.specs.declared.round_fault.RoundFault.TheVariants as round
use Rattle.tfpg_check.specs.Report.{event_of_line}
use Rattle.tfpg_check.specs.Tests.{Fails}
use Rattle.tfpg_check.specs.Judging.{RoundBasis, RoundFails}
use Rattle.tfpg_check.specs.HypothesesState.{HypothesesState, KeepsBasis}
use Rattle.tfpg_check.specs.inside.AfterRound.{after_round}
use Rattle.tfpg_check.specs.inside.ReadRoundOf.{IsReadRoundOf}
use Rattle.tfpg_check.specs.JudgeState.{BlocksState}
use Rattle.tfpg_check.specs.Passing.{RoundPasses}

-- ---- what is kept, whatever came before

-- The log and the table of hypotheses, if there is one, are of the graph, and the log ignores no monitor.
pub record AreOfGraph (graph : Tfpg) (log : Logbook) (hypotheses : Option HypothesesState) : Type 0 where
  pub log_of : IsLogOf graph log
  pub ignores_none : log.ignored ≡ []
  pub table_of : (kept : HypothesesState) → hypotheses ≡ Some kept → IsTableOf graph kept.terms kept.table

-- What a line completes names what the graph has, and there are hypotheses where it is a round.
abbrev pub IsFedOf : Tfpg → Option HypothesesState → Fed → Type 0
IsFedOf graph hypotheses fed.More = Unit {0}
IsFedOf graph hypotheses (fed.Head k doubt budget) = doubt ≤ MAX_DOUBT
IsFedOf graph hypotheses (fed.Refused number cause) = Unit {0}
IsFedOf graph hypotheses (fed.Round read) = IsReadRoundOf graph read × ((hypotheses ≡ None) → ⊥)
IsFedOf graph hypotheses (fed.Lost panel no_memory) = Unit {0}

-- ---- the next line of the log

-- what is kept after one more line of the log
abbrev pub after_line : BlocksState → List ℕ → List (List ℕ) → BlocksState
after_line before text rest =
    record before {
      log_lines = record { passed = before.log_lines.passed + 1; left = rest };
      log = log_after before.graph before.log text;
    }

-- The next line of the log is this one, and brings this.
pub record NextBrings (state : BlocksState) (brings : Result Event RefusedLine) : Type 0 where
  pub text : List ℕ
  pub rest : List (List ℕ)
  pub left : state.log_lines.left ≡ text ∷ rest
  pub event : event_of_line state.graph state.log text ≡ brings

-- The next line of the log brings this, and then what is kept is as after it.
pub record PassesLine (old new : BlocksState) (brings : Result Event RefusedLine) : Type 0 where
  pub next : NextBrings old brings
  pub after : new ≡ after_line old next.text next.rest

-- a line of the log, by what it brings
abbrev pub line_of_event : Result Event RefusedLine → NextLine
line_of_event (Ok event) = next.Accepted
line_of_event (Err refused) = next.Refused refused

-- What the next line of the log is, if there is one.
abbrev pub IsNextLine : BlocksState → BlocksState → NextLine → Type 0
IsNextLine old new next.Missing = (old.log_lines.left ≡ []) × (new ≡ old)
IsNextLine old new (next.Refused refused) = PassesLine old new (Err refused)
IsNextLine old new next.Accepted = (event : Event) × PassesLine old new (Ok event)

-- ---- what a line completes

-- what a line of a report says of a refused line: where it stands, the number, and the cause
pub record SaidRefused : Type 0 where
  pub at : ℕ
  pub number : ℕ
  pub cause : RefusedLine

-- The line of a refused line fails where the next line of the log is not refused for this cause, or has another number.
abbrev pub RefusedFails : ℕ → ℕ → RefusedLine → ℕ → Result Event RefusedLine → Fails
RefusedFails first number said next (Err refused) line why =
    (line ≡ first) × (why ≡ cause.WrongRound) × ((said ≡ refused) × (number ≡ next) → ⊥)
RefusedFails first number said next (Ok event) line why = (line ≡ first) × (why ≡ cause.WrongRound)

-- It is wrong: there is no next line of the log, or that brings something else.
abbrev pub RefusedIsWrong : SaidRefused → BlocksState → ℕ → CheckCause → Type 0
RefusedIsWrong said old line why =
    ((old.log_lines.left ≡ []) × (line ≡ said.at) × (why ≡ cause.Surplus))
    ⊎ ((brings : Result Event RefusedLine) × NextBrings old brings
    × RefusedFails said.at said.number said.cause (old.log_lines.passed + 1) brings line why)

-- what is returned for it
abbrev pub IsRefusedJudged : SaidRefused → BlocksState → BlocksState → Result (Unit {0}) RoundFault → Type 0
IsRefusedJudged said old new (Ok done) = PassesLine old new (Err said.cause) × (said.number ≡ old.log_lines.passed + 1)
IsRefusedJudged said old new (Err (round.NotAccepted line why)) = RefusedIsWrong said old line why
IsRefusedJudged said old new (Err round.NoMemory) = Unit {0}

-- By this basis, of which this is kept, the round of the last line of the log is judged.
pub record JudgesBy (state : BlocksState) (basis : RoundBasis) (kept : HypothesesState) : Type 0 where
  pub is_kept : state.hypotheses ≡ Some kept
  pub graph : basis.graph ≡ state.graph
  pub log : basis.log ≡ state.log
  pub earlier : Logbook
  pub goes_on : GoesOn earlier state.log
  pub keeps : KeepsBasis basis earlier kept

-- The round passes, and what is kept then is with its steps.
pub record RoundIsRight (read : ReadRound) (state new : BlocksState) : Type 0 where
  pub kept : HypothesesState
  pub after : new ≡ record state { hypotheses = Some kept }
  pub passes : (basis : RoundBasis) (before : HypothesesState) → JudgesBy state basis before
      → RoundPasses basis state.log_lines.passed read × KeepsBasis (after_round basis read) basis.log kept

-- what is returned for a round, once its line of the log is passed
abbrev pub IsJudgedByHypotheses : ReadRound → BlocksState → BlocksState → Result (Unit {0}) RoundFault → Type 0
IsJudgedByHypotheses read state new (Ok done) = RoundIsRight read state new
IsJudgedByHypotheses read state new (Err (round.NotAccepted line why)) =
    (basis : RoundBasis) (before : HypothesesState) → JudgesBy state basis before → RoundFails basis state.log_lines.passed read line why
IsJudgedByHypotheses read state new (Err round.NoMemory) = Unit {0}

-- It is wrong: there is no next line of the log, it is refused, or a test fails.
abbrev pub RoundIsWrong : ReadRound → BlocksState → ℕ → CheckCause → Type 0
RoundIsWrong read old line why =
    ((old.log_lines.left ≡ []) × (line ≡ read.first_line) × (why ≡ cause.Surplus))
    ⊎ (((refused : RefusedLine) × NextBrings old (Err refused) × (line ≡ read.first_line) × (why ≡ cause.WrongRound))
    ⊎ ((event : Event) × (state : BlocksState) × PassesLine old state (Ok event)
    × ((basis : RoundBasis) (before : HypothesesState) → JudgesBy state basis before → RoundFails basis state.log_lines.passed read line why)))

-- what is returned for a round
abbrev pub IsRoundJudged : ReadRound → BlocksState → BlocksState → Result (Unit {0}) RoundFault → Type 0
IsRoundJudged read old new (Ok done) =
    (event : Event) × (state : BlocksState) × PassesLine old state (Ok event) × RoundIsRight read state new
IsRoundJudged read old new (Err (round.NotAccepted line why)) = RoundIsWrong read old line why
IsRoundJudged read old new (Err round.NoMemory) = Unit {0}

-- The hypotheses on these terms are kept, each without a step, and they are not too many.
pub record KeepsTerms (terms : Terms) (old new : BlocksState) : Type 0 where
  pub kept : HypothesesState
  pub after : new ≡ record old { hypotheses = Some kept }
  pub on_terms : kept.terms ≡ terms
  pub table : IsTableOf old.graph kept.terms kept.table
  pub keeps : (basis : RoundBasis) (log : Logbook) → basis.graph ≡ old.graph → basis.terms ≡ terms
      → basis.hypotheses ≡ kept.table.hypotheses → ((number : ℕ) → basis.steps number ≡ []) → KeepsBasis basis log kept
  pub few : (count : ℕ) → HasHypotheses old.graph terms count → count ≤ MAX_HYPOTHESES

-- what is returned for the first line
abbrev pub IsHeadJudged : Terms → BlocksState → BlocksState → Result (Unit {0}) JudgeFault → Type 0
IsHeadJudged terms old new (Ok done) = KeepsTerms terms old new
IsHeadJudged terms old new (Err (judge.NotAccepted line why)) = ⊥
IsHeadJudged terms old new (Err (judge.TooMany count)) = (MAX_HYPOTHESES < count) × HasHypotheses old.graph terms count
IsHeadJudged terms old new (Err judge.NoMemory) = Unit {0}

-- the faults of a round among all
abbrev pub OnRound : (Result (Unit {0}) RoundFault → Type 0) → Result (Unit {0}) JudgeFault → Type 0
OnRound P (Ok done) = P (Ok done)
OnRound P (Err (judge.NotAccepted line why)) = P (Err (round.NotAccepted line why))
OnRound P (Err (judge.TooMany count)) = ⊥
OnRound P (Err judge.NoMemory) = P (Err round.NoMemory)

-- what is returned for what the line with this number completes
abbrev pub IsFedJudged : ℕ → Fed → BlocksState → BlocksState → Result (Unit {0}) JudgeFault → Type 0
IsFedJudged at fed.More old new result = (result ≡ Ok tt) × (new ≡ old)
IsFedJudged at (fed.Head k doubt budget) old new result =
    IsHeadJudged (record { k = k; doubt = doubt; budget = budget }) old new result
IsFedJudged at (fed.Refused number cause) old new result =
    OnRound (IsRefusedJudged (record { at = at; number = number; cause = cause }) old new) result
IsFedJudged at (fed.Round read) old new result = OnRound (IsRoundJudged read old new) result
IsFedJudged at (fed.Lost panel no_memory) old new result = (result ≡ Ok tt) × (new ≡ old)
