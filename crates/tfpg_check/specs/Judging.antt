-- What a round of a report must say, and for which cause it is refused.
use Rattle.std.specs.Prelude.{◌≡◌, ◌⊎◌, ◌↔◌, ℕ, ◌+◌, ◌<◌, List, [], length, map, find, All, AllPairs, Contains, ◌==◌, Some, option_map, unwrap_or, slice_get}
use Rattle.tfpg_base.specs.declared.terms.Terms.{Terms}
use Rattle.tfpg_base.specs.Hypothesis.{Hypothesis, IsProperPart}
use Rattle.tfpg_graph.specs.Graph.{Tfpg}
use Rattle.tfpg_log.specs.Log.{Logbook, now_of}
use Rattle.tfpg_log.specs.Explains.{Explains}
use Rattle.tfpg_evidence.specs.declared.step.Step.{Step}
use Rattle.tfpg_clause.specs.Trees.{Judged, IsRefutation, split_count}
use Rattle.tfpg_clause.specs.Paths.{judged_by, with_steps}
use Rattle.tfpg_kernel.specs.declared.taken.BadStep.{BadStep}
use Rattle.tfpg_kernel.specs.declared.taken.BadStep.TheVariants as bad
use Rattle.tfpg_kernel.specs.Breaks.{IsFirstBroken}
use Rattle.tfpg_hyp.specs.Views.{IsReachOf, case_for, log_for}
use Rattle.tfpg_hyp.specs.Ranking.{cost_of, robustness_of, IsRankedBefore}
use Rattle.tfpg_hyp.specs.declared.place.Place.{Place}
use Rattle.tfpg_report.specs.declared.read_round.Part.{Part}
use Rattle.tfpg_report.specs.declared.read_round.RankedLine.{RankedLine}
use Rattle.tfpg_report.specs.declared.read_round.NamedSet.{NamedSet}
use Rattle.tfpg_report.specs.declared.read_round.ReadRound.{ReadRound}
use Rattle.tfpg_report.specs.ReadRounds.{hypothesis_ranked, hypothesis_named}
use Rattle.tfpg_check.specs.declared.cause.CheckCause.{CheckCause}
use Rattle.tfpg_check.specs.declared.cause.CheckCause.TheVariants as cause
use Rattle.tfpg_check.specs.Tests.{Fails, Owes, Then, InTurn, DifferFirstAt}

-- What a round of a report is judged by: the graph, the terms with their hypotheses, the steps that each of these has had so far,
-- by its number, and the log with the event of the round.
pub record RoundBasis : Type 0 where
  pub graph : Tfpg
  pub terms : Terms
  pub hypotheses : List Hypothesis
  pub steps : ℕ → List Judged
  pub log : Logbook

-- This is the hypothesis of the number.
abbrev pub IsNumberOf : RoundBasis → ℕ → Hypothesis → Type 0
IsNumberOf basis number hypothesis = slice_get basis.hypotheses number ≡ Some hypothesis

-- the steps that the round has for the hypothesis of a number
abbrev pub steps_read : ReadRound → ℕ → List Step
steps_read read number =
    unwrap_or (option_map (λ (part : Part). part.steps) (find (λ (part : Part). part.number == number) read.parts)) []

-- These steps of the hypothesis of the number are a refutation.
pub record AreClosed (basis : RoundBasis) (number : ℕ) (steps : List Judged) : Type 0 where
  pub hypothesis : Hypothesis
  pub listed : IsNumberOf basis number hypothesis
  pub reach : List ℕ
  pub reach_is : IsReachOf basis.graph hypothesis reach
  pub refutation : IsRefutation (case_for basis.graph basis.log hypothesis reach) steps

-- The tree of the hypothesis was closed in an earlier round.
abbrev pub WasClosed : RoundBasis → ℕ → Type 0
WasClosed basis number = AreClosed basis number (basis.steps number)

-- The tree of the hypothesis is closed, in this round or an earlier one.
abbrev pub IsClosedByRound : RoundBasis → ReadRound → ℕ → Type 0
IsClosedByRound basis read number =
    AreClosed basis number (with_steps (basis.steps number) basis.log (steps_read read number))

-- The first line of the round is that of the line of this number of the log.
pub record BeginsWell (basis : RoundBasis) (line : ℕ) (read : ReadRound) : Type 0 where
  pub number : read.number ≡ length basis.log.events
  pub line_is : read.line ≡ line
  pub now : read.now ≡ now_of basis.log

-- The hypothesis may have steps, after those of the parts before: numbers rise, it is in the table, and was not rejected in an
-- earlier round.
pub record MayHaveSteps (basis : RoundBasis) (before : List Part) (part : Part) : Type 0 where
  pub rising : All (λ (earlier : Part). earlier.number < part.number) before
  pub hypothesis : Hypothesis
  pub listed : IsNumberOf basis part.number hypothesis
  pub not_closed : WasClosed basis part.number → ⊥

-- the cause for a step that breaks a condition
abbrev pub cause_of_step : BadStep → CheckCause
cause_of_step bad.AfterClosed = cause.AfterClosed
cause_of_step bad.NotReusable = cause.NotReusable
cause_of_step bad.NotAClause = cause.NotAClause
cause_of_step bad.NotAFact = cause.NotAFact
cause_of_step bad.NotOnPath = cause.NotOnPath
cause_of_step bad.Unchained = cause.Unchained
cause_of_step bad.NotNegative = cause.NotNegative

-- The step of a part, after these steps of it, breaks a condition.
pub record StepFails (basis : RoundBasis) (part : Part) (before : List Step) (step : Step) (line : ℕ) (why : CheckCause) : Type 0 where
  pub hypothesis : Hypothesis
  pub listed : IsNumberOf basis part.number hypothesis
  pub reach : List ℕ
  pub reach_is : IsReachOf basis.graph hypothesis reach
  pub at : slice_get part.step_lines (length before) ≡ Some line
  pub broken : BadStep
  pub cause_is : why ≡ cause_of_step broken
  pub first : IsFirstBroken (case_for basis.graph basis.log hypothesis reach)
      (with_steps (basis.steps part.number) basis.log before) (judged_by basis.log step) broken

-- A part fails by its number, or by a step.
abbrev pub PartFails : RoundBasis → List Part → Part → Fails
PartFails basis before part =
    Then (Owes (MayHaveSteps basis before part) part.first_line cause.WrongHypothesis)
    (InTurn (StepFails basis part) [] part.steps)

-- what a ranked line says of its place in the order
abbrev pub key_read : RankedLine → Place
key_read r = record { cost = r.cost; robust = record { alarmed = r.alarmed; monitored = r.monitored }; number = r.number }

-- A proper part of the hypothesis stands among the ranked lines of the round.
pub record HasRankedPartIn (basis : RoundBasis) (read : ReadRound) (hypothesis : Hypothesis) : Type 0 where
  pub other : RankedLine
  pub ranked : Contains read.ranked other
  pub part : Hypothesis
  pub listed : IsNumberOf basis other.number part
  pub proper : IsProperPart part hypothesis

-- The hypothesis may be ranked, after the ranked ones before: it is in the table with this set, its tree is not closed, cost,
-- robustness and place are right, and no proper part of it is ranked.
pub record MayBeRanked (basis : RoundBasis) (read : ReadRound) (before : List RankedLine) (r : RankedLine) : Type 0 where
  pub listed : IsNumberOf basis r.number (hypothesis_ranked r)
  pub not_closed : IsClosedByRound basis read r.number → ⊥
  pub cost : r.cost ≡ cost_of basis.graph (hypothesis_ranked r)
  pub reach : List ℕ
  pub reach_is : IsReachOf basis.graph (hypothesis_ranked r) reach
  pub robust : robustness_of basis.graph basis.log reach r.doubts ≡ record { alarmed = r.alarmed; monitored = r.monitored }
  pub in_order : All (λ (earlier : RankedLine). IsRankedBefore (key_read earlier) (key_read r)) before
  pub no_part : HasRankedPartIn basis read (hypothesis_ranked r) → ⊥

-- A ranked hypothesis fails by what its line says, or by its trace.
abbrev pub RankedFails : RoundBasis → ReadRound → List RankedLine → RankedLine → Fails
RankedFails basis read before r =
    Then (Owes (MayBeRanked basis read before r) r.first_line cause.WrongRanked)
    (Owes (Explains basis.graph (log_for basis.log (hypothesis_ranked r)) r.set r.trace) r.first_line cause.NotATrace)

-- A ranked line has this number.
abbrev pub IsRankedLine : ReadRound → ℕ → Type 0
IsRankedLine read number = (r : RankedLine) × Contains read.ranked r × (r.number ≡ number)

-- An open line has this number.
abbrev pub IsOpenLine : ReadRound → ℕ → Type 0
IsOpenLine read number = (named : NamedSet) × Contains read.unsettled named × (named.number ≡ number)

-- The hypothesis may be open, after the open ones before: numbers rise, it is in the table with this set, its tree is not closed,
-- neither it nor a proper part of it is ranked, and its splits of this round are as many as the budget.
pub record MayBeOpen (basis : RoundBasis) (read : ReadRound) (before : List NamedSet) (named : NamedSet) : Type 0 where
  pub rising : All (λ (earlier : NamedSet). earlier.number < named.number) before
  pub listed : IsNumberOf basis named.number (hypothesis_named named)
  pub not_closed : IsClosedByRound basis read named.number → ⊥
  pub not_ranked : IsRankedLine read named.number → ⊥
  pub no_part : HasRankedPartIn basis read (hypothesis_named named) → ⊥
  pub spent : split_count (steps_read read named.number) ≡ basis.terms.budget

-- An open hypothesis fails by what its line says.
abbrev pub OpenFails : RoundBasis → ReadRound → List NamedSet → NamedSet → Fails
OpenFails basis read before named = Owes (MayBeOpen basis read before named) named.first_line cause.WrongOpen

-- a hypothesis with its number
pub record NumberedHypothesis : Type 0 where
  pub number : ℕ
  pub hypothesis : Hypothesis

-- what the line of a set names
abbrev pub named_hypothesis : NamedSet → NumberedHypothesis
named_hypothesis named = record { number = named.number; hypothesis = hypothesis_named named }

-- These are the hypotheses whose trees were closed in this round, by rising numbers.
pub record AreNewlyClosed (basis : RoundBasis) (read : ReadRound) (closed : List NumberedHypothesis) : Type 0 where
  pub rising : AllPairs (λ (earlier later : NumberedHypothesis). earlier.number < later.number) closed
  pub exact : (number : ℕ) (hypothesis : Hypothesis) → Contains closed (record { number = number; hypothesis = hypothesis })
      ↔ (IsNumberOf basis number hypothesis × IsClosedByRound basis read number × (WasClosed basis number → ⊥))

-- The rejected lines are not those of the hypotheses whose trees were closed in this round: they differ first at this index. The
-- line is the one there, and else that of the counts.
pub record RejectedFails (basis : RoundBasis) (read : ReadRound) (line : ℕ) (why : CheckCause) : Type 0 where
  pub closed : List NumberedHypothesis
  pub are : AreNewlyClosed basis read closed
  pub index : ℕ
  pub differ : DifferFirstAt (map named_hypothesis read.rejected) closed index
  pub at : unwrap_or (option_map (λ (named : NamedSet). named.first_line) (slice_get read.rejected index)) read.counts_line ≡ line
  pub cause_is : why ≡ cause.WrongRejected

-- The hypothesis of the number has a status: its tree is closed, it is ranked, it is open, or it has no steps in this round and
-- a proper part of it is ranked. The tests before let it have one alone.
abbrev pub HasStatus : RoundBasis → ReadRound → ℕ → Hypothesis → Type 0
HasStatus basis read number hypothesis =
    IsClosedByRound basis read number
    ⊎ (IsRankedLine read number
    ⊎ (IsOpenLine read number
    ⊎ ((steps_read read number ≡ []) × HasRankedPartIn basis read hypothesis)))

-- Each hypothesis has a status.
abbrev pub EachHasStatus : RoundBasis → ReadRound → Type 0
EachHasStatus basis read =
    (number : ℕ) (hypothesis : Hypothesis) → IsNumberOf basis number hypothesis → HasStatus basis read number hypothesis

-- The counts are right: as many are ranked and open as there are such lines, as many are rejected as there are closed trees, and
-- the others are covered.
pub record AreRightCounts (basis : RoundBasis) (read : ReadRound) : Type 0 where
  pub ranked : read.counts.ranked ≡ length read.ranked
  pub unsettled : read.counts.unsettled ≡ length read.unsettled
  pub closed : List ℕ
  pub rising : AllPairs (λ (earlier later : ℕ). earlier < later) closed
  pub exact : (number : ℕ) → Contains closed number ↔ IsClosedByRound basis read number
  pub rejected : read.counts.rejected ≡ length closed
  pub all : read.counts.ranked + read.counts.covered + read.counts.rejected + read.counts.unsettled ≡ length basis.hypotheses

-- A round for the line of this number of the log fails by the first of these tests, in this order.
abbrev pub RoundFails : RoundBasis → ℕ → ReadRound → Fails
RoundFails basis number read =
    Then (Owes (BeginsWell basis number read) read.first_line cause.WrongRound)
    (Then (InTurn (PartFails basis) [] read.parts)
    (Then (InTurn (RankedFails basis read) [] read.ranked)
    (Then (InTurn (OpenFails basis read) [] read.unsettled)
    (Then (RejectedFails basis read)
    (Then (Owes (EachHasStatus basis read) read.counts_line cause.WrongStatus)
    (Owes (AreRightCounts basis read) read.counts_line cause.WrongCounts))))))
