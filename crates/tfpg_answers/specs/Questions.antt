-- The questions at the end of a log, and their text.
use Rattle.std.specs.Prelude.{◌≡◌, ◌⊎◌, ℕ, ◌≤◌, List, [], ◌∷◌, ◌++◌, length, flat_map, codes, decimal, All, Option, Some, None}
use Rattle.tfpg_base.specs.Choice.{numbers_from}
use Rattle.tfpg_base.specs.Hypothesis.{Hypothesis}
use Rattle.tfpg_base.specs.Lines.{lines_of}
use Rattle.tfpg_base.specs.TextLine.{text_line}
use Rattle.tfpg_base.specs.declared.terms.Terms.{Terms}
use Rattle.tfpg_graph.specs.Graph.{Tfpg, name_word}
use Rattle.tfpg_log.specs.Log.{Logbook, now_of}
use Rattle.tfpg_log.specs.LogOfLines.{log_of_lines}
use Rattle.tfpg_evidence.specs.declared.round.Round.{Round}
use Rattle.tfpg_hyp.specs.Table.{IsTable}
use Rattle.tfpg_hyp.specs.declared.limits.TheConstants.{MAX_HYPOTHESES}
use Rattle.tfpg_engine.specs.Work.{is_ranked_or_open}
use Rattle.tfpg_whatif.specs.declared.question.Question.{Question}
use Rattle.tfpg_whatif.specs.Outcomes.{Asked}
use Rattle.tfpg_whatif.specs.Questions.{AreQuestions, HasNoRoom}
use Rattle.tfpg_whatif.specs.Foresight.{IsKnownIfEnough}
use Rattle.tfpg_diagnose.specs.Rounds.{IsLastRound}

-- The numbers of the hypotheses that the last round leaves: the ranked and the open ones, rising. Before the first round there are none.
abbrev pub left_by : Option Round → List ℕ
left_by None = []
left_by (Some round) = numbers_from 0 (λ finding. is_ranked_or_open finding.status) round.findings

-- the first line: the time of the last event, and how many hypotheses are ranked and how many open
abbrev pub counts_line : ℕ → ℕ → ℕ → List ℕ
counts_line now ranked unsettled =
    text_line (codes "questions" ∷ codes "now" ∷ decimal now ∷ codes "ranked" ∷ decimal ranked ∷ codes "open" ∷ decimal unsettled ∷ [])

-- the first line after a log, by its last round
abbrev pub first_line : Logbook → Option Round → List ℕ
first_line log None = counts_line (now_of log) 0 0
first_line log (Some round) = counts_line (now_of log) round.counts.ranked round.counts.unsettled

-- the line of a question
abbrev pub question_line : Tfpg → Question → List ℕ
question_line graph question =
    text_line (codes "ask" ∷ name_word graph question.node ∷ codes "silent" ∷ decimal question.silent_out
    ∷ codes "alarm" ∷ decimal question.alarm_out ∷ codes "unknown" ∷ decimal question.unknown ∷ [])

-- The text has a line for each question, in their order. Where the budget is always enough, they have nothing unknown.
pub record ListsQuestions (asked : Asked) (text : List ℕ) : Type 0 where
  pub questions : List Question
  pub are : AreQuestions asked questions
  pub known : All (IsKnownIfEnough asked) questions
  pub room : HasNoRoom asked.graph asked.log → ⊥
  pub text_is : text ≡ flat_map (question_line asked.graph) questions

-- The text says which questions would tell most; or the log takes no further event, where some node could be asked, and the text is one line.
abbrev pub AnswersAsked : Asked → List ℕ → Type 0
AnswersAsked asked text =
    ListsQuestions asked text ⊎ (HasNoRoom asked.graph asked.log × (text ≡ text_line (codes "refused" ∷ codes "LogFull" ∷ [])))

-- what is asked at the end of a log of the graph: about these of the hypotheses on the terms, with the budget of the terms
abbrev pub asked_on : Tfpg → Logbook → Terms → List Hypothesis → List ℕ → Asked
asked_on graph log terms hypotheses among =
    record { graph = graph; log = log; terms = terms; hypotheses = hypotheses; among = among; budget = terms.budget }

-- The text says which questions would tell most after these lines of a log: they are asked of the hypotheses that are ranked or open in
-- the last of the rounds that a report of these lines has.
pub record HasQuestions (terms : Terms) (graph : Tfpg) (log_text text : List ℕ) : Type 0 where
  pub hypotheses : List Hypothesis
  pub table : IsTable graph terms hypotheses
  pub few : length hypotheses ≤ MAX_HYPOTHESES
  pub last : Option Round
  pub is_last : IsLastRound graph terms (lines_of log_text) last
  pub answer : List ℕ
  pub answers : AnswersAsked (asked_on graph (log_of_lines graph (lines_of log_text)) terms hypotheses (left_by last)) answer
  pub text_is : text ≡ first_line (log_of_lines graph (lines_of log_text)) last ++ answer
