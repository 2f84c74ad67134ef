-- What is asked after a diagnosis of lines.
use Rattle.std.proofs.Common.{◌≡◌, ◌↔◌, ℕ, ◌<◌, ◌≤◌, List, [], ◌++◌, length, Option, Some, None, Result, Ok, Err, refl, sym, ap, subst, subst₂, ◌∙◌, inl, inr}
use Rattle.std.specs.Prelude.{◌∷◌, IfSome, OnOk, codes, flat_map, All}
use Rattle.std.proofs.lemmas.List.Elements.{All-weaker}
use Rattle.tfpg_base.specs.Hypothesis.{Hypothesis}
use Rattle.tfpg_base.specs.Lines.{lines_of}
use Rattle.tfpg_base.specs.Append.{Appends}
use Rattle.tfpg_base.specs.declared.no_memory.NoMemory.{NoMemory}
use Rattle.tfpg_base.specs.TextLine.{text_line}
use Rattle.tfpg_base.specs.Terms.{AreReportTerms}
use Rattle.tfpg_base.specs.declared.terms.Terms.{Terms}
use Rattle.tfpg_graph.specs.Graph.{Tfpg}
use Rattle.tfpg_graph.proofs.lemmas.NodeAt.{monitored_within}
use Rattle.tfpg_log.specs.Log.{Logbook}
use Rattle.tfpg_log.specs.LogOfLines.{log_of_lines}
use Rattle.tfpg_evidence.specs.declared.round.Round.{Round}
use Rattle.tfpg_hyp.specs.Hypotheses.{HasHypotheses, Hypotheses, IsTableOf}
use Rattle.tfpg_hyp.specs.Table.{IsTable}
use Rattle.tfpg_hyp.specs.declared.limits.TheConstants.{MAX_HYPOTHESES}
use Rattle.tfpg_log.specs.declared.refusal.Refusal.{Refusal}
use Rattle.tfpg_log.specs.declared.refusal.Refusal.TheVariants.{LogFull}
use Rattle.tfpg_engine.specs.EngineState.{EngineState}
use Rattle.tfpg_check.specs.Report.{rounds_of}
use Rattle.tfpg_whatif.specs.declared.question.Question.{Question}
use Rattle.tfpg_whatif.specs.declared.ask_fault.AskFault.{AskFault}
use Rattle.tfpg_whatif.specs.declared.ask_fault.AskFault.TheVariants.{Refused}
use Rattle.tfpg_whatif.specs.Foresight.{IsKnownIfEnough}
use Rattle.tfpg_whatif.specs.Outcomes.{Asked, asked_of}
use Rattle.tfpg_whatif.specs.Questions.{AreQuestions, HasNoRoom, IsQuestion}
use Rattle.tfpg_diagnose.specs.declared.diagnosis.Diagnosis.{Diagnosis}
use Rattle.tfpg_answers.specs.Questions.{AnswersAsked, HasQuestions, asked_on, first_line, left_by, question_line}
use Rattle.tfpg_answers.specs.inside.Asked.{AppendsAnswer, CanBeAskedOf, IsNewDiagnosis, SaysQuestionsOf, asked_after}
use Rattle.tfpg_diagnose.specs.Diagnosed.{HasDiagnosed, HasLastOf}
use Rattle.tfpg_diagnose.proofs.lemmas.Diagnosed.{last_diagnosed}

-- That a graph has one table on the same terms is a law.
abbrev pub TablesAreOne : Type 0
TablesAreOne = (graph : Tfpg) (terms : Terms) (hypotheses others : List Hypothesis) → IsTable graph terms hypotheses → IsTable graph terms others → hypotheses ≡ others

module _ (one_table : TablesAreOne) (graph : Tfpg) (terms : Terms) (log_text : List ℕ) (d : Diagnosis) (has : HasDiagnosed graph terms (lines_of log_text) d) (read : Hypotheses)
    (is_table : read ≡ d.engine.table) (of : IsTableOf d.engine.graph d.engine.terms read) (few : (count : ℕ) → HasHypotheses graph terms count → count ≤ MAX_HYPOTHESES) where
  own_table : IsTable graph terms d.engine.table.hypotheses
  own_table =
      subst (λ (g : Tfpg). IsTable g terms d.engine.table.hypotheses) has.reports.graph_is
      (subst (λ (t : Terms). IsTable d.engine.graph t d.engine.table.hypotheses) has.reports.terms_is
      (subst (λ (t : Hypotheses). IsTable d.engine.graph d.engine.terms t.hypotheses) is_table of.hypotheses))

  not_too_many : length d.engine.table.hypotheses ≤ MAX_HYPOTHESES
  not_too_many = few (length d.engine.table.hypotheses) (record { hypotheses = d.engine.table.hypotheses; table = own_table; counted = refl })

  -- a round has a finding for each hypothesis of the table
  complete : (last : Option Round) → HasLastOf graph terms (log_of_lines graph (lines_of log_text)) (flat_map rounds_of has.blocks) last
      → IfSome last (λ (round : Round). length round.findings ≡ length d.engine.table.hypotheses)
  complete None none = tt
  complete (Some round) is = is.is_round.complete ∙ ap length (one_table graph terms is.is_round.hypotheses d.engine.table.hypotheses is.is_round.table own_table)

  -- It can be asked.
  pub can_be_asked : AreReportTerms terms → CanBeAskedOf d
  can_be_asked within = record {
    budget = subst (λ (t : Terms). 1 ≤ t.budget) (sym has.reports.terms_is) within.some_splits;
    few = not_too_many;
    complete = complete d.last has.last;
  }

  same_asked : asked_after d ≡ asked_on graph (log_of_lines graph (lines_of log_text)) terms d.engine.table.hypotheses (left_by d.last)
  same_asked = λ i. asked_on (has.reports.graph_is i) (has.reports.log_is i) (has.reports.terms_is i) d.engine.table.hypotheses (left_by d.last)

  -- What is said of it is said of the lines.
  pub has_questions : (text : List ℕ) → SaysQuestionsOf d text → HasQuestions terms graph log_text text
  has_questions text says = record {
    hypotheses = d.engine.table.hypotheses;
    table = own_table;
    few = not_too_many;
    last = d.last;
    is_last = last_diagnosed graph terms (lines_of log_text) d has;
    answer = says.answer;
    answers = subst (λ (asked : Asked). AnswersAsked asked says.answer) same_asked says.answers;
    text_is = says.text_is ∙ ap (λ (log : Logbook). first_line log d.last ++ says.answer) has.reports.log_is;
  }

-- ---- a new diagnosis

-- It is one of the graph and the terms that it was made of.
pub new_diagnosis : (graph : Tfpg) (terms : Terms) (d : Diagnosis) → HasDiagnosed graph terms [] d → AreReportTerms terms → ((count : ℕ) → HasHypotheses graph terms count → count ≤ MAX_HYPOTHESES) → IsNewDiagnosis d
new_diagnosis graph terms d has within few = record {
  new = subst (λ (g : Tfpg). HasDiagnosed g d.engine.terms [] d) (sym has.reports.graph_is) (subst (λ (t : Terms). HasDiagnosed graph t [] d) (sym has.reports.terms_is) has);
  within = subst AreReportTerms (sym has.reports.terms_is) within;
  few = λ count counted.
      few count (subst (λ (g : Tfpg). HasHypotheses g terms count) has.reports.graph_is (subst (λ (t : Terms). HasHypotheses d.engine.graph t count) has.reports.terms_is counted));
}

-- What is said by it is said for the graph and the terms that it was made of.
pub questions_for : (g graph : Tfpg) (other terms : Terms) (log_text text : List ℕ) → g ≡ graph → other ≡ terms → HasQuestions other g log_text text → HasQuestions terms graph log_text text
questions_for g graph other terms log_text text e f is = subst₂ (λ (x : Tfpg) (y : Terms). HasQuestions y x log_text text) e f is

-- ---- questions

-- the nodes of questions are of the graph
pub nodes_within : (asked : Asked) (questions read : List Question) (lent : Tfpg) → read ≡ questions → lent ≡ asked.graph → AreQuestions asked questions
    → All (λ (question : Question). question.node < length lent.nodes) read
nodes_within asked questions read lent same is_graph are =
    subst (λ (qs : List Question). All (λ (question : Question). question.node < length lent.nodes) qs) (sym same)
    (subst (λ (g : Tfpg). All (λ (question : Question). question.node < length g.nodes) questions) (sym is_graph)
    (All-weaker (IsQuestion asked) (λ (question : Question). question.node < length asked.graph.nodes)
    (λ question is. monitored_within asked.graph question.node is.can_be_asked.monitored) questions are.own))

module _ (engine : EngineState) (among : List ℕ) (b budget : ℕ) (same : b ≡ budget) (old new : List ℕ) (result : Result (List Question) AskFault)
    (refused : (refusal : Refusal) → (result ≡ Err (Refused refusal)) ↔ ((refusal ≡ LogFull) × HasNoRoom engine.graph engine.log)) where
  -- A line was written for each.
  pub lists_questions : (appended : Result (Unit {0}) NoMemory) (questions read : List Question) (lent : Tfpg) → result ≡ Ok questions → AreQuestions (asked_of engine among b) questions
      → All (IsKnownIfEnough (asked_of engine among b)) questions → lent ≡ engine.graph → read ≡ questions → Appends appended old new (flat_map (question_line lent) read)
      → OnOk appended (AppendsAnswer (asked_of engine among budget) old new)
  lists_questions (Err short) questions read lent is are known is_graph same_questions appends = tt
  lists_questions (Ok done) questions read lent is are known is_graph same_questions appends =
      subst (λ (n : ℕ). AppendsAnswer (asked_of engine among n) old new) same (record {
        answer = flat_map (question_line engine.graph) questions;
        answers = inl (record {
          questions = questions;
          are = are;
          known = known;
          room = λ full. let no : Ok questions ≡ Err (Refused LogFull) = sym is ∙ (refused LogFull).1 (refl, full) in cc;
          text_is = refl;
        });
        appended = appends ∙ (λ i. old ++ flat_map (question_line (is_graph i)) (same_questions i));
      })

  -- The line of a full log was written.
  pub says_full : (appended : Result (Unit {0}) NoMemory) (refusal : Refusal) → result ≡ Err (Refused refusal) → Appends appended old new (text_line (codes "refused" ∷ codes "LogFull" ∷ []))
      → OnOk appended (AppendsAnswer (asked_of engine among budget) old new)
  says_full (Err short) refusal is appends = tt
  says_full (Ok done) refusal is appends = record {
    answer = text_line (codes "refused" ∷ codes "LogFull" ∷ []);
    answers = inr (((refused refusal).0 is).1, refl);
    appended = appends;
  }
