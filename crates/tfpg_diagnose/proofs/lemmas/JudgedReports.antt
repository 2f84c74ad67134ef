-- A new judge of a report, and the laws that a report that is judged needs.
use Rattle.std.proofs.Common.{ℕ, ◌≤◌, List, [], length, arith}
use Rattle.tfpg_base.specs.declared.limits.TheConstants.{LONGEST_FILE, MAX_LINE_NUMBER}
use Rattle.tfpg_base.specs.Lines.{lines_of}
use Rattle.tfpg_graph.specs.Graph.{Tfpg}
use Rattle.tfpg_graph.specs.Valid.{IsValid}
use Rattle.tfpg_check.specs.JudgeState.{JudgeRepresents, JudgeState}
use Rattle.tfpg_diagnose.specs.JudgedReports.{problem_of}
use Rattle.tfpg_diagnose.specs.inside.JudgingUnderWay.{IsNewJudge}
use Rattle.tfpg_streams.proofs.lemmas.FewLines.{few_lines}
use Rattle.tfpg_check.specs.RightReports.{LinesHaveOneCause, LinesOfTooManyHaveNoCause, ShortReportsHaveNoCause}
use Rattle.tfpg_check.proofs.lemmas.FirstLines.{OneLine}

-- a log of a file has not too many lines
few_log_lines : (text : List ℕ) → length text ≤ LONGEST_FILE → length (lines_of text) ≤ MAX_LINE_NUMBER
few_log_lines text small = omega (arith, few_lines text, small)

-- the judge of a valid graph and of the text of a file to which no line came yet
pub new_judge : (graph : Tfpg) (text : List ℕ) (judge : JudgeState) → IsValid graph → length text ≤ LONGEST_FILE → JudgeRepresents (problem_of graph text) judge [] → IsNewJudge (problem_of graph text) judge
new_judge graph text judge valid small represents = record { valid = valid; few = few_log_lines text small; represents = represents }

-- What cause lines have, and what bytes say: the laws that a report that is checked needs.
pub record CheckLaws : Type 0 where
  pub no_cause : ShortReportsHaveNoCause
  pub one_cause : LinesHaveOneCause
  pub too_many : LinesOfTooManyHaveNoCause
  pub one_line : OneLine
