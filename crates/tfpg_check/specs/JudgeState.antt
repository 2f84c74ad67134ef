-- What contracts see of a judge of reports, and which lines it represents.
use Rattle.std.specs.Prelude.{◌≡◌, ◌⊎◌, ℕ, List, [], ◌∷◌, ◌++◌, length, drop, flat_map, Option, Some, None}
use Rattle.tfpg_base.specs.declared.terms.Terms.{Terms}
use Rattle.tfpg_graph.specs.Graph.{Tfpg}
use Rattle.tfpg_log.specs.Log.{Logbook}
use Rattle.tfpg_hyp.specs.Rounds.{steps_so_far}
use Rattle.tfpg_report.specs.declared.report_line.ReportLine.{ReportLine}
use Rattle.tfpg_report.specs.Blocks.{Block}
use Rattle.tfpg_report.specs.Represents.{ReaderState, ReaderRepresents}
use Rattle.tfpg_check.specs.declared.judge_fault.JudgeFault.{JudgeFault}
use Rattle.tfpg_check.specs.Report.{rounds_of}
use Rattle.tfpg_check.specs.Judging.{RoundBasis}
use Rattle.tfpg_check.specs.HypothesesState.{HypothesesState, KeepsBasis}
use Rattle.tfpg_check.specs.Causes.{DiagnosisProblem, AreRightSoFar, progress_after_blocks}
use Rattle.tfpg_check.specs.Judged.{GoesOnRight}

-- the lines of a log: how many have their block, and those that have none yet
pub record LogLinesState : Type 0 where
  pub passed : ℕ
  pub left : List (List ℕ)

-- What is kept of the blocks of a report: the graph, the lines of the log, the log of those that have their block, and from the
-- first line on what is kept of the hypotheses.
pub record BlocksState : Type 0 where
  pub graph : Tfpg
  pub log_lines : LogLinesState
  pub log : Logbook
  pub hypotheses : Option HypothesesState

-- A judge: the reader of its lines, what it keeps of the blocks, how many lines it was given, and the fault that ended it.
pub record JudgeState : Type 0 where
  pub reader : ReaderState
  pub blocks : BlocksState
  pub lines : ℕ
  pub fault : Option JudgeFault

-- the basis after these blocks, with these hypotheses, at a log
abbrev pub basis_after : DiagnosisProblem → List Block → HypothesesState → Logbook → RoundBasis
basis_after problem blocks kept log =
    record {
      graph = problem.graph;
      terms = kept.terms;
      hypotheses = kept.table.hypotheses;
      steps = λ number. steps_so_far number (flat_map rounds_of blocks);
      log = log;
    }

-- What is kept of the log is what these blocks leave.
pub record KeepsLog (problem : DiagnosisProblem) (blocks : List Block) (state : BlocksState) : Type 0 where
  pub graph : state.graph ≡ problem.graph
  pub passed : state.log_lines.passed ≡ length blocks
  pub left : state.log_lines.left ≡ drop (length blocks) problem.log_lines
  pub log : state.log ≡ (progress_after_blocks problem blocks).log

-- What is kept of the hypotheses on these terms is what these blocks leave.
pub record KeepsHypotheses (problem : DiagnosisProblem) (terms : Terms) (blocks : List Block) (state : BlocksState) : Type 0 where
  pub kept : HypothesesState
  pub is_kept : state.hypotheses ≡ Some kept
  pub on_terms : kept.terms ≡ terms
  pub keeps : KeepsBasis (basis_after problem blocks kept state.log) state.log kept

-- The lines are right so far, with these blocks, and what is kept is what these leave.
pub record KeepsBlocks (problem : DiagnosisProblem) (terms : Terms) (blocks : List Block) (reads : List ReportLine)
    (state : BlocksState) : Type 0 where
  pub right : AreRightSoFar problem terms blocks reads
  pub log : KeepsLog problem blocks state
  pub hypotheses : KeepsHypotheses problem terms blocks state

-- No line came yet.
pub record KeepsNone (problem : DiagnosisProblem) (reads : List ReportLine) (state : BlocksState) : Type 0 where
  pub none_read : reads ≡ []
  pub log : KeepsLog problem [] state
  pub no_hypotheses : state.hypotheses ≡ None

-- The judge represents these lines, all that it was given: it accepted each, and keeps what the next one is judged by.
pub record JudgeRepresents (problem : DiagnosisProblem) (judge : JudgeState) (reads : List ReportLine) : Type 0 where
  pub running : judge.fault ≡ None
  pub reading : judge.reader.refused ≡ None
  pub reader : ReaderRepresents judge.reader reads
  pub lines : judge.lines ≡ length reads
  pub blocks : KeepsNone problem reads judge.blocks
      ⊎ ((terms : Terms) × (blocks : List Block) × KeepsBlocks problem terms blocks reads judge.blocks)

-- The line that comes after these is right, and the judge represents it too.
pub record GoesOnTo (problem : DiagnosisProblem) (before : List ReportLine) (bytes : List ℕ) (judge : JudgeState) : Type 0 where
  pub read : ReportLine
  pub goes_on : GoesOnRight problem before bytes read
  pub represents : JudgeRepresents problem judge (before ++ read ∷ [])
