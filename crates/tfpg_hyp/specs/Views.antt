-- What a hypothesis sees of a log, what it reaches, and whether it fits.
use Rattle.std.specs.Prelude.{ℕ, List}
use Rattle.tfpg_base.specs.Hypothesis.{Hypothesis}
use Rattle.tfpg_graph.specs.Graph.{Tfpg}
use Rattle.tfpg_graph.specs.Reach.{IsReach}
use Rattle.tfpg_log.specs.Log.{Logbook, ignoring}
use Rattle.tfpg_log.specs.Explains.{Fits}
use Rattle.tfpg_clause.specs.Case.{Case, case_of}

-- the log as a hypothesis sees it: it ignores the monitors that the hypothesis doubts
abbrev pub log_for : Logbook → Hypothesis → Logbook
log_for log hypothesis = ignoring log hypothesis.doubts

-- These nodes are what the failure modes of a hypothesis reach.
abbrev pub IsReachOf : Tfpg → Hypothesis → List ℕ → Type 0
IsReachOf graph hypothesis reach = IsReach graph hypothesis.set reach

-- what the evidence on a hypothesis with this reach is about
abbrev pub case_for : Tfpg → Logbook → Hypothesis → List ℕ → Case
case_for graph log hypothesis reach = case_of graph (log_for log hypothesis) reach

-- The hypothesis fits the log: its failure modes explain what it sees of it.
abbrev pub HypothesisFits : Tfpg → Logbook → Hypothesis → Type 0
HypothesisFits graph log hypothesis = Fits graph (log_for log hypothesis) hypothesis.set
