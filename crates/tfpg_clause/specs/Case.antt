-- What evidence is about: a graph, a log of it, and what a set of failure modes reaches.
use Rattle.std.specs.Prelude.{ℕ, List}
use Rattle.tfpg_graph.specs.Graph.{Tfpg}
use Rattle.tfpg_log.specs.Log.{Logbook, first_events}

-- a case: the graph, the log, and the nodes that a set of failure modes reaches
pub record Case : Type 0 where
  pub graph : Tfpg
  pub log : Logbook
  pub reach : List ℕ

-- the case of a graph, a log and such nodes
abbrev pub case_of : Tfpg → Logbook → List ℕ → Case
case_of graph log reach = record { graph = graph; log = log; reach = reach }

-- the same case at another log
abbrev pub at_log : Case → Logbook → Case
at_log case log = record case { log = log }

-- the case at the log of its first so many events
abbrev pub case_at : Case → ℕ → Case
case_at case seen = record case { log = first_events case.log seen }
