-- What a round is made for, and of which hypotheses.
use Rattle.std.specs.Prelude.{◌≤◌, length}
use Rattle.tfpg_graph.specs.Graph.{Tfpg, AreFailures}
use Rattle.tfpg_log.specs.Log.{Logbook, IsLogOf}
use Rattle.tfpg_clause.specs.Case.{Case}
use Rattle.tfpg_hyp.specs.Hypotheses.{Row}
use Rattle.tfpg_hyp.specs.Views.{IsReachOf, case_for}
use Rattle.tfpg_hyp.specs.Rounds.{Inquiry}
use Rattle.tfpg_engine.specs.declared.inquiry.LentInquiry.{LentInquiry}
use Rattle.tfpg_engine.specs.declared.listed.Listed.{Listed}

-- what the code asks, by this log
abbrev pub inquiry_of : LentInquiry → Logbook → Inquiry
inquiry_of inquiry log = record { graph = inquiry.graph.now; log = log; terms = inquiry.terms }

-- the row of the table that the code asks for
abbrev pub row_of : Listed → Row
row_of listed =
    record { number = listed.number; hypothesis = listed.hypothesis; reach = listed.reach.now }

-- what the evidence on a row is about
abbrev pub case_of_row : Inquiry → Row → Case
case_of_row inquiry row = case_for inquiry.graph inquiry.log row.hypothesis row.reach

-- The log is of the graph and has an event, and the budget is not 0.
pub record IsInquiry (inquiry : Inquiry) : Type 0 where
  pub of : IsLogOf inquiry.graph inquiry.log
  pub event : 1 ≤ length inquiry.log.events
  pub budget : 1 ≤ inquiry.terms.budget

-- The hypothesis is of failure modes of the graph, and the reach is what it reaches.
pub record IsRowOfGraph (graph : Tfpg) (row : Row) : Type 0 where
  pub members : AreFailures graph row.hypothesis.set
  pub reach : IsReachOf graph row.hypothesis row.reach
