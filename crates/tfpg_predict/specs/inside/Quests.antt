-- What the code asks.
use Rattle.std.specs.Prelude.{◌≤◌, All, IsTrue}
use Rattle.tfpg_graph.specs.Graph.{AreFailures, is_monitored}
use Rattle.tfpg_log.specs.Log.{ignoring}
use Rattle.tfpg_predict.specs.LeastTime.{Lookahead, lookahead_of}
use Rattle.tfpg_predict.specs.Probed.{IsProbeable}
use Rattle.tfpg_predict.specs.declared.quest.Quest.{Quest}

-- the look ahead that the code makes, by the log as it stands
abbrev pub lookahead_by_log : Quest → Lookahead
lookahead_by_log quest = lookahead_of quest.graph.now quest.log.now quest.node quest.to

-- the look ahead that the code makes, by the log that ignores the doubted monitors
abbrev pub asked_by : Quest → Lookahead
asked_by quest = lookahead_of quest.graph.now (ignoring quest.log.now quest.hypothesis.doubts) quest.node quest.to

-- The look ahead allows a probe, the failure modes and the doubts are of the graph, and the budget is not 0.
pub record IsQuest (quest : Quest) : Type 0 where
  pub probeable : IsProbeable (lookahead_by_log quest)
  pub members : AreFailures quest.graph.now quest.hypothesis.set
  pub doubts : All (λ node. IsTrue (is_monitored quest.graph.now node)) quest.hypothesis.doubts
  pub budget : 1 ≤ quest.budget
