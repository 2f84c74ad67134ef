-- The failure modes in the trace of numbers that meet all facts.
use Rattle.std.proofs.Common.{◌≡◌, ℕ, ◌<◌, List, length, Some}
use Rattle.std.specs.Prelude.{All, IsTrue}
use Rattle.tfpg_base.specs.declared.constraint.Constraint.{Constraint}
use Rattle.tfpg_base.proofs.lemmas.lists.Elements.{All-from_members}
use Rattle.tfpg_base.proofs.lemmas.TraceTimes.{time_there}
use Rattle.tfpg_graph.specs.Graph.{Tfpg, is_kind_at, is_failure}
use Rattle.tfpg_graph.specs.Reach.{IsReach}
use Rattle.tfpg_log.specs.Log.{Logbook, now_of, IsLogOf, IsOrdered}
use Rattle.tfpg_log.specs.Explains.{IsMember}
use Rattle.tfpg_evidence.specs.declared.reason.Reason.{Reason}
use Rattle.tfpg_base.specs.Constraint.{Meets}
use Rattle.tfpg_clause.specs.Case.{case_of}
use Rattle.tfpg_clause.specs.Facts.{fact}
use Rattle.tfpg_clause.specs.Cut.{cut, AreNumbers}
use Rattle.tfpg_clause.proofs.lemmas.traces.TraceAgrees.{of_cut}
use Rattle.tfpg_clause.proofs.lemmas.traces.FactsMet.{active_is_reached}
use Rattle.tfpg_clause.proofs.lemmas.traces.GivesTrace.{rising, within, reached_member}
use Rattle.std.proofs.lemmas.List.Elements.{All-contains}

-- Where the numbers meet each fact, the failure modes that their trace activates are members of the set.
pub only_members : (graph : Tfpg) (log : Logbook) (set reach : List ℕ) (is_reach : IsReach graph set reach) (of : IsLogOf graph log)
    (ordered : IsOrdered log) (numbers : List ℕ) (are : AreNumbers graph numbers)
    → ((reason : Reason) (stated : Constraint) → fact (case_of graph log reach) reason ≡ Some stated → Meets numbers stated)
    → All (λ activation. IsTrue (is_kind_at is_failure graph activation.node) → IsMember graph set activation.node)
    (cut (now_of log) numbers)
only_members graph log set reach is_reach of ordered numbers are met =
    All-from_members (λ activation. IsTrue (is_kind_at is_failure graph activation.node) → IsMember graph set activation.node)
    (cut (now_of log) numbers)
    (λ activation member failure.
    reached_member graph set activation.node
    (active_is_reached graph log set reach is_reach of ordered (cut (now_of log) numbers) numbers
    (of_cut (length graph.nodes) (now_of log) numbers are.one_each) met activation.node activation.time
    (All-contains (λ a. a.node < length graph.nodes) (cut (now_of log) numbers) activation
    (within graph (now_of log) numbers are.one_each) member)
    (time_there (cut (now_of log) numbers) (rising (now_of log) numbers) activation member))
    failure)
