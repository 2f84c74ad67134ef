-- A log, and the same log ignoring some monitors.
use Rattle.std.proofs.Common.{◌≡◌, ℕ, List, sym, subst}
use Rattle.std.specs.Prelude.{All, IsTrue}
use Rattle.tfpg_graph.specs.Graph.{is_monitored}
use Rattle.tfpg_log.specs.Log.{Logbook, IsOrdered, ignoring}
use Rattle.tfpg_hyp.specs.Rounds.{Inquiry}
use Rattle.tfpg_engine.specs.inside.Inquiries.{IsInquiry}

-- a log ignores the monitors that it ignores
pub own_log : (log : Logbook) (nodes : List ℕ) → log.ignored ≡ nodes → log ≡ ignoring log nodes
own_log log nodes is = λ i. record { events = log.events; ignored = is i }

-- what ignores these monitors depends on the events alone
pub same_ignoring : (log other : Logbook) (nodes : List ℕ) → log.events ≡ other.events → ignoring log nodes ≡ ignoring other nodes
same_ignoring log other nodes same = λ i. record { events = same i; ignored = nodes }

-- it is ordered
pub ordered_for : (log : Logbook) (nodes : List ℕ) → IsOrdered log → IsOrdered (ignoring log nodes)
ordered_for log nodes ordered = record { in_order = ordered.in_order; in_range = ordered.in_range }

-- The inquiry by a log that ignores monitors of the graph is one.
pub inquiry_ignoring : (inquiry : Inquiry) (nodes : List ℕ) (log : Logbook) → log ≡ ignoring inquiry.log nodes → All (λ node. IsTrue (is_monitored inquiry.graph node)) nodes → IsInquiry inquiry
    → IsInquiry (record inquiry { log = log })
inquiry_ignoring inquiry nodes log is monitored asked =
    subst (λ (l : Logbook). IsInquiry (record inquiry { log = l })) (sym is)
    (record { of = record { own = asked.of.own; ignored = monitored }; event = asked.event; budget = asked.budget })
