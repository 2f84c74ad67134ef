use Rattle.std.proofs.Common.{◌≡◌, ◌≤◌, ℕ, All, None, ◌<◌, ◌+◌, length, sym, subst, arith}
use Rattle.tfpg_base.specs.declared.limits.TheConstants.{MAX_TIME}
use Rattle.tfpg_sim.specs.Script.{time_of_entry}
use Rattle.tfpg_sim.specs.Simulation.{script_log, start_of}
use Rattle.tfpg_sim.specs.inside.Settling.{simulation_case, IsUnderWay, AreCandidates, IsEarliest, candidate_at, waiting_count}
use Rattle.tfpg_sim.specs.inside.ModeSpans.{AreSpans}
use Rattle.tfpg_sim.proofs.lemmas.scripts.ScriptOrder.{in_order, all_by_last, small}
use Rattle.tfpg_sim.proofs.lemmas.simulations.SettledNodes.{is_absent}
use Rattle.tfpg_sim.proofs.lemmas.simulations.WholeRuns.{begins, goes_on, ends, times_after, waiting_less}
use Rattle.tfpg_sim.proofs.trace.trace_of.Goals as goal
use Rattle.tfpg_sim.proofs.trace.trace_of.Goals.{In-Some}

pub spans_of-requires-clause-order : goal.spans_of-requires-clause-order
spans_of-requires-clause-order c = in_order c.args.graph.now c.args.entries.now c.requires.script

pub spans_of-requires-clause-stop : goal.spans_of-requires-clause-stop
spans_of-requires-clause-stop c =
    subst (λ stop. All (λ entry. time_of_entry entry ≤ stop) c.args.entries.now) (sym c.time_so_far-stop.ensures)
    (all_by_last c.args.graph.now c.args.entries.now c.requires.script)

pub spans_of-requires-clause-small : goal.spans_of-requires-clause-small
spans_of-requires-clause-small c = subst (λ stop. stop ≤ MAX_TIME) (sym c.time_so_far-stop.ensures) (small c.args.graph.now c.args.entries.now c.requires.script)

pub first_candidates-requires-clause-times : goal.first_candidates-requires-clause-times
first_candidates-requires-clause-times c = λ k d within.
    let upto = subst (λ stop. stop ≤ MAX_TIME) (sym c.time_so_far-stop.ensures) (small c.args.graph.now c.args.entries.now c.requires.script) in
    let own = c.in_ok-trace.ensures.own c.args.graph.now c.time_so_far-stop.result c.requires.script
    (subst (λ stop. All (λ entry. time_of_entry entry ≤ stop) c.args.entries.now) (sym c.time_so_far-stop.ensures)
    (all_by_last c.args.graph.now c.args.entries.now c.requires.script)) in
    let one = (own k d within).1 in omega arith

pub loop-node-init : goal.loop-node-init
loop-node-init c =
    begins c.args.graph.now c.args.entries.now c.args.delays.now c.time_so_far-stop.result c.in_ok-trace.trace c.in_ok-candidates.candidates.items
    (c.in_ok-trace.ensures.times c.args.graph.now c.requires.script)
    (c.in_ok-trace.ensures.own c.args.graph.now c.time_so_far-stop.result c.requires.script
    (subst (λ stop. All (λ entry. time_of_entry entry ≤ stop) c.args.entries.now) (sym c.time_so_far-stop.ensures)
    (all_by_last c.args.graph.now c.args.entries.now c.requires.script)))
    (c.in_ok-candidates.ensures (script_log c.args.entries.now) c.time_so_far-stop.result
    (subst (AreSpans (script_log c.args.entries.now) (c.time_so_far-stop.result + 1) 0) (sym c.deref.ensures.value) c.in_ok-spans.ensures.spans))

-- the earliest candidate of a turn
found : (c : In-Some) → IsEarliest c.loop-node.candidates.items c.in-Some.node c.in-Some.time
found c = subst (λ candidates. IsEarliest candidates c.in-Some.node c.in-Some.time) c.deref-in-loop-node.ensures.value c.in-Some.ensures

pub candidates_after-requires-clause-times : goal.candidates_after-requires-clause-times
candidates_after-requires-clause-times c = λ k d within.
    let at = goal.at.candidates_after-requires-clause-times c in
    let upto = subst (λ stop. stop ≤ MAX_TIME) (sym c.time_so_far-stop.ensures) (small c.args.graph.now c.args.entries.now c.requires.script) in
    let all = subst (All (λ activation. activation.time ≤ c.time_so_far-stop.result)) (sym c.in_ok-set.ensures.list)
    (times_after c.args.graph.now c.args.entries.now c.args.delays.now c.time_so_far-stop.result c.loop-node.trace c.loop-node.candidates.items
    c.in-Some.node c.in-Some.time c.loop-node.invariant (found at.In-Some)) in
    let one = all k d within in omega arith

pub loop-node-smaller : goal.loop-node-smaller
loop-node-smaller c =
    let at = goal.at.loop-node-smaller c in
    let earliest = found at.In-Some in
    subst (λ trace. waiting_count trace (length c.args.graph.now.nodes) < waiting_count c.loop-node.trace (length c.args.graph.now.nodes)) (sym c.in_ok-set.ensures.list)
    (waiting_less c.loop-node.trace c.in-Some.node c.in-Some.time
    (is_absent c.args.graph.now (script_log c.args.entries.now) c.args.delays.now c.time_so_far-stop.result (start_of c.args.entries.now) c.loop-node.trace c.loop-node.candidates.items
    c.loop-node.invariant c.in-Some.node c.in-Some.time earliest)
    (length c.args.graph.now.nodes) (let within = earliest.within in let count = c.loop-node.invariant.known.count in omega arith))

pub loop-node-preserved : goal.loop-node-preserved
loop-node-preserved c =
    let at = goal.at.loop-node-preserved c in
    let earliest = found at.In-Some in
    let spans = subst (AreSpans (script_log c.args.entries.now) (c.time_so_far-stop.result + 1) 0) (sym c.deref.ensures.value) c.in_ok-spans.ensures.spans in
    let absent = is_absent c.args.graph.now (script_log c.args.entries.now) c.args.delays.now c.time_so_far-stop.result (start_of c.args.entries.now) c.loop-node.trace c.loop-node.candidates.items
    c.loop-node.invariant c.in-Some.node c.in-Some.time earliest in
    let known = c.in_ok-candidates-2.ensures (script_log c.args.entries.now) c.time_so_far-stop.result c.loop-node.trace c.in-Some.time spans c.in_ok-set.ensures.list absent
    (subst (AreCandidates (simulation_case c.args.graph.now (script_log c.args.entries.now) c.args.delays.now c.time_so_far-stop.result) c.loop-node.trace) (sym c.deref-in-Some.ensures.value) c.loop-node.invariant.known) in
    subst (λ trace. IsUnderWay (simulation_case c.args.graph.now (script_log c.args.entries.now) c.args.delays.now c.time_so_far-stop.result) (start_of c.args.entries.now) trace c.in_ok-candidates-2.candidates.items)
    (sym c.in_ok-set.ensures.list)
    (goes_on c.args.graph.now c.args.entries.now c.args.delays.now c.time_so_far-stop.result c.loop-node.trace c.loop-node.candidates.items c.in_ok-candidates-2.candidates.items
    c.in-Some.node c.in-Some.time c.loop-node.invariant earliest
    (subst (λ trace. AreCandidates (simulation_case c.args.graph.now (script_log c.args.entries.now) c.args.delays.now c.time_so_far-stop.result) trace c.in_ok-candidates-2.candidates.items) c.in_ok-set.ensures.list known))

pub returns-clause-simulated : goal.returns-clause-simulated
returns-clause-simulated c =
    ends c.args.graph.now c.args.entries.now c.args.delays.now c.time_so_far-stop.result c.loop-node.trace c.loop-node.candidates.items c.loop-node.invariant
    (subst (λ candidates. (node : ℕ) → candidate_at candidates node ≡ None) c.deref-in-loop-node.ensures.value c.in_default.ensures)
    c.is_always_rising.ensures c.time_so_far-stop.ensures

pub returns-clause-times : goal.returns-clause-times
returns-clause-times c = λ k d within.
    let upto = subst (λ stop. stop ≤ MAX_TIME) (sym c.time_so_far-stop.ensures) (small c.args.graph.now c.args.entries.now c.requires.script) in
    let one = c.loop-node.invariant.times k d within in omega arith
