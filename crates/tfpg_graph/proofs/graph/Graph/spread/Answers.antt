use Rattle.std.proofs.Common.{rules, ◌<◌, ◌≤◌, ℕ, List, length, drop, get_or, sym, subst, ap, arith}
use Rattle.std.specs.List.{All}
use Rattle.tfpg_base.proofs.lemmas.Sets.{All-with_member, length-with_member_le}
use Rattle.tfpg_graph.proofs.lemmas.reach.Reaches.{Widens-along}
use Rattle.tfpg_graph.proofs.lemmas.reach.Growing.{left_added, left_none, left_passed}
use Rattle.tfpg_graph.proofs.graph.Graph.spread.Goals as goal
use Rattle.tfpg_graph.proofs.graph.Graph.spread.Goals.{then-add_if_fed, else-add_if_fed}

pub loop-next-preserved : goal.loop-next-preserved
loop-next-preserved c =
    let graph = c.args.self.now in
    let items = c.row-next-items.result.now in
    let index = c.loop-next.next-index in
    let was = c.loop-next.invariant in
    let left = c.loop-next.left in
    let reached = c.loop-next.reached in
    let added = c.add_if_fed.new.reached in
    let widens = Widens-along graph c.args.reached.now reached added was.widens c.add_if_fed.ensures.widens in
    elim c.if-add_if_fed.branch [
      | then-add_if_fed w ↦ rw w.left-is (record {
        widens = widens;
        full = λ before.
            left_added graph c.args.onward.now items index c.loop-next-test.true reached left (was.full before) added w.with-left.result c.requires.onward c.add_if_fed.ensures.only
            (c.add_if_fed.ensures.here w.if-add_if_fed.true) c.add_if_fed.ensures.widens w.with-left.ensures.nodes;
        within = λ small.
            subst (All (λ (next : ℕ). next < length graph.nodes)) (sym w.with-left.ensures.nodes)
            (All-with_member (λ (next : ℕ). next < length graph.nodes) _ left
            (omega (arith, c.row-next-items.ensures.within index 0 c.loop-next-test.true, c.requires.onward.row_count)) (was.within small));
        shorter = omega (arith, was.shorter, c.add_if_fed.ensures.added w.if-add_if_fed.true, length-with_member_le (get_or items index 0) left, ap length w.with-left.ensures.nodes);
      })
      | else-add_if_fed w ↦ rw w.left-is (record {
        widens = widens;
        full = λ before.
            left_passed graph c.args.onward.now items index c.loop-next-test.true reached left (was.full before) added (c.add_if_fed.ensures.same w.if-add_if_fed.false)
            (c.add_if_fed.ensures.full w.if-add_if_fed.false);
        within = was.within;
        shorter = omega (arith, was.shorter, ap length (c.add_if_fed.ensures.same w.if-add_if_fed.false));
      })
    ]

pub returns-clause-full : goal.returns-clause-full
returns-clause-full c before =
    left_none c.args.self.now c.args.onward.now c.row-next-items.result.now c.loop-next.next-index c.loop-next.left c.loop-next.reached c.loop-next-test.false
    (c.loop-next.invariant.full before)
