use Rattle.std.proofs.Common.{◌≡◌, ◌≤◌, inl, inr, ⊎_elim, ap, sym, subst, ◌∙◌, arith}
use Rattle.std.proofs.lemmas.Bool.{cases_lt}
use Rattle.tfpg_base.specs.Set.{with_member}
use Rattle.tfpg_base.specs.Hypothesis.{Hypothesis}
use Rattle.tfpg_base.proofs.lemmas.lists.Ordered.{Rises}
use Rattle.tfpg_hyp.specs.inside.Larger.{next_after}
use Rattle.tfpg_hyp.proofs.lemmas.Larger.{positions-none, positions-turn, positions-end}
use Rattle.tfpg_hyp.proofs.listing.append_positions.Goals as goal
use Rattle.tfpg_hyp.proofs.listing.append_positions.Goals.{After-next_position-position}

next_is : (c : After-next_position-position) → c.next_position-position.result ≡ next_after 0 c.args.hypothesis.set
next_is c = cc (c.next_position-position.ensures.next, ap (λ (h : Hypothesis). h.set) c.hypothesis.view_is)

pub loop-position-init : goal.loop-position-init
loop-position-init c =
    let next = next_is (goal.at.loop-position-init c).After-next_position-position in record {
      listed = positions-none c.args.list.now.items c.args.hypothesis c.next_position-position.result (omega (arith, next));
      none = λ few. omega (arith, next);
    }

pub loop-position-preserved : goal.loop-position-preserved
loop-position-preserved c =
    let next = next_is (goal.at.loop-position-preserved c).After-next_position-position in
    let set_is : c.hypothesis.inside.set ≡ c.args.hypothesis.set = cc (ap (λ (h : Hypothesis). h.set) c.hypothesis.view_is) in
    let doubts_are : c.hypothesis.inside.doubts ≡ c.args.hypothesis.doubts = cc (ap (λ (h : Hypothesis). h.doubts) c.hypothesis.view_is) in
    let from : next_after 0 c.args.hypothesis.set ≤ c.loop-position.position = omega (arith, next, c.loop-position.auto.position) in record {
      listed = positions-turn c.args.list.now.items c.loop-position.list.items c.push.new.self.items c.args.hypothesis c.loop-position.position from c.with.result c.hypothesis.inside.doubts
          (subst Rises set_is c.next_position-position.ensures.set.rising) c.loop-position.invariant.listed (c.with.ensures.list ∙ ap (with_member c.loop-position.position) set_is) doubts_are c.in_ok-push.ensures.items;
      none = λ few. absurd (omega (arith, few, from, c.loop-position-test.true));
    }

pub returns : goal.returns
returns c =
    let next = next_is (goal.at.returns c).After-next_position-position in
    let doubts_are : c.hypothesis.inside.doubts ≡ c.args.hypothesis.doubts = cc (ap (λ (h : Hypothesis). h.doubts) c.hypothesis.view_is) in
    positions-end c.args.list.now.items c.loop-position.list.items c.args.hypothesis c.loop-position.position c.args.count (sym doubts_are ∙ c.is_empty.ensures.0 c.if-not-is_empty.false) c.loop-position.invariant.listed
    (⊎_elim (λ lt. inl (omega (arith, c.loop-position.auto.position-end (omega (arith, lt, next)), c.loop-position-test.false)))
    (λ not_lt. let few : c.args.count ≤ next_after 0 c.args.hypothesis.set = omega (arith, not_lt) in inr (c.loop-position.invariant.none few, few))
    (cases_lt (next_after 0 c.args.hypothesis.set) c.args.count))
