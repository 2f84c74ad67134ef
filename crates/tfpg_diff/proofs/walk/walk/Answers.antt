-- A walk that is not at zero has room for one more link.
use Rattle.std.proofs.lemmas.List.{length_push}
use Rattle.std.proofs.lemmas.Option.{slice_get_read}
use Rattle.std.proofs.Common.{arith, ap, sym, ◌∙◌, ◌≡◌, ◌+◌, ◌<◌, ◌≢◌, length, List, Some, refl}
use Rattle.std.specs.Prelude.{slice_get}
use Rattle.tfpg_diff.specs.declared.demand.Demand.{Demand}
use Rattle.tfpg_diff.specs.Demands.{demands_of}
use Rattle.tfpg_diff.specs.inside.Linked.{demands_linked}
use Rattle.tfpg_diff.proofs.lemmas.Linked.{demands_linked-at, IsLinkInto-kept}
use Rattle.tfpg_diff.proofs.lemmas.Lowering.{Labelled-kept}
use Rattle.tfpg_diff.proofs.lemmas.Walks.{Walked-more, length-walked, link_right}
use Rattle.tfpg_diff.proofs.walk.walk.Goals as goal
use Rattle.tfpg_diff.proofs.walk.walk.Goals.{After-index-link}

-- the links, as demands
abbrev links : After-index-link → List Demand
links c = demands_linked (demands_of c.args.bounds.now c.args.picks.now) c.args.labels.now.links.items

-- the link that the walk takes
at : (c : After-index-link) → slice_get c.args.labels.now.links.items c.loop-stands.stands ≡ Some c.index-link.result.now
at c = slice_get_read c.args.labels.now.links.items (length c.args.labels.now.links.items) c.loop-stands.stands c.index-link.result.now refl
    (let count = c.requires.kept.count in omega arith) c.index-link.ensures

-- fewer tags were appended than there are numbers
few : (c : After-index-link) → length c.loop-stands.cycle.items < length c.args.cycle.now.items + length (links c)
few c =
    let kept = c.requires.kept.kept in
    let len = kept.links_len in
    length-walked (links c) (Labelled-kept (demands_of c.args.bounds.now c.args.picks.now) c.args.labels.now.values.items (links c) kept) kept.rooted
    c.args.from c.args.sought c.loop-stands.stands c.args.cycle.now.items c.loop-stands.cycle.items c.loop-stands.invariant.walked (omega arith) (omega arith)

pub demand_of_link-demand-requires-clause-picked : goal.demand_of_link-demand-requires-clause-picked
demand_of_link-demand-requires-clause-picked c =
    IsLinkInto-kept (demands_of c.args.bounds.now c.args.picks.now) c.args.labels.now.values.items c.args.labels.now.links.items c.requires.kept.kept
    c.loop-stands.stands c.index-link.result.now (omega arith) (at (goal.at.demand_of_link-demand-requires-clause-picked c).After-index-link)

pub push_tag-requires : goal.push_tag-requires
push_tag-requires c =
    let f = few (goal.at.push_tag-requires c).After-index-link in
    let len = c.requires.kept.kept.links_len in
    omega (arith, f, len)

pub loop-stands-smaller : goal.loop-stands-smaller
loop-stands-smaller c =
    let f = few (goal.at.loop-stands-smaller c).After-index-link in
    let len = c.requires.kept.kept.links_len in
    omega (arith, f, len, ap length c.push_tag.ensures.items, length_push c.loop-stands.cycle.items c.demand_of_link-demand.result.why)

pub loop-stands-preserved : goal.loop-stands-preserved
loop-stands-preserved c =
    let a = (goal.at.loop-stands-preserved c).After-index-link in
    let kept = c.requires.kept.kept in
    let len = kept.links_len in
    let up : 0 < c.loop-stands.stands = omega arith in
    let other : c.loop-stands.stands ≢ c.args.sought = omega arith in
    let here : slice_get (links a) c.loop-stands.stands ≡ Some c.demand_of_link-demand.result =
    demands_linked-at (demands_of c.args.bounds.now c.args.picks.now) c.args.labels.now.links.items c.loop-stands.stands c.index-link.result.now (at a)
    ∙ ap (λ (e : Demand). Some e) (sym c.demand_of_link-demand.ensures) in
    record {
      walked = rw c.push_tag.ensures.items (Walked-more (links a)
          (Labelled-kept (demands_of c.args.bounds.now c.args.picks.now) c.args.labels.now.values.items (links a) kept) c.args.from c.args.sought c.loop-stands.stands
          c.args.cycle.now.items c.loop-stands.cycle.items c.demand_of_link-demand.result c.loop-stands.invariant.walked up other here);
      inside = (let below = link_right (links a) kept.rooted c.loop-stands.stands c.demand_of_link-demand.result up here in omega arith);
      capacity = omega arith;
    }
