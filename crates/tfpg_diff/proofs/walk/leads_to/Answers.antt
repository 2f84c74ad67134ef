-- A walk from number to number, each nearer to zero.
use Rattle.std.proofs.lemmas.Option.{slice_get_read}
use Rattle.std.proofs.Common.{arith, ap, sym, ◌∙◌, ◌≡◌, ◌<◌, ◌≢◌, length, List, Some, refl}
use Rattle.std.specs.Prelude.{slice_get}
use Rattle.tfpg_diff.specs.declared.demand.Demand.{Demand}
use Rattle.tfpg_diff.specs.Demands.{demands_of}
use Rattle.tfpg_diff.specs.inside.Linked.{demands_linked}
use Rattle.tfpg_diff.proofs.lemmas.Linked.{demands_linked-at, IsLinkInto-kept}
use Rattle.tfpg_diff.proofs.lemmas.Climb.{depth-right}
use Rattle.tfpg_diff.proofs.lemmas.Lowering.{Labelled-kept}
use Rattle.tfpg_diff.proofs.lemmas.Walks.{LeadsTo-none, LeadsTo-more, link_right}
use Rattle.tfpg_diff.proofs.walk.leads_to.Goals as goal
use Rattle.tfpg_diff.proofs.walk.leads_to.Goals.{After-index-link, After-demand_of_link-stands}

-- the links, as demands
abbrev links : After-index-link → List Demand
links c = demands_linked (demands_of c.args.bounds.now c.args.picks.now) c.args.labels.now.links.items

-- the link that the walk takes
at : (c : After-index-link) → slice_get c.args.labels.now.links.items c.loop-stands.stands ≡ Some c.index-link.result.now
at c = slice_get_read c.args.labels.now.links.items (length c.args.labels.now.links.items) c.loop-stands.stands c.index-link.result.now refl
    (let count = c.requires.kept.count in omega arith) c.index-link.ensures

-- the demand that it stands for
here : (c : After-demand_of_link-stands) → slice_get (demands_linked (demands_of c.args.bounds.now c.args.picks.now) c.args.labels.now.links.items) c.loop-stands.stands
    ≡ Some c.demand_of_link-stands.result
here c =
    demands_linked-at (demands_of c.args.bounds.now c.args.picks.now) c.args.labels.now.links.items c.loop-stands.stands c.index-link.result.now
    (at (goal.at.After-demand_of_link-stands c).After-index-link)
    ∙ ap (λ (e : Demand). Some e) (sym c.demand_of_link-stands.ensures)

pub loop-stands-init : goal.loop-stands-init
loop-stands-init c = record {
  leads = LeadsTo-none (demands_linked (demands_of c.args.bounds.now c.args.picks.now) c.args.labels.now.links.items) c.args.from c.args.sought;
  inside = c.requires.start;
}

pub demand_of_link-stands-requires-clause-picked : goal.demand_of_link-stands-requires-clause-picked
demand_of_link-stands-requires-clause-picked c =
    IsLinkInto-kept (demands_of c.args.bounds.now c.args.picks.now) c.args.labels.now.values.items c.args.labels.now.links.items c.requires.kept.kept
    c.loop-stands.stands c.index-link.result.now (omega arith) (at (goal.at.demand_of_link-stands-requires-clause-picked c).After-index-link)

pub loop-stands-smaller : goal.loop-stands-smaller
loop-stands-smaller c =
    let place = goal.at.loop-stands-smaller c in
    let l : List Demand = links place.After-index-link in
    let kept = c.requires.kept.kept in
    depth-right l (Labelled-kept (demands_of c.args.bounds.now c.args.picks.now) c.args.labels.now.values.items l kept) kept.rooted
    c.loop-stands.stands c.demand_of_link-stands.result (omega arith) (here place.After-demand_of_link-stands)

pub loop-stands-preserved : goal.loop-stands-preserved
loop-stands-preserved c =
    let place = goal.at.loop-stands-preserved c in
    let l : List Demand = links place.After-index-link in
    let kept = c.requires.kept.kept in
    let len = kept.links_len in
    let up : 0 < c.loop-stands.stands = omega arith in
    let other : c.loop-stands.stands ≢ c.args.sought = omega arith in
    let found = here place.After-demand_of_link-stands in
    record {
      leads = LeadsTo-more l (Labelled-kept (demands_of c.args.bounds.now c.args.picks.now) c.args.labels.now.values.items l kept)
          c.args.from c.args.sought c.loop-stands.stands c.demand_of_link-stands.result c.loop-stands.invariant.leads up other found;
      inside = (let below = link_right l kept.rooted c.loop-stands.stands c.demand_of_link-stands.result up found in omega arith);
    }
