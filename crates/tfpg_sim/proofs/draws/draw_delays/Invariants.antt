use Rattle.std.proofs.Common.{◌≡◌, fold, length, take}
use Rattle.std.specs.List.{scan}
use Rattle.tfpg_sim.specs.inside.Arrivals.{AreNearDelays}
use Rattle.tfpg_sim.specs.Draws.{after_draw, delay_of, drawn}
use Rattle.tfpg_sim.proofs.draws.draw_delays.Given as goal

-- the delays of the edges so far
abbrev pub invariant-loop-number : goal.invariant-loop-number
invariant-loop-number l = record {
  delays : l.delays.items ≡ scan (λ before edge. after_draw before) (λ before edge. delay_of edge (drawn before)) l.initial.state (take l.number l.graph.edges);
  after : l.state ≡ fold (λ before edge. after_draw before) l.initial.state (take l.number l.graph.edges);
  small : AreNearDelays l.delays.items;
  count : length l.delays.items ≡ l.number;
}
