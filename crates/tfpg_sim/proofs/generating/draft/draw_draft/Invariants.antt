use Rattle.std.proofs.Common.{◌≡◌}
use Rattle.tfpg_sim.specs.Generated.{draft_after}
use Rattle.tfpg_sim.proofs.generating.draft.draw_draft.Given as goal

-- the draft of the discrepancies so far
abbrev pub invariant-loop-index : goal.invariant-loop-index
invariant-loop-index l = record {
  kinds : l.kinds.items ≡ (draft_after l.initial.state l.index).kinds;
  edges : l.edges.items ≡ (draft_after l.initial.state l.index).edges;
  state : l.state ≡ (draft_after l.initial.state l.index).state;
}
