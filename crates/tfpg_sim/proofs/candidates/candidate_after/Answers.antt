use Rattle.std.proofs.Common.{◌≢◌, not, sym, ap, subst, ◌∙◌}
use Rattle.tfpg_sim.specs.inside.Settling.{simulation_case, IsCandidate}
use Rattle.tfpg_sim.proofs.lemmas.simulations.SettledNodes.{keeps_candidate}
use Rattle.tfpg_sim.proofs.candidates.candidate_after.Goals as goal
use Rattle.tfpg_base.proofs.lemmas.lists.Choices.{is_some-none}

pub returns-then-is_none : goal.returns-then-is_none
returns-then-is_none c log limit before time are is absent own =
    let unlike : c.args.settled ≢ c.args.node = λ same. c.if-node-settled.true (sym same) in
    subst (λ trace. IsCandidate (simulation_case c.args.delayed.now.graph.now log c.args.delayed.now.delays.now limit) trace c.args.node c.args.candidate_before) (sym is)
    (keeps_candidate c.args.delayed.now.graph.now log c.args.delayed.now.delays.now limit before c.args.settled time absent c.args.node c.args.candidate_before unlike
    (sym c.edge_between.ensures ∙ is_some-none c.edge_between.result (c.is_none.ensures ∙ ap not c.if-is_none.true)) own)
