use Rattle.std.proofs.Common.{◌∙◌, All, sym, ap, subst}
use Rattle.std.proofs.lemmas.List.{take_all}
use Rattle.std.proofs.lemmas.Option.{slice_get-get_or}
use Rattle.tfpg_base.specs.Trace.{time_of}
use Rattle.tfpg_sim.specs.declared.entry.Entry.TheVariants.{Start}
use Rattle.tfpg_sim.specs.Simulation.{start_of}
use Rattle.tfpg_sim.specs.inside.Settling.{IsFailureStart}
use Rattle.tfpg_sim.proofs.lemmas.scripts.ScriptOrder.{start_step, own_step}
use Rattle.tfpg_sim.proofs.trace.started.Goals as goal

pub loop-entry-preserved : goal.loop-entry-preserved
loop-entry-preserved c =
    let at = slice_get-get_or c.args.entries.now c.loop-entry.entry-index (Start 0 0) c.loop-entry-test.true in
    record {
      times = λ graph script node. ap (λ trace. time_of trace node) c.in_ok-set_start.ensures
          ∙ start_step graph c.args.entries.now script c.loop-entry.entry-index _ at c.loop-entry.trace (c.loop-entry.invariant.times graph script) node;
      own = λ graph stop script all. subst (All (IsFailureStart graph stop)) (sym c.in_ok-set_start.ensures)
          (own_step graph c.args.entries.now script c.loop-entry.entry-index _ at c.loop-entry.trace stop all (c.loop-entry.invariant.own graph stop script all));
    }

pub returns-clause-times : goal.returns-clause-times
returns-clause-times c = λ graph script node. c.loop-entry.invariant.times graph script node
    ∙ ap (λ entries. start_of entries node) (take_all c.loop-entry.entry-index c.args.entries.now c.loop-entry-test.false)
