use Rattle.std.proofs.Common.{sym, subst, ap, ◌∙◌}
use Rattle.tfpg_log.specs.Log.{Logbook, ignoring}
use Rattle.tfpg_predict.specs.Probed.{IsProbed}
use Rattle.tfpg_predict.specs.inside.Quests.{asked_by}
use Rattle.tfpg_predict.proofs.lemmas.AsProbed.{probed_ignoring}
use Rattle.tfpg_predict.proofs.trial.try_bound.Goals as goal

pub search-requires-clause-probed : goal.search-requires-clause-probed
search-requires-clause-probed g c =
    subst (λ (log : Logbook). IsProbed (asked_by c.args.quest.now) c.args.bound c.in_ok-probed.probed.graph log)
    (sym (c.ignore.ensures ∙ ap (ignoring c.in_ok-probed.probed.log) c.doubts.ensures))
    (probed_ignoring c.args.quest.now.graph.now c.args.quest.now.log.now c.args.quest.now.node c.args.quest.now.to c.args.quest.now.hypothesis.doubts c.args.bound
    c.in_ok-probed.probed.graph c.in_ok-probed.probed.log c.in_ok-probed.ensures.probed)
