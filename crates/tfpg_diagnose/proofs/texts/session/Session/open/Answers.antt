use Rattle.tfpg_diagnose.proofs.lemmas.texts.SessionLines.{new_session}
use Rattle.tfpg_diagnose.proofs.texts.session.Session.open.Goals as goal

pub returns-clause-new : goal.returns-clause-new
returns-clause-new c =
    new_session c.args.graph_text.now c.args.terms c.in_ok-engine.engine c.in_ok-engine.ensures.opened c.nothing-latest.result c.nothing-latest.ensures
