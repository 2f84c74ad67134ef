use Rattle.std.proofs.Common.{ℕ, List, [], ◌∷◌, ◌++◌, ap, subst, ◌∙◌}
use Rattle.tfpg_graph.specs.Graph.{Tfpg}
use Rattle.tfpg_engine.specs.EngineState.{calls_of_engine}
use Rattle.tfpg_diagnose.specs.texts.Sessions.{CountsBlock, SessionRepresents, latest_text}
use Rattle.tfpg_embed.specs.EventLines.{line_of_event}
use Rattle.tfpg_embed.proofs.session.open_session.OpenSession.event.Goals as goal

pub returns-clause-block : goal.returns-clause-block
returns-clause-block c graph terms lines bytes so_far =
    subst (λ (line : List ℕ). SessionRepresents graph terms (lines ++ line ∷ []) (bytes ++ latest_text c.take.new.self) c.take.new.self)
    (c.deref.ensures.value ∙ c.in_ok-line.ensures ∙ ap (λ (g : Tfpg). line_of_event g c.args.time c.args.kind c.args.index) c.graph.ensures) (c.in_ok-take.ensures.represents graph terms lines bytes so_far)

pub returns-clause-work : goal.returns-clause-work
returns-clause-work c rounds represents =
    subst (λ (line : List ℕ). CountsBlock c.args.self.now.session.engine rounds line (latest_text c.take.new.self)
    (calls_of_engine c.args.self.now.session.engine) (calls_of_engine c.take.new.self.engine))
    (c.deref.ensures.value ∙ c.in_ok-line.ensures ∙ ap (λ (g : Tfpg). line_of_event g c.args.time c.args.kind c.args.index) c.graph.ensures) (c.in_ok-take.ensures.work rounds represents)
