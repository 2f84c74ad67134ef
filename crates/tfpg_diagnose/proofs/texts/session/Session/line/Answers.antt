use Rattle.std.proofs.Common.{ℕ, List, [], ◌∷◌, ◌++◌, subst, sym}
use Rattle.tfpg_diagnose.specs.texts.Sessions.{SessionRepresents}
use Rattle.tfpg_diagnose.proofs.texts.session.Session.line.Goals as goal

pub returns-in-Ok-clause-block : goal.returns-in-Ok-clause-block
returns-in-Ok-clause-block c graph terms lines bytes so_far =
    subst (λ (block : List ℕ). SessionRepresents graph terms (lines ++ c.args.text.now ∷ []) (bytes ++ block) c.take.new.self) (sym c.in-Ok.ensures) (c.in_ok-take.ensures.represents graph terms lines bytes so_far)
