use Rattle.std.proofs.Common.{subst, Bool, Some}
use Rattle.std.specs.Prelude.{Ok}
use Rattle.tfpg_search.specs.inside.Moves.{Loading}
use Rattle.tfpg_search.specs.Searched.{call_of}
use Rattle.tfpg_search.proofs.search.Search.look.Goals as goal

pub judge-requires-clause-stands : goal.judge-requires-clause-stands
judge-requires-clause-stands g c =
    (subst (λ (b : Bool). Loading c.args.graph.now c.args.log.now (call_of c.args.self.now c.load.new.self c.args.steps.now c.load.new.steps) (Ok b)) c.in-Ok-true.field-0-test c.in-Ok-true.ensures.loading).0

pub judge-requires-clause-loaded : goal.judge-requires-clause-loaded
judge-requires-clause-loaded g c =
    (subst (λ (b : Bool). Loading c.args.graph.now c.args.log.now (call_of c.args.self.now c.load.new.self c.args.steps.now c.load.new.steps) (Ok b)) c.in-Ok-true.field-0-test c.in-Ok-true.ensures.loading).1

pub returns-in-Ok-clause-looking : goal.returns-in-Ok-clause-looking
returns-in-Ok-clause-looking g c =
    let loading =
    subst (λ (b : Bool). Loading c.args.graph.now c.args.log.now (call_of c.args.self.now c.load.new.self c.args.steps.now c.load.new.steps) (Ok b)) c.in-Ok-true.field-0-test c.in-Ok-true.ensures.loading in
    (loading.0, loading.1, c.in-Ok.ensures, loading.2, loading.3)

pub returns-in-Err-judge-clause-looking : goal.returns-in-Err-judge-clause-looking
returns-in-Err-judge-clause-looking g c =
    let loading =
    subst (λ (b : Bool). Loading c.args.graph.now c.args.log.now (call_of c.args.self.now c.load.new.self c.args.steps.now c.load.new.steps) (Ok b)) c.in-Ok-true.field-0-test c.in-Ok-true.ensures.loading in
    (Some c.load.new.self.path, loading.2)
