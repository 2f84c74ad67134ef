use Rattle.std.proofs.Common.{Some, ap}
use Rattle.tfpg_base.specs.Memory.{SteadySourceState}
use Rattle.tfpg_answers.proofs.lemmas.texts.Explaining.{map_of_text}
use Rattle.tfpg_answers.proofs.texts.explaining.map_in.Goals as goal

pub returns-in-Ok-clause-spells : goal.returns-in-Ok-clause-spells
returns-in-Ok-clause-spells c =
    let input = c.new-input.result in
    let input' = c.read_map.new.input in
    map_of_text c.args.graph.now c.args.map_text.now (record { left = Some input.left; ended = input.ended; faults = 0 }) (record { left = Some input'.left; ended = input'.ended; faults = 0 })
    (ap (λ (s : SteadySourceState). Some s.left) c.new-input.ensures) c.in-Ok.map c.in-Ok.ensures.map
