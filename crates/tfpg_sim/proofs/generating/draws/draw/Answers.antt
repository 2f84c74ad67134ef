use Rattle.std.proofs.Common.{ℕ, ◌%◌, ap}
use Rattle.rand_pcg.specs.Lcg.{Lcg}
use Rattle.tfpg_sim.specs.Generated.{next_word, after_word}
use Rattle.tfpg_sim.proofs.generating.draws.draw.Goals as goal

pub returns-clause-value : goal.returns-clause-value
unfolding next_word
returns-clause-value c = ap (λ (p : ℕ × Lcg). p.0 % c.args.limit) c.next_word.ensures

pub returns-clause-after : goal.returns-clause-after
unfolding after_word
returns-clause-after c = ap (λ (p : ℕ × Lcg). p.1) c.next_word.ensures
