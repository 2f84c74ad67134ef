use Rattle.std.proofs.Common.{ℕ, ◌+◌, ◌*◌, ap, ◌∙◌}
use Rattle.rand_pcg.specs.Lcg.{Lcg}
use Rattle.rand_pcg.specs.Pcg.{pcg32}
use Rattle.tfpg_sim.specs.Draws.{drawn, after_draw}
use Rattle.tfpg_sim.proofs.draws.draw_value.Goals as goal

pub returns-clause-value : goal.returns-clause-value
unfolding drawn
returns-clause-value c =
    let after = ap (λ (p : ℕ × Lcg). p.1) c.next_word.ensures in
    let high = c.from-high.ensures ∙ ap (λ (p : ℕ × Lcg). p.0) c.next_word.ensures in
    let low = c.from-low.ensures ∙ ap (λ (p : ℕ × Lcg). p.0) c.next_word-2.ensures ∙ ap (λ (g : Lcg). (pcg32 g).0) after in
    ap (λ n. n * 4294967296 + c.from-low.result) high ∙ ap (λ n. (pcg32 c.args.state.now).0 * 4294967296 + n) low

pub returns-clause-after : goal.returns-clause-after
unfolding after_draw
returns-clause-after c =
    ap (λ (p : ℕ × Lcg). p.1) c.next_word-2.ensures ∙ ap (λ (g : Lcg). (pcg32 g).1) (ap (λ (p : ℕ × Lcg). p.1) c.next_word.ensures)
