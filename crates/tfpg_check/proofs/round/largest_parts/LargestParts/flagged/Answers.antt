use Rattle.std.proofs.Common.{◌||◌, ◌+◌, ◌∷◌, [], ℕ, List, Bool, length, length-append, ap, ◌∙◌}
use Rattle.std.specs.List.{list_any}
use Rattle.tfpg_check.specs.inside.Lookups.{flag_at}
use Rattle.tfpg_check.proofs.lemmas.judging.PartsByNumber.{flagged_more}
use Rattle.tfpg_check.proofs.round.largest_parts.LargestParts.flagged.Goals as goal

pub loop-whole-preserved : goal.loop-whole-preserved
loop-whole-preserved c = (
  ap length c.in_ok-push.ensures.items ∙ length-append c.loop-whole.said.items (c.has_flag-is_up.result ∷ []) ∙ ap (λ (n : ℕ). n + 1) c.loop-whole.invariant.0,
  λ hypotheses lists before.
      flagged_more hypotheses before c.args.self.now lists c.args.flags.now c.loop-whole.said.items c.loop-whole.whole c.row.result.now c.row.ensures
      (c.loop-whole.invariant.1 hypotheses lists before) c.push.new.self.items c.has_flag-is_up.result c.loop-whole.invariant.0
      (c.has_flag-is_up.ensures ∙ ap (λ (said : List Bool). list_any (λ (n : ℕ). flag_at c.args.flags.now n || flag_at said n) c.row.result.now) c.as_slice.ensures.value)
      c.in_ok-push.ensures.items,
)
