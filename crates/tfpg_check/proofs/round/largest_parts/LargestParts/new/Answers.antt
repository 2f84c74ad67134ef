use Rattle.std.proofs.Common.{ℕ, Vec, Global, map, ap, ◌∙◌}
use Rattle.std.proofs.lemmas.List.{map_push}
use Rattle.tfpg_check.proofs.lemmas.judging.PartsByNumber.{rows_more}
use Rattle.tfpg_check.proofs.round.largest_parts.LargestParts.new.Goals as goal

pub loop-whole-preserved : goal.loop-whole-preserved
loop-whole-preserved c =
    rows_more c.args.table.now.hypotheses c.loop-whole.whole (map (λ (row : Vec ℕ Global). row.items) c.loop-whole.rows.items) (map (λ (row : Vec ℕ Global). row.items) c.push.new.self.items)
    c.in_ok-largest_parts.field-0.items c.loop-whole.invariant c.in_ok-largest_parts.ensures
    (ap (map (λ (row : Vec ℕ Global). row.items)) c.in_ok-push.ensures.items ∙ map_push (λ (row : Vec ℕ Global). row.items) c.loop-whole.rows.items c.in_ok-largest_parts.field-0)
