-- One step back.
use Rattle.std.proofs.Common.{ℕ, ◌<◌, ◌≤◌, sym, ◌∙◌, subst, arith, length}
use Rattle.std.specs.Prelude.{All}
use Rattle.std.proofs.lemmas.List.{length-set}
use Rattle.tfpg_diff.specs.declared.trail.Saved.{Saved}
use Rattle.tfpg_diff.proofs.lemmas.Undoing.{undone_to-step, All-popped}
use Rattle.tfpg_diff.proofs.labels.Labels.undo_to.Goals as goal

pub loop-saved-preserved : goal.loop-saved-preserved
loop-saved-preserved c =
    let popped = c.in-Some.ensures.popped in
    let saved : Saved = c.in-Some.saved in
    let left = All-popped (length c.loop-saved.self.values.items) c.loop-saved.self.trail.saved.items c.pop_since.new.self.saved.items saved popped.0
    c.loop-saved.invariant.inside in
    let same = length-set c.loop-saved.self.values.items saved.number saved.value in
    record {
      values = same ∙ c.loop-saved.invariant.values;
      links = length-set c.loop-saved.self.links.items saved.number saved.link ∙ c.loop-saved.invariant.links;
      inside = subst (λ (n : ℕ). All (λ (each : Saved). each.number < n) c.pop_since.new.self.saved.items) (sym same) left.0;
      reach = c.in-Some.ensures.reach ∙ c.loop-saved.invariant.reach;
      back = λ picks below.
          let since : picks ≤ saved.before = (let last = popped.1 in omega arith) in
          undone_to-step c.loop-saved.self c.pop_since.new.self.saved.items saved picks since popped.0 ∙ c.loop-saved.invariant.back picks below;
    }
