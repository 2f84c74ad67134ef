use Rattle.std.proofs.Common.{List, ℕ, [], ◌++◌, ap, ◌∙◌}
use Rattle.tfpg_base.proofs.lemmas.lists.Appended.{appended_more}
use Rattle.tfpg_report.specs.Blocks.{head_text}
use Rattle.tfpg_run.specs.fleet.Answers.{naming_text}
use Rattle.tfpg_run.proofs.fleet.opening.opening_on.Goals as goal

pub loop-name-preserved : goal.loop-name-preserved
loop-name-preserved c =
    appended_more (λ (name : List ℕ). naming_text name ++ head_text c.args.terms) c.args.names.now c.loop-name.name-index c.name-item.result [] c.loop-name.text.items c.append_opening.new.into.items
    c.loop-name-test.true c.loop-name.invariant
    (c.in_ok-append_opening.ensures ∙ ap (λ (name : List ℕ). c.loop-name.text.items ++ (naming_text name ++ head_text c.args.terms)) (c.as_slice.ensures ∙ c.name-item.is))
