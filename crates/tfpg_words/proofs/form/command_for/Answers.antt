use Rattle.std.proofs.Common.{◌∙◌, ◌++◌, [], List, map, ap, ap₂, sym, append_assoc}
use Rattle.std.specs.Borrow.{Bor}
use Rattle.clap.specs.Walk.{Rule, Text}
use Rattle.clap.specs.Simple.{with_rule}
use Rattle.tfpg_words.specs.inside.Rows.{app_with, flag_arg, option_arg}
use Rattle.tfpg_base.proofs.lemmas.lists.Images.{map-map_more}
use Rattle.tfpg_words.proofs.form.command_for.Goals as goal

no_name : Bor Text
no_name = record { ref_ptr = (0, 0); now = [] }

pub loop-name-preserved : goal.loop-name-preserved
unfolding no_name
loop-name-preserved c =
    c.in_ok-command.ensures.shape c.option_arg.ensures.local
    ∙ (ap₂ with_rule c.loop-name.invariant c.option_arg.ensures.rule
    ∙ ap app_with (sym (map-map_more option_arg (λ (name : Bor Text). name.now) c.args.form.now.options.now c.loop-name.name-index no_name c.loop-name-test.true)))

pub loop-name-2-preserved : goal.loop-name-2-preserved
unfolding no_name
loop-name-2-preserved c =
    let before = map option_arg (map (λ name. name.now) c.args.form.now.options.now) in
    c.in_ok-command-2.ensures.shape c.flag_arg.ensures.local
    ∙ (ap₂ with_rule c.loop-name-2.invariant c.flag_arg.ensures.rule
    ∙ (ap app_with (append_assoc before _ _)
    ∙ ap (λ (l : List Rule). app_with (before ++ l)) (sym (map-map_more flag_arg (λ (name : Bor Text). name.now) c.args.form.now.flags.now c.loop-name-2.name-index no_name c.loop-name-2-test.true))))
