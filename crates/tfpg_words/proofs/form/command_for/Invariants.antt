use Rattle.std.proofs.Common.{◌≡◌, ◌++◌, map, take}
use Rattle.clap.specs.Simple.{app_of}
use Rattle.tfpg_words.specs.inside.Rows.{app_with, flag_arg, option_arg}
use Rattle.tfpg_words.proofs.form.command_for.Given as goal

abbrev pub invariant-loop-name : goal.invariant-loop-name
invariant-loop-name l = app_of l.command ≡ app_with (map option_arg (map (λ name. name.now) (take l.name-index l.name-items)))

abbrev pub invariant-loop-name-2 : goal.invariant-loop-name-2
invariant-loop-name-2 l =
    app_of l.command ≡ app_with (map option_arg (map (λ name. name.now) l.form.options.now) ++ map flag_arg (map (λ name. name.now) (take l.name-index l.name-items)))
