use Rattle.std.proofs.Common.{◌∙◌, ap, true}
use Rattle.clap.specs.Simple.{App, app_of_fields, on_top}
use Rattle.tfpg_words.proofs.form.new_command.Goals as goal

pub returns : goal.returns
returns c =
    ap app_of_fields c.disable_version_flag.ensures
    ∙ (ap (λ (a : App). on_top (λ s. record s { disable_version_flag = true }) a)
    (ap app_of_fields c.disable_help_flag.ensures
    ∙ (ap (λ (a : App). on_top (λ s. record s { disable_help_flag = true }) a)
    (ap app_of_fields c.no_binary_name.ensures
    ∙ ap (λ (a : App). on_top (λ s. record s { no_binary_name = true }) a) c.new.ensures.app))))
