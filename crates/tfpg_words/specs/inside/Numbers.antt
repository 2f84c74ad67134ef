-- How contracts inside the crate see numbers and their options.
use Rattle.tfpg_words.specs.declared.number.NumberOption.{NumberOption as CodeOption}
use Rattle.tfpg_words.specs.Meaning.{NumberOption}
use Rattle.tfpg_words.specs.inside.Rows.{hyphened}

abbrev pub option_in : CodeOption → NumberOption
option_in option =
    record { name = hyphened option.name.now; least = option.least; limit = option.limit; default = option.default }
