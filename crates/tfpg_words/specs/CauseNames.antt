-- The names of why words are refused.
use Rattle.std.specs.Prelude.{ℕ, List, codes}
use Rattle.tfpg_words.specs.declared.usage_cause.UsageCause.{UsageCause}
use Rattle.tfpg_words.specs.declared.usage_cause.UsageCause.TheVariants as usage

-- the name of why the words of the command line are refused
abbrev pub usage_name : UsageCause → List ℕ
usage_name usage.NoCommand = codes "NoCommand"
usage_name usage.UnknownCommand = codes "UnknownCommand"
usage_name usage.BadWords = codes "BadWords"
usage_name usage.BadNumber = codes "BadNumber"
usage_name usage.OutOfRange = codes "OutOfRange"
usage_name usage.BadPanel = codes "BadPanel"
usage_name usage.BadNames = codes "BadNames"
usage_name usage.UnknownNode = codes "UnknownNode"
