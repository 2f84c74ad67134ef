use Rattle.std.proofs.Common.{◌∙◌}
use Rattle.clap.specs.Matches.{found_of}
use Rattle.clap.proofs.WalkLemmas.{first_value-rows}
use Rattle.tfpg_words.proofs.lemmas.Taken.{first_given}
use Rattle.tfpg_words.specs.inside.Parts.{rows_in}
use Rattle.tfpg_words.proofs.parts.Parts.value_of.Goals as goal

pub returns : goal.returns
returns c = c.get_str.ensures ∙ (first_value-rows (found_of c.args.self.now.matches) c.args.name.now ∙ first_given c.args.name.now (rows_in c.args.self.now))
