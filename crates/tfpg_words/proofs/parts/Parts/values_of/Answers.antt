use Rattle.std.proofs.Common.{◌∙◌, ap, List, Option, []}
use Rattle.std.specs.Prelude.{unwrap_or}
use Rattle.clap.specs.Walk.{Text}
use Rattle.clap.specs.Matches.{found_of}
use Rattle.clap.proofs.WalkLemmas.{raw_values-rows}
use Rattle.tfpg_words.proofs.parts.Parts.values_of.Goals as goal

pub returns : goal.returns
returns c = ap (λ (values : Option (List Text)). unwrap_or values []) (c.get_raw.ensures ∙ raw_values-rows (found_of c.args.self.now.matches) c.args.name.now)
