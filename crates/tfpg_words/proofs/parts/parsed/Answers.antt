use Rattle.clap.proofs.WalkLemmas.{both}
use Rattle.tfpg_words.proofs.parts.parsed.Goals as goal

pub returns-in-Ok : goal.returns-in-Ok
returns-in-Ok c = (c.in-Ok.ensures.kinds c.requires, (c.in-Ok.ensures.matches (both _ _ c.requires).0).0)
