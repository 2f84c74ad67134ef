-- What the number had stands at the end of the trail.
use Rattle.std.proofs.Common.{length, refl}
use Rattle.std.proofs.lemmas.Option.{slice_get_read}
use Rattle.tfpg_diff.proofs.lemmas.Undoing.{Remembers-lowered}
use Rattle.tfpg_diff.proofs.labels.Labels.lower.Goals as goal

pub returns-clause-remembers : goal.returns-clause-remembers
returns-clause-remembers c =
    Remembers-lowered c.args.self.now _
    (record { value = c.index.result.now; link = c.index-2.result.now; number = c.args.number; before = c.args.before }) c.args.value c.args.link
    (slice_get_read c.args.self.now.values.items (length c.args.self.now.values.items) c.args.number c.index.result.now refl c.requires.values c.index.ensures)
    (slice_get_read c.args.self.now.links.items (length c.args.self.now.links.items) c.args.number c.index-2.result.now refl c.requires.links c.index-2.ensures)
    refl refl c.save.ensures.reach c.save.ensures.saved c.save.ensures.others
