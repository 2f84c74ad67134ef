use Rattle.std.proofs.Common.{◌≡◌, subst, sym}
use Rattle.tfpg_evidence.specs.declared.finding.Status.{Status}
use Rattle.tfpg_embed.specs.Ranking.{times_of_status}
use Rattle.tfpg_embed.specs.Rooms.{room_after}
use Rattle.tfpg_embed.proofs.lemmas.Masks.{no_times}
use Rattle.tfpg_embed.proofs.ranking.put_times.Goals as goal

pub returns-else-count-times : goal.returns-else-count-times
returns-else-count-times c =
    subst (λ (status : Status). c.args.times.now ≡ room_after (times_of_status c.args.nodes status) c.args.times.now) (sym c.in-Ranked.is)
    (sym (no_times c.in-Ranked.trace c.args.nodes c.args.times.now c.if-count-times.false))
