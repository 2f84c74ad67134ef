use Rattle.tfpg_log.proofs.lemmas.logs_of_lines.Accepting.{of-added}
use Rattle.tfpg_log.proofs.log.Log.add.Goals as goal

pub accept-requires : goal.accept-requires
accept-requires c =
    record {
      may_come =
          record { room = c.requires.next.room; not_back = c.requires.next.not_back; in_range = c.requires.next.in_range };
      mode_room =
          c.requires.next.mode_room;
    }

pub returns-clause-of : goal.returns-clause-of
returns-clause-of c =
    of-added c.args.graph.now c.args.self.now c.accept.new.self c.args.event c.accept.result c.requires.of c.requires.next c.accept.ensures.ok c.accept.ensures.err
