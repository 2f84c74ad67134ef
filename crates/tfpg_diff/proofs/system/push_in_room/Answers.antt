-- There is room, so the pick is inserted at the end.
use Rattle.std.proofs.Common.{◌≡◌, true, length, ap, ◌∙◌, arith}
use Rattle.std.specs.Prelude.{is_ok}
use Rattle.std.specs.List.{insert}
use Rattle.std.proofs.lemmas.List.Edits.{insert_end}
use Rattle.tfpg_diff.proofs.system.push_in_room.Goals as goal

pub returns-clause-items : goal.returns-clause-items
returns-clause-items c =
    let ok : is_ok c.insert.result ≡ true = c.insert.ensures.succeeds c.requires in
    let own = c.args.picks.now.ok.0 in
    let end : c.len-end.result ≡ length c.args.picks.now.items = omega (arith, own, c.len-end.ensures) in
    (rw ok at c.insert.ensures.items) ∙ ap (λ n. insert c.args.picks.now.items n c.args.pick) end ∙ insert_end c.args.picks.now.items c.args.pick
