use Rattle.std.proofs.Common.{◌≡◌, ◌∙◌, ap, length, arith, true, false}
use Rattle.tfpg_panel.specs.Desk.{DeskOf, seen_by}
use Rattle.tfpg_panel.proofs.lemmas.Tellings.{one_more, all_told}
use Rattle.tfpg_panel.proofs.desk.Desk.tell.Goals as goal

pub loop-place-preserved-then-tell_at : goal.loop-place-preserved-then-tell_at
loop-place-preserved-then-tell_at g c =
    let seen = seen_by g.P.Panel.state in
    one_more c.args.round.now (seen c.args.self.now) (seen c.loop-place.self) (seen c.tell_at.new.self) c.loop-place.place true c.always_keeps_its_panels.ensures c.loop-place.invariant c.if-tell_at.ensures

pub loop-place-preserved : goal.loop-place-preserved
loop-place-preserved g c =
    let seen = seen_by g.P.Panel.state in
    one_more c.args.round.now (seen c.args.self.now) (seen c.loop-place.self) (seen c.tell_at.new.self) c.loop-place.place false c.always_keeps_its_panels.ensures c.loop-place.invariant c.if-tell_at.ensures

pub returns : goal.returns
returns g c =
    let seen = seen_by g.P.Panel.state in
    let kept : length c.self-in-loop-place.inside.kept.items ≡ length c.loop-place.self.kept = ap (λ (desk : DeskOf g.row.P.Denot). length desk.kept) c.self-in-loop-place.view_is in
    let counted : c.len.result ≡ length c.self-in-loop-place.inside.kept.items = c.len.ensures ∙ c.self-in-loop-place.inside.kept.ok.0 in
    record { told = all_told c.args.round.now (seen c.args.self.now) (seen c.loop-place.self) c.loop-place.place c.always_keeps_its_panels.ensures c.loop-place.invariant (omega (arith, c.loop-place-test.false, counted, kept)) }
