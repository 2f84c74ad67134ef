use Rattle.tfpg_panel.proofs.lemmas.PanelItems.{keeps_seen}
use Rattle.tfpg_panel.proofs.desk.Desk.always_keeps_its_panels.Goals as goal

pub returns : goal.returns
returns g c = keeps_seen g.P.Panel.state c.self.inside.panels.items c.self.inside.kept.items c.self.inside.losses.items c.args.self.now c.self.invariant.0 c.self.view_is
