use Rattle.std.proofs.Common.{◌∙◌, ap, arith}
use Rattle.std.proofs.lemmas.List.{length-map}
use Rattle.tfpg_panel.specs.Desk.{seen_by}
use Rattle.tfpg_panel.proofs.lemmas.PanelItems.{lent_at}
use Rattle.tfpg_panel.proofs.desk.Desk.told.Goals as goal

pub returns : goal.returns
returns g c = c.told.ensures ∙ lent_at g.P.Panel.state c.self.inside.panels.items c.self.inside.kept.items c.self.inside.losses.items c.args.panel c.index.result.now (seen_by g.P.Panel.state c.args.self.now) c.index.ensures
    (ap (seen_by g.P.Panel.state) c.self.view_is) (c.requires.0, omega (arith, c.requires.1, length-map c.args.self.now.panels g.P.Panel.state))
