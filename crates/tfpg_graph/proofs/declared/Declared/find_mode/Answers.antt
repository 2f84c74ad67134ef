use Rattle.std.proofs.Common.{rules, ◌≡◌, ◌∙◌}
use Rattle.tfpg_graph.proofs.lemmas.declaring.Named.{index_of-mode}
use Rattle.tfpg_graph.proofs.declared.Declared.find_mode.Goals as goal

pub returns : goal.returns
returns c =
    let same : c.map.result ≡ c.get_index_of.result = search rules in
    rw (← c.self.view_is) (same ∙ c.get_index_of.ensures.index ∙ index_of-mode c.self.inside c.args.name.now)
