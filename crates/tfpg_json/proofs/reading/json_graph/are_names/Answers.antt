use Rattle.std.proofs.Common.{sym, ◌∙◌}
use Rattle.std.proofs.lemmas.List.Folds.{list_all-map}
use Rattle.tfpg_base.specs.Words.{is_name}
use Rattle.tfpg_json.proofs.reading.json_graph.are_names.Goals as goal

pub returns : goal.returns
returns c = c.all_are_names.ensures ∙ sym (list_all-map is_name (λ word. word.now) c.args.words.now)
