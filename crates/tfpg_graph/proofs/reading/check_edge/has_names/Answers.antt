use Rattle.std.proofs.Common.{sym, ◌∙◌, ap, ◌&&◌}
use Rattle.std.specs.List.{list_all}
use Rattle.std.proofs.lemmas.List.Folds.{list_all-map}
use Rattle.std.proofs.Math.Bool.{and_assoc}
use Rattle.tfpg_base.specs.Words.{is_name}
use Rattle.tfpg_graph.specs.Declares.{modes_listed}
use Rattle.tfpg_graph.proofs.reading.check_edge.has_names.Goals as goal

pub returns-then-has_end_names : goal.returns-then-has_end_names
returns-then-has_end_names c =
    c.are_names.ensures ∙ sym (list_all-map is_name (λ name. name.now) c.args.modes.now) ∙ ap (list_all is_name) c.requires.listed
    ∙ ap (λ both. both && list_all is_name (modes_listed c.args.words.modes.now)) (sym c.if-has_end_names.true ∙ c.has_end_names.ensures)
    ∙ and_assoc (is_name c.args.words.source.now) (is_name c.args.words.target.now) (list_all is_name (modes_listed c.args.words.modes.now))

pub returns-else-has_end_names : goal.returns-else-has_end_names
returns-else-has_end_names c =
    c.if-has_end_names.false
    ∙ ap (λ both. both && list_all is_name (modes_listed c.args.words.modes.now)) (sym c.if-has_end_names.false ∙ c.has_end_names.ensures)
    ∙ and_assoc (is_name c.args.words.source.now) (is_name c.args.words.target.now) (list_all is_name (modes_listed c.args.words.modes.now))
