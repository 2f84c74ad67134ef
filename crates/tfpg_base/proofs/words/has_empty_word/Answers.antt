use Rattle.std.proofs.Common.{◌∙◌, sym, length, eqb}
use Rattle.tfpg_base.proofs.lemmas.lists.Images.{list_any-map}
use Rattle.tfpg_base.proofs.words.has_empty_word.Goals as goal

pub returns : goal.returns
returns c = c.any_is_empty.ensures ∙ sym (list_any-map (λ word. eqb (length word) 0) (λ word. word.now) c.args.words.now)
