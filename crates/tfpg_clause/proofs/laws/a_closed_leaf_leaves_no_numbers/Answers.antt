use Rattle.tfpg_clause.proofs.lemmas.traces.NoTrace.{no_cited_leaf, no_leaf}
use Rattle.tfpg_clause.proofs.laws.a_closed_leaf_leaves_no_numbers.Goals as goal

pub returns : goal.returns
returns c = record {
  cited =
      λ case path seen reasons numbers ordered closed facts picks. no_cited_leaf case ordered numbers facts path seen reasons picks closed;
  path = λ case path seen reasons numbers ordered closed facts picks. no_leaf case ordered numbers facts path seen reasons picks closed;
}
