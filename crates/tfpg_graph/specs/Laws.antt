-- What the laws of this crate say that others rest on, each by its name.
use Rattle.std.specs.Prelude.{◌≡◌, ℕ, List}
use Rattle.tfpg_graph.specs.Graph.{Tfpg}
use Rattle.tfpg_graph.specs.Text.{Spells}
use Rattle.tfpg_graph.specs.Valid.{IsValid}

-- No two valid graphs are spelled by one text.
abbrev pub TextsSpellAtMostOneGraph : Type 0
TextsSpellAtMostOneGraph =
    (text : List ℕ) (graph other : Tfpg) → Spells text graph → IsValid graph → Spells text other → IsValid other
    → graph ≡ other
