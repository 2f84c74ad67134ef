use Rattle.std.proofs.Common.{◌≡◌, map, drop}
use Rattle.tfpg_words.specs.Names.{are_distinct}
use Rattle.tfpg_words.proofs.names.are_distinct.Given as goal

abbrev pub invariant-loop-index : goal.invariant-loop-index
invariant-loop-index l = are_distinct (map (λ name. name.now) l.names) ≡ are_distinct (map (λ name. name.now) (drop l.index l.names))
