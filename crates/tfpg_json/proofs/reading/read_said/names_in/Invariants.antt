use Rattle.std.proofs.Common.{◌≡◌, map, take, Some}
use Rattle.serde_json.specs.Find.{as_str}
use Rattle.tfpg_base.specs.Choice.{each_of}
use Rattle.tfpg_json.proofs.lemmas.ListsRead.{read_value}
use Rattle.tfpg_json.proofs.reading.read_said.names_in.Given as goal

-- the texts so far are read
abbrev pub invariant-loop-item : goal.invariant-loop-item
invariant-loop-item l = each_of (map (read_value as_str l.item-items) (take l.item-index l.item-items)) ≡ Some (map (λ name. name.now) l.names)
