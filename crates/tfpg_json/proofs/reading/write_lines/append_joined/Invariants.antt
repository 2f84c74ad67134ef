use Rattle.std.proofs.Common.{◌≡◌, ◌++◌, map, take}
use Rattle.std.specs.List.{join_with_byte}
use Rattle.tfpg_json.proofs.reading.write_lines.append_joined.Given as goal

-- the names so far are joined after the old bytes
abbrev pub invariant-loop-index : goal.invariant-loop-index
invariant-loop-index l = l.into.items ≡ l.fn.into.items ++ join_with_byte 44 (take l.index (map (λ name. name.now) l.names))
