use Rattle.std.proofs.Common.{◌≡◌, ◌++◌, map, take}
use Rattle.std.specs.List.{join_with_byte}
use Rattle.tfpg_base.proofs.text_line.append_words.Given as goal

-- the words so far are joined after the old bytes
abbrev pub invariant-loop-index : goal.invariant-loop-index
invariant-loop-index l = l.into.items ≡ l.fn.into.items ++ join_with_byte 32 (take l.index (map (λ word. word.now) l.words))
