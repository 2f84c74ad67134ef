use Rattle.std.proofs.Common.{◌≡◌, map, take}
use Rattle.tfpg.proofs.panels_of.Given as goal

-- there is a panel for each of the words so far
abbrev pub invariant-loop-word : goal.invariant-loop-word
invariant-loop-word g l = map (λ panel. panel.word) l.panels.items ≡ take l.word-index l.named
