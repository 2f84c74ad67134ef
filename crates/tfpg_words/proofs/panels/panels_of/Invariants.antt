use Rattle.std.proofs.Common.{◌≡◌, map, take, Some}
use Rattle.tfpg_words.specs.PanelWords.{panels_named}
use Rattle.tfpg_words.proofs.panels.panels_of.Given as goal

-- the panels so far are named by the words so far
abbrev pub invariant-loop-word : goal.invariant-loop-word
invariant-loop-word l = panels_named (map (λ word. word.now) (take l.word-index l.words)) ≡ Some l.panels
