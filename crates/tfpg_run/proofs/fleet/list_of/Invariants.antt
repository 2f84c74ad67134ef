use Rattle.std.proofs.Common.{◌≡◌, map, take}
use Rattle.tfpg_run.proofs.fleet.list_of.Given as goal

-- the words so far are listed
abbrev pub invariant-loop-word : goal.invariant-loop-word
invariant-loop-word l = l.list ≡ map (λ word. word.now) (take l.word-index l.words)
