use Rattle.std.proofs.Common.{◌≡◌, ◌≤◌, length, take}
use Rattle.tfpg_base.specs.declared.limits.TheConstants.{MAX_WORDS}
use Rattle.tfpg_base.proofs.words.Words.of.Given as goal

abbrev pub invariant-loop-word : goal.invariant-loop-word
invariant-loop-word l = record {
  few : l.count ≤ MAX_WORDS;
  counted : l.count ≡ length l.yielded;
  room : length l.items ≡ MAX_WORDS;
  kept : take l.count l.items ≡ l.yielded;
}
