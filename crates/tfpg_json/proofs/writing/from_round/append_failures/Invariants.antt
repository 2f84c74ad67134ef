use Rattle.std.proofs.Common.{◌≡◌, ◌++◌, length, map}
use Rattle.serde_json.specs.Data.{string}
use Rattle.tfpg_graph.specs.Graph.{AreFailures, failure_word}
use Rattle.tfpg_json.specs.inside.Tokens.{each_tokens}
use Rattle.tfpg_json.proofs.writing.from_round.append_failures.Given as goal

-- the words for the members that are left are still to be written
abbrev pub invariant-loop-parts : goal.invariant-loop-parts
invariant-loop-parts l = record {
  before : l.into.before ≡ l.fn.into.before;
  tokens : l.into.tokens ++ each_tokens (map string (map (failure_word l.graph) l.left)) ≡ l.fn.into.tokens ++ each_tokens (map string (map (failure_word l.graph) l.fn.set));
  within : AreFailures l.graph l.left;
}

abbrev pub decreases-loop-parts : goal.decreases-loop-parts
decreases-loop-parts l = length l.left
