use Rattle.std.proofs.Common.{◌≡◌, map}
use Rattle.tfpg_log.specs.Log.{IsLogOf}
use Rattle.tfpg_log.specs.LogOfLines.{log_of_lines}
use Rattle.tfpg_answers.proofs.explain.log.log_of_text.Given as goal

-- the log is that of the lines so far
abbrev pub invariant-loop-line : goal.invariant-loop-line
invariant-loop-line l = record {
  log : l.log ≡ log_of_lines l.graph (map (λ line. line.now) l.yielded);
  of_graph : IsLogOf l.graph l.log;
}
