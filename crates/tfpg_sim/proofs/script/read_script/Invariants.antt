use Rattle.std.proofs.Common.{◌≡◌, map, Ok}
use Rattle.tfpg_sim.specs.inside.ScriptReading.{read_lines}
use Rattle.tfpg_sim.specs.inside.Entries.{IsScript}
use Rattle.tfpg_sim.proofs.script.read_script.Given as goal

-- what the lines so far say
abbrev pub invariant-loop-line : goal.invariant-loop-line
invariant-loop-line l = record {
  read : read_lines l.graph (map (λ line. line.now) l.yielded) ≡ Ok l.entries.items;
  script : IsScript l.graph l.entries.items;
}
