use Rattle.std.proofs.Common.{◌≡◌, ℕ, ◌<◌, get_or}
use Rattle.tfpg_embed.specs.Ranking.{time_or_never}
use Rattle.tfpg_embed.proofs.ranking.fill_times.Given as goal

-- the times so far are written
abbrev pub invariant-loop-node : goal.invariant-loop-node
invariant-loop-node l = (k : ℕ) → k < l.node → get_or l.times k 0 ≡ time_or_never l.trace k
