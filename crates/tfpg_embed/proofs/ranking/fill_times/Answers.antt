use Rattle.std.proofs.Common.{arith}
use Rattle.std.proofs.lemmas.List.FromFn.{fill_by_all}
use Rattle.tfpg_embed.specs.Ranking.{time_or_never}
use Rattle.tfpg_embed.proofs.ranking.fill_times.Goals as goal

pub returns : goal.returns
returns c = fill_by_all (time_or_never c.args.trace.now) c.loop-node.times _ 0 (omega arith) (λ k below. c.loop-node.invariant k (omega (arith, below)))
