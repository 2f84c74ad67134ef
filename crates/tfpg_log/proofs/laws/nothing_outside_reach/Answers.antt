use Rattle.tfpg_graph.proofs.lemmas.zero_cycle.ZeroRanks.{HasZeroOrder-valid}
use Rattle.tfpg_log.proofs.lemmas.causes.InReach.{trace_in_reach}
use Rattle.tfpg_log.proofs.laws.nothing_outside_reach.Goals as goal

pub returns : goal.returns
returns c graph log set trace valid explains = trace_in_reach graph log set trace (HasZeroOrder-valid graph valid) explains
