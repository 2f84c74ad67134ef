use Rattle.std.proofs.Common.{ltb, rules}
use Rattle.std.proofs.lemmas.List.Sorted.{IsPartitionPoint-from_clause, IsPartitionedBy-ltb}
use Rattle.tfpg_log.specs.declared.mode_change.ModeChange.{ModeChange}
use Rattle.tfpg_log.proofs.lemmas.changes.SpanStarts.{within_point}
use Rattle.tfpg_log.proofs.spans.span_number.Goals as goal

pub returns : goal.returns
returns c =
    let parted = IsPartitionedBy-ltb (λ (change : ModeChange). change.time) _ c.args.instant c.requires in
    within_point c.args.changes.now c.partition_point.result c.args.instant c.partition_point.ensures.bound
    (IsPartitionPoint-from_clause (λ (change : ModeChange). ltb change.time c.args.instant) _ _ c.partition_point.ensures.partitioned parted
    (λ a r q k. search rules))
