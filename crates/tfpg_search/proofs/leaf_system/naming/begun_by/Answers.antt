-- The picks before are those of the alternatives that begin first.
use Rattle.std.proofs.Common.{ℕ, leb, get_or, rules, arith}
use Rattle.std.proofs.lemmas.Bool.{leb-true}
use Rattle.std.proofs.lemmas.Bool.Decides.{nat_tests}
use Rattle.std.proofs.lemmas.List.Sorted.{IsPartitionPoint-from_clause, IsPartitionedBy-leb}
use Rattle.tfpg_search.proofs.leaf_system.naming.begun_by.Goals as goal

pub returns-clause-before : goal.returns-clause-before
returns-clause-before c k less =
    let parted = IsPartitionedBy-leb (λ (first : ℕ). first) _ c.args.pick c.requires in
    let point =
    IsPartitionPoint-from_clause (λ (first : ℕ). leb first c.args.pick) _ _ c.partition_point.ensures.partitioned parted (λ a r q k. search rules) in
    leb-true (get_or c.args.entered.now k 0) c.args.pick (point.0 k 0 (omega arith) less)

pub returns-clause-after : goal.returns-clause-after
returns-clause-after c inside =
    let parted = IsPartitionedBy-leb (λ (first : ℕ). first) _ c.args.pick c.requires in
    let point =
    IsPartitionPoint-from_clause (λ (first : ℕ). leb first c.args.pick) _ _ c.partition_point.ensures.partitioned parted (λ a r q k. search rules) in
    let late = point.1 c.partition_point.result 0 (omega arith) inside in
    grind (arith, nat_tests)
