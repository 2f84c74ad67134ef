use Rattle.std.proofs.Common.{◌≡◌, take}
use Rattle.tfpg_clause.specs.Paths.{cited_by}
use Rattle.tfpg_clause.proofs.path.cite_each.Given as goal

abbrev pub invariant-loop-reason : goal.invariant-loop-reason
invariant-loop-reason l = l.path ≡ cited_by (take l.reason-index l.reasons) l.initial.path
