use Rattle.std.proofs.Common.{◌-◌, inl, inr, sym, arith}
use Rattle.tfpg_clause.proofs.lemmas.trees.Marks.{pick_here, pick_nowhere}
use Rattle.tfpg_clause.proofs.path.cite_split.Goals as goal
use Rattle.tfpg_clause.proofs.path.cite_split.Goals.{then-number-eq0-via-then-number-eq0, then-number-eq0-via-else-number-eq0+then-number-path}

pub returns-then-number-eq0 : goal.returns-then-number-eq0
returns-then-number-eq0 c = λ constraint. elim c.then-number-eq0.branch [
  | then-number-eq0-via-then-number-eq0 w ↦
      let is = w.if-number-eq0.true in sym (pick_nowhere c.args.number constraint c.args.path.now (inl (omega arith)))
  | then-number-eq0-via-else-number-eq0+then-number-path w ↦
      let past = w.if-number-path.true in sym (pick_nowhere c.args.number constraint c.args.path.now (inr (omega arith)))
]

pub returns : goal.returns
returns c = λ constraint.
    let some = c.if-number-eq0.false in
    let within = c.if-number-path.false in
    sym (pick_here 1 c.args.number constraint c.args.path.now (c.args.number - 1) _ (omega arith) (omega arith))
