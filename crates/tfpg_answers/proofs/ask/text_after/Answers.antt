use Rattle.std.proofs.Common.{ℕ, ◌<◌, List, length, sym, subst}
use Rattle.std.specs.Prelude.{All}
use Rattle.tfpg_base.specs.Set.{Rises}
use Rattle.tfpg_answers.proofs.lemmas.ask.Left.{left_below, left_rises}
use Rattle.tfpg_answers.proofs.ask.text_after.Goals as goal

pub append_answer-requires-clause-among : goal.append_answer-requires-clause-among
append_answer-requires-clause-among g c =
    let diagnosis = c.args.diagnosis.now in
    subst (λ (numbers : List ℕ). All (λ (number : ℕ). number < length diagnosis.engine.table.hypotheses) numbers) (sym c.in_ok-among.ensures)
    (left_below diagnosis.last (length diagnosis.engine.table.hypotheses) c.requires.complete)

pub append_answer-requires-clause-rising : goal.append_answer-requires-clause-rising
append_answer-requires-clause-rising g c = subst Rises (sym c.in_ok-among.ensures) (left_rises c.args.diagnosis.now.last)
