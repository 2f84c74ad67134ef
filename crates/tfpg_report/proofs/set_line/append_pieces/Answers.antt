use Rattle.tfpg_base.proofs.lemmas.Appended.{Appends-err_after}
use Rattle.tfpg_base.proofs.lemmas.lists.Appended.{kept_same}
use Rattle.tfpg_report.proofs.set_line.append_pieces.Goals as goal

pub returns-in_err-extend_from_slice : goal.returns-in_err-extend_from_slice
returns-in_err-extend_from_slice c =
    Appends-err_after _ _ _ _ _ _ c.from_residual.ensures.0 c.loop-piece.invariant (kept_same _ _ c.in_err-extend_from_slice.ensures.items)
