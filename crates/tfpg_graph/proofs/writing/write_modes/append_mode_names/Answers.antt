use Rattle.std.proofs.Common.{ℕ, ◌≡◌, ◌++◌, ◌∙◌, length, sym, ap, arith}
use Rattle.std.specs.List.{join_with_byte}
use Rattle.tfpg_base.proofs.lemmas.Appended.{Appends-err_after}
use Rattle.tfpg_graph.specs.inside.writing.Written.{mode_names_before}
use Rattle.tfpg_graph.proofs.lemmas.writing.ModeNames.{AreListed-none, AreListed-more, AreListed-same}
use Rattle.tfpg_graph.proofs.writing.write_modes.append_mode_names.Goals as goal
use Rattle.tfpg_graph.proofs.writing.write_modes.append_mode_names.Goals.{then-is_active_in+in_ok-append_part, else-is_active_in}

pub loop-mode-init : goal.loop-mode-init
loop-mode-init c = AreListed-none c.args.graph.now c.args.edge.now.modes c.args.into.now.items

pub returns-in_err-append_part : goal.returns-in_err-append_part
returns-in_err-append_part c = Appends-err_after _ _ _ _ _ _ c.from_residual.ensures.0 c.loop-mode.invariant.text c.in_err-append_part.ensures

pub loop-mode-preserved : goal.loop-mode-preserved
loop-mode-preserved c =
    elim c.if-is_active_in.branch [
      | then-is_active_in+in_ok-append_part w ↦
          rw (w.into-is, w.is_first-is)
          (AreListed-more c.args.graph.now c.args.edge.now.modes _ _ _ c.loop-mode.mode c.loop-mode.invariant _ _
          (sym c.is_active_in.ensures ∙ w.if-is_active_in.true) w.mode_name.ensures w.in_ok-append_part.ensures)
      | else-is_active_in w ↦
          rw (w.into-is, w.is_first-is)
          (AreListed-same c.args.graph.now c.args.edge.now.modes _ _ _ c.loop-mode.mode c.loop-mode.invariant (sym c.is_active_in.ensures ∙ w.if-is_active_in.false))
    ]

pub returns : goal.returns
returns c =
    let all : c.loop-mode.mode ≡ length c.args.graph.now.modes = omega arith in
    c.loop-mode.invariant.text ∙ ap (λ (n : ℕ). c.args.into.now.items ++ join_with_byte 44 (mode_names_before c.args.graph.now c.args.edge.now.modes n)) all
