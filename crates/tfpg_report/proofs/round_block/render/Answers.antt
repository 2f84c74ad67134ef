use Rattle.std.proofs.Common.{subst, sym}
use Rattle.tfpg_base.specs.Append.{Appends}
use Rattle.tfpg_base.proofs.lemmas.Appended.{Appends-after_five}
use Rattle.tfpg_report.proofs.lemmas.SectionLines.{open_lines, rejected_lines}
use Rattle.tfpg_report.proofs.lemmas.WrittenLines.{written_rounds}
use Rattle.tfpg_report.proofs.round_block.render.Goals as goal

pub returns : goal.returns
returns c =
    subst (Appends _ c.args.into.now.items _) (sym (written_rounds c.args.graph.now c.args.round.now))
    (Appends-after_five _ c.args.into.now.items _ _ _ _ _ _ _ _ _ _ _ _
    c.in_ok-append_round_line.ensures
    (rw c.as_slice-findings.ensures at c.in_ok-append_section.ensures)
    (rw (c.as_slice-findings.ensures, c.as_slice.ensures) at c.in_ok-append_all_ranked.ensures)
    (rw (c.as_slice-findings.ensures, open_lines c.args.graph.now c.args.round.now.findings) at c.in_ok-append_section-2.ensures)
    (rw (c.as_slice-findings.ensures, rejected_lines c.args.graph.now c.args.round.now.findings) at c.in_ok-append_section-3.ensures)
    c.append_counts_line.ensures)
