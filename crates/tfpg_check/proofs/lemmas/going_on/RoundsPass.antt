-- A round that was read passes each test exactly if it is right.
use Rattle.std.proofs.Common.{◌≡◌, ◌↔◌, ℕ, ◌+◌, List, [], ◌∷◌, ◌++◌, length, take, Option, Some, None, slice_get, Ok, sym, ap, subst, ◌∙◌}
use Rattle.std.specs.Prelude.{option_map}
use Rattle.std.proofs.lemmas.Option.{same_Some}
use Rattle.tfpg_base.specs.declared.terms.Terms.{Terms}
use Rattle.tfpg_graph.specs.Valid.{IsValid}
use Rattle.tfpg_log.specs.declared.event.Event.{Event}
use Rattle.tfpg_log.specs.Log.{Logbook, IsOrdered, with_event}
use Rattle.tfpg_log.proofs.lemmas.logs_of_lines.LogsOfLines.{log_of_lines-push, ordered-log_of_lines}
use Rattle.tfpg_evidence.specs.declared.round.Round.{Round}
use Rattle.tfpg_hyp.specs.Rounds.{IsRound}
use Rattle.tfpg_report.specs.declared.read_round.ReadRound.{ReadRound}
use Rattle.tfpg_report.specs.declared.stand.Stand.{Stand}
use Rattle.tfpg_report.specs.declared.report_line.ReportLine.{ReportLine}
use Rattle.tfpg_report.specs.Blocks.{Block, round_lines}
use Rattle.tfpg_report.specs.Stands.{stand_after_all}
use Rattle.tfpg_report.specs.Reading.{IsReadFrom}
use Rattle.tfpg_check.specs.Report.{AreBlocks, event_of_line}
use Rattle.tfpg_check.specs.Judging.{RoundBasis}
use Rattle.tfpg_check.specs.Passing.{RoundPasses}
use Rattle.tfpg_check.specs.Causes.{DiagnosisProblem, IsRoundBasis, next_event, progress_after_blocks}
use Rattle.tfpg_check.proofs.lemmas.RoundsOfReports.{log_by_event}
use Rattle.tfpg_check.proofs.lemmas.passing.RightLines.{said, numbered_said}
use Rattle.tfpg_check.proofs.lemmas.passing.RightRounds.{right_round_after}
use Rattle.tfpg_check.proofs.lemmas.completeness.RightBlocksPass.{right_by_basis}
use Rattle.tfpg_check.proofs.lemmas.completeness.RightRoundPasses.{right_round_passes}
use Rattle.tfpg_check.proofs.lemmas.going_on.PartsHaveSteps.{whole_parts}

module _ (problem : DiagnosisProblem) (blocks : List Block) (event : Event) where
  abbrev Log : Logbook
  Log = (progress_after_blocks problem blocks).log

  abbrev Lines : List (List ℕ)
  Lines = take (length blocks) problem.log_lines

  -- the log with the event of the next line is ordered
  ordered_with : next_event problem blocks ≡ Some (Ok event) → IsOrdered (with_event Log event)
  ordered_with next = by (slice_get problem.log_lines (length blocks)) next
    where
      by : (found : Option (List ℕ)) → option_map (event_of_line problem.graph Log) found ≡ Some (Ok event) → IsOrdered (with_event Log event)
      by None none = absurd cc
      by (Some text) brings =
          let event_is : event_of_line problem.graph Log text ≡ Ok event = same_Some (event_of_line problem.graph Log text) (Ok event) brings in
          subst IsOrdered (log_of_lines-push problem.graph Lines text ∙ log_by_event problem.graph Log text event event_is) (ordered-log_of_lines problem.graph (Lines ++ text ∷ []))

-- A round that was read passes each test exactly if its lines are those of a right round.
pub rounds_pass_if_right : (problem : DiagnosisProblem) (terms : Terms) (blocks : List Block) (event : Event) (basis : RoundBasis) (before after : Stand) (first : ℕ) (lines : List ReportLine) (read : ReadRound)
    → IsValid problem.graph → AreBlocks problem.graph terms (take (length blocks) problem.log_lines) blocks → next_event problem blocks ≡ Some (Ok event)
    → IsRoundBasis problem terms blocks event basis → stand_after_all before lines ≡ Some after → IsReadFrom first lines read
    → RoundPasses basis (length blocks + 1) read
    ↔ ((round : Round) × (round_lines round ≡ lines) × IsRound problem.graph terms (progress_after_blocks problem blocks).rounds basis.log (length blocks + 1) round)
rounds_pass_if_right problem terms blocks event basis before after first lines read valid are next is leads from = (
  λ passes. (let right = right_round_after problem terms blocks event basis (length blocks + 1) read valid are is
      (subst IsOrdered (sym is.log) (ordered_with problem blocks event next)) (whole_parts before after first lines read from leads) passes in
      (right.round, sym right.lines_are ∙ ap said from.lines_are ∙ numbered_said first lines, right.is_round)),
  λ right. right_round_passes basis (length blocks + 1) right.0 first read
      (right_by_basis problem terms blocks event basis (length blocks + 1) right.0 is
      (subst (λ (log : Logbook). IsRound problem.graph terms (progress_after_blocks problem blocks).rounds log (length blocks + 1) right.0) is.log right.2))
      (subst (λ (ls : List ReportLine). IsReadFrom first ls read) (sym right.1) from),
)
