-- The round in the block of a line is one of the log of the lines so far.
use Rattle.std.proofs.Common.{◌≡◌, ℕ, ◌+◌, cond, Bool, true, false, List, take, Some, Result, Ok, Err, refl, sym, ap, subst, ◌∙◌, arith}
use Rattle.std.specs.Prelude.{slice_get, flat_map}
use Rattle.std.proofs.lemmas.Option.{slice_get_within}
use Rattle.tfpg_base.specs.declared.terms.Terms.{Terms}
use Rattle.tfpg_base.specs.Lines.{is_too_long}
use Rattle.tfpg_base.proofs.lemmas.lists.Cuts.{take-next}
use Rattle.tfpg_base.proofs.lemmas.lists.Elements.{slice_get-there}
use Rattle.tfpg_graph.specs.Graph.{Tfpg}
use Rattle.tfpg_log.specs.declared.event.Event.{Event}
use Rattle.tfpg_log.specs.declared.event.Offered.{Offered}
use Rattle.tfpg_log.specs.declared.event.Offered.TheVariants.{Accepted, Refused}
use Rattle.tfpg_log.specs.Log.{Logbook, with_event}
use Rattle.tfpg_log.specs.Accepted.{reply_to}
use Rattle.tfpg_log.specs.LogOfLines.{log_after_reply, log_after, log_of_lines}
use Rattle.tfpg_log.proofs.lemmas.logs_of_lines.LogsOfLines.{log_of_lines-push}
use Rattle.tfpg_evidence.specs.declared.round.Round.{Round}
use Rattle.tfpg_hyp.specs.Rounds.{IsRound}
use Rattle.tfpg_log.specs.declared.refused_line.RefusedLine.{RefusedLine}
use Rattle.tfpg_log.specs.declared.refused_line.RefusedLine.TheVariants.{TooLong}
use Rattle.tfpg_report.specs.Blocks.{Block, Loss, RoundBlock}
use Rattle.tfpg_check.specs.Report.{Progress, IsBlockOf, AreBlocks, event_of_reply, event_of_line, rounds_of, progress_of}

-- the log with a line that brings an event has that event
pub log_by_event : (graph : Tfpg) (log : Logbook) (line : List ℕ) (event : Event) → event_of_line graph log line ≡ Ok event → log_after graph log line ≡ with_event log event
log_by_event graph log line event is = by (is_too_long line) is
  where
    by_reply : (reply : Offered) → event_of_reply reply ≡ Ok event → log_after_reply log reply ≡ with_event log event
    by_reply (Accepted other) same = let one : other ≡ event = cc in ap (with_event log) one
    by_reply (Refused refusal) same = cc

    by : (long : Bool) → cond long (Err TooLong) (event_of_reply (reply_to graph log line)) ≡ Ok event
        → cond long log (log_after_reply log (reply_to graph log line)) ≡ with_event log event
    by true same = cc
    by false same = by_reply (reply_to graph log line) same

-- the round in the block of a line is one of the log with the line
round_of_block : (graph : Tfpg) (terms : Terms) (before : Progress) (number : ℕ) (line : List ℕ) (round : Round) (losses : List Loss) (found : Result Event RefusedLine)
    → event_of_line graph before.log line ≡ found → IsBlockOf graph terms before number (RoundBlock round losses) found
    → IsRound graph terms before.rounds (log_after graph before.log line) number round
round_of_block graph terms before number line round losses (Err cause) same is = absurd cc
round_of_block graph terms before number line round losses (Ok event) same is =
    let own : is.0 ≡ round = (let both = is.2 in cc) in
    subst (λ (log : Logbook). IsRound graph terms before.rounds log number round) (sym (log_by_event graph before.log line event same))
    (subst (λ (other : Round). IsRound graph terms before.rounds (with_event before.log event) number other) own is.3)

module _ (graph : Tfpg) (terms : Terms) (lines : List (List ℕ)) (blocks : List Block) (are : AreBlocks graph terms lines blocks)
    (index : ℕ) (round : Round) (losses : List Loss) (at : slice_get blocks index ≡ Some (RoundBlock round losses)) where
  abbrev Earlier : List Round
  Earlier = flat_map rounds_of (take index blocks)

  -- there is such a line
  line_there : (line : List ℕ) × (slice_get lines index ≡ Some line)
  line_there =
      let one_each = are.one_each in
      slice_get-there lines index (omega (arith, slice_get_within blocks index (RoundBlock round losses) at, one_each))

  -- its round is one of the log so far
  pub round_there : IsRound graph terms Earlier (log_of_lines graph (take (index + 1) lines)) (index + 1) round
  round_there =
      let line = line_there.0 in
      let before = progress_of graph (take index lines) (take index blocks) in
      subst (λ (log : Logbook). IsRound graph terms Earlier log (index + 1) round)
      (sym (ap (log_of_lines graph) (take-next lines index line line_there.1) ∙ log_of_lines-push graph (take index lines) line))
      (round_of_block graph terms before (index + 1) line round losses (event_of_line graph before.log line) refl
      (are.each index line (RoundBlock round losses) line_there.1 at))
