-- The lines of right blocks have small numbers, where they are not too many, and they stand in their order.
use Rattle.std.proofs.Common.{◌≡◌, ℕ, ◌+◌, ◌≤◌, ◌^◌, List, [], ◌∷◌, ◌++◌, length, map, take, All, Some, Result, Ok, Err, slice_get, refl, subst, arith}
use Rattle.std.specs.Prelude.{flat_map}
use Rattle.std.proofs.lemmas.List.{length-append}
use Rattle.std.proofs.lemmas.List.Elements.{All-nil, All-cons, All-append, All-map}
use Rattle.std.proofs.lemmas.Option.{slice_get_within}
use Rattle.tfpg_base.specs.declared.limits.TheConstants.{MAX_LINE_NUMBER}
use Rattle.tfpg_base.specs.declared.terms.Terms.{Terms}
use Rattle.tfpg_base.proofs.lemmas.lists.Elements.{All-from_indexes, slice_get-there}
use Rattle.tfpg_graph.specs.Graph.{Tfpg}
use Rattle.tfpg_graph.specs.Valid.{IsValid}
use Rattle.tfpg_log.specs.declared.event.Event.{Event}
use Rattle.tfpg_log.specs.LogOfLines.{log_of_lines}
use Rattle.tfpg_evidence.specs.declared.finding.Finding.{Finding}
use Rattle.tfpg_evidence.specs.declared.finding.Status.{Status}
use Rattle.tfpg_evidence.specs.declared.finding.Status.TheVariants as status
use Rattle.tfpg_evidence.specs.declared.round.Round.{Round}
use Rattle.tfpg_clause.specs.Case.{Case}
use Rattle.tfpg_clause.specs.Trees.{Judged}
use Rattle.tfpg_hyp.specs.Rounds.{HasEvidence, steps_so_far}
use Rattle.tfpg_hyp.specs.Views.{case_for}
use Rattle.tfpg_hyp.proofs.lemmas.FindingsOfRound.{evidence}
use Rattle.tfpg_log.specs.declared.refused_line.RefusedLine.{RefusedLine}
use Rattle.tfpg_report.specs.declared.report_line.ReportLine.TheVariants.{Refused}
use Rattle.tfpg_report.specs.Blocks.{Block, Loss, RefusedBlock, RoundBlock, block_lines, round_lines}
use Rattle.tfpg_report.specs.inside.LineNames.{loss_line}
use Rattle.tfpg_report.specs.InOrder.{HasRisingTrace, HasRisingTraces, IsInOrder}
use Rattle.tfpg_report.specs.ReportLines.{IsCauseWithin}
use Rattle.tfpg_check.specs.Report.{AreBlocks, AreLosses, HasReports, IsBlockOf, Progress, event_of_line, progress_of, rounds_of}
use Rattle.tfpg_check.proofs.lemmas.RoundsOfReports.{round_there}
use Rattle.tfpg_check.proofs.lemmas.completeness.MappedLists.{All-flat_map}
use Rattle.tfpg_check.proofs.lemmas.readable.LinesCounted.{length_of_one, steps_few}
use Rattle.tfpg_check.proofs.lemmas.readable.LogsWithin.{cause_within, log_within}
use Rattle.tfpg_check.proofs.lemmas.readable.RoundNumbers.{AreSmall, round_small}
use Rattle.tfpg_check.proofs.lemmas.readable.SmallNumbers.{HasSmallNumbers}
use Rattle.tfpg_check.proofs.lemmas.readable.StepNumbers.{now_within}

-- ---- traces

rising_trace : (case : Case) (budget : ℕ) (findings : List Finding) (steps : List Judged) (finding : Finding) (s : Status) → HasEvidence case budget findings steps finding s → HasRisingTrace s
rising_trace case budget findings steps finding (status.Ranked trace cost alarmed monitored) own = own.1.trace_of.0
rising_trace case budget findings steps finding (status.Covered by) own = tt
rising_trace case budget findings steps finding status.Rejected own = tt
rising_trace case budget findings steps finding status.Open own = tt

-- ---- blocks

module _ (graph : Tfpg) (terms : Terms) (lines : List (List ℕ)) (blocks : List Block) (are : AreBlocks graph terms lines blocks) where
  -- each block is of a line
  line_of_block : (index : ℕ) (block : Block) → slice_get blocks index ≡ Some block → (line : List ℕ) × (slice_get lines index ≡ Some line)
  line_of_block index block at =
      let one_each = are.one_each in
      slice_get-there lines index (omega (arith, slice_get_within blocks index block at, one_each))

  -- the panels that were lost at a round
  losses_of : (before : Progress) (number : ℕ) (round : Round) (losses : List Loss) (found : Result Event RefusedLine) → IsBlockOf graph terms before number (RoundBlock round losses) found → AreLosses losses
  losses_of before number round losses (Err cause) is = absurd cc
  losses_of before number round losses (Ok event) is =
      let same : is.1 ≡ losses = (let both = is.2 in cc) in
      subst AreLosses same is.4

  losses_there : (index : ℕ) (round : Round) (losses : List Loss) → slice_get blocks index ≡ Some (RoundBlock round losses) → AreLosses losses
  losses_there index round losses at =
      let line = line_of_block index (RoundBlock round losses) at in
      let before = progress_of graph (take index lines) (take index blocks) in
      losses_of before (index + 1) round losses (event_of_line graph before.log line.0) (are.each index line.0 (RoundBlock round losses) line.1 at)

  -- ---- the order of their lines

  rising_traces : (index : ℕ) (round : Round) (losses : List Loss) → slice_get blocks index ≡ Some (RoundBlock round losses) → HasRisingTraces round
  rising_traces index round losses at =
      let is_round = round_there graph terms lines blocks are index round losses at in
      All-from_indexes (λ (finding : Finding). HasRisingTrace finding.status) round.findings
      (λ number finding found. (
      let own = evidence is_round number finding found in
      rising_trace (case_for graph (log_of_lines graph (take (index + 1) lines)) own.0 own.2.reach) terms.budget round.findings
      (steps_so_far number (flat_map rounds_of (take index blocks) ++ round ∷ [])) finding finding.status own.2.evidence
      ))

  in_order : (index : ℕ) (block : Block) → slice_get blocks index ≡ Some block → IsInOrder block
  in_order index (RefusedBlock number cause) at = tt
  in_order index (RoundBlock round losses) at = (rising_traces index round losses at, (losses_there index round losses at).rising)

  -- Right blocks are in order.
  pub blocks_in_order : All IsInOrder blocks
  blocks_in_order = All-from_indexes IsInOrder blocks in_order

  -- ---- the numbers in their lines

  module _ (valid : IsValid graph) (has_reports : HasReports graph terms) (few_lines : length lines ≤ MAX_LINE_NUMBER) (few : length (flat_map block_lines blocks) ≤ 2 ^ 32) where
    refused_small : (before : Progress) (index number : ℕ) (cause : RefusedLine) (found : Result Event RefusedLine) → ((c : RefusedLine) → found ≡ Err c → IsCauseWithin c)
        → index + 1 ≤ MAX_LINE_NUMBER → IsBlockOf graph terms before (index + 1) (RefusedBlock number cause) found → HasSmallNumbers (Refused number cause)
    refused_small before index number cause (Err c) within small is =
        let one : number ≡ index + 1 = cc in
        let other : c ≡ cause = cc in
        (omega (arith, one, small), subst IsCauseWithin other (within c refl))
    refused_small before index number cause (Ok event) within small is = absurd (let both = is.2 in cc)

    block_small : (index : ℕ) (block : Block) → slice_get blocks index ≡ Some block → AreSmall (block_lines block)
    block_small index (RefusedBlock number cause) at =
        let line = line_of_block index (RefusedBlock number cause) at in
        let before = progress_of graph (take index lines) (take index blocks) in
        let in_range = now_within before.log (log_within graph (take index lines)) in
        All-cons HasSmallNumbers (Refused number cause) []
        (refused_small before index number cause (event_of_line graph before.log line.0) (λ c is. cause_within graph before.log in_range line.0 c is)
        (omega (arith, slice_get_within lines index line.0 line.1, few_lines)) (are.each index line.0 (RefusedBlock number cause) line.1 at))
        (All-nil HasSmallNumbers)
    block_small index (RoundBlock round losses) at =
        let line = line_of_block index (RoundBlock round losses) at in
        All-append HasSmallNumbers (round_lines round) (map loss_line losses)
        (round_small graph valid terms has_reports (log_of_lines graph (take (index + 1) lines)) (log_within graph (take (index + 1) lines)) (index + 1) (flat_map rounds_of (take index blocks)) round
        (round_there graph terms lines blocks are index round losses at)
        (λ number. omega (arith, steps_few number blocks index round losses at, few))
        (omega (arith, slice_get_within lines index line.0 line.1, few_lines))
        (omega (arith, length_of_one block_lines blocks index (RoundBlock round losses) at, length-append (round_lines round) (map loss_line losses), few)))
        (All-map HasSmallNumbers loss_line losses (losses_there index round losses at).numbers)

    -- The lines of right blocks have small numbers, where they are not too many.
    pub blocks_small : AreSmall (flat_map block_lines blocks)
    blocks_small = All-flat_map HasSmallNumbers block_lines blocks (All-from_indexes (λ (block : Block). AreSmall (block_lines block)) blocks block_small)
