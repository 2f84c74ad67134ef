-- A report has a line for each step.
use Rattle.std.proofs.Common.{◌≡◌, ℕ, zero, suc, ◌+◌, ◌<◌, ◌≤◌, eqb, List, [], ◌∷◌, ◌++◌, length, map, take, Option, Some, None, refl, ap, ◌∙◌, arith}
use Rattle.std.specs.Prelude.{flat_map, option_map, slice_get, unwrap_or}
use Rattle.std.proofs.lemmas.Bool.{cond_both, eqb-true}
use Rattle.std.proofs.lemmas.List.{length-append, length-map}
use Rattle.std.proofs.lemmas.List.Concat.{length-flat_map}
use Rattle.std.proofs.lemmas.List.Sums.{sum_by-take-le}
use Rattle.std.proofs.lemmas.Grind.{flat_map-append}
use Rattle.tfpg_base.proofs.lemmas.lists.Cuts.{take-next}
use Rattle.tfpg_evidence.specs.declared.finding.Finding.{Finding}
use Rattle.tfpg_evidence.specs.declared.round.Round.{Round}
use Rattle.tfpg_evidence.specs.declared.step.Step.{Step}
use Rattle.tfpg_evidence.specs.declared.step.Step.TheVariants as step
use Rattle.tfpg_evidence.specs.Findings.{newly_rejected, open_in, ranked_in_order}
use Rattle.tfpg_clause.specs.Trees.{Judged}
use Rattle.tfpg_hyp.specs.Rounds.{steps_in, steps_so_far}
use Rattle.tfpg_report.specs.declared.report_line.ReportLine.{ReportLine}
use Rattle.tfpg_report.specs.declared.report_line.ReportLine.TheVariants.{Hyp, Counts}
use Rattle.tfpg_report.specs.Blocks.{Block, RefusedBlock, RoundBlock, Loss, block_lines, lines_of_finding, lines_if_ranked, round_lines}
use Rattle.tfpg_report.specs.inside.LineNames.{loss_line, open_line, rejected_line}
use Rattle.tfpg_report.specs.ReadRounds.{step_lines}
use Rattle.tfpg_check.specs.Report.{rounds_of}

-- ---- steps

-- what one item gives is not longer than what all give
pub length_of_one : {X Y : Type 0} (f : X → List Y) (xs : List X) (index : ℕ) (x : X) → slice_get xs index ≡ Some x → length (f x) ≤ length (flat_map f xs)
length_of_one f [] index x at = absurd cc
length_of_one f (first ∷ others) zero x at =
    let same : first ≡ x = cc in
    omega (arith, length-append (f first) (flat_map f others), ap (λ y. length (f y)) same)
length_of_one f (first ∷ others) (suc index) x at = omega (arith, length-append (f first) (flat_map f others), length_of_one f others index x at)

step_has_line : (s : Step) → 1 ≤ length (step_lines s)
step_has_line (step.Split name) = omega arith
step_has_line (step.Cycle reasons) = omega arith
step_has_line step.Again = omega arith

steps_have_lines : (steps : List Step) → length steps ≤ length (flat_map step_lines steps)
steps_have_lines [] = omega arith
steps_have_lines (s ∷ steps) = omega (arith, length-append (step_lines s) (flat_map step_lines steps), step_has_line s, steps_have_lines steps)

finding_has_lines : (finding : Finding) → length finding.steps ≤ length (lines_of_finding finding)
finding_has_lines finding =
    cond_both (eqb (length finding.steps) 0) [] (Hyp finding.number ∷ flat_map step_lines finding.steps) (λ (lines : List ReportLine). length finding.steps ≤ length lines)
    (λ none. omega (arith, eqb-true (length finding.steps) 0 none)) (λ some. omega (arith, steps_have_lines finding.steps))

-- The lines of the steps of a round are fewer than its lines.
pub findings_fewer : (round : Round) → length (flat_map lines_of_finding round.findings) < length (round_lines round)
findings_fewer round =
    let steps : List ReportLine = flat_map lines_of_finding round.findings in
    let ranked : List ReportLine = flat_map (λ (finding : Finding). lines_if_ranked finding finding.status) (ranked_in_order round) in
    let opened : List ReportLine = map open_line (open_in round) in
    let rejected : List ReportLine = map rejected_line (newly_rejected round) in
    omega (
      arith,
      length-append (steps ++ ranked ++ opened ++ rejected) (Counts round.counts ∷ []),
      length-append (steps ++ ranked ++ opened) rejected,
      length-append (steps ++ ranked) opened,
      length-append steps ranked,
    )

module _ (number : ℕ) where
  round_has_lines : (round : Round) → length (steps_in number round) ≤ length (round_lines round)
  round_has_lines round =
      omega (
        arith,
        by (slice_get round.findings number) refl,
        length-map (unwrap_or (option_map (λ (finding : Finding). finding.steps) (slice_get round.findings number)) []) (λ (s : Step). judged round.number s),
        findings_fewer round,
      )
    where
      judged : ℕ → Step → Judged
      judged seen s = record { seen = seen; step = s }

      by : (found : Option Finding) → slice_get round.findings number ≡ found
          → length (unwrap_or (option_map (λ (finding : Finding). finding.steps) found) []) ≤ length (flat_map lines_of_finding round.findings)
      by None at = omega arith
      by (Some finding) at = omega (arith, finding_has_lines finding, length_of_one lines_of_finding round.findings number finding at)

  -- The steps of a hypothesis in the rounds of blocks are not more than the lines of the blocks.
  blocks_have_lines : (blocks : List Block) → length (steps_so_far number (flat_map rounds_of blocks)) ≤ length (flat_map block_lines blocks)
  blocks_have_lines [] = omega arith
  blocks_have_lines (RefusedBlock line cause ∷ blocks) = omega (arith, blocks_have_lines blocks)
  blocks_have_lines (RoundBlock round losses ∷ blocks) =
      omega (
        arith,
        length-append (steps_in number round) (steps_so_far number (flat_map rounds_of blocks)),
        length-append (round_lines round ++ map loss_line losses) (flat_map block_lines blocks),
        length-append (round_lines round) (map loss_line losses),
        round_has_lines round,
        blocks_have_lines blocks,
      )

  -- So it is with those of some first blocks.
  pub steps_few : (blocks : List Block) (index : ℕ) (round : Round) (losses : List Loss) → slice_get blocks index ≡ Some (RoundBlock round losses)
      → length (steps_so_far number (flat_map rounds_of (take index blocks) ++ round ∷ [])) ≤ length (flat_map block_lines blocks)
  steps_few blocks index round losses at =
      let front : List Block = take (index + 1) blocks in
      let rounds : flat_map rounds_of front ≡ flat_map rounds_of (take index blocks) ++ round ∷ [] =
      ap (flat_map rounds_of) (take-next blocks index (RoundBlock round losses) at) ∙ flat_map-append rounds_of (take index blocks) (RoundBlock round losses ∷ []) in
      omega (
        arith,
        ap (λ (rs : List Round). length (steps_so_far number rs)) rounds,
        blocks_have_lines front,
        length-flat_map block_lines front,
        length-flat_map block_lines blocks,
        sum_by-take-le (λ (block : Block). length (block_lines block)) blocks (index + 1),
      )
