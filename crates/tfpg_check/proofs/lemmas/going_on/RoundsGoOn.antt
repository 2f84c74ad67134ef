-- A round of a report that passes each test goes on right, and what is kept then is with its steps.
use Rattle.std.proofs.Common.{◌≡◌, ℕ, ◌+◌, ◌-◌, List, [], ◌∷◌, ◌++◌, length, take, Some, slice_get, Ok, refl, sym, ap, subst, ◌∙◌, append-nil, append_assoc}
use Rattle.std.specs.Prelude.{flat_map}
use Rattle.tfpg_base.specs.declared.terms.Terms.{Terms}
use Rattle.tfpg_base.specs.Hypothesis.{Hypothesis}
use Rattle.tfpg_graph.specs.Valid.{IsValid}
use Rattle.tfpg_log.specs.declared.event.Event.{Event}
use Rattle.tfpg_log.specs.Log.{Logbook, IsOrdered, with_event}
use Rattle.tfpg_log.proofs.lemmas.logs_of_lines.LogsOfLines.{ordered-log_of_lines}
use Rattle.tfpg_evidence.specs.declared.round.Counts.{Counts as CountsOf}
use Rattle.tfpg_clause.specs.Paths.{with_steps}
use Rattle.tfpg_hyp.specs.Table.{IsTable}
use Rattle.tfpg_hyp.specs.Rounds.{IsRound, steps_so_far}
use Rattle.tfpg_hyp.proofs.lemmas.FindingsOfRound.{steps_so_far-push}
use Rattle.tfpg_log.specs.declared.refused_line.RefusedLine.TheVariants.{TooLong}
use Rattle.tfpg_report.specs.declared.stand.Stand.{Stand}
use Rattle.tfpg_report.specs.declared.stand.Stand.TheVariants as stand
use Rattle.tfpg_report.specs.declared.read_round.ReadRound.{ReadRound}
use Rattle.tfpg_report.specs.declared.report_line.ReportLine.{ReportLine}
use Rattle.tfpg_report.specs.declared.report_line.ReportLine.TheVariants.{Counts}
use Rattle.tfpg_report.specs.Blocks.{Block, RefusedBlock, RoundBlock, block_lines, round_lines}
use Rattle.tfpg_report.specs.Reading.{IsReadFrom, begun_in}
use Rattle.tfpg_report.specs.Stands.{stand_of}
use Rattle.tfpg_check.specs.Report.{rounds_of}
use Rattle.tfpg_check.specs.Causes.{IsRoundBasis, DiagnosisProblem, progress_after_blocks}
use Rattle.tfpg_check.specs.Judging.{RoundBasis, steps_read}
use Rattle.tfpg_check.specs.HypothesesState.{HypothesesState, KeepsBasis}
use Rattle.tfpg_check.specs.inside.AfterRound.{after_round}
use Rattle.tfpg_check.specs.JudgeState.{BlocksState, KeepsBlocks, KeepsHypotheses, KeepsLog, basis_after}
use Rattle.tfpg_check.specs.Passing.{RoundPasses}
use Rattle.tfpg_check.specs.inside.BlockSteps.{JudgesBy, PassesLine, RoundIsRight}
use Rattle.tfpg_check.proofs.lemmas.RoundsOfReports.{log_by_event}
use Rattle.tfpg_check.proofs.lemmas.passing.RightLines.{said, numbered_said}
use Rattle.tfpg_check.proofs.lemmas.passing.RightRounds.{HasWholeParts, IsRightRound, right_round_after}
use Rattle.tfpg_check.proofs.lemmas.completeness.RightRoundFacts.{IsRightBy, finding_for}
use Rattle.tfpg_check.proofs.lemmas.completeness.RankedFindings.{orders_ranked}
use Rattle.tfpg_check.proofs.lemmas.completeness.WhatIsSaid.{said_as_read, saying_of, saying_read}
use Rattle.tfpg_check.proofs.lemmas.completeness.ReadLines.{steps_are_read}
use Rattle.tfpg_check.proofs.lemmas.completeness.RightBlocksPass.{right_by_basis}
use Rattle.tfpg_check.proofs.lemmas.going_on.StandsOfLines.{comes_by}
use Rattle.tfpg_check.proofs.lemmas.going_on.PartsHaveSteps.{whole_parts}
use Rattle.tfpg_check.proofs.lemmas.going_on.NextLines.{keeps_log_after, rounds_with}
use Rattle.tfpg_check.proofs.lemmas.going_on.BlocksGoOn.{keeps_same, next_round, right_with}

-- What is kept of the log does not depend on the hypotheses.
pub keeps_log_still : (problem : DiagnosisProblem) (blocks : List Block) (state new : BlocksState) (kept : HypothesesState) → new ≡ record state { hypotheses = Some kept } → KeepsLog problem blocks state
    → KeepsLog problem blocks new
keeps_log_still problem blocks state new kept after keeps =
    subst (KeepsLog problem blocks) (sym after) (record { graph = keeps.graph; passed = keeps.passed; left = keeps.left; log = keeps.log })

module _ (problem : DiagnosisProblem) (terms : Terms) (blocks : List Block) (reads : List ReportLine) (old : BlocksState) (keeps : KeepsBlocks problem terms blocks reads old)
    (event : Event) (state : BlocksState) (passes : PassesLine old state (Ok event)) where
  abbrev Kept : HypothesesState
  Kept = keeps.hypotheses.kept

  -- the basis of the round
  abbrev pub Own : RoundBasis
  Own = basis_after problem blocks Kept state.log

  log_is : state.log ≡ with_event old.log event
  log_is = ap (λ (s : BlocksState). s.log) passes.after ∙ log_by_event old.graph old.log passes.next.text event passes.next.event

  -- The judge judges by it,
  pub judges : JudgesBy state Own Kept
  judges = record {
    is_kept = ap (λ (s : BlocksState). s.hypotheses) passes.after ∙ keeps.hypotheses.is_kept;
    graph = sym (ap (λ (s : BlocksState). s.graph) passes.after ∙ keeps.log.graph);
    log = refl;
    earlier = old.log;
    goes_on = record { more = event ∷ []; events = ap (λ (l : Logbook). l.events) log_is; ignored = ap (λ (l : Logbook). l.ignored) log_is };
    keeps = keeps_same (basis_after problem blocks Kept old.log) Own old.log Kept refl refl refl (λ number hypothesis at. refl) keeps.hypotheses.keeps;
  }

  -- as it is the basis after the blocks,
  pub is_basis : IsRoundBasis problem terms blocks event Own
  is_basis = record {
    graph = refl;
    terms_are = keeps.hypotheses.on_terms;
    hypotheses = subst (λ (t : Terms). IsTable problem.graph t Kept.table.hypotheses) keeps.hypotheses.on_terms keeps.hypotheses.keeps.table.hypotheses;
    steps = λ number. refl;
    log = log_is ∙ ap (λ (l : Logbook). with_event l event) keeps.log.log;
  }

  -- for the next line of the log.
  pub number_is : state.log_lines.passed ≡ length blocks + 1
  number_is = ap (λ (s : BlocksState). s.log_lines.passed) passes.after ∙ ap (λ (n : ℕ). n + 1) keeps.log.passed

  module _ (valid : IsValid problem.graph) (counts : CountsOf) (read : ReadRound)
      (from : IsReadFrom (length reads - length (begun_in reads) + 1) (begun_in reads ++ Counts counts ∷ []) read)
      (at : Stand) (stands : stand_of (reads ++ Counts counts ∷ []) ≡ Some at) (new : BlocksState) (is_right : RoundIsRight read state new) where
    passes_all : RoundPasses Own (length blocks + 1) read
    passes_all = subst (λ (n : ℕ). RoundPasses Own n read) number_is (is_right.passes Own Kept judges).0

    ordered : IsOrdered Own.log
    ordered =
        subst IsOrdered (sym (keeps_log_after problem blocks old keeps.log (RefusedBlock 0 TooLong) state (Ok event) passes).log)
        (ordered-log_of_lines problem.graph (take (length (blocks ++ RefusedBlock 0 TooLong ∷ [])) problem.log_lines))

    whole : HasWholeParts read
    whole =
        let before : List ReportLine = keeps.right.head ∷ flat_map block_lines blocks in
        let lines : reads ++ Counts counts ∷ [] ≡ before ++ (begun_in reads ++ Counts counts ∷ []) =
        ap (λ (ls : List ReportLine). ls ++ Counts counts ∷ []) keeps.right.lines_are
        ∙ ap (λ (ls : List ReportLine). keeps.right.head ∷ ls) (append_assoc (flat_map block_lines blocks) (begun_in reads) (Counts counts ∷ [])) in
        let comes = comes_by stand.Nothing before (begun_in reads ++ Counts counts ∷ []) at (ap stand_of (sym lines) ∙ stands) in
        whole_parts comes.between at (length reads - length (begun_in reads) + 1) (begun_in reads ++ Counts counts ∷ []) read from comes.back_leads

    found : IsRightRound problem.graph terms (flat_map rounds_of blocks) Own.log (length blocks + 1) read
    found = right_round_after problem terms blocks event Own (length blocks + 1) read valid keeps.right.are_blocks is_basis ordered whole passes_all

    -- its lines are those read
    lines_are : round_lines found.round ≡ begun_in reads ++ Counts counts ∷ []
    lines_are = sym found.lines_are ∙ ap said from.lines_are ∙ numbered_said (length reads - length (begun_in reads) + 1) (begun_in reads ++ Counts counts ∷ [])

    is_round : IsRound problem.graph terms (flat_map rounds_of blocks) (with_event (progress_after_blocks problem blocks).log event) (length blocks + 1) found.round
    is_round = subst (λ (l : Logbook). IsRound problem.graph terms (flat_map rounds_of blocks) l (length blocks + 1) found.round) is_basis.log found.is_round

    right_by : IsRightBy Own (length blocks + 1) found.round
    right_by = right_by_basis problem terms blocks event Own (length blocks + 1) found.round is_basis is_round

    as_said : saying_read read ≡ saying_of found.round
    as_said =
        said_as_read (length reads - length (begun_in reads) + 1) found.round read (orders_ranked Own (length blocks + 1) found.round right_by)
        (subst (λ (ls : List ReportLine). IsReadFrom (length reads - length (begun_in reads) + 1) ls read) (sym lines_are) from)

    -- the block of the round
    abbrev Next : Block
    Next = RoundBlock found.round []

    -- The steps that were read are those of the round.
    steps_with : (number : ℕ) (hypothesis : Hypothesis) → slice_get Own.hypotheses number ≡ Some hypothesis
        → with_steps (steps_so_far number (flat_map rounds_of blocks)) Own.log (steps_read read number) ≡ steps_so_far number (flat_map rounds_of (blocks ++ Next ∷ []))
    steps_with number hypothesis listed =
        let own = finding_for Own (length blocks + 1) found.round right_by number hypothesis listed in
        ap (with_steps (steps_so_far number (flat_map rounds_of blocks)) Own.log) (steps_are_read Own (length blocks + 1) found.round right_by read as_said number own.0 own.1)
        ∙ sym (steps_so_far-push number (flat_map rounds_of blocks) found.round (length Own.log.events) own.0 found.is_round.number own.1)
        ∙ ap (steps_so_far number) (sym (rounds_with blocks Next))

    keeps_hypotheses : KeepsHypotheses problem terms (blocks ++ Next ∷ []) new
    keeps_hypotheses =
        let after : KeepsBasis (after_round Own read) state.log is_right.kept = (is_right.passes Own Kept judges).1 in
        record {
          kept = is_right.kept;
          is_kept = ap (λ (s : BlocksState). s.hypotheses) is_right.after;
          on_terms = after.terms ∙ keeps.hypotheses.on_terms;
          keeps =
              subst (λ (l : Logbook). KeepsBasis (basis_after problem (blocks ++ Next ∷ []) is_right.kept l) l is_right.kept) (sym (ap (λ (s : BlocksState). s.log) is_right.after))
              (keeps_same (after_round Own read) (basis_after problem (blocks ++ Next ∷ []) is_right.kept state.log) state.log is_right.kept refl (sym after.terms) (sym after.hypotheses)
              (λ number hypothesis listed. steps_with number hypothesis (ap (λ (hs : List Hypothesis). slice_get hs number) (sym after.hypotheses) ∙ listed)) after);
        }

    -- The lines with it are right so far, and what is kept is what they leave.
    pub round_goes_on : (more : List Block) × KeepsBlocks problem terms more (reads ++ Counts counts ∷ []) new
    round_goes_on = (
      blocks ++ Next ∷ [],
      record {
        right = right_with problem terms blocks reads keeps.right Next (Counts counts) (next_round problem terms blocks old keeps.log event found.round passes.next is_round)
            (append-nil (round_lines found.round) ∙ lines_are);
        log = keeps_log_still problem (blocks ++ Next ∷ []) state new is_right.kept is_right.after (keeps_log_after problem blocks old keeps.log Next state (Ok event) passes);
        hypotheses = keeps_hypotheses;
      },
    )
