-- The text of the lines of a block is what is written for it.
use Rattle.std.proofs.Common.{◌≡◌, ℕ, Bool, true, false, cond, eqb, List, [], ◌∷◌, ◌++◌, length, map, refl, sym, ap, ◌∙◌, append_assoc, append-nil}
use Rattle.std.specs.Prelude.{flat_map, decimal, codes}
use Rattle.std.proofs.lemmas.Grind.{flat_map-append}
use Rattle.std.proofs.lemmas.List.Folds.{flat_map-map}
use Rattle.tfpg_base.specs.TextLine.{text_line}
use Rattle.tfpg_base.specs.Lines.{with_line_end}
use Rattle.tfpg_graph.specs.Graph.{Tfpg}
use Rattle.tfpg_evidence.specs.declared.step.Step.{Step}
use Rattle.tfpg_evidence.specs.declared.step.Step.TheVariants.{Split, Cycle, Again}
use Rattle.tfpg_evidence.specs.declared.finding.Status.{Status}
use Rattle.tfpg_evidence.specs.declared.finding.Status.TheVariants as status
use Rattle.tfpg_evidence.specs.declared.finding.Finding.{Finding}
use Rattle.tfpg_evidence.specs.declared.round.Round.{Round}
use Rattle.tfpg_evidence.specs.Findings.{ranked_in_order, open_in, newly_rejected}
use Rattle.tfpg_log.specs.declared.refused_line.RefusedLine.{RefusedLine}
use Rattle.tfpg_report.specs.declared.report_line.ReportLine.{ReportLine}
use Rattle.tfpg_report.specs.declared.report_line.ReportLine.TheVariants as line
use Rattle.tfpg_report.specs.ReportLines.{written_line, lines_text}
use Rattle.tfpg_report.specs.ReadRounds.{step_lines}
use Rattle.tfpg_report.specs.Blocks.{lines_of_finding, lines_if_ranked, Loss, RefusedBlock, RoundBlock, block_text, refused_text, round_text, lost_text, round_lines}
use Rattle.tfpg_report.specs.inside.LineNames.{open_line, rejected_line, loss_line}
use Rattle.tfpg_report.specs.inside.Texts.{step_text, steps_text, ranked_text, open_text, rejected_text, counts_text, written_round}

-- a list of lists of lists is flat in one way
flat_map-flat_map : {X Y Z : Type 0} (f : Y → List Z) (g : X → List Y) (xs : List X) → flat_map f (flat_map g xs) ≡ flat_map (λ x. flat_map f (g x)) xs
flat_map-flat_map f g [] = refl
flat_map-flat_map f g (x ∷ xs) = flat_map-append f (g x) (flat_map g xs) ∙ ap (λ rest. flat_map f (g x) ++ rest) (flat_map-flat_map f g xs)

-- items with the same texts have the same text
flat_map-all : {X Z : Type 0} (f g : X → List Z) → ((x : X) → f x ≡ g x) → (xs : List X) → flat_map f xs ≡ flat_map g xs
flat_map-all f g same [] = refl
flat_map-all f g same (x ∷ xs) = λ i. same x i ++ flat_map-all f g same xs i

-- six texts, the last five of them after the first
six : (a b c d e f : List ℕ) → a ++ ((((b ++ c) ++ d) ++ e) ++ f) ≡ ((((a ++ b) ++ c) ++ d) ++ e) ++ f
six a b c d e f =
    sym (append_assoc a (((b ++ c) ++ d) ++ e) f)
    ∙ ap (λ (t : List ℕ). t ++ f) (sym (append_assoc a ((b ++ c) ++ d) e))
    ∙ ap (λ (t : List ℕ). (t ++ e) ++ f) (sym (append_assoc a (b ++ c) d))
    ∙ ap (λ (t : List ℕ). ((t ++ d) ++ e) ++ f) (sym (append_assoc a b c))

module _ (graph : Tfpg) where
  -- a line with its line end
  abbrev written : ReportLine → List ℕ
  written said = with_line_end (written_line graph said)

  -- the text of a step
  step : (is : Step) → lines_text graph (step_lines is) ≡ step_text graph is
  step (Split name) = append-nil (step_text graph (Split name))
  step (Cycle reasons) =
      ap (λ (rest : List ℕ). text_line (codes "cycle" ∷ decimal (length reasons) ∷ []) ++ rest) (flat_map-map written line.Why reasons)
  step Again = append-nil (step_text graph Again)

  -- the text of steps
  pub texts_of_steps : (all : List Step) → lines_text graph (flat_map step_lines all) ≡ flat_map (step_text graph) all
  texts_of_steps all = flat_map-flat_map written step_lines all ∙ flat_map-all (λ is. lines_text graph (step_lines is)) (step_text graph) step all

  -- the text of a hypothesis with its steps
  steps : (finding : Finding) → lines_text graph (lines_of_finding finding) ≡ steps_text graph finding
  steps finding = by (eqb (length finding.steps) 0)
    where
      first : List ℕ
      first = written (line.Hyp finding.number)

      by : (none : Bool) → lines_text graph (cond none [] (line.Hyp finding.number ∷ flat_map step_lines finding.steps))
          ≡ cond none [] (text_line (codes "hyp" ∷ decimal finding.number ∷ []) ++ flat_map (step_text graph) finding.steps)
      by true = refl
      by false =
          ap (λ (rest : List ℕ). text_line (codes "hyp" ∷ decimal finding.number ∷ []) ++ rest)
          (texts_of_steps finding.steps)

  -- the text of a ranked hypothesis
  ranked : (finding : Finding) (s : Status) → lines_text graph (lines_if_ranked finding s) ≡ ranked_text graph finding s
  ranked finding (status.Ranked trace cost alarmed monitored) = refl
  ranked finding (status.Covered by) = refl
  ranked finding status.Rejected = refl
  ranked finding status.Open = refl

  -- The text of a round's lines is that of its parts, one after the other.
  pub written_rounds : (round : Round) → round_text graph round ≡ written_round graph round
  written_rounds round =
      let F = flat_map lines_of_finding round.findings in
      let R = flat_map (λ (finding : Finding). lines_if_ranked finding finding.status) (ranked_in_order round) in
      let O = map open_line (open_in round) in
      let J = map rejected_line (newly_rejected round) in
      let C : List ReportLine = line.Counts round.counts ∷ [] in
      let first = written (line.Round round.number round.line round.now) in
      let steps_are : lines_text graph F ≡ flat_map (steps_text graph) round.findings =
      flat_map-flat_map written lines_of_finding round.findings ∙ flat_map-all (λ finding. lines_text graph (lines_of_finding finding)) (steps_text graph) steps round.findings in
      let ranked_are : lines_text graph R ≡ flat_map (λ (finding : Finding). ranked_text graph finding finding.status) (ranked_in_order round) =
      flat_map-flat_map written (λ (finding : Finding). lines_if_ranked finding finding.status) (ranked_in_order round)
      ∙ flat_map-all (λ (finding : Finding). lines_text graph (lines_if_ranked finding finding.status)) (λ (finding : Finding). ranked_text graph finding finding.status)
      (λ finding. ranked finding finding.status) (ranked_in_order round) in
      let open_are : lines_text graph O ≡ flat_map (open_text graph) (open_in round) = flat_map-map written open_line (open_in round) in
      let rejected_are : lines_text graph J ≡ flat_map (rejected_text graph) (newly_rejected round) = flat_map-map written rejected_line (newly_rejected round) in
      ap (λ (rest : List ℕ). first ++ rest)
      (flat_map-append written (((F ++ R) ++ O) ++ J) C
      ∙ ap (λ (t : List ℕ). t ++ lines_text graph C) (flat_map-append written ((F ++ R) ++ O) J)
      ∙ ap (λ (t : List ℕ). (t ++ lines_text graph J) ++ lines_text graph C) (flat_map-append written (F ++ R) O)
      ∙ ap (λ (t : List ℕ). ((t ++ lines_text graph O) ++ lines_text graph J) ++ lines_text graph C) (flat_map-append written F R)
      ∙ (λ i. (((steps_are i ++ ranked_are i) ++ open_are i) ++ rejected_are i) ++ append-nil (counts_text round.counts) i))
      ∙ six first (flat_map (steps_text graph) round.findings)
      (flat_map (λ (finding : Finding). ranked_text graph finding finding.status) (ranked_in_order round))
      (flat_map (open_text graph) (open_in round)) (flat_map (rejected_text graph) (newly_rejected round)) (counts_text round.counts)

  -- The text of a round with its lost panels is what is written for the round, and then for each of them.
  pub written_losses : (round : Round) (losses : List Loss) → block_text graph (RoundBlock round losses) ≡ written_round graph round ++ flat_map lost_text losses
  written_losses round losses =
      flat_map-append written (round_lines round) (map loss_line losses)
      ∙ (λ i. written_rounds round i ++ flat_map-map written loss_line losses i)

  -- The text of a refused line's block is its line.
  pub written_refusal : (number : ℕ) (cause : RefusedLine) → block_text graph (RefusedBlock number cause) ≡ refused_text number cause
  written_refusal number cause = append-nil (refused_text number cause)

  -- The text of a round's block at which no panel is lost is that of the round.
  pub written_alone : (round : Round) → block_text graph (RoundBlock round []) ≡ round_text graph round
  written_alone round = ap (lines_text graph) (append-nil (round_lines round))
