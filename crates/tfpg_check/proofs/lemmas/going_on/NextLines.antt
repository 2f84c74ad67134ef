-- The next line of the log, after the blocks of a report so far.
use Rattle.std.proofs.Common.{◌≡◌, ℕ, ◌+◌, List, [], ◌∷◌, ◌++◌, length, take, drop, Some, None, slice_get, Result, Err, cond, Bool, true, false, refl, sym, ap, ◌∙◌, arith, append-nil, length-append}
use Rattle.std.specs.Prelude.{flat_map, option_map}
use Rattle.std.proofs.lemmas.List.{drop-drop}
use Rattle.std.proofs.lemmas.List.Concat.{flat_map-append}
use Rattle.tfpg_base.specs.Lines.{is_too_long}
use Rattle.tfpg_base.proofs.lemmas.lists.Cuts.{slice_get-drop, take-next}
use Rattle.tfpg_graph.specs.Graph.{Tfpg}
use Rattle.tfpg_log.specs.declared.event.Event.{Event}
use Rattle.tfpg_log.specs.declared.event.Offered.{Offered}
use Rattle.tfpg_log.specs.declared.event.Offered.TheVariants.{Accepted, Refused}
use Rattle.tfpg_log.specs.Log.{Logbook}
use Rattle.tfpg_log.specs.Accepted.{reply_to}
use Rattle.tfpg_log.specs.LogOfLines.{log_after, log_after_reply, log_of_lines}
use Rattle.tfpg_log.proofs.lemmas.logs_of_lines.LogsOfLines.{log_of_lines-push}
use Rattle.tfpg_evidence.specs.declared.round.Round.{Round}
use Rattle.tfpg_log.specs.declared.refused_line.RefusedLine.{RefusedLine}
use Rattle.tfpg_log.specs.declared.refused_line.RefusedLine.TheVariants.{TooLong}
use Rattle.tfpg_report.specs.Blocks.{Block}
use Rattle.tfpg_check.specs.Report.{event_of_line, event_of_reply, rounds_of}
use Rattle.tfpg_check.specs.Causes.{DiagnosisProblem, next_event, progress_after_blocks}
use Rattle.tfpg_check.specs.JudgeState.{BlocksState, KeepsLog}
use Rattle.tfpg_check.specs.inside.BlockSteps.{NextBrings, PassesLine}

-- a refused line leaves the log as it was
pub log_by_refusal : (graph : Tfpg) (log : Logbook) (line : List ℕ) (refused : RefusedLine) → event_of_line graph log line ≡ Err refused → log_after graph log line ≡ log
log_by_refusal graph log line refused is = by (is_too_long line) is
  where
    by_reply : (reply : Offered) → event_of_reply reply ≡ Err refused → log_after_reply log reply ≡ log
    by_reply (Accepted event) same = cc
    by_reply (Refused refusal) same = refl

    by : (long : Bool) → cond long (Err TooLong) (event_of_reply (reply_to graph log line)) ≡ Err refused → cond long log (log_after_reply log (reply_to graph log line)) ≡ log
    by true same = refl
    by false same = by_reply (reply_to graph log line) same

-- the rounds of one block more
pub rounds_with : (blocks : List Block) (block : Block) → flat_map rounds_of (blocks ++ block ∷ []) ≡ flat_map rounds_of blocks ++ rounds_of block
rounds_with blocks block = flat_map-append rounds_of blocks (block ∷ []) ∙ ap (λ (rounds : List Round). flat_map rounds_of blocks ++ rounds) (append-nil (rounds_of block))

module _ (problem : DiagnosisProblem) (blocks : List Block) (state : BlocksState) (keeps : KeepsLog problem blocks state) where
  -- the next line is the first of those left
  next_at : slice_get problem.log_lines (length blocks) ≡ slice_get state.log_lines.left 0
  next_at =
      ap (slice_get problem.log_lines) (omega arith) ∙ sym (slice_get-drop (length blocks) problem.log_lines 0)
      ∙ ap (λ (lines : List (List ℕ)). slice_get lines 0) (sym keeps.left)

  -- There is none if none are left.
  pub none_next : state.log_lines.left ≡ [] → next_event problem blocks ≡ None
  none_next none =
      ap (option_map (event_of_line problem.graph (progress_after_blocks problem blocks).log)) (next_at ∙ ap (λ (lines : List (List ℕ)). slice_get lines 0) none)

  module _ (brings : Result Event RefusedLine) (next : NextBrings state brings) where
    -- It is the one that was passed,
    pub text_at : slice_get problem.log_lines (length blocks) ≡ Some next.text
    text_at = next_at ∙ ap (λ (lines : List (List ℕ)). slice_get lines 0) next.left

    -- and brings the same.
    pub event_at : event_of_line problem.graph (progress_after_blocks problem blocks).log next.text ≡ brings
    event_at = (λ i. event_of_line (sym keeps.graph i) (sym keeps.log i) next.text) ∙ next.event

    -- So that is what the next line brings.
    pub next_is : next_event problem blocks ≡ Some brings
    next_is = ap (option_map (event_of_line problem.graph (progress_after_blocks problem blocks).log)) text_at ∙ ap Some event_at

  -- After it, what is kept of the log is that with one more block.
  pub keeps_log_after : (block : Block) (new : BlocksState) (brings : Result Event RefusedLine) → PassesLine state new brings → KeepsLog problem (blocks ++ block ∷ []) new
  keeps_log_after block new brings passes =
      let long : length (blocks ++ block ∷ []) ≡ length blocks + 1 = length-append blocks (block ∷ []) in
      record {
        graph = ap (λ (s : BlocksState). s.graph) passes.after ∙ keeps.graph;
        passed = ap (λ (s : BlocksState). s.log_lines.passed) passes.after ∙ ap (λ (n : ℕ). n + 1) keeps.passed ∙ sym long;
        left =
            ap (λ (s : BlocksState). s.log_lines.left) passes.after ∙ ap (drop 1) (sym passes.next.left ∙ keeps.left) ∙ drop-drop 1 (length blocks) problem.log_lines
            ∙ ap (λ (n : ℕ). drop n problem.log_lines) (sym long);
        log =
            ap (λ (s : BlocksState). s.log) passes.after ∙ (λ i. log_after (keeps.graph i) (keeps.log i) passes.next.text)
            ∙ sym (log_of_lines-push problem.graph (take (length blocks) problem.log_lines) passes.next.text)
            ∙ ap (log_of_lines problem.graph) (sym (take-next problem.log_lines (length blocks) passes.next.text (text_at brings passes.next)))
            ∙ ap (λ (n : ℕ). log_of_lines problem.graph (take n problem.log_lines)) (sym long);
      }
