-- How far a report has come after one block more.
use Rattle.std.proofs.Common.{◌≡◌, ℕ, List, [], ◌∷◌, ◌++◌, ap, ◌∙◌}
use Rattle.std.specs.Prelude.{flat_map}
use Rattle.std.proofs.lemmas.List.{append-nil}
use Rattle.std.proofs.lemmas.List.Sums.{fold-append}
use Rattle.std.proofs.lemmas.List.Concat.{flat_map-append}
use Rattle.tfpg_graph.specs.Graph.{Tfpg}
use Rattle.tfpg_log.specs.Log.{Logbook}
use Rattle.tfpg_log.specs.LogOfLines.{new_log, log_after, log_of_lines}
use Rattle.tfpg_evidence.specs.declared.round.Round.{Round}
use Rattle.tfpg_report.specs.Blocks.{Block}
use Rattle.tfpg_check.specs.Report.{Progress, rounds_of, progress_after, progress_of}

-- rounds and log together
abbrev pub progress_with : List Round → Logbook → Progress
progress_with rounds log = record { rounds = rounds; log = log }

-- The rounds and the log both grow by one step.
pub progress_of-push : (graph : Tfpg) (lines : List (List ℕ)) (blocks : List Block) (line : List ℕ) (block : Block)
    → progress_of graph (lines ++ line ∷ []) (blocks ++ block ∷ []) ≡ progress_after graph (progress_of graph lines blocks) line block
progress_of-push graph lines blocks line block =
    let rounds : flat_map rounds_of (blocks ++ block ∷ []) ≡ flat_map rounds_of blocks ++ rounds_of block =
    flat_map-append rounds_of blocks (block ∷ []) ∙ ap (λ (rs : List Round). flat_map rounds_of blocks ++ rs) (append-nil (rounds_of block)) in
    let log : log_of_lines graph (lines ++ line ∷ []) ≡ log_after graph (log_of_lines graph lines) line = fold-append (log_after graph) new_log lines (line ∷ []) in
    ap (λ (rs : List Round). progress_with rs (log_of_lines graph (lines ++ line ∷ []))) rounds ∙ ap (progress_with (flat_map rounds_of blocks ++ rounds_of block)) log
