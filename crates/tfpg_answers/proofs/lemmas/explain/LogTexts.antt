-- The log of a text, whose last part may be empty.
use Rattle.std.proofs.Common.{◌≡◌, ℕ, List, [], ◌∷◌, ◌++◌, refl, ap, sym, ◌∙◌}
use Rattle.std.proofs.lemmas.List.{append-nil}
use Rattle.tfpg_base.specs.Lines.{parts_of, whole_lines, last_part, line_of_part, lines_of}
use Rattle.tfpg_base.proofs.lemmas.LinesAndParts.{parts_of-last}
use Rattle.tfpg_graph.specs.Graph.{Tfpg}
use Rattle.tfpg_log.specs.LogOfLines.{log_of_lines}
use Rattle.tfpg_log.proofs.lemmas.logs_of_lines.LogsOfLines.{log_of_lines-push}

-- an empty part leaves no trace
without_part : (graph : Tfpg) (lines : List (List ℕ)) (part : List ℕ) → log_of_lines graph (lines ++ part ∷ []) ≡ log_of_lines graph (lines ++ line_of_part part)
without_part graph lines [] = log_of_lines-push graph lines [] ∙ ap (log_of_lines graph) (sym (append-nil lines))
without_part graph lines (byte ∷ bytes) = refl

-- the log of the parts is that of the lines
pub log_of_parts : (graph : Tfpg) (bytes : List ℕ) → log_of_lines graph (parts_of bytes) ≡ log_of_lines graph (lines_of bytes)
log_of_parts graph bytes = ap (log_of_lines graph) (sym (parts_of-last bytes)) ∙ without_part graph (whole_lines bytes) (last_part bytes)
