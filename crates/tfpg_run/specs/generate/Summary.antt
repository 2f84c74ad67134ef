-- The three lines that `generate` writes.
use Rattle.std.specs.Prelude.{ℕ, List, [], ◌∷◌, length, codes, decimal}
use Rattle.tfpg_base.specs.Hypothesis.{believing}
use Rattle.tfpg_base.specs.TextLine.{text_line}
use Rattle.tfpg_graph.specs.Graph.{Tfpg}
use Rattle.tfpg_evidence.specs.declared.finding.Status.{Status}
use Rattle.tfpg_evidence.specs.declared.finding.Status.TheVariants.{Ranked, Covered, Rejected, Open}
use Rattle.tfpg_evidence.specs.declared.round.Counts.{Counts}
use Rattle.tfpg_report.specs.LineWords.{counts_words}
use Rattle.tfpg_report.specs.SetText.{set_word}

-- the word for a status
abbrev pub status_word : Status → List ℕ
status_word (Ranked trace cost alarmed monitored) = codes "ranked"
status_word (Covered by) = codes "covered"
status_word Rejected = codes "rejected"
status_word Open = codes "open"

-- the line that says what was drawn: the number, the size, how many nodes and edges the graph has, and how many lines
-- the log has
abbrev pub drawn_text : ℕ → ℕ → Tfpg → ℕ → List ℕ
drawn_text number size graph lines =
    text_line (codes "generated" ∷ codes "draw" ∷ decimal number ∷ codes "size" ∷ decimal size
    ∷ codes "nodes" ∷ decimal (length graph.nodes) ∷ codes "edges" ∷ decimal (length graph.edges)
    ∷ codes "lines" ∷ decimal lines ∷ [])

-- the line that says how many rounds there were, and how many hypotheses have each status
abbrev pub rounds_text : ℕ → Counts → List ℕ
rounds_text rounds counts = text_line (codes "rounds" ∷ decimal rounds ∷ counts_words counts)

-- the line that says which set was simulated, and what became of it
abbrev pub truth_text : Tfpg → List ℕ → Status → List ℕ
truth_text graph set status = text_line (codes "truth" ∷ set_word graph (believing set) ∷ status_word status ∷ [])
