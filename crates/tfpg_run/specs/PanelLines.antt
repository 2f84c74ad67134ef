-- The lines that file panels write: one for each round.
use Rattle.std.specs.Prelude.{List, [], ◌∷◌, ℕ, Option, Some, None, slice_get, codes, decimal}
use Rattle.tfpg_base.specs.Lines.{with_line_end}
use Rattle.tfpg_base.specs.TextLine.{text_line}
use Rattle.tfpg_graph.specs.Graph.{Tfpg}
use Rattle.tfpg_evidence.specs.declared.finding.Finding.{Finding}
use Rattle.tfpg_evidence.specs.declared.finding.Status.{Status}
use Rattle.tfpg_evidence.specs.declared.finding.Status.TheVariants.{Ranked, Covered, Rejected, Open}
use Rattle.tfpg_evidence.specs.declared.round.Round.{Round}
use Rattle.tfpg_evidence.specs.Findings.{hypothesis_of, ranked_in_order}
use Rattle.tfpg_json.specs.RoundData.{round_json}
use Rattle.tfpg_report.specs.LineWords.{counts_words}
use Rattle.tfpg_report.specs.SetText.{set_word}
use Rattle.tfpg_words.specs.declared.panel_word.PanelKind.{PanelKind}
use Rattle.tfpg_words.specs.declared.panel_word.PanelKind.TheVariants.{Top, Count, Json}

-- the words where there is no best
abbrev pub none_words : List (List ℕ)
none_words = codes "none" ∷ []

-- the words for a finding of this status: where that ranks, its set and its cost
abbrev pub best_words : Tfpg → Finding → Status → List (List ℕ)
best_words graph finding (Ranked trace cost alarmed monitored) =
    set_word graph (hypothesis_of finding) ∷ codes "cost" ∷ decimal cost ∷ []
best_words graph finding (Covered by) = none_words
best_words graph finding Rejected = none_words
best_words graph finding Open = none_words

-- the words for the best, where there is one
abbrev pub best_words_if : Tfpg → Option Finding → List (List ℕ)
best_words_if graph None = none_words
best_words_if graph (Some finding) = best_words graph finding finding.status

-- `top`: the first of the ranked hypotheses of the round
abbrev pub top_line : Tfpg → Round → List ℕ
top_line graph round =
    text_line (codes "round" ∷ decimal round.number ∷ codes "best" ∷ best_words_if graph (slice_get (ranked_in_order round) 0))

-- `count`: how many hypotheses have each status
abbrev pub count_line : Round → List ℕ
count_line round = text_line (codes "round" ∷ decimal round.number ∷ counts_words round.counts)

-- The line that a panel of this kind writes for a round of the graph.
abbrev pub panel_line : PanelKind → Tfpg → Round → List ℕ
panel_line Top graph round = top_line graph round
panel_line Count graph round = count_line round
panel_line Json graph round = with_line_end (round_json graph round)
