-- What a session returned for lines is a report of their text.
use Rattle.std.proofs.Common.{ℕ, List, sym, subst}
use Rattle.std.specs.Prelude.{All, flat_map}
use Rattle.tfpg_base.specs.Lines.{HasNoLineEnd, with_line_end}
use Rattle.tfpg_base.specs.declared.terms.Terms.{Terms}
use Rattle.tfpg_base.proofs.lemmas.LinesOf.{lines_again}
use Rattle.tfpg_graph.specs.Graph.{Tfpg}
use Rattle.tfpg_diagnose.specs.texts.Opening.{GivesGraphOf}
use Rattle.tfpg_diagnose.specs.texts.Reports.{IsPlainReport, IsReportOfTexts}
use Rattle.tfpg_diagnose.specs.texts.Sessions.{SessionRepresents, SessionState}

pub report_of_lines : (graph_text : List ℕ) (graph : Tfpg) (terms : Terms) (lines : List (List ℕ)) (bytes : List ℕ) (session : SessionState) → GivesGraphOf graph_text graph
    → SessionRepresents graph terms lines bytes session → All HasNoLineEnd lines → IsReportOfTexts graph_text terms (flat_map with_line_end lines) bytes
report_of_lines graph_text graph terms lines bytes session gives so_far clean =
    record { graph = graph; gives = gives; report = subst (λ (ls : List (List ℕ)). IsPlainReport graph terms ls bytes) (sym (lines_again lines clean)) so_far.report }
