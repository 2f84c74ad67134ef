use Rattle.std.proofs.Common.{◌≡◌, ℕ, List, Some, ap, refl, subst, sym, ◌∙◌, rules}
use Rattle.tfpg_graph.specs.Graph.{Tfpg}
use Rattle.tfpg_engine.specs.EngineState.{EngineRepresents, EngineState, calls_of_engine}
use Rattle.tfpg_report.specs.Blocks.{block_text}
use Rattle.tfpg_check.specs.Report.{progress_of}
use Rattle.tfpg_diagnose.specs.EngineReports.{EngineReports}
use Rattle.tfpg_diagnose.specs.inside.LineBlocks.{block_brought}
use Rattle.tfpg_diagnose.specs.texts.Latest.{latest_with_block, text_of_latest}
use Rattle.tfpg_diagnose.specs.texts.Sessions.{CountsBlock, SessionState, lines_before}
use Rattle.tfpg_diagnose.proofs.lemmas.texts.SessionLines.{reports_so_far, session_with_line, text_noted}
use Rattle.tfpg_diagnose.proofs.texts.session.Session.take.Goals as goal

pub returns-clause-represents : goal.returns-clause-represents
returns-clause-represents c graph terms lines bytes so_far =
    let at : c.args.self.now.next ≡ Some c.in_ok-number.number = search rules in
    let reports = subst (λ (engine : EngineState). EngineReports graph terms engine (progress_of graph lines so_far.report.blocks)) (sym (ap (λ (s : SessionState). s.engine) c.self.view_is))
    (reports_so_far graph terms lines bytes c.args.self.now so_far) in
    session_with_line graph terms lines bytes c.args.self.now so_far c.in_ok-number.number at c.in_ok-next.ensures.few c.args.text.now c.in_ok-brought.brought c.brought_by_line.new.engine
    (c.in_ok-brought.ensures.block graph terms (progress_of graph lines so_far.report.blocks) reports) c.in_ok-next.next c.in_ok-next.ensures.next c.note.new.self
    (c.note.ensures c.in_ok-number.number ∙ ap (λ (s : SessionState). latest_with_block s.latest (block_brought c.in_ok-number.number c.in_ok-brought.brought)) c.self.view_is) _ refl

pub returns-clause-work : goal.returns-clause-work
returns-clause-work c rounds represents =
    let number = c.in_ok-number.number in
    let engine = c.brought_by_line.new.engine in
    let text = text_of_latest engine.graph engine.terms (lines_before (Some c.in_ok-next.next)) c.note.new.self in
    let same : text ≡ block_text c.self.inside.engine.graph (block_brought number c.in_ok-brought.brought) =
    text_noted engine.graph engine.terms number c.in_ok-next.next c.in_ok-next.ensures.next c.in_ok-brought.brought c.self.inside.latest c.note.new.self (c.note.ensures number)
    ∙ ap (λ (g : Tfpg). block_text g (block_brought number c.in_ok-brought.brought)) c.in_ok-brought.ensures.graph in
    subst (λ (s : SessionState). CountsBlock s.engine rounds c.args.text.now text (calls_of_engine s.engine) (calls_of_engine engine)) c.self.view_is
    (subst (λ (b : List ℕ). CountsBlock c.self.inside.engine rounds c.args.text.now b (calls_of_engine c.self.inside.engine) (calls_of_engine engine)) (sym same)
    (c.in_ok-brought.ensures.work rounds (subst (λ (s : SessionState). EngineRepresents s.engine rounds) (sym c.self.view_is) represents)))
