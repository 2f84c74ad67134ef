-- A line that may come goes into the draft, which then fits the stand after it.
use Rattle.std.proofs.Common.{ap, refl, subst, sym, ◌≡◌, ◌∙◌, Some}
use Rattle.std.proofs.lemmas.Result.{IfOk-at_ok}
use Rattle.tfpg_graph.specs.Graph.{Tfpg}
use Rattle.tfpg_report.specs.ReportLines.{Says}
use Rattle.tfpg_report.specs.Represents.{ReaderState}
use Rattle.tfpg_report.specs.Stands.{stand_after}
use Rattle.tfpg_report.specs.declared.block_reader.LineToCome.{LineToCome}
use Rattle.tfpg_report.specs.declared.report_line.ReportLine.TheVariants.{At}
use Rattle.tfpg_report.specs.inside.Drafts.{completed, draft_after, left_after}
use Rattle.tfpg_report.specs.inside.Fitting.{Fits}
use Rattle.tfpg_report.proofs.lemmas.block_reader.FittingDrafts.{fits_after, lets_fit}
use Rattle.tfpg_report.proofs.lemmas.block_reader.ReaderSteps.{left_with, takes}
use Rattle.tfpg_report.proofs.block_reader.BlockReader.take.Goals as goal

-- ---- the line of an activation

pub invariant_of-self : goal.invariant_of-self
invariant_of-self c =
    let found = c.in-Some-next_activation.found in
    let draft = c.self.inside.draft in
    record {
      fits = subst (Fits found.1) (sym c.in-Ok.ensures)
          (fits_after c.self.inside.stand draft c.args.number (At found.0) found.1 c.self.invariant.fits c.in-Some-next_activation.ensures.stand);
      refuses = λ refusal is. absurd (let none = c.in_default.is in cc);
    }

pub returns-in-Ok-clause-fed : goal.returns-in-Ok-clause-fed
returns-in-Ok-clause-fed c = λ lines represents accepted.
    let before = c.self.inside.stand in
    let draft = c.self.inside.draft in
    let found = c.in-Some-next_activation.found in
    takes c.args.graph.now lines c.args.line.now c.args.self.now _ before found.1 draft c.add_activation.new.self
    c.args.number (At found.0) _
    (sym (ap (λ (r : ReaderState). r.stand) c.self.view_is)) (sym (ap (λ (r : ReaderState). r.begun) c.self.view_is)) c.of.ensures refl refl
    represents (c.requires accepted) c.self.invariant.fits
    (subst (λ (graph : Tfpg). Says graph (At found.0) c.args.line.now) c.with_guesses-named.ensures c.in-Some-next_activation.ensures.says)
    c.in-Some-next_activation.ensures.stand c.in-Ok.ensures refl

-- ---- any other line

pub add-requires : goal.add-requires
add-requires c =
    let before = c.self.inside.stand in
    let next : LineToCome = c.in-Ok-next_line.next in
    lets_fit before c.self.inside.draft next.line next.stand c.self.invariant.fits
    (IfOk-at_ok (λ (n : LineToCome). stand_after before n.line ≡ Some n.stand) c.in-Ok-next_line.is c.next_line.ensures.stand)

pub invariant_of-self-in-Ok-add : goal.invariant_of-self-in-Ok-add
invariant_of-self-in-Ok-add c =
    let before = c.self.inside.stand in
    let draft = c.self.inside.draft in
    let next : LineToCome = c.in-Ok-next_line.next in
    let after : c.complete.new.self ≡ draft_after c.args.number next.stand next.line draft =
    c.complete.ensures.draft ∙ ap (left_after next.line) c.in-Ok-add.ensures ∙ left_with c.args.number next.stand next.line draft in
    record {
      fits = subst (Fits next.stand) (sym after)
          (fits_after before draft c.args.number next.line next.stand c.self.invariant.fits
          (IfOk-at_ok (λ (n : LineToCome). stand_after before n.line ≡ Some n.stand) c.in-Ok-next_line.is c.next_line.ensures.stand));
      refuses = λ refusal is. absurd (let none = c.in_default.is in cc);
    }

pub returns-in-Ok-add-clause-fed : goal.returns-in-Ok-add-clause-fed
returns-in-Ok-add-clause-fed c = λ lines represents accepted.
    let before = c.self.inside.stand in
    let draft = c.self.inside.draft in
    let next : LineToCome = c.in-Ok-next_line.next in
    takes c.args.graph.now lines c.args.line.now c.args.self.now _ before next.stand draft c.complete.new.self
    c.args.number next.line c.complete.result
    (sym (ap (λ (r : ReaderState). r.stand) c.self.view_is)) (sym (ap (λ (r : ReaderState). r.begun) c.self.view_is)) c.of-in-Ok-add.ensures refl refl
    represents (c.requires accepted) c.self.invariant.fits
    (subst (λ (graph : Tfpg). Says graph next.line c.args.line.now) c.with_guesses-named.ensures
    (IfOk-at_ok (λ (n : LineToCome). Says c.with_guesses-named.result n.line c.args.line.now) c.in-Ok-next_line.is c.next_line.ensures.says))
    (IfOk-at_ok (λ (n : LineToCome). stand_after before n.line ≡ Some n.stand) c.in-Ok-next_line.is c.next_line.ensures.stand)
    (c.complete.ensures.draft ∙ ap (left_after next.line) c.in-Ok-add.ensures ∙ left_with c.args.number next.stand next.line draft)
    (c.complete.ensures.fed ∙ ap (completed c.args.number next.line) c.in-Ok-add.ensures)
