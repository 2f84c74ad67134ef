-- A reader that represents lines takes the next one.
use Rattle.std.proofs.Common.{◌≡◌, ℕ, ◌+◌, ◌-◌, List, [], ◌∷◌, ◌++◌, length, refl, true, Some, sym, ap, subst, ◌∙◌, ⊎_elim, length-append, arith}
use Rattle.tfpg_base.specs.declared.terms.Terms.{Terms}
use Rattle.tfpg_graph.specs.Graph.{Tfpg}
use Rattle.tfpg_report.specs.declared.fed.Fed.{Fed}
use Rattle.tfpg_report.specs.declared.fed.Fed.TheVariants as fed
use Rattle.tfpg_report.specs.declared.stand.Stand.{Stand}
use Rattle.tfpg_report.specs.declared.report_line.ReportLine.{ReportLine}
use Rattle.tfpg_report.specs.declared.report_line.ReportLine.TheVariants.{Head, OldHead, Refused, Round, Hyp, Split, Cycle, Why, Again, Ranked, At, Open, Rejected, Counts, Panel}
use Rattle.tfpg_report.specs.declared.block_reader.draft.RoundDraft.{RoundDraft}
use Rattle.tfpg_report.specs.ReportLines.{Says}
use Rattle.tfpg_report.specs.Stands.{stand_after, stand_of}
use Rattle.tfpg_report.specs.ReadRounds.{NumberedLine, numbered_from}
use Rattle.tfpg_report.specs.Reading.{is_last, begun_in, IsHead, Completes}
use Rattle.tfpg_report.specs.Represents.{ReaderState, ReaderRepresents, TakesReportLine}
use Rattle.tfpg_report.specs.inside.Drafts.{draft_with, draft_after, left_after, completed}
use Rattle.tfpg_report.specs.inside.Fitting.{begun_lines, Fits, Feeds}
use Rattle.tfpg_report.proofs.lemmas.block_reader.NumberedLines.{numbered, numbered_from_more}
use Rattle.tfpg_report.proofs.lemmas.block_reader.GrowingDrafts.{feeds_after}
use Rattle.tfpg_report.proofs.lemmas.block_reader.BegunLines.{stand_of_more, begun_in_ended, begun_in_on, begun_in_few}

-- the number of the first line of the round that these lines begin
abbrev first_begun : List ReportLine → ℕ
first_begun lines = length lines - length (begun_in lines) + 1

-- what a line completes, and what is begun then
record Goes (lines : List ReportLine) (read : ReportLine) (begun : List NumberedLine) (completes : Fed) : Type 0 where
  completed_is : Completes lines read completes
  begun_is : begun ≡ numbered_from (first_begun (lines ++ read ∷ [])) (begun_in (lines ++ read ∷ []))

-- what is begun after a line that ends what it belongs to
nothing_begun : (lines : List ReportLine) (read : ReportLine) (begun : List NumberedLine) → is_last read ≡ true → begun ≡ [] → begun ≡ numbered_from (first_begun (lines ++ read ∷ [])) (begun_in (lines ++ read ∷ []))
nothing_begun lines read begun last none =
    none ∙ ap (λ rest. numbered_from (first_begun (lines ++ read ∷ [])) rest) (sym (begun_in_ended lines read last))

-- the lines begun with one more
module _ (lines : List ReportLine) (read : ReportLine) (number : ℕ) (next_is : number ≡ length lines + 1) where
  -- its number is the next one
  number_is : first_begun lines + length (begun_in lines) ≡ number
  number_is = omega (arith, begun_in_few lines)

  one_more : (before : List NumberedLine) → before ≡ numbered_from (first_begun lines) (begun_in lines) → before ++ numbered number read ∷ [] ≡ numbered_from (first_begun lines) (begun_in lines ++ read ∷ [])
  one_more before are =
      (λ i. are i ++ numbered (sym number_is i) read ∷ [])
      ∙ sym (numbered_from_more (first_begun lines) (begun_in lines) read)

  -- what each kind of line completes
  goes : (before after : List NumberedLine) (completes : Fed) → Feeds before after (numbered number read) completes → before ≡ numbered_from (first_begun lines) (begun_in lines) → Goes lines read after completes
  goes before after fed.More feeds are =
      let on : begun_in (lines ++ read ∷ []) ≡ begun_in lines ++ read ∷ [] = begun_in_on lines read feeds.0 in
      let first_is : first_begun lines ≡ first_begun (lines ++ read ∷ []) =
      omega (arith, begun_in_few lines, ap length on, length-append lines (read ∷ []), length-append (begun_in lines) (read ∷ [])) in
      record {
        completed_is = feeds.0;
        begun_is = feeds.1 ∙ one_more before are ∙ (λ i. numbered_from (first_is i) (sym on i));
      }
  goes before after (fed.Head k doubt budget) feeds are = record {
    completed_is = feeds.0;
    begun_is = nothing_begun lines read after (head_is_last (record { k = k; doubt = doubt; budget = budget }) read feeds.0) feeds.1;
  }
    where
      head_is_last : (terms : Terms) (read : ReportLine) → IsHead terms read → is_last read ≡ true
      head_is_last terms read head = ⊎_elim (λ new. ap is_last new) (λ old. ap is_last old.1) head
  goes before after (fed.Refused line cause) feeds are = record {
    completed_is = feeds.0;
    begun_is = nothing_begun lines read after (ap is_last feeds.0) feeds.1;
  }
  goes before after (fed.Round round) feeds are = record {
    completed_is = (feeds.0, record { lines_are = feeds.1 ∙ one_more before are; each_step = feeds.2 });
    begun_is = nothing_begun lines read after (ap is_last feeds.0.1) feeds.3;
  }
  goes before after (fed.Lost panel memory) feeds are = record {
    completed_is = feeds.0;
    begun_is = nothing_begun lines read after (ap is_last feeds.0) feeds.1;
  }

-- What is left of a draft to which a line was added is the draft after it.
pub left_with : (at : ℕ) (next : Stand) (line : ReportLine) (draft : RoundDraft) → left_after line (draft_with at next line draft) ≡ draft_after at next line draft
left_with at next (Head terms) draft = refl
left_with at next (OldHead k budget) draft = refl
left_with at next (Refused line cause) draft = refl
left_with at next (Round number line now) draft = refl
left_with at next (Hyp number) draft = refl
left_with at next (Split name) draft = refl
left_with at next (Cycle count) draft = refl
left_with at next (Why reason) draft = refl
left_with at next Again draft = refl
left_with at next (Ranked number cost alarmed monitored hypothesis) draft = refl
left_with at next (At activation) draft = refl
left_with at next (Open number hypothesis) draft = refl
left_with at next (Rejected number hypothesis) draft = refl
left_with at next (Counts counts) draft = refl
left_with at next (Panel panel memory) draft = refl

-- A line that may come is taken.
pub takes : (graph : Tfpg) (lines : List ReportLine) (bytes : List ℕ) (old new : ReaderState) (before next : Stand) (draft after : RoundDraft) (number : ℕ) (read : ReportLine) (completes : Fed)
    → old.stand ≡ before → old.begun ≡ begun_lines before draft → new.taken ≡ number → new.stand ≡ next → new.begun ≡ begun_lines next after
    → ReaderRepresents old lines → number ≡ old.taken + 1 → Fits before draft → Says graph read bytes → stand_after before read ≡ Some next
    → after ≡ draft_after number next read draft → completes ≡ completed number read (draft_with number next read draft) → TakesReportLine graph lines bytes new completes
takes graph lines bytes old new before next draft after number read completes old_stand old_begun new_taken new_stand new_begun represents follows fits says steps after_is completes_is =
    let next_is : number ≡ length lines + 1 = follows ∙ ap (λ (n : ℕ). n + 1) represents.taken in
    let are : begun_lines before draft ≡ numbered_from (first_begun lines) (begun_in lines) = sym old_begun ∙ represents.begun in
    let stands : stand_of (lines ++ read ∷ []) ≡ Some next = stand_of_more lines read before (represents.stands ∙ ap Some old_stand) ∙ steps in
    let feeds : Feeds (begun_lines before draft) (begun_lines next (draft_after number next read draft)) (numbered number read) (completed number read (draft_with number next read draft)) =
    feeds_after before draft number read next fits
    (record { first = first_begun lines; said = begun_in lines; are = are; next_is = sym (number_is lines read number next_is) }) steps in
    let gone : Goes lines read (begun_lines next (draft_after number next read draft)) (completed number read (draft_with number next read draft)) =
    goes lines read number next_is (begun_lines before draft) _ (completed number read (draft_with number next read draft)) feeds are in
    record {
      read = read;
      may_come = record { says = says; stand = next; stands = stands };
      completes = subst (Completes lines read) (sym completes_is) gone.completed_is;
      represents = record {
        taken = new_taken ∙ next_is ∙ sym (length-append lines (read ∷ []));
        stands = stands ∙ ap Some (sym new_stand);
        begun = new_begun ∙ ap (begun_lines next) after_is ∙ gone.begun_is;
      };
    }
