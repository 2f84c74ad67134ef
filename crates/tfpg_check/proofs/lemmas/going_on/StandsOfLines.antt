-- What the stand after some lines says of the last of them.
use Rattle.std.proofs.Common.{◌≡◌, ℕ, zero, suc, ◌-◌, Bool, true, List, [], ◌∷◌, ◌++◌, Some, None, inl, inr, refl, sym, ap, ◌∙◌}
use Rattle.std.specs.Bool.{then_some}
use Rattle.std.proofs.lemmas.Option.{same_Some}
use Rattle.tfpg_base.proofs.lemmas.lists.Choices.{then_some-true}
use Rattle.tfpg_base.specs.declared.terms.Terms.{Terms}
use Rattle.tfpg_report.specs.declared.stand.Stand.{Stand}
use Rattle.tfpg_report.specs.declared.stand.Stand.TheVariants as stand
use Rattle.tfpg_report.specs.declared.report_line.ReportLine.{ReportLine}
use Rattle.tfpg_report.specs.declared.report_line.ReportLine.TheVariants.{Head, OldHead, Refused, Round, Hyp, Split, Cycle, Why, Again, Ranked, At, Open, Rejected, Counts, Panel}
use Rattle.tfpg_report.specs.Stands.{after_reasons, is_later, may_begin, may_begin_block, may_begin_steps, may_open, may_rank, may_reject, may_step, stand_after, stand_of}
use Rattle.tfpg_report.specs.Reading.{IsHead, is_last}
pub use Rattle.tfpg_report.proofs.lemmas.block_reader.WholeBlocks.{ComesBy, comes_by, EndsWith, ends_with, none_begun}

-- ---- where a block may begin

-- After a line that ends what it belongs to, a block may begin.
pub last_leads : (before at : Stand) (line : ReportLine) → stand_after before line ≡ Some at → is_last line ≡ true → may_begin_block at ≡ true
last_leads before at (Head terms) leads last = ap may_begin_block (sym (then_some-true (may_begin before) stand.Block at leads).1)
last_leads before at (OldHead k budget) leads last = ap may_begin_block (sym (then_some-true (may_begin before) stand.Block at leads).1)
last_leads before at (Refused number cause) leads last = ap may_begin_block (sym (then_some-true (may_begin_block before) stand.Block at leads).1)
last_leads before at (Counts counts) leads last = ap may_begin_block (sym (then_some-true (may_reject before) (stand.Counts None) at leads).1)
last_leads (stand.Counts held) at (Panel panel memory) leads last = ap may_begin_block (sym (then_some-true (is_later held panel) (stand.Counts (Some panel)) at leads).1)
last_leads _ at (Panel panel memory) leads last = absurd cc
last_leads before at _ leads last = absurd cc

-- ---- before the first line

-- only nothing at all leads to the stand where nothing was read
pub none_read : (reads : List ReportLine) → stand_of reads ≡ Some stand.Nothing → reads ≡ []
none_read [] stands = refl
none_read (read ∷ reads) stands =
    let whole = ends_with read reads in
    let by = comes_by stand.Nothing whole.front (whole.last ∷ []) stand.Nothing (ap stand_of (sym whole.is) ∙ stands) in
    absurd (never_back by.between whole.last by.back_leads)
  where
    elsewhere : (may : Bool) (to : Stand) → then_some may to ≡ Some stand.Nothing → to ≡ stand.Nothing
    elsewhere may to leads = (then_some-true may to stand.Nothing leads).1

    no_reasons : (owed : ℕ) → after_reasons owed ≡ stand.Nothing → ⊥
    no_reasons zero is = cc
    no_reasons (suc owed) is = cc

    never_back : (before : Stand) (line : ReportLine) → stand_after before line ≡ Some stand.Nothing → ⊥
    never_back before (Head terms) leads = let to = elsewhere (may_begin before) stand.Block leads in cc
    never_back before (OldHead k budget) leads = let to = elsewhere (may_begin before) stand.Block leads in cc
    never_back before (Refused number cause) leads = let to = elsewhere (may_begin_block before) stand.Block leads in cc
    never_back before (Round number line now) leads = let to = elsewhere (may_begin_block before) stand.Round leads in cc
    never_back before (Hyp number) leads = let to = elsewhere (may_begin_steps before) stand.Hyp leads in cc
    never_back before (Split name) leads = let to = elsewhere (may_step before) stand.Step leads in cc
    never_back before (Cycle count) leads = no_reasons count (elsewhere (may_step before) (after_reasons count) leads)
    never_back (stand.Reasons owed) (Why reason) leads = no_reasons (owed - 1) (same_Some (after_reasons (owed - 1)) stand.Nothing leads)
    never_back _ (Why reason) leads = cc
    never_back before Again leads = let to = elsewhere (may_step before) stand.Step leads in cc
    never_back before (Ranked number cost alarmed monitored hypothesis) leads = let to = elsewhere (may_rank before) (stand.Ranked None) leads in cc
    never_back (stand.Ranked last) (At activation) leads = let to = elsewhere (is_later last activation.node) (stand.Ranked (Some activation.node)) leads in cc
    never_back _ (At activation) leads = cc
    never_back before (Open number hypothesis) leads = let to = elsewhere (may_open before) stand.Open leads in cc
    never_back before (Rejected number hypothesis) leads = let to = elsewhere (may_reject before) stand.Rejected leads in cc
    never_back before (Counts counts) leads = let to = elsewhere (may_reject before) (stand.Counts None) leads in cc
    never_back (stand.Counts last) (Panel panel memory) leads = let to = elsewhere (is_later last panel) (stand.Counts (Some panel)) leads in cc
    never_back _ (Panel panel memory) leads = cc

-- So a first line comes first.
pub head_comes_first : (reads : List ReportLine) (terms : Terms) (read : ReportLine) (at : Stand) → IsHead terms read → stand_of (reads ++ read ∷ []) ≡ Some at → reads ≡ []
head_comes_first reads terms read at is_head stands = none_read reads (by is_head comes.between comes.back_leads comes.front_leads)
  where
    comes : ComesBy stand.Nothing reads (read ∷ []) at
    comes = comes_by stand.Nothing reads (read ∷ []) at stands

    at_begin : (before : Stand) → may_begin before ≡ true → before ≡ stand.Nothing
    at_begin stand.Nothing may = refl
    at_begin stand.Block may = absurd cc
    at_begin stand.Round may = absurd cc
    at_begin stand.Hyp may = absurd cc
    at_begin (stand.Reasons owed) may = absurd cc
    at_begin stand.Step may = absurd cc
    at_begin (stand.Ranked last) may = absurd cc
    at_begin stand.Open may = absurd cc
    at_begin stand.Rejected may = absurd cc
    at_begin (stand.Counts last) may = absurd cc

    by : IsHead terms read → (before : Stand) → stand_after before read ≡ Some at → stand_of reads ≡ Some before → stand_of reads ≡ Some stand.Nothing
    by (inl new) before leads front =
        front ∙ ap Some (at_begin before (then_some-true (may_begin before) stand.Block at (ap (stand_after before) (sym new) ∙ leads)).0)
    by (inr old) before leads front =
        front ∙ ap Some (at_begin before (then_some-true (may_begin before) stand.Block at (ap (stand_after before) (sym old.1) ∙ leads)).0)
