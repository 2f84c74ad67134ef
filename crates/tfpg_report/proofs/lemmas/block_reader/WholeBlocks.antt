-- Where a block of a report may begin, no round has begun.
use Rattle.std.proofs.Common.{◌≡◌, ℕ, zero, suc, ◌-◌, Bool, true, false, List, [], ◌∷◌, ◌++◌, Option, Some, None, refl, sym, ap, ◌∙◌}
use Rattle.std.specs.Prelude.{fold, option_and_then}
use Rattle.std.specs.Bool.{then_some}
use Rattle.std.proofs.lemmas.Bool.{false≢true}
use Rattle.std.proofs.lemmas.List.Folds.{fold_stays}
use Rattle.std.proofs.lemmas.List.Sums.{fold-append}
use Rattle.std.proofs.lemmas.Option.{same_Some}
use Rattle.tfpg_base.proofs.lemmas.lists.Choices.{then_some-true}
use Rattle.tfpg_report.specs.declared.stand.Stand.{Stand}
use Rattle.tfpg_report.specs.declared.stand.Stand.TheVariants as stand
use Rattle.tfpg_report.specs.declared.report_line.ReportLine.{ReportLine}
use Rattle.tfpg_report.specs.declared.report_line.ReportLine.TheVariants.{Head, OldHead, Refused, Round, Hyp, Split, Cycle, Why, Again, Ranked, At, Open, Rejected, Counts, Panel}
use Rattle.tfpg_report.specs.Stands.{after_activation, after_reason, after_reasons, is_later, may_begin_block, may_begin_steps, may_open, may_rank, may_reject, may_step, stand_after, stand_after_all, stand_of}
use Rattle.tfpg_report.specs.Reading.{begun_in, is_last}
use Rattle.tfpg_report.proofs.lemmas.block_reader.BegunLines.{begun_in_ended}

-- ---- the last line

-- the lines up to the last, and the last
pub record EndsWith {X : Type 0} (xs : List X) : Type 0 where
  pub front : List X
  pub last : X
  pub is : xs ≡ front ++ last ∷ []

-- Some lines have a last one.
pub ends_with : {X : Type 0} (x : X) (xs : List X) → EndsWith (x ∷ xs)
ends_with x [] = record { front = []; last = x; is = refl }
ends_with x (y ∷ xs) = let rest = ends_with y xs in record { front = x ∷ rest.front; last = rest.last; is = ap (λ ls. x ∷ ls) rest.is }

-- the stand after one more line, if there was one before
abbrev next_stand : Option Stand → ReportLine → Option Stand
next_stand reached line = option_and_then (λ (at : Stand). stand_after at line) reached

-- what lines come to, by what the first of them come to
pub record ComesBy (from : Stand) (front back : List ReportLine) (to : Stand) : Type 0 where
  pub between : Stand
  pub front_leads : stand_after_all from front ≡ Some between
  pub back_leads : stand_after_all between back ≡ Some to

-- Lines that may come are two parts that may come, one after the other.
pub comes_by : (from : Stand) (front back : List ReportLine) (to : Stand) → stand_after_all from (front ++ back) ≡ Some to → ComesBy from front back to
comes_by from front back to leads = by (stand_after_all from front) refl
  where
    by : (reached : Option Stand) → stand_after_all from front ≡ reached → ComesBy from front back to
    by (Some between) at = record {
      between = between;
      front_leads = at;
      back_leads = ap (λ (reached : Option Stand). fold next_stand reached back) (sym at) ∙ sym (fold-append next_stand (Some from) front back) ∙ leads;
    }
    by None at =
        let none : None ≡ Some to =
        sym (fold_stays next_stand None (λ line. refl) back) ∙ ap (λ (reached : Option Stand). fold next_stand reached back) (sym at) ∙ sym (fold-append next_stand (Some from) front back) ∙ leads in
        absurd cc

-- ---- where a block may begin

-- the stand where reasons are to come is not one
reasons_begin_none : (owed : ℕ) → may_begin_block (after_reasons owed) ≡ false
reasons_begin_none zero = refl
reasons_begin_none (suc owed) = refl

-- a line that leads to another stand than this leads to no stand that passes
leads_elsewhere : (may : Bool) (to at : Stand) → may_begin_block to ≡ false → (then_some may to) ≡ Some at → may_begin_block at ≡ false
leads_elsewhere may to at none leads = sym (ap may_begin_block (then_some-true may to at leads).1) ∙ none

by_reason : (before at : Stand) → after_reason before ≡ Some at → may_begin_block at ≡ false
by_reason (stand.Reasons owed) at leads = sym (ap may_begin_block (same_Some (after_reasons (owed - 1)) at leads)) ∙ reasons_begin_none (owed - 1)
by_reason stand.Nothing at leads = absurd cc
by_reason stand.Block at leads = absurd cc
by_reason stand.Round at leads = absurd cc
by_reason stand.Hyp at leads = absurd cc
by_reason stand.Step at leads = absurd cc
by_reason (stand.Ranked last) at leads = absurd cc
by_reason stand.Open at leads = absurd cc
by_reason stand.Rejected at leads = absurd cc
by_reason (stand.Counts last) at leads = absurd cc

by_activation : (before at : Stand) (node : ℕ) → after_activation before node ≡ Some at → may_begin_block at ≡ false
by_activation (stand.Ranked last) at node leads = leads_elsewhere (is_later last node) (stand.Ranked (Some node)) at refl leads
by_activation stand.Nothing at node leads = absurd cc
by_activation stand.Block at node leads = absurd cc
by_activation stand.Round at node leads = absurd cc
by_activation stand.Hyp at node leads = absurd cc
by_activation (stand.Reasons owed) at node leads = absurd cc
by_activation stand.Step at node leads = absurd cc
by_activation stand.Open at node leads = absurd cc
by_activation stand.Rejected at node leads = absurd cc
by_activation (stand.Counts last) at node leads = absurd cc

-- a line after which a block may begin ends what it belongs to
last_by_stand : (before at : Stand) (line : ReportLine) → stand_after before line ≡ Some at → may_begin_block at ≡ true → is_last line ≡ true
last_by_stand before at (Head terms) leads may = refl
last_by_stand before at (OldHead k budget) leads may = refl
last_by_stand before at (Refused number cause) leads may = refl
last_by_stand before at (Round number line now) leads may = absurd (false≢true (sym (leads_elsewhere (may_begin_block before) stand.Round at refl leads) ∙ may))
last_by_stand before at (Hyp number) leads may = absurd (false≢true (sym (leads_elsewhere (may_begin_steps before) stand.Hyp at refl leads) ∙ may))
last_by_stand before at (Split name) leads may = absurd (false≢true (sym (leads_elsewhere (may_step before) stand.Step at refl leads) ∙ may))
last_by_stand before at (Cycle count) leads may = absurd (false≢true (sym (leads_elsewhere (may_step before) (after_reasons count) at (reasons_begin_none count) leads) ∙ may))
last_by_stand before at (Why reason) leads may = absurd (false≢true (sym (by_reason before at leads) ∙ may))
last_by_stand before at Again leads may = absurd (false≢true (sym (leads_elsewhere (may_step before) stand.Step at refl leads) ∙ may))
last_by_stand before at (Ranked number cost alarmed monitored hypothesis) leads may = absurd (false≢true (sym (leads_elsewhere (may_rank before) (stand.Ranked None) at refl leads) ∙ may))
last_by_stand before at (At activation) leads may = absurd (false≢true (sym (by_activation before at activation.node leads) ∙ may))
last_by_stand before at (Open number hypothesis) leads may = absurd (false≢true (sym (leads_elsewhere (may_open before) stand.Open at refl leads) ∙ may))
last_by_stand before at (Rejected number hypothesis) leads may = absurd (false≢true (sym (leads_elsewhere (may_reject before) stand.Rejected at refl leads) ∙ may))
last_by_stand before at (Counts counts) leads may = refl
last_by_stand before at (Panel panel memory) leads may = refl

-- Where a block may begin, no round has begun.
pub none_begun : (reads : List ReportLine) (at : Stand) → stand_of reads ≡ Some at → may_begin_block at ≡ true → begun_in reads ≡ []
none_begun [] at stands may = refl
none_begun (read ∷ reads) at stands may =
    let whole = ends_with read reads in
    let by = comes_by stand.Nothing whole.front (whole.last ∷ []) at (ap stand_of (sym whole.is) ∙ stands) in
    ap begun_in whole.is ∙ begun_in_ended whole.front whole.last (last_by_stand by.between at whole.last by.back_leads may)
