-- The report of a log in memory.
use Rattle.std.proofs.Common.{◌≡◌, ◌⊎◌, ℕ, ◌+◌, ◌-◌, ◌≤◌, ◌^◌, Contains, List, [], ◌∷◌, ◌++◌, length, Option, Some, IfSome, Result, Ok, Err, refl, sym, ap, subst, subst₂, ◌∙◌, inl, inr, ⊎_elim, arith}
use Rattle.std.specs.Prelude.{flat_map, IfErr, IsOkUnless, OnOk}
use Rattle.std.proofs.lemmas.List.{length-append}
use Rattle.std.proofs.lemmas.List.Elements.{All-head}
use Rattle.std.proofs.lemmas.Option.{same_Some}
use Rattle.tfpg_base.specs.declared.terms.Terms.{Terms}
use Rattle.tfpg_base.specs.declared.limits.TheConstants.{MAX_BYTES}
use Rattle.tfpg_base.specs.Lines.{lines_of}
use Rattle.tfpg_base.specs.Outside.{Rose, Takes}
use Rattle.tfpg_base.proofs.lemmas.lists.Elements.{Contains-nil}
use Rattle.tfpg_graph.specs.Graph.{Tfpg}
use Rattle.tfpg_evidence.specs.declared.round.Round.{Round}
use Rattle.tfpg_panel.specs.declared.lost_panel.LostPanel.{LostPanel}
use Rattle.tfpg_panel.specs.Desk.{DeskState, new_desk}
use Rattle.tfpg_panel.specs.ToldRounds.{HasTold}
use Rattle.tfpg_check.specs.Report.{IsReport, rounds_of}
use Rattle.tfpg_streams.specs.declared.fault.StreamFault.{StreamFault}
use Rattle.tfpg_streams.specs.declared.fault.StreamFault.TheVariants as streams
use Rattle.tfpg_diagnose.specs.declared.texts.fault.OpenFault.{OpenFault}
use Rattle.tfpg_diagnose.specs.declared.texts.fault.OpenFault.TheVariants as opening
use Rattle.tfpg_diagnose.specs.declared.texts.fault.ReportFault.{ReportFault}
use Rattle.tfpg_diagnose.specs.declared.texts.fault.ReportFault.TheVariants.{OutOfRange, Graph, TooManyHypotheses, TooMuchInput, NoMemory}
use Rattle.tfpg_diagnose.specs.Watched.{Watched}
use Rattle.tfpg_diagnose.specs.Diagnosing.{Diagnoses}
use Rattle.tfpg_diagnose.specs.RightReport.{RoundsSay}
use Rattle.tfpg_diagnose.specs.TellsPanels.{losses_in}
use Rattle.tfpg_diagnose.specs.texts.Opening.{CanOpen, IsOpenFault}
use Rattle.tfpg_diagnose.specs.texts.Reports.{CanReport, IsPlainReport, IsReportFault}
use Rattle.tfpg_diagnose.specs.inside.texts.Faults.{IsWritingFault, report_fault_of_open, report_fault_of_stream}
use Rattle.tfpg_streams.proofs.lemmas.InputLines.{all_taken}
use Rattle.tfpg_diagnose.proofs.lemmas.texts.Opened.{OpenLaws, no_fault_of_many, not_too_many, one_number}

-- a desk without panels loses none
pub none_lost : (rounds : List Round) (lost : List LostPanel) (now : DeskState) → HasTold rounds lost (new_desk []) now → lost ≡ []
none_lost rounds [] now told = refl
none_lost rounds (loss ∷ others) now told = absurd (Contains-nil loss.panel (All-head (λ (one : LostPanel). Contains (new_desk []).kept one.panel) loss others told.of_kept))

-- a count that stands at 0 did not rise
pub never_rose : Rose 0 0 → ⊥
never_rose rose = ⊎_elim (λ less. omega (arith, less)) (λ greatest. let top : 0 ≡ 2 ^ 64 - 1 = greatest.0 in omega (arith, top)) rose

module _ (graph : Tfpg) (terms : Terms) (log : List ℕ) (before now : Watched) (left : before.input.left ≡ Some log) where
  -- what was taken is no more than the log
  taken_of_log : (taken : List ℕ) → Takes before.input now.input taken → length taken ≤ length log
  taken_of_log taken takes =
      let there = subst (λ (had : Option (List ℕ)). IfSome had (λ all. (rest : List ℕ) × (now.input.left ≡ Some rest) × (all ≡ taken ++ rest))) left takes in
      let same : length log ≡ length (taken ++ there.0) = ap length there.2 in
      omega (arith, same, length-append taken there.0)

  -- where its report was written, the log is not too long
  pub wrote_few : Diagnoses graph terms before now (Ok tt) → length log ≤ MAX_BYTES
  wrote_few is =
      let all : log ≡ is.taken = all_taken before.input now.input log is.taken left is.takes is.ends.at_end in
      subst (λ (text : List ℕ). length text ≤ MAX_BYTES) (sym all) is.ends.few

  -- where it was not, memory ran out, or the log is too long: no read fails in memory
  pub wrote_none : (Rose before.input.faults now.input.faults → ⊥) → (fault : StreamFault) → Diagnoses graph terms before now (Err fault)
      → IsWritingFault log (report_fault_of_stream fault)
  wrote_none calm streams.ReadFault is = absurd (calm is.ends.0.0)
  wrote_none calm streams.WriteFault is = inl refl
  wrote_none calm streams.TooMuchInput is =
      let more : length is.taken ≡ MAX_BYTES + 1 = is.ends.0.0 in
      let most = taken_of_log is.taken is.takes in
      inr (refl, omega (arith, more, most))
  wrote_none calm streams.NoMemory is = inl refl

  -- where the whole log was read, its report was written
  pub wrote_report : before.output.holds ≡ Some [] → before.desk ≡ new_desk [] → (holds : List ℕ) → now.output.holds ≡ Some holds → Diagnoses graph terms before now (Ok tt)
      → IsPlainReport graph terms (lines_of log) holds
  wrote_report empty no_panel holds held is =
      let all : log ≡ is.taken = all_taken before.input now.input log is.taken left is.takes is.ends.at_end in
      let put : now.output.holds ≡ Some is.written = subst (λ (had : Option (List ℕ)). IfSome had (λ held. now.output.holds ≡ Some (held ++ is.written))) empty is.writes in
      let same : is.written ≡ holds = same_Some is.written holds (sym put ∙ held) in
      let right = is.ends.right in
      record {
        blocks = right.blocks;
        report = subst₂ (λ (text bytes : List ℕ). IsReport graph terms (lines_of text) right.blocks bytes) (sym all) same right.report;
        say = subst (λ (text : List ℕ). RoundsSay graph terms (lines_of text) right.blocks) (sym all) right.say;
        no_losses = none_lost (flat_map rounds_of right.blocks) (flat_map losses_in right.blocks) now.desk (subst (λ (desk : DeskState). HasTold (flat_map rounds_of right.blocks) (flat_map losses_in right.blocks) desk now.desk) no_panel right.tells);
      }

-- ---- which fault there is

-- why there is no diagnosis is why there is no report
pub reports_no_diagnosis : (graph_text : List ℕ) (terms : Terms) (log_text : List ℕ) (fault : OpenFault) → IsOpenFault graph_text terms fault
    → IsReportFault graph_text terms log_text (report_fault_of_open fault)
reports_no_diagnosis graph_text terms log_text opening.OutOfRange is = is
reports_no_diagnosis graph_text terms log_text (opening.Graph fault) is = is
reports_no_diagnosis graph_text terms log_text (opening.TooManyHypotheses count) is = is
reports_no_diagnosis graph_text terms log_text opening.NoMemory is = tt

-- so is why it was not written
pub reports_no_writing : (graph_text : List ℕ) (terms : Terms) (log_text : List ℕ) (fault : ReportFault) → CanOpen graph_text terms → IsWritingFault log_text fault
    → IsReportFault graph_text terms log_text fault
reports_no_writing graph_text terms log_text fault can (inl none) = subst (IsReportFault graph_text terms log_text) (sym none) tt
reports_no_writing graph_text terms log_text fault can (inr long) = subst (IsReportFault graph_text terms log_text) (sym long.0) (can, long.1)

-- at the end of the call
pub reports_can : {T E : Type 0} (graph_text : List ℕ) (terms : Terms) (log_text : List ℕ) (result : Result T E) → CanOpen graph_text terms
    → OnOk result (length log_text ≤ MAX_BYTES) → OnOk result (CanReport graph_text terms log_text)
reports_can graph_text terms log_text (Ok report) can few = record { opens = can; few = few }
reports_can graph_text terms log_text (Err fault) can few = tt

pub no_report_by : {T : Type 0} (graph_text : List ℕ) (terms : Terms) (log_text : List ℕ) (result : Result T ReportFault) → CanOpen graph_text terms
    → IfErr result (IsWritingFault log_text) → IfErr result (IsReportFault graph_text terms log_text)
no_report_by graph_text terms log_text (Ok report) can is = tt
no_report_by graph_text terms log_text (Err fault) can is = reports_no_writing graph_text terms log_text fault can is

module _ (laws : OpenLaws) (graph_text : List ℕ) (terms : Terms) (log_text : List ℕ) where
  -- where nothing stands in the way, the only fault is that memory ran out
  only_memory : CanReport graph_text terms log_text → (fault : ReportFault) → IsReportFault graph_text terms log_text fault → fault ≡ NoMemory
  only_memory can OutOfRange is = absurd (is can.opens.within)
  only_memory can (Graph fault) is = absurd (laws.no_fault graph_text can.opens.graph can.opens.gives.spells can.opens.gives.valid fault is.1)
  only_memory can (TooManyHypotheses count) is = absurd (not_too_many laws graph_text terms can.opens count is.1)
  only_memory can TooMuchInput is = let few = can.few in let more = is.1 in absurd (omega (arith, more, few))
  only_memory can NoMemory is = refl

  -- beside a fault that is not of memory there is no other but one of memory
  one_report_fault : (fault other : ReportFault) → (fault ≡ NoMemory → ⊥) → IsReportFault graph_text terms log_text fault → IsReportFault graph_text terms log_text other
      → (other ≡ fault) ⊎ (other ≡ NoMemory)
  one_report_fault fault NoMemory real is also = inr refl
  one_report_fault NoMemory other real is also = absurd (real refl)
  one_report_fault OutOfRange OutOfRange real is also = inl refl
  one_report_fault OutOfRange (Graph found) real is also = absurd (is also.0)
  one_report_fault OutOfRange (TooManyHypotheses count) real is also = absurd (is also.0)
  one_report_fault OutOfRange TooMuchInput real is also = absurd (is also.0.within)
  one_report_fault (Graph first) OutOfRange real is also = absurd (also is.0)
  one_report_fault (Graph first) (Graph found) real is also = inl (ap Graph (laws.one_fault graph_text found first also.1 is.1))
  one_report_fault (Graph first) (TooManyHypotheses count) real is also = absurd (no_fault_of_many laws graph_text terms first count is.1 also.1)
  one_report_fault (Graph first) TooMuchInput real is also = absurd (laws.no_fault graph_text also.0.graph also.0.gives.spells also.0.gives.valid first is.1)
  one_report_fault (TooManyHypotheses most) OutOfRange real is also = absurd (also is.0)
  one_report_fault (TooManyHypotheses most) (Graph found) real is also = absurd (no_fault_of_many laws graph_text terms found most also.1 is.1)
  one_report_fault (TooManyHypotheses most) (TooManyHypotheses count) real is also = inl (ap TooManyHypotheses (one_number laws graph_text terms count most also.1 is.1))
  one_report_fault (TooManyHypotheses most) TooMuchInput real is also = absurd (not_too_many laws graph_text terms also.0 most is.1)
  one_report_fault TooMuchInput OutOfRange real is also = absurd (also is.0.within)
  one_report_fault TooMuchInput (Graph found) real is also = absurd (laws.no_fault graph_text is.0.graph is.0.gives.spells is.0.gives.valid found also.1)
  one_report_fault TooMuchInput (TooManyHypotheses count) real is also = absurd (not_too_many laws graph_text terms is.0 count also.1)
  one_report_fault TooMuchInput TooMuchInput real is also = inl refl

  -- where nothing stands in the way, there is a report, or memory ran out
  pub report_or_no_memory : {T : Type 0} (result : Result T ReportFault) → IfErr result (IsReportFault graph_text terms log_text) → CanReport graph_text terms log_text
      → IsOkUnless result NoMemory
  report_or_no_memory (Ok report) is can = tt
  report_or_no_memory (Err fault) is can = only_memory can fault is

  -- where a fault stands in the way, it is the fault, or memory ran out
  pub refuses_to_report : {T : Type 0} (result : Result T ReportFault) → OnOk result (CanReport graph_text terms log_text) → IfErr result (IsReportFault graph_text terms log_text)
      → (fault : ReportFault) → (fault ≡ NoMemory → ⊥) → IsReportFault graph_text terms log_text fault → (result ≡ Err fault) ⊎ (result ≡ Err NoMemory)
  refuses_to_report (Ok report) can is fault real stands = absurd (real (only_memory can fault stands))
  refuses_to_report (Err why) can is fault real stands =
      ⊎_elim (λ same. inl (ap Err same)) (λ none. inr (ap Err none)) (one_report_fault fault why real stands is)
