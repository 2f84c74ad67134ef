-- What the judge does with a line, step by step.
use Rattle.std.proofs.Common.{◌≡◌, ℕ, ◌+◌, List, length, Result, Err, inl, inr, refl, sym, ap, subst, ◌∙◌}
use Rattle.tfpg_graph.specs.Graph.{Tfpg}
use Rattle.tfpg_report.specs.declared.fed.Fed.{Fed}
use Rattle.tfpg_report.specs.declared.fed.ReadRefusal.{ReadRefusal}
use Rattle.tfpg_report.specs.declared.fed.ReadRefusal.TheVariants.{BadReport, NoMemory}
use Rattle.tfpg_report.specs.declared.report_line.ReportLine.{ReportLine}
use Rattle.tfpg_report.specs.Represents.{ReaderState, TakesReportLine, NoneMayCome}
use Rattle.tfpg_check.specs.declared.judge_fault.JudgeFault.{JudgeFault}
use Rattle.tfpg_check.specs.JudgeState.{BlocksState}
use Rattle.tfpg_check.specs.inside.Faults.{fault_of_refusal}
use Rattle.tfpg_check.specs.inside.BlockSteps.{IsFedJudged}
use Rattle.tfpg_check.specs.inside.LineSteps.{IsLineJudged, IsNotRead}

-- a line that the reader refuses is not read
not_read : (graph : Tfpg) (reads : List ReportLine) (bytes : List ℕ) (number : ℕ) (refusal : ReadRefusal) → number ≡ length reads + 1
    → ((at : ℕ) → refusal ≡ BadReport at → (at ≡ number) × NoneMayCome graph reads bytes) → IsNotRead graph reads bytes (Err (fault_of_refusal refusal))
not_read graph reads bytes number (BadReport at) numbered bad = ((bad at refl).0 ∙ numbered, refl, (bad at refl).1)
not_read graph reads bytes number NoMemory numbered bad = tt

-- A line that the reader refuses is not read, as the fault says.
pub not_read_so : (reads : List ReportLine) (bytes : List ℕ) (graph : Tfpg) (number : ℕ) (reader : ReaderState) (old new : BlocksState) (refusal : ReadRefusal) (fault : JudgeFault)
    (result : Result (Unit {0}) JudgeFault) → graph ≡ old.graph → number ≡ length reads + 1 → ((at : ℕ) → refusal ≡ BadReport at → (at ≡ number) × NoneMayCome graph reads bytes)
    → result ≡ Err fault → fault ≡ fault_of_refusal refusal → IsLineJudged reads bytes reader old new result
not_read_so reads bytes graph number reader old new refusal fault result same numbered bad fails is =
    inl (subst (IsNotRead old.graph reads bytes) (sym (fails ∙ ap Err is)) (subst (λ (g : Tfpg). IsNotRead g reads bytes (Err (fault_of_refusal refusal))) same
    (not_read graph reads bytes number refusal numbered bad)))

-- What another line completes is judged.
pub judged_after : (reads : List ReportLine) (bytes : List ℕ) (graph : Tfpg) (number : ℕ) (reader : ReaderState) (old new : BlocksState) (fed : Fed) (result : Result (Unit {0}) JudgeFault)
    → graph ≡ old.graph → number ≡ length reads + 1 → TakesReportLine graph reads bytes reader fed → IsFedJudged number fed old new result → IsLineJudged reads bytes reader old new result
judged_after reads bytes graph number reader old new fed result same numbered takes judged =
    inr (fed, subst (λ (g : Tfpg). TakesReportLine g reads bytes reader fed) same takes, subst (λ (n : ℕ). IsFedJudged n fed old new result) numbered judged)
