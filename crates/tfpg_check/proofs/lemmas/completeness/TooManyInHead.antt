-- Lines whose first one gives too many hypotheses have no cause: they are not judged.
use Rattle.std.proofs.Common.{◌≡◌, ◌⊎◌, ℕ, ◌<◌, ◌≤◌, List, [], ◌∷◌, ◌++◌, length, Some, None, slice_get, inl, inr, refl, sym, ap, subst, ◌∙◌, arith}
use Rattle.std.proofs.lemmas.Option.{none-some, same_Some}
use Rattle.tfpg_base.specs.declared.terms.Terms.{Terms}
use Rattle.tfpg_graph.specs.Valid.{IsValid}
use Rattle.tfpg_hyp.specs.Hypotheses.{HasHypotheses}
use Rattle.tfpg_hyp.specs.declared.limits.TheConstants.{MAX_HYPOTHESES}
use Rattle.tfpg_report.specs.declared.report_line.ReportLine.{ReportLine}
use Rattle.tfpg_report.specs.declared.stand.Stand.{Stand}
use Rattle.tfpg_report.specs.declared.stand.Stand.TheVariants.{Block}
use Rattle.tfpg_report.specs.ReportLines.{Says}
use Rattle.tfpg_report.specs.Reading.{IsHead}
use Rattle.tfpg_report.specs.Stands.{stand_of}
use Rattle.tfpg_check.specs.declared.cause.CheckCause.{CheckCause}
use Rattle.tfpg_check.specs.Causes.{AreRight, EndFails, IsCause, LineFails, DiagnosisProblem}
use Rattle.tfpg_check.specs.RightReports.{LinesOfTooManyHaveNoCause}
use Rattle.tfpg_check.proofs.lemmas.FirstLines.{OneLine}
use Rattle.tfpg_check.proofs.lemmas.completeness.EqualBlocks.{one_head}

-- a first line may come first
head_comes : (terms : Terms) (head : ReportLine) → IsHead terms head → (stand : Stand) × (stand_of (head ∷ []) ≡ Some stand)
head_comes terms head (inl new) = subst (λ (line : ReportLine). (stand : Stand) × (stand_of (line ∷ []) ≡ Some stand)) (sym new) (Block, refl)
head_comes terms head (inr old) = subst (λ (line : ReportLine). (stand : Stand) × (stand_of (line ∷ []) ≡ Some stand)) (sym old.1) (Block, refl)

no_item : (reads : List ReportLine) → length reads ≡ 0 → reads ≡ []
no_item [] none = refl
no_item (read ∷ reads) none = absurd (omega (arith, none))

module _ (one_line : OneLine) (problem : DiagnosisProblem) (lines : List (List ℕ)) (first : List ℕ) (head : ReportLine) (terms : Terms) (count at : ℕ) (why : CheckCause) (valid : IsValid problem.graph)
    (first_is : slice_get lines 0 ≡ Some first) (says : Says problem.graph head first) (is_head : IsHead terms head) (counted : HasHypotheses problem.graph terms count) (too_many : MAX_HYPOTHESES < count)
    (cause : IsCause problem lines at why) where
  -- no line is right where it is the first
  none_right : (bytes : List ℕ) (before : List (List ℕ)) → cause.before ≡ bytes ∷ before → first ≡ bytes → ⊥
  none_right bytes before is same = by cause.right
    where
      by : AreRight problem cause.reads → ⊥
      by (inl none) =
          let each = cause.are_read.one_each in
          let long : length cause.before ≡ length (bytes ∷ before) = ap length is in
          let empty : length cause.reads ≡ 0 = ap length none in
          omega (arith, each, long, empty)
      by (inr right) =
          let own = right.2 in
          let read : Says problem.graph own.head bytes =
          cause.are_read.each 0 bytes own.head (ap (λ (ls : List (List ℕ)). slice_get ls 0) is) (ap (λ (rs : List ReportLine). slice_get rs 0) own.lines_are) in
          let heads : own.head ≡ head = one_line problem.graph own.head head bytes valid read (subst (Says problem.graph head) same says) in
          let same_terms : right.0 ≡ terms = one_head right.0 terms head (subst (IsHead right.0) heads own.is_head) is_head in
          let few : count ≤ MAX_HYPOTHESES = own.has_reports.few_hypotheses count (subst (λ (t : Terms). HasHypotheses problem.graph t count) (sym same_terms) counted) in
          omega (arith, few, too_many)

  -- nor is a line wrong there
  none_wrong : (bytes : List ℕ) → first ≡ bytes → cause.reads ≡ [] → LineFails problem cause.reads bytes at why → ⊥
  none_wrong bytes same none (inl bad) =
      let comes = head_comes terms head is_head in
      bad.2 head (record {
        says = subst (Says problem.graph head) same says;
        stand = comes.0;
        stands = ap (λ (rs : List ReportLine). stand_of (rs ++ head ∷ [])) none ∙ comes.1;
      })
  none_wrong bytes same none (inr fails) =
      let lines_are : [] ≡ fails.4.head ∷ _ = sym none ∙ fails.4.lines_are in
      absurd cc

  pub no_cause_of_too_many : ⊥
  no_cause_of_too_many = by cause.before refl cause.fails
    where
      by : (before : List (List ℕ)) → cause.before ≡ before
          → ((bytes : List ℕ) × (more : List (List ℕ)) × (lines ≡ cause.before ++ bytes ∷ more) × LineFails problem cause.reads bytes at why)
          ⊎ ((lines ≡ cause.before) × EndFails problem cause.reads at why) → ⊥
      by [] is (inl fails) =
          let each = cause.are_read.one_each in
          let long : length cause.before ≡ 0 = ap length is in
          let whole : lines ≡ fails.0 ∷ fails.1 = fails.2 ∙ ap (λ (ls : List (List ℕ)). ls ++ fails.0 ∷ fails.1) is in
          let same : first ≡ fails.0 = same_Some first fails.0 (sym first_is ∙ ap (λ (ls : List (List ℕ)). slice_get ls 0) whole) in
          none_wrong fails.0 same (no_item cause.reads (omega (arith, each, long))) fails.3
      by [] is (inr ends) =
          let none : slice_get lines 0 ≡ None = ap (λ (ls : List (List ℕ)). slice_get ls 0) (ends.0 ∙ is) in
          absurd (none-some first (sym none ∙ first_is))
      by (bytes ∷ before) is (inl fails) =
          none_right bytes before is
          (same_Some first bytes (sym first_is ∙ ap (λ (ls : List (List ℕ)). slice_get ls 0) (fails.2 ∙ ap (λ (ls : List (List ℕ)). ls ++ fails.0 ∷ fails.1) is)))
      by (bytes ∷ before) is (inr ends) = none_right bytes before is (same_Some first bytes (sym first_is ∙ ap (λ (ls : List (List ℕ)). slice_get ls 0) (ends.0 ∙ is)))

-- Lines have no cause where the first of them gives too many hypotheses.
pub lines_of_too_many_have_no_cause : OneLine → LinesOfTooManyHaveNoCause
lines_of_too_many_have_no_cause one_line problem lines first head terms count at why valid first_is says is_head counted too_many cause =
    no_cause_of_too_many one_line problem lines first head terms count at why valid first_is says is_head counted too_many cause
