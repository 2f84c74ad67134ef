-- Judging a report in memory.
use Rattle.std.proofs.Common.{◌≡◌, ◌⊎◌, ℕ, ◌<◌, ◌≤◌, List, length, Result, Ok, Err, refl, sym, ap, subst, ◌∙◌, inl, inr, ⊎_elim, arith}
use Rattle.std.specs.Prelude.{IfErr, IfOk, IsOkUnless, OnOk}
use Rattle.std.proofs.lemmas.Option.{same_Some}
use Rattle.tfpg_base.specs.declared.terms.Terms.{Terms}
use Rattle.tfpg_base.specs.declared.limits.TheConstants.{LONGEST_FILE, MAX_BYTES}
use Rattle.tfpg_base.specs.Lines.{lines_of}
use Rattle.tfpg_graph.specs.declared.cause.GraphFault.{GraphFault}
use Rattle.tfpg_graph.specs.declared.cause.GraphRefusal.{GraphRefusal}
use Rattle.tfpg_graph.specs.declared.cause.GraphRefusal.TheVariants as refusal
use Rattle.tfpg_graph.specs.Graph.{Tfpg}
use Rattle.tfpg_graph.specs.Valid.{IsValid}
use Rattle.tfpg_graph.specs.Faults.{IsFirstFault, IsRefusalOf}
use Rattle.tfpg_hyp.specs.Hypotheses.{HasHypotheses}
use Rattle.tfpg_report.specs.ReportLines.{Says}
use Rattle.tfpg_report.specs.Reading.{IsHead}
use Rattle.tfpg_check.specs.declared.cause.CheckCause.{CheckCause}
use Rattle.tfpg_check.specs.Causes.{IsCause, DiagnosisProblem}
use Rattle.tfpg_check.proofs.lemmas.FirstLines.{few_hypotheses}
use Rattle.tfpg_check.proofs.lemmas.completeness.EqualBlocks.{one_head}
use Rattle.tfpg_diagnose.specs.declared.texts.fault.CheckTextsFault.{CheckTextsFault}
use Rattle.tfpg_diagnose.specs.declared.texts.fault.CheckTextsFault.TheVariants.{Graph, NotAccepted, TooManyHypotheses, TooMuchInput, NoMemory}
use Rattle.tfpg_diagnose.specs.JudgedReports.{problem_of}
use Rattle.tfpg_diagnose.specs.inside.texts.Faults.{check_texts_fault_of_refusal}
use Rattle.tfpg_diagnose.specs.inside.texts.Judged.{LacksRounds}
use Rattle.tfpg_diagnose.specs.texts.Checks.{AreShort, CanAccept, CanRefuseText, CheckedTexts, HasShortLog, HasTooManyInText, HaveTooManyInFirst, HoldsOfTexts, IsAcceptedText, IsCheckTextsFault, IsRefusedText}
use Rattle.tfpg_diagnose.specs.texts.Opening.{GivesGraphOf}
use Rattle.tfpg_diagnose.proofs.lemmas.JudgedReports.{CheckLaws}
use Rattle.tfpg_diagnose.proofs.lemmas.texts.Opened.{OpenLaws, one_graph}

module _ (texts : CheckedTexts) where
  -- what holds of one graph that the text gives holds of the other
  of_problem : (P : DiagnosisProblem → Type 0) (graph other : Tfpg) → GivesGraphOf texts.graph graph → GivesGraphOf texts.graph other → P (problem_of graph texts.log) → P (problem_of other texts.log)
  of_problem P graph other gives also is = subst (λ (g : Tfpg). P (problem_of g texts.log)) (one_graph texts.graph graph other gives also) is

  -- why there is no graph
  pub judges_no_graph : (why : GraphRefusal) → HasShortLog texts → IsRefusalOf texts.graph why → IsCheckTextsFault texts (check_texts_fault_of_refusal why)
  judges_no_graph (refusal.Fault fault) few is = (few, is)
  judges_no_graph refusal.NoMemory few is = tt

  -- why the lines of a report are not accepted
  lacks_rounds : (graph : Tfpg) → GivesGraphOf texts.graph graph → HasShortLog texts → (fault : CheckTextsFault) → LacksRounds (problem_of graph texts.log) texts.report fault
      → IsCheckTextsFault texts fault
  lacks_rounds graph gives few (Graph fault) is = absurd is
  lacks_rounds graph gives few (NotAccepted line cause) is = (few, record { graph = graph; gives = gives; holds = is })
  lacks_rounds graph gives few (TooManyHypotheses count) is = (few, record { graph = graph; gives = gives; holds = is })
  lacks_rounds graph gives few TooMuchInput is = inr (few, record { graph = graph; gives = gives; holds = is })
  lacks_rounds graph gives few NoMemory is = tt

  pub judges_no_rounds : {T : Type 0} (graph : Tfpg) → GivesGraphOf texts.graph graph → HasShortLog texts → (result : Result T CheckTextsFault)
      → IfErr result (LacksRounds (problem_of graph texts.log) texts.report) → IfErr result (IsCheckTextsFault texts)
  judges_no_rounds graph gives few (Ok rounds) is = tt
  judges_no_rounds graph gives few (Err fault) is = lacks_rounds graph gives few fault is

  -- where they are accepted, all texts are short
  pub judges_short : {T E : Type 0} (result : Result T E) → HasShortLog texts → OnOk result (length texts.report ≤ MAX_BYTES) → OnOk result (AreShort texts)
  judges_short (Ok rounds) few short = record { log = few; report = short }
  judges_short (Err fault) few short = tt

  -- a text of which something holds spells a valid graph, and so has no fault
  no_fault_of : OpenLaws → {P : DiagnosisProblem → List (List ℕ) → Type 0} → HoldsOfTexts texts P → (fault : GraphFault) → IsFirstFault texts.graph fault → ⊥
  no_fault_of opening held fault is = opening.no_fault texts.graph held.graph held.gives.spells held.gives.valid fault is

  -- a log that can be read is not too long, nor is a short report
  not_long : AreShort texts → IsCheckTextsFault texts TooMuchInput → ⊥
  not_long short long = ⊎_elim
      (λ more. let few = short.log in omega (arith, more, few))
      (λ more. let few = short.report in let many : MAX_BYTES < length texts.report = more.1.holds in omega (arith, many, few))
      long

  not_both : HasShortLog texts → LONGEST_FILE < length texts.log → ⊥
  not_both few more = let most : length texts.log ≤ LONGEST_FILE = few in omega (arith, most, more)

  module _ (opening : OpenLaws) (laws : CheckLaws) where
    -- ---- a report that is right

    module _ (rounds : ℕ) (right : IsAcceptedText texts rounds) where
      -- has no cause
      no_cause_of_right : length texts.report ≤ MAX_BYTES → (line : ℕ) (cause : CheckCause) → IsRefusedText texts line cause → ⊥
      no_cause_of_right few line cause is =
          laws.no_cause (problem_of right.graph texts.log) right.holds.terms right.holds.blocks texts.report line cause right.gives.valid right.holds.report few
          (of_problem (λ (m : DiagnosisProblem). IsCause m (lines_of texts.report) line cause) is.graph right.graph is.gives right.gives is.holds)

      -- and not too many hypotheses
      few_of_right : (count : ℕ) → HasTooManyInText texts count → ⊥
      few_of_right count is =
          let many = of_problem (λ (m : DiagnosisProblem). HaveTooManyInFirst m (lines_of texts.report) count) is.graph right.graph is.gives right.gives is.holds in
          let few = few_hypotheses laws.one_line (problem_of right.graph texts.log) right.gives.valid right.holds.terms right.holds.blocks (lines_of texts.report) right.holds.report
          many.first many.at many.head many.says many.terms many.is_head count many.counted in
          let too_many = many.too_many in
          omega (arith, few, too_many)

    -- where nothing stands in its way, the only fault is that memory ran out
    no_fault_of_right : CanAccept texts → (fault : CheckTextsFault) → IsCheckTextsFault texts fault → fault ≡ NoMemory
    no_fault_of_right can (Graph fault) is = absurd (no_fault_of opening can.accepted fault is.1)
    no_fault_of_right can (NotAccepted line cause) is = absurd (no_cause_of_right can.rounds can.accepted can.short.report line cause is.1)
    no_fault_of_right can (TooManyHypotheses count) is = absurd (few_of_right can.rounds can.accepted count is.1)
    no_fault_of_right can TooMuchInput is = absurd (not_long can.short is)
    no_fault_of_right can NoMemory is = refl

    -- so it is accepted, or memory runs out
    pub accepts_right : (result : Result ℕ CheckTextsFault) → CanAccept texts → IfErr result (IsCheckTextsFault texts) → IsOkUnless result NoMemory
    accepts_right (Ok rounds) can is = tt
    accepts_right (Err fault) can is = no_fault_of_right can fault is

    -- ---- a report that is not

    -- if its first line gives too many hypotheses, it has no cause
    no_cause_of_many : (count line : ℕ) (cause : CheckCause) → HasTooManyInText texts count → IsRefusedText texts line cause → ⊥
    no_cause_of_many count line cause many is =
        let held = many.holds in
        laws.too_many (problem_of many.graph texts.log) (lines_of texts.report) held.first held.head held.terms count line cause many.gives.valid held.at held.says held.is_head held.counted held.too_many
        (of_problem (λ (m : DiagnosisProblem). IsCause m (lines_of texts.report) line cause) is.graph many.graph is.gives many.gives is.holds)

    -- it gives one number of them
    one_in_first : (problem : DiagnosisProblem) (lines : List (List ℕ)) → IsValid problem.graph → (count most : ℕ) → HaveTooManyInFirst problem lines count → HaveTooManyInFirst problem lines most → count ≡ most
    one_in_first problem lines valid count most many also =
        let first : many.first ≡ also.first = same_Some many.first also.first (sym many.at ∙ also.at) in
        let head : many.head ≡ also.head = laws.one_line problem.graph many.head also.head also.first valid (subst (Says problem.graph many.head) first many.says) also.says in
        let terms : many.terms ≡ also.terms = one_head many.terms also.terms also.head (subst (IsHead many.terms) head many.is_head) also.is_head in
        opening.one_count problem.graph also.terms count most (subst (λ (t : Terms). HasHypotheses problem.graph t count) terms many.counted) also.counted

    one_many : (count most : ℕ) → HasTooManyInText texts count → HasTooManyInText texts most → count ≡ most
    one_many count most many also =
        one_in_first (problem_of also.graph texts.log) (lines_of texts.report) also.gives.valid count most
        (of_problem (λ (m : DiagnosisProblem). HaveTooManyInFirst m (lines_of texts.report) count) many.graph also.graph many.gives also.gives many.holds) also.holds

    -- it has one cause
    one_cause_of : (line at : ℕ) (cause why : CheckCause) → IsRefusedText texts line cause → IsRefusedText texts at why → NotAccepted line cause ≡ NotAccepted at why
    one_cause_of line at cause why is also =
        let one = laws.one_cause (problem_of also.graph texts.log) (lines_of texts.report) line at cause why also.gives.valid
        (of_problem (λ (m : DiagnosisProblem). IsCause m (lines_of texts.report) line cause) is.graph also.graph is.gives also.gives is.holds) also.holds in
        λ i. NotAccepted (one.0 i) (one.1 i)

    -- a report for which a fault can be found is not accepted
    not_accepted : (rounds : ℕ) → IsAcceptedText texts rounds → AreShort texts → (fault : CheckTextsFault) → CanRefuseText texts fault → ⊥
    not_accepted rounds right short (Graph fault) can = no_fault_of opening right fault can.1
    not_accepted rounds right short (NotAccepted line cause) can = no_cause_of_right rounds right short.report line cause can.1
    not_accepted rounds right short (TooManyHypotheses count) can = few_of_right rounds right count can.1
    not_accepted rounds right short TooMuchInput can = not_both short.log can
    not_accepted rounds right short NoMemory can = can

    -- and has no other fault, but that memory ran out
    refused_for : (fault why : CheckTextsFault) → CanRefuseText texts fault → IsCheckTextsFault texts why → (why ≡ fault) ⊎ (why ≡ NoMemory)
    refused_for fault NoMemory can is = inr refl
    refused_for NoMemory why can is = absurd can
    refused_for (Graph first) (Graph found) can is = inl (ap Graph (opening.one_fault texts.graph found first is.1 can.1))
    refused_for (Graph first) (NotAccepted at why) can is = absurd (no_fault_of opening is.1 first can.1)
    refused_for (Graph first) (TooManyHypotheses count) can is = absurd (no_fault_of opening is.1 first can.1)
    refused_for (Graph first) TooMuchInput can is = absurd (⊎_elim (λ more. not_both can.0 more) (λ long. no_fault_of opening long.1 first can.1) is)
    refused_for (NotAccepted line cause) (Graph found) can is = absurd (no_fault_of opening can.1 found is.1)
    refused_for (NotAccepted line cause) (NotAccepted at why) can is = inl (one_cause_of at line why cause is.1 can.1)
    refused_for (NotAccepted line cause) (TooManyHypotheses count) can is = absurd (no_cause_of_many count line cause is.1 can.1)
    refused_for (NotAccepted line cause) TooMuchInput can is = absurd (not_long can.0 is)
    refused_for (TooManyHypotheses most) (Graph found) can is = absurd (no_fault_of opening can.1 found is.1)
    refused_for (TooManyHypotheses most) (NotAccepted at why) can is = absurd (no_cause_of_many most at why can.1 is.1)
    refused_for (TooManyHypotheses most) (TooManyHypotheses count) can is = inl (ap TooManyHypotheses (one_many count most is.1 can.1))
    refused_for (TooManyHypotheses most) TooMuchInput can is = absurd (not_long can.0 is)
    refused_for TooMuchInput (Graph found) can is = absurd (not_both is.0 can)
    refused_for TooMuchInput (NotAccepted at why) can is = absurd (not_both is.0 can)
    refused_for TooMuchInput (TooManyHypotheses count) can is = absurd (not_both is.0 can)
    refused_for TooMuchInput TooMuchInput can is = inl refl

    -- so it is refused for that, or memory runs out
    pub refuses_text : (result : Result ℕ CheckTextsFault) → IfOk result (IsAcceptedText texts) → OnOk result (AreShort texts) → IfErr result (IsCheckTextsFault texts)
        → (fault : CheckTextsFault) → CanRefuseText texts fault → (result ≡ Err fault) ⊎ (result ≡ Err NoMemory)
    refuses_text (Ok rounds) right short is fault can = absurd (not_accepted rounds right short fault can)
    refuses_text (Err why) right short is fault can = ⊎_elim (λ same. inl (ap Err same)) (λ none. inr (ap Err none)) (refused_for fault why can is)
