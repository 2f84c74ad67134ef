-- The words of a line are read as that line.
use Rattle.std.proofs.Common.{◌≡◌, ◌⊎◌, ℕ, ◌≤◌, ◌==◌, Bool, true, false, cond, [], ◌∷◌, Some, codes, refl, inl, inr, arith}
use Rattle.std.specs.Prelude.{decimal}
use Rattle.std.proofs.lemmas.Bool.{ne_eqb}
use Rattle.tfpg_base.specs.Hypothesis.{Hypothesis}
use Rattle.tfpg_base.specs.declared.limits.TheConstants.{MAX_BUDGET, MAX_DOUBT, MAX_K, MAX_LINE_NUMBER, MAX_PANEL_NUMBER, MAX_TIME}
use Rattle.tfpg_graph.specs.Graph.{Tfpg, name_word}
use Rattle.tfpg_graph.specs.Valid.{IsValid}
use Rattle.tfpg_log.specs.declared.refusal.Refusal.TheVariants.{BadLine, BadNumber, TimeTooLarge, TimeBack, UnknownName, NotMonitored, NotAMode, LogFull, ModesFull}
use Rattle.tfpg_evidence.specs.declared.clause_name.ClauseName.{ClauseName}
use Rattle.tfpg_evidence.specs.declared.clause_name.ClauseName.TheVariants.{OrMay, AndMay, OrMust, AndMust}
use Rattle.tfpg_evidence.specs.declared.reason.Reason.{Reason}
use Rattle.tfpg_evidence.specs.declared.reason.Reason.TheVariants.{Zero, Top, Unreached, From, Upto, Quiet, Pick}
use Rattle.tfpg_log.specs.declared.refused_line.RefusedLine.{RefusedLine}
use Rattle.tfpg_log.specs.declared.refused_line.RefusedLine.TheVariants.{TooLong, Offer}
use Rattle.tfpg_report.specs.declared.report_line.ReportLine.{ReportLine}
use Rattle.tfpg_report.specs.declared.report_line.ReportLine.TheVariants.{Head, OldHead, Refused, Round, Hyp, Split, Cycle, Why, Again, Ranked, At, Open, Rejected, Counts, Panel}
use Rattle.tfpg_report.specs.LineWords.{cause_words, clause_words, reason_words}
use Rattle.tfpg_report.specs.ReportLines.{IsCauseWithin, IsLineWithin, IsNameWithin, IsReasonWithin, Has32Bits, line_words}
use Rattle.tfpg_report.specs.inside.LinesRead.{cause_in, clause_in, loss_in, reason_in, span_and_horizon}
use Rattle.tfpg_report.specs.inside.WordsRead.{plain_words_in}
use Rattle.tfpg_report.proofs.lemmas.reading.FirstWords.{edge_first-reads, node_first-reads, number_first-reads, small_first-reads}

-- a number after another one
until-reads : (span horizon : ℕ) → Has32Bits span → horizon ≤ MAX_TIME → span_and_horizon (decimal span ∷ decimal horizon ∷ []) ≡ Some (span, horizon)
until-reads span horizon small within =
    rw (small_first-reads span (decimal horizon ∷ []) small, number_first-reads MAX_TIME horizon [] (omega arith) within) refl

cause-reads : (cause : RefusedLine) → IsCauseWithin cause → cause_in (cause_words cause) ≡ Some cause
cause-reads TooLong within = refl
cause-reads (Offer BadLine) within = refl
cause-reads (Offer BadNumber) within = refl
cause-reads (Offer TimeTooLarge) within = refl
cause-reads (Offer (TimeBack last)) within = rw (number_first-reads MAX_TIME last [] (omega arith) within) refl
cause-reads (Offer UnknownName) within = refl
cause-reads (Offer NotMonitored) within = refl
cause-reads (Offer NotAMode) within = refl
cause-reads (Offer LogFull) within = refl
cause-reads (Offer ModesFull) within = refl

module _ (graph : Tfpg) (valid : IsValid graph) where
  clause-reads : (name : ClauseName) → IsNameWithin graph name → clause_in graph (clause_words graph name) ≡ Some name
  clause-reads (OrMay node span horizon) within =
      rw (node_first-reads graph valid node (decimal span ∷ decimal horizon ∷ []) within.0, until-reads span horizon within.1 within.2) refl
  clause-reads (AndMay edge span horizon) within =
      rw (edge_first-reads graph valid edge (decimal span ∷ decimal horizon ∷ []) within.0, until-reads span horizon within.1 within.2) refl
  clause-reads (OrMust edge span horizon) within =
      rw (edge_first-reads graph valid edge (decimal span ∷ decimal horizon ∷ []) within.0, until-reads span horizon within.1 within.2) refl
  clause-reads (AndMust node span horizon) within =
      rw (node_first-reads graph valid node (decimal span ∷ decimal horizon ∷ []) within.0, until-reads span horizon within.1 within.2) refl

  pub reason-reads : (why : Reason) → IsReasonWithin graph why → reason_in graph (reason_words graph why) ≡ Some why
  reason-reads (Zero node) within = rw (node_first-reads graph valid node [] within) refl
  reason-reads (Top node) within = rw (node_first-reads graph valid node [] within) refl
  reason-reads (Unreached node horizon) within =
      rw (node_first-reads graph valid node (decimal horizon ∷ []) within.0, number_first-reads MAX_TIME horizon [] (omega arith) within.1) refl
  reason-reads (From event) within = rw (small_first-reads event [] within) refl
  reason-reads (Upto event) within = rw (small_first-reads event [] within) refl
  reason-reads (Quiet event node) within =
      rw (small_first-reads event (name_word graph node ∷ []) within.0, node_first-reads graph valid node [] within.1) refl
  reason-reads (Pick split constraint) within =
      rw (number_first-reads MAX_LINE_NUMBER split (decimal constraint ∷ []) (omega arith) within.0, small_first-reads constraint [] within.1) refl

  -- ---- each line, by what kind it is of

  -- a line that is read without a set
  abbrev pub IsPlain : ReportLine → Type 0
  IsPlain line = plain_words_in graph (line_words graph line) ≡ Some line

  -- the line of a ranked hypothesis
  pub record IsRanked (line : ReportLine) : Type 0 where
    pub number : ℕ
    pub cost : ℕ
    pub alarmed : ℕ
    pub monitored : ℕ
    pub hypothesis : Hypothesis
    pub is : line ≡ Ranked number cost alarmed monitored hypothesis

  -- that of an open one
  pub record IsOpen (line : ReportLine) : Type 0 where
    pub number : ℕ
    pub hypothesis : Hypothesis
    pub is : line ≡ Open number hypothesis

  -- and that of a rejected one
  pub record IsRejected (line : ReportLine) : Type 0 where
    pub number : ℕ
    pub hypothesis : Hypothesis
    pub is : line ≡ Rejected number hypothesis

  -- Each line is of one of these kinds.
  abbrev pub KindOf : ReportLine → Type 0
  KindOf line = IsPlain line ⊎ (IsRanked line ⊎ (IsOpen line ⊎ IsRejected line))

  -- a budget that is there
  some_budget : (budget : ℕ) → 1 ≤ budget → (budget == 0) ≡ false
  some_budget budget some = ne_eqb budget 0 (λ is. omega (arith, some, is))

  -- whether memory ran out for a panel
  loss-reads : (memory : Bool) → loss_in (cond memory (codes "memory") (codes "lost") ∷ []) ≡ Some memory
  loss-reads true = refl
  loss-reads false = refl

  pub kind_of : (line : ReportLine) → IsLineWithin graph line → KindOf line
  kind_of (Head terms) within =
      inl (rw (
        number_first-reads MAX_K terms.k (codes "doubt" ∷ decimal terms.doubt ∷ codes "budget" ∷ decimal terms.budget ∷ []) (omega arith) within.few_members,
        number_first-reads MAX_DOUBT terms.doubt (codes "budget" ∷ decimal terms.budget ∷ []) (omega arith) within.few_doubts,
        number_first-reads MAX_BUDGET terms.budget [] (omega arith) within.few_splits,
        some_budget terms.budget within.some_splits,
      ) refl)
  kind_of (OldHead k budget) within =
      inl (rw (
        number_first-reads MAX_K k (codes "budget" ∷ decimal budget ∷ []) (omega arith) within.few_members,
        number_first-reads MAX_BUDGET budget [] (omega arith) within.few_splits,
        some_budget budget within.some_splits,
      ) refl)
  kind_of (Refused line cause) within = inl (rw (number_first-reads MAX_LINE_NUMBER line (cause_words cause) (omega arith) within.0, cause-reads cause within.1) refl)
  kind_of (Round number line now) within =
      inl (rw (
        small_first-reads number (decimal line ∷ decimal now ∷ []) within.0,
        number_first-reads MAX_LINE_NUMBER line (decimal now ∷ []) (omega arith) within.1,
        number_first-reads MAX_TIME now [] (omega arith) within.2,
      ) refl)
  kind_of (Hyp number) within = inl (rw (small_first-reads number [] within) refl)
  kind_of (Split name) within = inl (rw (clause-reads name within) refl)
  kind_of (Cycle count) within = inl (rw (small_first-reads count [] within) refl)
  kind_of (Why why) within = inl (rw (reason-reads why within) refl)
  kind_of Again within = inl refl
  kind_of (Ranked number cost alarmed monitored hypothesis) within =
      inr (inl (record { number = number; cost = cost; alarmed = alarmed; monitored = monitored; hypothesis = hypothesis; is = refl }))
  kind_of (At activation) within =
      inl (rw (
        node_first-reads graph valid activation.node (decimal activation.time ∷ []) within.0,
        number_first-reads MAX_TIME activation.time [] (omega arith) within.1,
      ) refl)
  kind_of (Open number hypothesis) within = inr (inr (inl (record { number = number; hypothesis = hypothesis; is = refl })))
  kind_of (Rejected number hypothesis) within = inr (inr (inr (record { number = number; hypothesis = hypothesis; is = refl })))
  kind_of (Counts counts) within =
      inl (rw (
        small_first-reads counts.ranked (codes "covered" ∷ decimal counts.covered ∷ codes "rejected" ∷ decimal counts.rejected ∷ codes "open" ∷ decimal counts.unsettled ∷ []) within.0,
        small_first-reads counts.covered (codes "rejected" ∷ decimal counts.rejected ∷ codes "open" ∷ decimal counts.unsettled ∷ []) within.1,
        small_first-reads counts.rejected (codes "open" ∷ decimal counts.unsettled ∷ []) within.2,
        small_first-reads counts.unsettled [] within.3,
      ) refl)
  kind_of (Panel panel memory) within =
      inl (rw (number_first-reads MAX_PANEL_NUMBER panel (cond memory (codes "memory") (codes "lost") ∷ []) (omega arith) within, loss-reads memory) refl)
