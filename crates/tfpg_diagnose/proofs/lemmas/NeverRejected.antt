-- No round of a diagnosis rejects a set that fits the whole log, as a simulated set fits its log.
use Rattle.std.proofs.Common.{◌≡◌, ℕ, ◌+◌, false, List, [], ◌∷◌, ◌++◌, take, drop, fold, Contains, Some, refl, sym, ap, subst, ◌∙◌, append_assoc}
use Rattle.std.specs.Prelude.{slice_get, flat_map}
use Rattle.std.proofs.lemmas.Bool.{cond_both}
use Rattle.std.proofs.lemmas.List.{append-nil, take-append-drop}
use Rattle.std.proofs.lemmas.List.Sums.{fold-append}
use Rattle.std.proofs.lemmas.Option.{slice_get-get_or}
use Rattle.tfpg_base.specs.declared.terms.Terms.{Terms}
use Rattle.tfpg_base.specs.Hypothesis.{Hypothesis, believing}
use Rattle.tfpg_base.specs.Lines.{is_too_long}
use Rattle.tfpg_graph.specs.Graph.{Tfpg}
use Rattle.tfpg_graph.specs.Reach.{IsReach}
use Rattle.tfpg_graph.specs.Valid.{IsValid}
use Rattle.tfpg_log.specs.declared.event.Event.{Event}
use Rattle.tfpg_log.specs.declared.event.Offered.{Offered}
use Rattle.tfpg_log.specs.declared.event.Offered.TheVariants.{Accepted, Refused}
use Rattle.tfpg_log.specs.Log.{Logbook, GoesOn, IsLogOf, IsOrdered, ignoring}
use Rattle.tfpg_log.specs.Accepted.{reply_to}
use Rattle.tfpg_log.specs.LogOfLines.{log_after_reply, log_after, log_of_lines, new_log}
use Rattle.tfpg_log.specs.Explains.{Fits}
use Rattle.tfpg_log.proofs.lemmas.logs_of_lines.LogsOfLines.{of-log_of_lines, ordered-log_of_lines}
use Rattle.tfpg_evidence.specs.declared.finding.Finding.{Finding}
use Rattle.tfpg_evidence.specs.declared.finding.Status.{Status}
use Rattle.tfpg_evidence.specs.declared.finding.Status.TheVariants.{Ranked, Covered, Rejected, Open}
use Rattle.tfpg_evidence.specs.declared.round.Round.{Round}
use Rattle.tfpg_evidence.specs.Findings.{hypothesis_of}
use Rattle.tfpg_evidence.specs.RoundOf.{is_rejected}
use Rattle.tfpg_clause.specs.Case.{Case, case_of}
use Rattle.tfpg_clause.specs.Trees.{Judged, IsRefutation}
use Rattle.tfpg_hyp.specs.Rounds.{IsRound, HasEvidence, steps_so_far}
use Rattle.tfpg_hyp.specs.Views.{case_for}
use Rattle.tfpg_hyp.proofs.lemmas.FindingsOfRound.{HasFindingAt, evidence}
use Rattle.tfpg_report.specs.Blocks.{Block, Loss, RoundBlock}
use Rattle.tfpg_check.specs.Report.{AreBlocks, rounds_of}
use Rattle.tfpg_check.proofs.lemmas.RoundsOfReports.{round_there}

-- That a refutation leaves no trace is a law of facts, clauses and trees.
abbrev LeavesNoTrace : Type 0
LeavesNoTrace =
    (graph : Tfpg) (earlier log : Logbook) (set reach : List ℕ) (steps : List Judged) → IsValid graph → IsLogOf graph log → IsOrdered log → IsReach graph set reach
    → GoesOn earlier log → IsRefutation (case_of graph earlier reach) steps → Fits graph log set → ⊥

-- ---- logs that go on

-- a log goes on from itself
GoesOn-refl : (log : Logbook) → GoesOn log log
GoesOn-refl log = record { more = []; events = sym (append-nil log.events); ignored = refl }

-- what goes on from a log that goes on goes on from the first
GoesOn-through : (one middle other : Logbook) → GoesOn one middle → GoesOn middle other → GoesOn one other
GoesOn-through one middle other first second = record {
  more = first.more ++ second.more;
  events = second.events ∙ ap (λ (held : List Event). held ++ second.more) first.events ∙ append_assoc one.events first.more second.more;
  ignored = second.ignored ∙ first.ignored;
}

-- so does what a reply makes of it
GoesOn-reply : (log : Logbook) (reply : Offered) → GoesOn log (log_after_reply log reply)
GoesOn-reply log (Accepted event) = record { more = event ∷ []; events = refl; ignored = refl }
GoesOn-reply log (Refused refusal) = GoesOn-refl log

module _ (graph : Tfpg) where
  -- one line more
  GoesOn-line : (log : Logbook) (line : List ℕ) → GoesOn log (log_after graph log line)
  GoesOn-line log line =
      cond_both (is_too_long line) log (log_after_reply log (reply_to graph log line)) (GoesOn log)
      (λ _. GoesOn-refl log) (λ _. GoesOn-reply log (reply_to graph log line))

  -- some lines more
  GoesOn-lines : (log : Logbook) (lines : List (List ℕ)) → GoesOn log (fold (log_after graph) log lines)
  GoesOn-lines log [] = GoesOn-refl log
  GoesOn-lines log (line ∷ lines) =
      GoesOn-through log (log_after graph log line) (fold (log_after graph) (log_after graph log line) lines)
      (GoesOn-line log line) (GoesOn-lines (log_after graph log line) lines)

  -- the log of all lines goes on from that of the first
  pub GoesOn-first : (lines : List (List ℕ)) (count : ℕ) → GoesOn (log_of_lines graph (take count lines)) (log_of_lines graph lines)
  GoesOn-first lines count =
      subst (GoesOn (log_of_lines graph (take count lines)))
      (sym (fold-append (log_after graph) new_log (take count lines) (drop count lines)) ∙ ap (log_of_lines graph) (take-append-drop count lines))
      (GoesOn-lines (log_of_lines graph (take count lines)) (drop count lines))

  -- the log of lines ignores nothing
  pub ignores_none : (lines : List (List ℕ)) → log_of_lines graph lines ≡ ignoring (log_of_lines graph lines) []
  ignores_none lines = λ i. record { events = (log_of_lines graph lines).events; ignored = (GoesOn-first lines 0).ignored i }

-- ---- the rounds of a report

module _ (graph : Tfpg) (terms : Terms) (lines : List (List ℕ)) (blocks : List Block) (are : AreBlocks graph terms lines blocks)
    (index : ℕ) (round : Round) (losses : List Loss) (at : slice_get blocks index ≡ Some (RoundBlock round losses)) where
  abbrev Earlier : List Round
  Earlier = flat_map rounds_of (take index blocks)

  abbrev Here : IsRound graph terms Earlier (log_of_lines graph (take (index + 1) lines)) (index + 1) round
  Here = round_there graph terms lines blocks are index round losses at

  -- a set that fits the whole log is not rejected
  module _ (leaves_none : LeavesNoTrace) (valid : IsValid graph) (set : List ℕ) (fits : Fits graph (log_of_lines graph lines) set) where
    module _ (number : ℕ) (finding : Finding) (there : HasFindingAt round number finding) where
      abbrev Reached : List ℕ
      Reached = (evidence Here number finding there).2.reach

      -- no evidence of its is a refutation
      not_rejected_by : IsReach graph set Reached → (status : Status)
          → HasEvidence (case_of graph (log_of_lines graph (take (index + 1) lines)) Reached) terms.budget round.findings (steps_so_far number (Earlier ++ round ∷ [])) finding status
          → is_rejected status ≡ false
      not_rejected_by reach_is Rejected refuted =
          absurd
          (leaves_none graph (log_of_lines graph (take (index + 1) lines)) (log_of_lines graph lines) set Reached (steps_so_far number (Earlier ++ round ∷ []))
          valid (of-log_of_lines graph lines) (ordered-log_of_lines graph lines) reach_is (GoesOn-first graph lines (index + 1)) refuted fits)
      not_rejected_by reach_is (Ranked trace cost alarmed monitored) ranked = refl
      not_rejected_by reach_is (Covered other) covered = refl
      not_rejected_by reach_is Open left = refl

      not_rejected_at : hypothesis_of finding ≡ believing set → is_rejected finding.status ≡ false
      not_rejected_at on_set =
          let own = evidence Here number finding there in
          let log = log_of_lines graph (take (index + 1) lines) in
          let same_hypothesis : own.0 ≡ believing set = sym own.2.hypothesis_is ∙ on_set in
          let same_case : case_for graph log own.0 Reached ≡ case_of graph log Reached =
          ap (λ (hypothesis : Hypothesis). case_for graph log hypothesis Reached) same_hypothesis ∙ ap (λ (l : Logbook). case_of graph l Reached) (sym (ignores_none graph (take (index + 1) lines))) in
          not_rejected_by
          (subst (λ (hypothesis : Hypothesis). IsReach graph hypothesis.set Reached) same_hypothesis own.2.reach_is)
          finding.status
          (subst (λ (case : Case). HasEvidence case terms.budget round.findings (steps_so_far number (Earlier ++ round ∷ [])) finding finding.status) same_case own.2.evidence)

    pub not_rejected : (finding : Finding) → Contains round.findings finding → hypothesis_of finding ≡ believing set → is_rejected finding.status ≡ false
    not_rejected finding member on_set =
        not_rejected_at member.0 finding (slice_get-get_or round.findings member.0 finding member.1 ∙ ap Some member.2) on_set
