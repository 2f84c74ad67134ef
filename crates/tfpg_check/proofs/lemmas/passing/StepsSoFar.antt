-- The steps of the rounds of a report so far are right at its log.
use Rattle.std.proofs.Common.{◌≡◌, ◌⊎◌, ℕ, zero, suc, ◌+◌, ◌≤◌, cond, Bool, true, false, List, [], ◌∷◌, ◌++◌, length, take, Some, slice_get, inl, inr, refl, sym, ap, subst, ◌∙◌, arith, add-one, append-nil}
use Rattle.std.specs.Prelude.{flat_map}
use Rattle.std.proofs.lemmas.List.{take_all}
use Rattle.std.proofs.lemmas.List.Concat.{flat_map-append}
use Rattle.tfpg_base.specs.declared.terms.Terms.{Terms}
use Rattle.tfpg_base.specs.Hypothesis.{Hypothesis}
use Rattle.tfpg_base.specs.Lines.{is_too_long}
use Rattle.tfpg_base.proofs.lemmas.lists.Cuts.{take-next}
use Rattle.tfpg_base.proofs.lemmas.lists.Elements.{slice_get-there, slice_get-same_length}
use Rattle.tfpg_graph.specs.Graph.{Tfpg}
use Rattle.tfpg_graph.proofs.lemmas.reach.Reaches.{reach_is_one}
use Rattle.tfpg_log.specs.declared.event.Event.{Event}
use Rattle.tfpg_log.specs.declared.event.Offered.{Offered}
use Rattle.tfpg_log.specs.declared.event.Offered.TheVariants.{Accepted, Refused}
use Rattle.tfpg_log.specs.Log.{Logbook, GoesOn, IsOrdered, with_event}
use Rattle.tfpg_log.specs.Accepted.{reply_to}
use Rattle.tfpg_log.specs.LogOfLines.{log_after_reply, log_after, log_of_lines}
use Rattle.tfpg_log.proofs.lemmas.logs_of_lines.LogsOfLines.{log_of_lines-push, ordered-log_of_lines}
use Rattle.tfpg_evidence.specs.declared.finding.Finding.{Finding}
use Rattle.tfpg_evidence.specs.declared.finding.Status.{Status}
use Rattle.tfpg_evidence.specs.declared.finding.Status.TheVariants.{Ranked, Covered, Rejected, Open}
use Rattle.tfpg_evidence.specs.declared.round.Round.{Round}
use Rattle.tfpg_clause.specs.Case.{Case}
use Rattle.tfpg_clause.specs.Trees.{Judged, IsRefutation, IsPartial}
use Rattle.tfpg_clause.proofs.lemmas.trees.LeafSteps.{leaf_begins}
use Rattle.tfpg_clause.proofs.lemmas.trees.TreesStay.{refutation_stays, partial_stays}
use Rattle.tfpg_hyp.specs.Table.{IsTable}
use Rattle.tfpg_hyp.specs.Views.{IsReachOf, case_for, log_for}
use Rattle.tfpg_hyp.specs.Rounds.{IsRound, HasEvidence, steps_so_far}
use Rattle.tfpg_hyp.proofs.lemmas.Tables.{one_table}
use Rattle.tfpg_report.specs.Blocks.{Block, RefusedBlock, RoundBlock}
use Rattle.tfpg_check.specs.Report.{AreBlocks, rounds_of}
use Rattle.tfpg_check.proofs.lemmas.RoundsOfReports.{round_there}

-- The steps are right: a partial tree, or a refutation.
abbrev pub AreRightSteps : Case → List Judged → Type 0
AreRightSteps case steps = IsPartial case steps ⊎ IsRefutation case steps

-- The steps of each of these hypotheses, by its number, are right at a log.
abbrev pub EachHasRightSteps : Tfpg → Logbook → List Hypothesis → (ℕ → List Judged) → Type 0
EachHasRightSteps graph log hypotheses steps =
    (number : ℕ) (hypothesis : Hypothesis) → slice_get hypotheses number ≡ Some hypothesis → (reach : List ℕ) → IsReachOf graph hypothesis reach
    → AreRightSteps (case_for graph log hypothesis reach) (steps number)

-- ---- at a log that goes on

-- what a hypothesis sees of an ordered log is ordered
ordered_for : (log : Logbook) (hypothesis : Hypothesis) → IsOrdered log → IsOrdered (log_for log hypothesis)
ordered_for log hypothesis ordered = record { in_order = ordered.in_order; in_range = ordered.in_range }

-- and it goes on with the log
goes_on_for : (earlier later : Logbook) (hypothesis : Hypothesis) → GoesOn earlier later → GoesOn (log_for earlier hypothesis) (log_for later hypothesis)
goes_on_for earlier later hypothesis goes_on = record { more = goes_on.more; events = goes_on.events; ignored = refl }

-- Right steps stay right.
steps_stay : (graph : Tfpg) (earlier later : Logbook) (hypotheses : List Hypothesis) (steps : ℕ → List Judged) → IsOrdered later → GoesOn earlier later
    → EachHasRightSteps graph earlier hypotheses steps → EachHasRightSteps graph later hypotheses steps
steps_stay graph earlier later hypotheses steps ordered goes_on are number hypothesis at reach is =
    let case = case_for graph earlier hypothesis reach in
    let view = log_for later hypothesis in
    let in_order = ordered_for later hypothesis ordered in
    let goes = goes_on_for earlier later hypothesis goes_on in
    elim (are number hypothesis at reach is) [
      | inl partial ↦ inl (partial_stays case view in_order goes (steps number) partial)
      | inr refutation ↦ inr (refutation_stays case view in_order goes (steps number) refutation)
    ]

-- ---- after a round

-- the steps that are the evidence of a status are right
by_status : (case : Case) (budget : ℕ) (findings : List Finding) (steps : List Judged) (finding : Finding) (status : Status) → HasEvidence case budget findings steps finding status
    → AreRightSteps case steps
by_status case budget findings steps finding (Ranked trace cost alarmed monitored) is = inl is.0
by_status case budget findings steps finding (Covered by) is = inl is.0
by_status case budget findings steps finding Rejected is = inr is
by_status case budget findings steps finding Open is = inl is.0

-- So the steps up to a round are right at its log.
steps_of_round : (graph : Tfpg) (terms : Terms) (hypotheses : List Hypothesis) (rounds : List Round) (log : Logbook) (line : ℕ) (round : Round) → IsTable graph terms hypotheses
    → IsRound graph terms rounds log line round → EachHasRightSteps graph log hypotheses (λ number. steps_so_far number (rounds ++ round ∷ []))
steps_of_round graph terms hypotheses rounds log line round table is_round number hypothesis at reach is =
    let listed : slice_get is_round.hypotheses number ≡ Some hypothesis =
    ap (λ (hs : List Hypothesis). slice_get hs number) (one_table graph terms is_round.hypotheses hypotheses is_round.table table) ∙ at in
    let found = slice_get-same_length round.findings is_round.hypotheses number hypothesis (sym is_round.complete) listed in
    let own = is_round.findings number hypothesis found.0 listed found.1 in
    subst (λ (nodes : List ℕ). AreRightSteps (case_for graph log hypothesis nodes) (steps_so_far number (rounds ++ round ∷ [])))
    (reach_is_one graph hypothesis.set own.reach own.reach_is reach is)
    (by_status (case_for graph log hypothesis own.reach) terms.budget round.findings (steps_so_far number (rounds ++ round ∷ [])) found.0 found.0.status own.evidence)

-- ---- along the blocks of a report

-- a log goes on with one more line
goes_on_after : (graph : Tfpg) (log : Logbook) (line : List ℕ) → GoesOn log (log_after graph log line)
goes_on_after graph log line = by (is_too_long line)
  where
    same : GoesOn log log
    same = record { more = []; events = sym (append-nil log.events); ignored = refl }

    by_reply : (reply : Offered) → GoesOn log (log_after_reply log reply)
    by_reply (Accepted event) = record { more = event ∷ []; events = refl; ignored = refl }
    by_reply (Refused refusal) = same

    by : (long : Bool) → GoesOn log (cond long log (log_after_reply log (reply_to graph log line)))
    by true = same
    by false = by_reply (reply_to graph log line)

module _ (graph : Tfpg) (terms : Terms) (lines : List (List ℕ)) (blocks : List Block) (hypotheses : List Hypothesis) (table : IsTable graph terms hypotheses)
    (are : AreBlocks graph terms lines blocks) where
  -- the log and the rounds of the first so many
  abbrev LogUpTo : ℕ → Logbook
  LogUpTo count = log_of_lines graph (take count lines)

  abbrev RoundsUpTo : ℕ → List Round
  RoundsUpTo count = flat_map rounds_of (take count blocks)

  -- The steps up to so many blocks are right.
  abbrev RightUpTo : ℕ → Type 0
  RightUpTo count = EachHasRightSteps graph (LogUpTo count) hypotheses (λ number. steps_so_far number (RoundsUpTo count))

  rounds_next : (count : ℕ) (block : Block) → slice_get blocks count ≡ Some block → RoundsUpTo (count + 1) ≡ RoundsUpTo count ++ rounds_of block
  rounds_next count block at =
      ap (flat_map rounds_of) (take-next blocks count block at) ∙ flat_map-append rounds_of (take count blocks) (block ∷ [])
      ∙ ap (λ (rs : List Round). RoundsUpTo count ++ rs) (append-nil (rounds_of block))

  right_next : (count : ℕ) (line : List ℕ) (block : Block) → slice_get lines count ≡ Some line → slice_get blocks count ≡ Some block → RightUpTo count → RightUpTo (count + 1)
  right_next count line (RefusedBlock number cause) at_line at so_far =
      subst (λ (rs : List Round). EachHasRightSteps graph (LogUpTo (count + 1)) hypotheses (λ number. steps_so_far number rs))
      (sym (rounds_next count (RefusedBlock number cause) at ∙ append-nil (RoundsUpTo count)))
      (subst (λ (log : Logbook). EachHasRightSteps graph log hypotheses (λ number. steps_so_far number (RoundsUpTo count))) (sym next)
      (steps_stay graph (LogUpTo count) (log_after graph (LogUpTo count) line) hypotheses (λ number. steps_so_far number (RoundsUpTo count))
      (subst IsOrdered next (ordered-log_of_lines graph (take (count + 1) lines))) (goes_on_after graph (LogUpTo count) line) so_far))
    where
      next : LogUpTo (count + 1) ≡ log_after graph (LogUpTo count) line
      next = ap (log_of_lines graph) (take-next lines count line at_line) ∙ log_of_lines-push graph (take count lines) line
  right_next count line (RoundBlock round losses) at_line at so_far =
      subst (λ (rs : List Round). EachHasRightSteps graph (LogUpTo (count + 1)) hypotheses (λ number. steps_so_far number rs)) (sym (rounds_next count (RoundBlock round losses) at))
      (steps_of_round graph terms hypotheses (RoundsUpTo count) (LogUpTo (count + 1)) (count + 1) round table (round_there graph terms lines blocks are count round losses at))

  right_upto : (count : ℕ) → count ≤ length blocks → RightUpTo count
  right_upto zero within = λ number hypothesis at reach is. inl (leaf_begins (case_for graph (LogUpTo 0) hypothesis reach)).partial
  right_upto (suc count) within =
      let one_each = are.one_each in
      let block = slice_get-there blocks count within in
      let line = slice_get-there lines count (omega (arith, within, one_each)) in
      subst RightUpTo (add-one count) (right_next count line.0 block.0 line.1 block.1 (right_upto count (omega (arith, within))))

  -- The steps of the rounds of the blocks are right at the log of the lines with one more event.
  pub steps_before_are_right : (event : Event) (log : Logbook) → log ≡ with_event (log_of_lines graph lines) event → IsOrdered log
      → EachHasRightSteps graph log hypotheses (λ number. steps_so_far number (flat_map rounds_of blocks))
  steps_before_are_right event log is ordered =
      let one_each = are.one_each in
      let all : EachHasRightSteps graph (log_of_lines graph lines) hypotheses (λ number. steps_so_far number (flat_map rounds_of blocks)) =
      subst (λ (bs : List Block). EachHasRightSteps graph (log_of_lines graph lines) hypotheses (λ number. steps_so_far number (flat_map rounds_of bs))) (take_all (length blocks) blocks (omega arith))
      (subst (λ (ls : List (List ℕ)). EachHasRightSteps graph (log_of_lines graph ls) hypotheses (λ number. steps_so_far number (RoundsUpTo (length blocks)))) (take_all (length blocks) lines (omega (arith, one_each)))
      (right_upto (length blocks) (omega arith))) in
      steps_stay graph (log_of_lines graph lines) log hypotheses (λ number. steps_so_far number (flat_map rounds_of blocks)) ordered
      (record { more = event ∷ []; events = ap (λ (l : Logbook). l.events) is; ignored = ap (λ (l : Logbook). l.ignored) is }) all
