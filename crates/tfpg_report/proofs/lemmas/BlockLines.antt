-- The lines of the text of a block: none has a line end, the first one alone begins a block, and those of open hypotheses and of
-- ranked ones with their traces are known by how they begin.
use Rattle.std.proofs.Common.{◌≡◌, ℕ, ◌==◌, not, Bool, true, false, cond, List, [], ◌∷◌, ◌++◌, length, map, get_or, All, codes, refl, sym, ap, subst, ◌∙◌, append_assoc, append-nil}
use Rattle.std.specs.Prelude.{◌&&◌, ◌||◌, flat_map, filter, decimal}
use Rattle.std.specs.List.{AllByRecursion, list_all}
use Rattle.std.proofs.lemmas.Bool.{cond_both}
use Rattle.std.proofs.lemmas.Grind.{flat_map-append}
use Rattle.std.proofs.lemmas.List.Concat.{flat_map_single}
use Rattle.std.proofs.lemmas.List.Folds.{flat_map-map}
use Rattle.std.proofs.lemmas.List.Elements.{All-nil, All-cons, All-append, filter-append}
use Rattle.tfpg_base.specs.TextLine.{text_line}
use Rattle.tfpg_base.specs.Lines.{HasNoLineEnd, with_line_end}
use Rattle.tfpg_base.specs.Words.{line_of}
use Rattle.tfpg_base.specs.declared.activation.Activation.{Activation}
use Rattle.tfpg_base.proofs.lemmas.lists.Lacking.{lacks_checked}
use Rattle.tfpg_graph.specs.Graph.{Tfpg, name_word}
use Rattle.tfpg_graph.specs.Valid.{IsValid}
use Rattle.tfpg_evidence.specs.declared.clause_name.ClauseName.{ClauseName}
use Rattle.tfpg_evidence.specs.declared.clause_name.ClauseName.TheVariants.{OrMay, AndMay, OrMust, AndMust}
use Rattle.tfpg_evidence.specs.declared.reason.Reason.{Reason}
use Rattle.tfpg_evidence.specs.declared.reason.Reason.TheVariants.{Zero, Top, Unreached, From, Upto, Quiet, Pick}
use Rattle.tfpg_evidence.specs.declared.step.Step.{Step}
use Rattle.tfpg_evidence.specs.declared.step.Step.TheVariants.{Split, Cycle, Again}
use Rattle.tfpg_evidence.specs.declared.finding.Status.{Status}
use Rattle.tfpg_evidence.specs.declared.finding.Status.TheVariants.{Ranked, Covered, Rejected, Open}
use Rattle.tfpg_evidence.specs.declared.finding.Finding.{Finding}
use Rattle.tfpg_evidence.specs.declared.round.Counts.{Counts}
use Rattle.tfpg_evidence.specs.declared.round.Round.{Round}
use Rattle.tfpg_evidence.specs.Findings.{hypothesis_of, ranked_in_order, open_in, newly_rejected}
use Rattle.tfpg_log.specs.declared.refused_line.RefusedLine.{RefusedLine}
use Rattle.tfpg_report.proofs.lemmas.CleanLines.{after, cause_clean, clause_clean, clean_line, name, number, robustness, set, words}
use Rattle.tfpg_report.proofs.lemmas.WrittenLines.{written_losses}
use Rattle.tfpg_report.specs.SetText.{set_word}
use Rattle.tfpg_report.specs.Blocks.{Loss, lost_text, Block, RefusedBlock, RoundBlock, block_text}
use Rattle.tfpg_report.specs.LineWords.{cause_words, edge_words, clause_words, robustness_word, counts_words}
use Rattle.tfpg_report.specs.declared.report_line.ReportLine.TheVariants.{At}
use Rattle.tfpg_report.specs.inside.LineNames.{activation_line, activation_text}
use Rattle.tfpg_report.specs.ReportLines.{written_line}
use Rattle.tfpg_report.specs.inside.Texts.{reason_text, step_text, steps_text, hypothesis_words, ranked_line, ranked_text, open_text, rejected_text, counts_text}

-- ---- how lines begin

-- a line begins a block, as those of refused lines and the first ones of rounds do
abbrev pub begins_block : List ℕ → Bool
begins_block line = (get_or line 0 0 == 114) && ((get_or line 2 0 == 102) || (get_or line 2 0 == 117))

-- it is that of an open hypothesis
abbrev pub is_open_line : List ℕ → Bool
is_open_line line = get_or line 0 0 == 111

-- it is the first one of a ranked hypothesis
abbrev pub is_ranked_line : List ℕ → Bool
is_ranked_line line = (get_or line 0 0 == 114) && (get_or line 2 0 == 110)

-- it is that, or one of the trace
abbrev pub shows_trace : List ℕ → Bool
shows_trace line = is_ranked_line line || ((get_or line 0 0 == 97) && (get_or line 2 0 == 32))

-- A text is lines, with their line ends, of which none begins a block. Those of open hypotheses are these, and those that show traces
-- are those.
pub record HasLines (text : List ℕ) (of_open of_traces : List (List ℕ)) : Type 0 where
  pub lines : List (List ℕ)
  pub whole : text ≡ flat_map with_line_end lines
  pub clean : All HasNoLineEnd lines
  pub within : All (λ line. begins_block line ≡ false) lines
  pub open_lines : filter is_open_line lines ≡ of_open
  pub trace_lines : filter shows_trace lines ≡ of_traces

-- no text
none : HasLines [] [] []
none = record { lines = []; whole = refl; clean = All-nil HasNoLineEnd; within = All-nil (λ line. begins_block line ≡ false); open_lines = refl; trace_lines = refl }

-- one text after another
both : (text after : List ℕ) (opens more_open traces more_traces : List (List ℕ)) → HasLines text opens traces → HasLines after more_open more_traces
    → HasLines (text ++ after) (opens ++ more_open) (traces ++ more_traces)
both text after opens more_open traces more_traces has more = record {
  lines = has.lines ++ more.lines;
  whole = (λ i. has.whole i ++ more.whole i) ∙ sym (flat_map-append with_line_end has.lines more.lines);
  clean = All-append HasNoLineEnd has.lines more.lines has.clean more.clean;
  within = All-append (λ line. begins_block line ≡ false) has.lines more.lines has.within more.within;
  open_lines = filter-append is_open_line has.lines more.lines ∙ (λ i. has.open_lines i ++ more.open_lines i);
  trace_lines = filter-append shows_trace has.lines more.lines ∙ (λ i. has.trace_lines i ++ more.trace_lines i);
}

-- a quiet text after another, and before another
then_quiet : (text after : List ℕ) (opens traces : List (List ℕ)) → HasLines text opens traces → HasLines after [] [] → HasLines (text ++ after) opens traces
then_quiet text after opens traces has more =
    subst (λ (ls : List (List ℕ)). HasLines (text ++ after) ls traces) (append-nil opens)
    (subst (λ (ls : List (List ℕ)). HasLines (text ++ after) (opens ++ []) ls) (append-nil traces) (both text after opens [] traces [] has more))

quiet_then : (text after : List ℕ) (opens traces : List (List ℕ)) → HasLines text [] [] → HasLines after opens traces → HasLines (text ++ after) opens traces
quiet_then text after opens traces has more = both text after [] opens [] traces has more

module _ {X : Type 0} (text : X → List ℕ) where
  -- the texts of items, each with the lines of its trace
  each_shown : (of_traces : X → List (List ℕ)) → ((x : X) → HasLines (text x) [] (of_traces x)) → (xs : List X) → HasLines (flat_map text xs) [] (flat_map of_traces xs)
  each_shown of_traces has [] = none
  each_shown of_traces has (x ∷ xs) = both (text x) (flat_map text xs) [] [] (of_traces x) (flat_map of_traces xs) (has x) (each_shown of_traces has xs)

  -- each with the line that says that it is open
  each_open : (of_open : X → List (List ℕ)) → ((x : X) → HasLines (text x) (of_open x) []) → (xs : List X) → HasLines (flat_map text xs) (flat_map of_open xs) []
  each_open of_open has [] = none
  each_open of_open has (x ∷ xs) = both (text x) (flat_map text xs) (of_open x) (flat_map of_open xs) [] [] (has x) (each_open of_open has xs)

  -- and each with neither
  each_quiet : ((x : X) → HasLines (text x) [] []) → (xs : List X) → HasLines (flat_map text xs) [] []
  each_quiet has [] = none
  each_quiet has (x ∷ xs) = quiet_then (text x) (flat_map text xs) [] [] (has x) (each_quiet has xs)

-- the text of one line
one : (words : List (List ℕ)) (of_open of_traces : List (List ℕ)) → All HasNoLineEnd words → begins_block (line_of words) ≡ false
    → filter is_open_line (line_of words ∷ []) ≡ of_open → filter shows_trace (line_of words ∷ []) ≡ of_traces → HasLines (text_line words) of_open of_traces
one words of_open of_traces clean begins opens traces = record {
  lines = line_of words ∷ [];
  whole = sym (append-nil (text_line words));
  clean = All-cons HasNoLineEnd (line_of words) [] (clean_line words clean) (All-nil HasNoLineEnd);
  within = All-cons (λ line. begins_block line ≡ false) (line_of words) [] begins (All-nil (λ line. begins_block line ≡ false));
  open_lines = opens;
  trace_lines = traces;
}

-- ---- refused lines

begins_refused : (line : ℕ) (cause : RefusedLine) → begins_block (line_of (codes "refused" ∷ decimal line ∷ cause_words cause)) ≡ true
begins_refused line cause = refl

-- ---- a round

-- seven texts, the last six of them after the first
seven : (a b c d e f g : List ℕ) → (((((a ++ b) ++ c) ++ d) ++ e) ++ f) ++ g ≡ a ++ (((((b ++ c) ++ d) ++ e) ++ f) ++ g)
seven a b c d e f g =
    ap (λ (t : List ℕ). (((t ++ d) ++ e) ++ f) ++ g) (append_assoc a b c)
    ∙ ap (λ (t : List ℕ). ((t ++ e) ++ f) ++ g) (append_assoc a (b ++ c) d)
    ∙ ap (λ (t : List ℕ). (t ++ f) ++ g) (append_assoc a ((b ++ c) ++ d) e)
    ∙ ap (λ (t : List ℕ). t ++ g) (append_assoc a (((b ++ c) ++ d) ++ e) f)
    ∙ append_assoc a ((((b ++ c) ++ d) ++ e) ++ f) g

-- the words of the first line of a ranked hypothesis
abbrev pub ranked_words : Tfpg → Finding → ℕ → ℕ → ℕ → List (List ℕ)
ranked_words graph finding cost alarmed monitored =
    codes "ranked" ∷ decimal finding.number ∷ codes "cost" ∷ decimal cost ∷ codes "robust" ∷ robustness_word alarmed monitored ∷ codes "set" ∷ set_word graph (hypothesis_of finding) ∷ []

-- the lines of a ranked hypothesis
abbrev pub lines_of_trace : Tfpg → Finding → Status → List (List ℕ)
lines_of_trace graph finding (Ranked trace cost alarmed monitored) = line_of (ranked_words graph finding cost alarmed monitored) ∷ map (activation_line graph) trace
lines_of_trace graph finding (Covered by) = []
lines_of_trace graph finding Rejected = []
lines_of_trace graph finding Open = []

-- the line of an open hypothesis
abbrev pub open_line : Tfpg → Finding → List ℕ
open_line graph finding = line_of (codes "open" ∷ hypothesis_words graph finding)

-- the lines of the open hypotheses of a round
abbrev pub open_lines_of : Tfpg → Round → List (List ℕ)
open_lines_of graph round = flat_map (λ (finding : Finding). open_line graph finding ∷ []) (open_in round)

-- the lines of its ranked hypotheses
abbrev pub trace_lines_of : Tfpg → Round → List (List ℕ)
trace_lines_of graph round = flat_map (λ (finding : Finding). lines_of_trace graph finding finding.status) (ranked_in_order round)

-- the lines of the open hypotheses of a block
abbrev pub open_lines_in : Tfpg → Block → List (List ℕ)
open_lines_in graph (RefusedBlock line cause) = []
open_lines_in graph (RoundBlock round losses) = open_lines_of graph round

-- the lines of its ranked hypotheses
abbrev pub trace_lines_in : Tfpg → Block → List (List ℕ)
trace_lines_in graph (RefusedBlock line cause) = []
trace_lines_in graph (RoundBlock round losses) = trace_lines_of graph round

module _ (graph : Tfpg) (valid : IsValid graph) where
  -- the line of a split, whose clause is named by a keyword and other words
  split_line : (keyword : List ℕ) (others : List (List ℕ)) → All HasNoLineEnd (keyword ∷ others) → HasLines (text_line (codes "split" ∷ keyword ∷ others)) [] []
  split_line keyword others clean = one (codes "split" ∷ keyword ∷ others) [] [] (All-cons HasNoLineEnd (codes "split") (keyword ∷ others) (lacks_checked 10 (codes "split") refl) clean) refl refl refl

  split_text : (name_of : ClauseName) → HasLines (text_line (codes "split" ∷ clause_words graph name_of)) [] []
  split_text (OrMay node span horizon) = split_line (codes "ormay") (name_word graph node ∷ decimal span ∷ decimal horizon ∷ []) (clause_clean graph valid (OrMay node span horizon))
  split_text (AndMay edge span horizon) = split_line (codes "andmay") (edge_words graph edge ++ decimal span ∷ decimal horizon ∷ []) (clause_clean graph valid (AndMay edge span horizon))
  split_text (OrMust edge span horizon) = split_line (codes "ormust") (edge_words graph edge ++ decimal span ∷ decimal horizon ∷ []) (clause_clean graph valid (OrMust edge span horizon))
  split_text (AndMust node span horizon) = split_line (codes "andmust") (name_word graph node ∷ decimal span ∷ decimal horizon ∷ []) (clause_clean graph valid (AndMust node span horizon))

  -- the line of a reason
  why_line : (keyword : List ℕ) (others : List (List ℕ)) → list_all (λ other. not (other == 10)) keyword ≡ true → AllByRecursion HasNoLineEnd others → HasLines (text_line (codes "why" ∷ keyword ∷ others)) [] []
  why_line keyword others checked clean =
      one (codes "why" ∷ keyword ∷ others) [] [] (words (codes "why" ∷ keyword ∷ others) (lacks_checked 10 (codes "why") refl, (lacks_checked 10 keyword checked, clean))) refl refl refl

  reason : (why : Reason) → HasLines (reason_text graph why) [] []
  reason (Zero node) = why_line (codes "zero") (name_word graph node ∷ []) refl (name graph valid node, tt)
  reason (Top node) = why_line (codes "top") (name_word graph node ∷ []) refl (name graph valid node, tt)
  reason (Unreached node horizon) = why_line (codes "unreached") (name_word graph node ∷ decimal horizon ∷ []) refl (name graph valid node, (number horizon, tt))
  reason (From event) = why_line (codes "from") (decimal event ∷ []) refl (number event, tt)
  reason (Upto event) = why_line (codes "upto") (decimal event ∷ []) refl (number event, tt)
  reason (Quiet event node) = why_line (codes "quiet") (decimal event ∷ name_word graph node ∷ []) refl (number event, (name graph valid node, tt))
  reason (Pick split constraint) = why_line (codes "pick") (decimal split ∷ decimal constraint ∷ []) refl (number split, (number constraint, tt))

  -- a line of a literal and other words
  step : (is : Step) → HasLines (step_text graph is) [] []
  step (Split name_of) = split_text name_of
  step (Cycle reasons) =
      quiet_then (text_line (codes "cycle" ∷ decimal (length reasons) ∷ [])) (flat_map (reason_text graph) reasons) [] []
      (one (codes "cycle" ∷ decimal (length reasons) ∷ []) [] [] (words (codes "cycle" ∷ decimal (length reasons) ∷ []) (lacks_checked 10 (codes "cycle") refl, (number (length reasons), tt))) refl refl refl)
      (each_quiet (reason_text graph) reason reasons)
  step Again = one (codes "again" ∷ []) [] [] (words (codes "again" ∷ []) (lacks_checked 10 (codes "again") refl, tt)) refl refl refl

  -- the steps of a finding
  steps : (finding : Finding) → HasLines (steps_text graph finding) [] []
  steps finding =
      cond_both (length finding.steps == 0) [] (text_line (codes "hyp" ∷ decimal finding.number ∷ []) ++ flat_map (step_text graph) finding.steps) (λ (text : List ℕ). HasLines text [] []) (λ _. none)
      (λ _. quiet_then (text_line (codes "hyp" ∷ decimal finding.number ∷ [])) (flat_map (step_text graph) finding.steps) [] []
      (one (codes "hyp" ∷ decimal finding.number ∷ []) [] [] (words (codes "hyp" ∷ decimal finding.number ∷ []) (lacks_checked 10 (codes "hyp") refl, (number finding.number, tt))) refl refl refl)
      (each_quiet (step_text graph) step finding.steps))

  -- a line of the trace
  activation : (is : Activation) → HasLines (activation_text graph is) [] (activation_line graph is ∷ [])
  activation is =
      one (codes "at" ∷ name_word graph is.node ∷ decimal is.time ∷ []) [] (activation_line graph is ∷ [])
      (words (codes "at" ∷ name_word graph is.node ∷ decimal is.time ∷ []) (lacks_checked 10 (codes "at") refl, (name graph valid is.node, (number is.time, tt)))) refl refl refl

  first_ranked : (finding : Finding) (cost alarmed monitored : ℕ)
      → HasLines (ranked_line graph finding cost alarmed monitored) [] (line_of (ranked_words graph finding cost alarmed monitored) ∷ [])
  first_ranked finding cost alarmed monitored =
      one (ranked_words graph finding cost alarmed monitored) [] (line_of (ranked_words graph finding cost alarmed monitored) ∷ [])
      (words (ranked_words graph finding cost alarmed monitored) (
        lacks_checked 10 (codes "ranked") refl,
        (
          number finding.number,
          (
            lacks_checked 10 (codes "cost") refl,
            (
              number cost,
              (
                lacks_checked 10 (codes "robust") refl,
                (robustness alarmed monitored, (lacks_checked 10 (codes "set") refl, (set graph valid (hypothesis_of finding), tt))),
              ),
            ),
          ),
        ),
      )) refl refl refl

  -- a finding with its trace
  ranked : (finding : Finding) (status : Status) → HasLines (ranked_text graph finding status) [] (lines_of_trace graph finding status)
  ranked finding (Ranked trace cost alarmed monitored) =
      let first = line_of (ranked_words graph finding cost alarmed monitored) in
      subst (λ (text : List ℕ). HasLines (ranked_line graph finding cost alarmed monitored ++ text) [] (first ∷ map (activation_line graph) trace))
      (sym (flat_map-map (λ said. with_line_end (written_line graph said)) At trace))
      (subst (λ (shown : List (List ℕ)). HasLines (ranked_line graph finding cost alarmed monitored ++ flat_map (activation_text graph) trace) [] (first ∷ shown))
      (flat_map_single (activation_line graph) trace)
      (both (ranked_line graph finding cost alarmed monitored) (flat_map (activation_text graph) trace) [] [] (first ∷ []) (flat_map (λ (a : Activation). activation_line graph a ∷ []) trace)
      (first_ranked finding cost alarmed monitored) (each_shown (activation_text graph) (λ a. activation_line graph a ∷ []) activation trace)))
  ranked finding (Covered by) = none
  ranked finding Rejected = none
  ranked finding Open = none

  -- a hypothesis that is open, and one that the round rejected
  hypothesis_clean : (finding : Finding) → AllByRecursion HasNoLineEnd (hypothesis_words graph finding)
  hypothesis_clean finding = (number finding.number, (lacks_checked 10 (codes "set") refl, (set graph valid (hypothesis_of finding), tt)))

  open_finding : (finding : Finding) → HasLines (open_text graph finding) (open_line graph finding ∷ []) []
  open_finding finding =
      one (codes "open" ∷ hypothesis_words graph finding) (open_line graph finding ∷ []) []
      (words (codes "open" ∷ hypothesis_words graph finding) (lacks_checked 10 (codes "open") refl, hypothesis_clean finding)) refl refl refl

  rejected : (finding : Finding) → HasLines (rejected_text graph finding) [] []
  rejected finding =
      one (codes "rejected" ∷ hypothesis_words graph finding) [] []
      (words (codes "rejected" ∷ hypothesis_words graph finding) (lacks_checked 10 (codes "rejected") refl, hypothesis_clean finding)) refl refl refl

  counted : (counts : Counts) → HasLines (counts_text counts) [] []
  counted counts =
      one (codes "counts" ∷ counts_words counts) [] []
      (words (codes "counts" ∷ counts_words counts) (
        lacks_checked 10 (codes "counts") refl,
        (
          lacks_checked 10 (codes "ranked") refl,
          (
            number counts.ranked,
            (
              lacks_checked 10 (codes "covered") refl,
              (
                number counts.covered,
                (lacks_checked 10 (codes "rejected") refl, (number counts.rejected, (lacks_checked 10 (codes "open") refl, (number counts.unsettled, tt)))),
              ),
            ),
          ),
        ),
      )) refl refl refl

  lost : (loss : Loss) → HasLines (lost_text loss) [] []
  lost loss = by loss.memory
    where
      by : (memory : Bool) → HasLines (text_line (codes "panel" ∷ decimal loss.panel ∷ cond memory (codes "memory") (codes "lost") ∷ [])) [] []
      by true =
          one (codes "panel" ∷ decimal loss.panel ∷ codes "memory" ∷ []) [] []
          (words (codes "panel" ∷ decimal loss.panel ∷ codes "memory" ∷ []) (lacks_checked 10 (codes "panel") refl, (number loss.panel, (lacks_checked 10 (codes "memory") refl, tt)))) refl refl refl
      by false =
          one (codes "panel" ∷ decimal loss.panel ∷ codes "lost" ∷ []) [] []
          (words (codes "panel" ∷ decimal loss.panel ∷ codes "lost" ∷ []) (lacks_checked 10 (codes "panel") refl, (number loss.panel, (lacks_checked 10 (codes "lost") refl, tt)))) refl refl refl

  -- ---- blocks

  module _ (round : Round) (losses : List Loss) where
    -- the parts of a round's text after its first line
    abbrev Steps : List ℕ
    Steps = flat_map (steps_text graph) round.findings

    abbrev Traces : List ℕ
    Traces = flat_map (λ (finding : Finding). ranked_text graph finding finding.status) (ranked_in_order round)

    abbrev Opens : List ℕ
    Opens = flat_map (open_text graph) (open_in round)

    abbrev Newly : List ℕ
    Newly = flat_map (rejected_text graph) (newly_rejected round)

    abbrev Rest : List ℕ
    Rest = ((((Steps ++ Traces) ++ Opens) ++ Newly) ++ counts_text round.counts) ++ flat_map lost_text losses

    with_traces : HasLines (Steps ++ Traces) [] (trace_lines_of graph round)
    with_traces =
        quiet_then Steps Traces [] (trace_lines_of graph round) (each_quiet (steps_text graph) steps round.findings)
        (each_shown (λ (finding : Finding). ranked_text graph finding finding.status) (λ finding. lines_of_trace graph finding finding.status) (λ finding. ranked finding finding.status) (ranked_in_order round))

    with_opens : HasLines ((Steps ++ Traces) ++ Opens) (open_lines_of graph round) (trace_lines_of graph round)
    with_opens =
        subst (HasLines ((Steps ++ Traces) ++ Opens) (open_lines_of graph round)) (append-nil (trace_lines_of graph round))
        (both (Steps ++ Traces) Opens [] (open_lines_of graph round) (trace_lines_of graph round) [] with_traces
        (each_open (open_text graph) (λ finding. open_line graph finding ∷ []) open_finding (open_in round)))

    rest_has : HasLines Rest (open_lines_of graph round) (trace_lines_of graph round)
    rest_has =
        let opens = open_lines_of graph round in
        let traces = trace_lines_of graph round in
        then_quiet ((((Steps ++ Traces) ++ Opens) ++ Newly) ++ counts_text round.counts) (flat_map lost_text losses) opens traces
        (then_quiet (((Steps ++ Traces) ++ Opens) ++ Newly) (counts_text round.counts) opens traces
        (then_quiet ((Steps ++ Traces) ++ Opens) Newly opens traces with_opens (each_quiet (rejected_text graph) rejected (newly_rejected round)))
        (counted round.counts))
        (each_quiet lost_text lost losses)

    abbrev first_words : List (List ℕ)
    first_words = codes "round" ∷ decimal round.number ∷ decimal round.line ∷ decimal round.now ∷ []

    regrouped : block_text graph (RoundBlock round losses) ≡ text_line first_words ++ Rest
    regrouped = written_losses graph round losses ∙ seven (text_line first_words) Steps Traces Opens Newly (counts_text round.counts) (flat_map lost_text losses)

  -- The text of a block is a line that begins a block, and then lines of which none does.
  pub record IsBlockText (block : Block) : Type 0 where
    pub first : List ℕ
    pub rest : List ℕ
    pub whole : block_text graph block ≡ with_line_end first ++ rest
    pub clean : HasNoLineEnd first
    pub begins : begins_block first ≡ true
    pub has_lines : HasLines rest (open_lines_in graph block) (trace_lines_in graph block)

  -- So is each.
  pub block_lines : (block : Block) → IsBlockText block
  block_lines (RefusedBlock line cause) = record {
    first = line_of (codes "refused" ∷ decimal line ∷ cause_words cause);
    rest = [];
    whole = refl;
    clean = clean_line (codes "refused" ∷ decimal line ∷ cause_words cause)
        (All-cons HasNoLineEnd (codes "refused") (decimal line ∷ cause_words cause) (lacks_checked 10 (codes "refused") refl)
        (All-cons HasNoLineEnd (decimal line) (cause_words cause) (number line) (cause_clean cause)));
    begins = begins_refused line cause;
    has_lines = none;
  }
  block_lines (RoundBlock round losses) = record {
    first = line_of (first_words round losses);
    rest = Rest round losses;
    whole = regrouped round losses;
    clean = clean_line (first_words round losses) (words (first_words round losses) (lacks_checked 10 (codes "round") refl, (number round.number, (number round.line, (number round.now, tt)))));
    begins = refl;
    has_lines = rest_has round losses;
  }
