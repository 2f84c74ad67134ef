-- No line of a report has a line end in it, so the lines of a text of lines are these.
use Rattle.std.proofs.Common.{◌≡◌, ℕ, ◌+◌, ◌<◌, ltb, not, ◌/◌, ◌%◌, Bool, true, false, zero, suc, eqb, List, [], ◌∷◌, ◌++◌, map, get_or, All, Option, Some, None, codes, refl, sym, ap, ◌∙◌, slice_get, arith}
use Rattle.std.specs.Prelude.{◌==◌, decimal, option_map, option_and_then, unwrap_or}
use Rattle.std.specs.List.{AllByRecursion, list_all}
use Rattle.tfpg_base.specs.Words.{is_name, line_of}
use Rattle.std.specs.Fmt.{digits, digits_onto, digit_glyph}
use Rattle.std.proofs.lemmas.Bool.{cond_both}
use Rattle.std.proofs.lemmas.Bool.Decides.{nat_tests}
use Rattle.std.proofs.lemmas.List.Folds.{flat_map-map}
use Rattle.std.proofs.lemmas.List.Elements.{All-nil, All-cons, All-append, All-map, All-from_recursion}
use Rattle.tfpg_base.specs.Hypothesis.{Hypothesis}
use Rattle.tfpg_base.specs.Lines.{HasNoLineEnd, ends_line, lines_of, with_line_end}
use Rattle.tfpg_base.proofs.lemmas.LinesOf.{lines_of-after, lines_again}
use Rattle.tfpg_base.proofs.lemmas.Separators.{name_lacks}
use Rattle.tfpg_base.proofs.lemmas.lists.Elements.{All-at}
use Rattle.tfpg_base.proofs.lemmas.lists.Joined.{All-join}
use Rattle.tfpg_base.proofs.lemmas.lists.Lacking.{Lacks, lacks_checked}
use Rattle.tfpg_graph.specs.Graph.{Tfpg, Node, name_at, name_word, failure_at, failure_word}
use Rattle.tfpg_graph.specs.declared.edge.Edge.{Edge}
use Rattle.tfpg_graph.specs.Valid.{IsValid}
use Rattle.tfpg_log.specs.declared.refusal.Refusal.TheVariants.{BadLine, BadNumber, TimeTooLarge, TimeBack, UnknownName, NotMonitored, NotAMode, LogFull, ModesFull}
use Rattle.tfpg_evidence.specs.declared.clause_name.ClauseName.{ClauseName}
use Rattle.tfpg_evidence.specs.declared.clause_name.ClauseName.TheVariants.{OrMay, AndMay, OrMust, AndMust}
use Rattle.tfpg_evidence.specs.declared.reason.Reason.{Reason}
use Rattle.tfpg_evidence.specs.declared.reason.Reason.TheVariants.{Zero, Top, Unreached, From, Upto, Quiet, Pick}
use Rattle.tfpg_log.specs.declared.refused_line.RefusedLine.{RefusedLine}
use Rattle.tfpg_log.specs.declared.refused_line.RefusedLine.TheVariants.{TooLong, Offer}
use Rattle.tfpg_report.specs.declared.report_line.ReportLine.{ReportLine}
use Rattle.tfpg_report.specs.declared.report_line.ReportLine.TheVariants.{Head, OldHead, Refused, Round, Hyp, Split, Cycle, Why, Again, Ranked, At, Open, Rejected, Counts, Panel}
use Rattle.tfpg_report.specs.SetText.{hyphen_or_joined, set_word}
use Rattle.tfpg_graph.specs.Members.{doubt_word, member_words}
use Rattle.tfpg_report.specs.LineWords.{head_words, old_head_words, cause_words, edge_words, clause_words, reason_words, numbered_set_words, robustness_word, counts_words, lost_words}
use Rattle.tfpg_report.specs.ReportLines.{line_words, written_line, lines_text}

-- ---- words without a line end

-- a digit is no byte below all digits
glyph_differs : (byte d : ℕ) → byte < 48 → eqb (digit_glyph false d) byte ≡ false
glyph_differs byte d low =
    cond_both (ltb d 10) (48 + d) (87 + d) (λ (glyph : ℕ). eqb glyph byte ≡ false) (λ _. grind (arith, nat_tests)) (λ _. grind (arith, nat_tests))

-- so digits lack such a byte
digits_lack : (byte k n : ℕ) (after : List ℕ) → byte < 48 → Lacks byte after → Lacks byte (digits_onto k 10 false n after)
digits_lack byte zero n after low lacks = lacks
digits_lack byte (suc k) n after low lacks =
    let more : List ℕ = digit_glyph false (n % 10) ∷ after in
    let lack : Lacks byte more = All-cons (λ other. eqb other byte ≡ false) (digit_glyph false (n % 10)) after (glyph_differs byte (n % 10) low) lacks in
    cond_both (eqb (n / 10) 0) more (digits_onto k 10 false (n / 10) more) (Lacks byte) (λ _. lack) (λ _. digits_lack byte k (n / 10) more low lack)

-- The text of any number lacks each byte below all digits.
pub number_lacks : (byte n : ℕ) → byte < 48 → Lacks byte (decimal n)
unfolding digits
number_lacks byte n low = digits_lack byte 64 n [] low (All-nil (λ other. eqb other byte ≡ false))

-- so it has no line end
pub number : (n : ℕ) → HasNoLineEnd (decimal n)
number n = number_lacks 10 n (omega arith)

module _ (graph : Tfpg) (valid : IsValid graph) where
  -- a node's name
  pub name : (node : ℕ) → HasNoLineEnd (name_word graph node)
  name node = by (slice_get graph.nodes node) refl
    where
      by : (found : Option Node) → slice_get graph.nodes node ≡ found → HasNoLineEnd (unwrap_or (option_map (λ (n : Node). n.name) found) [])
      by None at = All-nil (λ byte. ends_line byte ≡ false)
      by (Some n) at = name_lacks 10 n.name refl (All-at (λ (n : Node). is_name n.name ≡ true) graph.nodes node n valid.so_far.node_names at)

  -- the name of a failure mode
  failure : (position : ℕ) → HasNoLineEnd (failure_word graph position)
  failure position = by (failure_at graph position)
    where
      by : (found : Option ℕ) → HasNoLineEnd (unwrap_or (option_and_then (name_at graph) found) [])
      by None = All-nil (λ byte. ends_line byte ≡ false)
      by (Some node) = name node

  -- a monitor that is not believed
  doubt : (node : ℕ) → HasNoLineEnd (doubt_word graph node)
  doubt node = All-cons (λ byte. ends_line byte ≡ false) 33 (name_word graph node) refl (name node)

  -- words with commas between
  joined : (ws : List (List ℕ)) → All HasNoLineEnd ws → HasNoLineEnd (hyphen_or_joined ws)
  joined [] clean = lacks_checked 10 (codes "-") refl
  joined (word ∷ ws) clean = All-join (λ byte. ends_line byte ≡ false) 44 (word ∷ ws) refl clean

  -- the text of a set
  pub set : (hypothesis : Hypothesis) → HasNoLineEnd (set_word graph hypothesis)
  set hypothesis =
      joined (member_words graph hypothesis)
      (All-append HasNoLineEnd (map (failure_word graph) hypothesis.set) (map (doubt_word graph) hypothesis.doubts)
      (All-map HasNoLineEnd (failure_word graph) hypothesis.set (λ k d within. failure (get_or hypothesis.set k d)))
      (All-map HasNoLineEnd (doubt_word graph) hypothesis.doubts (λ k d within. doubt (get_or hypothesis.doubts k d))))

  -- the names of the ends of an edge
  pub ends : (edge : ℕ) → All HasNoLineEnd (edge_words graph edge)
  ends edge = by (slice_get graph.edges edge)
    where
      by : (found : Option Edge) → All HasNoLineEnd (unwrap_or (option_map (λ (e : Edge). name_word graph e.source ∷ name_word graph e.target ∷ []) found) [])
      by None = All-nil HasNoLineEnd
      by (Some e) = All-from_recursion HasNoLineEnd (name_word graph e.source ∷ name_word graph e.target ∷ []) (name e.source, (name e.target, tt))

-- a line of clean words has no line end
pub clean_line : (words : List (List ℕ)) → All HasNoLineEnd words → HasNoLineEnd (line_of words)
clean_line words clean = All-join (λ byte. ends_line byte ≡ false) 32 words refl clean

-- the words of a line by recursion
pub words : (ws : List (List ℕ)) → AllByRecursion HasNoLineEnd ws → All HasNoLineEnd ws
words ws clean = All-from_recursion HasNoLineEnd ws clean

-- words after others
pub after : (front back : List (List ℕ)) → All HasNoLineEnd front → All HasNoLineEnd back → All HasNoLineEnd (front ++ back)
after front back clean more = All-append HasNoLineEnd front back clean more

-- the one word of a refusal
alone : (word : List ℕ) → HasNoLineEnd word → All HasNoLineEnd (word ∷ [])
alone word clean = words (word ∷ []) (clean, tt)

pub cause_clean : (cause : RefusedLine) → All HasNoLineEnd (cause_words cause)
cause_clean TooLong = alone (codes "TooLong") (lacks_checked 10 (codes "TooLong") refl)
cause_clean (Offer BadLine) = alone (codes "BadLine") (lacks_checked 10 (codes "BadLine") refl)
cause_clean (Offer BadNumber) = alone (codes "BadNumber") (lacks_checked 10 (codes "BadNumber") refl)
cause_clean (Offer TimeTooLarge) = alone (codes "TimeTooLarge") (lacks_checked 10 (codes "TimeTooLarge") refl)
cause_clean (Offer (TimeBack last)) = words (codes "TimeBack" ∷ decimal last ∷ []) (lacks_checked 10 (codes "TimeBack") refl, (number last, tt))
cause_clean (Offer UnknownName) = alone (codes "UnknownName") (lacks_checked 10 (codes "UnknownName") refl)
cause_clean (Offer NotMonitored) = alone (codes "NotMonitored") (lacks_checked 10 (codes "NotMonitored") refl)
cause_clean (Offer NotAMode) = alone (codes "NotAMode") (lacks_checked 10 (codes "NotAMode") refl)
cause_clean (Offer LogFull) = alone (codes "LogFull") (lacks_checked 10 (codes "LogFull") refl)
cause_clean (Offer ModesFull) = alone (codes "ModesFull") (lacks_checked 10 (codes "ModesFull") refl)

-- a robustness
pub robustness : (alarmed monitored : ℕ) → HasNoLineEnd (robustness_word alarmed monitored)
robustness alarmed monitored =
    All-append (λ byte. ends_line byte ≡ false) (decimal alarmed ++ codes "/") (decimal monitored)
    (All-append (λ byte. ends_line byte ≡ false) (decimal alarmed) (codes "/") (number alarmed) (lacks_checked 10 (codes "/") refl)) (number monitored)

module _ (graph : Tfpg) (valid : IsValid graph) where
  pub clause_clean : (name_of : ClauseName) → All HasNoLineEnd (clause_words graph name_of)
  clause_clean (OrMay node span horizon) =
      words (codes "ormay" ∷ name_word graph node ∷ decimal span ∷ decimal horizon ∷ []) (lacks_checked 10 (codes "ormay") refl, (name graph valid node, (number span, (number horizon, tt))))
  clause_clean (AndMay edge span horizon) =
      All-cons HasNoLineEnd (codes "andmay") (edge_words graph edge ++ decimal span ∷ decimal horizon ∷ []) (lacks_checked 10 (codes "andmay") refl)
      (after (edge_words graph edge) (decimal span ∷ decimal horizon ∷ []) (ends graph valid edge) (words (decimal span ∷ decimal horizon ∷ []) (number span, (number horizon, tt))))
  clause_clean (OrMust edge span horizon) =
      All-cons HasNoLineEnd (codes "ormust") (edge_words graph edge ++ decimal span ∷ decimal horizon ∷ []) (lacks_checked 10 (codes "ormust") refl)
      (after (edge_words graph edge) (decimal span ∷ decimal horizon ∷ []) (ends graph valid edge) (words (decimal span ∷ decimal horizon ∷ []) (number span, (number horizon, tt))))
  clause_clean (AndMust node span horizon) =
      words (codes "andmust" ∷ name_word graph node ∷ decimal span ∷ decimal horizon ∷ []) (lacks_checked 10 (codes "andmust") refl, (name graph valid node, (number span, (number horizon, tt))))

  -- the words of a reason
  reason_clean : (why : Reason) → All HasNoLineEnd (reason_words graph why)
  reason_clean (Zero node) = words (codes "zero" ∷ name_word graph node ∷ []) (lacks_checked 10 (codes "zero") refl, (name graph valid node, tt))
  reason_clean (Top node) = words (codes "top" ∷ name_word graph node ∷ []) (lacks_checked 10 (codes "top") refl, (name graph valid node, tt))
  reason_clean (Unreached node horizon) =
      words (codes "unreached" ∷ name_word graph node ∷ decimal horizon ∷ []) (lacks_checked 10 (codes "unreached") refl, (name graph valid node, (number horizon, tt)))
  reason_clean (From event) = words (codes "from" ∷ decimal event ∷ []) (lacks_checked 10 (codes "from") refl, (number event, tt))
  reason_clean (Upto event) = words (codes "upto" ∷ decimal event ∷ []) (lacks_checked 10 (codes "upto") refl, (number event, tt))
  reason_clean (Quiet event node) =
      words (codes "quiet" ∷ decimal event ∷ name_word graph node ∷ []) (lacks_checked 10 (codes "quiet") refl, (number event, (name graph valid node, tt)))
  reason_clean (Pick split constraint) =
      words (codes "pick" ∷ decimal split ∷ decimal constraint ∷ []) (lacks_checked 10 (codes "pick") refl, (number split, (number constraint, tt)))

  -- the number of a hypothesis and its set
  numbered_clean : (n : ℕ) (hypothesis : Hypothesis) → All HasNoLineEnd (numbered_set_words graph n hypothesis)
  numbered_clean n hypothesis =
      words (numbered_set_words graph n hypothesis) (number n, (lacks_checked 10 (codes "set") refl, (set graph valid hypothesis, tt)))

  -- the word for how a panel was lost
  how_lost : (panel : ℕ) (memory : Bool) → All HasNoLineEnd (lost_words panel memory)
  how_lost panel true =
      words (codes "panel" ∷ decimal panel ∷ codes "memory" ∷ []) (lacks_checked 10 (codes "panel") refl, (number panel, (lacks_checked 10 (codes "memory") refl, tt)))
  how_lost panel false =
      words (codes "panel" ∷ decimal panel ∷ codes "lost" ∷ []) (lacks_checked 10 (codes "panel") refl, (number panel, (lacks_checked 10 (codes "lost") refl, tt)))

  -- a keyword and other words
  after_keyword : (keyword : List ℕ) (others : List (List ℕ)) → list_all (λ other. not (other == 10)) keyword ≡ true → All HasNoLineEnd others
      → All HasNoLineEnd (keyword ∷ others)
  after_keyword keyword others checked clean = All-cons HasNoLineEnd keyword others (lacks_checked 10 keyword checked) clean

  -- the words of a line
  line_words_clean : (line : ReportLine) → All HasNoLineEnd (line_words graph line)
  line_words_clean (Head terms) =
      words (head_words terms) (
        lacks_checked 10 (codes "report") refl,
        (
          lacks_checked 10 (codes "2") refl,
          (
            lacks_checked 10 (codes "k") refl,
            (
              number terms.k,
              (lacks_checked 10 (codes "doubt") refl, (number terms.doubt, (lacks_checked 10 (codes "budget") refl, (number terms.budget, tt)))),
            ),
          ),
        ),
      )
  line_words_clean (OldHead k budget) =
      words (old_head_words k budget) (
        lacks_checked 10 (codes "report") refl,
        (
          lacks_checked 10 (codes "1") refl,
          (
            lacks_checked 10 (codes "k") refl,
            (
              number k,
              (lacks_checked 10 (codes "budget") refl, (number budget, tt)),
            ),
          ),
        ),
      )
  line_words_clean (Refused line cause) =
      after_keyword (codes "refused") (decimal line ∷ cause_words cause) refl (All-cons HasNoLineEnd (decimal line) (cause_words cause) (number line) (cause_clean cause))
  line_words_clean (Round n line now) =
      words (codes "round" ∷ decimal n ∷ decimal line ∷ decimal now ∷ []) (lacks_checked 10 (codes "round") refl, (number n, (number line, (number now, tt))))
  line_words_clean (Hyp n) = words (codes "hyp" ∷ decimal n ∷ []) (lacks_checked 10 (codes "hyp") refl, (number n, tt))
  line_words_clean (Split name_of) = after_keyword (codes "split") (clause_words graph name_of) refl (clause_clean name_of)
  line_words_clean (Cycle count) = words (codes "cycle" ∷ decimal count ∷ []) (lacks_checked 10 (codes "cycle") refl, (number count, tt))
  line_words_clean (Why reason) = after_keyword (codes "why") (reason_words graph reason) refl (reason_clean reason)
  line_words_clean Again = words (codes "again" ∷ []) (lacks_checked 10 (codes "again") refl, tt)
  line_words_clean (Ranked n cost alarmed monitored hypothesis) =
      words (codes "ranked" ∷ decimal n ∷ codes "cost" ∷ decimal cost ∷ codes "robust" ∷ robustness_word alarmed monitored ∷ codes "set"
      ∷ set_word graph hypothesis ∷ []) (
        lacks_checked 10 (codes "ranked") refl,
        (
          number n,
          (
            lacks_checked 10 (codes "cost") refl,
            (
              number cost,
              (
                lacks_checked 10 (codes "robust") refl,
                (robustness alarmed monitored, (lacks_checked 10 (codes "set") refl, (set graph valid hypothesis, tt))),
              ),
            ),
          ),
        ),
      )
  line_words_clean (At activation) =
      words (codes "at" ∷ name_word graph activation.node ∷ decimal activation.time ∷ []) (lacks_checked 10 (codes "at") refl, (name graph valid activation.node, (number activation.time, tt)))
  line_words_clean (Open n hypothesis) = after_keyword (codes "open") (numbered_set_words graph n hypothesis) refl (numbered_clean n hypothesis)
  line_words_clean (Rejected n hypothesis) =
      after_keyword (codes "rejected") (numbered_set_words graph n hypothesis) refl (numbered_clean n hypothesis)
  line_words_clean (Counts counts) =
      words (codes "counts" ∷ counts_words counts) (
        lacks_checked 10 (codes "counts") refl,
        (
          lacks_checked 10 (codes "ranked") refl,
          (
            number counts.ranked,
            (
              lacks_checked 10 (codes "covered") refl,
              (
                number counts.covered,
                (
                  lacks_checked 10 (codes "rejected") refl,
                  (
                    number counts.rejected,
                    (lacks_checked 10 (codes "open") refl, (number counts.unsettled, tt)),
                  ),
                ),
              ),
            ),
          ),
        ),
      )
  line_words_clean (Panel panel memory) = how_lost panel memory

  -- No line has a line end in it.
  pub written_line_clean : (line : ReportLine) → HasNoLineEnd (written_line graph line)
  written_line_clean line = clean_line (line_words graph line) (line_words_clean line)

  all_clean : (lines : List ReportLine) → All HasNoLineEnd (map (written_line graph) lines)
  all_clean lines = All-map HasNoLineEnd (written_line graph) lines (λ k d within. written_line_clean (get_or lines k d))

  -- The lines of a text of lines, and of what stands after it, are these and the lines of that.
  pub lines_of_lines_text : (lines : List ReportLine) (rest : List ℕ) → lines_of (lines_text graph lines ++ rest) ≡ map (written_line graph) lines ++ lines_of rest
  lines_of_lines_text lines rest =
      ap (λ (text : List ℕ). lines_of (text ++ rest)) (sym (flat_map-map with_line_end (written_line graph) lines))
      ∙ lines_of-after (map (written_line graph) lines) rest (all_clean lines)

  -- The lines of a text of lines are these.
  pub lines_of_text : (lines : List ReportLine) → lines_of (lines_text graph lines) ≡ map (written_line graph) lines
  lines_of_text lines =
      ap lines_of (sym (flat_map-map with_line_end (written_line graph) lines)) ∙ lines_again (map (written_line graph) lines) (all_clean lines)
