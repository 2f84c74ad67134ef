-- The text of a map spells it.
use Rattle.std.proofs.Common.{◌≡◌, ℕ, ◌+◌, ◌*◌, ◌≤◌, List, [], ◌∷◌, ◌++◌, length, map, flat_map, All, false, IsTrue, eqb, codes, refl, sym, ap, subst, ◌∙◌, arith, length-append}
use Rattle.std.specs.Prelude.{decimal}
use Rattle.std.proofs.lemmas.List.{append-nil, length-map}
use Rattle.std.proofs.lemmas.List.Elements.{All-nil, All-cons, All-head, All-tail, All-weaker, All-append}
use Rattle.std.proofs.lemmas.List.Folds.{flat_map-map}
use Rattle.tfpg_base.specs.Hypothesis.{Hypothesis, believing}
use Rattle.tfpg_base.specs.declared.activation.Activation.{Activation}
use Rattle.tfpg_base.specs.Lines.{HasNoLineEnd, lines_of, with_line_end}
use Rattle.tfpg_base.specs.declared.limits.TheConstants.{LONGEST_LINE}
use Rattle.tfpg_base.specs.Trace.{IsRisingByNode}
use Rattle.tfpg_base.proofs.lemmas.LinesOf.{lines_again}
use Rattle.tfpg_base.proofs.lemmas.Separators.{name_lacks}
use Rattle.tfpg_base.proofs.lemmas.lists.Lacking.{lacks_checked, decimal_lacks}
use Rattle.tfpg_base.proofs.lemmas.WordLengths.{name_short, number_short}
use Rattle.tfpg_base.proofs.lemmas.lists.Distinct.{length-le_distinct}
use Rattle.tfpg_base.proofs.lemmas.lists.Joined.{length-join}
use Rattle.tfpg_base.proofs.lemmas.lists.Ordered.{Rises-differ}
use Rattle.tfpg_graph.specs.Graph.{Tfpg, name_word, failures, IsSetOf, failure_word, is_monitored}
use Rattle.tfpg_graph.specs.Valid.{IsValid}
use Rattle.tfpg_graph.proofs.lemmas.reading.spelling.SpelledEdges.{is_name-name_word}
use Rattle.tfpg_report.specs.declared.report_line.ReportLine.TheVariants.{At}
use Rattle.tfpg_report.specs.ReportLines.{written_line}
use Rattle.tfpg_report.specs.inside.LineNames.{activation_line}
use Rattle.tfpg_report.specs.SetText.{IsHypothesisOf, hyphen_or_joined, set_word}
use Rattle.tfpg_graph.specs.Members.{member_words}
use Rattle.tfpg_report.proofs.lemmas.MemberWords.{IsMemberWord, member_short, member_words_are}
use Rattle.tfpg_report.proofs.lemmas.SetWords.{set_word-no_line_end}
use Rattle.tfpg_map.specs.Spelling.{IsActivationOf, SpellsMap, set_line}
use Rattle.tfpg_map.specs.MapText.{map_text}

-- a text without a line end, of at most so many bytes
record IsLinePart (limit : ℕ) (text : List ℕ) : Type 0 where
  lacks : HasNoLineEnd text
  few : length text ≤ limit

-- words for members, as the text of a set, are not long
members_short : (words : List (List ℕ)) → All IsMemberWord words → length (hyphen_or_joined words) ≤ 34 * length words + 1
members_short [] are = omega arith
members_short (word ∷ words) are = omega (arith, length-join 44 33 (word ∷ words) (All-weaker IsMemberWord (λ w. length w ≤ 33) member_short (word ∷ words) are))

module _ (graph : Tfpg) (valid : IsValid graph) where
  -- ---- the line of a set

  set_line_is : (hypothesis : Hypothesis) → IsHypothesisOf graph hypothesis → length (set_line graph hypothesis) ≤ LONGEST_LINE → IsLinePart LONGEST_LINE (set_line graph hypothesis)
  set_line_is hypothesis of short = record {
    lacks = All-append (λ byte. eqb byte 10 ≡ false) (codes "set") (32 ∷ set_word graph hypothesis) (lacks_checked 10 (codes "set") refl)
        (All-cons (λ byte. eqb byte 10 ≡ false) 32 (set_word graph hypothesis) refl (set_word-no_line_end graph valid hypothesis of));
    few = short;
  }

  -- a set of failure modes, without an ignored monitor
  of_believing : (set : List ℕ) → IsSetOf graph set → IsHypothesisOf graph (believing set)
  of_believing set of = record { set = of; rising = λ i j d lt below. absurd (omega arith); monitored = All-nil (λ node. IsTrue (is_monitored graph node)) }

  -- its line is not too long
  believing_short : (set : List ℕ) → IsSetOf graph set → length (set_line graph (believing set)) ≤ LONGEST_LINE
  believing_short set of =
      let words = member_words graph (believing set) in
      let count = length-le_distinct set (length (failures graph)) (Rises-differ set of.rising) of.members in
      let as_many : length words ≡ length set = ap length (append-nil (map (failure_word graph) set)) ∙ length-map set (failure_word graph) in
      omega (arith, members_short words (member_words_are graph (believing set) valid (of_believing set of)), as_many, count, valid.so_far.few_failures)

  -- ---- the lines of activations

  at_line_is : (activation : Activation) → IsActivationOf graph activation → IsLinePart LONGEST_LINE (activation_line graph activation)
  at_line_is activation of =
      let named = is_name-name_word graph activation.node of.in_graph valid.so_far.node_names in
      let name = name_word graph activation.node in
      let time = decimal activation.time in
      let time_few = number_short activation.time of.in_range in
      record {
        lacks = All-append (λ byte. eqb byte 10 ≡ false) (codes "at") (32 ∷ name ++ 32 ∷ time) (lacks_checked 10 (codes "at") refl)
            (All-cons (λ byte. eqb byte 10 ≡ false) 32 (name ++ 32 ∷ time) refl
            (All-append (λ byte. eqb byte 10 ≡ false) name (32 ∷ time) (name_lacks 10 name refl named)
            (All-cons (λ byte. eqb byte 10 ≡ false) 32 time refl (decimal_lacks 10 activation.time refl (omega (arith, of.in_range))))));
        few = omega (arith, length-append name (32 ∷ time), name_short name named, time_few);
      }

  activation_lines_are : (trace : List Activation) → All (IsActivationOf graph) trace → All (IsLinePart LONGEST_LINE) (map (activation_line graph) trace)
  activation_lines_are [] of = All-nil (IsLinePart LONGEST_LINE)
  activation_lines_are (first ∷ others) of =
      All-cons (IsLinePart LONGEST_LINE) (activation_line graph first) (map (activation_line graph) others) (at_line_is first (All-head (IsActivationOf graph) first others of))
      (activation_lines_are others (All-tail (IsActivationOf graph) first others of))

  -- ---- the whole text

  module _ (hypothesis : Hypothesis) (trace : List Activation) (of : IsHypothesisOf graph hypothesis) (short : length (set_line graph hypothesis) ≤ LONGEST_LINE) (of_nodes : All (IsActivationOf graph) trace) where
    abbrev lines : List (List ℕ)
    lines = set_line graph hypothesis ∷ map (activation_line graph) trace

    lines_are : All (IsLinePart LONGEST_LINE) lines
    lines_are = All-cons (IsLinePart LONGEST_LINE) (set_line graph hypothesis) (map (activation_line graph) trace) (set_line_is hypothesis of short) (activation_lines_are trace of_nodes)

    text_is : map_text graph hypothesis trace ≡ flat_map with_line_end lines
    text_is = ap (λ (text : List ℕ). with_line_end (set_line graph hypothesis) ++ text)
        (flat_map-map (λ line. with_line_end (written_line graph line)) At trace ∙ sym (flat_map-map with_line_end (activation_line graph) trace))

    spelled : lines_of (map_text graph hypothesis trace) ≡ lines
    spelled =
        ap lines_of text_is ∙ lines_again lines (All-weaker (IsLinePart LONGEST_LINE) HasNoLineEnd (λ line part. part.lacks) lines lines_are)

    spells : IsRisingByNode trace → SpellsMap graph (lines_of (map_text graph hypothesis trace)) hypothesis trace
    spells rising = record {
      of_graph = of;
      listed = trace;
      of_nodes = of_nodes;
      once = λ i j d before within same. omega (arith, rising i j d before within, same);
      spelled = spelled;
      short = subst (All (λ line. length line ≤ LONGEST_LINE)) (sym spelled)
          (All-weaker (IsLinePart LONGEST_LINE) (λ line. length line ≤ LONGEST_LINE) (λ line part. part.few) lines lines_are);
      rising = rising;
      same_times = λ node. refl;
    }

-- The text of a map of a valid graph spells it, where the line of its set is not too long.
pub written_map : (graph : Tfpg) (hypothesis : Hypothesis) (trace : List Activation) → IsValid graph → IsHypothesisOf graph hypothesis → All (IsActivationOf graph) trace → IsRisingByNode trace
    → length (set_line graph hypothesis) ≤ LONGEST_LINE → SpellsMap graph (lines_of (map_text graph hypothesis trace)) hypothesis trace
written_map graph hypothesis trace valid of of_nodes rising short = spells graph valid hypothesis trace of short of_nodes rising

-- It never is where no monitor is ignored.
pub written_believing : (graph : Tfpg) (set : List ℕ) (trace : List Activation) → IsValid graph → IsSetOf graph set → All (IsActivationOf graph) trace → IsRisingByNode trace
    → SpellsMap graph (lines_of (map_text graph (believing set) trace)) (believing set) trace
written_believing graph set trace valid of of_nodes rising =
    written_map graph (believing set) trace valid (of_believing graph valid set of) of_nodes rising (believing_short graph valid set of)
