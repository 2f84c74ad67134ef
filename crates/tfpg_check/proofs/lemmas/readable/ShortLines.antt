-- A line whose numbers are within their limits is short.
use Rattle.std.proofs.Common.{◌≡◌, ℕ, ◌+◌, ◌<◌, ◌≤◌, ◌^◌, Bool, true, false, List, [], ◌∷◌, ◌++◌, length, map, get_or, Option, Some, None, codes, refl, ap, arith, slice_get, eqb, leb}
use Rattle.std.specs.Prelude.{decimal, option_map, option_and_then, unwrap_or}
use Rattle.std.specs.List.{All, AllByRecursion}
use Rattle.std.proofs.lemmas.Bool.{leb-true}
use Rattle.std.proofs.lemmas.Fmt.{length-decimal-le}
use Rattle.std.proofs.lemmas.List.{length-append, length-map}
use Rattle.std.proofs.lemmas.List.Elements.{All-append, All-cons, All-from_recursion, All-map}
use Rattle.tfpg_base.specs.declared.limits.TheConstants.{LONGEST_LINE, LONGEST_NAME, MAX_LINE_NUMBER, MAX_MEMBERS, MAX_TIME}
use Rattle.tfpg_base.specs.Hypothesis.{Hypothesis}
use Rattle.tfpg_base.specs.TextLine.{separated}
use Rattle.tfpg_base.specs.Words.{is_name, line_of}
use Rattle.tfpg_base.proofs.lemmas.WordLengths.{name_short}
use Rattle.tfpg_base.proofs.lemmas.lists.Elements.{All-at}
use Rattle.tfpg_base.proofs.lemmas.lists.Joined.{join-push, length-join}
use Rattle.tfpg_graph.specs.declared.edge.Edge.{Edge}
use Rattle.tfpg_graph.specs.Graph.{Node, Tfpg, failure_at, failure_word, name_at, name_word}
use Rattle.tfpg_graph.specs.Valid.{IsValid}
use Rattle.tfpg_log.specs.declared.refusal.Refusal.{Refusal}
use Rattle.tfpg_log.specs.declared.refusal.Refusal.TheVariants.{BadLine, BadNumber, TimeTooLarge, TimeBack, UnknownName, NotMonitored, NotAMode, LogFull, ModesFull}
use Rattle.tfpg_evidence.specs.declared.clause_name.ClauseName.{ClauseName}
use Rattle.tfpg_evidence.specs.declared.clause_name.ClauseName.TheVariants.{OrMay, AndMay, OrMust, AndMust}
use Rattle.tfpg_evidence.specs.declared.reason.Reason.{Reason}
use Rattle.tfpg_evidence.specs.declared.reason.Reason.TheVariants.{Zero, Top, Unreached, From, Upto, Quiet, Pick}
use Rattle.tfpg_log.specs.declared.refused_line.RefusedLine.{RefusedLine}
use Rattle.tfpg_log.specs.declared.refused_line.RefusedLine.TheVariants.{TooLong, Offer}
use Rattle.tfpg_report.specs.declared.report_line.ReportLine.{ReportLine}
use Rattle.tfpg_report.specs.declared.report_line.ReportLine.TheVariants.{Head, OldHead, Refused, Round, Hyp, Split, Cycle, Why, Again, Ranked, At, Open, Rejected, Counts, Panel}
use Rattle.tfpg_report.specs.SetText.{hyphen_or_joined, set_word}
use Rattle.tfpg_graph.specs.Members.{doubt_word, member_words}
use Rattle.tfpg_report.specs.LineWords.{edge_words, head_words, lost_words, old_head_words, robustness_word}
use Rattle.tfpg_report.specs.ReportLines.{IsCauseWithin, line_words, written_line}
use Rattle.tfpg_check.proofs.lemmas.readable.SmallNumbers.{HasFewMembers, HasSmallName, HasSmallNumbers, HasSmallReason}

-- ---- words

-- The word is as short as a name.
abbrev IsShort : List ℕ → Type 0
IsShort word = length word ≤ LONGEST_NAME

-- Few words, each short.
abbrev AreFew : List (List ℕ) → Type 0
AreFew words = All IsShort words × (length words ≤ 9)

keyword : (word : List ℕ) → leb (length word) 32 ≡ true → IsShort word
keyword word fits = leb-true (length word) 32 fits

-- the text of a number of 64 bits has at most 20 digits
digits_short : (n : ℕ) → n < 2 ^ 64 → length (decimal n) ≤ 20
digits_short n small = length-decimal-le 20 n (omega arith) (omega (arith, small)) small

number_short : (n : ℕ) → n < 2 ^ 64 → IsShort (decimal n)
number_short n small = omega (arith, digits_short n small)

robustness_short : (alarmed monitored : ℕ) → alarmed < 2 ^ 32 → monitored < 2 ^ 32 → IsShort (robustness_word alarmed monitored)
robustness_short alarmed monitored small also =
    omega (
      arith,
      length-append (decimal alarmed ++ codes "/") (decimal monitored),
      length-append (decimal alarmed) (codes "/"),
      length-decimal-le 10 alarmed (omega arith) (omega (arith, small)) (omega (arith, small)),
      length-decimal-le 10 monitored (omega arith) (omega (arith, also)) (omega (arith, also)),
    )

by_recursion : (words : List (List ℕ)) → AllByRecursion IsShort words → length words ≤ 9 → AreFew words
by_recursion words short few = (All-from_recursion IsShort words short, few)

-- few short words make a short line
few_words : (words : List (List ℕ)) → AreFew words → length (line_of words) ≤ LONGEST_LINE
few_words words are =
    let few = are.1 in
    omega (arith, length-join 32 32 words are.0, few)

length-separated : (separator : ℕ) (first : Bool) (part : List ℕ) → length (separated separator first part) ≤ length part + 1
length-separated separator true part = omega arith
length-separated separator false part = omega arith

-- So do they with one long word after them.
with_long : (words : List (List ℕ)) (last : List ℕ) → AreFew words → length last ≤ 2200 → length (line_of (words ++ last ∷ [])) ≤ LONGEST_LINE
with_long words last are long =
    let few = are.1 in
    omega (
      arith,
      ap length (join-push 32 words last),
      length-append (line_of words) (separated 32 (eqb (length words) 0) last),
      length-separated 32 (eqb (length words) 0) last,
      length-join 32 32 words are.0,
      few,
      long,
    )

-- ---- words of a graph

module _ (graph : Tfpg) (valid : IsValid graph) where
  -- a node's name
  name : (node : ℕ) → IsShort (name_word graph node)
  name node = by (slice_get graph.nodes node) refl
    where
      by : (found : Option Node) → slice_get graph.nodes node ≡ found → IsShort (unwrap_or (option_map (λ (n : Node). n.name) found) [])
      by None at = omega arith
      by (Some n) at = name_short n.name (All-at (λ (n : Node). is_name n.name ≡ true) graph.nodes node n valid.so_far.node_names at)

  -- the name of a failure mode
  failure : (position : ℕ) → IsShort (failure_word graph position)
  failure position = by (failure_at graph position)
    where
      by : (found : Option ℕ) → IsShort (unwrap_or (option_and_then (name_at graph) found) [])
      by None = omega arith
      by (Some node) = name node

  -- the text of a set of few members
  set_short : (hypothesis : Hypothesis) → HasFewMembers hypothesis → length (set_word graph hypothesis) ≤ 2200
  set_short hypothesis few = by (member_words graph hypothesis) members (omega (arith, many, few))
    where
      many : length (member_words graph hypothesis) ≡ length hypothesis.set + length hypothesis.doubts
      many =
          omega (
            arith,
            length-append (map (failure_word graph) hypothesis.set) (map (doubt_word graph) hypothesis.doubts),
            length-map hypothesis.set (failure_word graph),
            length-map hypothesis.doubts (doubt_word graph),
          )

      members : All (λ word. length word ≤ 33) (member_words graph hypothesis)
      members =
          All-append (λ word. length word ≤ 33) (map (failure_word graph) hypothesis.set) (map (doubt_word graph) hypothesis.doubts)
          (All-map (λ word. length word ≤ 33) (failure_word graph) hypothesis.set (λ k d within. omega (arith, failure (get_or hypothesis.set k d))))
          (All-map (λ word. length word ≤ 33) (doubt_word graph) hypothesis.doubts (λ k d within. omega (arith, name (get_or hypothesis.doubts k d))))

      by : (words : List (List ℕ)) → All (λ word. length word ≤ 33) words → length words ≤ MAX_MEMBERS → length (hyphen_or_joined words) ≤ 2200
      by [] short few = omega arith
      by (word ∷ words) short few = omega (arith, length-join 44 33 (word ∷ words) short, few)

  -- the names of the ends of an edge
  ends_short : (edge : ℕ) → All IsShort (edge_words graph edge) × (length (edge_words graph edge) ≤ 2)
  ends_short edge = by (slice_get graph.edges edge)
    where
      by : (found : Option Edge) → All IsShort (unwrap_or (option_map (λ (e : Edge). name_word graph e.source ∷ name_word graph e.target ∷ []) found) [])
          × (length (unwrap_or (option_map (λ (e : Edge). name_word graph e.source ∷ name_word graph e.target ∷ []) found) []) ≤ 2)
      by None = (All-from_recursion IsShort [] tt, omega arith)
      by (Some e) = (All-from_recursion IsShort (name_word graph e.source ∷ name_word graph e.target ∷ []) (name e.source, (name e.target, tt)), omega arith)

  -- ---- lines

  edge_short : (word : List ℕ) (edge span horizon : ℕ) → IsShort word → span < 2 ^ 32 → horizon ≤ MAX_TIME
      → AreFew (codes "split" ∷ word ∷ edge_words graph edge ++ decimal span ∷ decimal horizon ∷ [])
  edge_short word edge span horizon short small upto =
      let ends = ends_short edge in
      let two = ends.1 in
      let long = length-append (edge_words graph edge) (decimal span ∷ decimal horizon ∷ []) in (
        All-cons IsShort (codes "split") (word ∷ edge_words graph edge ++ decimal span ∷ decimal horizon ∷ []) (keyword (codes "split") refl)
            (All-cons IsShort word (edge_words graph edge ++ decimal span ∷ decimal horizon ∷ []) short
            (All-append IsShort (edge_words graph edge) (decimal span ∷ decimal horizon ∷ []) ends.0
            (All-from_recursion IsShort (decimal span ∷ decimal horizon ∷ []) (number_short span (omega (arith, small)), (number_short horizon (omega (arith, upto)), tt))))),
        omega (arith, two, long),
      )

  node_short : (word : List ℕ) (node span horizon : ℕ) → IsShort word → span < 2 ^ 32 → horizon ≤ MAX_TIME
      → AreFew (codes "split" ∷ word ∷ name_word graph node ∷ decimal span ∷ decimal horizon ∷ [])
  node_short word node span horizon short small upto =
      by_recursion (codes "split" ∷ word ∷ name_word graph node ∷ decimal span ∷ decimal horizon ∷ [])
      (keyword (codes "split") refl, (short, (name node, (number_short span (omega (arith, small)), (number_short horizon (omega (arith, upto)), tt))))) (omega arith)

  split_short : (named : ClauseName) → HasSmallName named → AreFew (line_words graph (Split named))
  split_short (OrMay node span horizon) small = node_short (codes "ormay") node span horizon (keyword (codes "ormay") refl) small.0 small.1
  split_short (AndMay edge span horizon) small = edge_short (codes "andmay") edge span horizon (keyword (codes "andmay") refl) small.0 small.1
  split_short (OrMust edge span horizon) small = edge_short (codes "ormust") edge span horizon (keyword (codes "ormust") refl) small.0 small.1
  split_short (AndMust node span horizon) small = node_short (codes "andmust") node span horizon (keyword (codes "andmust") refl) small.0 small.1

  reason_short : (reason : Reason) → HasSmallReason reason → AreFew (line_words graph (Why reason))
  reason_short (Zero node) small =
      by_recursion (line_words graph (Why (Zero node))) (keyword (codes "why") refl, (keyword (codes "zero") refl, (name node, tt))) (omega arith)
  reason_short (Top node) small =
      by_recursion (line_words graph (Why (Top node))) (keyword (codes "why") refl, (keyword (codes "top") refl, (name node, tt))) (omega arith)
  reason_short (Unreached node horizon) small =
      by_recursion (line_words graph (Why (Unreached node horizon)))
      (keyword (codes "why") refl, (keyword (codes "unreached") refl, (name node, (number_short horizon (omega (arith, small)), tt)))) (omega arith)
  reason_short (From event) small =
      by_recursion (line_words graph (Why (From event))) (keyword (codes "why") refl, (keyword (codes "from") refl, (number_short event (omega (arith, small)), tt))) (omega arith)
  reason_short (Upto event) small =
      by_recursion (line_words graph (Why (Upto event))) (keyword (codes "why") refl, (keyword (codes "upto") refl, (number_short event (omega (arith, small)), tt))) (omega arith)
  reason_short (Quiet event node) small =
      by_recursion (line_words graph (Why (Quiet event node)))
      (keyword (codes "why") refl, (keyword (codes "quiet") refl, (number_short event (omega (arith, small)), (name node, tt)))) (omega arith)
  reason_short (Pick split constraint) small =
      let few = small.0 in
      let also = small.1 in
      by_recursion (line_words graph (Why (Pick split constraint)))
      (keyword (codes "why") refl, (keyword (codes "pick") refl, (number_short split (omega (arith, few)), (number_short constraint (omega (arith, also)), tt)))) (omega arith)

  -- a refusal by its name
  refused_by : (line : ℕ) (word : List ℕ) → line ≤ MAX_LINE_NUMBER → IsShort word → AreFew (codes "refused" ∷ decimal line ∷ word ∷ [])
  refused_by line word small short =
      by_recursion (codes "refused" ∷ decimal line ∷ word ∷ []) (keyword (codes "refused") refl, (number_short line (omega (arith, small)), (short, tt))) (omega arith)

  refusal_short : (refusal : Refusal) (line : ℕ) → line ≤ MAX_LINE_NUMBER → IsCauseWithin (Offer refusal) → AreFew (line_words graph (Refused line (Offer refusal)))
  refusal_short BadLine line small within = refused_by line (codes "BadLine") small (keyword (codes "BadLine") refl)
  refusal_short BadNumber line small within = refused_by line (codes "BadNumber") small (keyword (codes "BadNumber") refl)
  refusal_short TimeTooLarge line small within = refused_by line (codes "TimeTooLarge") small (keyword (codes "TimeTooLarge") refl)
  refusal_short (TimeBack last) line small within =
      by_recursion (line_words graph (Refused line (Offer (TimeBack last))))
      (keyword (codes "refused") refl, (number_short line (omega (arith, small)), (keyword (codes "TimeBack") refl, (number_short last (omega (arith, within)), tt)))) (omega arith)
  refusal_short UnknownName line small within = refused_by line (codes "UnknownName") small (keyword (codes "UnknownName") refl)
  refusal_short NotMonitored line small within = refused_by line (codes "NotMonitored") small (keyword (codes "NotMonitored") refl)
  refusal_short NotAMode line small within = refused_by line (codes "NotAMode") small (keyword (codes "NotAMode") refl)
  refusal_short LogFull line small within = refused_by line (codes "LogFull") small (keyword (codes "LogFull") refl)
  refusal_short ModesFull line small within = refused_by line (codes "ModesFull") small (keyword (codes "ModesFull") refl)

  refused_short : (line : ℕ) (cause : RefusedLine) → line ≤ MAX_LINE_NUMBER → IsCauseWithin cause → AreFew (line_words graph (Refused line cause))
  refused_short line TooLong small within = refused_by line (codes "TooLong") small (keyword (codes "TooLong") refl)
  refused_short line (Offer refusal) small within = refusal_short refusal line small within

  lost_short : (panel : ℕ) (memory : Bool) → panel ≤ MAX_LINE_NUMBER → AreFew (lost_words panel memory)
  lost_short panel true small =
      by_recursion (lost_words panel true) (keyword (codes "panel") refl, (number_short panel (omega (arith, small)), (keyword (codes "memory") refl, tt))) (omega arith)
  lost_short panel false small =
      by_recursion (lost_words panel false) (keyword (codes "panel") refl, (number_short panel (omega (arith, small)), (keyword (codes "lost") refl, tt))) (omega arith)

  -- A line with small numbers is short.
  pub line_short : (line : ReportLine) → HasSmallNumbers line → length (written_line graph line) ≤ LONGEST_LINE
  line_short (Head terms) small =
      let k = small.few_members in
      let doubt = small.few_doubts in
      let budget = small.few_splits in
      few_words (head_words terms)
      (by_recursion (head_words terms) (
        keyword (codes "report") refl,
        (
          keyword (codes "2") refl,
          (
            keyword (codes "k") refl,
            (
              number_short terms.k (omega (arith, k)),
              (
                keyword (codes "doubt") refl,
                (number_short terms.doubt (omega (arith, doubt)), (keyword (codes "budget") refl, (number_short terms.budget (omega (arith, budget)), tt))),
              ),
            ),
          ),
        ),
      ) (omega arith))
  line_short (OldHead k budget) small =
      let few = small.few_members in
      let splits = small.few_splits in
      few_words (old_head_words k budget)
      (by_recursion (old_head_words k budget) (
        keyword (codes "report") refl,
        (
          keyword (codes "1") refl,
          (keyword (codes "k") refl, (number_short k (omega (arith, few)), (keyword (codes "budget") refl, (number_short budget (omega (arith, splits)), tt)))),
        ),
      ) (omega arith))
  line_short (Refused line cause) small = few_words (line_words graph (Refused line cause)) (refused_short line cause small.0 small.1)
  line_short (Round number line now) small =
      let one = small.0 in
      let two = small.1 in
      let three = small.2 in
      few_words (line_words graph (Round number line now))
      (by_recursion (line_words graph (Round number line now))
      (keyword (codes "round") refl, (number_short number (omega (arith, one)), (number_short line (omega (arith, two)), (number_short now (omega (arith, three)), tt)))) (omega arith))
  line_short (Hyp number) small =
      few_words (line_words graph (Hyp number)) (by_recursion (line_words graph (Hyp number)) (keyword (codes "hyp") refl, (number_short number (omega (arith, small)), tt)) (omega arith))
  line_short (Split named) small = few_words (line_words graph (Split named)) (split_short named small)
  line_short (Cycle count) small =
      few_words (line_words graph (Cycle count)) (by_recursion (line_words graph (Cycle count)) (keyword (codes "cycle") refl, (number_short count (omega (arith, small)), tt)) (omega arith))
  line_short (Why reason) small = few_words (line_words graph (Why reason)) (reason_short reason small)
  line_short Again small = few_words (line_words graph Again) (by_recursion (line_words graph Again) (keyword (codes "again") refl, tt) (omega arith))
  line_short (Ranked number cost alarmed monitored hypothesis) small =
      let one = small.0 in
      let two = small.1 in
      with_long
      (codes "ranked" ∷ decimal number ∷ codes "cost" ∷ decimal cost ∷ codes "robust" ∷ robustness_word alarmed monitored ∷ codes "set" ∷ [])
      (set_word graph hypothesis)
      (by_recursion (codes "ranked" ∷ decimal number ∷ codes "cost" ∷ decimal cost ∷ codes "robust" ∷ robustness_word alarmed monitored ∷ codes "set" ∷ []) (
        keyword (codes "ranked") refl,
        (
          number_short number (omega (arith, one)),
          (
            keyword (codes "cost") refl,
            (
              number_short cost (omega (arith, two)),
              (keyword (codes "robust") refl, (robustness_short alarmed monitored small.2 small.3, (keyword (codes "set") refl, tt))),
            ),
          ),
        ),
      ) (omega arith))
      (set_short hypothesis small.4)
  line_short (At activation) small =
      few_words (line_words graph (At activation))
      (by_recursion (line_words graph (At activation)) (keyword (codes "at") refl, (name activation.node, (number_short activation.time (omega (arith, small)), tt))) (omega arith))
  line_short (Open number hypothesis) small =
      let one = small.0 in
      with_long (codes "open" ∷ decimal number ∷ codes "set" ∷ []) (set_word graph hypothesis)
      (by_recursion (codes "open" ∷ decimal number ∷ codes "set" ∷ []) (keyword (codes "open") refl, (number_short number (omega (arith, one)), (keyword (codes "set") refl, tt))) (omega arith))
      (set_short hypothesis small.1)
  line_short (Rejected number hypothesis) small =
      let one = small.0 in
      with_long (codes "rejected" ∷ decimal number ∷ codes "set" ∷ []) (set_word graph hypothesis)
      (by_recursion (codes "rejected" ∷ decimal number ∷ codes "set" ∷ []) (keyword (codes "rejected") refl, (number_short number (omega (arith, one)), (keyword (codes "set") refl, tt))) (omega arith))
      (set_short hypothesis small.1)
  line_short (Counts counts) small =
      let one = small.0 in
      let two = small.1 in
      let three = small.2 in
      let four = small.3 in
      few_words (line_words graph (Counts counts))
      (by_recursion (line_words graph (Counts counts)) (
        keyword (codes "counts") refl,
        (
          keyword (codes "ranked") refl,
          (
            number_short counts.ranked (omega (arith, one)),
            (
              keyword (codes "covered") refl,
              (
                number_short counts.covered (omega (arith, two)),
                (
                  keyword (codes "rejected") refl,
                  (number_short counts.rejected (omega (arith, three)), (keyword (codes "open") refl, (number_short counts.unsettled (omega (arith, four)), tt))),
                ),
              ),
            ),
          ),
        ),
      ) (omega arith))
  line_short (Panel panel memory) small = few_words (line_words graph (Panel panel memory)) (lost_short panel memory small)
