-- The lines of a text that is read without a cause spell the graph that they declare.
use Rattle.std.proofs.Common.{◌≡◌, ℕ, suc, ◌<◌, ◌≤◌, Bool, true, false, not, ◌||◌, cond, List, [], ◌∷◌, ◌++◌, length, get_or, take, All, Option, Some, None, is_some, ◌⊎◌, inl, inr, ⊎_elim, refl, ap, sym, ◌∙◌, subst, arith, append_assoc}
use Rattle.std.specs.List.{list_any, cons_option}
use Rattle.std.proofs.Math.Bool.{or-false}
use Rattle.std.proofs.lemmas.Bool.{and_parts, leb-true, false_from_ne_true}
use Rattle.std.proofs.lemmas.List.{append-nil}
use Rattle.std.proofs.lemmas.List.Elements.{All-nil, All-cons, All-same, filter-append, filter_map-append}
use Rattle.std.proofs.lemmas.List.Folds.{list_any-append}
use Rattle.std.proofs.lemmas.Option.{none-some}
use Rattle.tfpg_base.specs.Lines.{lines_of}
use Rattle.tfpg_base.specs.declared.limits.TheConstants.{LONGEST_LINE}
use Rattle.tfpg_graph.specs.declared.cause.GraphCause.TheVariants.{BadHeader, AfterEnd}
use Rattle.tfpg_graph.specs.Graph.{Tfpg}
use Rattle.tfpg_base.specs.Words.{line_of}
use Rattle.tfpg_graph.specs.declared.version.Version.{Version}
use Rattle.tfpg_graph.specs.Text.{header, version_said, version_of, Spells, content_lines}
use Rattle.tfpg_graph.specs.Statements.{is_empty_or_comment, Statement, statement_of, statements_of, is_skipped, ends_text, words_of_statement}
use Rattle.tfpg_graph.specs.Declares.{graph_said, said_by}
use Rattle.tfpg_graph.specs.Causes.{is_out_of_order, cause_of_said, cause_after}
use Rattle.tfpg_graph.specs.declared.reading.reader.ReadingStage.TheVariants.{Declarations, Ended}
use Rattle.tfpg_graph.specs.declared.reading.reader.Reader.{Reader}
use Rattle.tfpg_graph.specs.inside.reading.Turns.{ReaderRepresents}
use Rattle.tfpg_graph.proofs.lemmas.reading.causes.WithoutCause.{HasNoCause-from_none}
use Rattle.tfpg_graph.proofs.lemmas.reading.causes.NoCause.{HasNoCause}
use Rattle.tfpg_graph.proofs.lemmas.reading.saying.SaidBy.{header-said, version_said-first, statement_of-header}
use Rattle.tfpg_graph.proofs.lemmas.writing.LineLengths.{short_header}
use Rattle.tfpg_graph.proofs.lemmas.writing.WrittenVersion.{CanSpell, zero_least_in_one}
use Rattle.tfpg_graph.proofs.lemmas.reading.saying.SaidWords.{said_by_words, skipped_says_nothing}
use Rattle.tfpg_graph.proofs.lemmas.reading.spelling.SpelledSoFar.{SpellsSoFar, AreSpelled, statement_spelled}
use Rattle.tfpg_base.proofs.lemmas.lists.Choices.{cond-none_second}

-- ---- one line more

-- the line says something that has no cause, and the text has not ended
record SaysWithoutCause (version : Version) (before : List Statement) (line : List ℕ) : Type 0 where
  said : Statement
  says : statement_of version line ≡ Some said
  unended : list_any ends_text before ≡ false
  without : HasNoCause (is_out_of_order before said) (graph_said before) said

-- a line without a cause is skipped, or says something that has none
line_cases : (version : Version) (before : List Statement) (line : List ℕ) → cause_after version before line ≡ None
    → (is_skipped line ≡ true) ⊎ SaysWithoutCause version before line
line_cases version before line clean = passed (is_skipped line) refl clean
  where
    spoken : (o : Option Statement) → statement_of version line ≡ o → list_any ends_text before ≡ false
        → cause_of_said before o ≡ None → SaysWithoutCause version before line
    spoken None says unended clean = absurd cc
    spoken (Some said) says unended clean = record {
      said = said;
      says = says;
      unended = unended;
      without = HasNoCause-from_none (is_out_of_order before said) (graph_said before) said clean;
    }

    ended : (b : Bool) → list_any ends_text before ≡ b
        → cond b (Some AfterEnd) (cause_of_said before (statement_of version line)) ≡ None → SaysWithoutCause version before line
    ended true is clean = absurd cc
    ended false is clean = spoken (statement_of version line) refl is clean

    passed : (b : Bool) → is_skipped line ≡ b
        → cond b None (cond (list_any ends_text before) (Some AfterEnd) (cause_of_said before (statement_of version line))) ≡ None
        → (is_skipped line ≡ true) ⊎ SaysWithoutCause version before line
    passed true is clean = inl is
    passed false is clean = inr (ended (list_any ends_text before) refl clean)

-- a line without a cause is not too long
line_short : (version : Version) (before : List Statement) (line : List ℕ) → cause_after version before line ≡ None → length line ≤ LONGEST_LINE
line_short version before line clean = ⊎_elim
    (λ passed. leb-true (length line) LONGEST_LINE (and_parts (is_empty_or_comment line) _ passed).1)
    (λ saying. (said_by_words version line saying.said saying.says).0)
    (line_cases version before line clean)

-- a line that says something is not skipped
saying_is_content : (version : Version) (line : List ℕ) (said : Statement) → statement_of version line ≡ Some said → is_empty_or_comment line ≡ false
saying_is_content version line said says =
    false_from_ne_true (is_empty_or_comment line) (λ skipped. none-some said (sym (skipped_says_nothing version line skipped) ∙ says))

-- whether statements that have not ended have ended with one more
ended_push : (before : List Statement) (said : Statement) → list_any ends_text before ≡ false → list_any ends_text (before ++ said ∷ []) ≡ ends_text said
ended_push before said unended =
    list_any-append ends_text before (said ∷ []) ∙ (λ i. unended i || (ends_text said || false)) ∙ or-false (ends_text said)

-- A line without a cause keeps what is declared spelled.
line_spelled : (version : Version) (before : List Statement) (lines : List (List ℕ)) (line : List ℕ) → cause_after version before line ≡ None
    → AreSpelled version before lines → AreSpelled version (before ++ statements_of version (line ∷ [])) (lines ++ content_lines (line ∷ []))
line_spelled version before lines line clean so_far = ⊎_elim passed spoken (line_cases version before line clean)
  where
    passed : is_skipped line ≡ true → AreSpelled version (before ++ statements_of version (line ∷ [])) (lines ++ content_lines (line ∷ []))
    passed is =
        let skipped = (and_parts (is_empty_or_comment line) _ is).0 in
        let same_said : before ++ statements_of version (line ∷ []) ≡ before =
        ap (λ o. before ++ cons_option o []) (skipped_says_nothing version line skipped) ∙ append-nil before in
        let same_lines : lines ++ content_lines (line ∷ []) ≡ lines = ap (λ b. lines ++ cond (not b) (line ∷ []) []) skipped ∙ append-nil lines in
        subst (λ said. AreSpelled version said (lines ++ content_lines (line ∷ []))) (sym same_said) (subst (AreSpelled version before) (sym same_lines) so_far)

    spoken : SaysWithoutCause version before line → AreSpelled version (before ++ statements_of version (line ∷ [])) (lines ++ content_lines (line ∷ []))
    spoken is =
        let said = is.said in
        let words = said_by_words version line said is.says in
        let more_said : before ++ said ∷ [] ≡ before ++ statements_of version (line ∷ []) = ap (λ o. before ++ cons_option o []) (sym is.says) in
        let more_lines : lines ++ line_of (words_of_statement version said) ∷ [] ≡ lines ++ content_lines (line ∷ []) =
        ap (λ l. lines ++ l ∷ []) (sym words.1) ∙ ap (λ b. lines ++ cond (not b) (line ∷ []) []) (sym (saying_is_content version line said is.says)) in
        let ended : ends_text said ≡ list_any ends_text (before ++ said ∷ []) = sym (ended_push before said is.unended) in
        let spelled : SpellsSoFar version (graph_said (before ++ said ∷ [])) (ends_text said) (lines ++ line_of (words_of_statement version said) ∷ []) =
        statement_spelled version before lines said (subst (λ b. SpellsSoFar version (graph_said before) b lines) is.unended so_far) is.without words.2 in
        subst (λ what. AreSpelled version what (lines ++ content_lines (line ∷ []))) more_said
        (subst (AreSpelled version (before ++ said ∷ [])) more_lines
        (subst (λ b. SpellsSoFar version (graph_said (before ++ said ∷ [])) b (lines ++ line_of (words_of_statement version said) ∷ [])) ended spelled))

-- ---- all lines

-- none of the lines has a cause, after these statements
abbrev AreCleanAfter : Version → List Statement → List (List ℕ) → Type 0
AreCleanAfter version before [] = Unit {0}
AreCleanAfter version before (line ∷ lines) = (cause_after version before line ≡ None) × AreCleanAfter version (before ++ statements_of version (line ∷ [])) lines

are_clean_after : (version : Version) (before : List Statement) (lines : List (List ℕ))
    → ((index : ℕ) → index < length lines → cause_after version (before ++ statements_of version (take index lines)) (get_or lines index []) ≡ None)
    → AreCleanAfter version before lines
are_clean_after version before [] clean = tt
are_clean_after version before (line ∷ lines) clean = (
  ap (λ said. cause_after version said line) (sym (append-nil before)) ∙ clean 0 (omega arith),
  are_clean_after version (before ++ statements_of version (line ∷ [])) lines
      (λ index within. ap (λ said. cause_after version said (get_or lines index [])) (more index) ∙ clean (suc index) (omega arith)),
)
  where
    more : (index : ℕ)
        → before ++ statements_of version (line ∷ []) ++ statements_of version (take index lines) ≡ before ++ statements_of version (line ∷ take index lines)
    more index =
        append_assoc before (statements_of version (line ∷ [])) (statements_of version (take index lines))
        ∙ ap (λ said. before ++ said) (sym (filter_map-append (statement_of version) (line ∷ []) (take index lines)))

-- lines without a cause are not too long
lines_short : (version : Version) (before : List Statement) (lines : List (List ℕ)) → AreCleanAfter version before lines
    → All (λ line. length line ≤ LONGEST_LINE) lines
lines_short version before [] clean = All-nil (λ line. length line ≤ LONGEST_LINE)
lines_short version before (line ∷ lines) clean =
    All-cons (λ line. length line ≤ LONGEST_LINE) line lines (line_short version before line clean.0)
    (lines_short version (before ++ statements_of version (line ∷ [])) lines clean.1)

-- Lines without a cause keep what is declared spelled.
lines_spelled : (version : Version) (before : List Statement) (after lines : List (List ℕ)) → AreSpelled version before after
    → AreCleanAfter version before lines → AreSpelled version (before ++ statements_of version lines) (after ++ content_lines lines)
lines_spelled version before after [] so_far clean =
    subst (λ said. AreSpelled version said (after ++ [])) (sym (append-nil before)) (subst (AreSpelled version before) (sym (append-nil after)) so_far)
lines_spelled version before after (line ∷ lines) so_far clean =
    let first = line_spelled version before after line clean.0 so_far in
    let rest = lines_spelled version (before ++ statements_of version (line ∷ [])) (after ++ content_lines (line ∷ [])) lines first clean.1 in
    let same_said : before ++ statements_of version (line ∷ []) ++ statements_of version lines ≡ before ++ statements_of version (line ∷ lines) =
    append_assoc before _ _ ∙ ap (λ said. before ++ said) (sym (filter_map-append (statement_of version) (line ∷ []) lines)) in
    let same_lines : after ++ content_lines (line ∷ []) ++ content_lines lines ≡ after ++ content_lines (line ∷ lines) =
    append_assoc after _ _ ∙ ap (λ more. after ++ more) (sym (filter-append (λ line. not (is_empty_or_comment line)) (line ∷ []) lines)) in
    subst (λ said. AreSpelled version said (after ++ content_lines (line ∷ lines))) same_said
    (subst (AreSpelled version (before ++ statements_of version (line ∷ []) ++ statements_of version lines)) same_lines rest)

-- what a test says of the end
ended_by_test : (b : Bool) → cond b Ended Declarations ≡ Ended → b ≡ true
ended_by_test true ended = refl
ended_by_test false ended = absurd cc

-- What is read of a whole text: after the header are lines without a cause, which declare the graph and end.
record IsReadWhole (graph : Tfpg) (lines : List (List ℕ)) : Type 0 where
  version : Version
  after : List (List ℕ)
  begins : lines ≡ header version ∷ after
  clean : AreCleanAfter version [] after
  declared : graph ≡ graph_said (statements_of version after)
  ended : list_any ends_text (statements_of version after) ≡ true

read_whole : (progress : Reader) (lines : List (List ℕ)) → ReaderRepresents progress lines → progress.part ≡ Ended
    → IsReadWhole progress.declared lines
read_whole progress [] stands ended = absurd cc
read_whole progress (first ∷ after) stands ended =
    record {
      version = version;
      after = after;
      begins = ap (λ line. line ∷ after) (header-said first version said);
      clean = are_clean_after version [] after
          (λ index within. ap (λ said. cause_after version said (get_or after index [])) (sym (says_nothing (take index after)))
          ∙ stands.clean (suc index) (omega arith));
      declared = stands.graph ∙ ap graph_said (says_nothing after);
      ended = ap (list_any ends_text) (sym (says_nothing after))
          ∙ ended_by_test (list_any ends_text (said_by (first ∷ after))) (sym stands.part ∙ ended);
    }
  where
    version : Version
    version = version_of (first ∷ after)

    said : version_said first ≡ Some version
    said = version_said-first first (cond-none_second (is_some (version_said first)) BadHeader (stands.clean 0 (omega arith)))

    says_nothing : (lines : List (List ℕ)) → statements_of version (first ∷ lines) ≡ statements_of version lines
    says_nothing lines = ap (λ o. cons_option o (statements_of version lines)) (statement_of-header version version first said)

-- before anything is said, nothing is spelled
nothing_spelled : (version : Version) → AreSpelled version [] []
nothing_spelled version =
    record { edge_lines = []; edges = tt; all = refl; kinds = All-nil (λ node. CanSpell version node.kind); some_mode = λ ended. absurd cc }

-- the graph of a whole text is spelled by the lines after the header
whole_spelled : (graph : Tfpg) (lines : List (List ℕ)) (whole : IsReadWhole graph lines)
    → SpellsSoFar whole.version graph true (content_lines whole.after)
whole_spelled graph lines whole =
    let spelled = lines_spelled whole.version [] [] whole.after (nothing_spelled whole.version) whole.clean in
    subst (λ g. SpellsSoFar whole.version g true (content_lines whole.after)) (sym whole.declared)
    (subst (λ b. SpellsSoFar whole.version (graph_said (statements_of whole.version whole.after)) b (content_lines whole.after)) whole.ended spelled)

-- A text that is read to its end without a cause spells its graph.
pub Spells-read : (text : List ℕ) (progress : Reader) → ReaderRepresents progress (lines_of text) → progress.part ≡ Ended
    → Spells text progress.declared
Spells-read text progress stands ended =
    let whole = read_whole progress (lines_of text) stands ended in
    let spelled = whole_spelled progress.declared (lines_of text) whole in
    record {
      version = whole.version;
      after = whole.after;
      lines = whole.begins;
      said = record {
        edge_lines = spelled.edge_lines;
        edges = spelled.edges;
        all = spelled.all;
        zero_least = zero_least_in_one whole.version progress.declared.nodes spelled.kinds;
      };
      short = All-same (λ line. length line ≤ LONGEST_LINE) (lines_of text) (header whole.version ∷ whole.after) whole.begins
          (All-cons (λ line. length line ≤ LONGEST_LINE) (header whole.version) whole.after (short_header whole.version)
          (lines_short whole.version [] whole.after whole.clean));
    }

-- Lines that are read to their end without a cause declare a mode.
pub has_mode : (lines : List (List ℕ)) (progress : Reader) → ReaderRepresents progress lines → progress.part ≡ Ended
    → 0 < length progress.declared.modes
has_mode lines progress stands ended = (whole_spelled progress.declared lines (read_whole progress lines stands ended)).some_mode refl
