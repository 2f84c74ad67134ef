-- What is read represents the lines: for none at first, and after each turn for one line more.
use Rattle.std.proofs.Common.{◌≡◌, ℕ, ◌<◌, Bool, true, false, cond, ◌||◌, List, [], ◌∷◌, ◌++◌, length, Option, Some, None, is_some, unwrap_or, option_map, Ok, Err, refl, ap, sym, ◌∙◌, subst, arith}
use Rattle.std.specs.List.{list_any}
use Rattle.std.proofs.lemmas.List.Elements.{All-nil}
use Rattle.tfpg_graph.specs.declared.cause.GraphCause.{GraphCause}
use Rattle.tfpg_graph.specs.declared.cause.GraphCause.TheVariants.{BadHeader, AfterEnd}
use Rattle.tfpg_graph.specs.declared.kind.Kind.{Kind}
use Rattle.tfpg_graph.specs.declared.edge.Edge.{Edge as GraphEdge}
use Rattle.tfpg_graph.specs.declared.version.Version.{Version}
use Rattle.tfpg_graph.specs.declared.version.Version.TheVariants.{One}
use Rattle.tfpg_graph.specs.Text.{version_said, version_of}
use Rattle.tfpg_graph.specs.inside.declaring.Indexes.{with_mode, with_node, with_edge}
use Rattle.tfpg_graph.specs.Statements.{Statement, DeclaresMode, DeclaresNode, DeclaresEdge, Ends, statement_of, is_skipped, ends_text}
use Rattle.tfpg_graph.specs.Declares.{kind_of_words, edge_declared, graph_said, said_by, declared_by}
use Rattle.tfpg_graph.specs.Causes.{cause_at, is_out_of_order}
use Rattle.tfpg_graph.specs.declared.reading.reader.ReadingStage.{ReadingStage}
use Rattle.tfpg_graph.specs.declared.reading.reader.ReadingStage.TheVariants.{Header, Declarations, Ended}
use Rattle.tfpg_graph.specs.declared.reading.reader.Reader.{Reader}
use Rattle.tfpg_graph.specs.inside.reading.Turns.{is_misplaced, reader_with, cause_or_value, turn_said, turn_header, turn_of, turn, part_after, HasValue, ReaderRepresents}
use Rattle.tfpg_graph.proofs.lemmas.reading.saying.SaidBy.{statement_of-skipped, version_of-append, said_by-push, said_by-silent, said_by-header}
use Rattle.tfpg_graph.proofs.lemmas.reading.graphs.GraphsSaid.{graph_said-mode, graph_said-node, graph_said-edge, graph_said-end}
use Rattle.tfpg_graph.proofs.lemmas.reading.graphs.DeclaredBy.{AllHaveValues, is_misplaced-said, values-mode, values-node, values-edge, values-end}
use Rattle.tfpg_graph.proofs.lemmas.reading.causes.CauseAt.{AllClean, clean-push, cause-skipped}
use Rattle.tfpg_graph.proofs.lemmas.reading.causes.CausedSaid.{cause_declared, cause-said}
use Rattle.tfpg_graph.proofs.lemmas.reading.causes.WithoutCause.{HasNoCause-from_none}
use Rattle.tfpg_graph.proofs.lemmas.reading.causes.PartAfter.{part-declarations, part-ended, no_header, part_after-said, part_after-silent, part_after-header}

-- no line has none
all_clean-none : AllClean []
all_clean-none index within = absurd (omega arith)

-- What is taken has no cause and a value.
pub is_taken : (first : Option GraphCause) (value : Option Reader) (next : Reader) → cause_or_value first value ≡ Ok next
    → (first ≡ None) × (value ≡ Some next)
is_taken (Some cause) value next taken = absurd cc
is_taken None (Some value) next taken = (refl, cc)
is_taken None None next taken = absurd cc

module _ (lines : List (List ℕ)) (line : List ℕ) (clean : AllClean lines) (values : AllHaveValues (said_by lines)) where
  -- one line more that says nothing and has no cause
  stands_silent : (version : Version) (part : ReadingStage) → said_by (lines ++ line ∷ []) ≡ said_by lines
      → cause_at (lines ++ line ∷ []) (length lines) ≡ None
      → version ≡ version_of (lines ++ line ∷ []) → part ≡ part_after (lines ++ line ∷ [])
      → ReaderRepresents (record { part = part; version = version; declared = declared_by lines }) (lines ++ line ∷ [])
  stands_silent version part says none of at = record {
    clean = clean-push lines line clean none;
    version = of;
    graph = sym (ap graph_said says);
    part = at;
    values = subst AllHaveValues (sym says) values;
  }

  module _ (some : 0 < length lines) (unended : list_any ends_text (said_by lines) ≡ false) (read : is_skipped line ≡ false) (next : Reader) where
    abbrev version : Version
    version = version_of lines

    -- what was declared with a statement that has no cause represents one line more
    stands_grown : (said : Statement) (after : Reader) → statement_of version line ≡ Some said
        → cause_declared (declared_by lines) said ≡ None
        → after ≡ next → after.version ≡ version → after.part ≡ cond (ends_text said || false) Ended Declarations
        → after.declared ≡ graph_said (said_by lines ++ said ∷ []) → AllHaveValues (said_by lines ++ said ∷ [])
        → ReaderRepresents next (lines ++ line ∷ [])
    stands_grown said after says none is of at grown values_after = record {
      clean = clean-push lines line clean (cause-said lines line said values some unended read says ∙ none);
      version = sym (ap (λ p. p.version) is) ∙ of ∙ sym (version_of-append lines (line ∷ []) some);
      graph = sym (ap (λ p. p.declared) is) ∙ grown ∙ sym (ap graph_said (said_by-push lines line some said says));
      part = sym (ap (λ p. p.part) is) ∙ at ∙ sym (part_after-said lines line some said says unended);
      values = subst AllHaveValues (sym (said_by-push lines line some said says)) values_after;
    }

    -- a statement that has no cause is in its order after those before
    ordered : (said : Statement)
        → cause_declared (declared_by lines) said ≡ None
        → is_out_of_order (said_by lines) said ≡ false
    ordered said none =
        sym (is_misplaced-said (said_by lines) values unended said) ∙ (HasNoCause-from_none (is_misplaced (declared_by lines) said) (declared_by lines) said none).in_order

    -- each statement that is taken
    stands_taken : (said : Statement) → statement_of version line ≡ Some said
        → cause_declared (declared_by lines) said ≡ None
        → reader_with version (declared_by lines) said ≡ Some next → ReaderRepresents next (lines ++ line ∷ [])
    stands_taken (DeclaresMode name) says none with_it =
        let in_turn = ordered (DeclaresMode name) none in
        stands_grown (DeclaresMode name) (record { part = Declarations; version = version; declared = with_mode (declared_by lines) name }) says none (cc) refl refl
        (sym (graph_said-mode (said_by lines) name in_turn)) (values-mode (said_by lines) values name in_turn)
    stands_taken (DeclaresNode name words) says none with_it = by (kind_of_words words) refl with_it
      where
        by : (kind : Option Kind) → kind_of_words words ≡ kind
            → option_map (λ k. record { part = Declarations; version = version; declared = with_node (declared_by lines) name k }) kind ≡ Some next
            → ReaderRepresents next (lines ++ line ∷ [])
        by None is grown = absurd cc
        by (Some kind) is grown =
            let in_turn = ordered (DeclaresNode name words) none in
            stands_grown (DeclaresNode name words) (record { part = Declarations; version = version; declared = with_node (declared_by lines) name kind }) says none (cc) refl refl
            (sym (graph_said-node (said_by lines) name words kind in_turn is)) (values-node (said_by lines) values name words in_turn (ap is_some is))
    stands_taken (DeclaresEdge source target tmin tmax modes) says none with_it = by (edge_declared (declared_by lines) (DeclaresEdge source target tmin tmax modes)) refl with_it
      where
        by : (edge : Option GraphEdge)
            → edge_declared (declared_by lines) (DeclaresEdge source target tmin tmax modes) ≡ edge
            → option_map (λ e. record { part = Declarations; version = version; declared = with_edge (declared_by lines) e }) edge ≡ Some next
            → ReaderRepresents next (lines ++ line ∷ [])
        by None is grown = absurd cc
        by (Some edge) is grown =
            stands_grown (DeclaresEdge source target tmin tmax modes) (record { part = Declarations; version = version; declared = with_edge (declared_by lines) edge }) says none (cc) refl refl
            (sym (graph_said-edge (said_by lines) source target tmin tmax modes edge is)) (values-edge (said_by lines) values source target tmin tmax modes (ap is_some is))
    stands_taken Ends says none with_it =
        stands_grown Ends (record { part = Ended; version = version; declared = declared_by lines }) says none (cc) refl refl (sym (graph_said-end (said_by lines))) (values-end (said_by lines) values)

    -- a line before the end that is not skipped
    stands_said : (said : Option Statement) → statement_of version line ≡ said → turn_said version (declared_by lines) said ≡ Ok next
        → ReaderRepresents next (lines ++ line ∷ [])
    stands_said None says turned = absurd cc
    stands_said (Some said) says turned =
        let taken = is_taken (cause_declared (declared_by lines) said) (reader_with version (declared_by lines) said) next turned in
        stands_taken said says taken.0 taken.1

  -- a line that is skipped
  stands_passed : (part : ReadingStage) (next : Reader) → 0 < length lines → is_skipped line ≡ true
      → part ≡ part_after (lines ++ line ∷ [])
      → record { part = part; version = version_of lines; declared = declared_by lines } ≡ next → ReaderRepresents next (lines ++ line ∷ [])
  stands_passed part next some passed at is =
      subst (λ p. ReaderRepresents p (lines ++ line ∷ [])) is
      (stands_silent (version_of lines) part (said_by-silent lines line some (statement_of-skipped (version_of lines) line passed))
      (cause-skipped lines line some passed) (sym (version_of-append lines (line ∷ []) some)) at)

  -- a line before the end
  stands_declarations : (next : Reader) → Declarations ≡ part_after lines
      → turn_of Declarations (version_of lines) (declared_by lines) line ≡ Ok next → ReaderRepresents next (lines ++ line ∷ [])
  stands_declarations next at turned = by (is_skipped line) refl turned
    where
      by : (passed : Bool) → is_skipped line ≡ passed
          → cond passed (Ok (record { part = Declarations; version = version_of lines; declared = declared_by lines })) (turn_said (version_of lines) (declared_by lines) (statement_of (version_of lines) line)) ≡ Ok next
          → ReaderRepresents next (lines ++ line ∷ [])
      by true passed turned_so = let before = part-declarations lines at in stands_passed Declarations next before.0 passed (sym (part_after-silent lines line before.0 false (statement_of-skipped (version_of lines) line passed) before.1)) cc
      by false read turned_so = let before = part-declarations lines at in stands_said before.0 before.1 read next (statement_of (version_of lines) line) refl turned_so

  -- a line after the end
  stands_ended : (next : Reader) → Ended ≡ part_after lines → turn_of Ended (version_of lines) (declared_by lines) line ≡ Ok next
      → ReaderRepresents next (lines ++ line ∷ [])
  stands_ended next at turned = by (is_skipped line) refl turned
    where
      by : (passed : Bool) → is_skipped line ≡ passed
          → cond passed (Ok (record { part = Ended; version = version_of lines; declared = declared_by lines })) (Err AfterEnd) ≡ Ok next
          → ReaderRepresents next (lines ++ line ∷ [])
      by true passed turned_so = let before = part-ended lines at in stands_passed Ended next before.0 passed (sym (part_after-silent lines line before.0 true (statement_of-skipped (version_of lines) line passed) before.1)) cc
      by false read turned_so = absurd cc

-- the first line
stands_header : (line : List ℕ) (next : Reader) → turn_header (declared_by []) (version_said line) ≡ Ok next
    → ReaderRepresents next (line ∷ [])
stands_header line next turned = by (version_said line) refl turned
  where
    by : (said : Option Version) → version_said line ≡ said → turn_header (declared_by []) said ≡ Ok next → ReaderRepresents next (line ∷ [])
    by None none turned_so = absurd cc
    by (Some version) is turned_so =
        let same : record { part = Declarations; version = version; declared = declared_by [] } ≡ next = cc in
        subst (λ p. ReaderRepresents p (line ∷ [])) same
        (stands_silent [] line all_clean-none (All-nil (HasValue (declared_by []))) version Declarations (said_by-header line version is)
        (ap (λ o. cond (is_some o) None (Some BadHeader)) is) (sym (ap (λ o. unwrap_or o One) is)) (sym (part_after-header line version is)))

-- a line of each part
stands_after : (part : ReadingStage) (next : Reader) (lines : List (List ℕ)) (line : List ℕ) → AllClean lines
    → AllHaveValues (said_by lines) → part ≡ part_after lines
    → turn_of part (version_of lines) (declared_by lines) line ≡ Ok next → ReaderRepresents next (lines ++ line ∷ [])
stands_after Header next [] line clean values at turned = stands_header line next turned
stands_after Header next (first ∷ others) line clean values at turned = absurd (no_header first others at)
stands_after Declarations next lines line clean values at turned = stands_declarations lines line clean values next at turned
stands_after Ended next lines line clean values at turned = stands_ended lines line clean values next at turned

-- What is read after a line represents one line more.
pub ReaderRepresents-ok : (progress next : Reader) (lines : List (List ℕ)) (line : List ℕ) → ReaderRepresents progress lines
    → turn progress line ≡ Ok next → ReaderRepresents next (lines ++ line ∷ [])
ReaderRepresents-ok progress next lines line stands turned =
    stands_after progress.part next lines line stands.clean stands.values stands.part
    ((λ i. turn_of progress.part (sym stands.version i) (sym stands.graph i) line) ∙ turned)
