-- A text that spells a valid graph has no fault.
use Rattle.std.proofs.Common.{◌≡◌, ℕ, suc, zero, ◌<◌, ◌≤◌, ◌&&◌, Bool, true, false, cond, not, nat_le, List, [], ◌∷◌, ◌++◌, length, map, get_or, take, All, Some, None, is_some, unwrap_or, codes, refl, ap, sym, ◌∙◌, subst, arith, append_assoc, ⊎_elim}
use Rattle.std.specs.List.{AllZip, list_any, cons_option}
use Rattle.std.proofs.lemmas.Bool.{le-leb, or_right, false≢true}
use Rattle.std.proofs.lemmas.List.{append-nil}
use Rattle.std.proofs.lemmas.List.Elements.{All-head, All-tail, All-same, All-filter}
use Rattle.std.proofs.lemmas.List.Folds.{list_any-append}
use Rattle.std.proofs.lemmas.Option.{none-some}
use Rattle.tfpg_base.proofs.lemmas.lists.Elements.{All-front, All-back}
use Rattle.tfpg_base.proofs.lemmas.lists.Zipped.{AllZip-append, AllZip-maps}
use Rattle.tfpg_base.specs.Lines.{lines_of}
use Rattle.tfpg_base.specs.declared.limits.TheConstants.{LONGEST_LINE}
use Rattle.tfpg_graph.specs.declared.cause.GraphCause.TheVariants.{BadHeader, AfterEnd}
use Rattle.tfpg_graph.specs.declared.cause.GraphFault.{GraphFault}
use Rattle.tfpg_graph.specs.declared.edge.Edge.{Edge}
use Rattle.tfpg_graph.specs.Graph.{Tfpg}
use Rattle.tfpg_graph.specs.declared.version.Version.{Version}
use Rattle.tfpg_graph.specs.declared.version.Version.TheVariants.{One}
use Rattle.tfpg_graph.specs.Text.{header, version_of, mode_line, node_line, SpellsEdge, content_lines, Spells}
use Rattle.tfpg_graph.specs.Statements.{is_empty_or_comment, Statement, DeclaresMode, Ends, statement_of, statements_of, ends_text}
use Rattle.tfpg_graph.specs.Valid.{IsValid, IsValidEdge}
use Rattle.tfpg_graph.specs.ZeroCycle.{LiesOnZeroCycle}
use Rattle.tfpg_graph.proofs.lemmas.writing.WrittenVersion.{CanSpell, can_spell_each}
use Rattle.tfpg_graph.proofs.lemmas.zero_cycle.ZeroCycles.{HasNoZeroCycle-none_lies}
use Rattle.tfpg_graph.specs.Declares.{graph_said, said_by, declared_by}
use Rattle.tfpg_graph.specs.Causes.{cause_of_said, cause_after}
use Rattle.tfpg_graph.specs.Faults.{LacksIncoming, IsClean, IsLineFault, IsIncomingFault, IsCycleFault, IsEndFault, IsWholeFault, IsFirstFault}
use Rattle.tfpg_graph.proofs.lemmas.reading.graphs.GraphsSaid.{graph_said-end}
use Rattle.tfpg_graph.proofs.lemmas.reading.saying.SaidBy.{version_said-header, statement_of-header}
use Rattle.tfpg_graph.proofs.lemmas.reading.saying.SaidWords.{skipped_says_nothing}
use Rattle.tfpg_graph.proofs.lemmas.reading.spelling.LinesSay.{statement_of-mode, statement_of-node, statement_of-end}
use Rattle.tfpg_graph.proofs.lemmas.reading.spelling.SpelledEdges.{edge_statement, statement_of-edge_line}
use Rattle.tfpg_graph.proofs.lemmas.reading.spelling.SaidSoFar.{node_statement, said_so_far}
use Rattle.tfpg_graph.proofs.lemmas.reading.faults.CleanRuns.{Runs, IsEdgeSaid, edges_declared, Runs-whole}

-- ---- lines that say what runs without a cause

-- the line of a text of this version says this
abbrev pub Says : Version → List ℕ → Statement → Type 0
Says version line said = statement_of version line ≡ Some said

-- with the line, where it is not skipped
abbrev content_lines_with : Bool → List ℕ → List (List ℕ) → List (List ℕ)
content_lines_with skipped line lines = cond (not skipped) (line ∷ content_lines lines) (content_lines lines)

-- Lines say what those of them say that are not skipped.
pub statements_of-content_lines : (version : Version) (lines : List (List ℕ)) (said : List Statement) → AllZip (Says version) (content_lines lines) said
    → statements_of version lines ≡ said
statements_of-content_lines version [] [] says = refl
statements_of-content_lines version [] (s ∷ said) says = absurd says
statements_of-content_lines version (line ∷ lines) said says =
    by (λ others says. statements_of-content_lines version lines others says) (is_empty_or_comment line) refl said says
  where
    by : ((others : List Statement) → AllZip (Says version) (content_lines lines) others → statements_of version lines ≡ others)
        → (skipped : Bool) → is_empty_or_comment line ≡ skipped → (said : List Statement)
        → AllZip (Says version) (content_lines_with skipped line lines) said → cons_option (statement_of version line) (statements_of version lines) ≡ said
    by rest true skipped said says =
        ap (λ s. cons_option s (statements_of version lines)) (skipped_says_nothing version line skipped) ∙ rest said says
    by rest false skipped [] says = absurd says
    by rest false skipped (s ∷ said) says = λ i. cons_option (says.0 i) (rest said says.1 i)

-- Where what they say runs without a cause after other statements, no line has a cause.
pub clean_after : (version : Version) (lines : List (List ℕ)) (before said : List Statement)
    → All (λ line. length line ≤ LONGEST_LINE) lines → AllZip (Says version) (content_lines lines) said → Runs before said
    → (index : ℕ) → index < length lines
    → cause_after version (before ++ statements_of version (take index lines)) (get_or lines index []) ≡ None
clean_after version [] before said short says runs index within = absurd (omega arith)
clean_after version (line ∷ lines) before said short says runs index within =
    by (λ before others says runs index within. clean_after version lines before others
    (All-tail (λ l. length l ≤ LONGEST_LINE) line lines short) says runs index within)
    (is_empty_or_comment line) refl said says runs index within
  where
    fits : nat_le (length line) LONGEST_LINE ≡ true
    fits = le-leb (length line) LONGEST_LINE (All-head (λ l. length l ≤ LONGEST_LINE) line lines short)

    by : ((before others : List Statement) → AllZip (Says version) (content_lines lines) others → Runs before others → (index : ℕ)
        → index < length lines
        → cause_after version (before ++ statements_of version (take index lines)) (get_or lines index []) ≡ None)
        → (skipped : Bool) → is_empty_or_comment line ≡ skipped → (said : List Statement)
        → AllZip (Says version) (content_lines_with skipped line lines) said → Runs before said
        → (index : ℕ) → index < length (line ∷ lines)
        → cause_after version (before ++ statements_of version (take index (line ∷ lines))) (get_or (line ∷ lines) index []) ≡ None
    by rest true skipped said says runs zero within = λ i.
        cond (skipped i && fits i) None
        (cond (list_any ends_text (before ++ [])) (Some AfterEnd) (cause_of_said (before ++ []) (statement_of version line)))
    by rest true skipped said says runs (suc index) within =
        ap (λ s. cause_after version (before ++ cons_option s (statements_of version (take index lines))) (get_or lines index []))
        (skipped_says_nothing version line skipped)
        ∙ rest before said says runs index (omega arith)
    by rest false skipped [] says runs index within = absurd says
    by rest false skipped (s ∷ said) says runs zero within =
        ap (λ b. cause_after version b line) (append-nil before)
        ∙ (λ i. cond (skipped i && nat_le (length line) LONGEST_LINE) None
        (cond (runs.0 i) (Some AfterEnd) (cause_of_said before (says.0 i))))
        ∙ runs.1
    by rest false skipped (s ∷ said) says runs (suc index) within =
        ap (λ o. cause_after version (before ++ cons_option o (statements_of version (take index lines))) (get_or lines index [])) says.0
        ∙ ap (λ all. cause_after version all (get_or lines index []))
        (sym (append_assoc before (s ∷ []) (statements_of version (take index lines))))
        ∙ rest (before ++ s ∷ []) said says.1 runs.2 index (omega arith)

-- ---- the lines that spell a graph

-- the line is not too long
abbrev IsShortLine : List ℕ → Type 0
IsShortLine line = length line ≤ LONGEST_LINE

module _ (version : Version) (graph : Tfpg) (valid : IsValid graph) where
  -- lines that spell edges and are short say what declares the edges
  edges_said : (edges : List Edge) (lines : List (List ℕ)) → AllZip (SpellsEdge graph) edges lines
      → All (IsValidEdge graph) edges → All IsShortLine lines
      → (said : List Statement) × AllZip (IsEdgeSaid graph) edges said × AllZip (Says version) lines said
  edges_said [] [] spelled are short = ([], tt, tt)
  edges_said [] (line ∷ lines) spelled are short = absurd spelled
  edges_said (edge ∷ edges) [] spelled are short = absurd spelled
  edges_said (edge ∷ edges) (line ∷ lines) spelled are short =
      let others = edges_said edges lines spelled.1 (All-tail (IsValidEdge graph) edge edges are)
      (All-tail IsShortLine line lines short) in
      let is : IsValidEdge graph edge = All-head (IsValidEdge graph) edge edges are in
      let word = spelled.0.0 in (
        edge_statement graph edge word ∷ others.0,
        (record { valid = is; modes_word = word; spells = spelled.0.1; is = refl }, others.1),
        (
          ap (statement_of version) spelled.0.2
              ∙ statement_of-edge_line graph valid edge is version word spelled.0.1
              (subst IsShortLine spelled.0.2 (All-head IsShortLine line lines short)),
          others.2,
        ),
      )

  -- all lines that spell the graph say what declares it
  says_whole : All (λ node. CanSpell version node.kind) graph.nodes → (lines : List (List ℕ)) (said : List Statement) → AllZip (Says version) lines said
      → AllZip (Says version) (map mode_line graph.modes ++ map (node_line version) graph.nodes ++ lines ++ codes "end" ∷ [])
      (said_so_far graph.modes graph.nodes said ++ Ends ∷ [])
  says_whole kinds lines said says =
      AllZip-append (Says version) (map mode_line graph.modes ++ map (node_line version) graph.nodes ++ lines)
      (said_so_far graph.modes graph.nodes said) (codes "end" ∷ []) (Ends ∷ [])
      (AllZip-append (Says version) (map mode_line graph.modes ++ map (node_line version) graph.nodes)
      (map DeclaresMode graph.modes ++ map node_statement graph.nodes) lines said
      (AllZip-append (Says version) (map mode_line graph.modes) (map DeclaresMode graph.modes) (map (node_line version) graph.nodes)
      (map node_statement graph.nodes)
      (AllZip-maps (Says version) mode_line DeclaresMode graph.modes
      (λ k d within. statement_of-mode version (get_or graph.modes k d) (valid.so_far.mode_names k d within)))
      (AllZip-maps (Says version) (node_line version) node_statement graph.nodes
      (λ k d within. statement_of-node version (get_or graph.nodes k d).name (get_or graph.nodes k d).kind
      (valid.so_far.node_names k d within) (valid.so_far.node_numbers k d within) (kinds k d within))))
      says)
      (statement_of-end version, tt)

-- what is to be shown of the lines
abbrev IsCleanText : Tfpg → List (List ℕ) → Type 0
IsCleanText graph lines = IsClean lines × (declared_by lines ≡ graph) × (list_any ends_text (said_by lines) ≡ true)

module _ (version : Version) (graph : Tfpg) (valid : IsValid graph) (after : List (List ℕ)) (short : All IsShortLine after)
    (said : List Statement) (are : AllZip (IsEdgeSaid graph) graph.edges said)
    (says : AllZip (Says version) (content_lines after) (said_so_far graph.modes graph.nodes said ++ Ends ∷ [])) where
  -- the version of the lines is that of the header
  of : version_of (header version ∷ after) ≡ version
  of = ap (λ o. unwrap_or o One) (version_said-header version)

  -- the header says nothing
  after_header : (lines : List (List ℕ)) → statements_of version (header version ∷ lines) ≡ statements_of version lines
  after_header lines = ap (λ o. cons_option o (statements_of version lines)) (statement_of-header version version (header version) (version_said-header version))

  clean : IsClean (header version ∷ after)
  clean zero tested = ap (λ o. cond (is_some o) None (Some BadHeader)) (version_said-header version)
  clean (suc index) tested =
      ap (λ v. cause_after v (statements_of v (header version ∷ take index after)) (get_or after index [])) of
      ∙ ap (λ before. cause_after version before (get_or after index [])) (after_header (take index after))
      ∙ clean_after version after [] (said_so_far graph.modes graph.nodes said ++ Ends ∷ []) short says
      (Runs-whole graph valid said are) index
      (⊎_elim (λ first. absurd (omega (arith, first))) (λ within. omega (arith, within)) tested)

  all_said : said_by (header version ∷ after) ≡ said_so_far graph.modes graph.nodes said ++ Ends ∷ []
  all_said =
      ap (λ v. statements_of v (header version ∷ after)) of ∙ after_header after
      ∙ statements_of-content_lines version after (said_so_far graph.modes graph.nodes said ++ Ends ∷ []) says

  clean_text : IsCleanText graph (header version ∷ after)
  clean_text = (
    clean,
    ap graph_said all_said ∙ graph_said-end (said_so_far graph.modes graph.nodes said)
        ∙ edges_declared graph valid graph.edges said are,
    ap (list_any ends_text) all_said ∙ list_any-append ends_text (said_so_far graph.modes graph.nodes said) (Ends ∷ [])
        ∙ or_right (list_any ends_text (said_so_far graph.modes graph.nodes said)) true refl,
  )

module _ (text : List ℕ) (graph : Tfpg) (spells : Spells text graph) (valid : IsValid graph) where
  short_after : All IsShortLine spells.after
  short_after =
      All-tail IsShortLine (header spells.version) spells.after
      (All-same IsShortLine (header spells.version ∷ spells.after) (lines_of text) (sym spells.lines) spells.short)

  short_edges : All IsShortLine spells.said.edge_lines
  short_edges =
      let modes_and_nodes = map mode_line graph.modes ++ map (node_line spells.version) graph.nodes in
      All-back IsShortLine modes_and_nodes spells.said.edge_lines
      (All-front IsShortLine (modes_and_nodes ++ spells.said.edge_lines) (codes "end" ∷ [])
      (All-same IsShortLine (modes_and_nodes ++ spells.said.edge_lines ++ codes "end" ∷ []) (content_lines spells.after)
      (sym spells.said.all)
      (All-filter (λ line. not (is_empty_or_comment line)) IsShortLine spells.after short_after)))

  -- A text that spells a valid graph has no line with a cause, declares this graph, and has an end.
  pub Spells-clean : IsClean (lines_of text) × (declared_by (lines_of text) ≡ graph)
      × (list_any ends_text (said_by (lines_of text)) ≡ true)
  Spells-clean =
      let version = spells.version in
      let edges = edges_said version graph valid graph.edges spells.said.edge_lines spells.said.edges valid.so_far.edges short_edges in
      subst (IsCleanText graph) (sym spells.lines)
      (clean_text version graph valid spells.after short_after edges.0 edges.1
      (subst (λ lines. AllZip (Says version) lines (said_so_far graph.modes graph.nodes edges.0 ++ Ends ∷ []))
      (sym spells.said.all) (says_whole version graph valid (can_spell_each version graph.nodes spells.said.zero_least) spells.said.edge_lines edges.0 edges.2)))

-- A text spells at most one valid graph.
pub Spells-one : (text : List ℕ) (graph other : Tfpg) → Spells text graph → IsValid graph → Spells text other → IsValid other → graph ≡ other
Spells-one text graph other spells valid spells_other valid_other =
    sym (Spells-clean text graph spells valid).1 ∙ (Spells-clean text other spells_other valid_other).1

-- ---- no fault

-- where no line has a cause, no line has a fault
pub no_line_fault : (lines : List (List ℕ)) (fault : GraphFault) → IsClean lines → IsLineFault lines fault → ⊥
no_line_fault lines fault clean is = none-some fault.cause (sym (clean is.index is.tested) ∙ is.cause)

module _ (lines : List (List ℕ)) (graph : Tfpg) (valid : IsValid graph) (fault : GraphFault) where
  no_incoming_fault : declared_by lines ≡ graph → IsIncomingFault lines fault → ⊥
  no_incoming_fault declared is =
      let lacks = subst (λ g. LacksIncoming g is.node) declared is.lacks in
      valid.has_incoming is.node lacks.0 lacks.1 lacks.2

  no_cycle_fault : declared_by lines ≡ graph → IsCycleFault lines fault → ⊥
  no_cycle_fault declared is =
      HasNoZeroCycle-none_lies graph is.edge valid.no_zero_cycle (subst (λ g. LiesOnZeroCycle g is.edge) declared is.lies)

  no_end_fault : list_any ends_text (said_by lines) ≡ true → IsEndFault lines fault → ⊥
  no_end_fault ended is = false≢true (sym is.no_end ∙ ended)

  no_whole_fault : declared_by lines ≡ graph → list_any ends_text (said_by lines) ≡ true → IsWholeFault lines fault
      → ⊥
  no_whole_fault declared ended =
      ⊎_elim (no_incoming_fault declared) (⊎_elim (no_cycle_fault declared) (no_end_fault ended))

-- A text that spells a valid graph has no fault.
pub Spells-no_fault : (text : List ℕ) (graph : Tfpg) → Spells text graph → IsValid graph → (fault : GraphFault)
    → IsFirstFault text fault → ⊥
Spells-no_fault text graph spells valid fault =
    let is = Spells-clean text graph spells valid in
    ⊎_elim (no_line_fault (lines_of text) fault is.0)
    (λ whole_fault. no_whole_fault (lines_of text) graph valid fault is.1 is.2 whole_fault.1)
