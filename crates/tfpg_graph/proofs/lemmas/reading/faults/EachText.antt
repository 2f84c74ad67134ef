-- Each text spells a valid graph, or has a first fault.
use Rattle.std.proofs.Common.{◌≡◌, ℕ, zero, suc, ◌+◌, ◌<◌, Bool, true, false, cond, ◌⊎◌, ⊎_elim, inl, inr, List, [], ◌∷◌, ◌++◌, length, get_or, take, count_by, Result, Ok, Err, IsTrue, refl, sym, ap, ◌∙◌, subst, arith, append_assoc}
use Rattle.std.specs.List.{list_any}
use Rattle.std.proofs.lemmas.List.{append-nil}
use Rattle.std.proofs.lemmas.List.Elements.{All-nil}
use Rattle.std.proofs.lemmas.List.Sums.{sum_by-cons}
use Rattle.tfpg_base.specs.Lines.{lines_of}
use Rattle.tfpg_base.proofs.lemmas.lists.Decided.{IsDecided, IsFirstBelow, first_below, test_decided}
use Rattle.tfpg_graph.specs.declared.cause.GraphCause.{GraphCause}
use Rattle.tfpg_graph.specs.declared.cause.GraphCause.TheVariants.{BadHeader, NoIncoming, ZeroCycle, MissingEnd}
use Rattle.tfpg_graph.specs.declared.cause.GraphFault.{GraphFault}
use Rattle.tfpg_graph.specs.declared.reading.reader.ReadingStage.TheVariants.{Declarations, Ended}
use Rattle.tfpg_graph.specs.declared.reading.reader.Reader.{Reader}
use Rattle.tfpg_graph.specs.Graph.{Tfpg, is_discrepancy, incoming}
use Rattle.tfpg_graph.specs.Text.{version_of, Spells}
use Rattle.tfpg_graph.specs.Valid.{IsValid, IsValidSoFar, HasIncomingBefore, HasNoZeroCycle}
use Rattle.tfpg_graph.specs.ZeroCycle.{LiesOnZeroCycle}
use Rattle.tfpg_graph.specs.Statements.{Statement, declares_node, declares_edge, ends_text}
use Rattle.tfpg_graph.specs.Declares.{said_by, declared_by}
use Rattle.tfpg_graph.specs.Faults.{IsClean, IsLineFault, says, IsLineSaying, IsWholeFault, IsFirstFault}
use Rattle.tfpg_graph.specs.inside.reading.Turns.{nothing_read, turn, part_after, HasValue, ReaderRepresents}
use Rattle.tfpg_graph.proofs.lemmas.reading.faults.FirstFaults.{IsLineFault-err, IsClean-some}
use Rattle.tfpg_graph.proofs.lemmas.reading.saying.LinesSaying.{count-node_lines, count-edge_lines}
use Rattle.tfpg_graph.proofs.lemmas.reading.spelling.SpelledBy.{Spells-read, has_mode}
use Rattle.tfpg_graph.proofs.lemmas.reading.graphs.RepresentedLines.{ReaderRepresents-ok}
use Rattle.tfpg_graph.proofs.lemmas.reading.graphs.ValidSoFar.{IsValidSoFar-turn, IsValidSoFar-nothing}
use Rattle.tfpg_graph.proofs.lemmas.zero_cycle.FirstOnCycle.{first_on_cycle}

-- ---- all lines are read, or one has the first fault

-- all lines are read without a cause, and what they declare breaks no rule
record AreRead (lines : List (List ℕ)) : Type 0 where
  progress : Reader
  stands : ReaderRepresents progress lines
  so_far : IsValidSoFar progress.declared

-- nothing is read of no lines
nothing_stands : ReaderRepresents nothing_read []
nothing_stands = record {
  clean = λ index within. absurd (omega arith);
  version = refl;
  graph = refl;
  part = refl;
  values = All-nil (HasValue (declared_by []));
}

-- after some lines that are read the others are, or one of them has the first fault
read_on : (progress : Reader) (before after : List (List ℕ)) → ReaderRepresents progress before → IsValidSoFar progress.declared
    → ((fault : GraphFault) × IsLineFault (before ++ after) fault) ⊎ AreRead (before ++ after)
read_on progress before [] stands so_far =
    inr (record { progress = progress; stands = subst (ReaderRepresents progress) (sym (append-nil before)) stands; so_far = so_far })
read_on progress before (line ∷ after) stands so_far =
    by (turn progress line) refl (λ next stands_next so_far_next. read_on next (before ++ line ∷ []) after stands_next so_far_next)
  where
    by : (turned : Result Reader GraphCause) → turn progress line ≡ turned
        → ((next : Reader) → ReaderRepresents next (before ++ line ∷ []) → IsValidSoFar next.declared
        → ((fault : GraphFault) × IsLineFault (before ++ line ∷ [] ++ after) fault) ⊎ AreRead (before ++ line ∷ [] ++ after))
        → ((fault : GraphFault) × IsLineFault (before ++ line ∷ after) fault) ⊎ AreRead (before ++ line ∷ after)
    by (Ok next) turned others =
        subst (λ lines. ((fault : GraphFault) × IsLineFault lines fault) ⊎ AreRead lines) (append_assoc before (line ∷ []) after)
        (others next (ReaderRepresents-ok progress next before line stands turned) (IsValidSoFar-turn progress next line turned so_far))
    by (Err cause) turned others =
        inl (record { line = length before + 1; cause = cause }, IsLineFault-err progress before after line cause stands turned)

-- ---- the line that declares the node or the edge of a number

-- the item that passes a test after so many others
count_reached : (test : List ℕ → Bool) (lines : List (List ℕ)) (count : ℕ) → count < count_by test lines
    → (index : ℕ) × (index < length lines) × IsTrue (test (get_or lines index [])) × (count_by test (take index lines) ≡ count)
count_reached test [] count within = absurd (omega arith)
count_reached test (line ∷ lines) count within =
    by (test line) refl count (omega (arith, within, sum_by-cons (λ l. cond (test l) 1 0) line lines)) (count_reached test lines)
  where
    by : (here : Bool) → test line ≡ here → (count : ℕ) → count < cond here 1 0 + count_by test lines
        → ((fewer : ℕ) → fewer < count_by test lines
        → (index : ℕ) × (index < length lines) × IsTrue (test (get_or lines index [])) × (count_by test (take index lines) ≡ fewer))
        → (index : ℕ) × (index < length (line ∷ lines)) × IsTrue (test (get_or (line ∷ lines) index []))
        × (count_by test (take index (line ∷ lines)) ≡ count)
    by true here zero within_so later = (0, omega arith, here, refl)
    by true here (suc fewer) within_so later =
        let found = later fewer (omega arith) in (
          suc found.0,
          omega (arith, found.1),
          found.2,
          sum_by-cons (λ l. cond (test l) 1 0) line (take found.0 lines) ∙ ap (λ b. cond b 1 0 + count_by test (take found.0 lines)) here ∙ omega (arith, found.3),
        )
    by false here number within_so later =
        let found = later number (omega arith) in (
          suc found.0,
          omega (arith, found.1),
          found.2,
          sum_by-cons (λ l. cond (test l) 1 0) line (take found.0 lines) ∙ ap (λ b. cond b 1 0 + count_by test (take found.0 lines)) here ∙ omega (arith, found.3),
        )

-- the line that says such a thing after so many others
line_saying : (test : Statement → Bool) (lines : List (List ℕ)) (count : ℕ) → count < count_by (says (version_of lines) test) lines
    → (line : ℕ) × IsLineSaying test lines count line
line_saying test lines count within =
    let found = count_reached (says (version_of lines) test) lines count within in
    (found.0 + 1, record { index = found.0; number = refl; within = found.1; here = found.2; before = found.3 })

-- ---- what is wrong with the whole text

-- a discrepancy with no edge into it
abbrev Lacks : Tfpg → ℕ → Type 0
Lacks graph node = IsTrue (is_discrepancy graph node) × (incoming graph node ≡ [])

-- a discrepancy has an edge into it
abbrev Has : Tfpg → ℕ → Type 0
Has graph node = IsTrue (is_discrepancy graph node) → incoming graph node ≡ [] → ⊥

-- a discrepancy has an edge into it, or not
has_or_lacks : (graph : Tfpg) (node : ℕ)
    → Lacks graph node ⊎ Has graph node
has_or_lacks graph node = by (test_decided (is_discrepancy graph node)) (incoming graph node) refl
  where
    by : IsDecided (IsTrue (is_discrepancy graph node)) → (edges : List ℕ) → incoming graph node ≡ edges
        → Lacks graph node ⊎ Has graph node
    by (inl is) [] into = inl (is, into)
    by (inl is) (edge ∷ edges) into = inr (λ _ none. let some : edge ∷ edges ≡ [] = sym into ∙ none in absurd cc)
    by (inr other) edges into = inr (λ is _. other is)

module _ (lines : List (List ℕ)) (some : 0 < length lines) (read : AreRead lines) where
  -- all lines are without a cause
  clean : IsClean lines
  clean = IsClean-some read.progress lines read.stands some

  -- what the lines declare breaks no rule
  so_far : IsValidSoFar (declared_by lines)
  so_far = subst IsValidSoFar read.stands.graph read.so_far

  -- the lines end with a valid graph, or the whole has a fault
  whole_or_fault : ((read.progress.part ≡ Ended) × IsValid (declared_by lines)) ⊎ ((fault : GraphFault) × IsWholeFault lines fault)
  whole_or_fault = incoming_first (first_below (Lacks (declared_by lines)) (Has (declared_by lines)) (has_or_lacks (declared_by lines)) (length (declared_by lines).nodes))
    where
      ending : HasIncomingBefore (declared_by lines) (length (declared_by lines).nodes) → HasNoZeroCycle (declared_by lines)
          → (ended : Bool) → list_any ends_text (said_by lines) ≡ ended
          → ((read.progress.part ≡ Ended) × IsValid (declared_by lines)) ⊎ ((fault : GraphFault) × IsWholeFault lines fault)
      ending no_lack no_cycle true ended =
          let part : read.progress.part ≡ Ended = read.stands.part ∙ after lines some ended in
          inl (
            part,
            record {
              so_far = so_far;
              has_incoming = no_lack;
              no_zero_cycle = no_cycle;
              has_mode = subst (λ (graph : Tfpg). 0 < length graph.modes) read.stands.graph (has_mode lines read.progress read.stands part);
            },
          )
        where
          after : (all : List (List ℕ)) → 0 < length all → list_any ends_text (said_by all) ≡ true → part_after all ≡ Ended
          after [] none ended_so = absurd (omega arith)
          after (first ∷ others) some_so ended_so = ap (λ b. cond b Ended Declarations) ended_so
      ending no_lack no_cycle false unended =
          inr (
            record { line = length lines + 1; cause = MissingEnd },
            inr (inr (record {
              cause = refl;
              incoming = no_lack;
              no_cycle = no_cycle;
              no_end = unended;
              line = refl;
            })),
          )

      cycle_first : HasIncomingBefore (declared_by lines) (length (declared_by lines).nodes)
          → ((number : ℕ) × IsFirstBelow (LiesOnZeroCycle (declared_by lines)) (λ n. LiesOnZeroCycle (declared_by lines) n → ⊥) (length (declared_by lines).edges) number)
          ⊎ HasNoZeroCycle (declared_by lines)
          → ((read.progress.part ≡ Ended) × IsValid (declared_by lines)) ⊎ ((fault : GraphFault) × IsWholeFault lines fault)
      cycle_first no_lack (inl found) =
          let counted = ap (λ version. count_by (says version declares_edge) lines) (sym read.stands.version) ∙ count-edge_lines read.progress lines read.stands ∙ ap (λ (graph : Tfpg). length graph.edges) read.stands.graph in
          let line = line_saying declares_edge lines found.0 (omega (arith, counted, found.1.below)) in
          inr (
            record { line = line.0; cause = ZeroCycle },
            inr (inl (record {
              cause = refl;
              incoming = no_lack;
              edge = found.0;
              lies = found.1.holds;
              first = found.1.before;
              line = line.1;
            })),
          )
      cycle_first no_lack (inr no_cycle) = ending no_lack no_cycle (list_any ends_text (said_by lines)) refl

      incoming_first : ((number : ℕ) × IsFirstBelow (Lacks (declared_by lines)) (Has (declared_by lines)) (length (declared_by lines).nodes) number)
          ⊎ HasIncomingBefore (declared_by lines) (length (declared_by lines).nodes)
          → ((read.progress.part ≡ Ended) × IsValid (declared_by lines)) ⊎ ((fault : GraphFault) × IsWholeFault lines fault)
      incoming_first (inl found) =
          let counted = ap (λ version. count_by (says version declares_node) lines) (sym read.stands.version) ∙ count-node_lines read.progress lines read.stands ∙ ap (λ (graph : Tfpg). length graph.nodes) read.stands.graph in
          let line = line_saying declares_node lines found.0 (omega (arith, counted, found.1.below)) in
          inr (
            record { line = line.0; cause = NoIncoming },
            inl (record {
              cause = refl;
              node = found.0;
              lacks = (found.1.below, found.1.holds.0, found.1.holds.1);
              first = λ node before. found.1.before node before;
              line = line.1;
            }),
          )
      incoming_first (inr all) = cycle_first all (first_on_cycle (declared_by lines) so_far)

-- ---- the text

-- Each text spells a valid graph, or has a first fault.
pub each_text : (text : List ℕ) → ((graph : Tfpg) × Spells text graph × IsValid graph) ⊎ ((fault : GraphFault) × IsFirstFault text fault)
each_text text = by (lines_of text) refl (read_on nothing_read [] (lines_of text) nothing_stands IsValidSoFar-nothing)
  where
    whole : (read : AreRead (lines_of text)) → 0 < length (lines_of text)
        → ((graph : Tfpg) × Spells text graph × IsValid graph) ⊎ ((fault : GraphFault) × IsFirstFault text fault)
    whole read some = ⊎_elim
        (λ right. inl (read.progress.declared, Spells-read text read.progress read.stands right.0, subst IsValid (sym read.stands.graph) right.1))
        (λ wrong. inr (wrong.0, inr (clean (lines_of text) some read, wrong.1)))
        (whole_or_fault (lines_of text) some read)

    by : (lines : List (List ℕ)) → lines_of text ≡ lines
        → ((fault : GraphFault) × IsLineFault (lines_of text) fault) ⊎ AreRead (lines_of text)
        → ((graph : Tfpg) × Spells text graph × IsValid graph) ⊎ ((fault : GraphFault) × IsFirstFault text fault)
    by lines is (inl faulty) = inr (faulty.0, inl faulty.1)
    by [] is (inr read) =
        inr (
          record { line = 1; cause = BadHeader },
          inl (subst (λ all. IsLineFault all (record { line = 1; cause = BadHeader })) (sym is) (record {
            index = 0;
            number = refl;
            tested = inl refl;
            cause = refl;
            first = λ earlier within. absurd (omega arith);
          })),
        )
    by (first ∷ others) is (inr read) = whole read (omega (arith, ap length is))
