-- What the parts of a text that were read say of its lines, which are the same but for the empty text.
use Rattle.std.proofs.Common.{◌≡◌, ℕ, zero, suc, ◌+◌, ◌<◌, ◌≤◌, ⊎_elim, inl, inr, List, [], ◌∷◌, ◌++◌, length, Some, None, Result, Ok, Err, IfOk, IfErr, refl, sym, ap, ◌∙◌, subst, arith}
use Rattle.tfpg_base.specs.Lines.{lines_of, parts_of}
use Rattle.tfpg_graph.specs.declared.cause.GraphFault.{GraphFault}
use Rattle.tfpg_graph.specs.declared.cause.GraphRefusal.{GraphRefusal}
use Rattle.tfpg_graph.specs.declared.cause.GraphRefusal.TheVariants.{Fault, NoMemory}
use Rattle.tfpg_graph.specs.declared.reading.reader.GraphLineRefusal.{GraphLineRefusal}
use Rattle.tfpg_graph.specs.declared.reading.reader.GraphLineRefusal.TheVariants as line_refusal
use Rattle.tfpg_graph.specs.Graph.{Tfpg}
use Rattle.tfpg_graph.specs.Text.{Spells}
use Rattle.tfpg_graph.specs.Valid.{IsValid}
use Rattle.tfpg_graph.specs.Causes.{cause_at}
use Rattle.tfpg_graph.specs.Faults.{IsTested, IsClean, IsLineFault, IsWholeFault, IsRefusalOf, IsGraphResult}
use Rattle.tfpg_graph.specs.declared.reading.reader.ReadingStage.TheVariants.{Ended}
use Rattle.tfpg_graph.specs.declared.reading.reader.Reader.{Reader}
use Rattle.tfpg_graph.specs.inside.reading.Turns.{turn, ReaderRepresents}
use Rattle.tfpg_graph.specs.inside.reading.TurnResults.{IsTurnResult, refusal_at, IsEndRefusal}
use Rattle.tfpg_graph.proofs.lemmas.reading.faults.FirstFaults.{IsLineFault-err}
use Rattle.tfpg_graph.proofs.lemmas.reading.spelling.SpelledBy.{Spells-read}
use Rattle.tfpg_graph.proofs.lemmas.reading.faults.NoFault.{Spells-clean, Spells-no_fault}

-- One empty line lacks the header.
no_header_there : cause_at ([] ∷ []) 0 ≡ None → ⊥
no_header_there none = cc

-- An empty line has the fault of no line.
fault-no_line : (fault : GraphFault) → IsLineFault ([] ∷ []) fault → IsLineFault [] fault
fault-no_line fault is = by is.index is.number is.tested is.cause
  where
    by : (index : ℕ) → fault.line ≡ index + 1 → IsTested ([] ∷ []) index
        → cause_at ([] ∷ []) index ≡ Some fault.cause → IsLineFault [] fault
    by zero number tested cause = record {
      index = 0;
      number = number;
      tested = inl refl;
      cause = cause;
      first = λ earlier within. absurd (omega arith);
    }
    by (suc index) number tested cause =
        absurd (⊎_elim (λ first. omega (arith, first)) (λ within. omega (arith, within)) tested)

-- The lines are the parts of the body, which is no longer than the text, where the text has a byte.
pub record IsBody (text body : List ℕ) : Type 0 where
  pub lines : 0 < length text → lines_of text ≡ parts_of body
  pub front : length body ≤ length text

module _ (body : List ℕ) where
  -- a fault of a part is that of a line
  line_fault : (text : List ℕ) → IsBody text body → (fault : GraphFault) → IsLineFault (parts_of body) fault
      → IsLineFault (lines_of text) fault
  line_fault [] is fault at = by body is.front at
    where
      by : (bytes : List ℕ) → length bytes ≤ 0 → IsLineFault (parts_of bytes) fault → IsLineFault [] fault
      by [] none at_so = fault-no_line fault at_so
      by (byte ∷ bytes) none at_so = absurd (omega arith)
  line_fault (byte ∷ bytes) is fault at = subst (λ lines. IsLineFault lines fault) (sym (is.lines (omega arith))) at

  -- Where no part has a cause, the lines are the parts.
  pub lines-clean : (text : List ℕ) → IsBody text body → cause_at (parts_of body) 0 ≡ None
      → lines_of text ≡ parts_of body
  lines-clean [] is clean = absurd (by body is.front clean)
    where
      by : (bytes : List ℕ) → length bytes ≤ 0 → cause_at (parts_of bytes) 0 ≡ None → ⊥
      by [] none clean_so = no_header_there clean_so
      by (byte ∷ bytes) none clean_so = absurd (omega arith)
  lines-clean (byte ∷ bytes) is clean = is.lines (omega arith)

module _ (text body : List ℕ) (is : IsBody text body) where
  -- The refusal of a line is that of the text.
  pub IsRefusalOf-line : (progress : Reader) (before after : List (List ℕ)) (line : List ℕ) (refusal : GraphLineRefusal)
      → ReaderRepresents progress before → IsTurnResult (turn progress line) (Err refusal)
      → parts_of body ≡ before ++ line ∷ after
      → IsRefusalOf text (refusal_at refusal (length before + 1))
  IsRefusalOf-line progress before after line (line_refusal.Cause cause) stands failed parts =
      inl (line_fault body text is (record { line = length before + 1; cause = cause })
      (subst (λ lines. IsLineFault lines (record { line = length before + 1; cause = cause })) (sym parts)
      (IsLineFault-err progress before after line cause stands failed)))
  IsRefusalOf-line progress before after line line_refusal.NoMemory stands failed parts = tt

  -- The refusal at the end is that of the text.
  pub IsRefusalOf-end : (refusal : GraphRefusal) → IsEndRefusal (parts_of body) refusal → IsRefusalOf text refusal
  IsRefusalOf-end (Fault fault) refused =
      inr (subst (λ lines. IsClean lines × IsWholeFault lines fault)
      (sym (lines-clean body text is (refused.0 0 (inl refl)))) refused)
  IsRefusalOf-end NoMemory refused = tt

  -- A refused text spells no valid graph, unless memory ran out.
  pub IsGraphResult-refused : (graph : Tfpg) (refusal : GraphRefusal) → IsRefusalOf text refusal → Spells text graph
      → IsValid graph → IsGraphResult graph (Err refusal)
  IsGraphResult-refused graph (Fault fault) refused spells valid = absurd (Spells-no_fault text graph spells valid fault refused)
  IsGraphResult-refused graph NoMemory refused spells valid = inr refl

  module _ (progress : Reader) (stands : ReaderRepresents progress (parts_of body)) (some : 0 < length (parts_of body)) where
    -- what represents the parts represents the lines
    stands_lines : ReaderRepresents progress (lines_of text)
    stands_lines = subst (ReaderRepresents progress) (sym (lines-clean body text is (stands.clean 0 some))) stands

    -- The text spells the graph that is returned.
    pub IfOk-spelled : (result : Result Tfpg GraphRefusal)
        → IfOk result (λ graph. (graph ≡ progress.declared) × (progress.part ≡ Ended))
        → IfOk result (λ graph. Spells text graph)
    IfOk-spelled (Ok graph) read = subst (Spells text) (sym read.0) (Spells-read text progress stands_lines read.1)
    IfOk-spelled (Err refusal) read = tt

    -- What is refused is refused for a fault of the text.
    pub IfErr-refused : (result : Result Tfpg GraphRefusal) → IfErr result (IsEndRefusal (parts_of body))
        → IfErr result (IsRefusalOf text)
    IfErr-refused (Ok graph) refused = tt
    IfErr-refused (Err refusal) refused = IsRefusalOf-end refusal refused

    -- The result for a text that spells a valid graph is that graph.
    pub IsGraphResult-end : (result : Result Tfpg GraphRefusal)
        → IfOk result (λ graph. (graph ≡ progress.declared) × (progress.part ≡ Ended))
        → IfErr result (IsEndRefusal (parts_of body)) → (graph : Tfpg) → Spells text graph → IsValid graph
        → IsGraphResult graph result
    IsGraphResult-end (Ok declared) read refused graph spells valid =
        inl (ap Ok (read.0 ∙ stands_lines.graph ∙ (Spells-clean text graph spells valid).1))
    IsGraphResult-end (Err refusal) read refused graph spells valid =
        IsGraphResult-refused graph refusal (IsRefusalOf-end refusal refused) spells valid
