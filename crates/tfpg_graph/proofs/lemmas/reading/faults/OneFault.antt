-- A text has at most one first fault.
use Rattle.std.proofs.Common.{◌≡◌, ℕ, ◌+◌, Bool, inl, inr, List, [], length, Some, Result, Ok, Err, IfOk, IfErr, ap, refl, sym, ◌∙◌, subst, arith}
use Rattle.std.proofs.lemmas.Option.{none-some}
use Rattle.tfpg_graph.specs.declared.cause.GraphFault.{GraphFault}
use Rattle.tfpg_graph.specs.declared.cause.GraphRefusal.{GraphRefusal}
use Rattle.tfpg_graph.specs.declared.cause.GraphRefusal.TheVariants.{Fault, NoMemory}
use Rattle.tfpg_graph.specs.Graph.{Tfpg}
use Rattle.tfpg_graph.specs.Text.{version_of, Spells}
use Rattle.tfpg_graph.specs.Valid.{IsValid, HasIncomingBefore}
use Rattle.tfpg_graph.proofs.lemmas.zero_cycle.ZeroCycles.{HasNoZeroCycle-none_lies}
use Rattle.tfpg_graph.specs.Statements.{Statement}
use Rattle.tfpg_graph.specs.Declares.{declared_by}
use Rattle.tfpg_graph.specs.Causes.{cause_at}
use Rattle.tfpg_graph.specs.Faults.{IsLineFault, IsLineSaying, IsIncomingFault, IsCycleFault, IsEndFault, IsWholeFault, IsFirstFault, IsRefusalOf, IsFaultResult, LacksIncoming, says}
use Rattle.tfpg_base.specs.Lines.{lines_of}
use Rattle.tfpg_base.proofs.lemmas.lists.Sequences.{same_from_neither}
use Rattle.tfpg_base.proofs.lemmas.lists.Filtered.{count_by-take_lt}
use Rattle.tfpg_graph.proofs.lemmas.reading.faults.NoFault.{no_line_fault, Spells-no_fault}

-- two faults with the same line and the same cause are the same
same_fault : (a b : GraphFault) → a.line ≡ b.line → a.cause ≡ b.cause → a ≡ b
same_fault a b line cause = λ i. record { line = line i; cause = cause i }

module _ (test : Statement → Bool) (lines : List (List ℕ)) (count : ℕ) where
  -- One line says such a thing after so many that do.
  one_line : (line other : ℕ) → IsLineSaying test lines count line → IsLineSaying test lines count other → line ≡ other
  one_line line other is so =
      is.number ∙ ap (λ n. n + 1) (same_from_neither is.index so.index
      (λ less. let more = count_by-take_lt (says (version_of lines) test) lines [] is.index so.index less (omega (arith, so.within)) is.here in
      omega (arith, more, is.before, so.before))
      (λ less. let more = count_by-take_lt (says (version_of lines) test) lines [] so.index is.index less (omega (arith, is.within)) so.here in
      omega (arith, more, is.before, so.before)))
      ∙ sym so.number

module _ (lines : List (List ℕ)) (one other : GraphFault) where
  line_faults : IsLineFault lines one → IsLineFault lines other → one ≡ other
  line_faults is so =
      let index : is.index ≡ so.index = same_from_neither is.index so.index
      (λ less. none-some one.cause (sym (so.first is.index less) ∙ is.cause))
      (λ less. none-some other.cause (sym (is.first so.index less) ∙ so.cause)) in
      let cause : Some one.cause ≡ Some other.cause = sym is.cause ∙ ap (cause_at lines) index ∙ so.cause in
      same_fault one other (is.number ∙ ap (λ n. n + 1) index ∙ sym so.number) (cc)

  incoming_faults : IsIncomingFault lines one → IsIncomingFault lines other → one ≡ other
  incoming_faults is so =
      let node : is.node ≡ so.node = same_from_neither is.node so.node
      (λ less. so.first is.node less is.lacks.1 is.lacks.2) (λ less. is.first so.node less so.lacks.1 so.lacks.2) in
      same_fault one other
      (one_line _ lines so.node one.line other.line (subst (λ n. IsLineSaying _ lines n one.line) node is.line) so.line)
      (is.cause ∙ sym so.cause)

  cycle_faults : IsCycleFault lines one → IsCycleFault lines other → one ≡ other
  cycle_faults is so =
      let edge : is.edge ≡ so.edge = same_from_neither is.edge so.edge
      (λ less. so.first is.edge less is.lies) (λ less. is.first so.edge less so.lies) in
      same_fault one other
      (one_line _ lines so.edge one.line other.line (subst (λ n. IsLineSaying _ lines n one.line) edge is.line) so.line)
      (is.cause ∙ sym so.cause)

  end_faults : IsEndFault lines one → IsEndFault lines other → one ≡ other
  end_faults is so = same_fault one other (is.line ∙ sym so.line) (is.cause ∙ sym so.cause)

module _ (lines : List (List ℕ)) where
  -- where each discrepancy has an edge into it, none lacks one
  none_lacks : (node : ℕ) → LacksIncoming (declared_by lines) node
      → HasIncomingBefore (declared_by lines) (length (declared_by lines).nodes) → ⊥
  none_lacks node lacks all = all node lacks.0 lacks.1 lacks.2

  whole_faults : (one other : GraphFault) → IsWholeFault lines one → IsWholeFault lines other → one ≡ other
  whole_faults one other (inl is) (inl so) = incoming_faults lines one other is so
  whole_faults one other (inl is) (inr (inl so)) = absurd (none_lacks is.node is.lacks so.incoming)
  whole_faults one other (inl is) (inr (inr so)) = absurd (none_lacks is.node is.lacks so.incoming)
  whole_faults one other (inr (inl is)) (inl so) = absurd (none_lacks so.node so.lacks is.incoming)
  whole_faults one other (inr (inl is)) (inr (inl so)) = cycle_faults lines one other is so
  whole_faults one other (inr (inl is)) (inr (inr so)) = absurd (HasNoZeroCycle-none_lies (declared_by lines) is.edge so.no_cycle is.lies)
  whole_faults one other (inr (inr is)) (inl so) = absurd (none_lacks so.node so.lacks is.incoming)
  whole_faults one other (inr (inr is)) (inr (inl so)) = absurd (HasNoZeroCycle-none_lies (declared_by lines) so.edge is.no_cycle so.lies)
  whole_faults one other (inr (inr is)) (inr (inr so)) = end_faults lines one other is so

-- A text has at most one first fault.
pub IsFirstFault-one : (text : List ℕ) (one other : GraphFault) → IsFirstFault text one → IsFirstFault text other → one ≡ other
IsFirstFault-one text one other (inl is) (inl so) = line_faults (lines_of text) one other is so
IsFirstFault-one text one other (inl is) (inr so) = absurd (no_line_fault (lines_of text) one so.0 is)
IsFirstFault-one text one other (inr is) (inl so) = absurd (no_line_fault (lines_of text) other is.0 so)
IsFirstFault-one text one other (inr is) (inr so) = whole_faults (lines_of text) one other is.1 so.1

-- What is returned for a text with a first fault, where each result has its cause.
pub IsFaultResult-from : (text : List ℕ) (result : Result Tfpg GraphRefusal) → IfOk result (Spells text) → IfOk result IsValid
    → IfErr result (IsRefusalOf text) → (fault : GraphFault) → IsFirstFault text fault → IsFaultResult fault result
IsFaultResult-from text (Ok graph) spelled valid refused fault is = absurd (Spells-no_fault text graph spelled valid fault is)
IsFaultResult-from text (Err (Fault reported)) spelled valid refused fault is =
    inl (ap (λ (one : GraphFault). Err (Fault one)) (IsFirstFault-one text reported fault refused is))
IsFaultResult-from text (Err NoMemory) spelled valid refused fault is = inr refl
