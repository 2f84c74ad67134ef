-- Lines that spell a map have no fault, and others have one first.
use Rattle.std.proofs.Common.{◌≡◌, ℕ, ◌+◌, ◌<◌, ◌≤◌, List, ◌++◌, length, take, drop, ap, sym, subst, ◌∙◌, append_assoc, inl, inr, arith}
use Rattle.std.proofs.lemmas.List.{take-append-drop, take-take}
use Rattle.tfpg_base.proofs.lemmas.lists.Sequences.{same_from_neither}
use Rattle.tfpg_streams.specs.FaultyLine.{IsFaultyLine}
use Rattle.tfpg_graph.specs.Graph.{Tfpg}
use Rattle.tfpg_map.specs.Spelling.{BeginsMap, HasMap, IsMapFault}

module _ (graph : Tfpg) (lines : List (List ℕ)) where
  -- each front of lines that begin a map begins one
  front_begins : (count : ℕ) → BeginsMap graph lines → BeginsMap graph (take count lines)
  front_begins count begins = (
    drop count lines ++ begins.0,
    subst (HasMap graph) (ap (λ (them : List (List ℕ)). them ++ begins.0) (sym (take-append-drop count lines)) ∙ append_assoc (take count lines) (drop count lines) begins.0) begins.1,
  )

  -- so does each front of lines that spell one
  front_of_map : (count : ℕ) → HasMap graph lines → BeginsMap graph (take count lines)
  front_of_map count map = (drop count lines, subst (HasMap graph) (sym (take-append-drop count lines)) map)

  -- none of them is faulty
  pub no_map_fault : (number : ℕ) → HasMap graph lines → IsMapFault graph lines number → ⊥
  no_map_fault number map (inl faulty) = faulty.with_it (front_of_map (faulty.index + 1) map)
  no_map_fault number map (inr none) = let some = sym none.0 ∙ map.2.spelled in cc

module _ (graph : Tfpg) (lines : List (List ℕ)) where
  -- no line before the first faulty one is faulty
  not_before : (number other : ℕ) (first : IsFaultyLine (BeginsMap graph) lines number) (more : IsFaultyLine (BeginsMap graph) lines other) → first.index < more.index → ⊥
  not_before number other first more less =
      let within : first.index + 1 ≤ more.index = omega (arith, less) in
      first.with_it
      (subst (BeginsMap graph) (take-take (first.index + 1) more.index lines within) (front_begins graph (take more.index lines) (first.index + 1) more.before))

  -- there is one first faulty line
  pub one_map_fault : (number other : ℕ) → IsMapFault graph lines number → IsMapFault graph lines other → number ≡ other
  one_map_fault number other (inl first) (inl more) =
      first.counted ∙ ap (λ (index : ℕ). index + 1) (same_from_neither first.index more.index (not_before number other first more) (not_before other number more first)) ∙ sym more.counted
  one_map_fault number other (inl first) (inr none) = let within = first.within in absurd (omega (arith, within, ap length none.0))
  one_map_fault number other (inr none) (inl more) = let within = more.within in absurd (omega (arith, within, ap length none.0))
  one_map_fault number other (inr none) (inr also) = none.1 ∙ sym also.1
