-- What a text that stands for a graph text spells, and its first fault: those of the graph text.
use Rattle.std.proofs.Common.{◌≡◌, ◌⊎◌, ⊎_elim, ℕ, List, Ok, Err, inl, inr, refl, sym, subst, ◌∙◌}
use Rattle.std.specs.Prelude.{Result}
use Rattle.tfpg_base.proofs.lemmas.lists.Choices.{ok-err, same_Err}
use Rattle.tfpg_graph.specs.declared.cause.GraphFault.{GraphFault}
use Rattle.tfpg_graph.specs.Faults.{IsFirstFault}
use Rattle.tfpg_graph.specs.Graph.{Tfpg}
use Rattle.tfpg_graph.specs.Text.{Spells}
use Rattle.tfpg_graph.specs.Valid.{IsValid}
use Rattle.tfpg_json.specs.GraphText.{stands_for, IsJsonFault, SpellsAsJson}

-- two graph texts that a text stands for are one
same_lines : (text lines other : List ℕ) → stands_for text ≡ Ok lines → stands_for text ≡ Ok other → other ≡ lines
same_lines text lines other stands too = cc

-- the first fault of the text is that of the graph text
pub first_fault_of : (text lines : List ℕ) (fault : GraphFault) → stands_for text ≡ Ok lines → IsJsonFault text fault → IsFirstFault lines fault
first_fault_of text lines fault stands (inl none) = absurd (ok-err lines fault (sym stands ∙ none))
first_fault_of text lines fault stands (inr is) = subst (λ (t : List ℕ). IsFirstFault t fault) (same_lines text lines is.0 stands is.1) is.2

-- where a text spells a valid graph or has a first fault, so is it as JSON
pub spells_or_has_fault : ((text : List ℕ) → ((graph : Tfpg) × Spells text graph × IsValid graph) ⊎ ((fault : GraphFault) × IsFirstFault text fault))
    → (text : List ℕ) → ((graph : Tfpg) × SpellsAsJson text graph × IsValid graph) ⊎ ((fault : GraphFault) × IsJsonFault text fault)
spells_or_has_fault each text = by (stands_for text) refl
  where
    by : (found : Result (List ℕ) GraphFault) → stands_for text ≡ found → ((graph : Tfpg) × SpellsAsJson text graph × IsValid graph) ⊎ ((fault : GraphFault) × IsJsonFault text fault)
    by (Ok lines) stands = ⊎_elim
        (λ spelled. inl (spelled.0, (lines, stands, spelled.1), spelled.2))
        (λ faulty. inr (faulty.0, inr (lines, stands, faulty.1)))
        (each lines)
    by (Err fault) stands = inr (fault, inl stands)

-- where a text has at most one first fault, it has at most one as JSON
pub at_most_one_fault : ((text : List ℕ) (fault other : GraphFault) → IsFirstFault text fault → IsFirstFault text other → fault ≡ other)
    → (text : List ℕ) (fault other : GraphFault) → IsJsonFault text fault → IsJsonFault text other → fault ≡ other
at_most_one_fault one text fault other (inl is) (inl too) = same_Err fault other (sym is ∙ too)
at_most_one_fault one text fault other (inl is) (inr too) = absurd (ok-err too.0 fault (sym too.1 ∙ is))
at_most_one_fault one text fault other (inr is) (inl too) = absurd (ok-err is.0 other (sym is.1 ∙ too))
at_most_one_fault one text fault other (inr is) (inr too) = one is.0 fault other is.2 (first_fault_of text is.0 other is.1 (inr too))

-- and one that spells a valid graph has none
pub no_fault : ((text : List ℕ) (graph : Tfpg) → Spells text graph → IsValid graph → (fault : GraphFault) → IsFirstFault text fault → ⊥)
    → (text : List ℕ) (graph : Tfpg) → SpellsAsJson text graph → IsValid graph → (fault : GraphFault) → IsJsonFault text fault → ⊥
no_fault none text graph spelled valid fault is = none spelled.0 graph spelled.2 valid fault (first_fault_of text spelled.0 fault spelled.1 is)
