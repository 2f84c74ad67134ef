-- Where the edges lead, edge by edge.
use Rattle.std.proofs.Common.{◌≡◌, ℕ, ◌+◌, ◌<◌, ⊎_elim, List, [], ◌∷◌, ◌++◌, length, replicate, get_or, take, sym, ap, ◌∙◌, subst}
use Rattle.std.specs.List.{Contains}
use Rattle.std.proofs.lemmas.List.{take_more, length-replicate}
use Rattle.std.proofs.lemmas.List.Elements.{Contains-append_left, Contains-push, Contains-push_cases}
use Rattle.tfpg_base.proofs.lemmas.lists.Elements.{Contains-nil}
use Rattle.tfpg_graph.specs.declared.edge.Edge.{Edge}
use Rattle.tfpg_graph.specs.Onward.{AreOnward}
use Rattle.tfpg_graph.specs.inside.zero_cycle.ZeroSearch.{with_step}
use Rattle.tfpg_graph.proofs.lemmas.zero_cycle.StepRows.{no_step, IsStep-new, IsStep-old, IsStep-cases, length-with_step}

-- no edge leads anywhere
pub AreOnward-none : (count : ℕ) → AreOnward count [] (replicate count [])
AreOnward-none count = record {
  row_count = length-replicate count (let none : List ℕ = [] in none);
  exact = λ from to. (λ leads. absurd (no_step count from to leads), λ leads. absurd (Contains-nil leads.0 leads.1));
}

-- one edge more
AreOnward-push : (count : ℕ) (edges : List Edge) (rows : List (List ℕ)) (edge : Edge) → edge.source < length rows → AreOnward count edges rows
    → AreOnward count (edges ++ edge ∷ []) (with_step rows edge.source edge.target)
AreOnward-push count edges rows edge within are = record {
  row_count = length-with_step rows edge.source edge.target within ∙ are.row_count;
  exact = λ from to. (
    λ leads. ⊎_elim
        (λ old. let there = (are.exact from to).0 old in (there.0, Contains-append_left edges (edge ∷ []) there.0 there.1, there.2, there.3))
        (λ new. (edge, Contains-push edges edge, new.0, new.1))
        (IsStep-cases rows edge.source edge.target within from to leads),
    λ leads. ⊎_elim
        (λ old. IsStep-old rows edge.source edge.target within from to ((are.exact from to).1 (leads.0, old, leads.2, leads.3)))
        (λ same. subst (λ (node : ℕ). Contains (get_or (with_step rows edge.source edge.target) node []) to) (ap (λ (e : Edge). e.source) same ∙ leads.2)
        (subst (λ (node : ℕ). Contains (get_or (with_step rows edge.source edge.target) edge.source []) node) (ap (λ (e : Edge). e.target) same ∙ leads.3)
        (IsStep-new rows edge.source edge.target within)))
        (Contains-push_cases edges edge leads.0 leads.1),
  );
}

-- one edge further
pub AreOnward-next : (count : ℕ) (edges : List Edge) (rows more : List (List ℕ)) (number : ℕ) (edge : Edge) → number < length edges → get_or edges number edge ≡ edge → edge.source < length rows
    → AreOnward count (take number edges) rows → more ≡ with_step rows edge.source edge.target → AreOnward count (take (number + 1) edges) more
AreOnward-next count edges rows more number edge within at begins are is =
    subst (AreOnward count (take (number + 1) edges)) (sym is)
    (subst (λ (es : List Edge). AreOnward count es (with_step rows edge.source edge.target)) (sym (take_more edges number edge within ∙ ap (λ (e : Edge). take number edges ++ e ∷ []) at))
    (AreOnward-push count (take number edges) rows edge begins are))
