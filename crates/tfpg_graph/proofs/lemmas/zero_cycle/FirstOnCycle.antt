-- Whether an edge lies on a cycle of edges that may take no time is decided, so there is a first that does, or none.
use Rattle.std.proofs.Common.{◌≡◌, ℕ, zero, suc, ◌<◌, Bool, true, false, ◌⊎◌, ⊎_elim, inl, inr, length, Option, Some, None, slice_get, refl, sym, ap, ◌∙◌, subst}
use Rattle.std.proofs.lemmas.Bool.{false≢true}
use Rattle.std.proofs.lemmas.Bool.Decides.{eqb_tells}
use Rattle.std.proofs.lemmas.List.Elements.{All-contains}
use Rattle.std.proofs.lemmas.Option.{same_Some}
use Rattle.tfpg_base.proofs.lemmas.lists.Decided.{IsDecided, IsFirstBelow, first_below}
use Rattle.tfpg_base.proofs.lemmas.lists.Elements.{slice_get-contains}
use Rattle.tfpg_graph.specs.declared.edge.Edge.{Edge}
use Rattle.tfpg_graph.specs.Graph.{Tfpg}
use Rattle.tfpg_graph.specs.Valid.{IsValidEdge, IsValidSoFar, WalksInNoTime, HasNoZeroCycle}
use Rattle.tfpg_graph.specs.ZeroCycle.{LiesOnZeroCycle}
use Rattle.tfpg_graph.proofs.lemmas.zero_cycle.ZeroRanks.{walks, walks-true, walks-edge, walks-joined}

-- whether two numbers are equal
number_decided : (one other : ℕ) → IsDecided (one ≡ other)
number_decided one other = ⊎_elim (λ same. inl same.1) (λ apart. inr apart.1) (eqb_tells one other)

module _ (graph : Tfpg) (is : IsValidSoFar graph) where
  -- over an edge that may take no time one can walk, with any node between
  stepped : (from to : ℕ) (walk : WalksInNoTime graph from to 1) → walks graph (length graph.nodes) from walk.0.target ≡ true
  stepped from to walk =
      ap (λ node. walks graph (length graph.nodes) node walk.0.target) (sym walk.2) ∙ walks-edge graph (length graph.nodes) walk.0 walk.1 walk.3

  -- and over some steps too
  walked : (steps from to : ℕ) → WalksInNoTime graph from to (suc steps) → walks graph (length graph.nodes) from to ≡ true
  walked zero from to walk =
      ap (walks graph (length graph.nodes) from) (sym walk.4) ∙ stepped from walk.0.target (walk.0, walk.1, walk.2, walk.3, refl)
  walked (suc steps) from to walk =
      let valid : IsValidEdge graph walk.0 = All-contains (IsValidEdge graph) graph.edges walk.0 is.edges walk.1 in
      walks-joined graph (length graph.nodes) from walk.0.target to valid.target
      (stepped from walk.0.target (walk.0, walk.1, walk.2, walk.3, refl)) (walked steps walk.0.target to walk.4)

  -- whether one can go back from the target of an edge to its source
  back : (edge : Edge) → IsDecided ((steps : ℕ) × WalksInNoTime graph edge.target edge.source steps)
  back edge = at (number_decided edge.target edge.source) (walks graph (length graph.nodes) edge.target edge.source) refl
    where
      none : (edge.target ≡ edge.source → ⊥) → walks graph (length graph.nodes) edge.target edge.source ≡ false
          → (steps : ℕ) → WalksInNoTime graph edge.target edge.source steps → ⊥
      none apart no_walk zero walk = apart walk
      none apart no_walk (suc steps) walk = false≢true (sym no_walk ∙ walked steps edge.target edge.source walk)

      at : IsDecided (edge.target ≡ edge.source) → (b : Bool) → walks graph (length graph.nodes) edge.target edge.source ≡ b
          → IsDecided ((steps : ℕ) × WalksInNoTime graph edge.target edge.source steps)
      at (inl same) b walk = inl (0, same)
      at (inr apart) true walk =
          let round = walks-true graph (length graph.nodes) edge.target edge.source walk in inl (suc round.0, round.1)
      at (inr apart) false walk = inr (λ some. none apart walk some.0 some.1)

  -- whether the edge of a number lies on such a cycle
  lies_decided : (number : ℕ) → IsDecided (LiesOnZeroCycle graph number)
  lies_decided number = at (slice_get graph.edges number) refl
    where
      timed : (edge : Edge) → slice_get graph.edges number ≡ Some edge → IsDecided (edge.tmin ≡ 0)
          → IsDecided ((steps : ℕ) × WalksInNoTime graph edge.target edge.source steps) → IsDecided (LiesOnZeroCycle graph number)
      timed edge numbered (inl no_time) (inl some) =
          inl (record { edge = edge; numbered = numbered; no_time = no_time; steps = some.0; back = some.1 })
      timed edge numbered (inl no_time) (inr none) = inr (λ lies.
          let same : lies.edge ≡ edge = same_Some lies.edge edge (sym lies.numbered ∙ numbered) in
          none (lies.steps, subst (λ (e : Edge). WalksInNoTime graph e.target e.source lies.steps) same lies.back))
      timed edge numbered (inr takes_time) some = inr (λ lies.
          let same : lies.edge ≡ edge = same_Some lies.edge edge (sym lies.numbered ∙ numbered) in
          takes_time (ap (λ (e : Edge). e.tmin) (sym same) ∙ lies.no_time))

      at : (found : Option Edge) → slice_get graph.edges number ≡ found → IsDecided (LiesOnZeroCycle graph number)
      at None numbered = inr (λ lies. let none : None ≡ Some lies.edge = sym numbered ∙ lies.numbered in absurd cc)
      at (Some edge) numbered = timed edge numbered (number_decided edge.tmin 0) (back edge)

  -- Some edge is the first on such a cycle, or there is no such cycle.
  pub first_on_cycle : ((number : ℕ) × IsFirstBelow (LiesOnZeroCycle graph) (λ n. LiesOnZeroCycle graph n → ⊥) (length graph.edges) number)
      ⊎ HasNoZeroCycle graph
  first_on_cycle = ⊎_elim inl (λ none. inr (no_cycle none))
      (first_below (LiesOnZeroCycle graph) (λ n. LiesOnZeroCycle graph n → ⊥) lies_decided (length graph.edges))
    where
      no_cycle : ((number : ℕ) → number < length graph.edges → LiesOnZeroCycle graph number → ⊥) → HasNoZeroCycle graph
      no_cycle none node steps walk =
          let edge : Edge = walk.0 in
          none walk.1.0 walk.1.1 (record {
            edge = edge;
            numbered = slice_get-contains graph.edges edge walk.1;
            no_time = walk.3;
            steps = steps;
            back = subst (λ (n : ℕ). WalksInNoTime graph edge.target n steps) (sym walk.2) walk.4;
          })
