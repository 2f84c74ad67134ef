-- The sources of the edges into a node, by the numbers of these edges.
use Rattle.std.proofs.Common.{◌≡◌, ℕ, ◌+◌, ◌<◌, ◌≤◌, ◌==◌, Bool, List, length, get_or, take, Some, slice_get, All, subst}
use Rattle.std.specs.List.{Contains}
use Rattle.std.specs.Option.{IsSomeAnd}
use Rattle.std.proofs.lemmas.List.Elements.{All-more}
use Rattle.tfpg_base.proofs.lemmas.lists.Choices.{IsSomeAnd-from}
use Rattle.tfpg_base.proofs.lemmas.lists.Numbered.{number_among, number_within, some_at_index, none_at_indexes, not_all_at_index, all_at_indexes}
use Rattle.tfpg_graph.specs.declared.edge.Edge.{Edge}
use Rattle.tfpg_graph.specs.Graph.{Tfpg, incoming, edges_into}
use Rattle.tfpg_graph.specs.inside.reach.Reaching.{HasSourceIn, HasAllSourcesIn}

-- the edge of this number has its source among these
abbrev pub HasItsSourceIn : Tfpg → List ℕ → ℕ → Type 0
HasItsSourceIn graph nodes number = IsSomeAnd (slice_get graph.edges number) (λ (edge : Edge). Contains nodes edge.source)

-- it has not
abbrev pub HasNoSourceIn : Tfpg → List ℕ → ℕ → Type 0
HasNoSourceIn graph nodes number = HasItsSourceIn graph nodes number → ⊥

-- each edge into a node has a number
pub number_of_edge : (graph : Tfpg) (node : ℕ) (edge : Edge) → Contains (edges_into graph node) edge
    → (number : ℕ) × Contains (incoming graph node) number × (slice_get graph.edges number ≡ Some edge)
number_of_edge graph node edge member = number_among (λ (e : Edge). e.target == node) graph.edges edge member

-- each number of an edge into a node is that of an edge
pub incoming_within : (graph : Tfpg) (node index : ℕ) (numbers : List ℕ) → numbers ≡ incoming graph node → index < length numbers
    → get_or numbers index 0 < length graph.edges
incoming_within graph node index numbers are within =
    number_within (λ (edge : Edge). edge.target == node) graph.edges (λ (edge : Edge). edge.target ≡ node) numbers are index within

module _ (graph : Tfpg) (nodes : List ℕ) (node : ℕ) (numbers : List ℕ) (are : numbers ≡ incoming graph node) (i : ℕ) where
  -- the edge goes into the node
  abbrev goes_in : Edge → Bool
  goes_in edge = edge.target == node

  -- its source is one of these
  abbrev ComesFrom : Edge → Type 0
  ComesFrom edge = Contains nodes edge.source

  module _ (edge : Edge) (within : i < length numbers) (at : slice_get graph.edges (get_or numbers i 0) ≡ Some edge) where
    has_source : Contains nodes edge.source → HasItsSourceIn graph nodes (get_or numbers i 0)
    has_source member = IsSomeAnd-from ComesFrom (slice_get graph.edges (get_or numbers i 0)) edge at member

    has_no_source : (Contains nodes edge.source → ⊥) → HasNoSourceIn graph nodes (get_or numbers i 0)
    has_no_source lacks has = lacks (subst (λ there. IsSomeAnd there ComesFrom) at has)

    -- where its source is one of these, that is a source among these
    pub source_found : Contains nodes edge.source → HasSourceIn graph nodes node
    source_found member = some_at_index goes_in graph.edges ComesFrom numbers are i within (has_source member)

    -- where its source is none of these, not all sources are
    pub source_lacks : (Contains nodes edge.source → ⊥) → HasAllSourcesIn graph nodes node → ⊥
    source_lacks lacks all = not_all_at_index goes_in graph.edges ComesFrom numbers are i within (has_no_source lacks) all

    -- one edge more has no source among these
    pub no_source_more : (Contains nodes edge.source → ⊥) → All (HasNoSourceIn graph nodes) (take i numbers)
        → All (HasNoSourceIn graph nodes) (take (i + 1) numbers)
    no_source_more lacks before = All-more (HasNoSourceIn graph nodes) numbers i 0 within before (has_no_source lacks)

    -- one edge more has its source among these
    pub source_more : Contains nodes edge.source → All (HasItsSourceIn graph nodes) (take i numbers)
        → All (HasItsSourceIn graph nodes) (take (i + 1) numbers)
    source_more member before = All-more (HasItsSourceIn graph nodes) numbers i 0 within before (has_source member)

  module _ (end : length numbers ≤ i) where
    -- at the end no source is among these
    pub no_source_at_end : All (HasNoSourceIn graph nodes) (take i numbers) → HasSourceIn graph nodes node → ⊥
    no_source_at_end none some = none_at_indexes goes_in graph.edges ComesFrom numbers are i end none some

    -- at the end all sources are among these
    pub all_sources_at_end : All (HasItsSourceIn graph nodes) (take i numbers) → HasAllSourcesIn graph nodes node
    all_sources_at_end all = all_at_indexes goes_in graph.edges ComesFrom numbers are i end all
