-- The edges into a node by their numbers, and when one or all of them are due.
use Rattle.std.proofs.Common.{◌≡◌, ℕ, ◌<◌, List, length, get_or, Option, Some, slice_get, ap, subst, ◌∙◌, eqb}
use Rattle.std.specs.List.{All, Contains}
use Rattle.std.proofs.lemmas.List.{get_or_default}
use Rattle.std.proofs.lemmas.List.Elements.{All-contains, All-contains_itself, All-get_or, All-from_get_or}
use Rattle.tfpg_base.specs.declared.activation.Activation.{Activation}
use Rattle.tfpg_graph.specs.declared.edge.Edge.{Edge}
use Rattle.tfpg_graph.specs.Graph.{Tfpg, incoming, edges_into}
use Rattle.tfpg_base.proofs.lemmas.lists.Elements.{All-from_members}
use Rattle.tfpg_base.proofs.lemmas.lists.Numbered.{number_among, item_among}
use Rattle.tfpg_log.specs.Log.{Logbook}
use Rattle.tfpg_log.specs.Rules.{IsDue}
use Rattle.tfpg_trace.specs.inside.Due.{Begins, IsDueBy, SomeDue, AllDue}
use Rattle.tfpg_trace.proofs.lemmas.Beginnings.{carried, OneOf, EachOf}

-- what holds of all numbers of the edges into a node holds of the edges, and the other way round
module _ (graph : Tfpg) (node : ℕ) (Q : ℕ → Type 0) (P : Edge → Type 0) where
  -- What each number shows of its edge holds of all edges into the node.
  pub all_edges : ((i : ℕ) (edge : Edge) → slice_get graph.edges i ≡ Some edge → Q i → P edge) → All Q (incoming graph node)
      → All P (edges_into graph node)
  all_edges there all =
      All-from_members P (edges_into graph node)
      (λ edge member.
      let found = number_among (λ (e : Edge). eqb e.target node) graph.edges edge member in
      there found.0 edge found.2 (All-contains Q (incoming graph node) found.0 all found.1))

  -- What each edge shows of its number holds of all numbers of the edges into the node.
  pub all_numbers : ((i : ℕ) (edge : Edge) → slice_get graph.edges i ≡ Some edge → P edge → Q i) → All P (edges_into graph node)
      → All Q (incoming graph node)
  all_numbers there all =
      All-from_members Q (incoming graph node)
      (λ number member.
      let found = item_among (λ (e : Edge). eqb e.target node) graph.edges number member in
      there number found.0 found.2 (All-contains P (edges_into graph node) found.0 all found.1))

-- an edge at an index among the edges of these numbers is due
abbrev pub DueAt : Tfpg → Logbook → List Activation → List ℕ → ℕ → ℕ → Type 0
DueAt graph log trace numbers index instant = IsDueBy graph log trace (get_or numbers index 0) instant

-- the edge has a number among these
abbrev pub HasIndex : Tfpg → List ℕ → Edge → Type 0
HasIndex graph numbers edge = (index : ℕ) × (index < length numbers) × (slice_get graph.edges (get_or numbers index 0) ≡ Some edge)

module _ (graph : Tfpg) (log : Logbook) (trace : List Activation) (node : ℕ) where
  own : (number instant : ℕ) (edge : Edge) → slice_get graph.edges number ≡ Some edge → IsDueBy graph log trace number instant
      → IsDue log trace edge instant
  own number instant edge at due = let same : due.0 ≡ edge = cc (due.1, at) in subst (λ e. IsDue log trace e instant) same due.2

  each_from : (instant : ℕ) → AllDue graph log trace node instant
      → EachOf (DueAt graph log trace (incoming graph node)) (length (incoming graph node)) instant
  each_from instant all index below =
      All-get_or (λ number. IsDueBy graph log trace number instant) (incoming graph node) index 0 below
      (all_numbers graph node (λ number. IsDueBy graph log trace number instant) (λ edge. IsDue log trace edge instant)
      (λ i edge at due. (edge, at, due)) all)

  each_to : (instant : ℕ) → EachOf (DueAt graph log trace (incoming graph node)) (length (incoming graph node)) instant
      → AllDue graph log trace node instant
  each_to instant each =
      all_edges graph node (λ number. IsDueBy graph log trace number instant) (λ edge. IsDue log trace edge instant)
      (λ i edge at due. own i instant edge at due)
      (All-from_get_or (λ number. IsDueBy graph log trace number instant) (incoming graph node) 0 each)

  -- Where some or all edges into a node begin to be due, by their indexes.
  by_indexes : (Those : (ℕ → ℕ → Type 0) → ℕ → ℕ → Type 0) (Holds : ℕ → Type 0)
      → ((instant : ℕ) → Those (DueAt graph log trace (incoming graph node)) (length (incoming graph node)) instant → Holds instant)
      → ((instant : ℕ) → Holds instant → Those (DueAt graph log trace (incoming graph node)) (length (incoming graph node)) instant)
      → (lo hi count : ℕ) (numbers : List ℕ) (found : Option ℕ) → numbers ≡ incoming graph node → count ≡ length numbers
      → Begins (Those (DueAt graph log trace numbers) count) lo hi found → Begins Holds lo hi found
  by_indexes Those Holds to from lo hi count numbers found are counted begins =
      let all : count ≡ length (incoming graph node) = counted ∙ ap length are in
      let of_all : Begins (Those (DueAt graph log trace (incoming graph node)) (length (incoming graph node))) lo hi found =
      subst (λ n. Begins (Those (DueAt graph log trace (incoming graph node)) n) lo hi found) all
      (subst (λ (ns : List ℕ). Begins (Those (DueAt graph log trace ns) count) lo hi found) are begins) in
      carried (Those (DueAt graph log trace (incoming graph node)) (length (incoming graph node))) Holds lo hi found
      (λ instant after upto holds. to instant holds) (λ instant after upto holds. from instant holds) of_all

  -- What begins where all edges are due by their indexes begins where they are due into the node.
  pub all_by_indexes : (lo hi count : ℕ) (numbers : List ℕ) (found : Option ℕ) → numbers ≡ incoming graph node → count ≡ length numbers
      → Begins (EachOf (DueAt graph log trace numbers) count) lo hi found → Begins (AllDue graph log trace node) lo hi found
  all_by_indexes lo hi count numbers found are counted begins =
      by_indexes EachOf (AllDue graph log trace node) each_to each_from lo hi count numbers found are counted begins

  has_index : (edge : Edge) → Contains (edges_into graph node) edge → HasIndex graph (incoming graph node) edge
  has_index edge member =
      All-contains (HasIndex graph (incoming graph node)) (edges_into graph node) edge
      (all_edges graph node (Contains (incoming graph node)) (HasIndex graph (incoming graph node))
      (λ i e at there.
      (there.0, there.1, ap (slice_get graph.edges) (get_or_default (incoming graph node) there.0 0 i there.1 ∙ there.2) ∙ at))
      (All-contains_itself (incoming graph node)))
      member

  -- the edge of this number is one of those into the node
  abbrev pub IsInto : ℕ → Type 0
  IsInto number = (edge : Edge) → slice_get graph.edges number ≡ Some edge → Contains (edges_into graph node) edge

  is_into : (index : ℕ) → index < length (incoming graph node) → IsInto (get_or (incoming graph node) index 0)
  is_into index below =
      All-get_or IsInto (incoming graph node) index 0 below
      (all_numbers graph node IsInto (Contains (edges_into graph node))
      (λ i e at member edge there. let same : e ≡ edge = cc (at, there) in subst (Contains (edges_into graph node)) same member)
      (All-contains_itself (edges_into graph node)))

  some_from : (instant : ℕ) → SomeDue graph log trace node instant
      → OneOf (DueAt graph log trace (incoming graph node)) (length (incoming graph node)) instant
  some_from instant some =
      let there = has_index some.0 some.1 in
      (there.0, there.1, (some.0, there.2, some.2))

  some_to : (instant : ℕ) → OneOf (DueAt graph log trace (incoming graph node)) (length (incoming graph node)) instant
      → SomeDue graph log trace node instant
  some_to instant one = (one.2.0, is_into one.0 one.1 one.2.0 one.2.1, one.2.2)

  -- What begins where an edge is due by its index begins where one is due into the node.
  pub some_by_indexes : (lo hi count : ℕ) (numbers : List ℕ) (found : Option ℕ) → numbers ≡ incoming graph node → count ≡ length numbers
      → Begins (OneOf (DueAt graph log trace numbers) count) lo hi found → Begins (SomeDue graph log trace node) lo hi found
  some_by_indexes lo hi count numbers found are counted begins =
      by_indexes OneOf (SomeDue graph log trace node) some_to some_from lo hi count numbers found are counted begins
