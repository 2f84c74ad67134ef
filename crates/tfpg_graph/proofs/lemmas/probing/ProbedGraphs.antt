-- A valid graph with a probe is valid.
use Rattle.std.proofs.Common.{◌≡◌, ◌≢◌, ℕ, zero, suc, ◌-◌, ◌^◌, ◌<◌, ◌==◌, ◌&&◌, ⊎_elim, inl, inr, ◌⊎◌, Bool, true, false, cond, not, List, [], ◌∷◌, ◌++◌, length, Contains, Option, Some, None, refl, sym, ap, ◌∙◌, subst, arith}
use Rattle.std.specs.Option.{option_map, option_map_or}
use Rattle.std.proofs.lemmas.Bool.{cases_lt, cases_eq, eq-eqb, ne_eqb, false≢true}
use Rattle.std.proofs.lemmas.List.{length_push}
use Rattle.std.proofs.lemmas.List.Elements.{All-weaker, All-contains, Contains-push_cases}
use Rattle.std.proofs.lemmas.Nat.{pow_below}
use Rattle.tfpg_base.proofs.lemmas.lists.Positions.{position-All_fail}
use Rattle.tfpg_base.proofs.lemmas.lists.Written.{slice_get-push_at}
use Rattle.tfpg_graph.specs.declared.kind.Kind.TheVariants.{Or}
use Rattle.tfpg_graph.specs.declared.kind.Lag.{Lag}
use Rattle.tfpg_graph.specs.declared.edge.Edge.{Edge}
use Rattle.tfpg_graph.specs.declared.limits.TheConstants.{MAX_INCOMING}
use Rattle.tfpg_graph.specs.Graph.{Tfpg, Node, is_failure, incoming, edge_from_to}
use Rattle.tfpg_graph.specs.Valid.{IsValid, IsValidSoFar, IsValidEdge, HasIncomingBefore, HasNoZeroCycle, WalksInNoTime}
use Rattle.tfpg_graph.specs.Probe.{TakesProbe, probe_edge, with_probe}
use Rattle.tfpg_graph.specs.inside.declaring.Indexes.{with_node}
use Rattle.tfpg_graph.proofs.lemmas.declaring.MoreDeclared.{is_kind_at-with_node, incoming-with_edge, no_edge_into, IsValidSoFar-with_node, IsValidSoFar-with_edge}

-- a list with a first item is not empty
cons_not_nil : (first : ℕ) (others : List ℕ) → first ∷ others ≢ []
cons_not_nil first others same = let more : length (first ∷ others) ≡ length {A = ℕ} [] = ap length same in omega (arith, more)

-- one of two tests fails
not_both : (one other : Bool) → other ≡ false → (one && other) ≡ false
not_both true other fails = fails
not_both false other fails = refl

-- some bit of all modes is set
some_bits : (count : ℕ) → 0 < count → 0 < 2 ^ count - 1
some_bits count some = let more : 2 ^ 0 < 2 ^ count = pow_below 0 count some in omega (arith, more)

module _ (graph : Tfpg) (name : List ℕ) (source : ℕ) (lag : Lag) (valid : IsValid graph) (takes : TakesProbe graph name source lag) where
  abbrev pub widened : Tfpg
  widened = with_node graph name (Or (Some lag))

  abbrev pub probed : Tfpg
  probed = with_probe graph name source lag

  -- the number of the probe
  abbrev probe : ℕ
  probe = length graph.nodes

  abbrev edge : Edge
  edge = probe_edge graph source

  -- the edge to the probe is valid
  pub edge_valid : IsValidEdge widened edge
  edge_valid = record {
    source = let within = takes.source_in in omega (arith, length_push graph.nodes (record { name = name; kind = Or (Some lag) }));
    target = omega (arith, length_push graph.nodes (record { name = name; kind = Or (Some lag) }));
    into_discrepancy = ap (λ (o : Option Node). not (option_map_or is_failure (option_map (λ n. n.kind) o) false))
        (slice_get-push_at graph.nodes (record { name = name; kind = Or (Some lag) }) probe refl);
    no_self_edge = λ same. let within = takes.source_in in omega (arith, same);
    least = omega arith;
    greatest = (omega arith, omega arith);
    some_mode = some_bits (length graph.modes) valid.has_mode;
    own_modes = let some = some_bits (length graph.modes) valid.has_mode in omega (arith, some);
  }

  -- no other edge enters the probe
  pub edge_new : edge_from_to widened source probe ≡ None
  edge_new = position-All_fail (λ e. (e.source == source) && (e.target == probe)) graph.edges
      (All-weaker (IsValidEdge graph) (λ e. ((e.source == source) && (e.target == probe)) ≡ false)
      (λ e is. not_both (e.source == source) (e.target == probe) (ne_eqb e.target probe (λ same. let within = is.target in omega (arith, same))))
      graph.edges valid.so_far.edges)

  -- so there is room for it
  pub incoming_new : incoming widened probe ≡ []
  incoming_new = no_edge_into graph valid.so_far.edges probe (omega arith)

  -- So the graph with the probe is valid so far.
  pub so_far : IsValidSoFar probed
  so_far = IsValidSoFar-with_edge widened edge edge_valid edge_new takes.edge_room
      (subst (λ xs. length xs < MAX_INCOMING) (sym incoming_new) (omega arith))
      (IsValidSoFar-with_node graph name (Or (Some lag)) takes.named takes.new takes.lag_valid takes.node_room (λ failure. absurd (false≢true failure)) valid.so_far)

  -- ---- each discrepancy has an edge into it

  not_empty : (xs : List ℕ) (chosen : Bool) (x : ℕ) → (xs ≢ []) ⊎ (chosen ≡ true) → xs ++ cond chosen (x ∷ []) [] ≢ []
  not_empty [] true x some same = absurd (cons_not_nil x [] same)
  not_empty [] false x some same = ⊎_elim (λ filled. filled refl) (λ is. false≢true is) some
  not_empty (first ∷ others) chosen x some same = cons_not_nil first (others ++ cond chosen (x ∷ []) []) same

  has_incoming : HasIncomingBefore probed (length probed.nodes)
  has_incoming node within discrepancy none =
      not_empty (incoming widened node) (edge.target == node) (length graph.edges)
      (⊎_elim
      (λ before. inl (valid.has_incoming node before (sym (ap not (is_kind_at-with_node graph name (Or (Some lag)) is_failure node before)) ∙ discrepancy)))
      (λ from. inr (eq-eqb probe node (omega (arith, length_push graph.nodes (record { name = name; kind = Or (Some lag) })))))
      (cases_lt node probe))
      (sym (incoming-with_edge widened edge node) ∙ none)

  -- ---- no cycle takes no time

  -- an edge of the graph with the probe leads to the probe, or is an edge of the graph
  edge_cases : (e : Edge) → Contains probed.edges e → Contains graph.edges e ⊎ (edge ≡ e)
  edge_cases e among = Contains-push_cases graph.edges edge e among

  -- no edge leaves the probe
  none_leaves : (e : Edge) → Contains probed.edges e → e.source ≡ probe → ⊥
  none_leaves e among leaves = ⊎_elim
      (λ own. let is : IsValidEdge graph e = All-contains (IsValidEdge graph) graph.edges e valid.so_far.edges own in
      let within = is.source in omega (arith, leaves, within))
      (λ same. let from = takes.source_in in omega (arith, from, leaves, ap (λ (x : Edge). x.source) same)) (edge_cases e among)

  -- a walk that does not end at the probe does not pass it
  walks_before : (steps from to : ℕ) → to ≢ probe → WalksInNoTime probed from to steps → WalksInNoTime graph from to steps
  walks_before zero from to elsewhere walk = walk
  walks_before (suc steps) from to elsewhere walk = ⊎_elim
      (λ own. (walk.0, own, walk.2, walk.3, walks_before steps walk.0.target to elsewhere walk.4))
      (λ same. absurd (never_on steps walk.0.target (sym (ap (λ (x : Edge). x.target) same)) walk.4)) (edge_cases walk.0 walk.1)
    where
      never_on : (more at : ℕ) → at ≡ probe → WalksInNoTime probed at to more → ⊥
      never_on zero at here rest = elsewhere (sym rest ∙ here)
      never_on (suc more) at here rest = none_leaves rest.0 rest.1 (rest.2 ∙ here)

  no_zero_cycle : HasNoZeroCycle probed
  no_zero_cycle node steps walk = ⊎_elim
      (λ here. none_leaves walk.0 walk.1 (walk.2 ∙ here))
      (λ elsewhere. valid.no_zero_cycle node steps (walks_before (suc steps) node node elsewhere walk))
      (cases_eq node probe)

  -- A valid graph with a probe is valid.
  pub probed_valid : IsValid probed
  probed_valid = record {
    so_far = so_far;
    has_incoming = has_incoming;
    no_zero_cycle = no_zero_cycle;
    has_mode = valid.has_mode;
  }
