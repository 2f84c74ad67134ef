-- Names and indexes of a graph lead to each other.
use Rattle.std.proofs.Common.{◌≡◌, ℕ, Bool, true, false, cond, nat_eq, List, [], length, get_or, Option, Some, None, slice_get, ◌<◌, arith, refl, sym, ap, subst, ◌∙◌}
use Rattle.std.specs.Prelude.{◌==◌, IsTrue, bytes_eq, option_and_then}
use Rattle.std.proofs.lemmas.Bool.{eq-eqb, eqb-true, false≢true, ne_eqb}
use Rattle.std.proofs.lemmas.List.Quantifiers.{position-Some}
use Rattle.std.proofs.lemmas.Option.{get_or_from_slice_get, same_Some, slice_get-get_or, slice_get_within}
use Rattle.std.proofs.lemmas.Slice.Eq.{bytes_eq-Decides}
use Rattle.tfpg_base.specs.Words.{is_name}
use Rattle.tfpg_base.proofs.lemmas.lists.Elements.{All-at}
use Rattle.tfpg_base.proofs.lemmas.lists.Numbered.{one_index}
use Rattle.tfpg_base.proofs.lemmas.lists.Positions.{position-at}
use Rattle.tfpg_base.proofs.lemmas.lists.SameBytes.{position-bytes}
use Rattle.tfpg_graph.specs.Graph.{Tfpg, failure_at, failures, is_failure, mode_named, name_at, node_named, position_of_failure}
use Rattle.tfpg_graph.specs.Valid.{IsValid}
use Rattle.tfpg_embed.specs.Names.{index_in, name_in}
use Rattle.tfpg_embed.specs.declared.kinds.TheConstants.{NODE_NAME, FAILURE_NAME, MODE_NAME}

-- a mode that is found by its name has it
mode_has : (graph : Tfpg) (mode : ℕ) (name : List ℕ) → mode_named graph name ≡ Some mode → slice_get graph.modes mode ≡ Some name
mode_has graph mode name is =
    let found = position-Some (λ m. bytes_eq m name) graph.modes mode [] is in
    slice_get-get_or graph.modes mode [] found.0 ∙ ap Some ((bytes_eq-Decides (get_or graph.modes mode []) name).0 found.1)

-- and one that has it is found by it
mode_found : (graph : Tfpg) (mode : ℕ) (name : List ℕ) → IsValid graph → slice_get graph.modes mode ≡ Some name → mode_named graph name ≡ Some mode
mode_found graph mode name valid at =
    subst (λ (word : List ℕ). mode_named graph word ≡ Some mode) (get_or_from_slice_get graph.modes mode name [] at)
    (position-bytes (λ (m : List ℕ). m) graph.modes mode [] valid.so_far.modes_differ (slice_get_within graph.modes mode name at))

-- a failure mode stands at its position
failure_stands : (graph : Tfpg) (position node : ℕ) → position_of_failure graph node ≡ Some position → failure_at graph position ≡ Some node
failure_stands graph position node at =
    let found = position-Some (λ failure. nat_eq failure node) (failures graph) position 0 at in
    slice_get-get_or (failures graph) position 0 found.0 ∙ ap Some (eqb-true (get_or (failures graph) position 0) node found.1)

-- at that and at no earlier one
position_of-failure : (graph : Tfpg) (position node : ℕ) → position < length (failures graph) → failure_at graph position ≡ Some node → position_of_failure graph node ≡ Some position
position_of-failure graph position node within at =
    let same : (k : ℕ) → k < length (failures graph) → failure_at graph k ≡ Some (get_or (failures graph) k 0) = λ k lt. slice_get-get_or (failures graph) k 0 lt in
    position-at (λ failure. failure == node) (failures graph) position 0 within
    (eq-eqb _ _ (same_Some _ _ (sym (same position within) ∙ at)))
    (λ earlier before. ne_eqb (get_or (failures graph) earlier 0) node (λ is. omega (
      arith,
      before,
      one_index (λ n. is_failure n.kind) 0 graph.nodes earlier position node (same earlier (omega (arith, before, within)) ∙ ap Some is) at,
    )))

module _ (graph : Tfpg) (index : ℕ) (name : List ℕ) where
  -- a failure mode that is found by its name has it
  failure_has : ((node : ℕ) → node_named graph name ≡ Some node → name_at graph node ≡ Some name) → option_and_then (position_of_failure graph) (node_named graph name) ≡ Some index
      → option_and_then (name_at graph) (failure_at graph index) ≡ Some name
  failure_has named is = by (node_named graph name) named is
    where
      by : (found : Option ℕ) → ((node : ℕ) → found ≡ Some node → name_at graph node ≡ Some name) → option_and_then (position_of_failure graph) found ≡ Some index
          → option_and_then (name_at graph) (failure_at graph index) ≡ Some name
      by None named is = cc
      by (Some node) named is = ap (option_and_then (name_at graph)) (failure_stands graph index node is) ∙ named node refl

  -- and one that has it is found by it
  failure_found : ((node : ℕ) → name_at graph node ≡ Some name → node_named graph name ≡ Some node) → option_and_then (name_at graph) (failure_at graph index) ≡ Some name
      → option_and_then (position_of_failure graph) (node_named graph name) ≡ Some index
  failure_found found is = by (failure_at graph index) refl is
    where
      by : (at : Option ℕ) → failure_at graph index ≡ at → option_and_then (name_at graph) at ≡ Some name → option_and_then (position_of_failure graph) (node_named graph name) ≡ Some index
      by None at is = cc
      by (Some node) at is =
          ap (option_and_then (position_of_failure graph)) (found node is) ∙ position_of-failure graph index node (slice_get_within (failures graph) index node at) at

  -- what is found by a name has it
  pub found_has : (kind : ℕ) → ((node : ℕ) → node_named graph name ≡ Some node → name_at graph node ≡ Some name) → index_in graph kind name ≡ Some index → name_in graph kind index ≡ Some name
  found_has kind named is = by (kind == NODE_NAME) (kind == FAILURE_NAME) (kind == MODE_NAME) is
    where
      by : (is_node is_failure is_mode : Bool)
          → cond is_node (node_named graph name) (cond is_failure (option_and_then (position_of_failure graph) (node_named graph name)) (cond is_mode (mode_named graph name) None)) ≡ Some index
          → cond is_node (name_at graph index) (cond is_failure (option_and_then (name_at graph) (failure_at graph index)) (cond is_mode (slice_get graph.modes index) None)) ≡ Some name
      by true is_failure is_mode is = named index is
      by false true is_mode is = failure_has named is
      by false false true is = mode_has graph index name is
      by false false false is = cc

  -- what has a name is found by it
  pub has_found : (kind : ℕ) → IsValid graph → ((node : ℕ) → name_at graph node ≡ Some name → node_named graph name ≡ Some node) → name_in graph kind index ≡ Some name → index_in graph kind name ≡ Some index
  has_found kind valid found is = by (kind == NODE_NAME) (kind == FAILURE_NAME) (kind == MODE_NAME) is
    where
      by : (is_node is_failure is_mode : Bool)
          → cond is_node (name_at graph index) (cond is_failure (option_and_then (name_at graph) (failure_at graph index)) (cond is_mode (slice_get graph.modes index) None)) ≡ Some name
          → cond is_node (node_named graph name) (cond is_failure (option_and_then (position_of_failure graph) (node_named graph name)) (cond is_mode (mode_named graph name) None)) ≡ Some index
      by true is_failure is_mode is = found index is
      by false true is_mode is = failure_found found is
      by false false true is = mode_found graph index name valid is
      by false false false is = cc

-- the index of a name, by what is found of it
abbrev index_by : Tfpg → ℕ → Option ℕ → Option ℕ → Option ℕ
index_by graph kind node mode =
    cond (kind == NODE_NAME) node (cond (kind == FAILURE_NAME) (option_and_then (position_of_failure graph) node) (cond (kind == MODE_NAME) mode None))

-- What is no name is of nothing in a valid graph.
module _ (graph : Tfpg) (word : List ℕ) where
  no_mode : IsValid graph → is_name word ≡ false → mode_named graph word ≡ None
  no_mode valid none = by (mode_named graph word) refl
    where
      by : (found : Option ℕ) → mode_named graph word ≡ found → mode_named graph word ≡ None
      by None is = is
      by (Some mode) is =
          let at = mode_has graph mode word is in
          absurd (false≢true (sym none ∙ All-at (λ m. IsTrue (is_name m)) graph.modes mode word valid.so_far.mode_names at))

  pub named_by_no_one : (kind : ℕ) → IsValid graph → is_name word ≡ false → ((node : ℕ) → node_named graph word ≡ Some node → IsTrue (is_name word)) → index_in graph kind word ≡ None
  named_by_no_one kind valid none form =
      let no_node : node_named graph word ≡ None = by (node_named graph word) refl in
      (λ i. index_by graph kind (no_node i) (no_mode valid none i)) ∙ all_none (kind == NODE_NAME) (kind == FAILURE_NAME) (kind == MODE_NAME)
    where
      by : (found : Option ℕ) → node_named graph word ≡ found → node_named graph word ≡ None
      by None is = is
      by (Some node) is = absurd (false≢true (sym none ∙ form node is))

      all_none : (is_node is_failure is_mode : Bool) → cond is_node None (cond is_failure (option_and_then (position_of_failure graph) None) (cond is_mode None None)) ≡ None
      all_none true is_failure is_mode = refl
      all_none false true is_mode = refl
      all_none false false true = refl
      all_none false false false = refl
