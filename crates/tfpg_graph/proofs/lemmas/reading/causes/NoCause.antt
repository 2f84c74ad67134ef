-- A statement of what is valid has no cause.
use Rattle.std.proofs.Common.{◌≡◌, ◌≢◌, ℕ, ◌<◌, ◌||◌, ◌&&◌, Bool, true, false, cond, not, List, [], ◌∷◌, length, IsTrue, Option, Some, None, is_none, is_some, nat_lt, nat_le, codes, refl, ap, sym, ◌∙◌, arith}
use Rattle.std.specs.Prelude.{decimal}
use Rattle.std.specs.Option.{option_map_or, option_and_then, option_zip}
use Rattle.std.specs.List.{list_any, list_all}
use Rattle.std.specs.Str.{bytes_eq}
use Rattle.std.specs.Str.Parse.{digits_value}
use Rattle.std.proofs.lemmas.Bool.{and_right, le-ltb, lt-leb}
use Rattle.std.proofs.lemmas.Fmt.{decimal_is_IsNumeral}
use Rattle.std.proofs.lemmas.Option.{same_Some}
use Rattle.tfpg_base.specs.Words.{is_name, is_number}
use Rattle.tfpg_base.proofs.lemmas.Numbers.{is_number-decimal, decimal-differs}
use Rattle.tfpg_graph.specs.declared.cause.GraphCause.TheVariants.{BadLine, BadName, DuplicateName, UnknownName, BadNumber, NumberTooLarge, MinOverMax, EdgeIntoFailure, SelfEdge, DuplicateEdge, NoModes, TooManyNodes, TooManyFailures, TooManyEdges, TooManyModes, TooManyIncoming}
use Rattle.tfpg_graph.specs.declared.kind.Kind.{Kind}
use Rattle.tfpg_graph.specs.declared.kind.Lag.{Lag}
use Rattle.tfpg_graph.specs.declared.kind.Kind.TheVariants.{Failure, Or, And}
use Rattle.tfpg_graph.specs.Graph.{Tfpg, is_kind_at, is_failure, failures, incoming, node_named, mode_named, edge_from_to}
use Rattle.tfpg_graph.specs.Text.{tmax_word, words_of_kind}
use Rattle.tfpg_base.specs.declared.limits.TheConstants.{MAX_TIME}
use Rattle.tfpg_graph.specs.Valid.{IsValidLag, HasValidNumber}
use Rattle.tfpg_graph.specs.declared.limits.TheConstants.{MAX_NODES, MAX_FAILURES, MAX_EDGES, MAX_INCOMING, MAX_MODES, MAX_RARITY}
use Rattle.tfpg_graph.specs.Statements.{Statement, DeclaresMode, DeclaresNode, DeclaresEdge, Ends}
use Rattle.tfpg_graph.specs.Declares.{modes_listed}
use Rattle.std.specs.Bool.{then_some}
use Rattle.tfpg_base.specs.Choice.{first_of}
use Rattle.tfpg_graph.specs.Causes.{has_bad_name, has_duplicate_name, has_unknown_name, has_bad_number, has_large_number, has_min_over_max, enters_failure, is_self_edge, is_second_edge, names_no_mode, lacks_node_room, lacks_failure_room, lacks_edge_room, lacks_mode_room, lacks_incoming_room, are_failure_words, has_twice, causes}
use Rattle.tfpg_base.proofs.lemmas.lists.SameBytes.{bytes_eq-differ}
use Rattle.tfpg_base.proofs.lemmas.lists.Digits.{digits_value-decimal_within}
use Rattle.tfpg_graph.specs.inside.declaring.Declaring.{AreDelays}

-- none of the conditions holds
pub record HasNoCause (out_of_order : Bool) (graph : Tfpg) (said : Statement) : Type 0 where
  pub in_order : out_of_order ≡ false
  pub named : has_bad_name said ≡ false
  pub new : has_duplicate_name graph said ≡ false
  pub known : has_unknown_name graph said ≡ false
  pub numbers : has_bad_number said ≡ false
  pub small : has_large_number said ≡ false
  pub min_below_max : has_min_over_max said ≡ false
  pub into_discrepancy : enters_failure graph said ≡ false
  pub onward : is_self_edge said ≡ false
  pub first : is_second_edge graph said ≡ false
  pub some_mode : names_no_mode said ≡ false
  pub node_room : lacks_node_room graph said ≡ false
  pub failure_room : lacks_failure_room graph said ≡ false
  pub edge_room : lacks_edge_room graph said ≡ false
  pub mode_room : lacks_mode_room graph said ≡ false
  pub incoming_room : lacks_incoming_room graph said ≡ false

-- Where none of the conditions holds, there is no cause.
pub no_first_cause : (out_of_order : Bool) (graph : Tfpg) (said : Statement) → HasNoCause out_of_order graph said
    → first_of (causes out_of_order graph said) ≡ None
no_first_cause out_of_order graph said has =
    λ i. first_of (then_some (has.in_order i) BadLine
    ∷ then_some (has.named i) BadName
    ∷ then_some (has.new i) DuplicateName
    ∷ then_some (has.known i) UnknownName
    ∷ then_some (has.numbers i) BadNumber
    ∷ then_some (has.small i) NumberTooLarge
    ∷ then_some (has.min_below_max i) MinOverMax
    ∷ then_some (has.into_discrepancy i) EdgeIntoFailure
    ∷ then_some (has.onward i) SelfEdge
    ∷ then_some (has.first i) DuplicateEdge
    ∷ then_some (has.some_mode i) NoModes
    ∷ then_some (has.node_room i) TooManyNodes
    ∷ then_some (has.failure_room i) TooManyFailures
    ∷ then_some (has.edge_room i) TooManyEdges
    ∷ then_some (has.mode_room i) TooManyModes
    ∷ then_some (has.incoming_room i) TooManyIncoming
    ∷ [])

-- ---- a mode, and the end

pub HasNoCause-mode : (out_of_order : Bool) (graph : Tfpg) (name : List ℕ) → out_of_order ≡ false
    → IsTrue (is_name name) → mode_named graph name ≡ None → length graph.modes < MAX_MODES
    → HasNoCause out_of_order graph (DeclaresMode name)
HasNoCause-mode out_of_order graph name in_order named new room = record {
  in_order = in_order;
  named = ap (λ b. not (b && true)) named;
  new = ap is_some new;
  known = refl;
  numbers = refl;
  small = refl;
  min_below_max = refl;
  into_discrepancy = refl;
  onward = refl;
  first = refl;
  some_mode = refl;
  node_room = refl;
  failure_room = refl;
  edge_room = refl;
  mode_room = lt-leb MAX_MODES (length graph.modes) room;
  incoming_room = refl;
}

pub HasNoCause-end : (out_of_order : Bool) (graph : Tfpg) → out_of_order ≡ false → HasNoCause out_of_order graph Ends
HasNoCause-end out_of_order graph in_order = record {
  in_order = in_order;
  named = refl;
  new = refl;
  known = refl;
  numbers = refl;
  small = refl;
  min_below_max = refl;
  into_discrepancy = refl;
  onward = refl;
  first = refl;
  some_mode = refl;
  node_room = refl;
  failure_room = refl;
  edge_room = refl;
  mode_room = refl;
  incoming_room = refl;
}

-- ---- a node

module _ (name : List ℕ) where
  lag_numbers_right : (lag : Lag) → IsValidLag lag → has_bad_number (DeclaresNode name (words_of_kind (Or (Some lag)))) ≡ false
  lag_numbers_right lag small = λ i. not (is_number-decimal lag.least (omega (arith, small.in_order, small.most)) i
      && (is_number-decimal lag.most (omega (arith, small.most)) i && true))

  lag_small : (lag : Lag) → IsValidLag lag → has_large_number (DeclaresNode name (words_of_kind (Or (Some lag)))) ≡ false
  lag_small lag small = λ i. digits_value-decimal_within MAX_TIME lag.least (omega (arith, small.in_order, small.most)) (omega (arith, small.in_order, small.most)) i
      || (digits_value-decimal_within MAX_TIME lag.most small.most (omega arith) i || false)

  lag_in_order : (lag : Lag) → IsValidLag lag → has_min_over_max (DeclaresNode name (words_of_kind (Or (Some lag)))) ≡ false
  lag_in_order lag small =
      le-ltb (digits_value 10 (decimal lag.most)) (digits_value 10 (decimal lag.least))
      (omega (
        arith,
        (decimal_is_IsNumeral lag.most (omega (arith, small.most))).1,
        (decimal_is_IsNumeral lag.least (omega (arith, small.in_order, small.most))).1,
        small.in_order,
      ))

  node_numbers_right : (kind : Kind) → HasValidNumber kind → has_bad_number (DeclaresNode name (words_of_kind kind)) ≡ false
  node_numbers_right (Failure rarity) small = ap (λ b. not (b && true)) (is_number-decimal rarity (omega arith))
  node_numbers_right (Or None) small = refl
  node_numbers_right (Or (Some lag)) small = lag_numbers_right lag small
  node_numbers_right (And None) small = refl
  node_numbers_right (And (Some lag)) small = lag_numbers_right lag small

  node_small : (kind : Kind) → HasValidNumber kind → has_large_number (DeclaresNode name (words_of_kind kind)) ≡ false
  node_small (Failure rarity) small = ap (λ b. b || false) (digits_value-decimal_within MAX_RARITY rarity small (omega arith))
  node_small (Or None) small = refl
  node_small (Or (Some lag)) small = lag_small lag small
  node_small (And None) small = refl
  node_small (And (Some lag)) small = lag_small lag small

  node_in_order : (kind : Kind) → HasValidNumber kind → has_min_over_max (DeclaresNode name (words_of_kind kind)) ≡ false
  node_in_order (Failure rarity) small = refl
  node_in_order (Or None) small = refl
  node_in_order (Or (Some lag)) small = lag_in_order lag small
  node_in_order (And None) small = refl
  node_in_order (And (Some lag)) small = lag_in_order lag small

failure_room_for : (kind : Kind) (count : ℕ) → (IsTrue (is_failure kind) → count < MAX_FAILURES)
    → (are_failure_words (words_of_kind kind) && nat_le MAX_FAILURES count) ≡ false
failure_room_for (Failure rarity) count room = lt-leb MAX_FAILURES count (room refl)
failure_room_for (Or lag) count room = refl
failure_room_for (And lag) count room = refl

pub HasNoCause-node : (out_of_order : Bool) (graph : Tfpg) (name : List ℕ) (kind : Kind) → out_of_order ≡ false
    → IsTrue (is_name name) → node_named graph name ≡ None → HasValidNumber kind
    → length graph.nodes < MAX_NODES → (IsTrue (is_failure kind) → length (failures graph) < MAX_FAILURES)
    → HasNoCause out_of_order graph (DeclaresNode name (words_of_kind kind))
HasNoCause-node out_of_order graph name kind in_order named new number room failure_room = record {
  in_order = in_order;
  named = ap (λ b. not (b && true)) named;
  new = ap is_some new;
  known = refl;
  numbers = node_numbers_right name kind number;
  small = node_small name kind number;
  min_below_max = node_in_order name kind number;
  into_discrepancy = refl;
  onward = refl;
  first = refl;
  some_mode = refl;
  node_room = lt-leb MAX_NODES (length graph.nodes) room;
  failure_room = failure_room_for kind (length (failures graph)) failure_room;
  edge_room = refl;
  mode_room = refl;
  incoming_room = refl;
}

-- ---- an edge

module _ (source target : List ℕ) (tmin : ℕ) (word : List ℕ) where
  edge_numbers : (tmax : Option ℕ) → AreDelays tmin tmax
      → has_bad_number (DeclaresEdge source target (decimal tmin) (tmax_word tmax) word) ≡ false
  edge_numbers None delays = ap (λ b. not (b && true)) (is_number-decimal tmin (omega (arith, delays.least)))
  edge_numbers (Some time) delays =
      (λ i. not (is_number-decimal tmin (omega (arith, delays.least)) i
      && list_all (λ (number : List ℕ × ℕ). is_number number.0)
      (cond (decimal-differs time (codes "inf") (omega (arith, delays.greatest)) refl i) [] ((decimal time, MAX_TIME) ∷ []))))
      ∙ ap (λ b. not (b && true)) (is_number-decimal time (omega (arith, delays.greatest)))

  edge_small : (tmax : Option ℕ) → AreDelays tmin tmax
      → has_large_number (DeclaresEdge source target (decimal tmin) (tmax_word tmax) word) ≡ false
  edge_small None delays = ap (λ b. b || false) (digits_value-decimal_within MAX_TIME tmin delays.least (omega (arith, delays.least)))
  edge_small (Some time) delays =
      (λ i. digits_value-decimal_within MAX_TIME tmin delays.least (omega (arith, delays.least)) i
      || list_any (λ (number : List ℕ × ℕ). nat_lt number.1 (digits_value 10 number.0))
      (cond (decimal-differs time (codes "inf") (omega (arith, delays.greatest)) refl i) [] ((decimal time, MAX_TIME) ∷ [])))
      ∙ ap (λ b. b || false) (digits_value-decimal_within MAX_TIME time delays.greatest.1 (omega (arith, delays.greatest)))

  edge_in_order : (tmax : Option ℕ) → AreDelays tmin tmax
      → has_min_over_max (DeclaresEdge source target (decimal tmin) (tmax_word tmax) word) ≡ false
  edge_in_order None delays = refl
  edge_in_order (Some time) delays =
      and_right (not (bytes_eq (decimal time) (codes "inf")))
      (nat_lt (digits_value 10 (decimal time)) (digits_value 10 (decimal tmin)))
      (le-ltb (digits_value 10 (decimal time)) (digits_value 10 (decimal tmin))
      (omega (arith, (decimal_is_IsNumeral time (omega (arith, delays.greatest))).1, (decimal_is_IsNumeral tmin (omega (arith, delays.least))).1, delays.greatest)))

-- what is right of the words of an edge
pub record IsEdgeRight (graph : Tfpg) (from to : ℕ) (source target word : List ℕ) : Type 0 where
  pub source_name : IsTrue (is_name source)
  pub target_name : IsTrue (is_name target)
  pub source_is : node_named graph source ≡ Some from
  pub target_is : node_named graph target ≡ Some to
  pub mode_names : list_all is_name (modes_listed word) ≡ true
  pub modes_once : has_twice (modes_listed word) ≡ false
  pub modes_known : list_any (λ name. is_none (mode_named graph name)) (modes_listed word) ≡ false
  pub some_mode : bytes_eq word (codes "-") ≡ false
  pub into_discrepancy : is_kind_at is_failure graph to ≡ false
  pub onward : from ≢ to
  pub first : edge_from_to graph from to ≡ None
  pub room : length graph.edges < MAX_EDGES
  pub incoming_room : length (incoming graph to) < MAX_INCOMING

module _ (out_of_order : Bool) (graph : Tfpg) (from to : ℕ) (source target : List ℕ) (tmin : ℕ) (tmax : Option ℕ)
    (word : List ℕ) (is : IsEdgeRight graph from to source target word) where
  apart : bytes_eq source target ≡ false
  apart =
      bytes_eq-differ source target
      (λ same. is.onward (same_Some from to (sym is.source_is ∙ ap (node_named graph) same ∙ is.target_is)))

  pub HasNoCause-edge : out_of_order ≡ false → AreDelays tmin tmax
      → HasNoCause out_of_order graph (DeclaresEdge source target (decimal tmin) (tmax_word tmax) word)
  HasNoCause-edge in_order delays = record {
    in_order = in_order;
    named = λ i. not (is.source_name i && (is.target_name i && is.mode_names i));
    new = is.modes_once;
    known = λ i. is_none (is.source_is i) || (is_none (is.target_is i) || is.modes_known i);
    numbers = edge_numbers source target tmin word tmax delays;
    small = edge_small source target tmin word tmax delays;
    min_below_max = edge_in_order source target tmin word tmax delays;
    into_discrepancy = ap (λ o. option_map_or (is_kind_at is_failure graph) o false) is.target_is ∙ is.into_discrepancy;
    onward = apart;
    first = (λ i. is_some (option_and_then (λ (ends : ℕ × ℕ). edge_from_to graph ends.0 ends.1)
        (option_zip (is.source_is i) (is.target_is i))))
        ∙ ap is_some is.first;
    some_mode = is.some_mode;
    node_room = refl;
    failure_room = refl;
    edge_room = lt-leb MAX_EDGES (length graph.edges) is.room;
    mode_room = refl;
    incoming_room =
        ap (λ o. option_map_or (λ node. nat_le MAX_INCOMING (length (incoming graph node))) o false) is.target_is
        ∙ lt-leb MAX_INCOMING (length (incoming graph to)) is.incoming_room;
  }
