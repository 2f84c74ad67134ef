-- A statement without a cause meets none of the conditions.
use Rattle.std.proofs.Common.{◌≡◌, Bool, None}
use Rattle.tfpg_graph.specs.declared.cause.GraphCause.TheVariants as cause
use Rattle.tfpg_graph.specs.Graph.{Tfpg}
use Rattle.tfpg_graph.specs.Statements.{Statement}
use Rattle.tfpg_base.specs.Choice.{first_of}
use Rattle.tfpg_graph.proofs.lemmas.reading.causes.NoCause.{HasNoCause}
use Rattle.tfpg_graph.specs.Causes.{causes, has_bad_name, has_duplicate_name, has_unknown_name, has_bad_number, has_large_number, has_min_over_max, enters_failure, is_self_edge, is_second_edge, names_no_mode, lacks_node_room, lacks_failure_room, lacks_edge_room, lacks_mode_room, lacks_incoming_room}
use Rattle.tfpg_base.proofs.lemmas.lists.Choices.{first_of-none_tested}

-- A statement without a cause meets none of the conditions.
pub HasNoCause-from_none : (out_of_order : Bool) (graph : Tfpg) (said : Statement)
    → first_of (causes out_of_order graph said) ≡ None → HasNoCause out_of_order graph said
HasNoCause-from_none out_of_order graph said none =
    let order = first_of-none_tested out_of_order cause.BadLine _ none in
    let name = first_of-none_tested (has_bad_name said) cause.BadName _ order.1 in
    let duplicate = first_of-none_tested (has_duplicate_name graph said) cause.DuplicateName _ name.1 in
    let unknown = first_of-none_tested (has_unknown_name graph said) cause.UnknownName _ duplicate.1 in
    let number = first_of-none_tested (has_bad_number said) cause.BadNumber _ unknown.1 in
    let large = first_of-none_tested (has_large_number said) cause.NumberTooLarge _ number.1 in
    let delays = first_of-none_tested (has_min_over_max said) cause.MinOverMax _ large.1 in
    let failure = first_of-none_tested (enters_failure graph said) cause.EdgeIntoFailure _ delays.1 in
    let itself = first_of-none_tested (is_self_edge said) cause.SelfEdge _ failure.1 in
    let second = first_of-none_tested (is_second_edge graph said) cause.DuplicateEdge _ itself.1 in
    let no_mode = first_of-none_tested (names_no_mode said) cause.NoModes _ second.1 in
    let nodes = first_of-none_tested (lacks_node_room graph said) cause.TooManyNodes _ no_mode.1 in
    let failures = first_of-none_tested (lacks_failure_room graph said) cause.TooManyFailures _ nodes.1 in
    let edges = first_of-none_tested (lacks_edge_room graph said) cause.TooManyEdges _ failures.1 in
    let modes = first_of-none_tested (lacks_mode_room graph said) cause.TooManyModes _ edges.1 in
    let incoming = first_of-none_tested (lacks_incoming_room graph said) cause.TooManyIncoming _ modes.1 in
    record {
      in_order = order.0;
      named = name.0;
      new = duplicate.0;
      known = unknown.0;
      numbers = number.0;
      small = large.0;
      min_below_max = delays.0;
      into_discrepancy = failure.0;
      onward = itself.0;
      first = second.0;
      some_mode = no_mode.0;
      node_room = nodes.0;
      failure_room = failures.0;
      edge_room = edges.0;
      mode_room = modes.0;
      incoming_room = incoming.0;
    }
