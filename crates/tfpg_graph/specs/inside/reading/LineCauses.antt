-- The causes of a line in groups, as the code tests them: those of a number, and of an edge's names, delays, ends and room.
use Rattle.std.specs.Prelude.{ℕ, List, [], ◌∷◌, ◌&&◌, ◌||◌, ◌==◌, Bool, false, length, not, nat_lt, nat_le, Option, Some, None}
use Rattle.std.specs.Bool.{then_some}
use Rattle.std.specs.List.{list_all, list_any}
use Rattle.std.specs.Str.Parse.{digits_value}
use Rattle.tfpg_base.specs.Words.{is_number}
use Rattle.tfpg_base.specs.Set.{with_member}
use Rattle.tfpg_graph.specs.declared.cause.GraphCause.{GraphCause}
use Rattle.tfpg_graph.specs.declared.cause.GraphCause.TheVariants.{BadLine, BadName, DuplicateName, UnknownName, BadNumber, NumberTooLarge, MinOverMax, EdgeIntoFailure, SelfEdge, DuplicateEdge, NoModes, TooManyNodes, TooManyFailures, TooManyEdges, TooManyModes, TooManyIncoming}
use Rattle.tfpg_graph.specs.Graph.{Tfpg, failures}
use Rattle.tfpg_base.specs.declared.limits.TheConstants.{MAX_TIME}
use Rattle.tfpg_graph.specs.declared.limits.TheConstants.{MAX_FAILURES}
use Rattle.tfpg_graph.specs.Statements.{Statement, NodeWords, OrWords, DeclaresNode, DeclaresEdge}
use Rattle.tfpg_graph.specs.Causes.{is_over, has_bad_name, has_duplicate_name, has_unknown_name, has_bad_number, has_large_number, has_min_over_max, enters_failure, is_self_edge, is_second_edge, names_no_mode, lacks_node_room, lacks_failure_room, lacks_edge_room, lacks_mode_room, lacks_incoming_room}

-- the tests of words in the place of numbers, each with the greatest that it may be
abbrev pub number_causes : List (List ℕ × ℕ) → List (Option GraphCause)
number_causes numbers =
    then_some (not (list_all (λ number. is_number number.0) numbers)) BadNumber
    ∷ then_some (list_any (λ number. nat_lt number.1 (digits_value 10 number.0)) numbers) NumberTooLarge
    ∷ []

-- the tests of the words for a least and a greatest time
abbrev pub range_causes : List ℕ → List ℕ → List (Option GraphCause)
range_causes least greatest =
    then_some (not (list_all is_number (least ∷ greatest ∷ []))) BadNumber
    ∷ then_some (list_any (λ word. nat_lt MAX_TIME (digits_value 10 word)) (least ∷ greatest ∷ [])) NumberTooLarge
    ∷ then_some (is_over least greatest) MinOverMax
    ∷ []

-- a line that declares a node of these words, whatever its name
abbrev pub node_of_words : NodeWords → Statement
node_of_words words = DeclaresNode [] words

-- the tests of a node's numbers
abbrev pub node_number_causes : NodeWords → List (Option GraphCause)
node_number_causes words =
    then_some (has_bad_number (node_of_words words)) BadNumber
    ∷ then_some (has_large_number (node_of_words words)) NumberTooLarge
    ∷ then_some (has_min_over_max (node_of_words words)) MinOverMax
    ∷ []

-- a line that declares a node of this name, whatever else it says of it
abbrev pub node_of_name : List ℕ → Statement
node_of_name name = DeclaresNode name (OrWords None)

-- a line that declares an edge between these nodes in these modes, whatever its delays
abbrev pub edge_of_names : List ℕ → List ℕ → List ℕ → Statement
edge_of_names source target modes = DeclaresEdge source target [] [] modes

-- a line that declares an edge with these delays, whatever its nodes and modes
abbrev pub edge_of_delays : List ℕ → List ℕ → Statement
edge_of_delays tmin tmax = DeclaresEdge [] [] tmin tmax []

-- the tests of a node's place and name
abbrev pub node_name_causes : Tfpg → List ℕ → List (Option GraphCause)
node_name_causes graph name =
    then_some ((length graph.modes == 0) || nat_lt 0 (length graph.edges)) BadLine
    ∷ then_some (has_bad_name (node_of_name name)) BadName
    ∷ then_some (has_duplicate_name graph (node_of_name name)) DuplicateName
    ∷ then_some (has_unknown_name graph (node_of_name name)) UnknownName
    ∷ []

-- the tests of whether there is room for a node of this kind
abbrev pub node_room_causes : Tfpg → Bool → List (Option GraphCause)
node_room_causes graph failure =
    then_some false EdgeIntoFailure
    ∷ then_some false SelfEdge
    ∷ then_some false DuplicateEdge
    ∷ then_some false NoModes
    ∷ then_some (lacks_node_room graph (node_of_name [])) TooManyNodes
    ∷ then_some (failure && nat_le MAX_FAILURES (length (failures graph))) TooManyFailures
    ∷ then_some false TooManyEdges
    ∷ then_some false TooManyModes
    ∷ then_some false TooManyIncoming
    ∷ []

-- the tests of an edge's place and names
abbrev pub edge_name_causes : Tfpg → List ℕ → List ℕ → List ℕ → List (Option GraphCause)
edge_name_causes graph source target modes =
    then_some (length graph.modes == 0) BadLine
    ∷ then_some (has_bad_name (edge_of_names source target modes)) BadName
    ∷ then_some (has_duplicate_name graph (edge_of_names source target modes)) DuplicateName
    ∷ then_some (has_unknown_name graph (edge_of_names source target modes)) UnknownName
    ∷ []

-- the tests of its delays
abbrev pub delay_causes : List ℕ → List ℕ → List (Option GraphCause)
delay_causes tmin tmax =
    then_some (has_bad_number (edge_of_delays tmin tmax)) BadNumber
    ∷ then_some (has_large_number (edge_of_delays tmin tmax)) NumberTooLarge
    ∷ then_some (has_min_over_max (edge_of_delays tmin tmax)) MinOverMax
    ∷ []

-- the tests of its two ends
abbrev pub end_causes : Tfpg → List ℕ → List ℕ → List (Option GraphCause)
end_causes graph source target =
    then_some (enters_failure graph (edge_of_names source target [])) EdgeIntoFailure
    ∷ then_some (is_self_edge (edge_of_names source target [])) SelfEdge
    ∷ then_some (is_second_edge graph (edge_of_names source target [])) DuplicateEdge
    ∷ []

-- the tests of its modes and of whether there is room for it
abbrev pub edge_room_causes : Tfpg → List ℕ → List ℕ → List (Option GraphCause)
edge_room_causes graph target modes =
    then_some (names_no_mode (edge_of_names [] target modes)) NoModes
    ∷ then_some (lacks_node_room graph (edge_of_names [] target modes)) TooManyNodes
    ∷ then_some (lacks_failure_room graph (edge_of_names [] target modes)) TooManyFailures
    ∷ then_some (lacks_edge_room graph (edge_of_names [] target modes)) TooManyEdges
    ∷ then_some (lacks_mode_room graph (edge_of_names [] target modes)) TooManyModes
    ∷ then_some (lacks_incoming_room graph (edge_of_names [] target modes)) TooManyIncoming
    ∷ []

-- the set with this member, where there is one
abbrev pub with_option : Option ℕ → List ℕ → List ℕ
with_option None members = members
with_option (Some member) members = with_member member members
