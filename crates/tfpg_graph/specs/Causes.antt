-- What is wrong with one line of a text, by the lines before it. Each cause has its condition, in the order in which they are tested.
use Rattle.std.specs.Prelude.{ℕ, zero, suc, List, [], ◌∷◌, length, take, Bool, true, false, ◌&&◌, ◌||◌, not, nat_lt, nat_le, if◌then◌else◌, Option, Some, None, is_some, is_none, option_and_then, slice_index_or, codes, bytes_eq}
use Rattle.std.specs.Option.{option_map_or, option_zip}
use Rattle.std.specs.Bool.{then_some}
use Rattle.std.specs.List.{list_all, list_any}
use Rattle.std.specs.Str.Parse.{digits_value}
use Rattle.tfpg_base.specs.Choice.{first_of}
use Rattle.tfpg_base.specs.Words.{is_name, is_number}
use Rattle.tfpg_graph.specs.declared.cause.GraphCause.{GraphCause}
use Rattle.tfpg_graph.specs.declared.cause.GraphCause.TheVariants.{BadHeader, BadLine, BadName, DuplicateName, UnknownName, BadNumber, NumberTooLarge, MinOverMax, EdgeIntoFailure, SelfEdge, DuplicateEdge, NoModes, TooManyNodes, TooManyFailures, TooManyEdges, TooManyModes, TooManyIncoming, AfterEnd}
use Rattle.tfpg_graph.specs.Graph.{Tfpg, is_kind_at, is_failure, failures, incoming, node_named, mode_named, edge_from_to}
use Rattle.tfpg_graph.specs.declared.version.Version.{Version}
use Rattle.tfpg_graph.specs.Text.{version_said, version_of}
use Rattle.tfpg_base.specs.declared.limits.TheConstants.{MAX_TIME}
use Rattle.tfpg_graph.specs.declared.limits.TheConstants.{MAX_NODES, MAX_FAILURES, MAX_EDGES, MAX_INCOMING, MAX_MODES, MAX_RARITY}
use Rattle.tfpg_graph.specs.Statements.{LagWords, NodeWords, FailureWords, OrWords, AndWords, lag_words_of, Statement, DeclaresMode, DeclaresNode, DeclaresEdge, Ends, statement_of, statements_of, is_skipped, declares_mode, declares_edge, ends_text}
use Rattle.tfpg_graph.specs.Declares.{modes_listed, graph_said}

-- the words in the place of a name
abbrev pub names_in : Statement → List (List ℕ)
names_in (DeclaresMode name) = name ∷ []
names_in (DeclaresNode name words) = name ∷ []
names_in (DeclaresEdge source target tmin tmax modes) = source ∷ target ∷ modes_listed modes
names_in Ends = []

-- the words for a lag, each with the greatest that it may be
abbrev pub lag_numbers : Option LagWords → List (List ℕ × ℕ)
lag_numbers None = []
lag_numbers (Some lag) = (lag.least, MAX_TIME) ∷ (lag.most, MAX_TIME) ∷ []

-- the words for a node's numbers, each with the greatest that it may be
abbrev pub node_numbers : NodeWords → List (List ℕ × ℕ)
node_numbers (FailureWords rarity) = (rarity, MAX_RARITY) ∷ []
node_numbers (OrWords lag) = lag_numbers lag
node_numbers (AndWords lag) = lag_numbers lag

-- the words in the place of a number, each with the greatest that it may be; `inf` for a greatest delay is none of them
abbrev pub numbers_in : Statement → List (List ℕ × ℕ)
numbers_in (DeclaresNode name words) = node_numbers words
numbers_in (DeclaresEdge source target tmin tmax modes) = (tmin, MAX_TIME) ∷ (if bytes_eq tmax (codes "inf") then [] else (tmax, MAX_TIME) ∷ [])
numbers_in _ = []

-- some name stands twice
abbrev pub has_twice : List (List ℕ) → Bool
has_twice [] = false
has_twice (name ∷ others) = list_any (bytes_eq name) others || has_twice others

-- It stands out of its order: a mode after a node or an edge, a node after an edge, or anything else before the first mode.
abbrev pub is_out_of_order : List Statement → Statement → Bool
is_out_of_order before (DeclaresMode name) = list_any (λ said. not (declares_mode said)) before
is_out_of_order before (DeclaresNode name words) = not (list_any declares_mode before) || list_any declares_edge before
is_out_of_order before _ = not (list_any declares_mode before)

-- a word in the place of a name is not one
abbrev pub has_bad_name : Statement → Bool
has_bad_name said = not (list_all is_name (names_in said))

-- the declared name is taken, or a mode is named twice
abbrev pub has_duplicate_name : Tfpg → Statement → Bool
has_duplicate_name graph (DeclaresMode name) = is_some (mode_named graph name)
has_duplicate_name graph (DeclaresNode name words) = is_some (node_named graph name)
has_duplicate_name graph (DeclaresEdge source target tmin tmax modes) = has_twice (modes_listed modes)
has_duplicate_name graph Ends = false

-- an end of the edge is no declared node, or one of its modes no declared mode
abbrev pub has_unknown_name : Tfpg → Statement → Bool
has_unknown_name graph (DeclaresEdge source target tmin tmax modes) =
    is_none (node_named graph source) || (is_none (node_named graph target) || list_any (λ name. is_none (mode_named graph name)) (modes_listed modes))
has_unknown_name graph _ = false

-- a word in the place of a number is not one
abbrev pub has_bad_number : Statement → Bool
has_bad_number said = not (list_all (λ number. is_number number.0) (numbers_in said))

-- a number is above the greatest that it may be
abbrev pub has_large_number : Statement → Bool
has_large_number said = list_any (λ number. nat_lt number.1 (digits_value 10 number.0)) (numbers_in said)

-- the number that the one word says is above that of the other
abbrev pub is_over : List ℕ → List ℕ → Bool
is_over least greatest = nat_lt (digits_value 10 greatest) (digits_value 10 least)

-- the least lag or the least delay is above the greatest
abbrev pub has_min_over_max : Statement → Bool
has_min_over_max (DeclaresNode name words) = option_map_or (λ lag. is_over lag.least lag.most) (lag_words_of words) false
has_min_over_max (DeclaresEdge source target tmin tmax modes) = not (bytes_eq tmax (codes "inf")) && is_over tmin tmax
has_min_over_max _ = false

-- the edge goes into a failure mode
abbrev pub enters_failure : Tfpg → Statement → Bool
enters_failure graph (DeclaresEdge source target tmin tmax modes) = option_map_or (is_kind_at is_failure graph) (node_named graph target) false
enters_failure graph _ = false

-- the edge leads back to its source
abbrev pub is_self_edge : Statement → Bool
is_self_edge (DeclaresEdge source target tmin tmax modes) = bytes_eq source target
is_self_edge _ = false

-- an earlier edge has the same source and target
abbrev pub is_second_edge : Tfpg → Statement → Bool
is_second_edge graph (DeclaresEdge source target tmin tmax modes) =
    is_some (option_and_then (λ ends. edge_from_to graph ends.0 ends.1) (option_zip (node_named graph source) (node_named graph target)))
is_second_edge graph _ = false

-- the edge is active in no mode
abbrev pub names_no_mode : Statement → Bool
names_no_mode (DeclaresEdge source target tmin tmax modes) = bytes_eq modes (codes "-")
names_no_mode _ = false

-- there is no room for one more node
abbrev pub lacks_node_room : Tfpg → Statement → Bool
lacks_node_room graph (DeclaresNode name words) = nat_le MAX_NODES (length graph.nodes)
lacks_node_room graph _ = false

-- they say that the node is a failure mode
abbrev pub are_failure_words : NodeWords → Bool
are_failure_words (FailureWords rarity) = true
are_failure_words _ = false

-- there is no room for one more failure mode
abbrev pub lacks_failure_room : Tfpg → Statement → Bool
lacks_failure_room graph (DeclaresNode name words) = are_failure_words words && nat_le MAX_FAILURES (length (failures graph))
lacks_failure_room graph _ = false

-- there is no room for one more edge
abbrev pub lacks_edge_room : Tfpg → Statement → Bool
lacks_edge_room graph (DeclaresEdge source target tmin tmax modes) = nat_le MAX_EDGES (length graph.edges)
lacks_edge_room graph _ = false

-- there is no room for one more mode
abbrev pub lacks_mode_room : Tfpg → Statement → Bool
lacks_mode_room graph (DeclaresMode name) = nat_le MAX_MODES (length graph.modes)
lacks_mode_room graph _ = false

-- there is no room for one more edge into its target
abbrev pub lacks_incoming_room : Tfpg → Statement → Bool
lacks_incoming_room graph (DeclaresEdge source target tmin tmax modes) = option_map_or (λ node. nat_le MAX_INCOMING (length (incoming graph node))) (node_named graph target) false
lacks_incoming_room graph _ = false

-- the causes that a statement can have, in the order in which they are tested; the first is that it stands out of its order
abbrev pub causes : Bool → Tfpg → Statement → List (Option GraphCause)
causes out_of_order graph said =
    then_some out_of_order BadLine
    ∷ then_some (has_bad_name said) BadName
    ∷ then_some (has_duplicate_name graph said) DuplicateName
    ∷ then_some (has_unknown_name graph said) UnknownName
    ∷ then_some (has_bad_number said) BadNumber
    ∷ then_some (has_large_number said) NumberTooLarge
    ∷ then_some (has_min_over_max said) MinOverMax
    ∷ then_some (enters_failure graph said) EdgeIntoFailure
    ∷ then_some (is_self_edge said) SelfEdge
    ∷ then_some (is_second_edge graph said) DuplicateEdge
    ∷ then_some (names_no_mode said) NoModes
    ∷ then_some (lacks_node_room graph said) TooManyNodes
    ∷ then_some (lacks_failure_room graph said) TooManyFailures
    ∷ then_some (lacks_edge_room graph said) TooManyEdges
    ∷ then_some (lacks_mode_room graph said) TooManyModes
    ∷ then_some (lacks_incoming_room graph said) TooManyIncoming
    ∷ []

-- the cause of a line that says this, or that has none of the shapes
abbrev pub cause_of_said : List Statement → Option Statement → Option GraphCause
cause_of_said before None = Some BadLine
cause_of_said before (Some said) = first_of (causes (is_out_of_order before said) (graph_said before) said)

-- The cause of a line after the header, by what the lines before it say. After the end every line but one that is skipped is too much.
abbrev pub cause_after : Version → List Statement → List ℕ → Option GraphCause
cause_after version before line =
    if is_skipped line then None else (if list_any ends_text before then Some AfterEnd else cause_of_said before (statement_of version line))

-- The cause of the line at this index, from 0. The first line is tested for the header alone.
abbrev pub cause_at : List (List ℕ) → ℕ → Option GraphCause
cause_at lines zero = if is_some (version_said (slice_index_or lines 0 [])) then None else Some BadHeader
cause_at lines (suc index) =
    cause_after (version_of lines) (statements_of (version_of lines) (take (suc index) lines)) (slice_index_or lines (suc index) [])
