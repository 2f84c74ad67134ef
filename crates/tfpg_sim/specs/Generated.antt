-- What the generator makes of a number and a size: a graph, and a script for it.
use Rattle.std.specs.Prelude.{ℕ, zero, suc, ◌+◌, ◌-◌, ◌*◌, ◌%◌, List, [], ◌∷◌, ◌++◌, Bool, not, ◌&&◌, nat_lt, ◌==◌, if◌then◌else◌, Option, Some, None, codes, decimal}
use Rattle.rand_pcg.specs.Lcg.{Lcg}
use Rattle.rand_pcg.specs.Pcg.{pcg32}
use Rattle.tfpg_base.specs.TextLine.{text_line}
use Rattle.tfpg_graph.specs.declared.edge.Edge.{Edge}
use Rattle.tfpg_graph.specs.declared.kind.Kind.{Kind}
use Rattle.tfpg_graph.specs.declared.kind.Kind.TheVariants.{Failure, Or, And}
use Rattle.tfpg_graph.specs.declared.kind.Lag.{Lag}
use Rattle.tfpg_graph.specs.Graph.{Tfpg, Node, lag_up_to}
use Rattle.tfpg_sim.specs.Draws.{generator}
use Rattle.tfpg_sim.specs.declared.limits.TheConstants.{FAILURE_COUNT, GENERATED_DELAYS, GRAPH_STREAM}

-- the next word of a generator
unfoldable pub next_word : Lcg → ℕ
next_word state = (pcg32 state).0

-- the generator after it
unfoldable pub after_word : Lcg → Lcg
after_word state = (pcg32 state).1

-- the generator after so many words
abbrev pub after_words : ℕ → Lcg → Lcg
after_words zero state = state
after_words (suc count) state = after_words count (after_word state)

-- The draw below a limit that comes after so many words.
abbrev pub draw : ℕ → ℕ → Lcg → ℕ
draw limit count state = next_word (after_words count state) % limit

-- The name of a node: `F` and its number for a failure mode, and `D` and a number from 0 for a discrepancy.
abbrev pub drawn_name : ℕ → List ℕ
drawn_name node =
    if nat_lt node FAILURE_COUNT then codes "F" ++ decimal node else codes "D" ++ decimal (node - FAILURE_COUNT)

-- the kinds of the first so many failure modes
abbrev pub failure_kinds : ℕ → List Kind
failure_kinds zero = []
failure_kinds (suc index) = failure_kinds index ++ Failure (index + 1) ∷ []

-- the node has two sources: the first two draws are two nodes before it
abbrev pub has_two : ℕ → Lcg → Bool
has_two node state = not (draw node 0 state == draw node 1 state)

-- its lag, where it is monitored
abbrev pub lag_drawn : Lcg → Option Lag
lag_drawn state = if draw 4 3 state == 0 then None else Some (lag_up_to (draw 20 4 state))

-- its kind: it is an AND node where it has two sources, and the draw says so
abbrev pub kind_drawn : ℕ → Lcg → Kind
kind_drawn node state = if has_two node state && draw 8 2 state == 0 then And (lag_drawn state) else Or (lag_drawn state)

-- an edge between two nodes, with delays and modes as they are drawn
abbrev pub edge_drawn : ℕ → ℕ → Lcg → Edge
edge_drawn source target state = record {
  source = source;
  target = target;
  tmin = draw GENERATED_DELAYS 0 state;
  tmax = if draw 16 2 state == 0 then None else Some (draw GENERATED_DELAYS 0 state + draw GENERATED_DELAYS 1 state);
  modes = if draw 8 3 state == 0 then 1 else 3;
}

-- the edges into a node, one for each source
abbrev pub edges_drawn : ℕ → Lcg → List Edge
edges_drawn node state =
    edge_drawn (draw node 0 state) node (after_words 5 state)
    ∷ (if has_two node state then edge_drawn (draw node 1 state) node (after_words 9 state) ∷ [] else [])

-- the generator after the draws of a node
abbrev pub after_node : ℕ → Lcg → Lcg
after_node node state = if has_two node state then after_words 13 state else after_words 9 state

-- what is drawn so far: the kinds of the discrepancies, and the edges
pub record Draft : Type 0 where
  pub kinds : List Kind
  pub edges : List Edge
  pub state : Lcg

-- the draft with one more discrepancy, which has this number among all nodes
abbrev pub with_discrepancy : ℕ → Draft → Draft
with_discrepancy node draft = record {
  kinds = draft.kinds ++ kind_drawn node draft.state ∷ [];
  edges = draft.edges ++ edges_drawn node draft.state;
  state = after_node node draft.state;
}

-- the draft of the first so many discrepancies, from this generator on
abbrev pub draft_after : Lcg → ℕ → Draft
draft_after state zero = record { kinds = []; edges = []; state = state }
draft_after state (suc index) = with_discrepancy (FAILURE_COUNT + index) (draft_after state index)

-- the nodes of these kinds, numbered from this number on
abbrev pub named_nodes : ℕ → List Kind → List Node
named_nodes number [] = []
named_nodes number (kind ∷ kinds) = record { name = drawn_name number; kind = kind } ∷ named_nodes (number + 1) kinds

-- the graph of these discrepancies and edges: the failure modes come first, and there are two modes
abbrev pub drawn_graph : List Kind → List Edge → Tfpg
drawn_graph kinds edges = record {
  nodes = named_nodes 0 (failure_kinds FAILURE_COUNT ++ kinds);
  edges = edges;
  modes = codes "M0" ∷ codes "M1" ∷ [];
}

-- the draft of a number and a size, with four discrepancies for each unit of the size
abbrev pub draft_of : ℕ → ℕ → Draft
draft_of number size = draft_after (generator number GRAPH_STREAM) (4 * size)

-- The generated graph.
abbrev pub generated_graph : ℕ → ℕ → Tfpg
generated_graph number size = drawn_graph (draft_of number size).kinds (draft_of number size).edges

-- the line by which a failure mode starts
abbrev pub start_text : ℕ → ℕ → List ℕ
start_text time failure = text_line (decimal time ∷ codes "start" ∷ drawn_name failure ∷ [])

-- the lines after the starts: two changes of mode, two sweeps and the stop
abbrev pub last_lines : List ℕ
last_lines =
    text_line (codes "100" ∷ codes "mode" ∷ codes "M1" ∷ []) ++ text_line (codes "140" ∷ codes "mode" ∷ codes "M0" ∷ [])
    ++ text_line (codes "200" ∷ codes "sweep" ∷ []) ++ text_line (codes "300" ∷ codes "sweep" ∷ [])
    ++ text_line (codes "400" ∷ codes "stop" ∷ [])

-- the script by the draws of this generator: one failure mode or two, the one after the other
abbrev pub script_drawn : Lcg → List ℕ
script_drawn state =
    start_text 0 (draw FAILURE_COUNT 0 state)
    ++ (if draw FAILURE_COUNT 0 state == draw FAILURE_COUNT 1 state then []
    else start_text 50 (draw FAILURE_COUNT 1 state))
    ++ last_lines

-- The generated script, drawn after the graph.
abbrev pub generated_script : ℕ → ℕ → List ℕ
generated_script number size = script_drawn (draft_of number size).state
