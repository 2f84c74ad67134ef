-- Which graph the lines of a text declare. What has no value, as a word that is no number, declares nothing.
use Rattle.std.specs.Prelude.{ℕ, List, [], ◌||◌, if◌then◌else◌, Option, Some, None, option_map, option_and_then, filter_map, codes, bytes_eq}
use Rattle.std.specs.Option.{option_zip}
use Rattle.tfpg_base.specs.SetBits.{bits_of}
use Rattle.tfpg_base.specs.Words.{comma_parts, number_of}
use Rattle.tfpg_graph.specs.declared.kind.Kind.{Kind}
use Rattle.tfpg_graph.specs.declared.kind.Lag.{Lag}
use Rattle.tfpg_graph.specs.declared.kind.Kind.TheVariants.{Failure, Or, And}
use Rattle.tfpg_graph.specs.declared.edge.Edge.{Edge}
use Rattle.tfpg_graph.specs.Graph.{Tfpg, Node, node_named, mode_named}
use Rattle.tfpg_graph.specs.Text.{all_modes, version_of}
use Rattle.tfpg_graph.specs.Statements.{LagWords, NodeWords, FailureWords, OrWords, AndWords, Statement, DeclaresMode, DeclaresNode, DeclaresEdge, statements_of}

-- the lag that words say: none where there are no words for it
abbrev pub lag_of_words : Option LagWords → Option (Option Lag)
lag_of_words None = Some None
lag_of_words (Some words) =
    option_map (λ range. Some (record { least = range.0; most = range.1 })) (option_zip (number_of words.least) (number_of words.most))

-- what the words say that a node is
abbrev pub kind_of_words : NodeWords → Option Kind
kind_of_words (FailureWords rarity) = option_map Failure (number_of rarity)
kind_of_words (OrWords lag) = option_map Or (lag_of_words lag)
kind_of_words (AndWords lag) = option_map And (lag_of_words lag)

-- the mode that a line declares
abbrev pub mode_declared : Statement → Option (List ℕ)
mode_declared (DeclaresMode name) = Some name
mode_declared _ = None

-- the node that a line declares
abbrev pub node_declared : Statement → Option Node
node_declared (DeclaresNode name words) = option_map (λ kind. record { name = name; kind = kind }) (kind_of_words words)
node_declared _ = None

-- a greatest delay, or `inf` for none
abbrev pub tmax_of_word : List ℕ → Option (Option ℕ)
tmax_of_word word = if bytes_eq word (codes "inf") then Some None else option_map Some (number_of word)

-- the names that a word for modes lists: none where it is `*` for all or `-` for no mode, and else the parts round its commas
abbrev pub modes_listed : List ℕ → List (List ℕ)
modes_listed word = if bytes_eq word (codes "*") || bytes_eq word (codes "-") then [] else comma_parts word

-- the bits of the modes that a word says
abbrev pub modes_of_word : Tfpg → List ℕ → ℕ
modes_of_word graph word = if bytes_eq word (codes "*") then all_modes graph else bits_of (filter_map (mode_named graph) (modes_listed word))

-- the edge that a line declares between nodes of the graph
abbrev pub edge_declared : Tfpg → Statement → Option Edge
edge_declared graph (DeclaresEdge source target tmin tmax modes) =
    option_and_then (λ ends. option_map (λ delays. record {
      source = ends.0;
      target = ends.1;
      tmin = delays.0;
      tmax = delays.1;
      modes = modes_of_word graph modes;
    }) (option_zip (number_of tmin) (tmax_of_word tmax))) (option_zip (node_named graph source) (node_named graph target))
edge_declared graph _ = None

-- the modes and nodes that lines declare
abbrev pub named_by : List Statement → Tfpg
named_by said = record { nodes = filter_map node_declared said; edges = []; modes = filter_map mode_declared said }

-- the graph that these statements declare
abbrev pub graph_said : List Statement → Tfpg
graph_said said = record (named_by said) { edges = filter_map (edge_declared (named_by said)) said }

-- what the lines of a text say, in the version that the first says
abbrev pub said_by : List (List ℕ) → List Statement
said_by lines = statements_of (version_of lines) lines

-- The graph that the lines of a text declare.
abbrev pub declared_by : List (List ℕ) → Tfpg
declared_by lines = graph_said (said_by lines)
