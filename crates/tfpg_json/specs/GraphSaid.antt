-- What JSON says of a graph: names and numbers, before any name is looked up. Data that has not the shape says nothing.
use Rattle.std.specs.Prelude.{ℕ, List, [], ◌∷◌, map, Bool, ◌&&◌, if◌then◌else◌, Option, Some, None, is_some, option_map, option_and_then, unwrap_or, codes, bytes_eq}
use Rattle.std.specs.List.{list_all}
use Rattle.std.specs.Option.{option_map_or}
use Rattle.serde_json.specs.Data.{Data, Items, no_items, item}
use Rattle.serde_json.specs.Find.{get, as_null, as_str, as_number, as_array, as_u64}
use Rattle.tfpg_base.specs.Choice.{each_of}
use Rattle.tfpg_base.specs.Words.{is_name}
use Rattle.tfpg_graph.specs.declared.kind.Kind.{Kind}
use Rattle.tfpg_graph.specs.declared.kind.Kind.TheVariants.{Failure, Or, And}
use Rattle.tfpg_graph.specs.declared.kind.Lag.{Lag}
use Rattle.tfpg_graph.specs.Graph.{Node}

-- an edge between the nodes of two names, active in the modes of these names, or in all
pub record EdgeSaid : Type 0 where
  pub source : List ℕ
  pub target : List ℕ
  pub tmin : ℕ
  pub tmax : Option ℕ
  pub modes : Option (List (List ℕ))

-- the names of modes, nodes, and edges between nodes of some names
pub record GraphSaid : Type 0 where
  pub modes : List (List ℕ)
  pub nodes : List Node
  pub edges : List EdgeSaid

-- What a further reader makes of what one read: a `do` block puts this operator after what is read on each of its lines.
infixl 10 ◌>>=◌
abbrev ◌>>=◌ : {A B : Type 0} → Option A → (A → Option B) → Option B
found >>= read = option_and_then read found

-- ---- fields

-- the number that data is, where it is a whole one of 64 bits, from 0 on
abbrev pub number_from : Data → Option ℕ
number_from value = option_and_then as_u64 (as_number value)

-- the text under a key
abbrev pub text_under : List ℕ → Data → Option (List ℕ)
text_under key value = option_and_then as_str (get key value)

-- the number under a key
abbrev pub number_under : List ℕ → Data → Option ℕ
number_under key value = option_and_then number_from (get key value)

-- nothing where data is null, else what is read of it
abbrev pub unless_null : {X : Type 0} → (Data → Option X) → Data → Option (Option X)
unless_null read value = if is_some (as_null value) then Some None else option_map Some (read value)

-- the items as a list
abbrev pub list_of : Items → List Data
list_of no_items = []
list_of (item value others) = value ∷ list_of others

-- what is read of each item, where data is a list and each item can be read
abbrev pub each_in : {X : Type 0} → (Data → Option X) → Data → Option (List X)
each_in read value = option_and_then (λ items. each_of (map read (list_of items))) (as_array value)

-- the same of the list under a key
abbrev pub each_under : {X : Type 0} → (Data → Option X) → List ℕ → Data → Option (List X)
each_under read key value = option_and_then (each_in read) (get key value)

-- ---- a graph

-- the lag of a monitored node, by what stands under the key of its least lag, which is 0 where that is absent, and by its greatest
abbrev pub lag_between : Option Data → Data → Option Lag
lag_between least value = do
  most ← number_from value
  from ← option_map_or number_from least (Some 0)
  Some (record { least = from; most = most })

-- The lag of a discrepancy. Where the greatest lag is absent or null, it is hidden, and the least is ignored.
abbrev pub lag_from : Data → Option (Option Lag)
lag_from value = option_map_or (unless_null (lag_between (get (codes "least") value))) (get (codes "lag") value) (Some None)

-- what a node is, where its kind is this word
abbrev pub kind_of : List ℕ → Data → Option Kind
kind_of word value =
    if bytes_eq word (codes "failure") then option_map Failure (number_under (codes "rarity") value)
    else (if bytes_eq word (codes "or") then option_map Or (lag_from value)
    else (if bytes_eq word (codes "and") then option_map And (lag_from value) else None))

-- what a node is
abbrev pub kind_in : Data → Option Kind
kind_in value = do
  word ← text_under (codes "kind") value
  kind_of word value

-- a node
abbrev pub node_in : Data → Option Node
node_in value = do
  name ← text_under (codes "name") value
  kind ← kind_in value
  Some (record { name = name; kind = kind })

-- An edge. The key of its greatest delay must be there, and is null where that is infinite; so must that of its modes, null for all.
abbrev pub edge_from : Data → Option EdgeSaid
edge_from value = do
  source ← text_under (codes "from") value
  target ← text_under (codes "to") value
  tmin ← number_under (codes "min") value
  tmax ← option_and_then (unless_null number_from) (get (codes "max") value)
  modes ← option_and_then (unless_null (each_in as_str)) (get (codes "modes") value)
  Some (record { source = source; target = target; tmin = tmin; tmax = tmax; modes = modes })

-- What data says of a graph, where it has the shape: an object with modes, nodes and edges. Other keys are ignored everywhere.
abbrev pub graph_in : Data → Option GraphSaid
graph_in value = do
  modes ← each_under as_str (codes "modes") value
  nodes ← each_under node_in (codes "nodes") value
  edges ← each_under edge_from (codes "edges") value
  Some (record { modes = modes; nodes = nodes; edges = edges })

-- ---- names

-- the names in an edge have the form of a name
abbrev pub has_edge_names : EdgeSaid → Bool
has_edge_names edge = is_name edge.source && (is_name edge.target && list_all is_name (unwrap_or edge.modes []))

-- Each name in a graph has the form of a name.
abbrev pub has_names : GraphSaid → Bool
has_names said = list_all is_name said.modes && (list_all (λ node. is_name node.name) said.nodes && list_all has_edge_names said.edges)
