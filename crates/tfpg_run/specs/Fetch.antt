-- What fetching files gives: the graph of one, and the text of another.
use Rattle.std.specs.Prelude.{◌≡◌, ◌⊎◌, ℕ, ◌≤◌, List, [], ◌∷◌, ◌++◌, length, take, All, Some, IfSome, slice_get}
use Rattle.tfpg_base.specs.Outside.{ShelfState, Rose, Gives, PassesLimit, NotesName}
use Rattle.tfpg_base.specs.declared.limits.TheConstants.{LONGEST_FILE}
use Rattle.tfpg_graph.specs.declared.cause.GraphFault.{GraphFault}
use Rattle.tfpg_graph.specs.Graph.{Tfpg}
use Rattle.tfpg_graph.specs.Text.{Spells}
use Rattle.tfpg_graph.specs.Valid.{IsValid}
use Rattle.tfpg_graph.specs.Faults.{IsFirstFault}
use Rattle.tfpg_run.specs.declared.end.End.{End}
use Rattle.tfpg_run.specs.declared.fault.FetchFault.{FetchFault}
use Rattle.tfpg_run.specs.declared.fault.FetchFault.TheVariants.{Failed, TooLong, Graph, NoMemory}
use Rattle.tfpg_run.specs.EndsOf.{StopsBy, end_of_fetch_fault}
use Rattle.tfpg_run.specs.World.{World, watched_of}

-- the file of this name has these bytes, and not too many
pub record HasFile (shelf : ShelfState) (name text : List ℕ) : Type 0 where
  pub gives : Gives shelf name text
  pub small : length text ≤ LONGEST_FILE

-- the file of this name has more bytes than a file may have
abbrev pub IsTooLong : ShelfState → List ℕ → Type 0
IsTooLong shelf name = (front : List ℕ) × PassesLimit shelf name front

-- a file of this name that spells the graph, for any notion of which text spells which graph
pub record GivesGraphBy (SpellsIt : List ℕ → Tfpg → Type 0) (shelf : ShelfState) (name : List ℕ) (graph : Tfpg) : Type 0 where
  pub text : List ℕ
  pub file : HasFile shelf name text
  pub spells : SpellsIt text graph
  pub valid : IsValid graph

-- a file of this name that spells the graph as a graph text
abbrev pub GivesGraph : ShelfState → List ℕ → Tfpg → Type 0
GivesGraph = GivesGraphBy Spells

-- The file of the one name spells the graph, and the file of the other has this text.
pub record GivesGraphAndText (shelf : ShelfState) (graph_name text_name : List ℕ) (graph : Tfpg)
    (text : List ℕ) : Type 0 where
  pub of_graph : GivesGraph shelf graph_name graph
  pub file : HasFile shelf text_name text

-- The files of these names were fetched, one after the other: the shelf has them, was asked for them and for no other, and did not fail.
pub record Fetched (names : List (List ℕ)) (before now : ShelfState) : Type 0 where
  pub files : All (λ name. (text : List ℕ) × HasFile before name text) names
  pub asked : IfSome before.asked (λ earlier. now.asked ≡ Some (earlier ++ names))
  pub no_fault : now.faults ≡ before.faults

-- The first few of these files were fetched, and then the shelf was asked for the next one, which has this name, and for no other.
pub record FetchedUpTo (name : List ℕ) (names : List (List ℕ)) (before now : ShelfState) : Type 0 where
  pub count : ℕ
  pub next : slice_get names count ≡ Some name
  pub between : ShelfState
  pub fetched : Fetched (take count names) before between
  pub asked : NotesName between now name

-- Why there is no graph, for any notion of the first fault of a text, or no text of the other files. All files are fetched first, that of
-- the graph before the others.
abbrev pub IsFetchFaultBy : (List ℕ → GraphFault → Type 0) → List ℕ → List (List ℕ) → ShelfState → ShelfState → FetchFault → Type 0
-- The shelf failed at the last file that it was asked for.
IsFetchFaultBy IsFirst graph_name others before now Failed =
    (name : List ℕ) × FetchedUpTo name (graph_name ∷ others) before now × Rose before.faults now.faults
-- It did not fail, and the last file that it was asked for is too long.
IsFetchFaultBy IsFirst graph_name others before now TooLong =
    (name : List ℕ) × FetchedUpTo name (graph_name ∷ others) before now × IsTooLong before name × (now.faults ≡ before.faults)
-- All were fetched, and this is the first fault of the graph's text.
IsFetchFaultBy IsFirst graph_name others before now (Graph fault) =
    Fetched (graph_name ∷ others) before now × (text : List ℕ) × HasFile before graph_name text × IsFirst text fault
-- The first few were fetched, and memory ran out.
IsFetchFaultBy IsFirst graph_name others before now NoMemory =
    (count : ℕ) × Fetched (take count (graph_name ∷ others)) before now

-- There is no graph, for any notion of the first fault of a text, or no text of the other files, with its cause, and all but the shelf is
-- untouched.
abbrev pub LacksFilesBy : (List ℕ → GraphFault → Type 0) → List ℕ → List (List ℕ) → World → World → End → Type 0
LacksFilesBy IsFirst graph_name others before now = StopsBy
    (IsFetchFaultBy IsFirst graph_name others before.shelf now.shelf) end_of_fetch_fault (watched_of before) (watched_of now)

-- So it is where the graph is read as a graph text.
abbrev pub LacksFiles : List ℕ → List (List ℕ) → World → World → End → Type 0
LacksFiles = LacksFilesBy IsFirstFault

-- The file of this name was fetched, it spells a graph, for any notion of which text spells which graph, and the work with it ended so.
pub record WorksByGraph (SpellsIt : List ℕ → Tfpg → Type 0) (name : List ℕ) (Works : Tfpg → End → Type 0)
    (before now : World) (end : End) : Type 0 where
  pub graph : Tfpg
  pub gives : GivesGraphBy SpellsIt before.shelf name graph
  pub fetched : Fetched (name ∷ []) before.shelf now.shelf
  pub works : Works graph end

-- The files of these names were fetched, they gave a graph and a text, and the work with both ended so.
pub record WorksByFiles (graph_name text_name : List ℕ) (Works : Tfpg → List ℕ → End → Type 0) (before now : World) (end : End) : Type 0 where
  pub graph : Tfpg
  pub text : List ℕ
  pub gives : GivesGraphAndText before.shelf graph_name text_name graph text
  pub fetched : Fetched (graph_name ∷ text_name ∷ []) before.shelf now.shelf
  pub works : Works graph text end

-- How a command ends that works by two files: they give no graph or no text; or it worked by what they give.
abbrev pub EndsByFiles : List ℕ → List ℕ → (Tfpg → List ℕ → End → Type 0) → World → World → End → Type 0
EndsByFiles graph_name text_name Works before now end =
    LacksFiles graph_name (text_name ∷ []) before now end ⊎ WorksByFiles graph_name text_name Works before now end
