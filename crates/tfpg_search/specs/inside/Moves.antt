-- What the steps of a search do to its path.
use Rattle.std.specs.Prelude.{◌≡◌, ℕ, ◌<◌, ◌+◌, ◌-◌, ◌≤◌, List, [], ◌∷◌, ◌++◌, All, Bool, true, false, Option, Some, None, Result, Ok, Err}
use Rattle.tfpg_graph.specs.Graph.{Tfpg}
use Rattle.tfpg_log.specs.Log.{Logbook}
use Rattle.tfpg_evidence.specs.declared.clause_name.ClauseName.{ClauseName}
use Rattle.tfpg_evidence.specs.declared.step.Step.{Step}
use Rattle.tfpg_evidence.specs.declared.step.Step.TheVariants.{Split, Cycle, Again}
use Rattle.tfpg_clause.specs.Case.{Case}
use Rattle.tfpg_clause.specs.Trees.{Judged, IsRefutation, split_count}
use Rattle.tfpg_clause.specs.Paths.{chosen_on, IsMarkedReusable, HasPath, MovesTo}
use Rattle.tfpg_clause.specs.declared.path.PathSplit.{PathSplit}
use Rattle.tfpg_base.specs.declared.no_memory.NoMemory.{NoMemory}
use Rattle.tfpg_log.specs.Explains.{Explains}
use Rattle.tfpg_search.specs.Live.{IsLiveAt, IsSimpleAt, HasNoNameTwice}
use Rattle.tfpg_search.specs.Work.{AreFactBounds}
use Rattle.tfpg_search.specs.inside.Leaf.{bounds_in}
use Rattle.tfpg_search.specs.inside.Picks.{IsAllowed, AreInRange}
use Rattle.tfpg_search.specs.SearchState.{SearchState, case_of_search}
use Rattle.tfpg_search.specs.inside.AtItsLeaf.{IsAtItsLeaf, HasEnteredAll}
use Rattle.tfpg_search.specs.Searched.{SearchCall}
use Rattle.tfpg_search.specs.declared.found.Found.{Found}
use Rattle.tfpg_search.specs.declared.found.Found.TheVariants.{Shown as FoundShown, Closed as FoundClosed, Spent}
use Rattle.tfpg_search.specs.declared.search.Look.{Look}
use Rattle.tfpg_search.specs.declared.search.Look.TheVariants.{Violated, Shown}
use Rattle.tfpg_search.specs.declared.search.judging.Proposed.{Proposed}
use Rattle.tfpg_search.specs.declared.search.judging.Proposed.TheVariants.{Shown as ProposedShown, Violated as ProposedViolated, Outside}

-- The step is one that a search makes at the leaf of this path: a reuse where one is allowed, and else a live split, or a cycle
-- in which no left side stands twice.
abbrev pub IsSearchStepAt : Case → List PathSplit → Step → Type 0
IsSearchStepAt case path (Split name) = IsLiveAt case (chosen_on path) name × (IsMarkedReusable path → ⊥)
IsSearchStepAt case path (Cycle reasons) = IsSimpleAt case (chosen_on path) reasons × (IsMarkedReusable path → ⊥)
IsSearchStepAt case path Again = IsMarkedReusable path

-- The steps lead from the leaf of this path to that leaf, where there is one: each is right, and one that a search makes.
abbrev pub Leads : Case → Option (List PathSplit) → List Step → Option (List PathSplit) → Type 0
Leads case start [] end = start ≡ end
Leads case None (step ∷ steps) end = ⊥
Leads case (Some path) (step ∷ steps) end =
    (next : Option (List PathSplit)) × MovesTo case path step next × IsSearchStepAt case path step
    × Leads case next steps end

-- The steps have led there: to a refutation where there is no leaf left, and else to the leaf of this path, whose splits are on
-- allowed clauses, each in one of its alternatives. No name stands twice on a path.
abbrev pub LeadsTo : Case → List Judged → Option (List PathSplit) → Type 0
LeadsTo case steps None = IsRefutation case steps × HasNoNameTwice case steps
LeadsTo case steps (Some path) =
    HasPath case steps path × HasNoNameTwice case steps × AreInRange path
    × All (IsAllowed case.graph case.log) path

-- The steps that a call appended lead from the leaf of the search before it to that leaf, and so many of them split.
pub record Grows (graph : Tfpg) (log : Logbook) (call : SearchCall) (splits : ℕ)
    (end : Option (List PathSplit)) : Type 0 where
  pub added : List Step
  pub appended : call.after ≡ call.before ++ added
  pub count : split_count added ≡ splits
  pub leads : Leads (case_of_search graph log call.old) (Some call.old.path) added end

-- Steps without a split were appended, whichever leaf they lead to.
abbrev pub GrowsAnyhow : Tfpg → Logbook → SearchCall → Type 0
GrowsAnyhow graph log call = (end : Option (List PathSplit)) × Grows graph log call 0 end

-- The set, what it reaches, how many events were seen, and which system it is are unchanged.
pub record KeepsSet (old new : SearchState) : Type 0 where
  pub set : new.set ≡ old.set
  pub reach : new.reach ≡ old.reach
  pub seen : new.seen ≡ old.seen
  pub identity : new.leaf.identity ≡ old.leaf.identity

-- The bounds of the system are those that the facts give.
abbrev pub HasFactBounds : Tfpg → Logbook → SearchState → Type 0
HasFactBounds graph log search = AreFactBounds (case_of_search graph log search) (bounds_in search.leaf)

-- The system has all constraints of the leaf: each alternative on the path was entered, and its bounds are those that the facts
-- give.
pub record IsLoaded (graph : Tfpg) (log : Logbook) (search : SearchState) : Type 0 where
  pub all_entered : HasEnteredAll search
  pub bounds : HasFactBounds graph log search

-- how many alternatives on a path were not taken yet
abbrev pub untaken : List PathSplit → ℕ
untaken [] = 0
untaken (split ∷ deeper) = (split.alternatives - split.alternative) + untaken deeper

-- What closing the present leaf comes to: a next leaf with fewer alternatives not taken, or none.
abbrev pub Closing : Tfpg → Logbook → SearchCall → Result Bool NoMemory → Type 0
Closing graph log call (Ok true) =
    IsAtItsLeaf graph log call.new × Grows graph log call 0 (Some call.new.path)
    × (untaken call.new.path < untaken call.old.path)
Closing graph log call (Ok false) = Grows graph log call 0 None
Closing graph log call (Err no_memory) = GrowsAnyhow graph log call

-- What loading the present leaf comes to: a loaded leaf, at which no subtree is reusable, or none.
abbrev pub Loading : Tfpg → Logbook → SearchCall → Result Bool NoMemory → Type 0
Loading graph log call (Ok true) =
    IsAtItsLeaf graph log call.new × IsLoaded graph log call.new × Grows graph log call 0 (Some call.new.path)
    × (IsMarkedReusable call.new.path → ⊥)
Loading graph log call (Ok false) = Grows graph log call 0 None
Loading graph log call (Err no_memory) = GrowsAnyhow graph log call

-- What is seen at a loaded leaf: a trace that explains the log, or the clause on which a split would be live.
abbrev pub Sees : Tfpg → Logbook → SearchState → Look → Type 0
Sees graph log search (Violated name) = IsLiveAt (case_of_search graph log search) (chosen_on search.path) name
Sees graph log search (Shown trace) = Explains graph log search.set trace

-- Where a trace was shown by proposed times, it explains the log from the set.
abbrev pub ExplainsIfShown : Tfpg → Logbook → List ℕ → Proposed → Type 0
ExplainsIfShown graph log set (ProposedShown trace) = Explains graph log set trace
ExplainsIfShown graph log set (ProposedViolated name) = Unit {0}
ExplainsIfShown graph log set Outside = Unit {0}

-- What a look comes to: what is seen at a loaded leaf; or no leaf.
abbrev pub Looking : Tfpg → Logbook → SearchCall → Result (Option Look) NoMemory → Type 0
Looking graph log call (Ok (Some look)) =
    IsAtItsLeaf graph log call.new × IsLoaded graph log call.new × Sees graph log call.new look
    × Grows graph log call 0 (Some call.new.path) × (IsMarkedReusable call.new.path → ⊥)
Looking graph log call (Ok None) = Grows graph log call 0 None
Looking graph log call (Err no_memory) = GrowsAnyhow graph log call

-- What a split comes to: one split more.
abbrev pub Splitting : Tfpg → Logbook → SearchCall → Result (Unit {0}) NoMemory → Type 0
Splitting graph log call (Ok done) = IsAtItsLeaf graph log call.new × Grows graph log call 1 (Some call.new.path)
Splitting graph log call (Err no_memory) = GrowsAnyhow graph log call

-- What was found, after so many splits, where the steps lead to that leaf.
abbrev pub FoundAtLeaf : Case → ℕ → SearchState → ℕ → Option (List PathSplit) → Result Found NoMemory → Type 0
FoundAtLeaf case budget new splits end (Ok (FoundShown trace)) =
    Explains case.graph case.log new.set trace × IsAtItsLeaf case.graph case.log new × IsLoaded case.graph case.log new
    × (end ≡ Some new.path) × (IsMarkedReusable new.path → ⊥)
FoundAtLeaf case budget new splits end (Ok FoundClosed) = end ≡ None
FoundAtLeaf case budget new splits end (Ok Spent) =
    (splits ≡ budget) × ((name : ClauseName) × IsLiveAt case (chosen_on new.path) name) × IsAtItsLeaf case.graph case.log new
    × IsLoaded case.graph case.log new × (end ≡ Some new.path) × (IsMarkedReusable new.path → ⊥)
FoundAtLeaf case budget new splits end (Err no_memory) = Unit {0}

-- What searching on comes to.
pub record SearchesOn (graph : Tfpg) (log : Logbook) (budget : ℕ) (call : SearchCall)
    (result : Result Found NoMemory) : Type 0 where
  pub splits : ℕ
  pub end : Option (List PathSplit)
  pub grows : Grows graph log call splits end
  pub within : splits ≤ budget
  pub ends : FoundAtLeaf (case_of_search graph log call.new) budget call.new splits end result
