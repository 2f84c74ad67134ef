-- Which files a run asked for, by how it ended.
use Rattle.std.proofs.Common.{◌≡◌, ℕ, ◌+◌, ◌-◌, ◌≤◌, List, [], ◌∷◌, ◌++◌, length, take, Option, Some, None, IfSome, Result, Ok, Err, sym, ap, subst, ◌∙◌, inl, inr, append_assoc, arith}
use Rattle.std.specs.Prelude.{All, ◌⊎◌}
use Rattle.std.proofs.lemmas.List.{take_all, take-take}
use Rattle.std.proofs.lemmas.List.Elements.{All-take}
use Rattle.tfpg_base.specs.Outside.{ShelfState}
use Rattle.tfpg_base.proofs.lemmas.lists.Cuts.{take-next}
use Rattle.tfpg_graph.specs.declared.cause.GraphFault.{GraphFault}
use Rattle.tfpg_graph.specs.Graph.{Tfpg}
use Rattle.tfpg_graph.specs.Faults.{IsFirstFault}
use Rattle.tfpg_words.specs.declared.usage_cause.UsageCause.{UsageCause}
use Rattle.tfpg_words.specs.Meaning.{Meaning, Diagnose, Explain, Check, Simulate, Generate, Convert, Ask, Fleet, Predict}
use Rattle.tfpg_run.specs.declared.end.End.{End}
use Rattle.tfpg_run.specs.declared.fault.FetchFault.{FetchFault}
use Rattle.tfpg_run.specs.declared.fault.FetchFault.TheVariants.{Failed, TooLong, Graph, NoMemory}
use Rattle.tfpg_run.specs.Fetch.{EndsByFiles, Fetched, FetchedUpTo, IsFetchFaultBy, LacksFilesBy, WorksByGraph}
use Rattle.tfpg_run.specs.FilesAsked.{AsksInOrder, named_files}
use Rattle.tfpg_run.specs.Run.{CommandEnds, RunEnds}
use Rattle.tfpg_run.specs.World.{World}
use Rattle.tfpg_run.proofs.lemmas.Refused.{IsThere, fetched_none}

module _ (names : List (List ℕ)) (before now : ShelfState) where
  -- the first few were fetched
  few_fetched : (count : ℕ) → Fetched (take count names) before now → AsksInOrder names before now
  few_fetched count fetched =
      let less : count - 1 ≤ count = omega arith in
      record {
        count = count;
        asked = fetched.asked;
        there = subst (All (IsThere before)) (take-take (count - 1) count names less) (All-take (IsThere before) (count - 1) (take count names) fetched.files);
      }

  -- all were
  all_fetched : Fetched names before now → AsksInOrder names before now
  all_fetched fetched =
      let enough : length names ≤ length names = omega arith in
      few_fetched (length names) (subst (λ (them : List (List ℕ)). Fetched them before now) (sym (take_all (length names) names enough)) fetched)

  -- the first few were, and then the next one was asked for
  next_asked : (name : List ℕ) → FetchedUpTo name names before now → AsksInOrder names before now
  next_asked name up = record {
    count = up.count + 1;
    asked = go before.asked up.fetched.asked;
    there = subst (λ (n : ℕ). All (IsThere before) (take n names)) (let same : up.count ≡ up.count + 1 - 1 = omega arith in same) up.fetched.files;
  }
    where
      go : (asked : Option (List (List ℕ))) → IfSome asked (λ earlier. up.between.asked ≡ Some (earlier ++ take up.count names))
          → IfSome asked (λ earlier. now.asked ≡ Some (earlier ++ take (up.count + 1) names))
      go None is = tt
      go (Some earlier) is =
          subst (λ (m : Option (List (List ℕ))). IfSome m (λ them. now.asked ≡ Some (them ++ name ∷ []))) is up.asked
          ∙ ap Some (append_assoc earlier (take up.count names) (name ∷ []) ∙ ap (λ (them : List (List ℕ)). earlier ++ them) (sym (take-next names up.count name up.next)))

  -- none was asked for
  none_asked : now ≡ before → AsksInOrder names before now
  none_asked same = few_fetched 0 (fetched_none before now (ap (λ (shelf : ShelfState). shelf.faults) same) (ap (λ (shelf : ShelfState). shelf.asked) same))

-- there is no graph, or no text of the other files
lacking : (IsFirst : List ℕ → GraphFault → Type 0) (name : List ℕ) (others : List (List ℕ)) (before now : ShelfState) (fault : FetchFault) → IsFetchFaultBy IsFirst name others before now fault
    → AsksInOrder (name ∷ others) before now
lacking IsFirst name others before now Failed is = next_asked (name ∷ others) before now is.0 is.1
lacking IsFirst name others before now TooLong is = next_asked (name ∷ others) before now is.0 is.1
lacking IsFirst name others before now (Graph fault) is = all_fetched (name ∷ others) before now is.0
lacking IsFirst name others before now NoMemory is = few_fetched (name ∷ others) before now is.0 is.1

module _ (before now : World) (end : End) where
  -- a command that works by one file
  by_graph : {IsFirst : List ℕ → GraphFault → Type 0} {SpellsIt : List ℕ → Tfpg → Type 0} {Works : Tfpg → End → Type 0} (name : List ℕ)
      → LacksFilesBy IsFirst name [] before now end ⊎ WorksByGraph SpellsIt name Works before now end → AsksInOrder (name ∷ []) before.shelf now.shelf
  by_graph {IsFirst = IsFirst} name (inl lacks) = lacking IsFirst name [] before.shelf now.shelf lacks.fault lacks.is_fault
  by_graph name (inr works) = all_fetched (name ∷ []) before.shelf now.shelf works.fetched

  -- one that works by two
  by_files : {Works : Tfpg → List ℕ → End → Type 0} (name other : List ℕ) → EndsByFiles name other Works before now end → AsksInOrder (name ∷ other ∷ []) before.shelf now.shelf
  by_files name other (inl lacks) = lacking IsFirstFault name (other ∷ []) before.shelf now.shelf lacks.fault lacks.is_fault
  by_files name other (inr works) = all_fetched (name ∷ other ∷ []) before.shelf now.shelf works.fetched

  -- each command
  by_command : (meant : Result Meaning UsageCause) → CommandEnds meant before now end → AsksInOrder (named_files meant) before.shelf now.shelf
  by_command (Err cause) is = none_asked [] before.shelf now.shelf (ap (λ (at : World). at.shelf) is.0)
  by_command (Ok (Diagnose terms graph)) is = by_graph graph is
  by_command (Ok (Explain graph log)) is = by_files graph log is
  by_command (Ok (Check graph log)) is = by_files graph log is
  by_command (Ok (Simulate draw trace graph script)) is = by_files graph script is.0
  by_command (Ok (Generate draw size)) is = none_asked [] before.shelf now.shelf is.2
  by_command (Ok (Convert json graph)) is = by_graph graph is.0
  by_command (Ok (Ask terms graph log)) is = by_files graph log is.0
  by_command (Ok (Fleet terms graph names)) is = by_graph graph is
  by_command (Ok (Predict terms ahead graph log node)) is = by_files graph log is.0

-- the whole run
pub asked_in_order : (meant : Result Meaning UsageCause) (before now : World) (end : End) → RunEnds meant before now end → AsksInOrder (named_files meant) before.shelf now.shelf
asked_in_order meant before now end (inl does) = by_command before now end meant does
asked_in_order meant before now end (inr none) = none_asked (named_files meant) before.shelf now.shelf (ap (λ (at : World). at.shelf) none.0)
