-- Files that were fetched, and files that give no graph, or no text.
use Rattle.std.proofs.Common.{◌≡◌, ℕ, ◌<◌, Bool, true, false, List, [], ◌∷◌, ◌++◌, length, take, Option, Some, None, IfSome, refl, sym, ap, subst, ◌∙◌, append-nil, append_assoc}
use Rattle.std.proofs.lemmas.List.Elements.{All-cons, All-nil}
use Rattle.tfpg_base.specs.declared.outside.ShelfFault.{ShelfFault}
use Rattle.tfpg_base.specs.declared.outside.ShelfFault.TheVariants as faults
use Rattle.tfpg_base.specs.Outside.{ShelfState, Rose, NotesName, file_of}
use Rattle.tfpg_graph.specs.declared.cause.GraphFault.{GraphFault}
use Rattle.tfpg_graph.specs.declared.cause.GraphRefusal.{GraphRefusal}
use Rattle.tfpg_graph.specs.declared.cause.GraphRefusal.TheVariants.{Fault, NoMemory}
use Rattle.tfpg_run.specs.inside.Faults.{IsFileFault, fetch_fault_of_refusal, fetch_fault_of_shelf}
use Rattle.tfpg_run.specs.Fetch.{Fetched, HasFile, IsTooLong, IsFetchFaultBy}
use Rattle.tfpg_run.specs.convert.Converting.{IsFaultFrom}
use Rattle.tfpg_run.specs.inside.convert.Refusals.{IsRefusalFrom}

-- there is a file of this name
abbrev pub IsThere : ShelfState → List ℕ → Type 0
IsThere shelf name = (text : List ℕ) × HasFile shelf name text

-- ---- files of a shelf that has the same

module _ (before mid : ShelfState) (name : List ℕ) (same : mid.files ≡ before.files) where
  -- the file of a name after another was fetched
  pub HasFile-before : (text : List ℕ) → HasFile mid name text → HasFile before name text
  HasFile-before text file = record {
    gives = subst (λ (files : Option (List (List ℕ × List ℕ))). IfSome files (λ fs. file_of fs name ≡ Some text)) same file.gives;
    small = file.small;
  }

  -- so is one that is too long
  IsTooLong-before : IsTooLong mid name → IsTooLong before name
  IsTooLong-before long = (
    long.0,
    (long.1.0, subst (λ (files : Option (List (List ℕ × List ℕ))). IfSome files (λ fs. (more : List ℕ) × (0 < length more) × (file_of fs name ≡ Some (long.0 ++ more)))) same long.1.1),
  )

-- ---- what was fetched

-- nothing yet
pub fetched_none : (before now : ShelfState) → now.faults ≡ before.faults → now.asked ≡ before.asked → Fetched [] before now
fetched_none before now calm same = record {
  files = All-nil (IsThere before);
  asked = go before.asked same;
  no_fault = calm;
}
  where
    go : (asked : Option (List (List ℕ))) → now.asked ≡ asked → IfSome asked (λ earlier. now.asked ≡ Some (earlier ++ []))
    go None is = tt
    go (Some names) is = is ∙ ap Some (sym (append-nil names))

-- one file
pub fetched_one : (before now : ShelfState) (name text : List ℕ) → HasFile before name text → now.faults ≡ before.faults → NotesName before now name → Fetched (name ∷ []) before now
fetched_one before now name text file calm noted = record {
  files = All-cons (IsThere before) name [] (text, file) (All-nil (IsThere before));
  asked = noted;
  no_fault = calm;
}

-- the last of them, and then another one
noted_after : (before between now : ShelfState) (first second : List ℕ) → Fetched (first ∷ []) before between → NotesName between now second
    → IfSome before.asked (λ earlier. now.asked ≡ Some (earlier ++ first ∷ second ∷ []))
noted_after before between now first second fetched noted = go before.asked fetched.asked
  where
    go : (asked : Option (List (List ℕ))) → IfSome asked (λ earlier. between.asked ≡ Some (earlier ++ first ∷ []))
        → IfSome asked (λ earlier. now.asked ≡ Some (earlier ++ first ∷ second ∷ []))
    go None is = tt
    go (Some earlier) is =
        subst (λ (m : Option (List (List ℕ))). IfSome m (λ ns. now.asked ≡ Some (ns ++ second ∷ []))) is noted ∙ ap Some (append_assoc earlier (first ∷ []) (second ∷ []))

-- two files
pub fetched_two : (before between now : ShelfState) (first second one other : List ℕ) → between.files ≡ before.files → HasFile before first one → HasFile between second other
    → Fetched (first ∷ []) before between → Fetched (second ∷ []) between now → Fetched (first ∷ second ∷ []) before now
fetched_two before between now first second one other same file also fetched then_fetched = record {
  files = All-cons (IsThere before) first (second ∷ []) (one, file)
      (All-cons (IsThere before) second [] (other, HasFile-before before between second same other also) (All-nil (IsThere before)));
  asked = noted_after before between now first second fetched then_fetched.asked;
  no_fault = then_fetched.no_fault ∙ fetched.no_fault;
}

-- ---- what was not

module _ (IsFirst : List ℕ → GraphFault → Type 0) where
  -- the first was not fetched
  pub IsFetchFault-first : (before now : ShelfState) (name : List ℕ) (others : List (List ℕ)) (fault : ShelfFault) → IsFileFault before now name fault
      → IsFetchFaultBy IsFirst name others before now (fetch_fault_of_shelf fault)
  IsFetchFault-first before now name others faults.Failed is =
      (name, record { count = 0; next = refl; between = before; fetched = fetched_none before before refl refl; asked = is.1 }, is.0)
  IsFetchFault-first before now name others faults.TooLong is =
      (name, record { count = 0; next = refl; between = before; fetched = fetched_none before before refl refl; asked = is.2 }, is.0, is.1)
  IsFetchFault-first before now name others faults.NoMemory is = (0, fetched_none before now is.0 is.1)

  -- the first was, and the other was not
  pub IsFetchFault-second : (before between now : ShelfState) (name other : List ℕ) (fault : ShelfFault) → between.files ≡ before.files → Fetched (name ∷ []) before between
      → IsFileFault between now other fault → IsFetchFaultBy IsFirst name (other ∷ []) before now (fetch_fault_of_shelf fault)
  IsFetchFault-second before between now name other faults.Failed same fetched is =
      (other, record { count = 1; next = refl; between = between; fetched = fetched; asked = is.1 }, subst (λ (count : ℕ). Rose count now.faults) fetched.no_fault is.0)
  IsFetchFault-second before between now name other faults.TooLong same fetched is = (
    other,
    record { count = 1; next = refl; between = between; fetched = fetched; asked = is.2 },
    IsTooLong-before before between other same is.0,
    is.1 ∙ fetched.no_fault,
  )
  IsFetchFault-second before between now name other faults.NoMemory same fetched is = (
    1,
    record {
      files = fetched.files;
      asked = subst (λ (asked : Option (List (List ℕ))). IfSome before.asked (λ earlier. asked ≡ Some (earlier ++ name ∷ []))) (sym is.1) fetched.asked;
      no_fault = is.0 ∙ fetched.no_fault;
    },
  )

-- the text of the first is refused, where JSON is read or not
pub IsFetchFault-refused : (json : Bool) (before now : ShelfState) (name : List ℕ) (others : List (List ℕ)) (count : ℕ) (text : List ℕ) (refusal : GraphRefusal)
    → take count (name ∷ others) ≡ name ∷ others → Fetched (name ∷ others) before now → HasFile before name text → IsRefusalFrom json text refusal
    → IsFetchFaultBy (IsFaultFrom json) name others before now (fetch_fault_of_refusal refusal)
IsFetchFault-refused true before now name others count text (Fault fault) all fetched file refused = (fetched, text, file, refused)
IsFetchFault-refused true before now name others count text NoMemory all fetched file refused = (count, subst (λ (names : List (List ℕ)). Fetched names before now) (sym all) fetched)
IsFetchFault-refused false before now name others count text (Fault fault) all fetched file refused = (fetched, text, file, refused)
IsFetchFault-refused false before now name others count text NoMemory all fetched file refused = (count, subst (λ (names : List (List ℕ)). Fetched names before now) (sym all) fetched)
