-- What the outside gives and takes, as far as contracts know its contents, and when a fault is counted.
use Rattle.std.specs.Prelude.{◌≡◌, ◌⊎◌, ◌<◌, ◌-◌, ◌^◌, ℕ, List, [], ◌∷◌, ◌++◌, length, Bool, IsTrue, Option, Some, None, Result, Ok, Err, IfSome, if◌then◌else◌, bytes_eq}
use Rattle.tfpg_base.specs.declared.limits.TheConstants.{LONGEST_FILE}
use Rattle.tfpg_base.specs.declared.outside.ShelfFault.{ShelfFault}
use Rattle.tfpg_base.specs.declared.outside.ShelfFault.TheVariants as faults

-- What contracts see of a source: the bytes that are left, where they are known; whether it has returned its end; how often taking failed.
pub record SourceState : Type 0 where
  pub left : Option (List ℕ)
  pub ended : Bool
  pub faults : ℕ

-- What contracts see of a sink: all the bytes so far, where they are known; how often putting failed.
pub record SinkState : Type 0 where
  pub holds : Option (List ℕ)
  pub faults : ℕ

-- What contracts see of a shelf: the files as names with contents, where they are known (of two with one name the first decides);
-- the names asked for so far, where they are known; how often fetching failed.
pub record ShelfState : Type 0 where
  pub files : Option (List (List ℕ × List ℕ))
  pub asked : Option (List (List ℕ))
  pub faults : ℕ

-- A count of faults rose in a call, or it stands at the last value of its type and cannot rise.
abbrev pub Rose : ℕ → ℕ → Type 0
Rose before after = (before < after) ⊎ ((before ≡ 2 ^ 64 - 1) × (after ≡ 2 ^ 64 - 1))

-- These bytes were taken from what was left.
abbrev pub Takes : SourceState → SourceState → List ℕ → Type 0
Takes before after bytes = IfSome before.left (λ had. (rest : List ℕ) × (after.left ≡ Some rest) × (had ≡ bytes ++ rest))

-- The source has returned its end, and nothing is left.
pub record IsAtEnd (source : SourceState) : Type 0 where
  pub ended : IsTrue source.ended
  pub left : IfSome source.left (λ rest. rest ≡ [])

-- These bytes were appended to what was held.
abbrev pub Puts : SinkState → SinkState → List ℕ → Type 0
Puts before after bytes = IfSome before.holds (λ held. after.holds ≡ Some (held ++ bytes))

-- the bytes of the first file of that name
abbrev pub file_of : List (List ℕ × List ℕ) → List ℕ → Option (List ℕ)
file_of [] name = None
file_of (file ∷ files) name = if bytes_eq file.0 name then Some file.1 else file_of files name

-- These are the bytes of the file of that name.
abbrev pub Gives : ShelfState → List ℕ → List ℕ → Type 0
Gives shelf name bytes = IfSome shelf.files (λ files. file_of files name ≡ Some bytes)

-- The file of that name begins with these bytes, as many as a file may have, and has more.
abbrev pub PassesLimit : ShelfState → List ℕ → List ℕ → Type 0
PassesLimit shelf name bytes =
    (length bytes ≡ LONGEST_FILE) × IfSome shelf.files (λ files. (more : List ℕ) × (0 < length more) × (file_of files name ≡ Some (bytes ++ more)))

-- The name was added to those asked for.
abbrev pub NotesName : ShelfState → ShelfState → List ℕ → Type 0
NotesName before after name = IfSome before.asked (λ names. after.asked ≡ Some (names ++ name ∷ []))

-- The name was asked for, unless the call ran out of memory.
abbrev pub Asks : ShelfState → ShelfState → List ℕ → Result (Unit {0}) ShelfFault → Type 0
Asks before after name (Err faults.NoMemory) = after.asked ≡ before.asked
Asks before after name (Err faults.Failed) = NotesName before after name
Asks before after name (Err faults.TooLong) = NotesName before after name
Asks before after name (Ok done) = NotesName before after name

-- The count of faults rose exactly where the result is a failure.
abbrev pub CountsFailure : Result (Unit {0}) ShelfFault → ShelfState → ShelfState → Type 0
CountsFailure (Err faults.Failed) before after = Rose before.faults after.faults
CountsFailure (Err faults.TooLong) before after = after.faults ≡ before.faults
CountsFailure (Err faults.NoMemory) before after = after.faults ≡ before.faults
CountsFailure (Ok done) before after = after.faults ≡ before.faults
