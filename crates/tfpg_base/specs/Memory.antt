-- What contracts see of the sources, sinks and shelves in memory.
use Rattle.std.specs.Prelude.{◌≡◌, ◌⊎◌, ◌<◌, ◌≤◌, ◌^◌, ◌+◌, ◌-◌, ℕ, min, List, [], ◌∷◌, ◌++◌, Bool, ◌||◌, ◌&&◌, ◌==◌, nat_lt, if◌then◌else◌, take, drop, Contains, length, Option, Some, None, Result, Ok, Err}
use Rattle.tfpg_base.specs.declared.outside.Failed.{Failed}
use Rattle.tfpg_base.specs.declared.outside.ShelfFault.{ShelfFault}
use Rattle.tfpg_base.specs.declared.outside.ShelfFault.TheVariants as faults
use Rattle.tfpg_base.specs.declared.limits.TheConstants.{LONGEST_FILE}

-- the count after one more, which stands still at the last value of its type
abbrev pub count_after : ℕ → ℕ
count_after count = min (count + 1) (2 ^ 64 - 1)

-- The bytes of a source that fails at chosen calls: those that are left, the limit of one call, the numbers of
-- the calls that are to fail, how many calls came, how many failed, and whether the end was returned.
pub record MemorySourceState : Type 0 where
  pub left : List ℕ
  pub limit : ℕ
  pub failing : List ℕ
  pub calls : ℕ
  pub faults : ℕ
  pub ended : Bool

-- The bytes of a source that never fails: those that are left, and whether the end was returned.
pub record SteadySourceState : Type 0 where
  pub left : List ℕ
  pub ended : Bool

-- The next call is one of those that are to fail.
abbrev pub FailsNext : List ℕ → ℕ → Type 0
FailsNext failing calls = Contains failing (count_after calls)

-- how many bytes a call gives: the least of the length of the buffer, of the number of bytes left, and of the limit of a call
abbrev pub count_given : MemorySourceState → ℕ → ℕ
count_given source room = min (min (length source.left) room) source.limit

-- whether the end was returned after a call that gave so many bytes for a buffer of this length
abbrev pub ended_after : Bool → ℕ → ℕ → Bool
ended_after ended count room = ended || (count == 0 && nat_lt 0 room)

-- a source after a call for a buffer of this length
abbrev pub after_take : MemorySourceState → ℕ → Result ℕ Failed → MemorySourceState
after_take old room (Ok count) = record old {
  left = drop count old.left;
  calls = count_after old.calls;
  ended = ended_after old.ended count room;
}
after_take old room (Err failed) = record old { calls = count_after old.calls; faults = count_after old.faults }

-- a buffer after a call of a source that had these bytes left
abbrev pub filled : List ℕ → List ℕ → Result ℕ Failed → List ℕ
filled left room (Ok count) = take count left ++ drop count room
filled left room (Err failed) = room

-- The bytes of a sink that fails at chosen calls: all of them so far, the limit of one call, the numbers of the calls
-- that are to fail, how many calls came, and how many failed.
pub record MemorySinkState : Type 0 where
  pub holds : List ℕ
  pub limit : ℕ
  pub failing : List ℕ
  pub calls : ℕ
  pub faults : ℕ

-- a sink after a call for this piece
abbrev pub after_put : MemorySinkState → List ℕ → Result ℕ Failed → MemorySinkState
after_put old piece (Ok count) = record old { holds = old.holds ++ take count piece; calls = count_after old.calls }
after_put old piece (Err failed) = record old { calls = count_after old.calls; faults = count_after old.faults }

-- Files by name: the names with the contents, the names asked for so far, the numbers of the calls that are to
-- fail, how many calls came, and how many failed.
pub record MemoryShelfState : Type 0 where
  pub files : List (List ℕ × List ℕ)
  pub asked : List (List ℕ)
  pub failing : List ℕ
  pub calls : ℕ
  pub faults : ℕ

-- What copying a file comes to, where there may be one of this content: the whole content where it is not
-- longer than a file may be, else as much of its front as a file may have. It fails where there is no file.
abbrev pub Copies : Option (List ℕ) → List ℕ → Result (Unit {0}) ShelfFault → Type 0
Copies content copy (Ok done) = (content ≡ Some copy) × (length copy ≤ LONGEST_FILE)
Copies content copy (Err faults.TooLong) =
    (length copy ≡ LONGEST_FILE) × ((more : List ℕ) × (0 < length more) × (content ≡ Some (copy ++ more)))
Copies content copy (Err faults.NoMemory) = copy ≡ []
Copies content copy (Err faults.Failed) = (copy ≡ []) × (content ≡ None)

-- What fetching a file comes to: a call that is to fail does, and each other call copies the file. Any call may run out of memory.
abbrev pub Fetches : Type 0 → Option (List ℕ) → List ℕ → Result (Unit {0}) ShelfFault → Type 0
Fetches fails content copy (Ok done) = (fails → ⊥) × Copies content copy (Ok done)
Fetches fails content copy (Err faults.TooLong) = (fails → ⊥) × Copies content copy (Err faults.TooLong)
Fetches fails content copy (Err faults.NoMemory) = copy ≡ []
Fetches fails content copy (Err faults.Failed) = (copy ≡ []) × (fails ⊎ (content ≡ None))

-- What fetching a file comes to where the call is to fail or there is no file: it fails, or memory runs out.
abbrev pub FailsOrLacksMemory : Result (Unit {0}) ShelfFault → Type 0
FailsOrLacksMemory result = (result ≡ Err faults.Failed) ⊎ (result ≡ Err faults.NoMemory)

-- What fetching the file of this content comes to: the file where it is not longer than a file may be, and else that it is
-- too long, unless memory runs out.
abbrev pub GivesOrLacksMemory : List ℕ → Result (Unit {0}) ShelfFault → Type 0
GivesOrLacksMemory content result =
    (result ≡ (if nat_lt LONGEST_FILE (length content) then Err faults.TooLong else Ok tt)) ⊎ (result ≡ Err faults.NoMemory)

-- a shelf after a call for this name
abbrev pub after_fetch : MemoryShelfState → List ℕ → Result (Unit {0}) ShelfFault → MemoryShelfState
after_fetch old name (Ok done) = record old { asked = old.asked ++ name ∷ []; calls = count_after old.calls }
after_fetch old name (Err faults.TooLong) = record old { asked = old.asked ++ name ∷ []; calls = count_after old.calls }
after_fetch old name (Err faults.NoMemory) = record old { calls = count_after old.calls }
after_fetch old name (Err faults.Failed) =
    record old { asked = old.asked ++ name ∷ []; calls = count_after old.calls; faults = count_after old.faults }
