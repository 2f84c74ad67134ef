-- Tests in an order, of which the first that fails names a line and a cause.
use Rattle.std.specs.Prelude.{◌≡◌, ◌≢◌, ◌⊎◌, ℕ, List, [], ◌∷◌, ◌++◌, take, Some, slice_get}
use Rattle.tfpg_check.specs.declared.cause.CheckCause.{CheckCause}

-- A test fails at a line of the report, and for a cause.
abbrev pub Fails : Type 1
Fails = ℕ → CheckCause → Type 0

-- The condition must hold, else the test fails at this line for this cause.
abbrev pub Owes : Type 0 → ℕ → CheckCause → Fails
Owes condition at why line cause = (line ≡ at) × (cause ≡ why) × (condition → ⊥)

-- It does not fail.
abbrev pub Passes : Fails → Type 0
Passes fails = (line : ℕ) (cause : CheckCause) → fails line cause → ⊥

-- the one test, and if it passes the other
abbrev pub Then : Fails → Fails → Fails
Then first next line cause = first line cause ⊎ (Passes first × next line cause)

-- a test of each item in turn, each with the items before it
abbrev pub InTurn : {X : Type 0} → (List X → X → Fails) → List X → List X → Fails
InTurn test before [] line cause = ⊥
InTurn test before (x ∷ xs) line cause = Then (test before x) (InTurn test (before ++ x ∷ []) xs) line cause

-- This holds of each item, with the items before it.
abbrev pub HoldInTurn : {X : Type 0} → (List X → X → Type 0) → List X → Type 0
HoldInTurn {X} holds xs = (index : ℕ) (x : X) → slice_get xs index ≡ Some x → holds (take index xs) x

-- Two lists differ first at this index. One of them may end there.
pub record DifferFirstAt {X : Type 0} (xs ys : List X) (index : ℕ) : Type 0 where
  pub same_before : take index xs ≡ take index ys
  pub differ : slice_get xs index ≢ slice_get ys index
