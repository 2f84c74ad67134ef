-- Results of tests of each item in turn.
use Rattle.std.specs.Prelude.{◌≡◌, ℕ, ◌<◌, List, take, Some, slice_get}
use Rattle.tfpg_check.specs.declared.round_fault.RoundFault.{RoundFault}
use Rattle.tfpg_check.specs.declared.round_fault.RoundFault.TheVariants.{NotAccepted, NoMemory}
use Rattle.tfpg_check.specs.declared.round_fault.FailedTest.{FailedTest}
use Rattle.tfpg_check.specs.Tests.{Fails, Passes}

-- This holds of each item before an index, with the items before it.
abbrev pub HoldBefore : {X : Type 0} → (List X → X → Type 0) → List X → ℕ → Type 0
HoldBefore {X} holds xs end =
    (index : ℕ) (x : X) → index < end → slice_get xs index ≡ Some x → holds (take index xs) x

-- The test of an item, with the items before it, passes.
abbrev pub PassesWith : {X : Type 0} → (List X → X → Fails) → List X → X → Type 0
PassesWith test before x = Passes (test before x)

-- The tests fail as the result says.
abbrev pub IsFailure : Fails → FailedTest → Type 0
IsFailure fails failed = fails failed.line failed.cause

-- The tests fail as the fault says, or there was no memory.
abbrev pub IsFaultOf : Fails → RoundFault → Type 0
IsFaultOf fails (NotAccepted line cause) = fails line cause
IsFaultOf fails NoMemory = Unit {0}
