-- The input and the output of a run.
use Rattle.std.specs.Prelude.{◌≡◌, ℕ, List, IfSome}
use Rattle.tfpg_base.specs.Outside.{SourceState, SinkState}

-- the states of the input and the output
pub record Streams : Type 0 where
  pub input : SourceState
  pub output : SinkState

-- the streams with these states
abbrev pub streams : SourceState → SinkState → Streams
streams input output = record { input = input; output = output }

-- The input has these bytes left, where its contents are known, and any where they are not.
abbrev pub HasLeft : SourceState → List ℕ → Type 0
HasLeft input rest = IfSome input.left (λ known. rest ≡ known)

-- Each count of faults is unchanged.
pub record CountsUnchanged (before now : Streams) : Type 0 where
  pub input : now.input.faults ≡ before.input.faults
  pub output : now.output.faults ≡ before.output.faults
