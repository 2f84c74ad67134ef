-- What a call that appends to a text leaves.
use Rattle.std.specs.Prelude.{◌≡◌, ℕ, List, ◌++◌, Result, Ok, Err}
use Rattle.tfpg_base.specs.declared.no_memory.NoMemory.{NoMemory}

-- At Ok the text follows the old bytes. Where the call ran out of memory, the old bytes are still there, and any others may follow them.
abbrev pub Appends : Result (Unit {0}) NoMemory → List ℕ → List ℕ → List ℕ → Type 0
Appends (Ok done) old new text = new ≡ old ++ text
Appends (Err short) old new text = (rest : List ℕ) × (new ≡ old ++ rest)
