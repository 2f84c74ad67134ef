-- What writing a piece comes to.
use Rattle.std.specs.Prelude.{◌≡◌, ℕ, ◌<◌, List, ◌++◌, length, Result, Ok, Err}
use Rattle.tfpg_base.specs.declared.outside.Failed.{Failed}
use Rattle.tfpg_base.specs.Outside.{SinkState, Rose, Puts}

-- Only a front of the text was written, and the output failed.
pub record Cuts (text : List ℕ) (before after : SinkState) : Type 0 where
  pub front : List ℕ
  pub rest : List ℕ
  pub parts : text ≡ front ++ rest
  pub some_left : 0 < length rest
  pub puts : Puts before after front
  pub rose : Rose before.faults after.faults

-- The text was written; or the output failed before it was.
abbrev pub Writes : List ℕ → SinkState → SinkState → Result (Unit {0}) Failed → Type 0
Writes text before after (Ok done) = Puts before after text × (after.faults ≡ before.faults)
Writes text before after (Err failed) = Cuts text before after
