-- A text that was written in one call.
use Rattle.std.proofs.Common.{◌≡◌, ℕ, List, Ok, sym, subst, ◌∙◌}
use Rattle.tfpg_base.specs.Outside.{SinkState}
use Rattle.tfpg_streams.specs.Outputs.{BeginsText, WritesText}
use Rattle.tfpg_streams.specs.Writing.{Cuts, Writes}

module _ (IsRight : List ℕ → Type 0) (before now : SinkState) (text piece : List ℕ) (right : IsRight text) (same : piece ≡ text) where
  -- it was written whole
  pub whole_text : Writes piece before now (Ok tt) → WritesText IsRight before now
  whole_text writes = record { text = piece; right = subst IsRight (sym same) right; writes = writes.0; no_fault = writes.1 }

  -- the output failed
  pub cut_text : Cuts piece before now → BeginsText IsRight before now
  cut_text cuts = record { front = cuts.front; rest = cuts.rest; right = subst IsRight (sym same ∙ cuts.parts) right; some_left = cuts.some_left; writes = cuts.puts; rose = cuts.rose }
