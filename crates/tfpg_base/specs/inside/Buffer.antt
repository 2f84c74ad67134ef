-- What a reader of lines keeps.
use Rattle.std.specs.Prelude.{◌≡◌, ◌+◌, ◌≤◌, slice_range, vec_len, None}
use Rattle.tfpg_base.specs.declared.lines.Lines.TheInside.{Inside}
use Rattle.tfpg_base.specs.Lines.{LinesState}
use Rattle.tfpg_base.specs.declared.limits.TheConstants.{MAX_BYTES, BUFFER_SIZE}

-- what contracts see of it
abbrev pub lines_state_of : Inside → LinesState
lines_state_of a = record {
  waiting = slice_range a.buffer.items a.waiting.start a.waiting.end;
  taken = a.taken;
  text = slice_range a.buffer.items a.text.start a.text.end;
  number = a.number;
  ended = a.ended;
}

-- The buffer has its size, what waits and what is lent lies in it, and there are no more lines than bytes that do not wait.
-- Before the end not too many bytes were taken.
pub record IsInPlace (a : Inside) : Type 0 where
  pub room : vec_len a.buffer ≡ BUFFER_SIZE
  pub waiting : a.waiting.start ≤ a.waiting.end
  pub waiting_within : a.waiting.end ≤ BUFFER_SIZE
  pub text : a.text.start ≤ a.text.end
  pub text_within : a.text.end ≤ BUFFER_SIZE
  pub lines : a.number + a.waiting.end ≤ a.taken + a.waiting.start
  pub few : a.ended ≡ None → a.taken ≤ MAX_BYTES
