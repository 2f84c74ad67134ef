-- The room of the caller.
use Rattle.std.specs.Prelude.{ℕ, List, ◌++◌, length, drop, nat_le, if◌then◌else◌, Result, Ok, Err}

-- a room after a text was put into it: with the text in front, if it fits, and else as it was
abbrev pub room_after : List ℕ → List ℕ → List ℕ
room_after text room = if nat_le (length text) (length room) then text ++ drop (length text) room else room

-- the room after a text was made for it, or was not
abbrev pub room_after_made : {E : Type 0} → Result (List ℕ) E → List ℕ → List ℕ
room_after_made (Ok text) room = room_after text room
room_after_made (Err fault) room = room
