-- What a line of a log says by its words alone: no name is looked up, and no number is read.
use Rattle.std.specs.Prelude.{◌≡◌, ℕ, List, [], ◌∷◌, All, if◌then◌else◌, Option, Some, None, codes, bytes_eq}
use Rattle.tfpg_base.specs.Words.{has_empty_word, words_of, line_of}
use Rattle.tfpg_graph.specs.Statements.{IsLineWord}

-- what a line of a log says after its time
pub data LogStatement : Type 0 where
  Alarm : (name : List ℕ) → LogStatement
  Silent : (name : List ℕ) → LogStatement
  Sweep : LogStatement
  Tick : LogStatement
  Mode : (name : List ℕ) → LogStatement

-- the words that a statement is written with
abbrev pub words_of_log_statement : LogStatement → List (List ℕ)
words_of_log_statement (Alarm name) = codes "alarm" ∷ name ∷ []
words_of_log_statement (Silent name) = codes "silent" ∷ name ∷ []
words_of_log_statement Sweep = codes "sweep" ∷ []
words_of_log_statement Tick = codes "tick" ∷ []
words_of_log_statement (Mode name) = codes "mode" ∷ name ∷ []

-- A line says a statement, with this word for its time: it is that word and the words of the statement, with a space
-- between each two.
pub record SaysLogStatement (line time : List ℕ) (statement : LogStatement) : Type 0 where
  pub words : line ≡ line_of (time ∷ words_of_log_statement statement)
  pub each : All IsLineWord (time ∷ words_of_log_statement statement)

-- the word for the time and the statement of a line with these words, where it says one: the statement has one word, or a
-- word and a name
abbrev pub log_statement_in : List (List ℕ) → Option (List ℕ × LogStatement)
log_statement_in (time ∷ word ∷ []) =
    if bytes_eq word (codes "sweep") then Some (time, Sweep)
    else (if bytes_eq word (codes "tick") then Some (time, Tick) else None)
log_statement_in (time ∷ word ∷ name ∷ []) =
    if bytes_eq word (codes "alarm") then Some (time, Alarm name)
    else (if bytes_eq word (codes "silent") then Some (time, Silent name)
    else (if bytes_eq word (codes "mode") then Some (time, Mode name) else None))
log_statement_in _ = None

-- the same of a line: one with an empty word says nothing
abbrev pub log_statement_of : List ℕ → Option (List ℕ × LogStatement)
log_statement_of line = if has_empty_word (words_of line) then None else log_statement_in (words_of line)
