-- A line is read as the statement that it is written with.
use Rattle.std.proofs.Common.{◌≡◌, ℕ, Bool, true, false, cond, eqb, List, [], ◌∷◌, length, Some, None, refl, sym, ap, subst, ◌∙◌, arith}
use Rattle.std.specs.Prelude.{◌↔◌, All, codes, bytes_eq}
use Rattle.std.specs.List.{list_any}
use Rattle.tfpg_base.specs.Words.{words_of, line_of}
use Rattle.tfpg_base.proofs.lemmas.lists.Choices.{cond-some_second}
use Rattle.tfpg_base.proofs.lemmas.lists.SameBytes.{bytes_eq-true}
use Rattle.tfpg_base.proofs.lemmas.Separators.{join_with_byte-words_of}
use Rattle.tfpg_base.proofs.lemmas.lists.Lacking.{slice_split-join}
use Rattle.tfpg_graph.specs.Statements.{IsLineWord}
use Rattle.tfpg_graph.proofs.lemmas.reading.spelling.LinesSay.{no_empty_word, no_space}
use Rattle.tfpg_graph.proofs.lemmas.reading.saying.SaidLines.{parts_lack, line_words, are_words}
use Rattle.tfpg_log.specs.LogStatements.{LogStatement, Alarm, Silent, Sweep, Tick, Mode, words_of_log_statement, SaysLogStatement, log_statement_in, log_statement_of}

-- ---- statements

-- the words of a line with a statement are those of the statement
read_alone : (time word : List ℕ) (sweep tick : Bool) (parts : List ℕ × LogStatement) → bytes_eq word (codes "sweep") ≡ sweep
    → bytes_eq word (codes "tick") ≡ tick
    → cond sweep (Some (time, Sweep)) (cond tick (Some (time, Tick)) None) ≡ Some parts
    → time ∷ word ∷ [] ≡ parts.0 ∷ words_of_log_statement parts.1
read_alone time word true tick parts is also e =
    let same : (time, Sweep) ≡ parts = cc in
    subst (λ (p : List ℕ × LogStatement). time ∷ word ∷ [] ≡ p.0 ∷ words_of_log_statement p.1) same
    (ap (λ w. time ∷ w ∷ []) (bytes_eq-true word (codes "sweep") is))
read_alone time word false true parts is also e =
    let same : (time, Tick) ≡ parts = cc in
    subst (λ (p : List ℕ × LogStatement). time ∷ word ∷ [] ≡ p.0 ∷ words_of_log_statement p.1) same
    (ap (λ w. time ∷ w ∷ []) (bytes_eq-true word (codes "tick") also))
read_alone time word false false parts is also e = absurd cc

read_named : (time word name : List ℕ) (alarm silent mode : Bool) (parts : List ℕ × LogStatement)
    → bytes_eq word (codes "alarm") ≡ alarm → bytes_eq word (codes "silent") ≡ silent → bytes_eq word (codes "mode") ≡ mode
    → cond alarm (Some (time, Alarm name)) (cond silent (Some (time, Silent name)) (cond mode (Some (time, Mode name)) None)) ≡ Some parts
    → time ∷ word ∷ name ∷ [] ≡ parts.0 ∷ words_of_log_statement parts.1
read_named time word name true silent mode parts is also more e =
    let same : (time, Alarm name) ≡ parts = cc in
    subst (λ (p : List ℕ × LogStatement). time ∷ word ∷ name ∷ [] ≡ p.0 ∷ words_of_log_statement p.1) same
    (ap (λ w. time ∷ w ∷ name ∷ []) (bytes_eq-true word (codes "alarm") is))
read_named time word name false true mode parts is also more e =
    let same : (time, Silent name) ≡ parts = cc in
    subst (λ (p : List ℕ × LogStatement). time ∷ word ∷ name ∷ [] ≡ p.0 ∷ words_of_log_statement p.1) same
    (ap (λ w. time ∷ w ∷ name ∷ []) (bytes_eq-true word (codes "silent") also))
read_named time word name false false true parts is also more e =
    let same : (time, Mode name) ≡ parts = cc in
    subst (λ (p : List ℕ × LogStatement). time ∷ word ∷ name ∷ [] ≡ p.0 ∷ words_of_log_statement p.1) same
    (ap (λ w. time ∷ w ∷ name ∷ []) (bytes_eq-true word (codes "mode") more))
read_named time word name false false false parts is also more e = absurd cc

words_read : (words : List (List ℕ)) (parts : List ℕ × LogStatement) → log_statement_in words ≡ Some parts
    → words ≡ parts.0 ∷ words_of_log_statement parts.1
words_read [] parts e = absurd cc
words_read (time ∷ []) parts e = absurd cc
words_read (time ∷ word ∷ []) parts e =
    read_alone time word (bytes_eq word (codes "sweep")) (bytes_eq word (codes "tick")) parts refl refl e
words_read (time ∷ word ∷ name ∷ []) parts e =
    read_named time word name (bytes_eq word (codes "alarm")) (bytes_eq word (codes "silent"))
    (bytes_eq word (codes "mode")) parts refl refl refl e
words_read (time ∷ word ∷ name ∷ more ∷ others) parts e = absurd cc

-- and those words are read as the statement
statement_read : (time : List ℕ) (statement : LogStatement)
    → log_statement_in (time ∷ words_of_log_statement statement) ≡ Some (time, statement)
statement_read time (Alarm name) = refl
statement_read time (Silent name) = refl
statement_read time Sweep = refl
statement_read time Tick = refl
statement_read time (Mode name) = refl

-- ---- lines

-- A line is read as a statement exactly where it says it.
pub read_as_written : (line time : List ℕ) (statement : LogStatement)
    → (log_statement_of line ≡ Some (time, statement)) ↔ SaysLogStatement line time statement
read_as_written line time statement = (
  λ read.
      let both =
      cond-some_second (list_any (λ word. eqb (length word) 0) (words_of line)) (log_statement_in (words_of line)) (time, statement) read in
      let words : words_of line ≡ time ∷ words_of_log_statement statement = words_read (words_of line) (time, statement) both.1 in
      record {
        words = sym (join_with_byte-words_of line) ∙ ap line_of words;
        each = subst (All IsLineWord) words (line_words (words_of line) both.0 (parts_lack line));
      },
  λ says.
      let all : List (List ℕ) = time ∷ words_of_log_statement statement in
      let are = are_words all says.each in
      let words : words_of line ≡ all = ap words_of says.words ∙ slice_split-join 32 all (omega arith) (no_space all are) in
      let some : list_any (λ word. eqb (length word) 0) (words_of line) ≡ false =
      ap (list_any (λ word. eqb (length word) 0)) words ∙ no_empty_word all are in
      (λ i. cond (some i) None (log_statement_in (words i))) ∙ statement_read time statement,
)
