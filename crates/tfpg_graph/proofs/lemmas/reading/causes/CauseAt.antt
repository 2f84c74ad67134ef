-- The cause of a line depends on it and on the lines before it alone.
use Rattle.std.proofs.Common.{◌≡◌, ℕ, zero, suc, ◌<◌, ◌≤◌, ⊎_elim, true, false, cond, List, [], ◌∷◌, ◌++◌, length, Option, Some, None, is_some, refl, ap, sym, ◌∙◌, arith, append_assoc}
use Rattle.std.specs.List.{list_any}
use Rattle.std.proofs.lemmas.Bool.{cases_eq}
use Rattle.std.proofs.lemmas.List.{get_or_append_left, take-append-le, take_at, get_or_at, length_push}
use Rattle.tfpg_graph.specs.declared.cause.GraphCause.TheVariants.{BadHeader, AfterEnd}
use Rattle.tfpg_graph.specs.Text.{version_said, version_of}
use Rattle.tfpg_graph.specs.Statements.{Statement, statement_of, statements_of, is_skipped, ends_text}
use Rattle.tfpg_graph.specs.Declares.{said_by}
use Rattle.tfpg_graph.specs.Causes.{cause_of_said, cause_after, cause_at}
use Rattle.tfpg_graph.proofs.lemmas.reading.saying.SaidBy.{version_of-append}

-- the cause of a line by those before it is none that stands after
pub cause_at-append : (lines more : List (List ℕ)) (index : ℕ) → index < length lines
    → cause_at (lines ++ more) index ≡ cause_at lines index
cause_at-append lines more zero within = ap (λ line. cond (is_some (version_said line)) None (Some BadHeader)) (get_or_append_left lines more [] 0 within)
cause_at-append lines more (suc index) within =
    λ i. cause_after (version_of-append lines more (omega arith) i)
    (statements_of (version_of-append lines more (omega arith) i) (take-append-le (suc index) lines more (omega arith) i))
    (get_or_append_left lines more [] (suc index) within i)

-- A line among those up to it, with others after it.
pub cause_at-after : (before after : List (List ℕ)) (line : List ℕ) (index : ℕ) → index ≤ length before
    → cause_at (before ++ line ∷ after) index ≡ cause_at (before ++ line ∷ []) index
cause_at-after before after line index within =
    ap (λ lines. cause_at lines index) (sym (append_assoc before (line ∷ []) after))
    ∙ cause_at-append (before ++ line ∷ []) after index (omega (arith, length_push before line))

-- The cause of a line after others.
pub cause_at-last : (lines : List (List ℕ)) (line : List ℕ) → 0 < length lines
    → cause_at (lines ++ line ∷ []) (length lines) ≡ cause_after (version_of lines) (said_by lines) line
cause_at-last [] line some = absurd (omega arith)
cause_at-last (first ∷ others) line some =
    let all = length (first ∷ others) in
    let version = version_of (first ∷ others) in
    λ i. cause_after version (statements_of version (take_at (first ∷ others) (line ∷ []) all refl i)) (get_or_at (first ∷ others) line [] [] all refl i)

-- No line has a cause.
abbrev pub AllClean : List (List ℕ) → Type 0
AllClean lines = (index : ℕ) → index < length lines → cause_at lines index ≡ None

-- One line more without a cause.
pub clean-push : (lines : List (List ℕ)) (line : List ℕ) → AllClean lines
    → cause_at (lines ++ line ∷ []) (length lines) ≡ None → AllClean (lines ++ line ∷ [])
clean-push lines line clean last index within = ⊎_elim
    (λ at. ap (cause_at (lines ++ line ∷ [])) at ∙ last)
    (λ apart. let before : index < length lines = omega (arith, length_push lines line) in cause_at-append lines (line ∷ []) index before ∙ clean index before)
    (cases_eq index (length lines))

module _ (lines : List (List ℕ)) (line : List ℕ) (some : 0 < length lines) where
  -- The cause of a line that is skipped.
  pub cause-skipped : is_skipped line ≡ true → cause_at (lines ++ line ∷ []) (length lines) ≡ None
  cause-skipped passed =
      cause_at-last lines line some
      ∙ ap (λ b. cond b None (cond (list_any ends_text (said_by lines)) (Some AfterEnd) (cause_of_said (said_by lines) (statement_of (version_of lines) line)))) passed

  -- That of any other line after the end.
  pub cause-ended : list_any ends_text (said_by lines) ≡ true → is_skipped line ≡ false
      → cause_at (lines ++ line ∷ []) (length lines) ≡ Some AfterEnd
  cause-ended ended read =
      cause_at-last lines line some
      ∙ (λ i. cond (read i) None (cond (ended i) (Some AfterEnd) (cause_of_said (said_by lines) (statement_of (version_of lines) line))))

  -- That of any other line before the end.
  pub cause-unended : (said : Option Statement) → list_any ends_text (said_by lines) ≡ false
      → is_skipped line ≡ false → statement_of (version_of lines) line ≡ said
      → cause_at (lines ++ line ∷ []) (length lines) ≡ cause_of_said (said_by lines) said
  cause-unended said unended read says =
      cause_at-last lines line some
      ∙ (λ i. cond (read i) None (cond (unended i) (Some AfterEnd) (cause_of_said (said_by lines) (says i))))
