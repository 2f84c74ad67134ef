-- A loop that counts the lines that say such a thing, by one line more.
use Rattle.std.proofs.Common.{◌≡◌, ℕ, ◌+◌, ◌<◌, Bool, true, false, List, [], length, get_or, take, count_by, ap, sym, ◌∙◌}
use Rattle.std.proofs.lemmas.List.{get_or_default}
use Rattle.tfpg_graph.specs.declared.version.Version.{Version}
use Rattle.tfpg_graph.specs.Text.{version_of}
use Rattle.tfpg_graph.specs.Statements.{Statement}
use Rattle.tfpg_graph.specs.Faults.{says, IsLineSaying}
use Rattle.tfpg_graph.proofs.lemmas.reading.saying.LinesSaying.{count-says_yes, count-says_no, IsLineSaying-here}

module _ (version : Version) (test : Statement → Bool) (lines : List (List ℕ)) (index : ℕ) (line : List ℕ)
    (within : index < length lines) (at : line ≡ get_or lines index line) where
  -- what a line that is there says, whatever is read where none is
  says_at : (such : Bool) → says version test line ≡ such → says version test (get_or lines index []) ≡ such
  says_at such says_it = ap (says version test) (get_or_default lines index [] line within ∙ sym at) ∙ says_it

  module _ (count : ℕ) (counted : count ≡ count_by (says version test) (take index lines)) where
    -- This line says such a thing after so many.
    pub line_here : version ≡ version_of lines → says version test line ≡ true → IsLineSaying test lines count (index + 1)
    line_here of such = IsLineSaying-here version test lines index count of within (says_at true such) (sym counted)

    -- It is counted where it says such a thing.
    pub counted_yes : says version test line ≡ true → count + 1 ≡ count_by (says version test) (take (index + 1) lines)
    counted_yes such = ap (λ n. n + 1) counted ∙ sym (count-says_yes version test lines index within (says_at true such))

    -- And else it is not.
    pub counted_no : says version test line ≡ false → count ≡ count_by (says version test) (take (index + 1) lines)
    counted_no other = counted ∙ sym (count-says_no version test lines index within (says_at false other))
