-- What a line says, by its words.
use Rattle.std.proofs.Common.{◌≡◌, ℕ, false, List, refl, ◌∙◌, sym}
use Rattle.tfpg_base.specs.Words.{has_empty_word, words_of}
use Rattle.tfpg_base.specs.Lines.{is_too_long}
use Rattle.tfpg_graph.specs.declared.version.Version.{Version}
use Rattle.tfpg_graph.specs.Statements.{statement_of, statement_in}
use Rattle.tfpg_graph.specs.inside.reading.Shapes.{statement_by_keyword}
use Rattle.tfpg_graph.proofs.lemmas.reading.saying.KeywordShapes.{same_statement}

-- the words of a line that is not too long decide, keyword by keyword
pub statement_of-words : (version : Version) (line : List ℕ) → is_too_long line ≡ false → has_empty_word (words_of line) ≡ false
    → statement_of version line ≡ statement_by_keyword version (words_of line)
statement_of-words version line short none = decided ∙ sym (same_statement version (words_of line))
  where
    decided : statement_of version line ≡ statement_in version (words_of line)
    decided = rw (short, none) refl
