-- What a line says, by its words.
use Rattle.std.proofs.Common.{◌≡◌, ℕ, false, List, refl}
use Rattle.tfpg_base.specs.Words.{has_empty_word, words_of}
use Rattle.tfpg_log.specs.LogStatements.{log_statement_of, log_statement_in}

-- where no word is empty, the words decide
pub log_statement_of-words : (line : List ℕ) → has_empty_word (words_of line) ≡ false
    → log_statement_of line ≡ log_statement_in (words_of line)
log_statement_of-words line none = rw none refl
