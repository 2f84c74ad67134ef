-- Which lines may come after others.
use Rattle.std.proofs.Common.{◌≡◌, ℕ, ◌<◌, Bool, true, false, cond, ◌||◌, List, [], ◌∷◌, ◌++◌, length, Some, None, refl, ap, ◌∙◌, arith}
use Rattle.std.specs.List.{list_any}
use Rattle.std.proofs.lemmas.List.Folds.{list_any-append}
use Rattle.tfpg_graph.specs.declared.version.Version.{Version}
use Rattle.tfpg_graph.specs.Text.{version_said, version_of}
use Rattle.tfpg_graph.specs.Statements.{Statement, statement_of, ends_text}
use Rattle.tfpg_graph.specs.Declares.{said_by}
use Rattle.tfpg_graph.specs.declared.reading.reader.ReadingStage.TheVariants.{Header, Declarations, Ended}
use Rattle.tfpg_graph.specs.inside.reading.Turns.{part_after}
use Rattle.tfpg_graph.proofs.lemmas.reading.saying.SaidBy.{said_by-push, said_by-silent, said_by-header}

-- Declarations come after a first line, where no line ends the text.
pub part-declarations : (lines : List (List ℕ)) → Declarations ≡ part_after lines
    → (0 < length lines) × (list_any ends_text (said_by lines) ≡ false)
part-declarations [] at = absurd cc
part-declarations (first ∷ others) at = (omega arith, by (list_any ends_text (said_by (first ∷ others))) at)
  where
    by : (ended : Bool) → Declarations ≡ cond ended Ended Declarations → ended ≡ false
    by true e = absurd cc
    by false e = refl

-- A text is ended after a first line, where a line ends it.
pub part-ended : (lines : List (List ℕ)) → Ended ≡ part_after lines
    → (0 < length lines) × (list_any ends_text (said_by lines) ≡ true)
part-ended [] at = absurd cc
part-ended (first ∷ others) at = (omega arith, by (list_any ends_text (said_by (first ∷ others))) at)
  where
    by : (ended : Bool) → Ended ≡ cond ended Ended Declarations → ended ≡ true
    by true e = refl
    by false e = absurd cc

-- the header comes before every other line
pub no_header : (first : List ℕ) (others : List (List ℕ)) → Header ≡ part_after (first ∷ others) → ⊥
no_header first others at = by (list_any ends_text (said_by (first ∷ others))) at
  where
    by : (ended : Bool) → Header ≡ cond ended Ended Declarations → ⊥
    by true e = cc
    by false e = cc

part_after-push : (lines : List (List ℕ)) (line : List ℕ)
    → part_after (lines ++ line ∷ []) ≡ cond (list_any ends_text (said_by (lines ++ line ∷ []))) Ended Declarations
part_after-push [] line = refl
part_after-push (first ∷ others) line = refl

module _ (lines : List (List ℕ)) (line : List ℕ) (some : 0 < length lines) where
  -- the part after a line that says something, where no line before it ends the text
  pub part_after-said : (said : Statement) → statement_of (version_of lines) line ≡ Some said → list_any ends_text (said_by lines) ≡ false
      → part_after (lines ++ line ∷ []) ≡ cond (ends_text said || false) Ended Declarations
  part_after-said said says unended =
      part_after-push lines line
      ∙ ap (λ ended. cond ended Ended Declarations)
      (ap (list_any ends_text) (said_by-push lines line some said says)
      ∙ list_any-append ends_text (said_by lines) (said ∷ []) ∙ ap (λ ended. ended || (ends_text said || false)) unended)

  -- and after one that says nothing
  pub part_after-silent : (ended : Bool) → statement_of (version_of lines) line ≡ None → list_any ends_text (said_by lines) ≡ ended
      → part_after (lines ++ line ∷ []) ≡ cond ended Ended Declarations
  part_after-silent ended says is =
      part_after-push lines line ∙ ap (λ b. cond b Ended Declarations) (ap (list_any ends_text) (said_by-silent lines line some says) ∙ is)

-- and after the header
pub part_after-header : (line : List ℕ) (version : Version) → version_said line ≡ Some version → part_after (line ∷ []) ≡ Declarations
part_after-header line version is = ap (λ said. cond (list_any ends_text said) Ended Declarations) (said_by-header line version is)
