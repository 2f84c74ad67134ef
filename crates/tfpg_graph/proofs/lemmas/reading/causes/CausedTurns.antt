-- Where a turn fails, its cause is that of the line.
use Rattle.std.proofs.Common.{◌≡◌, ℕ, ◌<◌, Bool, true, false, cond, List, [], ◌∷◌, ◌++◌, length, Option, Some, None, is_some, Result, Ok, Err, refl, sym, ◌∙◌}
use Rattle.std.specs.List.{list_any}
use Rattle.std.proofs.lemmas.Bool.{false≢true}
use Rattle.tfpg_graph.specs.declared.cause.GraphCause.{GraphCause}
use Rattle.tfpg_graph.specs.declared.cause.GraphCause.TheVariants.{BadHeader, AfterEnd}
use Rattle.tfpg_graph.specs.Graph.{Tfpg}
use Rattle.tfpg_graph.specs.declared.version.Version.{Version}
use Rattle.tfpg_graph.specs.Text.{version_said, version_of}
use Rattle.tfpg_graph.specs.Statements.{Statement, DeclaresMode, DeclaresNode, DeclaresEdge, Ends, statement_of, is_skipped, ends_text}
use Rattle.tfpg_graph.specs.Declares.{kind_of_words, edge_declared, said_by, declared_by}
use Rattle.tfpg_graph.specs.Causes.{cause_at}
use Rattle.tfpg_graph.specs.declared.reading.reader.ReadingStage.{ReadingStage}
use Rattle.tfpg_graph.specs.declared.reading.reader.ReadingStage.TheVariants.{Header, Declarations, Ended}
use Rattle.tfpg_graph.specs.declared.reading.reader.Reader.{Reader}
use Rattle.tfpg_graph.specs.inside.reading.Turns.{is_misplaced, reader_with, cause_or_value, turn_said, turn_header, turn_of, turn, part_after, HasValue, ReaderRepresents}
use Rattle.tfpg_base.proofs.lemmas.lists.Choices.{is_some-option_map}
use Rattle.tfpg_graph.proofs.lemmas.reading.graphs.DeclaredBy.{AllHaveValues}
use Rattle.tfpg_graph.proofs.lemmas.reading.causes.CauseAt.{cause-ended, cause-unended}
use Rattle.tfpg_graph.proofs.lemmas.reading.causes.CausedSaid.{HasValue-no_cause, cause_declared, cause-said}
use Rattle.tfpg_graph.proofs.lemmas.reading.causes.PartAfter.{part-declarations, part-ended, no_header}

-- what has a cause is judged by it, where all else has a value
is_caused : (first : Option GraphCause) (value : Option Reader) (cause : GraphCause)
    → (first ≡ None → is_some value ≡ true) → cause_or_value first value ≡ Err cause → first ≡ Some cause
is_caused (Some other) value cause valued failed = cc
is_caused None (Some value) cause valued failed = absurd cc
is_caused None None cause valued failed = absurd (false≢true (valued refl))

-- a statement with its value takes the reader further
reader_with-some : (version : Version) (graph : Tfpg) (said : Statement) → HasValue graph said → is_some (reader_with version graph said) ≡ true
reader_with-some version graph (DeclaresMode name) value = refl
reader_with-some version graph (DeclaresNode name words) value = is_some-option_map _ (kind_of_words words) ∙ value
reader_with-some version graph (DeclaresEdge source target tmin tmax modes) value = is_some-option_map _ (edge_declared graph (DeclaresEdge source target tmin tmax modes)) ∙ value
reader_with-some version graph Ends value = refl

module _ (cause : GraphCause) where
  -- the first line
  caused_header : (graph : Tfpg) (line : List ℕ) → turn_header graph (version_said line) ≡ Err cause
      → cause_at (line ∷ []) 0 ≡ Some cause
  caused_header graph line failed = by (version_said line) failed
    where
      by : (said : Option Version) → turn_header graph said ≡ Err cause → cond (is_some said) None (Some BadHeader) ≡ Some cause
      by None failed_so = cc
      by (Some version) failed_so = absurd cc

  module _ (lines : List (List ℕ)) (line : List ℕ) (values : AllHaveValues (said_by lines)) where
    abbrev version : Version
    version = version_of lines

    -- a line before the end that is not skipped
    caused_said : (said : Option Statement) → 0 < length lines → list_any ends_text (said_by lines) ≡ false
        → is_skipped line ≡ false → statement_of version line ≡ said
        → turn_said version (declared_by lines) said ≡ Err cause → cause_at (lines ++ line ∷ []) (length lines) ≡ Some cause
    caused_said None some unended read says failed = cause-unended lines line some None unended read says ∙ cc
    caused_said (Some said) some unended read says failed =
        cause-said lines line said values some unended read says
        ∙ is_caused (cause_declared (declared_by lines) said) (reader_with version (declared_by lines) said) cause
        (λ none. reader_with-some version (declared_by lines) said (HasValue-no_cause (is_misplaced (declared_by lines) said) (declared_by lines) said none)) failed

    -- a line before the end
    caused_declarations : Declarations ≡ part_after lines → turn_of Declarations version (declared_by lines) line ≡ Err cause
        → cause_at (lines ++ line ∷ []) (length lines) ≡ Some cause
    caused_declarations at failed = by (is_skipped line) refl failed
      where
        by : (passed : Bool) → is_skipped line ≡ passed
            → cond {A = Result Reader GraphCause} passed (Ok (record { part = Declarations; version = version; declared = declared_by lines })) (turn_said version (declared_by lines) (statement_of version line)) ≡ Err cause
            → cause_at (lines ++ line ∷ []) (length lines) ≡ Some cause
        by true passed failed_so = absurd cc
        by false read failed_so = let before = part-declarations lines at in caused_said (statement_of version line) before.0 before.1 read refl failed_so

    -- a line after the end
    caused_ended : Ended ≡ part_after lines → turn_of Ended version (declared_by lines) line ≡ Err cause
        → cause_at (lines ++ line ∷ []) (length lines) ≡ Some cause
    caused_ended at failed = by (is_skipped line) refl failed
      where
        by : (passed : Bool) → is_skipped line ≡ passed
            → cond {A = Result Reader GraphCause} passed (Ok (record { part = Ended; version = version; declared = declared_by lines })) (Err AfterEnd) ≡ Err cause
            → cause_at (lines ++ line ∷ []) (length lines) ≡ Some cause
        by true passed failed_so = absurd cc
        by false read failed_so = let before = part-ended lines at in cause-ended lines line before.0 before.1 read ∙ cc

  -- a line of each part
  caused_after : (part : ReadingStage) (lines : List (List ℕ)) (line : List ℕ) → AllHaveValues (said_by lines)
      → part ≡ part_after lines
      → turn_of part (version_of lines) (declared_by lines) line ≡ Err cause → cause_at (lines ++ line ∷ []) (length lines) ≡ Some cause
  caused_after Header [] line values at failed = caused_header (declared_by []) line failed
  caused_after Header (first ∷ others) line values at failed = absurd (no_header first others at)
  caused_after Declarations lines line values at failed = caused_declarations lines line values at failed
  caused_after Ended lines line values at failed = caused_ended lines line values at failed

-- A line by which a turn fails has this cause.
pub ReaderRepresents-err : (progress : Reader) (lines : List (List ℕ)) (line : List ℕ) (cause : GraphCause)
    → ReaderRepresents progress lines → turn progress line ≡ Err cause
    → cause_at (lines ++ line ∷ []) (length lines) ≡ Some cause
ReaderRepresents-err progress lines line cause stands failed =
    caused_after cause progress.part lines line stands.values stands.part ((λ i. turn_of progress.part (sym stands.version i) (sym stands.graph i) line) ∙ failed)
