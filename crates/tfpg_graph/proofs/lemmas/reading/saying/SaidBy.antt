-- What lines say, with one line more.
use Rattle.std.proofs.Common.{◌≡◌, ℕ, ◌<◌, Bool, true, false, cond, List, [], ◌∷◌, ◌++◌, length, Option, Some, None, is_some, unwrap_or, ap, refl, ◌∙◌}
use Rattle.std.specs.Str.{bytes_eq}
use Rattle.std.proofs.lemmas.Bool.{and_parts}
use Rattle.std.proofs.lemmas.List.{get_or_append_left}
use Rattle.std.proofs.lemmas.Slice.Eq.{bytes_eq-Decides}
use Rattle.tfpg_graph.specs.declared.version.Version.{Version}
use Rattle.tfpg_graph.specs.declared.version.Version.TheVariants.{One, Two}
use Rattle.tfpg_graph.specs.Text.{header, version_said, version_of}
use Rattle.tfpg_graph.specs.Statements.{is_empty_or_comment, Statement, statement_of, statements_of, is_skipped}
use Rattle.tfpg_graph.specs.Declares.{said_by}
use Rattle.tfpg_graph.proofs.lemmas.reading.saying.SaidWords.{skipped_says_nothing}
use Rattle.tfpg_base.proofs.lemmas.lists.Valued.{filter_map-push_some, filter_map-push_none}

-- A line that is skipped says nothing.
pub statement_of-skipped : (version : Version) (line : List ℕ) → is_skipped line ≡ true → statement_of version line ≡ None
statement_of-skipped version line passed = skipped_says_nothing version line (and_parts (is_empty_or_comment line) _ passed).0

-- A line that is a header is that of its version.
pub header-said : (line : List ℕ) (version : Version) → version_said line ≡ Some version → line ≡ header version
header-said line version is = by (bytes_eq line (header One)) refl is
  where
    second : (two : Bool) → bytes_eq line (header Two) ≡ two → cond two (Some Two) None ≡ Some version → line ≡ header version
    second true same some = let so : Two ≡ version = cc in (bytes_eq-Decides line (header Two)).0 same ∙ ap header so
    second false other some = absurd cc

    by : (one : Bool) → bytes_eq line (header One) ≡ one
        → cond one (Some One) (cond (bytes_eq line (header Two)) (Some Two) None) ≡ Some version → line ≡ header version
    by true same some = let so : One ≡ version = cc in (bytes_eq-Decides line (header One)).0 same ∙ ap header so
    by false other some = second (bytes_eq line (header Two)) refl some

-- The header of a version says it.
pub version_said-header : (version : Version) → version_said (header version) ≡ Some version
version_said-header One = refl
version_said-header Two = refl

-- A header says nothing.
header_silent : (version other : Version) → statement_of version (header other) ≡ None
header_silent version One = refl
header_silent version Two = refl

pub statement_of-header : (version other : Version) (line : List ℕ) → version_said line ≡ Some other → statement_of version line ≡ None
statement_of-header version other line is = ap (statement_of version) (header-said line other is) ∙ header_silent version other

-- A first line that is a header says the version of the text.
pub version_said-first : (line : List ℕ) → is_some (version_said line) ≡ true → version_said line ≡ Some (version_of (line ∷ []))
version_said-first line is = by (version_said line) is
  where
    by : (said : Option Version) → is_some said ≡ true → said ≡ Some (unwrap_or said One)
    by None none = absurd cc
    by (Some version) some = refl

-- Lines after others leave the version.
pub version_of-append : (lines more : List (List ℕ)) → 0 < length lines → version_of (lines ++ more) ≡ version_of lines
version_of-append lines more some = ap (λ line. unwrap_or (version_said line) One) (get_or_append_left lines more [] 0 some)

module _ (lines : List (List ℕ)) (line : List ℕ) (some : 0 < length lines) where
  same_version : said_by (lines ++ line ∷ []) ≡ statements_of (version_of lines) (lines ++ line ∷ [])
  same_version = ap (λ version. statements_of version (lines ++ line ∷ [])) (version_of-append lines (line ∷ []) some)

  -- one line more that says something
  pub said_by-push : (said : Statement) → statement_of (version_of lines) line ≡ Some said
      → said_by (lines ++ line ∷ []) ≡ said_by lines ++ said ∷ []
  said_by-push said says = same_version ∙ filter_map-push_some (statement_of (version_of lines)) lines line said says

  -- and one that says nothing
  pub said_by-silent : statement_of (version_of lines) line ≡ None → said_by (lines ++ line ∷ []) ≡ said_by lines
  said_by-silent silent = same_version ∙ filter_map-push_none (statement_of (version_of lines)) lines line silent

-- A header alone says nothing.
pub said_by-header : (line : List ℕ) (version : Version) → version_said line ≡ Some version → said_by (line ∷ []) ≡ []
said_by-header line version is = filter_map-push_none (statement_of (version_of (line ∷ []))) [] line (statement_of-header (version_of (line ∷ [])) version line is)
