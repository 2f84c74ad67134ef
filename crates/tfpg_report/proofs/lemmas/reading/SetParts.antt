-- The parts of the text of a set.
use Rattle.std.proofs.Common.{◌≡◌, ℕ, ◌==◌, false, Option, Some, None, refl, List, [], ◌∷◌, length, codes, ap, sym, ◌∙◌, arith}
use Rattle.std.specs.Prelude.{IfSome, IsNone}
use Rattle.std.specs.List.{join_with_byte}
use Rattle.std.specs.Str.{bytes_eq}
use Rattle.std.proofs.lemmas.Bool.{false≢true}
use Rattle.std.proofs.lemmas.List.Splits.{join_with_byte-slice_split, length-slice_split}
use Rattle.std.proofs.lemmas.Slice.Eq.{bytes_eq-Decides}
use Rattle.tfpg_base.specs.Hypothesis.{Hypothesis}
use Rattle.tfpg_base.specs.Words.{comma_parts}
use Rattle.tfpg_graph.specs.Graph.{Tfpg}
use Rattle.tfpg_graph.specs.Valid.{IsValid}
use Rattle.tfpg_report.specs.ReadSets.{IsHypothesisIn}
use Rattle.tfpg_report.specs.SetText.{IsHypothesisOf, hyphen_or_joined, set_word}
use Rattle.tfpg_graph.specs.Members.{member_words}
use Rattle.tfpg_report.proofs.lemmas.SetWords.{set_word-parts}

-- a word whose parts are the words for the members of a hypothesis is the text of its set
set_of_parts : (word : List ℕ) (words : List (List ℕ)) → words ≡ comma_parts word → word ≡ hyphen_or_joined words
set_of_parts word [] e = absurd (omega (arith, ap length e, length-slice_split (λ byte. byte == 44) word))
set_of_parts word (first ∷ others) e = sym (join_with_byte-slice_split 44 word) ∙ ap (join_with_byte 44) (sym e)

pub set_spelled : (graph : Tfpg) (word : List ℕ) (hypothesis : Hypothesis) → member_words graph hypothesis ≡ comma_parts word → word ≡ set_word graph hypothesis
set_spelled graph word hypothesis e = set_of_parts word (member_words graph hypothesis) e

-- a word that is the text of a set, and no hyphen, has the words for its members as its parts
pub set_parts : (graph : Tfpg) → IsValid graph → (word : List ℕ) (hypothesis : Hypothesis) → bytes_eq word (codes "-") ≡ false → IsHypothesisOf graph hypothesis → word ≡ set_word graph hypothesis
    → member_words graph hypothesis ≡ comma_parts word
set_parts graph valid word hypothesis no_hyphen of e =
    sym (ap comma_parts e ∙ set_word-parts graph valid hypothesis of
    (λ is. false≢true (sym no_hyphen ∙ (bytes_eq-Decides word (codes "-")).1 (e ∙ is))))

-- what was read of the parts of a word that is no hyphen was read of the word
pub hypothesis_of_word : (graph : Tfpg) → IsValid graph → (word : List ℕ) (words : List (List ℕ)) (hypothesis : Option Hypothesis) → bytes_eq word (codes "-") ≡ false → words ≡ comma_parts word
    → IfSome hypothesis (λ found. IsHypothesisOf graph found × (member_words graph found ≡ words))
    → (IsNone hypothesis → (other : Hypothesis) → IsHypothesisOf graph other → member_words graph other ≡ words → ⊥) → IsHypothesisIn graph word hypothesis
hypothesis_of_word graph valid word words (Some found) no_hyphen parts is none = (is.0, set_spelled graph word found (is.1 ∙ parts))
hypothesis_of_word graph valid word words None no_hyphen parts is none =
    λ hypothesis of e. none refl hypothesis of (set_parts graph valid word hypothesis no_hyphen of e ∙ sym parts)
