-- A line says exactly the statement whose words it has.
use Rattle.std.proofs.Common.{◌≡◌, ℕ, ◌<◌, ◌≤◌, ◌==◌, ◌↔◌, Bool, true, false, cond, List, [], ◌∷◌, length, All, Contains, Some, refl, ap, sym, ◌∙◌, subst, arith}
use Rattle.std.specs.List.{AllByRecursion, list_any, onto_first}
use Rattle.std.proofs.lemmas.Bool.{or_parts, ne_eqb, eq-eqb, false≢true}
use Rattle.std.proofs.lemmas.List.{nil_from_length}
use Rattle.std.proofs.lemmas.List.Elements.{All-nil, All-cons, All-head, All-tail, All-contains}
use Rattle.tfpg_base.specs.Words.{words_of}
use Rattle.tfpg_base.specs.declared.limits.TheConstants.{LONGEST_LINE}
use Rattle.tfpg_base.proofs.lemmas.lists.Choices.{cond-some_second}
use Rattle.tfpg_base.proofs.lemmas.lists.Elements.{All-from_members}
use Rattle.tfpg_base.proofs.lemmas.lists.Lacking.{Lacks}
use Rattle.tfpg_graph.specs.declared.version.Version.{Version}
use Rattle.tfpg_graph.specs.Statements.{FailureWords, OrWords, AndWords, Statement, DeclaresMode, DeclaresNode, DeclaresEdge, Ends, words_of_statement, IsLineWord, SaysStatement, statement_of}
use Rattle.tfpg_graph.proofs.lemmas.reading.saying.SaidWords.{statement_in_words, statement_in-words, said_by_words}
use Rattle.tfpg_graph.proofs.lemmas.reading.spelling.LinesSay.{IsWord, short_line_says}

-- no part of a line round its spaces has a space
pub parts_lack : (line : List ℕ) → AllByRecursion (Lacks 32) (words_of line)
parts_lack [] = (All-nil (λ other. (other == 32) ≡ false), tt)
parts_lack (byte ∷ line) = by (byte == 32) refl (words_of line) (parts_lack line)
  where
    by : (test : Bool) → (byte == 32) ≡ test → (parts : List (List ℕ)) → AllByRecursion (Lacks 32) parts
        → AllByRecursion (Lacks 32) (cond test ([] ∷ parts) (onto_first byte parts))
    by true is parts rest = (All-nil (λ other. (other == 32) ≡ false), rest)
    by false is [] rest = (All-cons (λ other. (other == 32) ≡ false) byte [] is (All-nil (λ other. (other == 32) ≡ false)), tt)
    by false is (part ∷ parts) rest = (All-cons (λ other. (other == 32) ≡ false) byte part is rest.0, rest.1)

-- words of which none is empty, and none has a space
pub line_words : (words : List (List ℕ)) → list_any (λ word. length word == 0) words ≡ false → AllByRecursion (Lacks 32) words
    → All IsLineWord words
line_words [] none lack = All-nil IsLineWord
line_words (word ∷ words) none lack =
    let parts = or_parts (length word == 0) (list_any (λ other. length other == 0) words) none in
    All-cons IsLineWord word words (
      λ is. false≢true (sym parts.0 ∙ eq-eqb (length word) 0 (ap length is)),
      λ has. false≢true (sym (All-contains (λ other. (other == 32) ≡ false) word 32 lack.0 has) ∙ eq-eqb 32 32 refl),
    )
    (line_words words parts.1 lack.1)

-- and back
is_word : (word : List ℕ) → IsLineWord word → IsWord word
is_word word is = record {
  some = ne_eqb (length word) 0 (λ empty. is.0 (nil_from_length word empty));
  lacks = All-from_members (λ other. (other == 32) ≡ false) word
      (λ byte member. ne_eqb byte 32 (λ space. is.1 (subst (λ (other : ℕ). Contains word other) space member)));
}

pub are_words : (words : List (List ℕ)) → All IsLineWord words → AllByRecursion IsWord words
are_words [] are = tt
are_words (word ∷ words) are = (is_word word (All-head IsLineWord word words are), are_words words (All-tail IsLineWord word words are))

-- a statement has words
some_words : (version : Version) (said : Statement) → 0 < length (words_of_statement version said)
some_words version (DeclaresMode name) = omega arith
some_words version (DeclaresNode name (FailureWords rarity)) = omega arith
some_words version (DeclaresNode name (OrWords lag)) = omega arith
some_words version (DeclaresNode name (AndWords lag)) = omega arith
some_words version (DeclaresEdge source target tmin tmax modes) = omega arith
some_words version Ends = omega arith

module _ (version : Version) (line : List ℕ) (said : Statement) where
  -- A line that says something is the words of it.
  pub SaysStatement-said : statement_of version line ≡ Some said → SaysStatement version line said
  SaysStatement-said some =
      let whole = said_by_words version line said some in
      let short = cond-some_second _ _ said some in
      let shaped = cond-some_second _ _ said short.1 in
      record {
        words = whole.1;
        each = subst (All IsLineWord) (statement_in_words version (words_of line) said shaped.1).words_are
            (line_words (words_of line) shaped.0 (parts_lack line));
        short = whole.0;
        sayable = whole.2;
      }

  -- A line that is the words of a statement says it.
  pub statement_of-says : SaysStatement version line said → statement_of version line ≡ Some said
  statement_of-says says =
      let words = words_of_statement version said in
      ap (statement_of version) says.words
      ∙ short_line_says version words (some_words version said) (are_words words says.each) (subst (λ (l : List ℕ). length l ≤ LONGEST_LINE) says.words says.short)
      ∙ statement_in-words version said says.sayable

  pub says_both_ways : (statement_of version line ≡ Some said) ↔ SaysStatement version line said
  says_both_ways = (SaysStatement-said, statement_of-says)
