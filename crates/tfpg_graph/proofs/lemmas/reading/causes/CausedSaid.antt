-- A statement that has no cause has its value.
use Rattle.std.proofs.Common.{◌≡◌, ℕ, ◌<◌, Bool, true, false, cond, List, [], ◌∷◌, ◌++◌, length, Option, Some, None, is_some, is_none, option_map, codes, refl, ap, sym, ◌∙◌}
use Rattle.std.specs.Option.{option_zip}
use Rattle.std.specs.List.{list_all, list_any}
use Rattle.std.specs.Str.{bytes_eq}
use Rattle.std.proofs.lemmas.Bool.{or_parts, and_parts, not-false}
use Rattle.tfpg_base.specs.declared.limits.TheConstants.{MAX_TIME}
use Rattle.tfpg_base.specs.Words.{is_number, number_of}
use Rattle.tfpg_graph.specs.declared.cause.GraphCause.{GraphCause}
use Rattle.tfpg_graph.specs.Graph.{Tfpg, node_named}
use Rattle.tfpg_graph.specs.Text.{version_of}
use Rattle.tfpg_graph.specs.Statements.{LagWords, NodeWords, FailureWords, OrWords, AndWords, Statement, DeclaresMode, DeclaresNode, DeclaresEdge, Ends, statement_of, is_skipped, ends_text}
use Rattle.tfpg_graph.specs.Declares.{lag_of_words, kind_of_words, tmax_of_word, said_by, declared_by}
use Rattle.tfpg_graph.specs.inside.reading.WordValues.{numbers_of_words, delays_of_words, ends_named}
use Rattle.tfpg_base.specs.Choice.{first_of}
use Rattle.tfpg_graph.specs.Causes.{causes, numbers_in, cause_at}
use Rattle.tfpg_graph.specs.inside.reading.Turns.{HasValue, is_misplaced}
use Rattle.tfpg_base.proofs.lemmas.lists.Choices.{is_some-option_map, is_some-both}
use Rattle.tfpg_base.proofs.lemmas.Numbers.{is_some-number_of}
use Rattle.tfpg_graph.proofs.lemmas.reading.causes.WithoutCause.{HasNoCause-from_none}
use Rattle.tfpg_graph.proofs.lemmas.reading.graphs.DeclaredBy.{AllHaveValues, is_misplaced-said}
use Rattle.tfpg_graph.proofs.lemmas.reading.causes.CauseAt.{cause-unended}

both-some : {X Y : Type 0} (a : Option X) (b : Option Y) → is_some a ≡ true → is_some b ≡ true → is_some (option_zip a b) ≡ true
both-some None b some other = absurd cc
both-some (Some x) None some other = absurd cc
both-some (Some x) (Some y) some other = refl

lag-some : (lag : Option LagWords)
    → list_all (λ number. is_number number.0) (numbers_in (DeclaresNode [] (OrWords lag))) ≡ true
    → is_some (lag_of_words lag) ≡ true
lag-some None numbers = refl
lag-some (Some words) numbers =
    let are = and_parts (is_number words.least) _ numbers in
    is_some-option_map _ (numbers_of_words words.least words.most)
    ∙ both-some (number_of words.least) (number_of words.most) (is_some-number_of words.least are.0)
    (is_some-number_of words.most (and_parts (is_number words.most) true are.1).0)

kind-some : (name : List ℕ) (words : NodeWords)
    → list_all (λ number. is_number number.0) (numbers_in (DeclaresNode name words)) ≡ true
    → is_some (kind_of_words words) ≡ true
kind-some name (FailureWords rarity) numbers = is_some-option_map _ (number_of rarity) ∙ is_some-number_of rarity (and_parts (is_number rarity) true numbers).0
kind-some name (OrWords lag) numbers = is_some-option_map _ (lag_of_words lag) ∙ lag-some lag numbers
kind-some name (AndWords lag) numbers = is_some-option_map _ (lag_of_words lag) ∙ lag-some lag numbers

tmax-some : (word : List ℕ)
    → list_all (λ (number : List ℕ × ℕ). is_number number.0) (cond (bytes_eq word (codes "inf")) [] ((word, MAX_TIME) ∷ [])) ≡ true
    → is_some (tmax_of_word word) ≡ true
tmax-some word = by (bytes_eq word (codes "inf"))
  where
    by : (is_inf : Bool)
        → list_all (λ (number : List ℕ × ℕ). is_number number.0) (cond is_inf [] ((word, MAX_TIME) ∷ [])) ≡ true
        → is_some (cond is_inf (Some None) (option_map Some (number_of word))) ≡ true
    by true numbers = refl
    by false numbers = is_some-option_map _ (number_of word) ∙ is_some-number_of word (and_parts (is_number word) true numbers).0

-- A statement that has no cause has its value.
pub HasValue-no_cause : (out_of_order : Bool) (graph : Tfpg) (said : Statement)
    → first_of (causes out_of_order graph said) ≡ None → HasValue graph said
HasValue-no_cause out_of_order graph (DeclaresMode name) none = tt
HasValue-no_cause out_of_order graph (DeclaresNode name words) none = kind-some name words (not-false _ ((HasNoCause-from_none out_of_order graph (DeclaresNode name words) none).numbers))
HasValue-no_cause out_of_order graph (DeclaresEdge source target tmin tmax modes) none =
    let said = DeclaresEdge source target tmin tmax modes in
    let numbers = and_parts (is_number tmin) _ (not-false _ ((HasNoCause-from_none out_of_order graph said none).numbers)) in
    let names = or_parts (is_none (node_named graph source)) _ ((HasNoCause-from_none out_of_order graph said none).known) in
    is_some-both _ (ends_named graph source target) (delays_of_words tmin tmax)
    (both-some (node_named graph source) (node_named graph target) (not-false _ names.0) (not-false _ (or_parts (is_none (node_named graph target)) _ names.1).0))
    (both-some (number_of tmin) (tmax_of_word tmax) (is_some-number_of tmin numbers.0) (tmax-some tmax numbers.1))
HasValue-no_cause out_of_order graph Ends none = tt

-- The first cause of a statement, by what is declared.
abbrev pub cause_declared : Tfpg → Statement → Option GraphCause
cause_declared graph said = first_of (causes (is_misplaced graph said) graph said)

-- The cause of a line that says something, where each statement before it has its value and none ends the text.
pub cause-said : (lines : List (List ℕ)) (line : List ℕ) (said : Statement) → AllHaveValues (said_by lines)
    → 0 < length lines → list_any ends_text (said_by lines) ≡ false
    → is_skipped line ≡ false → statement_of (version_of lines) line ≡ Some said
    → cause_at (lines ++ line ∷ []) (length lines) ≡ cause_declared (declared_by lines) said
cause-said lines line said values some unended read says =
    cause-unended lines line some (Some said) unended read says
    ∙ ap (λ misplaced. first_of (causes misplaced (declared_by lines) said)) (sym (is_misplaced-said (said_by lines) values unended said))
