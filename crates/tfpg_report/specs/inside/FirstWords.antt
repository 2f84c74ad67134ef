-- What the first of some words is read as, with the words after it.
use Rattle.std.specs.Prelude.{ℕ, List, [], ◌∷◌, if◌then◌else◌, Option, Some, None, option_and_then, option_map, bytes_eq, codes}
use Rattle.tfpg_base.specs.declared.word.Number.{Number}
use Rattle.tfpg_base.specs.declared.word.Number.TheVariants.{Value, TooLarge, NotANumber}
use Rattle.tfpg_base.specs.Words.{number_of, number_up_to}
use Rattle.tfpg_graph.specs.Graph.{Tfpg, node_named, edge_from_to}

-- the number, where one was read
abbrev pub value_of : Number → Option ℕ
value_of (Value number) = Some number
value_of TooLarge = None
value_of NotANumber = None

-- the number of a word, at most this limit
abbrev pub number_within : ℕ → List ℕ → Option ℕ
number_within limit word = value_of (number_up_to limit (number_of word))

-- the number of a word, which has 32 bits
abbrev pub small : List ℕ → Option ℕ
small word = number_within 4294967295 word

-- the number of the first word, at most this limit
abbrev pub number_first : ℕ → List (List ℕ) → Option (ℕ × List (List ℕ))
number_first limit [] = None
number_first limit (word ∷ others) = option_map (λ number. (number, others)) (number_within limit word)

-- the number of the first word, which has 32 bits
abbrev pub small_first : List (List ℕ) → Option (ℕ × List (List ℕ))
small_first [] = None
small_first (word ∷ others) = option_map (λ number. (number, others)) (small word)

-- the node of the name that the first word is
abbrev pub node_first : Tfpg → List (List ℕ) → Option (ℕ × List (List ℕ))
node_first graph [] = None
node_first graph (word ∷ others) = option_map (λ node. (node, others)) (node_named graph word)

-- the edge from the one node that is named to the other
abbrev pub edge_first : Tfpg → List (List ℕ) → Option (ℕ × List (List ℕ))
edge_first graph words =
    option_and_then (λ (source : ℕ × List (List ℕ)).
    option_and_then (λ (target : ℕ × List (List ℕ)).
    option_map (λ edge. (edge, target.1)) (edge_from_to graph source.0 target.0))
    (node_first graph source.1))
    (node_first graph words)

-- the words after this one, which is the first
abbrev pub after_word : List ℕ → List (List ℕ) → Option (List (List ℕ))
after_word word [] = None
after_word word (first ∷ others) = if bytes_eq first word then Some others else None

-- the number after this word
abbrev pub number_after : List ℕ → ℕ → List (List ℕ) → Option (ℕ × List (List ℕ))
number_after word limit words = option_and_then (number_first limit) (after_word word words)

-- the number after this word, which has 32 bits
abbrev pub small_after : List ℕ → List (List ℕ) → Option (ℕ × List (List ℕ))
small_after word words = option_and_then small_first (after_word word words)

-- the value, where no word is left
abbrev pub if_last : {X : Type 0} → List (List ℕ) → X → Option X
if_last [] value = Some value
if_last (more ∷ others) value = None

-- the word after `set`, which is the last
abbrev pub set_last : List (List ℕ) → Option (List ℕ)
set_last [] = None
set_last (keyword ∷ []) = None
set_last (keyword ∷ word ∷ []) = if bytes_eq keyword (codes "set") then Some word else None
set_last (keyword ∷ word ∷ more ∷ others) = None
