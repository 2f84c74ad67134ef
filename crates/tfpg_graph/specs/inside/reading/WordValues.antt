-- What two words of a line say together.
use Rattle.std.specs.Prelude.{ℕ, List, Option}
use Rattle.std.specs.Option.{option_zip}
use Rattle.tfpg_base.specs.Words.{number_of}
use Rattle.tfpg_graph.specs.Graph.{Tfpg, node_named}
use Rattle.tfpg_graph.specs.Declares.{tmax_of_word}

-- the two numbers that two words say
abbrev pub numbers_of_words : List ℕ → List ℕ → Option (ℕ × ℕ)
numbers_of_words least greatest = option_zip (number_of least) (number_of greatest)

-- the delays that two words say
abbrev pub delays_of_words : List ℕ → List ℕ → Option (ℕ × Option ℕ)
delays_of_words tmin tmax = option_zip (number_of tmin) (tmax_of_word tmax)

-- the nodes of two names
abbrev pub ends_named : Tfpg → List ℕ → List ℕ → Option (ℕ × ℕ)
ends_named graph source target = option_zip (node_named graph source) (node_named graph target)
