-- The names of vehicles.
use Rattle.std.specs.Prelude.{◌≢◌, ◌≤◌, ◌&&◌, ℕ, Bool, true, List, [], ◌∷◌, length, All, AllPairs, IsTrue, nat_le, not}
use Rattle.std.specs.List.{list_all}
use Rattle.tfpg_base.specs.Words.{is_name}
use Rattle.tfpg_base.specs.declared.limits.TheConstants.{MAX_VEHICLES}
use Rattle.tfpg_words.specs.Words.{Word, is_word_among}

-- no word stands twice
abbrev pub are_distinct : List Word → Bool
are_distinct [] = true
are_distinct (word ∷ others) = not (is_word_among others word) && are_distinct others

-- so many names may be given: 1 to 64
abbrev pub are_few : ℕ → Bool
are_few count = nat_le 1 count && nat_le count MAX_VEHICLES

-- The test of names for vehicles: 1 to 64 words, each of the form of a name, and no two alike.
abbrev pub are_names : List Word → Bool
are_names names = are_few (length names) && (list_all is_name names && are_distinct names)

-- They are names for vehicles.
pub record AreNames (names : List Word) : Type 0 where
  pub some : 1 ≤ length names
  pub few : length names ≤ MAX_VEHICLES
  pub each : All (λ name. IsTrue (is_name name)) names
  pub distinct : AllPairs (λ name other. name ≢ other) names
