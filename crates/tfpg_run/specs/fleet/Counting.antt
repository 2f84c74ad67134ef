-- How many vehicles have a failure mode among what their last round ranks.
use Rattle.std.specs.Prelude.{ℕ, zero, suc, ◌+◌, ◌==◌, ◌&&◌, Bool, false, List, [], ◌∷◌, ◌++◌, codes, decimal, if◌then◌else◌}
use Rattle.std.specs.List.{list_any}
use Rattle.std.specs.Option.{option_map_or}
use Rattle.tfpg_base.specs.Choice.{last_of}
use Rattle.tfpg_base.specs.TextLine.{text_line}
use Rattle.tfpg_graph.specs.Graph.{Tfpg, failure_word}
use Rattle.tfpg_evidence.specs.declared.round.Round.{Round}
use Rattle.tfpg_evidence.specs.RoundOf.{is_ranked}

-- the failure mode at this position is in the set
abbrev pub is_in : ℕ → List ℕ → Bool
is_in position set = list_any (λ member. member == position) set

-- the round ranks a hypothesis that has the failure mode at this position
abbrev pub ranks : ℕ → Round → Bool
ranks position round = list_any (λ finding. is_ranked finding.status && is_in position finding.set) round.findings

-- the last of these rounds ranks such a hypothesis; without a round there is none
abbrev pub last_ranks : ℕ → List Round → Bool
last_ranks position rounds = option_map_or (ranks position) (last_of rounds) false

-- how many of the first vehicles pass the test
abbrev pub vehicles_that : (ℕ → Bool) → ℕ → ℕ
vehicles_that passes zero = 0
vehicles_that passes (suc number) = vehicles_that passes number + (if passes number then 1 else 0)

-- the line of the failure mode at this position, with how many vehicles have it
abbrev pub mode_count_text : Tfpg → ℕ → ℕ → List ℕ
mode_count_text graph position count =
    text_line (codes "mode" ∷ failure_word graph position ∷ codes "vehicles" ∷ decimal count ∷ [])

-- the lines of the first failure modes, by how many vehicles have each
abbrev pub modes_text : Tfpg → (ℕ → ℕ) → ℕ → List ℕ
modes_text graph counts zero = []
modes_text graph counts (suc position) = modes_text graph counts position ++ mode_count_text graph position (counts position)
