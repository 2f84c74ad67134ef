-- The alternatives of a must by their kinds.
use Rattle.std.proofs.Common.{◌≡◌, ℕ, List, [], ◌∷◌, ◌++◌, ◌⊎◌, inl, inr, pos}
use Rattle.std.specs.Prelude.{Contains, map}
use Rattle.std.proofs.lemmas.List.Elements.{Contains-append_left, Contains-append_right, Contains-append_cases}
use Rattle.tfpg_base.specs.declared.constraint.Constraint.{Constraint}
use Rattle.tfpg_base.proofs.lemmas.lists.Elements.{Contains-head, Contains-one}
use Rattle.tfpg_base.proofs.lemmas.lists.Images.{Contains-map, Contains-map_only}
use Rattle.tfpg_clause.specs.Clauses.{Due}
use Rattle.tfpg_base.specs.Bounds.{at_most}
use Rattle.tfpg_clause.specs.Clauses.{must_alternatives, starts_late, follows_in_time, latest_of}

module _ (target hi : ℕ) (ds : List Due) where
  -- one of the first alternatives,
  pub late_there : (due : Due) → Contains ds due → Contains (must_alternatives target hi ds) (starts_late hi due)
  late_there due member =
      Contains-append_left (map (starts_late hi) ds ++ map follows_in_time ds) ((at_most target (pos (latest_of ds)) ∷ []) ∷ [])
      (starts_late hi due)
      (Contains-append_left (map (starts_late hi) ds) (map follows_in_time ds) (starts_late hi due)
      (Contains-map (starts_late hi) ds due member))

  -- one of the next,
  pub follows_there : (due : Due) → Contains ds due → Contains (must_alternatives target hi ds) (follows_in_time due)
  follows_there due member =
      Contains-append_left (map (starts_late hi) ds ++ map follows_in_time ds) ((at_most target (pos (latest_of ds)) ∷ []) ∷ [])
      (follows_in_time due)
      (Contains-append_right (map (starts_late hi) ds) (map follows_in_time ds) (follows_in_time due)
      (Contains-map follows_in_time ds due member))

  -- and the last
  pub last_there : Contains (must_alternatives target hi ds) (at_most target (pos (latest_of ds)) ∷ [])
  last_there =
      Contains-append_right (map (starts_late hi) ds ++ map follows_in_time ds) ((at_most target (pos (latest_of ds)) ∷ []) ∷ [])
      (at_most target (pos (latest_of ds)) ∷ [])
      (Contains-head (at_most target (pos (latest_of ds)) ∷ []) [])

  -- There are no others.
  pub alternative_cases : (alternative : List Constraint) → Contains (must_alternatives target hi ds) alternative
      → ((due : Due) × Contains ds due × (starts_late hi due ≡ alternative))
      ⊎ (((due : Due) × Contains ds due × (follows_in_time due ≡ alternative)) ⊎ ((at_most target (pos (latest_of ds)) ∷ []) ≡ alternative))
  alternative_cases alternative member =
      elim
      (Contains-append_cases (map (starts_late hi) ds ++ map follows_in_time ds)
      ((at_most target (pos (latest_of ds)) ∷ []) ∷ []) alternative member) [
        | inl groups ↦ elim (Contains-append_cases (map (starts_late hi) ds) (map follows_in_time ds) alternative groups) [
          | inl first ↦ inl (Contains-map_only (starts_late hi) ds alternative first)
          | inr next ↦ inr (inl (Contains-map_only follows_in_time ds alternative next))
        ]
        | inr last ↦ inr (inr (Contains-one (at_most target (pos (latest_of ds)) ∷ []) alternative last))
      ]
