-- The order of the clauses of one horizon is strict and total.
use Rattle.std.proofs.Common.{◌≡◌, ◌<◌, sym, ◌∙◌, ◌⊎◌, inl, inr, arith}
use Rattle.std.proofs.lemmas.Bool.{cases_order}
use Rattle.tfpg_evidence.specs.declared.clause_name.ClauseName.{ClauseName}
use Rattle.tfpg_clause.specs.Order.{kind_index_of, subject_of, span_of, horizon_of, ComesBefore}
use Rattle.tfpg_clause.proofs.lemmas.first_violated.FirstOfAll.{same_parts}

-- No name comes before itself.
pub not_itself : (name : ClauseName) → ComesBefore name name → ⊥
not_itself name (inl less) = omega (arith, less)
not_itself name (inr (same, inl less)) = omega (arith, less)
not_itself name (inr (same, inr (equal, less))) = omega (arith, less)

-- What comes before a name comes before all that come after it.
pub goes_through : (one middle other : ClauseName) → ComesBefore one middle → ComesBefore middle other → ComesBefore one other
goes_through one middle other (inl less) (inl further) = inl (omega (arith, less, further))
goes_through one middle other (inl less) (inr (same, rest)) = inl (omega (arith, less, same))
goes_through one middle other (inr (same, rest)) (inl further) = inl (omega (arith, same, further))
goes_through one middle other (inr (same, one_rest)) (inr (equal, other_rest)) = inr (same ∙ equal, through one_rest other_rest)
  where
    through : (subject_of one < subject_of middle) ⊎ ((subject_of one ≡ subject_of middle) × (span_of one < span_of middle))
        → (subject_of middle < subject_of other) ⊎ ((subject_of middle ≡ subject_of other) × (span_of middle < span_of other))
        → (subject_of one < subject_of other) ⊎ ((subject_of one ≡ subject_of other) × (span_of one < span_of other))
    through (inl less) (inl further) = inl (omega (arith, less, further))
    through (inl less) (inr (equal, later)) = inl (omega (arith, less, equal))
    through (inr (equal, early)) (inl further) = inl (omega (arith, equal, further))
    through (inr (equal, early)) (inr (alike, later)) = inr (equal ∙ alike, omega (arith, early, later))

-- Of two names of one horizon one comes before the other, or they are the same.
pub one_comes_first : (one other : ClauseName) → horizon_of one ≡ horizon_of other
    → (one ≡ other) ⊎ (ComesBefore one other ⊎ ComesBefore other one)
one_comes_first one other horizon = elim (cases_order (kind_index_of one) (kind_index_of other)) [
  | inr (inl less) ↦ inr (inl (inl less))
  | inr (inr more) ↦ inr (inr (inl more))
  | inl kind_index ↦ elim (cases_order (subject_of one) (subject_of other)) [
    | inr (inl less) ↦ inr (inl (inr (kind_index, inl less)))
    | inr (inr more) ↦ inr (inr (inr (sym kind_index, inl more)))
    | inl subject ↦ elim (cases_order (span_of one) (span_of other)) [
      | inr (inl less) ↦ inr (inl (inr (kind_index, inr (subject, less))))
      | inr (inr more) ↦ inr (inr (inr (sym kind_index, inr (sym subject, more))))
      | inl span ↦ inl (same_parts one other kind_index subject span horizon)
    ]
  ]
]
