-- By when all of some edges are due, where each failure has been on its way since the later of two: the beginning of the
-- edge's window, and the number of its source.
use Rattle.std.proofs.Common.{ℕ, ◌+◌, ◌<◌, ◌≤◌, List, [], ◌∷◌, get_or, max, ◌⊎◌, inl, inr, ap, arith}
use Rattle.std.specs.Prelude.{Contains}
use Rattle.std.proofs.lemmas.Bool.{cases_lt}
use Rattle.tfpg_base.proofs.lemmas.lists.Elements.{Contains-head, Contains-tail, Contains-nil, Contains-cons_cases}
use Rattle.tfpg_base.proofs.lemmas.lists.Maxima.{fold-max_member, fold-max_upto}
use Rattle.tfpg_clause.specs.Clauses.{Due}
use Rattle.tfpg_clause.specs.Clauses.{latest_of}

-- each is due by the latest
pub by_latest : (ds : List Due) (due : Due) → Contains ds due → due.by ≤ latest_of ds
by_latest ds due member = fold-max_member (λ (d : Due). d.by) 0 ds due member

-- where each is due by a time, so is the latest
pub latest_upto : (end : ℕ) (ds : List Due) → ((due : Due) → Contains ds due → due.by ≤ end) → latest_of ds ≤ end
latest_upto end ds each = fold-max_upto (λ (d : Due). d.by) 0 end ds (omega arith) each

module _ (numbers : List ℕ) where
  -- when it is due since its source is active
  abbrev pub since_source : Due → ℕ
  since_source due = get_or numbers due.source 0 + due.tmax

  -- when all are due
  abbrev pub last_due : List Due → ℕ
  last_due [] = 0
  last_due (due ∷ dues) = max (max due.by (since_source due)) (last_due dues)

  -- each is due by then,
  pub upto_last : (ds : List Due) (due : Due) → Contains ds due → (due.by ≤ last_due ds) × (since_source due ≤ last_due ds)
  upto_last [] due member = absurd (Contains-nil due member)
  upto_last (d ∷ ds) due member = elim (Contains-cons_cases d ds due member) [
    | inl same ↦ (omega (arith, ap (λ (x : Due). x.by) same), omega (arith, ap since_source same))
    | inr more ↦ (let rest = upto_last ds due more in (omega (arith, rest.0), omega (arith, rest.1)))
  ]

  -- which is no later than each is due by,
  pub last_within : (end : ℕ) (ds : List Due) → ((due : Due) → Contains ds due → (due.by ≤ end) × (since_source due ≤ end))
      → last_due ds ≤ end
  last_within end [] each = omega arith
  last_within end (d ∷ ds) each =
      let here = each d (Contains-head d ds) in
      let rest = last_within end ds (λ due member. each due (Contains-tail d ds due member)) in
      omega (arith, here.0, here.1, rest)

  -- and what is no later is so of one of them.
  pub reached : (n : ℕ) (ds : List Due) → n ≤ last_due ds
      → (n ≤ 0) ⊎ ((due : Due) × Contains ds due × ((n ≤ due.by) ⊎ (n ≤ since_source due)))
  reached n [] upto = inl upto
  reached n (d ∷ ds) upto = elim (cases_lt d.by n) [
    | inr early ↦ inr (d, Contains-head d ds, inl early)
    | inl after_by ↦ elim (cases_lt (since_source d) n) [
      | inr early ↦ inr (d, Contains-head d ds, inr early)
      | inl after_source ↦ elim (reached n ds (omega (arith, upto, after_by, after_source))) [
        | inl none ↦ inl none
        | inr found ↦ inr (found.0, Contains-tail d ds found.0 found.1, found.2)
      ]
    ]
  ]

  -- Some source starts too late for a time, or each in time.
  pub some_late : (end : ℕ) (ds : List Due)
      → ((due : Due) × Contains ds due × (end < since_source due)) ⊎ ((due : Due) → Contains ds due → since_source due ≤ end)
  some_late end [] = inr (λ due member. absurd (Contains-nil due member))
  some_late end (d ∷ ds) = elim (cases_lt end (since_source d)) [
    | inl late ↦ inl (d, Contains-head d ds, late)
    | inr early ↦ elim (some_late end ds) [
      | inl found ↦ inl (found.0, Contains-tail d ds found.0 found.1, found.2)
      | inr rest ↦ inr (λ due member.
          elim (Contains-cons_cases d ds due member) [
            | inl same ↦ omega (arith, early, ap since_source same)
            | inr more ↦ rest due more
          ])
    ]
  ]
