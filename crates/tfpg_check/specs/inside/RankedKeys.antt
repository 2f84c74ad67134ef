-- What the code tests of a ranked line.
use Rattle.std.specs.Prelude.{◌≡◌, ◌↔◌, ℕ, ◌≤◌, List, All, IsTrue, Option, Some, None, slice_get}
use Rattle.tfpg_log.specs.Log.{Logbook}
use Rattle.tfpg_hyp.specs.Ranking.{cost_of, robustness_of, IsRankedBefore}
use Rattle.tfpg_hyp.specs.declared.place.Place.{Place}
use Rattle.tfpg_report.specs.declared.read_round.RankedLine.{RankedLine}
use Rattle.tfpg_report.specs.ReadRounds.{hypothesis_ranked}
use Rattle.tfpg_check.specs.declared.round.lookup.RoundLookup.{RoundLookup}
use Rattle.tfpg_check.specs.Judging.{key_read}
use Rattle.tfpg_check.specs.inside.Lookups.{flag_at}

-- The robustness of the last key, if there is one, is a fraction.
abbrev pub IsFractionOf : Option Place → Type 0
IsFractionOf None = Unit {0}
IsFractionOf (Some key) = 1 ≤ key.robust.monitored

-- The key comes after the last one, if there is one.
abbrev pub ComesAfter : Option Place → Place → Type 0
ComesAfter None key = Unit {0}
ComesAfter (Some last) key = IsRankedBefore last key

-- A key comes after those of these ranked lines exactly where it comes after the last one.
pub record IsLastOf (before : List RankedLine) (last : Option Place) : Type 0 where
  pub fractions : All (λ (earlier : RankedLine). 1 ≤ earlier.monitored) before
  pub exact : (key : Place) → 1 ≤ key.robust.monitored
      → All (λ (earlier : RankedLine). IsRankedBefore (key_read earlier) key) before ↔ ComesAfter last key

-- The robustness is that of the hypothesis of the number, by its reach.
abbrev pub HasRobustness : RoundLookup → Logbook → RankedLine → Type 0
HasRobustness lookup log r =
    (reach : List ℕ) × (slice_get lookup.table.now.reaches r.number ≡ Some reach)
    × (robustness_of lookup.graph.now log reach r.doubts ≡ record { alarmed = r.alarmed; monitored = r.monitored })

-- What the line says is right, by what is looked up.
pub record SaysRight (lookup : RoundLookup) (log : Logbook) (last : Option Place) (r : RankedLine) : Type 0 where
  pub listed : slice_get lookup.table.now.hypotheses r.number ≡ Some (hypothesis_ranked r)
  pub not_closed : IsTrue (flag_at lookup.closed.now r.number) → ⊥
  pub cost : r.cost ≡ cost_of lookup.graph.now (hypothesis_ranked r)
  pub robust : HasRobustness lookup log r
  pub after : ComesAfter last (key_read r)
  pub no_part : IsTrue (flag_at lookup.part_ranked.now r.number) → ⊥
