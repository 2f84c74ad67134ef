-- Each round has one limit of its counted calls.
use Rattle.std.proofs.Common.{◌≡◌, ℕ, zero, suc, ◌+◌, ◌*◌, ◌<◌, List, [], ◌∷◌, length, Some, refl, sym, ap, subst, ◌∙◌, arith}
use Rattle.std.specs.Prelude.{slice_get}
use Rattle.std.proofs.lemmas.Option.{same_Some, none-some}
use Rattle.tfpg_graph.specs.Graph.{Tfpg}
use Rattle.tfpg_log.specs.Log.{Logbook}
use Rattle.tfpg_clause.specs.Case.{Case, case_of, case_at}
use Rattle.tfpg_clause.specs.Facts.{IsLow, IsHigh}
use Rattle.tfpg_search.specs.Work.{NodeBounds, widest_bounds, AreFactBounds, AreBoundsAt, IsWorkLimit, differing, changed_bounds}
use Rattle.tfpg_search.proofs.lemmas.work.BoundsSet.{differs_same}
use Rattle.tfpg_search.proofs.lemmas.work.BoundsGiven.{given_alone, bounds_alone}

-- A list that has a number of a kind at each index.
record HasEach (Kind : ℕ → ℕ → Type 0) (count : ℕ) : Type 0 where
  times : List ℕ
  each : length times ≡ count
  kind : (index time : ℕ) → slice_get times index ≡ Some time → Kind index time

each_listed : (Kind : ℕ → ℕ → Type 0) (count : ℕ) → ((index : ℕ) → index < count → (time : ℕ) × Kind index time) → HasEach Kind count
each_listed Kind zero there = record { times = []; each = refl; kind = λ index time at. absurd (none-some time at) }
each_listed Kind (suc count) there =
    let first = there 0 (omega arith) in
    let rest = each_listed (λ (index time : ℕ). Kind (suc index) time) count (λ index less. there (suc index) (omega arith)) in
    record { times = first.0 ∷ rest.times; each = ap suc rest.each; kind = at_index first.0 first.1 rest.times rest.kind }
  where
    at_index : (first : ℕ) → Kind 0 first → (rest : List ℕ) → ((index time : ℕ) → slice_get rest index ≡ Some time → Kind (suc index) time) → (index time : ℕ)
        → slice_get (first ∷ rest) index ≡ Some time → Kind index time
    at_index first is rest others zero time at = subst (Kind 0) (same_Some first time at) is
    at_index first is rest others (suc index) time at = others index time at

module _ (lows : (graph : Tfpg) (log : Logbook) (reach : List ℕ) (node : ℕ) → node < length graph.nodes → (low : ℕ) × IsLow (case_of graph log reach) node low)
    (highs : (graph : Tfpg) (log : Logbook) (reach : List ℕ) (node : ℕ) → node < length graph.nodes → (high : ℕ) × IsHigh (case_of graph log reach) node high) where
  given_there : (case : Case) → (bounds : NodeBounds) × AreFactBounds case bounds
  given_there case =
      let low = each_listed (IsLow case) (length case.graph.nodes) (lows case.graph case.log case.reach) in
      let high = each_listed (IsHigh case) (length case.graph.nodes) (highs case.graph case.log case.reach) in
      (record { lows = low.times; highs = high.times }, record { low_each = low.each; high_each = high.each; low = low.kind; high = high.kind })

  bounds_there : (case : Case) (seen : ℕ) → (bounds : NodeBounds) × AreBoundsAt case seen bounds
  bounds_there case zero = (widest_bounds (length case.graph.nodes), record { unseen = λ none. refl; given = λ some. absurd (omega (arith, some)) })
  bounds_there case (suc seen) =
      let given = given_there case in
      (given.0, record { unseen = λ none. absurd (omega (arith, none)); given = λ some. given.1 })

  -- there is a limit
  pub limit_there : (case : Case) (seen steps : ℕ) → (limit : ℕ) × IsWorkLimit case seen steps limit
  limit_there case seen steps =
      let before = bounds_there (case_at case seen) seen in
      let now = given_there case in (
        changed_bounds before.0 now.0 + 4 * (steps + 1),
        record { old = before.0; before = before.1; new = now.0; now = now.1; is = refl },
      )

-- and no other
pub one_limit : (case : Case) (seen steps one other : ℕ) → IsWorkLimit case seen steps one → IsWorkLimit case seen steps other → one ≡ other
one_limit case seen steps one other is also =
    let old : is.old ≡ also.old = bounds_alone (case_at case seen) seen is.old also.old is.before also.before in
    let new : is.new ≡ also.new = given_alone case is.new is.now also.new also.now in
    is.is ∙ (λ i. changed_bounds (old i) (new i) + 4 * (steps + 1)) ∙ sym also.is

-- a list differs nowhere from itself
differing_none : (times : List ℕ) → differing times times ≡ 0
differing_none [] = refl
differing_none (first ∷ rest) = omega (arith, differs_same first first refl, differing_none rest)

-- Where no bound is changed, the steps alone make the limit.
pub unchanged_limit : (case : Case) (seen steps limit : ℕ) (bounds : NodeBounds) → AreBoundsAt (case_at case seen) seen bounds → AreFactBounds case bounds → IsWorkLimit case seen steps limit
    → limit ≡ 4 * (steps + 1)
unchanged_limit case seen steps limit bounds before now is =
    one_limit case seen steps limit (4 * (steps + 1)) is
    (record { old = bounds; before = before; new = bounds; now = now; is = none (differing bounds.lows bounds.lows) (differing bounds.highs bounds.highs) (differing_none bounds.lows) (differing_none bounds.highs) })
  where
    none : (lows highs : ℕ) → lows ≡ 0 → highs ≡ 0 → 4 * (steps + 1) ≡ (lows + highs) + 4 * (steps + 1)
    none lows highs low_is high_is = omega arith
