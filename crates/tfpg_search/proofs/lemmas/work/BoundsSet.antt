-- A bound that is set to that of its node differs no more, and no other bound changes.
use Rattle.std.proofs.Common.{◌≡◌, ℕ, zero, suc, ◌+◌, ◌<◌, Bool, true, false, cond, eqb, ltb, List, [], ◌∷◌, Some, refl, sym, ap, ◌∙◌, arith}
use Rattle.std.specs.Prelude.{slice_get, map, Result, Ok, Err, OnOk, OnErr}
use Rattle.std.proofs.lemmas.Bool.{ltb-false}
use Rattle.std.proofs.lemmas.Bool.Decides.{nat_tests}
use Rattle.std.proofs.lemmas.Option.{same_Some, none-some}
use Rattle.tfpg_diff.specs.VariableBounds.{VariableBounds}
use Rattle.tfpg_diff.specs.declared.why.Why.TheVariants.{Given}
use Rattle.tfpg_diff.specs.Demands.{Demands, Bounded}
use Rattle.tfpg_diff.specs.SystemState.{raised, lowered, changed_at, with_floor, with_ceiling}
use Rattle.tfpg_search.specs.declared.add_fault.AddFault.{AddFault}
use Rattle.tfpg_search.specs.Work.{NodeBounds, differing}
use Rattle.tfpg_search.specs.inside.Leaf.{Leaf}
use Rattle.tfpg_search.specs.inside.Counted.{unset, CountsFacts}

abbrev floors : List VariableBounds → List ℕ
floors bounds = map (λ (b : VariableBounds). b.floor) bounds

abbrev ceilings : List VariableBounds → List ℕ
ceilings bounds = map (λ (b : VariableBounds). b.ceiling) bounds

-- ---- one item

abbrev differs : ℕ → ℕ → ℕ
differs one other = cond (eqb one other) 0 1

-- a number does not differ from itself
pub differs_same : (one other : ℕ) → one ≡ other → differs one other ≡ 0
differs_same one other same = grind (arith, nat_tests)

differs_less : (one other : ℕ) → one < other → differs one other ≡ 1
differs_less one other less = grind (arith, nat_tests)

differs_more : (one other : ℕ) → other < one → differs one other ≡ 1
differs_more one other more = grind (arith, nat_tests)

raised_is : (least tag : ℕ) (b : VariableBounds) → b.floor < least → (raised least tag b).floor ≡ least
raised_is least tag b less = by (ltb b.floor least) refl
  where
    by : (test : Bool) → ltb b.floor least ≡ test → (cond test (record b { floor = least; floor_why = Given tag }) b).floor ≡ least
    by true is = refl
    by false is = absurd (let more = ltb-false b.floor least is in omega arith)

raised_ceiling : (least tag : ℕ) (b : VariableBounds) → (raised least tag b).ceiling ≡ b.ceiling
raised_ceiling least tag b = by (ltb b.floor least)
  where
    by : (test : Bool) → (cond test (record b { floor = least; floor_why = Given tag }) b).ceiling ≡ b.ceiling
    by true = refl
    by false = refl

lowered_is : (ceiling tag : ℕ) (b : VariableBounds) → ceiling < b.ceiling → (lowered ceiling tag b).ceiling ≡ ceiling
lowered_is ceiling tag b less = by (ltb ceiling b.ceiling) refl
  where
    by : (test : Bool) → ltb ceiling b.ceiling ≡ test → (cond test (record b { ceiling = ceiling; ceiling_why = Given tag }) b).ceiling ≡ ceiling
    by true is = refl
    by false is = absurd (let more = ltb-false ceiling b.ceiling is in omega arith)

lowered_floor : (ceiling tag : ℕ) (b : VariableBounds) → (lowered ceiling tag b).floor ≡ b.floor
lowered_floor ceiling tag b = by (ltb ceiling b.ceiling)
  where
    by : (test : Bool) → (cond test (record b { ceiling = ceiling; ceiling_why = Given tag }) b).floor ≡ b.floor
    by true = refl
    by false = refl

-- ---- lists

first_set : (new old rest : ℕ) → new ≡ 0 → old ≡ 1 → (new + rest) + 1 ≡ old + rest
first_set new old rest is was = omega arith

rest_set : (first new old : ℕ) → new + 1 ≡ old → (first + new) + 1 ≡ first + old
rest_set first new old is = omega arith

-- a change that leaves what a test reads of an item leaves the list of what it reads
pub map_changed : (read : VariableBounds → ℕ) (change : VariableBounds → VariableBounds) → ((b : VariableBounds) → read (change b) ≡ read b) → (bounds : List VariableBounds) (v : ℕ) → map read (changed_at change bounds v) ≡ map read bounds
map_changed read change same [] v = refl
map_changed read change same (first ∷ rest) zero = ap (λ (n : ℕ). n ∷ map read rest) (same first)
map_changed read change same (first ∷ rest) (suc v) = ap (λ (ns : List ℕ). read first ∷ ns) (map_changed read change same rest v)

-- a change that sets what is read of an item to that of a list leaves one fewer that differ
pub fewer_differ : (read : VariableBounds → ℕ) (change : VariableBounds → VariableBounds) (goal : ℕ) (bounds : List VariableBounds) (v : ℕ) (b : VariableBounds) (others : List ℕ)
    → slice_get bounds v ≡ Some b → slice_get others v ≡ Some goal → read (change b) ≡ goal → differs (read b) goal ≡ 1
    → differing (map read (changed_at change bounds v)) others + 1 ≡ differing (map read bounds) others
fewer_differ read change goal [] v b others at there is was = absurd (none-some b at)
fewer_differ read change goal (first ∷ rest) v b [] at there is was = absurd (none-some goal there)
fewer_differ read change goal (first ∷ rest) zero b (other ∷ others) at there is was =
    let b_is : b ≡ first = sym (same_Some first b at) in
    let other_is : goal ≡ other = sym (same_Some other goal there) in
    first_set (differs (read (change first)) other) (differs (read first) other) (differing (map read rest) others)
    (differs_same (read (change first)) other (ap (λ (c : VariableBounds). read (change c)) (sym b_is) ∙ is ∙ other_is))
    (ap (λ (c : VariableBounds). differs (read c) other) (sym b_is) ∙ ap (λ (n : ℕ). differs (read b) n) (sym other_is) ∙ was)
fewer_differ read change goal (first ∷ rest) (suc v) b (other ∷ others) at there is was =
    rest_set (differs (read first) other) (differing (map read (changed_at change rest v)) others) (differing (map read rest) others)
    (fewer_differ read change goal rest v b others at there is was)

-- ---- a bound of a node

two_parts : (lows highs was_lows was_highs : ℕ) → lows + 1 ≡ was_lows → highs ≡ was_highs → (lows + highs) + 1 ≡ was_lows + was_highs
two_parts lows highs was_lows was_highs one other = omega arith

two_others : (lows highs was_lows was_highs : ℕ) → lows ≡ was_lows → highs + 1 ≡ was_highs → (lows + highs) + 1 ≡ was_lows + was_highs
two_others lows highs was_lows was_highs one other = omega arith

module _ (bounds : NodeBounds) (old : Demands) (node time tag : ℕ) (b : VariableBounds) (at : Bounded old node b) where
  raised_unset : (reasons : Leaf) → b.floor < time → slice_get bounds.lows node ≡ Some time
      → unset bounds (record reasons { demands = with_floor old node time tag }) + 1 ≡ unset bounds (record reasons { demands = old })
  raised_unset reasons less there =
      two_parts (differing (floors (changed_at (raised time tag) old.bounds node)) bounds.lows) (differing (ceilings (changed_at (raised time tag) old.bounds node)) bounds.highs)
      (differing (floors old.bounds) bounds.lows) (differing (ceilings old.bounds) bounds.highs)
      (fewer_differ (λ (c : VariableBounds). c.floor) (raised time tag) time old.bounds node b bounds.lows at there (raised_is time tag b less) (differs_less b.floor time less))
      (ap (λ (ns : List ℕ). differing ns bounds.highs) (map_changed (λ (c : VariableBounds). c.ceiling) (raised time tag) (raised_ceiling time tag) old.bounds node))

  lowered_unset : (reasons : Leaf) → time < b.ceiling → slice_get bounds.highs node ≡ Some time
      → unset bounds (record reasons { demands = with_ceiling old node time tag }) + 1 ≡ unset bounds (record reasons { demands = old })
  lowered_unset reasons less there =
      two_others (differing (floors (changed_at (lowered time tag) old.bounds node)) bounds.lows) (differing (ceilings (changed_at (lowered time tag) old.bounds node)) bounds.highs)
      (differing (floors old.bounds) bounds.lows) (differing (ceilings old.bounds) bounds.highs)
      (ap (λ (ns : List ℕ). differing ns bounds.lows) (map_changed (λ (c : VariableBounds). c.floor) (lowered time tag) (lowered_floor time tag) old.bounds node))
      (fewer_differ (λ (c : VariableBounds). c.ceiling) (lowered time tag) time old.bounds node b bounds.highs at there (lowered_is time tag b less) (differs_more b.ceiling time less))

-- ---- a call

-- one call, that set one bound or came to a conflict
pub one_call : (bounds : NodeBounds) (old new : Leaf) (before after : ℕ) (result : Result (Unit {0}) AddFault) → after ≡ before + 1 → OnOk result (unset bounds new + 1 ≡ unset bounds old)
    → OnErr result (new ≡ record old { calls = new.calls }) → CountsFacts bounds old new before after result
one_call bounds old new before after (Ok done) one set same = record { ok = omega (arith, set); any = omega (arith, set) }
one_call bounds old new before after (Err fault) one set same =
    let kept : unset bounds new ≡ unset bounds old = ap (unset bounds) same in
    record { ok = tt; any = omega (arith, kept) }

-- the lower bound of a node was raised to its low, or that met a conflict
pub raised_counts : (bounds : NodeBounds) (old new : Leaf) (node time tag : ℕ) (b : VariableBounds) → Bounded old.demands node b → b.floor < time → slice_get bounds.lows node ≡ Some time
    → (before after : ℕ) (result : Result (Unit {0}) AddFault) → after ≡ before + 1 → OnOk result (new.demands ≡ with_floor old.demands node time tag) → OnErr result (new ≡ record old { calls = new.calls })
    → CountsFacts bounds old new before after result
raised_counts bounds old new node time tag b at less there before after (Ok done) one is same =
    one_call bounds old new before after (Ok done) one
    (ap (λ (d : Demands). unset bounds (record old { demands = d }) + 1) is ∙ raised_unset bounds old.demands node time tag b at old less there) tt
raised_counts bounds old new node time tag b at less there before after (Err fault) one is same = one_call bounds old new before after (Err fault) one tt same

-- the upper bound of a node was lowered to its high, or that met a conflict
pub lowered_counts : (bounds : NodeBounds) (old new : Leaf) (node time tag : ℕ) (b : VariableBounds) → Bounded old.demands node b → time < b.ceiling → slice_get bounds.highs node ≡ Some time
    → (before after : ℕ) (result : Result (Unit {0}) AddFault) → after ≡ before + 1 → OnOk result (new.demands ≡ with_ceiling old.demands node time tag) → OnErr result (new ≡ record old { calls = new.calls })
    → CountsFacts bounds old new before after result
lowered_counts bounds old new node time tag b at less there before after (Ok done) one is same =
    one_call bounds old new before after (Ok done) one
    (ap (λ (d : Demands). unset bounds (record old { demands = d }) + 1) is ∙ lowered_unset bounds old.demands node time tag b at old less there) tt
lowered_counts bounds old new node time tag b at less there before after (Err fault) one is same = one_call bounds old new before after (Err fault) one tt same
