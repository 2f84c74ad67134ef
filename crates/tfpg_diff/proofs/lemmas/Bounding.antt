-- A lower ceiling, a higher floor, and the start from the ceilings.
use Rattle.std.proofs.Common.{◌≡◌, ◌≢◌, ℕ, zero, suc, ◌+◌, ◌-◌, ◌<◌, ◌≤◌, List, [], ◌∷◌, ◌++◌, length, get_or, set, Some, refl, sym, ◌∙◌, ap, subst, arith, inl, inr, ⊎_elim}
use Rattle.std.specs.Prelude.{slice_get, slice_index, pos}
use Rattle.std.proofs.lemmas.Int.{ints}
use Rattle.std.proofs.lemmas.Bool.{cases_eq, cases_lt}
use Rattle.std.proofs.lemmas.Option.{same_Some, slice_get_within, slice_get-get_or, get_or_from_slice_get}
use Rattle.std.proofs.lemmas.List.{length-set, get_or_past, get_or-set_same, get_or-set_other}
use Rattle.std.proofs.lemmas.List.Elements.{All-nil, All-cons, All-push}
use Rattle.tfpg_diff.specs.declared.demand.Demand.{Demand}
use Rattle.tfpg_diff.specs.declared.why.Why.{Why}
use Rattle.tfpg_diff.specs.declared.why.Why.TheVariants.{Given}
use Rattle.tfpg_diff.specs.VariableBounds.{VariableBounds}
use Rattle.tfpg_diff.specs.declared.pick.Pick.{Pick}
use Rattle.tfpg_base.specs.Constraint.{Meets}
use Rattle.tfpg_base.specs.Bounds.{at_most}
use Rattle.tfpg_diff.specs.Demands.{Demands, Demanded, Bounded, floor_of, ceiling_of, demand_of_pick, demands_of}
use Rattle.tfpg_diff.specs.Solution.{IsBetween, IsSolution}
use Rattle.tfpg_diff.specs.Cycle.{NamesNegativeCycle}
use Rattle.tfpg_diff.specs.declared.link.Link.{Link}
use Rattle.tfpg_diff.specs.declared.link.Link.TheVariants.{Ceiling}
use Rattle.tfpg_diff.specs.inside.Linked.{no_bounds, demands_linked}
use Rattle.tfpg_diff.specs.inside.Kept.{IsMetBy, IsRooted, Walked, IsLink, IsKept, AreKept, AreAtCeilings}
use Rattle.tfpg_base.proofs.lemmas.lists.Elements.{AllPairs-cons}
use Rattle.tfpg_base.proofs.lemmas.lists.Written.{slice_get-set_same, slice_get-set_other}
use Rattle.tfpg_diff.proofs.lemmas.Totals.{NamesNegativeCycle-chain}
use Rattle.tfpg_diff.proofs.lemmas.Solutions.{IsMetBy-solution, Meets-IsMetBy}
use Rattle.tfpg_diff.proofs.lemmas.Lowering.{cycle_from_links}
use Rattle.tfpg_diff.proofs.lemmas.Linked.{length-demands_linked, demands_linked-at, demand_of_link-ceiling}
use Rattle.tfpg_diff.proofs.lemmas.Changes.{IsKept-moved, Demanded-pick_cases, Bounded-set, Bounded-set_other, Bounded-set_same}

-- the bounds with this ceiling
abbrev pub under : VariableBounds → ℕ → ℕ → VariableBounds
under old ceiling tag = record { floor = old.floor; floor_why = old.floor_why; ceiling = ceiling; ceiling_why = Given tag }

-- the bounds with this floor
abbrev pub over : VariableBounds → ℕ → ℕ → VariableBounds
over old least tag = record { floor = least; floor_why = Given tag; ceiling = old.ceiling; ceiling_why = old.ceiling_why }

-- the ceiling as a pick
abbrev pub ceiling_pick : ℕ → ℕ → ℕ → Pick
ceiling_pick v ceiling tag = record { constraint = at_most v (pos ceiling); tag = tag }

module _ (bounds : List VariableBounds) (picks : List Pick) (v : ℕ) (old new : VariableBounds) (at_v : Bounded (demands_of bounds picks) v old) where
  -- a solution stays one where the bounds of the variable get looser
  IsSolution-looser : ((time : ℕ) → IsBetween new time → IsBetween old time) → (times : List ℕ) →
      IsSolution (demands_of (set bounds v new) picks) times → IsSolution (demands_of bounds picks) times
  IsSolution-looser looser times solution = record {
    complete = solution.complete ∙ length-set bounds v new;
    between = λ u b at. ⊎_elim
        (λ (same : u ≡ v).
        let own : old ≡ b = same_Some old b (sym at_v ∙ ap (slice_get bounds) (sym same) ∙ at) in
        let here : IsBetween old (slice_index times v) =
        looser (slice_index times v) (solution.between v new (Bounded-set_same bounds picks v old new at_v)) in
        subst (λ (n : ℕ). IsBetween b (slice_index times n)) (sym same)
        (subst (λ (c : VariableBounds). IsBetween c (slice_index times v)) own here))
        (λ (other : u ≢ v). solution.between u b (Bounded-set_other bounds picks v new u b other at))
        (cases_eq u v);
    met = solution.met;
  }

  -- values that lie between the bounds do so after the change too, where the value of the variable does
  IsBetween-changed : (values : List ℕ) →
      ((u : ℕ) (b : VariableBounds) → Bounded (demands_of bounds picks) u b → IsBetween b (slice_index values (u + 1))) →
      IsBetween new (slice_index values (v + 1)) →
      (u : ℕ) (b : VariableBounds) → Bounded (demands_of (set bounds v new) picks) u b → IsBetween b (slice_index values (u + 1))
  IsBetween-changed values between own u b at = ⊎_elim
      (λ (is : (u ≡ v) × (b ≡ new)).
      subst (λ (c : VariableBounds). IsBetween c (slice_index values (u + 1))) (sym is.1)
      (subst (λ (n : ℕ). IsBetween new (slice_index values (n + 1))) (sym is.0) own))
      (λ (is : (u ≢ v) × Bounded (demands_of bounds picks) u b). between u b is.1)
      (Bounded-set bounds picks v new u b at)

  -- what is demanded is so after the change too, but for the old bounds of the variable
  Demanded-changed : (e : Demand) → Demanded (demands_of bounds picks) e →
      (e ≡ ceiling_of v old → Demanded (demands_of (set bounds v new) picks) e) →
      (e ≡ floor_of v old → Demanded (demands_of (set bounds v new) picks) e) →
      Demanded (demands_of (set bounds v new) picks) e
  Demanded-changed e demanded ceiling floor =
      let own : (u : ℕ) (b : VariableBounds) → Bounded (demands_of bounds picks) u b → u ≡ v → b ≡ old =
      λ u b at same. sym (same_Some old b (sym at_v ∙ ap (slice_get bounds) (sym same) ∙ at)) in
      elim demanded [
        | inl is ↦ ⊎_elim
            (λ (same : is.0 ≡ v).
            ceiling (is.3 ∙ ap (λ (n : ℕ). ceiling_of n is.1) same ∙ ap (λ (b : VariableBounds). ceiling_of v b) (own is.0 is.1 is.2 same)))
            (λ (other : is.0 ≢ v). inl (is.0, is.1, Bounded-set_other bounds picks v new is.0 is.1 other is.2, is.3))
            (cases_eq is.0 v)
        | inr others ↦ elim others [
          | inl is ↦ ⊎_elim
              (λ (same : is.0 ≡ v).
              floor (is.3 ∙ ap (λ (n : ℕ). floor_of n is.1) same ∙ ap (λ (b : VariableBounds). floor_of v b) (own is.0 is.1 is.2 same)))
              (λ (other : is.0 ≢ v). inr (inl (is.0, is.1, Bounded-set_other bounds picks v new is.0 is.1 other is.2, is.3)))
              (cases_eq is.0 v)
          | inr is ↦ inr (inr is)
        ]
      ]

module _ (bounds : List VariableBounds) (picks : List Pick) (v : ℕ) (old : VariableBounds) (at_v : Bounded (demands_of bounds picks) v old) where
  -- a solution under a lower ceiling meets the higher one, and the lower one as a pick
  IsSolution-ceiling : (ceiling tag : ℕ) → ceiling < old.ceiling → (times : List ℕ) → IsSolution (demands_of (set bounds v (under old ceiling tag)) picks) times →
      IsSolution (demands_of bounds (picks ++ ceiling_pick v ceiling tag ∷ [])) times
  IsSolution-ceiling ceiling tag tighter times solution =
      let low : VariableBounds = under old ceiling tag in
      let looser : (time : ℕ) → IsBetween low time → IsBetween old time =
      λ time b. (let a = b.above in let c = b.below in record { above = omega arith; below = omega arith }) in
      let without : IsSolution (demands_of bounds picks) times = IsSolution-looser bounds picks v old low at_v looser times solution in
      record {
        complete = without.complete;
        between = without.between;
        met = All-push (λ (pick : Pick). Meets times pick.constraint) picks (ceiling_pick v ceiling tag) solution.met
            (Meets-IsMetBy times (ceiling_of v low)
            (IsMetBy-solution (demands_of (set bounds v low) picks) times solution (ceiling_of v low)
            (inl (v, low, Bounded-set_same bounds picks v old low at_v, refl))));
      }

  -- What is kept with the ceiling as a pick is kept with it as a ceiling, where the value is not above it: the old ceiling is no
  -- link then.
  pub IsKept-ceiling : (ceiling tag : ℕ) (values : List ℕ) (links : List Demand) → ceiling < old.ceiling → old.floor ≤ slice_index values (v + 1) →
      slice_index values (v + 1) ≤ ceiling →
      IsKept (demands_of bounds (picks ++ ceiling_pick v ceiling tag ∷ [])) values links →
      IsKept (demands_of (set bounds v (under old ceiling tag)) picks) values links
  IsKept-ceiling ceiling tag values links tighter above low kept =
      let lower : VariableBounds = under old ceiling tag in
      let new : Demands = demands_of (set bounds v lower) picks in
      IsKept-moved (demands_of bounds (picks ++ ceiling_pick v ceiling tag ∷ [])) new values links kept (length-set bounds v lower)
      (IsSolution-ceiling ceiling tag tighter)
      (λ x e up at link. ⊎_elim
      (λ (demanded : Demanded (demands_of bounds picks) e). Demanded-changed bounds picks v old lower at_v e demanded
      (λ (is : e ≡ ceiling_of v old).
      let left : x ≡ v + 1 = sym link.left ∙ ap (λ (f : Demand). f.constraint.left) is in
      let ceiling : e.constraint.most ≡ pos old.ceiling = ap (λ (f : Demand). f.constraint.most) is in
      let tight = link.tight in
      let value : slice_index values x ≡ slice_index values (v + 1) = ap (slice_index values) left in
      absurd (omega (arith, ints)))
      (λ (is : e ≡ floor_of v old).
      let left : x ≡ 0 = sym link.left ∙ ap (λ (f : Demand). f.constraint.left) is in
      absurd (omega arith)))
      (λ (is : e ≡ demand_of_pick (ceiling_pick v ceiling tag)). inl (v, lower, Bounded-set_same bounds picks v old lower at_v, is))
      (Demanded-pick_cases bounds picks (ceiling_pick v ceiling tag) e link.demanded))
      (IsBetween-changed bounds picks v old lower at_v values (λ u b at. kept.within u b at) (record { above = above; below = low }))

  -- a ceiling below the floor is a negative cycle
  pub cycle_from_ceiling : (ceiling tag : ℕ) → ceiling < old.floor →
      NamesNegativeCycle (demands_of (set bounds v (under old ceiling tag)) picks) (Given tag ∷ old.floor_why ∷ [])
  cycle_from_ceiling ceiling tag low =
      let new : Demands = demands_of (set bounds v (under old ceiling tag)) picks in
      let at_new = Bounded-set_same bounds picks v old (under old ceiling tag) at_v in
      let one : Demand = ceiling_of v (under old ceiling tag) in
      let two : Demand = floor_of v (under old ceiling tag) in
      NamesNegativeCycle-chain new (Given tag ∷ old.floor_why ∷ []) (v + 1) one (two ∷ []) refl
      (All-cons (Demanded new) one (two ∷ []) (inl (v, under old ceiling tag, at_new, refl))
      (All-cons (Demanded new) two [] (inr (inl (v, under old ceiling tag, at_new, refl))) (All-nil (Demanded new))))
      (refl, (refl, refl))
      (AllPairs-cons (λ (a b : Demand). a.constraint.left ≢ b.constraint.left) one (two ∷ [])
      (All-cons (λ (b : Demand). one.constraint.left ≢ b.constraint.left) two [] (omega arith) (All-nil (λ (b : Demand). one.constraint.left ≢ b.constraint.left)))
      (λ i j d before inside. absurd (omega arith)))
      (omega (arith, ints))

  -- the links are demanded with another floor too, since no floor is a link
  Demanded-floor : (least tag : ℕ) (values : List ℕ) (links : List Demand) → IsKept (demands_of bounds picks) values links →
      (x : ℕ) (e : Demand) → 0 < x → slice_get links x ≡ Some e → Demanded (demands_of (set bounds v (over old least tag)) picks) e
  Demanded-floor least tag values links kept x e up at =
      let higher : VariableBounds = over old least tag in
      let link : IsLink (demands_of bounds picks) values x e = kept.linked x e up at in
      Demanded-changed bounds picks v old higher at_v e link.demanded
      (λ (is : e ≡ ceiling_of v old). inl (v, higher, Bounded-set_same bounds picks v old higher at_v, is))
      (λ (is : e ≡ floor_of v old).
      let left : x ≡ 0 = sym link.left ∙ ap (λ (f : Demand). f.constraint.left) is in
      absurd (omega arith))

  -- what is kept is kept above a higher floor that the value is not below
  pub IsKept-floor : (least tag : ℕ) (values : List ℕ) (links : List Demand) → old.floor < least → least ≤ slice_index values (v + 1) →
      IsKept (demands_of bounds picks) values links → IsKept (demands_of (set bounds v (over old least tag)) picks) values links
  IsKept-floor least tag values links tighter high kept =
      let higher : VariableBounds = over old least tag in
      let was : IsBetween old (slice_index values (v + 1)) = kept.within v old at_v in
      let looser : (time : ℕ) → IsBetween higher time → IsBetween old time =
      λ time b. (let a = b.above in let c = b.below in record { above = omega arith; below = omega arith }) in
      IsKept-moved (demands_of bounds picks) (demands_of (set bounds v higher) picks) values links kept (length-set bounds v higher)
      (IsSolution-looser bounds picks v old higher at_v looser)
      (λ x e up at link. Demanded-floor least tag values links kept x e up at)
      (IsBetween-changed bounds picks v old higher at_v values (λ u b at. kept.within u b at) (record { above = high; below = was.below }))

  -- a floor above the value closes a negative cycle
  pub cycle_from_raised : (least tag : ℕ) (values : List ℕ) (links : List Demand) (tags : List Why) → slice_index values (v + 1) < least →
      IsKept (demands_of bounds picks) values links → Walked links (v + 1) 0 0 (Given tag ∷ []) tags →
      NamesNegativeCycle (demands_of (set bounds v (over old least tag)) picks) tags
  cycle_from_raised least tag values links tags low kept walked =
      let at_new = Bounded-set_same bounds picks v old (over old least tag) at_v in
      cycle_from_links (demands_of bounds picks) values links kept (demands_of (set bounds v (over old least tag)) picks)
      (floor_of v (over old least tag)) tags (inr (inl (v, over old least tag, at_new, refl)))
      (Demanded-floor least tag values links kept)
      (let k = kept.links_len in omega arith)
      (let z = kept.zero_stays in omega (arith, ints))
      walked

-- one more variable at its ceiling
pub AreAtCeilings-more : (bounds : List VariableBounds) (values : List ℕ) (links : List Link) (v : ℕ) → v < length bounds → AreAtCeilings bounds values links v →
    AreAtCeilings bounds (set values (v + 1) (get_or bounds v no_bounds).ceiling) (set links (v + 1) Ceiling) (v + 1)
AreAtCeilings-more bounds values links v inside start =
    let ceiling : ℕ = (get_or bounds v no_bounds).ceiling in
    let count = start.values_len in
    let many = start.links_len in
    record {
      values_len = length-set values (v + 1) ceiling ∙ count;
      links_len = length-set links (v + 1) Ceiling ∙ many;
      zero_stays = get_or-set_other values (v + 1) 0 ceiling 0 (omega arith) ∙ start.zero_stays;
      values_are = λ u limits below at. ⊎_elim
          (λ (is : u ≡ v).
          ap (λ (n : ℕ). slice_index (set values (v + 1) ceiling) (n + 1)) is ∙ get_or-set_same values (v + 1) ceiling 0 (omega arith)
          ∙ ap (λ (b : VariableBounds). b.ceiling) (get_or_from_slice_get bounds v limits no_bounds (ap (slice_get bounds) (sym is) ∙ at)))
          (λ (other : u ≢ v).
          get_or-set_other values (v + 1) (u + 1) ceiling 0 (λ same. other (omega arith)) ∙ start.values_are u limits (omega arith) at)
          (cases_eq u v);
      links_are = λ u limits below at. ⊎_elim
          (λ (is : u ≡ v). ap (λ (n : ℕ). slice_get (set links (v + 1) Ceiling) (n + 1)) is ∙ slice_get-set_same links (v + 1) Ceiling (omega arith))
          (λ (other : u ≢ v).
          slice_get-set_other links (v + 1) (u + 1) Ceiling (λ same. other (omega arith)) ∙ start.links_are u limits (omega arith) at)
          (cases_eq u v);
    }

-- the way from each number is its ceiling
start_way : (bounds : List VariableBounds) (links : List Demand) → length links ≡ length bounds + 1 →
    ((v : ℕ) (b : VariableBounds) → v < length bounds → slice_get bounds v ≡ Some b → slice_get links (v + 1) ≡ Some (ceiling_of v b)) →
    IsRooted links
start_way bounds links len are zero inside = ([], refl)
start_way bounds links len are (suc v) inside =
    let below : v < length bounds = omega arith in
    let b : VariableBounds = get_or bounds v no_bounds in
    let at : slice_get links (suc v) ≡ Some (ceiling_of v b) =
    ap (slice_get links) (omega arith) ∙ are v b below (slice_get-get_or bounds v no_bounds below) in
    (ceiling_of v b ∷ [], (omega arith, at, refl))

-- every solution is at most the ceilings
start_greatest : (bounds : List VariableBounds) (picks : List Pick) (values : List ℕ) (links : List Link) → AreAtCeilings bounds values links (length bounds) →
    (times : List ℕ) → IsSolution (demands_of bounds picks) times → (x : ℕ) → slice_index (0 ∷ times) x ≤ slice_index values x
start_greatest bounds picks values links start times solution zero = omega arith
start_greatest bounds picks values links start times solution (suc v) = ⊎_elim
    (λ (inside : v < length bounds).
    let b : VariableBounds = get_or bounds v no_bounds in
    let at = slice_get-get_or bounds v no_bounds inside in
    let met : IsMetBy (0 ∷ times) (ceiling_of v b) = IsMetBy-solution (demands_of bounds picks) times solution (ceiling_of v b) (inl (v, b, at, refl)) in
    let value : slice_index values (v + 1) ≡ b.ceiling = start.values_are v b inside at in
    let number : v + 1 ≡ suc v = omega arith in
    let one : slice_index (0 ∷ times) (v + 1) ≡ slice_index (0 ∷ times) (suc v) = ap (slice_index (0 ∷ times)) number in
    let two : slice_index values (v + 1) ≡ slice_index values (suc v) = ap (slice_index values) number in
    omega (arith, ints))
    (λ (past : length bounds ≤ v).
    let none : slice_index times v ≡ 0 = get_or_past times v 0 (let l = solution.complete in omega arith) in
    omega arith)
    (cases_lt v (length bounds))

-- the links stand for the ceilings
start_linked : (bounds : List VariableBounds) (picks : List Pick) (values : List ℕ) (links : List Link) → AreAtCeilings bounds values links (length bounds) →
    (v : ℕ) (b : VariableBounds) → v < length bounds → slice_get bounds v ≡ Some b →
    slice_get (demands_linked (demands_of bounds picks) links) (v + 1) ≡ Some (ceiling_of v b)
start_linked bounds picks values links start v b below at =
    demands_linked-at (demands_of bounds picks) links (v + 1) Ceiling (start.links_are v b below at)
    ∙ ap (λ (e : Demand). Some e) (demand_of_link-ceiling (demands_of bounds picks) v b at)

-- Values that are the ceilings are kept, where no floor is above its ceiling.
pub AreKept-start : (bounds : List VariableBounds) (picks : List Pick) (values : List ℕ) (links : List Link) → AreAtCeilings bounds values links (length bounds) →
    ((v : ℕ) (b : VariableBounds) → slice_get bounds v ≡ Some b → b.floor ≤ b.ceiling) → AreKept (demands_of bounds picks) values links
AreKept-start bounds picks values links start ordered =
    let read : (v : ℕ) → v < length bounds → slice_get bounds v ≡ Some (get_or bounds v no_bounds) = λ v inside. slice_get-get_or bounds v no_bounds inside in
    let demands : List Demand = demands_linked (demands_of bounds picks) links in
    let are : (v : ℕ) (b : VariableBounds) → v < length bounds → slice_get bounds v ≡ Some b → slice_get demands (v + 1) ≡ Some (ceiling_of v b) =
    start_linked bounds picks values links start in
    let len : length demands ≡ length bounds + 1 = length-demands_linked (demands_of bounds picks) links ∙ start.links_len in
    record {
      count = start.links_len;
      kept = record {
        values_len = start.values_len;
        links_len = len;
        zero_stays = start.zero_stays;
        rooted = λ x inside. start_way bounds demands len are x inside;
        linked = λ x e up at.
            let v : ℕ = x - 1 in
            let number : x ≡ v + 1 = omega arith in
            let inside : v < length bounds = (let w = slice_get_within demands x e at in omega arith) in
            let b : VariableBounds = get_or bounds v no_bounds in
            let is : ceiling_of v b ≡ e = same_Some (ceiling_of v b) e (sym (are v b inside (read v inside)) ∙ ap (slice_get demands) (sym number) ∙ at) in
            let value : slice_index values (v + 1) ≡ b.ceiling = start.values_are v b inside (read v inside) in
            let z = start.zero_stays in
            subst (λ (f : Demand). IsLink (demands_of bounds picks) values x f) is
            (record {
              left = sym number;
              right = omega arith;
              demanded = inl (v, b, read v inside, refl);
              tight = let here : slice_index values x ≡ slice_index values (v + 1) = ap (slice_index values) number in omega (arith, ints);
            });
        within = λ v b at.
            let inside : v < length bounds = slice_get_within bounds v b at in
            let value : slice_index values (v + 1) ≡ b.ceiling = start.values_are v b inside at in
            let low = ordered v b at in
            record { above = omega arith; below = omega arith };
        greatest = λ times solution x. start_greatest bounds picks values links start times solution x;
      };
    }
