-- What links stand for: read at a number, after a write, and where the demands change.
use Rattle.std.proofs.Common.{◌≡◌, ◌≢◌, ℕ, zero, suc, ◌+◌, ◌<◌, ◌≤◌, List, [], ◌∷◌, ◌++◌, length, get_or, set, Some, refl, sym, ◌∙◌, ap, subst, arith, inl, inr, ⊎_elim, ◌⊎◌}
use Rattle.std.specs.Prelude.{slice_get, slice_index}
use Rattle.std.proofs.lemmas.Int.{ints}
use Rattle.std.proofs.lemmas.Bool.{cases_eq, cases_lt}
use Rattle.std.proofs.lemmas.Option.{slice_get-get_or, slice_get_within, get_or_from_slice_get}
use Rattle.std.proofs.lemmas.List.{same_lists, length-set, get_or-set_same, get_or-set_other, get_or_past, get_or_append_left}
use Rattle.tfpg_base.proofs.lemmas.lists.Written.{slice_get-set_same}
use Rattle.tfpg_diff.specs.declared.demand.Demand.{Demand}
use Rattle.tfpg_diff.specs.VariableBounds.{VariableBounds}
use Rattle.tfpg_diff.specs.declared.pick.Pick.{Pick}
use Rattle.tfpg_diff.specs.declared.link.Link.{Link}
use Rattle.tfpg_diff.specs.declared.link.Link.TheVariants.{Ceiling, Picked}
use Rattle.tfpg_diff.specs.Demands.{Demands, ceiling_of, demand_of_pick, demands_of}
use Rattle.tfpg_diff.specs.inside.Linked.{no_bounds, no_pick, demand_of_link, demands_linked_from, demands_linked, IsLinkInto}
use Rattle.tfpg_diff.specs.inside.Kept.{IsKept}

-- each link stands for one demand
length-demands_linked_from : (demands : Demands) (number : ℕ) (links : List Link) → length (demands_linked_from demands number links) ≡ length links
length-demands_linked_from demands number [] = refl
length-demands_linked_from demands number (link ∷ links) = ap suc (length-demands_linked_from demands (suc number) links)

-- there are as many demands as links
pub length-demands_linked : (demands : Demands) (links : List Link) → length (demands_linked demands links) ≡ length links
length-demands_linked demands links = length-demands_linked_from demands 0 links

-- the demand of a link
get_or-demands_linked_from : (demands : Demands) (number : ℕ) (links : List Link) (k : ℕ) (e : Demand) → k < length links →
    get_or (demands_linked_from demands number links) k e ≡ demand_of_link demands (number + k) (get_or links k Ceiling)
get_or-demands_linked_from demands number [] k e inside = absurd (omega arith)
get_or-demands_linked_from demands number (link ∷ links) zero e inside =
    let same : number ≡ number + 0 = omega arith in ap (λ (n : ℕ). demand_of_link demands n link) same
get_or-demands_linked_from demands number (link ∷ links) (suc k) e inside =
    let same : suc number + k ≡ number + suc k = omega arith in
    get_or-demands_linked_from demands (suc number) links k e (omega arith) ∙ ap (λ (n : ℕ). demand_of_link demands n (get_or links k Ceiling)) same

-- the demand of the link of a number
get_or-demands_linked : (demands : Demands) (links : List Link) (k : ℕ) (e : Demand) → k < length links →
    get_or (demands_linked demands links) k e ≡ demand_of_link demands k (get_or links k Ceiling)
get_or-demands_linked demands links k e inside =
    let same : 0 + k ≡ k = omega arith in
    get_or-demands_linked_from demands 0 links k e inside ∙ ap (λ (n : ℕ). demand_of_link demands n (get_or links k Ceiling)) same

-- the demand of a link that is read
pub demands_linked-at : (demands : Demands) (links : List Link) (k : ℕ) (link : Link) → slice_get links k ≡ Some link →
    slice_get (demands_linked demands links) k ≡ Some (demand_of_link demands k link)
demands_linked-at demands links k link at =
    let within : k < length links = slice_get_within links k link at in
    let inside : k < length (demands_linked demands links) = omega (arith, length-demands_linked demands links) in
    let e : Demand = demand_of_pick no_pick in
    slice_get-get_or (demands_linked demands links) k e inside
    ∙ ap (λ (f : Demand). Some f) (get_or-demands_linked demands links k e within
    ∙ ap (demand_of_link demands k) (get_or_from_slice_get links k link Ceiling at))

-- the demand of the upper bound of a variable
pub demand_of_link-ceiling : (demands : Demands) (v : ℕ) (b : VariableBounds) → slice_get demands.bounds v ≡ Some b →
    demand_of_link demands (v + 1) Ceiling ≡ ceiling_of v b
demand_of_link-ceiling demands v b at =
    let number : v + 1 ≡ suc v = omega arith in
    ap (λ (n : ℕ). demand_of_link demands n Ceiling) number ∙ ap (ceiling_of v) (get_or_from_slice_get demands.bounds v b no_bounds at)

-- the demand of a pick
pub demand_of_link-picked : (demands : Demands) (k index : ℕ) → 0 < k →
    demand_of_link demands k (Picked index) ≡ demand_of_pick (get_or demands.picks index no_pick)
demand_of_link-picked demands zero index up = absurd (omega arith)
demand_of_link-picked demands (suc v) index up = refl

-- after a write of one link, where the others stand for what they stood for
pub demands_linked-changed : (old new : Demands) (links : List Link) (k : ℕ) (link : Link) →
    ((j : ℕ) (other : Link) → j ≢ k → slice_get links j ≡ Some other → demand_of_link new j other ≡ demand_of_link old j other) →
    demands_linked new (set links k link) ≡ set (demands_linked old links) k (demand_of_link new k link)
demands_linked-changed old new links k link same =
    let written : List Link = set links k link in
    let demand : Demand = demand_of_link new k link in
    let len : length written ≡ length links = length-set links k link in
    let new_len : length (demands_linked new written) ≡ length written = length-demands_linked new written in
    let old_len : length (demands_linked old links) ≡ length links = length-demands_linked old links in
    let set_len : length (set (demands_linked old links) k demand) ≡ length (demands_linked old links) = length-set (demands_linked old links) k demand in
    same_lists (demands_linked new written) (set (demands_linked old links) k demand) (omega arith)
    (λ j e below.
    let inside : j < length links = omega arith in
    let inside' : j < length written = omega arith in
    let here : get_or (demands_linked new written) j e ≡ demand_of_link new j (get_or written j Ceiling) = get_or-demands_linked new written j e inside' in
    ⊎_elim
    (λ (is : j ≡ k).
    let at_k : k < length links = omega arith in
    here ∙ ap (λ (n : ℕ). demand_of_link new n (get_or written n Ceiling)) is ∙ ap (demand_of_link new k) (get_or-set_same links k link Ceiling at_k)
    ∙ sym (ap (λ (n : ℕ). get_or (set (demands_linked old links) k demand) n e) is ∙ get_or-set_same (demands_linked old links) k demand e (omega arith)))
    (λ (other : j ≢ k).
    here ∙ ap (demand_of_link new j) (get_or-set_other links k j link Ceiling other)
    ∙ same j (get_or links j Ceiling) other (slice_get-get_or links j Ceiling inside)
    ∙ sym (get_or-set_other (demands_linked old links) k j demand e other ∙ get_or-demands_linked old links j e inside))
    (cases_eq j k))

-- where each link stands for what it stood for, all do
pub demands_linked-same : (old new : Demands) (links : List Link) →
    ((j : ℕ) (link : Link) → slice_get links j ≡ Some link → demand_of_link new j link ≡ demand_of_link old j link) →
    demands_linked new links ≡ demands_linked old links
demands_linked-same old new links same =
    let new_len : length (demands_linked new links) ≡ length links = length-demands_linked new links in
    let old_len : length (demands_linked old links) ≡ length links = length-demands_linked old links in
    same_lists (demands_linked new links) (demands_linked old links) (omega arith)
    (λ j e below.
    let inside : j < length links = omega arith in
    get_or-demands_linked new links j e inside ∙ same j (get_or links j Ceiling) (slice_get-get_or links j Ceiling inside)
    ∙ sym (get_or-demands_linked old links j e inside))

-- after a write of one link
pub demands_linked-set : (demands : Demands) (links : List Link) (k : ℕ) (link : Link) →
    demands_linked demands (set links k link) ≡ set (demands_linked demands links) k (demand_of_link demands k link)
demands_linked-set demands links k link = demands_linked-changed demands demands links k link (λ j other apart at. refl)

-- a link that is kept names a pick that is there
pub IsLinkInto-kept : (demands : Demands) (values : List ℕ) (links : List Link) → IsKept demands values (demands_linked demands links) → (k : ℕ) (link : Link) → 0 < k →
    slice_get links k ≡ Some link → IsLinkInto demands.picks link
IsLinkInto-kept demands values links kept zero link up at = absurd (omega arith)
IsLinkInto-kept demands values links kept (suc v) Ceiling up at = tt
IsLinkInto-kept demands values links kept (suc v) (Picked index) up at = ⊎_elim
    (λ (inside : index < length demands.picks). inside)
    (λ (past : length demands.picks ≤ index).
    let here = demands_linked-at demands links (suc v) (Picked index) at in
    let left : (get_or demands.picks index no_pick).constraint.left ≡ suc v =
    (kept.linked (suc v) (demand_of_link demands (suc v) (Picked index)) up here).left in
    let none = ap (λ (p : Pick). p.constraint.left) (get_or_past demands.picks index no_pick past) in
    absurd (omega arith))
    (cases_lt index (length demands.picks))

module _ (bounds : List VariableBounds) (picks : List Pick) (v : ℕ) (new : VariableBounds) where
  -- other bounds of a variable change no demand but its upper bound
  demand_of_link-other : (k : ℕ) (link : Link) → k ≢ v + 1 →
      demand_of_link (demands_of (set bounds v new) picks) k link ≡ demand_of_link (demands_of bounds picks) k link
  demand_of_link-other zero link other = refl
  demand_of_link-other (suc u) Ceiling other = ap (ceiling_of u) (get_or-set_other bounds v u new no_bounds (λ same. other (omega arith)))
  demand_of_link-other (suc u) (Picked index) other = refl

  -- nor one of a pick
  demand_of_link-not_ceiling : (k : ℕ) (link : Link) → (link ≡ Ceiling → ⊥) →
      demand_of_link (demands_of (set bounds v new) picks) k link ≡ demand_of_link (demands_of bounds picks) k link
  demand_of_link-not_ceiling zero link other = refl
  demand_of_link-not_ceiling (suc u) Ceiling other = absurd (other refl)
  demand_of_link-not_ceiling (suc u) (Picked index) other = refl

  -- a higher floor changes none
  pub demands_linked-floor : (old : VariableBounds) → slice_get bounds v ≡ Some old → ceiling_of v new ≡ ceiling_of v old → (links : List Link) →
      demands_linked (demands_of (set bounds v new) picks) links ≡ demands_linked (demands_of bounds picks) links
  demands_linked-floor old at same links = demands_linked-same (demands_of bounds picks) (demands_of (set bounds v new) picks) links (λ k link here. by k link (cases_eq k (v + 1)))
    where
      inside : v < length bounds
      inside = slice_get_within bounds v old at

      own : (link : Link) → demand_of_link (demands_of (set bounds v new) picks) (suc v) link ≡ demand_of_link (demands_of bounds picks) (suc v) link
      own Ceiling =
          ap (ceiling_of v) (get_or-set_same bounds v new no_bounds inside) ∙ same ∙ sym (ap (ceiling_of v) (get_or_from_slice_get bounds v old no_bounds at))
      own (Picked index) = refl

      by : (k : ℕ) (link : Link) → (k ≡ v + 1) ⊎ (k ≢ v + 1) →
          demand_of_link (demands_of (set bounds v new) picks) k link ≡ demand_of_link (demands_of bounds picks) k link
      by k link (inl is) =
          let number : suc v ≡ k = omega arith in
          subst (λ (n : ℕ). demand_of_link (demands_of (set bounds v new) picks) n link ≡ demand_of_link (demands_of bounds picks) n link) number (own link)
      by k link (inr other) = demand_of_link-other k link other

  -- a lower ceiling changes none, where the value of the variable is below the old one: the old one is no link then
  pub demands_linked-ceiling : (old : VariableBounds) → slice_get bounds v ≡ Some old → (values : List ℕ) (links : List Link) →
      IsKept (demands_of bounds picks) values (demands_linked (demands_of bounds picks) links) → slice_index values (v + 1) < old.ceiling →
      demands_linked (demands_of (set bounds v new) picks) links ≡ demands_linked (demands_of bounds picks) links
  demands_linked-ceiling old at values links kept low =
      demands_linked-same (demands_of bounds picks) (demands_of (set bounds v new) picks) links
      (λ k link here. ⊎_elim
      (λ (is : k ≡ v + 1). demand_of_link-not_ceiling k link (λ (ceiling : link ≡ Ceiling).
      let own : slice_get links (v + 1) ≡ Some Ceiling = ap (slice_get links) (sym is) ∙ here ∙ ap (λ (l : Link). Some l) ceiling in
      let linked = demands_linked-at (demands_of bounds picks) links (v + 1) Ceiling own
      ∙ ap (λ (e : Demand). Some e) (demand_of_link-ceiling (demands_of bounds picks) v old at) in
      let tight = (kept.linked (v + 1) (ceiling_of v old) (omega arith) linked).tight in
      let z = kept.zero_stays in
      omega (arith, ints)))
      (λ (other : k ≢ v + 1). demand_of_link-other k link other)
      (cases_eq k (v + 1)))

  -- a lower ceiling that becomes the link of its variable
  pub demands_linked-lowered : v < length bounds → (links : List Link) →
      demands_linked (demands_of (set bounds v new) picks) (set links (v + 1) Ceiling) ≡ set (demands_linked (demands_of bounds picks) links) (v + 1) (ceiling_of v new)
  demands_linked-lowered inside links =
      demands_linked-changed (demands_of bounds picks) (demands_of (set bounds v new) picks) links (v + 1) Ceiling
      (λ k link other here. demand_of_link-other k link other)
      ∙ ap (set (demands_linked (demands_of bounds picks) links) (v + 1))
      (demand_of_link-ceiling (demands_of (set bounds v new) picks) v new (slice_get-set_same bounds v new inside))

-- one more pick changes none
pub demands_linked-pick : (bounds : List VariableBounds) (picks : List Pick) (pick : Pick) (values : List ℕ) (links : List Link) →
    IsKept (demands_of bounds picks) values (demands_linked (demands_of bounds picks) links) →
    demands_linked (demands_of bounds (picks ++ pick ∷ [])) links ≡ demands_linked (demands_of bounds picks) links
demands_linked-pick bounds picks pick values links kept =
    demands_linked-same (demands_of bounds picks) (demands_of bounds (picks ++ pick ∷ [])) links
    (λ k link here. by k link here)
  where
    by : (k : ℕ) (link : Link) → slice_get links k ≡ Some link →
        demand_of_link (demands_of bounds (picks ++ pick ∷ [])) k link ≡ demand_of_link (demands_of bounds picks) k link
    by zero link here = refl
    by (suc u) Ceiling here = refl
    by (suc u) (Picked index) here =
        ap demand_of_pick (get_or_append_left picks (pick ∷ []) no_pick index
        (IsLinkInto-kept (demands_of bounds picks) values links kept (suc u) (Picked index) (omega arith) here))
