-- The way along links to zero: it is the only one, so no number stands on it twice.
use Rattle.std.proofs.Common.{◌≡◌, ◌≢◌, ℕ, zero, suc, ◌+◌, ◌<◌, ◌≤◌, List, [], ◌∷◌, ◌++◌, length, get_or, set, map, Some, refl, sym, ◌∙◌, ap, subst, arith, ⊎_elim}
use Rattle.std.specs.Prelude.{slice_get, AllPairs, All}
use Rattle.std.proofs.lemmas.Option.{same_Some, slice_get_within, get_or_from_slice_get}
use Rattle.std.proofs.lemmas.List.Elements.{All-nil, All-cons, All-head, All-tail, All-map, All-weaker}
use Rattle.std.proofs.lemmas.List.{length-map, length-set}
use Rattle.std.proofs.lemmas.Bool.{cases_eq}
use Rattle.tfpg_base.proofs.lemmas.lists.Written.{slice_get-set_other, slice_get-set_same}
use Rattle.tfpg_base.proofs.lemmas.lists.Images.{AllPairs-map}
use Rattle.tfpg_base.proofs.lemmas.lists.Distinct.{length-le_distinct}
use Rattle.tfpg_diff.specs.declared.demand.Demand.{Demand}
use Rattle.tfpg_diff.specs.Demands.{demand_of_pick}
use Rattle.tfpg_diff.specs.inside.Linked.{no_pick}
use Rattle.tfpg_diff.specs.inside.Kept.{Climbs, IsRooted, IsLabelled}

-- one way after another
pub Climbs-append : (links : List Demand) (x : ℕ) (es : List Demand) (y : ℕ) (fs : List Demand) (z : ℕ) →
    Climbs links x es y → Climbs links y fs z → Climbs links x (es ++ fs) z
Climbs-append links x [] y fs z here there = subst (λ (n : ℕ). Climbs links n fs z) (sym here) there
Climbs-append links x (e ∷ es) y fs z here there = (here.0, here.1, Climbs-append links e.constraint.right es y fs z here.2 there)

-- two ways to zero from one number are as long
pub Climbs-same_length : (links : List Demand) (x : ℕ) (es fs : List Demand) →
    Climbs links x es 0 → Climbs links x fs 0 → length es ≡ length fs
Climbs-same_length links x [] [] here there = refl
Climbs-same_length links x [] (f ∷ fs) here there = absurd (omega arith)
Climbs-same_length links x (e ∷ es) [] here there = absurd (omega arith)
Climbs-same_length links x (e ∷ es) (f ∷ fs) here there =
    let same : e ≡ f = same_Some e f (sym here.1 ∙ there.1) in
    ap suc (Climbs-same_length links e.constraint.right es fs here.2 (subst (λ (g : Demand). Climbs links g.constraint.right fs 0) (sym same) there.2))

-- from each link of a way the rest of the way leads to zero
pub Climbs-rest : (links : List Demand) (labelled : IsLabelled links) (x : ℕ) (es : List Demand) (k : ℕ) (d : Demand) →
    Climbs links x es 0 → k < length es → (fs : List Demand) × Climbs links (get_or es k d).constraint.left fs 0 × (length fs + k ≡ length es)
Climbs-rest links labelled x [] k d climb inside = absurd (omega arith)
Climbs-rest links labelled x (e ∷ es) zero d climb inside =
    let label : e.constraint.left ≡ x = labelled x e climb.0 climb.1 in
    (e ∷ es, subst (λ (n : ℕ). Climbs links n (e ∷ es) 0) (sym label) climb, omega arith)
Climbs-rest links labelled x (e ∷ es) (suc k) d climb inside =
    let rest = Climbs-rest links labelled e.constraint.right es k d climb.2 (omega arith) in
    (rest.0, rest.1, omega (arith, rest.2))

-- no left side stands twice on a way to zero
pub Climbs-simple : (links : List Demand) (labelled : IsLabelled links) (x : ℕ) (es : List Demand) → Climbs links x es 0 →
    AllPairs (λ (a b : Demand). a.constraint.left ≢ b.constraint.left) es
Climbs-simple links labelled x es climb i j d before inside same =
    let first = Climbs-rest links labelled x es i d climb (omega arith) in
    let second = Climbs-rest links labelled x es j d climb inside in
    let lengths : length first.0 ≡ length second.0 =
    Climbs-same_length links _ first.0 second.0 first.1 (subst (λ (n : ℕ). Climbs links n second.0 0) (sym same) second.1) in
    absurd (omega (arith, lengths, first.2, second.2))

-- the constraint is the link of its left side
abbrev pub IsOwnLink : List Demand → Demand → Type 0
IsOwnLink links e = (0 < e.constraint.left) × (slice_get links e.constraint.left ≡ Some e)

-- each link of a way is the link of its left side
pub Climbs-at : (links : List Demand) (labelled : IsLabelled links) (x : ℕ) (es : List Demand) (y : ℕ) → Climbs links x es y →
    All (IsOwnLink links) es
Climbs-at links labelled x [] y climb = All-nil (IsOwnLink links)
Climbs-at links labelled x (e ∷ es) y climb =
    let label : e.constraint.left ≡ x = labelled x e climb.0 climb.1 in
    All-cons (IsOwnLink links) e es
    (omega arith, ap (slice_get links) label ∙ climb.1)
    (Climbs-at links labelled e.constraint.right es y climb.2)

-- a way to zero is no longer than the links
pub length-Climbs : (links : List Demand) (labelled : IsLabelled links) (x : ℕ) (es : List Demand) → Climbs links x es 0 →
    length es ≤ length links
length-Climbs links labelled x es climb =
    let lefts : List ℕ = map (λ (e : Demand). e.constraint.left) es in
    let apart : AllPairs (λ (a b : ℕ). a ≢ b) lefts =
    AllPairs-map (λ (a b : ℕ). a ≢ b) (λ (e : Demand). e.constraint.left) es (Climbs-simple links labelled x es climb) in
    let below : All (λ (n : ℕ). n < length links) lefts =
    All-map (λ (n : ℕ). n < length links) (λ (e : Demand). e.constraint.left) es
    (All-weaker (IsOwnLink links) (λ (e : Demand). e.constraint.left < length links) (λ (e : Demand) (at : IsOwnLink links e). slice_get_within links e.constraint.left e at.1) es (Climbs-at links labelled x es 0 climb)) in
    omega (arith, length-le_distinct lefts (length links) apart below, length-map es (λ (e : Demand). e.constraint.left))

-- a way that does not pass a number stays when that number's link changes
pub Climbs-set_other : (links : List Demand) (labelled : IsLabelled links) (a : ℕ) (c : Demand) (x : ℕ) (es : List Demand) (y : ℕ) →
    Climbs links x es y → All (λ (e : Demand). e.constraint.left ≢ a) es → Climbs (set links a c) x es y
Climbs-set_other links labelled a c x [] y climb others = climb
Climbs-set_other links labelled a c x (e ∷ es) y climb others =
    let label : e.constraint.left ≡ x = labelled x e climb.0 climb.1 in
    let other : x ≢ a = λ same. others 0 e (omega arith) (label ∙ same) in (
      climb.0,
      slice_get-set_other links a x c other ∙ climb.1,
      Climbs-set_other links labelled a c e.constraint.right es y climb.2 (All-tail (λ (e : Demand). e.constraint.left ≢ a) e es others),
    )

-- Where a number gets a link from whose right side a way leads to zero that does not pass it, each way to zero has one after it.
pub Climbs-set : (links : List Demand) (labelled : IsLabelled links) (a : ℕ) (c : Demand) (inside : a < length links) (up : 0 < a)
    (fs : List Demand) → Climbs links c.constraint.right fs 0 → All (λ (e : Demand). e.constraint.left ≢ a) fs →
    (x : ℕ) (es : List Demand) → Climbs links x es 0 → (gs : List Demand) × Climbs (set links a c) x gs 0
Climbs-set links labelled a c inside up fs way others x [] climb = ([], climb)
Climbs-set links labelled a c inside up fs way others x (e ∷ es) climb =
    ⊎_elim
    (λ (same : x ≡ a). (
      c ∷ fs,
      (
        climb.0,
        ap (slice_get (set links a c)) same ∙ slice_get-set_same links a c inside,
        Climbs-set_other links labelled a c c.constraint.right fs 0 way others,
      ),
    ))
    (λ (other : x ≢ a).
    let rest = Climbs-set links labelled a c inside up fs way others e.constraint.right es climb.2 in
    (e ∷ rest.0, (climb.0, slice_get-set_other links a x c other ∙ climb.1, rest.1)))
    (cases_eq x a)

-- the links still lead to zero from everywhere
pub IsRooted-set : (links : List Demand) (labelled : IsLabelled links) (a : ℕ) (c : Demand) → a < length links → 0 < a →
    (fs : List Demand) → Climbs links c.constraint.right fs 0 → All (λ (e : Demand). e.constraint.left ≢ a) fs → IsRooted links → IsRooted (set links a c)
IsRooted-set links labelled a c inside up fs way others rooted x below =
    let old = rooted x (omega (arith, length-set links a c)) in
    Climbs-set links labelled a c inside up fs way others x old.0 old.1

-- a way to zero from another number has a link
pub length-Climbs_up : (links : List Demand) (x : ℕ) (es : List Demand) → Climbs links x es 0 → 0 < x → 0 < length es
length-Climbs_up links x [] climb up = absurd (omega arith)
length-Climbs_up links x (e ∷ es) climb up = omega arith

-- where a way to zero begins is a number, or zero
pub Climbs_from : (links : List Demand) (x : ℕ) (es : List Demand) → Climbs links x es 0 → 0 < length links → x < length links
Climbs_from links x [] climb some = omega arith
Climbs_from links x (e ∷ es) climb some = slice_get_within links x e climb.1

-- the right side of a link from which a way leads to zero is a number
pub Climbs_right : (links : List Demand) (x : ℕ) (e : Demand) (es : List Demand) → Climbs links x es 0 → 0 < x → slice_get links x ≡ Some e →
    e.constraint.right < length links
Climbs_right links x e [] climb up at = absurd (omega arith)
Climbs_right links x e (f ∷ fs) climb up at =
    let same : f ≡ e = same_Some f e (sym climb.1 ∙ at) in
    let inside : x < length links = slice_get_within links x e at in
    subst (λ (g : Demand). g.constraint.right < length links) same (Climbs_from links f.constraint.right fs climb.2 (omega arith))

-- a way to a number is part of the way to zero, which so passes the number
pub Climbs-passes : (links : List Demand) (labelled : IsLabelled links) (x : ℕ) (es : List Demand) (sought : ℕ) (fs : List Demand) →
    Climbs links x es sought → Climbs links x fs 0 → All (λ (e : Demand). e.constraint.left ≢ sought) fs → sought ≡ 0
Climbs-passes links labelled x [] sought [] here there avoids = sym here ∙ there
Climbs-passes links labelled x [] sought (f ∷ fs) here there avoids =
    absurd (All-head (λ (e : Demand). e.constraint.left ≢ sought) f fs avoids (labelled x f there.0 there.1 ∙ here))
Climbs-passes links labelled x (e ∷ es) sought [] here there avoids = absurd (omega arith)
Climbs-passes links labelled x (e ∷ es) sought (f ∷ fs) here there avoids =
    let same : e ≡ f = same_Some e f (sym here.1 ∙ there.1) in
    Climbs-passes links labelled e.constraint.right es sought fs here.2 (subst (λ (g : Demand). Climbs links g.constraint.right fs 0) (sym same) there.2)
    (All-tail (λ (e : Demand). e.constraint.left ≢ sought) f fs avoids)

-- how many links lead from a number to zero, if there are no more than so many
abbrev pub depth : List Demand → ℕ → ℕ → ℕ
depth links zero number = 0
depth links (suc most) zero = 0
depth links (suc most) (suc v) = suc (depth links most (get_or links (suc v) (demand_of_pick no_pick)).constraint.right)

-- zero has none
depth-zero : (links : List Demand) (most : ℕ) → depth links most 0 ≡ 0
depth-zero links zero = refl
depth-zero links (suc most) = refl

-- it is the length of the way to zero
depth-Climbs : (links : List Demand) (most x : ℕ) (es : List Demand) → Climbs links x es 0 → length es ≤ most → depth links most x ≡ length es
depth-Climbs links most x [] climb few = ap (depth links most) climb ∙ depth-zero links most
depth-Climbs links zero x (e ∷ es) climb few = absurd (omega arith)
depth-Climbs links (suc most) zero (e ∷ es) climb few = absurd (omega (arith, climb.0))
depth-Climbs links (suc most) (suc v) (e ∷ es) climb few =
    ap suc (ap (λ (f : Demand). depth links most f.constraint.right) (get_or_from_slice_get links (suc v) e (demand_of_pick no_pick) climb.1)
    ∙ depth-Climbs links most e.constraint.right es climb.2 (omega arith))

-- the right side of a link is nearer to zero
pub depth-right : (links : List Demand) (labelled : IsLabelled links) (rooted : IsRooted links) (x : ℕ) (e : Demand) → 0 < x → slice_get links x ≡ Some e →
    depth links (length links) e.constraint.right < depth links (length links) x
depth-right links labelled rooted x e up at = by (rooted x (slice_get_within links x e at)).0 (rooted x (slice_get_within links x e at)).1
  where
    by : (es : List Demand) → Climbs links x es 0 → depth links (length links) e.constraint.right < depth links (length links) x
    by [] climb = absurd (omega arith)
    by (f ∷ es) climb =
        let same : f ≡ e = same_Some f e (sym climb.1 ∙ at) in
        let few = length-Climbs links labelled x (f ∷ es) climb in
        let here = depth-Climbs links (length links) x (f ∷ es) climb few in
        let there : depth links (length links) e.constraint.right ≡ length es =
        depth-Climbs links (length links) e.constraint.right es (subst (λ (g : Demand). Climbs links g.constraint.right es 0) same climb.2) (omega arith) in
        omega arith
