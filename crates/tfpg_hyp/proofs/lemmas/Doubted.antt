-- The sets of monitors of one size, listed in order: each of them, once, and nothing else.
use Rattle.std.proofs.Common.{◌≡◌, ℕ, suc, zero, ◌<◌, List, [], ◌∷◌, length, map, inl, inr, ⊎_elim, refl, arith, sym, ap, subst}
use Rattle.std.specs.List.{AllPairs, Contains}
use Rattle.std.proofs.lemmas.List.{nil_from_length}
use Rattle.std.proofs.lemmas.List.Elements.{All-nil, All-head, All-contains, Contains-append_left, Contains-append_right, Contains-append_cases}
use Rattle.tfpg_base.specs.Set.{IsSubset}
use Rattle.tfpg_base.proofs.lemmas.lists.Elements.{AllPairs-head, AllPairs-tail, AllPairs-cons, All-from_members, Contains-head, Contains-tail, Contains-cons_cases, Contains-nil}
use Rattle.tfpg_base.proofs.lemmas.lists.Ordered.{Rises, AllPairs-nil, AllPairs-append, least_first}
use Rattle.tfpg_base.proofs.lemmas.lists.Images.{AllPairs-map, Contains-map, Contains-map_only}
use Rattle.tfpg_hyp.specs.Table.{ComesFirst}
use Rattle.tfpg_hyp.specs.inside.Choices.{doubted}

-- a set of this size of these monitors
pub record IsDoubted (size : ℕ) (monitors nodes : List ℕ) : Type 0 where
  pub rising : Rises nodes
  pub among : IsSubset nodes monitors
  pub size_is : length nodes ≡ size

-- ---- what is listed

-- the empty set is one of size 0
IsDoubted-nil : (monitors nodes : List ℕ) → [] ≡ nodes → IsDoubted 0 monitors nodes
IsDoubted-nil monitors nodes is = subst (IsDoubted 0 monitors) is (record { rising = AllPairs-nil ◌<◌; among = All-nil (Contains monitors); size_is = refl })

-- a set of the later monitors
IsDoubted-later : (size node : ℕ) (others nodes : List ℕ) → IsDoubted size others nodes → IsDoubted size (node ∷ others) nodes
IsDoubted-later size node others nodes is = record {
  rising = is.rising;
  among = All-from_members (Contains (node ∷ others)) nodes (λ x has. Contains-tail node others x (All-contains (Contains others) nodes x is.among has));
  size_is = is.size_is;
}

-- the first monitor before a set of later ones
IsDoubted-first : (size node : ℕ) (others nodes : List ℕ) → Rises (node ∷ others) → IsDoubted size others nodes → IsDoubted (suc size) (node ∷ others) (node ∷ nodes)
IsDoubted-first size node others nodes rising is = record {
  rising = AllPairs-cons ◌<◌ node nodes
      (All-from_members (λ x. node < x) nodes (λ x has. All-contains (λ y. node < y) others x (AllPairs-head ◌<◌ node others rising) (All-contains (Contains others) nodes x is.among has))) is.rising;
  among = All-from_members (Contains (node ∷ others)) (node ∷ nodes)
      (λ x has. ⊎_elim (λ same. subst (Contains (node ∷ others)) same (Contains-head node others)) (λ later. Contains-tail node others x (All-contains (Contains others) nodes x is.among later)) (Contains-cons_cases node nodes x has));
  size_is = ap suc is.size_is;
}

-- Each listed set is a set of this size.
pub IsDoubted-listed : (size : ℕ) (monitors nodes : List ℕ) → Rises monitors → Contains (doubted size monitors) nodes → IsDoubted size monitors nodes
IsDoubted-listed zero monitors nodes rising member = IsDoubted-nil monitors nodes (⊎_elim (λ is. is) (λ none. absurd (Contains-nil nodes none)) (Contains-cons_cases [] [] nodes member))
IsDoubted-listed (suc size) [] nodes rising member = absurd (Contains-nil nodes member)
IsDoubted-listed (suc size) (node ∷ others) nodes rising member =
    let later = AllPairs-tail ◌<◌ node others rising in
    ⊎_elim
    (λ with_first. let found = Contains-map_only (λ rest. node ∷ rest) (doubted size others) nodes with_first in
    subst (IsDoubted (suc size) (node ∷ others)) found.2 (IsDoubted-first size node others found.0 rising (IsDoubted-listed size others found.0 later found.1)))
    (λ without. IsDoubted-later (suc size) node others nodes (IsDoubted-listed (suc size) others nodes later without))
    (Contains-append_cases (map (λ rest. node ∷ rest) (doubted size others)) (doubted (suc size) others) nodes member)

-- ---- all are listed

-- what lies above the first monitor is one of the others
above_first : (node : ℕ) (others xs : List ℕ) → IsSubset xs (node ∷ others) → ((x : ℕ) → Contains xs x → node < x) → IsSubset xs others
above_first node others xs among above =
    All-from_members (Contains others) xs
    (λ x has. ⊎_elim (λ same. absurd (omega (arith, same, above x has))) (λ later. later) (Contains-cons_cases node others x (All-contains (Contains (node ∷ others)) xs x among has)))

-- Each set of this size is listed.
pub Contains-doubted : (size : ℕ) (monitors nodes : List ℕ) → Rises monitors → IsDoubted size monitors nodes → Contains (doubted size monitors) nodes
Contains-doubted zero monitors nodes rising is = subst (λ (s : List ℕ). Contains ([] ∷ []) s) (sym (nil_from_length nodes is.size_is)) (Contains-head [] [])
Contains-doubted (suc size) monitors [] rising is = absurd (omega (arith, is.size_is))
Contains-doubted (suc size) [] (first ∷ rest) rising is = absurd (Contains-nil first (All-head (Contains []) first rest is.among))
Contains-doubted (suc size) (node ∷ others) (first ∷ rest) rising is =
    let later = AllPairs-tail ◌<◌ node others rising in
    let after = AllPairs-head ◌<◌ first rest is.rising in
    ⊎_elim
    (λ same.
    let smaller : IsDoubted size others rest = record {
      rising = AllPairs-tail ◌<◌ first rest is.rising;
      among = above_first node others rest
          (All-from_members (Contains (node ∷ others)) rest (λ x has. All-contains (Contains (node ∷ others)) (first ∷ rest) x is.among (Contains-tail first rest x has)))
          (λ x has. omega (arith, same, All-contains (λ y. first < y) rest x after has));
      size_is = omega (arith, is.size_is);
    } in
    Contains-append_left (map (λ nodes. node ∷ nodes) (doubted size others)) (doubted (suc size) others) (first ∷ rest)
    (subst (λ (n : ℕ). Contains (map (λ nodes. node ∷ nodes) (doubted size others)) (n ∷ rest)) same
    (Contains-map (λ nodes. node ∷ nodes) (doubted size others) rest (Contains-doubted size others rest later smaller))))
    (λ has_first.
    let above = All-contains (λ y. node < y) others first (AllPairs-head ◌<◌ node others rising) has_first in
    let whole : IsDoubted (suc size) others (first ∷ rest) = record {
      rising = is.rising;
      among = above_first node others (first ∷ rest) is.among (λ x has. omega (arith, above, least_first first rest x is.rising has));
      size_is = is.size_is;
    } in
    Contains-append_right (map (λ nodes. node ∷ nodes) (doubted size others)) (doubted (suc size) others) (first ∷ rest)
    (Contains-doubted (suc size) others (first ∷ rest) later whole))
    (Contains-cons_cases node others first (All-head (Contains (node ∷ others)) first rest is.among))

-- ---- in order

-- a set with the first monitor comes before one of the others
first_comes_first : (size node : ℕ) (others rest other : List ℕ) → Rises (node ∷ others) → IsDoubted (suc size) others other → ComesFirst (node ∷ rest) other
first_comes_first size node others rest [] rising is = absurd (omega (arith, is.size_is))
first_comes_first size node others rest (first ∷ more) rising is =
    inl (All-contains (λ y. node < y) others first (AllPairs-head ◌<◌ node others rising) (All-head (Contains others) first more is.among))

-- The listed sets stand in order.
pub in_order-doubted : (size : ℕ) (monitors : List ℕ) → Rises monitors → AllPairs ComesFirst (doubted size monitors)
in_order-doubted zero monitors rising = AllPairs-cons ComesFirst [] [] (All-nil (ComesFirst [])) (AllPairs-nil ComesFirst)
in_order-doubted (suc size) [] rising = AllPairs-nil ComesFirst
in_order-doubted (suc size) (node ∷ others) rising =
    let later = AllPairs-tail ◌<◌ node others rising in
    AllPairs-append ComesFirst (map (λ nodes. node ∷ nodes) (doubted size others)) (doubted (suc size) others)
    (AllPairs-map ComesFirst (λ nodes. node ∷ nodes) (doubted size others) (λ i j d before within. inr (refl, in_order-doubted size others later i j d before within)))
    (in_order-doubted (suc size) others later)
    (λ nodes other in_first in_second.
    let found = Contains-map_only (λ nodes. node ∷ nodes) (doubted size others) nodes in_first in
    subst (λ (s : List ℕ). ComesFirst s other) found.2 (first_comes_first size node others found.0 other rising (IsDoubted-listed (suc size) others other later in_second)))
