-- The hypotheses of one size, listed in order: each of them, once, and nothing else.
use Rattle.std.proofs.Common.{◌≡◌, ℕ, suc, zero, ◌+◌, ◌<◌, ◌≤◌, leb, Bool, true, false, cond, List, [], ◌∷◌, length, map, get_or, inl, inr, ⊎_elim, refl, arith, sym, subst}
use Rattle.std.specs.List.{All, AllPairs, Contains}
use Rattle.std.proofs.Math.Nat.{eq-or-lt_of_le}
use Rattle.std.proofs.lemmas.Bool.{leb-true, le-leb, cond-true}
use Rattle.std.proofs.lemmas.List.Elements.{All-nil, Contains-get_or, Contains-append_left, Contains-append_right, Contains-append_cases}
use Rattle.tfpg_base.specs.Hypothesis.{Hypothesis, believing}
use Rattle.tfpg_base.proofs.lemmas.lists.Elements.{AllPairs-head, AllPairs-tail, AllPairs-cons, Contains-head, Contains-cons_cases, Contains-nil}
use Rattle.tfpg_base.proofs.lemmas.lists.Ordered.{Rises, AllPairs-nil, AllPairs-append}
use Rattle.tfpg_base.proofs.lemmas.lists.Images.{AllPairs-map, Contains-map, Contains-map_only}
use Rattle.tfpg_graph.specs.Graph.{Tfpg, failures}
use Rattle.tfpg_hyp.specs.Table.{ComesFirst, monitors, member_numbers}
use Rattle.tfpg_hyp.specs.inside.Choices.{chosen, doubted, doubting, with_first}
use Rattle.tfpg_hyp.proofs.lemmas.Doubted.{IsDoubted, IsDoubted-listed, Contains-doubted, in_order-doubted}
use Rattle.tfpg_hyp.proofs.lemmas.MonitorNumbers.{ComesFirst-numbers, Rises-monitors}

-- failure modes of so many positions, from the least on, and doubts of these monitors, at most so many: so many together
pub record IsChoice (nodes : List ℕ) (doubt count size least : ℕ) (hypothesis : Hypothesis) : Type 0 where
  pub rising : Rises hypothesis.set
  pub low : All (λ index. least ≤ index) hypothesis.set
  pub high : All (λ index. index < least + count) hypothesis.set
  pub doubts : IsDoubted (length hypothesis.doubts) nodes hypothesis.doubts
  pub few : length hypothesis.doubts ≤ doubt
  pub size_is : length hypothesis.set + length hypothesis.doubts ≡ size

-- a list with one member at most that is listed in a list by a test
Contains-cond_true : (test : Bool) (xs : List Hypothesis) (x : Hypothesis) → Contains (cond test xs []) x → (test ≡ true) × Contains xs x
Contains-cond_true true xs x has = (refl, has)
Contains-cond_true false xs x has = absurd (Contains-nil x has)

module _ (nodes : List ℕ) (doubt : ℕ) (rises : Rises nodes) where
  -- ---- what is chosen

  -- nobody failed, and nothing is doubted
  IsChoice-nil : (count least : ℕ) → IsChoice nodes doubt count 0 least (believing [])
  IsChoice-nil count least = record {
    rising = AllPairs-nil ◌<◌;
    low = All-nil (λ index. least ≤ index);
    high = All-nil (λ index. index < least + count);
    doubts = record { rising = AllPairs-nil ◌<◌; among = All-nil (Contains nodes); size_is = refl };
    few = omega arith;
    size_is = refl;
  }

  -- doubts alone
  IsChoice-doubting : (count least size : ℕ) (doubts : List ℕ) → size ≤ doubt → IsDoubted size nodes doubts → IsChoice nodes doubt count size least (doubting doubts)
  IsChoice-doubting count least size doubts few is = record {
    rising = AllPairs-nil ◌<◌;
    low = All-nil (λ index. least ≤ index);
    high = All-nil (λ index. index < least + count);
    doubts = record { rising = is.rising; among = is.among; size_is = refl };
    few = omega (arith, few, is.size_is);
    size_is = omega (arith, is.size_is);
  }

  -- the least position before greater ones
  IsChoice-cons : (count size least : ℕ) (hypothesis : Hypothesis) → IsChoice nodes doubt count size (least + 1) hypothesis → IsChoice nodes doubt (suc count) (suc size) least (with_first least hypothesis)
  IsChoice-cons count size least hypothesis is = record {
    rising = AllPairs-cons ◌<◌ least hypothesis.set (λ k d within. omega (arith, is.low k d within)) is.rising;
    low = λ k d within. by_low k d within;
    high = λ k d within. by_high k d within;
    doubts = is.doubts;
    few = is.few;
    size_is = omega (arith, is.size_is);
  }
    where
      by_low : All (λ index. least ≤ index) (least ∷ hypothesis.set)
      by_low zero d within = omega arith
      by_low (suc k) d within = omega (arith, is.low k d (omega arith))

      by_high : All (λ index. index < least + suc count) (least ∷ hypothesis.set)
      by_high zero d within = omega arith
      by_high (suc k) d within = omega (arith, is.high k d (omega arith))

  -- the greater positions alone
  IsChoice-wider : (count size least : ℕ) (hypothesis : Hypothesis) → IsChoice nodes doubt count size (least + 1) hypothesis → IsChoice nodes doubt (suc count) size least hypothesis
  IsChoice-wider count size least hypothesis is = record {
    rising = is.rising;
    low = λ k d within. omega (arith, is.low k d within);
    high = λ k d within. omega (arith, is.high k d within);
    doubts = is.doubts;
    few = is.few;
    size_is = is.size_is;
  }

  -- Each chosen hypothesis is a choice.
  pub IsChoice-chosen : (count size least : ℕ) (hypothesis : Hypothesis) → Contains (chosen nodes doubt count size least) hypothesis → IsChoice nodes doubt count size least hypothesis
  IsChoice-chosen zero size least hypothesis member =
      let kept = Contains-cond_true (leb size doubt) (map doubting (doubted size nodes)) hypothesis member in
      let found = Contains-map_only doubting (doubted size nodes) hypothesis kept.1 in
      subst (IsChoice nodes doubt 0 size least) found.2 (IsChoice-doubting 0 least size found.0 (leb-true size doubt kept.0) (IsDoubted-listed size nodes found.0 rises found.1))
  IsChoice-chosen (suc count) zero least hypothesis member =
      ⊎_elim (λ is. subst (IsChoice nodes doubt (suc count) 0 least) is (IsChoice-nil (suc count) least)) (λ none. absurd (Contains-nil hypothesis none)) (Contains-cons_cases (believing []) [] hypothesis member)
  IsChoice-chosen (suc count) (suc size) least hypothesis member =
      ⊎_elim
      (λ with_least. let found = Contains-map_only (with_first least) (chosen nodes doubt count size (least + 1)) hypothesis with_least in
      subst (IsChoice nodes doubt (suc count) (suc size) least) found.2 (IsChoice-cons count size least found.0 (IsChoice-chosen count size (least + 1) found.0 found.1)))
      (λ without. IsChoice-wider count (suc size) least hypothesis (IsChoice-chosen count (suc size) (least + 1) hypothesis without))
      (Contains-append_cases (map (with_first least) (chosen nodes doubt count size (least + 1))) (chosen nodes doubt count (suc size) (least + 1)) hypothesis member)

  -- ---- all is chosen

  -- doubts alone, where they are few enough
  Contains-doubting : (size least : ℕ) (doubts : List ℕ) → IsChoice nodes doubt 0 size least (doubting doubts) → Contains (chosen nodes doubt 0 size least) (doubting doubts)
  Contains-doubting size least doubts is =
      subst (λ (listed : List Hypothesis). Contains listed (doubting doubts)) (sym (cond-true (leb size doubt) (map doubting (doubted size nodes)) [] (le-leb size doubt (omega (arith, is.few, is.size_is)))))
      (Contains-map doubting (doubted size nodes) doubts (Contains-doubted size nodes doubts rises (record { rising = is.doubts.rising; among = is.doubts.among; size_is = omega (arith, is.size_is) })))

  all_above : (least index : ℕ) (others : List ℕ) → least < index → All (λ p. index < p) others → All (λ p. least + 1 ≤ p) (index ∷ others)
  all_above least index others greater later zero d within = omega arith
  all_above least index others greater later (suc k) d within = omega (arith, later k d (omega arith))

  -- Each choice is chosen.
  pub Contains-chosen : (count size least : ℕ) (set doubts : List ℕ) → IsChoice nodes doubt count size least (record { set = set; doubts = doubts })
      → Contains (chosen nodes doubt count size least) (record { set = set; doubts = doubts })
  Contains-chosen zero size least [] doubts is = Contains-doubting size least doubts is
  Contains-chosen zero size least (index ∷ others) doubts is = absurd (omega (arith, is.low 0 0 (omega arith), is.high 0 0 (omega arith)))
  Contains-chosen (suc count) zero least [] [] is = Contains-head (believing []) []
  Contains-chosen (suc count) zero least [] (node ∷ more) is = absurd (omega (arith, is.size_is))
  Contains-chosen (suc count) zero least (index ∷ others) doubts is = absurd (omega (arith, is.size_is))
  Contains-chosen (suc count) (suc size) least [] doubts is =
      Contains-append_right (map (with_first least) (chosen nodes doubt count size (least + 1))) (chosen nodes doubt count (suc size) (least + 1)) (doubting doubts)
      (Contains-chosen count (suc size) (least + 1) [] doubts (record {
        rising = is.rising;
        low = All-nil (λ index. least + 1 ≤ index);
        high = All-nil (λ index. index < least + 1 + count);
        doubts = is.doubts;
        few = is.few;
        size_is = is.size_is;
      }))
  Contains-chosen (suc count) (suc size) least (index ∷ others) doubts is =
      let later = AllPairs-head ◌<◌ index others is.rising in
      ⊎_elim
      (λ same.
      let rest : IsChoice nodes doubt count size (least + 1) (record { set = others; doubts = doubts }) = record {
        rising = AllPairs-tail ◌<◌ index others is.rising;
        low = λ k d within. omega (arith, same, later k d within);
        high = λ k d within. omega (arith, is.high (suc k) d (omega arith));
        doubts = is.doubts;
        few = is.few;
        size_is = omega (arith, is.size_is);
      } in
      Contains-append_left (map (with_first least) (chosen nodes doubt count size (least + 1))) (chosen nodes doubt count (suc size) (least + 1)) (record { set = index ∷ others; doubts = doubts })
      (subst (λ (p : ℕ). Contains (map (with_first least) (chosen nodes doubt count size (least + 1))) (record { set = p ∷ others; doubts = doubts })) same
      (Contains-map (with_first least) (chosen nodes doubt count size (least + 1)) (record { set = others; doubts = doubts }) (Contains-chosen count size (least + 1) others doubts rest))))
      (λ greater.
      let wide : IsChoice nodes doubt count (suc size) (least + 1) (record { set = index ∷ others; doubts = doubts }) = record {
        rising = is.rising;
        low = all_above least index others greater later;
        high = λ k d within. omega (arith, is.high k d within);
        doubts = is.doubts;
        few = is.few;
        size_is = is.size_is;
      } in
      Contains-append_right (map (with_first least) (chosen nodes doubt count size (least + 1))) (chosen nodes doubt count (suc size) (least + 1)) (record { set = index ∷ others; doubts = doubts })
      (Contains-chosen count (suc size) (least + 1) (index ∷ others) doubts wide))
      (eq-or-lt_of_le (is.low 0 0 (omega arith)))

-- ---- in order

-- the members of the one come before those of the other
abbrev pub MembersComeFirst : Tfpg → Hypothesis → Hypothesis → Type 0
MembersComeFirst graph a b = ComesFirst (member_numbers graph a) (member_numbers graph b)

module _ (graph : Tfpg) (doubt : ℕ) where
  -- a hypothesis with the least position comes before one of the others
  least_comes_first : (count size least : ℕ) (rest : Hypothesis) (set doubts : List ℕ) → least < length (failures graph)
      → IsChoice (monitors graph) doubt count (suc size) (least + 1) (record { set = set; doubts = doubts }) → MembersComeFirst graph (with_first least rest) (record { set = set; doubts = doubts })
  least_comes_first count size least rest [] [] within is = absurd (omega (arith, is.size_is))
  least_comes_first count size least rest [] (node ∷ more) within is = inl (omega (arith, within))
  least_comes_first count size least rest (index ∷ others) doubts within is = inl (omega (arith, is.low 0 0 (omega arith)))

  -- doubts alone stand in order
  in_order-doubting : (size : ℕ) → AllPairs (MembersComeFirst graph) (map doubting (doubted size (monitors graph)))
  in_order-doubting size =
      AllPairs-map (MembersComeFirst graph) doubting (doubted size (monitors graph))
      (λ i j d before within.
      let is = IsDoubted-listed size (monitors graph) (get_or (doubted size (monitors graph)) i d) (Rises-monitors graph) (Contains-get_or (doubted size (monitors graph)) i d (omega (arith, before, within))) in
      ComesFirst-numbers graph (get_or (doubted size (monitors graph)) i d) (get_or (doubted size (monitors graph)) j d) is.among
      (in_order-doubted size (monitors graph) (Rises-monitors graph) i j d before within))

  in_order-kept : (test : Bool) (xs : List Hypothesis) → AllPairs (MembersComeFirst graph) xs → AllPairs (MembersComeFirst graph) (cond test xs [])
  in_order-kept true xs ordered = ordered
  in_order-kept false xs ordered = AllPairs-nil (MembersComeFirst graph)

  -- The chosen hypotheses stand in order.
  pub in_order-chosen : (count size least : ℕ) → least + count ≤ length (failures graph) → AllPairs (MembersComeFirst graph) (chosen (monitors graph) doubt count size least)
  in_order-chosen zero size least within = in_order-kept (leb size doubt) (map doubting (doubted size (monitors graph))) (in_order-doubting size)
  in_order-chosen (suc count) zero least within = AllPairs-cons (MembersComeFirst graph) (believing []) [] (All-nil (MembersComeFirst graph (believing []))) (AllPairs-nil (MembersComeFirst graph))
  in_order-chosen (suc count) (suc size) least within =
      AllPairs-append (MembersComeFirst graph) (map (with_first least) (chosen (monitors graph) doubt count size (least + 1))) (chosen (monitors graph) doubt count (suc size) (least + 1))
      (AllPairs-map (MembersComeFirst graph) (with_first least) (chosen (monitors graph) doubt count size (least + 1))
      (λ i j d before inside. inr (refl, in_order-chosen count size (least + 1) (omega (arith, within)) i j d before inside)))
      (in_order-chosen count (suc size) (least + 1) (omega (arith, within)))
      (λ hypothesis other in_first in_second.
      let found = Contains-map_only (with_first least) (chosen (monitors graph) doubt count size (least + 1)) hypothesis in_first in
      subst (λ (h : Hypothesis). MembersComeFirst graph h other) found.2
      (least_comes_first count size least found.0 other.set other.doubts (omega (arith, within)) (IsChoice-chosen (monitors graph) doubt (Rises-monitors graph) count (suc size) (least + 1) other in_second)))
