-- The hypotheses of one size with one member more, in order, are those of the next size.
use Rattle.std.proofs.Common.{◌≡◌, ℕ, suc, zero, ◌+◌, ◌-◌, ◌<◌, ◌≤◌, leb, ltb, Bool, true, false, cond, List, [], ◌∷◌, ◌++◌, length, map, refl, arith, sym, ◌∙◌, ap, ◌⊎◌, ⊎_elim, append_assoc, add-one, take, drop, get_or, length-drop}
use Rattle.std.specs.List.{All, Contains, flat_map, range_with_len}
use Rattle.std.proofs.lemmas.Bool.{cases_lt, cond-true, cond-false, le-leb, lt-leb, leb-false, lt-ltb, le-ltb}
use Rattle.std.proofs.Math.Seq.{drop-append_seam}
use Rattle.std.proofs.lemmas.Grind.{flat_map-append}
use Rattle.std.proofs.lemmas.List.{append-nil, map-append, take_more, take_all, get_or-drop, get_or_append_left}
use Rattle.std.proofs.lemmas.List.Elements.{All-nil, All-cons, All-head, All-tail, All-weaker, All-contains, filter-append}
use Rattle.tfpg_base.specs.Hypothesis.{Hypothesis, believing}
use Rattle.tfpg_base.specs.Set.{with_member}
use Rattle.tfpg_base.proofs.lemmas.Sets.{with_member-last}
use Rattle.tfpg_base.proofs.lemmas.lists.Appended.{appended_more}
use Rattle.tfpg_base.proofs.lemmas.lists.Elements.{All-from_members, AllPairs-head, AllPairs-tail}
use Rattle.tfpg_base.proofs.lemmas.lists.Images.{map-map, flat_map-same}
use Rattle.tfpg_base.proofs.lemmas.lists.Ordered.{Rises}
use Rattle.tfpg_hyp.specs.inside.Choices.{chosen, chosen_below, doubted, doubting, with_first}
use Rattle.tfpg_hyp.specs.inside.Larger.{next_after, between, with_position, with_doubt, unless_doubting, positions_after, from_node, monitors_after, larger}
use Rattle.tfpg_hyp.proofs.lemmas.Chosen.{IsChoice-chosen}
use Rattle.tfpg_hyp.proofs.lemmas.Doubted.{IsDoubted-listed}

-- ---- lists

flat_map-map : {X Y Z : Type 0} (f : Y → List Z) (g : X → Y) (xs : List X) → flat_map f (map g xs) ≡ flat_map (λ (x : X). f (g x)) xs
flat_map-map f g [] = refl
flat_map-map f g (x ∷ xs) = ap (λ zs. f (g x) ++ zs) (flat_map-map f g xs)

map-flat_map : {X Y Z : Type 0} (g : Y → Z) (f : X → List Y) (xs : List X) → map g (flat_map f xs) ≡ flat_map (λ (x : X). map g (f x)) xs
map-flat_map g f [] = refl
map-flat_map g f (x ∷ xs) = map-append g (f x) (flat_map f xs) ∙ ap (λ zs. map g (f x) ++ zs) (map-flat_map g f xs)

flat_map-none : {X Y : Type 0} (f : X → List Y) (xs : List X) → All (λ x. f x ≡ []) xs → flat_map f xs ≡ []
flat_map-none f [] none = refl
flat_map-none f (x ∷ xs) none = (λ i. All-head (λ y. f y ≡ []) x xs none i ++ flat_map-none f xs (All-tail (λ y. f y ≡ []) x xs none) i)

-- ---- after rising numbers

-- the next number is not before the least
next_after-from : (least : ℕ) (numbers : List ℕ) → Rises numbers → All (λ number. least ≤ number) numbers → least ≤ next_after least numbers
next_after-from least [] rising from = omega arith
next_after-from least (first ∷ others) rising from =
    let above = AllPairs-head ◌<◌ first others rising in
    let more = next_after-from (first + 1) others (AllPairs-tail ◌<◌ first others rising) (All-weaker (λ other. first < other) (λ other. first + 1 ≤ other) (λ other lt. omega (arith, lt)) others above) in
    omega (arith, more, All-head (λ number. least ≤ number) first others from)

-- each of them is before it
pub below_next : (least : ℕ) (numbers : List ℕ) → Rises numbers → All (λ number. number < next_after least numbers) numbers
below_next least [] rising = All-nil (λ number. number < next_after least [])
below_next least (first ∷ others) rising =
    let above = AllPairs-head ◌<◌ first others rising in
    let later = AllPairs-tail ◌<◌ first others rising in
    let more = next_after-from (first + 1) others later (All-weaker (λ other. first < other) (λ other. first + 1 ≤ other) (λ other lt. omega (arith, lt)) others above) in
    All-cons (λ number. number < next_after (first + 1) others) first others (omega (arith, more)) (below_next (first + 1) others later)

-- ---- one doubt more

-- the sets of monitors with one more
abbrev with_node : ℕ → List ℕ → List ℕ → List (List ℕ)
with_node least monitors nodes = map (λ node. nodes ++ node ∷ []) (from_node (next_after least nodes) monitors)

-- all monitors are from the least on
from_node-all : (least : ℕ) (monitors : List ℕ) → All (λ node. least ≤ node) monitors → from_node least monitors ≡ monitors
from_node-all least [] from = refl
from_node-all least (node ∷ others) from =
    ap (λ b. cond b (node ∷ from_node least others) (from_node least others)) (le-leb least node (All-head (λ n. least ≤ n) node others from))
    ∙ ap (λ ns. node ∷ ns) (from_node-all least others (All-tail (λ n. least ≤ n) node others from))

-- the first is before the least
from_node-others : (least node : ℕ) (others : List ℕ) → node < least → from_node least (node ∷ others) ≡ from_node least others
from_node-others least node others before = ap (λ b. cond b (node ∷ from_node least others) (from_node least others)) (lt-leb least node before)

-- those after a first monitor
above_first : (node : ℕ) (others : List ℕ) → Rises (node ∷ others) → All (λ n. node + 1 ≤ n) others
above_first node others rising = All-weaker (λ n. node < n) (λ n. node + 1 ≤ n) (λ n lt. omega (arith, lt)) others (AllPairs-head ◌<◌ node others rising)

-- a set of them is from there on, and so is what follows it
after_first : (size node : ℕ) (others nodes : List ℕ) → Rises (node ∷ others) → Contains (doubted size others) nodes → node < next_after (node + 1) nodes
after_first size node others nodes rising member =
    let is = IsDoubted-listed size others nodes (AllPairs-tail ◌<◌ node others rising) member in
    let from = All-from_members (λ n. node + 1 ≤ n) nodes (λ n has. All-contains (λ m. node + 1 ≤ m) others n (above_first node others rising) (All-contains (Contains others) nodes n is.among has)) in
    omega (arith, next_after-from (node + 1) nodes is.rising from)

next_after-some : (least other size : ℕ) (nodes : List ℕ) → length nodes ≡ suc size → next_after least nodes ≡ next_after other nodes
next_after-some least other size [] none = absurd (omega (arith, none))
next_after-some least other size (first ∷ others) some = refl

-- one monitor alone
doubted-one : (monitors : List ℕ) → doubted 1 monitors ≡ map (λ (n : ℕ). n ∷ []) monitors
doubted-one [] = refl
doubted-one (node ∷ others) = ap (λ rest. (node ∷ []) ∷ rest) (doubted-one others)

pub doubted-larger : (size least : ℕ) (monitors : List ℕ) → Rises monitors → All (λ node. least ≤ node) monitors → flat_map (with_node least monitors) (doubted size monitors) ≡ doubted (suc size) monitors
doubted-larger zero least monitors rising from =
    append-nil (with_node least monitors []) ∙ ap (map (λ (n : ℕ). n ∷ [])) (from_node-all least monitors from) ∙ sym (doubted-one monitors)
doubted-larger (suc size) least [] rising from = refl
doubted-larger (suc size) least (node ∷ others) rising from =
    let later = AllPairs-tail ◌<◌ node others rising in
    let above = above_first node others rising in
    let first_in : flat_map (with_node least (node ∷ others)) (map (λ (rest : List ℕ). node ∷ rest) (doubted size others)) ≡ map (λ (rest : List ℕ). node ∷ rest) (doubted (suc size) others) =
    flat_map-map (with_node least (node ∷ others)) (λ (rest : List ℕ). node ∷ rest) (doubted size others)
    ∙ flat_map-same (λ nodes. with_node least (node ∷ others) (node ∷ nodes)) (λ nodes. map (λ (rest : List ℕ). node ∷ rest) (with_node (node + 1) others nodes)) (doubted size others)
    (All-from_members (λ nodes. with_node least (node ∷ others) (node ∷ nodes) ≡ map (λ (rest : List ℕ). node ∷ rest) (with_node (node + 1) others nodes)) (doubted size others)
    (λ nodes has. ap (map (λ (n : ℕ). node ∷ (nodes ++ n ∷ []))) (from_node-others (next_after (node + 1) nodes) node others (after_first size node others nodes rising has))
    ∙ sym (map-map (λ (rest : List ℕ). node ∷ rest) (λ (n : ℕ). nodes ++ n ∷ []) (from_node (next_after (node + 1) nodes) others))))
    ∙ sym (map-flat_map (λ (rest : List ℕ). node ∷ rest) (with_node (node + 1) others) (doubted size others))
    ∙ ap (map (λ (rest : List ℕ). node ∷ rest)) (doubted-larger size (node + 1) others later above) in
    let first_out : flat_map (with_node least (node ∷ others)) (doubted (suc size) others) ≡ doubted (suc (suc size)) others =
    flat_map-same (with_node least (node ∷ others)) (with_node (node + 1) others) (doubted (suc size) others)
    (All-from_members (λ nodes. with_node least (node ∷ others) nodes ≡ with_node (node + 1) others nodes) (doubted (suc size) others)
    (λ nodes has. ap (λ (n : ℕ). map (λ (m : ℕ). nodes ++ m ∷ []) (from_node n (node ∷ others))) (next_after-some least (node + 1) size nodes (IsDoubted-listed (suc size) others nodes later has).size_is)
    ∙ ap (map (λ (m : ℕ). nodes ++ m ∷ [])) (from_node-others (next_after (node + 1) nodes) node others (after_first (suc size) node others nodes rising has))))
    ∙ doubted-larger (suc size) (node + 1) others later above in
    flat_map-append (with_node least (node ∷ others)) (map (λ (rest : List ℕ). node ∷ rest) (doubted size others)) (doubted (suc size) others)
    ∙ (λ i. first_in i ++ first_out i)

-- ---- one member more

module _ (nodes : List ℕ) (doubt : ℕ) (rises : Rises nodes) where
  -- without failure modes
  larger-doubting : (end size : ℕ) (test : Bool) → leb size doubt ≡ test → flat_map (larger nodes doubt end end) (cond test (map doubting (doubted size nodes)) []) ≡ cond (leb (suc size) doubt) (map doubting (doubted (suc size) nodes)) []
  larger-doubting end size false many = sym (cond-false (leb (suc size) doubt) (map doubting (doubted (suc size) nodes)) [] (lt-leb (suc size) doubt (omega (arith, leb-false size doubt many))))
  larger-doubting end size true few =
      flat_map-map (larger nodes doubt end end) doubting (doubted size nodes)
      ∙ ⊎_elim (λ less.
      flat_map-same (λ ns. larger nodes doubt end end (doubting ns)) (λ ns. map doubting (with_node 0 nodes ns)) (doubted size nodes)
      (All-from_members (λ ns. larger nodes doubt end end (doubting ns) ≡ map doubting (with_node 0 nodes ns)) (doubted size nodes)
      (λ ns has. (λ i. map (with_position (doubting ns)) (no_position end ns i) ++ map (with_doubt (doubting ns)) (cond (lt-ltb (length ns) doubt (omega (arith, less, sized ns has)) i) (from_node (next_after 0 ns) nodes) []))
      ∙ sym (map-map doubting (λ (n : ℕ). ns ++ n ∷ []) (from_node (next_after 0 ns) nodes))))
      ∙ sym (map-flat_map doubting (with_node 0 nodes) (doubted size nodes))
      ∙ ap (map doubting) (doubted-larger size 0 nodes rises (λ i d within. omega arith))
      ∙ sym (cond-true (leb (suc size) doubt) (map doubting (doubted (suc size) nodes)) [] (le-leb (suc size) doubt (omega (arith, less)))))
      (λ not_less.
      flat_map-none (λ ns. larger nodes doubt end end (doubting ns)) (doubted size nodes)
      (All-from_members (λ ns. larger nodes doubt end end (doubting ns) ≡ []) (doubted size nodes)
      (λ ns has. (λ i. map (with_position (doubting ns)) (no_position end ns i) ++ map (with_doubt (doubting ns)) (cond (le-ltb (length ns) doubt (omega (arith, not_less, sized ns has)) i) (from_node (next_after 0 ns) nodes) []))))
      ∙ sym (cond-false (leb (suc size) doubt) (map doubting (doubted (suc size) nodes)) [] (lt-leb (suc size) doubt (omega (arith, not_less)))))
      (cases_lt size doubt)
    where
      sized : (ns : List ℕ) → Contains (doubted size nodes) ns → length ns ≡ size
      sized ns has = (IsDoubted-listed size nodes ns rises has).size_is

      no_position : (e : ℕ) (ns : List ℕ) → unless_doubting ns (between e e) ≡ []
      no_position e [] = let none : e - e ≡ 0 = omega arith in ap (range_with_len e) none
      no_position e (n ∷ ns) = refl

  -- there is one of size 0
  chosen-empty : (count least : ℕ) → chosen nodes doubt count 0 least ≡ believing [] ∷ []
  chosen-empty zero least = cond-true (leb 0 doubt) (map doubting (doubted 0 nodes)) [] (le-leb 0 doubt (omega arith))
  chosen-empty (suc count) least = refl

  -- with the least position before it
  larger-first : (end least : ℕ) (hypothesis : Hypothesis) → larger nodes doubt end least (with_first least hypothesis) ≡ map (with_first least) (larger nodes doubt end (least + 1) hypothesis)
  larger-first end least hypothesis =
      (λ i. sym (map-map (with_first least) (with_position hypothesis) (positions_after end (least + 1) hypothesis)) i ++ sym (map-map (with_first least) (with_doubt hypothesis) (monitors_after nodes doubt hypothesis)) i)
      ∙ sym (map-append (with_first least) (map (with_position hypothesis) (positions_after end (least + 1) hypothesis)) (map (with_doubt hypothesis) (monitors_after nodes doubt hypothesis)))

  -- without it, where there are other members
  larger-without : (end least size : ℕ) (hypothesis : Hypothesis) → length hypothesis.set + length hypothesis.doubts ≡ suc size → larger nodes doubt end least hypothesis ≡ larger nodes doubt end (least + 1) hypothesis
  larger-without end least size hypothesis some =
      ap (λ positions. map (with_position hypothesis) positions ++ map (with_doubt hypothesis) (monitors_after nodes doubt hypothesis)) (by hypothesis.set hypothesis.doubts some)
    where
      by : (set doubts : List ℕ) → length set + length doubts ≡ suc size → unless_doubting doubts (between (next_after least set) end) ≡ unless_doubting doubts (between (next_after (least + 1) set) end)
      by [] [] none = absurd (omega (arith, none))
      by [] (d ∷ ds) any = refl
      by (p ∷ ps) ds any = refl

  -- All of one size with one member more are those of the next size.
  pub larger-chosen : (count size least end : ℕ) → least + count ≡ end → flat_map (larger nodes doubt end least) (chosen nodes doubt count size least) ≡ chosen nodes doubt count (suc size) least
  larger-chosen zero size least end is =
      let same : least ≡ end = omega (arith, is) in
      ap (λ l. flat_map (larger nodes doubt end l) (chosen nodes doubt zero size least)) same ∙ larger-doubting end size (leb size doubt) refl
  larger-chosen (suc count) zero least end is =
      let rest = larger-chosen count zero (least + 1) end (omega (arith, is)) in
      let length_is : end - least ≡ suc (end - (least + 1)) = omega (arith, is) in
      let alone : larger nodes doubt end (least + 1) (believing []) ≡ chosen nodes doubt count 1 (least + 1) =
      sym (append-nil (larger nodes doubt end (least + 1) (believing []))) ∙ ap (flat_map (larger nodes doubt end (least + 1))) (sym (chosen-empty count (least + 1))) ∙ rest in
      append-nil (larger nodes doubt end least (believing []))
      ∙ ap (λ n. map (with_position (believing [])) (range_with_len least n) ++ map (with_doubt (believing [])) (monitors_after nodes doubt (believing []))) length_is
      ∙ ap (λ hs. with_first least (believing []) ∷ hs) alone
      ∙ ap (λ hs. map (with_first least) hs ++ chosen nodes doubt count 1 (least + 1)) (sym (chosen-empty count (least + 1)))
  larger-chosen (suc count) (suc size) least end is =
      let first = chosen nodes doubt count size (least + 1) in
      let others = chosen nodes doubt count (suc size) (least + 1) in
      let first_in : flat_map (larger nodes doubt end least) (map (with_first least) first) ≡ map (with_first least) (chosen nodes doubt count (suc size) (least + 1)) =
      flat_map-map (larger nodes doubt end least) (with_first least) first
      ∙ flat_map-same (λ h. larger nodes doubt end least (with_first least h)) (λ h. map (with_first least) (larger nodes doubt end (least + 1) h)) first
      (All-from_members (λ h. larger nodes doubt end least (with_first least h) ≡ map (with_first least) (larger nodes doubt end (least + 1) h)) first (λ h has. larger-first end least h))
      ∙ sym (map-flat_map (with_first least) (larger nodes doubt end (least + 1)) first)
      ∙ ap (map (with_first least)) (larger-chosen count size (least + 1) end (omega (arith, is))) in
      let first_out : flat_map (larger nodes doubt end least) others ≡ chosen nodes doubt count (suc (suc size)) (least + 1) =
      flat_map-same (larger nodes doubt end least) (larger nodes doubt end (least + 1)) others
      (All-from_members (λ h. larger nodes doubt end least h ≡ larger nodes doubt end (least + 1) h) others
      (λ h has. larger-without end least size h (IsChoice-chosen nodes doubt rises count (suc size) (least + 1) h has).size_is))
      ∙ larger-chosen count (suc size) (least + 1) end (omega (arith, is)) in
      flat_map-append (larger nodes doubt end least) (map (with_first least) first) others ∙ (λ i. first_in i ++ first_out i)

-- ---- how they are appended

-- one number more
between-more : (least count : ℕ) → range_with_len least (suc count) ≡ range_with_len least count ++ (least + count) ∷ []
between-more least zero = let same : least ≡ least + 0 = omega arith in ap (λ n. n ∷ []) same
between-more least (suc count) =
    let same : least + 1 + count ≡ least + suc count = omega arith in
    ap (λ ns. least ∷ ns) (between-more (least + 1) count ∙ ap (λ n. range_with_len (least + 1) count ++ n ∷ []) same)

-- one position more
positions-next : (old : List Hypothesis) (hypothesis : Hypothesis) (least position : ℕ) → least ≤ position
    → (old ++ map (with_position hypothesis) (between least position)) ++ with_position hypothesis position ∷ [] ≡ old ++ map (with_position hypothesis) (between least (position + 1))
positions-next old hypothesis least position from =
    let count : position + 1 - least ≡ suc (position - least) = omega (arith, from) in
    let last : least + (position - least) ≡ position = omega (arith, from) in
    append_assoc old (map (with_position hypothesis) (between least position)) (with_position hypothesis position ∷ [])
    ∙ ap (λ (hs : List Hypothesis). old ++ hs)
    (sym (map-append (with_position hypothesis) (between least position) (position ∷ []))
    ∙ ap (λ (n : ℕ). map (with_position hypothesis) (between least position ++ n ∷ [])) (sym last)
    ∙ ap (map (with_position hypothesis)) (sym (between-more least (position - least)) ∙ ap (range_with_len least) (sym count)))

-- one monitor more, where it is from the least on
monitors-next : (old : List Hypothesis) (hypothesis : Hypothesis) (least node : ℕ) (before : List ℕ) → least ≤ node
    → (old ++ map (with_doubt hypothesis) (from_node least before)) ++ with_doubt hypothesis node ∷ [] ≡ old ++ map (with_doubt hypothesis) (from_node least (before ++ node ∷ []))
monitors-next old hypothesis least node before from =
    append_assoc old (map (with_doubt hypothesis) (from_node least before)) (with_doubt hypothesis node ∷ [])
    ∙ ap (λ (hs : List Hypothesis). old ++ hs)
    (sym (map-append (with_doubt hypothesis) (from_node least before) (node ∷ []))
    ∙ ap (map (with_doubt hypothesis)) (sym (filter-append (leb least) before (node ∷ []) ∙ ap (λ (b : Bool). from_node least before ++ cond b (node ∷ []) []) (le-leb least node from))))

-- else it adds none
monitors-same : (least node : ℕ) (before : List ℕ) → node < least → from_node least (before ++ node ∷ []) ≡ from_node least before
monitors-same least node before below =
    filter-append (leb least) before (node ∷ []) ∙ ap (λ (b : Bool). from_node least before ++ cond b (node ∷ []) []) (lt-leb least node below) ∙ append-nil (from_node least before)

module _ (old mid new : List Hypothesis) (hypothesis : Hypothesis) where
  module _ (position : ℕ) (from : next_after 0 hypothesis.set ≤ position) where
    -- one position more is appended
    pub positions-turn : (set doubts : List ℕ) → Rises hypothesis.set → mid ≡ old ++ map (with_position hypothesis) (between (next_after 0 hypothesis.set) position)
        → set ≡ with_member position hypothesis.set → doubts ≡ hypothesis.doubts → new ≡ mid ++ record { set = set; doubts = doubts } ∷ []
        → new ≡ old ++ map (with_position hypothesis) (between (next_after 0 hypothesis.set) (position + 1))
    positions-turn set doubts rises so_far set_is doubts_are is =
        let earlier = All-weaker (λ p. p < next_after 0 hypothesis.set) (λ p. p < position) (λ p lt. omega (arith, lt, from)) hypothesis.set (below_next 0 hypothesis.set rises) in
        is
        ∙ (λ i. so_far i ++ record { set = (set_is ∙ with_member-last position hypothesis.set earlier) i; doubts = doubts_are i } ∷ [])
        ∙ positions-next old hypothesis (next_after 0 hypothesis.set) position from

  module _ (monitors : List ℕ) (least index : ℕ) (least_is : least ≡ next_after 0 hypothesis.doubts) where
    module _ (within : index < length monitors) (so_far : mid ≡ old ++ map (with_doubt hypothesis) (from_node least (take index monitors))) where
      -- one monitor more is appended
      pub doubts-turn : (more : Hypothesis) → Rises hypothesis.doubts → least ≤ get_or monitors index 0
          → more ≡ record { set = hypothesis.set; doubts = with_member (get_or monitors index 0) hypothesis.doubts } → new ≡ mid ++ more ∷ []
          → new ≡ old ++ map (with_doubt hypothesis) (from_node least (take (index + 1) monitors))
      doubts-turn more rises from more_is is =
          let node = get_or monitors index 0 in
          let earlier = All-weaker (λ n. n < next_after 0 hypothesis.doubts) (λ n. n < node) (λ n lt. omega (arith, lt, from, least_is)) hypothesis.doubts (below_next 0 hypothesis.doubts rises) in
          is
          ∙ (λ i. so_far i ++ more_is i ∷ [])
          ∙ (λ i. (old ++ map (with_doubt hypothesis) (from_node least (take index monitors))) ++ record { set = hypothesis.set; doubts = with_member-last node hypothesis.doubts earlier i } ∷ [])
          ∙ monitors-next old hypothesis least node (take index monitors) from
          ∙ ap (λ (ns : List ℕ). old ++ map (with_doubt hypothesis) (from_node least ns)) (sym (take_more monitors index 0 within))

      -- none is
      pub doubts-pass : get_or monitors index 0 < least → new ≡ mid → new ≡ old ++ map (with_doubt hypothesis) (from_node least (take (index + 1) monitors))
      doubts-pass below is =
          is ∙ so_far
          ∙ ap (λ (ns : List ℕ). old ++ map (with_doubt hypothesis) ns) (sym (ap (from_node least) (take_more monitors index 0 within) ∙ monitors-same least (get_or monitors index 0) (take index monitors) below))

    -- all are
    pub doubts-end : (doubt : ℕ) → length hypothesis.doubts < doubt → length monitors ≤ index → new ≡ old ++ map (with_doubt hypothesis) (from_node least (take index monitors))
        → new ≡ old ++ map (with_doubt hypothesis) (monitors_after monitors doubt hypothesis)
    doubts-end doubt few past is =
        is
        ∙ ap (λ (ns : List ℕ). old ++ map (with_doubt hypothesis) ns)
        (ap (from_node least) (take_all index monitors past) ∙ ap (λ (n : ℕ). from_node n monitors) least_is
        ∙ sym (cond-true (ltb (length hypothesis.doubts) doubt) (from_node (next_after 0 hypothesis.doubts) monitors) [] (lt-ltb (length hypothesis.doubts) doubt few)))

-- no position yet, or none at all
pub positions-none : (old : List Hypothesis) (hypothesis : Hypothesis) (position : ℕ) → position ≤ next_after 0 hypothesis.set → old ≡ old ++ map (with_position hypothesis) (between (next_after 0 hypothesis.set) position)
positions-none old hypothesis position few =
    let none : position - next_after 0 hypothesis.set ≡ 0 = omega (arith, few) in
    sym (ap (λ (n : ℕ). old ++ map (with_position hypothesis) (range_with_len (next_after 0 hypothesis.set) n)) none ∙ append-nil old)

-- all positions, where nothing is doubted
pub positions-end : (old new : List Hypothesis) (hypothesis : Hypothesis) (position count : ℕ) → hypothesis.doubts ≡ []
    → new ≡ old ++ map (with_position hypothesis) (between (next_after 0 hypothesis.set) position) → (position ≡ count) ⊎ ((position ≤ next_after 0 hypothesis.set) × (count ≤ next_after 0 hypothesis.set))
    → new ≡ old ++ map (with_position hypothesis) (positions_after count 0 hypothesis)
positions-end old new hypothesis position count none is ends =
    is
    ∙ ⊎_elim (λ same. ap (λ (n : ℕ). old ++ map (with_position hypothesis) (between (next_after 0 hypothesis.set) n)) same)
    (λ few. sym (positions-none old hypothesis position few.0) ∙ positions-none old hypothesis count few.1) ends
    ∙ ap (λ (ds : List ℕ). old ++ map (with_position hypothesis) (unless_doubting ds (between (next_after 0 hypothesis.set) count))) (sym none)

-- what a turn over the last size appends
pub size-turn : (f : Hypothesis → List Hypothesis) (old mid new : List Hypothesis) (first number : ℕ) (hypothesis other : Hypothesis) → first ≤ number → number < length old
    → mid ≡ old ++ flat_map f (take (number - first) (drop first old)) → hypothesis ≡ get_or mid number other → new ≡ mid ++ f hypothesis
    → new ≡ old ++ flat_map f (take (number + 1 - first) (drop first old))
size-turn f old mid new first number hypothesis other from within so_far at is =
    let index : first + (number - first) ≡ number = omega (arith, from) in
    let next : number + 1 - first ≡ number - first + 1 = omega (arith, from) in
    let inside : number - first < length (drop first old) = omega (arith, length-drop first old, from, within) in
    let same : hypothesis ≡ get_or (drop first old) (number - first) other =
    at ∙ ap (λ (hs : List Hypothesis). get_or hs number other) so_far ∙ get_or_append_left old (flat_map f (take (number - first) (drop first old))) other number within
    ∙ sym (get_or-drop first old (number - first) other ∙ ap (λ (n : ℕ). get_or old n other) index) in
    appended_more f (drop first old) (number - first) other old mid new inside so_far (is ∙ ap (λ (h : Hypothesis). mid ++ f h) same)
    ∙ ap (λ (n : ℕ). old ++ flat_map f (take n (drop first old))) (sym next)

-- all of one size with one member more, after all up to that size
pub listed-next : (nodes : List ℕ) (doubt count size first : ℕ) → Rises nodes → (old new : List Hypothesis) → old ≡ chosen_below nodes doubt count (size + 1) → first ≡ length (chosen_below nodes doubt count size)
    → new ≡ old ++ flat_map (larger nodes doubt count 0) (drop first old) → new ≡ chosen_below nodes doubt count (size + 1 + 1)
listed-next nodes doubt count size first rises old new so_far first_is is =
    let all : old ≡ chosen_below nodes doubt count size ++ chosen nodes doubt count size 0 = so_far ∙ ap (chosen_below nodes doubt count) (add-one size) in
    let last : drop first old ≡ chosen nodes doubt count size 0 =
    (λ i. drop (first_is i) (all i)) ∙ drop-append_seam (chosen_below nodes doubt count size) (chosen nodes doubt count size 0) in
    let two : size + 1 + 1 ≡ suc (suc size) = omega arith in
    is ∙ (λ i. all i ++ flat_map (larger nodes doubt count 0) (last i))
    ∙ ap (λ hs. (chosen_below nodes doubt count size ++ chosen nodes doubt count size 0) ++ hs) (larger-chosen nodes doubt rises count size 0 count (omega arith))
    ∙ ap (chosen_below nodes doubt count) (sym two)

-- the one hypothesis of size 0
pub listed-first : (nodes : List ℕ) (doubt count : ℕ) → Rises nodes → believing [] ∷ [] ≡ chosen_below nodes doubt count 1
listed-first nodes doubt count rises = sym (chosen-empty nodes doubt rises count 0)
