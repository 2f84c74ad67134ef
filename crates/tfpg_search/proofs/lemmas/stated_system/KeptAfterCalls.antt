-- What is kept after each call of the system of a leaf, and what the call comes to.
use Rattle.std.proofs.Common.{◌≡◌, ℕ, ◌+◌, ◌*◌, ◌<◌, ◌≤◌, List, [], ◌∷◌, ◌++◌, length, set, map, take, Option, refl, sym, ◌∙◌, ap, subst, arith, length-append, length-drop, Some}
use Rattle.std.specs.Prelude.{pos, All, Ok, Err, slice_get}
use Rattle.std.proofs.lemmas.List.{length-set, length_push, length-take-le, drop_all}
use Rattle.tfpg_base.specs.declared.constraint.Constraint.{Constraint}
use Rattle.tfpg_base.specs.Bounds.{at_most, at_least}
use Rattle.tfpg_evidence.specs.declared.reason.Reason.{Reason}
use Rattle.tfpg_evidence.specs.declared.reason.Reason.TheVariants.{Pick}
use Rattle.tfpg_diff.specs.declared.why.Why.{Why}
use Rattle.tfpg_diff.specs.VariableBounds.{VariableBounds}
use Rattle.tfpg_diff.specs.Demands.{Demands, Bounded, demands_of}
use Rattle.tfpg_diff.specs.SystemState.{unbounded_from, with_floor, with_ceiling, with_pick, popped_to}
use Rattle.tfpg_diff.specs.Cycle.{NamesNegativeCycle}
use Rattle.tfpg_diff.proofs.lemmas.Bounding.{under, over}
use Rattle.tfpg_diff.proofs.lemmas.Fresh.{length-unbounded_from}
use Rattle.tfpg_search.specs.declared.add_fault.AddFault.{AddFault}
use Rattle.tfpg_search.specs.declared.kept_reason.LowReason.{LowReason}
use Rattle.tfpg_search.specs.declared.kept_reason.HighReason.{HighReason}
use Rattle.tfpg_search.specs.inside.Leaf.{Leaf, pick_reasons, IsStated}
use Rattle.tfpg_search.specs.inside.LeafCalls.{AddsFact, AddsPick}
use Rattle.tfpg_search.specs.inside.Leaving.{Leaves}
use Rattle.tfpg_search.specs.inside.EnteredPicks.{entered_picks, AreBegun, IsNext}
use Rattle.tfpg_search.specs.inside.Closing.{Closes, IsFaultOf}
use Rattle.tfpg_search.specs.inside.Tags.{IsTagged, reason_of}
use Rattle.tfpg_search.specs.inside.KeptReasons.{low_reason, high_reason, reasons_of, kept_reasons, AreKept, IsNamed, reason_or}
use Rattle.tfpg_search.proofs.lemmas.stated_system.DemandsStayStated.{system_of, leaf_of}
use Rattle.tfpg_search.proofs.lemmas.stated_system.CycleCloses.{HasReason-cycle, AreDemandsNamed-stated, Closes-cycle}
use Rattle.tfpg_search.proofs.lemmas.stated_system.CallsKeepReasons.{bounds_of, at, inside, floor_kept, ceiling_kept, raised_is, raised_tagged, raised_stated, lowered_is, lowered_tagged, lowered_stated, pushed_tagged, pushed_stated, pushed_reasons, popped_stated, popped_reasons}
use Rattle.tfpg_search.proofs.lemmas.stated_system.PicksEntered.{length-entered_picks, entered_picks-next, entered_picks-begun, entered_picks-left, AreBegun-none, AreBegun-next, AreBegun-entered, AreBegun-left}
use Rattle.tfpg_search.proofs.lemmas.stated_system.NewSystemStated.{IsTagged-new}
use Rattle.tfpg_search.proofs.lemmas.stated_system.TagsStay.{IsTagged-pop}
use Rattle.tfpg_search.proofs.lemmas.stated_system.ReasonsKept.{length-reasons_of, reasons_of-raised, reasons_of-lowered, reasons_of-pushed, reasons_of-popped, reason_or-set, reason_or-push, IsNamed-all}

-- ---- a new system

module _ (demands : Demands) (nodes : ℕ) (is : demands ≡ demands_of (unbounded_from 0 nodes) []) (lows : List LowReason) (highs : List HighReason) (entered : List ℕ)
    (as_many_lows : length lows ≡ nodes) (as_many_highs : length highs ≡ nodes) (empty : entered ≡ []) where
  each_node : length demands.bounds ≡ nodes
  each_node = ap (λ (d : Demands). length d.bounds) is ∙ length-unbounded_from 0 nodes

  no_picks : length demands.picks ≡ 0
  no_picks = ap (λ (d : Demands). length d.picks) is

  -- there are two reasons for each node
  pub new_long : length (kept_reasons demands lows highs entered) ≡ 2 * nodes
  new_long =
      let each = each_node in
      let none = no_picks in
      let picks = length-entered_picks entered (length demands.picks) in
      let all = length-reasons_of demands.bounds lows highs (entered_picks entered (length demands.picks)) (as_many_lows ∙ sym each) (as_many_highs ∙ sym each) in
      omega arith

  -- and none for a pick
  pub new_none : pick_reasons (leaf_of demands (kept_reasons demands lows highs entered)) ≡ []
  new_none = drop_all (2 * length demands.bounds) (kept_reasons demands lows highs entered) (let each = each_node in let long = new_long in omega arith)

  pub new_kept : AreKept demands lows highs entered
  new_kept = record {
    lows_each = as_many_lows ∙ sym each_node;
    highs_each = as_many_highs ∙ sym each_node;
    begun = subst (λ (es : List ℕ). AreBegun es (length demands.picks)) (sym empty) (AreBegun-none (length demands.picks) no_picks);
    tagged = IsTagged-new demands (kept_reasons demands lows highs entered) nodes is new_long;
  }

-- ---- after calls

-- the tag of a pick comes after those of all bounds and of the picks before
pub tag_before : (leaf held : Leaf) → held ≡ leaf
    → 2 * length leaf.demands.bounds + length leaf.demands.picks ≡ 2 * length held.demands.bounds + length held.demands.picks
tag_before leaf held view = ap (λ (l : Leaf). 2 * length l.demands.bounds + length l.demands.picks) (sym view)

-- ---- what was to be added has a conflict

module _ (asked : Demands) (named reasons : List Reason) (tag : ℕ) (adding : Reason) (same : (why : Why) → reason_or reasons tag adding why ≡ reason_of named why)
    (tagged : IsTagged asked named) (tags lent : List Why) (found : NamesNegativeCycle asked tags) (is_lent : lent ≡ tags) where
  -- each tag of the cycle is named
  pub cycle_named : length named ≤ length reasons + 1 → (length named ≡ length reasons + 1 → tag ≡ length reasons) → All (IsNamed reasons tag) lent
  cycle_named few last =
      subst (All (IsNamed reasons tag)) (sym is_lent) (IsNamed-all reasons tag adding named tags few last (HasReason-cycle asked named tagged tags found))

  -- its reasons close the leaf
  pub cycle_closes : (fact stated : Reason → Option Constraint) (fault : AddFault) → IsStated fact stated (leaf_of asked named)
      → IsFaultOf (map (reason_or reasons tag adding) lent) fault → Closes stated fault
  cycle_closes fact stated fault is_stated is = Closes-cycle stated asked named tags fault
      (AreDemandsNamed-stated asked named tagged fact stated is_stated) found
      (subst (λ (whys : List Why). IsFaultOf (map (reason_of named) whys) fault) is_lent
      (subst (λ (of : Why → Reason). IsFaultOf (map of lent) fault) (λ i why. same why i) is))

module _ (leaf : Leaf) (demands : Demands) (lows : List LowReason) (highs : List HighReason) (entered : List ℕ) where
  abbrev reasons : List Reason
  reasons = kept_reasons demands lows highs entered

  module _ {calls identity : ℕ} (view : system_of demands reasons entered calls identity ≡ leaf) (kept : AreKept demands lows highs entered) where
    -- ---- nothing changes at a fault but what is counted

    module _ (new : Demands) (same : new ≡ demands) where
      pub same_leaf : (more own : ℕ) → own ≡ identity → system_of new (kept_reasons new lows highs entered) entered more own ≡ record leaf { calls = more }
      same_leaf more own is_own =
          (λ i. system_of (same i) (kept_reasons (same i) lows highs entered) entered more (is_own i))
          ∙ ap (λ (l : Leaf). record l { calls = more }) view

      pub same_kept : AreKept new lows highs entered
      same_kept = subst (λ (d : Demands). AreKept d lows highs entered) (sym same) kept

      same_reasons : kept_reasons new lows highs entered ≡ reasons
      same_reasons = ap (λ (d : Demands). kept_reasons d lows highs entered) same

    -- there are two reasons for each node and one for each pick
    many : length reasons ≡ 2 * length demands.bounds + length demands.picks
    many =
        length-reasons_of demands.bounds lows highs (entered_picks entered (length demands.picks)) kept.lows_each kept.highs_each
        ∙ ap (λ (n : ℕ). 2 * length demands.bounds + n) (length-entered_picks entered (length demands.picks))

    module _ (v : ℕ) (within : v < length leaf.demands.bounds) where
      v_inside : v < length demands.bounds
      v_inside = inside leaf demands reasons entered view kept.tagged v within

      -- ---- a floor is raised

      module _ (low : LowReason) (least tag : ℕ) (is_tag : tag ≡ v) (tighter : (bounds : VariableBounds) → Bounded leaf.demands v bounds → bounds.floor < least) where
        abbrev raising : Demands
        raising = with_floor demands v least tag

        abbrev low_is : Reason
        low_is = low_reason v least low

        abbrev with_low : List Reason
        with_low = set reasons v low_is

        raising_is : raising ≡ demands_of (set demands.bounds v (over (bounds_of leaf demands reasons entered view kept.tagged v within) least v)) demands.picks
        raising_is = raised_is leaf demands reasons entered view kept.tagged v within low_is least tag is_tag tighter

        raising_tagged : IsTagged raising with_low
        raising_tagged = raised_tagged leaf demands reasons entered view kept.tagged v within low_is least tag is_tag tighter

        with_low_is : kept_reasons raising (set lows v low) highs entered ≡ with_low
        with_low_is =
            ap (λ (d : Demands). kept_reasons d (set lows v low) highs entered) raising_is
            ∙ reasons_of-raised demands.bounds lows highs (entered_picks entered (length demands.picks)) kept.lows_each kept.highs_each v (over (bounds_of leaf demands reasons entered view kept.tagged v within) least v) low v_inside

        raising_long : length raising.bounds ≡ length demands.bounds
        raising_long = ap (λ (d : Demands). length d.bounds) raising_is ∙ length-set demands.bounds v (over (bounds_of leaf demands reasons entered view kept.tagged v within) least v)

        raising_picks : length raising.picks ≡ length demands.picks
        raising_picks = ap (λ (d : Demands). length d.picks) raising_is

        module _ (new : Demands) (added : new ≡ raising) where
          raised_leaf : leaf_of new (kept_reasons new (set lows v low) highs entered) ≡ leaf_of raising with_low
          raised_leaf = ap (λ (d : Demands). leaf_of d (kept_reasons d (set lows v low) highs entered)) added ∙ ap (leaf_of raising) with_low_is

          pub raised_kept : AreKept new (set lows v low) highs entered
          raised_kept = subst (λ (d : Demands). AreKept d (set lows v low) highs entered) (sym added)
              (record {
                lows_each = length-set lows v low ∙ kept.lows_each ∙ sym raising_long;
                highs_each = kept.highs_each ∙ sym raising_long;
                begun = subst (AreBegun entered) (sym raising_picks) kept.begun;
                tagged = subst (IsTagged raising) (sym with_low_is) raising_tagged;
              })

          pub raised_adds : (more own : ℕ) → AddsFact low_is (at_least v least) leaf (system_of new (kept_reasons new (set lows v low) highs entered) entered more own) (Ok tt)
          raised_adds more own = record {
            err = tt;
            entered = ap (λ (l : Leaf). l.entered) view;
            nodes = ap (λ (d : Demands). length d.bounds) added ∙ raising_long ∙ ap (λ (l : Leaf). length l.demands.bounds) view;
            reasons = ap pick_reasons raised_leaf ∙ floor_kept leaf demands reasons entered view kept.tagged v within raising low_is raising_long;
            stated = λ fact stated before states. record {
              still = subst (IsStated fact stated) (sym raised_leaf)
                  (raised_stated leaf demands reasons entered view kept.tagged v within low_is least tag is_tag tighter fact stated before states);
              closes = tt;
            };
          }

        module _ (new : Demands) (same : new ≡ demands) (tags lent : List Why) (found : NamesNegativeCycle raising tags) (is_lent : lent ≡ tags) where
          raising_or : (why : Why) → reason_or (kept_reasons new lows highs entered) tag low_is why ≡ reason_of with_low why
          raising_or why =
              ap (λ (rs : List Reason). reason_or rs tag low_is why) (same_reasons new same)
              ∙ ap (λ (n : ℕ). reason_or reasons n low_is why) is_tag
              ∙ reason_or-set reasons v low_is (let all = many in let below = v_inside in omega arith) why

          pub raised_named : All (IsNamed (kept_reasons new lows highs entered) tag) lent
          raised_named =
              cycle_named raising with_low (kept_reasons new lows highs entered) tag low_is raising_or raising_tagged tags lent found is_lent
              (let long = length-set reasons v low_is in let one = ap (λ (rs : List Reason). length rs) (same_reasons new same) in omega arith)
              (λ more. let long = length-set reasons v low_is in let one = ap (λ (rs : List Reason). length rs) (same_reasons new same) in omega arith)

          pub raised_refused : (more own : ℕ) → own ≡ identity → (fault : AddFault) → IsFaultOf (map (reason_or (kept_reasons new lows highs entered) tag low_is) lent) fault
              → AddsFact low_is (at_least v least) leaf (system_of new (kept_reasons new lows highs entered) entered more own) (Err fault)
          raised_refused more own is_own fault is = record {
            err = same_leaf new same more own is_own;
            entered = ap (λ (l : Leaf). l.entered) view;
            nodes = ap (λ (l : Leaf). length l.demands.bounds) (same_leaf new same more own is_own);
            reasons = ap pick_reasons (same_leaf new same more own is_own);
            stated = λ fact stated before states. record {
              still = subst (IsStated fact stated) (sym (same_leaf new same more own is_own)) before;
              closes = cycle_closes raising with_low (kept_reasons new lows highs entered) tag low_is raising_or raising_tagged tags lent found is_lent fact stated fault
                  (raised_stated leaf demands reasons entered view kept.tagged v within low_is least tag is_tag tighter fact stated before states) is;
            };
          }

      -- ---- a ceiling is lowered

      module _ (high : HighReason) (ceiling tag : ℕ) (is_tag : tag ≡ length demands.bounds + v) (tighter : (bounds : VariableBounds) → Bounded leaf.demands v bounds → ceiling < bounds.ceiling) where
        abbrev lowering : Demands
        lowering = with_ceiling demands v ceiling tag

        abbrev high_is : Reason
        high_is = high_reason v high

        abbrev with_high : List Reason
        with_high = set reasons tag high_is

        lowering_is : lowering ≡ demands_of (set demands.bounds v (under (bounds_of leaf demands reasons entered view kept.tagged v within) ceiling tag)) demands.picks
        lowering_is = lowered_is leaf demands reasons entered view kept.tagged v within high_is ceiling tag is_tag tighter

        lowering_tagged : IsTagged lowering with_high
        lowering_tagged = lowered_tagged leaf demands reasons entered view kept.tagged v within high_is ceiling tag is_tag tighter

        with_high_is : kept_reasons lowering lows (set highs v high) entered ≡ with_high
        with_high_is =
            ap (λ (d : Demands). kept_reasons d lows (set highs v high) entered) lowering_is
            ∙ reasons_of-lowered demands.bounds lows highs (entered_picks entered (length demands.picks)) kept.lows_each kept.highs_each v tag (bounds_of leaf demands reasons entered view kept.tagged v within)
            (under (bounds_of leaf demands reasons entered view kept.tagged v within) ceiling tag) high (at leaf demands reasons entered view kept.tagged v within) refl is_tag

        lowering_long : length lowering.bounds ≡ length demands.bounds
        lowering_long = ap (λ (d : Demands). length d.bounds) lowering_is ∙ length-set demands.bounds v (under (bounds_of leaf demands reasons entered view kept.tagged v within) ceiling tag)

        lowering_picks : length lowering.picks ≡ length demands.picks
        lowering_picks = ap (λ (d : Demands). length d.picks) lowering_is

        module _ (new : Demands) (added : new ≡ lowering) where
          lowered_leaf : leaf_of new (kept_reasons new lows (set highs v high) entered) ≡ leaf_of lowering with_high
          lowered_leaf = ap (λ (d : Demands). leaf_of d (kept_reasons d lows (set highs v high) entered)) added ∙ ap (leaf_of lowering) with_high_is

          pub lowered_kept : AreKept new lows (set highs v high) entered
          lowered_kept = subst (λ (d : Demands). AreKept d lows (set highs v high) entered) (sym added)
              (record {
                lows_each = kept.lows_each ∙ sym lowering_long;
                highs_each = length-set highs v high ∙ kept.highs_each ∙ sym lowering_long;
                begun = subst (AreBegun entered) (sym lowering_picks) kept.begun;
                tagged = subst (IsTagged lowering) (sym with_high_is) lowering_tagged;
              })

          pub lowered_adds : (more own : ℕ) → AddsFact high_is (at_most v (pos ceiling)) leaf (system_of new (kept_reasons new lows (set highs v high) entered) entered more own) (Ok tt)
          lowered_adds more own = record {
            err = tt;
            entered = ap (λ (l : Leaf). l.entered) view;
            nodes = ap (λ (d : Demands). length d.bounds) added ∙ lowering_long ∙ ap (λ (l : Leaf). length l.demands.bounds) view;
            reasons = ap pick_reasons lowered_leaf ∙ ceiling_kept leaf demands reasons entered view kept.tagged v within lowering tag high_is lowering_long is_tag;
            stated = λ fact stated before states. record {
              still = subst (IsStated fact stated) (sym lowered_leaf)
                  (lowered_stated leaf demands reasons entered view kept.tagged v within high_is ceiling tag is_tag tighter fact stated before states);
              closes = tt;
            };
          }

        module _ (new : Demands) (same : new ≡ demands) (tags lent : List Why) (found : NamesNegativeCycle lowering tags) (is_lent : lent ≡ tags) where
          lowering_or : (why : Why) → reason_or (kept_reasons new lows highs entered) tag high_is why ≡ reason_of with_high why
          lowering_or why =
              ap (λ (rs : List Reason). reason_or rs tag high_is why) (same_reasons new same)
              ∙ reason_or-set reasons tag high_is (let all = many in let below = v_inside in omega arith) why

          pub lowered_named : All (IsNamed (kept_reasons new lows highs entered) tag) lent
          lowered_named =
              cycle_named lowering with_high (kept_reasons new lows highs entered) tag high_is lowering_or lowering_tagged tags lent found is_lent
              (let long = length-set reasons tag high_is in let one = ap (λ (rs : List Reason). length rs) (same_reasons new same) in omega arith)
              (λ more. let long = length-set reasons tag high_is in let one = ap (λ (rs : List Reason). length rs) (same_reasons new same) in omega arith)

          pub lowered_refused : (more own : ℕ) → own ≡ identity → (fault : AddFault) → IsFaultOf (map (reason_or (kept_reasons new lows highs entered) tag high_is) lent) fault
              → AddsFact high_is (at_most v (pos ceiling)) leaf (system_of new (kept_reasons new lows highs entered) entered more own) (Err fault)
          lowered_refused more own is_own fault is = record {
            err = same_leaf new same more own is_own;
            entered = ap (λ (l : Leaf). l.entered) view;
            nodes = ap (λ (l : Leaf). length l.demands.bounds) (same_leaf new same more own is_own);
            reasons = ap pick_reasons (same_leaf new same more own is_own);
            stated = λ fact stated before states. record {
              still = subst (IsStated fact stated) (sym (same_leaf new same more own is_own)) before;
              closes = cycle_closes lowering with_high (kept_reasons new lows highs entered) tag high_is lowering_or lowering_tagged tags lent found is_lent fact stated fault
                  (lowered_stated leaf demands reasons entered view kept.tagged v within high_is ceiling tag is_tag tighter fact stated before states) is;
            };
          }

    -- there are as many reasons of picks as picks
    pub picks_each : length demands.picks ≡ length (pick_reasons leaf)
    picks_each =
        let all = many in
        let of_picks = length-drop (2 * length demands.bounds) reasons in
        let same = ap (λ (l : Leaf). length (pick_reasons l)) view in
        omega arith

    -- ---- an alternative is entered

    module _ (count : ℕ) (is_count : count ≡ length demands.picks) where
      abbrev more : List ℕ
      more = entered ++ count ∷ []

      begun_now : AreBegun entered count
      begun_now = subst (AreBegun entered) (sym is_count) kept.begun

      entered_same : entered_picks more (length demands.picks) ≡ entered_picks entered (length demands.picks)
      entered_same = subst (λ (n : ℕ). entered_picks more n ≡ entered_picks entered n) is_count (entered_picks-begun entered count begun_now)

      module _ (longer : List ℕ) (is_longer : longer ≡ more) where
        reasons_same : kept_reasons demands lows highs longer ≡ reasons
        reasons_same = ap (kept_reasons demands lows highs) is_longer ∙ ap (reasons_of demands.bounds lows highs) entered_same

        pub entered_kept : AreKept demands lows highs longer
        entered_kept = record {
          lows_each = kept.lows_each;
          highs_each = kept.highs_each;
          begun = subst (λ (es : List ℕ). AreBegun es (length demands.picks)) (sym is_longer) (subst (AreBegun more) is_count (AreBegun-entered entered count begun_now));
          tagged = subst (IsTagged demands) (sym reasons_same) kept.tagged;
        }

        pub entered_leaf : system_of demands (kept_reasons demands lows highs longer) longer calls identity ≡ record leaf { entered = leaf.entered ++ length (pick_reasons leaf) ∷ [] }
        entered_leaf =
            (λ i. system_of demands (reasons_same i) (is_longer i) calls identity)
            ∙ ap (λ (n : ℕ). system_of demands reasons (entered ++ n ∷ []) calls identity) (is_count ∙ picks_each)
            ∙ ap (λ (l : Leaf). record l { entered = l.entered ++ length (pick_reasons leaf) ∷ [] }) view

    -- ---- a pick is pushed

    module _ (constraint : Constraint) (split number tag : ℕ) (is_tag : tag ≡ 2 * length demands.bounds + length demands.picks)
        (next : IsNext leaf.entered (length (pick_reasons leaf)) split number) (held : Demands) (is_held : held ≡ demands) where
      abbrev pushing : Demands
      pushing = with_pick held constraint tag

      abbrev adding : Reason
      adding = Pick split number

      abbrev with_adding : List Reason
      with_adding = reasons ++ adding ∷ []

      is_next : IsNext entered (length demands.picks) split number
      is_next =
          subst (λ (n : ℕ). IsNext entered n split number) (sym picks_each)
          (subst (λ (es : List ℕ). IsNext es (length (pick_reasons leaf)) split number) (sym (ap (λ (l : Leaf). l.entered) view)) next)

      last_tag : tag ≡ length reasons
      last_tag = is_tag ∙ sym many

      pushing_tagged : IsTagged pushing with_adding
      pushing_tagged = pushed_tagged leaf demands reasons entered view kept.tagged constraint adding tag last_tag with_adding refl held is_held

      bounds_held : pushing.bounds ≡ demands.bounds
      bounds_held = ap (λ (d : Demands). d.bounds) is_held

      picks_held : length pushing.picks ≡ length demands.picks + 1
      picks_held = length_push held.picks (record { constraint = constraint; tag = tag }) ∙ ap (λ (d : Demands). length d.picks + 1) is_held

      with_adding_is : kept_reasons pushing lows highs entered ≡ with_adding
      with_adding_is =
          ap (λ (bs : List VariableBounds). reasons_of bs lows highs (entered_picks entered (length pushing.picks))) bounds_held
          ∙ ap (λ (n : ℕ). reasons_of demands.bounds lows highs (entered_picks entered n)) picks_held
          ∙ ap (reasons_of demands.bounds lows highs) (entered_picks-next entered (length demands.picks) kept.begun split number is_next)
          ∙ reasons_of-pushed demands.bounds lows highs (entered_picks entered (length demands.picks)) kept.lows_each kept.highs_each adding

      module _ (new : Demands) (added : new ≡ pushing) where
        pushed_leaf : leaf_of new (kept_reasons new lows highs entered) ≡ leaf_of pushing with_adding
        pushed_leaf =
            ap (λ (d : Demands). leaf_of d (kept_reasons d lows highs entered)) added
            ∙ ap (leaf_of pushing) with_adding_is

        pub pushed_kept : AreKept new lows highs entered
        pushed_kept =
            subst (λ (d : Demands). AreKept d lows highs entered) (sym added)
            (record {
              lows_each = kept.lows_each ∙ sym (ap (λ (bs : List VariableBounds). length bs) bounds_held);
              highs_each = kept.highs_each ∙ sym (ap (λ (bs : List VariableBounds). length bs) bounds_held);
              begun = subst (AreBegun entered) (sym picks_held) (AreBegun-next entered (length demands.picks) kept.begun split number is_next);
              tagged = subst (IsTagged pushing) (sym with_adding_is) pushing_tagged;
            })

        pub pushed_adds : (more own : ℕ) → AddsPick adding constraint leaf (system_of new (kept_reasons new lows highs entered) entered more own) (Ok tt)
        pushed_adds more own = record {
          err = tt;
          entered = ap (λ (l : Leaf). l.entered) view;
          bounds = ap (λ (d : Demands). d.bounds) added ∙ bounds_held ∙ ap (λ (l : Leaf). l.demands.bounds) view;
          reasons =
              ap pick_reasons pushed_leaf
              ∙ pushed_reasons leaf demands reasons entered view kept.tagged constraint adding tag last_tag with_adding refl held is_held;
          stated = λ fact stated before states. record {
            still = subst (IsStated fact stated) (sym pushed_leaf)
                (pushed_stated leaf demands reasons entered view kept.tagged constraint adding tag last_tag with_adding refl held is_held fact stated before states);
            closes = tt;
          };
        }

      module _ (new : Demands) (same : new ≡ held) (tags lent : List Why) (found : NamesNegativeCycle pushing tags) (is_lent : lent ≡ tags) where
        all_same : new ≡ demands
        all_same = same ∙ is_held

        pushing_or : (why : Why) → reason_or (kept_reasons new lows highs entered) tag adding why ≡ reason_of with_adding why
        pushing_or why =
            ap (λ (rs : List Reason). reason_or rs tag adding why) (same_reasons new all_same)
            ∙ reason_or-push reasons tag adding last_tag why

        pub pushed_named : All (IsNamed (kept_reasons new lows highs entered) tag) lent
        pushed_named =
            cycle_named pushing with_adding (kept_reasons new lows highs entered) tag adding pushing_or pushing_tagged tags lent found is_lent
            (let long = length-append reasons (adding ∷ []) in let one = ap (λ (rs : List Reason). length rs) (same_reasons new all_same) in omega arith)
            (λ more. last_tag ∙ sym (ap (λ (rs : List Reason). length rs) (same_reasons new all_same)))

        pub pushed_refused : (more own : ℕ) → own ≡ identity → (fault : AddFault) → IsFaultOf (map (reason_or (kept_reasons new lows highs entered) tag adding) lent) fault
            → AddsPick adding constraint leaf (system_of new (kept_reasons new lows highs entered) entered more own) (Err fault)
        pushed_refused more own is_own fault is = record {
          err = same_leaf new all_same more own is_own;
          entered = ap (λ (l : Leaf). l.entered) view;
          bounds = ap (λ (l : Leaf). l.demands.bounds) (same_leaf new all_same more own is_own);
          reasons = tt;
          stated = λ fact stated before states. record {
            still = subst (IsStated fact stated) (sym (same_leaf new all_same more own is_own)) before;
            closes = cycle_closes pushing with_adding (kept_reasons new lows highs entered) tag adding pushing_or pushing_tagged tags lent found is_lent fact stated fault
                (pushed_stated leaf demands reasons entered view kept.tagged constraint adding tag last_tag with_adding refl held is_held fact stated before states) is;
          };
        }

    -- ---- alternatives are left

    module _ (keep before : ℕ) (begins : slice_get entered keep ≡ Some before) (rest : List ℕ) (is_rest : rest ≡ take keep entered) (new : Demands) (popped : new ≡ popped_to demands before) where
      -- so many picks are left
      before_within : before ≤ length demands.picks
      before_within = kept.begun.within keep before begins

      picks_left : length new.picks ≡ before
      picks_left = ap (λ (d : Demands). length d.picks) popped ∙ length-take-le before demands.picks before_within

      rest_is : kept_reasons new lows highs rest ≡ take (2 * length demands.bounds + before) reasons
      rest_is =
          ap (λ (bs : List VariableBounds). reasons_of bs lows highs (entered_picks rest (length new.picks))) (ap (λ (d : Demands). d.bounds) popped)
          ∙ ap (λ (n : ℕ). reasons_of demands.bounds lows highs (entered_picks rest n)) picks_left
          ∙ ap (λ (es : List ℕ). reasons_of demands.bounds lows highs (entered_picks es before)) is_rest
          ∙ ap (reasons_of demands.bounds lows highs) (entered_picks-left entered (length demands.picks) kept.begun keep before begins)
          ∙ reasons_of-popped demands.bounds lows highs (entered_picks entered (length demands.picks)) kept.lows_each kept.highs_each before

      pub left_kept : AreKept new lows highs rest
      left_kept = record {
        lows_each = kept.lows_each ∙ sym (ap (λ (d : Demands). length d.bounds) popped);
        highs_each = kept.highs_each ∙ sym (ap (λ (d : Demands). length d.bounds) popped);
        begun =
            subst (λ (n : ℕ). AreBegun rest n) (sym picks_left)
            (subst (λ (es : List ℕ). AreBegun es before) (sym is_rest) (AreBegun-left entered (length demands.picks) kept.begun keep before begins));
        tagged = subst (IsTagged new) (sym rest_is)
            (subst (λ (d : Demands). IsTagged d (take (2 * length demands.bounds + before) reasons)) (sym popped) (IsTagged-pop demands reasons before kept.tagged before_within));
      }

      pub left_leaf : (more own : ℕ) → Leaves (slice_get leaf.entered keep) leaf (system_of new (kept_reasons new lows highs rest) rest more own)
      left_leaf more own =
          let there : slice_get leaf.entered keep ≡ Some before = ap (λ (l : Leaf). slice_get l.entered keep) (sym view) ∙ begins in
          let gone : Leaves (Some before) leaf (system_of new (kept_reasons new lows highs rest) rest more own) = (
            record {
              variables = ap (λ (d : Demands). length d.bounds) popped ∙ ap (λ (l : Leaf). length l.demands.bounds) view;
              stated = popped_stated leaf demands reasons entered view kept.tagged before (2 * length demands.bounds + before) refl (kept_reasons new lows highs rest) rest_is new popped;
            },
            popped_reasons leaf demands reasons entered view kept.tagged before (2 * length demands.bounds + before) refl (kept_reasons new lows highs rest) rest_is new popped,
          ) in
          subst (λ (o : Option ℕ). Leaves o leaf (system_of new (kept_reasons new lows highs rest) rest more own)) (sym there) gone
