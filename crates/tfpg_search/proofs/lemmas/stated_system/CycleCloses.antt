-- The reasons of a negative cycle close a leaf.
use Rattle.std.proofs.Common.{◌≡◌, ℕ, ◌+◌, ◌*◌, ◌<◌, List, length, map, Option, Some, None, refl, sym, ◌∙◌, ap, subst, inl, inr, ⊎_elim, ◌⊎◌, arith}
use Rattle.std.specs.Prelude.{slice_get, option_and_then, All, slice_index_or}
use Rattle.std.proofs.lemmas.Option.{slice_get_within, get_or_from_slice_get}
use Rattle.std.proofs.lemmas.List.Elements.{All-map}
use Rattle.tfpg_base.specs.Choice.{each_of}
use Rattle.tfpg_base.specs.declared.constraint.Constraint.{Constraint}
use Rattle.tfpg_evidence.specs.declared.reason.Reason.{Reason}
use Rattle.tfpg_evidence.specs.declared.reason.Reason.TheVariants.{Zero}
use Rattle.tfpg_diff.specs.declared.why.Why.{Why}
use Rattle.tfpg_diff.specs.declared.why.Why.TheVariants.{Floor, Ceiling, Given}
use Rattle.tfpg_diff.specs.declared.demand.Demand.{Demand}
use Rattle.tfpg_diff.specs.Demands.{Demands, Demanded}
use Rattle.tfpg_diff.specs.Cycle.{IsNegativeCycleOf, NamesNegativeCycle}
use Rattle.tfpg_diff.specs.Named.{AreDemandsNamed}
use Rattle.tfpg_diff.proofs.lemmas.Naming.{AreDemandsNamed-parts, AreNamesOfNegativeCycle-named}
use Rattle.tfpg_search.specs.declared.add_fault.AddFault.{AddFault}
use Rattle.tfpg_search.specs.declared.add_fault.AddFault.TheVariants.{Conflict, NoMemory}
use Rattle.tfpg_search.specs.inside.Leaf.{tagged_by, IsStated}
use Rattle.tfpg_search.specs.inside.Tags.{IsTagged, HasReason, reason_of}
use Rattle.tfpg_search.specs.inside.Closing.{Closes, IsFaultOf}
use Rattle.tfpg_base.proofs.lemmas.lists.Images.{map-map}
use Rattle.tfpg_base.proofs.lemmas.lists.Cuts.{slice_get-drop}
use Rattle.tfpg_base.proofs.lemmas.lists.Elements.{slice_get-contains}
use Rattle.tfpg_search.proofs.lemmas.stated_system.DemandsStayStated.{leaf_of}

-- the tag of a lower bound is the index of a reason, or names one that no reason set
HasReason-floor : (reasons : List Reason) (why : Why) (u : ℕ) → (why ≡ Floor u) ⊎ (why ≡ Given u) → u < length reasons → HasReason reasons why
HasReason-floor reasons why u either inside = ⊎_elim
    (λ (is : why ≡ Floor u). subst (HasReason reasons) (sym is) tt)
    (λ (is : why ≡ Given u). subst (HasReason reasons) (sym is) inside)
    either

-- and that of an upper bound
HasReason-ceiling : (reasons : List Reason) (why : Why) (u index : ℕ) → (why ≡ Ceiling u) ⊎ (why ≡ Given index) → index < length reasons → HasReason reasons why
HasReason-ceiling reasons why u index either inside = ⊎_elim
    (λ (is : why ≡ Ceiling u). subst (HasReason reasons) (sym is) tt)
    (λ (is : why ≡ Given index). subst (HasReason reasons) (sym is) inside)
    either

module _ (demands : Demands) (reasons : List Reason) (tagged : IsTagged demands reasons) where
  -- the tag of each demand is the index of a reason, or names a bound that no reason set
  HasReason-demanded : (e : Demand) → Demanded demands e → HasReason reasons e.why
  HasReason-demanded e demanded = elim demanded [
    | inl is ↦
        let inside = slice_get_within demands.bounds is.0 is.1 is.2 in
        subst (λ (f : Demand). HasReason reasons f.why) (sym is.3)
        (HasReason-ceiling reasons is.1.ceiling_why is.0 (length demands.bounds + is.0) (tagged.ceilings is.0 is.1 is.2) (let o = tagged.one_each in omega arith))
    | inr others ↦ elim others [
      | inl is ↦
          let inside = slice_get_within demands.bounds is.0 is.1 is.2 in
          subst (λ (f : Demand). HasReason reasons f.why) (sym is.3)
          (HasReason-floor reasons is.1.floor_why is.0 (tagged.floors is.0 is.1 is.2) (let o = tagged.one_each in omega arith))
      | inr is ↦
          let tag = tagged.picks is.1.0 is.0 (slice_get-contains demands.picks is.0 is.1) in
          let inside = is.1.1 in
          subst (λ (f : Demand). HasReason reasons f.why) (sym is.2) (let o = tagged.one_each in omega arith)
    ]
  ]

  -- so is each tag of a cycle
  pub HasReason-cycle : (tags : List Why) → NamesNegativeCycle demands tags → All (HasReason reasons) tags
  HasReason-cycle tags found =
      let cycle : IsNegativeCycleOf demands tags found.0 = found.1 in
      subst (All (HasReason reasons)) cycle.tags_are
      (All-map (HasReason reasons) (λ (e : Demand). e.why) found.0 (λ i d inside. HasReason-demanded _ (cycle.demanded i d inside)))

  -- the tag of each demand names its constraint
  pub AreDemandsNamed-stated : (fact stated : Reason → Option Constraint) → IsStated fact stated (leaf_of demands reasons) →
      AreDemandsNamed demands (tagged_by stated reasons)
  AreDemandsNamed-stated fact stated is_stated = AreDemandsNamed-parts demands (tagged_by stated reasons)
      (λ v b at. (
        tagged_by-wider b.ceiling_why _ (is_stated.bounds.ceilings v b at),
        tagged_by-wider b.floor_why _ (is_stated.bounds.floors v b at),
      ))
      (λ pick among.
      let at = slice_get-contains demands.picks pick among in
      ap (λ (tag : ℕ). option_and_then stated (slice_get reasons tag)) (tagged.picks among.0 pick at)
      ∙ ap (option_and_then stated) (sym (slice_get-drop (2 * length demands.bounds) reasons among.0))
      ∙ is_stated.picks among.0 pick at)
    where
      by_reason : (found : Option Reason) (constraint : Constraint) → option_and_then fact found ≡ Some constraint → option_and_then stated found ≡ Some constraint
      by_reason None constraint names = absurd cc
      by_reason (Some reason) constraint names = is_stated.wider reason constraint names

      tagged_by-wider : (why : Why) (constraint : Constraint) → tagged_by fact reasons why ≡ Some constraint → tagged_by stated reasons why ≡ Some constraint
      tagged_by-wider (Floor node) constraint names = is_stated.wider _ constraint names
      tagged_by-wider (Ceiling node) constraint names = is_stated.wider _ constraint names
      tagged_by-wider (Given tag) constraint names = by_reason (slice_get reasons tag) constraint names

-- what a tag names is what its reason states
stated_of-named : (stated : Reason → Option Constraint) (reasons : List Reason) (why : Why) (constraint : Constraint) →
    tagged_by stated reasons why ≡ Some constraint → stated (reason_of reasons why) ≡ Some constraint
stated_of-named stated reasons (Floor node) constraint names = names
stated_of-named stated reasons (Ceiling node) constraint names = names
stated_of-named stated reasons (Given tag) constraint names = go (slice_get reasons tag) refl names
  where
    go : (found : Option Reason) → slice_get reasons tag ≡ found → option_and_then stated found ≡ Some constraint → stated (slice_index_or reasons tag (Zero 0)) ≡ Some constraint
    go None is states = absurd cc
    go (Some reason) is states = ap stated (get_or_from_slice_get reasons tag reason (Zero 0) is) ∙ states

-- the reasons of a cycle's tags close the leaf
pub Closes-cycle : (stated : Reason → Option Constraint) (demands : Demands) (reasons : List Reason) (tags : List Why) (fault : AddFault) →
    AreDemandsNamed demands (tagged_by stated reasons) → NamesNegativeCycle demands tags →
    IsFaultOf (map (reason_of reasons) tags) fault → Closes stated fault
Closes-cycle stated demands reasons tags NoMemory names found is = tt
Closes-cycle stated demands reasons tags (Conflict list) names found is =
    let by_reason : AreDemandsNamed demands (λ (why : Why). stated (reason_of reasons why)) =
    λ e demanded. stated_of-named stated reasons e.why e.constraint (names e demanded) in
    let cycle = AreNamesOfNegativeCycle-named demands (λ (why : Why). stated (reason_of reasons why)) tags by_reason found in (
      cycle.0,
      record {
        are_named = ap (λ (rs : List Reason). each_of (map stated rs)) is ∙ ap each_of (map-map stated (reason_of reasons) tags) ∙ cycle.1.are_named;
        negative_cycle = cycle.1.negative_cycle;
        simple = cycle.1.simple;
      },
    )
