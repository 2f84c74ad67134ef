-- What a ready system comes to: there is a solution, or there is none.
use Rattle.std.proofs.Common.{◌≡◌, ℕ, ◌+◌, ◌^◌, ◌<◌, ◌≤◌, List, ◌∷◌, ◌++◌, [], length, take, drop, get_or, set, Some, refl, sym, ◌∙◌, ap, subst, arith, inr}
use Rattle.std.specs.Prelude.{slice_get, slice_index}
use Rattle.std.proofs.lemmas.Option.{slice_get_read, slice_get_within}
use Rattle.std.proofs.lemmas.List.{length-set, get_or-set_same}
use Rattle.std.proofs.lemmas.List.Elements.{Contains-push, All-push}
use Rattle.std.proofs.lemmas.Int.{ints}
use Rattle.tfpg_diff.specs.declared.demand.Demand.{Demand}
use Rattle.tfpg_diff.specs.declared.why.Why.{Why}
use Rattle.tfpg_diff.specs.declared.why.Why.TheVariants.{Given}
use Rattle.tfpg_diff.specs.VariableBounds.{VariableBounds}
use Rattle.tfpg_diff.specs.declared.pick.Pick.{Pick}
use Rattle.tfpg_diff.specs.Demands.{Demands, ceiling_of, demand_of_pick, demands_of}
use Rattle.tfpg_diff.specs.Solution.{IsBetween, HasSolution, HasNoSolution}
use Rattle.tfpg_diff.specs.Cycle.{NamesNegativeCycle}
use Rattle.tfpg_diff.specs.SystemState.{with_floor, with_ceiling, with_pick}
use Rattle.tfpg_diff.specs.declared.link.Link.{Link}
use Rattle.tfpg_diff.specs.declared.link.Link.TheVariants.{Ceiling}
use Rattle.tfpg_diff.specs.inside.Linked.{demands_linked}
use Rattle.tfpg_diff.specs.declared.labels.Labels.{Labels}
use Rattle.tfpg_diff.specs.inside.Undone.{Labelling, undone_to}
use Rattle.tfpg_diff.specs.inside.Ready.{IsReady}
use Rattle.tfpg_diff.proofs.lemmas.Undoing.{Remembers-none}
use Rattle.tfpg_diff.proofs.lemmas.TakingBack.{IsReady-afresh, IsReady-lengthened, values-undone}
use Rattle.tfpg_diff.specs.inside.Kept.{IsMetBy, IsKept, AreKept, IsSound, MeetsPicks, Walked}
use Rattle.tfpg_diff.proofs.lemmas.Linked.{demands_linked-floor, demands_linked-ceiling, demands_linked-lowered, demands_linked-pick}
use Rattle.tfpg_diff.proofs.lemmas.Latest.{IsLatest-kept}
use Rattle.tfpg_diff.proofs.lemmas.Totals.{HasNoSolution-cycle}
use Rattle.tfpg_diff.proofs.lemmas.Bounding.{under, over, ceiling_pick, IsKept-floor, IsKept-ceiling, cycle_from_raised, cycle_from_ceiling}
use Rattle.tfpg_diff.proofs.lemmas.Changes.{IsSound-set, IsSound-pick, IsKept-pick}
use Rattle.tfpg_diff.proofs.lemmas.Lowering.{IsBrokenDemand, IsKept-lowered}
use Rattle.tfpg_diff.proofs.lemmas.Walks.{LeadsTo-none}
use Rattle.tfpg_diff.proofs.lemmas.Updates.{with_floor-tighter, with_floor-looser, with_ceiling-tighter, with_ceiling-looser}

-- values that are kept and meet the picks are a solution
pub HasSolution-kept : (demands : Demands) (values : List ℕ) (links : List Demand) → IsKept demands values links → MeetsPicks values demands.picks → HasSolution demands
HasSolution-kept demands values links kept met = (drop 1 values, (IsLatest-kept demands values links kept met).solution)

-- the same demands, as the code reads them
pub demands_read : (bounds now_bounds : List VariableBounds) (picks now_picks : List Pick) → now_bounds ≡ bounds → now_picks ≡ picks →
    demands_of now_bounds now_picks ≡ demands_of bounds picks
demands_read bounds now_bounds picks now_picks same_bounds same_picks =
    ap (λ (bs : List VariableBounds). demands_of bs now_picks) same_bounds ∙ ap (λ (ps : List Pick). demands_of bounds ps) same_picks

-- what is kept is kept above a higher floor that the value is not below
AreKept-floor : (bounds : List VariableBounds) (picks : List Pick) (v : ℕ) (old : VariableBounds) (least tag : ℕ) (values : List ℕ) (links : List Link) →
    slice_get bounds v ≡ Some old → old.floor < least → least ≤ slice_index values (v + 1) → AreKept (demands_of bounds picks) values links →
    AreKept (demands_of (set bounds v (over old least tag)) picks) values links
AreKept-floor bounds picks v old least tag values links at tighter high kept =
    let new : VariableBounds = over old least tag in
    record {
      count = kept.count ∙ ap (λ (n : ℕ). n + 1) (sym (length-set bounds v new));
      kept = subst (λ (es : List Demand). IsKept (demands_of (set bounds v new) picks) values es)
          (sym (demands_linked-floor bounds picks v new old at refl links))
          (IsKept-floor bounds picks v old at least tag values (demands_linked (demands_of bounds picks) links) tighter high kept.kept);
    }

module _ (bounds : List VariableBounds) (picks : List Pick) (labels : Labels) (capacity : ℕ) (ready : IsReady (demands_of bounds picks) labels capacity)
    (demands : Demands) (seen : demands_of bounds picks ≡ demands) where
  -- a ready system has a solution
  pub HasSolution-ready : HasSolution demands
  HasSolution-ready = subst HasSolution seen (HasSolution-kept (demands_of bounds picks) labels.values.items (demands_linked (demands_of bounds picks) labels.links.items) ready.kept.kept ready.met)

  -- the bounds of a variable, as the code reads them
  pub Bounded-old : (v : ℕ) (old : VariableBounds) → old ≡ get_or bounds v old → v < length demands.bounds → slice_get bounds v ≡ Some old
  Bounded-old v old read inside =
      slice_get_read bounds (length bounds) v old refl (let e = ap (λ (d : Demands). length d.bounds) seen in omega arith) read

  -- where the lengthened system is the one that there is
  pub adds_nothing : (lengthened : Demands) → demands ≡ lengthened → (demands_of bounds picks ≡ lengthened) × HasSolution lengthened
  adds_nothing lengthened same = (seen ∙ same, subst HasSolution same HasSolution-ready)

  -- where the lengthened system has a negative cycle
  pub adds_conflict : (lengthened : Demands) (tags : List Why) → NamesNegativeCycle lengthened tags →
      (demands_of bounds picks ≡ demands) × HasNoSolution lengthened × NamesNegativeCycle lengthened tags
  adds_conflict lengthened tags cycle = (seen, HasNoSolution-cycle lengthened tags cycle, cycle)

  -- a floor that is not tighter changes nothing
  pub adds_floor_same : (v : ℕ) (old : VariableBounds) (least tag : ℕ) → slice_get bounds v ≡ Some old → least ≤ old.floor →
      (demands_of bounds picks ≡ with_floor demands v least tag) × HasSolution (with_floor demands v least tag)
  adds_floor_same v old least tag at looser =
      adds_nothing (with_floor demands v least tag)
      (subst (λ (d : Demands). d ≡ with_floor d v least tag) seen (sym (with_floor-looser bounds picks v old at least tag looser)))

  -- a tighter floor is written
  pub with_floor-set : (v : ℕ) (old : VariableBounds) (least tag : ℕ) → slice_get bounds v ≡ Some old → old.floor < least →
      demands_of (set bounds v (over old least tag)) picks ≡ with_floor demands v least tag
  with_floor-set v old least tag at tighter =
      sym (with_floor-tighter bounds picks v old at least tag tighter) ∙ ap (λ (d : Demands). with_floor d v least tag) seen

  -- a ceiling that is not tighter changes nothing
  pub adds_ceiling_same : (v : ℕ) (old : VariableBounds) (ceiling tag : ℕ) → slice_get bounds v ≡ Some old → old.ceiling ≤ ceiling →
      (demands_of bounds picks ≡ with_ceiling demands v ceiling tag) × HasSolution (with_ceiling demands v ceiling tag)
  adds_ceiling_same v old ceiling tag at looser =
      adds_nothing (with_ceiling demands v ceiling tag)
      (subst (λ (d : Demands). d ≡ with_ceiling d v ceiling tag) seen (sym (with_ceiling-looser bounds picks v old at ceiling tag looser)))

  -- a tighter ceiling is written
  pub with_ceiling-set : (v : ℕ) (old : VariableBounds) (ceiling tag : ℕ) → slice_get bounds v ≡ Some old → ceiling < old.ceiling →
      demands_of (set bounds v (under old ceiling tag)) picks ≡ with_ceiling demands v ceiling tag
  with_ceiling-set v old ceiling tag at tighter =
      sym (with_ceiling-tighter bounds picks v old at ceiling tag tighter) ∙ ap (λ (d : Demands). with_ceiling d v ceiling tag) seen

  -- a system stays ready above a higher floor that the value is not below
  pub IsReady-floor : (v : ℕ) (old : VariableBounds) (least tag : ℕ) → slice_get bounds v ≡ Some old → old.floor < least → least ≤ slice_index labels.values.items (v + 1) →
      IsReady (demands_of (set bounds v (over old least tag)) picks) labels capacity
  IsReady-floor v old least tag at tighter high =
      let same : length (set bounds v (over old least tag)) ≡ length bounds = length-set bounds v (over old least tag) in
      let low = ready.sound.ceilings v old at in
      let r = ready.room in
      record {
        sound = IsSound-set bounds picks v (over old least tag) ready.sound low;
        kept = AreKept-floor bounds picks v old least tag labels.values.items labels.links.items at tighter high ready.kept;
        met = ready.met;
        trail = ready.trail;
        back = λ count reaches below.
            let fewer : Labelling = undone_to count labels in
            let solved = ready.back count reaches below in
            let rises = values-undone bounds picks labels capacity ready count fewer solved (v + 1) in
            record {
              kept = AreKept-floor bounds (take count picks) v old least tag fewer.values fewer.links at tighter (omega arith) solved.kept;
              met = solved.met;
            };
        room = omega arith;
      }

  -- and has the lengthened demands
  pub adds_floor : (v : ℕ) (old : VariableBounds) (least tag : ℕ) → slice_get bounds v ≡ Some old → old.floor < least → least ≤ slice_index labels.values.items (v + 1) →
      (demands_of (set bounds v (over old least tag)) picks ≡ with_floor demands v least tag) × HasSolution (with_floor demands v least tag)
  adds_floor v old least tag at tighter high =
      let is = with_floor-set v old least tag at tighter in
      let s = IsReady-floor v old least tag at tighter high in (
        is,
        subst HasSolution is (HasSolution-kept (demands_of (set bounds v (over old least tag)) picks) labels.values.items
            (demands_linked (demands_of (set bounds v (over old least tag)) picks) labels.links.items) s.kept.kept s.met),
      )

  -- a floor above the value closes a negative cycle
  pub adds_floor_conflict : (v : ℕ) (old : VariableBounds) (least tag : ℕ) (tags : List Why) → slice_get bounds v ≡ Some old → old.floor < least →
      slice_index labels.values.items (v + 1) < least → Walked (demands_linked (demands_of bounds picks) labels.links.items) (v + 1) 0 0 (Given tag ∷ []) tags →
      (demands_of bounds picks ≡ demands) × HasNoSolution (with_floor demands v least tag) × NamesNegativeCycle (with_floor demands v least tag) tags
  adds_floor_conflict v old least tag tags at tighter high walked =
      adds_conflict (with_floor demands v least tag) tags
      (subst (λ (d : Demands). NamesNegativeCycle d tags) (with_floor-set v old least tag at tighter)
      (cycle_from_raised bounds picks v old at least tag labels.values.items (demands_linked (demands_of bounds picks) labels.links.items) tags high ready.kept.kept walked))

  -- demands stay sound under a lower ceiling
  pub IsSound-ceiling : (v : ℕ) (old : VariableBounds) (ceiling tag : ℕ) → slice_get bounds v ≡ Some old → ceiling < old.ceiling →
      IsSound (demands_of (set bounds v (under old ceiling tag)) picks)
  IsSound-ceiling v old ceiling tag at tighter =
      IsSound-set bounds picks v (under old ceiling tag) ready.sound (let low = ready.sound.ceilings v old at in omega arith)

  -- what is kept is kept under a lower ceiling that the value is not above
  AreKept-ceiling_high : (v : ℕ) (old : VariableBounds) (ceiling tag : ℕ) → slice_get bounds v ≡ Some old → ceiling < old.ceiling → slice_index labels.values.items (v + 1) ≤ ceiling →
      AreKept (demands_of (set bounds v (under old ceiling tag)) picks) labels.values.items labels.links.items
  AreKept-ceiling_high v old ceiling tag at tighter high =
      let was : IsBetween old (slice_index labels.values.items (v + 1)) = ready.kept.kept.within v old at in
      let demands : List Demand = demands_linked (demands_of bounds picks) labels.links.items in
      record {
        count = ready.kept.count ∙ ap (λ (n : ℕ). n + 1) (sym (length-set bounds v (under old ceiling tag)));
        kept = subst (λ (es : List Demand). IsKept (demands_of (set bounds v (under old ceiling tag)) picks) labels.values.items es)
            (sym (demands_linked-ceiling bounds picks v (under old ceiling tag) old at labels.values.items labels.links.items ready.kept.kept (omega arith)))
            (IsKept-ceiling bounds picks v old at ceiling tag labels.values.items demands tighter was.above high
            (IsKept-pick bounds picks (ceiling_pick v ceiling tag) labels.values.items demands ready.kept.kept));
      }

  -- a system stays ready under a lower ceiling that the value is not above, where the trail was restarted
  pub IsReady-ceiling : (v : ℕ) (old : VariableBounds) (ceiling tag : ℕ) → slice_get bounds v ≡ Some old → ceiling < old.ceiling → slice_index labels.values.items (v + 1) ≤ ceiling →
      (new : Labels) → new.values.items ≡ labels.values.items → new.links.items ≡ labels.links.items → new.trail.saved.items ≡ [] →
      length picks ≤ new.trail.reach → IsReady (demands_of (set bounds v (under old ceiling tag)) picks) new capacity
  IsReady-ceiling v old ceiling tag at tighter high new values links none reach =
      let same : length (set bounds v (under old ceiling tag)) ≡ length bounds = length-set bounds v (under old ceiling tag) in
      let r = ready.room in
      let demands : Demands = demands_of (set bounds v (under old ceiling tag)) picks in
      IsReady-afresh demands new capacity (IsSound-ceiling v old ceiling tag at tighter)
      (subst (λ (vs : List ℕ). AreKept demands vs new.links.items) (sym values)
      (subst (AreKept demands labels.values.items) (sym links) (AreKept-ceiling_high v old ceiling tag at tighter high)))
      (subst (λ (vs : List ℕ). MeetsPicks vs picks) (sym values) ready.met) none reach (omega arith)

  -- a system whose trail was restarted is ready
  pub IsReady-restarted : (new : Labels) → new.values.items ≡ labels.values.items → new.links.items ≡ labels.links.items → new.trail.saved.items ≡ [] →
      length picks ≤ new.trail.reach → IsReady (demands_of bounds picks) new capacity
  IsReady-restarted new values links none reach =
      IsReady-afresh (demands_of bounds picks) new capacity ready.sound
      (subst (λ (vs : List ℕ). AreKept (demands_of bounds picks) vs new.links.items) (sym values)
      (subst (AreKept (demands_of bounds picks) labels.values.items) (sym links) ready.kept))
      (subst (λ (vs : List ℕ). MeetsPicks vs picks) (sym values) ready.met) none reach ready.room

  -- and has the lengthened demands
  pub adds_ceiling : (v : ℕ) (old : VariableBounds) (ceiling tag : ℕ) → slice_get bounds v ≡ Some old → ceiling < old.ceiling → slice_index labels.values.items (v + 1) ≤ ceiling →
      (demands_of (set bounds v (under old ceiling tag)) picks ≡ with_ceiling demands v ceiling tag) × HasSolution (with_ceiling demands v ceiling tag)
  adds_ceiling v old ceiling tag at tighter high =
      let is = with_ceiling-set v old ceiling tag at tighter in
      let kept = AreKept-ceiling_high v old ceiling tag at tighter high in (
        is,
        subst HasSolution is (HasSolution-kept (demands_of (set bounds v (under old ceiling tag)) picks) labels.values.items
            (demands_linked (demands_of (set bounds v (under old ceiling tag)) picks) labels.links.items) kept.kept ready.met),
      )

  -- a ceiling below the floor is a negative cycle
  pub adds_ceiling_below_floor : (v : ℕ) (old : VariableBounds) (ceiling tag : ℕ) → slice_get bounds v ≡ Some old → ceiling < old.ceiling → ceiling < old.floor →
      (demands_of bounds picks ≡ demands) × HasNoSolution (with_ceiling demands v ceiling tag)
      × NamesNegativeCycle (with_ceiling demands v ceiling tag) (Given tag ∷ old.floor_why ∷ [])
  adds_ceiling_below_floor v old ceiling tag at tighter low =
      adds_conflict (with_ceiling demands v ceiling tag) (Given tag ∷ old.floor_why ∷ [])
      (subst (λ (d : Demands). NamesNegativeCycle d (Given tag ∷ old.floor_why ∷ [])) (with_ceiling-set v old ceiling tag at tighter)
      (cycle_from_ceiling bounds picks v old at ceiling tag low))

  -- the value of the variable becomes the lower ceiling, and the ceiling its link
  pub AreKept-ceiling_low : (v : ℕ) (old : VariableBounds) (ceiling tag : ℕ) → slice_get bounds v ≡ Some old → ceiling < old.ceiling → old.floor ≤ ceiling →
      ceiling < slice_index labels.values.items (v + 1) →
      AreKept (demands_of (set bounds v (under old ceiling tag)) picks) (set labels.values.items (v + 1) ceiling) (set labels.links.items (v + 1) Ceiling)
  AreKept-ceiling_low v old ceiling tag at tighter above low =
      let pick : Pick = ceiling_pick v ceiling tag in
      let demand : Demand = ceiling_of v (under old ceiling tag) in
      let more : Demands = demands_of bounds (picks ++ pick ∷ []) in
      let demands : List Demand = demands_linked (demands_of bounds picks) labels.links.items in
      let kept : IsKept more labels.values.items demands = IsKept-pick bounds picks pick labels.values.items demands ready.kept.kept in
      let inside : v < length bounds = slice_get_within bounds v old at in
      let zero_stays = ready.kept.kept.zero_stays in
      let broken : IsBrokenDemand more labels.values.items demand = record {
        demanded = inr (inr (pick, Contains-push picks pick, refl));
        left = omega arith;
        right = omega arith;
        broken = omega (arith, ints);
      } in
      let here : slice_index (set labels.values.items (v + 1) ceiling) (v + 1) ≡ ceiling =
      get_or-set_same labels.values.items (v + 1) ceiling 0 (let k = ready.kept.kept.values_len in omega arith) in
      record {
        count = length-set labels.links.items (v + 1) Ceiling ∙ ready.kept.count ∙ ap (λ (n : ℕ). n + 1) (sym (length-set bounds v (under old ceiling tag)));
        kept = subst (λ (es : List Demand). IsKept (demands_of (set bounds v (under old ceiling tag)) picks) (set labels.values.items (v + 1) ceiling) es)
            (sym (demands_linked-lowered bounds picks v (under old ceiling tag) inside labels.links.items))
            (IsKept-ceiling bounds picks v old at ceiling tag (set labels.values.items (v + 1) ceiling) (set demands (v + 1) demand) tighter (omega arith) (omega arith)
            (IsKept-lowered more labels.values.items demands kept demand ceiling v old broken (LeadsTo-none demands 0 (v + 1)) at refl (omega (arith, ints)) above));
      }

  -- the demands with one more pick
  pub with_pick-seen : (pick : Pick) → demands_of bounds (picks ++ pick ∷ []) ≡ with_pick demands pick.constraint pick.tag
  with_pick-seen pick = ap (λ (d : Demands). with_pick d pick.constraint pick.tag) seen

  -- demands stay sound with one more pick
  pub IsSound-more : (pick : Pick) → length picks + 1 < 2 ^ 32 → pick.constraint.left ≤ length demands.bounds → pick.constraint.right ≤ length demands.bounds →
      IsSound (demands_of bounds (picks ++ pick ∷ []))
  IsSound-more pick room left right =
      let same = ap (λ (d : Demands). length d.bounds) seen in
      IsSound-pick bounds picks pick ready.sound room (omega arith) (omega arith)

  -- what is kept stays kept with one more pick
  pub AreKept-pick : (pick : Pick) → AreKept (demands_of bounds (picks ++ pick ∷ [])) labels.values.items labels.links.items
  AreKept-pick pick =
      record {
        count = ready.kept.count;
        kept = subst (λ (es : List Demand). IsKept (demands_of bounds (picks ++ pick ∷ [])) labels.values.items es)
            (sym (demands_linked-pick bounds picks pick labels.values.items labels.links.items ready.kept.kept))
            (IsKept-pick bounds picks pick labels.values.items (demands_linked (demands_of bounds picks) labels.links.items) ready.kept.kept);
      }

  -- a system stays ready with one more pick that the values meet
  pub IsReady-pick : (pick : Pick) → length picks + 1 < 2 ^ 32 → pick.constraint.left ≤ length demands.bounds → pick.constraint.right ≤ length demands.bounds →
      IsMetBy labels.values.items (demand_of_pick pick) → IsReady (demands_of bounds (picks ++ pick ∷ [])) labels capacity
  IsReady-pick pick room left right met =
      IsReady-lengthened bounds picks labels capacity ready labels (Remembers-none (length picks) labels) pick capacity (IsSound-more pick room left right)
      (AreKept-pick pick) (All-push (λ (p : Pick). IsMetBy labels.values.items (demand_of_pick p)) picks pick ready.met met) ready.room

  -- and has the lengthened demands
  pub adds_pick : (pick : Pick) → length picks + 1 < 2 ^ 32 → pick.constraint.left ≤ length demands.bounds → pick.constraint.right ≤ length demands.bounds →
      IsMetBy labels.values.items (demand_of_pick pick) →
      (demands_of bounds (picks ++ pick ∷ []) ≡ with_pick demands pick.constraint pick.tag) × HasSolution (with_pick demands pick.constraint pick.tag)
  adds_pick pick room left right met =
      let s = IsReady-pick pick room left right met in
      let more : Demands = demands_of bounds (picks ++ pick ∷ []) in
      (with_pick-seen pick, subst HasSolution (with_pick-seen pick) (HasSolution-kept more labels.values.items (demands_linked more labels.links.items) s.kept.kept s.met))
