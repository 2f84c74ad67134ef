-- What a ready system can be taken back to, and how it stays ready when it is.
use Rattle.std.proofs.Common.{◌≡◌, ℕ, ◌+◌, ◌<◌, ◌≤◌, List, [], ◌∷◌, ◌++◌, length, take, drop, reverse, refl, sym, ◌∙◌, ap, subst, arith, ⊎_elim}
use Rattle.std.specs.Prelude.{slice_index}
use Rattle.std.proofs.lemmas.Bool.{cases_lt}
use Rattle.std.proofs.lemmas.List.{take_all, take-take, take-append-le, length_push, length-take-le}
use Rattle.std.proofs.lemmas.List.Elements.{All-take}
use Rattle.tfpg_diff.specs.VariableBounds.{VariableBounds}
use Rattle.tfpg_diff.specs.declared.pick.Pick.{Pick}
use Rattle.tfpg_diff.specs.declared.labels.Labels.{Labels}
use Rattle.tfpg_diff.specs.Demands.{Demands, demands_of}
use Rattle.tfpg_diff.specs.Solution.{HasSolution}
use Rattle.tfpg_diff.specs.SystemState.{popped_to}
use Rattle.tfpg_diff.specs.inside.Linked.{demands_linked}
use Rattle.tfpg_diff.specs.inside.Kept.{AreKept, IsSound, MeetsPicks}
use Rattle.tfpg_diff.specs.inside.Undone.{Labelling, labelling, undone_to, IsTrail, Remembers}
use Rattle.tfpg_diff.specs.inside.Ready.{IsSolved, IsReady, AreSized, CanTakeBack, TakesBack}
use Rattle.tfpg_diff.proofs.lemmas.Latest.{values-whole, IsLatest-kept}
use Rattle.tfpg_diff.proofs.lemmas.Changes.{IsSolution-take}
use Rattle.tfpg_diff.proofs.lemmas.Undoing.{undone-older, IsOlder-more, IsTrail-more, IsTrail-none}

-- a trail without what it saved is ready to take back nothing
pub IsReady-afresh : (demands : Demands) (labels : Labels) (capacity : ℕ) → IsSound demands → AreKept demands labels.values.items labels.links.items →
    MeetsPicks labels.values.items demands.picks → labels.trail.saved.items ≡ [] → length demands.picks ≤ labels.trail.reach →
    length demands.bounds + 3 ≤ capacity → IsReady demands labels capacity
IsReady-afresh demands labels capacity sound kept met none reach room = record {
  sound = sound;
  kept = kept;
  met = met;
  trail = IsTrail-none (length demands.picks) (length labels.values.items) labels.trail.saved.items none;
  back = λ count reaches below. absurd (omega arith);
  room = room;
}

-- labels that are kept have one value and one link for each number
pub AreSized-kept : (demands others : Demands) (labels : Labels) → AreKept demands labels.values.items labels.links.items →
    length demands.bounds ≡ length others.bounds → AreSized others labels
AreSized-kept demands others labels kept same = record {
  values = kept.kept.values_len ∙ ap (λ (n : ℕ). n + 1) same;
  links = kept.count ∙ ap (λ (n : ℕ). n + 1) same;
  zero_stays = kept.kept.zero_stays;
}

-- what was computed afresh was taken back
pub TakesBack-afresh : (demands : Demands) (old new : Labels) → AreKept demands new.values.items new.links.items → MeetsPicks new.values.items demands.picks →
    new.trail.saved.items ≡ [] → new.trail.reach ≡ length demands.picks → TakesBack demands old new
TakesBack-afresh demands old new kept met none reach = record {
  kept = kept;
  met = met;
  trail = IsTrail-none (length demands.picks) (length new.values.items) new.trail.saved.items none;
  back = λ count reaches below. absurd (omega arith);
}

-- what the trail took back was taken back
pub TakesBack-undone : (demands : Demands) (old new : Labels) → CanTakeBack demands old → old.trail.reach ≤ length demands.picks →
    new.trail.reach ≡ old.trail.reach → ((count : ℕ) → count ≤ length demands.picks → undone_to count new ≡ undone_to count old) →
    IsTrail (length demands.picks) (length new.values.items) new.trail.saved.items → TakesBack demands old new
TakesBack-undone demands old new able reaches same back trail =
    let is : undone_to (length demands.picks) old ≡ labelling new =
    sym (back (length demands.picks) (omega arith))
    ∙ undone-older (length demands.picks) (reverse new.trail.saved.items) (labelling new) trail.older in
    let solved : IsSolved demands (labelling new) = subst (IsSolved demands) is (able.solves reaches) in
    record {
      kept = solved.kept;
      met = solved.met;
      trail = trail;
      back = λ count reached below. (omega arith, back count (omega arith));
    }

module _ (bounds : List VariableBounds) (picks : List Pick) (labels : Labels) (capacity : ℕ) (ready : IsReady (demands_of bounds picks) labels capacity) where
  -- a ready system has a solution
  solvable : HasSolution (demands_of bounds picks)
  solvable = (
    drop 1 labels.values.items,
    (IsLatest-kept (demands_of bounds picks) labels.values.items (demands_linked (demands_of bounds picks) labels.links.items)
        ready.kept.kept ready.met).solution,
  )

  -- fewer picks leave each number at least its value
  pub values-undone : (count : ℕ) (fewer : Labelling) → IsSolved (popped_to (demands_of bounds picks) count) fewer → (number : ℕ) →
      slice_index labels.values.items number ≤ slice_index fewer.values number
  values-undone count fewer solved number =
      let whole = values-whole (demands_of bounds picks) labels.values.items (demands_linked (demands_of bounds picks) labels.links.items) ready.kept.kept in
      subst (λ (values : List ℕ). slice_index values number ≤ slice_index fewer.values number) whole
      (solved.kept.kept.greatest (drop 1 labels.values.items) (IsSolution-take bounds picks count (drop 1 labels.values.items)
      (IsLatest-kept (demands_of bounds picks) labels.values.items (demands_linked (demands_of bounds picks) labels.links.items) ready.kept.kept ready.met).solution) number)

  -- it is solved with all its picks, and with fewer
  pub IsSolved-back : (count : ℕ) → labels.trail.reach ≤ count → count ≤ length picks →
      IsSolved (popped_to (demands_of bounds picks) count) (undone_to count labels)
  IsSolved-back count reaches most = ⊎_elim
      (λ (below : count < length picks). ready.back count reaches below)
      (λ (all : length picks ≤ count).
      let same : undone_to count labels ≡ labelling labels =
      undone-older count (reverse labels.trail.saved.items) (labelling labels)
      (IsOlder-more (length picks) count (reverse labels.trail.saved.items) all ready.trail.older) in
      subst (λ (ps : List Pick). IsSolved (demands_of bounds ps) (undone_to count labels)) (sym (take_all count picks all))
      (subst (IsSolved (demands_of bounds picks)) (sym same) (record { kept = ready.kept; met = ready.met })))
      (cases_lt count (length picks))

  module _ (middle : Labels) (remembers : Remembers (length picks) labels middle) where
    -- the trail after a call
    after_call : IsTrail (length picks + 1) (length middle.values.items) middle.trail.saved.items
    after_call = remembers.trail
        (IsTrail-more (length picks) (length picks + 1) (length labels.values.items) labels.trail.saved.items (omega arith) ready.trail)

    -- a system stays ready with one more pick that lowered values
    pub IsReady-lengthened : (pick : Pick) (capacity' : ℕ) → IsSound (demands_of bounds (picks ++ pick ∷ [])) →
        AreKept (demands_of bounds (picks ++ pick ∷ [])) middle.values.items middle.links.items → MeetsPicks middle.values.items (picks ++ pick ∷ []) →
        length bounds + 3 ≤ capacity' → IsReady (demands_of bounds (picks ++ pick ∷ [])) middle capacity'
    IsReady-lengthened pick capacity' sound kept met room =
        let len : length (picks ++ pick ∷ []) ≡ length picks + 1 = length_push picks pick in
        record {
          sound = sound;
          kept = kept;
          met = met;
          trail = subst (λ (n : ℕ). IsTrail n (length middle.values.items) middle.trail.saved.items) (sym len) after_call;
          back = λ count reaches below.
              let most : count ≤ length picks = omega arith in
              let grows = remembers.reach in
              subst (λ (ps : List Pick). IsSolved (demands_of bounds ps) (undone_to count middle)) (sym (take-append-le count picks (pick ∷ []) most))
              (subst (IsSolved (popped_to (demands_of bounds picks) count)) (sym (remembers.back (omega arith) count most))
              (IsSolved-back count (omega arith) most));
          room = room;
        }

    -- after a conflict the old system can be taken back
    pub CanTakeBack-conflict : AreSized (demands_of bounds picks) middle → CanTakeBack (demands_of bounds picks) middle
    CanTakeBack-conflict sized =
        let trail = after_call in
        record {
          solvable = solvable;
          sized = sized;
          inside = trail.inside;
          solves = λ reaches.
              let grows = remembers.reach in
              let same : undone_to (length picks) middle ≡ labelling labels =
              remembers.back reaches (length picks) (omega arith)
              ∙ undone-older (length picks) (reverse labels.trail.saved.items) (labelling labels) ready.trail.older in
              subst (IsSolved (demands_of bounds picks)) (sym same) (record { kept = ready.kept; met = ready.met });
        }

    -- and then is ready as before
    pub IsReady-taken_back : (new : Labels) (capacity' : ℕ) → TakesBack (demands_of bounds picks) middle new → capacity ≤ capacity' →
        IsReady (demands_of bounds picks) new capacity'
    IsReady-taken_back new capacity' taken room = record {
      sound = ready.sound;
      kept = taken.kept;
      met = taken.met;
      trail = taken.trail;
      back = λ count reaches below.
          let further = taken.back count reaches below in
          let grows = remembers.reach in
          let reached = further.0 in
          subst (IsSolved (popped_to (demands_of bounds picks) count)) (sym (further.1 ∙ remembers.back (omega arith) count (omega arith)))
          (ready.back count (omega arith) below);
      room = (let r = ready.room in omega arith);
    }

  module _ (len : ℕ) (fewer : len < length picks) where
    -- as many picks are left
    left : length (take len picks) ≡ len
    left = length-take-le len picks (omega arith)

    -- a ready system can be taken back to fewer picks
    pub CanTakeBack-popped : CanTakeBack (demands_of bounds (take len picks)) labels
    CanTakeBack-popped = record {
      solvable = (let some = solvable in (some.0, IsSolution-take bounds picks len some.0 some.1));
      sized = AreSized-kept (demands_of bounds picks) (demands_of bounds (take len picks)) labels ready.kept refl;
      inside = ready.trail.inside;
      solves = λ reaches.
          let count = left in
          subst (λ (n : ℕ). IsSolved (demands_of bounds (take len picks)) (undone_to n labels)) (sym count) (ready.back len (omega arith) fewer);
    }

    -- demands stay sound with fewer picks
    pub IsSound-popped : IsSound (demands_of bounds (take len picks))
    IsSound-popped = record {
      few = ready.sound.few;
      few_picks = (let count = left in let most = ready.sound.few_picks in omega arith);
      ceilings = ready.sound.ceilings;
      lefts = All-take (λ (pick : Pick). pick.constraint.left ≤ length bounds) len picks ready.sound.lefts;
      rights = All-take (λ (pick : Pick). pick.constraint.right ≤ length bounds) len picks ready.sound.rights;
    }

    -- and then is ready
    pub IsReady-popped : (new : Labels) (capacity' : ℕ) → TakesBack (demands_of bounds (take len picks)) labels new → capacity ≤ capacity' →
        IsReady (demands_of bounds (take len picks)) new capacity'
    IsReady-popped new capacity' taken room = record {
      sound = IsSound-popped;
      kept = taken.kept;
      met = taken.met;
      trail = taken.trail;
      back = λ count reaches below.
          let further = taken.back count reaches below in
          let reached = further.0 in
          let many = left in
          subst (λ (ps : List Pick). IsSolved (demands_of bounds ps) (undone_to count new)) (sym (take-take count len picks (omega arith)))
          (subst (IsSolved (popped_to (demands_of bounds picks) count)) (sym further.1) (ready.back count reached (omega arith)));
      room = (let r = ready.room in omega arith);
    }
