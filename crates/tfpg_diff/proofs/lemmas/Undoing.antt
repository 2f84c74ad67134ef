-- Taking back what was lowered: one step, and many calls.
use Rattle.std.proofs.Common.{◌≡◌, ℕ, ◌+◌, ◌<◌, ◌≤◌, List, [], ◌∷◌, ◌++◌, length, reverse, set, Some, refl, sym, ◌∙◌, ap, subst, arith, ⊎_elim, ◌⊎◌, lt-ltb, le-ltb}
use Rattle.std.specs.Prelude.{slice_get, All}
use Rattle.std.proofs.lemmas.Bool.{cases_lt}
use Rattle.std.proofs.lemmas.List.{reverse-append, length-set}
use Rattle.std.proofs.lemmas.List.Elements.{All-nil, All-push, All-contains, Contains-push}
use Rattle.std.proofs.lemmas.Option.{slice_get_within}
use Rattle.tfpg_base.proofs.lemmas.lists.Written.{set_back}
use Rattle.tfpg_base.proofs.lemmas.lists.Elements.{All-front}
use Rattle.tfpg_diff.specs.declared.link.Link.{Link}
use Rattle.tfpg_diff.specs.declared.trail.Saved.{Saved}
use Rattle.tfpg_diff.specs.declared.labels.Labels.{Labels}
use Rattle.tfpg_diff.specs.inside.Undone.{Labelling, labelling, restored, undone, undone_to, IsOlder, IsTrail, Remembers}

-- what was saved since there were so many picks is taken back
pub undone-newer : (count : ℕ) (saved : Saved) (older : List Saved) (labels : Labelling) → count ≤ saved.before →
    undone count (saved ∷ older) labels ≡ undone count older (restored saved labels)
undone-newer count saved older labels since = rw (le-ltb saved.before count since)

-- what was saved before stays
pub undone-older : (count : ℕ) (saved : List Saved) (labels : Labelling) → IsOlder count saved → undone count saved labels ≡ labels
undone-older count [] labels older = refl
undone-older count (saved ∷ others) labels older = rw (lt-ltb saved.before count older)

-- what was saved last stands first
pub reverse-push : (saved : List Saved) (last : Saved) → reverse (saved ++ last ∷ []) ≡ last ∷ reverse saved
reverse-push saved last = reverse-append saved (last ∷ [])

-- older than some number of picks is older than more
pub IsOlder-more : (count more : ℕ) (saved : List Saved) → count ≤ more → IsOlder count saved → IsOlder more saved
IsOlder-more count more [] fewer older = tt
IsOlder-more count more (saved ∷ others) fewer older = omega arith

-- the last of a trail is older than its picks
pub IsOlder-push : (count : ℕ) (saved : List Saved) (last : Saved) → last.before < count → IsOlder count (reverse (saved ++ last ∷ []))
IsOlder-push count saved last below = subst (IsOlder count) (sym (reverse-push saved last)) below

-- a trail for more picks
pub IsTrail-more : (count more numbers : ℕ) (saved : List Saved) → count ≤ more → IsTrail count numbers saved → IsTrail more numbers saved
IsTrail-more count more numbers saved fewer trail = record { inside = trail.inside; older = IsOlder-more count more (reverse saved) fewer trail.older }

-- a trail without what it saved
pub IsTrail-none : (count numbers : ℕ) (saved : List Saved) → saved ≡ [] → IsTrail count numbers saved
IsTrail-none count numbers saved none =
    subst (IsTrail count numbers) (sym none) (record { inside = All-nil (λ (each : Saved). each.number < numbers); older = tt })

-- a call that lowers nothing
pub Remembers-none : (before : ℕ) (labels : Labels) → Remembers before labels labels
Remembers-none before labels = record { reach = omega arith; back = λ reaches count below. refl; trail = λ trail. trail }

-- one call after another
pub Remembers-more : (before : ℕ) (old middle new : Labels) → Remembers before old middle → Remembers before middle new → Remembers before old new
Remembers-more before old middle new first second = record {
  reach = (let a = first.reach in let b = second.reach in omega arith);
  back = λ reaches count below.
      second.back reaches count below ∙ first.back (let b = second.reach in omega arith) count below;
  trail = λ trail. second.trail (first.trail trail);
}

-- values that were written and restored are what they were
restored-written : (old : Labels) (saved : Saved) (value : ℕ) (link : Link) → slice_get old.values.items saved.number ≡ Some saved.value →
    slice_get old.links.items saved.number ≡ Some saved.link →
    restored saved (record { values = set old.values.items saved.number value; links = set old.links.items saved.number link }) ≡ labelling old
restored-written old saved value link at_value at_link =
    ap (λ (values : List ℕ). record { values = values; links = set (set old.links.items saved.number link) saved.number saved.link })
    (set_back old.values.items saved.number saved.value value at_value)
    ∙ ap (λ (links : List Link). record { values = old.values.items; links = links }) (set_back old.links.items saved.number saved.link link at_link)

-- a number that was lowered, and what it had saved
pub Remembers-lowered : (old new : Labels) (saved : Saved) (value : ℕ) (link : Link) → slice_get old.values.items saved.number ≡ Some saved.value →
    slice_get old.links.items saved.number ≡ Some saved.link →
    new.values.items ≡ set old.values.items saved.number value → new.links.items ≡ set old.links.items saved.number link →
    old.trail.reach ≤ new.trail.reach →
    (new.trail.reach ≤ saved.before → new.trail.saved.items ≡ old.trail.saved.items ++ saved ∷ []) →
    (saved.before < new.trail.reach → (new.trail.saved.items ≡ old.trail.saved.items) ⊎ (new.trail.saved.items ≡ [])) →
    Remembers saved.before old new
Remembers-lowered old new saved value link at_value at_link values links reach pushed others =
    let numbers : ℕ = length old.values.items in
    let same : length new.values.items ≡ numbers = ap length values ∙ length-set old.values.items saved.number value in
    let inside : saved.number < numbers = slice_get_within old.values.items saved.number saved.value at_value in
    let is : labelling new ≡ record { values = set old.values.items saved.number value; links = set old.links.items saved.number link } =
    ap (λ (vs : List ℕ). record { values = vs; links = new.links.items }) values
    ∙ ap (λ (ls : List Link). record { values = set old.values.items saved.number value; links = ls }) links in
    record {
      reach = reach;
      back = λ reaches count below.
          ap (λ (all : List Saved). undone count all (labelling new)) (ap reverse (pushed reaches) ∙ reverse-push old.trail.saved.items saved)
          ∙ undone-newer count saved (reverse old.trail.saved.items) (labelling new) below
          ∙ ap (undone count (reverse old.trail.saved.items)) (ap (restored saved) is ∙ restored-written old saved value link at_value at_link);
      trail = λ trail.
          subst (λ (n : ℕ). IsTrail (saved.before + 1) n new.trail.saved.items) (sym same)
          (⊎_elim
          (λ (forgot : saved.before < new.trail.reach). ⊎_elim
          (λ (stays : new.trail.saved.items ≡ old.trail.saved.items). subst (IsTrail (saved.before + 1) numbers) (sym stays) trail)
          (λ (none : new.trail.saved.items ≡ []). IsTrail-none (saved.before + 1) numbers new.trail.saved.items none)
          (others forgot))
          (λ (reaches : new.trail.reach ≤ saved.before).
          subst (IsTrail (saved.before + 1) numbers) (sym (pushed reaches))
          (record {
            inside = All-push (λ (each : Saved). each.number < numbers) old.trail.saved.items saved trail.inside inside;
            older = IsOlder-push (saved.before + 1) old.trail.saved.items saved (omega arith);
          }))
          (cases_lt saved.before new.trail.reach));
    }

-- one step back
pub undone_to-step : (old : Labels) (rest : List Saved) (saved : Saved) (count : ℕ) → count ≤ saved.before → old.trail.saved.items ≡ rest ++ saved ∷ [] →
    undone count (reverse rest) (restored saved (labelling old)) ≡ undone_to count old
undone_to-step old rest saved count since popped =
    sym (ap (λ (all : List Saved). undone count all (labelling old)) (ap reverse popped ∙ reverse-push rest saved)
    ∙ undone-newer count saved (reverse rest) (labelling old) since)

-- what is left of a trail is of the same numbers
pub All-popped : (numbers : ℕ) (old new : List Saved) (saved : Saved) → old ≡ new ++ saved ∷ [] → All (λ (each : Saved). each.number < numbers) old →
    All (λ (each : Saved). each.number < numbers) new × (saved.number < numbers)
All-popped numbers old new saved is all =
    let both : All (λ (each : Saved). each.number < numbers) (new ++ saved ∷ []) = subst (All (λ (each : Saved). each.number < numbers)) is all in
    (All-front (λ (each : Saved). each.number < numbers) new (saved ∷ []) both, All-contains (λ (each : Saved). each.number < numbers) (new ++ saved ∷ []) saved both (Contains-push new saved))
