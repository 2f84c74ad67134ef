-- Tags stay the indexes of their reasons.
use Rattle.std.proofs.Common.{◌≡◌, ◌≢◌, ℕ, ◌+◌, ◌≤◌, take, ◌*◌, List, [], ◌∷◌, ◌++◌, length, set, Some, sym, ◌∙◌, ap, inl, inr, ⊎_elim, ◌⊎◌, arith, length-append}
use Rattle.std.specs.Prelude.{slice_get}
use Rattle.std.proofs.lemmas.List.{length-set, length-take-le}
use Rattle.tfpg_base.specs.declared.constraint.Constraint.{Constraint}
use Rattle.tfpg_evidence.specs.declared.reason.Reason.{Reason}
use Rattle.tfpg_diff.specs.declared.why.Why.{Why}
use Rattle.tfpg_diff.specs.declared.why.Why.TheVariants.{Floor, Ceiling, Given}
use Rattle.tfpg_diff.specs.VariableBounds.{VariableBounds}
use Rattle.tfpg_diff.specs.declared.pick.Pick.{Pick}
use Rattle.tfpg_diff.specs.Demands.{Demands, Bounded}
use Rattle.tfpg_diff.specs.SystemState.{with_pick, popped_to}
use Rattle.tfpg_diff.specs.inside.Kept.{demands_of}
use Rattle.tfpg_diff.proofs.lemmas.Changes.{Bounded-set}
use Rattle.tfpg_search.specs.inside.Tags.{IsTagged}
use Rattle.tfpg_base.proofs.lemmas.lists.Written.{slice_get-push_cases}
use Rattle.tfpg_base.proofs.lemmas.lists.Cuts.{slice_get-taken}

-- The tag is one that no reason set, or the index of its reason.
abbrev pub IsEither : Why → Why → ℕ → Type 0
IsEither why unset index = (why ≡ unset) ⊎ (why ≡ Given index)

-- one of both, of another equal tag and an equal node
IsEither-same : (unset : ℕ → Why) (index : ℕ → ℕ) (why other : Why) (u v : ℕ) → u ≡ v → other ≡ why → IsEither why (unset v) (index v) →
    IsEither other (unset u) (index u)
IsEither-same unset index why other u v node tag either = ⊎_elim
    (λ (is : why ≡ unset v). inl (tag ∙ is ∙ sym (ap unset node)))
    (λ (is : why ≡ Given (index v)). inr (tag ∙ is ∙ sym (ap (λ (n : ℕ). Given (index n)) node)))
    either

-- after a write of the bounds of one node, and of a reason
pub IsTagged-write : (demands : Demands) (reasons : List Reason) (v : ℕ) (new : VariableBounds) (index : ℕ) (reason : Reason) → IsTagged demands reasons →
    IsEither new.floor_why (Floor v) v → IsEither new.ceiling_why (Ceiling v) (length demands.bounds + v) →
    IsTagged (demands_of (set demands.bounds v new) demands.picks) (set reasons index reason)
IsTagged-write demands reasons v new index reason tagged low high =
    let as_many : length (set demands.bounds v new) ≡ length demands.bounds = length-set demands.bounds v new in
    record {
      one_each = (let l = length-set reasons index reason in let o = tagged.one_each in omega arith);
      floors = λ u b at. ⊎_elim
          (λ (here : (u ≡ v) × (b ≡ new)).
          IsEither-same Floor (λ (n : ℕ). n) new.floor_why b.floor_why u v here.0 (ap (λ (c : VariableBounds). c.floor_why) here.1) low)
          (λ (there : (u ≢ v) × Bounded demands u b). tagged.floors u b there.1)
          (Bounded-set demands.bounds demands.picks v new u b at);
      ceilings = λ u b at. rw as_many (⊎_elim
          (λ (here : (u ≡ v) × (b ≡ new)).
          IsEither-same Ceiling (λ (n : ℕ). length demands.bounds + n) new.ceiling_why b.ceiling_why u v here.0 (ap (λ (c : VariableBounds). c.ceiling_why) here.1) high)
          (λ (there : (u ≢ v) × Bounded demands u b). tagged.ceilings u b there.1)
          (Bounded-set demands.bounds demands.picks v new u b at));
      picks = λ index pick at. tagged.picks index pick at ∙ ap (λ (n : ℕ). 2 * n + index) (sym as_many);
    }

-- after a push of a pick and its reason
pub IsTagged-push : (demands : Demands) (reasons : List Reason) (constraint : Constraint) (tag : ℕ) (reason : Reason) → IsTagged demands reasons →
    tag ≡ 2 * length demands.bounds + length demands.picks → IsTagged (with_pick demands constraint tag) (reasons ++ reason ∷ [])
IsTagged-push demands reasons constraint tag reason tagged is =
    let pick : Pick = record { constraint = constraint; tag = tag } in
    record {
      one_each = (let a = length-append reasons (reason ∷ []) in let b = length-append demands.picks (pick ∷ []) in let o = tagged.one_each in omega arith);
      floors = tagged.floors;
      ceilings = tagged.ceilings;
      picks = λ index p at. ⊎_elim
          (λ (old : slice_get demands.picks index ≡ Some p). tagged.picks index p old)
          (λ (last : (index ≡ length demands.picks) × (pick ≡ p)).
          ap (λ (q : Pick). q.tag) (sym last.1) ∙ is ∙ ap (λ (n : ℕ). 2 * length demands.bounds + n) (sym last.0))
          (slice_get-push_cases demands.picks pick index p at);
    }

-- after picks were popped
pub IsTagged-pop : (demands : Demands) (reasons : List Reason) (len : ℕ) → IsTagged demands reasons → len ≤ length demands.picks →
    IsTagged (popped_to demands len) (take (2 * length demands.bounds + len) reasons)
IsTagged-pop demands reasons len tagged fewer = record {
  one_each = (let o = tagged.one_each in length-take-le (2 * length demands.bounds + len) reasons (omega arith) ∙ ap (λ (n : ℕ). 2 * length demands.bounds + n) (sym (length-take-le len demands.picks fewer)));
  floors = tagged.floors;
  ceilings = tagged.ceilings;
  picks = λ index pick at. tagged.picks index pick (slice_get-taken len demands.picks index pick at).1;
}
