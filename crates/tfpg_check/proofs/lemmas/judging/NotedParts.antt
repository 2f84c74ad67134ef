-- Which part a number has, as its index is noted part by part.
use Rattle.std.proofs.Common.{◌≡◌, ◌<◌, ℕ, ◌+◌, ◌++◌, ◌∷◌, [], List, Bool, true, false, Option, Some, None, length, take, slice_get, eqb, refl, sym, ap, arith, ◌∙◌}
use Rattle.std.proofs.lemmas.List.{length-take}
use Rattle.tfpg_base.proofs.lemmas.lists.Cuts.{take-next}
use Rattle.tfpg_base.proofs.lemmas.lists.FirstFound.{position-append}
use Rattle.tfpg_base.proofs.lemmas.lists.Positions.{position-push_no, position-push_yes}
use Rattle.tfpg_report.specs.declared.read_round.Part.{Part}
use Rattle.tfpg_check.specs.inside.Lookups.{noted, part_index}

-- with one part more the index noted for a number is that of the first part that has it
pub noted_more : (parts : List Part) (i : ℕ) (part : Part) → i < length parts → slice_get parts i ≡ Some part → (number : ℕ) (before : Option ℕ) → before ≡ part_index (take i parts) number
    → noted before (eqb part.number number) i ≡ part_index (take (i + 1) parts) number
noted_more parts i part within at number before is =
    by before is (eqb part.number number) refl ∙ sym (ap (λ (ps : List Part). part_index ps number) (take-next parts i part at))
  where
    by : (before : Option ℕ) → before ≡ part_index (take i parts) number → (same : Bool) → eqb part.number number ≡ same → noted before same i ≡ part_index (take i parts ++ part ∷ []) number
    by (Some index) is same test = sym (position-append (λ (q : Part). eqb q.number number) (take i parts) (part ∷ []) index (sym is))
    by None is true test =
        let all : length (take i parts) ≡ i = omega (arith, within, length-take i parts) in
        ap (λ (n : ℕ). Some n) (sym all) ∙ sym (position-push_yes (λ (q : Part). eqb q.number number) (take i parts) part (sym is) test)
    by None is false test = is ∙ sym (position-push_no (λ (q : Part). eqb q.number number) (take i parts) part test)
