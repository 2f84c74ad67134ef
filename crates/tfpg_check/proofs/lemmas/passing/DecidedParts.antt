-- Whether one hypothesis is a proper part of another is decided.
use Rattle.std.proofs.Common.{◌≡◌, ◌≢◌, ℕ, List, ap, subst}
use Rattle.std.specs.Prelude.{IsTrue, Contains}
use Rattle.std.specs.Str.{bytes_eq}
use Rattle.tfpg_base.specs.Hypothesis.{Hypothesis, IsProperPart}
use Rattle.tfpg_base.specs.Set.{IsSubset}
use Rattle.tfpg_base.proofs.lemmas.lists.Decided.{IsDecided, same_decided, test_decided, not_decided, both_decided, all_members_decided}
use Rattle.tfpg_base.proofs.lemmas.lists.SameBytes.{bytes_eq-true, bytes_eq-same}
use Rattle.tfpg_graph.specs.Reach.{is_among}
use Rattle.tfpg_graph.proofs.lemmas.reach.Reaches.{among-from_Contains, Contains-from_among}

-- whether a number is one of these is decided
pub member_decided : (numbers : List ℕ) (number : ℕ) → IsDecided (Contains numbers number)
member_decided numbers number =
    same_decided (IsTrue (is_among numbers number)) (Contains numbers number) (Contains-from_among numbers number) (among-from_Contains numbers number) (test_decided (is_among numbers number))

subset_decided : (part whole : List ℕ) → IsDecided (IsSubset part whole)
subset_decided part whole = all_members_decided (Contains whole) (member_decided whole) part

same_numbers_decided : (one other : List ℕ) → IsDecided (one ≡ other)
same_numbers_decided one other =
    same_decided (IsTrue (bytes_eq one other)) (one ≡ other) (bytes_eq-true one other) (λ same. subst (λ (numbers : List ℕ). IsTrue (bytes_eq one numbers)) same (bytes_eq-same one))
    (test_decided (bytes_eq one other))

same_decided_hypothesis : (one other : Hypothesis) → IsDecided (one ≡ other)
same_decided_hypothesis one other =
    same_decided ((one.set ≡ other.set) × (one.doubts ≡ other.doubts)) (one ≡ other) (λ both. λ i. record { set = both.0 i; doubts = both.1 i })
    (λ same. (ap (λ (h : Hypothesis). h.set) same, ap (λ (h : Hypothesis). h.doubts) same))
    (both_decided (one.set ≡ other.set) (one.doubts ≡ other.doubts) (same_numbers_decided one.set other.set) (same_numbers_decided one.doubts other.doubts))

-- Whether the one is a proper part of the other is decided.
pub part_decided : (part whole : Hypothesis) → IsDecided (IsProperPart part whole)
part_decided part whole =
    same_decided (IsSubset part.set whole.set × (IsSubset part.doubts whole.doubts × (part ≢ whole))) (IsProperPart part whole)
    (λ is. record { set = is.0; doubts = is.1.0; proper = is.1.1 }) (λ is. (is.set, (is.doubts, is.proper)))
    (both_decided (IsSubset part.set whole.set) (IsSubset part.doubts whole.doubts × (part ≢ whole)) (subset_decided part.set whole.set)
    (both_decided (IsSubset part.doubts whole.doubts) (part ≢ whole) (subset_decided part.doubts whole.doubts) (not_decided (part ≡ whole) (same_decided_hypothesis part whole))))
