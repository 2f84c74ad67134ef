-- The numbers of the hypotheses that a round leaves.
use Rattle.std.proofs.Common.{◌≡◌, ℕ, ◌+◌, ◌<◌, ◌≤◌, Bool, true, false, cond, List, [], ◌∷◌, ◌++◌, length, get_or, take, append-nil, All, Option, Some, None, sym, ap, subst, ◌∙◌, arith}
use Rattle.std.specs.Prelude.{IfSome, slice_get}
use Rattle.std.proofs.lemmas.List.{length-take}
use Rattle.std.proofs.lemmas.Option.{slice_get-get_or}
use Rattle.std.proofs.lemmas.List.Elements.{All-nil, All-cons, All-weaker}
use Rattle.tfpg_base.specs.Choice.{numbers_from}
use Rattle.tfpg_base.specs.Set.{Rises}
use Rattle.tfpg_base.proofs.lemmas.lists.Cuts.{take-next}
use Rattle.tfpg_base.proofs.lemmas.lists.Elements.{AllPairs-cons}
use Rattle.tfpg_base.proofs.lemmas.lists.Numbered.{numbers_from-push, All-below-numbers_from}
use Rattle.tfpg_base.proofs.lemmas.lists.Ordered.{AllPairs-nil}
use Rattle.tfpg_evidence.specs.declared.finding.Finding.{Finding}
use Rattle.tfpg_evidence.specs.declared.round.Round.{Round}
use Rattle.tfpg_engine.specs.Work.{is_ranked_or_open}
use Rattle.tfpg_answers.specs.Questions.{left_by}

-- ---- numbers of items rise

-- the numbers are from this one on, and rise
record AreFrom (first : ℕ) (numbers : List ℕ) : Type 0 where
  least : All (λ (number : ℕ). first ≤ number) numbers
  rising : Rises numbers

module _ {X : Type 0} (p : X → Bool) where
  are_from : (n : ℕ) (xs : List X) → AreFrom n (numbers_from n p xs)
  are_from n [] = record { least = All-nil (λ (number : ℕ). n ≤ number); rising = AllPairs-nil (λ (a b : ℕ). a < b) }
  are_from n (x ∷ xs) = by (p x) (are_from (n + 1) xs)
    where
      by : (b : Bool) → AreFrom (n + 1) (numbers_from (n + 1) p xs) → AreFrom n (cond b (n ∷ numbers_from (n + 1) p xs) (numbers_from (n + 1) p xs))
      by true rest = record {
        least = All-cons (λ (number : ℕ). n ≤ number) n (numbers_from (n + 1) p xs) (omega arith)
            (All-weaker (λ (number : ℕ). n + 1 ≤ number) (λ (number : ℕ). n ≤ number) (λ number above. omega (arith, above)) (numbers_from (n + 1) p xs) rest.least);
        rising = AllPairs-cons (λ (a b : ℕ). a < b) n (numbers_from (n + 1) p xs)
            (All-weaker (λ (number : ℕ). n + 1 ≤ number) (λ (number : ℕ). n < number) (λ number above. omega (arith, above)) (numbers_from (n + 1) p xs) rest.least) rest.rising;
      }
      by false rest = record {
        least = All-weaker (λ (number : ℕ). n + 1 ≤ number) (λ (number : ℕ). n ≤ number) (λ number above. omega (arith, above)) (numbers_from (n + 1) p xs) rest.least;
        rising = rest.rising;
      }

  -- one more item was looked at
  pub numbers_next : (xs : List X) (index : ℕ) (x : X) (numbers : List ℕ) → slice_get xs index ≡ Some x → length (take index xs) ≡ index → numbers ≡ numbers_from 0 p (take index xs)
      → numbers ++ cond (p x) (index ∷ []) [] ≡ numbers_from 0 p (take (index + 1) xs)
  numbers_next xs index x numbers at counted are =
      ap (λ (ns : List ℕ). ns ++ cond (p x) (index ∷ []) []) are
      ∙ ap (λ (n : ℕ). numbers_from 0 p (take index xs) ++ cond (p x) (n ∷ []) []) (let same : index ≡ 0 + length (take index xs) = omega (arith, counted) in same)
      ∙ sym (numbers_from-push p 0 (take index xs) x) ∙ sym (ap (numbers_from 0 p) (take-next xs index x at))

-- ---- the loop over findings

module _ (findings : List Finding) (index : ℕ) (finding : Finding) (numbers now : List ℕ) (left : Bool) (within : index < length findings) (at : finding ≡ get_or findings index finding)
    (are : numbers ≡ numbers_from 0 (λ (f : Finding). is_ranked_or_open f.status) (take index findings)) (test : left ≡ is_ranked_or_open (get_or findings index finding).status) where
  next : numbers ++ cond left (index ∷ []) [] ≡ numbers_from 0 (λ (f : Finding). is_ranked_or_open f.status) (take (index + 1) findings)
  next =
      ap (λ b. numbers ++ cond b (index ∷ []) []) (test ∙ ap (λ (f : Finding). is_ranked_or_open f.status) (sym at))
      ∙ numbers_next (λ (f : Finding). is_ranked_or_open f.status) findings index finding numbers (slice_get-get_or findings index finding within ∙ ap Some (sym at)) (omega (arith, within, length-take index findings)) are

  -- the finding is ranked or open
  pub numbers_pushed : left ≡ true → now ≡ numbers ++ index ∷ [] → now ≡ numbers_from 0 (λ (f : Finding). is_ranked_or_open f.status) (take (index + 1) findings)
  numbers_pushed is pushed = pushed ∙ sym (ap (λ b. numbers ++ cond b (index ∷ []) []) is) ∙ next

  -- it is neither
  pub numbers_kept : left ≡ false → now ≡ numbers → now ≡ numbers_from 0 (λ (f : Finding). is_ranked_or_open f.status) (take (index + 1) findings)
  numbers_kept is same = same ∙ sym (append-nil numbers) ∙ sym (ap (λ b. numbers ++ cond b (index ∷ []) []) is) ∙ next

-- ---- what a round leaves

-- The numbers rise,
pub left_rises : (last : Option Round) → Rises (left_by last)
left_rises None = AllPairs-nil (λ (a b : ℕ). a < b)
left_rises (Some round) = (are_from (λ (finding : Finding). is_ranked_or_open finding.status) 0 round.findings).rising

-- and are those of hypotheses, where the round has a finding for each.
pub left_below : (last : Option Round) (count : ℕ) → IfSome last (λ (round : Round). length round.findings ≡ count) → All (λ (number : ℕ). number < count) (left_by last)
left_below None count complete = All-nil (λ (number : ℕ). number < count)
left_below (Some round) count complete =
    subst (λ (n : ℕ). All (λ (number : ℕ). number < n) (left_by (Some round))) complete (All-below-numbers_from (λ (finding : Finding). is_ranked_or_open finding.status) round.findings)
