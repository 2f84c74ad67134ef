-- Laws of maximal runs of instants.
use Rattle.std.proofs.Common.{◌≡◌, ℕ, ◌+◌, ◌-◌, ◌≤◌, inl, inr, arith}
use Rattle.std.specs.Prelude.{◌↔◌}
use Rattle.std.proofs.lemmas.Bool.{cases_lt}
use Rattle.tfpg_log.specs.Runs.{IsMaximalRun}

module _ (Holds : ℕ → Type 0) (horizon : ℕ) where
  -- A maximal run takes in all instants from one to another, where it holds of all of them and one of them lies in it.
  pub takes_in : (lo hi low high : ℕ) → IsMaximalRun Holds lo hi horizon → ((instant : ℕ) → low ≤ instant → instant ≤ high → Holds instant)
      → high ≤ horizon
      → lo ≤ high → low ≤ hi → (lo ≤ low) × (high ≤ hi)
  takes_in lo hi low high run holds within begun unended = (
    elim (cases_lt low lo) [
      | inl before ↦ absurd (run.not_before (lo - 1) (omega arith) (holds (lo - 1) (omega arith) (omega arith)))
      | inr upto ↦ upto
    ],
    elim (cases_lt hi high) [
      | inl behind ↦ absurd (run.not_after (hi + 1) (omega arith) (omega arith) (holds (hi + 1) (omega arith) (omega arith)))
      | inr upto ↦ upto
    ],
  )

  -- Two maximal runs with an instant in common are one.
  pub one_run : (lo hi low high instant : ℕ) → IsMaximalRun Holds lo hi horizon → IsMaximalRun Holds low high horizon
      → lo ≤ instant → instant ≤ hi → low ≤ instant → instant ≤ high → (lo ≡ low) × (hi ≡ high)
  one_run lo hi low high instant run other from upto other_from other_upto =
      let takes : (lo ≤ low) × (high ≤ hi) = takes_in lo hi low high run other.throughout other.in_range (omega arith) (omega arith) in
      let taken : (low ≤ lo) × (hi ≤ high) = takes_in low high lo hi other run.throughout run.in_range (omega arith) (omega arith) in
      (omega (arith, takes.0, taken.0), omega (arith, takes.1, taken.1))

  -- What holds of each instant since so long holds since the beginning of the run or later, and the other way round.
  pub holds_since : (lo hi instant age : ℕ) → IsMaximalRun Holds lo hi horizon → lo ≤ instant → instant ≤ hi → age ≤ instant
      → ((x : ℕ) → instant ≤ x + age → x ≤ instant → Holds x) ↔ (lo + age ≤ instant)
  holds_since lo hi instant age run from upto short = (
    λ holds.
        let takes : (lo ≤ instant - age) × (instant ≤ hi) =
        takes_in lo hi (instant - age) instant run (λ x after before. holds x (omega arith) before) (omega (arith, run.in_range)) from
        (omega arith) in
        omega (arith, takes.0),
    λ since x after before. run.throughout x (omega arith) (omega arith),
  )

  -- Two maximal runs with an instant in common begin together, whatever their horizons.
  pub one_beginning : (further lo hi low high instant : ℕ) → IsMaximalRun Holds lo hi horizon → IsMaximalRun Holds low high further
      → lo ≤ instant → instant ≤ hi → low ≤ instant → instant ≤ high → lo ≡ low
  one_beginning further lo hi low high instant run other from upto other_from other_upto =
      let upwards : lo ≤ low = elim (cases_lt low lo) [
        | inl before ↦ absurd (run.not_before (lo - 1) (omega arith) (other.throughout (lo - 1) (omega arith) (omega arith)))
        | inr behind ↦ behind
      ] in
      let downwards : low ≤ lo = elim (cases_lt lo low) [
        | inl before ↦ absurd (other.not_before (low - 1) (omega arith) (run.throughout (low - 1) (omega arith) (omega arith)))
        | inr behind ↦ behind
      ] in
      omega (arith, upwards, downwards)
