-- What a round that passed has shown of each hypothesis.
use Rattle.std.specs.Prelude.{◌≡◌, ℕ, ◌<◌, ◌==◌, List, [], length, map, count_by, IsTrue}
use Rattle.std.specs.List.{list_any}
use Rattle.tfpg_base.specs.Hypothesis.{Hypothesis}
use Rattle.tfpg_kernel.specs.CheckerState.{CheckerState}
use Rattle.tfpg_report.specs.declared.read_round.RankedLine.{RankedLine}
use Rattle.tfpg_report.specs.declared.read_round.ReadRound.{ReadRound}
use Rattle.tfpg_check.specs.declared.kept_flags.KeptFlags.{KeptFlags}
use Rattle.tfpg_check.specs.inside.Lookups.{flag_at, IsFlagged}
use Rattle.tfpg_check.specs.inside.LargestParts.{SayFlaggedParts}

-- These are the flags of these hypotheses and checkers, for the numbers that were ranked.
pub record AreKept (hypotheses : List Hypothesis) (checkers : List CheckerState) (flags : KeptFlags) : Type 0 where
  pub closed : flags.closed.items ≡ map (λ (checker : CheckerState). checker.closed) checkers
  pub counted : flags.closed_count ≡ count_by (λ closed. closed) flags.closed.items
  pub ranked : (number : ℕ) → number < length hypotheses → flag_at flags.ranked.items number ≡ list_any (λ n. n == number) flags.numbers.items
  pub part_ranked : SayFlaggedParts hypotheses flags.ranked.items (length hypotheses) flags.part_ranked.items
  pub all_flagged : IsTrue flags.are_all_flagged → (number : ℕ) → number < length hypotheses
      → IsFlagged flags.closed.items flags.ranked.items flags.part_ranked.items number

-- The round has no steps and no open line, and ranks the same numbers.
pub record AddsNothing (flags : KeptFlags) (read : ReadRound) : Type 0 where
  pub parts : read.parts ≡ []
  pub unsettled : read.unsettled ≡ []
  pub numbers : flags.numbers.items ≡ map (λ (r : RankedLine). r.number) read.ranked
