-- What the code tests of open and of rejected lines, of the hypotheses and of the counts.
use Rattle.std.specs.Prelude.{◌≡◌, ◌⊎◌, ℕ, ◌+◌, ◌≤◌, List, [], length, get_or, IsTrue, Option, Some, None, option_map, option_and_then, unwrap_or, slice_get}
use Rattle.tfpg_base.specs.Hypothesis.{Hypothesis}
use Rattle.tfpg_evidence.specs.declared.step.Step.{Step}
use Rattle.tfpg_clause.specs.Trees.{split_count}
use Rattle.tfpg_report.specs.declared.read_round.Part.{Part}
use Rattle.tfpg_report.specs.declared.read_round.NamedSet.{NamedSet}
use Rattle.tfpg_report.specs.declared.read_round.ReadRound.{ReadRound}
use Rattle.tfpg_report.specs.ReadRounds.{hypothesis_named}
use Rattle.tfpg_check.specs.declared.round.lookup.RoundLookup.{RoundLookup}
use Rattle.tfpg_check.specs.inside.Lookups.{flag_at}

-- the steps of the part of a number, as it is looked up
abbrev pub steps_found : RoundLookup → ℕ → List Step
steps_found lookup number =
    unwrap_or (option_map (λ (part : Part). part.steps)
    (option_and_then (slice_get lookup.read.now.parts) (get_or lookup.parts.now number None))) []

-- What an open line says is right, by what is looked up.
pub record IsLeftOpen (lookup : RoundLookup) (next : ℕ) (named : NamedSet) : Type 0 where
  pub rising : next ≤ named.number
  pub listed : slice_get lookup.table.now.hypotheses named.number ≡ Some (hypothesis_named named)
  pub not_closed : IsTrue (flag_at lookup.closed.now named.number) → ⊥
  pub not_ranked : IsTrue (flag_at lookup.ranked.now named.number) → ⊥
  pub no_part : IsTrue (flag_at lookup.part_ranked.now named.number) → ⊥
  pub spent : split_count (steps_found lookup named.number) ≡ lookup.budget

-- the line at an index, and else that of the counts
abbrev pub line_at : ReadRound → ℕ → ℕ
line_at read index =
    unwrap_or (option_map (λ (named : NamedSet). named.first_line) (slice_get read.rejected index)) read.counts_line

-- It has no steps in this round, and a proper part of it is ranked, by what is looked up.
abbrev pub IsCoveredFound : RoundLookup → ℕ → Type 0
IsCoveredFound lookup number = (steps_found lookup number ≡ []) × IsTrue (flag_at lookup.part_ranked.now number)

-- The hypothesis of a number has a status, by what is looked up.
abbrev pub HasStatusFound : RoundLookup → ℕ → Type 0
HasStatusFound lookup number =
    IsTrue (flag_at lookup.closed.now number)
    ⊎ (IsTrue (flag_at lookup.ranked.now number)
    ⊎ (IsTrue (flag_at lookup.unsettled.now number) ⊎ IsCoveredFound lookup number))

-- The round has no steps, and each hypothesis is known to have a status, by what is looked up.
pub record IsEachKnown (lookup : RoundLookup) : Type 0 where
  pub all_flagged : IsTrue lookup.are_all_flagged
  pub no_parts : lookup.read.now.parts ≡ []

-- There is a line, and it names the hypothesis of this number.
abbrev pub Names : List Hypothesis → ℕ → Option NamedSet → Type 0
Names hypotheses number None = ⊥
Names hypotheses number (Some named) =
    (named.number ≡ number) × (slice_get hypotheses number ≡ Some (hypothesis_named named))

-- The counts are right, by what is looked up.
pub record AreCountsFound (lookup : RoundLookup) : Type 0 where
  pub ranked : lookup.read.now.counts.ranked ≡ length lookup.read.now.ranked
  pub unsettled : lookup.read.now.counts.unsettled ≡ length lookup.read.now.unsettled
  pub rejected : lookup.read.now.counts.rejected ≡ lookup.closed_count
  pub all : lookup.read.now.counts.ranked + lookup.read.now.counts.covered + lookup.read.now.counts.rejected + lookup.read.now.counts.unsettled
      ≡ length lookup.table.now.hypotheses
