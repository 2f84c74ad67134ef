-- What the tests of a round are judged by, once its steps are taken.
use Rattle.std.specs.Prelude.{◌≡◌, ◌⊎◌, ◌↔◌, ℕ, ◌<◌, List, length, get_or, count_by, Bool, false, not, ◌&&◌, ◌==◌, if◌then◌else◌, IsTrue, Option, Some, None, position, slice_get}
use Rattle.tfpg_base.specs.Hypothesis.{Hypothesis}
use Rattle.tfpg_hyp.specs.Hypotheses.{IsTableOf}
use Rattle.tfpg_report.specs.declared.read_round.Part.{Part}
use Rattle.tfpg_check.specs.declared.round.lookup.RoundLookup.{RoundLookup}
use Rattle.tfpg_check.specs.Judging.{RoundBasis, WasClosed, IsClosedByRound, IsRankedLine, IsOpenLine, HasRankedPartIn}

-- the flag of a number, which is down past the end
abbrev pub flag_at : List Bool → ℕ → Bool
flag_at flags number = get_or flags number false

-- One of the flags of a number is up: that its tree is closed, that it is ranked, or that a proper part of it is.
abbrev pub IsFlagged : List Bool → List Bool → List Bool → ℕ → Type 0
IsFlagged closed ranked part_ranked number =
    IsTrue (flag_at closed number) ⊎ (IsTrue (flag_at ranked number) ⊎ IsTrue (flag_at part_ranked number))

-- the index of the first part of a number
abbrev pub part_index : List Part → ℕ → Option ℕ
part_index parts number = position (λ (part : Part). part.number == number) parts

-- the index noted for a number, where this one is the first or another was noted
abbrev pub noted : Option ℕ → Bool → ℕ → Option ℕ
noted None is_same index = if is_same then Some index else None
noted (Some before) is_same index = Some before

-- Of each number of the table, what is looked up is what the round says.
pub record IsLookupOf (basis : RoundBasis) (lookup : RoundLookup) : Type 0 where
  pub graph : basis.graph ≡ lookup.graph.now
  pub budget : basis.terms.budget ≡ lookup.budget
  pub table : IsTableOf basis.graph basis.terms lookup.table.now
  pub hypotheses : basis.hypotheses ≡ lookup.table.now.hypotheses
  pub was_closed : (number : ℕ) → IsTrue (flag_at lookup.was_closed.now number) ↔ WasClosed basis number
  pub closed : (number : ℕ) → IsTrue (flag_at lookup.closed.now number) ↔ IsClosedByRound basis lookup.read.now number
  pub ranked : (number : ℕ) → number < length basis.hypotheses
      → IsTrue (flag_at lookup.ranked.now number) ↔ IsRankedLine lookup.read.now number
  pub part_ranked : (number : ℕ) (hypothesis : Hypothesis) → slice_get basis.hypotheses number ≡ Some hypothesis
      → IsTrue (flag_at lookup.part_ranked.now number) ↔ HasRankedPartIn basis lookup.read.now hypothesis
  pub unsettled : (number : ℕ) → number < length basis.hypotheses
      → IsTrue (flag_at lookup.unsettled.now number) ↔ IsOpenLine lookup.read.now number
  pub parts : (number : ℕ) → number < length basis.hypotheses
      → get_or lookup.parts.now number None ≡ part_index lookup.read.now.parts number
  pub counted : lookup.closed_count ≡ count_by (λ closed. closed) lookup.closed.now
  pub all_flagged : IsTrue lookup.are_all_flagged → (number : ℕ) → number < length basis.hypotheses
      → IsFlagged lookup.closed.now lookup.ranked.now lookup.part_ranked.now number

-- whether the tree of the hypothesis of a number was closed in this round
abbrev pub is_newly_closed : RoundLookup → ℕ → Bool
is_newly_closed lookup number = flag_at lookup.closed.now number && not (flag_at lookup.was_closed.now number)
