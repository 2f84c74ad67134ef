-- A round that adds nothing to what the last one has shown.
use Rattle.std.proofs.Common.{◌≡◌, ◌<◌, ℕ, [], List, Bool, false, Option, Some, None, length, map, get_or, eqb, refl, sym, ap, subst, arith, ◌∙◌, append-nil}
use Rattle.std.specs.List.{list_any}
use Rattle.std.specs.Prelude.{IsTrue, IfSome, count_by}
use Rattle.std.proofs.lemmas.List.{get_or_past}
use Rattle.std.proofs.lemmas.Option.{none-some}
use Rattle.tfpg_base.specs.Hypothesis.{Hypothesis}
use Rattle.tfpg_base.proofs.lemmas.lists.Images.{list_any-map}
use Rattle.tfpg_clause.specs.Trees.{Judged}
use Rattle.tfpg_kernel.specs.CheckerState.{CheckerState}
use Rattle.tfpg_report.specs.declared.read_round.Part.{Part}
use Rattle.tfpg_report.specs.declared.read_round.RankedLine.{RankedLine}
use Rattle.tfpg_report.specs.declared.read_round.NamedSet.{NamedSet}
use Rattle.tfpg_report.specs.declared.read_round.ReadRound.{ReadRound}
use Rattle.tfpg_check.specs.declared.kept_flags.KeptFlags.{KeptFlags}
use Rattle.tfpg_check.specs.declared.round.lookup.RoundLookup.{RoundLookup}
use Rattle.tfpg_check.specs.Judging.{RoundBasis}
use Rattle.tfpg_check.specs.HypothesesState.{HypothesesState, KeepsBasis}
use Rattle.tfpg_check.specs.inside.AfterRound.{after_round}
use Rattle.tfpg_check.specs.inside.Lookups.{IsLookupOf, IsFlagged, flag_at, part_index}
use Rattle.tfpg_check.specs.inside.Kept.{AreFlagsBefore}
use Rattle.tfpg_check.specs.inside.KeptFlags.{AreKept, AddsNothing}
use Rattle.tfpg_check.specs.inside.LargestParts.{SayFlaggedParts}
use Rattle.tfpg_check.specs.inside.Parts.{ArePartsTaken}
use Rattle.tfpg_check.proofs.lemmas.judging.Lookups.{lookup_is}

-- Without parts there is nothing to take.
pub nothing_taken : (basis : RoundBasis) (read : ReadRound) (state : HypothesesState) → read.parts ≡ [] → KeepsBasis basis basis.log state → ArePartsTaken basis read.parts state
nothing_taken basis read state none keeps =
    subst (λ (parts : List Part). ArePartsTaken basis parts state) (sym none)
    (record {
      passes = λ index part at. absurd (none-some part at);
      not_fails = λ index part at. absurd (none-some part at);
      keeps = subst (λ (steps : ℕ → List Judged). KeepsBasis (record basis { steps = steps }) basis.log state) (λ i number. sym (append-nil (basis.steps number)) i) keeps;
    })

-- ---- what is looked up is what was kept

-- a lookup by these flags
pub record HasFlags (lookup : RoundLookup) (flags : KeptFlags) : Type 0 where
  pub was_closed : lookup.was_closed.now ≡ flags.closed.items
  pub closed : lookup.closed.now ≡ flags.closed.items
  pub counted : lookup.closed_count ≡ flags.closed_count
  pub ranked : lookup.ranked.now ≡ flags.ranked.items
  pub part_ranked : lookup.part_ranked.now ≡ flags.part_ranked.items
  pub all_flagged : lookup.are_all_flagged ≡ flags.are_all_flagged
  pub unsettled : lookup.unsettled.now ≡ []
  pub parts : lookup.parts.now ≡ []

pub same_flagged : (number : ℕ) (closed ranked part closed' ranked' part' : List Bool) → closed ≡ closed' → ranked ≡ ranked' → part ≡ part' → IsFlagged closed' ranked' part' number
    → IsFlagged closed ranked part number
same_flagged number closed ranked part closed' ranked' part' one two three is =
    subst (λ (fs : List Bool). IsFlagged fs ranked part number) (sym one)
    (subst (λ (fs : List Bool). IsFlagged closed' fs part number) (sym two) (subst (λ (fs : List Bool). IsFlagged closed' ranked' fs number) (sym three) is))

pub unchanged_lookup : (basis : RoundBasis) (lookup : RoundLookup) (state : HypothesesState) (flags : KeptFlags) → basis.graph ≡ lookup.graph.now
    → KeepsBasis (after_round basis lookup.read.now) basis.log state → state.table ≡ lookup.table.now → state.terms.budget ≡ lookup.budget
    → AreKept lookup.table.now.hypotheses state.checkers flags → AreFlagsBefore basis flags.closed.items → AddsNothing flags lookup.read.now → HasFlags lookup flags → IsLookupOf basis lookup
unchanged_lookup basis lookup state flags same_graph keeps same_table same_budget kept before nothing has =
    let hypotheses = lookup.table.now.hypotheses in
    let read = lookup.read.now in
    lookup_is basis lookup state (length hypotheses) same_graph keeps same_table same_budget refl (subst (AreFlagsBefore basis) (sym has.was_closed) before)
    (record {
      closed = has.closed ∙ kept.closed;
      ranked = λ number within. ap (λ (fs : List Bool). flag_at fs number) has.ranked ∙ kept.ranked number within ∙ ap (list_any (λ (n : ℕ). eqb n number)) nothing.numbers
          ∙ list_any-map (λ (n : ℕ). eqb n number) (λ (r : RankedLine). r.number) read.ranked;
      part_ranked = subst (λ (fs : List Bool). SayFlaggedParts hypotheses fs (length hypotheses) lookup.part_ranked.now) (sym has.ranked)
          (subst (SayFlaggedParts hypotheses flags.ranked.items (length hypotheses)) (sym has.part_ranked) kept.part_ranked);
      unsettled = λ number within. ap (λ (fs : List Bool). flag_at fs number) has.unsettled ∙ get_or_past [] number false (omega arith)
          ∙ ap (list_any (λ (named : NamedSet). eqb named.number number)) (sym nothing.unsettled);
      parts = λ number within. ap (λ (indexes : List (Option ℕ)). get_or indexes number None) has.parts ∙ get_or_past [] number None (omega arith)
          ∙ ap (λ (parts : List Part). part_index parts number) (sym nothing.parts);
      counted = has.counted ∙ kept.counted ∙ ap (count_by (λ (closed : Bool). closed)) (sym has.closed);
      all_flagged = λ up number within. same_flagged number lookup.closed.now lookup.ranked.now lookup.part_ranked.now flags.closed.items flags.ranked.items flags.part_ranked.items
          has.closed has.ranked has.part_ranked (kept.all_flagged (sym has.all_flagged ∙ up) number within);
    })

-- ---- what is kept after a round

pub flags_kept : (state : HypothesesState) (flags : KeptFlags) (hypotheses : List Hypothesis) (checkers : List CheckerState) (lines : List RankedLine) → hypotheses ≡ state.table.hypotheses
    → checkers ≡ state.checkers → flags.closed.items ≡ map (λ (checker : CheckerState). checker.closed) checkers
    → flags.closed_count ≡ count_by (λ (closed : Bool). closed) flags.closed.items
    → ((number : ℕ) → number < length hypotheses → flag_at flags.ranked.items number ≡ list_any (λ (r : RankedLine). eqb r.number number) lines)
    → flags.numbers.items ≡ map (λ (r : RankedLine). r.number) lines → SayFlaggedParts hypotheses flags.ranked.items (length hypotheses) flags.part_ranked.items
    → (IsTrue flags.are_all_flagged → (number : ℕ) → number < length hypotheses → IsFlagged flags.closed.items flags.ranked.items flags.part_ranked.items number)
    → AreKept state.table.hypotheses state.checkers flags
flags_kept state flags hypotheses checkers lines same_table same_checkers closed counted ranked numbers part_ranked all =
    subst (λ (hs : List Hypothesis). AreKept hs state.checkers flags) same_table
    (subst (λ (cs : List CheckerState). AreKept hypotheses cs flags) same_checkers
    (record {
      closed = closed;
      counted = counted;
      ranked = λ number within. ranked number within ∙ sym (list_any-map (λ (n : ℕ). eqb n number) (λ (r : RankedLine). r.number) lines)
          ∙ ap (list_any (λ (n : ℕ). eqb n number)) (sym numbers);
      part_ranked = part_ranked;
      all_flagged = all;
    }))

-- what holds of what was kept, where something was
pub kept_where : (kept : Option KeptFlags) (flags : KeptFlags) (P : KeptFlags → Type 0) → kept ≡ Some flags → IfSome kept P → P flags
kept_where kept flags P same = subst (λ (found : Option KeptFlags). IfSome found P → P flags) (sym same) (λ holds. holds)
