-- How many vehicles have a failure mode, by what is kept of each.
use Rattle.std.proofs.Common.{◌≡◌, ◌⊎◌, ◌↔◌, ◌≤◌, ⊎_elim, inl, inr, ℕ, zero, suc, ◌+◌, ◌<◌, ◌==◌, Bool, true, false, List, [], ◌++◌, length, get_or, refl, sym, subst, ap, ap₂, ◌∙◌, arith}
use Rattle.std.specs.Prelude.{Contains, if◌then◌else◌}
use Rattle.std.proofs.lemmas.Bool.{cases_lt, eqb-true, eq-eqb, false_from_ne_true, false≢true}
use Rattle.std.proofs.lemmas.Option.{slice_get-get_or}
use Rattle.tfpg_base.proofs.lemmas.lists.Elements.{Contains-nil, list_any-found, list_any-passes}
use Rattle.tfpg_evidence.specs.declared.round.Round.{Round}
use Rattle.tfpg_graph.specs.Graph.{Tfpg, failures}
use Rattle.tfpg_run.specs.declared.fleet.watch.Watch.{Watch}
use Rattle.tfpg_run.specs.fleet.Answers.{Answer}
use Rattle.tfpg_run.specs.fleet.Counting.{is_in, last_ranks, mode_count_text, modes_text, ranks, vehicles_that}
use Rattle.tfpg_run.specs.fleet.FleetOutput.{FleetProblem, rounds_for, vehicles_with}
use Rattle.tfpg_run.specs.inside.fleet.UnderWay.{HasAnswered, kept_text}

-- a member is in the set
pub in_set : (position : ℕ) (set : List ℕ) → Contains set position → is_in position set ≡ true
in_set position set member = list_any-passes (λ m. m == position) set position member (eq-eqb position position refl)

-- what is in the set is a member
pub from_set : (position : ℕ) (set : List ℕ) → is_in position set ≡ true → Contains set position
from_set position set is =
    let found = list_any-found (λ m. m == position) set is in
    let same : found.0 ≡ position = eqb-true found.0 position found.2 in
    subst (Contains set) same found.1

-- a test that decides it is that test
pub is_in_exactly : (position : ℕ) (set : List ℕ) (test : Bool) → (test ≡ true) ↔ Contains set position → test ≡ is_in position set
is_in_exactly position set true exact = sym (in_set position set (exact.0 refl))
is_in_exactly position set false exact =
    sym (false_from_ne_true (is_in position set) (λ is. false≢true (exact.1 (from_set position set is))))

-- ---- the failure modes that a round ranks

-- which of the positions below a limit are in the set
abbrev pub RankedBelow : Round → ℕ → List ℕ → Type 0
RankedBelow round limit set = (other : ℕ) → Contains set other ↔ ((other < limit) × (ranks other round ≡ true))

-- none below 0
pub ranked_none : (round : Round) (set : List ℕ) → set ≡ [] → RankedBelow round 0 set
ranked_none round set none other = (
  λ member. absurd (Contains-nil other (subst (λ (s : List ℕ). Contains s other) none member)),
  λ below. absurd (omega (arith, below.0)),
)

-- one position more
pub ranked_more : (round : Round) (position : ℕ) (before after : List ℕ) (holds : Bool) → holds ≡ ranks position round
    → ((other : ℕ) → Contains after other ↔ (((holds ≡ true) × (position ≡ other)) ⊎ Contains before other)) → RankedBelow round position before → RankedBelow round (position + 1) after
ranked_more round position before after holds is members so_far other = (
  λ member. ⊎_elim
      (λ (here : (holds ≡ true) × (position ≡ other)). (omega (arith, here.1), subst (λ (p : ℕ). ranks p round ≡ true) here.1 (sym is ∙ here.0)))
      (λ (there : Contains before other). let old = (so_far other).0 there in (omega (arith, old.0), old.1))
      ((members other).0 member),
  λ below. (members other).1 (⊎_elim
      (λ (less : other < position). inr ((so_far other).1 (less, below.1)))
      (λ (last : position ≤ other).
      let same : position ≡ other = omega (arith, last, below.0) in
      inl (is ∙ subst (λ (p : ℕ). ranks p round ≡ true) (sym same) below.1, same))
      (cases_lt other position)),
)

-- all of them
pub ranked_all : (round : Round) (limit last : ℕ) (set : List ℕ) → limit ≤ last → RankedBelow round last set → (position : ℕ) → position < limit → is_in position set ≡ ranks position round
ranked_all round limit last set all below position within = sym (is_in_exactly position set (ranks position round) (
  λ is. (below position).1 (omega (arith, all, within), is),
  λ member. ((below position).0 member).1,
))

-- the set with a member, if that holds
pub with_then : (set after : List ℕ) (position : ℕ) (holds : Bool) → holds ≡ true → ((other : ℕ) → Contains after other ↔ ((position ≡ other) ⊎ Contains set other))
    → (other : ℕ) → Contains after other ↔ (((holds ≡ true) × (position ≡ other)) ⊎ Contains set other)
with_then set after position holds is members other = (
  λ member. ⊎_elim (λ (here : position ≡ other). inl (is, here)) (λ (there : Contains set other). inr there) ((members other).0 member),
  λ either. (members other).1 (⊎_elim (λ (here : (holds ≡ true) × (position ≡ other)). inl here.1) (λ (there : Contains set other). inr there) either),
)

pub with_else : (set : List ℕ) (position : ℕ) (holds : Bool) → holds ≡ false → (other : ℕ) → Contains set other ↔ (((holds ≡ true) × (position ≡ other)) ⊎ Contains set other)
with_else set position holds fails other = (
  λ member. inr member,
  λ either. ⊎_elim (λ (here : (holds ≡ true) × (position ≡ other)). absurd (false≢true (sym fails ∙ here.0))) (λ (there : Contains set other). there) either,
)

-- ---- counts

-- tests that agree on each vehicle count the same
vehicles_same : (one other : ℕ → Bool) (count : ℕ) → ((number : ℕ) → number < count → one number ≡ other number) → vehicles_that one count ≡ vehicles_that other count
vehicles_same one other zero same = refl
vehicles_same one other (suc count) same =
    ap₂ (λ (n : ℕ) (b : Bool). n + (if b then 1 else 0)) (vehicles_same one other count (λ number less. same number (omega (arith, less)))) (same count (omega arith))

-- counts that agree at each position have the same lines
modes_same : (graph : Tfpg) (one other : ℕ → ℕ) (count : ℕ) → ((position : ℕ) → position < count → one position ≡ other position) → modes_text graph one count ≡ modes_text graph other count
modes_same graph one other zero same = refl
modes_same graph one other (suc count) same =
    ap₂ (λ (text : List ℕ) (n : ℕ). text ++ mode_count_text graph count n) (modes_same graph one other count (λ position less. same position (omega (arith, less)))) (same count (omega arith))

-- The lines by what is kept are those of the answers.
pub kept_counts : (fleet : FleetProblem) (lines : List (List ℕ)) (answers : List Answer) (watch : Watch) → HasAnswered fleet lines answers watch
    → kept_text fleet.graph watch.ranked.items ≡ modes_text fleet.graph (vehicles_with fleet answers) (length (failures fleet.graph))
kept_counts fleet lines answers watch answered =
    let ranked = watch.ranked.items in
    modes_same fleet.graph (λ position. vehicles_that (λ number. is_in position (get_or ranked number [])) (length ranked))
    (λ position. vehicles_that (λ number. last_ranks position (rounds_for number answers)) (length fleet.names)) (length (failures fleet.graph))
    (λ position within.
    vehicles_same (λ number. is_in position (get_or ranked number [])) (λ number. last_ranks position (rounds_for number answers)) (length ranked)
    (λ number less. answered.kept number (get_or ranked number []) (slice_get-get_or ranked number [] less) position within)
    ∙ ap (vehicles_that (λ number. last_ranks position (rounds_for number answers))) answered.one_each)

-- ---- counting

-- one vehicle more
pub counts_more : (test : ℕ → Bool) (number count : ℕ) (b : Bool) → b ≡ test number → count ≡ vehicles_that test number → (count + (if b then 1 else 0)) ≡ vehicles_that test (number + 1)
counts_more test number count b is so_far =
    ap₂ (λ (n : ℕ) (t : Bool). n + (if t then 1 else 0)) so_far is ∙ ap (vehicles_that test) (let e : suc number ≡ number + 1 = omega arith in e)
