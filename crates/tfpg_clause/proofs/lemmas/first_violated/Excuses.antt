-- By when windows have to end for times to be excused from what is due over edges.
use Rattle.std.proofs.Common.{◌≡◌, ℕ, ◌+◌, ◌-◌, ◌<◌, ◌≤◌, List, [], length, get_or, max, Some, None, ap, subst, inl, inr, arith}
use Rattle.std.specs.Prelude.{slice_get}
use Rattle.std.proofs.lemmas.Bool.{cases_lt}
use Rattle.std.proofs.lemmas.List.Elements.{All-nil, All-cons, Contains-get_or}
use Rattle.tfpg_base.specs.Constraint.{Meets}
use Rattle.tfpg_base.specs.Bounds.{at_least, at_most_after}
use Rattle.tfpg_base.proofs.lemmas.lists.Choices.{IfSome-option_and_then, IfSome-from}
use Rattle.tfpg_graph.specs.declared.edge.Edge.{Edge}
use Rattle.tfpg_graph.specs.Graph.{Tfpg}
use Rattle.tfpg_clause.specs.Clauses.{Due, due_over}
use Rattle.tfpg_clause.specs.inside.FirstSpan.{IsExcused}
use Rattle.tfpg_clause.specs.inside.Overdue.{IsExcusedOver, IsExcusedBySome}
use Rattle.tfpg_clause.proofs.lemmas.constraints.BoundsMet.{met_at_least, met_at_most_after}
use Rattle.tfpg_clause.proofs.lemmas.rules.MustClauses.{due_of}

module _ (graph : Tfpg) (times : List ℕ) (edge : ℕ) (own : Edge) (at : slice_get graph.edges edge ≡ Some own) where
  -- What is due over the edge is excused, where it is for each window that it may be due in.
  each_due : (hi : ℕ)
      → ((due : Due) → due.source ≡ own.source → due.target ≡ own.target → own.tmax ≡ Some due.tmax → due.tmax ≤ due.by → due.by ≤ hi
      → IsExcused times hi due)
      → IsExcusedOver graph times edge hi
  each_due hi each log number horizon =
      IfSome-option_and_then (λ (due : Due). due.by ≤ hi → IsExcused times hi due) (due_over log number horizon)
      (slice_get graph.edges edge)
      (λ e there.
      IfSome-from (λ (due : Due). due.by ≤ hi → IsExcused times hi due) (due_over log number horizon e)
      (λ due is room.
      let same : e ≡ own = cc (there, at) in
      let of = due_of log number horizon own due (subst (λ (x : Edge). due_over log number horizon x ≡ Some due) same is) in
      each due of.source of.target of.tmax (omega (arith, of.by)) room))

  -- It is in each window without a greatest delay,
  pub excused_without : None ≡ own.tmax → (hi : ℕ) → IsExcusedOver graph times edge hi
  excused_without infinite hi = each_due hi (λ due source target tmax from room. absurd (cc (infinite, tmax)))

  module _ (tmax : ℕ) (finite : own.tmax ≡ Some tmax) where
    -- and where the target follows in time.
    pub excused_in_time : get_or times own.target 0 ≤ get_or times own.source 0 + tmax → (hi : ℕ) → IsExcusedOver graph times edge hi
    excused_in_time follows hi =
        each_due hi
        (λ due source target of_due from room.
        let same : tmax ≡ due.tmax = cc (finite, of_due) in
        let early : get_or times due.target 0 ≤ get_or times due.source 0 + due.tmax =
        omega (arith, follows, same, ap (λ n. get_or times n 0) source, ap (λ n. get_or times n 0) target) in
        inr
        (All-cons (Meets times) (at_most_after due.target due.source due.tmax) []
        (met_at_most_after times due.target due.source due.tmax early) (All-nil (Meets times))))

    -- In any case it is in a window that ends before the source has been active for the greatest delay.
    pub excused_before : (hi : ℕ) → hi < get_or times own.source 0 + tmax → IsExcusedOver graph times edge hi
    excused_before hi before =
        each_due hi
        (λ due source target of_due from room.
        let same : tmax ≡ due.tmax = cc (finite, of_due) in
        let late : hi - due.tmax + 1 ≤ get_or times due.source 0 =
        omega (arith, before, same, from, room, ap (λ n. get_or times n 0) source) in
        inl
        (All-cons (Meets times) (at_least due.source (hi - due.tmax + 1)) [] (met_at_least times due.source (hi - due.tmax + 1) late)
        (All-nil (Meets times))))

-- What is excused over one of the edges is so by some,
pub excused_by_one : (graph : Tfpg) (times : List ℕ) (edges : List ℕ) (index : ℕ) → index < length edges → (hi : ℕ)
    → IsExcusedOver graph times (get_or edges index 0) hi
    → IsExcusedBySome graph times edges hi
excused_by_one graph times edges index within hi excused = (get_or edges index 0, Contains-get_or edges index 0 within, excused)

-- before the later of two instants.
pub excused_before_later : (graph : Tfpg) (times : List ℕ) (edges : List ℕ) (index latest overdue : ℕ) → index < length edges
    → ((hi : ℕ) → hi < latest → IsExcusedBySome graph times edges hi)
    → ((hi : ℕ) → hi < overdue → IsExcusedOver graph times (get_or edges index 0) hi)
    → (hi : ℕ) → hi < max latest overdue → IsExcusedBySome graph times edges hi
excused_before_later graph times edges index latest overdue within before own hi early = elim (cases_lt hi latest) [
  | inl earlier ↦ before hi earlier
  | inr from ↦ excused_by_one graph times edges index within hi (own hi (omega (arith, early, from)))
]
