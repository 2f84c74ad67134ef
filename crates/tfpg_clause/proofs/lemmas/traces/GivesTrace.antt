-- Numbers that meet all facts and clauses give a trace that explains the log.
use Rattle.std.proofs.Common.{◌≡◌, ℕ, ◌+◌, ◌<◌, ◌≤◌, Bool, true, false, not, ◌||◌, cond, eqb, leb, List, [], ◌∷◌, length, Option, Some, None, refl, sym, ap, ◌∙◌, inl, inr, arith}
use Rattle.std.specs.Prelude.{All, Contains, IsTrue, IfSome}
use Rattle.std.specs.List.{list_any}
use Rattle.std.specs.Option.{option_map_or}
use Rattle.std.proofs.lemmas.Bool.{leb-true, eqb-true, eq-eqb, false≢true, or_cases, or_left, or_right}
use Rattle.std.proofs.lemmas.List.Elements.{All-nil, All-cons}
use Rattle.std.proofs.lemmas.List.Folds.{list_any_at}
use Rattle.tfpg_base.specs.declared.activation.Activation.{Activation}
use Rattle.tfpg_base.specs.Trace.{IsRisingByNode}
use Rattle.tfpg_base.proofs.lemmas.lists.Elements.{All-from_members, AllPairs-cons, list_any-found}
use Rattle.tfpg_graph.specs.declared.kind.Kind.{Kind}
use Rattle.tfpg_graph.specs.declared.kind.Kind.TheVariants.{Failure, Or, And}
use Rattle.tfpg_graph.specs.Graph.{Tfpg, kind_at, is_kind_at, is_failure, is_or, is_and, failure_at}
use Rattle.tfpg_graph.specs.Reach.{IsClosed, Reaches}
use Rattle.tfpg_log.specs.Explains.{IsMember}
use Rattle.tfpg_clause.specs.Cut.{cut, cut_from}

-- ---- the cut as a trace

-- the nodes of a cut are from the first on, and there are so many; its times are up to the instant
pub record IsCutItem (first end now : ℕ) (activation : Activation) : Type 0 where
  pub from : first ≤ activation.node
  pub within : activation.node < end
  pub early : activation.time ≤ now

cut_items : (first end now : ℕ) (numbers : List ℕ) → first + length numbers ≤ end
    → All (IsCutItem first end now) (cut_from first now numbers)
cut_items first end now [] many = All-nil (IsCutItem first end now)
cut_items first end now (number ∷ numbers) many = by (leb number now) refl (cut_items (first + 1) end now numbers (omega (arith, many)))
  where
    weaker : All (IsCutItem (first + 1) end now) (cut_from (first + 1) now numbers)
        → All (IsCutItem first end now) (cut_from (first + 1) now numbers)
    weaker all k d within = let is = all k d within in record { from = omega (arith, is.from); within = is.within; early = is.early }

    by : (b : Bool) → leb number now ≡ b → All (IsCutItem (first + 1) end now) (cut_from (first + 1) now numbers)
        → All (IsCutItem first end now)
        (cond b (record { node = first; time = number } ∷ cut_from (first + 1) now numbers) (cut_from (first + 1) now numbers))
    by true kept all =
        All-cons (IsCutItem first end now) (record { node = first; time = number }) (cut_from (first + 1) now numbers)
        (record { from = omega arith; within = omega (arith, many); early = leb-true number now kept }) (weaker all)
    by false late all = weaker all

cut_rises : (first now : ℕ) (numbers : List ℕ) → IsRisingByNode (cut_from first now numbers)
cut_rises first now [] = λ i j d before within. absurd (omega (arith, within))
cut_rises first now (number ∷ numbers) =
    by (leb number now) (cut_rises (first + 1) now numbers) (cut_items (first + 1) (first + 1 + length numbers) now numbers (omega arith))
  where
    by : (b : Bool) → IsRisingByNode (cut_from (first + 1) now numbers)
        → All (IsCutItem (first + 1) (first + 1 + length numbers) now) (cut_from (first + 1) now numbers)
        → IsRisingByNode
        (cond b (record { node = first; time = number } ∷ cut_from (first + 1) now numbers) (cut_from (first + 1) now numbers))
    by true rest items =
        AllPairs-cons (λ (earlier later : Activation). earlier.node < later.node) (record { node = first; time = number })
        (cut_from (first + 1) now numbers)
        (λ k d within. omega (arith, (items k d within).from)) rest
    by false rest items = rest

-- the nodes of a cut rise
pub rising : (now : ℕ) (numbers : List ℕ) → IsRisingByNode (cut now numbers)
rising now numbers = cut_rises 0 now numbers

-- and are as many as there are numbers, with times up to the instant
pub items : (now : ℕ) (numbers : List ℕ) → All (IsCutItem 0 (length numbers) now) (cut now numbers)
items now numbers = cut_items 0 (length numbers) now numbers (omega arith)

-- ---- failure modes that are reached

abbrev is_node : Option ℕ → ℕ → Bool
is_node None node = false
is_node (Some other) node = eqb other node

module _ (graph : Tfpg) (set : List ℕ) where
  -- the test that passes all but the failure modes outside the set
  abbrev is_own : ℕ → Bool
  is_own node = not (is_kind_at is_failure graph node) || list_any (λ index. is_node (failure_at graph index) node) set

  own_listed : (index node : ℕ) → Contains set index → failure_at graph index ≡ Some node
      → list_any (λ p. is_node (failure_at graph p) node) set ≡ true
  own_listed index node member at =
      list_any_at (λ p. is_node (failure_at graph p) node) set member.0 index member.1
      (ap (λ p. is_node (failure_at graph p) node) member.2 ∙ ap (λ f. is_node f node) at ∙ eq-eqb node node refl)

  no_failure : (test : Kind → Bool) (node : ℕ) → ((kind : Kind) → test kind ≡ true → is_failure kind ≡ false)
      → is_kind_at test graph node ≡ true → not (is_kind_at is_failure graph node) ≡ true
  no_failure test node apart is = by (kind_at graph node) is
    where
      by : (kind : Option Kind) → option_map_or test kind false ≡ true → not (option_map_or is_failure kind false) ≡ true
      by None is = absurd (false≢true is)
      by (Some kind) is = ap not (apart kind is)

  or_apart : (kind : Kind) → is_or kind ≡ true → is_failure kind ≡ false
  or_apart (Failure rarity) is = absurd (false≢true is)
  or_apart (Or lag) is = refl
  or_apart (And lag) is = refl

  and_apart : (kind : Kind) → is_and kind ≡ true → is_failure kind ≡ false
  and_apart (Failure rarity) is = absurd (false≢true is)
  and_apart (Or lag) is = refl
  and_apart (And lag) is = refl

  -- That test is closed for the set.
  own_is_closed : IsClosed graph set is_own
  own_is_closed = record {
    members = All-from_members (λ index. IfSome (failure_at graph index) (λ node. IsTrue (is_own node))) set
        (λ index member. by index member (failure_at graph index) refl);
    or_nodes = λ node or edge into passes. or_left (not (is_kind_at is_failure graph node)) _ (no_failure is_or node or_apart or);
    and_nodes = λ node and all. or_left (not (is_kind_at is_failure graph node)) _ (no_failure is_and node and_apart and);
  }
    where
      by : (index : ℕ) → Contains set index → (failure : Option ℕ) → failure_at graph index ≡ failure
          → IfSome failure (λ node. IsTrue (is_own node))
      by index member None none = tt
      by index member (Some node) at =
          or_right (not (is_kind_at is_failure graph node)) (list_any (λ p. is_node (failure_at graph p) node) set)
          (own_listed index node member at)

  named : (failure : Option ℕ) (node : ℕ) → is_node failure node ≡ true → failure ≡ Some node
  named None node is = absurd (false≢true is)
  named (Some other) node is = ap Some (eqb-true other node is)

  -- So a failure mode that the set reaches is a member of it.
  pub reached_member : (node : ℕ) → Reaches graph set node → IsTrue (is_kind_at is_failure graph node) → IsMember graph set node
  reached_member node reaches failure =
      elim
      (or_cases (not (is_kind_at is_failure graph node)) (list_any (λ p. is_node (failure_at graph p) node) set)
      (reaches is_own own_is_closed)) [
        | inl other ↦ absurd (false≢true (sym (ap not failure) ∙ other))
        | inr among ↦
            (let found = list_any-found (λ p. is_node (failure_at graph p) node) set among in
            (found.0, found.1, named (failure_at graph found.0) node found.2))
      ]

-- ---- what the cut has

-- its nodes are nodes of the graph
pub within : (graph : Tfpg) (now : ℕ) (numbers : List ℕ) → length numbers ≡ length graph.nodes
    → All (λ activation. activation.node < length graph.nodes) (cut now numbers)
within graph now numbers many k d inside = omega (arith, (items now numbers k d inside).within, many)

-- its times are up to the instant
pub early : (now : ℕ) (numbers : List ℕ) → All (λ activation. activation.time ≤ now) (cut now numbers)
early now numbers k d inside = (items now numbers k d inside).early
