-- A new system of a leaf.
use Rattle.std.proofs.Common.{◌≡◌, ℕ, zero, suc, ◌+◌, ◌*◌, ◌<◌, List, [], length, Option, Some, sym, ◌∙◌, ap, inl, zero-add, arith}
use Rattle.std.specs.Prelude.{slice_get, pos}
use Rattle.std.proofs.lemmas.Option.{same_Some, none-some, slice_get_within}
use Rattle.tfpg_base.specs.declared.limits.TheConstants.{NEVER}
use Rattle.tfpg_base.specs.declared.constraint.Constraint.{Constraint}
use Rattle.tfpg_evidence.specs.declared.reason.Reason.{Reason}
use Rattle.tfpg_evidence.specs.declared.reason.Reason.TheVariants.{Zero, Top}
use Rattle.tfpg_base.specs.Bounds.{at_most, at_least}
use Rattle.tfpg_diff.specs.VariableBounds.{VariableBounds}
use Rattle.tfpg_diff.specs.declared.pick.Pick.{Pick}
use Rattle.tfpg_diff.specs.Demands.{Demands, Bounded}
use Rattle.tfpg_diff.specs.SystemState.{widest, unbounded_from}
use Rattle.tfpg_diff.specs.inside.Kept.{demands_of}
use Rattle.tfpg_diff.proofs.lemmas.Fresh.{length-unbounded_from}
use Rattle.tfpg_search.specs.inside.Leaf.{tagged_by, IsStated}
use Rattle.tfpg_search.specs.inside.Tags.{IsTagged}
use Rattle.tfpg_search.proofs.lemmas.stated_system.DemandsStayStated.{leaf_of}

-- each node has the widest bounds
widest_at : (first count v : ℕ) (b : VariableBounds) → slice_get (unbounded_from first count) v ≡ Some b → b ≡ widest (first + v)
widest_at first zero v b at = absurd (none-some b at)
widest_at first (suc count) zero b at = sym (same_Some (widest first) b at) ∙ ap widest (omega arith)
widest_at first (suc count) (suc v) b at = widest_at (first + 1) count v b at ∙ ap widest (omega arith)

module _ (demands : Demands) (reasons : List Reason) (nodes : ℕ) (is : demands ≡ demands_of (unbounded_from 0 nodes) [])
    (many : length reasons ≡ 2 * nodes) where
  -- there are as many bounds as nodes
  count : length demands.bounds ≡ nodes
  count = ap (λ (d : Demands). length d.bounds) is ∙ length-unbounded_from 0 nodes

  none : demands.picks ≡ []
  none = ap (λ (d : Demands). d.picks) is

  -- a node has the widest bounds
  bounds_are : (u : ℕ) (b : VariableBounds) → Bounded demands u b → b ≡ widest u
  bounds_are u b at = widest_at 0 nodes u b (sym (ap (λ (d : Demands). slice_get d.bounds u) is) ∙ at) ∙ ap widest (zero-add u)

  -- tags name no reason yet
  pub IsTagged-new : IsTagged demands reasons
  IsTagged-new = record {
    one_each = (let c = count in let n = ap (length {A = Pick}) none in omega arith);
    floors = λ u b at. inl (ap (λ (c : VariableBounds). c.floor_why) (bounds_are u b at));
    ceilings = λ u b at. inl (ap (λ (c : VariableBounds). c.ceiling_why) (bounds_are u b at));
    picks = λ index pick at. absurd (none-some pick (sym (ap (λ (ps : List Pick). slice_get ps index) none) ∙ at));
  }

  -- times lie in range
  pub IsStated-new : (fact : Reason → Option Constraint) →
      ((node : ℕ) → node < nodes → fact (Zero node) ≡ Some (at_least node 0)) →
      ((node : ℕ) → node < nodes → fact (Top node) ≡ Some (at_most node (pos NEVER))) →
      IsStated fact fact (leaf_of demands reasons)
  IsStated-new fact zeros tops = record {
    wider = λ reason constraint states. states;
    bounds = record {
      floors = λ u b at.
          let below = slice_get_within demands.bounds u b at in
          let as_many = count in
          ap (λ (c : VariableBounds). tagged_by fact reasons c.floor_why) (bounds_are u b at) ∙ zeros u (omega arith)
          ∙ sym (ap (λ (c : VariableBounds). Some (at_least u c.floor)) (bounds_are u b at));
      ceilings = λ u b at.
          let below = slice_get_within demands.bounds u b at in
          let as_many = count in
          ap (λ (c : VariableBounds). tagged_by fact reasons c.ceiling_why) (bounds_are u b at) ∙ tops u (omega arith)
          ∙ sym (ap (λ (c : VariableBounds). Some (at_most u (pos c.ceiling))) (bounds_are u b at));
    };
    picks = λ index pick at. absurd (none-some pick (sym (ap (λ (ps : List Pick). slice_get ps index) none) ∙ at));
  }
