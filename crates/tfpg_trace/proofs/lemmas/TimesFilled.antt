-- The times of a trace are in a list by node once each of its activations is.
use Rattle.std.proofs.Common.{◌≡◌, ◌≢◌, ℕ, ◌+◌, ◌<◌, ◌≤◌, ◌⊎◌, inl, inr, ⊎_elim, List, length, set, get_or, replicate, Option, Some, None, slice_get, slice_index_or, refl, sym, ap, ◌∙◌, arith}
use Rattle.std.proofs.lemmas.Bool.{cases_lt}
use Rattle.std.proofs.lemmas.Bool.Decides.{eqb_tells}
use Rattle.std.proofs.lemmas.Grind.{get_or-set_at}
use Rattle.std.proofs.lemmas.List.{get_or-replicate, get_or-set_other, get_or_past, length-replicate}
use Rattle.tfpg_base.specs.declared.activation.Activation.{Activation}
use Rattle.tfpg_base.specs.Trace.{IsRisingByNode, time_of}
use Rattle.tfpg_base.proofs.lemmas.lists.Elements.{Contains-at, slice_get-contains}
use Rattle.tfpg_base.proofs.lemmas.lists.Sequences.{below_or_last}
use Rattle.tfpg_base.proofs.lemmas.TraceTimes.{activation_there, time_there}
use Rattle.tfpg_trace.specs.inside.TimesByNode.{HasTimes}

-- The node has its time in the list, or has none there, and is that of no activation before this index.
abbrev pub IsFilledUpto : List (Option ℕ) → List Activation → ℕ → ℕ → Type 0
IsFilledUpto by_node trace end node =
    (slice_index_or by_node node None ≡ time_of trace node)
    ⊎ ((slice_index_or by_node node None ≡ None)
    × ((index : ℕ) (activation : Activation) → index < end → slice_get trace index ≡ Some activation → activation.node ≢ node))

-- each node
abbrev pub AreFilledUpto : List (Option ℕ) → List Activation → ℕ → Type 0
AreFilledUpto by_node trace end = (node : ℕ) → IsFilledUpto by_node trace end node

-- a list of nothing has nothing at any index
get_or-nothing : (count node : ℕ) → get_or (replicate {A = Option ℕ} count None) node None ≡ None
get_or-nothing count node = elim (cases_lt node count) [
  | inl lt ↦ get_or-replicate count node None None lt
  | inr ge ↦ get_or_past (replicate {A = Option ℕ} count None) node None (omega (arith, ge, length-replicate {A = Option ℕ} count None))
]

-- before the first activation
pub nothing_filled : (count : ℕ) (trace : List Activation) → AreFilledUpto (replicate {A = Option ℕ} count None) trace 0
nothing_filled count trace node = inr (get_or-nothing count node, λ index activation below. absurd (omega (arith, below)))

same_item : (one other : Activation) → Some one ≡ Some other → one ≡ other
same_item one other same = cc

module _ (by_node : List (Option ℕ)) (trace : List Activation) where
  -- one activation more
  pub filled_more : (end : ℕ) (activation : Activation) → IsRisingByNode trace → slice_get trace end ≡ Some activation
      → activation.node < length by_node → AreFilledUpto by_node trace end
      → AreFilledUpto (set by_node activation.node (Some activation.time)) trace (end + 1)
  filled_more end activation rising at within filled node = elim (eqb_tells node activation.node) [
    | inl (_, same) ↦ inl (
        get_or-set_at by_node activation.node node (Some activation.time) None same within
        ∙ sym (time_there trace rising activation (Contains-at trace end activation at))
        ∙ ap (time_of trace) (sym same))
    | inr (_, other) ↦ ⊎_elim
        (λ (has : get_or by_node node None ≡ time_of trace node). inl
        (get_or-set_other by_node activation.node node (Some activation.time) None other ∙ has))
        (λ left. inr (
          get_or-set_other by_node activation.node node (Some activation.time) None other ∙ left.0,
          λ index found below there. ⊎_elim
              (λ earlier. left.1 index found earlier there)
              (λ last. λ is. other
              (sym is ∙ ap (λ (a : Activation). a.node) (same_item found activation (sym there ∙ ap (slice_get trace) last ∙ at))))
              (below_or_last index end below),
        ))
        (filled node)
  ]

  -- all activations
  pub all_filled : (end : ℕ) → length trace ≤ end → AreFilledUpto by_node trace end → HasTimes by_node trace
  all_filled end upto filled node = ⊎_elim (λ has. has) (λ left. left.0 ∙ sym (by (time_of trace node) refl left.1)) (filled node)
    where
      by : (found : Option ℕ) → time_of trace node ≡ found
          → ((index : ℕ) (activation : Activation) → index < end → slice_get trace index ≡ Some activation → activation.node ≢ node)
          → time_of trace node ≡ None
      by None at others = at
      by (Some time) at others =
          let member = activation_there trace node time at in
          let within : member.0 < end = omega (arith, member.1, upto) in
          absurd
          (others member.0 (record { node = node; time = time }) within
          (slice_get-contains trace (record { node = node; time = time }) member) refl)
