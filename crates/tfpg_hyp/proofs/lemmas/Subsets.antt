-- Parts of hypotheses in a table.
use Rattle.std.proofs.Common.{◌≡◌, ℕ, ◌+◌, ◌<◌, ◌≤◌, List, length, Some, slice_get, ⊎_elim, arith, sym, ◌∙◌, ap}
use Rattle.std.specs.List.{Contains}
use Rattle.std.specs.Prelude.{IsTrue}
use Rattle.std.proofs.lemmas.Bool.{cases_order}
use Rattle.std.proofs.lemmas.List.Elements.{All-contains}
use Rattle.std.proofs.lemmas.Option.{same_Some}
use Rattle.tfpg_base.specs.declared.terms.Terms.{Terms}
use Rattle.tfpg_base.specs.NodeSet.{IsNodeSet}
use Rattle.tfpg_base.specs.Set.{IsSubset, IsSet, Rises}
use Rattle.tfpg_base.specs.Hypothesis.{Hypothesis, IsProperPart}
use Rattle.tfpg_base.proofs.lemmas.lists.Elements.{AllPairs-at, All-from_members, Contains-at}
use Rattle.tfpg_base.proofs.lemmas.Sets.{IsSubset-cases}
use Rattle.tfpg_graph.specs.Graph.{Tfpg, failures, is_monitored}
use Rattle.tfpg_hyp.specs.Table.{IsHypothesis, StandsBefore, member_numbers, IsTable}
use Rattle.tfpg_hyp.proofs.lemmas.Listed.{length-members}
use Rattle.tfpg_hyp.proofs.lemmas.Tables.{IsListedBefore-asymmetric}

-- a subset of a rising list is no longer than it
subset_le : (part whole : List ℕ) → Rises part → Rises whole → IsSubset part whole → length part ≤ length whole
subset_le part whole rises_part rises_whole within =
    ⊎_elim (λ same. omega (arith, ap length same)) (λ less. omega (arith, less)) (IsSubset-cases whole part rises_part rises_whole within)

-- a part of a hypothesis is one
pub hypothesis_part : (graph : Tfpg) (terms : Terms) (part whole : Hypothesis) → IsSet part.set → IsNodeSet part.doubts → IsSubset part.set whole.set → IsSubset part.doubts whole.doubts → IsHypothesis graph terms whole → IsHypothesis graph terms part
hypothesis_part graph terms part whole is_set is_nodes within fewer is = record {
  of_graph = record {
    rising = is_set.rising;
    members = All-from_members (λ position. position < length (failures graph)) part.set
        (λ x member. All-contains (λ position. position < length (failures graph)) whole.set x is.of_graph.members
        (All-contains (Contains whole.set) part.set x within member));
  };
  doubts_of_graph = record {
    rising = is_nodes.rising;
    monitored = All-from_members (λ node. IsTrue (is_monitored graph node)) part.doubts
        (λ x member. All-contains (λ node. IsTrue (is_monitored graph node)) whole.doubts x is.doubts_of_graph.monitored
        (All-contains (Contains whole.doubts) part.doubts x fewer member));
  };
  size = omega (arith, subset_le part.set whole.set is_set.rising is.of_graph.rising within, subset_le part.doubts whole.doubts is_nodes.rising is.doubts_of_graph.rising fewer, is.size);
  few_doubts = omega (arith, subset_le part.doubts whole.doubts is_nodes.rising is.doubts_of_graph.rising fewer, is.few_doubts);
}

-- A proper part has fewer members.
pub fewer_members : (graph : Tfpg) (terms : Terms) (part whole : Hypothesis) → IsHypothesis graph terms part → IsHypothesis graph terms whole → IsProperPart part whole
    → length part.set + length part.doubts < length whole.set + length whole.doubts
fewer_members graph terms part whole is also proper =
    ⊎_elim
    (λ same_set.
    ⊎_elim (λ same_doubts. absurd (proper.proper (λ i. record { set = same_set i; doubts = same_doubts i }))) (λ less. omega (arith, less, ap length same_set))
    (IsSubset-cases whole.doubts part.doubts is.doubts_of_graph.rising also.doubts_of_graph.rising proper.doubts))
    (λ less. omega (arith, less, subset_le part.doubts whole.doubts is.doubts_of_graph.rising also.doubts_of_graph.rising proper.doubts))
    (IsSubset-cases whole.set part.set is.of_graph.rising also.of_graph.rising proper.set)

-- ---- at numbers

module _ (graph : Tfpg) (terms : Terms) (hypotheses : List Hypothesis) (table : IsTable graph terms hypotheses) (number other : ℕ) where
  -- no hypothesis stands twice
  pub once : (hypothesis : Hypothesis) → slice_get hypotheses number ≡ Some hypothesis → slice_get hypotheses other ≡ Some hypothesis → number ≡ other
  once hypothesis at also =
      ⊎_elim (λ same. same)
      (λ differ. ⊎_elim (λ less. absurd (twice (AllPairs-at (StandsBefore graph) hypotheses number other hypothesis hypothesis table.in_order at also less)))
      (λ greater. absurd (twice (AllPairs-at (StandsBefore graph) hypotheses other number hypothesis hypothesis table.in_order also at greater))) differ)
      (cases_order number other)
    where
      twice : StandsBefore graph hypothesis hypothesis → ⊥
      twice before = IsListedBefore-asymmetric (member_numbers graph hypothesis) (member_numbers graph hypothesis) before before

  -- a proper part has the lesser number
  pub part_first : (part whole : Hypothesis) → slice_get hypotheses number ≡ Some part → slice_get hypotheses other ≡ Some whole → IsProperPart part whole → number < other
  part_first part whole at at_whole proper =
      let small = (table.exact part).0 (Contains-at hypotheses number part at) in
      let large = (table.exact whole).0 (Contains-at hypotheses other whole at_whole) in
      let shorter = fewer_members graph terms part whole small large proper in
      let first = length-members graph part in
      let second = length-members graph whole in
      ⊎_elim
      (λ same. absurd (proper.proper (same_Some part whole (sym at ∙ ap (slice_get hypotheses) same ∙ at_whole))))
      (λ differ. ⊎_elim (λ less. less)
      (λ greater. absurd (⊎_elim (λ less. omega (arith, less, shorter, first, second)) (λ equal. omega (arith, equal.0, shorter, first, second)) (AllPairs-at (StandsBefore graph) hypotheses other number whole part table.in_order at_whole at greater))) differ)
      (cases_order number other)

  -- none has fewer members than one before it
  pub by_size : (earlier later : Hypothesis) → slice_get hypotheses number ≡ Some earlier → slice_get hypotheses other ≡ Some later → number ≤ other
      → length earlier.set + length earlier.doubts ≤ length later.set + length later.doubts
  by_size earlier later at at_later before =
      let first = length-members graph earlier in
      let second = length-members graph later in
      ⊎_elim
      (λ same. let equal : earlier ≡ later = same_Some earlier later (sym at ∙ ap (slice_get hypotheses) same ∙ at_later) in
      omega (arith, ap (λ (h : Hypothesis). length h.set + length h.doubts) equal))
      (λ differ. ⊎_elim
      (λ less. ⊎_elim (λ fewer. omega (arith, fewer, first, second)) (λ equal. omega (arith, equal.0, first, second))
      (AllPairs-at (StandsBefore graph) hypotheses number other earlier later table.in_order at at_later less))
      (λ greater. absurd (omega (arith, greater, before))) differ)
      (cases_order number other)
