-- The hypotheses of all sizes up to one, listed in order: they are the table.
use Rattle.std.proofs.Common.{◌≡◌, ℕ, suc, zero, ◌+◌, ◌-◌, ◌<◌, ◌≤◌, min, List, ◌++◌, length, get_or, map, inl, inr, ⊎_elim, refl, arith, sym, ◌∙◌, ap, subst}
use Rattle.std.specs.List.{AllPairs, Contains}
use Rattle.std.specs.Prelude.{IsTrue}
use Rattle.std.proofs.lemmas.Bool.{cases_lt}
use Rattle.std.proofs.lemmas.List.{append-nil, length-append, length-map}
use Rattle.std.proofs.lemmas.List.Elements.{All-contains, Contains-get_or, Contains-append_left, Contains-append_right, Contains-append_cases}
use Rattle.tfpg_base.specs.declared.terms.Terms.{Terms}
use Rattle.tfpg_base.specs.Hypothesis.{Hypothesis}
use Rattle.tfpg_base.proofs.lemmas.lists.Sequences.{min-cases}
use Rattle.tfpg_base.proofs.lemmas.lists.Elements.{All-from_members, Contains-nil}
use Rattle.tfpg_base.proofs.lemmas.lists.Ordered.{AllPairs-nil, AllPairs-append}
use Rattle.tfpg_graph.specs.Graph.{Tfpg, failures, is_monitored}
use Rattle.tfpg_hyp.specs.Table.{IsHypothesis, StandsBefore, IsTable, monitors, monitor_number, member_numbers}
use Rattle.tfpg_hyp.specs.inside.Choices.{chosen, chosen_below}
use Rattle.tfpg_hyp.proofs.lemmas.MonitorNumbers.{Rises-monitors, Contains-monitors}
use Rattle.tfpg_hyp.proofs.lemmas.Chosen.{IsChoice, IsChoice-chosen, Contains-chosen, MembersComeFirst, in_order-chosen}
use Rattle.tfpg_hyp.proofs.lemmas.Counted.{chosen-past}

-- how many members a hypothesis has
abbrev size_of : Hypothesis → ℕ
size_of hypothesis = length hypothesis.set + length hypothesis.doubts

-- each member has one number
pub length-members : (graph : Tfpg) (hypothesis : Hypothesis) → length (member_numbers graph hypothesis) ≡ length hypothesis.set + length hypothesis.doubts
length-members graph hypothesis =
    length-append hypothesis.set (map (monitor_number graph) hypothesis.doubts) ∙ ap (λ n. length hypothesis.set + n) (length-map hypothesis.doubts (monitor_number graph))

-- ---- which hypotheses are listed

module _ (graph : Tfpg) (doubt count : ℕ) where
  -- a choice of the monitors of the graph, of its own size
  abbrev IsChoiceOf : Hypothesis → Type 0
  IsChoiceOf hypothesis = IsChoice (monitors graph) doubt count (size_of hypothesis) 0 hypothesis

  -- what is listed is a choice of a lesser size
  pub IsChoice-listed : (size : ℕ) (hypothesis : Hypothesis) → Contains (chosen_below (monitors graph) doubt count size) hypothesis → (size_of hypothesis < size) × IsChoiceOf hypothesis
  IsChoice-listed zero hypothesis member = absurd (Contains-nil hypothesis member)
  IsChoice-listed (suc size) hypothesis member =
      ⊎_elim (λ earlier. let old = IsChoice-listed size hypothesis earlier in (omega (arith, old.0), old.1))
      (λ last. let is = IsChoice-chosen (monitors graph) doubt (Rises-monitors graph) count size 0 hypothesis last in
      (omega (arith, is.size_is), subst (λ n. IsChoice (monitors graph) doubt count n 0 hypothesis) (sym is.size_is) is))
      (Contains-append_cases (chosen_below (monitors graph) doubt count size) (chosen (monitors graph) doubt count size 0) hypothesis member)

  -- each choice of a lesser size is listed
  pub Contains-listed : (size : ℕ) (hypothesis : Hypothesis) → size_of hypothesis < size → IsChoiceOf hypothesis → Contains (chosen_below (monitors graph) doubt count size) hypothesis
  Contains-listed zero hypothesis small is = absurd (omega (arith, small))
  Contains-listed (suc size) hypothesis small is =
      ⊎_elim (λ less. Contains-append_left (chosen_below (monitors graph) doubt count size) (chosen (monitors graph) doubt count size 0) hypothesis (Contains-listed size hypothesis less is))
      (λ not_less. let same : size_of hypothesis ≡ size = omega (arith, small, not_less) in
      Contains-append_right (chosen_below (monitors graph) doubt count size) (chosen (monitors graph) doubt count size 0) hypothesis
      (Contains-chosen (monitors graph) doubt (Rises-monitors graph) count size 0 hypothesis.set hypothesis.doubts (subst (λ n. IsChoice (monitors graph) doubt count n 0 hypothesis) same is)))
      (cases_lt (size_of hypothesis) size)

  -- ---- in which order

  -- hypotheses of one size that stand in order by their lists stand in order
  in_order-size : (size : ℕ) (listed : List Hypothesis) → ((hypothesis : Hypothesis) → Contains listed hypothesis → size_of hypothesis ≡ size)
      → AllPairs (MembersComeFirst graph) listed → AllPairs (StandsBefore graph) listed
  in_order-size size listed sized ordered i j d before within =
      inr (
        omega (
          arith,
          length-members graph (get_or listed i d),
          length-members graph (get_or listed j d),
          sized (get_or listed i d) (Contains-get_or listed i d (omega (arith, before, within))),
          sized (get_or listed j d) (Contains-get_or listed j d within),
        ),
        ordered i j d before within,
      )

  pub in_order-listed : count ≤ length (failures graph) → (size : ℕ) → AllPairs (StandsBefore graph) (chosen_below (monitors graph) doubt count size)
  in_order-listed few zero = AllPairs-nil (StandsBefore graph)
  in_order-listed few (suc size) =
      AllPairs-append (StandsBefore graph) (chosen_below (monitors graph) doubt count size) (chosen (monitors graph) doubt count size 0) (in_order-listed few size)
      (in_order-size size (chosen (monitors graph) doubt count size 0) (λ hypothesis member. (IsChoice-chosen (monitors graph) doubt (Rises-monitors graph) count size 0 hypothesis member).size_is)
      (in_order-chosen graph doubt count size 0 (omega (arith, few))))
      (λ hypothesis other in_first in_second.
      let first = IsChoice-listed size hypothesis in_first in
      let second = IsChoice-chosen (monitors graph) doubt (Rises-monitors graph) count size 0 other in_second in
      inl (omega (arith, length-members graph hypothesis, length-members graph other, first.0, second.size_is)))

-- ---- the table

-- what is listed are the hypotheses
pub IsTable-listed : (graph : Tfpg) (terms : Terms) (count : ℕ) → count ≡ length (failures graph) → IsTable graph terms (chosen_below (monitors graph) terms.doubt count (terms.k + 1))
IsTable-listed graph terms count counted = record {
  exact = λ hypothesis. (to hypothesis, from hypothesis);
  in_order = in_order-listed graph terms.doubt count (omega (arith, counted)) (terms.k + 1);
}
  where
    to : (hypothesis : Hypothesis) → Contains (chosen_below (monitors graph) terms.doubt count (terms.k + 1)) hypothesis → IsHypothesis graph terms hypothesis
    to hypothesis member =
        let found = IsChoice-listed graph terms.doubt count (terms.k + 1) hypothesis member in
        record {
          of_graph = record { rising = found.1.rising; members = λ i d within. omega (arith, counted, found.1.high i d within) };
          doubts_of_graph = record {
            rising = found.1.doubts.rising;
            monitored = All-from_members (λ node. IsTrue (is_monitored graph node)) hypothesis.doubts
                (λ node has. (Contains-monitors graph node).0 (All-contains (Contains (monitors graph)) hypothesis.doubts node found.1.doubts.among has));
          };
          size = omega (arith, found.0);
          few_doubts = found.1.few;
        }

    from : (hypothesis : Hypothesis) → IsHypothesis graph terms hypothesis → Contains (chosen_below (monitors graph) terms.doubt count (terms.k + 1)) hypothesis
    from hypothesis is =
        Contains-listed graph terms.doubt count (terms.k + 1) hypothesis (omega (arith, is.size))
        (record {
          rising = is.of_graph.rising;
          low = λ i d within. omega arith;
          high = λ i d within. omega (arith, counted, is.of_graph.members i d within);
          doubts = record {
            rising = is.doubts_of_graph.rising;
            among = All-from_members (Contains (monitors graph)) hypothesis.doubts
                (λ node has. (Contains-monitors graph node).1 (All-contains (λ n. IsTrue (is_monitored graph n)) hypothesis.doubts node is.doubts_of_graph.monitored has));
            size_is = refl;
          };
          few = is.few_doubts;
          size_is = refl;
        })

-- ---- larger sizes add nothing

module _ (nodes : List ℕ) (doubt count : ℕ) where
  listed-past : (more : ℕ) → chosen_below nodes doubt count (count + doubt + 1 + more) ≡ chosen_below nodes doubt count (count + doubt + 1)
  listed-past zero = let same : count + doubt + 1 + 0 ≡ count + doubt + 1 = omega arith in ap (chosen_below nodes doubt count) same
  listed-past (suc more) =
      let next : count + doubt + 1 + suc more ≡ suc (count + doubt + 1 + more) = omega arith in
      ap (chosen_below nodes doubt count) next
      ∙ (λ i. listed-past more i ++ chosen-past nodes doubt count (count + doubt + 1 + more) 0 (omega arith) i)
      ∙ append-nil (chosen_below nodes doubt count (count + doubt + 1))

  -- the sizes up to all failure modes and all doubts are enough
  pub listed-least : (k : ℕ) → chosen_below nodes doubt count (min k (count + doubt) + 1) ≡ chosen_below nodes doubt count (k + 1)
  listed-least k =
      min-cases (λ n. chosen_below nodes doubt count (n + 1) ≡ chosen_below nodes doubt count (k + 1)) k (count + doubt) (λ few. refl)
      (λ many. let e : count + doubt + 1 + (k - (count + doubt)) ≡ k + 1 = omega (arith, many) in
      sym (sym (ap (chosen_below nodes doubt count) e) ∙ listed-past (k - (count + doubt))))
