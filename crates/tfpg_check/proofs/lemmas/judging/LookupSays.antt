-- What is looked up is what the basis and the round say.
use Rattle.std.proofs.Common.{◌≡◌, ◌↔◌, ◌<◌, ◌≤◌, ℕ, List, Bool, true, false, cond, Option, Some, None, [], length, get_or, slice_get, eqb, inl, inr, refl, sym, ap, subst, arith, ◌∙◌}
use Rattle.std.proofs.lemmas.Bool.Decides.{nat_tests}
use Rattle.std.specs.Prelude.{◌==◌, option_map, option_and_then, unwrap_or}
use Rattle.std.proofs.lemmas.Option.{slice_get_within}
use Rattle.tfpg_base.specs.Hypothesis.{Hypothesis}
use Rattle.tfpg_base.proofs.lemmas.lists.Elements.{slice_get-same_length, slice_get-there}
use Rattle.tfpg_base.proofs.lemmas.lists.FirstFound.{find-position}
use Rattle.tfpg_graph.specs.Graph.{Tfpg}
use Rattle.tfpg_graph.proofs.lemmas.reach.Reaches.{reach_is_one}
use Rattle.tfpg_log.specs.Log.{Logbook}
use Rattle.tfpg_log.specs.Explains.{Explains}
use Rattle.tfpg_clause.specs.Trees.{split_count}
use Rattle.tfpg_hyp.specs.Views.{log_for}
use Rattle.tfpg_hyp.specs.Ranking.{cost_of, robustness_of, believed_in, alarmed_in}
use Rattle.tfpg_hyp.specs.declared.place.Fraction.{Fraction}
use Rattle.tfpg_hyp.specs.declared.place.Place.{Place}
use Rattle.tfpg_report.specs.declared.read_round.Part.{Part}
use Rattle.tfpg_report.specs.declared.read_round.RankedLine.{RankedLine}
use Rattle.tfpg_report.specs.declared.read_round.NamedSet.{NamedSet}
use Rattle.tfpg_report.specs.ReadRounds.{hypothesis_ranked, hypothesis_named}
use Rattle.tfpg_check.specs.declared.round.lookup.RoundLookup.{RoundLookup}
use Rattle.tfpg_check.specs.Judging.{RoundBasis, IsNumberOf, MayBeRanked, MayBeOpen, HasStatus, EachHasStatus, steps_read, key_read}
use Rattle.tfpg_check.specs.inside.Lookups.{IsLookupOf, IsFlagged}
use Rattle.tfpg_check.specs.inside.Named.{IsLeftOpen, HasStatusFound, steps_found}
use Rattle.tfpg_check.specs.inside.Parts.{IsNextAfter}
use Rattle.tfpg_check.specs.inside.RankedKeys.{SaysRight, IsLastOf}

fraction_by : (monitored alarmed : ℕ) (b : Bool) → (monitored == 0) ≡ b → 1 ≤ (cond {A = Fraction} b (record { alarmed = 1; monitored = 1 }) (record { alarmed = alarmed; monitored = monitored })).monitored
fraction_by monitored alarmed true is = omega arith
fraction_by monitored alarmed false is = grind (arith, nat_tests)

-- the robustness of a hypothesis is a fraction
is_fraction : (graph : Tfpg) (log : Logbook) (reach : List ℕ) (r : RankedLine) → robustness_of graph log reach r.doubts ≡ record { alarmed = r.alarmed; monitored = r.monitored } → 1 ≤ r.monitored
is_fraction graph log reach r is =
    subst (λ (f : Fraction). 1 ≤ f.monitored) is (fraction_by (believed_in graph reach r.doubts) (alarmed_in graph log reach r.doubts) (believed_in graph reach r.doubts == 0) refl)

abbrev no_parts : List Part
no_parts = []

no_part_found : (found : Option ℕ) → unwrap_or (option_map (λ (part : Part). part.steps) (option_and_then (slice_get no_parts) found)) [] ≡ []
no_part_found None = refl
no_part_found (Some index) = refl

-- A hypothesis of which a flag is up has a status in a round without steps.
pub flagged_has_status : (lookup : RoundLookup) → lookup.read.now.parts ≡ [] → (number : ℕ) → IsFlagged lookup.closed.now lookup.ranked.now lookup.part_ranked.now number → HasStatusFound lookup number
flagged_has_status lookup none number (inl closed) = inl closed
flagged_has_status lookup none number (inr (inl ranked)) = inr (inl ranked)
flagged_has_status lookup none number (inr (inr part)) = inr (inr (inr (
  ap (λ (parts : List Part). unwrap_or (option_map (λ (part : Part). part.steps) (option_and_then (slice_get parts) (get_or lookup.parts.now number None))) []) none
      ∙ no_part_found (get_or lookup.parts.now number None),
  part,
)))

module _ (basis : RoundBasis) (lookup : RoundLookup) (is : IsLookupOf basis lookup) where
  -- what stands in the one table stands in the other
  pub listed_in : (number : ℕ) (hypothesis : Hypothesis) → slice_get lookup.table.now.hypotheses number ≡ Some hypothesis → IsNumberOf basis number hypothesis
  listed_in number hypothesis at = ap (λ (hs : List Hypothesis). slice_get hs number) is.hypotheses ∙ at

  pub listed_from : (number : ℕ) (hypothesis : Hypothesis) → IsNumberOf basis number hypothesis → slice_get lookup.table.now.hypotheses number ≡ Some hypothesis
  listed_from number hypothesis at = ap (λ (hs : List Hypothesis). slice_get hs number) (sym is.hypotheses) ∙ at

  within : (number : ℕ) (hypothesis : Hypothesis) → IsNumberOf basis number hypothesis → number < length basis.hypotheses
  within number hypothesis at = slice_get_within basis.hypotheses number hypothesis at

  -- The steps of a hypothesis.
  pub steps_are : (number : ℕ) → number < length basis.hypotheses → steps_found lookup number ≡ steps_read lookup.read.now number
  steps_are number within =
      let parts = lookup.read.now.parts in
      ap (λ (found : Option Part). unwrap_or (option_map (λ (part : Part). part.steps) found) [])
      (ap (option_and_then (slice_get parts)) (is.parts number within) ∙ sym (find-position (λ (part : Part). eqb part.number number) parts))

  -- An open line says what is right.
  pub open_exactly : (before : List NamedSet) (next : ℕ) (named : NamedSet) → IsNextAfter (λ (n : NamedSet). n.number) before next
      → IsLeftOpen lookup next named ↔ MayBeOpen basis lookup.read.now before named
  open_exactly before next named after = (
    λ left. (let at = listed_in named.number (hypothesis_named named) left.listed in
        record {
          rising = (after named.number).1 left.rising;
          listed = at;
          not_closed = λ closed. left.not_closed ((is.closed named.number).1 closed);
          not_ranked = λ ranked. left.not_ranked ((is.ranked named.number (within _ _ at)).1 ranked);
          no_part = λ has. left.no_part ((is.part_ranked named.number _ at).1 has);
          spent = ap split_count (sym (steps_are named.number (within _ _ at))) ∙ left.spent ∙ sym is.budget;
        }),
    λ may. record {
      rising = (after named.number).0 may.rising;
      listed = listed_from named.number _ may.listed;
      not_closed = λ closed. may.not_closed ((is.closed named.number).0 closed);
      not_ranked = λ ranked. may.not_ranked ((is.ranked named.number (within _ _ may.listed)).0 ranked);
      no_part = λ up. may.no_part ((is.part_ranked named.number _ may.listed).0 up);
      spent = ap split_count (steps_are named.number (within _ _ may.listed)) ∙ may.spent ∙ is.budget;
    },
  )

  -- A hypothesis has a status.
  pub status_exactly : (number : ℕ) (hypothesis : Hypothesis) → IsNumberOf basis number hypothesis → HasStatusFound lookup number ↔ HasStatus basis lookup.read.now number hypothesis
  status_exactly number hypothesis at = (to, from)
    where
      to : HasStatusFound lookup number → HasStatus basis lookup.read.now number hypothesis
      to (inl closed) = inl ((is.closed number).0 closed)
      to (inr (inl ranked)) = inr (inl ((is.ranked number (within number hypothesis at)).0 ranked))
      to (inr (inr (inl left))) = inr (inr (inl ((is.unsettled number (within number hypothesis at)).0 left)))
      to (inr (inr (inr covered))) = inr (inr (inr (sym (steps_are number (within number hypothesis at)) ∙ covered.0, (is.part_ranked number hypothesis at).0 covered.1)))

      from : HasStatus basis lookup.read.now number hypothesis → HasStatusFound lookup number
      from (inl closed) = inl ((is.closed number).1 closed)
      from (inr (inl ranked)) = inr (inl ((is.ranked number (within number hypothesis at)).1 ranked))
      from (inr (inr (inl left))) = inr (inr (inl ((is.unsettled number (within number hypothesis at)).1 left)))
      from (inr (inr (inr covered))) = inr (inr (inr (steps_are number (within number hypothesis at) ∙ covered.0, (is.part_ranked number hypothesis at).1 covered.1)))

  -- A ranked line says what is right.
  pub ranked_exactly : (before : List RankedLine) (last : Option Place) (r : RankedLine) → IsLastOf before last
      → SaysRight lookup basis.log last r ↔ MayBeRanked basis lookup.read.now before r
  ranked_exactly before last r after = (
    λ says. (let at = listed_in r.number (hypothesis_ranked r) says.listed in
        let robust = ap (λ (g : Tfpg). robustness_of g basis.log says.robust.0 r.doubts) is.graph ∙ says.robust.2 in
        record {
          listed = at;
          not_closed = λ closed. says.not_closed ((is.closed r.number).1 closed);
          cost = says.cost ∙ ap (λ (g : Tfpg). cost_of g (hypothesis_ranked r)) (sym is.graph);
          reach = says.robust.0;
          reach_is = is.table.reached.exact r.number _ says.robust.0 says.listed says.robust.1;
          robust = robust;
          in_order = (after.exact (key_read r) (is_fraction basis.graph basis.log says.robust.0 r robust)).1 says.after;
          no_part = λ has. says.no_part ((is.part_ranked r.number _ at).1 has);
        }),
    λ may. (let at = listed_from r.number (hypothesis_ranked r) may.listed in
        let reach = slice_get-same_length lookup.table.now.reaches lookup.table.now.hypotheses r.number _ (sym is.table.reached.complete) at in
        let same : may.reach ≡ reach.0 = reach_is_one basis.graph r.set may.reach may.reach_is reach.0 (is.table.reached.exact r.number _ reach.0 at reach.1) in
        record {
          listed = at;
          not_closed = λ closed. may.not_closed ((is.closed r.number).0 closed);
          cost = may.cost ∙ ap (λ (g : Tfpg). cost_of g (hypothesis_ranked r)) is.graph;
          robust = (reach.0, reach.1, sym (λ i. robustness_of (is.graph i) basis.log (same i) r.doubts) ∙ may.robust);
          after = (after.exact (key_read r) (is_fraction basis.graph basis.log may.reach r may.robust)).0 may.in_order;
          no_part = λ up. may.no_part ((is.part_ranked r.number _ may.listed).0 up);
        }),
  )

  pub ranked_exactly_by : (log : Logbook) → basis.log ≡ log → (before : List RankedLine) (last : Option Place) (r : RankedLine) → IsLastOf before last
      → SaysRight lookup log last r ↔ MayBeRanked basis lookup.read.now before r
  ranked_exactly_by log same before last r after =
      subst (λ (l : Logbook). SaysRight lookup l last r ↔ MayBeRanked basis lookup.read.now before r) same (ranked_exactly before last r after)

  -- The trace of a ranked line explains what its hypothesis sees of the log.
  pub explained_by : (log : Logbook) → basis.log ≡ log → (r : RankedLine)
      → Explains lookup.graph.now (log_for log (hypothesis_ranked r)) r.set r.trace ↔ Explains basis.graph (log_for basis.log (hypothesis_ranked r)) r.set r.trace
  explained_by log same r =
      let view : Logbook → Logbook = λ l. log_for l (hypothesis_ranked r) in (
        λ explains. subst (λ (g : Tfpg). Explains g (view basis.log) r.set r.trace) (sym is.graph)
            (subst (λ (l : Logbook). Explains lookup.graph.now (view l) r.set r.trace) (sym same) explains),
        λ explains. subst (λ (g : Tfpg). Explains g (view log) r.set r.trace) is.graph (subst (λ (l : Logbook). Explains basis.graph (view l) r.set r.trace) same explains),
      )

  -- each hypothesis has a status where it is found so by its number
  pub statuses_hold : (end : ℕ) → length lookup.table.now.hypotheses ≤ end → ((number : ℕ) → number < end → HasStatusFound lookup number) → EachHasStatus basis lookup.read.now
  statuses_hold end all each number hypothesis at =
      (status_exactly number hypothesis at).0 (each number (omega (arith, all, slice_get_within lookup.table.now.hypotheses number hypothesis (listed_from number hypothesis at))))

  -- and not where one is found to have none
  pub statuses_fail : (number : ℕ) → number < length lookup.table.now.hypotheses → (HasStatusFound lookup number → ⊥) → EachHasStatus basis lookup.read.now → ⊥
  statuses_fail number within fails each =
      let there = slice_get-there lookup.table.now.hypotheses number within in
      let at = listed_in number there.0 there.1 in
      fails ((status_exactly number there.0 at).1 (each number there.0 at))
