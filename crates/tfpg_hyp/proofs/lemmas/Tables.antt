-- What a table keeps, and that it is the only one.
use Rattle.std.proofs.Common.{◌≡◌, ℕ, ◌+◌, ◌<◌, ◌≤◌, List, [], ◌∷◌, ◌++◌, length, get_or, Some, slice_get, Result, Err, ◌↔◌, ⊎_elim, refl, arith, sym, ◌∙◌, ap, subst}
use Rattle.std.specs.List.{All}
use Rattle.std.proofs.lemmas.Bool.{cases_lt}
use Rattle.std.proofs.lemmas.List.{length-append}
use Rattle.std.proofs.lemmas.Option.{slice_get_within, get_or_from_slice_get, same_Some}
use Rattle.tfpg_base.specs.declared.terms.Terms.{Terms}
use Rattle.tfpg_base.specs.Hypothesis.{Hypothesis}
use Rattle.tfpg_graph.specs.Graph.{Tfpg, failures, AreFailures}
use Rattle.tfpg_graph.specs.Reach.{IsReach}
use Rattle.tfpg_base.proofs.lemmas.lists.Written.{slice_get-push_before, slice_get-push_at}
use Rattle.tfpg_hyp.specs.Table.{ComesFirst, IsListedBefore, StandsBefore, member_numbers, monitors, IsTable}
use Rattle.tfpg_hyp.specs.Views.{IsReachOf}
use Rattle.tfpg_hyp.specs.declared.limits.TheConstants.{MAX_HYPOTHESES}
use Rattle.tfpg_base.proofs.lemmas.lists.Elements.{All-from_members}
use Rattle.tfpg_hyp.specs.declared.table.TableFault.{TableFault}
use Rattle.tfpg_hyp.specs.declared.table.TableFault.TheVariants.{TooMany}
use Rattle.tfpg_hyp.specs.Hypotheses.{HasHypotheses}
use Rattle.tfpg_hyp.specs.inside.Choices.{chosen_below, counted_below}
use Rattle.tfpg_base.proofs.lemmas.lists.Ordered.{same_in_order}
use Rattle.tfpg_hyp.proofs.lemmas.Counted.{length-chosen_below}
use Rattle.tfpg_hyp.proofs.lemmas.Listed.{IsTable-listed}

-- these are what the first hypotheses reach
abbrev pub ReachedSoFar : Tfpg → List Hypothesis → List (List ℕ) → Type 0
ReachedSoFar graph hypotheses reaches =
    (number : ℕ) (hypothesis : Hypothesis) (reach : List ℕ) → slice_get hypotheses number ≡ Some hypothesis → slice_get reaches number ≡ Some reach → IsReachOf graph hypothesis reach

-- one reach more
pub ReachedSoFar-push : (graph : Tfpg) (hypotheses : List Hypothesis) (reaches : List (List ℕ)) (number : ℕ) (hypothesis : Hypothesis) (reach : List ℕ) → length reaches ≡ number → number < length hypotheses
    → hypothesis ≡ get_or hypotheses number hypothesis → IsReachOf graph hypothesis reach → ReachedSoFar graph hypotheses reaches → ReachedSoFar graph hypotheses (reaches ++ reach ∷ [])
ReachedSoFar-push graph hypotheses reaches number hypothesis reach here within is reached before other own own_reach at at_reach =
    ⊎_elim
    (λ earlier. before other own own_reach at (sym (slice_get-push_before reaches reach other earlier) ∙ at_reach))
    (λ not_earlier.
    let last : other ≡ length reaches = omega (arith, not_earlier, slice_get_within (reaches ++ reach ∷ []) other own_reach at_reach, length-append reaches (reach ∷ [])) in
    let same_reach : reach ≡ own_reach = same_Some reach own_reach (sym (slice_get-push_at reaches reach other last) ∙ at_reach) in
    let same : hypothesis ≡ own = is ∙ ap (λ n. get_or hypotheses n hypothesis) (sym (last ∙ here)) ∙ get_or_from_slice_get hypotheses other own hypothesis at in
    subst (λ (r : List ℕ). IsReachOf graph own r) same_reach (subst (λ (h : Hypothesis). IsReachOf graph h reach) same reached))
    (cases_lt other (length reaches))

-- what the first hypotheses reach, and what a set of failure modes reaches
abbrev pub AreReachedWith : Tfpg → List Hypothesis → List (List ℕ) → ℕ → List ℕ → List ℕ → Type 0
AreReachedWith graph hypotheses reaches number set reach = (length reaches ≡ number) × ReachedSoFar graph hypotheses reaches × IsReach graph set reach

-- the reach of the set is that of the next hypothesis
pub AreReachedWith-next : (graph : Tfpg) (hypotheses : List Hypothesis) (before after : List (List ℕ)) (number : ℕ) (hypothesis : Hypothesis) (set reach : List ℕ)
    → (length before ≡ number) × ReachedSoFar graph hypotheses before → number < length hypotheses → hypothesis ≡ get_or hypotheses number hypothesis → after ≡ before ++ reach ∷ []
    → set ≡ hypothesis.set → IsReach graph set reach → AreReachedWith graph hypotheses after (number + 1) set reach
AreReachedWith-next graph hypotheses before after number hypothesis set reach so_far within is pushed same reached = (
  omega (arith, ap length pushed, length-append before (reach ∷ []), so_far.0),
  subst (ReachedSoFar graph hypotheses) (sym pushed)
      (ReachedSoFar-push graph hypotheses before number hypothesis reach so_far.0 within is (subst (λ (s : List ℕ). IsReach graph s reach) same reached) so_far.1),
  reached,
)

-- ---- one table

-- of two lists only one comes first
ComesFirst-asymmetric : (a b : List ℕ) → ComesFirst a b → ComesFirst b a → ⊥
ComesFirst-asymmetric [] [] before after = before
ComesFirst-asymmetric [] (y ∷ ys) before after = after
ComesFirst-asymmetric (x ∷ xs) [] before after = before
ComesFirst-asymmetric (x ∷ xs) (y ∷ ys) before after =
    ⊎_elim
    (λ less. ⊎_elim (λ greater. omega (arith, less, greater)) (λ same. omega (arith, less, same.0)) after)
    (λ same. ⊎_elim (λ greater. omega (arith, greater, same.0)) (λ also. ComesFirst-asymmetric xs ys same.1 also.1) after)
    before

pub IsListedBefore-asymmetric : (a b : List ℕ) → IsListedBefore a b → IsListedBefore b a → ⊥
IsListedBefore-asymmetric a b before after =
    ⊎_elim
    (λ less. ⊎_elim (λ greater. omega (arith, less, greater)) (λ same. omega (arith, less, same.0)) after)
    (λ same. ⊎_elim (λ greater. omega (arith, greater, same.0)) (λ also. ComesFirst-asymmetric a b same.1 also.1) after)
    before

-- The table of a graph and of terms is one.
pub one_table : (graph : Tfpg) (terms : Terms) (hypotheses others : List Hypothesis) → IsTable graph terms hypotheses → IsTable graph terms others → hypotheses ≡ others
one_table graph terms hypotheses others first second =
    same_in_order (StandsBefore graph) (λ a b. IsListedBefore-asymmetric (member_numbers graph a) (member_numbers graph b)) hypotheses others first.in_order second.in_order
    (λ hypothesis member. (second.exact hypothesis).1 ((first.exact hypothesis).0 member))
    (λ hypothesis member. (first.exact hypothesis).1 ((second.exact hypothesis).0 member))

-- and so is the number of hypotheses
pub one_count : (graph : Tfpg) (terms : Terms) (count other : ℕ) → HasHypotheses graph terms count → HasHypotheses graph terms other → count ≡ other
one_count graph terms count other first second = sym first.counted ∙ ap length (one_table graph terms first.hypotheses second.hypotheses first.table second.table) ∙ second.counted

-- ---- what is listed and counted

-- the hypotheses that are listed on these terms
abbrev listed_on : Tfpg → Terms → List Hypothesis
listed_on graph terms = chosen_below (monitors graph) terms.doubt (length (failures graph)) (terms.k + 1)

-- so many hypotheses were counted
pub HasHypotheses-counted : (graph : Tfpg) (terms : Terms) (k doubt : ℕ) → terms.k ≡ k → terms.doubt ≡ doubt → (count own total : ℕ) → count ≡ length (failures graph) → own ≡ length (monitors graph)
    → total ≡ counted_below own doubt count (k + 1) → HasHypotheses graph terms total
HasHypotheses-counted graph terms k doubt same_k same_doubt count own total failing monitored counted = record {
  hypotheses = listed_on graph terms;
  table = IsTable-listed graph terms (length (failures graph)) refl;
  counted =
      length-chosen_below (monitors graph) terms.doubt (length (failures graph)) (terms.k + 1)
      ∙ (λ i. counted_below (sym monitored i) (same_doubt i) (sym failing i) (same_k i + 1)) ∙ sym counted;
}

module _ (graph : Tfpg) (terms : Terms) (count : ℕ) (nodes : List ℕ) (hypotheses : List Hypothesis) (failing : count ≡ length (failures graph)) (monitored : nodes ≡ monitors graph)
    (listed : hypotheses ≡ chosen_below nodes terms.doubt count (terms.k + 1)) where
  all_listed : hypotheses ≡ listed_on graph terms
  all_listed = listed ∙ (λ i. chosen_below (monitored i) terms.doubt (failing i) (terms.k + 1))

  -- what was listed is the table
  pub IsTable-hypotheses : IsTable graph terms hypotheses
  IsTable-hypotheses = subst (IsTable graph terms) (sym all_listed) (IsTable-listed graph terms (length (failures graph)) refl)

  -- its members are failure modes of the graph
  pub members_failing : All (λ (hypothesis : Hypothesis). AreFailures graph hypothesis.set) hypotheses
  members_failing = All-from_members (λ (hypothesis : Hypothesis). AreFailures graph hypothesis.set) hypotheses (λ hypothesis member. ((IsTable-hypotheses.exact hypothesis).0 member).of_graph.members)

  -- and it is no longer than was counted
  pub few_hypotheses : counted_below (length (monitors graph)) terms.doubt (length (failures graph)) (terms.k + 1) ≤ MAX_HYPOTHESES → length hypotheses ≤ MAX_HYPOTHESES
  few_hypotheses few = omega (arith, few, ap length all_listed, length-chosen_below (monitors graph) terms.doubt (length (failures graph)) (terms.k + 1))

-- ---- too many

-- the fault of so many hypotheses
abbrev pub too_many_of : (X : Type 0) → ℕ → Result X TableFault
too_many_of X count = Err (TooMany count)

module _ (graph : Tfpg) (terms : Terms) (total : ℕ) (has : HasHypotheses graph terms total) where
  -- where there are more than 4,096, the fault has exactly their number
  pub too_many-exactly : {X : Type 0} → MAX_HYPOTHESES < total → (count : ℕ) → (too_many_of X total ≡ too_many_of X count) ↔ ((MAX_HYPOTHESES < count) × HasHypotheses graph terms count)
  too_many-exactly {X} many count = (to, from)
    where
      to : too_many_of X total ≡ too_many_of X count → (MAX_HYPOTHESES < count) × HasHypotheses graph terms count
      to same = let equal : total ≡ count = cc in subst (λ n. (MAX_HYPOTHESES < n) × HasHypotheses graph terms n) equal (many, has)

      from : (MAX_HYPOTHESES < count) × HasHypotheses graph terms count → too_many_of X total ≡ too_many_of X count
      from other = ap (too_many_of X) (one_count graph terms total count has other.1)

  -- else there is no number of them above 4,096, and no such fault
  pub not_too_many : {X : Type 0} (result : Result X TableFault) → total ≤ MAX_HYPOTHESES → ((count : ℕ) → result ≡ Err (TooMany count) → ⊥) → (count : ℕ)
      → (result ≡ Err (TooMany count)) ↔ ((MAX_HYPOTHESES < count) × HasHypotheses graph terms count)
  not_too_many result few none count =
      (λ same. absurd (none count same), λ other. absurd (omega (arith, few, other.0, one_count graph terms total count has other.1)))
