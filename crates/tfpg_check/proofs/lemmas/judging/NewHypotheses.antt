-- A basis before its first round.
use Rattle.std.proofs.Common.{◌≡◌, ◌≤◌, ℕ, ◌+◌, ◌∷◌, [], ◌++◌, List, Some, length, take, slice_get, sym, ap, subst, arith, ◌∙◌}
use Rattle.tfpg_base.proofs.lemmas.lists.Choices.{same_Err}
use Rattle.tfpg_hyp.specs.declared.table.TableFault.{TableFault}
use Rattle.tfpg_hyp.specs.declared.table.TableFault.TheVariants.{TooMany, NoMemory}
use Rattle.std.specs.Prelude.{◌↔◌, Result, Err, option_map}
use Rattle.std.proofs.lemmas.List.{length-map, map_push, take_all}
use Rattle.std.proofs.lemmas.List.Elements.{All-push}
use Rattle.std.proofs.lemmas.Option.{slice_get-map, slice_get_within}
use Rattle.tfpg_base.specs.declared.terms.Terms.{Terms}
use Rattle.tfpg_base.specs.Hypothesis.{Hypothesis}
use Rattle.tfpg_base.proofs.lemmas.lists.Cuts.{take-next}
use Rattle.tfpg_base.proofs.lemmas.lists.Elements.{All-at, slice_get-there}
use Rattle.tfpg_graph.specs.Graph.{Tfpg}
use Rattle.tfpg_log.specs.Log.{Logbook}
use Rattle.tfpg_kernel.specs.CheckerState.{CheckerState}
use Rattle.tfpg_kernel.specs.Represents.{CheckerRepresents}
use Rattle.tfpg_hyp.specs.Hypotheses.{Hypotheses, IsTableOf}
use Rattle.tfpg_hyp.specs.Views.{log_for}
use Rattle.tfpg_check.specs.HypothesesState.{KeepsBasis, HasChecker}
use Rattle.tfpg_check.specs.Judging.{RoundBasis, IsNumberOf}
use Rattle.tfpg_check.specs.inside.Kept.{AreNewCheckers, IsNewChecker}
use Rattle.tfpg_check.specs.inside.Parts.{kept_of}

-- with the checker of one reach more
pub checkers_more : (reaches : List (List ℕ)) (number : ℕ) (reach : List ℕ) (checkers more : List CheckerState) (checker : CheckerState) → slice_get reaches number ≡ Some reach
    → AreNewCheckers (take number reaches) checkers → checker.reach ≡ reach → IsNewChecker checker → more ≡ checkers ++ checker ∷ [] → AreNewCheckers (take (number + 1) reaches) more
checkers_more reaches number reach checkers more checker at are own new same =
    subst (AreNewCheckers (take (number + 1) reaches)) (sym same)
    (record {
      reaches_are = map_push (λ (c : CheckerState). c.reach) checkers checker ∙ (λ i. are.reaches_are i ++ own i ∷ []) ∙ sym (take-next reaches number reach at);
      each = All-push IsNewChecker checkers checker are.each new;
    })

pub checkers_all : (reaches : List (List ℕ)) (end : ℕ) (checkers : List CheckerState) → length reaches ≤ end → AreNewCheckers (take end reaches) checkers → AreNewCheckers reaches checkers
checkers_all reaches end checkers all are = subst (λ (rs : List (List ℕ)). AreNewCheckers rs checkers) (take_all end reaches all) are

-- there is one for each hypothesis
pub one_checker_each : (graph : Tfpg) (terms : Terms) (table : Hypotheses) (checkers : List CheckerState) → IsTableOf graph terms table → AreNewCheckers table.reaches checkers
    → length checkers ≡ length table.hypotheses
one_checker_each graph terms table checkers is are = sym (length-map checkers (λ (c : CheckerState). c.reach)) ∙ ap length are.reaches_are ∙ is.reached.complete

-- New checkers keep a basis without steps.
pub new_keeps : (graph : Tfpg) (terms : Terms) (table : Hypotheses) (checkers : List CheckerState) → IsTableOf graph terms table → AreNewCheckers table.reaches checkers → (basis : RoundBasis) (log : Logbook)
    → basis.graph ≡ graph → basis.terms ≡ terms → basis.hypotheses ≡ table.hypotheses → ((number : ℕ) → basis.steps number ≡ []) → KeepsBasis basis log (kept_of terms table checkers)
new_keeps graph terms table checkers is are basis log same_graph same_terms same none = record {
  terms = sym same_terms;
  table = subst (λ (t : Terms). IsTableOf basis.graph t table) (sym same_terms) (subst (λ (g : Tfpg). IsTableOf g terms table) (sym same_graph) is);
  hypotheses = sym same;
  one_each = as_many ∙ ap length (sym same);
  each = has;
}
  where
    as_many : length checkers ≡ length table.hypotheses
    as_many = one_checker_each graph terms table checkers is are

    has : (number : ℕ) (hypothesis : Hypothesis) → IsNumberOf basis number hypothesis → HasChecker basis log (kept_of terms table checkers) number hypothesis
    has number hypothesis at =
        let there = slice_get-there checkers number (omega (arith, as_many, ap length same, slice_get_within basis.hypotheses number hypothesis at)) in
        record {
          checker = there.0;
          at = there.1;
          reach = ap (λ (rs : List (List ℕ)). slice_get rs number) (sym are.reaches_are) ∙ slice_get-map (λ (c : CheckerState). c.reach) checkers number
              ∙ ap (option_map (λ (c : CheckerState). c.reach)) there.1;
          represents = subst (CheckerRepresents basis.graph (log_for log hypothesis) there.0) (sym (none number))
              (All-at IsNewChecker checkers number there.0 are.each there.1 basis.graph (log_for log hypothesis));
        }

-- ---- too many hypotheses

-- the fault of the table is that of the basis
pub too_many_by : {X Y P : Type 0} (result : Result X TableFault) (fault same : TableFault) (count : ℕ) → result ≡ Err fault → fault ≡ same → ◌≡◌ {A = Result Y TableFault} (Err same) (Err (TooMany count)) ↔ P
    → (result ≡ Err (TooMany count)) ↔ P
too_many_by result fault same count failed from is = (
  λ own. is.0 (ap Err (sym from ∙ same_Err fault (TooMany count) (sym failed ∙ own))),
  λ holds. failed ∙ ap Err (from ∙ same_Err same (TooMany count) (is.1 holds)),
)

no_fault : (count : ℕ) → NoMemory ≡ TooMany count → ⊥
no_fault count is = cc

-- the fault is that memory ran out
pub not_too_many : {X P : Type 0} (result : Result X TableFault) (fault : TableFault) (count : ℕ) → result ≡ Err fault → fault ≡ NoMemory → (P → ⊥) → (result ≡ Err (TooMany count)) ↔ P
not_too_many result fault count failed from never = (λ own. absurd (no_fault count (sym from ∙ same_Err fault (TooMany count) (sym failed ∙ own))), λ holds. absurd (never holds))
