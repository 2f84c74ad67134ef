-- Which checkers are closed, and what checkers represent at a log that goes on.
use Rattle.std.proofs.Common.{◌≡◌, ◌↔◌, ℕ, List, Bool, true, false, refl, sym, subst, ◌∙◌}
use Rattle.std.proofs.lemmas.Option.{same_Some}
use Rattle.tfpg_base.specs.Hypothesis.{Hypothesis}
use Rattle.tfpg_graph.proofs.lemmas.reach.Reaches.{reach_is_one}
use Rattle.tfpg_log.specs.Log.{Logbook, GoesOn, IsOrdered}
use Rattle.tfpg_clause.specs.Case.{Case, at_log}
use Rattle.tfpg_clause.specs.Trees.{Judged, IsRefutation}
use Rattle.tfpg_clause.specs.declared.path.PathSplit.{PathSplit}
use Rattle.tfpg_clause.proofs.lemmas.trees.LedPaths.{no_partial}
use Rattle.tfpg_clause.proofs.lemmas.trees.TreesStay.{refutation_stays, path_stays}
use Rattle.tfpg_kernel.specs.CheckerState.{CheckerState}
use Rattle.tfpg_kernel.specs.Represents.{CheckerRepresents, Represented}
use Rattle.tfpg_hyp.specs.Views.{IsReachOf, case_for, log_for}
use Rattle.tfpg_check.specs.Judging.{RoundBasis, IsNumberOf, AreClosed}
use Rattle.tfpg_check.specs.HypothesesState.{HypothesesState, HasChecker, KeepsBasis}

-- ---- closed trees

by_closed : (case : Case) (path : List PathSplit) (steps : List Judged) (closed : Bool) → Represented case path steps closed → IsRefutation case steps → closed ≡ true
by_closed case path steps true is refutation = refl
by_closed case path steps false is refutation = absurd (no_partial case steps refutation is.partial)

module _ (basis : RoundBasis) (number : ℕ) (hypothesis : Hypothesis) (at : IsNumberOf basis number hypothesis) where
  -- A refutation of the hypothesis, by its reach, is what it means that the steps are closed.
  pub closed_steps : (reach : List ℕ) → IsReachOf basis.graph hypothesis reach → (steps : List Judged)
      → IsRefutation (case_for basis.graph basis.log hypothesis reach) steps ↔ AreClosed basis number steps
  closed_steps reach reach_is steps = (
    λ refutation. record { hypothesis = hypothesis; listed = at; reach = reach; reach_is = reach_is; refutation = refutation },
    λ closed. (let same : closed.hypothesis ≡ hypothesis = same_Some closed.hypothesis hypothesis (sym closed.listed ∙ at) in
        let nodes : closed.reach ≡ reach =
        reach_is_one basis.graph hypothesis.set closed.reach (subst (λ (h : Hypothesis). IsReachOf basis.graph h closed.reach) same closed.reach_is) reach reach_is in
        subst (λ (ns : List ℕ). IsRefutation (case_for basis.graph basis.log hypothesis ns) steps) nodes
        (subst (λ (h : Hypothesis). IsRefutation (case_for basis.graph basis.log h closed.reach) steps) same closed.refutation)),
  )

  -- The checker of a hypothesis is closed exactly where its steps are.
  pub closed_exactly : (checker : CheckerState) → IsReachOf basis.graph hypothesis checker.reach → (steps : List Judged)
      → CheckerRepresents basis.graph (log_for basis.log hypothesis) checker steps → (checker.closed ≡ true) ↔ AreClosed basis number steps
  closed_exactly checker reach_is steps represents =
      let case = case_for basis.graph basis.log hypothesis checker.reach in
      let exact = closed_steps checker.reach reach_is steps in (
        λ closed. exact.0 (subst (Represented case checker.path steps) closed represents.steps_are),
        λ closed. by_closed case checker.path steps checker.closed represents.steps_are (exact.1 closed),
      )

-- ---- a log that goes on

module _ (case : Case) (later : Logbook) (ordered : IsOrdered later) (goes_on : GoesOn case.log later) where
  represented_stays : (path : List PathSplit) (steps : List Judged) (closed : Bool) → Represented case path steps closed → Represented (at_log case later) path steps closed
  represented_stays path steps true is = refutation_stays case later ordered goes_on steps is
  represented_stays path steps false is = path_stays case later ordered goes_on steps path is

-- What is kept of a basis is kept at the log of the round.
pub keeps_on : (basis : RoundBasis) (earlier : Logbook) (state : HypothesesState) → IsOrdered basis.log → GoesOn earlier basis.log → KeepsBasis basis earlier state
    → KeepsBasis basis basis.log state
keeps_on basis earlier state ordered goes_on keeps = record {
  terms = keeps.terms;
  table = keeps.table;
  hypotheses = keeps.hypotheses;
  one_each = keeps.one_each;
  each = λ number hypothesis at. on hypothesis (keeps.each number hypothesis at);
}
  where
    on : {number : ℕ} (hypothesis : Hypothesis) → HasChecker basis earlier state number hypothesis → HasChecker basis basis.log state number hypothesis
    on hypothesis has = record {
      checker = has.checker;
      at = has.at;
      reach = has.reach;
      represents = record {
        steps_are = represented_stays (case_for basis.graph earlier hypothesis has.checker.reach) (log_for basis.log hypothesis)
            (record { in_order = ordered.in_order; in_range = ordered.in_range }) (record { more = goes_on.more; events = goes_on.events; ignored = refl }) has.checker.path _
            has.checker.closed has.represents.steps_are;
      };
    }
