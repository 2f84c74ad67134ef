-- What came of the tests of a round.
use Rattle.std.proofs.Common.{◌≡◌, ℕ, List, [], ◌++◌, length, take, drop, inl, inr, refl, sym, ap, subst, arith, ◌∙◌, append-nil}
use Rattle.std.proofs.lemmas.List.{drop_all, take_all}
use Rattle.std.specs.Prelude.{Result, Ok, Err, OnOk, MatchResult}
use Rattle.tfpg_base.proofs.lemmas.lists.Choices.{ok-err, same_Err}
use Rattle.tfpg_base.specs.declared.terms.Terms.{Terms}
use Rattle.tfpg_hyp.specs.Hypotheses.{Hypotheses}
use Rattle.tfpg_kernel.specs.CheckerState.{CheckerState}
use Rattle.tfpg_report.specs.declared.read_round.ReadRound.{ReadRound}
use Rattle.tfpg_report.specs.declared.read_round.Part.{Part}
use Rattle.tfpg_check.specs.declared.cause.CheckCause.{CheckCause}
use Rattle.tfpg_check.specs.declared.round_fault.RoundFault.{RoundFault}
use Rattle.tfpg_check.specs.declared.round_fault.RoundFault.TheVariants.{NotAccepted, NoMemory}
use Rattle.tfpg_check.specs.Tests.{Fails, InTurn}
use Rattle.tfpg_check.specs.Judging.{RoundBasis, BeginsWell, PartFails, RoundFails}
use Rattle.tfpg_check.specs.HypothesesState.{HypothesesState, KeepsBasis}
use Rattle.tfpg_check.specs.inside.AfterRound.{after_round}
use Rattle.tfpg_check.specs.Passing.{RoundPasses}
use Rattle.tfpg_check.specs.inside.InTurn.{IsFaultOf}
use Rattle.tfpg_check.specs.inside.Kept.{PassesRest, RestFails}
use Rattle.tfpg_check.specs.inside.Parts.{ArePartsTaken, kept_of}
use Rattle.tfpg_log.specs.Log.{Logbook, GoesOn, IsOrdered}
use Rattle.tfpg_check.proofs.lemmas.judging.ClosedTrees.{keeps_on}
use Rattle.tfpg_check.proofs.lemmas.judging.TestsInTurn.{owes_passes, in_turn_passes}

-- the fault that a result says
pub fault_at : (fails : Fails) (result : Result (Unit {0}) RoundFault) (fault : RoundFault) → result ≡ Err fault → IsFaultOf fails fault → (at : ℕ) (why : CheckCause)
    → result ≡ Err (NotAccepted at why) → fails at why
fault_at fails result fault failed is at why said = subst (IsFaultOf fails) (same_Err fault (NotAccepted at why) (sym failed ∙ said)) is

module _ (basis : RoundBasis) (line : ℕ) (read : ReadRound) (first : BeginsWell basis line read) where
  -- where a part fails, the round does
  pub part_fails : (fault : RoundFault) → IsFaultOf (InTurn (PartFails basis) [] read.parts) fault → IsFaultOf (RoundFails basis line read) fault
  part_fails (NotAccepted at why) is = inr (owes_passes _ _ _ first, inl is)
  part_fails NoMemory is = tt

  module _ (state : HypothesesState) (taken : ArePartsTaken basis read.parts state) where
    rest_fails : (fault : RoundFault) → IsFaultOf (RestFails basis read) fault → IsFaultOf (RoundFails basis line read) fault
    rest_fails (NotAccepted at why) is = inr (owes_passes _ _ _ first, inr (in_turn_passes (PartFails basis) read.parts taken.not_fails, is))
    rest_fails NoMemory is = tt

    -- Where no test after those of the steps fails, the round passes;
    pub round_passes : (result : Result (Unit {0}) RoundFault) → MatchResult result (λ _. PassesRest basis read) (IsFaultOf (RestFails basis read)) → OnOk result (RoundPasses basis line read)
    round_passes (Ok done) rest = record {
      begins = first;
      parts = taken.passes;
      ranked = rest.ranked;
      unsettled = rest.unsettled;
      rejected = rest.rejected;
      statuses = rest.statuses;
      counts = rest.counts;
    }
    round_passes (Err fault) rest = tt

    -- and else it fails as they do.
    pub round_fails : (result : Result (Unit {0}) RoundFault) → MatchResult result (λ _. PassesRest basis read) (IsFaultOf (RestFails basis read)) → (at : ℕ) (why : CheckCause)
        → result ≡ Err (NotAccepted at why) → RoundFails basis line read at why
    round_fails (Ok done) rest at why said = absurd (ok-err _ _ said)
    round_fails (Err fault) rest at why said = fault_at (RoundFails basis line read) (Err fault) fault refl (rest_fails fault rest) at why said

-- what is kept, as the basis says it
pub kept_as : (basis : RoundBasis) (state : HypothesesState) (terms : Terms) (table : Hypotheses) (checkers lent : List CheckerState) → kept_of terms table checkers ≡ state → state.terms ≡ basis.terms
    → lent ≡ checkers → state ≡ kept_of basis.terms table lent
kept_as basis state terms table checkers lent is same value = sym is ∙ (λ i. kept_of (own i) table (sym value i))
  where
    own : terms ≡ basis.terms
    own = ap (λ (s : HypothesesState). s.terms) is ∙ same

-- and after the round, with the checkers as they are written back
pub kept_after : (basis : RoundBasis) (read : ReadRound) (terms : Terms) (table : Hypotheses) (checkers written : List CheckerState) → terms ≡ basis.terms → written ≡ checkers
    → ArePartsTaken basis read.parts (kept_of basis.terms table checkers) → KeepsBasis (after_round basis read) basis.log (kept_of terms table written)
kept_after basis read terms table checkers written same back taken =
    subst (λ (t : Terms). KeepsBasis (after_round basis read) basis.log (kept_of t table written)) (sym same)
    (subst (λ (cs : List CheckerState). KeepsBasis (after_round basis read) basis.log (kept_of basis.terms table cs)) (sym back) taken.keeps)

-- parts that are lent
pub taken_of : (basis : RoundBasis) (parts lent : List Part) (state : HypothesesState) → lent ≡ parts → ArePartsTaken basis lent state → ArePartsTaken basis parts state
taken_of basis parts lent state same = subst (λ (ps : List Part). ArePartsTaken basis ps state) same

-- what is kept at the log of the round
pub keeps_here : (basis : RoundBasis) (earlier log : Logbook) (state : HypothesesState) → IsOrdered log → basis.log ≡ log → GoesOn earlier log → KeepsBasis basis earlier state
    → KeepsBasis basis basis.log state
keeps_here basis earlier log state ordered same goes_on keeps =
    keeps_on basis earlier state (subst IsOrdered (sym same) ordered) (subst (GoesOn earlier) (sym same) goes_on) keeps

-- what holds anyway holds at Ok
pub on_ok : {P : Type 0} (result : Result (Unit {0}) RoundFault) → P → OnOk result P
on_ok (Ok done) holds = holds
on_ok (Err fault) holds = tt

-- a list that was lent as a slice, and is as long as before, is written back as it is
pub written_back : {X : Type 0} (count : ℕ) (old new : List X) → count ≡ length old → length new ≡ length old → take count (new ++ drop (length new) old) ≡ new
written_back count old new counted as_long =
    ap (λ (rest : List _). take count (new ++ rest)) (drop_all (length new) old (omega (arith, as_long))) ∙ ap (take count) (append-nil new)
    ∙ take_all count new (omega (arith, counted, as_long))
