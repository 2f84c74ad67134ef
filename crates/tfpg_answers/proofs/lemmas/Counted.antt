-- What having no text says of the number of hypotheses.
use Rattle.std.proofs.Common.{◌≡◌, Result, Ok, Err, sym, subst}
use Rattle.std.specs.Prelude.{IsErrAnd}
use Rattle.tfpg_base.specs.declared.terms.Terms.{Terms}
use Rattle.tfpg_graph.specs.Graph.{Tfpg}
use Rattle.tfpg_hyp.specs.declared.table.TableFault.{TableFault}
use Rattle.tfpg_hyp.specs.declared.table.TableFault.TheVariants.{NoMemory}
use Rattle.tfpg_diagnose.proofs.lemmas.CountedHypotheses.{CountsHypotheses, counted_when_not}

module _ {X Y : Type 0} (graph : Tfpg) (terms : Terms) (result : Result Y TableFault) where
  -- there was no diagnosis: the fault says the same
  pub counted_without_diagnosis : (fault : TableFault) → IsErrAnd result (λ e. e ≡ fault) → CountsHypotheses {X = X} graph terms (Err fault) → CountsHypotheses graph terms result
  counted_without_diagnosis fault = by result
    where
      by : (r : Result Y TableFault) → IsErrAnd r (λ e. e ≡ fault) → CountsHypotheses {X = X} graph terms (Err fault) → CountsHypotheses graph terms r
      by (Ok text) is exact = absurd is
      by (Err e) is exact = subst (λ (f : TableFault). CountsHypotheses {X = Y} graph terms (Err f)) (sym is) (counted_when_not {X = X} {Y = Y} graph terms fault exact)

  -- there was one, so they are not too many, and memory ran out
  pub counted_without_memory : (made : X) → CountsHypotheses graph terms (Ok made) → IsErrAnd result (λ e. e ≡ NoMemory) → CountsHypotheses graph terms result
  counted_without_memory made exact = by result
    where
      none : CountsHypotheses {X = Y} graph terms (Err NoMemory)
      none count = (λ is. cc, λ many. let is = (exact count).1 many in cc)

      by : (r : Result Y TableFault) → IsErrAnd r (λ e. e ≡ NoMemory) → CountsHypotheses graph terms r
      by (Ok text) is = absurd is
      by (Err e) is = subst (λ (f : TableFault). CountsHypotheses {X = Y} graph terms (Err f)) (sym is) none
