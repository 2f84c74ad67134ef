-- Opening a diagnosis of the graph that a text spells.
use Rattle.std.proofs.Common.{◌≡◌, ◌⊎◌, ℕ, List, [], Result, Ok, Err, ap, sym, subst, ◌∙◌, refl, inl, inr, ⊎_elim, arith}
use Rattle.std.specs.Prelude.{IfErr, IsOkUnless, OnOk}
use Rattle.tfpg_base.specs.declared.terms.Terms.{Terms}
use Rattle.tfpg_base.specs.Terms.{AreReportTerms}
use Rattle.tfpg_graph.specs.declared.cause.GraphFault.{GraphFault}
use Rattle.tfpg_graph.specs.declared.cause.GraphRefusal.{GraphRefusal}
use Rattle.tfpg_graph.specs.declared.cause.GraphRefusal.TheVariants as refusal
use Rattle.tfpg_graph.specs.Graph.{Tfpg}
use Rattle.tfpg_graph.specs.Text.{Spells}
use Rattle.tfpg_graph.specs.Valid.{IsValid}
use Rattle.tfpg_graph.specs.Faults.{IsFirstFault, IsRefusalOf}
use Rattle.tfpg_graph.proofs.lemmas.reading.faults.NoFault.{Spells-clean}
use Rattle.tfpg_log.specs.LogOfLines.{new_log}
use Rattle.tfpg_hyp.specs.Hypotheses.{HasHypotheses}
use Rattle.tfpg_hyp.specs.declared.table.TableFault.{TableFault}
use Rattle.tfpg_hyp.specs.declared.table.TableFault.TheVariants as table
use Rattle.tfpg_engine.specs.EngineState.{EngineState, EngineRepresents, calls_of_engine}
use Rattle.tfpg_check.specs.Report.{HasReports}
use Rattle.tfpg_diagnose.specs.declared.texts.fault.OpenFault.{OpenFault}
use Rattle.tfpg_diagnose.specs.declared.texts.fault.OpenFault.TheVariants.{OutOfRange, Graph, TooManyHypotheses, NoMemory}
use Rattle.tfpg_diagnose.specs.texts.Opening.{CanOpen, GivesGraphOf, GivesTooMany, IsOpenFault}
use Rattle.tfpg_diagnose.specs.texts.Sessions.{IsNewSession, SessionState}
use Rattle.tfpg_diagnose.specs.inside.texts.Faults.{open_fault_of_refusal, open_fault_of_table}
use Rattle.tfpg_diagnose.specs.inside.texts.Opened.{IsNewEngineOf}
use Rattle.tfpg_diagnose.proofs.lemmas.CountedHypotheses.{CountsHypotheses, has_reports}

-- That a text that spells a valid graph has no first fault is a law of graphs.
abbrev pub NoFaultOfText : Type 0
NoFaultOfText = (text : List ℕ) (graph : Tfpg) → Spells text graph → IsValid graph → (fault : GraphFault) → IsFirstFault text fault → ⊥

-- A text gives one graph.
pub one_graph : (text : List ℕ) (graph other : Tfpg) → GivesGraphOf text graph → GivesGraphOf text other → graph ≡ other
one_graph text graph other gives also =
    sym (Spells-clean text graph gives.spells gives.valid).1 ∙ (Spells-clean text other also.spells also.valid).1

-- why there is no table
pub opens_no_table : {X : Type 0} (text : List ℕ) (terms : Terms) (graph : Tfpg) (why : TableFault) → AreReportTerms terms → GivesGraphOf text graph
    → CountsHypotheses {X = X} graph terms (Err why) → IsOpenFault text terms (open_fault_of_table why)
opens_no_table text terms graph (table.TooMany count) within gives exact =
    let many = (exact count).0 refl in
    (within, record { graph = graph; gives = gives; too_many = many.0; counted = many.1 })
opens_no_table text terms graph table.NoMemory within gives exact = tt

-- why there is no graph
pub opens_no_graph : (text : List ℕ) (terms : Terms) (why : GraphRefusal) → AreReportTerms terms → IsRefusalOf text why → IsOpenFault text terms (open_fault_of_refusal why)
opens_no_graph text terms (refusal.Fault fault) within is = (within, is)
opens_no_graph text terms refusal.NoMemory within is = tt

-- the engine that was made
pub opens_engine : (text : List ℕ) (terms : Terms) (graph : Tfpg) (engine : EngineState) → GivesGraphOf text graph → AreReportTerms terms → CountsHypotheses graph terms (Ok engine)
    → engine.graph ≡ graph → engine.terms ≡ terms → engine.log ≡ new_log → EngineRepresents engine [] → calls_of_engine engine ≡ 0 → IsNewEngineOf text terms engine
opens_engine text terms graph engine gives within exact graph_is terms_is log_is represents uncounted = record {
  gives = subst (GivesGraphOf text) (sym graph_is) gives;
  terms_is = terms_is;
  log_is = log_is;
  represents = represents;
  uncounted = uncounted;
  has_reports = has_reports graph terms engine engine.graph engine.terms exact graph_is terms_is within;
}

-- ---- which fault there is

-- The laws by which a text and its terms have one fault: its first fault is one, and a valid graph has none, and one number of hypotheses.
pub record OpenLaws : Type 0 where
  pub no_fault : NoFaultOfText
  pub one_fault : (text : List ℕ) (fault other : GraphFault) → IsFirstFault text fault → IsFirstFault text other → fault ≡ other
  pub one_count : (graph : Tfpg) (terms : Terms) (count other : ℕ) → HasHypotheses graph terms count → HasHypotheses graph terms other → count ≡ other

-- a new engine shows that nothing stood in its way
pub engine_can_open : (text : List ℕ) (terms : Terms) (engine : EngineState) → IsNewEngineOf text terms engine → CanOpen text terms
engine_can_open text terms engine new =
    let has = subst (HasReports engine.graph) new.terms_is new.has_reports in
    record { within = has.within; graph = engine.graph; gives = new.gives; few = has.few_hypotheses }

-- and so does a new session
pub session_can_open : (text : List ℕ) (terms : Terms) (session : SessionState) → IsNewSession text terms session → CanOpen text terms
session_can_open text terms session new =
    let has = new.represents.report.report.has_reports in
    record { within = has.within; graph = new.graph; gives = new.gives; few = has.few_hypotheses }

module _ (laws : OpenLaws) (text : List ℕ) (terms : Terms) where
  -- a text has one number of hypotheses
  pub one_number : (count other : ℕ) → GivesTooMany text terms count → GivesTooMany text terms other → count ≡ other
  one_number count other many also =
      let same : many.graph ≡ also.graph = one_graph text many.graph also.graph many.gives also.gives in
      laws.one_count also.graph terms count other (subst (λ (g : Tfpg). HasHypotheses g terms count) same many.counted) also.counted

  -- a graph that can be diagnosed has not too many
  pub not_too_many : CanOpen text terms → (count : ℕ) → GivesTooMany text terms count → ⊥
  not_too_many can count many =
      let same : many.graph ≡ can.graph = one_graph text many.graph can.graph many.gives can.gives in
      let few = can.few count (subst (λ (g : Tfpg). HasHypotheses g terms count) same many.counted) in
      let too_many = many.too_many in
      omega (arith, few, too_many)

  -- one that has too many is valid
  pub no_fault_of_many : (fault : GraphFault) (count : ℕ) → IsFirstFault text fault → GivesTooMany text terms count → ⊥
  no_fault_of_many fault count is many = laws.no_fault text many.graph many.gives.spells many.gives.valid fault is

  -- where nothing stands in the way, the only fault is that memory ran out
  pub only_memory : CanOpen text terms → (fault : OpenFault) → IsOpenFault text terms fault → fault ≡ NoMemory
  only_memory can OutOfRange is = absurd (is can.within)
  only_memory can (Graph fault) is = absurd (laws.no_fault text can.graph can.gives.spells can.gives.valid fault is.1)
  only_memory can (TooManyHypotheses count) is = absurd (not_too_many can count is.1)
  only_memory can NoMemory is = refl

  -- beside a fault that is not of memory there is no other but one of memory
  pub one_open_fault : (fault other : OpenFault) → (fault ≡ NoMemory → ⊥) → IsOpenFault text terms fault → IsOpenFault text terms other → (other ≡ fault) ⊎ (other ≡ NoMemory)
  one_open_fault fault NoMemory real is also = inr refl
  one_open_fault NoMemory other real is also = absurd (real refl)
  one_open_fault OutOfRange OutOfRange real is also = inl refl
  one_open_fault OutOfRange (Graph found) real is also = absurd (is also.0)
  one_open_fault OutOfRange (TooManyHypotheses count) real is also = absurd (is also.0)
  one_open_fault (Graph first) OutOfRange real is also = absurd (also is.0)
  one_open_fault (Graph first) (Graph found) real is also = inl (ap Graph (laws.one_fault text found first also.1 is.1))
  one_open_fault (Graph first) (TooManyHypotheses count) real is also = absurd (no_fault_of_many first count is.1 also.1)
  one_open_fault (TooManyHypotheses most) OutOfRange real is also = absurd (also is.0)
  one_open_fault (TooManyHypotheses most) (Graph found) real is also = absurd (no_fault_of_many found most also.1 is.1)
  one_open_fault (TooManyHypotheses most) (TooManyHypotheses count) real is also = inl (ap TooManyHypotheses (one_number count most also.1 is.1))

  -- where nothing stands in the way, there is a diagnosis, or memory ran out
  pub opens_or_no_memory : {T : Type 0} (result : Result T OpenFault) → IfErr result (IsOpenFault text terms) → CanOpen text terms → IsOkUnless result NoMemory
  opens_or_no_memory (Ok opened) is can = tt
  opens_or_no_memory (Err fault) is can = only_memory can fault is

  -- where a fault stands in the way, it is the fault, or memory ran out
  pub refuses_to_open : {T : Type 0} (result : Result T OpenFault) → OnOk result (CanOpen text terms) → IfErr result (IsOpenFault text terms)
      → (fault : OpenFault) → (fault ≡ NoMemory → ⊥) → IsOpenFault text terms fault → (result ≡ Err fault) ⊎ (result ≡ Err NoMemory)
  refuses_to_open (Ok opened) can is fault real stands = absurd (real (only_memory can fault stands))
  refuses_to_open (Err why) can is fault real stands = ⊎_elim (λ same. inl (ap Err same)) (λ none. inr (ap Err none)) (one_open_fault fault why real stands is)
