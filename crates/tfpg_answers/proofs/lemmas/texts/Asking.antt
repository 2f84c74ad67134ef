-- Which fault there is of asking over texts.
use Rattle.std.proofs.Common.{◌≡◌, ◌⊎◌, ℕ, ◌<◌, ◌≤◌, List, length, Result, Ok, Err, refl, ap, inl, inr, ⊎_elim, arith}
use Rattle.std.specs.Prelude.{IfErr, IsOkUnless, OnOk}
use Rattle.tfpg_base.specs.declared.terms.Terms.{Terms}
use Rattle.tfpg_base.specs.declared.limits.TheConstants.{LONGEST_FILE}
use Rattle.tfpg_graph.specs.declared.cause.GraphRefusal.{GraphRefusal}
use Rattle.tfpg_graph.specs.declared.cause.GraphRefusal.TheVariants as refusal
use Rattle.tfpg_graph.specs.Graph.{Tfpg}
use Rattle.tfpg_graph.specs.Faults.{IsRefusalOf}
use Rattle.tfpg_hyp.specs.declared.table.TableFault.{TableFault}
use Rattle.tfpg_hyp.specs.declared.table.TableFault.TheVariants as table
use Rattle.tfpg_diagnose.specs.texts.Opening.{GivesGraphOf}
use Rattle.tfpg_diagnose.proofs.lemmas.CountedHypotheses.{CountsHypotheses, not_too_many as few_where_made}
use Rattle.tfpg_diagnose.proofs.lemmas.texts.Opened.{OpenLaws, no_fault_of_many, not_too_many, one_number}
use Rattle.tfpg_answers.specs.declared.texts.fault.AskTextsFault.{AskTextsFault}
use Rattle.tfpg_answers.specs.declared.texts.fault.AskTextsFault.TheVariants.{OutOfRange, TooMuchInput, Graph, TooManyHypotheses, NoMemory}
use Rattle.tfpg_answers.specs.inside.texts.Faults.{ask_fault_of_refusal, ask_fault_of_table}
use Rattle.tfpg_answers.specs.texts.AskedTexts.{CanAskTexts, CanReadLog, IsAskTextsFault}

module _ (graph_text : List ℕ) (terms : Terms) (log_text : List ℕ) where
  -- why there is no graph
  pub asks_no_graph : (why : GraphRefusal) → CanReadLog terms log_text → IsRefusalOf graph_text why → IsAskTextsFault graph_text terms log_text (ask_fault_of_refusal why)
  asks_no_graph (refusal.Fault fault) can is = (can, is)
  asks_no_graph refusal.NoMemory can is = tt

  -- why there is no table
  pub asks_no_table : {X : Type 0} (graph : Tfpg) (why : TableFault) → CanReadLog terms log_text → GivesGraphOf graph_text graph → CountsHypotheses {X = X} graph terms (Err why)
      → IsAskTextsFault graph_text terms log_text (ask_fault_of_table why)
  asks_no_table graph (table.TooMany count) can gives exact =
      let many = (exact count).0 refl in
      (can, record { graph = graph; gives = gives; too_many = many.0; counted = many.1 })
  asks_no_table graph table.NoMemory can gives exact = tt

  -- nothing stood in the way
  pub could_ask : {X : Type 0} (graph : Tfpg) (made : X) → CanReadLog terms log_text → GivesGraphOf graph_text graph → CountsHypotheses graph terms (Ok made) → CanAskTexts graph_text terms log_text
  could_ask graph made can gives exact = record {
    opens = record { within = can.within; graph = graph; gives = gives; few = few_where_made graph terms made exact };
    short = can.short;
  }

  -- a log that can be read is not too long
  not_long : length log_text ≤ LONGEST_FILE → LONGEST_FILE < length log_text → ⊥
  not_long short long = omega (arith, short, long)

  module _ (laws : OpenLaws) where
    -- where nothing stands in the way, the only fault is that memory ran out
    only_memory : CanAskTexts graph_text terms log_text → (fault : AskTextsFault) → IsAskTextsFault graph_text terms log_text fault → fault ≡ NoMemory
    only_memory can OutOfRange is = absurd (is can.opens.within)
    only_memory can TooMuchInput is = absurd (not_long can.short is.1)
    only_memory can (Graph fault) is = absurd (laws.no_fault graph_text can.opens.graph can.opens.gives.spells can.opens.gives.valid fault is.1)
    only_memory can (TooManyHypotheses count) is = absurd (not_too_many laws graph_text terms can.opens count is.1)
    only_memory can NoMemory is = refl

    -- beside a fault that is not of memory there is no other but one of memory
    one_ask_fault : (fault other : AskTextsFault) → (fault ≡ NoMemory → ⊥) → IsAskTextsFault graph_text terms log_text fault → IsAskTextsFault graph_text terms log_text other
        → (other ≡ fault) ⊎ (other ≡ NoMemory)
    one_ask_fault fault NoMemory real is also = inr refl
    one_ask_fault NoMemory other real is also = absurd (real refl)
    one_ask_fault OutOfRange OutOfRange real is also = inl refl
    one_ask_fault OutOfRange TooMuchInput real is also = absurd (is also.0)
    one_ask_fault OutOfRange (Graph found) real is also = absurd (is also.0.within)
    one_ask_fault OutOfRange (TooManyHypotheses count) real is also = absurd (is also.0.within)
    one_ask_fault TooMuchInput OutOfRange real is also = absurd (also is.0)
    one_ask_fault TooMuchInput TooMuchInput real is also = inl refl
    one_ask_fault TooMuchInput (Graph found) real is also = absurd (not_long also.0.short is.1)
    one_ask_fault TooMuchInput (TooManyHypotheses count) real is also = absurd (not_long also.0.short is.1)
    one_ask_fault (Graph first) OutOfRange real is also = absurd (also is.0.within)
    one_ask_fault (Graph first) TooMuchInput real is also = absurd (not_long is.0.short also.1)
    one_ask_fault (Graph first) (Graph found) real is also = inl (ap Graph (laws.one_fault graph_text found first also.1 is.1))
    one_ask_fault (Graph first) (TooManyHypotheses count) real is also = absurd (no_fault_of_many laws graph_text terms first count is.1 also.1)
    one_ask_fault (TooManyHypotheses most) OutOfRange real is also = absurd (also is.0.within)
    one_ask_fault (TooManyHypotheses most) TooMuchInput real is also = absurd (not_long is.0.short also.1)
    one_ask_fault (TooManyHypotheses most) (Graph found) real is also = absurd (no_fault_of_many laws graph_text terms found most also.1 is.1)
    one_ask_fault (TooManyHypotheses most) (TooManyHypotheses count) real is also = inl (ap TooManyHypotheses (one_number laws graph_text terms count most also.1 is.1))

    -- where nothing stands in the way, there are questions, or memory ran out
    pub asks_or_no_memory : {T : Type 0} (result : Result T AskTextsFault) → IfErr result (IsAskTextsFault graph_text terms log_text) → CanAskTexts graph_text terms log_text → IsOkUnless result NoMemory
    asks_or_no_memory (Ok text) is can = tt
    asks_or_no_memory (Err fault) is can = only_memory can fault is

    -- where a fault stands in the way, it is the fault, or memory ran out
    pub refuses_to_ask : {T : Type 0} (result : Result T AskTextsFault) → OnOk result (CanAskTexts graph_text terms log_text) → IfErr result (IsAskTextsFault graph_text terms log_text)
        → (fault : AskTextsFault) → (fault ≡ NoMemory → ⊥) → IsAskTextsFault graph_text terms log_text fault → (result ≡ Err fault) ⊎ (result ≡ Err NoMemory)
    refuses_to_ask (Ok text) can is fault real stands = absurd (real (only_memory can fault stands))
    refuses_to_ask (Err why) can is fault real stands = ⊎_elim (λ same. inl (ap Err same)) (λ none. inr (ap Err none)) (one_ask_fault fault why real stands is)
