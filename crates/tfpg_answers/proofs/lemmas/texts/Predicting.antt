-- Which fault there is of predicting over texts.
use Rattle.std.proofs.Common.{◌≡◌, ◌⊎◌, ℕ, ◌<◌, ◌≤◌, length, Result, Ok, Err, refl, sym, ap, ◌∙◌, inl, inr, ⊎_elim, arith}
use Rattle.std.specs.Prelude.{IfErr, IsOkUnless, OnOk}
use Rattle.tfpg_base.specs.declared.limits.TheConstants.{LONGEST_FILE}
use Rattle.tfpg_graph.specs.declared.cause.GraphFault.{GraphFault}
use Rattle.tfpg_graph.specs.declared.cause.GraphRefusal.{GraphRefusal}
use Rattle.tfpg_graph.specs.declared.cause.GraphRefusal.TheVariants as refusal
use Rattle.tfpg_graph.specs.Graph.{Tfpg}
use Rattle.tfpg_graph.specs.Faults.{IsFirstFault, IsRefusalOf}
use Rattle.tfpg_hyp.specs.declared.table.TableFault.{TableFault}
use Rattle.tfpg_hyp.specs.declared.table.TableFault.TheVariants as table
use Rattle.tfpg_diagnose.specs.texts.Opening.{GivesGraphOf}
use Rattle.tfpg_diagnose.proofs.lemmas.CountedHypotheses.{CountsHypotheses, not_too_many as few_where_made}
use Rattle.tfpg_diagnose.proofs.lemmas.texts.Opened.{OpenLaws, no_fault_of_many, not_too_many, one_graph, one_number}
use Rattle.tfpg_answers.specs.Probing.{probed_node}
use Rattle.tfpg_answers.specs.declared.predict.probing.ProbeFault.{ProbeFault}
use Rattle.tfpg_answers.specs.declared.texts.fault.PredictTextsFault.{PredictTextsFault}
use Rattle.tfpg_answers.specs.declared.texts.fault.PredictTextsFault.TheVariants.{OutOfRange, TooMuchInput, Graph, Probe, TooManyHypotheses, NoMemory}
use Rattle.tfpg_answers.specs.inside.texts.Faults.{predict_fault_of_refusal, predict_fault_of_table}
use Rattle.tfpg_answers.specs.texts.PredictedTexts.{CanPredictTexts, CanReadTexts, GivesNoProbe, GivesProbe, IsPredictTextsFault, PredictedTexts}

module _ (texts : PredictedTexts) where
  -- why there is no graph
  pub predicts_no_graph : (why : GraphRefusal) → CanReadTexts texts → IsRefusalOf texts.graph why → IsPredictTextsFault texts (predict_fault_of_refusal why)
  predicts_no_graph (refusal.Fault fault) can is = (can, is)
  predicts_no_graph refusal.NoMemory can is = tt

  module _ (can : CanReadTexts texts) (probe : GivesProbe texts.graph texts.asked.node) where
    -- why there is no table
    pub predicts_no_table : {X : Type 0} (why : TableFault) → CountsHypotheses {X = X} probe.graph texts.asked.terms (Err why) → IsPredictTextsFault texts (predict_fault_of_table why)
    predicts_no_table (table.TooMany count) exact =
        let many = (exact count).0 refl in
        (can, probe, record { graph = probe.graph; gives = probe.gives; too_many = many.0; counted = many.1 })
    predicts_no_table table.NoMemory exact = tt

    -- nothing stood in the way
    pub could_predict : {X : Type 0} (made : X) → CountsHypotheses probe.graph texts.asked.terms (Ok made) → CanPredictTexts texts
    could_predict made exact = record {
      can_read = can;
      opens = record {
        within = can.in_range.within;
        graph = probe.graph;
        gives = probe.gives;
        few = few_where_made probe.graph texts.asked.terms made exact;
      };
      probe = probe;
    }

  -- a log that can be read is not too long
  not_long : length texts.log ≤ LONGEST_FILE → LONGEST_FILE < length texts.log → ⊥
  not_long short long = omega (arith, short, long)

  -- a node takes a probe, or takes none,
  not_both : (fault : ProbeFault) → GivesProbe texts.graph texts.asked.node → GivesNoProbe texts.graph texts.asked.node fault → ⊥
  not_both fault takes none =
      let same : takes.graph ≡ none.graph = one_graph texts.graph takes.graph none.graph takes.gives none.gives in
      let both : Ok takes.node ≡ Err fault = sym takes.is_node ∙ ap (λ (graph : Tfpg). probed_node graph texts.asked.node) same ∙ none.is_fault in
      cc

  -- for one cause
  one_probe_fault : (fault other : ProbeFault) → GivesNoProbe texts.graph texts.asked.node fault → GivesNoProbe texts.graph texts.asked.node other → fault ≡ other
  one_probe_fault fault other none also =
      let same : none.graph ≡ also.graph = one_graph texts.graph none.graph also.graph none.gives also.gives in
      let both : ◌≡◌ {A = Result ℕ ProbeFault} (Err fault) (Err other) = sym none.is_fault ∙ ap (λ (graph : Tfpg). probed_node graph texts.asked.node) same ∙ also.is_fault in
      cc

  module _ (laws : OpenLaws) where
    -- a text that spells a valid graph has no fault
    no_fault_of : (fault : GraphFault) (graph : Tfpg) → GivesGraphOf texts.graph graph → IsFirstFault texts.graph fault → ⊥
    no_fault_of fault graph gives is = laws.no_fault texts.graph graph gives.spells gives.valid fault is

    -- where nothing stands in the way, the only fault is that memory ran out
    only_memory : CanPredictTexts texts → (fault : PredictTextsFault) → IsPredictTextsFault texts fault → fault ≡ NoMemory
    only_memory can OutOfRange is = absurd (is can.can_read.in_range)
    only_memory can TooMuchInput is = absurd (not_long can.can_read.short is.1)
    only_memory can (Graph fault) is = absurd (no_fault_of fault can.opens.graph can.opens.gives is.1)
    only_memory can (Probe fault) is = absurd (not_both fault can.probe is.1)
    only_memory can (TooManyHypotheses count) is = absurd (not_too_many laws texts.graph texts.asked.terms can.opens count is.2)
    only_memory can NoMemory is = refl

    -- beside a fault that is not of memory there is no other but one of memory
    one_predict_fault : (fault other : PredictTextsFault) → (fault ≡ NoMemory → ⊥) → IsPredictTextsFault texts fault → IsPredictTextsFault texts other → (other ≡ fault) ⊎ (other ≡ NoMemory)
    one_predict_fault fault NoMemory real is also = inr refl
    one_predict_fault NoMemory other real is also = absurd (real refl)
    one_predict_fault OutOfRange OutOfRange real is also = inl refl
    one_predict_fault OutOfRange TooMuchInput real is also = absurd (is also.0)
    one_predict_fault OutOfRange (Graph found) real is also = absurd (is also.0.in_range)
    one_predict_fault OutOfRange (Probe why) real is also = absurd (is also.0.in_range)
    one_predict_fault OutOfRange (TooManyHypotheses count) real is also = absurd (is also.0.in_range)
    one_predict_fault TooMuchInput OutOfRange real is also = absurd (also is.0)
    one_predict_fault TooMuchInput TooMuchInput real is also = inl refl
    one_predict_fault TooMuchInput (Graph found) real is also = absurd (not_long also.0.short is.1)
    one_predict_fault TooMuchInput (Probe why) real is also = absurd (not_long also.0.short is.1)
    one_predict_fault TooMuchInput (TooManyHypotheses count) real is also = absurd (not_long also.0.short is.1)
    one_predict_fault (Graph first) OutOfRange real is also = absurd (also is.0.in_range)
    one_predict_fault (Graph first) TooMuchInput real is also = absurd (not_long is.0.short also.1)
    one_predict_fault (Graph first) (Graph found) real is also = inl (ap Graph (laws.one_fault texts.graph found first also.1 is.1))
    one_predict_fault (Graph first) (Probe why) real is also = absurd (no_fault_of first also.1.graph also.1.gives is.1)
    one_predict_fault (Graph first) (TooManyHypotheses count) real is also = absurd (no_fault_of_many laws texts.graph texts.asked.terms first count is.1 also.2)
    one_predict_fault (Probe cause) OutOfRange real is also = absurd (also is.0.in_range)
    one_predict_fault (Probe cause) TooMuchInput real is also = absurd (not_long is.0.short also.1)
    one_predict_fault (Probe cause) (Graph found) real is also = absurd (no_fault_of found is.1.graph is.1.gives also.1)
    one_predict_fault (Probe cause) (Probe why) real is also = inl (ap Probe (one_probe_fault why cause also.1 is.1))
    one_predict_fault (Probe cause) (TooManyHypotheses count) real is also = absurd (not_both cause also.1 is.1)
    one_predict_fault (TooManyHypotheses most) OutOfRange real is also = absurd (also is.0.in_range)
    one_predict_fault (TooManyHypotheses most) TooMuchInput real is also = absurd (not_long is.0.short also.1)
    one_predict_fault (TooManyHypotheses most) (Graph found) real is also = absurd (no_fault_of_many laws texts.graph texts.asked.terms found most also.1 is.2)
    one_predict_fault (TooManyHypotheses most) (Probe why) real is also = absurd (not_both why is.1 also.1)
    one_predict_fault (TooManyHypotheses most) (TooManyHypotheses count) real is also = inl (ap TooManyHypotheses (one_number laws texts.graph texts.asked.terms count most also.2 is.2))

    -- where nothing stands in the way, there are forecasts, or memory ran out
    pub predicts_or_no_memory : {T : Type 0} (result : Result T PredictTextsFault) → IfErr result (IsPredictTextsFault texts) → CanPredictTexts texts → IsOkUnless result NoMemory
    predicts_or_no_memory (Ok text) is can = tt
    predicts_or_no_memory (Err fault) is can = only_memory can fault is

    -- where a fault stands in the way, it is the fault, or memory ran out
    pub refuses_to_predict : {T : Type 0} (result : Result T PredictTextsFault) → OnOk result (CanPredictTexts texts) → IfErr result (IsPredictTextsFault texts)
        → (fault : PredictTextsFault) → (fault ≡ NoMemory → ⊥) → IsPredictTextsFault texts fault → (result ≡ Err fault) ⊎ (result ≡ Err NoMemory)
    refuses_to_predict (Ok text) can is fault real stands = absurd (real (only_memory can fault stands))
    refuses_to_predict (Err why) can is fault real stands = ⊎_elim (λ same. inl (ap Err same)) (λ none. inr (ap Err none)) (one_predict_fault fault why real stands is)
