-- Which fault there is of explaining over texts, and the map of a text.
use Rattle.std.proofs.Common.{◌≡◌, ◌⊎◌, ℕ, ◌+◌, ◌≤◌, List, ◌++◌, length, Option, Some, IfSome, Result, Ok, Err, refl, sym, ap, subst, ◌∙◌, inl, inr, ⊎_elim, arith}
use Rattle.std.specs.Prelude.{IfErr, IsOkUnless, OnOk}
use Rattle.std.proofs.lemmas.List.{length-append}
use Rattle.tfpg_base.specs.declared.limits.TheConstants.{MAX_BYTES}
use Rattle.tfpg_base.specs.declared.line.LineFault.{LineFault}
use Rattle.tfpg_base.specs.declared.line.LineFault.TheVariants as lines
use Rattle.tfpg_base.specs.Lines.{lines_of}
use Rattle.tfpg_base.specs.Outside.{Rose, SourceState}
use Rattle.tfpg_streams.specs.Streams.{HasLeft}
use Rattle.tfpg_streams.proofs.lemmas.InputLines.{all_taken}
use Rattle.tfpg_graph.specs.declared.cause.GraphFault.{GraphFault}
use Rattle.tfpg_graph.specs.declared.cause.GraphRefusal.{GraphRefusal}
use Rattle.tfpg_graph.specs.declared.cause.GraphRefusal.TheVariants as refusal
use Rattle.tfpg_graph.specs.Graph.{Tfpg}
use Rattle.tfpg_graph.specs.Faults.{IsFirstFault, IsRefusalOf}
use Rattle.tfpg_map.specs.Spelling.{HasMap, IsMapFault, SpellsMap}
use Rattle.tfpg_map.specs.InputMap.{LacksMap, ReadsMap}
use Rattle.tfpg_map.specs.declared.map.Map.{Map}
use Rattle.tfpg_map.specs.declared.map.NoMap.TheVariants.{Lines, Refused}
use Rattle.tfpg_map.proofs.lemmas.MapFaults.{no_map_fault, one_map_fault}
use Rattle.tfpg_diagnose.specs.texts.Opening.{GivesGraphOf}
use Rattle.tfpg_diagnose.proofs.lemmas.texts.Opened.{NoFaultOfText, one_graph}
use Rattle.tfpg_answers.specs.declared.texts.fault.ExplainTextsFault.{ExplainTextsFault}
use Rattle.tfpg_answers.specs.declared.texts.fault.ExplainTextsFault.TheVariants.{TooMuchInput, Graph, BadMap, NoMemory}
use Rattle.tfpg_answers.specs.inside.texts.Faults.{explain_fault_of_refusal}
use Rattle.tfpg_answers.specs.inside.texts.Maps.{LacksMapIn}
use Rattle.tfpg_answers.specs.texts.ExplainedTexts.{CanBeRead, CanExplainTexts, ExplainedTexts, GivesBadMap, IsExplainTextsFault}

-- ---- the map of a text

module _ (graph : Tfpg) (text : List ℕ) (before now : SourceState) (left : before.left ≡ Some text) where
  -- the map that was read is that of the text
  pub map_of_text : (map : Map) → ReadsMap graph before now map → SpellsMap graph (lines_of text) map.hypothesis map.trace
  map_of_text map reads =
      subst (λ (bytes : List ℕ). SpellsMap graph (lines_of bytes) map.hypothesis map.trace) (sym (all_taken before now text reads.taken left reads.takes reads.at_end)) reads.spells

  module _ (taken : List ℕ) (takes : IfSome before.left (λ had. (rest : List ℕ) × (now.left ≡ Some rest) × (had ≡ taken ++ rest))) where
    split : (rest : List ℕ) × (now.left ≡ Some rest) × (text ≡ taken ++ rest)
    split = subst (λ (had : Option (List ℕ)). IfSome had (λ all. (rest : List ℕ) × (now.left ≡ Some rest) × (all ≡ taken ++ rest))) left takes

    -- the text is what was taken and what is left
    taken_and_left : (rest : List ℕ) → HasLeft now rest → taken ++ rest ≡ text
    taken_and_left rest has =
        let same : rest ≡ split.0 = subst (λ (l : Option (List ℕ)). IfSome l (λ more. rest ≡ more)) split.1 has in
        ap (λ (more : List ℕ). taken ++ more) same ∙ sym split.2

    taken_within : length taken ≤ length text
    taken_within = let same : length text ≡ length (taken ++ split.0) = ap length split.2 in omega (arith, same, length-append taken split.0)

  -- the line that was refused is the first faulty one of the text
  pub bad_line_of_text : (line : ℕ) → LacksMap graph before now (Refused line) → IsMapFault graph (lines_of text) line
  bad_line_of_text line lacks =
      subst (λ (bytes : List ℕ). IsMapFault graph (lines_of bytes) line) (taken_and_left lacks.taken lacks.takes lacks.shown.rest lacks.shown.left) lacks.shown.fault

  -- a short text in memory is read to its end
  pub reads_to_end : (Rose before.faults now.faults → ⊥) → length text ≤ MAX_BYTES → (fault : LineFault) → LacksMap graph before now (Lines fault) → ⊥
  reads_to_end calm few lines.ReadFault lacks = calm lacks.shown.0
  reads_to_end calm few lines.TooMuchInput lacks =
      let more : length lacks.taken ≡ MAX_BYTES + 1 = lacks.shown.0 in
      omega (arith, more, few, taken_within lacks.taken lacks.takes)

-- ---- which fault there is

module _ (texts : ExplainedTexts) where
  -- why there is no graph
  pub explains_no_graph : (why : GraphRefusal) → CanBeRead texts → IsRefusalOf texts.graph why → IsExplainTextsFault texts (explain_fault_of_refusal why)
  explains_no_graph (refusal.Fault fault) can is = (can, is)
  explains_no_graph refusal.NoMemory can is = tt

  -- why there is no map
  pub explains_no_map : (graph : Tfpg) → GivesGraphOf texts.graph graph → CanBeRead texts → (fault : ExplainTextsFault) → LacksMapIn graph texts.map fault → IsExplainTextsFault texts fault
  explains_no_map graph gives can TooMuchInput is = absurd is
  explains_no_map graph gives can (Graph fault) is = absurd is
  explains_no_map graph gives can (BadMap line) is = (can, record { graph = graph; gives = gives; fault = is })
  explains_no_map graph gives can NoMemory is = tt

  -- texts that can be read are not too long
  not_long : CanBeRead texts → IsExplainTextsFault texts TooMuchInput → ⊥
  not_long can long = ⊎_elim (λ more. let few = can.log in omega (arith, more, few)) (λ more. let few = can.map in omega (arith, more, few)) long

  -- a map that the lines spell has no fault,
  not_bad : (graph : Tfpg) (line : ℕ) → GivesGraphOf texts.graph graph → HasMap graph (lines_of texts.map) → GivesBadMap texts line → ⊥
  not_bad graph line gives map bad =
      no_map_fault graph (lines_of texts.map) line map
      (subst (λ (g : Tfpg). IsMapFault g (lines_of texts.map) line) (one_graph texts.graph bad.graph graph bad.gives gives) bad.fault)

  -- and lines that spell none have one
  one_bad_line : (line other : ℕ) → GivesBadMap texts line → GivesBadMap texts other → line ≡ other
  one_bad_line line other bad also =
      one_map_fault also.graph (lines_of texts.map) line other
      (subst (λ (g : Tfpg). IsMapFault g (lines_of texts.map) line) (one_graph texts.graph bad.graph also.graph bad.gives also.gives) bad.fault) also.fault

  module _ (none : NoFaultOfText) (one : (text : List ℕ) (fault other : GraphFault) → IsFirstFault text fault → IsFirstFault text other → fault ≡ other) where
    -- a text that spells a valid graph has no fault
    no_fault_of : (fault : GraphFault) (graph : Tfpg) → GivesGraphOf texts.graph graph → IsFirstFault texts.graph fault → ⊥
    no_fault_of fault graph gives is = none texts.graph graph gives.spells gives.valid fault is

    -- where nothing stands in the way, the only fault is that memory ran out
    only_memory : CanExplainTexts texts → (fault : ExplainTextsFault) → IsExplainTextsFault texts fault → fault ≡ NoMemory
    only_memory can TooMuchInput is = absurd (not_long can.can_read is)
    only_memory can (Graph fault) is = absurd (no_fault_of fault can.graph can.gives is.1)
    only_memory can (BadMap line) is = absurd (not_bad can.graph line can.gives can.has_map is.1)
    only_memory can NoMemory is = refl

    -- beside a fault that is not of memory there is no other but one of memory
    one_explain_fault : (fault other : ExplainTextsFault) → (fault ≡ NoMemory → ⊥) → IsExplainTextsFault texts fault → IsExplainTextsFault texts other → (other ≡ fault) ⊎ (other ≡ NoMemory)
    one_explain_fault fault NoMemory real is also = inr refl
    one_explain_fault NoMemory other real is also = absurd (real refl)
    one_explain_fault TooMuchInput TooMuchInput real is also = inl refl
    one_explain_fault TooMuchInput (Graph found) real is also = absurd (not_long also.0 is)
    one_explain_fault TooMuchInput (BadMap line) real is also = absurd (not_long also.0 is)
    one_explain_fault (Graph first) TooMuchInput real is also = absurd (not_long is.0 also)
    one_explain_fault (Graph first) (Graph found) real is also = inl (ap Graph (one texts.graph found first also.1 is.1))
    one_explain_fault (Graph first) (BadMap line) real is also = absurd (no_fault_of first also.1.graph also.1.gives is.1)
    one_explain_fault (BadMap line) TooMuchInput real is also = absurd (not_long is.0 also)
    one_explain_fault (BadMap line) (Graph found) real is also = absurd (no_fault_of found is.1.graph is.1.gives also.1)
    one_explain_fault (BadMap line) (BadMap other) real is also = inl (ap BadMap (one_bad_line other line also.1 is.1))

    -- where nothing stands in the way, there is a verdict, or memory ran out
    pub explains_or_no_memory : {T : Type 0} (result : Result T ExplainTextsFault) → IfErr result (IsExplainTextsFault texts) → CanExplainTexts texts → IsOkUnless result NoMemory
    explains_or_no_memory (Ok text) is can = tt
    explains_or_no_memory (Err fault) is can = only_memory can fault is

    -- where a fault stands in the way, it is the fault, or memory ran out
    pub refuses_to_explain : {T : Type 0} (result : Result T ExplainTextsFault) → OnOk result (CanExplainTexts texts) → IfErr result (IsExplainTextsFault texts)
        → (fault : ExplainTextsFault) → (fault ≡ NoMemory → ⊥) → IsExplainTextsFault texts fault → (result ≡ Err fault) ⊎ (result ≡ Err NoMemory)
    refuses_to_explain (Ok text) can is fault real stands = absurd (real (only_memory can fault stands))
    refuses_to_explain (Err why) can is fault real stands = ⊎_elim (λ same. inl (ap Err same)) (λ none. inr (ap Err none)) (one_explain_fault fault why real stands is)
