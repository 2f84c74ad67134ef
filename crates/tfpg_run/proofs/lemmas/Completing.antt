-- A run ends well where nothing stands in its way.
use Rattle.std.proofs.Common.{◌≡◌, ℕ, ◌+◌, ◌<◌, ◌≤◌, Bool, true, false, List, [], ◌∷◌, ◌++◌, length, Option, Some, IfSome, Result, Ok, Err, refl, sym, ap, subst, subst₂, ◌∙◌, inl, inr, arith}
use Rattle.std.specs.Prelude.{All, OnOk, IfErr, codes, decimal}
use Rattle.std.proofs.lemmas.List.Elements.{All-cons, All-nil}
use Rattle.tfpg_base.proofs.lemmas.lists.Elements.{All-at}
use Rattle.std.proofs.lemmas.List.{length-append}
use Rattle.std.proofs.lemmas.Option.{same_Some}
use Rattle.tfpg_base.specs.TextLine.{text_line}
use Rattle.tfpg_base.specs.declared.terms.Terms.{Terms}
use Rattle.tfpg_base.specs.declared.limits.TheConstants.{MAX_BYTES, LONGEST_FILE}
use Rattle.tfpg_base.specs.Outside.{SourceState, ShelfState, Rose, Gives, Takes, file_of}
use Rattle.tfpg_base.specs.Lines.{lines_of}
use Rattle.tfpg_graph.specs.declared.cause.GraphFault.{GraphFault}
use Rattle.tfpg_graph.specs.Declares.{declared_by}
use Rattle.tfpg_graph.specs.Graph.{Tfpg}
use Rattle.tfpg_graph.specs.Text.{Spells}
use Rattle.tfpg_graph.specs.Valid.{IsValid}
use Rattle.tfpg_graph.specs.Faults.{IsFirstFault}
use Rattle.tfpg_graph.proofs.lemmas.reading.faults.NoFault.{Spells-clean}
use Rattle.tfpg_json.specs.GraphText.{IsJsonFault, SpellsAsJson}
use Rattle.tfpg_log.specs.LogOfLines.{log_of_lines}
use Rattle.tfpg_report.specs.Blocks.{Block}
use Rattle.tfpg_check.specs.declared.cause.CheckCause.{CheckCause}
use Rattle.tfpg_check.specs.Causes.{AreReportLines, IsCause, DiagnosisProblem}
use Rattle.tfpg_check.proofs.lemmas.FirstLines.{few_hypotheses}
use Rattle.tfpg_sim.specs.Script.{IsScriptFault}
use Rattle.tfpg_words.specs.declared.usage_cause.UsageCause.{UsageCause}
use Rattle.tfpg_words.specs.Meaning.{Meaning, Diagnose, Explain, Check, Simulate, Generate, Convert, Ask, Fleet, Predict}
use Rattle.tfpg_run.specs.declared.end.End.{End}
use Rattle.tfpg_run.specs.declared.end.End.TheVariants as ends
use Rattle.tfpg_run.specs.declared.fault.FetchFault.{FetchFault}
use Rattle.tfpg_run.specs.declared.fault.FetchFault.TheVariants.{Failed, TooLong, Graph, NoMemory}
use Rattle.tfpg_streams.specs.declared.fault.StreamFault.{StreamFault}
use Rattle.tfpg_streams.specs.declared.fault.StreamFault.TheVariants as streams
use Rattle.tfpg_base.specs.declared.line.LineFault.TheVariants as lines
use Rattle.tfpg_map.specs.declared.map.NoMap.{NoMap}
use Rattle.tfpg_map.specs.declared.map.NoMap.TheVariants as maps
use Rattle.tfpg_map.specs.InputMap.{LacksMap}
use Rattle.tfpg_diagnose.specs.declared.fault.CheckFault.{CheckFault}
use Rattle.tfpg_diagnose.specs.declared.fault.CheckFault.TheVariants as check
use Rattle.tfpg_streams.specs.declared.fault.OutputFault.{OutputFault}
use Rattle.tfpg_streams.specs.declared.fault.OutputFault.TheVariants as output
use Rattle.tfpg_run.specs.Completeness.{CanBeDone, CanRefuse, HasLines, IsCompleted, IsRefusedFor, IsShort, NothingFails, ServesGraph, ServesGraphAndText, CanBeProbed}
use Rattle.tfpg_run.specs.EndsOf.{EndsBy, end_of_fetch_fault, end_of_stream_fault, end_of_check_fault, end_of_no_map, end_of_output_fault, end_of_result}
use Rattle.tfpg_run.specs.Fetch.{HasFile, IsTooLong, GivesGraph, GivesGraphBy, GivesGraphAndText, IsFetchFaultBy, LacksFiles}
use Rattle.tfpg_run.specs.generate.Generating.{HasSummary}
use Rattle.tfpg_run.specs.ask.Asking.{AskEnds}
use Rattle.tfpg_answers.specs.Questions.{HasQuestions}
use Rattle.tfpg_run.specs.convert.Converting.{ConvertEnds, IsFaultFrom, SpellsFrom, converted_text}
use Rattle.tfpg_run.specs.check.Checking.{CheckEnds, CheckingEnds}
use Rattle.tfpg_diagnose.specs.JudgedReports.{HasTooManyInHead, LacksReport, problem_of}
use Rattle.tfpg_answers.specs.Verdicts.{HasVerdict}
use Rattle.tfpg_run.specs.explain.Explaining.{ExplainEnds, ExplainingEnds}
use Rattle.tfpg_map.specs.Spelling.{HasMap}
use Rattle.tfpg_map.proofs.lemmas.MapFaults.{no_map_fault}
use Rattle.tfpg_streams.specs.Outputs.{IsStreamFault, TextEnds}
use Rattle.tfpg_run.specs.Run.{CommandEnds, RunEnds}
use Rattle.tfpg_run.specs.fleet.FleetEnds.{AnswersStream, FleetDiagnosisEnds, FleetEnds, HasFewForFleet}
use Rattle.tfpg_run.specs.fleet.FleetOutput.{fleet_problem}
use Rattle.tfpg_diagnose.specs.Diagnosing.{Diagnoses}
use Rattle.tfpg_run.specs.diagnose.Diagnosing.{DiagnoseEnds, DiagnosisEnds}
use Rattle.tfpg_run.specs.simulate.Simulating.{HasSimulation, SimulateEnds, SimulationEnds}
use Rattle.tfpg_run.specs.TooMany.{EndsUnlessTooMany, HasFewHypotheses, TextEndsUnlessTooMany}
use Rattle.tfpg_answers.specs.Forecasts.{HasForecasts, Prediction, prediction}
use Rattle.tfpg_run.specs.predict.Predicting.{PredictEnds, PredictionEnds}
use Rattle.tfpg_streams.specs.Streams.{HasLeft}
use Rattle.tfpg_run.specs.World.{World, streams_of, watched_of}
use Rattle.tfpg_streams.proofs.lemmas.InputLines.{all_taken}
use Rattle.tfpg_diagnose.proofs.lemmas.JudgedReports.{CheckLaws}

-- no text of a valid graph has a fault, for any notions of both
abbrev NoFaultBy : (List ℕ → Tfpg → Type 0) → (List ℕ → GraphFault → Type 0) → Type 0
NoFaultBy SpellsIt IsFirst = (text : List ℕ) (graph : Tfpg) → SpellsIt text graph → IsValid graph → (fault : GraphFault) → IsFirst text fault → ⊥

-- no graph text of a valid graph has one, and no JSON
pub record GraphLaws : Type 0 where
  pub text : NoFaultBy Spells IsFirstFault
  pub json : NoFaultBy SpellsAsJson IsJsonFault

-- nor has what is read to be converted
no_fault_from : GraphLaws → (json : Bool) → NoFaultBy (SpellsFrom json) (IsFaultFrom json)
no_fault_from laws true = laws.json
no_fault_from laws false = laws.text

-- ---- files that are there

module _ (shelf : ShelfState) (files : List (List ℕ × List ℕ)) (known : shelf.files ≡ Some files) where
  -- what a file gives is what it has
  pub gives_is : (name text : List ℕ) → Gives shelf name text → file_of files name ≡ Some text
  gives_is name text gives = subst (λ (fs : Option (List (List ℕ × List ℕ))). IfSome fs (λ them. file_of them name ≡ Some text)) known gives

  -- a file has one text
  only_text : (name text other : List ℕ) → Gives shelf name text → Gives shelf name other → text ≡ other
  only_text name text other gives also = same_Some text other (sym (gives_is name text gives) ∙ gives_is name other also)

  -- and spells one valid graph
  only_graph : (name : List ℕ) (graph other : Tfpg) → GivesGraph shelf name graph → GivesGraph shelf name other → graph ≡ other
  only_graph name graph other gives also =
      let texts : gives.text ≡ also.text = only_text name gives.text also.text gives.file.gives also.file.gives in
      sym (Spells-clean gives.text graph gives.spells gives.valid).1
      ∙ ap (λ (text : List ℕ). declared_by (lines_of text)) texts
      ∙ (Spells-clean also.text other also.spells also.valid).1

  -- a file that is short enough is not too long
  not_too_long : (name text : List ℕ) → Gives shelf name text → length text ≤ LONGEST_FILE → IsTooLong shelf name → ⊥
  not_too_long name text gives small long =
      let front = long.0 in
      let there = subst (λ (fs : Option (List (List ℕ × List ℕ))). IfSome fs (λ them. (more : List ℕ) × (0 < length more) × (file_of them name ≡ Some (front ++ more)))) known long.1.1 in
      let same : text ≡ front ++ there.0 = same_Some _ _ (sym (gives_is name text gives) ∙ there.2) in
      let long_is : length text ≡ length (front ++ there.0) = ap length same in
      omega (arith, long_is, length-append front there.0, long.1.0, there.1, small)

  module _ (SpellsIt : List ℕ → Tfpg → Type 0) (IsFirst : List ℕ → GraphFault → Type 0) (law : NoFaultBy SpellsIt IsFirst)
      (name : List ℕ) (graph : Tfpg) (gives : GivesGraphBy SpellsIt shelf name graph) where
    -- a graph that is there has no fault
    no_graph_fault : (fault : GraphFault) (text : List ℕ) → HasFile shelf name text → IsFirst text fault → ⊥
    no_graph_fault fault text file first =
        let same : text ≡ gives.text = same_Some _ _ (sym (gives_is name text file.gives) ∙ gives_is name gives.text gives.file.gives) in
        law gives.text graph gives.spells gives.valid fault (subst (λ (t : List ℕ). IsFirst t fault) same first)

    -- where it and the others are there and are not fetched, memory ran out
    fetched : (others : List (List ℕ)) → All (λ other. (text : List ℕ) × HasFile shelf other text) others → (now : ShelfState) (fault : FetchFault) → (Rose shelf.faults now.faults → ⊥)
        → IsFetchFaultBy IsFirst name others shelf now fault → fault ≡ NoMemory
    fetched others there now Failed calm is = absurd (calm is.2)
    fetched others there now TooLong calm is =
        let all = All-cons (λ (other : List ℕ). (text : List ℕ) × HasFile shelf other text) name others (gives.text, gives.file) there in
        let file : (text : List ℕ) × HasFile shelf is.0 text =
        All-at (λ (other : List ℕ). (text : List ℕ) × HasFile shelf other text) (name ∷ others) is.1.count is.0 all is.1.next in
        absurd (not_too_long is.0 file.0 file.1.gives file.1.small is.2)
    fetched others there now (Graph fault) calm is = absurd (no_graph_fault fault is.1 is.2 is.3)
    fetched others there now NoMemory calm is = refl

  -- so it is with a graph text alone
  one_fetched : (laws : GraphLaws) (name : List ℕ) (graph : Tfpg) → GivesGraph shelf name graph → (now : ShelfState) (fault : FetchFault) → (Rose shelf.faults now.faults → ⊥)
      → IsFetchFaultBy IsFirstFault name [] shelf now fault → fault ≡ NoMemory
  one_fetched laws name graph gives = fetched Spells IsFirstFault laws.text name graph gives [] (All-nil (λ (other : List ℕ). (text : List ℕ) × HasFile shelf other text))

  -- and with another file
  both_fetched : (laws : GraphLaws) (name : List ℕ) (graph : Tfpg) → GivesGraph shelf name graph → (now : ShelfState) (other text : List ℕ) → HasFile shelf other text → (fault : FetchFault)
      → (Rose shelf.faults now.faults → ⊥) → IsFetchFaultBy IsFirstFault name (other ∷ []) shelf now fault → fault ≡ NoMemory
  both_fetched laws name graph gives now other text file =
      let there = λ (also : List ℕ). (others : List ℕ) × HasFile shelf also others in
      fetched Spells IsFirstFault laws.text name graph gives (other ∷ []) (All-cons there other [] (text, file) (All-nil there)) now

-- ---- input that is short

-- what was taken of it is no more than it had
few_taken : (before now : SourceState) (taken : List ℕ) → IsShort before → Takes before now taken → length taken ≤ MAX_BYTES
few_taken before now taken short takes =
    let there = subst (λ (left : Option (List ℕ)). IfSome left (λ had. (rest : List ℕ) × (now.left ≡ Some rest) × (had ≡ taken ++ rest))) short.left takes in
    let same : length short.known ≡ length (taken ++ there.0) = ap length there.2 in
    omega (arith, same, length-append taken there.0, short.few)

-- it had what was taken and what is left
all_of_input : (before now : SourceState) (known taken rest : List ℕ) → before.left ≡ Some known → Takes before now taken → HasLeft now rest → known ≡ taken ++ rest
all_of_input before now known taken rest left takes has =
    let there = subst (λ (l : Option (List ℕ)). IfSome l (λ had. (more : List ℕ) × (now.left ≡ Some more) × (had ≡ taken ++ more))) left takes in
    let same : rest ≡ there.0 = subst (λ (l : Option (List ℕ)). IfSome l (λ more. rest ≡ more)) there.1 has in
    there.2 ∙ ap (λ (more : List ℕ). taken ++ more) (sym same)

-- ---- memory

without_memory : (end : End) (fault : FetchFault) → fault ≡ NoMemory → end ≡ end_of_fetch_fault fault → end ≡ ends.NoMemory
without_memory end fault is e = e ∙ ap end_of_fetch_fault is

-- ---- each command

module _ (graphs : GraphLaws) (laws : CheckLaws) (before now : World) (calm : NothingFails before now) where
  -- a diagnosis has no fault but that memory ran out
  no_stream_fault : IsShort before.input → (taken : List ℕ) → Takes before.input now.input taken → (fault : StreamFault) → IsStreamFault (streams_of before) (streams_of now) taken fault → fault ≡ streams.NoMemory
  no_stream_fault short taken takes streams.ReadFault is = absurd (calm.input is.0)
  no_stream_fault short taken takes streams.WriteFault is = absurd (calm.output is.0)
  no_stream_fault short taken takes streams.TooMuchInput is =
      let more : length taken ≡ MAX_BYTES + 1 = is.0 in
      absurd (omega (arith, few_taken before.input now.input taken short takes, more))
  no_stream_fault short taken takes streams.NoMemory is = refl

  -- one text that is written
  text_written : (IsRight : List ℕ → Type 0) (result : Result (Unit {0}) OutputFault) → TextEnds IsRight before.output now.output result
      → IsCompleted (end_of_result end_of_output_fault result)
  text_written IsRight (Ok done) is = inl refl
  text_written IsRight (Err output.WriteFault) is = absurd (calm.output is.rose)
  text_written IsRight (Err output.NoMemory) is = inr refl

  -- work with the hypotheses of a graph that has few
  unless_too_many : (graph : Tfpg) (terms : Terms) (Works : End → Type 0) (end : End) → HasFewHypotheses terms graph → (Works end → IsCompleted end)
      → EndsUnlessTooMany graph terms before now Works end → IsCompleted end
  unless_too_many graph terms Works end few go (inl many) = absurd (let above = many.is_fault.1 in omega (arith, above, few many.fault many.is_fault.0))
  unless_too_many graph terms Works end few go (inr works) = go works.1

  -- a text that is written of them
  text_unless_too_many : (IsRight : List ℕ → Type 0) (graph : Tfpg) (terms : Terms) (end : End) → HasFewHypotheses terms graph → TextEndsUnlessTooMany IsRight graph terms before now end → IsCompleted end
  text_unless_too_many IsRight graph terms end few =
      unless_too_many graph terms (EndsBy (TextEnds IsRight before.output now.output) end_of_output_fault) end few
      (λ by. subst IsCompleted (sym by.end_is) (text_written IsRight by.result by.works))

  -- a diagnosis
  diagnosed : IsShort before.input → (end : End) (terms : Terms) (name : List ℕ) → ServesGraph Spells before.shelf name (HasFewHypotheses terms) → DiagnoseEnds terms name before now end
      → IsCompleted end
  diagnosed short end terms name can (inl lacks) =
      inr (without_memory end lacks.fault (one_fetched before.shelf can.files can.known graphs name can.graph can.gives now.shelf lacks.fault calm.shelf lacks.is_fault) lacks.end_is)
  diagnosed short end terms name can (inr file) = of_works file.works
    where
      go : (result : Result (Unit {0}) StreamFault) → Diagnoses file.graph terms (watched_of before) (watched_of now) result → end ≡ end_of_result end_of_stream_fault result → IsCompleted end
      go (Ok done) works e = inl e
      go (Err fault) works e = inr (e ∙ ap end_of_stream_fault (no_stream_fault short works.taken works.takes fault works.ends.0))

      of_works : DiagnosisEnds terms before now file.graph end → IsCompleted end
      of_works =
          unless_too_many file.graph terms (EndsBy (Diagnoses file.graph terms (watched_of before) (watched_of now)) end_of_stream_fault) end
          (subst (HasFewHypotheses terms) (only_graph before.shelf can.files can.known name can.graph file.graph can.gives file.gives) can.holds)
          (λ by. go by.result by.works by.end_is)

  -- a diagnosis of many vehicles
  fleet_diagnosed : IsShort before.input → (end : End) (terms : Terms) (name : List ℕ) (names : List (List ℕ)) → ServesGraph Spells before.shelf name (λ graph. HasFewForFleet (fleet_problem graph terms names)) → FleetEnds terms name names before now end → IsCompleted end
  fleet_diagnosed short end terms name names can (inl lacks) =
      inr (without_memory end lacks.fault (one_fetched before.shelf can.files can.known graphs name can.graph can.gives now.shelf lacks.fault calm.shelf lacks.is_fault) lacks.end_is)
  fleet_diagnosed short end terms name names can (inr file) = of_works file.works
    where
      go : (result : Result (Unit {0}) StreamFault) → AnswersStream (fleet_problem file.graph terms names) (streams_of before) (streams_of now) result
          → end ≡ end_of_result end_of_stream_fault result → IsCompleted end
      go (Ok done) works e = inl e
      go (Err fault) works e = inr (e ∙ ap end_of_stream_fault (no_stream_fault short works.taken works.takes fault works.ends.0))

      of_works : FleetDiagnosisEnds (fleet_problem file.graph terms names) before now end → IsCompleted end
      of_works (inl many) =
          absurd (subst (λ (graph : Tfpg). HasFewForFleet (fleet_problem graph terms names)) (only_graph before.shelf can.files can.known name can.graph file.graph can.gives file.gives) can.holds many.fault many.is_fault)
      of_works (inr few) = go few.1.result few.1.works few.1.end_is

  module _ {Hold : Tfpg → List ℕ → Type 0} (end : End) (graph_name text_name : List ℕ) (can : ServesGraphAndText before.shelf graph_name text_name Hold) where
    -- where two files are there and are not fetched, memory ran out
    not_fetched : LacksFiles graph_name (text_name ∷ []) before now end → end ≡ ends.NoMemory
    not_fetched lacks =
        without_memory end lacks.fault
        (both_fetched before.shelf can.files can.known graphs graph_name can.graph can.gives.of_graph now.shelf text_name can.text can.gives.file lacks.fault calm.shelf lacks.is_fault) lacks.end_is

    -- what holds of what they have holds of what they give
    holds_of_given : (graph : Tfpg) (text : List ℕ) → GivesGraphAndText before.shelf graph_name text_name graph text → Hold graph text
    holds_of_given graph text gives =
        subst₂ Hold (only_graph before.shelf can.files can.known graph_name can.graph graph can.gives.of_graph gives.of_graph)
        (only_text before.shelf can.files can.known text_name can.text text can.gives.file.gives gives.file.gives) can.hold

  -- the lines of the input are read to their end
  lines_read : {T : Type 0} (short : IsShort before.input) (taken : List ℕ) → Takes before.input now.input taken → length taken ≡ MAX_BYTES + 1 → T
  lines_read short taken takes more = absurd (omega (arith, few_taken before.input now.input taken short takes, more))

  -- a map is not missing
  no_map : (short : IsShort before.input) (graph : Tfpg) → HasMap graph (lines_of short.known) → (fault : NoMap) → LacksMap graph before.input now.input fault → IsCompleted (end_of_no_map fault)
  no_map short graph map (maps.Refused line) lacks =
      let all : short.known ≡ lacks.taken ++ lacks.shown.rest = all_of_input before.input now.input short.known lacks.taken lacks.shown.rest short.left lacks.takes lacks.shown.left in
      absurd (no_map_fault graph (lines_of (lacks.taken ++ lacks.shown.rest)) line (subst (λ (bytes : List ℕ). HasMap graph (lines_of bytes)) all map) lacks.shown.fault)
  no_map short graph map (maps.Lines lines.ReadFault) lacks = absurd (calm.input lacks.shown.0)
  no_map short graph map (maps.Lines lines.TooMuchInput) lacks = lines_read short lacks.taken lacks.takes lacks.shown.0
  no_map short graph map maps.NoMemory lacks = inr refl

  -- a map whose verdict is written
  explained : (end : End) (graph_name log_name : List ℕ) → ServesGraphAndText before.shelf graph_name log_name (λ graph text. HasLines before.input (HasMap graph))
      → ExplainEnds graph_name log_name before now end → IsCompleted end
  explained end graph_name log_name can (inl lacks) = inr (not_fetched end graph_name log_name can lacks)
  explained end graph_name log_name can (inr explains) = go explains.works
    where
      holds : HasLines before.input (HasMap explains.graph)
      holds = holds_of_given end graph_name log_name can explains.graph explains.text explains.gives

      go : ExplainingEnds explains.graph (log_of_lines explains.graph (lines_of explains.text)) (streams_of before) (streams_of now) end → IsCompleted end
      go (inl none) = subst IsCompleted (sym none.end_is) (no_map holds.0 explains.graph holds.1 none.fault none.is_fault)
      go (inr judges) =
          subst IsCompleted (sym judges.2.end_is)
          (text_written (HasVerdict explains.graph (log_of_lines explains.graph (lines_of explains.text)) judges.0) judges.2.result judges.2.works)

  -- a report that is one
  accepted : (short : IsShort before.input) (problem : DiagnosisProblem) → IsValid problem.graph → (terms : Terms) (blocks : List Block) → AreReportLines problem terms blocks (lines_of short.known)
      → (end : End) → CheckingEnds problem (streams_of before) (streams_of now) end → IsCompleted end
  accepted short problem valid terms blocks report end (inr accepts) =
      subst IsCompleted (sym accepts.2.end_is) (text_written (λ text. text ≡ text_line (codes "accepted" ∷ decimal accepts.0 ∷ [])) accepts.2.result accepts.2.works)
  accepted short problem valid terms blocks report end (inl lacks) = subst IsCompleted (sym lacks.end_is) (go lacks.fault lacks.is_fault)
    where
      go : (fault : CheckFault) → LacksReport problem before.input now.input fault → IsCompleted (end_of_check_fault fault)
      go (check.NotAccepted line cause) why =
          let is = why.shown.0 in
          let all : short.known ≡ why.taken ++ is.rest = all_of_input before.input now.input short.known why.taken is.rest short.left why.takes is.left in
          absurd (laws.no_cause problem terms blocks short.known line cause valid report short.few
          (subst (λ (bytes : List ℕ). IsCause problem (lines_of bytes) line cause) (sym all) is.is_cause))
      go (check.TooMany count) why =
          let many : HasTooManyInHead problem now.input why.taken count = why.shown.0 in
          let all : short.known ≡ why.taken ++ many.rest = all_of_input before.input now.input short.known why.taken many.rest short.left why.takes many.left in
          let few = few_hypotheses laws.one_line problem valid terms blocks (lines_of (why.taken ++ many.rest))
          (subst (λ (bytes : List ℕ). AreReportLines problem terms blocks (lines_of bytes)) all report) many.first many.at many.head many.says many.terms many.is_head count many.counted in
          let too_many = many.too_many in
          absurd (omega (arith, few, too_many))
      go (check.Lines lines.ReadFault) why = absurd (calm.input why.shown.0)
      go (check.Lines lines.TooMuchInput) why = lines_read short why.taken why.takes why.shown.0
      go check.NoMemory why = inr refl

  -- lines that have a cause
  not_accepted : (short : IsShort before.input) (problem : DiagnosisProblem) → IsValid problem.graph → (line : ℕ) (cause : CheckCause) → IsCause problem (lines_of short.known) line cause
      → (end : End) → CheckingEnds problem (streams_of before) (streams_of now) end → IsRefusedFor line cause end
  not_accepted short problem valid line cause has end (inr accepts) =
      let all : short.known ≡ accepts.1.taken = all_taken before.input now.input short.known accepts.1.taken short.left accepts.1.takes accepts.1.at_end in
      absurd (laws.no_cause problem accepts.1.terms accepts.1.blocks accepts.1.taken line cause valid accepts.1.report accepts.1.few
      (subst (λ (bytes : List ℕ). IsCause problem (lines_of bytes) line cause) all has))
  not_accepted short problem valid line cause has end (inl lacks) = subst (IsRefusedFor line cause) (sym lacks.end_is) (go lacks.fault lacks.is_fault)
    where
      go : (fault : CheckFault) → LacksReport problem before.input now.input fault → IsRefusedFor line cause (end_of_check_fault fault)
      go (check.NotAccepted at other) why =
          let is = why.shown.0 in
          let all : short.known ≡ why.taken ++ is.rest = all_of_input before.input now.input short.known why.taken is.rest short.left why.takes is.left in
          let one = laws.one_cause problem (lines_of (why.taken ++ is.rest)) at line other cause valid is.is_cause (subst (λ (bytes : List ℕ). IsCause problem (lines_of bytes) line cause) all has) in
          inl (λ i. ends.NotAccepted (one.0 i) (one.1 i))
      go (check.TooMany count) why =
          let many : HasTooManyInHead problem now.input why.taken count = why.shown.0 in
          let all : short.known ≡ why.taken ++ many.rest = all_of_input before.input now.input short.known why.taken many.rest short.left why.takes many.left in
          absurd (laws.too_many problem (lines_of (why.taken ++ many.rest)) many.first many.head many.terms count line cause valid many.at many.says many.is_head many.counted many.too_many
          (subst (λ (bytes : List ℕ). IsCause problem (lines_of bytes) line cause) all has))
      go (check.Lines lines.ReadFault) why = absurd (calm.input why.shown.0)
      go (check.Lines lines.TooMuchInput) why = lines_read short why.taken why.takes why.shown.0
      go check.NoMemory why = inr refl

  checked : (end : End) (graph_name log_name : List ℕ) → CanBeDone (Check graph_name log_name) before → CheckEnds graph_name log_name before now end → IsCompleted end
  checked end graph_name log_name can (inl lacks) = inr (not_fetched end graph_name log_name can lacks)
  checked end graph_name log_name can (inr checks) =
      let problem = problem_of checks.graph checks.text in
      let holds : HasLines before.input (λ (lines : List (List ℕ)). (terms : Terms) × (blocks : List Block) × AreReportLines problem terms blocks lines) =
      holds_of_given end graph_name log_name can checks.graph checks.text checks.gives in
      accepted holds.0 problem checks.gives.of_graph.valid holds.1.0 holds.1.1 holds.1.2 end checks.works

  refused : (end : End) (graph_name log_name : List ℕ) (line : ℕ) (cause : CheckCause) → CanRefuse before.shelf before.input graph_name log_name line cause → CheckEnds graph_name log_name before now end
      → IsRefusedFor line cause end
  refused end graph_name log_name line cause can (inl lacks) = inr (not_fetched end graph_name log_name can lacks)
  refused end graph_name log_name line cause can (inr checks) =
      let problem = problem_of checks.graph checks.text in
      let holds : HasLines before.input (λ (lines : List (List ℕ)). IsCause problem lines line cause) = holds_of_given end graph_name log_name can checks.graph checks.text checks.gives in
      not_accepted holds.0 problem checks.gives.of_graph.valid line cause holds.1 end checks.works

  -- a script that is simulated
  simulated : (IsRight : Tfpg → List ℕ → List ℕ → Type 0) (end : End) (graph : Tfpg) (script : List ℕ) → ((line : ℕ) → IsScriptFault graph (lines_of script) line → ⊥)
      → SimulationEnds IsRight before now graph script end → IsCompleted end
  simulated IsRight end graph script right (inl bad) = absurd (right bad.fault bad.is_fault)
  simulated IsRight end graph script right (inr by) = subst IsCompleted (sym by.end_is) (text_written (IsRight graph script) by.result by.works)

  simulated_files : (end : End) (IsRight : Tfpg → List ℕ → List ℕ → Type 0) (graph_name script_name : List ℕ)
      → ServesGraphAndText before.shelf graph_name script_name (λ graph script. (line : ℕ) → IsScriptFault graph (lines_of script) line → ⊥)
      → SimulateEnds IsRight graph_name script_name before now end → IsCompleted end
  simulated_files end IsRight graph_name script_name can (inl lacks) = inr (not_fetched end graph_name script_name can lacks)
  simulated_files end IsRight graph_name script_name can (inr simulates) =
      simulated IsRight end simulates.graph simulates.text (holds_of_given end graph_name script_name can simulates.graph simulates.text simulates.gives) simulates.works

  -- a graph that is converted
  converted : (json : Bool) (end : End) (name : List ℕ) → ServesGraph (SpellsFrom json) before.shelf name (λ graph. Unit {0}) → ConvertEnds json name before now end → IsCompleted end
  converted json end name can (inl lacks) =
      inr (without_memory end lacks.fault
      (fetched before.shelf can.files can.known (SpellsFrom json) (IsFaultFrom json) (no_fault_from graphs json) name can.graph can.gives []
      (All-nil (λ (other : List ℕ). (text : List ℕ) × HasFile before.shelf other text)) now.shelf lacks.fault calm.shelf lacks.is_fault) lacks.end_is)
  converted json end name can (inr converts) =
      subst IsCompleted (sym converts.works.end_is) (text_written (λ text. text ≡ converted_text json converts.graph) converts.works.result converts.works.works)

  -- questions that are written
  asked : (terms : Terms) (end : End) (graph_name log_name : List ℕ) → ServesGraphAndText before.shelf graph_name log_name (λ graph text. HasFewHypotheses terms graph)
      → AskEnds terms graph_name log_name before now end → IsCompleted end
  asked terms end graph_name log_name can (inl lacks) = inr (not_fetched end graph_name log_name can lacks)
  asked terms end graph_name log_name can (inr asks) =
      text_unless_too_many (HasQuestions terms asks.graph asks.text) asks.graph terms end (holds_of_given end graph_name log_name can asks.graph asks.text asks.gives) asks.works

  -- a prediction
  predicted : (end : End) (asked : Prediction) (graph_name log_name : List ℕ)
      → ServesGraphAndText before.shelf graph_name log_name (λ graph text. CanBeProbed graph asked.node × HasFewHypotheses asked.terms graph)
      → PredictEnds asked graph_name log_name before now end → IsCompleted end
  predicted end asked graph_name log_name can (inl lacks) = inr (not_fetched end graph_name log_name can lacks)
  predicted end asked graph_name log_name can (inr predicts) = go predicts.works
    where
      holds : CanBeProbed predicts.graph asked.node × HasFewHypotheses asked.terms predicts.graph
      holds = holds_of_given end graph_name log_name can predicts.graph predicts.text predicts.gives

      go : PredictionEnds asked before now predicts.graph predicts.text end → IsCompleted end
      go (inl none) = absurd (holds.0 none.fault none.is_fault)
      go (inr takes) = text_unless_too_many (HasForecasts predicts.graph asked takes.0 (lines_of predicts.text)) predicts.graph asked.terms end holds.1 takes.2

  completed : (meant : Meaning) (end : End) → CanBeDone meant before → CommandEnds (Ok meant) before now end → IsCompleted end
  completed (Diagnose terms graph) end can is = diagnosed can.1 end terms graph can.0 is
  completed (Explain graph log) end can is = explained end graph log can is
  completed (Check graph log) end can is = checked end graph log can is
  completed (Simulate draw trace graph script) end can is = simulated_files end (HasSimulation draw trace) graph script can is.0
  completed (Generate draw size) end can is = subst IsCompleted (sym is.0.end_is) (text_written (HasSummary draw size) is.0.result is.0.works)
  completed (Convert json graph) end can is = converted json end graph can is.0
  completed (Ask terms graph log) end can is = asked terms end graph log can is.0
  completed (Fleet terms graph names) end can is = fleet_diagnosed can.1 end terms graph names can.0 is
  completed (Predict terms ahead graph log node) end can is = predicted end (prediction terms ahead node) graph log can is.0

  -- the whole run
  pub run_completes : (meant : Meaning) (end : End) → RunEnds (Ok meant) before now end → CanBeDone meant before → IsCompleted end
  run_completes meant end (inl does) can = completed meant end can does
  run_completes meant end (inr none) can = inr none.1

  -- so it is with lines that have a cause
  pub run_refuses : (graph_name log_name : List ℕ) (line : ℕ) (cause : CheckCause) (end : End) → RunEnds (Ok (Check graph_name log_name)) before now end
      → CanRefuse before.shelf before.input graph_name log_name line cause → IsRefusedFor line cause end
  run_refuses graph_name log_name line cause end (inl does) can = refused end graph_name log_name line cause can does
  run_refuses graph_name log_name line cause end (inr none) can = inr none.1
