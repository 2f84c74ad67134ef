-- How a run on a file ends.
use Rattle.std.proofs.Common.{◌≡◌, ℕ, ◌≤◌, List, [], ◌∷◌, Result, Ok, Err, refl, sym, subst, subst₂, ◌∙◌, inl, inr, Bool}
use Rattle.std.specs.Prelude.{IsErrAnd, OnOk, IfErr}
use Rattle.tfpg_base.specs.declared.terms.Terms.{Terms}
use Rattle.tfpg_base.specs.Terms.{AreReportTerms}
use Rattle.tfpg_graph.specs.Graph.{Tfpg}
use Rattle.tfpg_hyp.specs.Hypotheses.{HasHypotheses}
use Rattle.tfpg_hyp.specs.declared.limits.TheConstants.{MAX_HYPOTHESES}
use Rattle.tfpg_hyp.specs.declared.table.TableFault.{TableFault}
use Rattle.tfpg_hyp.specs.declared.table.TableFault.TheVariants.{TooMany, NoMemory}
use Rattle.tfpg_words.specs.Meaning.{Meaning, Explain, Check, Simulate, Convert, Ask}
use Rattle.tfpg_run.specs.declared.end.End.{End}
use Rattle.tfpg_run.specs.declared.end.End.TheVariants as ends
use Rattle.tfpg_run.specs.declared.end.End.TheVariants.{Done}
use Rattle.tfpg_run.specs.declared.fault.FetchFault.{FetchFault}
use Rattle.tfpg_streams.specs.declared.fault.StreamFault.{StreamFault}
use Rattle.tfpg_streams.specs.declared.fault.StreamFault.TheVariants as faults
use Rattle.tfpg_run.specs.inside.Faults.{IsFetchFault, end_of_table_fault}
use Rattle.tfpg_base.proofs.lemmas.lists.Choices.{IfErr-from}
use Rattle.tfpg_diagnose.proofs.lemmas.NextBlocks.{begins_without_memory}
use Rattle.tfpg_run.specs.EndsOf.{EndsBy, end_of_fetch_fault, end_of_output_fault, end_of_stream_fault, end_of_result}
use Rattle.tfpg_run.specs.declared.fault.FetchFault.TheVariants as fetch
use Rattle.tfpg_streams.specs.Outputs.{TextEnds, WorksToEnd}
use Rattle.tfpg_streams.specs.declared.fault.OutputFault.{OutputFault}
use Rattle.tfpg_streams.specs.declared.fault.OutputFault.TheVariants as output
use Rattle.tfpg_run.specs.TooMany.{EndsUnlessTooMany, HasFewHypotheses, TextEndsUnlessTooMany}
use Rattle.tfpg_diagnose.specs.Work.{IsReportWithin}
use Rattle.tfpg_run.specs.Work.{RunsWithin}
use Rattle.tfpg_words.specs.declared.usage_cause.UsageCause.{UsageCause}
use Rattle.tfpg_run.specs.Fetch.{EndsByFiles, Fetched, GivesGraph, GivesGraphAndText}
use Rattle.tfpg_run.specs.Run.{CommandEnds}
use Rattle.tfpg_diagnose.specs.Diagnosing.{Diagnoses}
use Rattle.tfpg_run.specs.diagnose.Diagnosing.{DiagnoseEnds}
use Rattle.tfpg_run.specs.explain.Explaining.{ExplainEnds}
use Rattle.tfpg_run.specs.check.Checking.{CheckEnds}
use Rattle.tfpg_run.specs.simulate.Simulating.{HasSimulation, SimulateEnds}
use Rattle.tfpg_run.specs.convert.Converting.{ConvertEnds}
use Rattle.tfpg_run.specs.ask.Asking.{AskEnds}
use Rattle.tfpg_streams.specs.Streams.{Streams}
use Rattle.tfpg_run.specs.World.{World, watched_of}
use Rattle.tfpg_diagnose.specs.Watched.{Watched}
use Rattle.tfpg_panel.specs.ToldRounds.{HasTold}
use Rattle.tfpg_diagnose.proofs.lemmas.CountedHypotheses.{CountsHypotheses, not_too_many, without_memory}

-- what holds besides, where there is a value
pub OnOk-with : {T E : Type 0} (result : Result T E) (P Q : Type 0) → OnOk result P → Q → OnOk result (P × Q)
OnOk-with (Ok value) P Q is also = (is, also)
OnOk-with (Err fault) P Q is also = tt

-- what holds besides, where there is a fault
pub IfErr-with : {T E : Type 0} (result : Result T E) (P : E → Type 0) (Q : Type 0) → IfErr result P → Q → IfErr result (λ fault. P fault × Q)
IfErr-with (Ok value) P Q is also = tt
IfErr-with (Err fault) P Q is also = (is, also)

-- ---- work by two files that were fetched

module _ (graph_name text_name : List ℕ) (Works : Tfpg → List ℕ → End → Type 0) (before now : World) (graph : Tfpg) (text : List ℕ)
    (gives : GivesGraphAndText before.shelf graph_name text_name graph text) (fetched : Fetched (graph_name ∷ text_name ∷ []) before.shelf now.shelf) where
  -- the run ends as the work did
  pub ends_by_files : (end : End) → Works graph text end → EndsByFiles graph_name text_name Works before now end
  ends_by_files end works = inr (record { graph = graph; text = text; gives = gives; fetched = fetched; works = works })

  -- so it does at the exit of a `?`
  pub stops_by_files : {T : Type 0} (result : Result T End) (end : End) → IsErrAnd result (λ e. e ≡ end) → Works graph text end
      → IfErr result (EndsByFiles graph_name text_name Works before now)
  stops_by_files result end err works = IfErr-from (EndsByFiles graph_name text_name Works before now) result end err (ends_by_files end works)

-- ---- work with the hypotheses of a graph

module _ {X : Type 0} (graph : Tfpg) (terms : Terms) (before now : World) where
  -- there is no table of them
  pub without_table : (Works : End → Type 0) (fault : TableFault) → CountsHypotheses {X = X} graph terms (Err fault) → watched_of now ≡ watched_of before
      → (HasFewHypotheses terms graph → Works ends.NoMemory) → EndsUnlessTooMany graph terms before now Works (end_of_table_fault fault)
  without_table Works (TooMany count) exact untouched works =
      let many = (exact count).0 refl in
      inl (record { fault = count; is_fault = (many.1, many.0); end_is = refl; untouched = untouched })
  without_table Works NoMemory exact untouched works = let few = without_memory graph terms exact in inr (few, works few)

  -- then no text is written
  pub text_without_table : (IsRight : List ℕ → Type 0) (fault : TableFault) → CountsHypotheses {X = X} graph terms (Err fault) → watched_of now ≡ watched_of before → now.output ≡ before.output
      → TextEndsUnlessTooMany IsRight graph terms before now (end_of_table_fault fault)
  text_without_table IsRight fault exact untouched same =
      without_table (EndsBy (TextEnds IsRight before.output now.output) end_of_output_fault) fault exact untouched (λ few. record { result = Err output.NoMemory; works = same; end_is = refl })

  -- there is one, and writing the text had this result
  pub text_with_table : (IsRight : List ℕ → Type 0) (made : X) → CountsHypotheses graph terms (Ok made) → (result : Result (Unit {0}) OutputFault) → TextEnds IsRight before.output now.output result
      → TextEndsUnlessTooMany IsRight graph terms before now (end_of_result end_of_output_fault result)
  text_with_table IsRight made exact result works = inr (not_too_many graph terms made exact, record { result = result; works = works; end_is = refl })

-- ---- a diagnosis

module _ {T : Type 0} (terms : Terms) (name : List ℕ) (before now : World) (result : Result T End) where
  -- the end at the exit of a `?`
  ends_by : (end : End) → IsErrAnd result (λ e. e ≡ end) → DiagnoseEnds terms name before now end → IfErr result (DiagnoseEnds terms name before now)
  ends_by end err ends = IfErr-from (DiagnoseEnds terms name before now) result end err ends

  -- there is no graph
  pub stops_without_graph : (fault : FetchFault) → IsFetchFault name [] before.shelf now.shelf fault → watched_of now ≡ watched_of before → IsErrAnd result (λ end. end ≡ end_of_fetch_fault fault)
      → IfErr result (DiagnoseEnds terms name before now)
  stops_without_graph fault is untouched err =
      ends_by (end_of_fetch_fault fault) err (inl (record { fault = fault; is_fault = is; end_is = refl; untouched = untouched }))

  module _ (graph : Tfpg) (gives : GivesGraph before.shelf name graph) (fetched : Fetched (name ∷ []) before.shelf now.shelf) where
    -- there is no engine
    pub stops_without_engine : {X : Type 0} (fault : TableFault) → AreReportTerms terms → HasTold [] [] before.desk before.desk → CountsHypotheses {X = X} graph terms (Err fault)
        → watched_of now ≡ watched_of before → IsErrAnd result (λ end. end ≡ end_of_table_fault fault) → IfErr result (DiagnoseEnds terms name before now)
    stops_without_engine fault within told exact untouched err = ends_by (end_of_table_fault fault) err (inr (record {
      graph = graph;
      gives = gives;
      fetched = fetched;
      works = without_table graph terms before now (EndsBy (Diagnoses graph terms (watched_of before) (watched_of now)) end_of_stream_fault) fault exact untouched
          (λ few. record {
            result = Err faults.NoMemory;
            works = subst (λ (s : Watched). Diagnoses graph terms (watched_of before) s (Err faults.NoMemory)) (sym untouched)
                (begins_without_memory graph terms (watched_of before) (record { within = within; few_hypotheses = few }) told);
            end_is = refl;
          });
    }))

    -- the diagnosis was stopped
    pub stops_diagnosis : ((count : ℕ) → HasHypotheses graph terms count → count ≤ MAX_HYPOTHESES) → (fault : StreamFault) → Diagnoses graph terms (watched_of before) (watched_of now) (Err fault)
        → IsErrAnd result (λ end. end ≡ end_of_stream_fault fault) → IfErr result (DiagnoseEnds terms name before now)
    stops_diagnosis few fault diagnoses err = ends_by (end_of_stream_fault fault) err
        (inr (record { graph = graph; gives = gives; fetched = fetched; works = inr (few, record { result = Err fault; works = diagnoses; end_is = refl }) }))

-- the diagnosis is done
pub stops_when_done : (terms : Terms) (name : List ℕ) (before now : World) (graph : Tfpg) → GivesGraph before.shelf name graph → Fetched (name ∷ []) before.shelf now.shelf
    → ((count : ℕ) → HasHypotheses graph terms count → count ≤ MAX_HYPOTHESES) → Diagnoses graph terms (watched_of before) (watched_of now) (Ok tt) → DiagnoseEnds terms name before now Done
stops_when_done terms name before now graph gives fetched few diagnoses =
    inr (record { graph = graph; gives = gives; fetched = fetched; works = inr (few, record { result = Ok tt; works = diagnoses; end_is = refl }) })

-- what a diagnosis by an engine is, for the graph and the terms that it was made of
pub diagnosed_for : (g graph : Tfpg) (other terms : Terms) (before now : Watched) (result : Result (Unit {0}) StreamFault) → g ≡ graph → other ≡ terms
    → Diagnoses g other before now result → Diagnoses graph terms before now result
diagnosed_for g graph other terms before now result e f diagnoses =
    subst (λ (x : Terms). Diagnoses graph x before now result) f (subst (λ (x : Tfpg). Diagnoses x other before now result) e diagnoses)

-- what its calls are within, for the graph and the terms that it was made of
pub within_for : (g graph : Tfpg) (other terms : Terms) (before now : Streams) (start end : ℕ) → g ≡ graph → other ≡ terms
    → WorksToEnd (IsReportWithin g other start end) before now → WorksToEnd (IsReportWithin graph terms start end) before now
within_for g graph other terms before now start end e f works =
    subst₂ (λ (x : Tfpg) (y : Terms). WorksToEnd (IsReportWithin x y start end) before now) e f works

-- ---- work that was stopped is not done

pub fetch_not_done : (fault : FetchFault) → end_of_fetch_fault fault ≡ Done → ⊥
fetch_not_done fetch.Failed is = cc
fetch_not_done fetch.TooLong is = cc
fetch_not_done (fetch.Graph fault) is = cc
fetch_not_done fetch.NoMemory is = cc

pub table_not_done : (fault : TableFault) → end_of_table_fault fault ≡ Done → ⊥
table_not_done (TooMany count) is = cc
table_not_done NoMemory is = cc

pub stream_not_done : (fault : StreamFault) → end_of_stream_fault fault ≡ Done → ⊥
stream_not_done faults.ReadFault is = cc
stream_not_done faults.WriteFault is = cc
stream_not_done faults.TooMuchInput is = cc
stream_not_done faults.NoMemory is = cc

pub not_done : (result : Result (Unit {0}) End) (end : End) → (end ≡ Done → ⊥) → IsErrAnd result (λ e. e ≡ end) → end_of_result (λ (e : End). e) result ≡ Done → ⊥
not_done (Ok done) end never err is = absurd err
not_done (Err fault) end never err is = never (sym err ∙ is)

-- ---- commands that were stopped, as the words name their files

module _ {T : Type 0} (result : Result T End) (meant : Meaning) (first second : List ℕ) (before now : World) where
  -- the verdict on a map was not written
  pub explain_stopped : (graph log : List ℕ) → meant ≡ Explain graph log → first ≡ graph → second ≡ log → IfErr result (ExplainEnds first second before now)
      → IfErr result (CommandEnds (Ok meant) before now)
  explain_stopped graph log means one other is =
      subst (λ (m : Meaning). IfErr result (CommandEnds (Ok m) before now)) (sym means)
      (subst (λ (name : List ℕ). IfErr result (ExplainEnds name log before now)) one
      (subst (λ (name : List ℕ). IfErr result (ExplainEnds first name before now)) other is))

  -- a report was not accepted
  pub check_stopped : (graph log : List ℕ) → meant ≡ Check graph log → first ≡ graph → second ≡ log → IfErr result (CheckEnds first second before now)
      → IfErr result (CommandEnds (Ok meant) before now)
  check_stopped graph log means one other is =
      subst (λ (m : Meaning). IfErr result (CommandEnds (Ok m) before now)) (sym means)
      (subst (λ (name : List ℕ). IfErr result (CheckEnds name log before now)) one
      (subst (λ (name : List ℕ). IfErr result (CheckEnds first name before now)) other is))

  -- a script was not simulated
  pub simulate_stopped : (draw : ℕ) (trace : Bool) (graph script : List ℕ) → meant ≡ Simulate draw trace graph script → first ≡ graph → second ≡ script → now.input ≡ before.input
      → IfErr result (SimulateEnds (HasSimulation draw trace) first second before now) → IfErr result (CommandEnds (Ok meant) before now)
  simulate_stopped draw trace graph script means one other same is =
      subst (λ (m : Meaning). IfErr result (CommandEnds (Ok m) before now)) (sym means)
      (IfErr-with result (SimulateEnds (HasSimulation draw trace) graph script before now) (now.input ≡ before.input)
      (subst (λ (name : List ℕ). IfErr result (SimulateEnds (HasSimulation draw trace) name script before now)) one
      (subst (λ (name : List ℕ). IfErr result (SimulateEnds (HasSimulation draw trace) first name before now)) other is)) same)

  -- questions were not written
  pub ask_stopped : (terms : Terms) (graph log : List ℕ) → meant ≡ Ask terms graph log → first ≡ graph → second ≡ log → now.input ≡ before.input
      → IfErr result (AskEnds terms first second before now) → IfErr result (CommandEnds (Ok meant) before now)
  ask_stopped terms graph log means one other same is =
      subst (λ (m : Meaning). IfErr result (CommandEnds (Ok m) before now)) (sym means)
      (IfErr-with result (AskEnds terms graph log before now) (now.input ≡ before.input)
      (subst (λ (name : List ℕ). IfErr result (AskEnds terms name log before now)) one
      (subst (λ (name : List ℕ). IfErr result (AskEnds terms first name before now)) other is)) same)

-- a graph was not converted, as the words name its file
pub convert_stopped : {T : Type 0} (result : Result T End) (meant : Meaning) (name : List ℕ) (before now : World) (json : Bool) (graph : List ℕ) → meant ≡ Convert json graph → name ≡ graph → now.input ≡ before.input
    → IfErr result (ConvertEnds json name before now) → IfErr result (CommandEnds (Ok meant) before now)
convert_stopped result meant name before now json graph means named same is =
    subst (λ (m : Meaning). IfErr result (CommandEnds (Ok m) before now)) (sym means)
    (IfErr-with result (ConvertEnds json graph before now) (now.input ≡ before.input)
    (subst (λ (n : List ℕ). IfErr result (ConvertEnds json n before now)) named is) same)

-- ---- within the limits

-- what a run is within by the one meaning, it is within by the same
pub runs_within : (meant other : Meaning) (before now : World) (start end : ℕ) → ◌≡◌ {A = Result Meaning UsageCause} (Ok meant) (Ok other) → RunsWithin other before now start end → RunsWithin meant before now start end
runs_within meant other before now start end same is = let e : other ≡ meant = cc in subst (λ (m : Meaning). RunsWithin m before now start end) e is
