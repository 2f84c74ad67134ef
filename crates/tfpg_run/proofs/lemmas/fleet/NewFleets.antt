-- When there are too many hypotheses for a fleet, and how a run of it ends.
use Rattle.std.proofs.Common.{◌≡◌, ◌↔◌, ℕ, List, [], ◌∷◌, length, Result, Ok, Err, refl, sym, ap, subst, subst₂, ◌∙◌, inl, inr}
use Rattle.std.specs.Prelude.{IsErrAnd, IfErr, OnOk}
use Rattle.tfpg_base.specs.declared.terms.Terms.{Terms}
use Rattle.tfpg_base.specs.Terms.{AreReportTerms}
use Rattle.tfpg_base.proofs.lemmas.lists.Choices.{IfErr-from, same_Err}
use Rattle.tfpg_base.proofs.lemmas.lists.Sequences.{not_above}
use Rattle.tfpg_graph.specs.Graph.{Tfpg}
use Rattle.tfpg_hyp.specs.declared.limits.TheConstants.{MAX_HYPOTHESES}
use Rattle.tfpg_hyp.specs.declared.table.TableFault.{TableFault}
use Rattle.tfpg_hyp.specs.declared.table.TableFault.TheVariants.{TooMany, NoMemory}
use Rattle.tfpg_fleet.specs.TooMany.{IsTooMany}
use Rattle.tfpg_check.specs.Report.{HasReports}
use Rattle.tfpg_run.specs.declared.end.End.{End}
use Rattle.tfpg_run.specs.declared.end.End.TheVariants as ends
use Rattle.tfpg_run.specs.declared.fault.FetchFault.{FetchFault}
use Rattle.tfpg_streams.specs.declared.fault.StreamFault.{StreamFault}
use Rattle.tfpg_streams.specs.declared.fault.StreamFault.TheVariants as faults
use Rattle.tfpg_run.specs.EndsOf.{end_of_fetch_fault, end_of_stream_fault}
use Rattle.tfpg_run.specs.inside.Faults.{IsFetchFault, end_of_table_fault}
use Rattle.tfpg_run.specs.Fetch.{Fetched, GivesGraph}
use Rattle.tfpg_streams.specs.Streams.{Streams}
use Rattle.tfpg_diagnose.specs.Watched.{Watched, streams_in}
use Rattle.tfpg_run.specs.World.{World, streams_of, watched_of}
use Rattle.tfpg_run.specs.fleet.FleetOutput.{fleet_problem}
use Rattle.tfpg_run.specs.Work.{RunsWithin, WorksByLines}
use Rattle.tfpg_run.specs.fleet.FleetWork.{IsFleetOutputWithin}
use Rattle.tfpg_run.specs.fleet.FleetEnds.{AnswersStream, FleetEnds}
use Rattle.tfpg_run.specs.Run.{CommandEnds}
use Rattle.tfpg_words.specs.Meaning.{Meaning, Fleet}
use Rattle.tfpg_run.proofs.lemmas.fleet.AnsweredStreams.{begins_without_memory}

-- The result says exactly when there are too many hypotheses for so many vehicles.
abbrev pub CountsTooMany : {X : Type 0} → Tfpg → Terms → ℕ → Result X TableFault → Type 0
CountsTooMany graph terms vehicles result = (count : ℕ) → (result ≡ Err (TooMany count)) ↔ IsTooMany graph terms vehicles count

module _ (graph : Tfpg) (terms : Terms) (vehicles : ℕ) where
  -- where there is a fleet, there are not
  pub not_too_many : {X : Type 0} (fleet : X) → CountsTooMany graph terms vehicles (Ok fleet) → (count : ℕ) → IsTooMany graph terms vehicles count → ⊥
  not_too_many fleet exact count many = let is = (exact count).1 many in cc

  -- nor where memory ran out
  pub without_memory : {X : Type 0} → CountsTooMany {X = X} graph terms vehicles (Err NoMemory) → (count : ℕ) → IsTooMany graph terms vehicles count → ⊥
  without_memory exact count many = let is = (exact count).1 many in cc

  -- the same fault for another value
  pub counts_again : {X Y : Type 0} (fault : TableFault) (result : Result Y TableFault) → IsErrAnd result (λ e. e ≡ fault) → CountsTooMany {X = X} graph terms vehicles (Err fault)
      → CountsTooMany graph terms vehicles result
  counts_again fault (Ok value) err exact = absurd err
  counts_again fault (Err other) err exact = λ count. (
    λ is. (exact count).0 (ap Err (sym err ∙ same_Err other (TooMany count) is)),
    λ many. ap Err (err ∙ same_Err fault (TooMany count) ((exact count).1 many)),
  )

  -- where memory ran out after there was a fleet
  pub counts_no_memory : {X Y : Type 0} (fleet : X) (result : Result Y TableFault) → IsErrAnd result (λ e. e ≡ NoMemory) → CountsTooMany graph terms vehicles (Ok fleet) → CountsTooMany graph terms vehicles result
  counts_no_memory fleet (Ok value) err exact = absurd err
  counts_no_memory fleet (Err other) err exact = λ count. (
    λ is. absurd (let none = sym err ∙ same_Err other (TooMany count) is in cc),
    λ many. absurd (not_too_many fleet exact count many),
  )

  -- where there is one
  pub counts_ok : {X Y : Type 0} (fleet : X) (value : Y) → CountsTooMany graph terms vehicles (Ok fleet) → CountsTooMany graph terms vehicles (Ok value)
  counts_ok fleet value exact count = (λ is. absurd (cc), λ many. absurd (not_too_many fleet exact count many))

  -- then there are reports
  pub has_reports : ((count : ℕ) → IsTooMany graph terms vehicles count → ⊥) → AreReportTerms terms → HasReports graph terms
  has_reports none within = record {
    within = within;
    few_hypotheses = λ count counted. not_above count MAX_HYPOTHESES (λ many. none count (record { each = count; each_is = counted; excess = inl (many, refl) }));
  }

-- ---- the ends

module _ {T : Type 0} (terms : Terms) (name : List ℕ) (names : List (List ℕ)) (before now : World) (result : Result T End) where
  -- the end at the exit of a `?`
  ends_by : (end : End) → IsErrAnd result (λ e. e ≡ end) → FleetEnds terms name names before now end → IfErr result (FleetEnds terms name names before now)
  ends_by end err ends = IfErr-from (FleetEnds terms name names before now) result end err ends

  -- there is no graph
  pub stops_without_graph : (fault : FetchFault) → IsFetchFault name [] before.shelf now.shelf fault → watched_of now ≡ watched_of before → IsErrAnd result (λ end. end ≡ end_of_fetch_fault fault)
      → IfErr result (FleetEnds terms name names before now)
  stops_without_graph fault is untouched err =
      ends_by (end_of_fetch_fault fault) err (inl (record { fault = fault; is_fault = is; end_is = refl; untouched = untouched }))

  module _ (graph : Tfpg) (gives : GivesGraph before.shelf name graph) (fetched : Fetched (name ∷ []) before.shelf now.shelf) where
    -- there is no fleet
    pub stops_without_fleet : {X : Type 0} (fault : TableFault) → AreReportTerms terms → CountsTooMany {X = X} graph terms (length names) (Err fault)
        → watched_of now ≡ watched_of before → IsErrAnd result (λ end. end ≡ end_of_table_fault fault) → IfErr result (FleetEnds terms name names before now)
    stops_without_fleet (TooMany count) within exact untouched err =
        ends_by (ends.TooManyHypotheses count) err (inr (record {
          graph = graph;
          gives = gives;
          fetched = fetched;
          works = inl (record { fault = count; is_fault = (exact count).0 refl; end_is = refl; untouched = untouched });
        }))
    stops_without_fleet NoMemory within exact untouched err =
        let none = without_memory graph terms (length names) exact in
        ends_by ends.NoMemory err (inr (record {
          graph = graph;
          gives = gives;
          fetched = fetched;
          works = inr (
            none,
            record {
              result = Err faults.NoMemory;
              works = subst (λ (w : Watched). AnswersStream (fleet_problem graph terms names) (streams_of before) (streams_in w) (Err faults.NoMemory)) (sym untouched)
                  (begins_without_memory (fleet_problem graph terms names) (streams_of before) (has_reports graph terms (length names) none within));
              end_is = refl;
            },
          );
        }))

    -- the answering was stopped
    pub stops_answering : ((count : ℕ) → IsTooMany graph terms (length names) count → ⊥) → (fault : StreamFault)
        → AnswersStream (fleet_problem graph terms names) (streams_of before) (streams_of now) (Err fault) → IsErrAnd result (λ end. end ≡ end_of_stream_fault fault)
        → IfErr result (FleetEnds terms name names before now)
    stops_answering none fault answers err = ends_by (end_of_stream_fault fault) err
        (inr (record { graph = graph; gives = gives; fetched = fetched; works = inr (none, record { result = Err fault; works = answers; end_is = refl }) }))

-- all lines were answered
pub stops_when_answered : (terms : Terms) (name : List ℕ) (names : List (List ℕ)) (before now : World) (graph : Tfpg) → GivesGraph before.shelf name graph → Fetched (name ∷ []) before.shelf now.shelf
    → ((count : ℕ) → IsTooMany graph terms (length names) count → ⊥) → AnswersStream (fleet_problem graph terms names) (streams_of before) (streams_of now) (Ok tt)
    → FleetEnds terms name names before now ends.Done
stops_when_answered terms name names before now graph gives fetched none answers =
    inr (record { graph = graph; gives = gives; fetched = fetched; works = inr (none, record { result = Ok tt; works = answers; end_is = refl }) })

-- for the names that the words have
pub for_names : (graph : Tfpg) (terms : Terms) (names said : List (List ℕ)) (before now : Streams) (result : Result (Unit {0}) StreamFault) → names ≡ said
    → AnswersStream (fleet_problem graph terms names) before now result → AnswersStream (fleet_problem graph terms said) before now result
for_names graph terms names said before now result same answers = subst (λ (ns : List (List ℕ)). AnswersStream (fleet_problem graph terms ns) before now result) same answers

pub counts_for_names : {X : Type 0} (graph : Tfpg) (terms : Terms) (names said : List (List ℕ)) (result : Result X TableFault) → names ≡ said
    → CountsTooMany graph terms (length names) result → CountsTooMany graph terms (length said) result
counts_for_names graph terms names said result same exact = subst (λ (ns : List (List ℕ)). CountsTooMany graph terms (length ns) result) same exact

-- ---- as the words name the file and the vehicles

pub fleet_stopped : {T : Type 0} (result : Result T End) (meant : Meaning) (terms : Terms) (file graph : List ℕ) (words names : List (List ℕ)) (before now : World) → meant ≡ Fleet terms graph names
    → file ≡ graph → words ≡ names → IfErr result (FleetEnds terms file words before now) → IfErr result (CommandEnds (Ok meant) before now)
fleet_stopped result meant terms file graph words names before now means same other is =
    subst (λ (m : Meaning). IfErr result (CommandEnds (Ok m) before now)) (sym means)
    (subst₂ (λ (f : List ℕ) (w : List (List ℕ)). IfErr result (FleetEnds terms f w before now)) same other is)

pub fleet_done : {T : Type 0} (result : Result T End) (meant : Meaning) (terms : Terms) (file graph : List ℕ) (words names : List (List ℕ)) (before now : World) → meant ≡ Fleet terms graph names
    → file ≡ graph → words ≡ names → OnOk result (FleetEnds terms file words before now ends.Done) → OnOk result (CommandEnds (Ok meant) before now ends.Done)
fleet_done result meant terms file graph words names before now means same other is =
    subst (λ (m : Meaning). OnOk result (CommandEnds (Ok m) before now ends.Done)) (sym means)
    (subst₂ (λ (f : List ℕ) (w : List (List ℕ)). OnOk result (FleetEnds terms f w before now ends.Done)) same other is)

-- what its calls are within, by the words' names of the file and the vehicles
pub fleet_within : (meant : Meaning) (terms : Terms) (file graph : List ℕ) (words names : List (List ℕ)) (before now : World) (start end : ℕ) → meant ≡ Fleet terms graph names → file ≡ graph → words ≡ names
    → WorksByLines (λ g. IsFleetOutputWithin (fleet_problem g terms words) start end) file before now → RunsWithin meant before now start end
fleet_within meant terms file graph words names before now start end means same other is =
    subst (λ (m : Meaning). RunsWithin m before now start end) (sym means)
    (subst₂ (λ (f : List ℕ) (w : List (List ℕ)). WorksByLines (λ g. IsFleetOutputWithin (fleet_problem g terms w) start end) f before now) same other is)
