-- What the last round of a simulated log says of the simulated set.
use Rattle.std.proofs.Common.{◌≡◌, ℕ, ◌<◌, inl, inr, Bool, true, false, List, ◌++◌, length, All, Contains, IsTrue, Option, Some, None, refl, sym, ap, subst, ◌∙◌, arith}
use Rattle.std.specs.Prelude.{slice_get, flat_map, IsSomeAnd}
use Rattle.std.proofs.lemmas.Option.{slice_get_cases, slice_get-get_or}
use Rattle.tfpg_base.specs.declared.terms.Terms.{Terms}
use Rattle.tfpg_base.specs.Lines.{lines_of}
use Rattle.tfpg_graph.specs.Graph.{Tfpg, failures}
use Rattle.tfpg_graph.specs.Valid.{IsValid}
use Rattle.tfpg_log.specs.Log.{Logbook, IsLogOf, IsOrdered}
use Rattle.tfpg_log.specs.AcceptedLog.{AreAccepted}
use Rattle.tfpg_log.specs.LogOfLines.{log_of_lines}
use Rattle.tfpg_log.specs.Explains.{Explains, Fits}
use Rattle.tfpg_log.proofs.lemmas.logs_of_lines.LogsOfLines.{of-log_of_lines, ordered-log_of_lines}
use Rattle.tfpg_evidence.specs.declared.finding.Status.{Status}
use Rattle.tfpg_evidence.specs.declared.round.Counts.{Counts}
use Rattle.tfpg_evidence.specs.declared.finding.Finding.{Finding}
use Rattle.tfpg_evidence.specs.declared.round.Round.{Round}
use Rattle.tfpg_evidence.specs.Findings.{hypothesis_of}
use Rattle.tfpg_evidence.specs.RoundOf.{is_rejected}
use Rattle.tfpg_base.specs.Hypothesis.{believing}
use Rattle.tfpg_hyp.specs.Table.{IsHypothesis}
use Rattle.tfpg_hyp.specs.Rounds.{IsRound}
use Rattle.tfpg_hyp.specs.Views.{HypothesisFits}
use Rattle.tfpg_check.specs.Report.{rounds_of}
use Rattle.tfpg_sim.specs.declared.limits.TheConstants.{FAILURE_COUNT}
use Rattle.tfpg_sim.specs.declared.simulated.Simulated.{Simulated}
use Rattle.tfpg_sim.specs.Generated.{generated_graph, generated_script}
use Rattle.tfpg_sim.specs.Simulated.{IsSimulationOf}
use Rattle.tfpg_base.proofs.lemmas.lists.Elements.{Contains-at}
use Rattle.tfpg_sim.proofs.lemmas.simulations.SimulatedSets.{simulated_members}
use Rattle.tfpg_sim.proofs.lemmas.drawn.GeneratedGraphs.{generated_valid, generated_failures}
use Rattle.tfpg_sim.proofs.lemmas.drawn.GeneratedScripts.{generated_set, generated_log}
use Rattle.tfpg_diagnose.specs.declared.diagnosis.Diagnosis.{Diagnosis}
use Rattle.tfpg_diagnose.specs.Rounds.{AreRoundsOf}
use Rattle.tfpg_run.specs.generate.Generating.{HasSummary}
use Rattle.tfpg_run.specs.generate.Summary.{drawn_text, rounds_text, truth_text}
use Rattle.tfpg_run.specs.generate.Terms.{generated_terms}
use Rattle.tfpg_diagnose.specs.Diagnosed.{HasDiagnosed, HasLastOf, IsLastOf}
use Rattle.tfpg_run.specs.inside.generate.Drawn.{IsDrawn}
use Rattle.tfpg_run.specs.inside.generate.Summary.{HasFindingOn, SaysOfRound}
use Rattle.tfpg_diagnose.proofs.lemmas.NeverRejected.{ignores_none}
use Rattle.tfpg_diagnose.proofs.lemmas.Diagnosed.{rounds_diagnosed}
use Rattle.tfpg_run.proofs.lemmas.generate.AcceptedEvents.{accepted_events}

-- no round rejects a set that fits
abbrev pub RejectsNoneThatFits : Type 0
RejectsNoneThatFits =
    (graph : Tfpg) (terms : Terms) (line : ℕ) (rounds : List Round) (log : Logbook) (round : Round) → IsValid graph → IsLogOf graph log → IsOrdered log → IsRound graph terms rounds log line round
    → (number : ℕ) (finding : Finding) → slice_get round.findings number ≡ Some finding → HypothesisFits graph log (hypothesis_of finding) → IsTrue (is_rejected finding.status) → ⊥

module _ (graph : Tfpg) (lines : List (List ℕ)) (d : Diagnosis) (has : HasDiagnosed graph generated_terms lines d) (accepted : AreAccepted graph lines) (some : 0 < length lines) where
  abbrev Rounds : List Round
  Rounds = flat_map rounds_of has.blocks

  -- there is an event for each line
  pub events_counted : length d.engine.log.events ≡ length lines
  events_counted = ap (λ (l : Logbook). length l.events) has.reports.log_is ∙ accepted_events graph lines accepted

  -- and a round for each
  pub rounds_counted : length Rounds ≡ length lines
  rounds_counted = has.reports.represents.one_each ∙ events_counted

  -- there is a last round
  pub last_there : (round : Round) × (d.last ≡ Some round)
  last_there = by d.last has.last
    where
      by : (last : Option Round) → HasLastOf graph generated_terms (log_of_lines graph lines) Rounds last → (round : Round) × (last ≡ Some round)
      by None none = absurd (let counted = rounds_counted in omega (arith, ap length none, counted, some))
      by (Some round) is = (round, refl)

  -- which is one of the whole log
  pub is_last : IsLastOf graph generated_terms (log_of_lines graph lines) Rounds last_there.0
  is_last = subst (HasLastOf graph generated_terms (log_of_lines graph lines) Rounds) last_there.1 has.last

  -- and has a finding on each hypothesis
  finding_there : (set : List ℕ) → IsHypothesis graph generated_terms (believing set) → HasFindingOn set last_there.0
  finding_there set hypothesis =
      let is = is_last.is_round in
      let member = (is.table.exact (believing set)).1 hypothesis in
      let at : slice_get is.hypotheses member.0 ≡ Some (believing set) = slice_get-get_or is.hypotheses member.0 (believing set) member.1 ∙ ap Some member.2 in
      let complete = is.complete in
      elim (slice_get_cases last_there.0.findings member.0).1 [
        | inl there ↦ record {
          finding = there.0;
          there = Contains-at last_there.0.findings member.0 there.0 there.2;
          on_set = (is.findings member.0 (believing set) there.0 at there.2).hypothesis_is;
        }
        | inr past ↦ absurd (omega (arith, past.0, complete, member.1))
      ]

  pub truth_there : (set : List ℕ) → IsHypothesis graph generated_terms (believing set) → IsSomeAnd d.last (HasFindingOn set)
  truth_there set hypothesis = subst (λ (o : Option Round). IsSomeAnd o (HasFindingOn set)) (sym last_there.1) (finding_there set hypothesis)

  -- A set that fits is not rejected.
  pub truth_not_rejected : (set : List ℕ) (finding : Finding) → RejectsNoneThatFits → IsValid graph → Fits graph (log_of_lines graph lines) set → Contains last_there.0.findings finding
      → hypothesis_of finding ≡ believing set → is_rejected finding.status ≡ false
  truth_not_rejected set finding none valid fits member of_set = by (is_rejected finding.status) refl
    where
      by : (b : Bool) → is_rejected finding.status ≡ b → is_rejected finding.status ≡ false
      by false is = is
      by true is =
          absurd
          (none graph generated_terms is_last.line is_last.earlier (log_of_lines graph lines) last_there.0 valid (of-log_of_lines graph lines)
          (ordered-log_of_lines graph lines) is_last.is_round member.0 finding (slice_get-get_or last_there.0.findings member.0 finding member.1 ∙ ap Some member.2)
          (subst (HypothesisFits graph (log_of_lines graph lines)) (sym of_set) (subst (λ (l : Logbook). Fits graph l set) (ignores_none graph lines) fits)) is)

abbrev three_lines : ℕ → ℕ → Tfpg → ℕ → ℕ → Counts → List ℕ → Status → List ℕ
three_lines number size graph lines rounds counts set status = drawn_text number size graph lines ++ rounds_text rounds counts ++ truth_text graph set status

-- The three lines by the last round say what became of the simulated set.
pub summary_is : (number size : ℕ) (simulated : Simulated) (d : Diagnosis) (text : List ℕ) → RejectsNoneThatFits
    → IsValid (generated_graph number size)
    → IsSimulationOf (generated_graph number size) (generated_script number size) number simulated
    → Explains (generated_graph number size) (log_of_lines (generated_graph number size) (lines_of simulated.log)) simulated.set simulated.trace
    → AreAccepted (generated_graph number size) (lines_of simulated.log)
    → HasDiagnosed (generated_graph number size) generated_terms (lines_of simulated.log) d → 0 < length (lines_of simulated.log)
    → IsSomeAnd d.last (SaysOfRound (drawn_text number size d.engine.graph (length d.engine.log.events)) d.engine.graph (length d.engine.log.events) simulated.set text)
    → HasSummary number size text
summary_is number size simulated d text none valid simulation explains accepted has some says =
    let graph = generated_graph number size in
    let lines = lines_of simulated.log in
    let last = last_there graph lines d has accepted some in
    let is = is_last graph lines d has accepted some in
    let said : SaysOfRound (drawn_text number size d.engine.graph (length d.engine.log.events)) d.engine.graph (length d.engine.log.events) simulated.set text last.0 =
    subst (λ (o : Option Round). IsSomeAnd o (SaysOfRound (drawn_text number size d.engine.graph (length d.engine.log.events)) d.engine.graph (length d.engine.log.events) simulated.set text)) last.1 says in
    let counted = events_counted graph lines d has accepted some in
    record {
      simulated = simulated;
      simulation = simulation;
      earlier = is.earlier;
      last = last.0;
      rounds = subst (AreRoundsOf graph generated_terms lines) is.cut (rounds_diagnosed graph generated_terms lines d has);
      truth = said.has.finding;
      found = said.has.there;
      of_truth = said.has.on_set;
      not_rejected = truth_not_rejected graph lines d has accepted some simulated.set said.has.finding none valid (simulated.trace, explains) said.has.there said.has.on_set;
      text_is = said.text_is
          ∙ ap (λ (g : Tfpg). three_lines number size g (length d.engine.log.events) (length d.engine.log.events) last.0.counts simulated.set said.has.finding.status) has.reports.graph_is
          ∙ ap (λ (n : ℕ). three_lines number size graph n (length d.engine.log.events) last.0.counts simulated.set said.has.finding.status) counted
          ∙ ap (λ (n : ℕ). three_lines number size graph (length lines) n last.0.counts simulated.set said.has.finding.status)
          (counted ∙ sym (rounds_counted graph lines d has accepted some) ∙ ap length is.cut);
    }

-- ---- as the code comes to it

module _ (number size : ℕ) (graph : Tfpg) (simulated : Simulated) (drawn : IsDrawn number size graph simulated) where
  simulation_here : IsSimulationOf (generated_graph number size) (generated_script number size) number simulated
  simulation_here =
      subst (λ (g : Tfpg). IsSimulationOf g (generated_script number size) number simulated) drawn.graph_is
      (subst (λ (s : List ℕ). IsSimulationOf graph s number simulated) drawn.script_is drawn.simulation)

  accepted_here : AreAccepted (generated_graph number size) (lines_of simulated.log)
  accepted_here = subst (λ (g : Tfpg). AreAccepted g (lines_of simulated.log)) drawn.graph_is drawn.accepted

  log_here : 0 < length (lines_of simulated.log)
  log_here = generated_log number size number simulated drawn.some drawn.few simulation_here

  -- the graph has so many failure modes
  pub drawn_failures : length (failures graph) ≡ FAILURE_COUNT
  drawn_failures = ap (λ (g : Tfpg). length (failures g)) drawn.graph_is ∙ generated_failures number size

  members_here : All (λ position. position < length (failures (generated_graph number size))) simulated.set
  members_here = simulated_members (generated_graph number size) (generated_script number size) number simulated simulation_here

  module _ (given : List (List ℕ)) (d : Diagnosis) (given_is : given ≡ lines_of simulated.log) (has : HasDiagnosed graph generated_terms given d) where
    has_here : HasDiagnosed (generated_graph number size) generated_terms (lines_of simulated.log) d
    has_here =
        subst (λ (g : Tfpg). HasDiagnosed g generated_terms (lines_of simulated.log) d) drawn.graph_is
        (subst (λ (ls : List (List ℕ)). HasDiagnosed graph generated_terms ls d) given_is has)

    -- the set has failure modes of the graph
    pub members_there : All (λ position. position < length (failures d.engine.graph)) simulated.set
    members_there = subst (λ (g : Tfpg). All (λ position. position < length (failures g)) simulated.set) (sym has_here.reports.graph_is) members_here

    -- and a finding in the last round
    pub found_there : IsSomeAnd d.last (HasFindingOn simulated.set)
    found_there =
        let set = generated_set number size number simulated drawn.some drawn.few simulation_here in
        truth_there (generated_graph number size) (lines_of simulated.log) d has_here accepted_here log_here simulated.set
        (record {
          of_graph = record { rising = set.0.rising; members = members_here };
          doubts_of_graph = record { rising = λ i j d before within. absurd (omega arith); monitored = λ i d within. absurd (omega arith) };
          size = (let small = set.1 in omega (arith, small));
          few_doubts = omega arith;
        })

    -- by which the three lines say what became of it
    pub summary_there : (text : List ℕ) → RejectsNoneThatFits
        → IsSomeAnd d.last (SaysOfRound (drawn_text number size d.engine.graph (length d.engine.log.events)) d.engine.graph (length d.engine.log.events) simulated.set text) → HasSummary number size text
    summary_there text none says =
        summary_is number size simulated d text none (generated_valid number size drawn.some drawn.few) simulation_here
        (subst (λ (g : Tfpg). Explains g (log_of_lines g (lines_of simulated.log)) simulated.set simulated.trace) drawn.graph_is drawn.explained)
        accepted_here has_here log_here says
