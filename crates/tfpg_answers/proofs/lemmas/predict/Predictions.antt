-- What is written of a diagnosis is the prediction for a node.
use Rattle.std.proofs.Common.{◌≡◌, ℕ, ◌<◌, ◌≤◌, cond, true, false, Bool, List, [], ◌++◌, length, get_or, All, IsTrue, Option, Some, None, Ok, Err, refl, sym, ap, subst, subst₂, ◌∙◌, arith}
use Rattle.std.specs.Prelude.{nat_lt, ok_or}
use Rattle.std.proofs.lemmas.Bool.{ltb-true}
use Rattle.std.proofs.lemmas.List.{append-nil}
use Rattle.std.proofs.lemmas.List.Elements.{All-same}
use Rattle.std.proofs.lemmas.Option.{slice_get-get_or}
use Rattle.tfpg_base.specs.declared.limits.TheConstants.{MAX_TIME}
use Rattle.tfpg_base.specs.declared.terms.Terms.{Terms}
use Rattle.tfpg_base.specs.Hypothesis.{Hypothesis}
use Rattle.tfpg_base.proofs.lemmas.lists.Elements.{Contains-at}
use Rattle.tfpg_graph.specs.Graph.{Tfpg, failures, is_monitored, node_named}
use Rattle.tfpg_graph.specs.declared.limits.TheConstants.{MAX_NODES, MAX_EDGES}
use Rattle.tfpg_log.specs.Log.{Logbook, IsLogOf, IsOrdered, now_of}
use Rattle.tfpg_log.specs.LogOfLines.{log_of_lines}
use Rattle.tfpg_log.proofs.lemmas.events.Order.{last_upto}
use Rattle.tfpg_evidence.specs.declared.finding.Finding.{Finding}
use Rattle.tfpg_evidence.specs.declared.round.Round.{Round}
use Rattle.tfpg_evidence.specs.Findings.{ranked_in_order}
use Rattle.tfpg_evidence.proofs.lemmas.FindingsByNumber.{RiseByNumber}
use Rattle.tfpg_hyp.specs.Rounds.{IsRound}
use Rattle.tfpg_hyp.proofs.lemmas.FindingsOfRound.{HasFindingAt, evidence}
use Rattle.tfpg_predict.specs.LeastTime.{lookahead_of}
use Rattle.tfpg_predict.specs.Probed.{IsProbeable}
use Rattle.tfpg_diagnose.specs.declared.diagnosis.Diagnosis.{Diagnosis}
use Rattle.tfpg_answers.specs.declared.predict.probing.ProbeFault.TheVariants.{TooManyNodes, TooManyEdges, UnknownNode}
use Rattle.tfpg_answers.specs.declared.predict.probing.ForecastRequest.{ForecastRequest}
use Rattle.tfpg_diagnose.specs.Diagnosed.{HasDiagnosed, HasLastOf}
use Rattle.tfpg_answers.specs.inside.Forecasting.{ForecastsFollow, IsAskable}
use Rattle.tfpg_answers.specs.Forecasts.{AreForecastsAfter, HasForecasts, predict_line, prediction, time_ahead}
use Rattle.tfpg_answers.specs.Probing.{CanForecast, probed_node}
use Rattle.tfpg_diagnose.proofs.lemmas.LineBlocks.{NamesOfRounds}
use Rattle.tfpg_diagnose.proofs.lemmas.Diagnosed.{last_diagnosed}

-- ---- what may be asked

-- the hypotheses of a round are of its graph
module _ (graph : Tfpg) (terms : Terms) (line : ℕ) (rounds : List Round) (log : Logbook) (round : Round) (is_round : IsRound graph terms rounds log line round) where
  askable_at : (number : ℕ) (finding : Finding) → HasFindingAt round number finding → IsAskable graph finding
  askable_at number finding at =
      let own = evidence is_round number finding at in
      let hypothesis = (is_round.table.exact own.0).0 (Contains-at is_round.hypotheses number own.0 own.1) in
      record {
        members = All-same (λ (position : ℕ). position < length (failures graph)) finding.set own.0.set (ap (λ (h : Hypothesis). h.set) own.2.hypothesis_is) hypothesis.of_graph.members;
        doubts = All-same (λ (node : ℕ). IsTrue (is_monitored graph node)) finding.doubts own.0.doubts (ap (λ (h : Hypothesis). h.doubts) own.2.hypothesis_is) hypothesis.doubts_of_graph.monitored;
      }

  pub all_askable : All (IsAskable graph) round.findings
  all_askable number d within = askable_at number (get_or round.findings number d) (slice_get-get_or round.findings number d within)

-- so are those of the last round of a diagnosis
pub last_askable : (graph : Tfpg) (terms : Terms) (lines : List (List ℕ)) (d : Diagnosis) → HasDiagnosed graph terms lines d → (round : Round) → d.last ≡ Some round → All (IsAskable graph) round.findings
last_askable graph terms lines d has round is =
    let last = subst (HasLastOf graph terms (log_of_lines graph lines) _) is has.last in
    all_askable graph terms last.line last.earlier (log_of_lines graph lines) round last.is_round

-- the numbers of its findings rise
pub last_rising : NamesOfRounds → (graph : Tfpg) (terms : Terms) (lines : List (List ℕ)) (d : Diagnosis) → HasDiagnosed graph terms lines d → IsLogOf graph (log_of_lines graph lines)
    → (round : Round) → d.last ≡ Some round → RiseByNumber round.findings
last_rising names graph terms lines d has of round is =
    let last = subst (HasLastOf graph terms (log_of_lines graph lines) _) is has.last in
    (names graph terms last.line last.earlier (log_of_lines graph lines) round of last.is_round).numbers_rise

-- an ordered log has not come too far
pub now_upto : (log : Logbook) → IsOrdered log → now_of log ≤ MAX_TIME
now_upto log ordered = last_upto log.events 0 MAX_TIME (omega arith) ordered.in_range

-- The node may be asked about.
pub probeable_at : (graph : Tfpg) (log : Logbook) (node ahead to : ℕ) → CanForecast graph node ahead → IsLogOf graph log → IsOrdered log → to ≡ time_ahead (now_of log) ahead
    → IsProbeable (lookahead_of graph log node to)
probeable_at graph log node ahead to is of ordered to_is =
    let now = now_upto log ordered in
    record {
      of = of;
      node = is.in_graph;
      few_nodes = is.few_nodes;
      few_edges = is.few_edges;
      not_back = omega (arith, to_is, now);
      in_range = omega (arith, to_is);
    }

-- ---- the node that is probed

-- there is room for a probe of it
module _ (graph : Tfpg) (name : List ℕ) (node : ℕ) where
  known : (found : Option ℕ) → ok_or found UnknownNode ≡ Ok node → found ≡ Some node
  known (Some other) same = let one : other ≡ node = cc in ap Some one
  known None same = absurd cc

  pub room_for_probe : probed_node graph name ≡ Ok node → (length graph.nodes < MAX_NODES) × (length graph.edges < MAX_EDGES) × (node_named graph name ≡ Some node)
  room_for_probe = by (nat_lt (length graph.nodes) MAX_NODES) refl (nat_lt (length graph.edges) MAX_EDGES) refl
    where
      by : (nodes : Bool) → nat_lt (length graph.nodes) MAX_NODES ≡ nodes → (edges : Bool) → nat_lt (length graph.edges) MAX_EDGES ≡ edges
          → cond nodes (cond edges (ok_or (node_named graph name) UnknownNode) (Err TooManyEdges)) (Err TooManyNodes) ≡ Ok node
          → (length graph.nodes < MAX_NODES) × (length graph.edges < MAX_EDGES) × (node_named graph name ≡ Some node)
      by true few true few_edges is = (ltb-true _ _ few, ltb-true _ _ few_edges, known (node_named graph name) is)
      by true few false many is = absurd cc
      by false many edges any is = absurd cc

-- ---- the text

-- With the forecasts after its line, or with its line alone, it is the prediction.
module _ (graph : Tfpg) (terms : Terms) (lines : List (List ℕ)) (d : Diagnosis) (has : HasDiagnosed graph terms lines d) (asked : ForecastRequest) (node : ℕ) (log : Logbook) (log_is : log ≡ log_of_lines graph lines) where
  predicted : (forecasts text : List ℕ) → AreForecastsAfter (lookahead_of graph (log_of_lines graph lines) node (time_ahead (now_of (log_of_lines graph lines)) asked.ahead)) terms.budget d.last forecasts
      → text ≡ predict_line asked.node.now (now_of log) (time_ahead (now_of log) asked.ahead) ++ forecasts → HasForecasts graph (prediction terms asked.ahead asked.node.now) node lines text
  predicted forecasts text are text_is = record {
    last = d.last;
    is_last = last_diagnosed graph terms lines d has;
    forecasts = forecasts;
    are = are;
    text_is = subst (λ (l : Logbook). text ≡ predict_line asked.node.now (now_of l) (time_ahead (now_of l) asked.ahead) ++ forecasts) log_is text_is;
  }

  -- there was no round
  pub predicted_none : (text : List ℕ) → d.last ≡ None → text ≡ predict_line asked.node.now (now_of log) (time_ahead (now_of log) asked.ahead)
      → HasForecasts graph (prediction terms asked.ahead asked.node.now) node lines text
  predicted_none text none text_is =
      predicted [] text (subst (λ (last : Option Round). AreForecastsAfter (lookahead_of graph (log_of_lines graph lines) node (time_ahead (now_of (log_of_lines graph lines)) asked.ahead)) terms.budget last []) (sym none) refl)
      (text_is ∙ sym (append-nil _))

  -- there was one
  pub predicted_last : (round : Round) (old text : List ℕ) (other : Logbook) (to : ℕ) → d.last ≡ Some round → old ≡ predict_line asked.node.now (now_of log) (time_ahead (now_of log) asked.ahead)
      → log ≡ other → to ≡ time_ahead (now_of log) asked.ahead → ForecastsFollow (lookahead_of graph other node to) terms.budget (ranked_in_order round) old text
      → HasForecasts graph (prediction terms asked.ahead asked.node.now) node lines text
  predicted_last round old text other to is old_is same to_is follow =
      let here = subst₂ (λ (l : Logbook) (t : ℕ). ForecastsFollow (lookahead_of graph l node t) terms.budget (ranked_in_order round) old text) (sym same) to_is follow in
      predicted here.text text
      (subst (λ (last : Option Round). AreForecastsAfter (lookahead_of graph (log_of_lines graph lines) node (time_ahead (now_of (log_of_lines graph lines)) asked.ahead)) terms.budget last here.text) (sym is)
      (subst (λ (l : Logbook). AreForecastsAfter (lookahead_of graph l node (time_ahead (now_of l) asked.ahead)) terms.budget (Some round) here.text) log_is (here.number, here.named, here.has)))
      (here.appended ∙ ap (λ (t : List ℕ). t ++ here.text) old_is)
