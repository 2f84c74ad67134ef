-- The lines of a right round have small numbers, where they are not too many.
use Rattle.std.proofs.Common.{◌≡◌, ℕ, ◌<◌, ◌≤◌, ◌^◌, cond, eqb, ltb, Bool, true, false, List, [], ◌∷◌, ◌++◌, length, get_or, map, All, Option, Some, None, IsTrue, slice_get, refl, sym, ap, subst, arith}
use Rattle.std.specs.Prelude.{IfSome, filter, flat_map, is_some, option_and_then, option_map, unwrap_or}
use Rattle.std.proofs.lemmas.Bool.{cond_both, lt-ltb, ltb-true}
use Rattle.std.proofs.lemmas.List.{length-map}
use Rattle.std.proofs.lemmas.List.Elements.{All-nil, All-cons, All-append, All-contains, All-filter, All-map, All-weaker}
use Rattle.std.proofs.lemmas.List.Folds.{length-flat_map-take}
use Rattle.std.proofs.lemmas.List.Sums.{count_by-le-length, length-filter, sum_by-le}
use Rattle.std.proofs.lemmas.Option.{slice_get_within}
use Rattle.tfpg_base.specs.declared.activation.Activation.{Activation}
use Rattle.tfpg_base.specs.declared.terms.Terms.{Terms}
use Rattle.tfpg_base.specs.declared.limits.TheConstants.{MAX_LINE_NUMBER, MAX_TIME}
use Rattle.tfpg_base.specs.Hypothesis.{Hypothesis}
use Rattle.tfpg_base.proofs.lemmas.lists.Distinct.{length-le_distinct}
use Rattle.tfpg_base.proofs.lemmas.lists.Elements.{All-at, All-back, All-from_indexes, All-from_members, Contains-at}
use Rattle.tfpg_base.proofs.lemmas.lists.FirstFound.{find-passes}
use Rattle.tfpg_base.proofs.lemmas.lists.Images.{All-unmap}
use Rattle.tfpg_base.proofs.lemmas.lists.Ordered.{Rises-differ}
use Rattle.tfpg_base.proofs.lemmas.lists.Passing.{Contains-filter_map_only}
use Rattle.tfpg_graph.specs.declared.limits.TheConstants.{MAX_NODES, MAX_RARITY}
use Rattle.tfpg_graph.specs.declared.kind.Kind.{Kind}
use Rattle.tfpg_graph.specs.declared.kind.Kind.TheVariants as kind
use Rattle.tfpg_graph.specs.Graph.{Node, Tfpg, failure_at, is_and, is_or, kind_at}
use Rattle.tfpg_graph.specs.Reach.{IsClosed, IsReach}
use Rattle.tfpg_graph.specs.Valid.{HasValidNumber, IsValid}
use Rattle.tfpg_graph.proofs.lemmas.NodeAt.{kind_within}
use Rattle.tfpg_graph.proofs.lemmas.reach.Reaches.{own_small}
use Rattle.tfpg_log.specs.Log.{Logbook, alarm_of, now_of}
use Rattle.tfpg_evidence.specs.declared.finding.Finding.{Finding}
use Rattle.tfpg_evidence.specs.declared.finding.Status.{Status}
use Rattle.tfpg_evidence.specs.declared.finding.Status.TheVariants as status
use Rattle.tfpg_evidence.specs.declared.round.Round.{Round as RoundOf}
use Rattle.tfpg_evidence.specs.declared.step.Step.{Step}
use Rattle.tfpg_evidence.specs.declared.step.Step.TheVariants as step
use Rattle.tfpg_evidence.specs.RoundOf.{finding_numbered, is_covered, is_open, is_ranked, is_rejected}
use Rattle.tfpg_evidence.specs.Findings.{hypothesis_of, is_rejected_now, newly_rejected, open_in, ranked_in_order}
use Rattle.tfpg_clause.specs.Trees.{Judged}
use Rattle.tfpg_hyp.specs.declared.limits.TheConstants.{MAX_HYPOTHESES}
use Rattle.tfpg_hyp.specs.declared.place.Fraction.{Fraction}
use Rattle.tfpg_hyp.specs.Ranking.{alarmed_in, believed_in, cost_of, is_believed, rarity_at, rarity_of, robustness_of}
use Rattle.tfpg_hyp.specs.Rounds.{HasEvidence, IsRound, steps_so_far}
use Rattle.tfpg_hyp.specs.Table.{IsHypothesis}
use Rattle.tfpg_hyp.specs.Views.{case_for, log_for}
use Rattle.tfpg_hyp.proofs.lemmas.FindingsOfRound.{evidence, steps_so_far-push}
use Rattle.tfpg_report.specs.declared.report_line.ReportLine.{ReportLine}
use Rattle.tfpg_report.specs.declared.report_line.ReportLine.TheVariants.{Hyp, Split, Cycle, Why, Again, Ranked, At, Counts}
use Rattle.tfpg_report.specs.ReportLines.{Has32Bits}
use Rattle.tfpg_report.specs.Blocks.{lines_of_finding, lines_if_ranked, round_lines}
use Rattle.tfpg_report.specs.inside.LineNames.{open_line, rejected_line}
use Rattle.tfpg_report.specs.ReadRounds.{step_lines}
use Rattle.tfpg_check.specs.Report.{HasReports}
use Rattle.tfpg_check.proofs.lemmas.completeness.LinesOfBlocks.{middle, round_line}
use Rattle.tfpg_check.proofs.lemmas.completeness.MappedLists.{All-flat_map}
use Rattle.tfpg_check.proofs.lemmas.readable.LinesCounted.{findings_fewer}
use Rattle.tfpg_check.proofs.lemmas.readable.SmallNumbers.{HasFewMembers, HasSmallNumbers}
use Rattle.tfpg_check.proofs.lemmas.readable.StepNumbers.{HasSmallStep, IsWithin, evidence_small, now_within}

-- The lines have small numbers.
abbrev pub AreSmall : List ReportLine → Type 0
AreSmall lines = All HasSmallNumbers lines

-- ---- steps

step_small : (s : Step) → HasSmallStep s → length (step_lines s) ≤ 2 ^ 32 → AreSmall (step_lines s)
step_small (step.Split name) is few = All-cons HasSmallNumbers (Split name) [] is (All-nil HasSmallNumbers)
step_small (step.Cycle reasons) is few =
    All-cons HasSmallNumbers (Cycle (length reasons)) (map Why reasons) (omega (arith, few, length-map reasons Why)) (All-map HasSmallNumbers Why reasons is)
step_small step.Again is few = All-cons HasSmallNumbers Again [] tt (All-nil HasSmallNumbers)

steps_small : (steps : List Step) → All HasSmallStep steps → length (flat_map step_lines steps) ≤ 2 ^ 32 → AreSmall (flat_map step_lines steps)
steps_small steps each few =
    All-flat_map HasSmallNumbers step_lines steps
    (λ k d within. step_small (get_or steps k d) (each k d within) (omega (arith, few, length-flat_map-take step_lines steps k d within)))

-- ---- costs and robustness

module _ (graph : Tfpg) (valid : IsValid graph) where
  rarity_small : (position : ℕ) → rarity_at graph position ≤ MAX_RARITY
  rarity_small position = by (failure_at graph position)
    where
      of_kind : (k : Kind) → HasValidNumber k → rarity_of k ≤ MAX_RARITY
      of_kind (kind.Failure rarity) is = is
      of_kind (kind.Or lag) is = omega arith
      of_kind (kind.And lag) is = omega arith

      of_node : (node : ℕ) (found : Option Node) → slice_get graph.nodes node ≡ found → unwrap_or (option_map rarity_of (option_map (λ (n : Node). n.kind) found)) 0 ≤ MAX_RARITY
      of_node node None at = omega arith
      of_node node (Some n) at = of_kind n.kind (All-at (λ (n : Node). HasValidNumber n.kind) graph.nodes node n valid.so_far.node_numbers at)

      by : (found : Option ℕ) → unwrap_or (option_and_then (λ (node : ℕ). option_map rarity_of (kind_at graph node)) found) 0 ≤ MAX_RARITY
      by None = omega arith
      by (Some node) = of_node node (slice_get graph.nodes node) refl

  cost_small : (hypothesis : Hypothesis) → HasFewMembers hypothesis → Has32Bits (cost_of graph hypothesis)
  cost_small hypothesis few = omega (arith, few, sum_by-le (rarity_at graph) MAX_RARITY hypothesis.set (λ k d within. rarity_small (get_or hypothesis.set k d)))

  -- a set reaches nodes of the graph alone
  reach_few : (set reach : List ℕ) → IsReach graph set reach → length reach ≤ MAX_NODES
  reach_few set reach is =
      length-le_distinct reach MAX_NODES (Rises-differ reach is.rising)
      (All-from_members (λ (node : ℕ). node < MAX_NODES) reach (λ node member. ltb-true node MAX_NODES ((is.exact node).0 member (λ (other : ℕ). ltb other MAX_NODES) closed)))
    where
      of_graph : (node : ℕ) → node < length graph.nodes → ltb node MAX_NODES ≡ true
      of_graph node within =
          let few = valid.so_far.few_nodes in
          lt-ltb node MAX_NODES (omega (arith, within, few))

      own : (position : ℕ) (found : Option ℕ) → failure_at graph position ≡ found → IfSome found (λ node. IsTrue (ltb node MAX_NODES))
      own position None at = tt
      own position (Some node) at = lt-ltb node MAX_NODES (own_small graph set valid position node at)

      closed : IsClosed graph set (λ (other : ℕ). ltb other MAX_NODES)
      closed = record {
        members = λ k d within. own (get_or set k d) (failure_at graph (get_or set k d)) refl;
        or_nodes = λ node of edge into passes. of_graph node (kind_within graph is_or node of);
        and_nodes = λ node of passes. of_graph node (kind_within graph is_and node of);
      }

  robust_small : (log : Logbook) (set reach doubts : List ℕ) → IsReach graph set reach
      → Has32Bits (robustness_of graph log reach doubts).alarmed × Has32Bits (robustness_of graph log reach doubts).monitored
  robust_small log set reach doubts is =
      let few = reach_few set reach is in
      let believed = count_by-le-length (is_believed graph doubts) reach in
      let alarmed = count_by-le-length (λ (node : ℕ). is_some (alarm_of log node)) (filter (is_believed graph doubts) reach) in
      let filtered = length-filter (is_believed graph doubts) reach in
      cond_both (eqb (believed_in graph reach doubts) 0) (record { alarmed = 1; monitored = 1 }) (record { alarmed = alarmed_in graph log reach doubts; monitored = believed_in graph reach doubts })
      (λ (fraction : Fraction). Has32Bits fraction.alarmed × Has32Bits fraction.monitored) (λ _. (omega arith, omega arith))
      (λ _. (omega (arith, alarmed, filtered, believed, few), omega (arith, believed, few)))

-- ---- a round

module _ (graph : Tfpg) (valid : IsValid graph) (terms : Terms) (has_reports : HasReports graph terms) (log : Logbook) (within : IsWithin log) where
  module _ (line : ℕ) (rounds : List RoundOf) (round : RoundOf) (is_round : IsRound graph terms rounds log line round) where
    hypotheses_few : length round.findings ≤ MAX_HYPOTHESES
    hypotheses_few =
        let few = has_reports.few_hypotheses (length is_round.hypotheses) (record { hypotheses = is_round.hypotheses; table = is_round.table; counted = refl }) in
        let complete = is_round.complete in
        omega (arith, few, complete)

    hypothesis_there : (number : ℕ) (finding : Finding) → slice_get round.findings number ≡ Some finding → IsHypothesis graph terms (hypothesis_of finding)
    hypothesis_there number finding at =
        let own = evidence is_round number finding at in
        subst (IsHypothesis graph terms) (sym own.2.hypothesis_is) ((is_round.table.exact own.0).0 (Contains-at is_round.hypotheses number own.0 own.1))

    members_few : (number : ℕ) (finding : Finding) → slice_get round.findings number ≡ Some finding → HasFewMembers (hypothesis_of finding)
    members_few number finding at =
        let size = (hypothesis_there number finding at).size in
        let few = has_reports.within.few_members in
        omega (arith, size, few)

    counts_small : HasSmallNumbers (Counts round.counts)
    counts_small =
        let few = hypotheses_few in
        subst (λ counts. HasSmallNumbers (Counts counts)) (sym is_round.counts) (
          omega (arith, few, count_by-le-length (λ (f : Finding). is_ranked f.status) round.findings),
          omega (arith, few, count_by-le-length (λ (f : Finding). is_covered f.status) round.findings),
          omega (arith, few, count_by-le-length (λ (f : Finding). is_rejected f.status) round.findings),
          omega (arith, few, count_by-le-length (λ (f : Finding). is_open f.status) round.findings),
        )

    -- the lines of a finding, if it is ranked
    ranked_small : (finding : Finding) (hypothesis : Hypothesis) (reach : List ℕ) (steps : List Judged) (s : Status) → Has32Bits finding.number → HasFewMembers (hypothesis_of finding)
        → IsReach graph hypothesis.set reach → HasEvidence (case_for graph log hypothesis reach) terms.budget round.findings steps finding s → AreSmall (lines_if_ranked finding s)
    ranked_small finding hypothesis reach steps (status.Ranked trace cost alarmed monitored) small few reached own =
        let robust = robust_small graph valid (log_for log hypothesis) hypothesis.set reach finding.doubts reached in
        let now = now_within log within in
        All-cons HasSmallNumbers (Ranked finding.number cost alarmed monitored (hypothesis_of finding)) (map At trace) (
          small,
          subst Has32Bits (sym own.3) (cost_small graph valid (hypothesis_of finding) few),
          subst Has32Bits (ap (λ (f : Fraction). f.alarmed) own.4) robust.0,
          subst Has32Bits (ap (λ (f : Fraction). f.monitored) own.4) robust.1,
          few,
        )
        (All-map HasSmallNumbers At trace
        (All-weaker (λ (activation : Activation). activation.time ≤ now_of log) (λ (activation : Activation). activation.time ≤ MAX_TIME) (λ activation upto. omega (arith, upto, now)) trace own.1.by_now))
    ranked_small finding hypothesis reach steps (status.Covered by) small few reached own = All-nil HasSmallNumbers
    ranked_small finding hypothesis reach steps status.Rejected small few reached own = All-nil HasSmallNumbers
    ranked_small finding hypothesis reach steps status.Open small few reached own = All-nil HasSmallNumbers

    -- What a finding says has small numbers.
    record IsSmallFinding (finding : Finding) : Type 0 where
      number : Has32Bits finding.number
      members : HasFewMembers (hypothesis_of finding)
      steps : All HasSmallStep finding.steps
      ranked : AreSmall (lines_if_ranked finding finding.status)

    module _ (few_steps : (number : ℕ) → length (steps_so_far number (rounds ++ round ∷ [])) ≤ MAX_LINE_NUMBER) where
      finding_small : (number : ℕ) (finding : Finding) → slice_get round.findings number ≡ Some finding → IsSmallFinding finding
      finding_small number finding at =
          let own = evidence is_round number finding at in
          let numbered = own.2.number_is in
          let few = hypotheses_few in
          let small : Has32Bits finding.number = omega (arith, numbered, few, slice_get_within round.findings number finding at) in
          let case = case_for graph log own.0 own.2.reach in
          let seen : IsWithin case.log = record { few = within.few; in_range = within.in_range } in
          record {
            number = small;
            members = members_few number finding at;
            steps = All-unmap (λ (judged : Judged). HasSmallStep judged.step) (λ (s : Step). record { seen = round.number; step = s }) finding.steps
                (All-back (λ (judged : Judged). HasSmallStep judged.step) (steps_so_far number rounds) (map (λ (s : Step). record { seen = round.number; step = s }) finding.steps)
                (subst (All (λ (judged : Judged). HasSmallStep judged.step)) (steps_so_far-push number rounds round round.number finding refl at)
                (evidence_small case valid seen terms.budget round.findings (steps_so_far number (rounds ++ round ∷ [])) finding finding.status own.2.evidence (few_steps number))));
            ranked = ranked_small finding own.0 own.2.reach (steps_so_far number (rounds ++ round ∷ [])) finding.status small (members_few number finding at) own.2.reach_is own.2.evidence;
          }

      all_small : All IsSmallFinding round.findings
      all_small = All-from_indexes IsSmallFinding round.findings finding_small

      order_small : All IsSmallFinding (ranked_in_order round)
      order_small =
          All-from_members IsSmallFinding (ranked_in_order round)
          (λ finding member. (
          let from = Contains-filter_map_only (finding_numbered round.findings) round.order finding member in
          All-contains IsSmallFinding round.findings finding all_small (find-passes (λ (f : Finding). eqb f.number from.0) round.findings finding from.2).0
          ))

      lines_small : (finding : Finding) → IsSmallFinding finding → length (lines_of_finding finding) ≤ 2 ^ 32 → AreSmall (lines_of_finding finding)
      lines_small finding is = by (eqb (length finding.steps) 0)
        where
          by : (none : Bool) → length (cond none [] (Hyp finding.number ∷ flat_map step_lines finding.steps)) ≤ 2 ^ 32 → AreSmall (cond none [] (Hyp finding.number ∷ flat_map step_lines finding.steps))
          by true few = All-nil HasSmallNumbers
          by false few =
              All-cons HasSmallNumbers (Hyp finding.number) (flat_map step_lines finding.steps) is.number (steps_small finding.steps is.steps (omega (arith, few)))

      -- The lines of a right round have small numbers.
      pub round_small : line ≤ MAX_LINE_NUMBER → length (round_lines round) ≤ 2 ^ 32 → AreSmall (round_lines round)
      round_small small_line few_lines =
          let steps : List ReportLine = flat_map lines_of_finding round.findings in
          let ranked : List ReportLine = flat_map (λ (finding : Finding). lines_if_ranked finding finding.status) (ranked_in_order round) in
          let opened : List ReportLine = map open_line (open_in round) in
          let rejected : List ReportLine = map rejected_line (newly_rejected round) in
          let events = within.few in
          let numbered = is_round.number in
          let line_is = is_round.line_is in
          let now_is = is_round.now_is in
          let few : length steps ≤ 2 ^ 32 = omega (arith, few_lines, findings_fewer round) in
          All-cons HasSmallNumbers (round_line round) (middle round ++ Counts round.counts ∷ [])
          (omega (arith, numbered, events), omega (arith, line_is, small_line), omega (arith, now_is, now_within log within))
          (All-append HasSmallNumbers (steps ++ ranked ++ opened ++ rejected) (Counts round.counts ∷ [])
          (All-append HasSmallNumbers (steps ++ ranked ++ opened) rejected
          (All-append HasSmallNumbers (steps ++ ranked) opened
          (All-append HasSmallNumbers steps ranked
          (All-flat_map HasSmallNumbers lines_of_finding round.findings
          (λ k d is_in. lines_small (get_or round.findings k d) (all_small k d is_in) (omega (arith, few, length-flat_map-take lines_of_finding round.findings k d is_in))))
          (All-flat_map HasSmallNumbers (λ (finding : Finding). lines_if_ranked finding finding.status) (ranked_in_order round) (λ k d is_in. (order_small k d is_in).ranked)))
          (All-map HasSmallNumbers open_line (open_in round)
          (λ k d is_in. (
          let is = All-filter (λ (f : Finding). is_open f.status) IsSmallFinding round.findings all_small k d is_in in
          (is.number, is.members)
          ))))
          (All-map HasSmallNumbers rejected_line (newly_rejected round)
          (λ k d is_in. (
          let is = All-filter is_rejected_now IsSmallFinding round.findings all_small k d is_in in
          (is.number, is.members)
          ))))
          (All-cons HasSmallNumbers (Counts round.counts) [] counts_small (All-nil HasSmallNumbers)))
