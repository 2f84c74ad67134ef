-- The lines of a report name only what its graph has.
use Rattle.std.proofs.Common.{◌≡◌, ℕ, ◌+◌, cond, eqb, Bool, true, false, ◌<◌, List, [], ◌∷◌, ◌++◌, length, get_or, map, take, All, Some, slice_get, sym, subst}
use Rattle.std.specs.Prelude.{flat_map}
use Rattle.std.proofs.lemmas.List.Elements.{All-nil, All-cons, All-append, All-contains, All-filter, All-map}
use Rattle.tfpg_base.specs.declared.terms.Terms.{Terms}
use Rattle.tfpg_base.proofs.lemmas.lists.Elements.{All-from_indexes, All-from_members, Contains-at}
use Rattle.tfpg_base.proofs.lemmas.lists.FirstFound.{find-passes}
use Rattle.tfpg_base.proofs.lemmas.lists.Passing.{Contains-filter_map_only}
use Rattle.tfpg_graph.specs.Graph.{Tfpg, sizes_of}
use Rattle.tfpg_log.specs.Log.{IsLogOf, Logbook}
use Rattle.tfpg_log.specs.LogOfLines.{log_of_lines}
use Rattle.tfpg_log.proofs.lemmas.logs_of_lines.LogsOfLines.{of-log_of_lines}
use Rattle.tfpg_evidence.specs.declared.finding.Finding.{Finding}
use Rattle.tfpg_evidence.specs.declared.finding.Status.{Status}
use Rattle.tfpg_evidence.specs.declared.finding.Status.TheVariants as status
use Rattle.tfpg_evidence.specs.declared.round.Round.{Round as RoundOf}
use Rattle.tfpg_evidence.specs.declared.step.Step.{Step}
use Rattle.tfpg_evidence.specs.declared.step.Step.TheVariants as step
use Rattle.tfpg_evidence.specs.RoundOf.{IsClauseOf, IsFindingOf, IsReasonOf, IsStatusOf, IsStepOf, finding_numbered, is_open}
use Rattle.tfpg_evidence.specs.Findings.{hypothesis_of, is_rejected_now, newly_rejected, open_in, ranked_in_order}
use Rattle.tfpg_hyp.specs.Rounds.{IsRound}
use Rattle.tfpg_hyp.proofs.lemmas.FindingsOfRound.{evidence}
use Rattle.tfpg_report.specs.declared.report_line.ReportLine.{ReportLine}
use Rattle.tfpg_report.specs.declared.report_line.ReportLine.TheVariants.{Head, OldHead, Refused, Round, Hyp, Split, Cycle, Why, Again, Ranked, At, Open, Rejected, Counts, Panel}
use Rattle.tfpg_report.specs.SetText.{IsHypothesisOf}
use Rattle.tfpg_report.specs.Blocks.{Block, RefusedBlock, RoundBlock, block_lines, lines_of_finding, lines_if_ranked, round_lines}
use Rattle.tfpg_report.specs.inside.LineNames.{loss_line, open_line, rejected_line}
use Rattle.tfpg_report.specs.ReadRounds.{step_lines}
use Rattle.tfpg_check.specs.Report.{AreBlocks}
use Rattle.tfpg_check.proofs.lemmas.EqualSayings.{RoundsAreOfTheirGraph}
use Rattle.tfpg_check.proofs.lemmas.RoundsOfReports.{round_there}
use Rattle.tfpg_check.proofs.lemmas.completeness.LinesOfBlocks.{round_line, middle}
use Rattle.tfpg_check.proofs.lemmas.completeness.MappedLists.{All-flat_map}

-- The line names only what the graph has.
abbrev pub NamesOfGraph : Tfpg → ReportLine → Type 0
NamesOfGraph graph (Head terms) = Unit {0}
NamesOfGraph graph (OldHead k budget) = Unit {0}
NamesOfGraph graph (Refused line cause) = Unit {0}
NamesOfGraph graph (Round number line now) = Unit {0}
NamesOfGraph graph (Hyp number) = Unit {0}
NamesOfGraph graph (Split name) = IsClauseOf (sizes_of graph) name
NamesOfGraph graph (Cycle count) = Unit {0}
NamesOfGraph graph (Why reason) = IsReasonOf (sizes_of graph) reason
NamesOfGraph graph Again = Unit {0}
NamesOfGraph graph (Ranked number cost alarmed monitored hypothesis) = IsHypothesisOf graph hypothesis
NamesOfGraph graph (At activation) = activation.node < length graph.nodes
NamesOfGraph graph (Open number hypothesis) = IsHypothesisOf graph hypothesis
NamesOfGraph graph (Rejected number hypothesis) = IsHypothesisOf graph hypothesis
NamesOfGraph graph (Counts counts) = Unit {0}
NamesOfGraph graph (Panel panel memory) = Unit {0}

module _ (of_graph : RoundsAreOfTheirGraph) (graph : Tfpg) where
  abbrev AreNamed : List ReportLine → Type 0
  AreNamed lines = All (NamesOfGraph graph) lines

  -- ---- a finding

  -- The finding names only what the graph has, and its hypothesis is one of the graph.
  record IsNamed (finding : Finding) : Type 0 where
    of : IsFindingOf (sizes_of graph) finding
    hypothesis : IsHypothesisOf graph (hypothesis_of finding)

  step_named : (s : Step) → IsStepOf (sizes_of graph) s → AreNamed (step_lines s)
  step_named (step.Split name) is = All-cons (NamesOfGraph graph) (Split name) [] is (All-nil (NamesOfGraph graph))
  step_named (step.Cycle reasons) is =
      All-cons (NamesOfGraph graph) (Cycle (length reasons)) (map Why reasons) tt (All-map (NamesOfGraph graph) Why reasons is)
  step_named step.Again is = All-cons (NamesOfGraph graph) Again [] tt (All-nil (NamesOfGraph graph))

  steps_named : (steps : List Step) → All (IsStepOf (sizes_of graph)) steps → AreNamed (flat_map step_lines steps)
  steps_named steps each = All-flat_map (NamesOfGraph graph) step_lines steps (λ k d within. step_named (get_or steps k d) (each k d within))

  finding_named : (finding : Finding) → IsNamed finding → AreNamed (lines_of_finding finding)
  finding_named finding is = by (eqb (length finding.steps) 0)
    where
      by : (none : Bool) → AreNamed (cond none [] (Hyp finding.number ∷ flat_map step_lines finding.steps))
      by true = All-nil (NamesOfGraph graph)
      by false = All-cons (NamesOfGraph graph) (Hyp finding.number) (flat_map step_lines finding.steps) tt (steps_named finding.steps is.of.steps)

  ranked_named : (finding : Finding) (s : Status) → IsNamed finding → IsStatusOf (sizes_of graph) s → AreNamed (lines_if_ranked finding s)
  ranked_named finding (status.Ranked trace cost alarmed monitored) is of =
      All-cons (NamesOfGraph graph) (Ranked finding.number cost alarmed monitored (hypothesis_of finding)) (map At trace) is.hypothesis (All-map (NamesOfGraph graph) At trace of)
  ranked_named finding (status.Covered by) is of = All-nil (NamesOfGraph graph)
  ranked_named finding status.Rejected is of = All-nil (NamesOfGraph graph)
  ranked_named finding status.Open is of = All-nil (NamesOfGraph graph)

  -- ---- a round

  module _ (terms : Terms) (line : ℕ) (rounds : List RoundOf) (log : Logbook) (round : RoundOf) (of : IsLogOf graph log) (is_round : IsRound graph terms rounds log line round) where
    named_hypothesis : (number : ℕ) (finding : Finding) → slice_get round.findings number ≡ Some finding → IsHypothesisOf graph (hypothesis_of finding)
    named_hypothesis number finding at =
        let own = evidence is_round number finding at in
        let is = (is_round.table.exact own.0).0 (Contains-at is_round.hypotheses number own.0 own.1) in
        subst (IsHypothesisOf graph) (sym own.2.hypothesis_is) (record { set = is.of_graph; rising = is.doubts_of_graph.rising; monitored = is.doubts_of_graph.monitored })

    all_named : All IsNamed round.findings
    all_named =
        All-from_indexes IsNamed round.findings
        (λ number finding at. record {
          of = All-contains (IsFindingOf (sizes_of graph)) round.findings finding (of_graph graph terms line rounds log round of is_round).findings (Contains-at round.findings number finding at);
          hypothesis = named_hypothesis number finding at;
        })

    order_named : All IsNamed (ranked_in_order round)
    order_named =
        All-from_members IsNamed (ranked_in_order round)
        (λ finding member. (
        let from = Contains-filter_map_only (finding_numbered round.findings) round.order finding member in
        All-contains IsNamed round.findings finding all_named (find-passes (λ (f : Finding). eqb f.number from.0) round.findings finding from.2).0
        ))

    -- the lines of a round name only what the graph has
    pub round_named : AreNamed (round_lines round)
    round_named =
        let steps : List ReportLine = flat_map lines_of_finding round.findings in
        let ranked : List ReportLine = flat_map (λ (finding : Finding). lines_if_ranked finding finding.status) (ranked_in_order round) in
        let opened : List ReportLine = map open_line (open_in round) in
        let rejected : List ReportLine = map rejected_line (newly_rejected round) in
        All-cons (NamesOfGraph graph) (round_line round) (middle round ++ Counts round.counts ∷ []) tt
        (All-append (NamesOfGraph graph) (steps ++ ranked ++ opened ++ rejected) (Counts round.counts ∷ [])
        (All-append (NamesOfGraph graph) (steps ++ ranked ++ opened) rejected
        (All-append (NamesOfGraph graph) (steps ++ ranked) opened
        (All-append (NamesOfGraph graph) steps ranked
        (All-flat_map (NamesOfGraph graph) lines_of_finding round.findings (λ k d within. finding_named (get_or round.findings k d) (all_named k d within)))
        (All-flat_map (NamesOfGraph graph) (λ (finding : Finding). lines_if_ranked finding finding.status) (ranked_in_order round)
        (λ k d within. ranked_named (get_or (ranked_in_order round) k d) (get_or (ranked_in_order round) k d).status (order_named k d within) (order_named k d within).of.status)))
        (All-map (NamesOfGraph graph) open_line (open_in round)
        (λ k d within. (All-filter (λ (f : Finding). is_open f.status) IsNamed round.findings all_named k d within).hypothesis)))
        (All-map (NamesOfGraph graph) rejected_line (newly_rejected round) (λ k d within. (All-filter is_rejected_now IsNamed round.findings all_named k d within).hypothesis)))
        (All-cons (NamesOfGraph graph) (Counts round.counts) [] tt (All-nil (NamesOfGraph graph))))

  -- ---- a report

  module _ (terms : Terms) (lines : List (List ℕ)) (blocks : List Block) (are : AreBlocks graph terms lines blocks) where
    block_named : (index : ℕ) (block : Block) → slice_get blocks index ≡ Some block → AreNamed (block_lines block)
    block_named index (RefusedBlock number cause) at = All-cons (NamesOfGraph graph) (Refused number cause) [] tt (All-nil (NamesOfGraph graph))
    block_named index (RoundBlock round losses) at =
        All-append (NamesOfGraph graph) (round_lines round) (map loss_line losses)
        (round_named terms (index + 1) _ (log_of_lines graph (take (index + 1) lines)) round (of-log_of_lines graph (take (index + 1) lines))
        (round_there graph terms lines blocks are index round losses at))
        (All-map (NamesOfGraph graph) loss_line losses (λ k d within. tt))

    -- The lines of right blocks name only what the graph has.
    pub blocks_named : All (NamesOfGraph graph) (flat_map block_lines blocks)
    blocks_named = All-flat_map (NamesOfGraph graph) block_lines blocks (All-from_indexes (λ (block : Block). AreNamed (block_lines block)) blocks block_named)
