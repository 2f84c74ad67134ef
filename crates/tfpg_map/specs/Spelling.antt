-- The text of a map: a hypothesis, whose failure modes and ignored monitors make its set, and a trace. And which line of a
-- text is at fault.
use Rattle.std.specs.Prelude.{◌≡◌, ◌≢◌, ◌⊎◌, ℕ, ◌<◌, ◌≤◌, List, [], ◌∷◌, ◌++◌, length, map, All, AllPairs, codes}
use Rattle.tfpg_base.specs.declared.activation.Activation.{Activation}
use Rattle.tfpg_base.specs.declared.limits.TheConstants.{MAX_TIME, LONGEST_LINE}
use Rattle.tfpg_streams.specs.FaultyLine.{IsFaultyLine}
use Rattle.tfpg_base.specs.Trace.{IsRisingByNode, time_of}
use Rattle.tfpg_base.specs.Words.{line_of}
use Rattle.tfpg_base.specs.Hypothesis.{Hypothesis}
use Rattle.tfpg_graph.specs.Graph.{Tfpg}
use Rattle.tfpg_report.specs.declared.report_line.ReportLine.TheVariants.{At}
use Rattle.tfpg_report.specs.ReportLines.{written_line}
use Rattle.tfpg_report.specs.SetText.{IsHypothesisOf, set_word}

-- the line of the set of a hypothesis
abbrev pub set_line : Tfpg → Hypothesis → List ℕ
set_line graph hypothesis = line_of (codes "set" ∷ set_word graph hypothesis ∷ [])

-- an activation of a node of the graph, at a time that is not too large
pub record IsActivationOf (graph : Tfpg) (activation : Activation) : Type 0 where
  pub in_graph : activation.node < length graph.nodes
  pub in_range : activation.time ≤ MAX_TIME

-- The lines spell this hypothesis and this trace: the line of the set, and then the line of each activation, in any
-- order, each node once. No line is too long.
pub record SpellsMap (graph : Tfpg) (lines : List (List ℕ)) (hypothesis : Hypothesis) (trace : List Activation) : Type 0 where
  pub of_graph : IsHypothesisOf graph hypothesis
  pub listed : List Activation
  pub of_nodes : All (IsActivationOf graph) listed
  pub once : AllPairs (λ earlier later. earlier.node ≢ later.node) listed
  pub spelled : lines ≡ set_line graph hypothesis ∷ map (λ activation. written_line graph (At activation)) listed
  pub short : All (λ line. length line ≤ LONGEST_LINE) lines
  pub rising : IsRisingByNode trace
  pub same_times : (node : ℕ) → time_of trace node ≡ time_of listed node

-- The lines spell some map.
abbrev pub HasMap : Tfpg → List (List ℕ) → Type 0
HasMap graph lines = (hypothesis : Hypothesis) × (trace : List Activation) × SpellsMap graph lines hypothesis trace

-- Some map begins with these lines.
abbrev pub BeginsMap : Tfpg → List (List ℕ) → Type 0
BeginsMap graph lines = (more : List (List ℕ)) × HasMap graph (lines ++ more)

-- Where lines are no map: their first faulty line, or line 1 where there is no line.
abbrev pub IsMapFault : Tfpg → List (List ℕ) → ℕ → Type 0
IsMapFault graph lines number = IsFaultyLine (BeginsMap graph) lines number ⊎ ((lines ≡ []) × (number ≡ 1))
