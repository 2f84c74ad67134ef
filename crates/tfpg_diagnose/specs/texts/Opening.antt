-- Opening a diagnosis of the graph that a text spells.
use Rattle.std.specs.Prelude.{◌<◌, ◌≤◌, ℕ, List}
use Rattle.tfpg_base.specs.declared.terms.Terms.{Terms}
use Rattle.tfpg_base.specs.Terms.{AreReportTerms}
use Rattle.tfpg_graph.specs.Graph.{Tfpg}
use Rattle.tfpg_graph.specs.Text.{Spells}
use Rattle.tfpg_graph.specs.Valid.{IsValid}
use Rattle.tfpg_graph.specs.Faults.{IsFirstFault}
use Rattle.tfpg_hyp.specs.Hypotheses.{HasHypotheses}
use Rattle.tfpg_hyp.specs.declared.limits.TheConstants.{MAX_HYPOTHESES}
use Rattle.tfpg_diagnose.specs.declared.texts.fault.OpenFault.{OpenFault}
use Rattle.tfpg_diagnose.specs.declared.texts.fault.OpenFault.TheVariants.{OutOfRange, Graph, TooManyHypotheses, NoMemory}

-- The text spells this graph, which is valid.
pub record GivesGraphOf (text : List ℕ) (graph : Tfpg) : Type 0 where
  pub spells : Spells text graph
  pub valid : IsValid graph

-- The text spells a valid graph that has more than 4,096 hypotheses on these terms, exactly this many.
pub record GivesTooMany (text : List ℕ) (terms : Terms) (count : ℕ) : Type 0 where
  pub graph : Tfpg
  pub gives : GivesGraphOf text graph
  pub too_many : MAX_HYPOTHESES < count
  pub counted : HasHypotheses graph terms count

-- Why there is no diagnosis of the graph of a text on these terms, the first of these that holds: a number of the terms is out of its
-- range; or this is the first fault of the text; or the graph has too many hypotheses. Or memory ran out.
abbrev pub IsOpenFault : List ℕ → Terms → OpenFault → Type 0
IsOpenFault text terms OutOfRange = AreReportTerms terms → ⊥
IsOpenFault text terms (Graph fault) = AreReportTerms terms × IsFirstFault text fault
IsOpenFault text terms (TooManyHypotheses count) = AreReportTerms terms × GivesTooMany text terms count
IsOpenFault text terms NoMemory = Unit {0}

-- Nothing but memory stands in the way of a diagnosis of the graph of this text on these terms.
pub record CanOpen (text : List ℕ) (terms : Terms) : Type 0 where
  pub within : AreReportTerms terms
  pub graph : Tfpg
  pub gives : GivesGraphOf text graph
  pub few : (count : ℕ) → HasHypotheses graph terms count → count ≤ MAX_HYPOTHESES
