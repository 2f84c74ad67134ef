-- What is said of a node that breaks a rule.
use Rattle.std.specs.Prelude.{◌≡◌, ℕ, ◌<◌, List, length, ◌⊎◌}
use Rattle.tfpg_base.specs.declared.activation.Activation.{Activation}
use Rattle.tfpg_graph.specs.Graph.{Tfpg}
use Rattle.tfpg_log.specs.Log.{Logbook}
use Rattle.tfpg_log.specs.Rules.{KeepsRulesOf}
use Rattle.tfpg_trace.specs.Broken.{BreaksMay, FirstBreaksMust}
use Rattle.tfpg_trace.specs.declared.verdict.Verdict.{Verdict}
use Rattle.tfpg_trace.specs.declared.verdict.Verdict.TheVariants as verdict

-- No node before this one breaks a rule.
abbrev pub KeepRulesBefore : Tfpg → Logbook → List Activation → ℕ → Type 0
KeepRulesBefore graph log trace end = (node : ℕ) → node < end → KeepsRulesOf graph log trace node

-- It is said that the node breaks the may rule at this time, and so it does.
pub record IsMayBroken (graph : Tfpg) (log : Logbook) (trace : List Activation) (node : ℕ)
    (said : Verdict) : Type 0 where
  pub time : ℕ
  pub is : said ≡ verdict.May node time
  pub breaks : BreaksMay graph log trace node time

-- It is said that the node breaks the must rule at this time: it does so first then, and keeps the may rule.
pub record IsMustBroken (graph : Tfpg) (log : Logbook) (trace : List Activation) (node : ℕ)
    (said : Verdict) : Type 0 where
  pub time : ℕ
  pub is : said ≡ verdict.Must node time
  pub may : (instant : ℕ) → BreaksMay graph log trace node instant → ⊥
  pub breaks : FirstBreaksMust graph log trace node time

-- This is said of the node, which breaks a rule.
abbrev pub IsBroken : Tfpg → Logbook → List Activation → ℕ → Verdict → Type 0
IsBroken graph log trace node said = IsMayBroken graph log trace node said ⊎ IsMustBroken graph log trace node said

-- This is said of the first node that breaks a rule.
pub record IsFirstNodeBroken (graph : Tfpg) (log : Logbook) (trace : List Activation) (said : Verdict) : Type 0 where
  pub node : ℕ
  pub in_graph : node < length graph.nodes
  pub before : KeepRulesBefore graph log trace node
  pub broken : IsBroken graph log trace node said
