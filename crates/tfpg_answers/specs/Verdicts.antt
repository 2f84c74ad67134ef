-- The verdict on a map, and its text.
use Rattle.std.specs.Prelude.{◌≡◌, ℕ, List, [], ◌∷◌, codes, decimal}
use Rattle.tfpg_base.specs.TextLine.{text_line}
use Rattle.tfpg_graph.specs.Graph.{Tfpg, name_word}
use Rattle.tfpg_log.specs.Log.{Logbook, ignoring}
use Rattle.tfpg_trace.specs.FirstFault.{IsVerdict}
use Rattle.tfpg_trace.specs.declared.verdict.Verdict.{Verdict}
use Rattle.tfpg_trace.specs.declared.verdict.Verdict.TheVariants.{Yes, Late, Stranger, May, Must, Alarm, Silence}
use Rattle.tfpg_map.specs.declared.map.Map.{Map}

-- the line that names a rule, and the node and the time at which it is broken
abbrev pub no_text : Tfpg → List ℕ → ℕ → ℕ → List ℕ
no_text graph rule node time = text_line (codes "no" ∷ rule ∷ name_word graph node ∷ decimal time ∷ [])

-- the line of a verdict
abbrev pub verdict_text : Tfpg → Verdict → List ℕ
verdict_text graph Yes = text_line (codes "yes" ∷ [])
verdict_text graph (Late node time) = no_text graph (codes "late") node time
verdict_text graph (Stranger node time) = no_text graph (codes "stranger") node time
verdict_text graph (May node time) = no_text graph (codes "may") node time
verdict_text graph (Must node time) = no_text graph (codes "must") node time
verdict_text graph (Alarm node time) = no_text graph (codes "alarm") node time
verdict_text graph (Silence node time) = no_text graph (codes "silence") node time

-- The text is the verdict on the map, by the log that ignores the monitors of the map's set.
pub record HasVerdict (graph : Tfpg) (log : Logbook) (map : Map) (text : List ℕ) : Type 0 where
  pub verdict : Verdict
  pub right : IsVerdict graph (ignoring log map.hypothesis.doubts) map.hypothesis.set map.trace verdict
  pub text_is : text ≡ verdict_text graph verdict
