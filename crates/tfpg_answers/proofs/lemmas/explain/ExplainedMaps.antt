-- The verdict on a map.
use Rattle.std.proofs.Common.{◌≡◌, ℕ, List, All, IsTrue, sym, subst}
use Rattle.tfpg_graph.specs.Graph.{Tfpg, is_monitored}
use Rattle.tfpg_log.specs.Log.{Logbook, IsLogOf, ignoring}
use Rattle.tfpg_trace.specs.declared.verdict.Verdict.{Verdict}
use Rattle.tfpg_trace.specs.FirstFault.{IsVerdict}
use Rattle.tfpg_map.specs.declared.map.Map.{Map}
use Rattle.tfpg_answers.specs.Verdicts.{HasVerdict, verdict_text}

-- its text
pub has_verdict : (graph : Tfpg) (log : Logbook) (map : Map) (v : Verdict) → IsVerdict graph (ignoring log map.hypothesis.doubts) map.hypothesis.set map.trace v
    → (text : List ℕ) → text ≡ verdict_text graph v → HasVerdict graph log map text
has_verdict graph log map v right text is = record { verdict = v; right = right; text_is = is }

-- the log that ignores the monitors of a map is of its graph
pub ignoring_of : (graph : Tfpg) (log now : Logbook) (doubts : List ℕ) → IsLogOf graph log → All (λ node. IsTrue (is_monitored graph node)) doubts → now ≡ ignoring log doubts → IsLogOf graph now
ignoring_of graph log now doubts of monitored is = subst (IsLogOf graph) (sym is) (record { own = of.own; ignored = monitored })
