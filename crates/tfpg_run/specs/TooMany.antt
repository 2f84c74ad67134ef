-- Whether a graph has too many hypotheses, and how a command ends that needs them all.
use Rattle.std.specs.Prelude.{◌≡◌, ◌⊎◌, ℕ, ◌<◌, ◌≤◌, List}
use Rattle.tfpg_base.specs.declared.terms.Terms.{Terms}
use Rattle.tfpg_graph.specs.Graph.{Tfpg}
use Rattle.tfpg_hyp.specs.Hypotheses.{HasHypotheses}
use Rattle.tfpg_hyp.specs.declared.limits.TheConstants.{MAX_HYPOTHESES}
use Rattle.tfpg_run.specs.declared.end.End.{End}
use Rattle.tfpg_run.specs.declared.end.End.TheVariants as ends
use Rattle.tfpg_run.specs.EndsOf.{EndsBy, StopsBy, end_of_output_fault}
use Rattle.tfpg_streams.specs.Outputs.{TextEnds}
use Rattle.tfpg_run.specs.World.{World, watched_of}

-- The graph has at most 4,096 hypotheses on these terms.
abbrev pub HasFewHypotheses : Terms → Tfpg → Type 0
HasFewHypotheses terms graph = (count : ℕ) → HasHypotheses graph terms count → count ≤ MAX_HYPOTHESES

-- How work with the hypotheses of a graph on these terms ends: there are more than 4,096, exactly as many as the end says, and all but the
-- shelf is untouched; or there are not more, and the work ended so.
abbrev pub EndsUnlessTooMany : Tfpg → Terms → World → World → (End → Type 0) → End → Type 0
EndsUnlessTooMany graph terms before now Works end =
    StopsBy (λ count. HasHypotheses graph terms count × (MAX_HYPOTHESES < count)) ends.TooManyHypotheses
    (watched_of before) (watched_of now) end
    ⊎ (HasFewHypotheses terms graph × Works end)

-- So it ends where one text is written, which is to be right.
abbrev pub TextEndsUnlessTooMany : (List ℕ → Type 0) → Tfpg → Terms → World → World → End → Type 0
TextEndsUnlessTooMany IsRight graph terms before now =
    EndsUnlessTooMany graph terms before now (EndsBy (TextEnds IsRight before.output now.output) end_of_output_fault)
