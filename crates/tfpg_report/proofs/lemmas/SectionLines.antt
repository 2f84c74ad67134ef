-- What the sections of a block come to: the lines of the findings that they are about.
use Rattle.std.proofs.Common.{◌≡◌, ℕ, Bool, true, false, cond, eqb, List, [], ◌∷◌, ◌++◌, length, refl, ◌∙◌}
use Rattle.std.specs.Prelude.{filter, flat_map, not, ◌&&◌}
use Rattle.tfpg_graph.specs.Graph.{Tfpg}
use Rattle.tfpg_evidence.specs.declared.finding.Finding.{Finding}
use Rattle.tfpg_evidence.specs.declared.finding.Status.{Status}
use Rattle.tfpg_evidence.specs.declared.finding.Status.TheVariants as status
use Rattle.tfpg_evidence.specs.RoundOf.{is_open, is_rejected}
use Rattle.tfpg_evidence.specs.Findings.{is_rejected_now}
use Rattle.tfpg_report.specs.inside.Texts.{open_text, rejected_text}
use Rattle.tfpg_report.specs.inside.Sections.{text_where_open, text_where_rejected}

-- what the items give that pass a test is what all give, where those that fail give nothing
flat_map-filter : {X : Type 0} (p : X → Bool) (f g : X → List ℕ) → ((x : X) → g x ≡ cond (p x) (f x) []) → (xs : List X) → flat_map g xs ≡ flat_map f (filter p xs)
flat_map-filter p f g same [] = refl
flat_map-filter p f g same (x ∷ xs) =
    (λ i. same x i ++ flat_map-filter p f g same xs i)
    ∙ by (p x)
  where
    by : (passes : Bool) → cond passes (f x) [] ++ flat_map f (filter p xs) ≡ flat_map f (cond passes (x ∷ filter p xs) (filter p xs))
    by true = refl
    by false = refl

open_where : (graph : Tfpg) (finding : Finding) (s : Status) → text_where_open graph finding s ≡ cond (is_open s) (open_text graph finding) []
open_where graph finding (status.Ranked trace cost alarmed monitored) = refl
open_where graph finding (status.Covered by) = refl
open_where graph finding status.Rejected = refl
open_where graph finding status.Open = refl

-- the lines of the open ones
pub open_lines : (graph : Tfpg) (findings : List Finding)
    → flat_map (λ (finding : Finding). text_where_open graph finding finding.status) findings ≡ flat_map (open_text graph) (filter (λ (finding : Finding). is_open finding.status) findings)
open_lines graph findings =
    flat_map-filter (λ (finding : Finding). is_open finding.status) (open_text graph) (λ (finding : Finding). text_where_open graph finding finding.status)
    (λ finding. open_where graph finding finding.status) findings

rejected_where : (graph : Tfpg) (finding : Finding) (s : Status)
    → text_where_rejected graph finding s ≡ cond (is_rejected s && not (eqb (length finding.steps) 0)) (rejected_text graph finding) []
rejected_where graph finding (status.Ranked trace cost alarmed monitored) = refl
rejected_where graph finding (status.Covered by) = refl
rejected_where graph finding status.Rejected = by (eqb (length finding.steps) 0)
  where
    by : (none : Bool) → cond none [] (rejected_text graph finding) ≡ cond (not none) (rejected_text graph finding) []
    by true = refl
    by false = refl
rejected_where graph finding status.Open = refl

-- the lines of those that the round rejected
pub rejected_lines : (graph : Tfpg) (findings : List Finding)
    → flat_map (λ (finding : Finding). text_where_rejected graph finding finding.status) findings ≡ flat_map (rejected_text graph) (filter is_rejected_now findings)
rejected_lines graph findings =
    flat_map-filter is_rejected_now (rejected_text graph) (λ (finding : Finding). text_where_rejected graph finding finding.status)
    (λ finding. rejected_where graph finding finding.status) findings
