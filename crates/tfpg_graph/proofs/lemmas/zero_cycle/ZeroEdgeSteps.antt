-- The steps along edges that may take no time, edge by edge, and walks along them.
use Rattle.std.proofs.Common.{◌≡◌, ℕ, zero, suc, ◌+◌, ◌<◌, ◌⊎◌, inl, inr, ⊎_elim, Bool, true, false, List, [], ◌∷◌, ◌++◌, length, get_or, take, Option, refl, sym, ap, ◌∙◌, subst, arith}
use Rattle.std.proofs.lemmas.List.{take_more}
use Rattle.std.proofs.lemmas.List.Elements.{Contains-append_left, Contains-push, Contains-push_cases}
use Rattle.tfpg_graph.specs.declared.edge.Edge.{Edge}
use Rattle.tfpg_graph.specs.Graph.{Tfpg}
use Rattle.tfpg_graph.specs.Valid.{WalksInNoTime}
use Rattle.tfpg_graph.specs.inside.zero_cycle.ZeroSearch.{IsStep, with_step, AreReversed, WalksUnmarked, AreGroups}
use Rattle.tfpg_graph.specs.inside.zero_cycle.ZeroEdges.{step_begin, step_end, IsZeroStep, AreZeroSteps, AddsZeroStep, AreZeroGroups}
use Rattle.tfpg_graph.proofs.lemmas.zero_cycle.StepRows.{IsStep-new, IsStep-old, IsStep-cases, length-with_step}

-- one of the edges is one of these and one more
IsZeroStep-more : (edges : List Edge) (edge : Edge) (reversed : Bool) (from to : ℕ) → IsZeroStep edges reversed from to
    → IsZeroStep (edges ++ edge ∷ []) reversed from to
IsZeroStep-more edges edge reversed from to step = record {
  edge = step.edge;
  among = Contains-append_left edges (edge ∷ []) step.edge step.among;
  no_time = step.no_time;
  begins = step.begins;
  ends = step.ends;
}

-- a step along one more edge is an old one, or along that edge
IsZeroStep-cases : (edges : List Edge) (edge : Edge) (reversed : Bool) (from to : ℕ)
    → IsZeroStep (edges ++ edge ∷ []) reversed from to
    → IsZeroStep edges reversed from to ⊎ ((edge.tmin ≡ 0) × (step_begin reversed edge ≡ from) × (step_end reversed edge ≡ to))
IsZeroStep-cases edges edge reversed from to step = ⊎_elim
    (λ old. inl (record {
      edge = step.edge;
      among = old;
      no_time = step.no_time;
      begins = step.begins;
      ends =
          step.ends;
    }))
    (λ same. inr (
      ap (λ (e : Edge). e.tmin) same ∙ step.no_time,
      ap (λ (e : Edge). step_begin reversed e) same ∙ step.begins,
      ap (λ (e : Edge). step_end reversed e) same ∙ step.ends,
    ))
    (Contains-push_cases edges edge step.edge step.among)

-- an edge that takes time adds no step
pub AddsZeroStep-passed : (reversed : Bool) (edge : Edge) (rows : List (List ℕ)) → 0 < edge.tmin
    → AddsZeroStep reversed edge rows rows
AddsZeroStep-passed reversed edge rows takes = λ edges are. record {
  row_count = are.row_count;
  along = λ from to leads. IsZeroStep-more edges edge reversed from to (are.along from to leads);
  all = λ from to step. ⊎_elim (are.all from to) (λ new. absurd (omega (arith, new.0, takes)))
      (IsZeroStep-cases edges edge reversed from to step);
}

-- an edge that may take no time adds one
pub AddsZeroStep-along : (reversed : Bool) (edge : Edge) (rows : List (List ℕ)) → edge.tmin ≡ 0
    → step_begin reversed edge < length rows
    → AddsZeroStep reversed edge rows (with_step rows (step_begin reversed edge) (step_end reversed edge))
AddsZeroStep-along reversed edge rows no_time within = λ edges are. record {
  row_count = length-with_step rows (step_begin reversed edge) (step_end reversed edge) within;
  along = λ from to leads. ⊎_elim
      (λ old. IsZeroStep-more edges edge reversed from to (are.along from to old))
      (λ new. record { edge = edge; among = Contains-push edges edge; no_time = no_time; begins = new.0; ends = new.1 })
      (IsStep-cases rows (step_begin reversed edge) (step_end reversed edge) within from to leads);
  all = λ from to step. ⊎_elim
      (λ old. IsStep-old rows (step_begin reversed edge) (step_end reversed edge) within from to (are.all from to old))
      (λ new. subst (λ (node : ℕ). IsStep (with_step rows (step_begin reversed edge) (step_end reversed edge)) node to) new.1
      (subst (λ (node : ℕ). IsStep (with_step rows (step_begin reversed edge) (step_end reversed edge))
      (step_begin reversed edge) node) new.2
      (IsStep-new rows (step_begin reversed edge) (step_end reversed edge) within)))
      (IsZeroStep-cases edges edge reversed from to step);
}

-- one edge further
pub AreZeroSteps-next : (count : ℕ) (edges : List Edge) (reversed : Bool) (rows more : List (List ℕ)) (number : ℕ)
    (edge : Edge) → number < length edges → get_or edges number edge ≡ edge
    → AreZeroSteps count (take number edges) reversed rows → AddsZeroStep reversed edge rows more
    → AreZeroSteps count (take (number + 1) edges) reversed more
AreZeroSteps-next count edges reversed rows more number edge within at are adds =
    let as_many : AreZeroSteps (length rows) (take number edges) reversed rows =
    subst (λ (n : ℕ). AreZeroSteps n (take number edges) reversed rows) (sym are.row_count) are in
    let added : AreZeroSteps count (take number edges ++ edge ∷ []) reversed more =
    subst (λ (n : ℕ). AreZeroSteps n (take number edges ++ edge ∷ []) reversed more) are.row_count
    (adds (take number edges) as_many) in
    subst (λ (es : List Edge). AreZeroSteps count es reversed more)
    (sym (take_more edges number edge within ∙ ap (λ (e : Edge). take number edges ++ e ∷ []) at)) added

-- reversed round, the steps are the others
turn_step : (edges : List Edge) (from to : ℕ) → IsZeroStep edges false from to → IsZeroStep edges true to from
turn_step edges from to step =
    record { edge = step.edge; among = step.among; no_time = step.no_time; begins = step.ends; ends = step.begins }

turn_back : (edges : List Edge) (from to : ℕ) → IsZeroStep edges true from to → IsZeroStep edges false to from
turn_back edges from to step =
    record { edge = step.edge; among = step.among; no_time = step.no_time; begins = step.ends; ends = step.begins }

pub AreReversed-edges : (count : ℕ) (edges : List Edge) (rows reversed : List (List ℕ))
    → AreZeroSteps count edges false rows → AreZeroSteps count edges true reversed → AreReversed rows reversed
AreReversed-edges count edges rows reversed ahead after = record {
  count = after.row_count ∙ sym ahead.row_count;
  there = λ from to leads. after.all to from (turn_step edges from to (ahead.along from to leads));
  back = λ from to leads. ahead.all to from (turn_back edges from to (after.along from to leads));
}

-- a walk along steps is one along edges
walk_in_no_time : (graph : Tfpg) (count : ℕ) (rows : List (List ℕ)) → AreZeroSteps count graph.edges false rows
    → (steps from to : ℕ)
    → WalksUnmarked rows [] from to steps → WalksInNoTime graph from to steps
walk_in_no_time graph count rows are zero from to walk = walk
walk_in_no_time graph count rows are (suc steps) from to walk =
    let step = are.along from walk.0 walk.1 in (
      step.edge,
      step.among,
      step.begins,
      step.no_time,
      subst (λ (node : ℕ). WalksInNoTime graph node to steps) (sym step.ends)
          (walk_in_no_time graph count rows are steps walk.0 to walk.3),
    )

-- groups by the steps are groups by the edges
pub AreZeroGroups-steps : (graph : Tfpg) (rows : List (List ℕ)) (marks : List (Option ℕ))
    → AreZeroSteps (length graph.nodes) graph.edges false rows → AreGroups rows marks
    → AreZeroGroups graph marks
AreZeroGroups-steps graph rows marks are groups = record {
  count = groups.count ∙ are.row_count;
  all = λ node within. groups.all node (omega (arith, within, are.row_count));
  rises = λ edge mark has no_time at. groups.rises edge.source edge.target mark at
      (are.all edge.source edge.target
      (record { edge = edge; among = has; no_time = no_time; begins = refl; ends = refl }));
  joined = λ from to mark here there.
      let walk = groups.joined from to mark here there in
      (walk.0, walk_in_no_time graph (length graph.nodes) rows are walk.0 from to walk.1);
}
