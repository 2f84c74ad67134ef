-- Each lag of a generated graph begins at 0, so its canonical text is of version 1.
use Rattle.std.proofs.Common.{◌≡◌, ℕ, zero, suc, ◌+◌, ◌*◌, true, eqb, List, [], ◌∷◌, ◌++◌, Option, Some, None, refl, ◌∙◌}
use Rattle.std.specs.Prelude.{◌&&◌, ◌==◌}
use Rattle.std.specs.Option.{option_map_or}
use Rattle.std.specs.List.{list_all}
use Rattle.std.proofs.lemmas.Bool.{cond_both, cond-true, and_from, and_parts}
use Rattle.std.proofs.lemmas.List.Folds.{list_all-append}
use Rattle.tfpg_graph.specs.declared.kind.Kind.{Kind}
use Rattle.tfpg_graph.specs.declared.kind.Kind.TheVariants.{Or, And}
use Rattle.tfpg_graph.specs.declared.kind.Lag.{Lag}
use Rattle.tfpg_graph.specs.declared.version.Version.TheVariants.{One, Two}
use Rattle.tfpg_graph.specs.Graph.{Node, has_zero_least, lag_up_to}
use Rattle.tfpg_graph.specs.Text.{version_for}
use Rattle.rand_pcg.specs.Lcg.{Lcg}
use Rattle.tfpg_sim.specs.Draws.{generator}
use Rattle.tfpg_sim.specs.Generated.{draw, failure_kinds, has_two, lag_drawn, kind_drawn, draft_after, named_nodes, draft_of, generated_graph}
use Rattle.tfpg_sim.specs.declared.limits.TheConstants.{FAILURE_COUNT, GRAPH_STREAM}

-- the kinds of one list and then of another
both_zero : (kinds more : List Kind) → list_all has_zero_least kinds ≡ true → list_all has_zero_least more ≡ true → list_all has_zero_least (kinds ++ more) ≡ true
both_zero kinds more first second = list_all-append has_zero_least kinds more ∙ and_from (list_all has_zero_least kinds) (list_all has_zero_least more) first second

failures_zero : (count : ℕ) → list_all has_zero_least (failure_kinds count) ≡ true
failures_zero zero = refl
failures_zero (suc index) = both_zero (failure_kinds index) _ (failures_zero index) refl

drawn_zero : (node : ℕ) (state : Lcg) → has_zero_least (kind_drawn node state) ≡ true
drawn_zero node state =
    cond_both (has_two node state && draw 8 2 state == 0) (And (lag_drawn state)) (Or (lag_drawn state)) (λ kind. has_zero_least kind ≡ true) (λ _. zero_lag) (λ _. zero_lag)
  where
    zero_lag : option_map_or (λ (lag : Lag). eqb lag.least 0) (lag_drawn state) true ≡ true
    zero_lag = cond_both (eqb (draw 4 3 state) 0) None (Some (lag_up_to (draw 20 4 state))) (λ (o : Option Lag). option_map_or (λ (lag : Lag). eqb lag.least 0) o true ≡ true) (λ _. refl) (λ _. refl)

draft_zero : (state : Lcg) (index : ℕ) → list_all has_zero_least (draft_after state index).kinds ≡ true
draft_zero state zero = refl
draft_zero state (suc index) = both_zero (draft_after state index).kinds _ (draft_zero state index)
    (and_from (has_zero_least (kind_drawn (FAILURE_COUNT + index) (draft_after state index).state)) true (drawn_zero (FAILURE_COUNT + index) (draft_after state index).state) refl)

named_zero : (number : ℕ) (kinds : List Kind) → list_all has_zero_least kinds ≡ true → list_all (λ (node : Node). has_zero_least node.kind) (named_nodes number kinds) ≡ true
named_zero number [] all = refl
named_zero number (kind ∷ kinds) all =
    let parts = and_parts (has_zero_least kind) (list_all has_zero_least kinds) all in
    and_from (has_zero_least kind) (list_all (λ (node : Node). has_zero_least node.kind) (named_nodes (number + 1) kinds)) parts.0 (named_zero (number + 1) kinds parts.1)

-- The canonical text of a generated graph is of version 1.
pub generated_version : (number size : ℕ) → version_for (generated_graph number size) ≡ One
generated_version number size =
    let kinds : List Kind = failure_kinds FAILURE_COUNT ++ (draft_of number size).kinds in
    cond-true (list_all (λ (node : Node). has_zero_least node.kind) (named_nodes 0 kinds)) One Two
    (named_zero 0 kinds (both_zero (failure_kinds FAILURE_COUNT) (draft_of number size).kinds (failures_zero FAILURE_COUNT) (draft_zero (generator number GRAPH_STREAM) (4 * size))))
