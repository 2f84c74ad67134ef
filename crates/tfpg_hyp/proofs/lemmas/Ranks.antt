-- What the loops over failure modes and nodes have counted so far.
use Rattle.std.proofs.Common.{◌≡◌, ℕ, ◌+◌, ◌<◌, ◌≤◌, ◌&&◌, not, true, false, cond, eqb, ltb, List, [], ◌∷◌, ◌++◌, length, Option, Some, None, refl, arith, sym, ◌∙◌, ap, subst}
use Rattle.std.specs.List.{All, Contains, count_by, filter, slice_get, sum_by}
use Rattle.tfpg_base.specs.Set.{Rises, IsSet}
use Rattle.std.specs.Option.{option_map, option_and_then, is_some}
use Rattle.std.proofs.lemmas.Bool.{cond-true, cond-false, cond_both, ltb-false, ne_eqb, eq-eqb}
use Rattle.std.proofs.lemmas.List.Sums.{sum_by_push, length-filter}
use Rattle.std.proofs.lemmas.List.Elements.{All-contains}
use Rattle.std.proofs.lemmas.Option.{slice_get_past, same_Some}
use Rattle.tfpg_graph.specs.declared.kind.Kind.TheVariants.{Failure}
use Rattle.tfpg_graph.specs.declared.limits.TheConstants.{MAX_RARITY}
use Rattle.tfpg_graph.specs.Graph.{Tfpg, Node, kind_at, lag_of}
use Rattle.tfpg_graph.specs.Reach.{is_among}
use Rattle.tfpg_graph.specs.Valid.{IsValid, HasValidNumber}
use Rattle.tfpg_base.proofs.lemmas.lists.Elements.{All-at}
use Rattle.tfpg_log.specs.Log.{Logbook, alarm_of}
use Rattle.tfpg_hyp.specs.declared.place.Fraction.{Fraction}
use Rattle.tfpg_hyp.specs.Ranking.{rarity_at, is_believed, robustness_of, believed_in, alarmed_in}
use Rattle.tfpg_base.proofs.lemmas.lists.Filtered.{filter-push_yes, filter-push_no, count_by-push}
use Rattle.tfpg_base.proofs.lemmas.lists.Below.{below, below-zero, below-member, below-absent, below-all}

-- ---- failure modes

-- the rarity of a node is within the limit
pub rarity_small : (graph : Tfpg) (node rarity : ℕ) → IsValid graph → kind_at graph node ≡ Some (Failure rarity) → rarity ≤ MAX_RARITY
rarity_small graph node rarity valid is = by (slice_get graph.nodes node) refl is
  where
    by : (found : Option Node) → slice_get graph.nodes node ≡ found → option_map (λ n. n.kind) found ≡ Some (Failure rarity) → rarity ≤ MAX_RARITY
    by None at kind = cc
    by (Some found) at kind =
        subst HasValidNumber (same_Some found.kind (Failure rarity) kind) (All-at (λ n. HasValidNumber n.kind) graph.nodes node found valid.so_far.node_numbers at)

module _ (graph : Tfpg) (set : List ℕ) where
  -- nothing is summed at first
  pub cost-none : 0 ≡ sum_by (rarity_at graph) (below 0 set)
  cost-none = sym (ap (sum_by (rarity_at graph)) (below-zero set))

  -- a member adds its rarity
  pub cost-with : (position cost rarity : ℕ) → IsSet set → Contains set position → cost ≡ sum_by (rarity_at graph) (below position set) → rarity ≡ rarity_at graph position
      → cost + rarity ≡ sum_by (rarity_at graph) (below (position + 1) set)
  cost-with position cost rarity is_set member so_far worth =
      (λ i. so_far i + worth i) ∙ sym (ap (sum_by (rarity_at graph)) (below-member position set is_set.rising member) ∙ sum_by_push (rarity_at graph) (below position set) position)

  -- another position adds nothing
  pub cost-without : (position cost : ℕ) → (Contains set position → ⊥) → cost ≡ sum_by (rarity_at graph) (below position set) → cost ≡ sum_by (rarity_at graph) (below (position + 1) set)
  cost-without position cost absent so_far = so_far ∙ sym (ap (sum_by (rarity_at graph)) (below-absent position set absent))

  -- past the last member all are summed
  pub cost-all : (end cost : ℕ) → All (λ position. position < end) set → cost ≡ sum_by (rarity_at graph) (below end set) → cost ≡ sum_by (rarity_at graph) set
  cost-all end cost within so_far = so_far ∙ ap (sum_by (rarity_at graph)) (below-all end set (λ position member. All-contains (λ p. p < end) set position within member))

-- ---- nodes

-- These were counted among the nodes so far: those with a monitor outside the doubts, and those of them with an alarm.
pub record AreCounted (graph : Tfpg) (log : Logbook) (doubts nodes : List ℕ) (alarmed monitored : ℕ) : Type 0 where
  pub monitored_is : monitored ≡ believed_in graph nodes doubts
  pub alarmed_is : alarmed ≡ alarmed_in graph log nodes doubts

module _ (graph : Tfpg) (log : Logbook) (doubts : List ℕ) where
  -- nothing among no nodes
  pub AreCounted-none : (nodes : List ℕ) → nodes ≡ [] → AreCounted graph log doubts nodes 0 0
  AreCounted-none nodes none = record { monitored_is = sym (ap (λ ns. believed_in graph ns doubts) none); alarmed_is = sym (ap (λ ns. alarmed_in graph log ns doubts) none) }

  module _ (nodes : List ℕ) (node alarmed monitored : ℕ) (are : AreCounted graph log doubts nodes alarmed monitored) where
    -- a node that is not believed adds nothing
    pub AreCounted-hidden : is_believed graph doubts node ≡ false → AreCounted graph log doubts (nodes ++ node ∷ []) alarmed monitored
    AreCounted-hidden hidden = record {
      monitored_is = are.monitored_is ∙ omega (arith, count_by-push (is_believed graph doubts) nodes node, ap {B = ℕ} (λ b. cond b 1 0) hidden);
      alarmed_is = are.alarmed_is ∙ sym (ap (count_by (λ n. is_some (alarm_of log n))) (filter-push_no (is_believed graph doubts) nodes node hidden));
    }

    -- a believed node is counted, and its alarm
    counted_alarm : is_believed graph doubts node ≡ true → alarmed_in graph log (nodes ++ node ∷ []) doubts ≡ alarmed + (cond (is_some (alarm_of log node)) 1 0)
    counted_alarm shown =
        ap (count_by (λ n. is_some (alarm_of log n))) (filter-push_yes (is_believed graph doubts) nodes node shown)
        ∙ count_by-push (λ n. is_some (alarm_of log n)) (filter (is_believed graph doubts) nodes) node
        ∙ ap (λ n. n + cond (is_some (alarm_of log node)) 1 0) (sym are.alarmed_is)

    pub AreCounted-alarmed : is_believed graph doubts node ≡ true → is_some (alarm_of log node) ≡ true → AreCounted graph log doubts (nodes ++ node ∷ []) (alarmed + 1) (monitored + 1)
    AreCounted-alarmed shown alarm = record {
      monitored_is = omega (arith, are.monitored_is, count_by-push (is_believed graph doubts) nodes node, ap {B = ℕ} (λ b. cond b 1 0) shown);
      alarmed_is = sym (counted_alarm shown ∙ ap {B = ℕ} (λ b. alarmed + cond b 1 0) alarm);
    }

    pub AreCounted-silent : is_believed graph doubts node ≡ true → is_some (alarm_of log node) ≡ false → AreCounted graph log doubts (nodes ++ node ∷ []) alarmed (monitored + 1)
    AreCounted-silent shown silent = record {
      monitored_is = omega (arith, are.monitored_is, count_by-push (is_believed graph doubts) nodes node, ap {B = ℕ} (λ b. cond b 1 0) shown);
      alarmed_is = sym (counted_alarm shown ∙ ap {B = ℕ} (λ b. alarmed + cond b 1 0) silent ∙ omega arith);
    }

  -- past the last node there is no monitor
  hidden_past : (node : ℕ) → length graph.nodes ≤ node → is_believed graph doubts node ≡ false
  hidden_past node past = ap (λ found. is_some (option_and_then lag_of (option_map (λ n. n.kind) found)) && not (is_among doubts node)) (slice_get_past graph.nodes node past)

  -- so the believed nodes of a list are those below the number of nodes
  monitored_below : (nodes : List ℕ) → filter (is_believed graph doubts) (below (length graph.nodes) nodes) ≡ filter (is_believed graph doubts) nodes
  monitored_below [] = refl
  monitored_below (node ∷ nodes) =
      cond_both (ltb node (length graph.nodes)) (node ∷ below (length graph.nodes) nodes) (below (length graph.nodes) nodes)
      (λ kept. filter (is_believed graph doubts) kept ≡ filter (is_believed graph doubts) (node ∷ nodes))
      (λ less. ap (λ ys. cond (is_believed graph doubts node) (node ∷ ys) ys) (monitored_below nodes))
      (λ not_less. monitored_below nodes ∙ sym (cond-false (is_believed graph doubts node) _ _ (hidden_past node (ltb-false node (length graph.nodes) not_less))))

  module _ (end : ℕ) (nodes : List ℕ) (alarmed monitored : ℕ) (last : end ≡ length graph.nodes) (are : AreCounted graph log doubts (below end nodes) alarmed monitored) where
    all_kept : filter (is_believed graph doubts) (below end nodes) ≡ filter (is_believed graph doubts) nodes
    all_kept = ap (λ count. filter (is_believed graph doubts) (below count nodes)) last ∙ monitored_below nodes

    all_monitored : monitored ≡ believed_in graph nodes doubts
    all_monitored = are.monitored_is ∙ sym (length-filter (is_believed graph doubts) (below end nodes)) ∙ ap length all_kept ∙ length-filter (is_believed graph doubts) nodes

    all_alarmed : alarmed ≡ alarmed_in graph log nodes doubts
    all_alarmed = are.alarmed_is ∙ ap (count_by (λ n. is_some (alarm_of log n))) all_kept

    -- where none is believed the hypothesis is as robust as can be
    pub robustness-none : monitored ≡ 0 → record { alarmed = 1; monitored = 1 } ≡ robustness_of graph log nodes doubts
    robustness-none none = sym (cond-true (eqb (believed_in graph nodes doubts) 0) _ _ (eq-eqb _ 0 (sym all_monitored ∙ none)))

    -- else its robustness is what was counted
    pub robustness-some : (monitored ≡ 0 → ⊥) → record { alarmed = alarmed; monitored = monitored } ≡ robustness_of graph log nodes doubts
    robustness-some some =
        let whole : Fraction = record { alarmed = alarmed_in graph log nodes doubts; monitored = believed_in graph nodes doubts } in
        let counted : record { alarmed = alarmed; monitored = monitored } ≡ whole = λ i. record { alarmed = all_alarmed i; monitored = all_monitored i } in
        counted ∙ sym (cond-false (eqb (believed_in graph nodes doubts) 0) _ whole (ne_eqb _ 0 (λ none. some (all_monitored ∙ none))))

  -- ---- from node to node

  module _ (reach : List ℕ) (node alarmed monitored : ℕ) (are : AreCounted graph log doubts (below node reach) alarmed monitored) where
    -- a node that is not reached adds nothing
    pub counted-absent : (Contains reach node → ⊥) → AreCounted graph log doubts (below (node + 1) reach) alarmed monitored
    counted-absent absent = subst (λ nodes. AreCounted graph log doubts nodes alarmed monitored) (sym (below-absent node reach absent)) are

    module _ (rising : Rises reach) (member : Contains reach node) where
      pub counted-hidden : is_believed graph doubts node ≡ false → AreCounted graph log doubts (below (node + 1) reach) alarmed monitored
      counted-hidden hidden = subst (λ nodes. AreCounted graph log doubts nodes alarmed monitored) (sym (below-member node reach rising member)) (AreCounted-hidden (below node reach) node alarmed monitored are hidden)

      pub counted-alarmed : is_believed graph doubts node ≡ true → is_some (alarm_of log node) ≡ true → AreCounted graph log doubts (below (node + 1) reach) (alarmed + 1) (monitored + 1)
      counted-alarmed shown alarm = subst (λ nodes. AreCounted graph log doubts nodes (alarmed + 1) (monitored + 1)) (sym (below-member node reach rising member)) (AreCounted-alarmed (below node reach) node alarmed monitored are shown alarm)

      pub counted-silent : is_believed graph doubts node ≡ true → is_some (alarm_of log node) ≡ false → AreCounted graph log doubts (below (node + 1) reach) alarmed (monitored + 1)
      counted-silent shown silent = subst (λ nodes. AreCounted graph log doubts nodes alarmed (monitored + 1)) (sym (below-member node reach rising member)) (AreCounted-silent (below node reach) node alarmed monitored are shown silent)
