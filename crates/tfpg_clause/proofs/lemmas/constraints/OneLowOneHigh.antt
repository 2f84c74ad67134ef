-- The facts give each node one greatest lower and one least upper bound.
use Rattle.std.proofs.Common.{◌≡◌, ℕ, zero, suc, ◌+◌, ◌<◌, ◌≤◌, Bool, true, ◌&&◌, not, cond, eqb, leb, ltb, List, [], ◌∷◌, length, Option, Some, None, refl, sym, ap, ◌∙◌, ◌⊎◌, inl, inr, arith, pos}
use Rattle.std.specs.Prelude.{Contains, neg_ℤ, option_map, option_and_then, slice_get}
use Rattle.std.specs.Bool.{then_some}
use Rattle.std.proofs.lemmas.Bool.{eqb-true, eq-eqb, cases_lt, lt-ltb, leb-true, le-leb, and_parts, and_from}
use Rattle.std.proofs.lemmas.Option.{option_and_then_some, slice_get_within}
use Rattle.tfpg_base.specs.declared.limits.TheConstants.{NEVER}
use Rattle.tfpg_base.specs.declared.constraint.Constraint.{Constraint}
use Rattle.tfpg_base.proofs.lemmas.lists.Elements.{Contains-head, Contains-tail}
use Rattle.tfpg_base.proofs.lemmas.lists.Choices.{then_some-true, cond-some_first}
use Rattle.tfpg_base.proofs.lemmas.lists.Integers.{opposite_of, natural_of, opposite_of-opposite, opposite-from_opposite_of, natural_of-pos, pos-from_natural_of}
use Rattle.tfpg_base.proofs.lemmas.lists.Valued.{best_from}
use Rattle.tfpg_graph.specs.Graph.{Tfpg}
use Rattle.tfpg_graph.specs.Reach.{is_among}
use Rattle.tfpg_log.specs.Log.{Logbook, now_of, event_at, quiet_at}
use Rattle.tfpg_evidence.specs.declared.reason.Reason.{Reason}
use Rattle.tfpg_evidence.specs.declared.reason.Reason.TheVariants.{Zero, Top, Unreached, From, Upto, Quiet, Pick}
use Rattle.tfpg_base.specs.Bounds.{at_most, at_least}
use Rattle.tfpg_clause.specs.Case.{case_of}
use Rattle.tfpg_clause.specs.Facts.{fact, from_alarm, upto_alarm, IsLow, IsHigh}
use Rattle.tfpg_clause.proofs.lemmas.constraints.BoundsMet.{at_least-same, at_most-same, at_most-least}
use Rattle.tfpg_clause.proofs.lemmas.logs.StaysAllowed.{silence_within}

-- ---- bounds of a node in constraints

-- the lower, and the upper bound that a constraint gives a node
low_in : ℕ → Constraint → Option ℕ
low_in node constraint = cond (eqb constraint.left 0 && eqb constraint.right (node + 1)) (opposite_of constraint.most) None

high_in : ℕ → Constraint → Option ℕ
high_in node constraint = cond (eqb constraint.left (node + 1) && eqb constraint.right 0) (natural_of constraint.most) None

module _ (node : ℕ) where
  -- a lower bound is read off, and what is read off is one
  low_read : (bound : ℕ) → low_in node (at_least node bound) ≡ Some bound
  unfolding low_in
  low_read bound =
      let here : eqb (node + 1) (node + 1) ≡ true = eq-eqb (node + 1) (node + 1) refl in
      ap (λ (b : Bool). cond b (opposite_of (neg_ℤ (pos bound))) None) here ∙ opposite_of-opposite bound

  low_is : (constraint : Constraint) (bound : ℕ) → low_in node constraint ≡ Some bound → constraint ≡ at_least node bound
  unfolding low_in
  low_is constraint bound is =
      let parts = cond-some_first (eqb constraint.left 0 && eqb constraint.right (node + 1)) (opposite_of constraint.most) bound is in
      let both = and_parts (eqb constraint.left 0) (eqb constraint.right (node + 1)) parts.0 in
      let left = eqb-true constraint.left 0 both.0 in
      let right = eqb-true constraint.right (node + 1) both.1 in
      let most = opposite-from_opposite_of constraint.most bound parts.1 in
      λ i. record { left = left i; right = right i; most = most i }

  high_read : (bound : ℕ) → high_in node (at_most node (pos bound)) ≡ Some bound
  unfolding high_in
  high_read bound =
      let here : eqb (node + 1) (node + 1) ≡ true = eq-eqb (node + 1) (node + 1) refl in
      ap (λ (b : Bool). cond (b && true) (natural_of (pos bound)) None) here ∙ natural_of-pos bound

  high_is : (constraint : Constraint) (bound : ℕ) → high_in node constraint ≡ Some bound → constraint ≡ at_most node (pos bound)
  unfolding high_in
  high_is constraint bound is =
      let parts = cond-some_first (eqb constraint.left (node + 1) && eqb constraint.right 0) (natural_of constraint.most) bound is in
      let both = and_parts (eqb constraint.left (node + 1)) (eqb constraint.right 0) parts.0 in
      let left = eqb-true constraint.left (node + 1) both.0 in
      let right = eqb-true constraint.right 0 both.1 in
      let most = pos-from_natural_of constraint.most bound parts.1 in
      λ i. record { left = left i; right = right i; most = most i }

  -- ---- reasons enough

  -- the reasons by the events up to a number
  by_events : ℕ → List Reason
  by_events zero = []
  by_events (suc count) = From (suc count) ∷ Upto (suc count) ∷ Quiet (suc count) node ∷ by_events count

  -- each event has its three
  event_there : (count event : ℕ) → 0 < event → event ≤ count
      → Contains (by_events count) (From event) × Contains (by_events count) (Upto event) × Contains (by_events count) (Quiet event node)
  unfolding by_events
  event_there zero event some upto = absurd (omega arith)
  event_there (suc count) event some upto = elim (cases_lt event (suc count)) [
    | inl below ↦ (
        let rest = event_there count event some (omega arith) in
        (further (From event) rest.0, further (Upto event) rest.1, further (Quiet event node) rest.2)
        )
    | inr from ↦ (
        let same : suc count ≡ event = omega arith in (
          (0, omega arith, ap From same),
          (1, omega arith, ap Upto same),
          (2, omega arith, ap (λ e. Quiet e node) same),
        )
        )
  ]
    where
      further : (reason : Reason) → Contains (by_events count) reason
          → Contains (From (suc count) ∷ Upto (suc count) ∷ Quiet (suc count) node ∷ by_events count) reason
      further reason more =
          Contains-tail (From (suc count)) (Upto (suc count) ∷ Quiet (suc count) node ∷ by_events count) reason
          (Contains-tail (Upto (suc count)) (Quiet (suc count) node ∷ by_events count) reason
          (Contains-tail (Quiet (suc count) node) (by_events count) reason more))

module _ (graph : Tfpg) (log : Logbook) (reach : List ℕ) (node : ℕ) where
  -- the bounds of a reason
  low_of : Reason → Option ℕ
  low_of reason = option_and_then (low_in node) (fact (case_of graph log reach) reason)

  high_of : Reason → Option ℕ
  high_of reason = option_and_then (high_in node) (fact (case_of graph log reach) reason)

  low_stated : (reason : Reason) (bound : ℕ) → low_of reason ≡ Some bound
      → fact (case_of graph log reach) reason ≡ Some (at_least node bound)
  unfolding low_of
  low_stated reason bound is =
      option_and_then_some (low_in node) (fact (case_of graph log reach) reason) bound is
      (λ c at rest. at ∙ ap Some (low_is node c bound rest))

  low_given : (reason : Reason) (bound : ℕ) → fact (case_of graph log reach) reason ≡ Some (at_least node bound)
      → low_of reason ≡ Some bound
  unfolding low_of
  low_given reason bound at = ap (option_and_then (low_in node)) at ∙ low_read node bound

  high_stated : (reason : Reason) (bound : ℕ) → high_of reason ≡ Some bound
      → fact (case_of graph log reach) reason ≡ Some (at_most node (pos bound))
  unfolding high_of
  high_stated reason bound is =
      option_and_then_some (high_in node) (fact (case_of graph log reach) reason) bound is
      (λ c at rest. at ∙ ap Some (high_is node c bound rest))

  high_given : (reason : Reason) (bound : ℕ) → fact (case_of graph log reach) reason ≡ Some (at_most node (pos bound))
      → high_of reason ≡ Some bound
  unfolding high_of
  high_given reason bound at = ap (option_and_then (high_in node)) at ∙ high_read node bound

  -- reasons enough for the bounds of the node
  abbrev all_reasons : List Reason
  all_reasons = Top node ∷ Unreached node (now_of log) ∷ by_events node (length log.events)

  by_event : (reason : Reason) → Contains (by_events node (length log.events)) reason → Contains all_reasons reason
  by_event reason member =
      Contains-tail (Top node) (Unreached node (now_of log) ∷ by_events node (length log.events)) reason
      (Contains-tail (Unreached node (now_of log)) (by_events node (length log.events)) reason member)

  -- an event that is there has a number
  numbered : {X : Type 0} (f : _ → Option X) (event : ℕ) (x : X) → option_and_then f (event_at log event) ≡ Some x
      → (0 < event) × (event ≤ length log.events)
  numbered f zero x at = absurd cc
  numbered f (suc before) x at =
      option_and_then_some f (slice_get log.events before) x at
      (λ e there rest. let within = slice_get_within log.events before e there in (omega arith, omega arith))

  -- each lower bound is at most 0, or at most that of one of these reasons
  low_covered : (reason : Reason) (bound : ℕ) → fact (case_of graph log reach) reason ≡ Some (at_least node bound)
      → (bound ≡ 0) ⊎ ((other : Reason) × (more : ℕ) × Contains all_reasons other
      × (fact (case_of graph log reach) other ≡ Some (at_least node more)) × (bound ≤ more))
  low_covered (Zero other) bound at =
      inl
      (sym
      (at_least-same other node 0 bound (then_some-true (ltb other (length graph.nodes)) (at_least other 0) (at_least node bound) at).1).1)
  low_covered (Top other) bound at =
      absurd
      (at_most-least other node bound (pos NEVER)
      (then_some-true (ltb other (length graph.nodes)) (at_most other (pos NEVER)) (at_least node bound) at).1)
  low_covered (Unreached other horizon) bound at =
      let parts =
      then_some-true (ltb other (length graph.nodes) && (leb horizon (now_of log) && not (is_among reach other)))
      (at_least other (horizon + 1)) (at_least node bound) at in
      let both = and_parts (ltb other (length graph.nodes)) (leb horizon (now_of log) && not (is_among reach other)) parts.0 in
      let rest = and_parts (leb horizon (now_of log)) (not (is_among reach other)) both.1 in
      let same : other ≡ node = (at_least-same other node (horizon + 1) bound parts.1).0 in
      let test : (ltb node (length graph.nodes) && (leb (now_of log) (now_of log) && not (is_among reach node))) ≡ true =
      and_from (ltb node (length graph.nodes)) (leb (now_of log) (now_of log) && not (is_among reach node))
      (ap (λ n. ltb n (length graph.nodes)) (sym same) ∙ both.0)
      (and_from (leb (now_of log) (now_of log)) (not (is_among reach node)) (le-leb (now_of log) (now_of log) (omega arith))
      (ap (λ n. not (is_among reach n)) (sym same) ∙ rest.1)) in
      inr (
        Unreached node (now_of log),
        now_of log + 1,
        Contains-tail (Top node) (Unreached node (now_of log) ∷ by_events node (length log.events)) (Unreached node (now_of log))
            (Contains-head (Unreached node (now_of log)) (by_events node (length log.events))),
        ap (λ (b : Bool). then_some b (at_least node (now_of log + 1))) test,
        omega (arith, (at_least-same other node (horizon + 1) bound parts.1).1, leb-true horizon (now_of log) rest.0),
      )
  low_covered (From event) bound at =
      let there = numbered (from_alarm graph log) event (at_least node bound) at in
      inr (From event, bound, by_event (From event) (event_there node (length log.events) event there.0 there.1).0, at, omega arith)
  low_covered (Upto event) bound at =
      let there = numbered (upto_alarm graph log) event (at_least node bound) at in
      inr (Upto event, bound, by_event (Upto event) (event_there node (length log.events) event there.0 there.1).1, at, omega arith)
  low_covered (Quiet event other) bound at = by event (quiet_at graph log event other) refl at
    where
      by : (event : ℕ) (time : Option ℕ) → quiet_at graph log event other ≡ time
          → option_map (λ t. at_least other (t + 1)) time ≡ Some (at_least node bound)
          → (bound ≡ 0) ⊎ ((other : Reason) × (more : ℕ) × Contains all_reasons other
          × (fact (case_of graph log reach) other ≡ Some (at_least node more)) × (bound ≤ more))
      by event None is at = absurd cc
      by zero (Some time) is at = absurd cc
      by (suc before) (Some time) is at =
          let stated : at_least other (time + 1) ≡ at_least node bound = cc in
          let same : other ≡ node = (at_least-same other node (time + 1) bound stated).0 in
          let whole : fact (case_of graph log reach) (Quiet (suc before) other) ≡ Some (at_least node bound) =
          ap (option_map (λ t. at_least other (t + 1))) is ∙ at in
          let own : fact (case_of graph log reach) (Quiet (suc before) node) ≡ Some (at_least node bound) =
          ap (λ n. fact (case_of graph log reach) (Quiet (suc before) n)) (sym same) ∙ whole in
          let within = silence_within graph log (suc before) other (at_least node bound) whole in
          inr (
            Quiet (suc before) node,
            bound,
            by_event (Quiet (suc before) node) (event_there node (length log.events) (suc before) (omega arith) within).2,
            own,
            omega arith,
          )
  low_covered (Pick split index) bound at = absurd cc

  -- each upper bound is that of one of these reasons
  high_covered : (reason : Reason) (bound : ℕ) → fact (case_of graph log reach) reason ≡ Some (at_most node (pos bound))
      → (other : Reason) × Contains all_reasons other × (fact (case_of graph log reach) other ≡ Some (at_most node (pos bound)))
  high_covered (Zero other) bound at =
      absurd
      (at_most-least node other 0 (pos bound)
      (sym (then_some-true (ltb other (length graph.nodes)) (at_least other 0) (at_most node (pos bound)) at).1))
  high_covered (Top other) bound at =
      let same : other ≡ node =
      (at_most-same other node NEVER bound
      (then_some-true (ltb other (length graph.nodes)) (at_most other (pos NEVER)) (at_most node (pos bound)) at).1).0 in (
        Top node,
        Contains-head (Top node) (Unreached node (now_of log) ∷ by_events node (length log.events)),
        ap (λ n. fact (case_of graph log reach) (Top n)) (sym same) ∙ at,
      )
  high_covered (Unreached other horizon) bound at =
      absurd
      (at_most-least node other (horizon + 1) (pos bound)
      (sym
      (then_some-true (ltb other (length graph.nodes) && (leb horizon (now_of log) && not (is_among reach other)))
      (at_least other (horizon + 1)) (at_most node (pos bound)) at).1))
  high_covered (From event) bound at =
      let there = numbered (from_alarm graph log) event (at_most node (pos bound)) at in
      (From event, by_event (From event) (event_there node (length log.events) event there.0 there.1).0, at)
  high_covered (Upto event) bound at =
      let there = numbered (upto_alarm graph log) event (at_most node (pos bound)) at in
      (Upto event, by_event (Upto event) (event_there node (length log.events) event there.0 there.1).1, at)
  high_covered (Quiet event other) bound at = by (quiet_at graph log event other) at
    where
      by : (time : Option ℕ) → option_map (λ t. at_least other (t + 1)) time ≡ Some (at_most node (pos bound))
          → (other : Reason) × Contains all_reasons other × (fact (case_of graph log reach) other ≡ Some (at_most node (pos bound)))
      by None at = absurd cc
      by (Some time) at =
          absurd
          (let stated : at_least other (time + 1) ≡ at_most node (pos bound) = cc in
          at_most-least node other (time + 1) (pos bound) (sym stated))
  high_covered (Pick split index) bound at = absurd cc

  -- The facts give the node a greatest lower bound,
  pub low_there : node < length graph.nodes → (low : ℕ) × IsLow (case_of graph log reach) node low
  low_there within =
      let zero_stated : fact (case_of graph log reach) (Zero node) ≡ Some (at_least node 0) =
      ap (λ (b : Bool). then_some b (at_least node 0)) (lt-ltb node (length graph.nodes) within) in
      let best =
      best_from (λ (one other : ℕ). one ≤ other) rises (λ one middle other first second. omega arith) low_of all_reasons 0 (Zero node)
      (low_given (Zero node) 0 zero_stated) in (
        best.0,
        record {
          reason = best.1.item;
          stated = low_stated best.1.item best.0 best.1.is;
          greatest = λ other bound at. elim (low_covered other bound at) [
            | inl none ↦ omega (arith, none)
            | inr (cover, more, member, stated, below) ↦ omega (arith, below, best.1.others cover more member (low_given cover more stated))
          ];
        },
      )
    where
      rises : (one other : ℕ) → (one ≤ other) ⊎ (other ≤ one)
      rises one other = elim (cases_lt one other) [ inl less ↦ inl (omega arith) | inr more ↦ inr more ]

  -- and a least upper one.
  pub high_there : node < length graph.nodes → (high : ℕ) × IsHigh (case_of graph log reach) node high
  high_there within =
      let top_stated : fact (case_of graph log reach) (Top node) ≡ Some (at_most node (pos NEVER)) =
      ap (λ (b : Bool). then_some b (at_most node (pos NEVER))) (lt-ltb node (length graph.nodes) within) in
      let best =
      best_from (λ (one other : ℕ). other ≤ one) falls (λ one middle other first second. omega arith) high_of all_reasons NEVER (Top node)
      (high_given (Top node) NEVER top_stated) in (
        best.0,
        record {
          reason = best.1.item;
          stated = high_stated best.1.item best.0 best.1.is;
          least =
              λ other bound at. let cover =
              high_covered other bound at in best.1.others cover.0 bound cover.1 (high_given cover.0 bound cover.2);
        },
      )
    where
      falls : (one other : ℕ) → (other ≤ one) ⊎ (one ≤ other)
      falls one other = elim (cases_lt one other) [ inl less ↦ inr (omega arith) | inr more ↦ inl more ]

  -- There is no other greatest lower bound,
  pub one_low : (one other : ℕ) → IsLow (case_of graph log reach) node one → IsLow (case_of graph log reach) node other → one ≡ other
  one_low one other is also = omega (arith, is.greatest also.reason other also.stated, also.greatest is.reason one is.stated)

  -- and no other least upper bound.
  pub one_high : (one other : ℕ) → IsHigh (case_of graph log reach) node one → IsHigh (case_of graph log reach) node other → one ≡ other
  one_high one other is also = omega (arith, is.least also.reason other also.stated, also.least is.reason one is.stated)
