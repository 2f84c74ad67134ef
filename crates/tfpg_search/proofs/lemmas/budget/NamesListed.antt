-- The clause names of a log are finitely many: they can be listed.
use Rattle.std.proofs.Common.{◌≡◌, ℕ, zero, suc, ◌+◌, ◌<◌, ◌≤◌, List, [], ◌∷◌, ◌++◌, length, Bool, true, false, Option, Some, None, refl, ap, ◌∙◌, arith}
use Rattle.std.specs.Prelude.{Contains, map, filter, flat_map, nat_le, ◌==◌, ◌&&◌, if◌then◌else◌, is_some, option_and_then, slice_get, filter_map}
use Rattle.std.specs.Bool.{then_some}
use Rattle.std.specs.List.{list_any, range_with_len}
use Rattle.std.proofs.lemmas.Bool.{and_parts, and_from, eqb-true, eq-eqb}
use Rattle.std.proofs.lemmas.Bool.Decides.{nat_tests}
use Rattle.std.proofs.lemmas.Option.{slice_get_within, none-some, MatchOption-at_some}
use Rattle.tfpg_base.specs.declared.constraint.Constraint.{Constraint}
use Rattle.tfpg_graph.specs.declared.edge.Edge.{Edge}
use Rattle.tfpg_graph.specs.Graph.{Tfpg, is_kind_at, is_or, is_and, edges_into}
use Rattle.tfpg_graph.proofs.lemmas.NodeAt.{kind_within}
use Rattle.tfpg_log.specs.declared.span.Span.{Span}
use Rattle.tfpg_log.specs.declared.span.Window.{Window}
use Rattle.tfpg_log.specs.Log.{Logbook, now_of, mode_at, time_of_event, is_active_at}
use Rattle.tfpg_base.specs.Trials.{least, greatest}
use Rattle.tfpg_log.specs.Spans.{span_number, span_between, span_at, window_round, window_of, joint_of, are_active_at}
use Rattle.tfpg_evidence.specs.declared.clause_name.ClauseName.{ClauseName}
use Rattle.tfpg_evidence.specs.declared.clause_name.ClauseName.TheVariants.{OrMay, AndMay, OrMust, AndMust}
use Rattle.tfpg_base.specs.Choice.{each_of}
use Rattle.tfpg_clause.specs.Clauses.{alternatives, outside_span, arrival, due_over, may_by, must_by, dues_of}
use Rattle.tfpg_clause.specs.Order.{horizon_of}
use Rattle.tfpg_search.specs.Enough.{IsNameAt, AreNamesAt}
use Rattle.tfpg_base.proofs.lemmas.lists.Elements.{slice_get-contains, list_any-found, list_any-passes}
use Rattle.tfpg_base.proofs.lemmas.lists.Trials.{NonePassesUpTo, IsLeast, least_found}
use Rattle.tfpg_base.proofs.lemmas.lists.Choices.{is_some-there, is_some-option_and_then, option_and_then-some, then_some-true}
use Rattle.tfpg_base.proofs.lemmas.lists.Sequences.{ap-three_equal, three_equal-itself}
use Rattle.tfpg_base.proofs.lemmas.lists.Ranges.{Contains-range_with_len}
use Rattle.tfpg_base.proofs.lemmas.lists.Distinct.{once, in_once, from_once, once_differ}
use Rattle.tfpg_base.proofs.lemmas.lists.Images.{Contains-flat_map}
use Rattle.tfpg_base.proofs.lemmas.lists.Passing.{Contains-filter, Contains-filter_only}

-- ---- names

-- the numbers below a limit
abbrev numbers : ℕ → List ℕ
numbers limit = range_with_len 0 limit

abbrev names_of_subject : ℕ → ℕ → ℕ → List ClauseName
names_of_subject horizon span subject = OrMay subject span horizon ∷ AndMay subject span horizon ∷ OrMust subject span horizon ∷ AndMust subject span horizon ∷ []

abbrev names_of_span : ℕ → ℕ → ℕ → List ClauseName
names_of_span limit horizon span = flat_map (names_of_subject horizon span) (numbers limit)

abbrev names_of_horizon : ℕ → ℕ → List ClauseName
names_of_horizon limit horizon = flat_map (names_of_span limit horizon) (numbers limit)

-- all names of numbers below a limit
abbrev names_below : ℕ → List ClauseName
names_below limit = flat_map (names_of_horizon limit) (numbers limit)

in_names : (limit horizon span subject : ℕ) (name : ClauseName) → Contains (names_of_subject horizon span subject) name → horizon < limit → span < limit → subject < limit → Contains (names_below limit) name
in_names limit horizon span subject name there low_horizon low_span low_subject =
    Contains-flat_map (names_of_horizon limit) (numbers limit) horizon name (Contains-range_with_len limit horizon low_horizon)
    (Contains-flat_map (names_of_span limit horizon) (numbers limit) span name (Contains-range_with_len limit span low_span)
    (Contains-flat_map (names_of_subject horizon span) (numbers limit) subject name (Contains-range_with_len limit subject low_subject) there))

-- the test of being the same name
abbrev same_numbers : ℕ → ℕ → ℕ → ℕ → ℕ → ℕ → Bool
same_numbers a b c x y z = (a == x) && ((b == y) && (c == z))

abbrev same_name : ClauseName → ClauseName → Bool
same_name (OrMay a b c) (OrMay x y z) = same_numbers a b c x y z
same_name (OrMay a b c) (AndMay x y z) = false
same_name (OrMay a b c) (OrMust x y z) = false
same_name (OrMay a b c) (AndMust x y z) = false
same_name (AndMay a b c) (OrMay x y z) = false
same_name (AndMay a b c) (AndMay x y z) = same_numbers a b c x y z
same_name (AndMay a b c) (OrMust x y z) = false
same_name (AndMay a b c) (AndMust x y z) = false
same_name (OrMust a b c) (OrMay x y z) = false
same_name (OrMust a b c) (AndMay x y z) = false
same_name (OrMust a b c) (OrMust x y z) = same_numbers a b c x y z
same_name (OrMust a b c) (AndMust x y z) = false
same_name (AndMust a b c) (OrMay x y z) = false
same_name (AndMust a b c) (AndMay x y z) = false
same_name (AndMust a b c) (OrMust x y z) = false
same_name (AndMust a b c) (AndMust x y z) = same_numbers a b c x y z

exact_name : (one other : ClauseName) → same_name one other ≡ true → one ≡ other
exact_name (OrMay a b c) (OrMay x y z) is = ap-three_equal OrMay a b c x y z is
exact_name (OrMay a b c) (AndMay x y z) is = cc
exact_name (OrMay a b c) (OrMust x y z) is = cc
exact_name (OrMay a b c) (AndMust x y z) is = cc
exact_name (AndMay a b c) (OrMay x y z) is = cc
exact_name (AndMay a b c) (AndMay x y z) is = ap-three_equal AndMay a b c x y z is
exact_name (AndMay a b c) (OrMust x y z) is = cc
exact_name (AndMay a b c) (AndMust x y z) is = cc
exact_name (OrMust a b c) (OrMay x y z) is = cc
exact_name (OrMust a b c) (AndMay x y z) is = cc
exact_name (OrMust a b c) (OrMust x y z) is = ap-three_equal OrMust a b c x y z is
exact_name (OrMust a b c) (AndMust x y z) is = cc
exact_name (AndMust a b c) (OrMay x y z) is = cc
exact_name (AndMust a b c) (AndMay x y z) is = cc
exact_name (AndMust a b c) (OrMust x y z) is = cc
exact_name (AndMust a b c) (AndMust x y z) is = ap-three_equal AndMust a b c x y z is

name_itself : (name : ClauseName) → same_name name name ≡ true
name_itself (OrMay a b c) = three_equal-itself a b c
name_itself (AndMay a b c) = three_equal-itself a b c
name_itself (OrMust a b c) = three_equal-itself a b c
name_itself (AndMust a b c) = three_equal-itself a b c

-- ---- what is allowed has small numbers

number_small : (log : Logbook) (instant : ℕ) → span_number log instant ≤ instant
number_small log zero = omega arith
number_small log (suc instant) = by (number_small log instant) (mode_at log instant == mode_at log (suc instant))
  where
    by : span_number log instant ≤ instant → (b : Bool) → span_number log instant + (if b then 0 else 1) ≤ suc instant
    by before true = omega (arith, before)
    by before false = omega (arith, before)

-- a span that there is has a number up to its horizon, which is not after now
pub record HasNumbersUpTo (log : Logbook) (number horizon : ℕ) : Type 0 where
  pub span_small : number ≤ horizon
  pub horizon_small : horizon ≤ now_of log

pub span_small_at : (log : Logbook) (number horizon : ℕ) → is_some (span_at log number horizon) ≡ true → HasNumbersUpTo log number horizon
span_small_at log number horizon some = by (nat_le horizon (now_of log)) refl some
  where
    found_by : (lo : Option ℕ) → least (λ instant. span_number log instant == number) horizon ≡ lo → (hi : Option ℕ) → is_some (span_between log lo hi) ≡ true → number ≤ horizon
    found_by None at hi there = absurd cc
    found_by (Some lo) at hi there =
        let passes = λ (instant : ℕ). span_number log instant == number in
        let is = MatchOption-at_some (NonePassesUpTo passes horizon) (IsLeast passes horizon) lo at (least_found passes horizon) in
        let same : span_number log lo ≡ number = eqb-true (span_number log lo) number is.here in
        omega (arith, is.within, same, number_small log lo)

    by : (b : Bool) → nat_le horizon (now_of log) ≡ b
        → is_some (if b then span_between log (least (λ instant. span_number log instant == number) horizon) (greatest (λ instant. span_number log instant == number) horizon) else None) ≡ true
        → HasNumbersUpTo log number horizon
    by true at there = record {
      span_small = found_by (least (λ instant. span_number log instant == number) horizon) refl (greatest (λ instant. span_number log instant == number) horizon) there;
      horizon_small = grind (arith, nat_tests);
    }
    by false at there = absurd cc

-- ---- allowed names

module _ (log : Logbook) where
  -- a may clause has a span, and its test holds
  may_there : (holds : Bool) (target : ℕ) (edges : List Edge) (number horizon : ℕ) → is_some (may_by log holds target edges number horizon) ≡ true
      → HasNumbersUpTo log number horizon × (holds ≡ true)
  may_there holds target edges number horizon some = (
    span_small_at log number horizon (is_some-option_and_then (λ (s : Span). then_some holds (outside_span target s ++ filter_map (arrival log number horizon s) edges)) (span_at log number horizon) some),
    by (span_at log number horizon) some,
  )
    where
      by : (span : Option Span) → is_some (option_and_then (λ (s : Span). then_some holds (outside_span target s ++ filter_map (arrival log number horizon s) edges)) span) ≡ true → holds ≡ true
      by None there = cc
      by (Some s) there =
          let alternatives = outside_span target s ++ filter_map (arrival log number horizon s) edges in
          let found = is_some-there (then_some holds alternatives) there in
          (then_some-true holds alternatives found.0 found.1).0

  -- a must clause has a window, and its test holds
  must_there : (holds : Bool) (target : ℕ) (edges : List Edge) (window : Option Window) (number horizon : ℕ) → is_some (must_by holds target number window (dues_of log number horizon edges)) ≡ true
      → (is_some window ≡ true) × (holds ≡ true)
  must_there false target edges window number horizon some = absurd cc
  must_there true target edges None number horizon some =
      let made = is_some-there (must_by true target number None (dues_of log number horizon edges)) some in
      absurd (none-some made.0 (option_and_then-some _ (each_of (map (due_over log number horizon) edges)) made.0 made.1).2)
  must_there true target edges (Some w) number horizon some = (refl, refl)

module _ (graph : Tfpg) (log : Logbook) where
  -- all numbers of an allowed name are below this
  abbrev limit : ℕ
  limit = now_of log + length graph.nodes + length graph.edges + 1

  -- the test of an allowed name
  abbrev allowed : ClauseName → Bool
  allowed name = is_some (alternatives graph log name)

  of_window : {X : Type 0} (f : Span → Option X) (number horizon : ℕ) → is_some (option_and_then f (span_at log number horizon)) ≡ true → HasNumbersUpTo log number horizon
  of_window f number horizon some = span_small_at log number horizon (is_some-option_and_then f (span_at log number horizon) some)

  of_edge : (f : Edge → Option (List (List Constraint))) (number : ℕ) (found : Option Edge) → slice_get graph.edges number ≡ found → is_some (option_and_then f found) ≡ true
      → (number < length graph.edges) × (edge : Edge) × (is_some (f edge) ≡ true)
  of_edge f number None at some = absurd cc
  of_edge f number (Some edge) at some = (slice_get_within graph.edges number edge at, edge, some)

  small : (horizon span subject : ℕ) (name : ClauseName) → Contains (names_of_subject horizon span subject) name → HasNumbersUpTo log span horizon → subject < length graph.nodes + length graph.edges
      → Contains (names_below limit) name
  small horizon span subject name there is low =
      in_names limit horizon span subject name there (omega (arith, is.horizon_small)) (omega (arith, is.span_small, is.horizon_small)) (omega (arith, low))

  -- an allowed name is among those of small numbers
  listed : (name : ClauseName) → allowed name ≡ true → Contains (names_below limit) name
  listed (OrMay node number horizon) some =
      let there = may_there log (is_kind_at is_or graph node) node (edges_into graph node) number horizon some in
      small horizon number node (OrMay node number horizon) (0, omega arith, refl) there.0 (omega (arith, kind_within graph is_or node there.1))
  listed (AndMay edge number horizon) some =
      let own = of_edge (λ (e : Edge). may_by log (is_kind_at is_and graph e.target) e.target (e ∷ []) number horizon) edge (slice_get graph.edges edge) refl some in
      let there = may_there log (is_kind_at is_and graph own.1.target) own.1.target (own.1 ∷ []) number horizon own.2 in
      small horizon number edge (AndMay edge number horizon) (1, omega arith, refl) there.0 (omega (arith, own.0))
  listed (OrMust edge number horizon) some =
      let own = of_edge (λ (e : Edge). must_by (is_kind_at is_or graph e.target) e.target number (window_of log e number horizon) (dues_of log number horizon (e ∷ []))) edge (slice_get graph.edges edge) refl some in
      let there = must_there log (is_kind_at is_or graph own.1.target) own.1.target (own.1 ∷ []) (window_of log own.1 number horizon) number horizon own.2 in
      small horizon number edge (OrMust edge number horizon) (2, omega arith, refl)
      (of_window (λ span. window_round log (is_active_at log own.1) span horizon) number horizon there.0) (omega (arith, own.0))
  listed (AndMust node number horizon) some =
      let there = must_there log (is_kind_at is_and graph node) node (edges_into graph node) (joint_of graph log node number horizon) number horizon some in
      small horizon number node (AndMust node number horizon) (3, omega arith, refl)
      (of_window (λ span. window_round log (are_active_at graph log node) span horizon) number horizon there.0) (omega (arith, kind_within graph is_and node there.1))

  -- There is a list of all allowed names.
  pub allowed_listed : (names : List ClauseName) × ((name : ClauseName) (clause : List (List Constraint)) → alternatives graph log name ≡ Some clause → Contains names name)
  allowed_listed = (
    names_below limit,
    λ name clause is. listed name (ap is_some is),
  )

  -- the test of a name whose horizon is the time of an event
  abbrev at_event : ClauseName → Bool
  at_event name = list_any (λ event. time_of_event event == horizon_of name) log.events

  abbrev is_own_name : ClauseName → Bool
  is_own_name name = allowed name && at_event name

  name_from : (name : ClauseName) → is_own_name name ≡ true → IsNameAt graph log name
  name_from name is =
      let parts = and_parts (allowed name) (at_event name) is in
      let clause = is_some-there (alternatives graph log name) parts.0 in
      let event = list_any-found (λ event. time_of_event event == horizon_of name) log.events parts.1 in
      record { clause = clause.0; allowed = clause.1; horizon = record { event = event.0; accepted = event.1; at = eqb-true (time_of_event event.0) (horizon_of name) event.2 } }

  name_to : (name : ClauseName) → IsNameAt graph log name → is_own_name name ≡ true
  name_to name is =
      and_from (allowed name) (at_event name) (ap is_some is.allowed)
      (list_any-passes (λ event. time_of_event event == horizon_of name) log.events is.horizon.event is.horizon.accepted
      (ap (λ n. n == horizon_of name) is.horizon.at ∙ eq-eqb (horizon_of name) (horizon_of name) refl))

  -- those of small numbers
  abbrev small_names : List ClauseName
  small_names = filter is_own_name (names_below limit)

  -- There is a list of all names.
  pub names_listed : (names : List ClauseName) × AreNamesAt graph log names
  names_listed = (
    once same_name exact_name name_itself small_names,
    record {
      once = once_differ same_name exact_name name_itself small_names;
      exact = λ name. (
        λ has. name_from name (Contains-filter_only is_own_name (names_below limit) name (from_once same_name exact_name name_itself small_names name has)).2,
        λ is.
            let low = listed name (and_parts (allowed name) (at_event name) (name_to name is)).0 in
            in_once same_name exact_name name_itself small_names name
            (Contains-filter is_own_name (names_below limit) low.0 name (slice_get-contains (names_below limit) name low) (name_to name is)),
      );
    },
  )
