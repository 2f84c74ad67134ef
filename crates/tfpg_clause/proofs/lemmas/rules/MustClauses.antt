-- Must clauses and the must rule, of some edges and a window that they have in common: the clause is met where the target is
-- active once all edges are due, and the target is so where the clause is met.
use Rattle.std.proofs.Common.{◌≡◌, ℕ, ◌+◌, ◌-◌, ◌<◌, ◌≤◌, Bool, true, false, ◌&&◌, eqb, List, [], ◌∷◌, get_or, Option, Some, None, refl, sym, ap, subst, ◌∙◌, ◌⊎◌, inl, inr, arith, pos}
use Rattle.std.specs.Prelude.{All, Contains, map, option_map, option_and_then}
use Rattle.std.specs.Bool.{then_some}
use Rattle.std.specs.List.{list_all}
use Rattle.tfpg_base.specs.Choice.{each_of}
use Rattle.std.proofs.lemmas.Bool.{cases_lt, le-leb, leb-true, and_parts, eq-eqb, and_from}
use Rattle.std.proofs.lemmas.List.Elements.{All-cons, All-nil, All-contains}
use Rattle.std.proofs.lemmas.List.Sums.{AllPass-from_list_all, list_all-from_AllPass}
use Rattle.std.proofs.lemmas.Option.{option_and_then_some}
use Rattle.tfpg_base.specs.declared.activation.Activation.{Activation}
use Rattle.tfpg_base.specs.declared.constraint.Constraint.{Constraint}
use Rattle.tfpg_base.specs.Trace.{time_of}
use Rattle.tfpg_base.proofs.lemmas.lists.Elements.{All-from_members}
use Rattle.tfpg_graph.specs.declared.edge.Edge.{Edge}
use Rattle.tfpg_log.specs.declared.span.Window.{Window}
use Rattle.tfpg_log.specs.Log.{Logbook, now_of}
use Rattle.tfpg_log.specs.Rules.{HasAge, IsDue, IsActive}
use Rattle.tfpg_log.specs.AgeInWindow.{HasAgeInWindow}
use Rattle.tfpg_log.specs.Spans.{window_of}
use Rattle.tfpg_log.proofs.lemmas.ages.WindowAges.{by_window}
use Rattle.tfpg_clause.specs.Clauses.{Due}
use Rattle.tfpg_base.specs.Bounds.{at_most, at_least, at_most_after}
use Rattle.tfpg_base.specs.Constraint.{Meets}
use Rattle.tfpg_base.proofs.lemmas.lists.Choices.{Contains-each_of_only, Contains-each_of, each_of-from_each, then_some-true}
use Rattle.tfpg_clause.specs.Clauses.{due_over, must_in, must_by, must_alternatives, starts_late, follows_in_time, latest_of, MeetsClause, dues_of}
use Rattle.tfpg_clause.proofs.lemmas.constraints.BoundsMet.{met_at_most, met_at_least, met_at_most_after, says_at_most, says_at_least, says_at_most_after}
use Rattle.tfpg_clause.proofs.lemmas.traces.TraceAgrees.{Agree, active_from, active_only}
use Rattle.tfpg_clause.proofs.lemmas.alternatives.ClauseFound.{must_found}
use Rattle.tfpg_clause.proofs.lemmas.alternatives.Dues.{fits}
use Rattle.tfpg_clause.proofs.lemmas.alternatives.MustAlternatives.{late_there, follows_there, last_there, alternative_cases}
use Rattle.tfpg_clause.proofs.lemmas.rules.LastDue.{since_source, last_due, upto_last, last_within, reached, some_late, by_latest, latest_upto}

-- A window that the edges have in common round a span: it lies in the window of each, and begins with that of some edge or at 0.
pub record InCommon (log : Logbook) (edges : List Edge) (number horizon : ℕ) (window : Window) : Type 0 where
  pub in_order : window.lo ≤ window.hi
  pub in_range : window.hi ≤ horizon
  pub of_each : (edge : Edge) → Contains edges edge
      → (own : Window) × (window_of log edge number horizon ≡ Some own) × (own.lo ≤ window.lo) × (window.hi ≤ own.hi)
  pub begins : 0 < window.lo → (edge : Edge) × Contains edges edge × (own : Window) × (window_of log edge number horizon ≡ Some own)
      × (own.lo ≡ window.lo)

-- What is due is so over this edge.
pub record IsDueOf (log : Logbook) (number horizon : ℕ) (edge : Edge) (due : Due) : Type 0 where
  pub window : Window
  pub there : window_of log edge number horizon ≡ Some window
  pub tmax : edge.tmax ≡ Some due.tmax
  pub source : due.source ≡ edge.source
  pub target : due.target ≡ edge.target
  pub by : due.by ≡ window.lo + due.tmax

-- what is due over an edge is so of it
pub due_of : (log : Logbook) (number horizon : ℕ) (edge : Edge) (due : Due) → due_over log number horizon edge ≡ Some due
    → IsDueOf log number horizon edge due
due_of log number horizon edge due at = by edge.tmax (window_of log edge number horizon) refl refl at
  where
    by : (tmax : Option ℕ) (window : Option Window) → edge.tmax ≡ tmax → window_of log edge number horizon ≡ window
        → option_and_then
        (λ t. option_map (λ (w : Window). record { source = edge.source; target = edge.target; tmax = t; by = w.lo + t }) window) tmax
        ≡ Some due
        → IsDueOf log number horizon edge due
    by None window finite there is = absurd cc
    by (Some tmax) None finite there is = absurd cc
    by (Some tmax) (Some window) finite there is =
        let same : (let d : Due = record { source = edge.source; target = edge.target; tmax = tmax; by = window.lo + tmax } in d) ≡ due = cc in
        let most : tmax ≡ due.tmax = ap (λ (d : Due). d.tmax) same in
        record {
          window = window;
          there = there;
          tmax = finite ∙ ap Some most;
          source = sym (ap (λ (d : Due). d.source) same);
          target = sym (ap (λ (d : Due). d.target) same);
          by = sym (ap (λ (d : Due). d.by) same) ∙ ap (λ t. window.lo + t) most;
        }

module _ (log : Logbook) (trace : List Activation) (numbers : List ℕ) (count : ℕ) (agree : Agree count (now_of log) trace numbers) where
  -- Once all these edges are due, the target is active.
  abbrev pub ActiveOnce : ℕ → List Edge → ℕ → Type 0
  ActiveOnce target edges instant = All (λ edge. IsDue log trace edge instant) edges → IsActive trace target instant

  module _ (target : ℕ) (edges : List Edge) (number horizon : ℕ) (window : Window) (common : InCommon log edges number horizon window) where
    -- At an instant of the window an edge is due where both have passed, the greatest delay since its window began and since
    -- its source became active.
    due_from : (edge : Edge) (due : Due) (instant : ℕ) → Contains edges edge → edge.source < count
        → due_over log number horizon edge ≡ Some due → horizon ≤ now_of log
        → window.lo ≤ instant → instant ≤ window.hi → due.by ≤ instant → since_source numbers due ≤ instant → IsDue log trace edge instant
    due_from edge due instant member within at upto from till since_window since_source =
        let of = due_of log number horizon edge due at in
        let own = common.of_each edge member in
        let same : own.0 ≡ of.window = cc (own.1, of.there) in
        let lo : own.0.lo ≡ of.window.lo = ap (λ (w : Window). w.lo) same in
        let start : ℕ = get_or numbers edge.source 0 in
        let number_is : get_or numbers due.source 0 ≡ start = ap (λ node. get_or numbers node 0) of.source in
        let source : time_of trace edge.source ≡ Some start =
        agree.early edge.source within (omega (arith, since_source, number_is, till, common.in_range, upto)) in (
          due.tmax,
          of.tmax,
          (by_window log trace edge number horizon instant due.tmax own.0 own.1 (omega (arith, own.2, from)) (omega (arith, own.3, till))).1
              (record {
                window = of.window;
                there = of.there;
                start = start;
                source = source;
                since_window = omega (arith, of.by, since_window);
                since_source = omega (arith, since_source, number_is);
              }),
        )

    -- and only there
    due_only : (edge : Edge) (due : Due) (instant : ℕ) → Contains edges edge → due_over log number horizon edge ≡ Some due
        → window.lo ≤ instant → instant ≤ window.hi
        → IsDue log trace edge instant → (due.by ≤ instant) × (since_source numbers due ≤ instant)
    due_only edge due instant member at from till is =
        let of = due_of log number horizon edge due at in
        let own = common.of_each edge member in
        let most : is.0 ≡ due.tmax = cc (is.1, of.tmax) in
        let has : HasAge log trace edge instant due.tmax = subst (λ age. HasAge log trace edge instant age) most is.2 in
        let age : HasAgeInWindow (window_of log edge number horizon) trace edge instant due.tmax =
        (by_window log trace edge number horizon instant due.tmax own.0 own.1 (omega (arith, own.2, from))
        (omega (arith, own.3, till))).0 has in
        let same : age.window ≡ of.window = cc (age.there, of.there) in
        let lo : age.window.lo ≡ of.window.lo = ap (λ (w : Window). w.lo) same in
        let number_is : get_or numbers due.source 0 ≡ get_or numbers edge.source 0 = ap (λ node. get_or numbers node 0) of.source in
        let start : get_or numbers edge.source 0 ≡ age.start = agree.number_is edge.source age.start age.source in (
          omega (arith, of.by, lo, age.since_window),
          omega (arith, number_is, start, age.since_source),
        )

    module _ (ds : List Due) (are : each_of (map (due_over log number horizon) edges) ≡ Some ds)
        (own : All (λ (edge : Edge). edge.target ≡ target) edges) where
      -- the source of each is an edge
      edge_of : (due : Due) → Contains ds due → (edge : Edge) × Contains edges edge × (due_over log number horizon edge ≡ Some due)
      edge_of due member = Contains-each_of_only (due_over log number horizon) edges ds due are member

      due_at_edge : (edge : Edge) → Contains edges edge → (due : Due) × Contains ds due × (due_over log number horizon edge ≡ Some due)
      due_at_edge edge member = Contains-each_of (due_over log number horizon) edges ds edge are member

      target_is : (due : Due) → Contains ds due → get_or numbers due.target 0 ≡ get_or numbers target 0
      target_is due member =
          let edge = edge_of due member in
          let of = due_of log number horizon edge.0 due edge.2 in
          ap (λ node. get_or numbers node 0) (of.target ∙ All-contains (λ (e : Edge). e.target ≡ target) edges edge.0 own edge.1)

      -- The alternatives are met where the rule holds at the instants of the window, and the window has room for all.
      met_alternatives : target < count → All (λ (edge : Edge). edge.source < count) edges → horizon ≤ now_of log
          → ((due : Due) → Contains ds due → due.by ≤ window.hi)
          → ((instant : ℕ) → window.lo ≤ instant → instant ≤ window.hi → ActiveOnce target edges instant)
          → MeetsClause numbers (must_alternatives target window.hi ds)
      met_alternatives within sources upto room rule = elim (some_late numbers window.hi ds) [
        | inl late ↦ (
            let edge = edge_of late.0 late.1 in
            let of = due_of log number horizon edge.0 late.0 edge.2 in (
              starts_late window.hi late.0,
              late_there target window.hi ds late.0 late.1,
              All-cons (Meets numbers) (at_least late.0.source (window.hi - late.0.tmax + 1)) []
                  (met_at_least numbers late.0.source (window.hi - late.0.tmax + 1) (omega (arith, late.2, room late.0 late.1, of.by)))
                  (All-nil _),
            )
            )
        | inr in_time ↦
            by (last_due numbers ds) (last_within numbers window.hi ds (λ due member. (room due member, in_time due member))) refl
      ]
        where
          by : (last : ℕ) → last ≤ window.hi → last ≡ last_due numbers ds → MeetsClause numbers (must_alternatives target window.hi ds)
          by last till is =
              let from : window.lo ≤ last = begun in
              let all : All (λ edge. IsDue log trace edge last) edges =
              All-from_members (λ edge. IsDue log trace edge last) edges
              (λ edge member.
              let due = due_at_edge edge member in
              let past = upto_last numbers ds due.0 due.1 in
              due_from edge due.0 last member (All-contains (λ (e : Edge). e.source < count) edges edge sources member) due.2 upto from till
              (omega (arith, past.0, is)) (omega (arith, past.1, is))) in
              let active : get_or numbers target 0 ≤ last =
              active_only count (now_of log) trace numbers agree target last (rule last from till all) in
              chosen (reached numbers (get_or numbers target 0) ds (omega (arith, active, is)))
            where
              begun : window.lo ≤ last
              begun = elim (cases_lt 0 window.lo) [
                | inl later ↦ (
                    let first = common.begins later in
                    let due = due_at_edge first.0 first.1 in
                    let of = due_of log number horizon first.0 due.0 due.2 in
                    let same : first.2 ≡ of.window = cc (first.3, of.there) in
                    let lo : first.2.lo ≡ of.window.lo = ap (λ (w : Window). w.lo) same in
                    omega (arith, (upto_last numbers ds due.0 due.1).0, is, of.by, lo, first.4)
                    )
                | inr zero ↦ omega (arith, zero)
              ]

              by_last : get_or numbers target 0 ≤ latest_of ds → MeetsClause numbers (must_alternatives target window.hi ds)
              by_last early = (
                at_most target (pos (latest_of ds)) ∷ [],
                last_there target window.hi ds,
                All-cons (Meets numbers) (at_most target (pos (latest_of ds))) [] (met_at_most numbers target (latest_of ds) early)
                    (All-nil _),
              )

              chosen : (get_or numbers target 0 ≤ 0)
                  ⊎
                  ((due : Due) × Contains ds due
                  × ((get_or numbers target 0 ≤ due.by) ⊎ (get_or numbers target 0 ≤ since_source numbers due)))
                  → MeetsClause numbers (must_alternatives target window.hi ds)
              chosen (inl none) = by_last (omega (arith, none))
              chosen (inr (due, member, inl by_window)) = by_last (omega (arith, by_window, by_latest ds due member))
              chosen (inr (due, member, inr by_source)) = (
                follows_in_time due,
                follows_there target window.hi ds due member,
                All-cons (Meets numbers) (at_most_after due.target due.source due.tmax) []
                    (met_at_most_after numbers due.target due.source due.tmax (omega (arith, by_source, target_is due member))) (All-nil _),
              )

      -- Where they are met, the number of the target is no later than an instant of the window at which all are due.
      by_alternatives : (instant : ℕ) → instant ≤ window.hi
          → ((due : Due) → Contains ds due → (due.by ≤ instant) × (since_source numbers due ≤ instant))
          → MeetsClause numbers (must_alternatives target window.hi ds) → get_or numbers target 0 ≤ instant
      by_alternatives instant till past met =
          elim (alternative_cases target window.hi ds met.0 met.1) [
            | inl late ↦ (
                let all : All (Meets numbers) (starts_late window.hi late.0) = subst (All (Meets numbers)) (sym late.2) met.2 in
                let starts =
                says_at_least numbers late.0.source (window.hi - late.0.tmax + 1) (all 0 (at_most target (pos 0)) (omega arith)) in
                absurd (omega (arith, starts, (past late.0 late.1).1, till))
                )
            | inr (inl soon) ↦ (
                let all : All (Meets numbers) (follows_in_time soon.0) = subst (All (Meets numbers)) (sym soon.2) met.2 in
                let follows =
                says_at_most_after numbers soon.0.target soon.0.source soon.0.tmax (all 0 (at_most target (pos 0)) (omega arith)) in
                omega (arith, follows, target_is soon.0 soon.1, (past soon.0 soon.1).1)
                )
            | inr (inr same) ↦ (
                let all : All (Meets numbers) (at_most target (pos (latest_of ds)) ∷ []) = subst (All (Meets numbers)) (sym same) met.2 in
                omega (
                  arith,
                  says_at_most numbers target (latest_of ds) (all 0 (at_most target (pos 0)) (omega arith)),
                  latest_upto instant ds (λ due member. (past due member).0),
                )
                )
          ]

    -- The clause is met where the target is active once all edges are due.
    pub must_is_met : (holds : Bool) (clause : List (List Constraint)) → target < count → All (λ (edge : Edge). edge.source < count) edges
        → All (λ (edge : Edge). edge.target ≡ target) edges
        → horizon ≤ now_of log → ((instant : ℕ) → instant ≤ now_of log → ActiveOnce target edges instant)
        → must_by holds target number (Some window) (dues_of log number horizon edges) ≡ Some clause
        → MeetsClause numbers clause
    must_is_met true clause within sources own upto rule allowed =
        option_and_then_some (λ (ds : List Due). must_in target number window ds)
        (each_of (map (due_over log number horizon) edges)) clause allowed
        (λ ds are rest.
        let parts =
        then_some-true (eqb window.first number && list_all (fits window.hi) ds) (must_alternatives target window.hi ds) clause rest in
        let all =
        AllPass-from_list_all (fits window.hi) ds (and_parts (eqb window.first number) (list_all (fits window.hi) ds) parts.0).1 in
        subst (MeetsClause numbers) parts.1
        (met_alternatives ds are own within sources upto
        (λ due member. leb-true due.by window.hi (All-contains (λ (d : Due). fits window.hi d ≡ true) ds due all member))
        (λ instant from till. rule instant (omega (arith, till, common.in_range, upto)))))
    must_is_met false clause within sources own upto rule allowed = absurd cc

    -- The target is active once all edges are due, where the clause is met.
    pub must_is_kept : (holds : Bool) (instant : ℕ) → holds ≡ true → window.first ≡ number → target < count
        → All (λ (edge : Edge). edge.target ≡ target) edges → horizon ≤ now_of log
        → window.lo ≤ instant → instant ≤ window.hi
        → ((clause : List (List Constraint)) → must_by holds target number (Some window) (dues_of log number horizon edges) ≡ Some clause
        → MeetsClause numbers clause) → ActiveOnce target edges instant
    must_is_kept holds instant passes first within own upto from till met dues =
        let there = each_of-from_each (due_over log number horizon) edges (λ edge member. is_there edge member) in
        let ds : List Due = there.0 in
        let past : (due : Due) → Contains ds due → (due.by ≤ instant) × (since_source numbers due ≤ instant) =
        λ due member.
        let edge = Contains-each_of_only (due_over log number horizon) edges ds due there.1 member in
        due_only edge.0 due instant edge.1 edge.2 from till (All-contains (λ e. IsDue log trace e instant) edges edge.0 dues edge.1) in
        let room : list_all (fits window.hi) ds ≡ true =
        list_all-from_AllPass (fits window.hi) ds
        (All-from_members (λ (due : Due). fits window.hi due ≡ true) ds
        (λ due member. le-leb due.by window.hi (omega (arith, (past due member).0, till)))) in
        let test : (eqb window.first number && list_all (fits window.hi) ds) ≡ true =
        and_from (eqb window.first number) (list_all (fits window.hi) ds) (eq-eqb window.first number first) room in
        let clause : must_by holds target number (Some window) (dues_of log number horizon edges)
        ≡ Some (must_alternatives target window.hi ds) =
        must_found log holds target edges number horizon passes (Some window) window refl
        ∙ ap (option_and_then (λ (xs : List Due). must_in target number window xs)) there.1
        ∙ ap (λ (b : Bool). then_some b (must_alternatives target window.hi ds)) test in
        active_from count (now_of log) trace numbers agree target instant within (omega (arith, till, common.in_range, upto))
        (by_alternatives ds there.1 own instant till past (met (must_alternatives target window.hi ds) clause))
      where
        is_there : (edge : Edge) → Contains edges edge → (due : Due) × (due_over log number horizon edge ≡ Some due)
        is_there edge member =
            let is = All-contains (λ e. IsDue log trace e instant) edges edge dues member in
            let has = common.of_each edge member in (
              record { source = edge.source; target = edge.target; tmax = is.0; by = has.0.lo + is.0 },
              ap
                  (option_and_then
                  (λ t. option_map (λ (w : Window). record { source = edge.source; target = edge.target; tmax = t; by = w.lo + t })
                  (window_of log edge number horizon))) is.1
                  ∙ ap
                  (option_map (λ (w : Window). record { source = edge.source; target = edge.target; tmax = is.0; by = w.lo + is.0 })) has.1,
            )
