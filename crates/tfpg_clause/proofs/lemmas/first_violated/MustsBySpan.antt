-- The must clauses of an edge into an OR node, and of an AND node, by their spans.
use Rattle.std.proofs.Common.{◌≡◌, ℕ, ◌<◌, ◌≤◌, Bool, true, cond, leb, List, [], ◌∷◌, get_or, min, Option, Some, None, sym, ap, subst, ◌∙◌, arith}
use Rattle.std.specs.Prelude.{◌↔◌, IsSomeAnd, option_map, option_and_then, slice_get}
use Rattle.std.proofs.lemmas.Option.{none-some}
use Rattle.tfpg_base.specs.declared.constraint.Constraint.{Constraint}
use Rattle.tfpg_graph.specs.declared.edge.Edge.{Edge}
use Rattle.tfpg_graph.specs.Graph.{Tfpg, is_kind_at, is_or, is_and, incoming, edges_into}
use Rattle.tfpg_log.specs.declared.span.Window.{Window}
use Rattle.tfpg_log.specs.Log.{Logbook, now_of, is_active_at}
use Rattle.tfpg_log.specs.Spans.{span_number, are_active_at, window_of, joint_of}
use Rattle.tfpg_log.specs.Runs.{IsWindowRound}
use Rattle.tfpg_log.proofs.lemmas.instants.WindowRuns.{edge_window, node_window}
use Rattle.tfpg_base.proofs.lemmas.lists.Choices.{IsSomeAnd-there}
use Rattle.tfpg_clause.specs.Clauses.{dues_of, must_by, MeetsClause}
use Rattle.tfpg_clause.specs.inside.ClausesByKind.{or_must, and_must}
use Rattle.tfpg_clause.specs.inside.FirstSpan.{MeetsIfAny, IsViolated, MeetsEach, MeetsUpTo, must_over}
use Rattle.tfpg_clause.specs.inside.Musts.{AreEdgesOf, musts_of, window_by}
use Rattle.tfpg_clause.proofs.lemmas.alternatives.ClauseFound.{or_must_found, and_must_found, no_must_of_edge}
use Rattle.tfpg_clause.proofs.lemmas.logs.StaysAllowed.{must_has_window}
use Rattle.tfpg_clause.proofs.lemmas.first_violated.MustSpans.{violated_from, met_each, met_before, met_before_window, met_without, met_within, met_all}
use Rattle.tfpg_clause.specs.inside.Alternatives.{target_of_kind, due_by_number, dues_over}
use Rattle.tfpg_clause.specs.inside.Overdue.{IsExcusedBySome}
use Rattle.tfpg_clause.proofs.lemmas.first_violated.MustMet.{met_if_excused}
use Rattle.tfpg_clause.proofs.lemmas.first_violated.ActiveBefore.{met_when_active}
use Rattle.tfpg_clause.proofs.lemmas.rules.RulesMet.{edge_common, joint_common}

-- an edge that enters the target is there
pub entered : (edge : Option Edge) (target : ℕ) → Some target ≡ option_map (λ (e : Edge). e.target) edge
    → IsSomeAnd edge (λ e. e.target ≡ target)
entered None target own = absurd cc
entered (Some e) target own = cc

-- These are, by their spans, the clauses that the node is active once the failure is due by all these edges. Each stands in the first
-- span of a window, and is met where the node is active by its beginning.
pub record AreMusts (graph : Tfpg) (log : Logbook) (node : ℕ) (edges : List ℕ) (edge : Option ℕ)
    (clauses : ℕ → Option (List (List Constraint))) : Type 0 where
  pub passes : ℕ → Bool
  pub found : (number : ℕ) (window : Window) →
      (window_by graph log node edge number (now_of log) ≡ Some window) ↔ IsWindowRound log passes number (now_of log) window
  pub begins : (number : ℕ) (all : List (List Constraint)) → clauses number ≡ Some all →
      (window : Window) × (window_by graph log node edge number (now_of log) ≡ Some window) × (window.first ≡ number)
  pub is : (number : ℕ) (window : Window) → window_by graph log node edge number (now_of log) ≡ Some window →
      clauses number ≡ must_over node number window (dues_over graph log number (now_of log) edges)
  pub active : (times : List ℕ) (number : ℕ) (window : Window) (all : List (List Constraint)) → clauses number ≡ Some all →
      window_by graph log node edge number (now_of log) ≡ Some window → get_or times node 0 ≤ window.lo → MeetsClause times all

module _ (graph : Tfpg) (log : Logbook) (times : List ℕ) where
  -- ---- an OR node

  -- an edge that enters none has no must clause of an OR node
  pub no_or_must : (edge : Option Edge) → None ≡ target_of_kind is_or graph edge
      → MeetsEach times (λ number. option_and_then (λ e. or_must graph log e number (now_of log)) edge)
  no_or_must edge none number all at = absurd (none-some all (sym (no_must_of_edge graph log number (now_of log) edge none) ∙ at))

  module _ (edge target : ℕ) where
    module _ (own : IsSomeAnd (slice_get graph.edges edge) (λ e. e.target ≡ target)) where
      edge_found : (number : ℕ) (window : Window)
          → (option_and_then (λ e. window_of log e number (now_of log)) (slice_get graph.edges edge) ≡ Some window)
          ↔ IsWindowRound log
          (is_active_at log (IsSomeAnd-there (λ (e : Edge). e.target ≡ target) (slice_get graph.edges edge) own).0) number
          (now_of log) window
      edge_found number window =
          let one = IsSomeAnd-there (λ (e : Edge). e.target ≡ target) (slice_get graph.edges edge) own in
          subst
          (λ (o : Option Edge). (option_and_then (λ e. window_of log e number (now_of log)) o ≡ Some window)
          ↔ IsWindowRound log (is_active_at log one.0) number (now_of log) window)
          (sym one.1) (edge_window log one.0 number (now_of log) window)

      edge_begins : (number : ℕ) (all : List (List Constraint))
          → option_and_then (λ e. or_must graph log e number (now_of log)) (slice_get graph.edges edge) ≡ Some all
          → (window : Window) × (option_and_then (λ e. window_of log e number (now_of log)) (slice_get graph.edges edge) ≡ Some window)
          × (window.first ≡ number)
      edge_begins number all at = by (slice_get graph.edges edge) at
        where
          by : (o : Option Edge) → option_and_then (λ e. or_must graph log e number (now_of log)) o ≡ Some all
              → (window : Window) × (option_and_then (λ e. window_of log e number (now_of log)) o ≡ Some window) × (window.first ≡ number)
          by None at = absurd cc
          by (Some e) at =
              must_has_window log (is_kind_at is_or graph e.target) e.target (e ∷ []) (window_of log e number (now_of log)) number
              (now_of log) all at

      edge_active : (numbers : List ℕ) (number : ℕ) (window : Window) (all : List (List Constraint))
          → option_and_then (λ e. or_must graph log e number (now_of log)) (slice_get graph.edges edge) ≡ Some all
          → option_and_then (λ e. window_of log e number (now_of log)) (slice_get graph.edges edge) ≡ Some window
          → get_or numbers target 0 ≤ window.lo → MeetsClause numbers all
      edge_active numbers number window all at there early = by (slice_get graph.edges edge) own at there
        where
          by : (o : Option Edge) → IsSomeAnd o (λ e. e.target ≡ target)
              → option_and_then (λ e. or_must graph log e number (now_of log)) o ≡ Some all
              → option_and_then (λ e. window_of log e number (now_of log)) o ≡ Some window → MeetsClause numbers all
          by None is at there = absurd cc
          by (Some e) is at there =
              met_when_active log numbers e.target number (now_of log) (e ∷ []) window (edge_common log e number (now_of log) window there)
              (subst (λ n. get_or numbers n 0 ≤ window.lo) (sym is) early) (is_kind_at is_or graph e.target) all
              (subst
              (λ (w : Option Window). must_by (is_kind_at is_or graph e.target) e.target number w (dues_of log number (now_of log) (e ∷ []))
              ≡ Some all) there at)

      module _ (or : is_kind_at is_or graph target ≡ true) where
        edge_is : (number : ℕ) (window : Window)
            → option_and_then (λ e. window_of log e number (now_of log)) (slice_get graph.edges edge) ≡ Some window
            → option_and_then (λ e. or_must graph log e number (now_of log)) (slice_get graph.edges edge)
            ≡ must_over target number window (dues_over graph log number (now_of log) (edge ∷ []))
        edge_is number window there =
            let one = IsSomeAnd-there (λ (e : Edge). e.target ≡ target) (slice_get graph.edges edge) own in
            or_must_found graph log number (now_of log) target window (slice_get graph.edges edge)
            (sym (ap (option_map (λ (e : Edge). e.target)) one.1 ∙ ap Some one.2)) or (sym there)

        -- the must clauses of an edge into an OR node
        pub or_musts : AreMusts graph log target (edge ∷ []) (Some edge)
            (λ number. option_and_then (λ e. or_must graph log e number (now_of log)) (slice_get graph.edges edge))
        or_musts = record {
          passes = is_active_at log (IsSomeAnd-there (λ (e : Edge). e.target ≡ target) (slice_get graph.edges edge) own).0;
          found = edge_found;
          begins = edge_begins;
          is = edge_is;
          active = edge_active;
        }

  -- ---- an AND node
  module _ (node : ℕ) where
    node_begins : (number : ℕ) (all : List (List Constraint)) → and_must graph log node number (now_of log) ≡ Some all
        → (window : Window) × (joint_of graph log node number (now_of log) ≡ Some window) × (window.first ≡ number)
    node_begins number all at =
        must_has_window log (is_kind_at is_and graph node) node (edges_into graph node) (joint_of graph log node number (now_of log)) number
        (now_of log) all at

    node_active : (numbers : List ℕ) (number : ℕ) (window : Window) (all : List (List Constraint))
        → and_must graph log node number (now_of log) ≡ Some all
        → joint_of graph log node number (now_of log) ≡ Some window → get_or numbers node 0 ≤ window.lo → MeetsClause numbers all
    node_active numbers number window all at there early =
        met_when_active log numbers node number (now_of log) (edges_into graph node) window
        (joint_common graph log node number (now_of log) window there) early (is_kind_at is_and graph node) all
        (subst
        (λ (w : Option Window). must_by (is_kind_at is_and graph node) node number w
        (dues_of log number (now_of log) (edges_into graph node)) ≡ Some all) there at)

    -- the must clauses of an AND node
    pub and_musts : is_kind_at is_and graph node ≡ true
        → AreMusts graph log node (incoming graph node) None (λ number. and_must graph log node number (now_of log))
    and_musts and = record {
      passes = are_active_at graph log node;
      found = λ number window. node_window graph log node number (now_of log) window;
      begins = node_begins;
      is = λ number window there. and_must_found graph log node number (now_of log) window and there;
      active = node_active;
    }

-- ---- the must clauses by their spans

module _ (graph : Tfpg) (log : Logbook) (times : List ℕ) (node : ℕ) (edges : List ℕ) (edge : Option ℕ)
    (due : AreEdgesOf graph node edges edge) where
  musts : AreMusts graph log node edges edge (musts_of graph log node edge)
  musts = by edge due
    where
      by : (o : Option ℕ) → AreEdgesOf graph node edges o → AreMusts graph log node edges o (musts_of graph log node o)
      by (Some e) own =
          subst (λ (es : List ℕ). AreMusts graph log node es (Some e) (musts_of graph log node (Some e))) (sym own.0)
          (or_musts graph log times e node own.1 own.2)
      by None own =
          subst (λ (es : List ℕ). AreMusts graph log node es None (musts_of graph log node None)) (sym own.0)
          (and_musts graph log times node own.1)

  met_excused : (other : ℕ) (window : Window) → window_by graph log node edge other (now_of log) ≡ Some window
      → IsExcusedBySome graph times edges window.hi
      → MeetsIfAny times (musts_of graph log node edge other)
  met_excused other window at excuse =
      subst (MeetsIfAny times) (sym (musts.is other window at))
      (met_if_excused (due_by_number graph log other (now_of log)) edges times node other window
      (excuse.0, excuse.1, excuse.2 log other (now_of log)))

  -- Each clause is met where the times are excused in each window,
  pub must_met_excused : ((hi : ℕ) → IsExcusedBySome graph times edges hi) → MeetsEach times (musts_of graph log node edge)
  must_met_excused excused =
      met_each log times musts.passes (λ n. window_by graph log node edge n (now_of log))
      (musts_of graph log node edge) musts.found musts.begins
      (λ other window at within. met_excused other window at (excused window.hi))

  module _ (instant : ℕ) (excused : (hi : ℕ) → hi < instant → IsExcusedBySome graph times edges hi) where
    -- or where they are before an instant after now.
    pub must_met_late : now_of log < instant → MeetsEach times (musts_of graph log node edge)
    must_met_late after =
        met_each log times musts.passes (λ n. window_by graph log node edge n (now_of log))
        (musts_of graph log node edge) musts.found musts.begins
        (λ other window at within. met_excused other window at (excused window.hi (omega (arith, within, after))))

    module _ (number horizon : ℕ) (numbered : span_number log instant ≡ number) (at : horizon ≡ now_of log) where
      -- Else the clauses are met before the span of the instant, where there is no window round it,
      pub must_met_before : None ≡ window_by graph log node edge number horizon → (other : ℕ) → other < number
          → MeetsIfAny times (musts_of graph log node edge other)
      must_met_before none other before =
          met_before log times musts.passes (λ n. window_by graph log node edge n (now_of log))
          (musts_of graph log node edge) musts.found musts.begins instant
          (λ other window at past. met_excused other window at (excused window.hi past))
          (none ∙ (λ i. window_by graph log node edge (sym numbered i) (at i))) other (omega (arith, before, numbered))

      -- and else before the first span of that.
      pub must_met_before_window : (window : Window) → Some window ≡ window_by graph log node edge number horizon → (other : ℕ)
          → other < window.first
          → MeetsIfAny times (musts_of graph log node edge other)
      must_met_before_window window there =
          met_before_window log times musts.passes (λ n. window_by graph log node edge n (now_of log))
          (musts_of graph log node edge) musts.found musts.begins instant
          (λ other window at past. met_excused other window at (excused window.hi past)) window
          (sym (there ∙ (λ i. window_by graph log node edge (sym numbered i) (at i))))

  -- Where there is no window,
  pub must_met_without : (number horizon : ℕ) → horizon ≡ now_of log → None ≡ window_by graph log node edge number horizon
      → MeetsUpTo times (musts_of graph log node edge) number (Some number)
  must_met_without number horizon at none =
      met_without log times musts.passes (λ n. window_by graph log node edge n (now_of log))
      (musts_of graph log node edge) musts.found musts.begins number
      (none ∙ ap (window_by graph log node edge number) at)

  module _ (number horizon : ℕ) (at : horizon ≡ now_of log) (window : Window)
      (there : Some window ≡ window_by graph log node edge number horizon) where
    window_is : window_by graph log node edge number (now_of log) ≡ Some window
    window_is = sym (there ∙ ap (window_by graph log node edge number) at)

    -- where the clause in it is met,
    pub must_met_within : (result : Option ℕ)
        → MeetsIfAny times (must_over node number window (dues_over graph log number (now_of log) edges))
        → result ≡ cond (leb window.hi (now_of log)) (Some (span_number log window.hi)) None
        → MeetsUpTo times (musts_of graph log node edge) number result
    must_met_within result met end =
        met_within log times musts.passes (λ n. window_by graph log node edge n (now_of log))
        (musts_of graph log node edge) musts.found musts.begins number window result window_is
        (subst (MeetsIfAny times) (sym (musts.is number window window_is)) met) end

    -- and where it is not.
    pub must_not_met : (MeetsIfAny times (must_over node number window (dues_over graph log number (now_of log) edges)) → ⊥)
        → IsViolated times (musts_of graph log node edge number)
    must_not_met not_met =
        violated_from times (musts_of graph log node edge number)
        (λ met. not_met (subst (MeetsIfAny times) (musts.is number window window_is) met))

  -- After the span of the node's time, or of now where that is earlier, each clause is met.
  pub must_met_all : (number end until : ℕ) → end ≡ min (get_or times node 0) (now_of log) → span_number log end ≤ until
      → ((other : ℕ) → other < number → MeetsIfAny times (musts_of graph log node edge other))
      → ((other : ℕ) → number ≤ other → other ≤ until → MeetsIfAny times (musts_of graph log node edge other))
      → MeetsEach times (musts_of graph log node edge)
  must_met_all number end until is last before here =
      met_all log times musts.passes (λ n. window_by graph log node edge n (now_of log))
      (musts_of graph log node edge) musts.found musts.begins number end until
      (λ other window at by_now later all there. musts.active times other window all there at
      (omega (arith, is, by_now, later))) last before here
