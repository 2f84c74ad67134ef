-- The first violated clause of all kinds.
use Rattle.std.proofs.Common.{◌≡◌, ℕ, zero, suc, ◌+◌, ◌<◌, ◌≤◌, List, [], ◌∷◌, length, get_or, Option, Some, None, refl, sym, ap, subst, ◌∙◌, ◌⊎◌, inl, inr, arith}
use Rattle.std.specs.Prelude.{MatchOption, ◌↔◌, slice_get}
use Rattle.std.proofs.lemmas.Bool.{cases_lt, cases_eq}
use Rattle.std.proofs.lemmas.Option.{option_and_then_some, slice_get_within}
use Rattle.tfpg_base.specs.declared.constraint.Constraint.{Constraint}
use Rattle.tfpg_graph.specs.Graph.{Tfpg, is_kind_at, is_or, is_and, edges_into}
use Rattle.tfpg_graph.specs.Valid.{IsValid}
use Rattle.tfpg_graph.proofs.lemmas.NodeAt.{kind_within}
use Rattle.tfpg_log.specs.Log.{Logbook, now_of}
use Rattle.tfpg_log.specs.Rules.{KeepsRules}
use Rattle.tfpg_log.specs.Spans.{joint_of}
use Rattle.tfpg_evidence.specs.declared.clause_name.ClauseName.{ClauseName}
use Rattle.tfpg_evidence.specs.declared.clause_name.ClauseName.TheVariants.{OrMay, AndMay, OrMust, AndMust}
use Rattle.tfpg_clause.specs.declared.clause_kind.ClauseKind.{ClauseKind}
use Rattle.tfpg_clause.specs.declared.clause_kind.ClauseKind.TheVariants as kind
use Rattle.tfpg_clause.specs.Clauses.{alternatives}
use Rattle.tfpg_clause.specs.inside.ClausesByKind.{and_may, or_must}
use Rattle.tfpg_clause.specs.Cut.{cut, AreNumbers}
use Rattle.tfpg_clause.specs.Order.{horizon_of, subject_of, span_of, kind_index_of, ComesBefore, MeetsNamed, IsFirstViolated, MeetAllNow}
use Rattle.tfpg_clause.specs.inside.FirstSpan.{MeetsIfAny, MeetsEach, IsFirstOfKind, MeetsKind, clauses_of, named, subject_count}
use Rattle.tfpg_clause.proofs.lemmas.traces.TraceAgrees.{of_cut}
use Rattle.tfpg_clause.proofs.lemmas.rules.RulesMet.{may_holds, must_holds, clause_is_met, rules_are_kept}

-- the index of a kind, as its names have it
abbrev pub index_of_kind : ClauseKind → ℕ
index_of_kind kind = kind_index_of (named kind 0 0 0)

-- the kind of a name
kind_of : ClauseName → ClauseKind
kind_of (OrMay node span horizon) = kind.OrMay
kind_of (AndMay edge span horizon) = kind.AndMay
kind_of (OrMust edge span horizon) = kind.OrMust
kind_of (AndMust node span horizon) = kind.AndMust

-- Each name is that of its kind, its node or edge, its span and its horizon,
name_is : (name : ClauseName) → named (kind_of name) (subject_of name) (span_of name) (horizon_of name) ≡ name
unfolding kind_of
name_is (OrMay node span horizon) = refl
name_is (AndMay edge span horizon) = refl
name_is (OrMust edge span horizon) = refl
name_is (AndMust node span horizon) = refl

-- and has the index of its kind.
kind_index_is : (name : ClauseName) → kind_index_of name ≡ index_of_kind (kind_of name)
unfolding kind_of
kind_index_is (OrMay node span horizon) = refl
kind_index_is (AndMay edge span horizon) = refl
kind_index_is (OrMust edge span horizon) = refl
kind_index_is (AndMust node span horizon) = refl

-- the kind at an index
abbrev kind_of_index : ℕ → ClauseKind
kind_of_index zero = kind.OrMay
kind_of_index (suc zero) = kind.AndMay
kind_of_index (suc (suc zero)) = kind.OrMust
kind_of_index (suc (suc (suc more))) = kind.AndMust

of_own_index : (own : ClauseKind) → kind_of_index (index_of_kind own) ≡ own
of_own_index kind.OrMay = refl
of_own_index kind.AndMay = refl
of_own_index kind.OrMust = refl
of_own_index kind.AndMust = refl

-- kinds of one index are the same,
same_kind : (one other : ClauseKind) → index_of_kind one ≡ index_of_kind other → one ≡ other
same_kind one other is = sym (of_own_index one) ∙ ap kind_of_index is ∙ of_own_index other

-- names of the same parts are the same,
pub same_parts : (one other : ClauseName) → kind_index_of one ≡ kind_index_of other → subject_of one ≡ subject_of other
    → span_of one ≡ span_of other → horizon_of one ≡ horizon_of other → one ≡ other
same_parts one other kind_index subject span horizon =
    let alike = same_kind (kind_of one) (kind_of other) (sym (kind_index_is one) ∙ kind_index ∙ kind_index_is other) in
    sym (name_is one) ∙ (λ i. named (alike i) (subject i) (span i) (horizon i)) ∙ name_is other

-- and a name has the parts that it was made of
named_parts : (own : ClauseKind) (subject span horizon : ℕ) → (kind_index_of (named own subject span horizon) ≡ index_of_kind own)
    × (subject_of (named own subject span horizon) ≡ subject)
    × (span_of (named own subject span horizon) ≡ span)
    × (horizon_of (named own subject span horizon) ≡ horizon)
named_parts kind.OrMay subject span horizon = (refl, refl, refl, refl)
named_parts kind.AndMay subject span horizon = (refl, refl, refl, refl)
named_parts kind.OrMust subject span horizon = (refl, refl, refl, refl)
named_parts kind.AndMust subject span horizon = (refl, refl, refl, refl)

-- all kinds, in their order
abbrev pub all_kinds : List ClauseKind
all_kinds = kind.OrMay ∷ kind.AndMay ∷ kind.OrMust ∷ kind.AndMust ∷ []

module _ (graph : Tfpg) (log : Logbook) (times : List ℕ) where
  -- a node or an edge past the last has no clause
  none_past : (kind : ClauseKind) (subject span : ℕ) (all : List (List Constraint)) → subject_count graph kind ≤ subject
      → clauses_of graph log kind subject span ≡ Some all → ⊥
  none_past kind.OrMay subject span all past at =
      omega (
        arith,
        past,
        kind_within graph is_or subject
            (may_holds log (is_kind_at is_or graph subject) subject (edges_into graph subject) span (now_of log) all at),
      )
  none_past kind.AndMay subject span all past at =
      option_and_then_some (λ e. and_may graph log e span (now_of log)) (slice_get graph.edges subject) all at
      (λ e there rest. omega (arith, past, slice_get_within graph.edges subject e there))
  none_past kind.OrMust subject span all past at =
      option_and_then_some (λ e. or_must graph log e span (now_of log)) (slice_get graph.edges subject) all at
      (λ e there rest. omega (arith, past, slice_get_within graph.edges subject e there))
  none_past kind.AndMust subject span all past at =
      omega (
        arith,
        past,
        kind_within graph is_and subject
            (must_holds log (is_kind_at is_and graph subject) subject (edges_into graph subject)
            (joint_of graph log subject span (now_of log)) span (now_of log) all at),
      )

  -- The clauses of a kind are met where those of its nodes or edges are.
  pub kind_met : (kind : ClauseKind)
      → ((subject : ℕ) → subject < subject_count graph kind → MeetsEach times (clauses_of graph log kind subject))
      → MeetsKind graph log times kind
  kind_met kind each subject = elim (cases_lt subject (subject_count graph kind)) [
    | inl within ↦ each subject within
    | inr past ↦ (λ span all at. absurd (none_past kind subject span all past at))
  ]

  -- The clauses of one more node or edge, or of one more kind.
  pub subjects_more : (kind : ClauseKind) (subject : ℕ)
      → ((other : ℕ) → other < subject → MeetsEach times (clauses_of graph log kind other))
      → MeetsEach times (clauses_of graph log kind subject)
      → (other : ℕ) → other < subject + 1 → MeetsEach times (clauses_of graph log kind other)
  subjects_more kind subject before here other below = elim (cases_eq other subject) [
    | inl same ↦ subst (λ s. MeetsEach times (clauses_of graph log kind s)) (sym same) here
    | inr apart ↦ before other (omega (arith, below, apart))
  ]

  kinds_more : (index : ℕ) (kind : ClauseKind) → index_of_kind kind ≡ index
      → ((other : ClauseKind) → index_of_kind other < index → MeetsKind graph log times other) → MeetsKind graph log times kind
      → (other : ClauseKind) → index_of_kind other < index + 1 → MeetsKind graph log times other
  kinds_more index kind is before here other below = elim (cases_eq (index_of_kind other) index) [
    | inl same ↦ subst (MeetsKind graph log times) (sym (same_kind other kind (same ∙ sym is))) here
    | inr apart ↦ before other (omega (arith, below, apart))
  ]

  met_named : (kind : ClauseKind) (subject span : ℕ) (name : ClauseName) → named kind subject span (now_of log) ≡ name
      → MeetsIfAny times (clauses_of graph log kind subject span)
      → MeetsNamed graph log times name
  met_named kind subject span name is met = subst (MeetsNamed graph log times) is met

  -- the name by its parts, where its horizon is now
  own_name : (name : ClauseName) → horizon_of name ≡ now_of log → named (kind_of name) (subject_of name) (span_of name) (now_of log) ≡ name
  own_name name at_now = ap (λ h. named (kind_of name) (subject_of name) (span_of name) h) (sym at_now) ∙ name_is name

  -- All clauses are met where those of each kind are.
  all_met : ((kind : ClauseKind) → MeetsKind graph log times kind) → MeetAllNow graph log times
  all_met each name at_now =
      met_named (kind_of name) (subject_of name) (span_of name) name (own_name name at_now)
      (each (kind_of name) (subject_of name) (span_of name))

  -- The first of a kind is the first of all, where those of each kind before are met.
  first_of_all : (kind : ClauseKind) (name : ClauseName)
      → ((other : ClauseKind) → index_of_kind other < index_of_kind kind → MeetsKind graph log times other)
      → IsFirstOfKind graph log times kind name → IsFirstViolated graph log times name
  first_of_all kind name before is = record {
    at_now = ap horizon_of is.is ∙ (named_parts kind is.subject is.span (now_of log)).3;
    violated = record {
      clause = is.first.violated.all;
      allowed = ap (alternatives graph log) is.is ∙ is.first.violated.there;
      not_met = is.first.violated.not_met;
    };
    first = λ other at_now comes.
        met_named (kind_of other) (subject_of other) (span_of other) other (own_name other at_now) (by other comes);
  }
    where
      kind_index : kind_index_of name ≡ index_of_kind kind
      kind_index = ap kind_index_of is.is ∙ (named_parts kind is.subject is.span (now_of log)).0

      subject : subject_of name ≡ is.subject
      subject = ap subject_of is.is ∙ (named_parts kind is.subject is.span (now_of log)).1

      span : span_of name ≡ is.span
      span = ap span_of is.is ∙ (named_parts kind is.subject is.span (now_of log)).2

      by : (other : ClauseName) → ComesBefore other name
          → MeetsIfAny times (clauses_of graph log (kind_of other) (subject_of other) (span_of other))
      by other (inl earlier) =
          before (kind_of other) (omega (arith, earlier, kind_index, kind_index_is other)) (subject_of other) (span_of other)
      by other (inr (same, rest)) =
          let own : kind_of other ≡ kind = same_kind (kind_of other) kind (sym (kind_index_is other) ∙ same ∙ kind_index) in
          subst (λ k. MeetsIfAny times (clauses_of graph log k (subject_of other) (span_of other))) (sym own) (within rest)
        where
          within : (subject_of other < subject_of name) ⊎ ((subject_of other ≡ subject_of name) × (span_of other < span_of name))
              → MeetsIfAny times (clauses_of graph log kind (subject_of other) (span_of other))
          within (inl lesser) = is.before (subject_of other) (omega (arith, lesser, subject)) (span_of other)
          within (inr (equal, early)) =
              subst (λ s. MeetsIfAny times (clauses_of graph log kind s (span_of other))) (sym (equal ∙ subject))
              (is.first.before (span_of other) (omega (arith, early, span)))

  -- Nothing is violated exactly where the times, cut at now, keep the rules.
  pub none_where_kept : IsValid graph → AreNumbers graph times → (result : Option ClauseName)
      → MatchOption result (MeetAllNow graph log times) (IsFirstViolated graph log times)
      → (result ≡ None) ↔ KeepsRules graph log (cut (now_of log) times)
  none_where_kept valid are None met = (
    λ none. rules_are_kept graph log (cut (now_of log) times) times valid (of_cut (length graph.nodes) (now_of log) times are.one_each)
        (λ name clause at_now allowed. met name at_now clause allowed),
    λ kept. refl,
  )
  none_where_kept valid are (Some name) first = (
    λ none. absurd cc,
    λ kept.
        absurd
        (first.violated.not_met
        (clause_is_met graph log (cut (now_of log) times) times valid
        (of_cut (length graph.nodes) (now_of log) times are.one_each) kept name first.violated.clause first.violated.allowed)),
  )

  -- ---- the kinds in their order

  -- the kind at an index has that index,
  at_index : (index : ℕ) → index < 4 → index_of_kind (get_or all_kinds index kind.OrMay) ≡ index
  at_index zero within = refl
  at_index (suc zero) within = refl
  at_index (suc (suc zero)) within = refl
  at_index (suc (suc (suc zero))) within = refl
  at_index (suc (suc (suc (suc more)))) within = absurd (omega arith)

  -- the first of that kind is the first of all, where those before are met;
  pub first_at_index : (index : ℕ) (name : ClauseName) → index < 4
      → ((other : ClauseKind) → index_of_kind other < index → MeetsKind graph log times other)
      → IsFirstOfKind graph log times (get_or all_kinds index kind.OrMay) name → IsFirstViolated graph log times name
  first_at_index index name within before is =
      first_of_all (get_or all_kinds index kind.OrMay) name
      (λ other earlier. before other (omega (arith, earlier, at_index index within))) is

  -- with that kind, one more is met;
  pub kind_at_index : (index : ℕ) → index < 4 → ((other : ClauseKind) → index_of_kind other < index → MeetsKind graph log times other)
      → MeetsKind graph log times (get_or all_kinds index kind.OrMay) → (other : ClauseKind) → index_of_kind other < index + 1
      → MeetsKind graph log times other
  kind_at_index index within before here = kinds_more index (get_or all_kinds index kind.OrMay) (at_index index within) before here

  -- and after the last, all are.
  pub met_at_indexes : (index : ℕ) → 4 ≤ index → ((other : ClauseKind) → index_of_kind other < index → MeetsKind graph log times other)
      → MeetAllNow graph log times
  met_at_indexes index past before = all_met (λ kind. before kind (omega (arith, four kind, past)))
    where
      four : (k : ClauseKind) → index_of_kind k < 4
      four kind.OrMay = omega arith
      four kind.AndMay = omega arith
      four kind.OrMust = omega arith
      four kind.AndMust = omega arith
