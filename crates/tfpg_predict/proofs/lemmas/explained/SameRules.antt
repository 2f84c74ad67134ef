-- The rules of a node depend on the modes, on its edges, and on the times of it and of their sources.
use Rattle.std.proofs.Common.{◌≡◌, ℕ, Bool, List, All, Contains, sym, ap, ◌∙◌, subst, arith}
use Rattle.std.proofs.lemmas.List.Elements.{All-contains}
use Rattle.tfpg_base.specs.declared.activation.Activation.{Activation}
use Rattle.tfpg_base.specs.Trace.{time_of}
use Rattle.tfpg_base.proofs.lemmas.lists.Elements.{All-from_members}
use Rattle.tfpg_graph.specs.declared.kind.Kind.{Kind}
use Rattle.tfpg_graph.specs.declared.edge.Edge.{Edge}
use Rattle.tfpg_graph.specs.Graph.{Tfpg, is_kind_at, is_or, is_and, is_active_in, edges_into}
use Rattle.tfpg_log.specs.Log.{Logbook, now_of, mode_at}
use Rattle.tfpg_log.specs.Rules.{IsActive, HasAge, IsDue, KeepsMay, KeepsMust, KeepsRulesOf}

-- An edge has the same ages where its source has the same time and the instants have the same modes.
pub age_same : (log other : Logbook) (trace times : List Activation) (edge : Edge) → ((instant : ℕ) → mode_at log instant ≡ mode_at other instant)
    → time_of trace edge.source ≡ time_of times edge.source → (instant age : ℕ) → HasAge log trace edge instant age → HasAge other times edge instant age
age_same log other trace times edge modes source instant age is = record {
  start = is.start;
  source = sym source ∙ is.source;
  since = is.since;
  active_since = λ x from upto. ap (is_active_in edge) (sym (modes x)) ∙ is.active_since x from upto;
}

module _ (graph next : Tfpg) (log other : Logbook) (trace times : List Activation) (node : ℕ)
    (kinds : (test : Kind → Bool) → is_kind_at test next node ≡ is_kind_at test graph node)
    (edges : edges_into next node ≡ edges_into graph node)
    (modes : (instant : ℕ) → mode_at log instant ≡ mode_at other instant)
    (now : now_of other ≡ now_of log)
    (sources : (edge : Edge) → Contains (edges_into graph node) edge → time_of trace edge.source ≡ time_of times edge.source)
    (time : time_of trace node ≡ time_of times node) where
  there : (edge : Edge) → Contains (edges_into graph node) edge → (instant age : ℕ) → HasAge log trace edge instant age → HasAge other times edge instant age
  there edge among = age_same log other trace times edge modes (sources edge among)

  back : (edge : Edge) → Contains (edges_into graph node) edge → (instant age : ℕ) → HasAge other times edge instant age → HasAge log trace edge instant age
  back edge among = age_same other log times trace edge (λ instant. sym (modes instant)) (sym (sources edge among))

  active : (instant : ℕ) → IsActive trace node instant → IsActive times node instant
  active instant is = (is.0, sym time ∙ is.1, is.2)

  may_same : (instant : ℕ) → KeepsMay graph log trace node instant → KeepsMay next other times node instant
  may_same instant may = record {
    or_node = λ is at.
        let found = may.or_node (sym (kinds is_or) ∙ is) (time ∙ at) in
        (found.0, subst (λ (es : List Edge). Contains es found.0) (sym edges) found.1, there found.0 found.1 instant found.0.tmin found.2);
    and_node = λ is at.
        let all = may.and_node (sym (kinds is_and) ∙ is) (time ∙ at) in
        subst (λ (es : List Edge). All (λ (e : Edge). HasAge other times e instant e.tmin) es) (sym edges)
        (All-from_members (λ (e : Edge). HasAge other times e instant e.tmin) (edges_into graph node) (λ e among.
        there e among instant e.tmin (All-contains (λ (e : Edge). HasAge log trace e instant e.tmin) (edges_into graph node) e all among)));
  }

  must_same : (instant : ℕ) → KeepsMust graph log trace node instant → KeepsMust next other times node instant
  must_same instant must = record {
    or_node = λ is edge among due.
        let own = subst (λ (es : List Edge). Contains es edge) edges among in
        active instant (must.or_node (sym (kinds is_or) ∙ is) edge own (due.0, due.1, back edge own instant due.0 due.2));
    and_node = λ is all.
        active instant (must.and_node (sym (kinds is_and) ∙ is)
        (All-from_members (λ (e : Edge). IsDue log trace e instant) (edges_into graph node) (λ e among.
        let due = All-contains (λ (e : Edge). IsDue other times e instant) (edges_into graph node) e
        (subst (λ (es : List Edge). All (λ (e : Edge). IsDue other times e instant) es) edges all) among in
        (due.0, due.1, back e among instant due.0 due.2))));
  }

  -- So its rules hold in the one where they hold in the other.
  pub rules_same : KeepsRulesOf graph log trace node → KeepsRulesOf next other times node
  rules_same rules = record {
    may = λ instant upto. may_same instant (rules.may instant (omega (arith, upto, now)));
    must = λ instant upto. must_same instant (rules.must instant (omega (arith, upto, now)));
  }
