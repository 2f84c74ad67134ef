-- The rules depend on a log by its modes and its now alone.
use Rattle.std.proofs.Common.{◌≡◌, ℕ, List, sym, ap, ◌∙◌, arith}
use Rattle.std.proofs.lemmas.List.Elements.{All-weaker}
use Rattle.tfpg_base.specs.declared.activation.Activation.{Activation}
use Rattle.tfpg_graph.specs.declared.edge.Edge.{Edge}
use Rattle.tfpg_graph.specs.Graph.{Tfpg, is_active_in, edges_into}
use Rattle.tfpg_log.specs.Log.{Logbook, now_of, mode_at}
use Rattle.tfpg_log.specs.Rules.{HasAge, IsDue, KeepsMay, KeepsMust, KeepsRules}

module _ (graph : Tfpg) (trace : List Activation) (log other : Logbook) (modes : (instant : ℕ) → mode_at log instant ≡ mode_at other instant) where
  same_age : (edge : Edge) (instant age : ℕ) → HasAge log trace edge instant age → HasAge other trace edge instant age
  same_age edge instant age has = record {
    start = has.start;
    source = has.source;
    since = has.since;
    active_since = λ x from upto. ap (is_active_in edge) (sym (modes x)) ∙ has.active_since x from upto;
  }

  same_may : (node instant : ℕ) → KeepsMay graph log trace node instant → KeepsMay graph other trace node instant
  same_may node instant keeps = record {
    or_node = λ is at. (let arrives = keeps.or_node is at in (arrives.0, arrives.1, same_age arrives.0 instant arrives.0.tmin arrives.2));
    and_node = λ is at. All-weaker (λ (e : Edge). HasAge log trace e instant e.tmin) (λ (e : Edge). HasAge other trace e instant e.tmin)
        (λ e has. same_age e instant e.tmin has) (edges_into graph node) (keeps.and_node is at);
  }

  same_due : (edge : Edge) (instant : ℕ) → IsDue log trace edge instant → IsDue other trace edge instant
  same_due edge instant due = (due.0, due.1, same_age edge instant due.0 due.2)

module _ (graph : Tfpg) (trace : List Activation) (log other : Logbook) (modes : (instant : ℕ) → mode_at log instant ≡ mode_at other instant) where
  same_must : (node instant : ℕ) → KeepsMust graph log trace node instant → KeepsMust graph other trace node instant
  same_must node instant keeps = record {
    or_node = λ is edge into due. keeps.or_node is edge into (same_due graph trace other log (λ x. sym (modes x)) edge instant due);
    and_node = λ is due. keeps.and_node is
        (All-weaker (λ (e : Edge). IsDue other trace e instant) (λ (e : Edge). IsDue log trace e instant)
        (λ e own. same_due graph trace other log (λ x. sym (modes x)) e instant own) (edges_into graph node) due);
  }

  -- Two logs of the same modes and the same now have the same rules.
  pub same_rules : now_of other ≡ now_of log → KeepsRules graph log trace → KeepsRules graph other trace
  same_rules now keeps node within = record {
    may = λ instant by. same_may graph trace log other modes node instant ((keeps node within).may instant (omega (arith, by, now)));
    must = λ instant by. same_must node instant ((keeps node within).must instant (omega (arith, by, now)));
  }
