use Rattle.std.proofs.Common.{refl, ap, subst, ◌∙◌, ◌<◌, ℕ}
use Rattle.tfpg_log.specs.Log.{first_events}
use Rattle.tfpg_clause.specs.Facts.{fact}
use Rattle.tfpg_search.specs.Work.{widest_bounds}
use Rattle.tfpg_search.proofs.lemmas.calls.NewSearch.{zero_is, top_is, new_represents}
use Rattle.tfpg_search.proofs.search.Search.new.Goals as goal
use Rattle.tfpg_clause.specs.Case.{case_of}

pub returns-clause-represents : goal.returns-clause-represents
returns-clause-represents c log =
    new_represents c.args.graph.now c.args.reach log c.clause_laws.ensures
    (record { set = c.args.set; reach = c.args.reach; seen = 0; path = c.new-2.result.items; entered = c.in_ok-leaf.leaf.entered; leaf = c.in_ok-leaf.leaf }) refl c.requires.reach refl
    c.new-2.ensures.items c.in_ok-leaf.ensures.not_entered (c.in_ok-leaf.ensures.nodes ∙ c.node_count.ensures.count) c.in_ok-leaf.ensures.no_reasons
    (c.in_ok-leaf.ensures.stated (fact (case_of c.args.graph.now (first_events log 0) c.args.reach))
    (λ node less. zero_is c.args.graph.now c.args.reach (first_events log 0) node (subst (λ (n : ℕ). node < n) c.node_count.ensures.count less))
    (λ node less. top_is c.args.graph.now c.args.reach (first_events log 0) node (subst (λ (n : ℕ). node < n) c.node_count.ensures.count less)))
    (c.in_ok-leaf.ensures.widest ∙ ap widest_bounds c.node_count.ensures.count)
