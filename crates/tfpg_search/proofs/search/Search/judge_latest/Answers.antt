use Rattle.std.proofs.Common.{◌≡◌, ℕ, length, sym, ap, subst, ◌∙◌}
use Rattle.tfpg_log.specs.Explains.{Explains}
use Rattle.tfpg_clause.specs.Cut.{cut}
use Rattle.tfpg_diff.specs.Solution.{IsLatest}
use Rattle.tfpg_search.specs.inside.Leaf.{Leaf, pick_reasons}
use Rattle.tfpg_search.specs.SearchState.{SearchState}
use Rattle.tfpg_search.proofs.lemmas.leaves.LatestAtLeaf.{latest_here}
use Rattle.tfpg_search.proofs.search.Search.judge_latest.Goals as goal

pub returns-in_ok-cut-in-None : goal.returns-in_ok-cut-in-None
returns-in_ok-cut-in-None c =
    let leaf = ap (λ (s : SearchState). s.leaf) c.self.view_is in
    let latest =
    latest_here c.clause_laws.ensures c.args.graph.now c.args.log.now c.requires.of c.args.self.now c.requires.stands c.requires.loaded
    (subst (λ (l : Leaf). length l.demands.picks ≡ length (pick_reasons l)) leaf c.has_a_reason_for_each_pick.ensures) c.solution-times.result.now
    (subst (λ (l : Leaf). IsLatest l.demands c.solution-times.result.now) leaf c.solution-times.ensures.latest) in
    subst (Explains c.args.graph.now c.args.log.now c.args.self.now.set) (sym (c.in_ok-cut-in-None.ensures ∙ ap (λ (n : ℕ). cut n c.solution-times.result.now) c.now.ensures))
    (c.numbers_that_meet_all_give_a_trace.ensures.explains c.args.graph.now c.args.log.now c.args.self.now.set c.args.self.now.reach c.solution-times.result.now c.is_always_valid.ensures.valid
    c.requires.of c.is_always_ordered.ensures c.requires.stands.reach_is (record { one_each = latest.solves.one_each; in_range = c.solution-times.ensures.within }) latest.solves.facts
    (λ name clause at_now allowed. c.in-None.ensures.first name at_now clause allowed))

pub returns-in-Some : goal.returns-in-Some
returns-in-Some c =
    let leaf = ap (λ (s : SearchState). s.leaf) c.self.view_is in
    record {
      times = c.solution-times.result.now;
      latest =
          latest_here c.clause_laws.ensures c.args.graph.now c.args.log.now c.requires.of c.args.self.now c.requires.stands c.requires.loaded
          (subst (λ (l : Leaf). length l.demands.picks ≡ length (pick_reasons l)) leaf c.has_a_reason_for_each_pick.ensures) c.solution-times.result.now
          (subst (λ (l : Leaf). IsLatest l.demands c.solution-times.result.now) leaf c.solution-times.ensures.latest);
      first = c.in-Some.ensures.first;
    }
