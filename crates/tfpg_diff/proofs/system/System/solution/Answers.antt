-- The values are kept and meet the picks, and what is lent is what comes after zero.
use Rattle.std.proofs.Common.{ℕ, ◌≤◌, List, drop, sym, ap, subst}
use Rattle.std.proofs.lemmas.List.{take_rest}
use Rattle.tfpg_diff.specs.Demands.{Demands, demands_of}
use Rattle.tfpg_diff.specs.Solution.{IsLatest}
use Rattle.tfpg_base.specs.declared.limits.TheConstants.{NEVER}
use Rattle.tfpg_diff.specs.SystemState.{SystemState}
use Rattle.std.specs.Prelude.{All}
use Rattle.std.proofs.lemmas.List.Elements.{All-drop}
use Rattle.tfpg_diff.specs.inside.Linked.{demands_linked}
use Rattle.tfpg_diff.proofs.lemmas.Relaxing.{small-kept}
use Rattle.tfpg_diff.proofs.lemmas.Latest.{IsLatest-kept}
use Rattle.tfpg_diff.proofs.system.System.solution.Goals as goal

pub returns-clause-latest : goal.returns-clause-latest
returns-clause-latest c =
    subst (λ (times : List ℕ). IsLatest c.args.self.now.demands times) (sym (take_rest c.deref.result.now 1))
    (subst (λ (values : List ℕ). IsLatest c.args.self.now.demands (drop 1 values)) (sym c.deref.ensures.value)
    (subst (λ (demands : Demands). IsLatest demands (drop 1 c.self.inside.labels.values.items)) (ap (λ (s : SystemState). s.demands) c.self.view_is)
    (IsLatest-kept (demands_of c.self.inside.bounds.items c.self.inside.picks.items) c.self.inside.labels.values.items (demands_linked (demands_of c.self.inside.bounds.items c.self.inside.picks.items) c.self.inside.labels.links.items)
    c.self.invariant.kept.kept c.self.invariant.met)))

pub returns-clause-within : goal.returns-clause-within
returns-clause-within c =
    let small = small-kept (demands_of c.self.inside.bounds.items c.self.inside.picks.items) c.self.invariant.sound c.self.inside.labels.values.items (demands_linked (demands_of c.self.inside.bounds.items c.self.inside.picks.items) c.self.inside.labels.links.items) c.self.invariant.kept.kept in
    subst (λ (times : List ℕ). All (λ time. time ≤ NEVER) times) (sym (take_rest c.deref.result.now 1))
    (subst (λ (values : List ℕ). All (λ time. time ≤ NEVER) (drop 1 values)) (sym c.deref.ensures.value)
    (All-drop (λ (time : ℕ). time ≤ NEVER) 1 c.self.inside.labels.values.items small))
