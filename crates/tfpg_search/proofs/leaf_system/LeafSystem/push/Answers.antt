-- The pick is the next constraint of its alternative.
use Rattle.std.proofs.Common.{ap, ◌∙◌}
use Rattle.tfpg_diff.specs.SystemState.{SystemState}
use Rattle.tfpg_search.specs.inside.KeptReasons.{kept_reasons}
use Rattle.tfpg_search.proofs.lemmas.stated_system.DemandsStayStated.{system_of}
use Rattle.tfpg_search.proofs.lemmas.stated_system.KeptAfterCalls.{tag_before, same_kept, pushed_kept, pushed_adds, pushed_named, pushed_refused}
use Rattle.tfpg_search.proofs.leaf_system.LeafSystem.push.Goals as goal
use Rattle.tfpg_search.proofs.leaf_system.LeafSystem.push.Goals.{in-Ok, in-Err}

pub refused-requires : goal.refused-requires
refused-requires g c =
    pushed_named c.args.self.now c.self.inside.system.demands c.self.inside.lows.items c.self.inside.highs.items c.self.inside.entered.items c.self.view_is c.self.invariant
    c.args.constraint c.args.split c.args.number c.next_tag-tag.result
    (c.next_tag-tag.ensures ∙ tag_before c.args.self.now (system_of c.self.inside.system.demands (kept_reasons c.self.inside.system.demands c.self.inside.lows.items c.self.inside.highs.items c.self.inside.entered.items) c.self.inside.entered.items c.self.inside.system.calls c.self.inside.system.identity) c.self.view_is)
    c.requires.next c.reserve.new.self.demands (ap (λ (s : SystemState). s.demands) c.in_ok-reserve.ensures.same)
    c.push.new.self.demands c.in-Err.ensures.adds.0 c.push.new.self.cycle c.cycle.result.now c.in-Err.ensures.adds.2 c.cycle.ensures

pub invariant_of-self-2 : goal.invariant_of-self-2
invariant_of-self-2 g c = elim c.match-push.branch [
  | in-Ok w ↦
      pushed_kept c.args.self.now c.self.inside.system.demands c.self.inside.lows.items c.self.inside.highs.items c.self.inside.entered.items c.self.view_is c.self.invariant
      c.args.constraint c.args.split c.args.number c.next_tag-tag.result
      (c.next_tag-tag.ensures ∙ tag_before c.args.self.now (system_of c.self.inside.system.demands (kept_reasons c.self.inside.system.demands c.self.inside.lows.items c.self.inside.highs.items c.self.inside.entered.items) c.self.inside.entered.items c.self.inside.system.calls c.self.inside.system.identity) c.self.view_is)
      c.requires.next c.reserve.new.self.demands (ap (λ (s : SystemState). s.demands) c.in_ok-reserve.ensures.same)
      c.push.new.self.demands w.in-Ok.ensures.adds.0
  | in-Err w ↦
      same_kept c.args.self.now c.self.inside.system.demands c.self.inside.lows.items c.self.inside.highs.items c.self.inside.entered.items c.self.view_is c.self.invariant
      c.push.new.self.demands (w.in-Err.ensures.adds.0 ∙ ap (λ (s : SystemState). s.demands) c.in_ok-reserve.ensures.same)
]

pub returns-clause-adds : goal.returns-clause-adds
returns-clause-adds g c = elim c.match-push.branch [
  | in-Ok w ↦ rw w.result-is
      (pushed_adds c.args.self.now c.self.inside.system.demands c.self.inside.lows.items c.self.inside.highs.items c.self.inside.entered.items c.self.view_is c.self.invariant
      c.args.constraint c.args.split c.args.number c.next_tag-tag.result
      (c.next_tag-tag.ensures ∙ tag_before c.args.self.now (system_of c.self.inside.system.demands (kept_reasons c.self.inside.system.demands c.self.inside.lows.items c.self.inside.highs.items c.self.inside.entered.items) c.self.inside.entered.items c.self.inside.system.calls c.self.inside.system.identity) c.self.view_is)
      c.requires.next c.reserve.new.self.demands (ap (λ (s : SystemState). s.demands) c.in_ok-reserve.ensures.same)
      c.push.new.self.demands w.in-Ok.ensures.adds.0 c.push.new.self.calls c.push.new.self.identity)
  | in-Err w ↦ rw w.result-is
      (pushed_refused c.args.self.now c.self.inside.system.demands c.self.inside.lows.items c.self.inside.highs.items c.self.inside.entered.items c.self.view_is c.self.invariant
      c.args.constraint c.args.split c.args.number c.next_tag-tag.result
      (c.next_tag-tag.ensures ∙ tag_before c.args.self.now (system_of c.self.inside.system.demands (kept_reasons c.self.inside.system.demands c.self.inside.lows.items c.self.inside.highs.items c.self.inside.entered.items) c.self.inside.entered.items c.self.inside.system.calls c.self.inside.system.identity) c.self.view_is)
      c.requires.next c.reserve.new.self.demands (ap (λ (s : SystemState). s.demands) c.in_ok-reserve.ensures.same)
      c.push.new.self.demands w.in-Err.ensures.adds.0 c.push.new.self.cycle w.cycle.result.now w.in-Err.ensures.adds.2 w.cycle.ensures c.push.new.self.calls c.push.new.self.identity (c.push.ensures.identity ∙ ap (λ (s : SystemState). s.identity) c.in_ok-reserve.ensures.same) w.refused.result w.refused.ensures)
]
