use Rattle.std.proofs.Common.{◌≡◌, false, refl, sym, subst, ap, ◌∙◌}
use Rattle.tfpg_clause.specs.Case.{case_of}
use Rattle.tfpg_log.specs.Log.{ignoring}
use Rattle.tfpg_hyp.specs.Ranking.{cost_of, robustness_of}
use Rattle.tfpg_engine.specs.EngineState.{SlotRepresents, calls_of_slot, is_rejected_slot, events_seen}
use Rattle.tfpg_engine.specs.inside.Inquiries.{row_of, inquiry_of}
use Rattle.tfpg_engine.specs.inside.NewFindings.{kept, status_by}
use Rattle.tfpg_engine.proofs.lemmas.NewFindingIsRight.{new_finding_searched, represents_some, searched_ignoring, not_spent, as_written}
use Rattle.tfpg_engine.specs.declared.slot.Slot.TheVariants.{Searched}
use Rattle.tfpg_engine.proofs.lemmas.CallsCounted.{kept_calls, searched_calls}
use Rattle.tfpg_engine.proofs.lemmas.FindingWork.{searched_within}
use Rattle.tfpg_engine.proofs.finding.search_on.Goals as goal

pub round-requires-clause-represents : goal.round-requires-clause-represents
round-requires-clause-represents g c =
    let own = c.requires.goes_on in
    let log = ignoring c.args.log.now c.args.listed.now.hypothesis.doubts in
    let begun =
    c.in_ok-search.ensures.represents log own.0 (subst (λ s. is_rejected_slot s ≡ false) (sym c.replace.ensures.value) c.requires.not_rejected)
    (subst (λ s. SlotRepresents (case_of c.args.inquiry.now.graph.now log c.args.listed.now.reach.now) c.args.listed.now.hypothesis s own.0) (sym c.replace.ensures.value) own.1) in
    represents_some c.args.inquiry.now.graph.now c.args.log.now c.args.listed.now.hypothesis.doubts c.requires.ignores c.in_ok-search.search (own.0, begun.2)

pub returns-clause-found : goal.returns-clause-found
returns-clause-found g c findings not_covered =
    let is_new =
    new_finding_searched (inquiry_of c.args.inquiry.now c.args.log.now) c.args.listed.now.hypothesis c.args.listed.now.reach.now c.args.listed.now.number findings c.is_always_ordered.ensures
    c.args.slot.now c.requires.not_rejected c.in_ok-search.search c.round.new.self c.round.new.steps not_covered
    (λ earlier represents.
    c.in_ok-search.ensures.represents (ignoring c.args.log.now c.args.listed.now.hypothesis.doubts) earlier (subst (λ s. is_rejected_slot s ≡ false) (sym c.replace.ensures.value) c.requires.not_rejected)
    (subst (λ s. SlotRepresents (case_of c.args.inquiry.now.graph.now (ignoring c.args.log.now c.args.listed.now.hypothesis.doubts) c.args.listed.now.reach.now) c.args.listed.now.hypothesis s earlier)
    (sym c.replace.ensures.value) represents))
    c.round.ensures.set c.round.ensures.reach c.round.ensures.seen c.in-Ok.found
    (not_spent c.args.inquiry.now.graph.now c.args.log.now c.args.listed.now.hypothesis.doubts c.requires.ignores c.args.inquiry.now.terms.budget c.in-Ok.found c.in-Ok.ensures.enough)
    (searched_ignoring c.args.inquiry.now.graph.now c.args.log.now c.args.listed.now.hypothesis.doubts c.requires.ignores c.args.inquiry.now.terms.budget c.in_ok-search.search c.round.new.self c.new-steps.result
    c.round.new.steps c.in-Ok.found c.new-steps.ensures c.in-Ok.ensures.searched) in
    as_written (inquiry_of c.args.inquiry.now c.args.log.now) (row_of c.args.listed.now) findings c.args.slot.now (kept c.round.new.self c.in-Ok.found) c.of.result c.args.listed.now.number
    c.args.listed.now.hypothesis.set c.args.listed.now.hypothesis.doubts c.round.new.steps
    (status_by (cost_of c.args.inquiry.now.graph.now c.args.listed.now.hypothesis) (robustness_of c.args.inquiry.now.graph.now c.args.log.now c.args.listed.now.reach.now c.args.listed.now.hypothesis.doubts) c.in-Ok.found)
    c.status.result c.finding_on.result c.finding_on.ensures c.of.ensures c.status.ensures is_new

pub returns-clause-work : goal.returns-clause-work
returns-clause-work g c =
    let own = c.requires.goes_on in
    let log = ignoring c.args.log.now c.args.listed.now.hypothesis.doubts in
    let begun =
    c.in_ok-search.ensures.represents log own.0 (subst (λ s. is_rejected_slot s ≡ false) (sym c.replace.ensures.value) c.requires.not_rejected)
    (subst (λ s. SlotRepresents (case_of c.args.inquiry.now.graph.now log c.args.listed.now.reach.now) c.args.listed.now.hypothesis s own.0) (sym c.replace.ensures.value) own.1) in
    searched_within c.a_round_has_one_work_limit.ensures.there c.args.inquiry.now.graph.now c.args.log.now c.args.listed.now.hypothesis c.args.listed.now.reach.now c.in_ok-search.search.reach c.args.slot.now
    c.requires.ignores begun.1 c.requires.not_rejected c.in_ok-search.search.seen (c.in_ok-search.ensures.seen ∙ ap events_seen c.replace.ensures.value) c.round.new.steps c.new-steps.result c.new-steps.ensures
    (cost_of c.args.inquiry.now.graph.now c.args.listed.now.hypothesis) (robustness_of c.args.inquiry.now.graph.now c.args.log.now c.args.listed.now.reach.now c.args.listed.now.hypothesis.doubts) c.in-Ok.found
    c.status.result c.status.ensures c.args.listed.now.number c.finding_on.result c.finding_on.ensures c.args.work.now c.round.new.work c.round.ensures.work

pub returns-in-Err-clause-counted : goal.returns-in-Err-clause-counted
returns-in-Err-clause-counted g c =
    searched_calls c.args.slot.now c.replace.result (Searched c.round.new.self) c.in_ok-search.search c.round.new.self c.args.work.now c.round.new.work c.replace.ensures.value
    (c.in_ok-search.ensures.counted (subst (λ s. is_rejected_slot s ≡ false) (sym c.replace.ensures.value) c.requires.not_rejected)) refl c.round.ensures.counted

pub returns-clause-counted : goal.returns-clause-counted
returns-clause-counted g c =
    searched_calls c.args.slot.now c.replace.result c.of.result c.in_ok-search.search c.round.new.self c.args.work.now c.round.new.work c.replace.ensures.value
    (c.in_ok-search.ensures.counted (subst (λ s. is_rejected_slot s ≡ false) (sym c.replace.ensures.value) c.requires.not_rejected))
    (ap calls_of_slot c.of.ensures ∙ kept_calls c.round.new.self c.in-Ok.found) c.round.ensures.counted
