use Rattle.std.proofs.Common.{List, [], length, map, refl, sym, ap, subst, ◌∙◌}
use Rattle.std.specs.Prelude.{Ok}
use Rattle.std.proofs.lemmas.Result.{err_from_is_err_and}
use Rattle.tfpg_kernel.specs.CheckerState.{CheckerState}
use Rattle.tfpg_report.specs.declared.read_round.Part.{Part}
use Rattle.tfpg_check.specs.HypothesesState.{HypothesesState, KeepsBasis}
use Rattle.tfpg_check.specs.Judging.{PartFails, RoundFails}
use Rattle.tfpg_check.specs.Tests.{InTurn}
use Rattle.tfpg_check.specs.inside.InTurn.{IsFaultOf}
use Rattle.tfpg_check.specs.inside.AfterRound.{after_round}
use Rattle.tfpg_check.specs.inside.Kept.{RestFails}
use Rattle.tfpg_check.specs.inside.KeptFlags.{AreKept}
use Rattle.tfpg_check.specs.inside.Parts.{kept_of}
use Rattle.tfpg_check.proofs.lemmas.judging.Lookups.{closed_flags_are}
use Rattle.tfpg_check.proofs.lemmas.judging.NothingAdded.{nothing_taken, kept_where}
use Rattle.tfpg_check.proofs.lemmas.judging.RoundJudged.{fault_at, part_fails, round_passes, round_fails, kept_as, kept_after, taken_of, keeps_here, on_ok, written_back}
use Rattle.tfpg_check.proofs.kept_hypotheses.KeptHypotheses.judge_round.Goals as goal

pub returns-in_err-judge_parts-clause-fails : goal.returns-in_err-judge_parts-clause-fails
returns-in_err-judge_parts-clause-fails c = λ basis earlier same_graph same_log goes_on keeps at why said.
    let here = keeps_here basis earlier c.args.log.now c.args.self.now c.is_always_ordered.ensures same_log goes_on keeps in
    let kept = kept_as basis c.args.self.now c.self.inside.terms c.self.inside.table c.self.inside.checkers.items c.deref_mut.result.now c.self.view_is keeps.terms c.deref_mut.ensures.value in
    let failed = err_from_is_err_and c.from_residual-in_err-judge_parts.result c.from_residual-in_err-judge_parts.ensures.1 in
    let fails =
    subst (λ (parts : List Part). IsFaultOf (InTurn (PartFails basis) [] parts) c.in_err-judge_parts.field-0.0) c.as_slice.ensures
    (c.in_err-judge_parts.ensures.taken basis same_graph same_log (subst (KeepsBasis basis basis.log) kept here)) in
    fault_at (RoundFails basis c.args.line c.args.read.now) c.from_residual-in_err-judge_parts.result failed.0 failed.1
    (subst (IsFaultOf (RoundFails basis c.args.line c.args.read.now)) (sym failed.2)
    (part_fails basis c.args.line c.args.read.now (c.in_ok-judge_first_line.ensures basis same_log) c.in_err-judge_parts.field-0.0 fails))
    at
    why
    said

pub returns-clause-keeps : goal.returns-clause-keeps
returns-clause-keeps c = λ basis earlier same_graph same_log goes_on keeps.
    let here = keeps_here basis earlier c.args.log.now c.args.self.now c.is_always_ordered.ensures same_log goes_on keeps in
    let kept = kept_as basis c.args.self.now c.self.inside.terms c.self.inside.table c.self.inside.checkers.items c.deref_mut.result.now c.self.view_is keeps.terms c.deref_mut.ensures.value in
    let taken =
    taken_of basis c.args.read.now.parts c.as_slice.result.now _ c.as_slice.ensures
    (c.in_ok-judge_parts.ensures.taken basis same_graph same_log (subst (KeepsBasis basis basis.log) kept here)) in
    let back =
    written_back c.self.inside.checkers.len c.self.inside.checkers.items c.judge_parts.new.checkers c.self.inside.checkers.ok.0
    (c.judge_parts.auto.checkers ∙ ap length c.deref_mut.ensures.value) in
    kept_after basis c.args.read.now c.self.inside.terms c.self.inside.table c.judge_parts.new.checkers _ (ap (λ (s : HypothesesState). s.terms) c.self.view_is ∙ keeps.terms) back taken

pub returns-clause-passes : goal.returns-clause-passes
returns-clause-passes c = λ basis earlier same_graph same_log goes_on keeps.
    let here = keeps_here basis earlier c.args.log.now c.args.self.now c.is_always_ordered.ensures same_log goes_on keeps in
    let kept = kept_as basis c.args.self.now c.self.inside.terms c.self.inside.table c.self.inside.checkers.items c.deref_mut.result.now c.self.view_is keeps.terms c.deref_mut.ensures.value in
    let taken =
    taken_of basis c.args.read.now.parts c.as_slice.result.now _ c.as_slice.ensures
    (c.in_ok-judge_parts.ensures.taken basis same_graph same_log (subst (KeepsBasis basis basis.log) kept here)) in
    let back =
    written_back c.self.inside.checkers.len c.self.inside.checkers.items c.judge_parts.new.checkers c.self.inside.checkers.ok.0
    (c.judge_parts.auto.checkers ∙ ap length c.deref_mut.ensures.value) in
    let after =
    kept_after basis c.args.read.now c.self.inside.terms c.self.inside.table c.judge_parts.new.checkers _ (ap (λ (s : HypothesesState). s.terms) c.self.view_is ∙ keeps.terms) back taken in
    let flags =
    closed_flags_are basis basis.steps c.args.self.now here c.deref-2.result.now
    (c.deref-2.ensures.value ∙ c.in_ok-was_closed.ensures ∙ ap (map (λ (checker : CheckerState). checker.closed)) (c.deref.ensures.value ∙ ap (λ (s : HypothesesState). s.checkers) c.self.view_is)) in
    round_passes basis c.args.line c.args.read.now (c.in_ok-judge_first_line.ensures basis same_log) _ taken (Ok tt)
    (c.in_ok-flags.ensures.rest basis same_graph (same_log ∙ sym c.in_ok-judge_parts.ensures.log) after flags)

pub returns-in_err-flags-clause-fails : goal.returns-in_err-flags-clause-fails
returns-in_err-flags-clause-fails c = λ basis earlier same_graph same_log goes_on keeps at why said.
    let here = keeps_here basis earlier c.args.log.now c.args.self.now c.is_always_ordered.ensures same_log goes_on keeps in
    let kept = kept_as basis c.args.self.now c.self.inside.terms c.self.inside.table c.self.inside.checkers.items c.deref_mut.result.now c.self.view_is keeps.terms c.deref_mut.ensures.value in
    let taken =
    taken_of basis c.args.read.now.parts c.as_slice.result.now _ c.as_slice.ensures
    (c.in_ok-judge_parts.ensures.taken basis same_graph same_log (subst (KeepsBasis basis basis.log) kept here)) in
    let back =
    written_back c.self.inside.checkers.len c.self.inside.checkers.items c.judge_parts.new.checkers c.self.inside.checkers.ok.0
    (c.judge_parts.auto.checkers ∙ ap length c.deref_mut.ensures.value) in
    let after =
    kept_after basis c.args.read.now c.self.inside.terms c.self.inside.table c.judge_parts.new.checkers _ (ap (λ (s : HypothesesState). s.terms) c.self.view_is ∙ keeps.terms) back taken in
    let flags =
    closed_flags_are basis basis.steps c.args.self.now here c.deref-2.result.now
    (c.deref-2.ensures.value ∙ c.in_ok-was_closed.ensures ∙ ap (map (λ (checker : CheckerState). checker.closed)) (c.deref.ensures.value ∙ ap (λ (s : HypothesesState). s.checkers) c.self.view_is)) in
    let failed = err_from_is_err_and c.from_residual-in_err-flags.result c.from_residual-in_err-flags.ensures.1 in
    round_fails basis c.args.line c.args.read.now (c.in_ok-judge_first_line.ensures basis same_log) _ taken c.from_residual-in_err-flags.result
    (rw failed.1 (subst (IsFaultOf (RestFails basis c.args.read.now)) (sym failed.2) (c.in_err-flags.ensures.rest basis same_graph (same_log ∙ sym c.in_ok-judge_parts.ensures.log) after flags))) at why said

-- ---- a round that adds nothing

pub returns-in-Some-clause-passes : goal.returns-in-Some-clause-passes
returns-in-Some-clause-passes c = λ basis earlier same_graph same_log goes_on keeps.
    let here = keeps_here basis earlier c.args.log.now c.args.self.now c.is_always_ordered.ensures same_log goes_on keeps in
    let state = kept_of c.self.inside.terms c.self.inside.table c.self.inside.checkers.items in
    let taken = nothing_taken basis c.args.read.now state c.in-Some.ensures.1.parts (subst (KeepsBasis basis basis.log) (sym c.self.view_is) here) in
    let kept = kept_where c.self.inside.flags c.in-Some.flags.now (AreKept c.self.inside.table.hypotheses c.self.inside.checkers.items) c.in-Some.ensures.0 c.self.invariant.2 in
    round_passes basis c.args.line c.args.read.now (c.in_ok-judge_first_line.ensures basis same_log) state taken _
    (c.judge_unchanged.ensures.rest basis state same_graph same_log taken.keeps refl refl kept
    (closed_flags_are basis basis.steps state (subst (KeepsBasis basis basis.log) (sym c.self.view_is) here) c.in-Some.flags.now.closed.items kept.closed))

pub returns-in-Some-clause-fails : goal.returns-in-Some-clause-fails
returns-in-Some-clause-fails c = λ basis earlier same_graph same_log goes_on keeps at why said.
    let here = keeps_here basis earlier c.args.log.now c.args.self.now c.is_always_ordered.ensures same_log goes_on keeps in
    let state = kept_of c.self.inside.terms c.self.inside.table c.self.inside.checkers.items in
    let taken = nothing_taken basis c.args.read.now state c.in-Some.ensures.1.parts (subst (KeepsBasis basis basis.log) (sym c.self.view_is) here) in
    let kept = kept_where c.self.inside.flags c.in-Some.flags.now (AreKept c.self.inside.table.hypotheses c.self.inside.checkers.items) c.in-Some.ensures.0 c.self.invariant.2 in
    round_fails basis c.args.line c.args.read.now (c.in_ok-judge_first_line.ensures basis same_log) state taken _
    (c.judge_unchanged.ensures.rest basis state same_graph same_log taken.keeps refl refl kept
    (closed_flags_are basis basis.steps state (subst (KeepsBasis basis basis.log) (sym c.self.view_is) here) c.in-Some.flags.now.closed.items kept.closed)) at why said

pub returns-in-Some-clause-keeps : goal.returns-in-Some-clause-keeps
returns-in-Some-clause-keeps c = λ basis earlier same_graph same_log goes_on keeps.
    let here = keeps_here basis earlier c.args.log.now c.args.self.now c.is_always_ordered.ensures same_log goes_on keeps in
    let state = kept_of c.self.inside.terms c.self.inside.table c.self.inside.checkers.items in
    on_ok _
    (subst (KeepsBasis (after_round basis c.args.read.now) basis.log) c.self.view_is
    (nothing_taken basis c.args.read.now state c.in-Some.ensures.1.parts (subst (KeepsBasis basis basis.log) (sym c.self.view_is) here)).keeps)
