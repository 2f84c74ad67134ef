use Rattle.std.proofs.Common.{List, ℕ, Ok, Some, subst, refl, ◌≡◌, ◌++◌, ◌∷◌, []}
use Rattle.std.specs.Prelude.{slice_get, None}
use Rattle.std.proofs.lemmas.Result.{IfOk-weaker}
use Rattle.tfpg_fleet.specs.declared.fleet_told.FleetTold.{FleetTold}
use Rattle.tfpg_fleet.specs.Belonging.{belongs}
use Rattle.tfpg_fleet.specs.FleetState.{FleetRepresents, rounds_after}
use Rattle.tfpg_run.specs.declared.fleet.watch.Watch.{Watch}
use Rattle.tfpg_run.specs.fleet.FleetOutput.{rounds_for}
use Rattle.tfpg_run.specs.inside.fleet.UnderWay.{KeepsLast, problem_in}
use Rattle.tfpg_run.proofs.lemmas.fleet.OwnBlocks.{RoundLaws, own_within, represented, told_of_graph}
use Rattle.tfpg_run.proofs.lemmas.fleet.NextAnswers.{answers_own, answers_stray, brings_of, brings_stray, counts_of, counts_stray}
use Rattle.tfpg_run.proofs.fleet.answering.answer_line.Goals as goal

pub returns-in-Stray : goal.returns-in-Stray
returns-in-Stray g c lines answers so_far =
    let fleet = problem_in c.args.vehicles.now in
    let brings = brings_stray c.args.text.now c.args.watch.now.fleet c.line.new.self c.in_ok-line.field-0 c.in-Stray.is c.in_ok-line.ensures.brings in
    let none = subst (λ (names : List (List ℕ)). belongs names c.args.text.now ≡ None) so_far.names brings.0 in
    let later : Watch = record { fleet = c.line.new.self; ranked = c.args.watch.now.ranked } in
    let counts = counts_stray c.args.watch.now.fleet c.line.new.self c.in_ok-line.field-0 c.args.work.now c.line.new.work c.in-Stray.is c.in_ok-line.ensures.work in
    IfOk-weaker c.stray_answer.result _ _ (λ bytes e.
    answers_stray fleet lines answers c.args.watch.now later c.args.text.now c.args.number bytes.items c.args.work.now c.line.new.work so_far none brings.1 refl counts e) c.stray_answer.ensures

pub own_answer-requires-clause-of : goal.own_answer-requires-clause-of
own_answer-requires-clause-of g c =
    let laws : RoundLaws = record {
      grows = c.a_log_of_lines_is_of_its_graph.ensures.grows;
      of = c.a_log_of_lines_is_of_its_graph.ensures.of;
      ordered = c.a_log_of_lines_is_of_its_graph.ensures.ordered;
      names = c.a_round_is_of_its_graph.ensures;
      fit = c.rounds_say_which_sets_fit.ensures;
      minimal = c.statuses_are_those_of_minimal_sets.ensures;
    } in
    let is = brings_of c.args.text.now c.args.watch.now.fleet c.line.new.self c.in_ok-line.field-0 c.in-Of.vehicle c.in-Of.line c.in-Of.told c.in-Of.is c.in_ok-line.ensures.brings in
    told_of_graph laws (problem_in c.args.vehicles.now) c.is_always_valid.ensures.valid c.requires.lines c.requires.answers c.args.watch.now c.requires.answered c.args.text.now c.line.new.self c.in-Of.vehicle c.in-Of.line c.in-Of.told is

pub own_answer-requires-clause-within : goal.own_answer-requires-clause-within
own_answer-requires-clause-within g c =
    let laws : RoundLaws = record {
      grows = c.a_log_of_lines_is_of_its_graph.ensures.grows;
      of = c.a_log_of_lines_is_of_its_graph.ensures.of;
      ordered = c.a_log_of_lines_is_of_its_graph.ensures.ordered;
      names = c.a_round_is_of_its_graph.ensures;
      fit = c.rounds_say_which_sets_fit.ensures;
      minimal = c.statuses_are_those_of_minimal_sets.ensures;
    } in
    let is = brings_of c.args.text.now c.args.watch.now.fleet c.line.new.self c.in_ok-line.field-0 c.in-Of.vehicle c.in-Of.line c.in-Of.told c.in-Of.is c.in_ok-line.ensures.brings in
    own_within laws (problem_in c.args.vehicles.now) c.is_always_valid.ensures.valid c.requires.lines c.requires.answers c.args.watch.now c.requires.answered c.args.text.now c.line.new.self c.in-Of.vehicle c.in-Of.line c.in-Of.told is

pub returns-in-Of : goal.returns-in-Of
returns-in-Of g c lines answers so_far =
    let fleet = problem_in c.args.vehicles.now in
    let laws : RoundLaws = record {
      grows = c.a_log_of_lines_is_of_its_graph.ensures.grows;
      of = c.a_log_of_lines_is_of_its_graph.ensures.of;
      ordered = c.a_log_of_lines_is_of_its_graph.ensures.ordered;
      names = c.a_round_is_of_its_graph.ensures;
      fit = c.rounds_say_which_sets_fit.ensures;
      minimal = c.statuses_are_those_of_minimal_sets.ensures;
    } in
    let is = brings_of c.args.text.now c.args.watch.now.fleet c.line.new.self c.in_ok-line.field-0 c.in-Of.vehicle c.in-Of.line c.in-Of.told c.in-Of.is c.in_ok-line.ensures.brings in
    let later : Watch = record { fleet = c.line.new.self; ranked = c.keep_at.new.ranked } in
    let counts = counts_of c.args.watch.now.fleet c.line.new.self c.in_ok-line.field-0 c.in-Of.vehicle c.in-Of.line c.in-Of.told c.args.work.now c.line.new.work c.in-Of.is c.in_ok-line.ensures.work in
    let at = subst (λ (sets : List (List ℕ)). slice_get sets c.in-Of.vehicle ≡ Some c.kept_at-before.result) c.deref.ensures.value c.kept_at-before.ensures in
    let keeps = subst (λ (count : ℕ). KeepsLast c.in-Of.told count c.kept_at-before.result c.ranked_after.result) c.failure_count-failures.ensures c.ranked_after.ensures in
    let represents = subst (λ (t : FleetTold). FleetRepresents fleet.graph fleet.terms c.line.new.self (lines ++ c.args.text.now ∷ []) (rounds_after (λ n. rounds_for n answers) (Ok t))) c.in-Of.is
    (c.in_ok-line.ensures.represents fleet.graph fleet.terms lines (λ n. rounds_for n answers) so_far.represents) in
    IfOk-weaker c.own_answer.result _ _ (λ bytes e.
    answers_own laws fleet c.is_always_valid.ensures.valid lines answers c.args.watch.now later so_far c.args.text.now c.in-Of.vehicle c.in-Of.line c.in-Of.told is
    c.kept_at-before.result c.ranked_after.result at keeps c.keep_at.ensures c.in_ok-line.ensures.names represents c.args.number bytes.items c.args.work.now c.line.new.work e
    (counts is.before is.after (rounds_for c.in-Of.vehicle answers) is.there is.still_there
    (represented laws fleet c.is_always_valid.ensures.valid lines answers c.args.watch.now so_far c.args.text.now c.line.new.self c.in-Of.vehicle c.in-Of.line c.in-Of.told is).represents)) c.own_answer.ensures
