use Rattle.std.proofs.Common.{◌+◌, ◌∙◌, ◌∷◌, drop, get_or, sym, ap, subst, add-one}
use Rattle.std.proofs.Math.Seq.{drop-cons}
use Rattle.tfpg_log.specs.declared.span.Span.{Span}
use Rattle.tfpg_sim.proofs.lemmas.flights.Landing.{IsBefore, goes_on, ends_at, at_first, at_last}
use Rattle.tfpg_sim.proofs.flight.landing_in.Goals as goal
use Rattle.tfpg_base.proofs.lemmas.lists.Choices.{is_some-none, is_some-there}
use Rattle.std.proofs.lemmas.List.{drop_all}

-- no span
abbrev no_span : Span
no_span = record { lo = 0; hi = 0; mode = 0 }

pub loop-span-init : goal.loop-span-init
loop-span-init c = record {
  room = c.requires.room;
  before = λ log limit are. (0, at_first log limit c.args.flights.now c.args.needs_all c.args.spans.now c.args.pendings.now are c.requires.none);
}

pub loop-span-preserved : goal.loop-span-preserved
loop-span-preserved c = record {
  room = c.begin_span.auto.pendings ∙ c.loop-span.invariant.room;
  before = λ log limit are.
      let before = c.loop-span.invariant.before log limit are in
      let spans = c.args.spans.now in
      let span = get_or spans c.loop-span.span-index no_span in
      let rest = drop (c.loop-span.span-index + 1) spans in
      let now = subst (λ left. IsBefore log limit c.args.flights.now c.args.needs_all before.0 left c.loop-span.pendings)
      (drop-cons spans c.loop-span.span-index no_span c.loop-span-test.true ∙ ap (λ n. span ∷ drop n spans) (sym (add-one c.loop-span.span-index))) before.1 in (
        span.hi + 1,
        goes_on log limit c.args.flights.now c.args.needs_all before.0 span rest c.loop-span.pendings c.begin_span.new.pendings
            c.reached.result c.first_in-first.result now (c.begin_span.auto.pendings ∙ c.loop-span.invariant.room) c.begin_span.ensures c.reached.ensures c.first_in-first.ensures
            (is_some-none c.first_in-first.result (sym c.is_some.ensures ∙ c.if-is_some.false)),
      );
}

pub returns-then-is_some : goal.returns-then-is_some
returns-then-is_some c log limit are =
    let before = c.loop-span.invariant.before log limit are in
    let spans = c.args.spans.now in
    let span = get_or spans c.loop-span.span-index no_span in
    let rest = drop (c.loop-span.span-index + 1) spans in
    let now = subst (λ left. IsBefore log limit c.args.flights.now c.args.needs_all before.0 left c.loop-span.pendings)
    (drop-cons spans c.loop-span.span-index no_span c.loop-span-test.true ∙ ap (λ n. span ∷ drop n spans) (sym (add-one c.loop-span.span-index))) before.1 in
    let some = is_some-there c.first_in-first.result (sym c.is_some.ensures ∙ c.if-is_some.true) in
    ends_at log limit c.args.flights.now c.args.needs_all before.0 span rest c.loop-span.pendings c.begin_span.new.pendings
    c.reached.result c.first_in-first.result now (c.begin_span.auto.pendings ∙ c.loop-span.invariant.room) c.begin_span.ensures c.reached.ensures c.first_in-first.ensures some.0 some.1

pub returns : goal.returns
returns c log limit are =
    let before = c.loop-span.invariant.before log limit are in
    at_last log limit c.args.flights.now c.args.needs_all before.0 c.loop-span.pendings
    (subst (λ left. IsBefore log limit c.args.flights.now c.args.needs_all before.0 left c.loop-span.pendings)
    (drop_all c.loop-span.span-index c.args.spans.now c.loop-span-test.false) before.1)
