use Rattle.std.proofs.Common.{◌≤◌, ◌+◌, take, get_or, sym, ap, subst, ◌∙◌, arith, Vec, Global}
use Rattle.std.proofs.lemmas.List.{take_more, take_all}
use Rattle.tfpg_base.proofs.lemmas.lists.Elements.{AllPairs-before}
use Rattle.tfpg_log.specs.declared.span.Span.{Span}
use Rattle.tfpg_sim.specs.inside.Arrivals.{AreNearSpans, far}
use Rattle.tfpg_sim.specs.declared.entry.Entry.{Entry}
use Rattle.tfpg_sim.specs.declared.entry.Entry.TheVariants.{Start}
use Rattle.tfpg_sim.specs.Script.{time_of_entry}
use Rattle.tfpg_sim.specs.Simulation.{script_log}
use Rattle.tfpg_sim.specs.inside.ModeSpans.{AreSpans}
use Rattle.tfpg_sim.proofs.lemmas.flights.SplitSpans.{IsSplit, split_next, split_last, split_past, small_more, small_after}
use Rattle.tfpg_sim.proofs.mode_spans.spans_of.Goals as goal
use Rattle.tfpg_sim.proofs.mode_spans.spans_of.Goals.{then-current-stop+in_ok-push, else-current-stop}

pub loop-entry-preserved : goal.loop-entry-preserved
loop-entry-preserved c =
    let entries = c.args.entries.now in
    let i = c.loop-entry.entry-index in
    let entry : Entry = get_or entries i (Start 0 0) in
    let before = c.loop-entry.invariant in
    let closed = c.in_ok-current.ensures.closed in
    let current = c.in_ok-current.ensures.current in
    record {
      split = split_next c.args.stop (take i entries) (take (i + 1) entries) c.loop-entry.spans.items c.take_entry.new.spans.items c.loop-entry.current
          c.in_ok-current.current entry (take_more entries i (Start 0 0) c.loop-entry-test.true) closed current
          (AllPairs-before (λ a b. time_of_entry a ≤ time_of_entry b) entries i (Start 0 0) c.requires.order c.loop-entry-test.true) before.split;
      small = subst (λ spans. AreNearSpans spans) (sym closed) (small_more c.loop-entry.spans.items c.loop-entry.current entry before.small before.now);
      now = subst (λ (span : Span). span.lo ≤ far) (sym current)
          (small_after c.loop-entry.current entry before.now (let upto = c.requires.stop i (Start 0 0) c.loop-entry-test.true in omega arith));
    }

pub returns-clause-spans : goal.returns-clause-spans
returns-clause-spans c =
    let entries = c.args.entries.now in
    let split = subst (λ es. IsSplit c.args.stop es c.loop-entry.spans.items c.loop-entry.current) (take_all c.loop-entry.entry-index entries c.loop-entry-test.false)
    c.loop-entry.invariant.split in
    elim c.if-current-stop.branch [
      | then-current-stop+in_ok-push w ↦ subst (AreSpans (script_log entries) (c.args.stop + 1) 0) (sym (ap (λ (v : Vec Span Global). v.items) w.spans-is ∙ w.in_ok-push.ensures.items))
          (split_last c.args.stop entries c.loop-entry.spans.items c.loop-entry.current split w.if-current-stop.true)
      | else-current-stop w ↦ subst (AreSpans (script_log entries) (c.args.stop + 1) 0) (sym (ap (λ (v : Vec Span Global). v.items) w.spans-is))
          (split_past c.args.stop entries c.loop-entry.spans.items c.loop-entry.current split c.requires.stop w.if-current-stop.false)
    ]
