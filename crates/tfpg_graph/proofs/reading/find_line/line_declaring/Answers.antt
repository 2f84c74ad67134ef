use Rattle.std.proofs.Common.{rules, tests, ◌≡◌, ℕ, ◌<◌, ◌+◌, ◌==◌, ◌∷◌, [], ◌++◌, ◌∙◌, sym, ap, subst, length, take, get_or, count_by, arith}
use Rattle.std.proofs.lemmas.List.{length_push}
use Rattle.std.proofs.lemmas.Iterator.Consumers.{YieldsList-turn, YieldsList-end}
use Rattle.std.proofs.lemmas.Iterator.Splits.{YieldsList-from_slice_split}
use Rattle.tfpg_base.specs.Lines.{parts_of}
use Rattle.tfpg_graph.specs.inside.reading.StatementSeen.{test_of}
use Rattle.tfpg_graph.specs.Faults.{says, IsLineSaying}
use Rattle.tfpg_graph.proofs.lemmas.reading.saying.LinesSaying.{count-says_all}
use Rattle.tfpg_graph.proofs.lemmas.reading.saying.LinesCounted.{line_here, counted_yes, counted_no}
use Rattle.tfpg_graph.proofs.reading.find_line.line_declaring.Goals as goal
use Rattle.tfpg_graph.proofs.reading.find_line.line_declaring.Goals.{In-Some}

-- this line is the next part
next_part : (c : In-Some) → (length c.loop-line.yielded < length (parts_of c.args.text.now))
    × (c.in-Some.line.now ≡ get_or (parts_of c.args.text.now) (length c.loop-line.yielded) c.in-Some.line.now)
next_part c =
    let all = YieldsList-from_slice_split _ (λ byte. byte == 10) c.args.text.now (search rules) (search rules)
    (search rules) (λ x b q k. search (rules, tests)) in
    YieldsList-turn all c.loop-line.yielded _ c.loop-line.yielded_by _ _ c.in-Some.line c.in-Some.is c.next.ensures.steps

-- how many of so many parts say such a thing
abbrev said_before : In-Some → ℕ → ℕ
said_before c index = count_by (says c.args.version (test_of c.args.declaring)) (take index (parts_of c.args.text.now))

-- the count goes one line further
lines_after : (c : In-Some) → said_before c (length c.loop-line.yielded + 1)
    ≡ said_before c (length (c.loop-line.yielded ++ c.in-Some.line ∷ []))
lines_after c = ap (said_before c) (sym (length_push c.loop-line.yielded c.in-Some.line))

pub returns-then-declared-number : goal.returns-then-declared-number
returns-then-declared-number c =
    let part = next_part (goal.at.returns-then-declared-number c).In-Some in
    subst (IsLineSaying (test_of c.args.declaring) (parts_of c.args.text.now) c.args.number)
    (ap (λ n. n + 1) (sym c.loop-line.invariant.numbered))
    (line_here c.args.version (test_of c.args.declaring) (parts_of c.args.text.now) (length c.loop-line.yielded) c.in-Some.line.now
    part.0 part.1 c.args.number (sym c.if-declared-number.true ∙ c.loop-line.invariant.counted) c.requires.version
    (sym c.is_declaring.ensures ∙ c.if-is_declaring.true))

pub loop-line-preserved-then-is_declaring : goal.loop-line-preserved-then-is_declaring
loop-line-preserved-then-is_declaring c =
    let part = next_part (goal.at.loop-line-preserved-then-is_declaring c).In-Some in
    record {
      numbered = omega (arith, length_push c.loop-line.yielded c.in-Some.line, c.loop-line.invariant.numbered);
      few = omega (arith, c.if-declared-number.false, c.loop-line.invariant.few);
      counted = counted_yes c.args.version (test_of c.args.declaring) (parts_of c.args.text.now) (length c.loop-line.yielded)
          c.in-Some.line.now part.0 part.1 c.loop-line.declared c.loop-line.invariant.counted
          (sym c.is_declaring.ensures ∙ c.if-is_declaring.true)
          ∙ lines_after (goal.at.loop-line-preserved-then-is_declaring c).In-Some;
    }

pub loop-line-preserved : goal.loop-line-preserved
loop-line-preserved c =
    let part = next_part (goal.at.loop-line-preserved c).In-Some in
    record {
      numbered = omega (arith, length_push c.loop-line.yielded c.in-Some.line, c.loop-line.invariant.numbered);
      few = c.loop-line.invariant.few;
      counted = counted_no c.args.version (test_of c.args.declaring) (parts_of c.args.text.now) (length c.loop-line.yielded)
          c.in-Some.line.now part.0 part.1 c.loop-line.declared c.loop-line.invariant.counted
          (sym c.is_declaring.ensures ∙ c.if-is_declaring.false)
          ∙ lines_after (goal.at.loop-line-preserved c).In-Some;
    }

pub unreachable-requires : goal.unreachable-requires
unreachable-requires c =
    let all = YieldsList-from_slice_split _ (λ byte. byte == 10) c.args.text.now (search rules) (search rules)
    (search rules) (λ x b q k. search (rules, tests)) in
    let end = YieldsList-end all c.loop-line.yielded _ c.loop-line.yielded_by _ _ c.in-None.is c.next.ensures.steps in
    omega (
      arith,
      c.requires.there,
      c.loop-line.invariant.few,
      c.loop-line.invariant.counted,
      count-says_all c.args.version (test_of c.args.declaring) (parts_of c.args.text.now) (length c.loop-line.yielded)
          (omega (arith, end.1)),
    )
