use Rattle.std.proofs.Common.{rules, tests, Err, ◌≡◌, ◌+◌, ◌==◌, ◌∷◌, ◌++◌, ◌∙◌, sym, ap, subst, map, length, drop, List, ℕ}
use Rattle.std.proofs.lemmas.List.{length-map, length_push, map_push}
use Rattle.std.proofs.lemmas.Iterator.Consumers.{YieldsList-so_far, YieldsList-turn, YieldsList-end}
use Rattle.std.proofs.lemmas.Iterator.Splits.{YieldsList-from_slice_split}
use Rattle.tfpg_base.specs.Lines.{parts_of}
use Rattle.tfpg_graph.specs.Faults.{IsRefusalOf}
use Rattle.tfpg_graph.specs.inside.reading.Turns.{ReaderRepresents}
use Rattle.tfpg_graph.specs.inside.reading.TurnResults.{refusal_at}
use Rattle.tfpg_graph.proofs.lemmas.reading.graphs.RepresentedLines.{ReaderRepresents-ok}
use Rattle.tfpg_base.proofs.lemmas.LinesOf.{parts_of_some}
use Rattle.tfpg_base.proofs.lemmas.lists.Cuts.{cut_read}
use Rattle.tfpg_graph.proofs.lemmas.reading.faults.WholeText.{IsBody, IsRefusalOf-line, IsGraphResult-refused, IfOk-spelled, IfErr-refused, IsGraphResult-end}
use Rattle.tfpg_graph.proofs.lemmas.reading.faults.OneFault.{IsFaultResult-from}
use Rattle.tfpg_graph.proofs.reading.read.Goals as goal
use Rattle.tfpg_graph.proofs.reading.read.Goals.{After-next, In-Some, In-None}

-- the lines are the parts of the body
is_body : (c : After-next) → IsBody c.args.text.now c.without_last_line_end-body.result.now
is_body c = record {
  lines = c.without_last_line_end-body.ensures.lines;
  front = c.without_last_line_end-body.ensures.front;
}

-- this line stands after those so far
parts_round : (c : In-Some) → parts_of c.without_last_line_end-body.result.now
    ≡ map (λ line. line.now) c.loop-line.yielded
    ++ c.in-Some.line.now ∷ drop (length c.loop-line.yielded + 1) (parts_of c.without_last_line_end-body.result.now)
parts_round c =
    let body = c.without_last_line_end-body.result.now in
    let all = YieldsList-from_slice_split _ (λ byte. byte == 10) body (search rules) (search rules) (search rules)
    (λ x b q k. search (rules, tests)) in
    let turn = YieldsList-turn all c.loop-line.yielded _ c.loop-line.yielded_by _ _ c.in-Some.line c.in-Some.is
    c.next.ensures.steps in
    cut_read (parts_of body) (map (λ line. line.now) c.loop-line.yielded) (length c.loop-line.yielded)
    c.in-Some.line.now (YieldsList-so_far all c.loop-line.yielded _ c.loop-line.yielded_by) turn.0 turn.1

-- all lines are the parts
all_parts : (c : In-None)
    → (map (λ line. line.now) c.loop-line.yielded ≡ parts_of c.without_last_line_end-body.result.now)
    × (length c.loop-line.yielded ≡ length (parts_of c.without_last_line_end-body.result.now))
all_parts c =
    let all = YieldsList-from_slice_split _ (λ byte. byte == 10) c.without_last_line_end-body.result.now (search rules)
    (search rules) (search rules) (λ x b q k. search (rules, tests)) in
    YieldsList-end all c.loop-line.yielded _ c.loop-line.yielded_by _ _ c.in-None.is c.next.ensures.steps

-- what is read represents them
stands : (c : In-None) → ReaderRepresents c.loop-line.reader (parts_of c.without_last_line_end-body.result.now)
stands c = subst (ReaderRepresents c.loop-line.reader) (all_parts c).0 c.loop-line.invariant.stands

pub returns-in-Err-clause-refused : goal.returns-in-Err-clause-refused
returns-in-Err-clause-refused c =
    let at = goal.at.returns-in-Err-clause-refused c in
    let body = c.without_last_line_end-body.result.now in
    let before : List (List ℕ) = map (λ line. line.now) c.loop-line.yielded in
    let after : List (List ℕ) = drop (length c.loop-line.yielded + 1) (parts_of body) in
    let counted : c.loop-line.line_count ≡ length before =
    c.loop-line.invariant.counted ∙ sym (length-map c.loop-line.yielded (λ line. line.now)) in
    subst (IsRefusalOf c.args.text.now) (sym (c.at.ensures ∙ ap (λ n. refusal_at c.in-Err.refusal (n + 1)) counted))
    (IsRefusalOf-line c.args.text.now body (is_body at.After-next) c.loop-line.reader before after c.in-Some.line.now
    c.in-Err.refusal c.loop-line.invariant.stands c.in-Err.ensures (parts_round at.In-Some))

pub returns-in-Err-clause-exact : goal.returns-in-Err-clause-exact
returns-in-Err-clause-exact c = λ graph spells valid.
    let at = goal.at.returns-in-Err-clause-exact c in
    IsGraphResult-refused c.args.text.now c.without_last_line_end-body.result.now (is_body at.After-next) graph
    c.at.result (returns-in-Err-clause-refused c) spells valid

pub returns-in-Err-clause-faulty : goal.returns-in-Err-clause-faulty
returns-in-Err-clause-faulty c =
    IsFaultResult-from c.args.text.now (Err c.at.result) tt tt (returns-in-Err-clause-refused c)

pub loop-line-preserved : goal.loop-line-preserved
loop-line-preserved c =
    let before : List (List ℕ) = map (λ line. line.now) c.loop-line.yielded in
    record {
      stands = subst (ReaderRepresents c.in-Ok.next) (sym (map_push (λ line. line.now) c.loop-line.yielded c.in-Some.line))
          (ReaderRepresents-ok c.loop-line.reader c.in-Ok.next before c.in-Some.line.now c.loop-line.invariant.stands
          c.in-Ok.ensures);
      counted = ap (λ n. n + 1) c.loop-line.invariant.counted ∙ sym (length_push c.loop-line.yielded c.in-Some.line);
    }

pub end-requires-clause-stands : goal.end-requires-clause-stands
end-requires-clause-stands c = stands c

pub end-requires-clause-count : goal.end-requires-clause-count
end-requires-clause-count c = c.loop-line.invariant.counted ∙ (all_parts c).1

pub returns-clause-spelled : goal.returns-clause-spelled
returns-clause-spelled c =
    let body = c.without_last_line_end-body.result.now in
    let at = goal.at.returns-clause-spelled c in
    IfOk-spelled c.args.text.now body (is_body at.After-next) c.loop-line.reader (stands at.In-None) (parts_of_some body)
    c.end.result c.end.ensures.graph

pub returns-clause-refused : goal.returns-clause-refused
returns-clause-refused c =
    let body = c.without_last_line_end-body.result.now in
    let at = goal.at.returns-clause-refused c in
    IfErr-refused c.args.text.now body (is_body at.After-next) c.loop-line.reader (stands at.In-None) (parts_of_some body)
    c.end.result c.end.ensures.fault

pub returns-clause-exact : goal.returns-clause-exact
returns-clause-exact c =
    let body = c.without_last_line_end-body.result.now in
    let at = goal.at.returns-clause-exact c in
    IsGraphResult-end c.args.text.now body (is_body at.After-next) c.loop-line.reader (stands at.In-None) (parts_of_some body)
    c.end.result c.end.ensures.graph c.end.ensures.fault

pub returns-clause-faulty : goal.returns-clause-faulty
returns-clause-faulty c =
    IsFaultResult-from c.args.text.now c.end.result (returns-clause-spelled c) c.end.ensures.valid
    (returns-clause-refused c)
