use Rattle.std.proofs.Common.{rules, tests, arith, ◌≡◌, ◌+◌, ◌==◌, ◌∷◌, ◌++◌, ◌∙◌, sym, ap, subst, map, length, drop, None, Some, Ok, Err, true, false}
use Rattle.std.proofs.lemmas.Bool.{eqb-false, eqb-true}
use Rattle.std.proofs.lemmas.Iterator.Consumers.{YieldsList-so_far, YieldsList-turn, YieldsList-end}
use Rattle.std.proofs.lemmas.Iterator.Splits.{YieldsList-from_slice_split}
use Rattle.std.proofs.lemmas.List.{map_push}
use Rattle.tfpg_base.specs.Lines.{lines_of, parts_of}
use Rattle.tfpg_base.proofs.lemmas.lists.Cuts.{cut_read}
use Rattle.tfpg_sim.specs.Script.{has_stopped}
use Rattle.tfpg_sim.specs.inside.ScriptReading.{next_entry}
use Rattle.tfpg_sim.specs.inside.ScriptReading.{read_lines, with_next}
use Rattle.tfpg_sim.specs.inside.Entries.{IsScript}
use Rattle.tfpg_sim.proofs.lemmas.scripts.SpelledScripts.{SpellsScript-read, IsScriptFault-read}
use Rattle.tfpg_sim.proofs.lemmas.scripts.ScriptLines.{script_push, script_none}
use Rattle.tfpg_sim.proofs.lemmas.scripts.ReadLines.{read_lines-push, script_of-empty, script_of-fault, script_of-stopped, script_of-missing}
use Rattle.tfpg_sim.proofs.script.read_script.Goals as goal
use Rattle.tfpg_sim.proofs.script.read_script.Goals.{After-next, In-Some, In-None}

-- the text has a byte, so its lines are the parts
same_lines : (c : After-next) → lines_of c.args.text.now ≡ parts_of c.without_last_line_end.result.now
same_lines c =
    let some : (length c.args.text.now == 0) ≡ false = sym c.is_empty.ensures ∙ c.if-is_empty.false in
    c.without_last_line_end.ensures.lines (omega (arith, eqb-false (length c.args.text.now) 0 some))

-- this line stands after those so far
parts_round : (c : In-Some) → parts_of c.without_last_line_end.result.now
    ≡ map (λ line. line.now) c.loop-line.yielded
    ++ c.in-Some.line.now ∷ drop (length c.loop-line.yielded + 1) (parts_of c.without_last_line_end.result.now)
parts_round c =
    let body = c.without_last_line_end.result.now in
    let all = YieldsList-from_slice_split _ (λ byte. byte == 10) body (search rules) (search rules) (search rules)
    (λ x b q k. search (rules, tests)) in
    let turn = YieldsList-turn all c.loop-line.yielded _ c.loop-line.yielded_by _ _ c.in-Some.line c.in-Some.is
    c.next.ensures.steps in
    cut_read (parts_of body) (map (λ line. line.now) c.loop-line.yielded) (length c.loop-line.yielded)
    c.in-Some.line.now (YieldsList-so_far all c.loop-line.yielded _ c.loop-line.yielded_by) turn.0 turn.1

-- all lines are the parts
all_parts : (c : In-None) → map (λ line. line.now) c.loop-line.yielded ≡ parts_of c.without_last_line_end.result.now
all_parts c =
    let all = YieldsList-from_slice_split _ (λ byte. byte == 10) c.without_last_line_end.result.now (search rules)
    (search rules) (search rules) (λ x b q k. search (rules, tests)) in
    (YieldsList-end all c.loop-line.yielded _ c.loop-line.yielded_by _ _ c.in-None.is c.next.ensures.steps).0

pub returns-then-is_empty-clause-fault : goal.returns-then-is_empty-clause-fault
returns-then-is_empty-clause-fault c =
    IsScriptFault-read c.args.graph.now c.is_always_valid.ensures.valid c.args.text.now 1
    (script_of-empty c.args.graph.now c.args.text.now
    (eqb-true (length c.args.text.now) 0 (sym c.is_empty.ensures ∙ c.if-is_empty.true)))

pub returns-in_default-clause-fault : goal.returns-in_default-clause-fault
returns-in_default-clause-fault c =
    let at = goal.at.returns-in_default-clause-fault c in
    let none : next_entry c.args.graph.now c.loop-line.entries.items c.in-Some.line.now ≡ None =
    ap (λ before. next_entry c.args.graph.now before c.in-Some.line.now) (sym c.deref.ensures.value) ∙ sym c.next_entry.ensures ∙ c.in_default.is in
    IsScriptFault-read c.args.graph.now c.is_always_valid.ensures.valid c.args.text.now (c.len.result + 1)
    (script_of-fault c.args.graph.now c.args.text.now c.without_last_line_end.result.now (map (λ line. line.now) c.loop-line.yielded)
    (drop (length c.loop-line.yielded + 1) (parts_of c.without_last_line_end.result.now)) c.in-Some.line.now c.loop-line.entries.items
    (same_lines at.After-next) (parts_round at.In-Some) c.loop-line.invariant.read none
    ∙ ap (λ n. Err (n + 1)) (ap length (sym c.deref.ensures.value) ∙ c.deref.ensures.len ∙ sym c.len.ensures))

pub returns-then-not-has_stopped-clause-fault : goal.returns-then-not-has_stopped-clause-fault
returns-then-not-has_stopped-clause-fault c =
    let at = goal.at.returns-then-not-has_stopped-clause-fault c in
    let stop : has_stopped c.loop-line.entries.items ≡ false = ap has_stopped (sym c.deref-2.ensures.value) ∙ sym c.has_stopped.ensures ∙ c.if-not-has_stopped.true in
    IsScriptFault-read c.args.graph.now c.is_always_valid.ensures.valid c.args.text.now (c.len-then-not-has_stopped.result + 1)
    (script_of-missing c.args.graph.now c.args.text.now c.without_last_line_end.result.now (map (λ line. line.now) c.loop-line.yielded)
    c.loop-line.entries.items (same_lines at.After-next) (all_parts at.In-None) c.loop-line.invariant.read stop
    ∙ ap (λ n. Err (n + 1)) (ap length (sym c.deref-2.ensures.value) ∙ c.deref-2.ensures.len ∙ sym c.len-then-not-has_stopped.ensures))

pub returns-clause-read : goal.returns-clause-read
returns-clause-read c =
    let at = goal.at.returns-clause-read c in
    let stop : has_stopped c.loop-line.entries.items ≡ true =
    ap has_stopped (sym c.deref-2.ensures.value) ∙ sym c.has_stopped.ensures ∙ c.if-not-has_stopped.false in
    SpellsScript-read c.args.graph.now c.args.text.now c.loop-line.entries.items
    (script_of-stopped c.args.graph.now c.args.text.now c.without_last_line_end.result.now (map (λ line. line.now) c.loop-line.yielded)
    c.loop-line.entries.items (same_lines at.After-next) (all_parts at.In-None) c.loop-line.invariant.read stop)

pub loop-line-init : goal.loop-line-init
loop-line-init c = record { read = ap Ok (sym c.new-entries.ensures.items); script = subst (IsScript c.args.graph.now) (sym c.new-entries.ensures.items) (script_none c.args.graph.now) }

pub loop-line-preserved : goal.loop-line-preserved
loop-line-preserved c =
    let next : next_entry c.args.graph.now c.loop-line.entries.items c.in-Some.line.now ≡ Some c.in-Some-next_entry.entry =
    ap (λ before. next_entry c.args.graph.now before c.in-Some.line.now) (sym c.deref.ensures.value) ∙ sym c.next_entry.ensures ∙ c.in-Some-next_entry.is in
    record {
      read = ap (read_lines c.args.graph.now) (map_push (λ line. line.now) c.loop-line.yielded c.in-Some.line)
          ∙ read_lines-push c.args.graph.now (map (λ line. line.now) c.loop-line.yielded) c.in-Some.line.now c.loop-line.entries.items c.loop-line.invariant.read
          ∙ ap (with_next c.loop-line.entries.items) next ∙ ap Ok (sym c.in_ok-push.ensures.items);
      script = script_push c.args.graph.now c.loop-line.entries.items _ c.in-Some.line.now _ next c.in_ok-push.ensures.items c.loop-line.invariant.script;
    }
