use Rattle.std.proofs.Common.{rules, ◌≡◌, ℕ, List, Bor, None, Some, sym, subst, ap, ◌∙◌}
use Rattle.std.specs.Option.{option_map}
use Rattle.tfpg_base.specs.Words.{words_of}
use Rattle.tfpg_report.specs.ReadSets.{IsHypothesisIn}
use Rattle.tfpg_map.specs.inside.Lines.{word_after_set}
use Rattle.tfpg_map.proofs.lemmas.LineWords.{no_set-unread, no_set-read, set_line_spelled}
use Rattle.tfpg_map.proofs.lines.read_set_line.Goals as goal

pub returns-in_default-clause-bad : goal.returns-in_default-clause-bad
returns-in_default-clause-bad c bad =
    let unread : word_after_set (words_of c.args.line.now) ≡ None = search rules in
    no_set-unread c.args.graph.now c.is_always_valid.ensures.valid c.args.line.now unread

pub returns-in-Some-2-clause-set : goal.returns-in-Some-2-clause-set
returns-in-Some-2-clause-set c =
    let read : word_after_set (words_of c.args.line.now) ≡ Some c.in-Some.word.now = sym c.word_after_set.ensures ∙ ap (option_map (λ (word : Bor (List ℕ)). word.now)) c.in-Some.is in
    let of = subst (IsHypothesisIn c.args.graph.now c.in-Some.word.now) c.in-Some-2.is c.in_ok-hypothesis.ensures in
    (of.0, set_line_spelled c.args.graph.now c.args.line.now c.in-Some.word.now c.in-Some-2.hypothesis read of.1)

pub returns-in-None-clause-bad : goal.returns-in-None-clause-bad
returns-in-None-clause-bad c bad =
    let read : word_after_set (words_of c.args.line.now) ≡ Some c.in-Some.word.now = sym c.word_after_set.ensures ∙ ap (option_map (λ (word : Bor (List ℕ)). word.now)) c.in-Some.is in
    no_set-read c.args.graph.now c.is_always_valid.ensures.valid c.args.line.now c.in-Some.word.now read (subst (IsHypothesisIn c.args.graph.now c.in-Some.word.now) c.in-None.is c.in_ok-hypothesis.ensures)
