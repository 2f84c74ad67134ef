use Rattle.std.proofs.Common.{rules, ◌≡◌, None, Some, map}
use Rattle.tfpg_report.specs.inside.LinesRead.{numbered_in}
use Rattle.tfpg_report.proofs.lemmas.reading.LinesSay.{no_numbered-unread, numbered_read}
use Rattle.tfpg_report.proofs.reading.read_findings.numbered_in.Goals as goal

pub returns-in_default : goal.returns-in_default
returns-in_default c =
    let unread : numbered_in (map (λ word. word.now) c.args.words.now) ≡ None = search rules in
    no_numbered-unread c.args.graph.now c.is_always_valid.ensures.valid _ unread

pub returns-in-Some-2 : goal.returns-in-Some-2
returns-in-Some-2 c =
    let read : numbered_in (map (λ word. word.now) c.args.words.now) ≡ Some (c.in-Some.number, c.in-Some.set.now) = search rules in
    numbered_read c.args.graph.now c.is_always_valid.ensures.valid _ c.in-Some.number c.in-Some.set.now read c.in-Some-2.hypothesis (search rules)
