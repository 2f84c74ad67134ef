use Rattle.std.proofs.Common.{rules, ◌≡◌, None, Some, map}
use Rattle.tfpg_report.specs.inside.LinesRead.{ranked_in}
use Rattle.tfpg_report.proofs.lemmas.reading.LinesSay.{no_ranked-unread, no_ranked-set, ranked_read}
use Rattle.tfpg_report.proofs.reading.read_findings.ranked_in.Goals as goal

pub returns-in_default : goal.returns-in_default
returns-in_default c =
    let unread : ranked_in (map (λ word. word.now) c.args.words.now) ≡ None = search rules in
    no_ranked-unread c.args.graph.now c.is_always_valid.ensures.valid _ unread

pub returns-in_default-2 : goal.returns-in_default-2
returns-in_default-2 c =
    let read : ranked_in (map (λ word. word.now) c.args.words.now) ≡ Some (c.in-Some.ranked, c.in-Some.set.now) = search rules in
    no_ranked-set c.args.graph.now c.is_always_valid.ensures.valid _ c.in-Some.ranked c.in-Some.set.now read (search rules)

pub returns : goal.returns
returns c =
    let read : ranked_in (map (λ word. word.now) c.args.words.now) ≡ Some (c.in-Some.ranked, c.in-Some.set.now) = search rules in
    ranked_read c.args.graph.now c.is_always_valid.ensures.valid _ c.in-Some.ranked c.in-Some.set.now read c.in-Some-2.hypothesis (search rules)
