use Rattle.std.proofs.Common.{rules, ◌≡◌, false, map, bytes_eq, codes, ap, ◌∙◌}
use Rattle.tfpg_report.proofs.lemmas.reading.SetParts.{hypothesis_of_word}
use Rattle.tfpg_report.proofs.reading.set_word.set_in.Goals as goal

pub returns : goal.returns
returns c =
    let other : bytes_eq c.args.word.now (codes "-") ≡ false = search rules in
    hypothesis_of_word c.args.graph.now c.is_always_valid.ensures.valid c.args.word.now _ c.hypothesis_of-hypothesis.result other (ap (map (λ word. word.now)) c.deref.ensures.value ∙ c.in_ok-words.ensures)
    c.hypothesis_of-hypothesis.ensures.found c.hypothesis_of-hypothesis.ensures.none
