use Rattle.std.proofs.Common.{◌≡◌, ◌<◌, ◌≤◌, length, map, sym, subst, ◌∙◌}
use Rattle.std.proofs.lemmas.Bool.{ltb-false}
use Rattle.std.proofs.lemmas.Option.{MatchOption-at_none, MatchOption-at_some}
use Rattle.tfpg_base.specs.Words.{words_of}
use Rattle.tfpg_base.specs.declared.limits.TheConstants.{LONGEST_LINE, MAX_WORDS}
use Rattle.tfpg_report.specs.inside.WordsRead.{AreWordsRead}
use Rattle.tfpg_report.proofs.lemmas.reading.LinesSay.{says_few, words_read-none, words_read-say}
use Rattle.tfpg_report.proofs.reading.read_line.read_named_line.Goals as goal

pub returns-in-None-clause-none : goal.returns-in-None-clause-none
returns-in-None-clause-none c none =
    says_few c.args.graph.now c.is_always_valid.ensures.valid c.args.line.now
    (MatchOption-at_none (MAX_WORDS < length (words_of c.args.line.now)) _ c.in-None.is c.of.ensures)

pub returns-in-Some-clause-says : goal.returns-in-Some-clause-says
returns-in-Some-clause-says c =
    let cut : c.in-Some.words ≡ words_of c.args.line.now = MatchOption-at_some _ (λ words. words ≡ words_of c.args.line.now) c.in-Some.words c.in-Some.is c.of.ensures in
    let words : map (λ word. word.now) c.as_slice.result.now ≡ words_of c.args.line.now = c.as_slice.ensures ∙ cut in
    let short : length c.args.line.now ≤ LONGEST_LINE = ltb-false LONGEST_LINE (length c.args.line.now) (sym c.is_too_long.ensures ∙ c.if-is_too_long.false) in
    words_read-say c.args.graph.now c.is_always_valid.ensures.valid c.args.line.now short c.line_in.result
    (subst (λ ws. AreWordsRead c.args.graph.now ws c.line_in.result) words c.line_in.ensures)

pub returns-in-Some-clause-none : goal.returns-in-Some-clause-none
returns-in-Some-clause-none c =
    let cut : c.in-Some.words ≡ words_of c.args.line.now = MatchOption-at_some _ (λ words. words ≡ words_of c.args.line.now) c.in-Some.words c.in-Some.is c.of.ensures in
    let words : map (λ word. word.now) c.as_slice.result.now ≡ words_of c.args.line.now = c.as_slice.ensures ∙ cut in
    words_read-none c.args.graph.now c.is_always_valid.ensures.valid c.args.line.now c.line_in.result
    (subst (λ ws. AreWordsRead c.args.graph.now ws c.line_in.result) words c.line_in.ensures)
