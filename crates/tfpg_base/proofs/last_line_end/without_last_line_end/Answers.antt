use Rattle.std.proofs.Common.{◌≡◌, ◌≢◌, ◌++◌, List, ℕ, length, ap, sym, ◌∙◌, arith}
use Rattle.std.proofs.lemmas.Bool.Decides.{Decides-eqb}
use Rattle.std.proofs.lemmas.Option.{MatchOption-at_some, MatchOption-at_none}
use Rattle.std.proofs.lemmas.Slice.Eq.{strip_suffix_is}
use Rattle.tfpg_base.specs.Lines.{lines_of}
use Rattle.tfpg_base.proofs.lemmas.LinesAndParts.{lines_of-ended, lines_of-unended}
use Rattle.tfpg_base.proofs.last_line_end.without_last_line_end.Goals as goal

pub returns-in-Some-clause-lines : goal.returns-in-Some-clause-lines
returns-in-Some-clause-lines c = λ some.
    let is = strip_suffix_is Decides-eqb c.args.text.now c.as_slice.result.now c.strip_suffix.result c.strip_suffix.ensures.cases in
    let text = MatchOption-at_some ((front : List ℕ) → c.args.text.now ≢ front ++ c.as_slice.result.now) (λ front. c.args.text.now ≡ front.now ++ c.as_slice.result.now) c.in-Some.front c.in-Some.is is in
    ap lines_of (text ∙ ap (λ end. c.in-Some.front.now ++ end) c.as_slice.ensures) ∙ lines_of-ended c.in-Some.front.now

pub returns-in-None-clause-lines : goal.returns-in-None-clause-lines
returns-in-None-clause-lines c = λ some.
    let is = strip_suffix_is Decides-eqb c.args.text.now c.as_slice.result.now c.strip_suffix.result c.strip_suffix.ensures.cases in
    let unended = MatchOption-at_none ((front : List ℕ) → c.args.text.now ≢ front ++ c.as_slice.result.now) (λ front. c.args.text.now ≡ front.now ++ c.as_slice.result.now) c.in-None.is is in
    lines_of-unended c.args.text.now (λ none. omega (arith, ap length none, some)) (λ front e. unended front (e ∙ ap (λ end. front ++ end) (sym c.as_slice.ensures)))
