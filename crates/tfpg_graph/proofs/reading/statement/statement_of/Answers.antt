use Rattle.std.proofs.Common.{◌≡◌, false, nat_lt, length, sym, ap, ◌∙◌, arith}
use Rattle.std.proofs.lemmas.Bool.Decides.{nat_tests}
use Rattle.tfpg_base.specs.declared.limits.TheConstants.{LONGEST_LINE}
use Rattle.tfpg_graph.specs.inside.reading.Shapes.{statement_by_keyword}
use Rattle.tfpg_graph.proofs.lemmas.reading.saying.StatementLines.{statement_of-words}
use Rattle.tfpg_graph.proofs.reading.statement.statement_of.Goals as goal

pub returns : goal.returns
returns c =
    let short : nat_lt LONGEST_LINE (length c.args.line.now) ≡ false = grind (arith, nat_tests) in
    let words = c.in_ok-words.ensures in
    c.statement_in.ensures ∙ ap (statement_by_keyword c.args.version) (c.as_slice.ensures ∙ words.0) ∙ sym (statement_of-words c.args.version c.args.line.now short words.1)
