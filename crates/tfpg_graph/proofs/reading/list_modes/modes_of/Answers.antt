use Rattle.std.proofs.Common.{rules, ◌≡◌, false, length, bytes_eq, codes, sym, ◌∙◌, arith}
use Rattle.std.proofs.lemmas.Bool.{cond-false}
use Rattle.std.proofs.lemmas.Nat.{pow_below}
use Rattle.tfpg_graph.specs.Declares.{modes_of_word}
use Rattle.tfpg_graph.proofs.lemmas.reading.graphs.ValidSoFar.{modes_some}
use Rattle.tfpg_graph.proofs.reading.list_modes.modes_of.Goals as goal

pub returns-then-eq-clause-some : goal.returns-then-eq-clause-some
returns-then-eq-clause-some c =
    let count : c.mode_count.result ≡ length c.args.declared.now.modes = c.mode_count.ensures.count in
    omega (arith, c.all_modes.ensures, pow_below 0 c.mode_count.result (omega (arith, count, c.requires.some)))

pub returns-else-eq-clause-some : goal.returns-else-eq-clause-some
returns-else-eq-clause-some c =
    let apart : bytes_eq c.args.word.now (codes "*") ≡ false = search rules in
    let is : c.args.listed ≡ modes_of_word c.args.declared.now c.args.word.now = c.requires.listed ∙ sym (cond-false _ _ _ apart) in
    omega (arith, is, (modes_some c.args.declared.now c.args.word.now c.requires.modes.once c.requires.modes.known c.requires.some_mode c.requires.some).0)

pub returns-else-eq-clause-own : goal.returns-else-eq-clause-own
returns-else-eq-clause-own c =
    let apart : bytes_eq c.args.word.now (codes "*") ≡ false = search rules in
    let is : c.args.listed ≡ modes_of_word c.args.declared.now c.args.word.now = c.requires.listed ∙ sym (cond-false _ _ _ apart) in
    omega (arith, is, (modes_some c.args.declared.now c.args.word.now c.requires.modes.once c.requires.modes.known c.requires.some_mode c.requires.some).1)
