use Rattle.std.proofs.Common.{◌≡◌, codes, refl, arith, rules}
use Rattle.std.proofs.lemmas.Slice.Eq.{text_from_reads}
use Rattle.tfpg_log.proofs.log_line.statement_with_name.Goals as goal

pub returns-in-alarm : goal.returns-in-alarm
returns-in-alarm c =
    let word : c.args.word.now ≡ codes "alarm" = text_from_reads c.args.word.now (codes "alarm") (omega arith) (search rules) in
    rw word refl

pub returns-in-silent : goal.returns-in-silent
returns-in-silent c =
    let word : c.args.word.now ≡ codes "silent" = text_from_reads c.args.word.now (codes "silent") (omega arith) (search rules) in
    rw word refl
