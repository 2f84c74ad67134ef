use Rattle.std.proofs.Common.{◌≡◌, codes, refl, arith, rules}
use Rattle.std.proofs.lemmas.Slice.Eq.{text_from_reads}
use Rattle.tfpg_log.proofs.log_line.statement_alone.Goals as goal

pub returns-in-sweep : goal.returns-in-sweep
returns-in-sweep c =
    let word : c.args.word.now ≡ codes "sweep" = text_from_reads c.args.word.now (codes "sweep") (omega arith) (search rules) in
    rw word refl
