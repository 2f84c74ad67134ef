use Rattle.std.proofs.Common.{◌∷◌, List, ℕ, codes, map, sym, subst}
use Rattle.std.specs.Prelude.{Err}
use Rattle.std.proofs.lemmas.Result.{err_from_is_err_and}
use Rattle.tfpg_report.specs.inside.WordsRead.{AreWordsRead}
use Rattle.tfpg_report.specs.declared.reading.read_line.LineRefusal.{LineRefusal}
use Rattle.tfpg_report.proofs.lemmas.reading.LinesSay.{no_rejected}
use Rattle.tfpg_report.proofs.reading.read_findings.rejected_in.Goals as goal

pub returns-in_err-number : goal.returns-in_err-number
returns-in_err-number c =
    let words : List (List ℕ) = map (λ word. word.now) c.args.words.now in
    let exit = err_from_is_err_and c.from_residual.result c.from_residual.ensures.1 in
    rw exit.1
    (subst (λ (refusal : LineRefusal). AreWordsRead c.args.graph.now (codes "rejected" ∷ words) (Err refusal)) (sym exit.2)
    (no_rejected c.args.graph.now c.is_always_valid.ensures.valid words c.in_err-number.field-0.0 c.in_err-number.ensures))
