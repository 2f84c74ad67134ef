use Rattle.std.proofs.Common.{◌∙◌, ap, sym, subst, map, Err}
use Rattle.std.specs.String.{string_bytes}
use Rattle.clap.specs.Simple.{app_of}
use Rattle.clap.specs.Faults.{is_simple_and_free}
use Rattle.std.proofs.lemmas.Result.{err_from_is_err_and}
use Rattle.tfpg_words.specs.inside.Parts.{flags_in, options_in, Parses}
use Rattle.tfpg_words.proofs.lemmas.Taken.{taken_ok, taken_err}
use Rattle.tfpg_words.proofs.parts.Parts.taken.Goals as goal

pub parsed-requires : goal.parsed-requires
parsed-requires c = ap is_simple_and_free c.in_ok-command.ensures ∙ c.requires.simple

pub returns-in_err-matches : goal.returns-in_err-matches
returns-in_err-matches c =
    let form = c.args.form.now in
    let words = c.args.words.now in
    let p = err_from_is_err_and c.from_residual-in_err-matches.result c.from_residual-in_err-matches.ensures.1 in
    rw p.1 (taken_err (options_in form) (flags_in form) c.requires (app_of c.in_ok-command.command) c.in_ok-command.ensures words p.0
    (subst (λ e. Parses (app_of c.in_ok-command.command) (map string_bytes words) (Err e)) (sym p.2) c.in_err-matches.ensures))

pub returns : goal.returns
returns c = taken_ok (options_in c.args.form.now) (flags_in c.args.form.now) c.requires (app_of c.in_ok-command.command) c.in_ok-command.ensures c.args.words.now c.in_ok-matches.matches c.in_ok-matches.ensures
