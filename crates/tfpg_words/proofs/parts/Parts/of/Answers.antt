use Rattle.std.proofs.Common.{refl, map}
use Rattle.std.specs.String.{string_bytes}
use Rattle.tfpg_words.specs.Words.{Any, parts_from}
use Rattle.tfpg_words.specs.inside.Parts.{flags_in, form_in, options_in, rows_in}
use Rattle.tfpg_words.proofs.lemmas.Once.{kept, repeated}
use Rattle.tfpg_words.proofs.parts.Parts.of.Goals as goal

pub returns-then-not-are_once : goal.returns-then-not-are_once
returns-then-not-are_once c =
    let form = c.args.form.now in (
      refl,
      repeated (options_in form) (flags_in form) c.requires.options_in c.requires.flags_in (parts_from (form_in form) (map string_bytes c.args.words.now) Any)
          (rows_in c.in_ok-parts.parts) c.are_once.result c.are_once.ensures c.if-not-are_once.true c.in_ok-parts.ensures,
    )

pub returns : goal.returns
returns c =
    let form = c.args.form.now in
    kept (options_in form) (flags_in form) c.requires.options_in c.requires.flags_in (parts_from (form_in form) (map string_bytes c.args.words.now) Any)
    (rows_in c.in_ok-parts.parts) c.are_once.result c.are_once.ensures c.if-not-are_once.false c.in_ok-parts.ensures
