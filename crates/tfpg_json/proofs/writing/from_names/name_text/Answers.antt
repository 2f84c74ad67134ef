use Rattle.std.specs.Str.{IsUtf8}
use Rattle.tfpg_json.proofs.lemmas.NameTexts.{IsOk-unless, IsUtf8-name}
use Rattle.tfpg_json.proofs.writing.from_names.name_text.Goals as goal

pub unwrap-requires : goal.unwrap-requires
unwrap-requires c = IsOk-unless c.from_utf8.result _ _ (IsUtf8 c.args.name.now) c.from_utf8.ensures.cases (IsUtf8-name c.args.name.now c.requires)
