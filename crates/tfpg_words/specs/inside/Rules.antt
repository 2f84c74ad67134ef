-- The rules of clap that represent a form.
use Rattle.std.specs.Prelude.{◌≡◌, Bool, true, false, List, [], ◌∷◌, Option, Some, None, codes, pos}
use Rattle.clap.specs.Walk.{Rule, Row, Text, Waiting, Walk}
use Rattle.clap.specs.Simple.{Shape, new_rule, new_shape}
use Rattle.clap.specs.declared.builder.action.ArgAction.TheVariants.{Append, Count}
use Rattle.clap.specs.declared.builder.value_parser.ValueParser.TheVariants as vp

abbrev pub words_id : Text
words_id = codes "words"

abbrev pub option_rule : Text → Rule
option_rule name = record (new_rule name) {
  long = Some name;
  action = Some Append;
  parser = Some vp.String;
  range = Some (record { start_inclusive = 1; end_inclusive = 1 });
}

abbrev pub flag_rule : Text → Rule
flag_rule name = record (new_rule name) {
  long = Some name;
  action = Some Count;
  defaults = codes "0" ∷ [];
  parser = Some (vp.Signed (pos 0) (pos 255));
  range = Some (record { start_inclusive = 0; end_inclusive = 0 });
}

abbrev pub words_rule : Rule
words_rule = record (new_rule words_id) {
  index = Some 1;
  action = Some Append;
  parser = Some vp.String;
  range = Some (record { start_inclusive = 1; end_inclusive = 1 });
}

-- what the name of an option word finds, by whether it names an option or a flag
abbrev pub LongIs : Bool → Bool → Text → Option Rule → Type 0
LongIs true flag name found = found ≡ Some (option_rule name)
LongIs false true name found = found ≡ Some (flag_rule name)
LongIs false false name found = found ≡ None

-- between two words
abbrev pub between : List Row → Option (Text × List Text) → Waiting → Bool → Walk
between rows pending waiting trailing = record {
  held = record { rows = rows; pending = pending; skip = 0 };
  waiting = waiting;
  position = 1;
  is_trailing = trailing;
  stopped = None;
}

abbrev pub shape_with : List Rule → Shape
shape_with rules = record (new_shape (codes "tfpg")) {
  rules = rules;
  is_built = true;
  no_binary_name = true;
  disable_help_flag = true;
  disable_version_flag = true;
  disable_help_subcommand = true;
}
