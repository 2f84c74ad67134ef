-- Data whose text is read back: texts of bytes that may stand in names, whole numbers of 64 bits, and objects whose keys are in order.
use Rattle.std.proofs.Common.{◌≡◌, ℕ, zero, suc, ◌<◌, ◌≤◌, ◌^◌, Bool, true, false, List, [], ◌∷◌, ◌++◌, IsTrue, Some, refl, sym, ap, ◌∙◌, subst, arith, append-nil}
use Rattle.std.specs.Option.{option_map, option_and_then}
use Rattle.std.specs.List.{list_all}
use Rattle.std.specs.Str.{IsAscii}
use Rattle.std.proofs.lemmas.Bool.{and_parts, false≢true}
use Rattle.std.proofs.lemmas.Bool.Decides.{nat_tests}
use Rattle.std.proofs.lemmas.Fmt.{IsAscii-decimal}
use Rattle.std.proofs.lemmas.Str.{IsAscii-append, IsUtf8-from_ascii}
use Rattle.json.specs.Lex.{tokens}
use Rattle.json.specs.Json as json
use Rattle.json.specs.Print.{escape, quoted}
use Rattle.json.specs.Tree as tree
use Rattle.json.proofs.Printed.Strings.{escape_byte_plain}
use Rattle.json.proofs.Printed.Decimals.{IsNumber-decimal}
use Rattle.json.proofs.Printed.Tokens.{tokens-print}
use Rattle.json.proofs.Printed.Trees.{value-json_tokens, ArePrintable-json_tokens}
use Rattle.serde_json.specs.Data.{Num, unsigned, negative, float, Data, null, boolean, number, string, array, object, Items, no_items, item, Members, no_members, member, put}
use Rattle.serde_json.specs.Read.{of_json, of_items, of_members, max_depth, read}
use Rattle.serde_json.specs.Written.{outline, items_outline, members_outline, compact_text, items_text, members_text, comma_if}
use Rattle.serde_json.proofs.Numbers.{number_of-decimal}
use Rattle.serde_json.proofs.Texts.{print-outline}
use Rattle.tfpg_base.specs.Words.{is_name_byte}
use Rattle.tfpg_base.specs.Lines.{with_line_end}
use Rattle.tfpg_json.specs.GraphText.{data_in}
use Rattle.tfpg_json.proofs.lemmas.ListsRead.{data_in-utf8}
use Rattle.tfpg_json.proofs.lemmas.NameTexts.{each_small}
use Rattle.tfpg_json.proofs.lemmas.read_back.LineEnds.{tokens-line_end}

-- the members with one more at their end
abbrev pub with_last : Members → List ℕ → Data → Members
with_last no_members key value = member key value no_members
with_last (member first d others) key value = member first d (with_last others key value)

-- Each member, put after those before it, stands at their end.
abbrev pub InOrder : Members → Members → Type 0
InOrder before no_members = Unit {0}
InOrder before (member key value others) = (put key value before ≡ with_last before key value) × InOrder (with_last before key value) others

-- a whole number of 64 bits
abbrev pub IsWhole : Num → Type 0
IsWhole (unsigned n) = n < 2 ^ 64
IsWhole (negative z) = ⊥
IsWhole (float x) = ⊥

-- bytes that may stand in names
abbrev pub AreNameBytes : List ℕ → Type 0
AreNameBytes bytes = IsTrue (list_all is_name_byte bytes)

abbrev mutual
  -- the data is so, and nests at most so deep
  pub IsWritten : Data → ℕ → Type 0
  IsWritten null deep = Unit {0}
  IsWritten (boolean b) deep = ⊥
  IsWritten (number n) deep = IsWhole n
  IsWritten (string text) deep = AreNameBytes text
  IsWritten (array ds) zero = ⊥
  IsWritten (array ds) (suc deep) = AreWritten ds deep
  IsWritten (object ms) zero = ⊥
  IsWritten (object ms) (suc deep) = InOrder no_members ms × MembersWritten ms deep

  pub AreWritten : Items → ℕ → Type 0
  AreWritten no_items deep = Unit {0}
  AreWritten (item d ds) deep = IsWritten d deep × AreWritten ds deep

  pub MembersWritten : Members → ℕ → Type 0
  MembersWritten no_members deep = Unit {0}
  MembersWritten (member key d ms) deep = AreNameBytes key × IsWritten d deep × MembersWritten ms deep

-- ---- its JSON

mutual
  shallow : (d : Data) (deep : ℕ) → IsWritten d deep → tree.depth (outline d) ≤ deep
  shallow null deep is = omega arith
  shallow (boolean b) deep is = absurd is
  shallow (number n) deep is = omega arith
  shallow (string text) deep is = omega arith
  shallow (array ds) zero is = absurd is
  shallow (array ds) (suc deep) is = omega (arith, items_shallow ds deep is)
  shallow (object ms) zero is = absurd is
  shallow (object ms) (suc deep) is = omega (arith, members_shallow ms deep is.1)

  items_shallow : (ds : Items) (deep : ℕ) → AreWritten ds deep → tree.items_depth (items_outline ds) ≤ deep
  items_shallow no_items deep are = omega arith
  items_shallow (item d ds) deep are = omega (arith, shallow d deep are.0, items_shallow ds deep are.1)

  members_shallow : (ms : Members) (deep : ℕ) → MembersWritten ms deep → tree.members_depth (members_outline ms) ≤ deep
  members_shallow no_members deep are = omega arith
  members_shallow (member key d ms) deep are = omega (arith, shallow d deep are.1, members_shallow ms deep are.2)

numbered : (n : Num) → IsWhole n → tree.HasNumbers (outline (number n))
numbered (unsigned n) small = IsNumber-decimal n small
numbered (negative z) small = absurd small
numbered (float x) small = absurd small

mutual
  has_numbers : (d : Data) (deep : ℕ) → IsWritten d deep → tree.HasNumbers (outline d)
  has_numbers null deep is = tt
  has_numbers (boolean b) deep is = absurd is
  has_numbers (number n) deep is = numbered n is
  has_numbers (string text) deep is = tt
  has_numbers (array ds) zero is = absurd is
  has_numbers (array ds) (suc deep) is = items_have_numbers ds deep is
  has_numbers (object ms) zero is = absurd is
  has_numbers (object ms) (suc deep) is = members_have_numbers ms deep is.1

  items_have_numbers : (ds : Items) (deep : ℕ) → AreWritten ds deep → tree.ItemsHaveNumbers (items_outline ds)
  items_have_numbers no_items deep are = tt
  items_have_numbers (item d ds) deep are = (has_numbers d deep are.0, items_have_numbers ds deep are.1)

  members_have_numbers : (ms : Members) (deep : ℕ) → MembersWritten ms deep → tree.MembersHaveNumbers (members_outline ms)
  members_have_numbers no_members deep are = tt
  members_have_numbers (member key d ms) deep are = (has_numbers d deep are.1, members_have_numbers ms deep are.2)

-- the members after others
abbrev followed : Members → Members → Members
followed before no_members = before
followed before (member key d ms) = followed (with_last before key d) ms

joined : Members → Members → Members
joined no_members ms = ms
joined (member key d before) ms = member key d (joined before ms)

unfolding_joined : (before ms : Members) (key : List ℕ) (d : Data) → joined (with_last before key d) ms ≡ joined before (member key d ms)
unfolding joined
unfolding_joined no_members ms key d = refl
unfolding_joined (member first e before) ms key d = ap (member first e) (unfolding_joined before ms key d)

joined-none : (ms : Members) → joined ms no_members ≡ ms
unfolding joined
joined-none no_members = refl
joined-none (member key d ms) = ap (member key d) (joined-none ms)

followed-joined : (before ms : Members) → followed before ms ≡ joined before ms
followed-joined before no_members = sym (joined-none before)
followed-joined before (member key d ms) = followed-joined (with_last before key d) ms ∙ unfolding_joined before ms key d

followed-none : (ms : Members) → followed no_members ms ≡ ms
unfolding joined
followed-none ms = followed-joined no_members ms

whole_number : (n : Num) → IsWhole n → of_json (outline (number n)) ≡ Some (number n)
whole_number (unsigned n) small = ap (option_map number) (number_of-decimal n small)
whole_number (negative z) small = absurd small
whole_number (float x) small = absurd small

mutual
  of_json-outline : (d : Data) (deep : ℕ) → IsWritten d deep → of_json (outline d) ≡ Some d
  of_json-outline null deep is = refl
  of_json-outline (boolean b) deep is = absurd is
  of_json-outline (number n) deep is = whole_number n is
  of_json-outline (string text) deep is = refl
  of_json-outline (array ds) zero is = absurd is
  of_json-outline (array ds) (suc deep) is = ap (option_map array) (of_items-outline ds deep is)
  of_json-outline (object ms) zero is = absurd is
  of_json-outline (object ms) (suc deep) is = ap (option_map object) (of_members-outline ms no_members deep is.0 is.1 ∙ ap Some (followed-none ms))

  of_items-outline : (ds : Items) (deep : ℕ) → AreWritten ds deep → of_items (items_outline ds) ≡ Some ds
  of_items-outline no_items deep are = refl
  of_items-outline (item d ds) deep are =
      ap (option_and_then (λ e. option_map (item e) (of_items (items_outline ds)))) (of_json-outline d deep are.0)
      ∙ ap (option_map (item d)) (of_items-outline ds deep are.1)

  of_members-outline : (ms before : Members) (deep : ℕ) → InOrder before ms → MembersWritten ms deep → of_members (members_outline ms) before ≡ Some (followed before ms)
  of_members-outline no_members before deep in_order are = refl
  of_members-outline (member key d ms) before deep in_order are =
      ap (option_and_then (λ e. of_members (members_outline ms) (put key e before))) (of_json-outline d deep are.1)
      ∙ ap (of_members (members_outline ms)) in_order.0
      ∙ of_members-outline ms (with_last before key d) deep in_order.1 are.2

-- ---- its text

ascii_cons : (byte : ℕ) (bytes : List ℕ) → byte < 128 → IsAscii bytes → IsAscii (byte ∷ bytes)
ascii_cons byte bytes small ascii zero = small
ascii_cons byte bytes small ascii (suc i) = ascii i

ascii_nil : IsAscii []
ascii_nil i = omega arith

name_byte_plain : (byte : ℕ) → is_name_byte byte ≡ true → 32 ≤ byte
name_byte_plain byte is = grind (arith, nat_tests)

differs : (byte other : ℕ) → is_name_byte byte ≡ true → is_name_byte other ≡ false → byte ≡ other → ⊥
differs byte other is not same = false≢true (sym not ∙ sym (ap is_name_byte same) ∙ is)

-- bytes of names need no escape
escape-name_bytes : (bytes : List ℕ) → AreNameBytes bytes → escape bytes ≡ bytes
escape-name_bytes [] are = refl
escape-name_bytes (byte ∷ bytes) are =
    let parts = and_parts (is_name_byte byte) _ are in
    λ i. escape_byte_plain byte (differs byte 34 parts.0 refl) (differs byte 92 parts.0 refl) (name_byte_plain byte parts.0) i ++ escape-name_bytes bytes parts.1 i

ascii_quoted : (bytes : List ℕ) → AreNameBytes bytes → IsAscii (quoted bytes)
ascii_quoted bytes are =
    ascii_cons 34 (escape bytes ++ 34 ∷ []) (omega arith)
    (IsAscii-append (escape bytes) (34 ∷ []) (subst IsAscii (sym (escape-name_bytes bytes are)) (each_small bytes are)) (ascii_cons 34 [] (omega arith) ascii_nil))

ascii_comma : (later : Bool) → IsAscii (comma_if later)
ascii_comma true = ascii_cons 44 [] (omega arith) ascii_nil
ascii_comma false = ascii_nil

ascii_number : (n : Num) → IsWhole n → IsAscii (compact_text (number n))
ascii_number (unsigned n) small = IsAscii-decimal n small
ascii_number (negative z) small = absurd small
ascii_number (float x) small = absurd small

mutual
  ascii_text : (d : Data) (deep : ℕ) → IsWritten d deep → IsAscii (compact_text d)
  ascii_text null deep is = ascii_cons 110 (117 ∷ 108 ∷ 108 ∷ []) (omega arith) (ascii_cons 117 (108 ∷ 108 ∷ []) (omega arith) (ascii_cons 108 (108 ∷ []) (omega arith) (ascii_cons 108 [] (omega arith) ascii_nil)))
  ascii_text (boolean b) deep is = absurd is
  ascii_text (number n) deep is = ascii_number n is
  ascii_text (string text) deep is = ascii_quoted text is
  ascii_text (array ds) zero is = absurd is
  ascii_text (array ds) (suc deep) is = ascii_cons 91 (items_text false ds) (omega arith) (ascii_items false ds deep is)
  ascii_text (object ms) zero is = absurd is
  ascii_text (object ms) (suc deep) is = ascii_cons 123 (members_text false ms) (omega arith) (ascii_members false ms deep is.1)

  ascii_items : (later : Bool) (ds : Items) (deep : ℕ) → AreWritten ds deep → IsAscii (items_text later ds)
  ascii_items later no_items deep are = ascii_cons 93 [] (omega arith) ascii_nil
  ascii_items later (item d ds) deep are =
      IsAscii-append (comma_if later) (compact_text d ++ items_text true ds) (ascii_comma later)
      (IsAscii-append (compact_text d) (items_text true ds) (ascii_text d deep are.0) (ascii_items true ds deep are.1))

  ascii_members : (later : Bool) (ms : Members) (deep : ℕ) → MembersWritten ms deep → IsAscii (members_text later ms)
  ascii_members later no_members deep are = ascii_cons 125 [] (omega arith) ascii_nil
  ascii_members later (member key d ms) deep are =
      IsAscii-append (comma_if later) (quoted key ++ 58 ∷ (compact_text d ++ members_text true ms)) (ascii_comma later)
      (IsAscii-append (quoted key) (58 ∷ (compact_text d ++ members_text true ms)) (ascii_quoted key are.0)
      (ascii_cons 58 (compact_text d ++ members_text true ms) (omega arith)
      (IsAscii-append (compact_text d) (members_text true ms) (ascii_text d deep are.1) (ascii_members true ms deep are.2))))

-- ---- the way back

module _ (d : Data) (deep : ℕ) (is : IsWritten d deep) (few : deep ≤ max_depth) where
  tokens_written : tokens (with_line_end (compact_text d)) ≡ tree.json_tokens (outline d)
  tokens_written =
      let printable = ArePrintable-json_tokens (outline d) (has_numbers d deep is) in
      ap (λ (text : List ℕ). tokens (text ++ 10 ∷ [])) (sym (print-outline d))
      ∙ tokens-line_end (tree.json_tokens (outline d)) printable
      ∙ tokens-print (tree.json_tokens (outline d)) printable

  -- its line is read as the data
  read-written : read (with_line_end (compact_text d)) ≡ Some d
  read-written =
      ap (λ found. option_and_then of_json (option_and_then (λ p. json.if_last p.0 p.1) found))
      (ap (json.value max_depth) (tokens_written ∙ sym (append-nil (tree.json_tokens (outline d))))
      ∙ value-json_tokens (outline d) max_depth [] (omega (arith, shallow d deep is, few)))
      ∙ of_json-outline d deep is

  -- The line that is written for the data is the data.
  pub data_in-written : data_in (with_line_end (compact_text d)) ≡ Some d
  data_in-written =
      data_in-utf8 (with_line_end (compact_text d))
      (IsUtf8-from_ascii _ (IsAscii-append (compact_text d) (10 ∷ []) (ascii_text d deep is) (ascii_cons 10 [] (omega arith) ascii_nil)))
      ∙ read-written
