-- The members that words stand for, read word by word.
use Rattle.std.proofs.Common.{◌≡◌, ℕ, ◌+◌, ◌<◌, ◌≤◌, ◌==◌, Bool, true, false, cond, List, [], ◌∷◌, ◌++◌, map, All, Option, Some, None, refl, ap, sym, subst, ◌∙◌, append_assoc, arith}
use Rattle.std.specs.Bool.{then_some}
use Rattle.std.specs.Option.{option_and_then}
use Rattle.std.proofs.lemmas.Bool.{eqb-true}
use Rattle.std.proofs.lemmas.List.{append-nil}
use Rattle.std.proofs.lemmas.List.Elements.{All-nil, All-cons, All-head, All-tail, All-weaker}
use Rattle.std.proofs.lemmas.List.Quantifiers.{position-Some}
use Rattle.std.proofs.lemmas.Option.{slice_get-get_or, same_Some}
use Rattle.tfpg_base.specs.Set.{with_member}
use Rattle.tfpg_base.proofs.lemmas.Sets.{All-with_member, with_member-last}
use Rattle.tfpg_base.proofs.lemmas.lists.Elements.{AllPairs-head, AllPairs-tail, AllPairs-cons}
use Rattle.tfpg_base.proofs.lemmas.lists.Ordered.{AllPairs-nil}
use Rattle.tfpg_graph.specs.Graph.{Tfpg, name_word, node_named, failures, failure_at, position_of_failure, failure_word, is_monitored}
use Rattle.tfpg_graph.specs.Valid.{IsValid}
use Rattle.tfpg_graph.proofs.lemmas.NodeAt.{monitored_within}
use Rattle.tfpg_graph.specs.Members.{doubt_word}
use Rattle.tfpg_report.proofs.lemmas.MemberWords.{failure_word-named, failure_word-node, node_of_word}
use Rattle.tfpg_report.specs.inside.ReadMembers.{position_named, monitor_named, doubt_named, IsPosition, IsMonitor, AreRisingFrom}
use Rattle.tfpg_report.proofs.lemmas.MemberWords.{word_of_named}

-- ---- words that name numbers

-- The word of each number of this kind names it, and each word that names a number of this kind is its word.
pub record IsNaming (word_of : ℕ → List ℕ) (named : List ℕ → Option ℕ) (IsOne : ℕ → Type 0) : Type 0 where
  pub names : (number : ℕ) → IsOne number → named (word_of number) ≡ Some number
  pub of_word : (word : List ℕ) (number : ℕ) → named word ≡ Some number → IsOne number × (word_of number ≡ word)

-- a position that a name names is of a failure mode of that name
named_position : (graph : Tfpg) (name : List ℕ) (position : ℕ) → position_named graph name ≡ Some position → IsPosition graph position × (failure_word graph position ≡ name)
named_position graph name position e = by (node_named graph name) refl e
  where
    by : (o : Option ℕ) → node_named graph name ≡ o → option_and_then (position_of_failure graph) o ≡ Some position → IsPosition graph position × (failure_word graph position ≡ name)
    by None is same = absurd cc
    by (Some node) is same =
        let found = position-Some (λ failure. failure == node) (failures graph) position 0 same in
        let at : failure_at graph position ≡ Some node = slice_get-get_or (failures graph) position 0 found.0 ∙ ap Some (eqb-true _ _ found.1) in
        (found.0, failure_word-node graph position node at ∙ sym (word_of_named graph name node is).1)

-- names name failure modes by their positions
pub failure_naming : (graph : Tfpg) → IsValid graph → IsNaming (failure_word graph) (position_named graph) (IsPosition graph)
failure_naming graph valid = record { names = failure_word-named graph valid; of_word = named_position graph }

-- a node that a name names as a monitor is one of that name
named_monitor : (graph : Tfpg) (name : List ℕ) (node : ℕ) → monitor_named graph name ≡ Some node → IsMonitor graph node × (name_word graph node ≡ name)
named_monitor graph name node e = by (node_named graph name) refl e
  where
    tested : (found : ℕ) (b : Bool) → is_monitored graph found ≡ b → node_named graph name ≡ Some found → then_some b found ≡ Some node → IsMonitor graph node × (name_word graph node ≡ name)
    tested found true passes is same =
        let one : found ≡ node = same_Some found node same in (
          subst (λ (n : ℕ). is_monitored graph n ≡ true) one passes,
          ap (name_word graph) (sym one) ∙ sym (word_of_named graph name found is).1,
        )
    tested found false fails is same = absurd cc

    by : (o : Option ℕ) → node_named graph name ≡ o → option_and_then (λ n. then_some (is_monitored graph n) n) o ≡ Some node → IsMonitor graph node × (name_word graph node ≡ name)
    by None is same = absurd cc
    by (Some found) is same = tested found (is_monitored graph found) refl is same

-- a node that a word names as a doubt
named_doubt : (graph : Tfpg) (word : List ℕ) (node : ℕ) → doubt_named graph word ≡ Some node → IsMonitor graph node × (doubt_word graph node ≡ word)
named_doubt graph [] node e = absurd cc
named_doubt graph (mark ∷ name) node e = by (mark == 33) refl e
  where
    by : (b : Bool) → (mark == 33) ≡ b → cond b (monitor_named graph name) None ≡ Some node → IsMonitor graph node × (doubt_word graph node ≡ mark ∷ name)
    by false is same = absurd cc
    by true is same =
        let found = named_monitor graph name node same in
        (found.0, ap (λ (n : List ℕ). 33 ∷ n) found.1 ∙ ap (λ (m : ℕ). m ∷ name) (sym (eqb-true mark 33 is)))

-- the word for a doubt names its node
doubt_word-named : (graph : Tfpg) → IsValid graph → (node : ℕ) → IsMonitor graph node → doubt_named graph (doubt_word graph node) ≡ Some node
doubt_word-named graph valid node monitored =
    ap (option_and_then (λ n. then_some (is_monitored graph n) n)) (node_of_word graph valid node (monitored_within graph node monitored))
    ∙ ap (λ b. then_some b node) monitored

-- words for doubts name monitored nodes
pub doubt_naming : (graph : Tfpg) → IsValid graph → IsNaming (doubt_word graph) (doubt_named graph) (IsMonitor graph)
doubt_naming graph valid = record { names = doubt_word-named graph valid; of_word = named_doubt graph }

-- ---- the numbers of words

module _ (IsOne : ℕ → Type 0) (least : ℕ) where
  -- the numbers after the first
  AreRisingFrom-others : (first : ℕ) (others : List ℕ) → AreRisingFrom IsOne least (first ∷ others) → AreRisingFrom IsOne (first + 1) others
  AreRisingFrom-others first others are = record {
    rising = AllPairs-tail (λ a b. a < b) first others are.rising;
    not_before = All-weaker (λ other. first < other) (λ other. first + 1 ≤ other) (λ other lt. omega (arith, lt)) others (AllPairs-head (λ a b. a < b) first others are.rising);
    members = All-tail IsOne first others are.members;
  }

  -- one more number before the others
  AreRisingFrom-first : (first : ℕ) (others : List ℕ) → least ≤ first → IsOne first → AreRisingFrom IsOne (first + 1) others → AreRisingFrom IsOne least (first ∷ others)
  AreRisingFrom-first first others from is are = record {
    rising = AllPairs-cons (λ a b. a < b) first others (All-weaker (λ other. first + 1 ≤ other) (λ other. first < other) (λ other le. omega (arith, le)) others are.not_before) are.rising;
    not_before = All-cons (λ other. least ≤ other) first others from (All-weaker (λ other. first + 1 ≤ other) (λ other. least ≤ other) (λ other le. omega (arith, le, from)) others are.not_before);
    members = All-cons IsOne first others is are.members;
  }

module _ (word_of : ℕ → List ℕ) (named : List ℕ → Option ℕ) (IsOne : ℕ → Type 0) (naming : IsNaming word_of named IsOne) (least : ℕ) (word : List ℕ) (words : List (List ℕ)) where
  -- the number of a first word
  first_number : (number : ℕ) (numbers : List ℕ) → AreRisingFrom IsOne least (number ∷ numbers) → map word_of (number ∷ numbers) ≡ word ∷ words → named word ≡ Some number
  first_number number numbers are e =
      let head : word_of number ≡ word = cc in
      sym (ap named head) ∙ naming.names number (All-head IsOne number numbers are.members)

  -- with a first word of no number, there are no numbers of these words
  no_numbers-unknown : (numbers : List ℕ) → named word ≡ None → AreRisingFrom IsOne least numbers → map word_of numbers ≡ word ∷ words → ⊥
  no_numbers-unknown [] none are e = absurd cc
  no_numbers-unknown (number ∷ numbers) none are e = let found = first_number number numbers are e in cc

  -- nor with one of a number that is too early
  no_numbers-early : (first : ℕ) (numbers : List ℕ) → named word ≡ Some first → first < least → AreRisingFrom IsOne least numbers → map word_of numbers ≡ word ∷ words → ⊥
  no_numbers-early first [] some early are e = absurd cc
  no_numbers-early first (number ∷ numbers) some early are e =
      let same = same_Some _ _ (sym (first_number number numbers are e) ∙ some) in
      omega (arith, same, early, All-head (λ other. least ≤ other) number numbers are.not_before)

  -- nor where there are none of the others
  no_numbers-others : (first : ℕ) (numbers : List ℕ) → named word ≡ Some first → ((others : List ℕ) → AreRisingFrom IsOne (first + 1) others → map word_of others ≡ words → ⊥)
      → AreRisingFrom IsOne least numbers → map word_of numbers ≡ word ∷ words → ⊥
  no_numbers-others first [] some none are e = absurd cc
  no_numbers-others first (number ∷ numbers) some none are e =
      let tail : map word_of numbers ≡ words = cc in
      let same = same_Some _ _ (sym (first_number number numbers are e) ∙ some) in
      none numbers (subst (λ (n : ℕ). AreRisingFrom IsOne (n + 1) numbers) same (AreRisingFrom-others IsOne least number numbers are)) tail

  -- with one more word, there is one more number
  numbers-more : (first : ℕ) (others : List ℕ) → named word ≡ Some first → least ≤ first → AreRisingFrom IsOne (first + 1) others → map word_of others ≡ words
      → AreRisingFrom IsOne least (first ∷ others) × (map word_of (first ∷ others) ≡ word ∷ words)
  numbers-more first others some from are e =
      let is = naming.of_word word first some in (
        AreRisingFrom-first IsOne least first others from is.0 are,
        ap (λ (n : List ℕ). n ∷ map word_of others) is.1 ∙ ap (λ (ns : List (List ℕ)). word ∷ ns) e,
      )

-- ---- the words that are left

-- The numbers of the words are those read so far, and then rising ones of the words that are left, none before the least one.
pub record IsReadTo (word_of : ℕ → List ℕ) (IsOne : ℕ → Type 0) (words : List (List ℕ)) (read : List ℕ) (least : ℕ) (left : List (List ℕ)) : Type 0 where
  pub below : All (λ number. number < least) read
  pub found : (rest : List ℕ) → AreRisingFrom IsOne least rest → map word_of rest ≡ left → AreRisingFrom IsOne 0 (read ++ rest) × (map word_of (read ++ rest) ≡ words)
  pub none : ((rest : List ℕ) → AreRisingFrom IsOne least rest → map word_of rest ≡ left → ⊥)
      → (numbers : List ℕ) → AreRisingFrom IsOne 0 numbers → map word_of numbers ≡ words → ⊥

module _ (word_of : ℕ → List ℕ) (IsOne : ℕ → Type 0) (words : List (List ℕ)) (read : List ℕ) (least : ℕ) where
  module _ (named : List ℕ → Option ℕ) (naming : IsNaming word_of named IsOne) (word : List ℕ) (left : List (List ℕ)) (is : IsReadTo word_of IsOne words read least (word ∷ left)) where
    -- with one word of no number, there are no numbers of the words
    pub IsReadTo-unknown : named word ≡ None → (numbers : List ℕ) → AreRisingFrom IsOne 0 numbers → map word_of numbers ≡ words → ⊥
    IsReadTo-unknown none = is.none (λ rest. no_numbers-unknown word_of named IsOne naming least word left rest none)

    module _ (number : ℕ) (some : named word ≡ Some number) where
      -- nor with one of a number that is too early
      pub IsReadTo-early : number < least → (numbers : List ℕ) → AreRisingFrom IsOne 0 numbers → map word_of numbers ≡ words → ⊥
      IsReadTo-early early = is.none (λ rest. no_numbers-early word_of named IsOne naming least word left number rest some early)

      -- one word more is read
      pub IsReadTo-turn : least ≤ number → IsReadTo word_of IsOne words (with_member number read) (number + 1) left
      IsReadTo-turn from =
          let earlier : All (λ other. other < number) read = All-weaker (λ other. other < least) (λ other. other < number) (λ other lt. omega (arith, lt, from)) read is.below in
          let last : (rest : List ℕ) → read ++ (number ∷ rest) ≡ with_member number read ++ rest =
          λ rest. sym (ap (λ (all : List ℕ). all ++ rest) (with_member-last number read earlier) ∙ append_assoc read (number ∷ []) rest) in
          record {
            below = All-with_member (λ other. other < number + 1) number read (omega arith) (All-weaker (λ other. other < number) (λ other. other < number + 1) (λ other lt. omega (arith, lt)) read earlier);
            found = λ rest are e.
                let more = numbers-more word_of named IsOne naming least word left number rest some from are e in
                subst (λ (all : List ℕ). AreRisingFrom IsOne 0 all × (map word_of all ≡ words)) (last rest) (is.found (number ∷ rest) more.0 more.1);
            none = λ no. is.none (λ rest. no_numbers-others word_of named IsOne naming least word left number rest some no);
          }

  -- none is left
  pub IsReadTo-end : IsReadTo word_of IsOne words read least [] → AreRisingFrom IsOne 0 read × (map word_of read ≡ words)
  IsReadTo-end is =
      subst (λ (all : List ℕ). AreRisingFrom IsOne 0 all × (map word_of all ≡ words)) (append-nil read)
      (is.found [] (record { rising = AllPairs-nil (λ a b. a < b); not_before = All-nil (λ number. least ≤ number); members = All-nil IsOne }) refl)
