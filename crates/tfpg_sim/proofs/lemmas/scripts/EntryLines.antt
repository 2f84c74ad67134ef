-- The line of an entry is read as the entry, and a line that is read as one is its line.
use Rattle.std.proofs.Common.{◌≡◌, ℕ, ◌<◌, ◌≤◌, nat_le, List, [], ◌∷◌, length, get_or, Some, None, IsTrue, codes, bytes_eq, refl, sym, ap, ◌∙◌, arith}
use Rattle.std.specs.Prelude.{decimal, option_map, option_and_then, unwrap_or}
use Rattle.std.specs.Bool.{then_some}
use Rattle.std.proofs.lemmas.Bool.{cond_both, le-leb}
use Rattle.std.proofs.lemmas.Bool.Decides.{nat_tests}
use Rattle.std.proofs.lemmas.List.Quantifiers.{position-Some}
use Rattle.std.proofs.lemmas.Option.{same_Some, slice_get-get_or}
use Rattle.tfpg_base.specs.Words.{words_of, line_of, is_name, number_of}
use Rattle.tfpg_base.specs.declared.limits.TheConstants.{MAX_TIME}
use Rattle.tfpg_base.proofs.lemmas.Numbers.{number_of-decimal, decimal-number_of}
use Rattle.tfpg_base.proofs.lemmas.Separators.{name_lacks, join_with_byte-words_of}
use Rattle.tfpg_base.proofs.lemmas.lists.Lacking.{Lacks, decimal_lacks, slice_split-join, lacks_checked}
use Rattle.tfpg_base.proofs.lemmas.lists.Choices.{option_and_then-some, option_map-some, then_some-true}
use Rattle.tfpg_base.proofs.lemmas.lists.SameBytes.{bytes_eq-true}
use Rattle.tfpg_graph.specs.Graph.{Tfpg, is_kind_at, is_failure, name_word, node_named, mode_named}
use Rattle.tfpg_graph.specs.Valid.{IsValid}
use Rattle.tfpg_graph.proofs.lemmas.NodeAt.{kind_within}
use Rattle.tfpg_graph.proofs.lemmas.declaring.Named.{named_found}
use Rattle.tfpg_graph.proofs.lemmas.reading.spelling.SpelledEdges.{node_named-name_word, is_name-name_word}
use Rattle.tfpg_log.specs.EventLines.{mode_word}
use Rattle.tfpg_log.specs.LogOfLines.{log_of_events}
use Rattle.tfpg_log.proofs.lemmas.logs_of_lines.AcceptedEvents.{mode_found}
use Rattle.tfpg_sim.specs.declared.entry.Entry.{Entry}
use Rattle.tfpg_sim.specs.declared.entry.Entry.TheVariants.{Start, Mode, Sweep, Tick, Stop}
use Rattle.tfpg_sim.specs.Script.{IsEntryOf, words_of_entry, entry_line}
use Rattle.tfpg_sim.specs.inside.ScriptReading.{time_in, failure_named, entry_alone, entry_with_name, entry_in, entry_of}

-- ---- what is written is read

-- a time is read as it is written
time_there : (time : ℕ) → time ≤ MAX_TIME → time_in (decimal time) ≡ Some time
time_there time small =
    ap (option_and_then (λ t. then_some (nat_le t MAX_TIME) t)) (number_of-decimal time (omega (arith, small)))
    ∙ ap (λ b. then_some b time) (le-leb time MAX_TIME small)

-- the words of a line are had back: of one without a name, and of one with it
alone_words : (time : ℕ) (word : List ℕ) → time ≤ MAX_TIME → Lacks 32 word
    → words_of (line_of (decimal time ∷ word ∷ [])) ≡ decimal time ∷ word ∷ []
alone_words time word small own =
    slice_split-join 32 (decimal time ∷ word ∷ []) (omega arith) (decimal_lacks 32 time refl (omega (arith, small)), (own, tt))

named_words : (time : ℕ) (word name : List ℕ) → time ≤ MAX_TIME → Lacks 32 word → IsTrue (is_name name)
    → words_of (line_of (decimal time ∷ word ∷ name ∷ [])) ≡ decimal time ∷ word ∷ name ∷ []
named_words time word name small own named =
    slice_split-join 32 (decimal time ∷ word ∷ name ∷ []) (omega arith)
    (decimal_lacks 32 time refl (omega (arith, small)), (own, (name_lacks 32 name refl named, tt)))

module _ (graph : Tfpg) (valid : IsValid graph) where
  -- a failure mode is found by its name
  failure_there : (node : ℕ) → IsTrue (is_kind_at is_failure graph node) → failure_named graph (name_word graph node) ≡ Some node
  failure_there node is =
      ap (option_and_then (λ n. then_some (is_kind_at is_failure graph n) n))
      (node_named-name_word graph node (kind_within graph is_failure node is) valid.so_far.nodes_differ)
      ∙ ap (λ b. then_some b node) is

  node_name : (node : ℕ) → IsTrue (is_kind_at is_failure graph node) → IsTrue (is_name (name_word graph node))
  node_name node is = is_name-name_word graph node (kind_within graph is_failure node is) valid.so_far.node_names

  mode_name : (mode : ℕ) → mode < length graph.modes → IsTrue (is_name (mode_word graph mode))
  mode_name mode within =
      ap is_name (ap (λ o. unwrap_or o []) (slice_get-get_or graph.modes mode [] within)) ∙ valid.so_far.mode_names mode [] within

  -- The line of an entry of the graph is read as the entry.
  pub entry_line-read : (entry : Entry) → IsEntryOf graph entry → entry_of graph (entry_line graph entry) ≡ Some entry
  entry_line-read (Start time node) own =
      ap (entry_in graph) (named_words time (codes "start") (name_word graph node) own.0 (lacks_checked 32 (codes "start") refl) (node_name node own.1))
      ∙ ap (option_and_then (λ t. entry_with_name graph (codes "start") (name_word graph node) t)) (time_there time own.0)
      ∙ ap (option_map (λ n. Start time n)) (failure_there node own.1)
  entry_line-read (Mode time mode) own =
      ap (entry_in graph) (named_words time (codes "mode") (mode_word graph mode) own.0 (lacks_checked 32 (codes "mode") refl) (mode_name mode own.1))
      ∙ ap (option_and_then (λ t. entry_with_name graph (codes "mode") (mode_word graph mode) t)) (time_there time own.0)
      ∙ ap (option_map (λ m. Mode time m)) (mode_found graph valid (log_of_events []) mode own.1)
  entry_line-read (Sweep time) own =
      ap (entry_in graph) (alone_words time (codes "sweep") own (lacks_checked 32 (codes "sweep") refl))
      ∙ ap (option_and_then (λ t. entry_alone (codes "sweep") t)) (time_there time own)
  entry_line-read (Tick time) own =
      ap (entry_in graph) (alone_words time (codes "tick") own (lacks_checked 32 (codes "tick") refl))
      ∙ ap (option_and_then (λ t. entry_alone (codes "tick") t)) (time_there time own)
  entry_line-read (Stop time) own =
      ap (entry_in graph) (alone_words time (codes "stop") own (lacks_checked 32 (codes "stop") refl))
      ∙ ap (option_and_then (λ t. entry_alone (codes "stop") t)) (time_there time own)

-- ---- what is read is written so

-- a word that is read as a time is that of the time
time_word : (word : List ℕ) (time : ℕ) → time_in word ≡ Some time → word ≡ decimal time
time_word word time is =
    let number = option_and_then-some (λ n. then_some (nat_le n MAX_TIME) n) (number_of word) time is in
    let test = then_some-true (nat_le number.0 MAX_TIME) number.0 time number.2 in
    let upto : number.0 ≤ MAX_TIME = (let holds = test.0 in grind (arith, nat_tests, holds)) in
    decimal-number_of word number.0 number.1 (omega (arith, upto)) ∙ ap decimal test.1

module _ (graph : Tfpg) where
  alone_spelled : (time : ℕ) (word : List ℕ) (entry : Entry) → entry_alone word time ≡ Some entry → decimal time ∷ word ∷ [] ≡ words_of_entry graph entry
  alone_spelled time word entry =
      cond_both (bytes_eq word (codes "sweep")) _ _ (λ o. o ≡ Some entry → decimal time ∷ word ∷ [] ≡ words_of_entry graph entry)
      (λ own is. ap (λ w. decimal time ∷ w ∷ []) (bytes_eq-true word (codes "sweep") own) ∙ ap (words_of_entry graph) (same_Some (Sweep time) entry is))
      (λ _. cond_both (bytes_eq word (codes "tick")) _ _ (λ o. o ≡ Some entry → decimal time ∷ word ∷ [] ≡ words_of_entry graph entry)
      (λ own is. ap (λ w. decimal time ∷ w ∷ []) (bytes_eq-true word (codes "tick") own) ∙ ap (words_of_entry graph) (same_Some (Tick time) entry is))
      (λ _. cond_both (bytes_eq word (codes "stop")) _ _ (λ o. o ≡ Some entry → decimal time ∷ word ∷ [] ≡ words_of_entry graph entry)
      (λ own is. ap (λ w. decimal time ∷ w ∷ []) (bytes_eq-true word (codes "stop") own) ∙ ap (words_of_entry graph) (same_Some (Stop time) entry is))
      (λ _ is. absurd (let none : None ≡ Some entry = is in cc))))

  -- the name that finds a failure mode, or a mode, is its own
  failure_spelled : (name : List ℕ) (node : ℕ) → failure_named graph name ≡ Some node → name ≡ name_word graph node
  failure_spelled name node is =
      let found = option_and_then-some (λ n. then_some (is_kind_at is_failure graph n) n) (node_named graph name) node is in
      let test = then_some-true (is_kind_at is_failure graph found.0) found.0 node found.2 in
      sym (ap (λ o. unwrap_or o []) (named_found graph name found.0 found.1).1) ∙ ap (name_word graph) test.1

  mode_spelled : (name : List ℕ) (mode : ℕ) → mode_named graph name ≡ Some mode → name ≡ mode_word graph mode
  mode_spelled name mode is =
      let found = position-Some (λ m. bytes_eq m name) graph.modes mode [] is in
      sym (ap (λ o. unwrap_or o []) (slice_get-get_or graph.modes mode [] found.0) ∙ bytes_eq-true (get_or graph.modes mode []) name found.1)

  named_spelled : (time : ℕ) (word name : List ℕ) (entry : Entry) → entry_with_name graph word name time ≡ Some entry
      → decimal time ∷ word ∷ name ∷ [] ≡ words_of_entry graph entry
  named_spelled time word name entry =
      cond_both (bytes_eq word (codes "start")) _ _ (λ o. o ≡ Some entry → decimal time ∷ word ∷ name ∷ [] ≡ words_of_entry graph entry)
      (λ own is. let found = option_map-some (λ node. Start time node) (failure_named graph name) entry is in
      ap (λ w. decimal time ∷ w ∷ name ∷ []) (bytes_eq-true word (codes "start") own)
      ∙ ap (λ n. decimal time ∷ codes "start" ∷ n ∷ []) (failure_spelled name found.0 found.1) ∙ ap (words_of_entry graph) found.2)
      (λ _. cond_both (bytes_eq word (codes "mode")) _ _ (λ o. o ≡ Some entry → decimal time ∷ word ∷ name ∷ [] ≡ words_of_entry graph entry)
      (λ own is. let found = option_map-some (λ mode. Mode time mode) (mode_named graph name) entry is in
      ap (λ w. decimal time ∷ w ∷ name ∷ []) (bytes_eq-true word (codes "mode") own)
      ∙ ap (λ n. decimal time ∷ codes "mode" ∷ n ∷ []) (mode_spelled name found.0 found.1) ∙ ap (words_of_entry graph) found.2)
      (λ _ is. absurd (let none : None ≡ Some entry = is in cc)))

  words_spelled : (words : List (List ℕ)) (entry : Entry) → entry_in graph words ≡ Some entry → words ≡ words_of_entry graph entry
  words_spelled [] entry is = absurd (let none : None ≡ Some entry = is in cc)
  words_spelled (time ∷ []) entry is = absurd (let none : None ≡ Some entry = is in cc)
  words_spelled (time ∷ word ∷ []) entry is =
      let found = option_and_then-some (λ t. entry_alone word t) (time_in time) entry is in
      ap (λ t. t ∷ word ∷ []) (time_word time found.0 found.1) ∙ alone_spelled found.0 word entry found.2
  words_spelled (time ∷ word ∷ name ∷ []) entry is =
      let found = option_and_then-some (λ t. entry_with_name graph word name t) (time_in time) entry is in
      ap (λ t. t ∷ word ∷ name ∷ []) (time_word time found.0 found.1) ∙ named_spelled found.0 word name entry found.2
  words_spelled (time ∷ word ∷ name ∷ more ∷ others) entry is = absurd (let none : None ≡ Some entry = is in cc)

  -- A line that is read as an entry is the line of the entry.
  pub entry_line-is : (line : List ℕ) (entry : Entry) → entry_of graph line ≡ Some entry → line ≡ entry_line graph entry
  entry_line-is line entry is = sym (join_with_byte-words_of line) ∙ ap line_of (words_spelled (words_of line) entry is)
