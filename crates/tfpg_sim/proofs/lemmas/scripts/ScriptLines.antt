-- What is read of a script is one.
use Rattle.std.proofs.Common.{◌≡◌, ℕ, ◌≤◌, ⊎_elim, true, nat_le, List, [], ◌∷◌, ◌++◌, length, take, Some, None, IsTrue, codes, bytes_eq, sym, ap, ◌∙◌, subst, arith}
use Rattle.std.specs.Bool.{then_some}
use Rattle.std.proofs.lemmas.Bool.{cond_both}
use Rattle.std.proofs.lemmas.Bool.Decides.{nat_tests}
use Rattle.std.proofs.lemmas.List.{take-append-le, take_all, length_push}
use Rattle.std.proofs.lemmas.List.Elements.{All-nil, All-cons, All-append}
use Rattle.std.proofs.lemmas.List.Quantifiers.{position-Some}
use Rattle.std.proofs.lemmas.Option.{slice_get_within}
use Rattle.tfpg_base.specs.Words.{words_of, number_of}
use Rattle.tfpg_base.specs.declared.limits.TheConstants.{MAX_TIME}
use Rattle.tfpg_graph.specs.Graph.{Tfpg, is_kind_at, is_failure, node_named, mode_named}
use Rattle.tfpg_base.proofs.lemmas.lists.Written.{slice_get-push_before, slice_get-push_at as slice_get-push_last}
use Rattle.tfpg_base.proofs.lemmas.lists.Choices.{option_and_then-some, option_map-some, then_some-true}
use Rattle.tfpg_base.proofs.lemmas.lists.Sequences.{below_or_last}
use Rattle.tfpg_sim.specs.declared.entry.Entry.{Entry}
use Rattle.tfpg_sim.specs.declared.entry.Entry.TheVariants.{Start, Mode, Sweep, Tick, Stop}
use Rattle.tfpg_sim.specs.inside.ScriptReading.{time_in, failure_named, entry_alone, entry_with_name, entry_in, entry_of, may_follow, next_entry}
use Rattle.tfpg_sim.specs.inside.Entries.{IsScript}
use Rattle.tfpg_sim.specs.Script.{IsEntryOf}

-- a time that is read is not too large
time_small : (word : List ℕ) (time : ℕ) → time_in word ≡ Some time → time ≤ MAX_TIME
time_small word time is =
    let number = option_and_then-some (λ n. then_some (nat_le n MAX_TIME) n) (number_of word) time is in
    let test = then_some-true (nat_le number.0 MAX_TIME) number.0 time number.2 in
    let upto : number.0 ≤ MAX_TIME = (let holds = test.0 in grind (arith, nat_tests, holds)) in let same = test.1 in omega arith

-- what a line says by one word is of the graph
alone_own : (graph : Tfpg) (word : List ℕ) (time : ℕ) (entry : Entry) → time ≤ MAX_TIME → entry_alone word time ≡ Some entry → IsEntryOf graph entry
alone_own graph word time entry small =
    cond_both (bytes_eq word (codes "sweep")) _ _ (λ o. o ≡ Some entry → IsEntryOf graph entry)
    (λ _ is. subst (IsEntryOf graph) (let same : Sweep time ≡ entry = cc in same) small)
    (λ _. cond_both (bytes_eq word (codes "tick")) _ _ (λ o. o ≡ Some entry → IsEntryOf graph entry)
    (λ _ is. subst (IsEntryOf graph) (let same : Tick time ≡ entry = cc in same) small)
    (λ _. cond_both (bytes_eq word (codes "stop")) _ _ (λ o. o ≡ Some entry → IsEntryOf graph entry)
    (λ _ is. subst (IsEntryOf graph) (let same : Stop time ≡ entry = cc in same) small)
    (λ _ is. absurd (let none : None ≡ Some entry = is in cc))))

-- what a failure mode that is named is
failure_own : (graph : Tfpg) (name : List ℕ) (node : ℕ) → failure_named graph name ≡ Some node → IsTrue (is_kind_at is_failure graph node)
failure_own graph name node is =
    let found = option_and_then-some (λ n. then_some (is_kind_at is_failure graph n) n) (node_named graph name) node is in
    let test = then_some-true (is_kind_at is_failure graph found.0) found.0 node found.2 in
    subst (λ n. IsTrue (is_kind_at is_failure graph n)) test.1 test.0

-- what a line says by a word and a name is of the graph
named_own : (graph : Tfpg) (word name : List ℕ) (time : ℕ) (entry : Entry) → time ≤ MAX_TIME → entry_with_name graph word name time ≡ Some entry → IsEntryOf graph entry
named_own graph word name time entry small =
    cond_both (bytes_eq word (codes "start")) _ _ (λ o. o ≡ Some entry → IsEntryOf graph entry)
    (λ _ is. let found = option_map-some (λ node. Start time node) (failure_named graph name) entry is in
    subst (IsEntryOf graph) found.2 (small, failure_own graph name found.0 found.1))
    (λ _. cond_both (bytes_eq word (codes "mode")) _ _ (λ o. o ≡ Some entry → IsEntryOf graph entry)
    (λ _ is. let found = option_map-some (λ mode. Mode time mode) (mode_named graph name) entry is in
    subst (IsEntryOf graph) found.2 (small, (position-Some (λ mode. bytes_eq mode name) graph.modes found.0 [] found.1).0))
    (λ _ is. absurd (let none : None ≡ Some entry = is in cc)))

-- what a line says is of the graph
entry_own : (graph : Tfpg) (words : List (List ℕ)) (entry : Entry) → entry_in graph words ≡ Some entry → IsEntryOf graph entry
entry_own graph [] entry is = absurd (let none : None ≡ Some entry = is in cc)
entry_own graph (time ∷ []) entry is = absurd (let none : None ≡ Some entry = is in cc)
entry_own graph (time ∷ word ∷ []) entry is =
    let found = option_and_then-some (λ t. entry_alone word t) (time_in time) entry is in
    alone_own graph word found.0 entry (time_small time found.0 found.1) found.2
entry_own graph (time ∷ word ∷ name ∷ []) entry is =
    let found = option_and_then-some (λ t. entry_with_name graph word name t) (time_in time) entry is in
    named_own graph word name found.0 entry (time_small time found.0 found.1) found.2
entry_own graph (time ∷ word ∷ name ∷ more ∷ others) entry is = absurd (let none : None ≡ Some entry = is in cc)

-- a script with one line more that is right
pub script_push : (graph : Tfpg) (before more : List Entry) (line : List ℕ) (entry : Entry) → next_entry graph before line ≡ Some entry
    → more ≡ before ++ entry ∷ [] → IsScript graph before → IsScript graph more
script_push graph before more line entry is are script = subst (IsScript graph) (sym are) (record {
  own = All-append (IsEntryOf graph) before (entry ∷ []) script.own (All-cons (IsEntryOf graph) entry [] own (All-nil (IsEntryOf graph)));
  follows = λ index other at. ⊎_elim
      (λ less. subst (λ es. may_follow es other ≡ true) (sym (take-append-le index before (entry ∷ []) (omega arith)))
      (script.follows index other (sym (slice_get-push_before before entry index less) ∙ at)))
      (λ here. let last : Some entry ≡ Some other = sym (slice_get-push_last before entry index here) ∙ at in
      let same : entry ≡ other = cc in
      subst (λ es. may_follow es other ≡ true)
      (sym (ap (λ n. take n (before ++ entry ∷ [])) here ∙ take-append-le (length before) before (entry ∷ []) (omega arith) ∙ take_all (length before) before (omega arith)))
      (subst (λ e. may_follow before e ≡ true) same test.0))
      (below_or_last index (length before) (omega (arith, length_push before entry, slice_get_within (before ++ entry ∷ []) index other at)));
})
  where
    found : (e : Entry) × (entry_of graph line ≡ Some e) × (then_some (may_follow before e) e ≡ Some entry)
    found = option_and_then-some (λ e. then_some (may_follow before e) e) (entry_of graph line) entry is

    tested : (may_follow before found.0 ≡ true) × (found.0 ≡ entry)
    tested = then_some-true (may_follow before found.0) found.0 entry found.2

    test : (may_follow before entry ≡ true) × (found.0 ≡ entry)
    test = (subst (λ e. may_follow before e ≡ true) tested.1 tested.0, tested.1)

    own : IsEntryOf graph entry
    own = subst (IsEntryOf graph) tested.1 (entry_own graph (words_of line) found.0 found.1)

pub script_none : (graph : Tfpg) → IsScript graph []
script_none graph = record { own = All-nil (IsEntryOf graph); follows = λ index entry at. absurd (let none : None ≡ Some entry = at in cc) }
