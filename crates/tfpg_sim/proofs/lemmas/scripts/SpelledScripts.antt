-- What is read of a script is what its lines spell, and the line at which reading ends is the one at fault.
use Rattle.std.proofs.Common.{◌≡◌, ℕ, zero, suc, ◌+◌, ◌-◌, ◌<◌, ◌≤◌, inl, inr, Bool, true, false, cond, eqb, not, nat_le, nat_lt, List, [], ◌∷◌, ◌++◌, length, map, take, get_or, fold, count_by, AllPairs, Option, Some, None, Result, Ok, Err, IsTrue, slice_get, refl, sym, ap, ◌∙◌, subst, arith, append_assoc}
use Rattle.std.specs.Prelude.{option_and_then}
use Rattle.std.specs.List.{list_any}
use Rattle.std.specs.Bool.{then_some}
use Rattle.std.specs.Option.{option_map_or}
use Rattle.std.proofs.lemmas.Bool.{and_parts, and_from, not-true, eqb-true, eq-eqb, ltb-false, lt-ltb, le-leb}
use Rattle.std.proofs.lemmas.List.{append-nil, map-append, take_all, take-map, get_or-take, length-take, length-map, length_push}
use Rattle.std.proofs.lemmas.List.Sums.{sum_by_push, sum_by_more_le}
use Rattle.std.proofs.lemmas.Option.{slice_get-get_or, slice_get_within, get_or_from_slice_get}
use Rattle.tfpg_base.specs.Choice.{last_of}
use Rattle.tfpg_streams.specs.FaultyLine.{IsFaultyLine}
use Rattle.tfpg_base.specs.Lines.{lines_of}
use Rattle.tfpg_base.proofs.lemmas.lists.Choices.{option_and_then-some, then_some-true}
use Rattle.tfpg_base.proofs.lemmas.lists.Cuts.{take-item, take-next}
use Rattle.tfpg_base.proofs.lemmas.lists.Elements.{list_any-count}
use Rattle.tfpg_base.proofs.lemmas.lists.Written.{slice_get-push_at}
use Rattle.tfpg_graph.specs.Graph.{Tfpg}
use Rattle.tfpg_graph.specs.Valid.{IsValid}
use Rattle.tfpg_log.specs.declared.limits.TheConstants.{MAX_MODE_CHANGES}
use Rattle.tfpg_sim.specs.declared.limits.TheConstants.{MAX_ENTRIES}
use Rattle.tfpg_sim.specs.declared.entry.Entry.{Entry}
use Rattle.tfpg_sim.specs.declared.entry.Entry.TheVariants.{Start, Mode, Sweep, Tick, Stop}
use Rattle.tfpg_sim.specs.Script.{entry_line, time_of_entry, is_stop, changes_mode, starts, time_so_far, has_stopped, SpellsEntries, SpellsScript, BeginsScript, IsScriptFault}
use Rattle.tfpg_sim.specs.inside.ScriptReading.{entry_of, is_new, may_follow, next_entry, with_next, with_script_line, read_lines, stopped, script_of}
use Rattle.tfpg_sim.specs.inside.Entries.{IsScript}
use Rattle.tfpg_sim.proofs.lemmas.scripts.EntryLines.{entry_line-read, entry_line-is}
use Rattle.tfpg_sim.proofs.lemmas.scripts.ReadLines.{fault_stays, read_lines-push}
use Rattle.tfpg_sim.proofs.lemmas.scripts.ReadScripts.{reads_script, few_entries, few_changes}
use Rattle.tfpg_sim.proofs.lemmas.scripts.ScriptLines.{script_none}
use Rattle.tfpg_sim.proofs.lemmas.scripts.ScriptOrder.{not_back, new_there, up_to}

-- ---- the order of a script's entries

-- the last of the first so many
last_taken : (entries : List Entry) (n : ℕ) (d : Entry) → n < length entries → last_of (take (suc n) entries) ≡ Some (get_or entries n d)
last_taken entries n d within =
    let entry : Entry = get_or entries n d in
    ap last_of (take-item entries n entry (slice_get-get_or entries n d within))
    ∙ slice_get-push_at (take n entries) entry (length (take n entries ++ entry ∷ []) - 1) (omega (arith, length_push (take n entries) entry))

-- so what has stopped by then, and its time
stopped_taken : (entries : List Entry) (n : ℕ) (d : Entry) → n < length entries → has_stopped (take (suc n) entries) ≡ is_stop (get_or entries n d)
stopped_taken entries n d within = ap (λ o. option_map_or is_stop o false) (last_taken entries n d within)

time_taken : (entries : List Entry) (n : ℕ) (d : Entry) → n < length entries → time_so_far (take (suc n) entries) ≡ time_of_entry (get_or entries n d)
time_taken entries n d within = ap (λ o. option_map_or time_of_entry o 0) (last_taken entries n d within)

module _ (graph : Tfpg) (entries : List Entry) (script : IsScript graph entries) where
  follows_at : (n : ℕ) (d : Entry) → n < length entries → may_follow (take n entries) (get_or entries n d) ≡ true
  follows_at n d within = script.follows n (get_or entries n d) (slice_get-get_or entries n d within)

  in_order : AllPairs (λ earlier later. time_of_entry earlier ≤ time_of_entry later) entries
  in_order i j d before within =
      let upto = not_back (take j entries) (get_or entries j d) (follows_at j d within) in
      let low = up_to graph entries script j (omega (arith, within)) i d (omega (arith, length-take j entries, before, within)) in
      subst (λ e. time_of_entry e ≤ time_of_entry (get_or entries j d)) (get_or-take j entries i d before) (omega (arith, upto, low))

  ended : AllPairs (λ earlier later. is_stop earlier ≡ false) entries
  ended i j d before within =
      let rest = (and_parts (nat_lt (length (take (suc i) entries)) MAX_ENTRIES) _ (follows_at (suc i) d (omega (arith, before, within)))).1 in
      let none = (and_parts (not (has_stopped (take (suc i) entries))) _ rest).0 in
      sym (stopped_taken entries i d (omega (arith, before, within))) ∙ not-true (has_stopped (take (suc i) entries)) none

  -- one entry more starts a failure mode at most once
  one_start : (failure : ℕ) (before : List Entry) (entry : Entry) → is_new before entry ≡ true → count_by (starts failure) before ≤ 1
      → count_by (starts failure) before + cond (starts failure entry) 1 0 ≤ 1
  one_start failure before (Start time node) new few = by (eqb node failure) refl
    where
      by : (b : Bool) → eqb node failure ≡ b → count_by (starts failure) before + cond b 1 0 ≤ 1
      by false apart = omega (arith, few)
      by true same =
          let none : list_any (starts failure) before ≡ false =
          ap (λ f. list_any (starts f) before) (sym (eqb-true node failure same)) ∙ not-true (list_any (starts node) before) new in
          omega (arith, ltb-false 0 (count_by (starts failure) before) (sym (list_any-count (starts failure) before) ∙ none))
  one_start failure before (Mode time mode) new few = omega (arith, few)
  one_start failure before (Sweep time) new few = omega (arith, few)
  one_start failure before (Tick time) new few = omega (arith, few)
  one_start failure before (Stop time) new few = omega (arith, few)

  once_before : (failure n : ℕ) → n ≤ length entries → count_by (starts failure) (take n entries) ≤ 1
  once_before failure zero within = omega arith
  once_before failure (suc n) within =
      let entry : Entry = get_or entries n (Start 0 0) in
      let at = slice_get-get_or entries n (Start 0 0) (omega (arith, within)) in
      let few = one_start failure (take n entries) entry (new_there (take n entries) entry (script.follows n entry at)) (once_before failure n (omega (arith, within))) in
      omega (arith, ap (count_by (starts failure)) (take-item entries n entry at), sum_by_push (λ e. cond (starts failure e) 1 0) (take n entries) entry, few)

  -- The entries of a script are spelled by their lines.
  pub SpellsEntries-script : (lines : List (List ℕ)) → lines ≡ map (entry_line graph) entries → SpellsEntries graph lines entries
  SpellsEntries-script lines spelled = record {
    spelled = spelled;
    of_graph = script.own;
    in_order = in_order;
    once = λ failure. subst (λ es. count_by (starts failure) es ≤ 1) (take_all (length entries) entries (omega arith)) (once_before failure (length entries) (omega arith));
    ended = ended;
    few = few_entries graph entries script;
    few_changes = few_changes graph entries script;
  }

module _ (graph : Tfpg) (lines : List (List ℕ)) (entries : List Entry) (spells : SpellsEntries graph lines entries) where
  counted : (test : Entry → Bool) (index : ℕ) (entry : Entry) → slice_get entries index ≡ Some entry
      → count_by test (take index entries) + cond (test entry) 1 0 ≤ count_by test entries
  counted test index entry at =
      subst (λ e. count_by test (take index entries) + cond (test e) 1 0 ≤ count_by test entries) (get_or_from_slice_get entries index entry entry at)
      (sum_by_more_le (λ e. cond (test e) 1 0) entries index entry (slice_get_within entries index entry at))

  new_at : (index : ℕ) (entry : Entry) → slice_get entries index ≡ Some entry → is_new (take index entries) entry ≡ true
  new_at index (Start time node) at =
      let more = counted (starts node) index (Start time node) at in
      let one : ◌≡◌ {A = ℕ} (cond (eqb node node) 1 0) 1 = ap {B = ℕ} (λ b. cond b 1 0) (eq-eqb node node refl) in
      let none : count_by (starts node) (take index entries) ≡ 0 = omega (arith, more, one, spells.once node) in
      ap not (list_any-count (starts node) (take index entries) ∙ ap (nat_lt 0) none)
  new_at index (Mode time mode) at =
      lt-ltb (count_by changes_mode (take index entries)) MAX_MODE_CHANGES
      (omega (arith, counted changes_mode index (Mode time mode) at, spells.few_changes))
  new_at index (Sweep time) at = refl
  new_at index (Tick time) at = refl
  new_at index (Stop time) at = refl

  open_at : (index : ℕ) (d : Entry) → index < length entries → not (has_stopped (take index entries)) ≡ true
  open_at zero d within = refl
  open_at (suc i) d within = ap not (stopped_taken entries i d (omega (arith, within)) ∙ spells.ended i (suc i) d (omega arith) within)

  due_at : (index : ℕ) (d : Entry) → index < length entries → time_so_far (take index entries) ≤ time_of_entry (get_or entries index d)
  due_at zero d within = omega arith
  due_at (suc i) d within = omega (arith, time_taken entries i d (omega (arith, within)), spells.in_order i (suc i) d (omega arith) within)

  -- What lines spell are the entries of a script.
  pub IsScript-spelled : IsScript graph entries
  IsScript-spelled = record {
    own = spells.of_graph;
    follows = λ index entry at.
        let within = slice_get_within entries index entry at in
        let due : time_so_far (take index entries) ≤ time_of_entry entry =
        subst (λ e. time_so_far (take index entries) ≤ time_of_entry e) (get_or_from_slice_get entries index entry entry at) (due_at index entry within) in
        and_from (nat_lt (length (take index entries)) MAX_ENTRIES) _
        (lt-ltb (length (take index entries)) MAX_ENTRIES (omega (arith, length-take index entries, within, spells.few)))
        (and_from (not (has_stopped (take index entries))) _ (open_at index entry within)
        (and_from (nat_le (time_so_far (take index entries)) (time_of_entry entry)) _ (le-leb (time_so_far (take index entries)) (time_of_entry entry) due)
        (new_at index entry at)));
  }

-- ---- reading

module _ (graph : Tfpg) where
  -- the lines that are read are those of the entries
  read_spelled : (lines : List (List ℕ)) (before entries : List Entry) → fold (with_script_line graph) (Ok before) lines ≡ Ok entries
      → map (entry_line graph) entries ≡ map (entry_line graph) before ++ lines
  read_spelled [] before entries read =
      ap (map (entry_line graph)) (let same : entries ≡ before = cc in same) ∙ sym (append-nil (map (entry_line graph) before))
  read_spelled (line ∷ lines) before entries read =
      by (next_entry graph before line) refl read (λ entry. read_spelled lines (before ++ entry ∷ []) entries)
    where
      by : (o : Option Entry) → next_entry graph before line ≡ o → fold (with_script_line graph) (with_next before o) lines ≡ Ok entries
          → ((entry : Entry) → fold (with_script_line graph) (Ok (before ++ entry ∷ [])) lines ≡ Ok entries
          → map (entry_line graph) entries ≡ map (entry_line graph) (before ++ entry ∷ []) ++ lines)
          → map (entry_line graph) entries ≡ map (entry_line graph) before ++ line ∷ lines
      by None is faulty rest = absurd (let both : Err (length before + 1) ≡ Ok entries = sym (fault_stays graph (length before + 1) lines) ∙ faulty in cc)
      by (Some entry) is more rest =
          let found = option_and_then-some (λ e. then_some (may_follow before e) e) (entry_of graph line) entry is in
          let same = (then_some-true (may_follow before found.0) found.0 entry found.2).1 in
          let line_is : line ≡ entry_line graph entry = entry_line-is graph line entry (found.1 ∙ ap Some same) in
          rest entry more
          ∙ ap (λ ls. ls ++ lines) (map-append (entry_line graph) before (entry ∷ []))
          ∙ append_assoc (map (entry_line graph) before) (entry_line graph entry ∷ []) lines
          ∙ ap (λ l. map (entry_line graph) before ++ l ∷ lines) (sym line_is)

  -- What is read of lines is what they spell.
  pub SpellsEntries-read : (lines : List (List ℕ)) (entries : List Entry) → read_lines graph lines ≡ Ok entries → SpellsEntries graph lines entries
  SpellsEntries-read lines entries read =
      SpellsEntries-script graph entries (reads_script graph lines [] entries (script_none graph) read) lines (sym (read_spelled lines [] entries read))

  module _ (valid : IsValid graph) where
    read_back : (entries : List Entry) → IsScript graph entries → (n : ℕ) → n ≤ length entries
        → read_lines graph (map (entry_line graph) (take n entries)) ≡ Ok (take n entries)
    read_back entries script zero within = refl
    read_back entries script (suc n) within =
        let entry : Entry = get_or entries n (Start 0 0) in
        let at = slice_get-get_or entries n (Start 0 0) (omega (arith, within)) in
        let grown = take-item entries n entry at in
        let next : next_entry graph (take n entries) (entry_line graph entry) ≡ Some entry =
        ap (option_and_then (λ e. then_some (may_follow (take n entries) e) e)) (entry_line-read graph valid entry (script.own n (Start 0 0) (omega (arith, within))))
        ∙ ap (λ b. then_some b entry) (script.follows n entry at) in
        ap (read_lines graph) (ap (map (entry_line graph)) grown ∙ map-append (entry_line graph) (take n entries) (entry ∷ []))
        ∙ read_lines-push graph (map (entry_line graph) (take n entries)) (entry_line graph entry) (take n entries) (read_back entries script n (omega (arith, within)))
        ∙ ap (with_next (take n entries)) next ∙ ap Ok (sym grown)

    module _ (lines : List (List ℕ)) (entries : List Entry) (spells : SpellsEntries graph lines entries) where
      -- the first lines of what is spelled are read
      read_first : (n : ℕ) → n ≤ length lines → read_lines graph (take n lines) ≡ Ok (take n entries)
      read_first n within =
          ap (read_lines graph) (ap (take n) spells.spelled ∙ take-map (entry_line graph) n entries)
          ∙ read_back entries (IsScript-spelled graph lines entries spells) n (omega (arith, within, ap length spells.spelled, length-map entries (entry_line graph)))

      -- What lines spell is read of them.
      pub read_spells : read_lines graph lines ≡ Ok entries
      read_spells =
          ap (read_lines graph) (sym (take_all (length lines) lines (omega arith))) ∙ read_first (length lines) (omega arith)
          ∙ ap Ok (take_all (length lines) entries (omega (arith, ap length spells.spelled, length-map entries (entry_line graph))))

    -- ---- whole scripts

    -- a script is read, as it is spelled
    pub script_of-spells : (text : List ℕ) (entries : List Entry) → SpellsScript graph (lines_of text) entries → script_of graph text ≡ Ok entries
    script_of-spells text entries spells =
        ap stopped (read_spells (lines_of text) entries spells.begun) ∙ ap (λ b. cond b (Ok entries) (Err (length entries + 1))) spells.stops

  stopped_ok : (read : Result (List Entry) ℕ) (entries : List Entry) → stopped read ≡ Ok entries → (read ≡ Ok entries) × IsTrue (has_stopped entries)
  stopped_ok (Err number) entries is = absurd (let both : Err number ≡ Ok entries = is in cc)
  stopped_ok (Ok found) entries is =
      let both = by (has_stopped found) refl is in
      (ap Ok both.0, both.1)
    where
      by : (b : Bool) → has_stopped found ≡ b → cond b (Ok found) (Err (length found + 1)) ≡ Ok entries → (found ≡ entries) × IsTrue (has_stopped entries)
      by false stop none = absurd (let both : Err (length found + 1) ≡ Ok entries = none in cc)
      by true stop all =
          let same : found ≡ entries = (let both : Ok found ≡ Ok entries = all in cc) in
          (same, subst (λ es. IsTrue (has_stopped es)) same stop)

  -- and what is read without a fault is spelled
  pub SpellsScript-read : (text : List ℕ) (entries : List Entry) → script_of graph text ≡ Ok entries → SpellsScript graph (lines_of text) entries
  SpellsScript-read text entries read =
      let both = stopped_ok (read_lines graph (lines_of text)) entries read in
      record { begun = SpellsEntries-read (lines_of text) entries both.0; stops = both.1 }

  -- ---- faults

  -- where reading ends: after so many lines, by the next
  record EndsAt (lines : List (List ℕ)) (before : List Entry) (number : ℕ) : Type 0 where
    index : ℕ
    within : index < length lines
    entries : List Entry
    read : fold (with_script_line graph) (Ok before) (take index lines) ≡ Ok entries
    none : next_entry graph entries (get_or lines index []) ≡ None
    counted : number ≡ length entries + 1

  ends_at : (lines : List (List ℕ)) (before : List Entry) (number : ℕ) → fold (with_script_line graph) (Ok before) lines ≡ Err number → EndsAt lines before number
  ends_at [] before number read = absurd (let both : Ok before ≡ Err number = read in cc)
  ends_at (line ∷ lines) before number read =
      by (next_entry graph before line) refl read (λ entry. ends_at lines (before ++ entry ∷ []) number)
    where
      by : (o : Option Entry) → next_entry graph before line ≡ o → fold (with_script_line graph) (with_next before o) lines ≡ Err number
          → ((entry : Entry) → fold (with_script_line graph) (Ok (before ++ entry ∷ [])) lines ≡ Err number → EndsAt lines (before ++ entry ∷ []) number)
          → EndsAt (line ∷ lines) before number
      by None is faulty rest = record {
        index = 0;
        within = omega arith;
        entries = before;
        read = refl;
        none = is;
        counted = let both : Err (length before + 1) ≡ Err number = sym (fault_stays graph (length before + 1) lines) ∙ faulty in cc;
      }
      by (Some entry) is more rest =
          let later = rest entry more in
          record {
            index = suc later.index;
            within = omega (arith, later.within);
            entries = later.entries;
            read = ap (λ next. fold (with_script_line graph) (with_next before next) (take later.index lines)) is ∙ later.read;
            none = later.none;
            counted = later.counted;
          }

  module _ (valid : IsValid graph) where
    -- the line at which reading ends is at fault
    faulty_line : (lines : List (List ℕ)) (number : ℕ) → read_lines graph lines ≡ Err number → IsFaultyLine (BeginsScript graph) lines number
    faulty_line lines number read =
        let at = ends_at lines [] number read in
        let before = SpellsEntries-read (take at.index lines) at.entries at.read in
        let grown = take-next lines at.index (get_or lines at.index []) (slice_get-get_or lines at.index [] at.within) in
        record {
          index = at.index;
          counted = omega (arith, at.counted, ap length before.spelled, length-map at.entries (entry_line graph), length-take at.index lines, at.within);
          within = at.within;
          before = (at.entries, before);
          with_it = λ begins.
              let good = read_spells valid (take (at.index + 1) lines) begins.0 begins.1 in
              let bad : read_lines graph (take (at.index + 1) lines) ≡ Err (length at.entries + 1) =
              ap (read_lines graph) grown ∙ read_lines-push graph (take at.index lines) (get_or lines at.index []) at.entries at.read
              ∙ ap (with_next at.entries) at.none in
              let both : Ok begins.0 ≡ Err (length at.entries + 1) = sym good ∙ bad in cc;
        }

    -- What reading refuses is at fault in that line.
    pub IsScriptFault-read : (text : List ℕ) (number : ℕ) → script_of graph text ≡ Err number → IsScriptFault graph (lines_of text) number
    IsScriptFault-read text number refused = by (read_lines graph (lines_of text)) refl refused
      where
        by : (read : Result (List Entry) ℕ) → read_lines graph (lines_of text) ≡ read → stopped read ≡ Err number → IsScriptFault graph (lines_of text) number
        by (Err line) is same = inl (faulty_line (lines_of text) number (is ∙ same))
        by (Ok found) is all = ends (has_stopped found) refl all
          where
            begun : SpellsEntries graph (lines_of text) found
            begun = SpellsEntries-read (lines_of text) found is

            ends : (b : Bool) → has_stopped found ≡ b → cond b (Ok found) (Err (length found + 1)) ≡ Err number → IsScriptFault graph (lines_of text) number
            ends true stop none = absurd (let both : Ok found ≡ Err number = none in cc)
            ends false stop last = inr (
              (found, begun),
              λ entries spells. let both : Ok entries ≡ Err number = sym (script_of-spells valid text entries spells) ∙ refused in cc,
              let same : length found + 1 ≡ number = (let both : Err (length found + 1) ≡ Err number = last in cc) in
                  omega (arith, same, ap length begun.spelled, length-map found (entry_line graph)),
            )

    -- A script has no fault.
    pub never_faulty : (lines : List (List ℕ)) (entries : List Entry) (number : ℕ) → SpellsScript graph lines entries → IsScriptFault graph lines number → ⊥
    never_faulty lines entries number spells (inl faulty) =
        faulty.with_it (
          take (faulty.index + 1) entries,
          SpellsEntries-read (take (faulty.index + 1) lines) (take (faulty.index + 1) entries)
              (read_first valid lines entries spells.begun (faulty.index + 1) (omega (arith, faulty.within))),
        )
    never_faulty lines entries number spells (inr others) = others.1 entries spells

    -- Lines spell one script.
    pub one_script : (lines : List (List ℕ)) (one other : List Entry) → SpellsScript graph lines one → SpellsScript graph lines other → one ≡ other
    one_script lines one other first second =
        let both : Ok one ≡ Ok other = sym (read_spells valid lines one first.begun) ∙ read_spells valid lines other second.begun in cc
