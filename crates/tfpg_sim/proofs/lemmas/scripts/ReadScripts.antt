-- What the lines of a script are that is read without a fault.
use Rattle.std.proofs.Common.{◌≡◌, ℕ, zero, suc, ◌+◌, ◌≤◌, Bool, true, false, cond, nat_lt, List, [], ◌∷◌, ◌++◌, length, take, get_or, fold, Option, Some, None, Result, Ok, Err, refl, sym, ap, ◌∙◌, subst, arith}
use Rattle.std.specs.Prelude.{count_by, IsTrue}
use Rattle.std.proofs.lemmas.Bool.{ltb-true, and_parts}
use Rattle.std.proofs.lemmas.List.{take_all, length-take}
use Rattle.std.proofs.lemmas.List.Sums.{sum_by_push}
use Rattle.std.proofs.lemmas.Option.{slice_get-get_or}
use Rattle.tfpg_base.specs.Lines.{lines_of}
use Rattle.tfpg_base.proofs.lemmas.lists.Cuts.{take-item}
use Rattle.tfpg_graph.specs.Graph.{Tfpg}
use Rattle.tfpg_sim.specs.declared.entry.Entry.{Entry}
use Rattle.tfpg_sim.specs.declared.entry.Entry.TheVariants.{Start, Mode, Sweep, Tick, Stop}
use Rattle.tfpg_sim.specs.Script.{has_stopped, changes_mode}
use Rattle.tfpg_sim.specs.inside.ScriptReading.{next_entry, with_next, with_script_line, read_lines, stopped, script_of, is_new}
use Rattle.tfpg_sim.specs.declared.limits.TheConstants.{MAX_ENTRIES}
use Rattle.tfpg_log.specs.declared.limits.TheConstants.{MAX_MODE_CHANGES}
use Rattle.tfpg_sim.specs.inside.Entries.{IsScript}
use Rattle.tfpg_sim.proofs.lemmas.scripts.ReadLines.{fault_stays}
use Rattle.tfpg_sim.proofs.lemmas.scripts.ScriptLines.{script_push, script_none}
use Rattle.tfpg_sim.proofs.lemmas.scripts.ScriptOrder.{new_there}

module _ (graph : Tfpg) where
  -- lines that are read after a script's make one
  pub reads_script : (lines : List (List ℕ)) (before entries : List Entry) → IsScript graph before → fold (with_script_line graph) (Ok before) lines ≡ Ok entries → IsScript graph entries
  reads_script [] before entries script read = subst (IsScript graph) (let same : before ≡ entries = cc in same) script
  reads_script (line ∷ lines) before entries script read =
      by (next_entry graph before line) refl read
      (λ entry is. reads_script lines (before ++ entry ∷ []) entries (script_push graph before (before ++ entry ∷ []) line entry is refl script))
    where
      by : (o : Option Entry) → next_entry graph before line ≡ o → fold (with_script_line graph) (with_next before o) lines ≡ Ok entries
          → ((entry : Entry) → next_entry graph before line ≡ Some entry → fold (with_script_line graph) (Ok (before ++ entry ∷ [])) lines ≡ Ok entries → IsScript graph entries)
          → IsScript graph entries
      by None is faulty rest = absurd (let both : Err (length before + 1) ≡ Ok entries = sym (fault_stays graph (length before + 1) lines) ∙ faulty in cc)
      by (Some entry) is more rest = rest entry is more

  -- The lines of a script that is read without a fault are those of a script, and the last is the stop.
  pub script_read : (text : List ℕ) (entries : List Entry) → script_of graph text ≡ Ok entries → IsScript graph entries × IsTrue (has_stopped entries)
  script_read text entries read = by (read_lines graph (lines_of text)) refl read
    where
      by : (r : Result (List Entry) ℕ) → read_lines graph (lines_of text) ≡ r → stopped r ≡ Ok entries → IsScript graph entries × IsTrue (has_stopped entries)
      by (Err number) is none = absurd (let both : Err number ≡ Ok entries = none in cc)
      by (Ok found) is all = ends (has_stopped found) refl all
        where
          ends : (b : Bool) → has_stopped found ≡ b → cond b (Ok found) (Err (length found + 1)) ≡ Ok entries → IsScript graph entries × IsTrue (has_stopped entries)
          ends false stop none = absurd (let both : Err (length found + 1) ≡ Ok entries = none in cc)
          ends true stop all =
              let same : found ≡ entries = (let both : Ok found ≡ Ok entries = all in cc) in
              subst (λ es. IsScript graph es × IsTrue (has_stopped es)) same (reads_script (lines_of text) [] found (script_none graph) is, stop)

  module _ (entries : List Entry) (script : IsScript graph entries) where
    -- they are not too many
    pub few_entries : length entries ≤ MAX_ENTRIES
    few_entries = by (length entries) refl
      where
        by : (n : ℕ) → length entries ≡ n → length entries ≤ MAX_ENTRIES
        by zero count = omega arith
        by (suc last) count =
            let at = slice_get-get_or entries last (Start 0 0) (omega arith) in
            let test = and_parts (nat_lt (length (take last entries)) MAX_ENTRIES) _ (script.follows last (get_or entries last (Start 0 0)) at) in
            let below = ltb-true (length (take last entries)) MAX_ENTRIES test.0 in
            omega (arith, length-take last entries)

    -- a line that changes the mode is not one too many
    one_new : (before : List Entry) (entry : Entry) → is_new before entry ≡ true → count_by changes_mode before ≤ MAX_MODE_CHANGES
        → count_by changes_mode before + cond (changes_mode entry) 1 0 ≤ MAX_MODE_CHANGES
    one_new before (Start time node) new few = omega arith
    one_new before (Mode time mode) new few = let below = ltb-true (count_by changes_mode before) MAX_MODE_CHANGES new in omega arith
    one_new before (Sweep time) new few = omega arith
    one_new before (Tick time) new few = omega arith
    one_new before (Stop time) new few = omega arith

    few_before : (n : ℕ) → n ≤ length entries → count_by changes_mode (take n entries) ≤ MAX_MODE_CHANGES
    few_before zero within = omega arith
    few_before (suc n) within =
        let entry : Entry = get_or entries n (Start 0 0) in
        let at = slice_get-get_or entries n (Start 0 0) (omega arith) in
        let few = one_new (take n entries) entry (new_there (take n entries) entry (script.follows n entry at)) (few_before n (omega arith)) in
        omega (arith, ap (count_by changes_mode) (take-item entries n entry at), sum_by_push (λ e. cond (changes_mode e) 1 0) (take n entries) entry)

    -- nor are those too many that change the mode
    pub few_changes : count_by changes_mode entries ≤ MAX_MODE_CHANGES
    few_changes = subst (λ es. count_by changes_mode es ≤ MAX_MODE_CHANGES) (take_all (length entries) entries (omega arith)) (few_before (length entries) (omega arith))
