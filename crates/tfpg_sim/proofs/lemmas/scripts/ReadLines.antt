-- What the lines of a script say, line by line.
use Rattle.std.proofs.Common.{◌≡◌, ℕ, ◌+◌, List, [], ◌∷◌, ◌++◌, length, fold, cond, None, Ok, Err, true, false, refl, sym, ap, ◌∙◌, arith}
use Rattle.std.proofs.lemmas.List.Sums.{fold-append, fold_push}
use Rattle.tfpg_base.specs.Lines.{lines_of, parts_of}
use Rattle.tfpg_graph.specs.Graph.{Tfpg}
use Rattle.tfpg_sim.specs.declared.entry.Entry.{Entry}
use Rattle.tfpg_sim.specs.Script.{has_stopped}
use Rattle.tfpg_sim.specs.inside.ScriptReading.{next_entry, with_next, with_script_line, read_lines, stopped, script_of}

-- a fault stays
pub fault_stays : (graph : Tfpg) (number : ℕ) (lines : List (List ℕ)) → fold (with_script_line graph) (Err number) lines ≡ Err number
fault_stays graph number [] = refl
fault_stays graph number (line ∷ lines) = fault_stays graph number lines

-- what one line more says
pub read_lines-push : (graph : Tfpg) (lines : List (List ℕ)) (line : List ℕ) (entries : List Entry)
    → read_lines graph lines ≡ Ok entries → read_lines graph (lines ++ line ∷ []) ≡ with_next entries (next_entry graph entries line)
read_lines-push graph lines line entries are =
    fold_push (with_script_line graph) (Ok []) lines line ∙ ap (λ read. with_script_line graph read line) are

-- the first line that says nothing right
pub script_of-fault : (graph : Tfpg) (text body : List ℕ) (before later : List (List ℕ)) (line : List ℕ) (entries : List Entry)
    → lines_of text ≡ parts_of body → parts_of body ≡ before ++ line ∷ later → read_lines graph before ≡ Ok entries
    → next_entry graph entries line ≡ None → script_of graph text ≡ Err (length entries + 1)
script_of-fault graph text body before later line entries lines parts are none =
    ap (λ all. stopped (read_lines graph all)) (lines ∙ parts)
    ∙ ap stopped (fold-append (with_script_line graph) (Ok []) before (line ∷ later)
    ∙ ap (λ read. fold (with_script_line graph) (with_script_line graph read line) later) are
    ∙ ap (λ next. fold (with_script_line graph) (with_next entries next) later) none
    ∙ fault_stays graph (length entries + 1) later)

-- all lines say something right, and the last is the stop
pub script_of-stopped : (graph : Tfpg) (text body : List ℕ) (lines : List (List ℕ)) (entries : List Entry)
    → lines_of text ≡ parts_of body → lines ≡ parts_of body → read_lines graph lines ≡ Ok entries
    → has_stopped entries ≡ true → script_of graph text ≡ Ok entries
script_of-stopped graph text body lines entries are same read stop =
    ap (λ all. stopped (read_lines graph all)) (are ∙ sym same) ∙ ap stopped read
    ∙ ap (λ b. cond b (Ok entries) (Err (length entries + 1))) stop

-- all lines say something right, and the stop is missing
pub script_of-missing : (graph : Tfpg) (text body : List ℕ) (lines : List (List ℕ)) (entries : List Entry)
    → lines_of text ≡ parts_of body → lines ≡ parts_of body → read_lines graph lines ≡ Ok entries
    → has_stopped entries ≡ false → script_of graph text ≡ Err (length entries + 1)
script_of-missing graph text body lines entries are same read stop =
    ap (λ all. stopped (read_lines graph all)) (are ∙ sym same) ∙ ap stopped read
    ∙ ap (λ b. cond b (Ok entries) (Err (length entries + 1))) stop

-- no text has no stop
pub script_of-empty : (graph : Tfpg) (text : List ℕ) → length text ≡ 0 → script_of graph text ≡ Err 1
script_of-empty graph [] none = refl
script_of-empty graph (byte ∷ bytes) none = absurd (omega (arith, none))
