-- The order of a script's lines, and what it starts.
use Rattle.std.proofs.Common.{◌≡◌, ℕ, zero, suc, ◌+◌, ◌-◌, ◌≤◌, ⊎_elim, Bool, true, false, not, ◌||◌, cond, eqb, nat_le, nat_lt, List, [], ◌∷◌, ◌++◌, length, take, get_or, All, AllPairs, Option, Some, None, slice_get, refl, sym, ap, ◌∙◌, subst, arith}
use Rattle.std.specs.List.{list_any}
use Rattle.std.specs.Option.{option_or, option_map_or}
use Rattle.std.proofs.lemmas.Bool.{cond-true, cond-false, ne_eqb, eq-eqb, cases_eq, not-true, and_parts}
use Rattle.std.proofs.lemmas.Bool.Decides.{nat_tests}
use Rattle.std.proofs.lemmas.List.{take_all, get_or-take, length-take, length_push}
use Rattle.std.proofs.lemmas.List.Elements.{All-nil, All-cons, All-append}
use Rattle.std.proofs.lemmas.Option.{slice_get-get_or}
use Rattle.tfpg_base.specs.declared.activation.Activation.{Activation}
use Rattle.tfpg_base.specs.Trace.{time_of, with_time}
use Rattle.tfpg_base.specs.declared.limits.TheConstants.{MAX_TIME}
use Rattle.tfpg_base.proofs.lemmas.Traces.{time_of-with_time, time_of-with_time_other}
use Rattle.tfpg_graph.specs.Graph.{Tfpg}
use Rattle.tfpg_sim.specs.declared.entry.Entry.{Entry}
use Rattle.tfpg_sim.specs.declared.entry.Entry.TheVariants.{Start, Mode, Sweep, Tick, Stop}
use Rattle.tfpg_base.specs.Choice.{last_of}
use Rattle.tfpg_sim.specs.Script.{time_of_entry, time_so_far, starts, has_stopped}
use Rattle.tfpg_sim.specs.inside.ScriptReading.{may_follow, is_new}
use Rattle.tfpg_sim.specs.declared.limits.TheConstants.{MAX_ENTRIES}
use Rattle.tfpg_sim.specs.inside.Entries.{IsScript}
use Rattle.tfpg_sim.specs.Script.{IsEntryOf}
use Rattle.tfpg_sim.specs.Simulation.{start_of}
use Rattle.tfpg_sim.specs.inside.Settling.{IsFailureStart, with_start}
use Rattle.tfpg_base.proofs.lemmas.lists.Elements.{All-at}
use Rattle.tfpg_base.proofs.lemmas.lists.Choices.{option_or-none}
use Rattle.tfpg_base.proofs.lemmas.lists.Written.{slice_get-push_at}
use Rattle.tfpg_base.proofs.lemmas.lists.Cuts.{take-item, take-next}

time-push : (entries : List Entry) (entry : Entry) → time_so_far (entries ++ entry ∷ []) ≡ time_of_entry entry
time-push entries entry =
    ap (λ o. option_map_or time_of_entry o 0) (slice_get-push_at entries entry (length (entries ++ entry ∷ []) - 1) (omega (arith, length_push entries entry)))

-- what a line that may follow says of those before it
pub not_back : (before : List Entry) (entry : Entry) → may_follow before entry ≡ true → time_so_far before ≤ time_of_entry entry
not_back before entry follows =
    let rest = (and_parts (nat_lt (length before) MAX_ENTRIES) _ follows).1 in
    let later = (and_parts (not (has_stopped before)) _ rest).1 in
    let back = (and_parts (nat_le (time_so_far before) (time_of_entry entry)) _ later).0 in grind (arith, nat_tests, back)

pub new_there : (before : List Entry) (entry : Entry) → may_follow before entry ≡ true → is_new before entry ≡ true
new_there before entry follows =
    let rest = (and_parts (nat_lt (length before) MAX_ENTRIES) _ follows).1 in
    let later = (and_parts (not (has_stopped before)) _ rest).1 in
    (and_parts (nat_le (time_so_far before) (time_of_entry entry)) _ later).1

module _ (graph : Tfpg) (entries : List Entry) (script : IsScript graph entries) where
  -- no line is after the last of the first so many
  pub up_to : (n : ℕ) → n ≤ length entries → All (λ entry. time_of_entry entry ≤ time_so_far (take n entries)) (take n entries)
  up_to zero within = All-nil (λ entry. time_of_entry entry ≤ time_so_far (take 0 entries))
  up_to (suc n) within =
      let item = slice_get-get_or entries n (Start 0 0) (omega arith) in
      let entry : Entry = get_or entries n (Start 0 0) in
      let grown = take-item entries n entry item in
      subst (λ es. All (λ e. time_of_entry e ≤ time_so_far es) es) (sym grown)
      (subst (λ t. All (λ e. time_of_entry e ≤ t) (take n entries ++ entry ∷ [])) (sym (time-push (take n entries) entry))
      (All-append (λ e. time_of_entry e ≤ time_of_entry entry) (take n entries) (entry ∷ [])
      (All-up (take n entries) (time_so_far (take n entries)) (time_of_entry entry) (not_back (take n entries) entry (script.follows n entry item)) (up_to n (omega arith)))
      (All-cons (λ e. time_of_entry e ≤ time_of_entry entry) entry [] (omega arith) (All-nil (λ e. time_of_entry e ≤ time_of_entry entry)))))
    where
      All-up : (es : List Entry) (low high : ℕ) → low ≤ high → All (λ e. time_of_entry e ≤ low) es → All (λ e. time_of_entry e ≤ high) es
      All-up es low high upto all = λ k d within'. let one = all k d within' in omega arith

  -- no line is after the last
  pub all_by_last : All (λ entry. time_of_entry entry ≤ time_so_far entries) entries
  all_by_last = subst (λ es. All (λ entry. time_of_entry entry ≤ time_so_far es) es) (take_all (length entries) entries (omega arith)) (up_to (length entries) (omega arith))

  -- the times do not fall
  pub in_order : AllPairs (λ a b. time_of_entry a ≤ time_of_entry b) entries
  in_order i j d less within =
      let item = slice_get-get_or entries j d within in
      let back = not_back (take j entries) (get_or entries j d) (script.follows j (get_or entries j d) item) in
      let upto = up_to j (omega arith) i d (omega (arith, length-take j entries)) in
      let same = ap time_of_entry (get_or-take j entries i d less) in omega arith

  -- no time is too large
  pub small : time_so_far entries ≤ MAX_TIME
  small = by (last_of entries) refl
    where
      own_time : (entry : Entry) → IsEntryOf graph entry → time_of_entry entry ≤ MAX_TIME
      own_time (Start time node) own = own.0
      own_time (Mode time mode) own = own.0
      own_time (Sweep time) own = own
      own_time (Tick time) own = own
      own_time (Stop time) own = own

      by : (o : Option Entry) → last_of entries ≡ o → option_map_or time_of_entry (last_of entries) 0 ≤ MAX_TIME
      by None is = subst (λ o. option_map_or time_of_entry o 0 ≤ MAX_TIME) (sym is) (omega arith)
      by (Some entry) is = subst (λ o. option_map_or time_of_entry o 0 ≤ MAX_TIME) (sym is)
          (own_time entry (All-at (IsEntryOf graph) entries (length entries - 1) entry script.own is))

-- ---- what a script starts

-- what one line more starts
start_of-push : (entries : List Entry) (entry : Entry) (node : ℕ) → start_of (entries ++ entry ∷ []) node ≡ option_or (start_of entries node) (start_of (entry ∷ []) node)
start_of-push [] entry node = refl
start_of-push (Start time started ∷ entries) entry node = by (eqb started node) (start_of-push entries entry node)
  where
    by : (here : Bool) → start_of (entries ++ entry ∷ []) node ≡ option_or (start_of entries node) (start_of (entry ∷ []) node)
        → cond here (Some time) (start_of (entries ++ entry ∷ []) node) ≡ option_or (cond here (Some time) (start_of entries node)) (start_of (entry ∷ []) node)
    by true rest = refl
    by false rest = rest
start_of-push (Mode time mode ∷ entries) entry node = start_of-push entries entry node
start_of-push (Sweep time ∷ entries) entry node = start_of-push entries entry node
start_of-push (Tick time ∷ entries) entry node = start_of-push entries entry node
start_of-push (Stop time ∷ entries) entry node = start_of-push entries entry node

-- what no line starts
not_started : (entries : List Entry) (node : ℕ) → list_any (starts node) entries ≡ false → start_of entries node ≡ None
not_started [] node none = refl
not_started (Start time started ∷ entries) node none = by (eqb started node) none (λ rest. not_started entries node rest)
  where
    by : (here : Bool) → here || list_any (starts node) entries ≡ false → (list_any (starts node) entries ≡ false → start_of entries node ≡ None)
        → cond here (Some time) (start_of entries node) ≡ None
    by true nothing again = absurd (let both : true ≡ false = nothing in cc)
    by false nothing again = again nothing
not_started (Mode time mode ∷ entries) node none = not_started entries node none
not_started (Sweep time ∷ entries) node none = not_started entries node none
not_started (Tick time ∷ entries) node none = not_started entries node none
not_started (Stop time ∷ entries) node none = not_started entries node none

-- a trace with one time more
pub All-with_time : (P : Activation → Type 0) (trace : List Activation) (node time : ℕ) → All P trace → P (record { node = node; time = time }) → All P (with_time node time trace)
All-with_time P [] node time all one = All-cons P (record { node = node; time = time }) [] one (All-nil P)
All-with_time P (first ∷ others) node time all one =
    let rest : All P others = λ k d within. all (suc k) d (omega arith) in
    by (nat_lt node first.node) (eqb node first.node) (All-with_time P others node time rest one)
  where
    by : (below here : Bool) → All P (with_time node time others)
        → All P (cond below (record { node = node; time = time } ∷ first ∷ others) (cond here (record { node = node; time = time } ∷ others) (first ∷ with_time node time others)))
    by true here more = All-cons P (record { node = node; time = time }) (first ∷ others) one all
    by false true more = All-cons P (record { node = node; time = time }) others one (λ k d within. all (suc k) d (omega arith))
    by false false more = All-cons P first (with_time node time others) (all 0 first (omega arith)) more

module _ (graph : Tfpg) (entries : List Entry) (script : IsScript graph entries) (i : ℕ) (entry : Entry) (at : slice_get entries i ≡ Some entry) (trace : List Activation) where
  -- the trace with one line more
  pub start_step : ((node : ℕ) → time_of trace node ≡ start_of (take i entries) node) → (node : ℕ) → time_of (with_start entry trace) node ≡ start_of (take (i + 1) entries) node
  start_step are node =
      by entry refl ∙ sym (ap (λ es. start_of es node) (take-next entries i entry at) ∙ start_of-push (take i entries) entry node)
    where
      same : option_or (start_of (take i entries) node) None ≡ time_of trace node
      same = option_or-none (start_of (take i entries) node) ∙ sym (are node)

      by : (e : Entry) → entry ≡ e → time_of (with_start e trace) node ≡ option_or (start_of (take i entries) node) (start_of (e ∷ []) node)
      by (Start time started) is = ⊎_elim
          (λ here. subst (λ n. time_of (with_time started time trace) n ≡ option_or (start_of (take i entries) n) (cond (eqb started n) (Some time) None)) here
          (time_of-with_time trace started time ∙ sym ((λ j. option_or (none_yet started time is j) (cond (eqb started started) (Some time) None))
          ∙ cond-true (eqb started started) _ _ (eq-eqb started started refl))))
          (λ unlike. time_of-with_time_other trace started time node unlike ∙ sym same
          ∙ ap (option_or (start_of (take i entries) node)) (sym (cond-false (eqb started node) _ _ (ne_eqb started node unlike))))
          (cases_eq started node)
        where
          none_yet : (n t : ℕ) → entry ≡ Start t n → start_of (take i entries) n ≡ None
          none_yet n t is' = not_started (take i entries) n (not-true (list_any (starts n) (take i entries))
              (subst (λ e. is_new (take i entries) e ≡ true) is' (new_there (take i entries) entry (script.follows i entry at))))
      by (Mode time mode) is = sym same
      by (Sweep time) is = sym same
      by (Tick time) is = sym same
      by (Stop time) is = sym same

  -- and it has starts alone
  pub own_step : (stop : ℕ) → All (λ e. time_of_entry e ≤ stop) entries → All (IsFailureStart graph stop) trace → All (IsFailureStart graph stop) (with_start entry trace)
  own_step stop all own = by entry (All-at (IsEntryOf graph) entries i entry script.own at) (All-at (λ e. time_of_entry e ≤ stop) entries i entry all at)
    where
      by : (e : Entry) → IsEntryOf graph e → time_of_entry e ≤ stop → All (IsFailureStart graph stop) (with_start e trace)
      by (Start time node) is upto = All-with_time (IsFailureStart graph stop) trace node time own (is.1, upto)
      by (Mode time mode) is upto = own
      by (Sweep time) is upto = own
      by (Tick time) is upto = own
      by (Stop time) is upto = own
