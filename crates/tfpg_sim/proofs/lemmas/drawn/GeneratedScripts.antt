-- The script of a generated graph is right, and starts one failure mode or two.
use Rattle.std.proofs.Common.{◌≡◌, ℕ, zero, suc, ◌+◌, ◌<◌, ◌≤◌, ◌⊎◌, inl, inr, ⊎_elim, Bool, true, false, not, ◌||◌, cond, eqb, nat_le, List, [], ◌∷◌, ◌++◌, length, fold, All, Option, Some, None, Ok, slice_get, codes, refl, sym, ap, ◌∙◌, subst, arith, length-append, append_assoc}
use Rattle.std.specs.Prelude.{decimal, unwrap_or, option_map, option_and_then, filter_map, slice_index_or}
use Rattle.std.specs.Bool.{then_some}
use Rattle.std.specs.Option.{option_map_or}
use Rattle.std.specs.List.{list_all}
use Rattle.std.proofs.lemmas.Bool.{le-leb}
use Rattle.std.proofs.lemmas.List.{get_or_append_left}
use Rattle.std.proofs.lemmas.List.Elements.{All-nil, All-cons}
use Rattle.std.proofs.lemmas.List.Quantifiers.{position-Some}
use Rattle.std.proofs.lemmas.Option.{slice_get-get_or}
use Rattle.rand_pcg.specs.Lcg.{Lcg}
use Rattle.tfpg_base.specs.declared.activation.Activation.{Activation}
use Rattle.tfpg_base.specs.Lines.{lines_of, HasNoLineEnd}
use Rattle.tfpg_base.specs.Set.{with_member, IsSet}
use Rattle.tfpg_base.specs.declared.limits.TheConstants.{MAX_CASE_SIZE, MAX_MEMBERS, MAX_TIME}
use Rattle.tfpg_base.specs.Words.{line_of}
use Rattle.tfpg_base.proofs.lemmas.Sets.{IsSet-with_member, length-with_member_le}
use Rattle.tfpg_base.proofs.lemmas.Numbers.{number_of-decimal}
use Rattle.tfpg_base.proofs.lemmas.Separators.{name_lacks}
use Rattle.tfpg_base.proofs.lemmas.lists.Lacking.{decimal_lacks, slice_split-join, lacks_checked}
use Rattle.tfpg_graph.specs.declared.kind.Kind.{Kind}
use Rattle.tfpg_graph.specs.declared.kind.Kind.TheVariants.{Failure}
use Rattle.tfpg_graph.specs.declared.limits.TheConstants.{MAX_FAILURES}
use Rattle.tfpg_graph.specs.Graph.{Tfpg, is_kind_at, is_failure, name_word, node_named, failures, position_of_failure}
use Rattle.tfpg_graph.proofs.lemmas.reading.spelling.SpelledEdges.{node_named-name_word}
use Rattle.tfpg_log.specs.declared.event.Event.{Event}
use Rattle.tfpg_log.specs.LogOfLines.{log_of_lines}
use Rattle.tfpg_sim.specs.declared.draws.Lateness.{Lateness}
use Rattle.tfpg_sim.specs.declared.entry.Entry.{Entry}
use Rattle.tfpg_sim.specs.declared.entry.Entry.TheVariants.{Start, Mode, Sweep, Stop}
use Rattle.tfpg_sim.specs.declared.simulated.Simulated.{Simulated}
use Rattle.tfpg_sim.specs.Draws.{latenesses}
use Rattle.tfpg_sim.specs.Simulated.{IsSimulationOf}
use Rattle.tfpg_sim.specs.Generated.{draw, drawn_name, failure_kinds, draft_of, generated_graph, generated_script, start_text, last_lines}
use Rattle.tfpg_sim.specs.declared.limits.TheConstants.{FAILURE_COUNT}
use Rattle.tfpg_sim.specs.Simulation.{event_of_entry}
use Rattle.tfpg_sim.specs.SimulatedLog.{with_started, set_of, alarm_time, with_alarm, with_alarms, log_events}
use Rattle.tfpg_sim.specs.Script.{IsScriptFault, time_so_far}
use Rattle.tfpg_sim.specs.inside.ScriptReading.{entry_in, entry_of, entry_with_name, failure_named, may_follow, with_script_line, with_next, read_lines, stopped, script_of}
use Rattle.tfpg_log.proofs.lemmas.logs_of_lines.AcceptedEvents.{named_clean}
use Rattle.tfpg_base.proofs.lemmas.LinesOf.{lines_again}
use Rattle.tfpg_sim.proofs.lemmas.scripts.SpelledScripts.{SpellsScript-read, never_faulty, one_script}
use Rattle.tfpg_sim.proofs.lemmas.logged.ExplainedLogs.{events_are}
use Rattle.tfpg_sim.proofs.lemmas.logged.PutAlarms.{put_there, one_more}
use Rattle.tfpg_sim.proofs.lemmas.drawn.GeneratedGraphs.{generated_valid, generated_failures, length-failure_kinds, failure_kind, length-named_nodes, get_or-named_nodes, drawn_node, is_name-drawn_name}

-- the line by which a failure mode starts
abbrev start_line : ℕ → ℕ → List ℕ
start_line time node = line_of (decimal time ∷ codes "start" ∷ drawn_name node ∷ [])

-- the lines after the starts
abbrev fixed_lines : List (List ℕ)
fixed_lines = codes "100 mode M1" ∷ codes "140 mode M0" ∷ codes "200 sweep" ∷ codes "300 sweep" ∷ codes "400 stop" ∷ []

-- what they say
abbrev pub fixed_entries : List Entry
fixed_entries = Mode 100 1 ∷ Mode 140 0 ∷ Sweep 200 ∷ Sweep 300 ∷ Stop 400 ∷ []

start_clean : (time node : ℕ) → time ≤ MAX_TIME → node < FAILURE_COUNT → HasNoLineEnd (start_line time node)
start_clean time node small low =
    named_clean time (codes "start") (drawn_name node) small (lacks_checked 10 (codes "start") refl) (is_name-drawn_name node (omega arith))

-- a line without a line end before others
clean_line : (line : List ℕ) (lines : List (List ℕ)) → list_all (λ byte. not (eqb byte 10)) line ≡ true → All HasNoLineEnd lines → All HasNoLineEnd (line ∷ lines)
clean_line line lines checked rest = All-cons HasNoLineEnd line lines (lacks_checked 10 line checked) rest

fixed_clean : All HasNoLineEnd fixed_lines
fixed_clean =
    let stop : List (List ℕ) = codes "400 stop" ∷ [] in
    let second : List (List ℕ) = codes "300 sweep" ∷ stop in
    let first : List (List ℕ) = codes "200 sweep" ∷ second in
    let back : List (List ℕ) = codes "140 mode M0" ∷ first in
    clean_line (codes "100 mode M1") back refl
    (clean_line (codes "140 mode M0") first refl
    (clean_line (codes "200 sweep") second refl
    (clean_line (codes "300 sweep") stop refl
    (clean_line (codes "400 stop") [] refl (All-nil HasNoLineEnd)))))

-- what a generated script says: one start or two, and the lines after them
pub record IsDrawnScript (entries : List Entry) : Type 0 where
  pub first : ℕ
  pub form : (entries ≡ Start 0 first ∷ fixed_entries) ⊎ ((second : ℕ) × (entries ≡ Start 0 first ∷ Start 50 second ∷ fixed_entries))

module _ (number size : ℕ) (some : 1 ≤ size) (few : size ≤ MAX_CASE_SIZE) where
  abbrev graph : Tfpg
  graph = generated_graph number size

  abbrev kinds : List Kind
  kinds = failure_kinds FAILURE_COUNT ++ (draft_of number size).kinds

  -- a failure mode stands at its number
  node_at : (node : ℕ) → node < FAILURE_COUNT → slice_get graph.nodes node ≡ Some (drawn_node node (Failure (node + 1)))
  node_at node low =
      let within : node < length kinds = omega (arith, length-append (failure_kinds FAILURE_COUNT) (draft_of number size).kinds, length-failure_kinds FAILURE_COUNT) in
      slice_get-get_or graph.nodes node (drawn_node 0 (Failure 0)) (omega (arith, within, length-named_nodes 0 kinds))
      ∙ ap Some (get_or-named_nodes 0 kinds node (drawn_node 0 (Failure 0)) (Failure 0) within)
      ∙ ap (λ k. Some (drawn_node (0 + node) k))
      (get_or_append_left (failure_kinds FAILURE_COUNT) (draft_of number size).kinds (Failure 0) node (omega (arith, length-failure_kinds FAILURE_COUNT)) ∙ failure_kind FAILURE_COUNT node (Failure 0) low)
      ∙ ap (λ n. Some (drawn_node n (Failure (node + 1)))) (let same : 0 + node ≡ node = omega arith in same)

  node_within : (node : ℕ) → node < FAILURE_COUNT → node < length graph.nodes
  node_within node low = omega (arith, length-append (failure_kinds FAILURE_COUNT) (draft_of number size).kinds, length-failure_kinds FAILURE_COUNT, length-named_nodes 0 kinds)

  -- and is found by its name
  failure_there : (node : ℕ) → node < FAILURE_COUNT → failure_named graph (drawn_name node) ≡ Some node
  failure_there node low =
      let at = node_at node low in
      let name : name_word graph node ≡ drawn_name node = ap (λ o. unwrap_or (option_map (λ n. n.name) o) []) at in
      let valid = generated_valid number size some few in
      let found : node_named graph (drawn_name node) ≡ Some node =
      ap (node_named graph) (sym name) ∙ node_named-name_word graph node (node_within node low) valid.so_far.nodes_differ in
      ap (option_and_then (λ n. then_some (is_kind_at is_failure graph n) n)) found
      ∙ ap (λ o. then_some (option_map_or is_failure (option_map (λ n. n.kind) o) false) node) at

  -- so the line of a start says so
  start_said : (time node : ℕ) → time ≤ MAX_TIME → node < FAILURE_COUNT → entry_of graph (start_line time node) ≡ Some (Start time node)
  start_said time node small low =
      ap (entry_in graph) (slice_split-join 32 (decimal time ∷ codes "start" ∷ drawn_name node ∷ []) (omega arith)
      (decimal_lacks 32 time refl (omega arith), (lacks_checked 32 (codes "start") refl, (name_lacks 32 (drawn_name node) refl (is_name-drawn_name node (omega arith)), tt))))
      ∙ ap (λ o. option_and_then (λ t. entry_with_name graph (codes "start") (drawn_name node) t) (option_and_then (λ t. then_some (nat_le t MAX_TIME) t) o)) (number_of-decimal time (omega arith))
      ∙ ap (λ b. option_and_then (λ t. entry_with_name graph (codes "start") (drawn_name node) t) (then_some b time)) (le-leb time MAX_TIME small)
      ∙ ap (option_map (λ n. Start time n)) (failure_there node low)

  -- one start and the lines after it
  one_started : (node : ℕ) → node < FAILURE_COUNT → read_lines graph (start_line 0 node ∷ fixed_lines) ≡ Ok (Start 0 node ∷ fixed_entries)
  one_started node low =
      ap (λ o. fold (with_script_line graph) (with_next [] (option_and_then (λ e. then_some (may_follow [] e) e) o)) fixed_lines) (start_said 0 node (omega arith) low)

  -- two starts and the lines after them
  two_started : (node other : ℕ) → node < FAILURE_COUNT → other < FAILURE_COUNT → eqb node other ≡ false
      → read_lines graph (start_line 0 node ∷ start_line 50 other ∷ fixed_lines) ≡ Ok (Start 0 node ∷ Start 50 other ∷ fixed_entries)
  two_started node other low too apart =
      ap (λ o. fold (with_script_line graph) (with_next [] (option_and_then (λ e. then_some (may_follow [] e) e) o)) (start_line 50 other ∷ fixed_lines)) (start_said 0 node (omega arith) low)
      ∙ ap (λ o. fold (with_script_line graph) (with_next (Start 0 node ∷ []) (option_and_then (λ e. then_some (may_follow (Start 0 node ∷ []) e) e) o)) fixed_lines) (start_said 50 other (omega arith) too)
      ∙ ap (λ b. fold (with_script_line graph) (with_next (Start 0 node ∷ []) (then_some b (Start 50 other))) fixed_lines) second_new
    where
      second_new : may_follow (Start 0 node ∷ []) (Start 50 other) ≡ true
      second_new = ap (λ b. not (b || false)) apart

  -- the text of one start or of two is right
  text_right : (x y : ℕ) → x < FAILURE_COUNT → y < FAILURE_COUNT → (b : Bool) → eqb x y ≡ b
      → (entries : List Entry) × (script_of graph (start_text 0 x ++ (cond b [] (start_text 50 y) ++ last_lines)) ≡ Ok entries) × IsDrawnScript entries
  text_right x y low too true same = (
    Start 0 x ∷ fixed_entries,
    ap (λ ls. stopped (read_lines graph ls)) (lines_again (start_line 0 x ∷ fixed_lines) (All-cons HasNoLineEnd (start_line 0 x) fixed_lines (start_clean 0 x (omega arith) low) fixed_clean))
        ∙ ap stopped (one_started x low),
    record { first = x; form = inl refl },
  )
  text_right x y low too false apart = (
    Start 0 x ∷ Start 50 y ∷ fixed_entries,
    ap (λ ls. stopped (read_lines graph ls))
        (lines_again (start_line 0 x ∷ start_line 50 y ∷ fixed_lines)
        (All-cons HasNoLineEnd (start_line 0 x) (start_line 50 y ∷ fixed_lines) (start_clean 0 x (omega arith) low)
        (All-cons HasNoLineEnd (start_line 50 y) fixed_lines (start_clean 50 y (omega arith) too) fixed_clean)))
        ∙ ap stopped (two_started x y low too apart),
    record { first = x; form = inr (y, refl) },
  )

-- A generated script is right.
pub script_right : (number size : ℕ) → 1 ≤ size → size ≤ MAX_CASE_SIZE
    → (entries : List Entry) × (script_of (generated_graph number size) (generated_script number size) ≡ Ok entries) × IsDrawnScript entries
script_right number size some few =
    let state : Lcg = (draft_of number size).state in
    let x = draw FAILURE_COUNT 0 state in
    let y = draw FAILURE_COUNT 1 state in
    subst (λ (text : List ℕ). (entries : List Entry) × (script_of (generated_graph number size) text ≡ Ok entries) × IsDrawnScript entries)
    (sym (append_assoc (start_text 0 x) (cond (eqb x y) [] (start_text 50 y)) last_lines))
    (text_right number size some few x y (omega arith) (omega arith) (eqb x y) refl)

-- and never at fault
pub never_at_fault : (number size line : ℕ) → 1 ≤ size → size ≤ MAX_CASE_SIZE
    → IsScriptFault (generated_graph number size) (lines_of (generated_script number size)) line → ⊥
never_at_fault number size line some few fault =
    let graph = generated_graph number size in
    let text = generated_script number size in
    let script = script_right number size some few in
    never_faulty graph (generated_valid number size some few) (lines_of text) script.0 line (SpellsScript-read graph text script.0 script.1) fault

-- ---- the set and the log

module _ (graph : Tfpg) (few_failures : length (failures graph) ≤ MAX_FAILURES) where
  -- a start makes a set at most one longer, and keeps it a set
  started_length : (time node : ℕ) (set : List ℕ) → length (with_started graph set (Start time node)) ≤ length set + 1
  started_length time node set = by (position_of_failure graph node)
    where
      by : (o : Option ℕ) → length (unwrap_or (option_map (λ index. with_member index set) o) set) ≤ length set + 1
      by None = omega arith
      by (Some index) = length-with_member_le index set

  started_set : (time node : ℕ) (set : List ℕ) → IsSet set → IsSet (with_started graph set (Start time node))
  started_set time node set is = by (position_of_failure graph node) refl
    where
      by : (o : Option ℕ) → position_of_failure graph node ≡ o → IsSet (unwrap_or (option_map (λ index. with_member index set) o) set)
      by None at = is
      by (Some index) at = IsSet-with_member index set (let within = (position-Some (λ failure. eqb failure node) (failures graph) index 0 at).0 in omega arith) is

  no_member : IsSet []
  no_member = record { rising = λ i j d before within. absurd (omega arith); small = All-nil (λ index. index < MAX_MEMBERS) }

  -- the set of a drawn script has at most two members
  pub drawn_set : (entries : List Entry) → IsDrawnScript entries → IsSet (set_of graph entries) × (length (set_of graph entries) ≤ 2)
  drawn_set entries is = ⊎_elim
      (λ one. subst (λ es. IsSet (set_of graph es) × (length (set_of graph es) ≤ 2)) (sym one)
      (started_set 0 is.first [] no_member, omega (arith, started_length 0 is.first [])))
      (λ two. subst (λ es. IsSet (set_of graph es) × (length (set_of graph es) ≤ 2)) (sym two.1) (
        started_set 50 two.0 (with_started graph [] (Start 0 is.first)) (started_set 0 is.first [] no_member),
        omega (arith, started_length 0 is.first [], started_length 50 two.0 (with_started graph [] (Start 0 is.first))),
      ))
      is.form

-- alarms make no log shorter
alarm_keeps : (time : Option ℕ) (node : ℕ) (events : List Event) → length events ≤ length (with_alarm time node events)
alarm_keeps None node events = omega arith
alarm_keeps (Some time) node events = omega (arith, ap length (put_there time node events), one_more time node events)

alarms_keep : (entries : List Entry) (trace : List Activation) (lates : List (Option Lateness)) (stop count : ℕ)
    → length (filter_map event_of_entry entries) ≤ length (with_alarms entries trace lates stop count)
alarms_keep entries trace lates stop zero = omega arith
alarms_keep entries trace lates stop (suc node) = omega (
  arith,
  alarms_keep entries trace lates stop node,
  alarm_keeps (alarm_time entries trace (slice_index_or lates node None) node stop) node (with_alarms entries trace lates stop node),
)

-- the log of a drawn script has events
pub drawn_events : (entries : List Entry) → IsDrawnScript entries → (trace : List Activation) (lates : List (Option Lateness)) (stop : ℕ) → 0 < length (log_events entries trace lates stop)
drawn_events entries is trace lates stop =
    let some : 0 < length (filter_map event_of_entry entries) = ⊎_elim
    (λ one. subst (λ es. 0 < length (filter_map event_of_entry es)) (sym one) (omega arith))
    (λ two. subst (λ es. 0 < length (filter_map event_of_entry es)) (sym two.1) (omega arith)) is.form in
    omega (arith, some, alarms_keep entries trace lates stop (length lates))

-- ---- the clauses

module _ (number size draw : ℕ) (simulated : Simulated) (some : 1 ≤ size) (few : size ≤ MAX_CASE_SIZE)
    (is : IsSimulationOf (generated_graph number size) (generated_script number size) draw simulated) where
  -- what was simulated is the drawn script
  same_entries : IsDrawnScript is.entries
  same_entries =
      let graph = generated_graph number size in
      let text = generated_script number size in
      let script = script_right number size some few in
      subst IsDrawnScript (one_script graph (generated_valid number size some few) (lines_of text) script.0 is.entries
      (SpellsScript-read graph text script.0 script.1) is.right) script.2

  pub generated_set : IsSet simulated.set × (length simulated.set ≤ 2)
  generated_set =
      let fails = generated_failures number size in
      subst (λ (s : List ℕ). IsSet s × (length s ≤ 2)) (sym is.set) (drawn_set (generated_graph number size) (omega (arith, fails)) is.entries same_entries)

  pub generated_log : 0 < length (lines_of simulated.log)
  generated_log = by (lines_of simulated.log) refl
    where
      by : (lines : List (List ℕ)) → lines_of simulated.log ≡ lines → 0 < length lines
      by [] none =
          let lates = latenesses (generated_graph number size) draw in
          let stop = time_so_far is.entries in
          let same : [] ≡ log_events is.entries simulated.trace lates stop =
          sym (ap (λ (lines : List (List ℕ)). (log_of_lines (generated_graph number size) lines).events) none)
          ∙ events_are (generated_graph number size) (generated_script number size) draw simulated (generated_valid number size some few) is in
          absurd (omega (arith, ap length same, drawn_events is.entries same_entries simulated.trace lates stop))
      by (line ∷ lines) is_some = omega arith
