-- Reading the map of the input, one line after another.
use Rattle.std.proofs.Common.{◌≡◌, ℕ, ◌+◌, ◌<◌, ◌≤◌, List, [], ◌∷◌, ◌++◌, length, take, get_or, All, IsTrue, Option, None, Result, Ok, Err, refl, sym, ap, subst, ◌∙◌, arith, inl, inr}
use Rattle.std.specs.Prelude.{IfOk, IfErr}
use Rattle.std.proofs.lemmas.List.{append-nil, length-append}
use Rattle.std.proofs.lemmas.List.Elements.{Contains-get_or}
use Rattle.tfpg_base.specs.declared.activation.Activation.{Activation}
use Rattle.tfpg_base.specs.Hypothesis.{Hypothesis}
use Rattle.tfpg_base.specs.declared.line.Line.{Line}
use Rattle.tfpg_base.specs.declared.line.Line.TheVariants as line
use Rattle.tfpg_base.specs.declared.line.LineFault.{LineFault}
use Rattle.tfpg_base.specs.declared.line.LineFault.TheVariants as fault
use Rattle.tfpg_base.specs.Lines.{LinesState, Continues, lines_of, with_bytes, with_line}
use Rattle.tfpg_base.specs.declared.limits.TheConstants.{LONGEST_LINE, MAX_BYTES}
use Rattle.tfpg_base.specs.Outside.{SourceState, Rose}
use Rattle.tfpg_base.proofs.lemmas.ReadingOn.{GaveLine, Continues-turn, Continues-text, Continues-too_long}
use Rattle.tfpg_base.proofs.lemmas.Taking.{Takes-append}
use Rattle.tfpg_base.proofs.lemmas.TraceTimes.{time_there, time_holds}
use Rattle.tfpg_graph.specs.Graph.{Tfpg, is_monitored}
use Rattle.tfpg_map.specs.Spelling.{SpellsMap, BeginsMap, IsActivationOf}
use Rattle.tfpg_map.specs.declared.map.Map.{Map}
use Rattle.tfpg_map.specs.declared.map.MapReader.{MapReader}
use Rattle.tfpg_map.specs.declared.map.NoMap.{NoMap}
use Rattle.tfpg_map.specs.declared.map.NoMap.TheVariants as none
use Rattle.tfpg_map.specs.inside.Lines.{HasRead, MapRepresents}
use Rattle.tfpg_map.specs.inside.Reading.{IsReadingMap, HasReadAll, ReturnsMap, map_reading_at}
use Rattle.tfpg_map.specs.InputMap.{ReadsMap, LacksMap}
use Rattle.tfpg_base.proofs.lemmas.lists.Cuts.{front_is_within, front_before, front_with}
use Rattle.tfpg_streams.proofs.lemmas.InputLines.{rest_of, rest_is_left, rest_at_end, front_of_input, came_to_end}
use Rattle.tfpg_streams.proofs.lemmas.FewLines.{few_lines}
use Rattle.tfpg_map.proofs.lemmas.Lines.{HasRead-begins, no_map-long}

-- ---- the lines read so far

-- no more lines are read than bytes may be taken, but for a last one
pub few_read : (graph : Tfpg) (before now : SourceState) (lines : LinesState) (map : MapReader) → IsReadingMap graph before (map_reading_at now lines map) → lines.number ≤ MAX_BYTES + 1
few_read graph before now lines map under =
    let within = front_is_within (lines_of under.reading.taken) under.reading.given under.front in
    omega (arith, within, few_lines under.reading.taken, under.few, under.represents.number)

-- ---- one line

module _ (graph : Tfpg) (before now : SourceState) (lines lines' : LinesState) (map : MapReader) (input : SourceState) (under : IsReadingMap graph before (map_reading_at now lines map)) where
  -- the lines so far begin a map
  so_far : BeginsMap graph under.reading.given
  so_far = HasRead-begins graph map.hypothesis map.trace under.reading.given under.read

  -- the reader of lines reports a fault
  pub lacks_by_fault : (f : LineFault) → Continues under.reading under.reading.ended now input (Err f) lines' → LacksMap graph before input (none.Lines f)
  lacks_by_fault fault.ReadFault continues =
      let reading = under.reading in
      let turn = Continues-turn reading now input (Err fault.ReadFault) lines' under.goes_on (λ e. cc) continues in
      record {
        taken = reading.taken ++ turn.more;
        takes = Takes-append before now input reading.taken turn.more under.takes turn.takes;
        shown = (subst (λ (count : ℕ). Rose count input.faults) under.no_fault turn.faults, subst (BeginsMap graph) (sym turn.returns.0) so_far);
      }
  lacks_by_fault fault.TooMuchInput continues =
      let reading = under.reading in
      let turn = Continues-turn reading now input (Err fault.TooMuchInput) lines' under.goes_on (λ e. cc) continues in
      record {
        taken = reading.taken ++ turn.more;
        takes = Takes-append before now input reading.taken turn.more under.takes turn.takes;
        shown = (turn.returns.1, subst (BeginsMap graph) (sym turn.returns.0) so_far, turn.faults ∙ under.no_fault);
      }

  -- the input has ended
  reads_all : Continues under.reading under.reading.ended now input (Ok line.End) lines' → HasReadAll graph before input map
  reads_all continues =
      let reading = under.reading in
      let end = came_to_end reading now input lines lines' under.few under.goes_on under.represents continues in
      record {
        taken = reading.taken ++ end.more;
        takes = Takes-append before now input reading.taken end.more under.takes end.takes;
        few = end.few;
        at_end = end.end;
        read = subst (MapRepresents graph map) (sym end.all) under.read;
        no_fault = end.no_fault ∙ under.no_fault;
      }

  module _ (gave : GaveLine under.reading now input lines') where
    -- the line is read
    reads_line : (map' : MapReader) → MapRepresents graph map' (under.reading.given ++ gave.first ∷ []) → IsReadingMap graph before (map_reading_at input lines' map') × (lines'.number ≡ lines.number + 1)
    reads_line map' read =
        let reading = under.reading in (
          record {
            reading = with_line (with_bytes reading gave.more) gave.first;
            takes = Takes-append before now input reading.taken gave.more under.takes gave.takes;
            few = gave.next.few;
            represents = gave.stands;
            goes_on = gave.goes_on;
            front = front_with (lines_of (reading.taken ++ gave.more)) reading.given gave.first gave.next.front;
            read = read;
            no_fault = gave.no_fault ∙ under.no_fault;
          },
          omega (arith, gave.stands.number, under.represents.number, length-append reading.given (gave.first ∷ [])),
        )

    -- the line is faulty
    lacks_by_line : (BeginsMap graph (under.reading.given ++ gave.first ∷ []) → ⊥) → LacksMap graph before input (none.Refused lines'.number)
    lacks_by_line fails =
        let reading = under.reading in
        let all = lines_of ((reading.taken ++ gave.more) ++ rest_of input) in
        let front : take (length reading.given + 1) all ≡ reading.given ++ gave.first ∷ [] = front_of_input (with_bytes reading gave.more) gave.first input gave.next in
        let within : length reading.given < length all =
        omega (arith, length-append reading.given (gave.first ∷ []), front_is_within all (reading.given ++ gave.first ∷ []) (front_with all reading.given gave.first front)) in
        record {
          taken = reading.taken ++ gave.more;
          takes = Takes-append before now input reading.taken gave.more under.takes gave.takes;
          shown = record {
            rest = rest_of input;
            left = rest_is_left input;
            fault = inl (record {
              index = length reading.given;
              counted = omega (arith, gave.stands.number, length-append reading.given (gave.first ∷ []));
              within = within;
              before = subst (BeginsMap graph) (sym (front_before all reading.given gave.first front)) so_far;
              with_it = λ begins. fails (subst (BeginsMap graph) front begins);
            });
            ended = λ none. absurd (omega (arith, within, ap length none));
            no_fault = gave.no_fault ∙ under.no_fault;
          };
        }

    -- memory runs out
    lacks_memory_there : LacksMap graph before input none.NoMemory
    lacks_memory_there = record {
      taken = under.reading.taken ++ gave.more;
      takes = Takes-append before now input under.reading.taken gave.more under.takes gave.takes;
      shown = gave.no_fault ∙ under.no_fault;
    }

-- ---- as the code comes to it

module _ (graph : Tfpg) (before now : SourceState) (lines lines' : LinesState) (map : MapReader) (input : SourceState) (under : IsReadingMap graph before (map_reading_at now lines map))
    (l : Line) (continues : Continues under.reading under.reading.ended now input (Ok l) lines') where
  -- the input has ended
  pub met_end : l ≡ line.End → HasReadAll graph before input map
  met_end e = reads_all graph before now lines lines' map input under (subst (λ (x : Line). Continues under.reading under.reading.ended now input (Ok x) lines') e continues)

  -- a line that is too long
  pub met_long : l ≡ line.TooLong → (f : NoMap) → f ≡ none.Refused lines'.number → LacksMap graph before input f
  met_long e f is =
      let met = Continues-too_long under.reading now input lines' under.goes_on (subst (λ (x : Line). Continues under.reading under.reading.ended now input (Ok x) lines') e continues) in
      subst (LacksMap graph before input) (sym is)
      (lacks_by_line graph before now lines lines' map input under met.0 (no_map-long graph under.reading.given met.0.first met.1))

  -- a text
  module _ (text : List ℕ) (map' : MapReader) (e : l ≡ line.Text) (text_is : text ≡ lines'.text) where
    met_text : (gave : GaveLine under.reading now input lines') × (length gave.first ≤ LONGEST_LINE) × (lines'.text ≡ gave.first)
    met_text = Continues-text under.reading now input lines' under.goes_on (subst (λ (x : Line). Continues under.reading under.reading.ended now input (Ok x) lines') e continues)

    along : met_text.0.first ≡ text
    along = sym (text_is ∙ met_text.2)

    -- that is read
    pub met_read : ((given : List (List ℕ)) → MapRepresents graph map given → length text ≤ LONGEST_LINE → MapRepresents graph map' (given ++ text ∷ []))
        → IsReadingMap graph before (map_reading_at input lines' map') × (lines'.number ≡ lines.number + 1)
    met_read reads =
        reads_line graph before now lines lines' map input under met_text.0 map'
        (subst (λ (t : List ℕ). MapRepresents graph map' (under.reading.given ++ t ∷ [])) (sym along)
        (reads under.reading.given under.read (subst (λ (t : List ℕ). length t ≤ LONGEST_LINE) along met_text.1)))

    -- that is faulty
    pub met_faulty : ((given : List (List ℕ)) → MapRepresents graph map given → BeginsMap graph (given ++ text ∷ []) → ⊥) → (f : NoMap) → f ≡ none.Refused lines'.number
        → LacksMap graph before input f
    met_faulty fails f is =
        subst (LacksMap graph before input) (sym is)
        (lacks_by_line graph before now lines lines' map input under met_text.0
        (subst (λ (t : List ℕ). BeginsMap graph (under.reading.given ++ t ∷ []) → ⊥) (sym along) (fails under.reading.given under.read)))

    -- where memory runs out
    pub met_no_memory : LacksMap graph before input none.NoMemory
    met_no_memory = lacks_memory_there graph before now lines lines' map input under met_text.0

-- ---- the map

-- a map names only nodes of the graph
pub spelled_in_graph : (graph : Tfpg) (lines : List (List ℕ)) (hypothesis : Hypothesis) (trace : List Activation) → SpellsMap graph lines hypothesis trace
    → All (λ activation. activation.node < length graph.nodes) trace
spelled_in_graph graph lines hypothesis trace spells index d within =
    let activation = get_or trace index d in
    let timed = time_there trace spells.rising activation (Contains-get_or trace index d within) in
    (time_holds (IsActivationOf graph) spells.listed activation.node activation.time spells.of_nodes (sym (spells.same_times activation.node) ∙ timed)).in_graph

-- what all lines spell
module _ (graph : Tfpg) (before now : SourceState) (reader : MapReader) (all : HasReadAll graph before now reader) where
  pub gives_map : (result : Result Map NoMap) → ReturnsMap reader result → IfOk result (ReadsMap graph before now)
  gives_map (Ok map) returns = record {
    taken = all.taken;
    takes = all.takes;
    spells = subst (λ (hypothesis : Option Hypothesis). HasRead graph hypothesis map.trace (lines_of all.taken)) returns.0
        (subst (λ (trace : List Activation). HasRead graph reader.hypothesis trace (lines_of all.taken)) returns.1 all.read);
    few = all.few;
    at_end = all.at_end;
    no_fault = all.no_fault;
  }
  gives_map (Err fault) returns = tt

  pub gives_none : (result : Result Map NoMap) → ReturnsMap reader result → IfErr result (LacksMap graph before now)
  gives_none (Ok map) returns = tt
  gives_none (Err fault) returns =
      let read : HasRead graph None reader.trace (lines_of all.taken) = subst (λ (hypothesis : Option Hypothesis). HasRead graph hypothesis reader.trace (lines_of all.taken)) returns.0 all.read in
      let whole : all.taken ++ rest_of now ≡ all.taken = ap (λ (rest : List ℕ). all.taken ++ rest) (rest_at_end now all.at_end) ∙ append-nil all.taken in
      subst (LacksMap graph before now) (sym returns.1) (record {
        taken = all.taken;
        takes = all.takes;
        shown = record {
          rest = rest_of now;
          left = rest_is_left now;
          fault = inr (ap lines_of whole ∙ read.0, refl);
          ended = λ none. all.at_end;
          no_fault = all.no_fault;
        };
      })

-- a map that was read names only nodes of the graph
pub map_in_graph : (graph : Tfpg) (before now : SourceState) (result : Result Map NoMap) → IfOk result (ReadsMap graph before now)
    → IfOk result (λ map. All (λ activation. activation.node < length graph.nodes) map.trace)
map_in_graph graph before now (Ok map) reads = spelled_in_graph graph (lines_of reads.taken) map.hypothesis map.trace reads.spells
map_in_graph graph before now (Err fault) reads = tt

-- and ignores only monitored ones
pub map_of_monitors : (graph : Tfpg) (before now : SourceState) (result : Result Map NoMap) → IfOk result (ReadsMap graph before now)
    → IfOk result (λ map. All (λ node. IsTrue (is_monitored graph node)) map.hypothesis.doubts)
map_of_monitors graph before now (Ok map) reads = reads.spells.of_graph.monitored
map_of_monitors graph before now (Err fault) reads = tt
