-- What lines without a cause declare breaks no rule.
use Rattle.std.proofs.Common.{◌≡◌, ℕ, ◌<◌, ◌≤◌, ◌^◌, ◌&&◌, Bool, true, false, cond, not, nat_lt, nat_le, List, [], ◌∷◌, length, filter_map, Option, Some, None, Ok, Err, IsTrue, IfSome, All, Contains, codes, refl, ap, sym, ◌∙◌, subst, arith}
use Rattle.std.specs.Prelude.{is_some, is_none}
use Rattle.std.specs.Str.{bytes_eq}
use Rattle.std.specs.Str.Parse.{digits_value}
use Rattle.std.specs.List.{list_all, list_any}
use Rattle.std.specs.Option.{option_map, option_map_or, option_and_then, option_zip}
use Rattle.std.proofs.lemmas.Bool.{and_parts, or_parts, not-false, ltb-false, leb-false, eqb-false}
use Rattle.std.proofs.lemmas.Nat.{pow_below}
use Rattle.std.proofs.lemmas.Option.{same_Some}
use Rattle.std.proofs.lemmas.List.Elements.{All-nil}
use Rattle.tfpg_base.specs.Set.{Rises}
use Rattle.tfpg_base.specs.SetBits.{bits_of}
use Rattle.tfpg_base.specs.Words.{is_name, is_number, number_of}
use Rattle.tfpg_base.specs.Choice.{first_of}
use Rattle.tfpg_base.specs.declared.limits.TheConstants.{MAX_TIME}
use Rattle.tfpg_base.proofs.lemmas.Numbers.{number_of-within}
use Rattle.tfpg_base.proofs.lemmas.Sets.{bits_of-below, bits_of-some, Rises-with_member}
use Rattle.tfpg_base.proofs.lemmas.lists.LookedUp.{found}
use Rattle.tfpg_base.proofs.lemmas.lists.SameBytes.{bytes_eq-false}
use Rattle.tfpg_graph.specs.declared.cause.GraphCause.{GraphCause}
use Rattle.tfpg_graph.specs.declared.kind.Kind.{Kind}
use Rattle.tfpg_graph.specs.declared.kind.Lag.{Lag}
use Rattle.tfpg_graph.specs.declared.kind.Kind.TheVariants.{Failure, Or, And}
use Rattle.tfpg_graph.specs.declared.edge.Edge.{Edge}
use Rattle.tfpg_graph.specs.declared.version.Version.{Version}
use Rattle.tfpg_graph.specs.declared.limits.TheConstants.{MAX_NODES, MAX_FAILURES, MAX_EDGES, MAX_INCOMING, MAX_MODES, MAX_RARITY}
use Rattle.tfpg_graph.specs.declared.reading.reader.ReadingStage.{ReadingStage}
use Rattle.tfpg_graph.specs.declared.reading.reader.ReadingStage.TheVariants.{Header, Declarations, Ended}
use Rattle.tfpg_graph.specs.declared.reading.reader.Reader.{Reader}
use Rattle.tfpg_graph.specs.Graph.{Tfpg, is_kind_at, is_failure, failures, incoming, node_named, mode_named, edge_from_to}
use Rattle.tfpg_graph.specs.Text.{version_said, all_modes}
use Rattle.tfpg_graph.specs.Valid.{IsValidLag, HasValidNumber, IsValidEdge, IsValidSoFar}
use Rattle.tfpg_graph.specs.Statements.{LagWords, NodeWords, FailureWords, OrWords, AndWords, lag_words_of, Statement, DeclaresMode, DeclaresNode, DeclaresEdge, Ends, statement_of, is_skipped}
use Rattle.tfpg_graph.specs.Declares.{lag_of_words, kind_of_words, edge_declared, modes_listed, modes_of_word}
use Rattle.tfpg_graph.specs.inside.reading.WordValues.{delays_of_words, ends_named}
use Rattle.tfpg_graph.specs.Causes.{has_bad_number, has_large_number, has_min_over_max, is_over, lag_numbers, node_numbers, has_twice, are_failure_words, causes}
use Rattle.tfpg_graph.specs.inside.declaring.Indexes.{nothing_declared, with_node, with_edge}
use Rattle.tfpg_graph.specs.inside.declaring.Declaring.{AreDelays}
use Rattle.tfpg_graph.specs.inside.reading.LineCauses.{with_option}
use Rattle.tfpg_graph.specs.inside.reading.Turns.{is_misplaced, reader_with, turn_said, turn_header, turn_of, turn}
use Rattle.tfpg_graph.proofs.lemmas.declaring.MoreDeclared.{IsValidSoFar-with_mode, IsValidSoFar-with_node, IsValidSoFar-with_edge}
use Rattle.tfpg_graph.proofs.lemmas.declaring.Named.{named_found, node_named-same}
use Rattle.tfpg_graph.proofs.lemmas.reading.causes.NamedModes.{named_more, worth_more, some_named, members_within}
use Rattle.tfpg_graph.proofs.lemmas.reading.causes.NoCause.{HasNoCause}
use Rattle.tfpg_graph.proofs.lemmas.reading.causes.WithoutCause.{HasNoCause-from_none}
use Rattle.tfpg_graph.proofs.lemmas.reading.graphs.RepresentedLines.{is_taken}

-- ---- small tests

-- a list with no item
no_item : {X : Type 0} (xs : List X) → nat_lt 0 (length xs) ≡ false → xs ≡ []
no_item [] none = refl
no_item (x ∷ xs) none = absurd (omega (arith, ltb-false 0 (length (x ∷ xs)) none))

-- what is not there
not_there : {X : Type 0} (found : Option X) → is_some found ≡ false → found ≡ None
not_there None none = refl
not_there (Some x) none = absurd cc

-- ---- a node's kind

-- a lag that is read, in order and within its limit
record ReadsLag (words : Option LagWords) : Type 0 where
  lag : Option Lag
  is : lag_of_words words ≡ Some lag
  small : IfSome lag IsValidLag

lag_read : (words : Option LagWords) → list_all (λ number. is_number number.0) (lag_numbers words) ≡ true
    → list_any (λ number. nat_lt number.1 (digits_value 10 number.0)) (lag_numbers words) ≡ false
    → option_map_or (λ lag. is_over lag.least lag.most) words false ≡ false → ReadsLag words
lag_read None numbers small ordered = record { lag = None; is = refl; small = tt }
lag_read (Some words) numbers small ordered =
    let right = and_parts (is_number words.least) _ numbers in
    let within = or_parts (nat_lt MAX_TIME (digits_value 10 words.least)) _ small in
    let within_most = (or_parts (nat_lt MAX_TIME (digits_value 10 words.most)) false within.1).0 in
    let least = number_of-within words.least MAX_TIME (omega arith) right.0 within.0 in
    let most = number_of-within words.most MAX_TIME (omega arith) (and_parts (is_number words.most) true right.1).0 within_most in
    record {
      lag = Some (record { least = digits_value 10 words.least; most = digits_value 10 words.most });
      is = λ i. option_map (λ (range : ℕ × ℕ). Some (record { least = range.0; most = range.1 }))
          (option_zip (least.0 i) (most.0 i));
      small = record {
        in_order = ltb-false (digits_value 10 words.most) (digits_value 10 words.least) ordered;
        most = ltb-false MAX_TIME (digits_value 10 words.most) within_most;
      };
    }

-- a kind that is read, with numbers in order and within their limits
record ReadsKind (words : NodeWords) : Type 0 where
  kind : Kind
  is : kind_of_words words ≡ Some kind
  small : HasValidNumber kind
  failure : is_failure kind ≡ are_failure_words words

kind_read : (words : NodeWords) → list_all (λ number. is_number number.0) (node_numbers words) ≡ true
    → list_any (λ number. nat_lt number.1 (digits_value 10 number.0)) (node_numbers words) ≡ false
    → option_map_or (λ lag. is_over lag.least lag.most) (lag_words_of words) false ≡ false → ReadsKind words
kind_read (FailureWords rarity) numbers small ordered =
    let within = (or_parts (nat_lt MAX_RARITY (digits_value 10 rarity)) false small).0 in
    let value = number_of-within rarity MAX_RARITY (omega arith) (and_parts (is_number rarity) true numbers).0 within in
    record {
      kind = Failure (digits_value 10 rarity);
      is = ap (option_map Failure) value.0;
      small = ltb-false MAX_RARITY (digits_value 10 rarity) within;
      failure = refl;
    }
kind_read (OrWords lag) numbers small ordered =
    let read = lag_read lag numbers small ordered in
    record { kind = Or read.lag; is = ap (option_map Or) read.is; small = read.small; failure = refl }
kind_read (AndWords lag) numbers small ordered =
    let read = lag_read lag numbers small ordered in
    record { kind = And read.lag; is = ap (option_map And) read.is; small = read.small; failure = refl }

-- ---- an edge's delays

-- delays that are read, in order and within the limit
record ReadsDelays (tmin tmax : List ℕ) : Type 0 where
  least : ℕ
  greatest : Option ℕ
  is : delays_of_words tmin tmax ≡ Some (least, greatest)
  are : AreDelays least greatest

module _ (source target tmin tmax modes : List ℕ) where
  delays_read : has_bad_number (DeclaresEdge source target tmin tmax modes) ≡ false
      → has_large_number (DeclaresEdge source target tmin tmax modes) ≡ false
      → has_min_over_max (DeclaresEdge source target tmin tmax modes) ≡ false → ReadsDelays tmin tmax
  delays_read numbers small ordered =
      let right = and_parts (is_number tmin) _ (not-false _ numbers) in
      let within = or_parts _ _ small in
      let first = number_of-within tmin MAX_TIME (omega arith) right.0 within.0 in
      by (bytes_eq tmax (codes "inf")) refl first.0 (ltb-false MAX_TIME (digits_value 10 tmin) within.0) right.1 within.1 ordered
    where
      by : (endless : Bool) → bytes_eq tmax (codes "inf") ≡ endless → number_of tmin ≡ Some (digits_value 10 tmin)
          → digits_value 10 tmin ≤ MAX_TIME
          → list_all (λ (number : List ℕ × ℕ). is_number number.0) (cond endless [] ((tmax, MAX_TIME) ∷ [])) ≡ true
          → list_any (λ (number : List ℕ × ℕ). nat_lt number.1 (digits_value 10 number.0)) (cond endless [] ((tmax, MAX_TIME) ∷ [])) ≡ false
          → (not endless && nat_lt (digits_value 10 tmax) (digits_value 10 tmin)) ≡ false → ReadsDelays tmin tmax
      by true endless value least numbers_so small_so ordered_so = record {
        least = digits_value 10 tmin;
        greatest = None;
        is = λ i. option_zip (value i) (cond (endless i) (Some None) (option_map Some (number_of tmax)));
        are = record { least = least; greatest = tt };
      }
      by false endless value least numbers_so small_so ordered_so =
          let within = (or_parts (nat_lt MAX_TIME (digits_value 10 tmax)) false small_so).0 in
          let second = number_of-within tmax MAX_TIME (omega arith) (and_parts (is_number tmax) true numbers_so).0 within in
          record {
            least = digits_value 10 tmin;
            greatest = Some (digits_value 10 tmax);
            is = λ i. option_zip (value i) (cond (endless i) (Some None) (option_map Some (second.0 i)));
            are = record {
              least = least;
              greatest = (
                ltb-false (digits_value 10 tmax) (digits_value 10 tmin) ordered_so,
                ltb-false MAX_TIME (digits_value 10 tmax) within,
              );
            };
          }

-- ---- an edge's modes

-- modes that are named once each, as a set that is worth as much
record NamesSet (graph : Tfpg) (names : List (List ℕ)) : Type 0 where
  members : List ℕ
  rising : Rises members
  named : All (Contains (filter_map (mode_named graph) names)) members
  worth : bits_of members ≡ bits_of (filter_map (mode_named graph) names)

Rises-with_option : (mode : Option ℕ) (members : List ℕ) → Rises members → Rises (with_option mode members)
Rises-with_option None members rising = rising
Rises-with_option (Some mode) members rising = Rises-with_member mode members rising

names_set : (graph : Tfpg) (names : List (List ℕ)) → has_twice names ≡ false → NamesSet graph names
names_set graph [] once = record { members = []; rising = λ i j d before within. absurd (omega arith); named = All-nil (Contains []); worth = refl }
names_set graph (name ∷ others) once =
    let rest = names_set graph others (or_parts (list_any (bytes_eq name) others) (has_twice others) once).1 in
    record {
      members = with_option (mode_named graph name) rest.members;
      rising = Rises-with_option (mode_named graph name) rest.members rest.rising;
      named = named_more graph name others rest.members once rest.named rest.worth;
      worth = worth_more graph name others rest.members once rest.named rest.worth;
    }

module _ (graph : Tfpg) (word : List ℕ) (once : has_twice (modes_listed word) ≡ false)
    (known : list_any (λ name. is_none (mode_named graph name)) (modes_listed word) ≡ false)
    (some_mode : bytes_eq word (codes "-") ≡ false) (some : 0 < length graph.modes) where
  -- the modes that a word says are some of the graph's
  pub modes_some : (0 < modes_of_word graph word) × (modes_of_word graph word < 2 ^ length graph.modes)
  modes_some = by (bytes_eq word (codes "*")) refl
    where
      named : bytes_eq word (codes "*") ≡ false
          → (0 < bits_of (filter_map (mode_named graph) (modes_listed word))) × (bits_of (filter_map (mode_named graph) (modes_listed word)) < 2 ^ length graph.modes)
      named apart =
          let set = names_set graph (modes_listed word) once in (
            bits_of-some (filter_map (mode_named graph) (modes_listed word)) (some_named graph word apart some_mode known),
            omega (
              arith,
              set.worth,
              bits_of-below set.members (length graph.modes) set.rising (members_within graph (modes_listed word) set.members set.named),
            ),
          )

      by : (all : Bool) → bytes_eq word (codes "*") ≡ all
          → (0 < cond all (all_modes graph) (bits_of (filter_map (mode_named graph) (modes_listed word))))
          × (cond all (all_modes graph) (bits_of (filter_map (mode_named graph) (modes_listed word))) < 2 ^ length graph.modes)
      by true same =
          let more : 2 ^ 0 < 2 ^ length graph.modes = pow_below 0 (length graph.modes) (omega arith) in
          (omega (arith, more), omega (arith, more))
      by false apart = named apart

-- ---- one line

module _ (version : Version) (graph : Tfpg) (is : IsValidSoFar graph) where
  -- a graph with a statement that has no cause breaks no rule
  valid_said : (said : Statement) (next : Reader) → HasNoCause (is_misplaced graph said) graph said → reader_with version graph said ≡ Some next
      → IsValidSoFar next.declared
  valid_said (DeclaresMode name) next without with_it =
      subst (λ (reader : Reader). IsValidSoFar reader.declared) (same_Some _ next with_it)
      (IsValidSoFar-with_mode graph name (no_item graph.edges (or_parts _ _ without.in_order).1)
      (and_parts (is_name name) true (not-false _ without.named)).0 (not_there (mode_named graph name) without.new)
      (leb-false MAX_MODES (length graph.modes) without.mode_room) is)
  valid_said (DeclaresNode name words) next without with_it =
      let read = kind_read words (not-false _ without.numbers) without.small without.min_below_max in
      let made : reader_with version graph (DeclaresNode name words) ≡ Some (record { part = Declarations; version = version; declared = with_node graph name read.kind }) =
      ap (option_map (λ kind. record { part = Declarations; version = version; declared = with_node graph name kind })) read.is in
      subst (λ (reader : Reader). IsValidSoFar reader.declared) (same_Some _ next (sym made ∙ with_it))
      (IsValidSoFar-with_node graph name read.kind
      (and_parts (is_name name) true (not-false _ without.named)).0 (not_there (node_named graph name) without.new) read.small
      (leb-false MAX_NODES (length graph.nodes) without.node_room)
      (λ failure. leb-false MAX_FAILURES (length (failures graph))
      (ap (λ b. b && nat_le MAX_FAILURES (length (failures graph))) (sym (sym read.failure ∙ failure)) ∙ without.failure_room)) is)
  valid_said (DeclaresEdge source target tmin tmax modes) next without with_it =
      let unknown = or_parts _ _ without.known in
      let unknown_target = or_parts _ _ unknown.1 in
      let from = found (node_named graph) source unknown.0 in
      let to = found (node_named graph) target unknown_target.0 in
      let delays = delays_read source target tmin tmax modes without.numbers without.small without.min_below_max in
      let some : 0 < length graph.modes = omega (arith, eqb-false (length graph.modes) 0 without.in_order) in
      let own = modes_some graph modes without.new unknown_target.1 without.some_mode some in
      let edge : Edge = record { source = from.0; target = to.0; tmin = delays.least; tmax = delays.greatest; modes = modes_of_word graph modes } in
      let ends : ends_named graph source target ≡ Some (from.0, to.0) =
      (λ i. option_zip (from.1 i) (to.1 i)) in
      let declared : edge_declared graph (DeclaresEdge source target tmin tmax modes) ≡ Some edge =
      (λ i. option_and_then (λ (e : ℕ × ℕ). option_map (λ (d : ℕ × Option ℕ). record {
        source = e.0;
        target = e.1;
        tmin = d.0;
        tmax = d.1;
        modes = modes_of_word graph modes;
      }) (delays.is i)) (ends i)) in
      let made : reader_with version graph (DeclaresEdge source target tmin tmax modes) ≡ Some (record { part = Declarations; version = version; declared = with_edge graph edge }) =
      ap (option_map (λ e. record { part = Declarations; version = version; declared = with_edge graph e })) declared in
      subst (λ (reader : Reader). IsValidSoFar reader.declared) (same_Some _ next (sym made ∙ with_it))
      (IsValidSoFar-with_edge graph edge (record {
        source = (named_found graph source from.0 from.1).0;
        target = (named_found graph target to.0 to.1).0;
        into_discrepancy = ap not (sym (ap (λ o. option_map_or (is_kind_at is_failure graph) o false) to.1) ∙ without.into_discrepancy);
        no_self_edge = λ same. bytes_eq-false source target without.onward (node_named-same graph source target from.0 to.0 from.1 to.1 same);
        least = delays.are.least;
        greatest = delays.are.greatest;
        some_mode = own.0;
        own_modes = own.1;
      })
      (not_there (edge_from_to graph from.0 to.0)
      (sym (ap (λ o. is_some (option_and_then (λ (e : ℕ × ℕ). edge_from_to graph e.0 e.1) o)) ends) ∙ without.first))
      (leb-false MAX_EDGES (length graph.edges) without.edge_room)
      (leb-false MAX_INCOMING (length (incoming graph to.0))
      (sym (ap (λ o. option_map_or (λ node. nat_le MAX_INCOMING (length (incoming graph node))) o false) to.1) ∙ without.incoming_room)) is)
  valid_said Ends next without with_it = subst (λ (reader : Reader). IsValidSoFar reader.declared) (same_Some _ next with_it) is

  -- so does one with what a line says
  valid_told : (said : Option Statement) (next : Reader) → turn_said version graph said ≡ Ok next → IsValidSoFar next.declared
  valid_told None next turned = absurd cc
  valid_told (Some said) next turned =
      let taken = is_taken (first_of (causes (is_misplaced graph said) graph said)) (reader_with version graph said) next turned in
      valid_said said next (HasNoCause-from_none (is_misplaced graph said) graph said taken.0) taken.1

  -- a line that leaves what is declared, or else fails
  valid_kept : (part : ReadingStage) (passes : Bool) (cause : GraphCause) (next : Reader)
      → cond passes (Ok (record { part = part; version = version; declared = graph })) (Err cause) ≡ Ok next → IsValidSoFar next.declared
  valid_kept part true cause next turned =
      let same : record { part = part; version = version; declared = graph } ≡ next = cc in
      subst (λ (reader : Reader). IsValidSoFar reader.declared) same is
  valid_kept part false cause next turned = absurd cc

  -- a first line
  valid_header : (said : Option Version) (next : Reader) → turn_header graph said ≡ Ok next → IsValidSoFar next.declared
  valid_header None next turned = absurd cc
  valid_header (Some header) next turned =
      let same : record { part = Declarations; version = header; declared = graph } ≡ next = cc in
      subst (λ (reader : Reader). IsValidSoFar reader.declared) same is

  -- a line of each part
  valid_of : (part : ReadingStage) (line : List ℕ) (next : Reader) → turn_of part version graph line ≡ Ok next → IsValidSoFar next.declared
  valid_of Header line next turned = valid_header (version_said line) next turned
  valid_of Declarations line next turned = by (is_skipped line) turned
    where
      by : (passed : Bool) → cond passed (Ok (record { part = Declarations; version = version; declared = graph })) (turn_said version graph (statement_of version line)) ≡ Ok next
          → IsValidSoFar next.declared
      by true turned_so =
          let same : record { part = Declarations; version = version; declared = graph } ≡ next = cc in
          subst (λ (reader : Reader). IsValidSoFar reader.declared) same is
      by false turned_so = valid_told (statement_of version line) next turned_so
  valid_of Ended line next turned = valid_kept Ended (is_skipped line) _ next turned

-- A line that is read breaks no rule that held before it.
pub IsValidSoFar-turn : (progress next : Reader) (line : List ℕ) → turn progress line ≡ Ok next → IsValidSoFar progress.declared
    → IsValidSoFar next.declared
IsValidSoFar-turn progress next line turned is = valid_of progress.version progress.declared is progress.part line next turned

-- Nothing declared breaks no rule.
pub IsValidSoFar-nothing : IsValidSoFar nothing_declared
IsValidSoFar-nothing = record {
  node_names = All-nil (λ node. IsTrue (is_name node.name));
  nodes_differ = λ i j d before within. absurd (omega arith);
  node_numbers = All-nil (λ node. HasValidNumber node.kind);
  mode_names = All-nil (λ mode. IsTrue (is_name mode));
  modes_differ = λ i j d before within. absurd (omega arith);
  edges = All-nil (IsValidEdge nothing_declared);
  edges_differ = λ i j d before within. absurd (omega arith);
  few_nodes = omega arith;
  few_failures = omega arith;
  few_edges = omega arith;
  few_modes = omega arith;
  few_incoming = λ node. omega arith;
}
