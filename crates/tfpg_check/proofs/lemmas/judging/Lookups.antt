-- What is looked up in a round whose steps are taken is right.
use Rattle.std.proofs.Common.{◌≡◌, ◌↔◌, ◌<◌, ℕ, List, Bool, false, Some, None, length, map, get_or, slice_get, eqb, inl, inr, refl, sym, ap, subst, arith, ◌∙◌}
use Rattle.std.specs.List.{Contains, list_any}
use Rattle.std.specs.Prelude.{IsTrue, count_by, option_map}
use Rattle.std.proofs.lemmas.Bool.{eqb-true, eq-eqb, false≢true}
use Rattle.std.proofs.lemmas.List.{get_or_past, length-map}
use Rattle.std.proofs.lemmas.Option.{get_or_from_slice_get, same_Some, slice_get_cases, slice_get-map, slice_get_within}
use Rattle.tfpg_base.specs.Hypothesis.{Hypothesis, IsProperPart}
use Rattle.tfpg_base.specs.declared.terms.Terms.{Terms}
use Rattle.tfpg_base.proofs.lemmas.lists.Elements.{list_any-found, list_any-passes}
use Rattle.tfpg_graph.specs.Graph.{Tfpg}
use Rattle.tfpg_log.specs.Log.{Logbook}
use Rattle.tfpg_clause.specs.Trees.{Judged}
use Rattle.tfpg_kernel.specs.CheckerState.{CheckerState}
use Rattle.tfpg_hyp.specs.Table.{IsTable}
use Rattle.tfpg_hyp.specs.Hypotheses.{Hypotheses, IsTableOf}
use Rattle.tfpg_report.specs.declared.read_round.RankedLine.{RankedLine}
use Rattle.tfpg_report.specs.declared.read_round.NamedSet.{NamedSet}
use Rattle.tfpg_check.specs.declared.round.lookup.RoundLookup.{RoundLookup}
use Rattle.tfpg_check.specs.Judging.{RoundBasis, IsNumberOf, AreClosed, IsRankedLine, HasRankedPartIn}
use Rattle.tfpg_check.specs.HypothesesState.{HypothesesState, KeepsBasis}
use Rattle.tfpg_check.specs.inside.AfterRound.{after_round}
use Rattle.tfpg_check.specs.inside.Lookups.{IsLookupOf, IsFlagged, flag_at, part_index}
use Rattle.tfpg_check.specs.inside.LargestParts.{ArePartsBefore, HasFlaggedPart, SayFlaggedParts}
use Rattle.tfpg_check.specs.inside.Kept.{AreFlagsBefore}
use Rattle.tfpg_check.proofs.lemmas.judging.ClosedTrees.{closed_exactly}

-- ---- closed trees

module _ (basis : RoundBasis) (steps : ℕ → List Judged) (state : HypothesesState) (keeps : KeepsBasis (record basis { steps = steps }) basis.log state) (flags : List Bool)
    (flags_are : flags ≡ map (λ (checker : CheckerState). checker.closed) state.checkers) where
  flag_is : (number : ℕ) (checker : CheckerState) → slice_get state.checkers number ≡ Some checker → flag_at flags number ≡ checker.closed
  flag_is number checker at =
      ap (λ (fs : List Bool). flag_at fs number) flags_are
      ∙ get_or_from_slice_get (map (λ (c : CheckerState). c.closed) state.checkers) number checker.closed false
      (slice_get-map (λ (c : CheckerState). c.closed) state.checkers number ∙ ap (option_map (λ (c : CheckerState). c.closed)) at)

  closed_of : (number : ℕ) (hypothesis : Hypothesis) (at : IsNumberOf basis number hypothesis) → IsTrue (flag_at flags number) ↔ AreClosed basis number (steps number)
  closed_of number hypothesis at =
      let has = keeps.each number hypothesis at in
      let row = ap (λ (hs : List Hypothesis). slice_get hs number) keeps.hypotheses ∙ at in
      let exact =
      closed_exactly basis number hypothesis at has.checker (keeps.table.reached.exact number hypothesis has.checker.reach row has.reach) (steps number) has.represents in
      let same = flag_is number has.checker has.at in (
        λ up. exact.0 (sym same ∙ up),
        λ closed. same ∙ exact.1 closed,
      )

  -- The flag of a number is up exactly where its tree is closed.
  pub closed_flags_are : (number : ℕ) → IsTrue (flag_at flags number) ↔ AreClosed basis number (steps number)
  closed_flags_are number = (
    λ up. elim (slice_get_cases basis.hypotheses number).1 [
      | inl there ↦ (closed_of number there.0 there.2).0 up
      | inr past ↦
          let short : length flags ≡ length basis.hypotheses = ap length flags_are ∙ length-map state.checkers (λ (c : CheckerState). c.closed) ∙ keeps.one_each in
          absurd (false≢true (sym (get_or_past flags number false (omega (arith, short, past.0))) ∙ up))
    ],
    λ closed. (closed_of number closed.hypothesis closed.listed).1 closed,
  )

-- ---- lines by their numbers

module _ {X : Type 0} (number_of : X → ℕ) (lines : List X) (number : ℕ) where
  named_exactly : IsTrue (list_any (λ (x : X). eqb (number_of x) number) lines) ↔ ((x : X) × Contains lines x × (number_of x ≡ number))
  named_exactly = (
    λ up. (let found = list_any-found (λ (x : X). eqb (number_of x) number) lines up in (found.0, found.1, eqb-true (number_of found.0) number found.2)),
    λ found. list_any-passes (λ (x : X). eqb (number_of x) number) lines found.0 found.1 (eq-eqb (number_of found.0) number found.2),
  )

  -- a flag that was raised for the lines is up exactly where a line has its number
  flag_exactly : (flags : List Bool) → flag_at flags number ≡ list_any (λ (x : X). eqb (number_of x) number) lines
      → IsTrue (flag_at flags number) ↔ ((x : X) × Contains lines x × (number_of x ≡ number))
  flag_exactly flags is = (λ up. named_exactly.0 (sym is ∙ up), λ found. is ∙ named_exactly.1 found)

-- ---- ranked parts

-- that a proper part has the lesser number in each table
abbrev pub OrdersParts : Type 0
OrdersParts = (graph : Tfpg) (terms : Terms) (hypotheses : List Hypothesis) → IsTable graph terms hypotheses → (number other : ℕ) (part whole : Hypothesis)
    → slice_get hypotheses number ≡ Some part → slice_get hypotheses other ≡ Some whole → IsProperPart part whole → number < other

-- A proper part stands before its whole in a table.
pub parts_before : OrdersParts → (graph : Tfpg) (terms : Terms) (hypotheses : List Hypothesis) → IsTable graph terms hypotheses → ArePartsBefore hypotheses
parts_before orders graph terms hypotheses table part whole is = orders graph terms hypotheses table part whole is.less is.more is.less_at is.more_at is.proper

-- What was found by the flags of ranked lines is what is looked up.
pub said_of_ranked : OrdersParts → (basis : RoundBasis) (earlier : Logbook) (state : HypothesesState) → KeepsBasis basis earlier state → (table : Hypotheses) → state.table ≡ table → (flags said : List Bool)
    → (ArePartsBefore table.hypotheses → SayFlaggedParts table.hypotheses flags (length table.hypotheses) said) → (ranked part_ranked : List Bool) → flags ≡ ranked → part_ranked ≡ said
    → SayFlaggedParts table.hypotheses ranked (length table.hypotheses) part_ranked
said_of_ranked orders basis earlier state keeps table same flags said found ranked part_ranked same_ranked same_said =
    subst (λ (fs : List Bool). SayFlaggedParts table.hypotheses fs (length table.hypotheses) part_ranked) same_ranked
    (subst (SayFlaggedParts table.hypotheses flags (length table.hypotheses)) (sym same_said)
    (found (λ part whole is. orders basis.graph basis.terms table.hypotheses
    (subst (λ (t : Hypotheses). IsTable basis.graph basis.terms t.hypotheses) same keeps.table.hypotheses) part whole is.less is.more is.less_at is.more_at is.proper)))

module _ (basis : RoundBasis) (lookup : RoundLookup) (rows : basis.hypotheses ≡ lookup.table.now.hypotheses)
    (ranked : (number : ℕ) → number < length basis.hypotheses → IsTrue (flag_at lookup.ranked.now number) ↔ IsRankedLine lookup.read.now number)
    (said : SayFlaggedParts lookup.table.now.hypotheses lookup.ranked.now (length lookup.table.now.hypotheses) lookup.part_ranked.now) (number : ℕ) (hypothesis : Hypothesis)
    (at : IsNumberOf basis number hypothesis) where
  here : (other : ℕ) (h : Hypothesis) → slice_get lookup.table.now.hypotheses other ≡ Some h → IsNumberOf basis other h
  here other h own = ap (λ (hs : List Hypothesis). slice_get hs other) rows ∙ own

  there : (other : ℕ) (h : Hypothesis) → IsNumberOf basis other h → slice_get lookup.table.now.hypotheses other ≡ Some h
  there other h own = ap (λ (hs : List Hypothesis). slice_get hs other) (sym rows) ∙ own

  exact : IsTrue (flag_at lookup.part_ranked.now number) ↔ HasFlaggedPart lookup.table.now.hypotheses lookup.ranked.now number
  exact = said number (slice_get_within lookup.table.now.hypotheses number hypothesis (there number hypothesis at))

  has_from : HasFlaggedPart lookup.table.now.hypotheses lookup.ranked.now number → HasRankedPartIn basis lookup.read.now hypothesis
  has_from has =
      let listed = here has.0 has.1.less has.1.less_at in
      let line = (ranked has.0 (slice_get_within basis.hypotheses has.0 has.1.less listed)).0 has.2 in
      record {
        other = line.0;
        ranked = line.1;
        part = has.1.less;
        listed = subst (λ (n : ℕ). IsNumberOf basis n has.1.less) (sym line.2) listed;
        proper = subst (IsProperPart has.1.less) (same_Some has.1.more hypothesis (sym has.1.more_at ∙ there number hypothesis at)) has.1.proper;
      }

  has_to : HasRankedPartIn basis lookup.read.now hypothesis → HasFlaggedPart lookup.table.now.hypotheses lookup.ranked.now number
  has_to has = (
    has.other.number,
    record {
      less = has.part;
      less_at = there has.other.number has.part has.listed;
      more = hypothesis;
      more_at = there number hypothesis at;
      proper = has.proper;
    },
    (ranked has.other.number (slice_get_within basis.hypotheses has.other.number has.part has.listed)).1 (has.other, has.ranked, refl),
  )

  -- The flag of a hypothesis is up exactly where a proper part of it is ranked.
  part_ranked_exactly : IsTrue (flag_at lookup.part_ranked.now number) ↔ HasRankedPartIn basis lookup.read.now hypothesis
  part_ranked_exactly = (λ up. has_from (exact.0 up), λ has. exact.1 (has_to has))

-- ---- all that is looked up

-- what the code found of each number of the table
pub record AreFlags (lookup : RoundLookup) (checkers : List CheckerState) (count : ℕ) : Type 0 where
  pub closed : lookup.closed.now ≡ map (λ (checker : CheckerState). checker.closed) checkers
  pub ranked : (number : ℕ) → number < count → flag_at lookup.ranked.now number ≡ list_any (λ (r : RankedLine). eqb r.number number) lookup.read.now.ranked
  pub part_ranked : SayFlaggedParts lookup.table.now.hypotheses lookup.ranked.now (length lookup.table.now.hypotheses) lookup.part_ranked.now
  pub unsettled : (number : ℕ) → number < count → flag_at lookup.unsettled.now number ≡ list_any (λ (named : NamedSet). eqb named.number number) lookup.read.now.unsettled
  pub parts : (number : ℕ) → number < count → get_or lookup.parts.now number None ≡ part_index lookup.read.now.parts number
  pub counted : lookup.closed_count ≡ count_by (λ (closed : Bool). closed) lookup.closed.now
  pub all_flagged : IsTrue lookup.are_all_flagged → (number : ℕ) → number < count → IsFlagged lookup.closed.now lookup.ranked.now lookup.part_ranked.now number

pub lookup_is : (basis : RoundBasis) (lookup : RoundLookup) (state : HypothesesState) (count : ℕ) → basis.graph ≡ lookup.graph.now → KeepsBasis (after_round basis lookup.read.now) basis.log state
    → state.table ≡ lookup.table.now → state.terms.budget ≡ lookup.budget → count ≡ length lookup.table.now.hypotheses → AreFlagsBefore basis lookup.was_closed.now
    → AreFlags lookup state.checkers count → IsLookupOf basis lookup
lookup_is basis lookup state count same_graph keeps same_table same_budget counted before flags =
    let rows : basis.hypotheses ≡ lookup.table.now.hypotheses = sym keeps.hypotheses ∙ ap (λ (t : Hypotheses). t.hypotheses) same_table in
    let few : count ≡ length basis.hypotheses = counted ∙ ap length (sym rows) in
    let ranked : (number : ℕ) → number < length basis.hypotheses → IsTrue (flag_at lookup.ranked.now number) ↔ IsRankedLine lookup.read.now number =
    λ number within. flag_exactly (λ (r : RankedLine). r.number) lookup.read.now.ranked number lookup.ranked.now (flags.ranked number (omega (arith, within, few))) in
    record {
      graph = same_graph;
      budget = ap (λ (t : Terms). t.budget) (sym keeps.terms) ∙ same_budget;
      table = subst (IsTableOf basis.graph basis.terms) same_table keeps.table;
      hypotheses = rows;
      was_closed = before;
      closed = closed_flags_are basis (after_round basis lookup.read.now).steps state keeps lookup.closed.now flags.closed;
      ranked = ranked;
      part_ranked = part_ranked_exactly basis lookup rows ranked flags.part_ranked;
      unsettled = λ number within. flag_exactly (λ (named : NamedSet). named.number) lookup.read.now.unsettled number lookup.unsettled.now (flags.unsettled number (omega (arith, within, few)));
      parts = λ number within. flags.parts number (omega (arith, within, few));
      counted = flags.counted;
      all_flagged = λ up number within. flags.all_flagged up number (omega (arith, within, few));
    }
