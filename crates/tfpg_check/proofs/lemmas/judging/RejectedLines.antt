-- Whether the rejected lines are those of the hypotheses whose trees were closed in a round.
use Rattle.std.proofs.Common.{◌≡◌, ◌↔◌, ◌≤◌, ◌<◌, ℕ, zero, suc, ◌∷◌, [], ◌++◌, List, Bool, true, false, Option, Some, None, length, take, map, slice_get, eqb, refl, sym, ap, subst, arith, ◌∙◌, append-nil}
use Rattle.std.specs.Prelude.{IsTrue, ◌&&◌, not, find, option_map, unwrap_or}
use Rattle.std.proofs.Math.Seq.{take-append_seam}
use Rattle.std.proofs.lemmas.Bool.{eqb-true, false≢true}
use Rattle.std.proofs.lemmas.List.{length-map, take_all}
use Rattle.std.proofs.lemmas.Option.{none-some, same_Some, slice_get_within, slice_get_past, slice_get-map}
use Rattle.tfpg_base.specs.Hypothesis.{Hypothesis}
use Rattle.tfpg_clause.specs.Paths.{judged_by, with_steps}
use Rattle.tfpg_base.proofs.lemmas.lists.Elements.{slice_get-there}
use Rattle.tfpg_base.proofs.lemmas.lists.Written.{slice_get-after}
use Rattle.tfpg_report.specs.declared.read_round.NamedSet.{NamedSet}
use Rattle.tfpg_report.specs.declared.read_round.Part.{Part}
use Rattle.tfpg_report.specs.declared.read_round.ReadRound.{ReadRound}
use Rattle.tfpg_check.specs.declared.cause.CheckCause.TheVariants as cause
use Rattle.tfpg_check.specs.declared.round.lookup.RoundLookup.{RoundLookup}
use Rattle.tfpg_check.specs.Judging.{RoundBasis, NumberedHypothesis, AreClosed, IsClosedByRound, WasClosed, AreNewlyClosed, RejectedFails, named_hypothesis, steps_read}
use Rattle.tfpg_check.specs.inside.Lookups.{IsLookupOf, flag_at, is_newly_closed}
use Rattle.tfpg_check.specs.inside.Named.{Names, line_at}
use Rattle.tfpg_check.proofs.lemmas.judging.LookupSays.{listed_in, listed_from}
use Rattle.tfpg_check.proofs.lemmas.judging.NewlyClosed.{passing_at, passing_below, below_only, below_each, below_rises, next_passing}

-- without parts no hypothesis has steps in the round
no_steps_read : (basis : RoundBasis) (read : ReadRound) → read.parts ≡ [] → (number : ℕ) → with_steps (basis.steps number) basis.log (steps_read read number) ≡ basis.steps number
no_steps_read basis read none number =
    ap (λ (parts : List Part). basis.steps number ++ map (judged_by basis.log) (unwrap_or (option_map (λ (part : Part). part.steps) (find (λ (part : Part). eqb part.number number) parts)) [])) none
    ∙ append-nil (basis.steps number)

-- whether there is an item, by a test of the length
pub none_there : (n m : ℕ) (empty : Bool) → empty ≡ eqb n 0 → empty ≡ true → n ≡ m → m ≡ 0
none_there n m empty is up same = sym same ∙ eqb-true n 0 (sym is ∙ up)

pub some_there : (n m : ℕ) (empty : Bool) → empty ≡ eqb n 0 → empty ≡ false → n ≡ m → 0 < m
some_there zero m empty is down same = absurd (false≢true (sym down ∙ is))
some_there (suc n) m empty is down same = omega (arith, same)

not_true : (test : Bool) → (test ≡ true → ⊥) → test ≡ false
not_true true never = absurd (never refl)
not_true false never = refl

-- the one test passes, and the other does not
one_alone : (one other : Bool) → (one && not other ≡ true) ↔ ((one ≡ true) × (other ≡ true → ⊥))
one_alone true true = (λ both. absurd (false≢true both), λ is. absurd (is.1 refl))
one_alone true false = (λ both. (refl, false≢true), λ is. refl)
one_alone false other = (λ both. absurd (false≢true both), λ is. absurd (false≢true is.0))

-- a line that is found to be of a hypothesis names it
names_from : (hypotheses : List Hypothesis) (number : ℕ) (hypothesis : Hypothesis) (found : Option NamedSet) → slice_get hypotheses number ≡ Some hypothesis
    → option_map named_hypothesis found ≡ Some (record { number = number; hypothesis = hypothesis }) → Names hypotheses number found
names_from hypotheses number hypothesis None at is = absurd (none-some _ is)
names_from hypotheses number hypothesis (Some named) at is =
    let same = same_Some (named_hypothesis named) (record { number = number; hypothesis = hypothesis }) is in (
      ap (λ (n : NumberedHypothesis). n.number) same,
      at ∙ ap (λ (n : NumberedHypothesis). Some n.hypothesis) (sym same),
    )

module _ (basis : RoundBasis) (lookup : RoundLookup) (is : IsLookupOf basis lookup) where
  abbrev hypotheses : List Hypothesis
  hypotheses = lookup.table.now.hypotheses

  abbrev rejected : List NamedSet
  rejected = lookup.read.now.rejected

  abbrev lines : List NumberedHypothesis
  lines = map named_hypothesis lookup.read.now.rejected

  abbrev pub closed_below : ℕ → List NumberedHypothesis
  closed_below end = passing_below (is_newly_closed lookup) lookup.table.now.hypotheses end

  abbrev closed : List NumberedHypothesis
  closed = passing_below (is_newly_closed lookup) lookup.table.now.hypotheses (length lookup.table.now.hypotheses)

  newly_exactly : (number : ℕ) → IsTrue (is_newly_closed lookup number) ↔ (IsClosedByRound basis lookup.read.now number × (WasClosed basis number → ⊥))
  newly_exactly number =
      let alone = one_alone (flag_at lookup.closed.now number) (flag_at lookup.was_closed.now number) in (
        λ newly. (let both = alone.0 newly in ((is.closed number).0 both.0, λ was. both.1 ((is.was_closed number).1 was))),
        λ both. alone.1 ((is.closed number).1 both.0, λ was. both.1 ((is.was_closed number).0 was)),
      )

  -- those found by number are the hypotheses whose trees were closed in the round
  are_newly : AreNewlyClosed basis lookup.read.now closed
  are_newly = record {
    rising = below_rises (is_newly_closed lookup) hypotheses (length hypotheses);
    exact = λ number hypothesis. (
      λ member. (let own = below_only (is_newly_closed lookup) hypotheses (length hypotheses) (record { number = number; hypothesis = hypothesis }) member in
          let newly = (newly_exactly number).0 own.1.0 in (listed_in basis lookup is number hypothesis own.1.1, newly.0, newly.1)),
      λ both. (let at = listed_from basis lookup is number hypothesis both.0 in
          below_each (is_newly_closed lookup) hypotheses (length hypotheses) number hypothesis (slice_get_within hypotheses number hypothesis at)
          ((newly_exactly number).1 (both.1, both.2)) at),
    );
  }

  -- Without steps no tree was closed in the round.
  none_newly : lookup.read.now.parts ≡ [] → (number : ℕ) → is_newly_closed lookup number ≡ false
  none_newly none number =
      not_true (is_newly_closed lookup number)
      (λ up. (let newly = (newly_exactly number).0 up in newly.1 (subst (AreClosed basis number) (no_steps_read basis lookup.read.now none number) newly.0)))

  none_below : lookup.read.now.parts ≡ [] → (end : ℕ) → closed_below end ≡ []
  none_below none zero = refl
  none_below none (suc end) = λ i. none_below none end i ++ passing_at (none_newly none end i) (slice_get hypotheses end) end

  -- The lines are those found by number.
  pub rejected_pass : (index end : ℕ) → length hypotheses ≤ end → end ≤ length hypotheses → length rejected ≤ index → take index lines ≡ closed_below end
      → AreNewlyClosed basis lookup.read.now lines
  rejected_pass index end all most no_more same =
      let ends : end ≡ length hypotheses = omega (arith, all, most) in
      subst (AreNewlyClosed basis lookup.read.now) (sym (sym (take_all index lines (omega (arith, no_more, length-map rejected named_hypothesis))) ∙ same ∙ ap closed_below ends)) are_newly

  -- A line is not that of the hypothesis whose turn it is.
  pub rejected_differ : (index number line : ℕ) → number < length hypotheses → is_newly_closed lookup number ≡ true → take index lines ≡ closed_below number → length (closed_below number) ≡ index
      → (Names hypotheses number (slice_get rejected index) → ⊥) → line ≡ line_at lookup.read.now index → RejectedFails basis lookup.read.now line cause.WrongRejected
  rejected_differ index number line within newly same as_many not_named at =
      let there = slice_get-there hypotheses number within in
      let named : NumberedHypothesis = record { number = number; hypothesis = there.0 } in
      let split = next_passing (is_newly_closed lookup) hypotheses (length hypotheses) number there.0 within newly there.1 in
      let front : take index closed ≡ closed_below number =
      ap (take index) split.1 ∙ ap (λ (n : ℕ). take n (closed_below number ++ named ∷ split.0)) (sym as_many) ∙ take-append_seam (closed_below number) (named ∷ split.0) in
      let here : slice_get closed index ≡ Some named =
      ap (λ (xs : List NumberedHypothesis). slice_get xs index) split.1 ∙ ap (slice_get (closed_below number ++ named ∷ split.0)) (sym as_many)
      ∙ slice_get-after (closed_below number) named split.0 in
      record {
        closed = closed;
        are = are_newly;
        index = index;
        differ = record {
          same_before = same ∙ sym front;
          differ = λ equal. not_named
              (names_from hypotheses number there.0 (slice_get rejected index) there.1 (sym (slice_get-map named_hypothesis rejected index) ∙ equal ∙ here));
        };
        at = sym at;
        cause_is = refl;
      }

  -- A line is left after those of all.
  pub rejected_left : (index end line : ℕ) → length hypotheses ≤ end → end ≤ length hypotheses → index < length rejected → take index lines ≡ closed_below end → length (closed_below end) ≡ index
      → line ≡ line_at lookup.read.now index → RejectedFails basis lookup.read.now line cause.WrongRejected
  rejected_left index end line all most more same as_many at =
      let ends : end ≡ length hypotheses = omega (arith, all, most) in
      let whole : closed_below end ≡ closed = ap closed_below ends in
      let count : length closed ≡ index = sym (ap length whole) ∙ as_many in
      let there = slice_get-there rejected index more in
      record {
        closed = closed;
        are = are_newly;
        index = index;
        differ = record {
          same_before = same ∙ whole ∙ sym (take_all index closed (omega (arith, count)));
          differ = λ equal. none-some (named_hypothesis there.0)
              (sym (slice_get_past closed index (omega (arith, count))) ∙ sym equal ∙ slice_get-map named_hypothesis rejected index ∙ ap (option_map named_hypothesis) there.1);
        };
        at = sym at;
        cause_is = refl;
      }

  -- In a round without steps there is no line,
  pub none_pass : lookup.read.now.parts ≡ [] → length rejected ≡ 0 → AreNewlyClosed basis lookup.read.now lines
  none_pass none empty = rejected_pass 0 (length hypotheses) (omega arith) (omega arith) (omega (arith, empty)) (sym (none_below none (length hypotheses)))

  -- or the first one is too many.
  pub none_left : lookup.read.now.parts ≡ [] → 0 < length rejected → (line : ℕ) → line ≡ line_at lookup.read.now 0 → RejectedFails basis lookup.read.now line cause.WrongRejected
  none_left none more line at =
      rejected_left 0 (length hypotheses) line (omega arith) (omega arith) more (sym (none_below none (length hypotheses))) (ap length (none_below none (length hypotheses))) at
