-- A log has no more spans than events and one.
use Rattle.std.proofs.Common.{◌≡◌, ℕ, zero, suc, ◌+◌, ◌≤◌, cond, eqb, ltb, Bool, true, false, List, [], ◌∷◌, length, Option, Some, inl, inr, refl, sym, ap, ◌∙◌, arith}
use Rattle.std.specs.Prelude.{option_and_then}
use Rattle.std.proofs.lemmas.Bool.{cases_lt, eq-eqb, le-ltb, lt-ltb}
use Rattle.std.proofs.lemmas.Option.{option_and_then_some}
use Rattle.tfpg_log.specs.declared.event.Event.{Event}
use Rattle.tfpg_log.specs.declared.event.Event.TheVariants.{Alarm, Silent, Sweep, Tick, Mode}
use Rattle.tfpg_log.specs.declared.span.Span.{Span}
use Rattle.tfpg_log.specs.Log.{Logbook, mode_after, mode_at}
use Rattle.tfpg_log.specs.Spans.{span_at, span_number}
use Rattle.tfpg_log.proofs.lemmas.instants.SpanRuns.{is_span}

-- one for a change, and none where the values are the same
abbrev count_of_change : Bool → ℕ
count_of_change same = cond same 0 1

-- how many times a value changes from one instant to the next, up to an instant
abbrev changes_by : (ℕ → ℕ) → ℕ → ℕ
changes_by value zero = 0
changes_by value (suc instant) = changes_by value instant + count_of_change (eqb (value instant) (value (suc instant)))

-- the number of a span is how many times the mode changes
spans_counted : (log : Logbook) (instant : ℕ) → span_number log instant ≡ changes_by (mode_at log) instant
spans_counted log zero = refl
spans_counted log (suc instant) = ap (λ (n : ℕ). n + count_of_change (eqb (mode_at log instant) (mode_at log (suc instant)))) (spans_counted log instant)

one_at_most : (same : Bool) → count_of_change same ≤ 1
one_at_most true = omega arith
one_at_most false = omega arith

none_if_same : (one other : ℕ) → one ≡ other → count_of_change (eqb one other) ≡ 0
none_if_same one other same = ap (λ (b : Bool). count_of_change b) (eq-eqb one other same)

-- what has the same values up to an instant changes as often up to it
as_often : (value other : ℕ → ℕ) (instant : ℕ) → ((i : ℕ) → i ≤ instant → value i ≡ other i) → changes_by value instant ≡ changes_by other instant
as_often value other zero same = refl
as_often value other (suc instant) same = λ i.
    as_often value other instant (λ j upto. same j (omega (arith, upto))) i + count_of_change (eqb (same instant (omega arith) i) (same (suc instant) (omega arith) i))

-- a value that from after a time on is another one
abbrev then_other : ℕ → ℕ → (ℕ → ℕ) → ℕ → ℕ
then_other time other value instant = cond (ltb time instant) other (value instant)

-- It changes at most once more.
once_more : (time other : ℕ) (value : ℕ → ℕ) (instant : ℕ) → changes_by (then_other time other value) instant ≤ changes_by value instant + 1
once_more time other value zero = omega arith
once_more time other value (suc instant) = elim (cases_lt time instant) [
  | inl after ↦
      let now : then_other time other value instant ≡ other = ap (λ b. cond b other (value instant)) (lt-ltb time instant after) in
      let next : then_other time other value (suc instant) ≡ other = ap (λ b. cond b other (value (suc instant))) (lt-ltb time (suc instant) (omega (arith, after))) in
      omega (arith, once_more time other value instant, none_if_same (then_other time other value instant) (then_other time other value (suc instant)) (now ∙ sym next))
  | inr upto ↦
      let so_far : changes_by (then_other time other value) instant ≡ changes_by value instant =
      as_often (then_other time other value) value instant (λ i before. ap (λ b. cond b other (value i)) (le-ltb time i (omega (arith, upto, before)))) in
      omega (arith, so_far, one_at_most (eqb (then_other time other value instant) (then_other time other value (suc instant))))
]

-- the modes after events change at most as often as the modes before them, and once for each event
changes_after : (events : List Event) (held : ℕ → ℕ) (instant : ℕ) → changes_by (λ i. mode_after (held i) events i) instant ≤ changes_by held instant + length events
changes_after [] held instant = omega arith
changes_after (Mode time mode ∷ events) held instant = omega (arith, changes_after events (then_other time mode held) instant, once_more time mode held instant)
changes_after (Alarm time node ∷ events) held instant = omega (arith, changes_after events held instant)
changes_after (Silent time node ∷ events) held instant = omega (arith, changes_after events held instant)
changes_after (Sweep time ∷ events) held instant = omega (arith, changes_after events held instant)
changes_after (Tick time ∷ events) held instant = omega (arith, changes_after events held instant)

never_changes : (value instant : ℕ) → changes_by (λ i. value) instant ≡ 0
never_changes value zero = refl
never_changes value (suc instant) = omega (arith, never_changes value instant, none_if_same value value refl)

-- An instant has a span whose number is at most that of the events.
pub few_spans : (log : Logbook) (instant : ℕ) → span_number log instant ≤ length log.events
few_spans log instant = omega (arith, spans_counted log instant, changes_after log.events (λ i. 0) instant, never_changes 0 instant)

-- So is the number of a span that there is.
pub span_few : (log : Logbook) (number horizon : ℕ) (span : Span) → span_at log number horizon ≡ Some span → number ≤ length log.events
span_few log number horizon span at =
    let is = is_span log number horizon span at in
    omega (arith, is.numbered span.lo (omega arith) (is.run.in_order), few_spans log span.lo)

-- So it is where something is there that needs the span.
pub some_span_few : {X : Type 0} (log : Logbook) (number horizon : ℕ) (f : Span → Option X) (x : X) → option_and_then f (span_at log number horizon) ≡ Some x → number ≤ length log.events
some_span_few log number horizon f x at = option_and_then_some f (span_at log number horizon) x at (λ span there rest. span_few log number horizon span there)
