-- The changes that begin the spans stay right as one more change of mode comes.
use Rattle.std.proofs.Common.{◌≡◌, ℕ, zero, suc, ◌+◌, ◌-◌, ◌<◌, ◌≤◌, eqb, List, [], ◌∷◌, ◌++◌, length, take, refl, inl, inr, sym, ap, ◌∙◌, arith}
use Rattle.std.specs.List.Sorted.{IsNonDecreasingBy}
use Rattle.std.proofs.lemmas.Bool.{cases_lt, cases_Bool, eqb-true, eqb-false}
use Rattle.std.proofs.lemmas.List.{get_or-take, get_or_append_left, get_or_default, length-take-le, length_push}
use Rattle.std.proofs.Math.Seq.{get_or-append_seam}
use Rattle.tfpg_log.specs.declared.mode_change.ModeChange.{ModeChange}
use Rattle.tfpg_log.specs.inside.SpanIndex.{change_at, begin_of_span, mode_of_span, IsInSpan, BeginSpans, kept_at, with_other_mode, with_change}

-- ---- the beginnings rise

module _ (changes : List ModeChange)
    (rise : (number : ℕ) → number < length changes → begin_of_span changes number < begin_of_span changes (suc number)) where
  -- A later span does not begin before an earlier one.
  pub begins_rise : (one other : ℕ) → one ≤ other → other ≤ length changes → begin_of_span changes one ≤ begin_of_span changes other
  begins_rise one zero upto within = let same : one ≡ 0 = omega arith in omega (arith, ap (begin_of_span changes) same)
  begins_rise one (suc before) upto within = elim (cases_lt before one) [
    | inl above ↦ (let same : one ≡ suc before = omega arith in omega (arith, ap (begin_of_span changes) same))
    | inr below ↦ omega (arith, begins_rise one before below (omega arith), rise before (omega arith))
  ]

  -- so do the times of the changes
  pub times_rise : IsNonDecreasingBy (λ (change : ModeChange). change.time) changes
  times_rise i j d upto within =
      let first : ModeChange = record { time = 0; mode = 0 } in
      omega (
        arith,
        begins_rise (suc i) (suc j) (omega arith) (omega arith),
        ap (λ (change : ModeChange). change.time) (get_or_default changes i d first (omega arith)),
        ap (λ (change : ModeChange). change.time) (get_or_default changes j d first within),
      )

  -- An instant lies in one span alone.
  pub one_span : (one other instant : ℕ) → IsInSpan changes one instant → IsInSpan changes other instant → one ≡ other
  one_span one other instant is also = elim (cases_lt one other) [
    | inl below ↦
        absurd (omega (arith, begins_rise (suc one) other (omega arith) also.counted, also.begun, is.unended (omega (arith, also.counted))))
    | inr upto ↦ elim (cases_lt other one) [
      | inl above ↦
          absurd (omega (arith, begins_rise (suc other) one (omega arith) is.counted, is.begun, also.unended (omega (arith, is.counted))))
      | inr same ↦ omega arith
    ]
  ]

-- ---- up to the time of the change

-- the changes begin the spans of the modes of the instants up to a time, by which they all begin
record BeginSpansUpTo (modes : ℕ → ℕ) (time : ℕ) (changes : List ModeChange) : Type 0 where
  rise : (number : ℕ) → number < length changes → begin_of_span changes number < begin_of_span changes (suc number)
  differ : (number : ℕ) → number < length changes → mode_of_span changes number ≡ mode_of_span changes (suc number) → ⊥
  hold : (number instant : ℕ) → instant ≤ time → IsInSpan changes number instant → modes instant ≡ mode_of_span changes number
  begun : begin_of_span changes (length changes) ≤ time

begin_of_span-take : (changes : List ModeChange) (count number : ℕ) → number ≤ count
    → begin_of_span (take count changes) number ≡ begin_of_span changes number
begin_of_span-take changes count zero within = refl
begin_of_span-take changes count (suc index) within =
    ap (λ (change : ModeChange). change.time + 1) (get_or-take count changes index (record { time = 0; mode = 0 }) (omega arith))

mode_of_span-take : (changes : List ModeChange) (count number : ℕ) → number ≤ count
    → mode_of_span (take count changes) number ≡ mode_of_span changes number
mode_of_span-take changes count zero within = refl
mode_of_span-take changes count (suc index) within =
    ap (λ (change : ModeChange). change.mode) (get_or-take count changes index (record { time = 0; mode = 0 }) (omega arith))

module _ (modes : ℕ → ℕ) (changes : List ModeChange) (spans : BeginSpans modes changes) (time : ℕ) where
  -- without a change of the same time they are unchanged
  all_kept : begin_of_span changes (length changes) ≤ time → BeginSpansUpTo modes time changes
  all_kept upto = record {
    rise = spans.rise;
    differ = spans.differ;
    hold = λ number instant by within. spans.hold number instant within;
    begun = upto;
  }

  -- else all but the last
  front_kept : (count : ℕ) → length changes ≡ suc count → begin_of_span changes (suc count) ≡ time + 1
      → BeginSpansUpTo modes time (take count changes)
  front_kept count more last =
      let long : length (take count changes) ≡ count = length-take-le count changes (omega arith) in
      record {
        rise = λ number lt.
            omega (
              arith,
              spans.rise number (omega arith),
              begin_of_span-take changes count number (omega arith),
              begin_of_span-take changes count (suc number) (omega arith),
            );
        differ = λ number lt same.
            spans.differ number (omega arith)
            (sym (mode_of_span-take changes count number (omega arith)) ∙ same
            ∙ mode_of_span-take changes count (suc number) (omega arith));
        hold = λ number instant by within.
            spans.hold number instant (record {
              counted = omega (arith, within.counted);
              begun = omega (arith, within.begun, begin_of_span-take changes count number (omega (arith, within.counted)));
              unended = λ lt. elim (cases_lt number count) [
                | inl below ↦ omega (arith, within.unended (omega arith), begin_of_span-take changes count (suc number) (omega arith))
                | inr upto ↦ (let same : number ≡ count = omega arith in omega (arith, last, ap (λ n. begin_of_span changes (suc n)) same))
              ];
            })
            ∙ sym (mode_of_span-take changes count number (omega (arith, within.counted)));
        begun =
            omega (
              arith,
              ap (begin_of_span (take count changes)) long,
              begin_of_span-take changes count count (omega arith),
              spans.rise count (omega arith),
            );
      }

  some_last : (count : ℕ) → begin_of_span changes count ≡ time + 1 → (before : ℕ) × (count ≡ suc before)
  some_last zero last = absurd (omega arith)
  some_last (suc before) last = (before, refl)

  kept : begin_of_span changes (length changes) ≤ time + 1 → BeginSpansUpTo modes time (kept_at changes time)
  kept upto = elim (cases_Bool (eqb (begin_of_span changes (length changes)) (time + 1))) [
    | inl again ↦ (let last = eqb-true (begin_of_span changes (length changes)) (time + 1) again in
        let more = some_last (length changes) last in
        let front : length changes - 1 ≡ more.0 = omega (arith, more.1) in
        rw (again, front) (front_kept more.0 more.1 (sym (ap (begin_of_span changes) more.1) ∙ last)))
    | inr new ↦
        rw new (all_kept (let unlike = eqb-false (begin_of_span changes (length changes)) (time + 1) new in omega (arith, upto, unlike)))
  ]

-- ---- with the change

begin_of_span-push : (changes : List ModeChange) (change : ModeChange) (number : ℕ) → number ≤ length changes
    → begin_of_span (changes ++ change ∷ []) number ≡ begin_of_span changes number
begin_of_span-push changes change zero within = refl
begin_of_span-push changes change (suc index) within =
    ap (λ (c : ModeChange). c.time + 1) (get_or_append_left changes (change ∷ []) (record { time = 0; mode = 0 }) index (omega arith))

mode_of_span-push : (changes : List ModeChange) (change : ModeChange) (number : ℕ) → number ≤ length changes
    → mode_of_span (changes ++ change ∷ []) number ≡ mode_of_span changes number
mode_of_span-push changes change zero within = refl
mode_of_span-push changes change (suc index) within =
    ap (λ (c : ModeChange). c.mode) (get_or_append_left changes (change ∷ []) (record { time = 0; mode = 0 }) index (omega arith))

module _ (modes : ℕ → ℕ) (time mode : ℕ) (changes : List ModeChange) (spans : BeginSpansUpTo modes time changes) (newer : ℕ → ℕ)
    (before : (instant : ℕ) → instant ≤ time → newer instant ≡ modes instant)
    (behind : (instant : ℕ) → time < instant → newer instant ≡ mode) where
  -- an instant of a span that is not the last is not after the time
  by_time : (number instant : ℕ) → IsInSpan changes number instant → number < length changes → instant ≤ time
  by_time number instant within more =
      omega (
        arith,
        within.unended more,
        begins_rise changes spans.rise (suc number) (length changes) (omega arith) (omega arith),
        spans.begun,
      )

  same_mode : mode_of_span changes (length changes) ≡ mode → BeginSpans newer changes
  same_mode same = record {
    rise = spans.rise;
    differ = spans.differ;
    hold = λ number instant within. elim (cases_lt time instant) [
      | inl after ↦ (let last : number ≡ length changes = elim (cases_lt number (length changes)) [
        | inl more ↦ absurd (omega (arith, by_time number instant within more))
        | inr all ↦ omega (arith, within.counted)
      ] in
          behind instant after ∙ sym same ∙ ap (mode_of_span changes) (sym last))
      | inr by ↦ before instant by ∙ spans.hold number instant by within
    ];
  }

  other_mode : (mode_of_span changes (length changes) ≡ mode → ⊥) → BeginSpans newer (changes ++ record { time = time; mode = mode } ∷ [])
  other_mode other =
      let change : ModeChange = record { time = time; mode = mode } in
      let all : List ModeChange = changes ++ change ∷ [] in
      let long : length all ≡ length changes + 1 = length_push changes change in
      let count : ℕ = length changes in
      let last : change_at all count ≡ change = get_or-append_seam changes change [] (record { time = 0; mode = 0 }) in
      let begins : begin_of_span all (suc count) ≡ time + 1 = ap (λ (c : ModeChange). c.time + 1) last in
      let its_mode : mode_of_span all (suc count) ≡ mode = ap (λ (c : ModeChange). c.mode) last in
      record {
        rise = λ number lt. elim (cases_lt number count) [
          | inl below ↦
              omega (
                arith,
                spans.rise number below,
                begin_of_span-push changes change number (omega arith),
                begin_of_span-push changes change (suc number) (omega arith),
              )
          | inr upto ↦ (let same : number ≡ count = omega arith in
              omega (
                arith,
                ap (begin_of_span all) same,
                ap (λ n. begin_of_span all (suc n)) same,
                begins,
                begin_of_span-push changes change count (omega arith),
                spans.begun,
              ))
        ];
        differ = λ number lt same. elim (cases_lt number count) [
          | inl below ↦
              spans.differ number below
              (sym (mode_of_span-push changes change number (omega arith)) ∙ same
              ∙ mode_of_span-push changes change (suc number) (omega arith))
          | inr upto ↦ (let at : number ≡ count = omega arith in
              other
              (sym (ap (mode_of_span all) at ∙ mode_of_span-push changes change count (omega arith)) ∙ same
              ∙ ap (λ n. mode_of_span all (suc n)) at ∙ its_mode))
        ];
        hold = λ number instant within. elim (cases_lt count number) [
          | inl above ↦ (let at : number ≡ suc count = omega (arith, within.counted) in
              behind instant (omega (arith, within.begun, ap (begin_of_span all) at, begins)) ∙ sym (ap (mode_of_span all) at ∙ its_mode))
          | inr upto ↦ (let below : instant < begin_of_span all (suc number) = within.unended (omega arith) in
              let earlier : IsInSpan changes number instant = record {
                counted = upto;
                begun = omega (arith, within.begun, begin_of_span-push changes change number upto);
                unended = λ more. omega (arith, below, begin_of_span-push changes change (suc number) (omega arith));
              } in
              let by : instant ≤ time = elim (cases_lt number count) [
                | inl more ↦ by_time number instant earlier more
                | inr all_of ↦
                    (let at : number ≡ count = omega arith in omega (arith, below, ap (λ n. begin_of_span all (suc n)) at, begins))
              ] in
              before instant by ∙ spans.hold number instant by earlier ∙ sym (mode_of_span-push changes change number upto))
        ];
      }

  with_it : BeginSpans newer (with_other_mode changes time mode)
  with_it = elim (cases_Bool (eqb (mode_of_span changes (length changes)) mode)) [
    | inl same ↦ rw same (same_mode (eqb-true (mode_of_span changes (length changes)) mode same))
    | inr other ↦ rw other (other_mode (eqb-false (mode_of_span changes (length changes)) mode other))
  ]

-- the last span begins by the instant after the time
begun_with_it : (modes : ℕ → ℕ) (time mode : ℕ) (changes : List ModeChange) → BeginSpansUpTo modes time changes
    → begin_of_span (with_other_mode changes time mode) (length (with_other_mode changes time mode)) ≤ time + 1
begun_with_it modes time mode changes spans = elim (cases_Bool (eqb (mode_of_span changes (length changes)) mode)) [
  | inl same ↦ rw same (omega (arith, spans.begun))
  | inr other ↦ (let change : ModeChange = record { time = time; mode = mode } in
      let begins : begin_of_span (changes ++ change ∷ []) (suc (length changes)) ≡ time + 1 =
      ap (λ (c : ModeChange). c.time + 1) (get_or-append_seam changes change [] (record { time = 0; mode = 0 })) in
      let long : length (changes ++ change ∷ []) ≡ suc (length changes) = omega (arith, length_push changes change) in
      rw other (omega (arith, ap (begin_of_span (changes ++ change ∷ [])) long, begins)))
]

-- After one more change, of a time that no earlier one is after, they begin the spans of the modes: up to that time as
-- before, and then the change's.
pub spans_with_change : (modes newer : ℕ → ℕ) (changes : List ModeChange) (time mode : ℕ) → BeginSpans modes changes
    → begin_of_span changes (length changes) ≤ time + 1
    → ((instant : ℕ) → instant ≤ time → newer instant ≡ modes instant) → ((instant : ℕ) → time < instant → newer instant ≡ mode)
    → BeginSpans newer (with_change changes time mode)
spans_with_change modes newer changes time mode spans upto before behind =
    with_it modes time mode (kept_at changes time) (kept modes changes spans time upto) newer before behind

-- The last of them then begins at the instant after that time or earlier.
pub begun_with_change : (modes : ℕ → ℕ) (changes : List ModeChange) (time mode : ℕ) → BeginSpans modes changes
    → begin_of_span changes (length changes) ≤ time + 1
    → begin_of_span (with_change changes time mode) (length (with_change changes time mode)) ≤ time + 1
begun_with_change modes changes time mode spans upto =
    begun_with_it modes time mode (kept_at changes time) (kept modes changes spans time upto)

fewer_kept : (changes : List ModeChange) (time : ℕ) → length (kept_at changes time) ≤ length changes
fewer_kept changes time = elim (cases_Bool (eqb (begin_of_span changes (length changes)) (time + 1))) [
  | inl again ↦ rw again (omega (arith, length-take-le (length changes - 1) changes (omega arith)))
  | inr new ↦ rw new (omega arith)
]

-- There is at most one change more.
pub one_more_change : (changes : List ModeChange) (time mode : ℕ) → length (with_change changes time mode) ≤ length changes + 1
one_more_change changes time mode =
    let front : List ModeChange = kept_at changes time in
    let fewer = fewer_kept changes time in
    elim (cases_Bool (eqb (mode_of_span front (length front)) mode)) [
      | inl same ↦ rw same (omega arith)
      | inr other ↦ (let change : ModeChange = record { time = time; mode = mode } in rw other (omega (arith, length_push front change)))
    ]
