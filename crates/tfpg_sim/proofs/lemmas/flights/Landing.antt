-- When flights land, span by span.
use Rattle.std.proofs.Common.{◌≡◌, ℕ, zero, suc, ◌+◌, ◌<◌, ◌≤◌, ◌↔◌, max, ◌⊎◌, inl, inr, ⊎_elim, Bool, true, false, IsTrue, List, [], ◌∷◌, length, get_or, cond, Option, Some, None, slice_get, unwrap_or, refl, sym, ap, subst, ◌∙◌, arith}
use Rattle.tfpg_graph.specs.Graph.{is_active_in}
use Rattle.std.proofs.lemmas.Option.{slice_get-get_or, slice_get_within}
use Rattle.tfpg_log.specs.declared.span.Span.{Span}
use Rattle.tfpg_log.specs.Log.{Logbook, mode_at}
use Rattle.tfpg_sim.specs.declared.flight.Flight.{Flight}
use Rattle.tfpg_sim.specs.inside.Flights.{HasActiveEdge, Lands, LandsBy, IsReached, ReachedBy, IsFirstIn, pending_in, IsPending, ArePending}
use Rattle.tfpg_sim.specs.inside.ModeSpans.{AreSpans}
use Rattle.tfpg_sim.specs.Simulation.{IsFirst}

module _ (log : Logbook) (flight : Flight) where
  -- what is pending once an instant has come, by whether the edge is active in it
  pending_at : (lo : ℕ) (pending : Option ℕ) (active_there : Bool) → (IsTrue active_there → HasActiveEdge log flight lo)
      → (HasActiveEdge log flight lo → IsTrue active_there) → IsPending log lo flight pending
      → (entered : Option ℕ) → entered ≡ cond active_there (Some (unwrap_or pending (max lo flight.start + flight.delay))) None
      → IsPending log (lo + 1) flight entered
  pending_at lo pending false there back before entered is =
      subst (IsPending log (lo + 1) flight) (sym is) (λ x next active_x. let no : false ≡ true = back (subst (HasActiveEdge log flight) (let same : x ≡ lo = omega arith in same) active_x) in cc)
  pending_at lo (Some arrival) true there back before entered is =
      subst (IsPending log (lo + 1) flight) (sym is) (
        before.0,
        record {
          before = omega (arith, before.1.before);
          throughout = λ x from_x upto. by_last lo x upto (λ less. before.1.throughout x from_x less) (there refl);
          alone = before.1.alone;
        },
        before.2,
      )
    where
      by_last : (last x : ℕ) → x < last + 1 → (x < last → HasActiveEdge log flight x) → HasActiveEdge log flight last → HasActiveEdge log flight x
      by_last last x within less here = ⊎_elim less (λ same. subst (HasActiveEdge log flight) same here) (let cases : (x < last) ⊎ (last ≡ x) = grind arith in cases)
  pending_at lo None true there back before entered is =
      subst (IsPending log (lo + 1) flight) (sym is) (
        lo,
        record {
          before = omega arith;
          throughout = λ x from_x upto. subst (HasActiveEdge log flight) (let same : lo ≡ x = omega arith in same) (there refl);
          alone = before;
        },
        refl,
      )

  -- what is pending stays so while the mode stays
  pending_stays : (lo later : ℕ) (pending : Option ℕ) → lo ≤ later
      → ((x : ℕ) → lo ≤ x → x ≤ later → mode_at log x ≡ mode_at log lo)
      → IsPending log (lo + 1) flight pending → IsPending log (later + 1) flight pending
  pending_stays lo later None upto same before = λ x next active_x.
      let here : x ≡ later = omega arith in
      before lo (omega arith) (subst (λ mode. IsTrue (is_active_in flight.edge mode)) (ap (mode_at log) here ∙ same later upto (omega arith)) active_x)
  pending_stays lo later (Some arrival) upto same before = (
    before.0,
    record {
      before = omega (arith, before.1.before);
      throughout = λ x from_x within. ⊎_elim (λ less. before.1.throughout x from_x less)
          (λ past. subst (λ mode. IsTrue (is_active_in flight.edge mode)) (sym (same x (omega arith) (omega arith)))
          (before.1.throughout lo (omega (arith, before.1.before)) (omega arith))) (let cases : (x < lo + 1) ⊎ (lo + 1 ≤ x) = grind arith in cases);
      alone = before.1.alone;
    },
    before.2,
  )

  -- a flight has landed at an instant exactly where the time that is pending is reached
  pending_lands : (x : ℕ) (pending : Option ℕ) → IsPending log (x + 1) flight pending → Lands log x flight ↔ IsReached pending x
  pending_lands x None before =
      ((λ lands. before x (omega arith) (lands.active_since x (omega arith) (omega arith))), (λ never. absurd never))
  pending_lands x (Some arrival) before =
      let from = before.0 in (
        (λ lands. ⊎_elim (λ late. let since = lands.since in omega (arith, before.2))
            (λ early. absurd (before.1.alone early.0 early.1 (lands.active_since early.0 (let after = early.2 in let next = early.1 in omega arith)
            (let next = early.1 in let upto = before.1.before in omega arith)))) (early_or_late from lands.since)),
        (λ reached. let is = before.2 in record {
          since = omega arith;
          active_since = λ y after upto. before.1.throughout y (omega arith) (omega arith);
        }),
      )
    where
      -- the flight was under way before its edge became active, or not
      early_or_late : (from : ℕ) → flight.start + flight.delay ≤ x → (from + flight.delay ≤ x) ⊎ ((y : ℕ) × (suc y ≡ from) × (x < from + flight.delay))
      early_or_late zero since = inl (omega arith)
      early_or_late (suc y) since = ⊎_elim (λ late. inl late) (λ early. inr (y, refl, early))
          (let cases : (suc y + flight.delay ≤ x) ⊎ (x < suc y + flight.delay) = grind arith in cases)

module _ (log : Logbook) (flights : List Flight) where
  -- a flight, where there is none
  abbrev no_flight : Flight
  no_flight = record { edge = record { source = 0; target = 0; tmin = 0; tmax = None; modes = 0 }; start = 0; delay = 0 }

  -- some flight has landed, or each, exactly where some of the times that are pending is reached, or each
  pub lands_reached : (needs_all : Bool) (x : ℕ) (pendings : List (Option ℕ)) → length pendings ≡ length flights
      → ArePending log (x + 1) flights pendings → LandsBy needs_all log flights x ↔ ReachedBy needs_all pendings x
  lands_reached false x pendings same are = (
    (λ some. (
      some.0,
      let within : some.0 < length flights = slice_get_within flights some.0 some.1 some.2 in omega arith,
      (pending_lands log some.1 x (get_or pendings some.0 None) (are some.0 some.1 some.2)).0 some.3,
    )),
    (λ some. let within : some.0 < length flights = let below = some.1 in omega arith in
        let at = slice_get-get_or flights some.0 no_flight within in
        (some.0, get_or flights some.0 no_flight, at, (pending_lands log _ x (get_or pendings some.0 None) (are some.0 _ at)).1 some.2)),
  )
  lands_reached true x pendings same are = (
    (λ each index within. let inside : index < length flights = omega arith in
        let at = slice_get-get_or flights index no_flight inside in (pending_lands log _ x (get_or pendings index None) (are index _ at)).0 (each index _ at)),
    (λ each index flight at. (pending_lands log flight x (get_or pendings index None) (are index flight at)).1
        (each index (let within : index < length flights = slice_get_within flights index flight at in omega arith))),
  )

-- spans end no earlier than they begin
pub spans_rise : (log : Logbook) (end begin : ℕ) (spans : List Span) → AreSpans log end begin spans → begin ≤ end
spans_rise log end begin [] are = omega (arith, are)
spans_rise log end begin (span ∷ spans) are =
    let rest = spans_rise log end (span.hi + 1) spans are.3 in let lo = are.0 in let upto = are.1 in omega arith

module _ (log : Logbook) (limit : ℕ) (flights : List Flight) (needs_all : Bool) where
  -- before a span begins: what is pending, and that nothing has landed so far
  pub record IsBefore (begin : ℕ) (spans : List Span) (pendings : List (Option ℕ)) : Type 0 where
    pub left : AreSpans log (limit + 1) begin spans
    pub pending : ArePending log begin flights pendings
    pub none : (x : ℕ) → x < begin → LandsBy needs_all log flights x → ⊥

  module _ (begin : ℕ) (span : Span) (spans : List Span) (pendings entered : List (Option ℕ)) (reached first : Option ℕ)
      (before : IsBefore begin (span ∷ spans) pendings) (same : length entered ≡ length flights)
      (enters : (index : ℕ) (flight : Flight) → slice_get flights index ≡ Some flight → get_or entered index None ≡ pending_in span flight (get_or pendings index None))
      (reaches : (x : ℕ) → IsReached reached x ↔ ReachedBy needs_all entered x) (is_first : IsFirstIn (IsReached reached) span.lo span.hi first) where
    modes : (x : ℕ) → span.lo ≤ x → x ≤ span.hi → mode_at log x ≡ span.mode
    modes = before.left.2

    -- what is pending at an instant of the span
    at : (x : ℕ) → span.lo ≤ x → x ≤ span.hi → ArePending log (x + 1) flights entered
    at x from upto = λ index flight is.
        let here = modes span.lo (omega arith) before.left.1 in
        let test : ℕ → Type 0 = λ mode. IsTrue (is_active_in flight.edge mode) in
        pending_stays log flight span.lo x (get_or entered index None) from (λ y after within. modes y after (omega arith) ∙ sym here)
        (pending_at log flight span.lo (get_or pendings index None) (is_active_in flight.edge span.mode) (subst test (sym here)) (subst test here)
        (subst (λ n. IsPending log n flight (get_or pendings index None)) (sym before.left.0) (before.pending index flight is))
        (get_or entered index None) (enters index flight is))

    -- the flights have landed in the span exactly where the time is reached
    lands : (x : ℕ) → span.lo ≤ x → x ≤ span.hi → LandsBy needs_all log flights x → IsReached reached x
    lands x from upto landed = (reaches x).1 ((lands_reached log flights needs_all x entered same (at x from upto)).0 landed)

    -- nothing has landed before the span
    none_before : (x : ℕ) → x < span.lo → LandsBy needs_all log flights x → ⊥
    none_before x less = before.none x (let lo = before.left.0 in omega arith)

    -- nothing lands in the span
    pub goes_on : first ≡ None → IsBefore (span.hi + 1) spans entered
    goes_on none = record {
      left = before.left.3;
      pending = at span.hi before.left.1 (omega arith);
      none = λ x within landed. ⊎_elim (λ less. none_before x less landed)
          (λ from. subst (IsFirstIn (IsReached reached) span.lo span.hi) none is_first x (omega arith) (from, lands x from (omega arith) landed))
          (let cases : (x < span.lo) ⊎ (span.lo ≤ x) = grind arith in cases);
    }

    -- something lands in the span
    pub ends_at : (time : ℕ) → first ≡ Some time → IsFirst (LandsBy needs_all log flights) limit first
    ends_at time some =
        let here = subst (IsFirstIn (IsReached reached) span.lo span.hi) some is_first in
        let end = spans_rise log (limit + 1) (span.hi + 1) spans before.left.3 in
        let upto : time ≤ span.hi = here.0 in
        subst (IsFirst (LandsBy needs_all log flights) limit) (sym some) (
          omega arith,
          (lands_reached log flights needs_all time entered same (at time here.1.0 here.0)).1 ((reaches time).0 here.1.1),
          (λ x less landed. ⊎_elim (λ early. none_before x early landed)
              (λ from. here.2 x less (from, lands x from (omega arith) landed))
              (let cases : (x < span.lo) ⊎ (span.lo ≤ x) = grind arith in cases)),
        )

  -- before the first span nothing is pending
  pub at_first : (spans : List Span) (pendings : List (Option ℕ)) → AreSpans log (limit + 1) 0 spans
      → ((index : ℕ) → get_or pendings index None ≡ None) → IsBefore 0 spans pendings
  at_first spans pendings are none = record {
    left = are;
    pending = λ index flight is. subst (IsPending log 0 flight) (sym (none index)) (λ x next active_x. omega arith);
    none = λ x less landed. omega arith;
  }

  -- after the last span nothing has landed up to the limit
  pub at_last : (begin : ℕ) (pendings : List (Option ℕ)) → IsBefore begin [] pendings → IsFirst (LandsBy needs_all log flights) limit None
  at_last begin pendings before = λ x upto landed. before.none x (let end = before.left in omega arith) landed
