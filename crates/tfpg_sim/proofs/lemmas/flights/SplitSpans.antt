-- The spans of the modes of a script, line by line.
use Rattle.std.proofs.Common.{◌≡◌, ℕ, ◌+◌, ◌<◌, ◌≤◌, nat_lt, nat_le, List, [], ◌∷◌, ◌++◌, filter_map, All, refl, sym, ap, subst, ◌∙◌, arith}
use Rattle.std.proofs.lemmas.List.{append-nil}
use Rattle.tfpg_base.specs.declared.limits.TheConstants.{MAX_TIME}
use Rattle.std.proofs.lemmas.Bool.{cond-true, cond-false, lt-ltb, le-ltb, cond_both}
use Rattle.std.proofs.lemmas.Bool.Decides.{nat_tests}
use Rattle.std.proofs.lemmas.List.Elements.{filter_map-append, All-nil, All-cons, All-append}
use Rattle.tfpg_base.proofs.lemmas.lists.Elements.{All-front, All-middle}
use Rattle.tfpg_log.specs.declared.span.Span.{Span}
use Rattle.tfpg_log.specs.Log.{Logbook, mode_at, mode_after}
use Rattle.tfpg_log.proofs.lemmas.changes.ModeChanges.{mode_after-append}
use Rattle.tfpg_sim.specs.inside.Arrivals.{AreNearSpans, far}
use Rattle.tfpg_sim.specs.declared.entry.Entry.{Entry}
use Rattle.tfpg_sim.specs.declared.entry.Entry.TheVariants.{Start, Mode, Sweep, Tick, Stop}
use Rattle.tfpg_sim.specs.Script.{time_of_entry}
use Rattle.tfpg_sim.specs.Simulation.{event_of_entry, script_log}
use Rattle.tfpg_sim.specs.inside.ModeSpans.{AreSpans, closed_by, current_after}
use Rattle.tfpg_sim.proofs.lemmas.flights.Landing.{spans_rise}

-- the mode with one line more
mode_at-push : (entries : List Entry) (entry : Entry) (x : ℕ)
    → mode_at (script_log (entries ++ entry ∷ [])) x ≡ mode_after (mode_at (script_log entries) x) (filter_map event_of_entry (entry ∷ [])) x
mode_at-push entries entry x =
    ap (λ events. mode_after 0 events x) (filter_map-append event_of_entry entries (entry ∷ []))
    ∙ mode_after-append 0 (filter_map event_of_entry entries) (filter_map event_of_entry (entry ∷ [])) x

-- spans one after the other
AreSpans-append : (log : Logbook) (end mid begin : ℕ) (xs ys : List Span) → AreSpans log mid begin xs → AreSpans log end mid ys → AreSpans log end begin (xs ++ ys)
AreSpans-append log end mid begin [] ys first second = subst (λ b. AreSpans log end b ys) (sym first) second
AreSpans-append log end mid begin (x ∷ xs) ys first second = (first.0, first.1, first.2, AreSpans-append log end mid (x.hi + 1) xs ys first.3 second)

-- spans of one log are those of another with the same modes
AreSpans-same : (log other : Logbook) (end begin : ℕ) (spans : List Span) → ((x : ℕ) → x < end → mode_at other x ≡ mode_at log x)
    → AreSpans log end begin spans → AreSpans other end begin spans
AreSpans-same log other end begin [] same are = are
AreSpans-same log other end begin (span ∷ spans) same are =
    let rises = spans_rise log end (span.hi + 1) spans are.3 in
    (are.0, are.1, (λ x from upto. same x (omega arith) ∙ are.2 x from upto), AreSpans-same log other end (span.hi + 1) spans same are.3)

-- the spans before the current one, and the mode from it on
pub record IsSplit (stop : ℕ) (entries : List Entry) (spans : List Span) (current : Span) : Type 0 where
  pub are : AreSpans (script_log entries) current.lo 0 spans
  pub after : (x : ℕ) → current.lo ≤ x → mode_at (script_log entries) x ≡ current.mode
  pub late : (time : ℕ) → All (λ entry. time_of_entry entry ≤ time) entries → current.lo ≤ time + 1
  pub end : current.hi ≡ stop

-- a line that is no change of mode
split_same : (stop : ℕ) (entries : List Entry) (spans : List Span) (current : Span) (entry : Entry)
    → ((x : ℕ) → mode_at (script_log (entries ++ entry ∷ [])) x ≡ mode_at (script_log entries) x)
    → IsSplit stop entries spans current → IsSplit stop (entries ++ entry ∷ []) (spans ++ []) current
split_same stop entries spans current entry same split = record {
  are = subst (AreSpans (script_log (entries ++ entry ∷ [])) current.lo 0) (sym (append-nil spans))
      (AreSpans-same (script_log entries) (script_log (entries ++ entry ∷ [])) current.lo 0 spans (λ x less. same x) split.are);
  after = λ x from. same x ∙ split.after x from;
  late = λ time all. split.late time (All-front (λ e. time_of_entry e ≤ time) entries (entry ∷ []) all);
  end = split.end;
}

-- one line more
pub split_more : (stop : ℕ) (entries : List Entry) (spans : List Span) (current : Span) (entry : Entry)
    → All (λ earlier. time_of_entry earlier ≤ time_of_entry entry) entries
    → IsSplit stop entries spans current → IsSplit stop (entries ++ entry ∷ []) (spans ++ closed_by current entry) (current_after current entry)
split_more stop entries spans current (Start time node) order split =
    split_same stop entries spans current (Start time node) (λ x. mode_at-push entries (Start time node) x) split
split_more stop entries spans current (Sweep time) order split =
    split_same stop entries spans current (Sweep time) (λ x. mode_at-push entries (Sweep time) x) split
split_more stop entries spans current (Tick time) order split =
    split_same stop entries spans current (Tick time) (λ x. mode_at-push entries (Tick time) x) split
split_more stop entries spans current (Stop time) order split =
    split_same stop entries spans current (Stop time) (λ x. mode_at-push entries (Stop time) x) split
split_more stop entries spans current (Mode time mode) order split = record {
  are = cond_both (nat_le current.lo time) _ _ (λ closed. AreSpans more (time + 1) 0 (spans ++ closed))
      (λ within. let within' : current.lo ≤ time = grind (arith, nat_tests, within) in
      AreSpans-append more (time + 1) current.lo 0 spans _ before (refl, within', (λ x from upto. earlier x (omega arith) ∙ split.after x from), refl))
      (λ empty. let past : time < current.lo = grind (arith, nat_tests, empty) in
      let same : current.lo ≡ time + 1 = let upto = split.late time order in omega arith in
      subst (λ b. AreSpans more b 0 (spans ++ [])) same (subst (AreSpans more current.lo 0) (sym (append-nil spans)) before));
  after = λ x from. mode_at-push entries (Mode time mode) x ∙ cond-true (nat_lt time x) _ _ (lt-ltb time x (omega arith));
  late = λ later all. let upto : time ≤ later = All-middle (λ e. time_of_entry e ≤ later) entries (Mode time mode) [] all in omega arith;
  end = split.end;
}
  where
    more : Logbook
    more = script_log (entries ++ Mode time mode ∷ [])

    earlier : (x : ℕ) → x ≤ time → mode_at more x ≡ mode_at (script_log entries) x
    earlier x upto = mode_at-push entries (Mode time mode) x ∙ cond-false (nat_lt time x) _ _ (le-ltb time x upto)

    before : AreSpans more current.lo 0 spans
    before = AreSpans-same (script_log entries) more current.lo 0 spans (λ x less. earlier x (let upto = split.late time order in omega arith)) split.are

-- all spans, with the last
pub split_last : (stop : ℕ) (entries : List Entry) (spans : List Span) (current : Span) → IsSplit stop entries spans current
    → current.lo ≤ stop → AreSpans (script_log entries) (stop + 1) 0 (spans ++ current ∷ [])
split_last stop entries spans current split within =
    AreSpans-append (script_log entries) (stop + 1) current.lo 0 spans (current ∷ []) split.are
    (refl, (let end = split.end in omega arith), (λ x from upto. split.after x from), ap (λ n. n + 1) split.end)

-- all spans, where the last change of mode is at the stop
pub split_past : (stop : ℕ) (entries : List Entry) (spans : List Span) (current : Span) → IsSplit stop entries spans current
    → All (λ entry. time_of_entry entry ≤ stop) entries → stop < current.lo → AreSpans (script_log entries) (stop + 1) 0 spans
split_past stop entries spans current split all past =
    subst (λ b. AreSpans (script_log entries) b 0 spans) (let upto = split.late stop all in let same : current.lo ≡ stop + 1 = omega arith in same) split.are

-- the spans begin at small times
pub small_more : (spans : List Span) (current : Span) (entry : Entry) → AreNearSpans spans → current.lo ≤ far
    → AreNearSpans (spans ++ closed_by current entry)
small_more spans current entry all now = All-append (λ span. span.lo ≤ far) spans (closed_by current entry) all (closed entry)
  where
    closed : (e : Entry) → AreNearSpans (closed_by current e)
    closed (Start time node) = All-nil (λ span. span.lo ≤ far)
    closed (Sweep time) = All-nil (λ span. span.lo ≤ far)
    closed (Tick time) = All-nil (λ span. span.lo ≤ far)
    closed (Stop time) = All-nil (λ span. span.lo ≤ far)
    closed (Mode time mode) = cond_both (nat_le current.lo time) _ _ (λ spans. AreNearSpans spans)
        (λ _. All-cons (λ span. span.lo ≤ far) _ [] now (All-nil (λ span. span.lo ≤ far))) (λ _. All-nil (λ span. span.lo ≤ far))

pub small_after : (current : Span) (entry : Entry) → current.lo ≤ far → time_of_entry entry ≤ MAX_TIME → (current_after current entry).lo ≤ far
small_after current (Start time node) now upto = now
small_after current (Sweep time) now upto = now
small_after current (Tick time) now upto = now
small_after current (Stop time) now upto = now
small_after current (Mode time mode) now upto = omega arith

-- the same, of what code has then
pub split_next : (stop : ℕ) (entries next : List Entry) (spans more : List Span) (current now : Span) (entry : Entry)
    → next ≡ entries ++ entry ∷ [] → more ≡ spans ++ closed_by current entry → now ≡ current_after current entry
    → All (λ earlier. time_of_entry earlier ≤ time_of_entry entry) entries
    → IsSplit stop entries spans current → IsSplit stop next more now
split_next stop entries next spans more current now entry is_next is_more is_now order split =
    subst (λ es. IsSplit stop es more now) (sym is_next)
    (subst (λ ss. IsSplit stop (entries ++ entry ∷ []) ss now) (sym is_more)
    (subst (λ s. IsSplit stop (entries ++ entry ∷ []) (spans ++ closed_by current entry) s) (sym is_now)
    (split_more stop entries spans current entry order split)))
