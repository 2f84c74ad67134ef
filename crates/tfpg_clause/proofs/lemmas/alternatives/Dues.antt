-- What is due over some edges: the latest of it, and the alternatives of a must.
use Rattle.std.proofs.Common.{◌≡◌, ℕ, suc, ◌+◌, ◌*◌, ◌<◌, ◌≤◌, Bool, true, false, ◌&&◌, List, [], ◌∷◌, ◌++◌, length, get_or, take, max, Option, Some, None, refl, sym, ap, ◌∙◌, arith, pos, length-append}
use Rattle.std.specs.Prelude.{nat_eq, nat_le, map, slice_get, option_map, option_and_then}
use Rattle.std.specs.Bool.{then_some}
use Rattle.std.specs.List.{list_all}
use Rattle.std.proofs.lemmas.Bool.{le-leb, lt-leb, eq-eqb}
use Rattle.std.proofs.lemmas.List.{take_more, length-map}
use Rattle.std.proofs.lemmas.List.Folds.{list_all_at, list_all-append}
use Rattle.std.proofs.lemmas.List.Sums.{fold_push}
use Rattle.std.proofs.lemmas.Option.{slice_get-map, slice_get_past, slice_get_within, get_or_from_slice_get}
use Rattle.tfpg_base.specs.Choice.{each_of, item_at}
use Rattle.tfpg_base.specs.declared.constraint.Constraint.{Constraint}
use Rattle.tfpg_base.proofs.lemmas.lists.Choices.{each_of-map_at, each_of-map_none, each_of-map_push, length-each_of_map, then_some-true}
use Rattle.tfpg_log.specs.declared.span.Window.{Window}
use Rattle.tfpg_clause.specs.Clauses.{Due}
use Rattle.tfpg_base.specs.Bounds.{at_most}
use Rattle.tfpg_clause.specs.Clauses.{starts_late, follows_in_time, latest_of, must_alternatives, must_in}
use Rattle.tfpg_clause.specs.inside.Alternatives.{latest_within}
use Rattle.tfpg_base.proofs.lemmas.lists.Written.{slice_get-append_left, slice_get-append_right}

-- there is room for the due
abbrev pub fits : ℕ → Due → Bool
fits hi due = nat_le due.by hi

-- the dues of a window with room for them
pub within_opened : (hi latest : ℕ) (dues : Option (List Due)) → latest_within hi dues ≡ Some latest
    → (ds : List Due) × (dues ≡ Some ds) × (list_all (fits hi) ds ≡ true) × (latest_of ds ≡ latest)
within_opened hi latest None at = absurd cc
within_opened hi latest (Some ds) at =
    let parts = then_some-true (list_all (fits hi) ds) (latest_of ds) latest at in (ds, refl, parts.0, parts.1)

module _ (f : ℕ → Option Due) (edges : List ℕ) (i hi : ℕ) (within : i < length edges) where
  -- with one more that is due in time
  pub latest_more : (latest : ℕ) (due : Due) → Some due ≡ f (get_or edges i 0) → due.by ≤ hi
      → (latest_within hi (each_of (map f (take i edges))) ≡ Some latest) × (latest ≤ hi)
      → (latest_within hi (each_of (map f (take (i + 1) edges))) ≡ Some (max latest due.by)) × (max latest due.by ≤ hi)
  latest_more latest due at fit before =
      let parts = within_opened hi latest (each_of (map f (take i edges))) before.0 in
      let all : each_of (map f (take (i + 1) edges)) ≡ Some (parts.0 ++ due ∷ []) =
      ap (λ (es : List ℕ). each_of (map f es)) (take_more edges i 0 within)
      ∙ each_of-map_push f (take i edges) (get_or edges i 0) parts.0 due parts.1 (sym at) in
      let room : list_all (fits hi) (parts.0 ++ due ∷ []) ≡ true =
      list_all-append (fits hi) parts.0 (due ∷ []) ∙ both (list_all (fits hi) parts.0) (fits hi due) parts.2 (le-leb due.by hi fit) in
      let last : latest_of (parts.0 ++ due ∷ []) ≡ max latest due.by =
      fold_push (λ (time : ℕ) (d : Due). max time d.by) 0 parts.0 due ∙ ap (λ time. max time due.by) parts.3 in
      (ap (latest_within hi) all ∙ (λ j. then_some (room j) (last j)), omega (arith, before.1, fit))
    where
      both : (a b : Bool) → a ≡ true → b ≡ true → (a && (b && true)) ≡ true
      both true true p q = refl
      both true false p q = q
      both false b p q = p

  -- where nothing is due over one of them
  pub latest_missing : None ≡ f (get_or edges i 0) → latest_within hi (each_of (map f edges)) ≡ None
  latest_missing at = ap (latest_within hi) (each_of-map_none f edges i 0 within (sym at))

  -- where one is due too late
  pub latest_over : (due : Due) → Some due ≡ f (get_or edges i 0) → hi < due.by → latest_within hi (each_of (map f edges)) ≡ None
  latest_over due at late = by (each_of (map f edges)) refl
    where
      there : (ds : List Due) → each_of (map f edges) ≡ Some ds → slice_get ds i ≡ Some due
      there ds are = sym (each_of-map_at f edges ds i 0 within are) ∙ sym at

      by : (dues : Option (List Due)) → each_of (map f edges) ≡ dues → latest_within hi dues ≡ None
      by None are = refl
      by (Some ds) are =
          let no_room : fits hi (get_or ds i due) ≡ false =
          ap (fits hi) (get_or_from_slice_get ds i due due (there ds are)) ∙ lt-leb due.by hi late in
          ap (λ (b : Bool). then_some b (latest_of ds)) (list_all_at (fits hi) ds i due (slice_get_within ds i due (there ds are)) no_room)

-- ---- the alternatives of a must, in their order

module _ (node hi : ℕ) (ds : List Due) (alternative index : ℕ) where
  late : List (List Constraint)
  late = map (starts_late hi) ds

  by_index : alternative ≡ index + 1 → item_at (must_alternatives node hi ds) alternative ≡ slice_get (must_alternatives node hi ds) index
  by_index is = let same : alternative ≡ suc index = omega arith in ap (item_at (must_alternatives node hi ds)) same

  -- one of the first is that a source starts late
  pub late_at : (due : Due) → alternative ≡ index + 1 → slice_get ds index ≡ Some due → index < length ds
      → item_at (must_alternatives node hi ds) alternative ≡ Some (starts_late hi due)
  late_at due is at within =
      by_index is
      ∙ slice_get-append_left (map (starts_late hi) ds ++ map follows_in_time ds) _ index
      (omega (arith, length-append (map (starts_late hi) ds) (map follows_in_time ds), length-map ds (starts_late hi), within))
      ∙ slice_get-append_left (map (starts_late hi) ds) (map follows_in_time ds) index
      (omega (arith, length-map ds (starts_late hi), within))
      ∙ slice_get-map (starts_late hi) ds index ∙ ap (option_map (starts_late hi)) at

  -- one of the next is that the target follows in time
  pub follows_at : (due : Due) (due_index : ℕ) → alternative ≡ index + 1 → index ≡ length ds + due_index → slice_get ds due_index ≡ Some due
      → due_index < length ds
      → item_at (must_alternatives node hi ds) alternative ≡ Some (follows_in_time due)
  follows_at due due_index is from at within =
      let same : index ≡ length (map (starts_late hi) ds) + due_index = omega (arith, from, length-map ds (starts_late hi)) in
      by_index is
      ∙ slice_get-append_left (map (starts_late hi) ds ++ map follows_in_time ds) _ index
      (omega (
        arith,
        length-append (map (starts_late hi) ds) (map follows_in_time ds),
        length-map ds (starts_late hi),
        length-map ds follows_in_time,
        within,
        from,
      ))
      ∙ ap (slice_get (map (starts_late hi) ds ++ map follows_in_time ds)) same
      ∙ slice_get-append_right (map (starts_late hi) ds) (map follows_in_time ds) due_index
      ∙ slice_get-map follows_in_time ds due_index ∙ ap (option_map follows_in_time) at

  both_lengths : length (map (starts_late hi) ds ++ map follows_in_time ds) ≡ 2 * length ds
  both_lengths =
      omega (
        arith,
        length-append (map (starts_late hi) ds) (map follows_in_time ds),
        length-map ds (starts_late hi),
        length-map ds follows_in_time,
      )

  -- the last is that the target is active by the latest
  pub last_at : alternative ≡ index + 1 → index ≡ 2 * length ds
      → item_at (must_alternatives node hi ds) alternative ≡ Some (at_most node (pos (latest_of ds)) ∷ [])
  last_at is last =
      let same : index ≡ length (map (starts_late hi) ds ++ map follows_in_time ds) + 0 = omega (arith, last, both_lengths) in
      by_index is ∙ ap (slice_get (must_alternatives node hi ds)) same
      ∙ slice_get-append_right (map (starts_late hi) ds ++ map follows_in_time ds) ((at_most node (pos (latest_of ds)) ∷ []) ∷ []) 0

  -- there are no more
  pub none_past : alternative ≡ index + 1 → 2 * length ds < index → item_at (must_alternatives node hi ds) alternative ≡ None
  none_past is past =
      by_index is
      ∙ slice_get_past (must_alternatives node hi ds) index
      (omega (
        arith,
        length-append (map (starts_late hi) ds ++ map follows_in_time ds) ((at_most node (pos (latest_of ds)) ∷ []) ∷ []),
        both_lengths,
        past,
      ))

-- how many alternatives there are
pub must_length : (node hi : ℕ) (ds : List Due) → length (must_alternatives node hi ds) ≡ 2 * length ds + 1
must_length node hi ds =
    omega (
      arith,
      length-append (map (starts_late hi) ds ++ map follows_in_time ds) ((at_most node (pos (latest_of ds)) ∷ []) ∷ []),
      length-append (map (starts_late hi) ds) (map follows_in_time ds),
      length-map ds (starts_late hi),
      length-map ds follows_in_time,
    )

-- how many alternatives a must has in a window that begins with its span and has room for all
pub must_counted : (f : ℕ → Option Due) (edges : List ℕ) (target number latest : ℕ) (window : Window) → window.first ≡ number
    → latest_within window.hi (each_of (map f edges)) ≡ Some latest
    → Some (2 * length edges + 1) ≡ option_map length (option_and_then (λ dues. must_in target number window dues) (each_of (map f edges)))
must_counted f edges target number latest window first within =
    let parts = within_opened window.hi latest (each_of (map f edges)) within in
    let begins : nat_eq window.first number ≡ true = eq-eqb window.first number first in
    let count : 2 * length edges + 1 ≡ length (must_alternatives target window.hi parts.0) =
    omega (arith, must_length target window.hi parts.0, length-each_of_map f edges parts.0 parts.1) in
    ap Some count
    ∙ sym ((λ i. option_map length (then_some (begins i && parts.2 i) (must_alternatives target window.hi parts.0))))
    ∙ sym (ap (λ (dues : Option (List Due)). option_map length (option_and_then (λ ds. must_in target number window ds) dues)) parts.1)

-- the latest of the dues of a window with room for them
pub latest_is : (hi latest : ℕ) (ds : List Due) → latest_within hi (Some ds) ≡ Some latest → latest ≡ latest_of ds
latest_is hi latest ds at = sym (then_some-true (list_all (fits hi) ds) (latest_of ds) latest at).1
