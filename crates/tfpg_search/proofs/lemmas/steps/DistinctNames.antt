-- The names on the path of a search: no name stands twice, since the latest solution meets the clause of each.
use Rattle.std.proofs.Common.{◌≡◌, ◌≢◌, ℕ, zero, suc, ◌+◌, ◌<◌, ◌≤◌, List, [], ◌∷◌, ◌++◌, length, get_or, Some, refl, sym, ap, subst, ◌∙◌, arith, append_assoc}
use Rattle.std.specs.Prelude.{All, AllPairs, map, slice_get, option_map, option_and_then}
use Rattle.std.proofs.lemmas.List.{map-append}
use Rattle.std.proofs.lemmas.List.Elements.{All-nil, All-cons, All-head, All-tail, All-get_or, All-map, All-append, Contains-get_or}
use Rattle.std.proofs.lemmas.List.Quantifiers.{all_pairs_push}
use Rattle.std.proofs.lemmas.Option.{slice_get-get_or}
use Rattle.tfpg_base.specs.declared.constraint.Constraint.{Constraint}
use Rattle.tfpg_base.specs.Constraint.{Meets}
use Rattle.tfpg_graph.specs.Graph.{Tfpg}
use Rattle.tfpg_log.specs.Log.{Logbook}
use Rattle.tfpg_evidence.specs.declared.clause_name.ClauseName.{ClauseName}
use Rattle.tfpg_clause.specs.Clauses.{alternatives, constraint_at, MeetsClause, Violates}
use Rattle.tfpg_base.specs.Choice.{item_at}
use Rattle.tfpg_evidence.specs.declared.reason.Reason.{Reason}
use Rattle.tfpg_clause.specs.Trees.{Chosen}
use Rattle.tfpg_clause.specs.declared.path.PathSplit.{PathSplit}
use Rattle.tfpg_search.specs.inside.Picks.{IsAllowed, IsInRange, AreInRange}
use Rattle.tfpg_base.proofs.lemmas.lists.Elements.{All-front, All-from_indexes, AllPairs-front}
use Rattle.tfpg_search.proofs.lemmas.steps.PathAfter.{Moved, all_after}
use Rattle.tfpg_clause.specs.inside.MarkedTrees.{picked_on}
use Rattle.tfpg_clause.specs.Paths.{chosen_on, new_split, next_alternative, cited_from}
use Rattle.tfpg_search.specs.Live.{HasDistinctNames}

-- the name of a split
abbrev pub split_name : PathSplit → ClauseName
split_name split = split.name

-- no name stands twice on a path with marks
abbrev pub AreDistinct : List PathSplit → Type 0
AreDistinct path = AllPairs ◌≢◌ (map split_name path)

-- marks say nothing of names
names_chosen : (path : List PathSplit) → map (λ (chosen : Chosen). chosen.name) (chosen_on path) ≡ map split_name path
names_chosen [] = refl
names_chosen (split ∷ deeper) = ap (λ (ns : List ClauseName). split.name ∷ ns) (names_chosen deeper)

pub chosen_distinct : (path : List PathSplit) → AreDistinct path → HasDistinctNames (chosen_on path)
chosen_distinct path distinct = subst (AllPairs ◌≢◌) (sym (names_chosen path)) distinct

pub distinct_chosen : (path : List PathSplit) → HasDistinctNames (chosen_on path) → AreDistinct path
distinct_chosen path distinct = subst (AllPairs ◌≢◌) (names_chosen path) distinct

-- ---- the splits on allowed clauses, in one of their alternatives

module _ (graph : Tfpg) (log : Logbook) where
  module _ (times : List ℕ) where
    -- The times meet a clause, where they meet each constraint of one of its alternatives.
    met_by : (clause : List (List Constraint)) (number : ℕ) → 1 ≤ number → number ≤ length clause
        → ((index : ℕ) (constraint : Constraint) → constraint_at clause number index ≡ Some constraint → Meets times constraint) → MeetsClause times clause
    met_by clause zero low high each = absurd (omega arith)
    met_by clause (suc before) low high each =
        let there : slice_get clause before ≡ Some (get_or clause before []) = slice_get-get_or clause before [] (omega arith) in (
          get_or clause before [],
          Contains-get_or clause before [] (omega arith),
          All-from_indexes (Meets times) (get_or clause before [])
              (λ index constraint at. each (suc index) constraint (ap (option_and_then (λ (a : List Constraint). item_at a (suc index))) there ∙ at)),
        )

    -- the constraints of the alternative of a split are met
    abbrev IsMet : PathSplit → Type 0
    IsMet taken =
        (index : ℕ) (constraint : Constraint)
        → option_and_then (λ clause. constraint_at clause taken.alternative index) (alternatives graph log taken.name) ≡ Some constraint → Meets times constraint

    not_violated : (taken : PathSplit) → IsInRange taken → IsAllowed graph log taken → IsMet taken → Violates graph log times taken.name → ⊥
    not_violated taken range allowed met violates =
        let long : Some (length violates.clause) ≡ Some taken.alternatives = sym (ap (option_map length) violates.allowed) ∙ allowed in
        let same : length violates.clause ≡ taken.alternatives = cc in
        violates.not_met
        (met_by violates.clause taken.alternative range.first (omega (arith, range.last, same))
        (λ index constraint at. met index constraint (ap (option_and_then (λ clause. constraint_at clause taken.alternative index)) violates.allowed ∙ at)))

    others : (path : List PathSplit) (name : ClauseName) → AreInRange path → All (IsAllowed graph log) path → ((index : ℕ) (taken : PathSplit) → slice_get path index ≡ Some taken → IsMet taken)
        → Violates graph log times name → All (λ (taken : PathSplit). taken.name ≢ name) path
    others [] name range allowed met violates = All-nil (λ (taken : PathSplit). taken.name ≢ name)
    others (taken ∷ path) name range allowed met violates =
        All-cons (λ (f : PathSplit). f.name ≢ name) taken path
        (λ same. not_violated taken (All-head IsInRange taken path range) (All-head (IsAllowed graph log) taken path allowed) (met 0 taken refl) (subst (λ (n : ClauseName). Violates graph log times n) (sym same) violates))
        (others path name (All-tail IsInRange taken path range) (All-tail (IsAllowed graph log) taken path allowed) (λ index f at. met (suc index) f at) violates)

    -- A clause that the times violate is that of no split, where they meet each pick.
    pub new_name : (path : List PathSplit) (name : ClauseName) → AreInRange path → All (IsAllowed graph log) path
        → ((split index : ℕ) (constraint : Constraint) → picked_on graph log path split index ≡ Some constraint → Meets times constraint)
        → Violates graph log times name → All (λ (n : ClauseName). n ≢ name) (map split_name path)
    new_name path name range allowed picks violates =
        All-map (λ (n : ClauseName). n ≢ name) split_name path
        (others path name range allowed
        (λ index taken at where_ constraint is.
        picks (suc index) where_ constraint
        (ap (option_and_then (λ (f : PathSplit). option_and_then (λ clause. constraint_at clause f.alternative where_) (alternatives graph log f.name))) at ∙ is))
        violates)

-- ---- a new split, and the next one

pub distinct_push : (path : List PathSplit) (taken : PathSplit) → AreDistinct path → All (λ (n : ClauseName). n ≢ taken.name) (map split_name path) → AreDistinct (path ++ taken ∷ [])
distinct_push path taken distinct fresh =
    subst (AllPairs ◌≢◌) (sym (map-append split_name path (taken ∷ [])))
    (all_pairs_push ◌≢◌ (map split_name path) taken.name distinct (λ k d within. All-get_or (λ (n : ClauseName). n ≢ taken.name) (map split_name path) k d within fresh))

-- marks leave names as they are
names_cited : (number : ℕ) (reasons : List Reason) (path : List PathSplit) → map split_name (cited_from number reasons path) ≡ map split_name path
names_cited number reasons [] = refl
names_cited number reasons (taken ∷ deeper) = ap (λ (ns : List ClauseName). taken.name ∷ ns) (names_cited (number + 1) reasons deeper)

-- the names on the path after are the first names on the path
names_front : (path after : List PathSplit) → Moved path after → (rest : List ClauseName) × (map split_name path ≡ map split_name after ++ rest)
names_front path after moved =
    let a = moved.1 in
    let rest : List ClauseName = map split_name a.deeper in (
      rest,
      sym (names_cited 1 moved.0 path)
          ∙ ap (map split_name) a.path_is
          ∙ map-append split_name a.front (a.taken ∷ a.deeper)
          ∙ sym (append_assoc (map split_name a.front) (a.taken.name ∷ []) rest)
          ∙ ap (λ (ns : List ClauseName). ns ++ rest) (sym (ap (map split_name) a.next_is ∙ map-append split_name a.front (next_alternative a.taken ∷ []))),
    )

-- a split with an alternative left is in range in the next one too
pub range_next : (taken : PathSplit) → taken.alternative < taken.alternatives → IsInRange taken → IsInRange (next_alternative taken)
range_next taken more low = record { first = omega arith; last = omega (arith, more) }

pub range_after : (path after : List PathSplit) → AreInRange path → Moved path after → AreInRange after
range_after path after range moved = all_after IsInRange (λ taken cited is. record { first = is.first; last = is.last }) range_next path after moved range

-- what holds of the names on a path holds of those on the path after
pub names_after : (P : ClauseName → Type 0) (path after : List PathSplit) → Moved path after → All P (map split_name path) → All P (map split_name after)
names_after P path after is all =
    let front = names_front path after is in
    All-front P (map split_name after) front.0 (subst (All P) front.1 all)

pub distinct_after : (path after : List PathSplit) → Moved path after → AreDistinct path → AreDistinct after
distinct_after path after is distinct =
    let front = names_front path after is in
    AllPairs-front ◌≢◌ (map split_name after) front.0 (subst (AllPairs ◌≢◌) front.1 distinct)

-- a new split is in its first alternative, which there is
pub range_push : (graph : Tfpg) (log : Logbook) (path : List PathSplit) (name : ClauseName) (count : ℕ) → AreInRange path → 0 < count
    → All IsInRange (path ++ new_split name count ∷ [])
range_push graph log path name count range some =
    All-append IsInRange path (new_split name count ∷ []) range
    (All-cons IsInRange (new_split name count) [] (record { first = omega arith; last = omega (arith, some) }) (All-nil IsInRange))
