-- What moves do to the system of a search.
use Rattle.std.proofs.Common.{◌≡◌, ℕ, zero, suc, ◌+◌, ◌<◌, List, [], ◌∷◌, ◌++◌, length, take, get_or, false, Option, Some, None, refl, sym, ap, subst, ◌∙◌, inl, inr, arith, length-append}
use Rattle.std.specs.Prelude.{slice_get, option_and_then}
use Rattle.std.specs.Option.{option_map_or}
use Rattle.std.proofs.lemmas.List.{take-append-le, take_more, take_at, length-take-le}
use Rattle.std.proofs.lemmas.List.Elements.{All-push}
use Rattle.std.proofs.lemmas.Option.{slice_get_within, slice_get-get_or}
use Rattle.tfpg_base.specs.declared.constraint.Constraint.{Constraint}
use Rattle.tfpg_graph.specs.Graph.{Tfpg}
use Rattle.tfpg_log.specs.Log.{Logbook}
use Rattle.tfpg_evidence.specs.declared.clause_name.ClauseName.{ClauseName}
use Rattle.tfpg_evidence.specs.declared.clause_name.ClauseName.TheVariants.{OrMay}
use Rattle.tfpg_evidence.specs.declared.reason.Reason.{Reason}
use Rattle.tfpg_evidence.specs.declared.reason.Reason.TheVariants.{Zero, Top, Unreached, From, Upto, Quiet, Pick}
use Rattle.tfpg_clause.specs.Facts.{fact}
use Rattle.tfpg_clause.specs.Clauses.{alternatives, count_of, constraint_at}
use Rattle.tfpg_base.specs.Choice.{item_at}
use Rattle.tfpg_clause.specs.declared.path.PathSplit.{PathSplit}
use Rattle.tfpg_search.specs.inside.Leaf.{Leaf, pick_reasons, IsStated}
use Rattle.tfpg_search.specs.inside.Picks.{IsAllowed, IsInRange, constraint_count, picks_from, picks_of}
use Rattle.tfpg_search.specs.inside.Leaving.{constraint_count_at, KeepsBounds, Leaves, Pushing}
use Rattle.tfpg_search.specs.SearchState.{SearchState}
use Rattle.tfpg_search.specs.inside.AtItsLeaf.{IsAtItsLeaf, HasEnteredAll}
use Rattle.tfpg_search.proofs.lemmas.steps.DistinctNames.{range_push}
use Rattle.tfpg_search.proofs.lemmas.leaves.PicksOfPath.{of_split, picks_last, picks_cited}
use Rattle.tfpg_search.proofs.lemmas.steps.PathAfter.{all_cited}
use Rattle.tfpg_clause.proofs.lemmas.trees.Marks.{item_cited, length-cited}
use Rattle.tfpg_base.proofs.lemmas.lists.Choices.{option_and_then-some}
use Rattle.tfpg_base.proofs.lemmas.lists.Written.{slice_get-push_cases, slice_get-push_last, slice_get-append_some}
use Rattle.tfpg_clause.specs.inside.MarkedTrees.{picked_on, stated_on}
use Rattle.tfpg_clause.specs.Paths.{new_split, cited_by}
use Rattle.tfpg_clause.specs.Case.{case_of}

-- ---- what is stated

module _ (facts stated other : Reason → Option Constraint) (leaf : Leaf) where
  -- all is stated by other reasons that state what the picks do
  pub restated : IsStated facts stated leaf → ((r : Reason) (c : Constraint) → facts r ≡ Some c → other r ≡ Some c)
      → ((index : ℕ) (r : Reason) (c : Constraint) → slice_get (pick_reasons leaf) index ≡ Some r → stated r ≡ Some c → other r ≡ Some c) → IsStated facts other leaf
  restated is wider same = record {
    wider = wider;
    bounds = is.bounds;
    picks = λ index pick at.
        let one = option_and_then-some stated (slice_get (pick_reasons leaf) index) pick.constraint (is.picks index pick at) in
        ap (option_and_then other) one.1 ∙ same index one.0 pick.constraint one.1 one.2;
  }

-- what is read past the end
abbrev no_split : PathSplit
no_split = record { name = OrMay 0 0 0; alternative = 0; alternatives = 0; cited = false; reusable = false }

module _ (graph : Tfpg) (log : Logbook) where
  pub of_same : (one other : Option PathSplit) (number : ℕ) (c : Constraint) → ((f : PathSplit) → one ≡ Some f → other ≡ Some f) → of_split graph log one number ≡ Some c → of_split graph log other number ≡ Some c
  of_same None other number c same is = cc
  of_same (Some f) other number c same is = ap (λ (o : Option PathSplit). of_split graph log o number) (same f refl) ∙ is

  picked_push : (path : List PathSplit) (last : PathSplit) (split number : ℕ) (c : Constraint) → picked_on graph log path split number ≡ Some c → picked_on graph log (path ++ last ∷ []) split number ≡ Some c
  picked_push path last zero number c is = cc
  picked_push path last (suc k) number c is = of_same (slice_get path k) (slice_get (path ++ last ∷ []) k) number c (λ f at. slice_get-append_some path (last ∷ []) k f at) is

  module _ (reach : List ℕ) where
    pub states_more : (path others : List PathSplit) → ((split number : ℕ) (c : Constraint) → picked_on graph log path split number ≡ Some c → picked_on graph log others split number ≡ Some c)
        → (r : Reason) (c : Constraint) → stated_on (case_of graph log reach) path r ≡ Some c → stated_on (case_of graph log reach) others r ≡ Some c
    states_more path others more (Pick split number) c is = more split number c is
    states_more path others more (Zero node) c is = is
    states_more path others more (Top node) c is = is
    states_more path others more (Unreached node horizon) c is = is
    states_more path others more (From event) c is = is
    states_more path others more (Upto event) c is = is
    states_more path others more (Quiet event node) c is = is

    -- a fact is stated on any path
    pub fact_stated : (path : List PathSplit) (r : Reason) (c : Constraint) → fact (case_of graph log reach) r ≡ Some c → stated_on (case_of graph log reach) path r ≡ Some c
    fact_stated path (Pick split number) c is = cc
    fact_stated path (Zero node) c is = is
    fact_stated path (Top node) c is = is
    fact_stated path (Unreached node horizon) c is = is
    fact_stated path (From event) c is = is
    fact_stated path (Upto event) c is = is
    fact_stated path (Quiet event node) c is = is

  module _ (old : SearchState) (at : IsAtItsLeaf graph log old) where
    -- ---- the system changes, and its picks stay

    pub leaf_stands : (leaf : Leaf) → length leaf.demands.bounds ≡ length old.leaf.demands.bounds → IsStated (fact (case_of graph log old.reach)) (stated_on (case_of graph log old.reach) old.path) leaf
        → pick_reasons leaf ≡ pick_reasons old.leaf → IsAtItsLeaf graph log (record old { leaf = leaf })
    leaf_stands leaf variables is_stated reasons = record {
      reach_is = at.reach_is;
      variables = variables ∙ at.variables;
      allowed = at.allowed;
      range = at.range;
      stated = is_stated;
      picks = record { few = at.picks.few; many = at.picks.many; counts = at.picks.counts; reasons = reasons ∙ at.picks.reasons };
    }

    -- ---- splits on the path are cited

    cited_stated : (reasons : List Reason) (r : Reason) (c : Constraint) → stated_on (case_of graph log old.reach) old.path r ≡ Some c → stated_on (case_of graph log old.reach) (cited_by reasons old.path) r ≡ Some c
    cited_stated reasons r c is =
        states_more old.reach old.path (cited_by reasons old.path)
        (λ split number c is.
        item_cited (λ (taken : PathSplit). option_and_then (λ clause. constraint_at clause taken.alternative number) (alternatives graph log taken.name)) (λ cited taken. refl) reasons old.path split ∙ is)
        r c is

    pub cited_stands : (reasons : List Reason) → IsAtItsLeaf graph log (record old { path = cited_by reasons old.path })
    cited_stands reasons =
        let long : length (cited_by reasons old.path) ≡ length old.path = length-cited 1 reasons old.path in
        record {
          reach_is = at.reach_is;
          variables = at.variables;
          allowed = all_cited (IsAllowed graph log) (λ split cited allowed. allowed) 1 reasons old.path at.allowed;
          range = all_cited IsInRange (λ split cited is. record { first = is.first; last = is.last }) 1 reasons old.path at.range;
          stated =
              restated (fact (case_of graph log old.reach)) (stated_on (case_of graph log old.reach) old.path) (stated_on (case_of graph log old.reach) (cited_by reasons old.path)) old.leaf at.stated
              (λ r c is. fact_stated old.reach (cited_by reasons old.path) r c is)
              (λ index r c there is. cited_stated reasons r c is);
          picks = record {
            few = (let few = at.picks.few in omega arith);
            many = (let many = at.picks.many in omega arith);
            counts = λ split before there. at.picks.counts split before there ∙ ap (λ (rs : List Reason). length rs) (sym (picks_cited graph log 1 reasons old.path split));
            reasons = at.picks.reasons ∙ sym (picks_cited graph log 1 reasons old.path (length old.entered));
          };
        }

    -- ---- a split is appended to the path

    pub split_stands : (name : ClauseName) (count : ℕ) → HasEnteredAll old → count_of graph log name ≡ Some count → 0 < count
        → IsAtItsLeaf graph log (record old { path = old.path ++ new_split name count ∷ [] })
    split_stands name count all counted some =
        let taken : PathSplit = new_split name count in
        let long : length (old.path ++ taken ∷ []) ≡ length old.path + 1 = length-append old.path (taken ∷ []) in
        record {
          reach_is = at.reach_is;
          variables = at.variables;
          allowed = All-push (IsAllowed graph log) old.path taken at.allowed counted;
          range = range_push graph log old.path name count at.range some;
          stated =
              restated (fact (case_of graph log old.reach)) (stated_on (case_of graph log old.reach) old.path) (stated_on (case_of graph log old.reach) (old.path ++ taken ∷ [])) old.leaf at.stated
              (λ r c is. fact_stated old.reach (old.path ++ taken ∷ []) r c is)
              (λ index r c there is. states_more old.reach old.path (old.path ++ taken ∷ []) (picked_push old.path taken) r c is);
          picks = record {
            few = omega arith;
            many = omega arith;
            counts = λ split before there.
                let within = slice_get_within old.entered split before there in
                at.picks.counts split before there
                ∙ ap (λ (fs : List PathSplit). length (picks_of graph log fs)) (sym (take-append-le split old.path (taken ∷ []) (omega arith)));
            reasons =
                at.picks.reasons ∙ ap (λ (fs : List PathSplit). picks_of graph log fs) (sym (take-append-le (length old.entered) old.path (taken ∷ []) (omega arith)));
          };
        }

    -- ---- the alternative of the last split is entered

    module _ (not_all : HasEnteredAll old → ⊥) where
      one_left : length old.path ≡ length old.entered + 1
      one_left = let few = at.picks.few in let many = at.picks.many in grind arith

      abbrev last_split : PathSplit
      last_split = get_or old.path (length old.entered) no_split

      last_at : slice_get old.path (length old.entered) ≡ Some last_split
      last_at = slice_get-get_or old.path (length old.entered) no_split (let one = one_left in omega arith)

      whole_path : take (length old.entered + 1) old.path ≡ take (length old.entered) old.path ++ last_split ∷ []
      whole_path = take_more old.path (length old.entered) no_split (let one = one_left in omega arith)

      last_count : constraint_count_at graph log old.path (length old.entered + 1) ≡ constraint_count graph log last_split
      last_count =
          let number : length old.entered + 1 ≡ suc (length old.entered) = omega arith in
          ap (λ (n : ℕ). option_map_or (constraint_count graph log) (item_at old.path n) 0) number
          ∙ ap (λ (o : Option PathSplit). option_map_or (constraint_count graph log) o 0) last_at

      all_picks : (leaf : Leaf) → pick_reasons leaf ≡ pick_reasons old.leaf ++ picks_from (length old.entered + 1) 1 (constraint_count_at graph log old.path (length old.entered + 1))
          → pick_reasons leaf ≡ picks_of graph log (take (length old.entered + 1) old.path)
      all_picks leaf pushed =
          let front : List PathSplit = take (length old.entered) old.path in
          let short : length front ≡ length old.entered = length-take-le (length old.entered) old.path (let one = one_left in omega arith) in
          let number : 1 + length front ≡ length old.entered + 1 = omega arith in
          pushed
          ∙ ap (λ (rs : List Reason). rs ++ picks_from (length old.entered + 1) 1 (constraint_count_at graph log old.path (length old.entered + 1))) at.picks.reasons
          ∙ ap (λ (n : ℕ). picks_of graph log front ++ picks_from (length old.entered + 1) 1 n) last_count
          ∙ ap (λ (n : ℕ). picks_of graph log front ++ picks_from n 1 (constraint_count graph log last_split)) (sym number)
          ∙ sym (picks_last graph log 1 front last_split)
          ∙ ap (λ (fs : List PathSplit). picks_of graph log fs) (sym whole_path)

      abbrev marked : List ℕ
      marked = old.entered ++ length (pick_reasons old.leaf) ∷ []

      marked_long : length marked ≡ length old.entered + 1
      marked_long = length-append old.entered (length (pick_reasons old.leaf) ∷ [])

      counted_now : (split before : ℕ) → slice_get marked split ≡ Some before → before ≡ length (picks_of graph log (take split old.path))
      counted_now split before there = elim (slice_get-push_cases old.entered (length (pick_reasons old.leaf)) split before there) [
        | inl earlier ↦ at.picks.counts split before earlier
        | inr last ↦
            sym last.1 ∙ ap (λ (rs : List Reason). length rs) at.picks.reasons ∙ ap (λ (n : ℕ). length (picks_of graph log (take n old.path))) (sym last.0)
      ]

      pub enter_stands : (leaf : Leaf) → Pushing (case_of graph log old.reach) old.path old.leaf leaf
          → pick_reasons leaf ≡ pick_reasons old.leaf ++ picks_from (length old.entered + 1) 1 (constraint_count_at graph log old.path (length old.entered + 1))
          → IsAtItsLeaf graph log (record old { entered = old.entered ++ length (pick_reasons old.leaf) ∷ []; leaf = leaf })
      enter_stands leaf pushing pushed = record {
        reach_is = at.reach_is;
        variables = pushing.variables ∙ at.variables;
        allowed = at.allowed;
        range = at.range;
        stated = pushing.stated;
        picks = record {
          few = (let m = marked_long in let one = one_left in omega arith);
          many = (let m = marked_long in let one = one_left in omega arith);
          counts = counted_now;
          reasons = all_picks leaf pushed ∙ ap (λ (n : ℕ). picks_of graph log (take n old.path)) (sym marked_long);
        };
      }

    -- ---- it is left again

    pub left_again : (pushed left : Leaf) → Pushing (case_of graph log old.reach) old.path old.leaf pushed
        → Leaves (slice_get (old.entered ++ length (pick_reasons old.leaf) ∷ []) (length old.entered)) pushed left
        → IsAtItsLeaf graph log (record old { entered = take (length old.entered) (old.entered ++ length (pick_reasons old.leaf) ∷ []); leaf = left })
    left_again pushed left pushing leaves =
        let count : ℕ = length (pick_reasons old.leaf) in
        let there : slice_get (old.entered ++ count ∷ []) (length old.entered) ≡ Some count = slice_get-push_last old.entered count in
        let gone : KeepsBounds pushed left × (pick_reasons left ≡ take count (pick_reasons pushed)) = subst (λ (o : Option ℕ). Leaves o pushed left) there leaves in
        let back : pick_reasons left ≡ pick_reasons old.leaf =
        gone.1 ∙ ap (λ (rs : List Reason). take count rs) pushing.more.1 ∙ take_at (pick_reasons old.leaf) pushing.more.0 count refl in
        subst (λ (es : List ℕ). IsAtItsLeaf graph log (record old { entered = es; leaf = left })) (sym (take_at old.entered (count ∷ []) (length old.entered) refl))
        (leaf_stands left (gone.0.variables ∙ pushing.variables) (gone.0.stated (fact (case_of graph log old.reach)) (stated_on (case_of graph log old.reach) old.path) pushing.stated) back)
