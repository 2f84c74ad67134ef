-- A round is told to one panel after another.
use Rattle.std.proofs.Common.{◌≡◌, ℕ, suc, zero, ◌+◌, ◌-◌, ◌<◌, ◌≤◌, List, [], ◌∷◌, ◌++◌, length, map, filter, remove, slice_set, All, AllPairs, Contains, Bool, is_ok, Some, Result, Ok, Err, refl, sym, ap, subst, ◌∙◌, arith, append_assoc, cond}
use Rattle.std.specs.Prelude.{slice_get}
use Rattle.std.proofs.lemmas.List.{map-append, length-append, length-set, append-nil, nil_from_length}
use Rattle.std.proofs.lemmas.List.Edits.{remove-append_right}
use Rattle.std.proofs.lemmas.List.Elements.{All-nil, All-push, All-contains, Contains-append_left, Contains-push, filter_map-append}
use Rattle.std.proofs.lemmas.Option.{same_Some, slice_get_within}
use Rattle.tfpg_base.proofs.lemmas.lists.Elements.{All-from_members, AllPairs-across, Contains-head, Contains-middle}
use Rattle.tfpg_base.proofs.lemmas.lists.Filtered.{filter-push_yes, filter-push_no}
use Rattle.tfpg_base.proofs.lemmas.lists.Images.{Contains-map}
use Rattle.tfpg_base.proofs.lemmas.lists.Written.{slice_get-after, slice_get-set_other, slice_get-set_same}
use Rattle.tfpg_evidence.specs.declared.round.Round.{Round}
use Rattle.tfpg_panel.specs.declared.panel.PanelFault.{PanelFault}
use Rattle.tfpg_panel.specs.Panel.{PanelState, Hears}
use Rattle.tfpg_panel.specs.Desk.{DeskState, KeepsPanels, Telling, HearsAt, IsTold, kept_of, losses_of, panel_numbered}
use Rattle.tfpg_panel.specs.inside.Telling.{IsTelling, TellsAt, desk_after}

-- what stands after a front is the first of the rest
first_left : (front left : List ℕ) (x : ℕ) → slice_get (front ++ left) (length front) ≡ Some x → (others : List ℕ) × (left ≡ x ∷ others)
first_left front [] x at = absurd (omega (arith, slice_get_within (front ++ []) (length front) x at, length-append front []))
first_left front (y ∷ others) x at = (others, ap (λ (z : ℕ). z ∷ others) (same_Some y x (sym (slice_get-after front y others) ∙ at)))

-- without the first after a front
without_first : (front : List ℕ) (x : ℕ) (others : List ℕ) (place : ℕ) → place ≡ length front → remove (front ++ x ∷ others) place ≡ front ++ others
without_first front x others place at =
    let none : place - length front ≡ 0 = omega (arith, at) in
    remove-append_right front (x ∷ others) (length front) place refl (omega (arith, at)) ∙ ap (λ (n : ℕ). front ++ remove (x ∷ others) n) none

-- ---- the panels of a desk of which one has changed

module _ (desk other : DeskState) (panel : ℕ) (new : PanelState) (panels_are : other.panels ≡ slice_set desk.panels (panel - 1) new) (counted : 1 ≤ panel) where
  -- the others are the same
  same_panel : (number : ℕ) → (number ≡ panel → ⊥) → panel_numbered other number ≡ panel_numbered desk number
  same_panel zero differ = refl
  same_panel (suc index) differ =
      ap (λ (panels : List PanelState). slice_get panels index) panels_are
      ∙ slice_get-set_other desk.panels (panel - 1) index new (λ same. differ (omega (arith, same, counted)))

-- the panel that was there
pub old_panel : (desk : DeskState) (panel : ℕ) (old : PanelState) → 1 ≤ panel → slice_get desk.panels (panel - 1) ≡ Some old → panel_numbered desk panel ≡ Some old
old_panel desk zero old counted at = absurd (omega (arith, counted))
old_panel desk (suc index) old counted at =
    let same : suc index - 1 ≡ index = omega arith in
    ap (slice_get desk.panels) (sym same) ∙ at

-- the panel that is there now
new_panel : (desk other : DeskState) (panel : ℕ) (old new : PanelState) → other.panels ≡ slice_set desk.panels (panel - 1) new → 1 ≤ panel → slice_get desk.panels (panel - 1) ≡ Some old
    → panel_numbered other panel ≡ Some new
new_panel desk other panel old new panels_are counted was =
    old_panel other panel new counted (ap (λ (panels : List PanelState). slice_get panels (panel - 1)) panels_are ∙ slice_get-set_same desk.panels (panel - 1) new (slice_get_within desk.panels (panel - 1) old was))

-- ---- one panel more

abbrev panel_of : Telling → ℕ
panel_of telling = telling.panel

abbrev ok_of : Telling → Bool
ok_of telling = is_ok telling.result

-- the numbers of the panels that were told, with one more
numbers_push : (tellings : List Telling) (last : Telling) → map panel_of (tellings ++ last ∷ []) ≡ map panel_of tellings ++ last.panel ∷ []
numbers_push tellings last = map-append panel_of tellings (last ∷ [])

module _ (round : Round) (before now : DeskState) (place : ℕ) (so_far : IsTelling round before now place) (keeps : KeepsPanels (length before.panels) before.kept)
    (panel : ℕ) (others : List ℕ) (left_is : so_far.left ≡ panel ∷ others) (old new : PanelState) (was : slice_get now.panels (panel - 1) ≡ Some old) where
  abbrev told_before : List ℕ
  told_before = map panel_of so_far.tellings

  order : told_before ++ panel ∷ others ≡ before.kept
  order = ap (λ (left : List ℕ). told_before ++ left) (sym left_is) ∙ so_far.in_order

  -- the panels that were told have lesser numbers
  lesser : (number : ℕ) → Contains told_before number → number < panel
  lesser number within =
      AllPairs-across (λ (a : ℕ) (b : ℕ). a < b) told_before (panel ∷ others) number panel (subst (AllPairs (λ (a : ℕ) (b : ℕ). a < b)) (sym order) keeps.rising) within (Contains-head panel others)

  counted : 1 ≤ panel
  counted = (All-contains (λ (n : ℕ). (1 ≤ n) × (n ≤ length before.panels)) before.kept panel keeps.numbers (subst (λ (kept : List ℕ). Contains kept panel) order (Contains-middle told_before panel others))).0

  module _ (after : DeskState) (panels_are : after.panels ≡ slice_set now.panels (panel - 1) new) (result : Result (Unit {0}) PanelFault) (hears : Hears round old new result) where
    abbrev last : Telling
    last = record { panel = panel; result = result }

    abbrev tellings : List Telling
    tellings = so_far.tellings ++ last ∷ []

    -- those that were told before heard the same
    moved : (telling : Telling) → Contains so_far.tellings telling → HearsAt round before now telling → HearsAt round before after telling
    moved telling within heard =
        let less = lesser telling.panel (Contains-map panel_of so_far.tellings telling within) in
        record {
          old = heard.old;
          new = heard.new;
          was = heard.was;
          is = same_panel now after panel new panels_are counted telling.panel (λ same. omega (arith, same, less)) ∙ heard.is;
          hears = heard.hears;
        }

    heard_last : HearsAt round before after last
    heard_last = record {
      old = old;
      new = new;
      was = sym (so_far.others panel (λ within. omega (arith, lesser panel within))) ∙ old_panel now panel old counted was;
      is = new_panel now after panel old new panels_are counted was;
      hears = hears;
    }

    hear_push : All (HearsAt round before after) tellings
    hear_push = All-push (HearsAt round before after) so_far.tellings last
        (All-from_members (HearsAt round before after) so_far.tellings (λ telling within. moved telling within (All-contains (HearsAt round before now) so_far.tellings telling so_far.hear within))) heard_last

    order_push : map panel_of tellings ++ others ≡ before.kept
    order_push = ap (λ (numbers : List ℕ). numbers ++ others) (numbers_push so_far.tellings last) ∙ append_assoc told_before (panel ∷ []) others ∙ order

    others_push : (number : ℕ) → (Contains (map panel_of tellings) number → ⊥) → panel_numbered after number ≡ panel_numbered before number
    others_push number none =
        let here = λ (within : Contains (told_before ++ panel ∷ []) number). none (subst (λ (numbers : List ℕ). Contains numbers number) (sym (numbers_push so_far.tellings last)) within) in
        same_panel now after panel new panels_are counted number (λ same. here (subst (Contains (told_before ++ panel ∷ [])) (sym same) (Contains-push told_before panel)))
        ∙ so_far.others number (λ within. here (Contains-append_left told_before (panel ∷ []) number within))

    same_number_push : length after.panels ≡ length before.panels
    same_number_push = ap length panels_are ∙ length-set now.panels (panel - 1) new ∙ so_far.same_number

  -- it was told
  told_one : (done : Unit {0}) → Hears round old new (Ok done) → IsTelling round before (desk_after now round.number place panel new (Ok done)) (place + 1)
  told_one done hears =
      let after = desk_after now round.number place panel new (Ok done) in
      let last : Telling = record { panel = panel; result = Ok done } in
      let kept : kept_of (so_far.tellings ++ last ∷ []) ≡ kept_of so_far.tellings ++ panel ∷ [] =
      ap (map panel_of) (filter-push_yes ok_of so_far.tellings last refl) ∙ numbers_push (filter ok_of so_far.tellings) last in
      record {
        tellings = so_far.tellings ++ last ∷ [];
        left = others;
        in_order = order_push after refl (Ok done) hears;
        hear = hear_push after refl (Ok done) hears;
        others = others_push after refl (Ok done) hears;
        same_number = same_number_push after refl (Ok done) hears;
        kept_is = so_far.kept_is ∙ ap (λ (left : List ℕ). kept_of so_far.tellings ++ left) left_is ∙ sym (ap (λ (front : List ℕ). front ++ others) kept ∙ append_assoc (kept_of so_far.tellings) (panel ∷ []) others);
        count = omega (arith, so_far.count, ap length kept, length-append (kept_of so_far.tellings) (panel ∷ []));
        losses = so_far.losses ∙ ap (λ (lost : List _). before.losses ++ lost) (sym (filter_map-append _ so_far.tellings (last ∷ []) ∙ append-nil _));
      }

  -- it was lost
  lost_one : (fault : PanelFault) → Hears round old new (Err fault) → IsTelling round before (desk_after now round.number place panel new (Err fault)) place
  lost_one fault hears =
      let after = desk_after now round.number place panel new (Err fault) in
      let last : Telling = record { panel = panel; result = Err fault } in
      let kept : kept_of (so_far.tellings ++ last ∷ []) ≡ kept_of so_far.tellings = ap (map panel_of) (filter-push_no ok_of so_far.tellings last refl) in
      let is_kept = so_far.kept_is ∙ ap (λ (left : List ℕ). kept_of so_far.tellings ++ left) left_is in
      record {
        tellings = so_far.tellings ++ last ∷ [];
        left = others;
        in_order = order_push after refl (Err fault) hears;
        hear = hear_push after refl (Err fault) hears;
        others = others_push after refl (Err fault) hears;
        same_number = same_number_push after refl (Err fault) hears;
        kept_is = ap (λ (xs : List ℕ). remove xs place) is_kept ∙ without_first (kept_of so_far.tellings) panel others place so_far.count ∙ ap (λ (front : List ℕ). front ++ others) (sym kept);
        count = so_far.count ∙ ap length (sym kept);
        losses = ap (λ (lost : List _). lost ++ losses_of round.number (last ∷ [])) so_far.losses ∙ append_assoc before.losses (losses_of round.number so_far.tellings) (losses_of round.number (last ∷ [])) ∙ ap (λ (lost : List _). before.losses ++ lost) (sym (filter_map-append _ so_far.tellings (last ∷ [])));
      }

-- one turn of the loop
pub one_more : (round : Round) (before now after : DeskState) (place : ℕ) (told : Bool) → KeepsPanels (length before.panels) before.kept → IsTelling round before now place → TellsAt round place now after told
    → IsTelling round before after (cond told (place + 1) place)
one_more round before now after place told keeps so_far tells =
    let found = first_left (kept_of so_far.tellings) so_far.left tells.panel
    (subst (λ (n : ℕ). slice_get (kept_of so_far.tellings ++ so_far.left) n ≡ Some tells.panel) so_far.count (ap (λ (kept : List ℕ). slice_get kept place) (sym so_far.kept_is) ∙ tells.kept)) in
    subst (λ (t : Bool). IsTelling round before after (cond t (place + 1) place)) (sym tells.is_told)
    (subst (λ (desk : DeskState). IsTelling round before desk (cond (is_ok tells.result) (place + 1) place)) (sym tells.after_is)
    (by tells.result tells.hears found))
  where
    by : (result : Result (Unit {0}) PanelFault) → Hears round tells.old tells.new result → (others : List ℕ) × (so_far.left ≡ tells.panel ∷ others)
        → IsTelling round before (desk_after now round.number place tells.panel tells.new result) (cond (is_ok result) (place + 1) place)
    by (Ok done) hears found = told_one round before now place so_far keeps tells.panel found.0 found.1 tells.old tells.new tells.was done hears
    by (Err fault) hears found = lost_one round before now place so_far keeps tells.panel found.0 found.1 tells.old tells.new tells.was fault hears

-- no panel was told yet
pub none_told : (round : Round) (desk : DeskState) → IsTelling round desk desk 0
none_told round desk = record {
  tellings = [];
  left = desk.kept;
  in_order = refl;
  hear = All-nil _;
  others = λ number none. refl;
  same_number = refl;
  kept_is = refl;
  count = refl;
  losses = sym (append-nil desk.losses);
}

-- no panel is left
pub all_told : (round : Round) (before now : DeskState) (place : ℕ) → KeepsPanels (length before.panels) before.kept → IsTelling round before now place → length now.kept ≤ place → IsTold round before now
all_told round before now place keeps so_far end =
    let none : so_far.left ≡ [] = nil_from_length so_far.left (omega (arith, end, so_far.count, ap length so_far.kept_is, length-append (kept_of so_far.tellings) so_far.left)) in
    record {
      tellings = so_far.tellings;
      keeps = keeps;
      each_kept = sym (append-nil _) ∙ ap (λ (left : List ℕ). map panel_of so_far.tellings ++ left) (sym none) ∙ so_far.in_order;
      hear = so_far.hear;
      others = λ number was_not. so_far.others number (λ within. was_not (subst (λ (kept : List ℕ). Contains kept number) so_far.in_order (Contains-append_left (map panel_of so_far.tellings) so_far.left number within)));
      same_number = so_far.same_number;
      kept = so_far.kept_is ∙ ap (λ (left : List ℕ). kept_of so_far.tellings ++ left) none ∙ append-nil (kept_of so_far.tellings);
      losses = so_far.losses;
    }
