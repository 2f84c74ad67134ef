-- The panels of a desk as the code keeps them, and as contracts see them.
use Rattle.std.proofs.Common.{◌≡◌, ℕ, ◌-◌, ◌<◌, ◌≤◌, List, ◌++◌, ◌∷◌, [], length, map, remove, set, get_or, true, false, is_ok, Some, option_map, option_and_then, Result, Ok, Err, refl, sym, ap, subst, ◌∙◌, arith}
use Rattle.std.specs.Prelude.{slice_get}
use Rattle.std.proofs.lemmas.List.{map-set, length-map}
use Rattle.std.proofs.lemmas.Option.{slice_get_read, slice_get-map, get_or_from_slice_get}
use Rattle.tfpg_evidence.specs.declared.round.Round.{Round}
use Rattle.tfpg_panel.specs.declared.panel.PanelFault.{PanelFault}
use Rattle.tfpg_panel.specs.declared.lost_panel.LostPanel.{LostPanel}
use Rattle.tfpg_panel.specs.Panel.{PanelState, Hears, lent_by}
use Rattle.tfpg_panel.specs.Desk.{DeskState, DeskOf, KeepsPanels, lent_of}
use Rattle.tfpg_panel.specs.inside.Telling.{TellsAt, desk_after}
use Rattle.tfpg_panel.proofs.lemmas.KeptPanels.{is_panel}
use Rattle.tfpg_panel.proofs.lemmas.Tellings.{old_panel}

-- the desk with these
abbrev pub desk_of : List PanelState → List ℕ → List LostPanel → DeskState
desk_of panels kept losses = record { panels = panels; kept = kept; losses = losses }

-- desks with the same fields are the same
pub same_desk : (desk : DeskState) (panels : List PanelState) (kept : List ℕ) (losses : List LostPanel) → desk.panels ≡ panels → desk.kept ≡ kept → desk.losses ≡ losses → desk ≡ desk_of panels kept losses
same_desk desk panels kept losses p k l = λ i. record { panels = p i; kept = k i; losses = l i }

-- a place among the kept panels, as the code keeps them
pub place_inside : (before : DeskState) (panels : List PanelState) (kept : List ℕ) (losses : List LostPanel) (place : ℕ) → desk_of panels kept losses ≡ before → place < length before.kept → place < length kept
place_inside before panels kept losses place is within = subst (λ (desk : DeskState). place < length desk.kept) (sym is) within

-- the element that a list has at an index
read_at : (xs : List ℕ) (index x other : ℕ) → x ≡ get_or xs index x → slice_get xs index ≡ Some other → x ≡ other
read_at xs index x other is at = is ∙ get_or_from_slice_get xs index other x at

-- the loss of the panel that was at that place
pub lost_from : (before : DeskState) (panels : List PanelState) (kept : List ℕ) (losses : List LostPanel) (place round number : ℕ) (fault : PanelFault) (new : List LostPanel) → desk_of panels kept losses ≡ before
    → number ≡ get_or kept place number → new ≡ losses ++ (record { panel = number; round = round; fault = fault }) ∷ []
    → (panel : ℕ) → slice_get before.kept place ≡ Some panel → new ≡ before.losses ++ (record { panel = panel; round = round; fault = fault }) ∷ []
lost_from before panels kept losses place round number fault new is at e panel there =
    let same : number ≡ panel = read_at kept place number panel at (ap (λ (desk : DeskState). slice_get desk.kept place) is ∙ there) in
    e ∙ ap (λ (desk : DeskState). desk.losses ++ (record { panel = number; round = round; fault = fault }) ∷ []) is
    ∙ ap (λ (n : ℕ). before.losses ++ (record { panel = n; round = round; fault = fault }) ∷ []) same

module _ {X : Type 0} (state : X → PanelState) (round : Round) (place : ℕ) (items : List X) (kept : List ℕ) (losses : List LostPanel) (number : ℕ) (old new : X)
    (keeps : KeepsPanels (length items) kept) (at : number ≡ get_or kept place number) (there : old ≡ get_or items (number - 1) old)
    (before : DeskState) (is : desk_of (map state items) kept losses ≡ before) (place_within : place < length before.kept) where
  within : place < length kept
  within = place_inside before (map state items) kept losses place is place_within

  inside : number - 1 < length items
  inside = let bounds = is_panel (length items) kept place number keeps within at in omega (arith, bounds.0, bounds.1)

  tells_at : (result : Result (Unit {0}) PanelFault) → Hears round (state old) (state new) result
      → TellsAt round place (desk_of (map state items) kept losses) (desk_after (desk_of (map state items) kept losses) round.number place number (state new) result) (is_ok result)
  tells_at result hears = record {
    panel = number;
    kept = slice_get_read kept (length kept) place number refl within at;
    old = state old;
    was = slice_get-map state items (number - 1) ∙ ap (option_map state) (slice_get_read items (length items) (number - 1) old refl inside there);
    new = state new;
    result = result;
    hears = hears;
    is_told = refl;
    after_is = refl;
  }

  -- it was told
  pub tells_one : (done : Unit {0}) (result : Result (Unit {0}) PanelFault) → result ≡ Ok done → Hears round (state old) (state new) result
      → TellsAt round place before (desk_of (map state (set items (number - 1) new)) kept losses) true
  tells_one done result ok hears =
      subst (λ (desk : DeskState). TellsAt round place desk (desk_of (map state (set items (number - 1) new)) kept losses) true) is
      (subst (λ (panels : List PanelState). TellsAt round place (desk_of (map state items) kept losses) (desk_of panels kept losses) true) (sym (map-set state items (number - 1) new))
      (tells_at (Ok done) (subst (Hears round (state old) (state new)) ok hears)))

  -- it was lost
  pub loses_one : (fault : PanelFault) (result : Result (Unit {0}) PanelFault) → result ≡ Err fault → Hears round (state old) (state new) result → (after : DeskState)
      → after.panels ≡ map state (set items (number - 1) new) → after.kept ≡ remove kept place
      → ((panel : ℕ) → slice_get kept place ≡ Some panel → after.losses ≡ losses ++ (record { panel = panel; round = round.number; fault = fault }) ∷ [])
      → TellsAt round place before after false
  loses_one fault result err hears after panels_are kept_is losses_are =
      subst (λ (desk : DeskState). TellsAt round place desk after false) is
      (subst (λ (desk : DeskState). TellsAt round place (desk_of (map state items) kept losses) desk false)
      (sym (same_desk after _ _ _ (panels_are ∙ map-set state items (number - 1) new) kept_is (losses_are number (slice_get_read kept (length kept) place number refl within at))))
      (tells_at (Err fault) (subst (Hears round (state old) (state new)) err hears)))

-- what a panel lends of the rounds that it was told
pub lent_at : {X : Type 0} (state : X → PanelState) (items : List X) (kept : List ℕ) (losses : List LostPanel) (panel : ℕ) (item : X) (desk : DeskState) → item ≡ get_or items (panel - 1) item
    → desk_of (map state items) kept losses ≡ desk → (1 ≤ panel) × (panel ≤ length desk.panels) → lent_by (state item) ≡ lent_of desk panel
lent_at state items kept losses panel item desk at is bounds =
    let few : panel ≤ length (map state items) = subst (λ (d : DeskState). panel ≤ length d.panels) (sym is) bounds.1 in
    let there : slice_get items (panel - 1) ≡ Some item = slice_get_read items (length items) (panel - 1) item refl (omega (arith, few, length-map items state, bounds.0)) at in
    let found = old_panel (desk_of (map state items) kept losses) panel (state item) bounds.0 (slice_get-map state items (panel - 1) ∙ ap (option_map state) there) in
    ap (option_and_then lent_by) (sym found) ∙ ap (λ (d : DeskState). lent_of d panel) is

-- the numbers of the kept panels are those of panels that contracts see
pub keeps_seen : {X : Type 0} (state : X → PanelState) (items : List X) (kept : List ℕ) (losses : List LostPanel) (desk : DeskOf X) → KeepsPanels (length items) kept
    → record { panels = items; kept = kept; losses = losses } ≡ desk → KeepsPanels (length (map state desk.panels)) desk.kept
keeps_seen {X} state items kept losses desk keeps is =
    subst (λ (d : DeskOf X). KeepsPanels (length (map state d.panels)) d.kept) is
    (subst (λ (count : ℕ). KeepsPanels count kept) (sym (length-map items state)) keeps)
