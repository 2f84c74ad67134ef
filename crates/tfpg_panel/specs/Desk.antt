-- What contracts see of a desk, and what telling it a round comes to.
use Rattle.std.specs.Prelude.{◌≡◌, ℕ, zero, suc, ◌<◌, ◌≤◌, List, [], ◌++◌, length, map, filter, filter_map, All, AllPairs, Contains, slice_get, is_ok, option_and_then, Option, Some, None, Result, Ok, Err}
use Rattle.std.specs.List.{range_with_len}
use Rattle.tfpg_base.specs.declared.limits.TheConstants.{MAX_PANEL_NUMBER}
use Rattle.tfpg_evidence.specs.declared.round.Round.{Round}
use Rattle.tfpg_panel.specs.declared.panel.PanelFault.{PanelFault}
use Rattle.tfpg_panel.specs.declared.lost_panel.LostPanel.{LostPanel}
use Rattle.tfpg_panel.specs.Panel.{PanelState, Hears, lent_by}

-- What contracts see of a desk: its panels, which are numbered from 1; the numbers of the kept ones, rising; and those that were
-- lost, in the order in which they were.
pub record DeskState : Type 0 where
  pub panels : List PanelState
  pub kept : List ℕ
  pub losses : List LostPanel

-- What a desk keeps, over panels of one type, as boxes are.
pub record DeskOf (X : Type 0) : Type 0 where
  pub panels : List X
  pub kept : List ℕ
  pub losses : List LostPanel

-- what contracts see of such a desk, by what they see of one of its panels
abbrev pub seen_by : {X : Type 0} → (X → PanelState) → DeskOf X → DeskState
seen_by state desk = record { panels = map state desk.panels; kept = desk.kept; losses = desk.losses }

-- The numbers of the kept panels rise, and each is that of one of so many panels, which are not too many for a report to name.
pub record KeepsPanels (count : ℕ) (kept : List ℕ) : Type 0 where
  pub few : count ≤ MAX_PANEL_NUMBER
  pub rising : AllPairs (λ earlier later. earlier < later) kept
  pub numbers : All (λ number. (1 ≤ number) × (number ≤ count)) kept

-- a desk of these panels that was told nothing: all are kept, and none is lost
abbrev pub new_desk : List PanelState → DeskState
new_desk panels = record { panels = panels; kept = range_with_len 1 (length panels); losses = [] }

-- the panel of a number
abbrev pub panel_numbered : DeskState → ℕ → Option PanelState
panel_numbered desk zero = None
panel_numbered desk (suc index) = slice_get desk.panels index

-- what the panel of a number lends of the rounds that it was told
abbrev pub lent_of : DeskState → ℕ → Option (List Round)
lent_of desk number = option_and_then lent_by (panel_numbered desk number)

-- A panel was told a round, with this result.
pub record Telling : Type 0 where
  pub panel : ℕ
  pub result : Result (Unit {0}) PanelFault

-- the loss of a panel that was told the round of this number with this result, if it was lost
abbrev pub loss_by : ℕ → ℕ → Result (Unit {0}) PanelFault → Option LostPanel
loss_by number panel (Ok done) = None
loss_by number panel (Err fault) = Some (record { panel = panel; round = number; fault = fault })

-- the numbers of the panels that were told and are kept
abbrev pub kept_of : List Telling → List ℕ
kept_of tellings = map (λ telling. telling.panel) (filter (λ telling. is_ok telling.result) tellings)

-- the panels that were lost at the round of this number
abbrev pub losses_of : ℕ → List Telling → List LostPanel
losses_of number tellings = filter_map (λ telling. loss_by number telling.panel telling.result) tellings

-- The panel was told the round, from the one desk to the other, as its result says.
pub record HearsAt (round : Round) (before after : DeskState) (telling : Telling) : Type 0 where
  pub old : PanelState
  pub new : PanelState
  pub was : panel_numbered before telling.panel ≡ Some old
  pub is : panel_numbered after telling.panel ≡ Some new
  pub hears : Hears round old new telling.result

-- The desk was told the round: each kept panel was, in the order of numbers. Those that were told it are kept. The others are lost
-- at this round, each with its fault, and come after the earlier losses. All panels that were not kept are as they were.
pub record IsTold (round : Round) (before after : DeskState) : Type 0 where
  pub tellings : List Telling
  pub keeps : KeepsPanels (length before.panels) before.kept
  pub each_kept : map (λ telling. telling.panel) tellings ≡ before.kept
  pub hear : All (HearsAt round before after) tellings
  pub others : (number : ℕ) → (Contains before.kept number → ⊥) → panel_numbered after number ≡ panel_numbered before number
  pub same_number : length after.panels ≡ length before.panels
  pub kept : after.kept ≡ kept_of tellings
  pub losses : after.losses ≡ before.losses ++ losses_of round.number tellings
