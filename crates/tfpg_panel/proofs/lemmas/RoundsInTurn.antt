-- A desk is told one round after another.
use Rattle.std.proofs.Common.{◌≡◌, ◌≢◌, ℕ, ◌-◌, ◌<◌, ◌≤◌, List, [], ◌∷◌, ◌++◌, length, map, filter, nat_lt, All, AllPairs, Contains, Bool, true, is_ok, Option, Some, option_map, Result, Ok, Err, refl, sym, ap, subst, ◌∙◌, arith, append_assoc, ⊎_elim}
use Rattle.std.specs.Prelude.{slice_get}
use Rattle.std.specs.List.{cons_option}
use Rattle.std.proofs.lemmas.Bool.{lt-ltb, le-ltb, cases_lt}
use Rattle.std.proofs.lemmas.List.{append-nil, map-append}
use Rattle.std.proofs.lemmas.List.Elements.{All-nil, All-append, All-contains, Contains-append_left, Contains-push}
use Rattle.std.proofs.lemmas.Option.{same_Some, none-some, slice_get-map}
use Rattle.tfpg_base.specs.Outside.{Rose}
use Rattle.tfpg_base.proofs.lemmas.lists.Elements.{All-from_members, All-front, All-back, AllPairs-at, AllPairs-head, AllPairs-tail, AllPairs-cons, Contains-at, slice_get-contains, slice_get-there}
use Rattle.tfpg_base.proofs.lemmas.lists.Filtered.{filter-push_no, filter-all}
use Rattle.tfpg_base.proofs.lemmas.lists.Images.{Contains-map, Contains-map_only}
use Rattle.tfpg_base.proofs.lemmas.lists.Ordered.{AllPairs-append, AllPairs-nil}
use Rattle.tfpg_base.proofs.lemmas.lists.Passing.{Contains-filter, Contains-filter_only, Contains-filter_map, Contains-filter_map_only}
use Rattle.tfpg_evidence.specs.declared.round.Round.{Round}
use Rattle.tfpg_panel.specs.declared.panel.PanelFault.{PanelFault}
use Rattle.tfpg_panel.specs.declared.panel.PanelFault.TheVariants.{Lost, NoMemory}
use Rattle.tfpg_panel.specs.declared.lost_panel.LostPanel.{LostPanel}
use Rattle.tfpg_panel.specs.Panel.{PanelState, Hears, with_rounds}
use Rattle.tfpg_panel.specs.Desk.{DeskState, KeepsPanels, Telling, HearsAt, IsTold, losses_of, loss_by, panel_numbered}
use Rattle.tfpg_panel.proofs.lemmas.Tellings.{old_panel}
use Rattle.tfpg_panel.specs.ToldRounds.{AreLossesAt, HeardAll, HeardUntilLost, HasTold, rounds_before}

-- ---- rounds before a loss

abbrev number_of : Round → ℕ
number_of round = round.number

-- one round more
with_rounds-push : (panel : PanelState) (rounds : List Round) (round : Round) → with_rounds (with_rounds panel rounds) (round ∷ []) ≡ with_rounds panel (rounds ++ round ∷ [])
with_rounds-push panel rounds round = ap (λ (told : List Round). record panel { told = told }) (append_assoc panel.told rounds (round ∷ []))

-- no round more
with_rounds-none : (panel : PanelState) → panel ≡ with_rounds panel []
with_rounds-none panel = ap (λ (told : List Round). record panel { told = told }) (sym (append-nil panel.told))

-- a later round does not come before the loss
rounds_before-later : (number : ℕ) (rounds : List Round) (round : Round) → number ≤ round.number → rounds_before number (rounds ++ round ∷ []) ≡ rounds_before number rounds
rounds_before-later number rounds round later = filter-push_no (λ (r : Round). nat_lt r.number number) rounds round (le-ltb round.number number later)

-- all earlier ones do
rounds_before-all : (number : ℕ) (rounds : List Round) → All (λ (r : Round). r.number < number) rounds → rounds_before number rounds ≡ rounds
rounds_before-all number rounds earlier =
    filter-all (λ (r : Round). nat_lt r.number number) rounds (All-from_members (λ (r : Round). nat_lt r.number number ≡ true) rounds
    (λ r within. lt-ltb r.number number (All-contains (λ (x : Round). x.number < number) rounds r earlier within)))

-- two losses are of different panels
abbrev Differ : LostPanel → LostPanel → Type 0
Differ a b = a.panel ≢ b.panel

-- a desk that was told nothing
pub HasTold-none : (desk : DeskState) → KeepsPanels (length desk.panels) desk.kept → HasTold [] [] desk desk
HasTold-none desk keeps = record {
  losses = sym (append-nil desk.losses);
  kept = λ number. (λ within. (within, All-nil (λ (l : LostPanel). l.panel ≢ number)), λ both. both.0);
  at_rounds = All-nil (λ (l : LostPanel). Contains (map number_of []) l.round);
  of_kept = All-nil (λ (l : LostPanel). Contains desk.kept l.panel);
  once = AllPairs-nil Differ;
  heard_all = All-from_members (HeardAll [] desk desk) desk.kept (λ number within.
      let bounds = All-contains (λ (n : ℕ). (1 ≤ n) × (n ≤ length desk.panels)) desk.kept number keeps.numbers within in
      let found = slice_get-there desk.panels (number - 1) (omega (arith, bounds.0, bounds.1)) in
      let there = old_panel desk number found.0 bounds.0 found.1 in
      record { old = found.0; new = found.0; was = there; is = there; heard = with_rounds-none found.0 });
  heard_until_lost = All-nil (HeardUntilLost [] desk desk);
  others = λ number none. refl;
}

-- ---- the tellings of one round

abbrev panel_of : Telling → ℕ
panel_of telling = telling.panel

abbrev ok_of : Telling → Bool
ok_of telling = is_ok telling.result

abbrev loss_of : ℕ → Telling → Option LostPanel
loss_of number telling = loss_by number telling.panel telling.result

-- the loss of a panel that was lost
lost_by : (number panel : ℕ) (result : Result (Unit {0}) PanelFault) (loss : LostPanel) → loss_by number panel result ≡ Some loss
    → (loss.panel ≡ panel) × (loss.round ≡ number) × (result ≡ Err loss.fault)
lost_by number panel (Ok done) loss is = absurd (none-some _ is)
lost_by number panel (Err fault) loss is =
    let same = same_Some _ loss is in
    (ap (λ (l : LostPanel). l.panel) (sym same), ap (λ (l : LostPanel). l.round) (sym same), ap (λ (l : LostPanel). Err l.fault) same)

-- two tellings to one panel are the same
same_telling : (tellings : List Telling) (one other : Telling) → AllPairs (λ (a : ℕ) (b : ℕ). a < b) (map panel_of tellings) → Contains tellings one → Contains tellings other → one.panel ≡ other.panel → one ≡ other
same_telling tellings one other rising first second same =
    let at_first = slice_get-contains tellings one first in
    let at_second = slice_get-contains tellings other second in
    let less = λ (i j : ℕ) (a b : Telling) (at : slice_get tellings i ≡ Some a) (there : slice_get tellings j ≡ Some b) (lt : i < j).
    AllPairs-at (λ (a : ℕ) (b : ℕ). a < b) (map panel_of tellings) i j a.panel b.panel rising (slice_get-map panel_of tellings i ∙ ap (option_map panel_of) at) (slice_get-map panel_of tellings j ∙ ap (option_map panel_of) there) lt in
    ⊎_elim
    (λ lt. absurd (omega (arith, same, less first.0 second.0 one other at_first at_second lt)))
    (λ le. ⊎_elim
    (λ gt. absurd (omega (arith, same, less second.0 first.0 other one at_second at_first gt)))
    (λ ge. let here : first.0 ≡ second.0 = omega (arith, le, ge) in
    same_Some one other (sym at_first ∙ ap (slice_get tellings) here ∙ at_second))
    (cases_lt second.0 first.0))
    (cases_lt first.0 second.0)

-- a result is not both
ok-err : (result : Result (Unit {0}) PanelFault) (fault : PanelFault) → is_ok result ≡ true → result ≡ Err fault → ⊥
ok-err (Ok done) fault ok is = cc
ok-err (Err other) fault ok is = cc

-- a panel that was not told has the rounds that it had
kept_list : (round : Round) (old new : PanelState) (fault : PanelFault) → Hears round old new (Err fault) → new.told ≡ old.told
kept_list round old new Lost hears = hears.0
kept_list round old new NoMemory hears = ap (λ (p : PanelState). p.told) hears

-- and lends them as it did
kept_lending : (round : Round) (old new : PanelState) (fault : PanelFault) → Hears round old new (Err fault) → new.lends ≡ old.lends
kept_lending round old new Lost hears = hears.1
kept_lending round old new NoMemory hears = ap (λ (p : PanelState). p.lends) hears

-- where its memory ran out, its count stayed
stayed : (round : Round) (old new : PanelState) (fault : PanelFault) → Hears round old new (Err fault) → fault ≡ NoMemory → new.faults ≡ old.faults
stayed round old new Lost hears is = cc
stayed round old new NoMemory hears is = ap (λ (p : PanelState). p.faults) hears

-- where it failed, its count rose
risen : (round : Round) (old new : PanelState) (fault : PanelFault) → Hears round old new (Err fault) → fault ≡ Lost → Rose old.faults new.faults
risen round old new Lost hears is = hears.2
risen round old new NoMemory hears is = cc

-- one comes before another
abbrev Before : LostPanel → LostPanel → Type 0
Before a b = a.panel < b.panel

-- rising losses are of different panels
apart : (lost : List LostPanel) → AllPairs Before lost → AllPairs Differ lost
apart lost rising i j d before within same = omega (arith, rising i j d before within, same)

-- what a telling leaves of a rising list rises
losses_in_order : (number : ℕ) (tellings : List Telling) → AllPairs (λ (a : ℕ) (b : ℕ). a < b) (map panel_of tellings) → AllPairs Before (losses_of number tellings)
losses_in_order number [] rising = AllPairs-nil Before
losses_in_order number (first ∷ others) rising = by first.result (losses_in_order number others (AllPairs-tail (λ (a : ℕ) (b : ℕ). a < b) first.panel (map panel_of others) rising))
  where
    by : (result : Result (Unit {0}) PanelFault) → AllPairs Before (losses_of number others) → AllPairs Before (cons_option (loss_by number first.panel result) (losses_of number others))
    by (Ok done) rest = rest
    by (Err fault) rest = AllPairs-cons Before (record { panel = first.panel; round = number; fault = fault }) (losses_of number others)
        (All-from_members (λ (b : LostPanel). first.panel < b.panel) (losses_of number others) (λ loss within.
        let found = Contains-filter_map_only (loss_of number) others loss within in
        let same = (lost_by number found.0.panel found.0.result loss found.2).0 in
        let less : first.panel < found.0.panel = All-contains (λ (n : ℕ). first.panel < n) (map panel_of others) found.0.panel (AllPairs-head (λ (a : ℕ) (b : ℕ). a < b) first.panel (map panel_of others) rising)
        (Contains-map panel_of others found.0 found.1) in
        omega (arith, same, less))) rest

module _ (round : Round) (mid now : DeskState) (told : IsTold round mid now) where
  abbrev new_losses : List LostPanel
  new_losses = losses_of round.number told.tellings

  -- the telling to a panel that was kept
  telling_to : (number : ℕ) → Contains mid.kept number → (telling : Telling) × Contains told.tellings telling × (telling.panel ≡ number)
  telling_to number within = Contains-map_only panel_of told.tellings number (subst (λ (kept : List ℕ). Contains kept number) (sym told.each_kept) within)

  -- the panel of a telling was kept
  was_kept : (telling : Telling) → Contains told.tellings telling → Contains mid.kept telling.panel
  was_kept telling within = subst (λ (kept : List ℕ). Contains kept telling.panel) told.each_kept (Contains-map panel_of told.tellings telling within)

  -- the telling to a panel that is kept
  telling_kept : (number : ℕ) → Contains now.kept number → (telling : Telling) × Contains told.tellings telling × (telling.panel ≡ number) × (is_ok telling.result ≡ true)
  telling_kept number within =
      let image = Contains-map_only panel_of (filter ok_of told.tellings) number (subst (λ (kept : List ℕ). Contains kept number) told.kept within) in
      let only = Contains-filter_only ok_of told.tellings image.0 image.1 in
      (image.0, Contains-at told.tellings only.0 image.0 only.1, image.2, only.2)

  -- a panel that was told is kept
  is_kept : (telling : Telling) → Contains told.tellings telling → is_ok telling.result ≡ true → Contains now.kept telling.panel
  is_kept telling within ok =
      subst (λ (kept : List ℕ). Contains kept telling.panel) (sym told.kept)
      (Contains-map panel_of (filter ok_of told.tellings) telling (Contains-filter ok_of told.tellings within.0 telling (slice_get-contains told.tellings telling within) ok))

  -- the telling to a panel that was lost now
  telling_lost : (loss : LostPanel) → Contains new_losses loss → (telling : Telling) × Contains told.tellings telling × (loss.panel ≡ telling.panel) × (loss.round ≡ round.number) × (telling.result ≡ Err loss.fault)
  telling_lost loss within =
      let found = Contains-filter_map_only (loss_of round.number) told.tellings loss within in
      let parts = lost_by round.number found.0.panel found.0.result loss found.2 in
      (found.0, found.1, parts.0, parts.1, parts.2)

  -- the panels that were lost now rise
  new_in_order : AllPairs Before new_losses
  new_in_order = losses_in_order round.number told.tellings (subst (AllPairs (λ (a : ℕ) (b : ℕ). a < b)) (sym told.each_kept) told.keeps.rising)

  -- what a panel heard
  heard : (telling : Telling) → Contains told.tellings telling → HearsAt round mid now telling
  heard telling within = All-contains (HearsAt round mid now) told.tellings telling told.hear within

  -- ---- after the rounds before

  module _ (rounds : List Round) (lost : List LostPanel) (before : DeskState) (has : HasTold rounds lost before mid) (earlier : All (λ (r : Round). r.number < round.number) rounds) where
    -- those that were lost before were lost at earlier rounds
    lost_earlier : (loss : LostPanel) → Contains lost loss → loss.round < round.number
    lost_earlier loss within =
        let found = Contains-map_only number_of rounds loss.round (All-contains (λ (l : LostPanel). Contains (map number_of rounds) l.round) lost loss has.at_rounds within) in
        subst (λ (n : ℕ). n < round.number) found.2 (All-contains (λ (r : Round). r.number < round.number) rounds found.0 earlier found.1)

    kept_on : (number : ℕ) → Contains now.kept number → Contains before.kept number × All (λ (l : LostPanel). l.panel ≢ number) (lost ++ new_losses)
    kept_on number within =
        let telling = telling_kept number within in
        let was = (has.kept number).0 (subst (Contains mid.kept) telling.2 (was_kept telling.0 telling.1)) in (
          was.0,
          All-append (λ (l : LostPanel). l.panel ≢ number) lost new_losses was.1 (All-from_members (λ (l : LostPanel). l.panel ≢ number) new_losses (λ loss there same.
              let other = telling_lost loss there in
              let one = same_telling told.tellings telling.0 other.0 (subst (AllPairs (λ (a : ℕ) (b : ℕ). a < b)) (sym told.each_kept) told.keeps.rising) telling.1 other.1 (telling.2 ∙ sym same ∙ other.2) in
              ok-err telling.0.result loss.fault telling.3 (ap (λ (t : Telling). t.result) one ∙ other.4))),
        )

    kept_back : (number : ℕ) → Contains before.kept number × All (λ (l : LostPanel). l.panel ≢ number) (lost ++ new_losses) → Contains now.kept number
    kept_back number both =
        let found = telling_to number ((has.kept number).1 (both.0, All-front (λ (l : LostPanel). l.panel ≢ number) lost new_losses both.1)) in
        by found.0 found.1 found.2 found.0.result refl
      where
        by : (telling : Telling) → Contains told.tellings telling → telling.panel ≡ number → (result : Result (Unit {0}) PanelFault) → telling.result ≡ result → Contains now.kept number
        by telling within at (Ok done) is = subst (Contains now.kept) at (is_kept telling within (ap is_ok is))
        by telling within at (Err fault) is =
            let loss : LostPanel = record { panel = telling.panel; round = round.number; fault = fault } in
            let there : Contains new_losses loss = Contains-filter_map (loss_of round.number) told.tellings telling loss within (ap (loss_by round.number telling.panel) is) in
            absurd (All-contains (λ (l : LostPanel). l.panel ≢ number) new_losses loss (All-back (λ (l : LostPanel). l.panel ≢ number) lost new_losses both.1) there at)

    -- a panel that is kept has heard this round too
    heard_one_more : (number : ℕ) → Contains now.kept number → HeardAll (rounds ++ round ∷ []) before now number
    heard_one_more number within =
        let found = telling_kept number within in
        let first : HeardAll rounds before mid number = All-contains (HeardAll rounds before mid) mid.kept number has.heard_all (subst (Contains mid.kept) found.2 (was_kept found.0 found.1)) in
        by found.0 found.2 (heard found.0 found.1) first found.0.result refl found.3
      where
        by : (telling : Telling) → telling.panel ≡ number → HearsAt round mid now telling → HeardAll rounds before mid number → (result : Result (Unit {0}) PanelFault) → telling.result ≡ result → is_ok telling.result ≡ true
            → HeardAll (rounds ++ round ∷ []) before now number
        by telling at hears first (Err fault) is ok = absurd (ok-err telling.result fault ok is)
        by telling at hears first (Ok done) is ok =
            let same : hears.old ≡ first.new = same_Some hears.old first.new (sym hears.was ∙ ap (panel_numbered mid) at ∙ first.is) in
            let step : Hears round hears.old hears.new (Ok done) = subst (Hears round hears.old hears.new) is hears.hears in
            record {
              old = first.old;
              new = hears.new;
              was = first.was;
              is = ap (panel_numbered now) (sym at) ∙ hears.is;
              heard = step ∙ ap (λ (p : PanelState). with_rounds p (round ∷ [])) (same ∙ first.heard) ∙ with_rounds-push first.old rounds round;
            }

    -- a panel that was lost before has heard nothing more
    heard_no_more : (loss : LostPanel) → Contains lost loss → HeardUntilLost (rounds ++ round ∷ []) before now loss
    heard_no_more loss within =
        let first : HeardUntilLost rounds before mid loss = All-contains (HeardUntilLost rounds before mid) lost loss has.heard_until_lost within in
        let gone : Contains mid.kept loss.panel → ⊥ = λ kept. All-contains (λ (l : LostPanel). l.panel ≢ loss.panel) lost loss ((has.kept loss.panel).0 kept).1 within refl in
        let less : loss.round < round.number = lost_earlier loss within in
        record {
          old = first.old;
          new = first.new;
          was = first.was;
          is = told.others loss.panel gone ∙ first.is;
          told = first.told ∙ ap (λ (rs : List Round). first.old.told ++ rs) (sym (rounds_before-later loss.round rounds round (omega (arith, less))));
          lends = first.lends;
          failed = first.failed;
          short = first.short;
        }

    -- a panel that is lost now has heard all rounds before
    heard_until_now : (loss : LostPanel) → Contains new_losses loss → HeardUntilLost (rounds ++ round ∷ []) before now loss
    heard_until_now loss within =
        let found = telling_lost loss within in
        let first : HeardAll rounds before mid loss.panel = All-contains (HeardAll rounds before mid) mid.kept loss.panel has.heard_all (subst (Contains mid.kept) (sym found.2) (was_kept found.0 found.1)) in
        let hears = heard found.0 found.1 in
        let step : Hears round hears.old hears.new (Err loss.fault) = subst (Hears round hears.old hears.new) found.4 hears.hears in
        let was : hears.old ≡ with_rounds first.old rounds = same_Some hears.old first.new (sym hears.was ∙ ap (panel_numbered mid) (sym found.2) ∙ first.is) ∙ first.heard in
        let all : rounds_before loss.round (rounds ++ round ∷ []) ≡ rounds =
        rounds_before-later loss.round rounds round (omega (arith, found.3)) ∙ ap (λ (n : ℕ). rounds_before n rounds) found.3 ∙ rounds_before-all round.number rounds earlier in
        record {
          old = first.old;
          new = hears.new;
          was = first.was;
          is = ap (panel_numbered now) found.2 ∙ hears.is;
          told = kept_list round hears.old hears.new loss.fault step ∙ ap (λ (p : PanelState). p.told) was ∙ ap (λ (rs : List Round). first.old.told ++ rs) (sym all);
          lends = kept_lending round hears.old hears.new loss.fault step ∙ ap (λ (p : PanelState). p.lends) was;
          failed = λ is. subst (λ (count : ℕ). Rose count hears.new.faults) (ap (λ (p : PanelState). p.faults) was) (risen round hears.old hears.new loss.fault step is);
          short = λ is. stayed round hears.old hears.new loss.fault step is ∙ ap (λ (p : PanelState). p.faults) was;
        }

    -- what was lost before is not lost again
    lost_once : AllPairs Differ (lost ++ new_losses)
    lost_once =
        AllPairs-append Differ lost new_losses has.once (apart new_losses new_in_order) (λ old new first second same.
        let found = telling_lost new second in
        All-contains (λ (l : LostPanel). l.panel ≢ found.0.panel) lost old ((has.kept found.0.panel).0 (was_kept found.0 found.1)).1 first (same ∙ found.2))

    -- one round more
    pub HasTold-push : HasTold (rounds ++ round ∷ []) (lost ++ new_losses) before now
    HasTold-push = record {
      losses = told.losses ∙ ap (λ (xs : List LostPanel). xs ++ new_losses) has.losses ∙ append_assoc before.losses lost new_losses;
      kept = λ number. (kept_on number, kept_back number);
      at_rounds = subst (λ (numbers : List ℕ). All (λ (l : LostPanel). Contains numbers l.round) (lost ++ new_losses)) (sym (map-append number_of rounds (round ∷ [])))
          (All-append (λ (l : LostPanel). Contains (map number_of rounds ++ round.number ∷ []) l.round) lost new_losses
          (All-from_members (λ (l : LostPanel). Contains (map number_of rounds ++ round.number ∷ []) l.round) lost (λ loss within.
          Contains-append_left (map number_of rounds) (round.number ∷ []) loss.round (All-contains (λ (l : LostPanel). Contains (map number_of rounds) l.round) lost loss has.at_rounds within)))
          (All-from_members (λ (l : LostPanel). Contains (map number_of rounds ++ round.number ∷ []) l.round) new_losses (λ loss within.
          subst (Contains (map number_of rounds ++ round.number ∷ [])) (sym (telling_lost loss within).3) (Contains-push (map number_of rounds) round.number))));
      of_kept = All-append (λ (l : LostPanel). Contains before.kept l.panel) lost new_losses has.of_kept (All-from_members (λ (l : LostPanel). Contains before.kept l.panel) new_losses (λ loss within.
          let found = telling_lost loss within in
          subst (Contains before.kept) (sym found.2) ((has.kept found.0.panel).0 (was_kept found.0 found.1)).0));
      once = lost_once;
      heard_all = All-from_members (HeardAll (rounds ++ round ∷ []) before now) now.kept heard_one_more;
      heard_until_lost = All-append (HeardUntilLost (rounds ++ round ∷ []) before now) lost new_losses (All-from_members (HeardUntilLost (rounds ++ round ∷ []) before now) lost heard_no_more)
          (All-from_members (HeardUntilLost (rounds ++ round ∷ []) before now) new_losses heard_until_now);
      others = λ number none. told.others number (λ kept. none ((has.kept number).0 kept).0) ∙ has.others number none;
    }

-- ---- the losses of one round

pub losses_rise : (round : Round) (before now : DeskState) (told : IsTold round before now) → AreLossesAt round.number (length before.panels) (losses_of round.number told.tellings)
losses_rise round before now told = record {
  rounds = All-from_members (λ (l : LostPanel). l.round ≡ round.number) (losses_of round.number told.tellings) (λ loss within. (telling_lost round before now told loss within).3);
  panels = All-from_members (λ (l : LostPanel). l.panel ≤ length before.panels) (losses_of round.number told.tellings) (λ loss within.
      let found = telling_lost round before now told loss within in
      let bounds = All-contains (λ (n : ℕ). (1 ≤ n) × (n ≤ length before.panels)) before.kept found.0.panel told.keeps.numbers (was_kept round before now told found.0 found.1) in
      omega (arith, found.2, bounds.1));
  rising = new_in_order round before now told;
}
