-- Panels are read word by word, and a word that names none ends the reading.
use Rattle.std.proofs.Common.{◌≡◌, ℕ, ◌+◌, ◌<◌, List, [], ◌∷◌, ◌++◌, length, get_or, map, take, Option, Some, None, sym, ap, subst, ◌∙◌}
use Rattle.std.specs.Prelude.{Result, Ok, Err, IsErrAnd}
use Rattle.std.specs.Borrow.{Bor}
use Rattle.std.proofs.lemmas.List.{take_more}
use Rattle.tfpg_base.specs.Choice.{each_of}
use Rattle.tfpg_base.proofs.lemmas.lists.Choices.{each_of-map_none, each_of-map_push}
use Rattle.tfpg_base.proofs.lemmas.lists.Images.{map-map}
use Rattle.tfpg_words.specs.declared.panel_word.PanelWord.{PanelWord}
use Rattle.tfpg_words.specs.declared.plan_fault.PlanFault.{PlanFault}
use Rattle.tfpg_words.specs.declared.plan_fault.PlanFault.TheVariants.{Usage, NoMemory}
use Rattle.tfpg_words.specs.PanelWords.{panel_named, panels_named}
use Rattle.tfpg_words.specs.Words.{Word}
use Rattle.tfpg_words.specs.inside.PanelsOf.{NamesPanels}

-- the panel that a word of the list names
abbrev pub panel_at : Bor Word → Option PanelWord
panel_at word = panel_named word.now

-- what an index finds that is past the end
abbrev pub no_word : Bor Word
no_word = record { ref_ptr = (0, 0); now = [] }

module _ (words : List (Bor Word)) (index : ℕ) (within : index < length words) where
  -- the word at the index
  abbrev pub next_word : Bor Word
  next_word = get_or words index no_word

  -- one word more that names a panel
  pub named_more : (panels : List PanelWord) (panel : PanelWord) → panels_named (map (λ w. w.now) (take index words)) ≡ Some panels
      → panel_named next_word.now ≡ Some panel → panels_named (map (λ w. w.now) (take (index + 1) words)) ≡ Some (panels ++ panel ∷ [])
  named_more panels panel named is =
      ap each_of (map-map panel_named (λ (w : Bor Word). w.now) (take (index + 1) words))
      ∙ ap (λ (ws : List (Bor Word)). each_of (map panel_at ws)) (take_more words index no_word within)
      ∙ each_of-map_push panel_at (take index words) next_word panels panel
      (ap each_of (sym (map-map panel_named (λ (w : Bor Word). w.now) (take index words))) ∙ named) is

  -- one that names none
  pub named_bad : panel_named next_word.now ≡ None → panels_named (map (λ w. w.now) words) ≡ None
  named_bad none =
      ap each_of (map-map panel_named (λ (w : Bor Word). w.now) words)
      ∙ each_of-map_none panel_at words index no_word within none

-- what reading a part ends with, reading the whole ends with
module _ {X Y : Type 0} (part : Option X) (whole : Option Y) (lacks : part ≡ None → whole ≡ None) where
  pub NamesPanels-passed : (result : Result Y PlanFault) (fault : PlanFault) → IsErrAnd result (λ e. e ≡ fault) → NamesPanels part (Err fault) → NamesPanels whole result
  NamesPanels-passed (Ok found) fault is names = absurd is
  NamesPanels-passed (Err e) fault is names = subst (λ other. NamesPanels whole (Err other)) (sym is) (by fault names)
    where
      by : (other : PlanFault) → NamesPanels part (Err other) → NamesPanels whole (Err other)
      by (Usage cause) read = (read.0, lacks read.1)
      by NoMemory read = tt
