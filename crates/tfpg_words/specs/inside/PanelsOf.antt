-- What the reader of panel words returns.
use Rattle.std.specs.Prelude.{◌≡◌, Option, Some, None, Result, Ok, Err}
use Rattle.tfpg_words.specs.declared.panel_word.PanelKind.{PanelKind}
use Rattle.tfpg_words.specs.declared.panel_word.PanelWord.{PanelWord}
use Rattle.tfpg_words.specs.declared.plan_fault.PlanFault.{PlanFault}
use Rattle.tfpg_words.specs.declared.plan_fault.PlanFault.TheVariants as fault
use Rattle.tfpg_words.specs.declared.usage_cause.UsageCause.TheVariants.{BadPanel}
use Rattle.tfpg_words.specs.Words.{Word}

-- the panel of this kind over this file
abbrev pub panel_over : PanelKind → Word → PanelWord
panel_over kind file = record { kind = kind; file = file }

-- What is found is what is named; or nothing is named, and that is a bad panel; or memory ran out.
abbrev pub NamesPanels : {X : Type 0} → Option X → Result X PlanFault → Type 0
NamesPanels named (Ok found) = named ≡ Some found
NamesPanels named (Err (fault.Usage cause)) = (cause ≡ BadPanel) × (named ≡ None)
NamesPanels named (Err fault.NoMemory) = Unit {0}
