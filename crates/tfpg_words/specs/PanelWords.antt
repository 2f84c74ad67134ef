-- The words that name panels: what each writes, and the file to which it does.
use Rattle.std.specs.Prelude.{◌==◌, List, [], ◌∷◌, map, Option, Some, None, bytes_eq, codes, if◌then◌else◌}
use Rattle.std.specs.List.{before_first, after_first}
use Rattle.tfpg_base.specs.Choice.{each_of}
use Rattle.tfpg_words.specs.declared.panel_word.PanelKind.{PanelKind}
use Rattle.tfpg_words.specs.declared.panel_word.PanelKind.TheVariants.{Top, Count, Json}
use Rattle.tfpg_words.specs.declared.panel_word.PanelWord.{PanelWord}
use Rattle.tfpg_words.specs.Words.{Word}

-- the kind of this name
abbrev pub kind_named : Word → Option PanelKind
kind_named name =
    if bytes_eq name (codes "top") then Some Top
    else (if bytes_eq name (codes "count") then Some Count
    else (if bytes_eq name (codes "json") then Some Json
    else None))

-- a panel of this kind over the file of this name, which is not empty
abbrev pub panel_with : Option PanelKind → Word → Option PanelWord
panel_with (Some kind) (first ∷ others) = Some (record { kind = kind; file = first ∷ others })
panel_with _ _ = None

-- The panel that a word names: the name of its kind stands before the first colon, and that of its file after it.
abbrev pub panel_named : Word → Option PanelWord
panel_named word =
    panel_with (kind_named (before_first (λ byte. byte == 58) word)) (after_first (λ byte. byte == 58) word)

-- The panels that the words name, where each names one.
abbrev pub panels_named : List Word → Option (List PanelWord)
panels_named words = each_of (map panel_named words)
