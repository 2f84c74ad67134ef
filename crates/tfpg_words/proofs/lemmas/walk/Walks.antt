-- clap's walk over the words comes to their parts.
use Rattle.std.proofs.Common.{◌≡◌, refl, sym, subst, Bool, true, false, List, [], ◌∷◌, ◌++◌, fold, Option, Some, None, option_map, append_assoc}
use Rattle.clap.specs.Walk.{Row, Rule, Text, Waiting, Walk, option, settled, settled_rows, walked}
use Rattle.clap.specs.Kinds.{Kinds, or_else}
use Rattle.clap.specs.Faults.{settle_fault, turn_fault, walk_fault}
use Rattle.tfpg_words.specs.Words.{Form, Next, Any, ValueOf, OnlyPositional, Parts, Use, Word, is_word_among, with_positional, with_use}
use Rattle.tfpg_words.specs.inside.Rows.{joined_to}
use Rattle.tfpg_words.specs.inside.Rules.{shape_with}
use Rattle.tfpg_words.specs.inside.Rows.{Holds, hyphened}
use Rattle.tfpg_words.proofs.lemmas.walk.Turns.{held, quiet}

abbrev pub add_use : Parts → Word → Word → Parts
add_use parts name value = record parts { uses = parts.uses ++ (record { name = name; value = value }) ∷ [] }

abbrev pub add_word : Parts → Word → Parts
add_word parts word = record parts { positional = parts.positional ++ word ∷ [] }

abbrev pub Outcome : Form → Parts → Option Parts → Kinds → List Row → Type 0
Outcome form so_far None fault rows = fault ≡ [] → ⊥
Outcome form so_far (Some more) fault rows = (fault ≡ []) × Holds form rows (joined_to so_far more)

pub use_first : (form : Form) (so_far : Parts) (name value : Word) (others : Option Parts) (fault : Kinds) (rows : List Row)
    → Outcome form (add_use so_far name value) others fault rows → Outcome form so_far (option_map (with_use name value) others) fault rows
use_first form so_far name value None fault rows h = h
use_first form so_far name value (Some more) fault rows h = (
  h.0,
  subst (λ (uses : List Use). Holds form rows (record { uses = uses; positional = so_far.positional ++ more.positional }))
      (append_assoc so_far.uses _ more.uses) h.1,
)

pub word_first : (form : Form) (so_far : Parts) (word : Word) (others : Option Parts) (fault : Kinds) (rows : List Row)
    → Outcome form (add_word so_far word) others fault rows → Outcome form so_far (option_map (with_positional word) others) fault rows
word_first form so_far word None fault rows h = h
word_first form so_far word (Some more) fault rows h = (
  h.0,
  subst (λ (words : List Word). Holds form rows (record { uses = so_far.uses ++ more.uses; positional = words }))
      (append_assoc so_far.positional _ more.positional) h.1,
)

-- no kinds of two together: none of the first
pub left_nil : (a b : Kinds) → or_else a b ≡ [] → a ≡ []
left_nil [] b e = refl
left_nil (k ∷ ks) b e = e

-- none of three: none of the first two
pub both_nil : (a b c : Kinds) → or_else a (or_else b c) ≡ [] → or_else a b ≡ []
both_nil [] [] c e = refl
both_nil [] (k ∷ ks) c e = e
both_nil (k ∷ ks) b c e = e

-- and none of three where there is none of the last and none of the first two
pub all_nil : (a b c : Kinds) → c ≡ [] → or_else a b ≡ [] → or_else a (or_else b c) ≡ []
all_nil [] [] c none e = none
all_nil [] (k ∷ ks) c none e = e
all_nil (k ∷ ks) b c none e = e

module _ (R : List Rule) where
  -- the kinds of the words from here on, and the rows that are left after them
  abbrev pub rest_fault : Walk → List Word → Kinds
  rest_fault w words = or_else (walk_fault (shape_with R) [] w words) (settle_fault R false (fold (walked R []) w words).held)

  abbrev pub rest_rows : Walk → List Word → List Row
  rest_rows w words = (settled R (fold (walked R []) w words).held).rows

  pub forward : (form : Form) (so_far : Parts) (others : Option Parts) (w v : Walk) (word : Word) (words : List Word)
      → turn_fault (shape_with R) [] w word ≡ [] → walked R [] w word ≡ v
      → Outcome form so_far others (rest_fault v words) (rest_rows v words)
      → Outcome form so_far others (rest_fault w (word ∷ words)) (rest_rows w (word ∷ words))
  unfolding walk_fault
  forward form so_far others w v word words fine is h =
      subst (λ (k : Kinds). Outcome form so_far others k (rest_rows w (word ∷ words)))
      (λ i. or_else (or_else (sym fine i) (walk_fault (shape_with R) [] (walked R [] w word) words)) (settle_fault R false (fold (walked R []) (walked R [] w word) words).held))
      (subst (λ (x : Walk). Outcome form so_far others (rest_fault x words) (rest_rows x words)) (sym is) h)

  pub stuck : (w : Walk) (word : Word) (words : List Word) → (turn_fault (shape_with R) [] w word ≡ [] → ⊥)
      → rest_fault w (word ∷ words) ≡ [] → ⊥
  unfolding walk_fault
  stuck w word words bad e = bad (left_nil _ _ (left_nil _ _ e))

-- ---- one word further

-- what is pending settles with no fault, and the rows then have the parts
pub record Settled (R : List Rule) (form : Form) (rows : List Row) (p : Option (Text × List Text)) (parts : Parts) : Type 0 where
  pub fine : settle_fault R false (held rows p) ≡ []
  pub holds : Holds form (settled_rows R p rows) parts

-- where the walk stands, by what the next word may be
abbrev pub WalkStands : List Rule → Form → Next → Parts → List Row → Option (Text × List Text) → Waiting → Bool → Type 0
WalkStands R form Any parts rows p w t = Settled R form rows p parts × (t ≡ false) × ((b : Bool) × (w ≡ quiet b))
WalkStands R form OnlyPositional parts rows p w t = Settled R form rows p parts × (t ≡ true)
WalkStands R form (ValueOf option_word) parts rows p w t =
    (name : Text) × (option_word ≡ hyphened name) × (is_word_among form.options (hyphened name) ≡ true)
    × (p ≡ Some (name, [])) × (w ≡ option name) × (t ≡ false) × Holds form rows parts
