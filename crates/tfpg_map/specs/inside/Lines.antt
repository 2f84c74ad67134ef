-- What the reader of maps reads of a line, and what it has read so far.
use Rattle.std.specs.Prelude.{◌≡◌, ℕ, List, [], ◌∷◌, if◌then◌else◌, Option, Some, None, codes, bytes_eq}
use Rattle.tfpg_base.specs.Hypothesis.{Hypothesis}
use Rattle.tfpg_base.specs.declared.activation.Activation.{Activation}
use Rattle.tfpg_base.specs.Trace.{time_of, with_time}
use Rattle.tfpg_graph.specs.Graph.{Tfpg}
use Rattle.tfpg_map.specs.declared.map.MapReader.{MapReader}
use Rattle.tfpg_report.specs.inside.LineNames.{activation_line}
use Rattle.tfpg_map.specs.Spelling.{SpellsMap, IsActivationOf}

-- the word after `set`
abbrev pub word_after_set : List (List ℕ) → Option (List ℕ)
word_after_set [] = None
word_after_set (keyword ∷ []) = None
word_after_set (keyword ∷ word ∷ []) = if bytes_eq keyword (codes "set") then Some word else None
word_after_set (keyword ∷ word ∷ more ∷ others) = None

-- the two words after `at`
abbrev pub words_after_at : List (List ℕ) → Option (List ℕ × List ℕ)
words_after_at [] = None
words_after_at (keyword ∷ []) = None
words_after_at (keyword ∷ name ∷ []) = None
words_after_at (keyword ∷ name ∷ time ∷ []) = if bytes_eq keyword (codes "at") then Some (name, time) else None
words_after_at (keyword ∷ name ∷ time ∷ more ∷ others) = None

-- The line spells an activation of a node that had none, and the trace has it now.
pub record TakesActivation (graph : Tfpg) (before : List Activation) (line : List ℕ)
    (now : List Activation) : Type 0 where
  pub activation : Activation
  pub of_graph : IsActivationOf graph activation
  pub spelled : line ≡ activation_line graph activation
  pub new_node : time_of before activation.node ≡ None
  pub now_is : now ≡ with_time activation.node activation.time before

-- The line spells no activation of a node that has none.
abbrev pub IsNoActivation : Tfpg → List Activation → List ℕ → Type 0
IsNoActivation graph trace line =
    (activation : Activation) → IsActivationOf graph activation → line ≡ activation_line graph activation
    → time_of trace activation.node ≡ None → ⊥

-- the reader with this hypothesis and this trace has read these lines
abbrev pub HasRead : Tfpg → Option Hypothesis → List Activation → List (List ℕ) → Type 0
HasRead graph None trace lines = (lines ≡ []) × (trace ≡ [])
HasRead graph (Some hypothesis) trace lines = SpellsMap graph lines hypothesis trace

-- The reader represents these lines.
abbrev pub MapRepresents : Tfpg → MapReader → List (List ℕ) → Type 0
MapRepresents graph reader lines = HasRead graph reader.hypothesis reader.trace lines
