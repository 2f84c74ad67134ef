-- Sets of modes, and runs of spans in whose modes something is active.
use Rattle.std.specs.Prelude.{◌≡◌, ℕ, zero, suc, ◌≤◌, List, length, Bool, true, false, ◌&&◌, nat_lt, IsTrue}
use Rattle.tfpg_graph.specs.Graph.{is_active_in}
use Rattle.tfpg_log.specs.declared.active_modes.ActiveModes.{ActiveModes}
use Rattle.tfpg_log.specs.declared.active_modes.ActiveModes.TheVariants.{Every, OfEdge}
use Rattle.tfpg_log.specs.declared.mode_change.ModeChange.{ModeChange}
use Rattle.tfpg_log.specs.inside.SpanIndex.{change_at, begin_of_span, mode_of_span}

-- the mode is one of them
abbrev pub has_mode : ActiveModes → ℕ → Bool
has_mode Every mode = true
has_mode (OfEdge edge) mode = is_active_in edge mode

-- each span from the one number to the other has one of the modes
abbrev pub AreActive : ActiveModes → List ModeChange → ℕ → ℕ → Type 0
AreActive modes changes first last =
    (number : ℕ) → first ≤ number → number ≤ last → IsTrue (has_mode modes (mode_of_span changes number))

-- the span before that of the number has one of the modes
abbrev pub is_active_before : ActiveModes → List ModeChange → ℕ → Bool
is_active_before modes changes zero = false
is_active_before modes changes (suc number) = has_mode modes (mode_of_span changes number)

-- the span after that of the number begins by the horizon, and has one of the modes
abbrev pub is_active_after : ActiveModes → List ModeChange → ℕ → ℕ → Bool
is_active_after modes changes number horizon =
    nat_lt number (length changes)
    && (nat_lt (change_at changes number).time horizon && has_mode modes (change_at changes number).mode)

-- the first span of the run up to a span
pub record IsRunStart (modes : ActiveModes) (changes : List ModeChange) (number first : ℕ) : Type 0 where
  pub upto : first ≤ number
  pub throughout : AreActive modes changes first number
  pub alone : is_active_before modes changes first ≡ false

-- the last span of the run from a span on, among those that begin by a horizon
pub record IsRunEnd (modes : ActiveModes) (changes : List ModeChange) (number horizon last : ℕ) : Type 0 where
  pub from : number ≤ last
  pub counted : last ≤ length changes
  pub begun : begin_of_span changes last ≤ horizon
  pub throughout : AreActive modes changes number last
  pub alone : is_active_after modes changes last horizon ≡ false
