-- A log all of whose lines are accepted.
use Rattle.std.specs.Prelude.{◌≡◌, ℕ, take, List, false, slice_get, Some}
use Rattle.tfpg_graph.specs.Graph.{Tfpg}
use Rattle.tfpg_log.specs.declared.event.Event.{Event}
use Rattle.tfpg_log.specs.declared.event.Offered.TheVariants.{Accepted}
use Rattle.tfpg_log.specs.Accepted.{reply_to}
use Rattle.tfpg_log.specs.LogOfLines.{log_of_lines}
use Rattle.tfpg_base.specs.Lines.{is_too_long}

-- The line is accepted by the log of the lines before it: it is not too long, and becomes an event.
abbrev pub IsAccepted : Tfpg → List (List ℕ) → List ℕ → Type 0
IsAccepted graph before line =
    (event : Event) × (is_too_long line ≡ false) × (reply_to graph (log_of_lines graph before) line ≡ Accepted event)

-- Each of the lines is accepted, in this order.
abbrev pub AreAccepted : Tfpg → List (List ℕ) → Type 0
AreAccepted graph lines =
    (index : ℕ) (line : List ℕ) → slice_get lines index ≡ Some line → IsAccepted graph (take index lines) line
