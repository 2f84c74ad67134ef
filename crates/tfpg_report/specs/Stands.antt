-- What may come after what in a report.
use Rattle.std.specs.Prelude.{ℕ, zero, suc, ◌-◌, List, fold, Bool, true, false, nat_lt, Option, Some, None, option_and_then}
use Rattle.std.specs.Bool.{then_some}
use Rattle.std.specs.Option.{option_map_or}
use Rattle.tfpg_report.specs.declared.stand.Stand.{Stand}
use Rattle.tfpg_report.specs.declared.stand.Stand.TheVariants as stand
use Rattle.tfpg_report.specs.declared.report_line.ReportLine.{ReportLine}
use Rattle.tfpg_report.specs.declared.report_line.ReportLine.TheVariants.{Head, OldHead, Refused, Round, Hyp, Split, Cycle, Why, Again, Ranked, At, Open, Rejected, Counts, Panel}

-- The first line may come.
abbrev pub may_begin : Stand → Bool
may_begin stand.Nothing = true
may_begin _ = false

-- A refused line or a round may come: after the first line, a refused line, or a round with the panels that were lost at it.
abbrev pub may_begin_block : Stand → Bool
may_begin_block stand.Block = true
may_begin_block (stand.Counts last) = true
may_begin_block _ = false

-- A hypothesis with steps may come: after the first line of a round, or the last line of a step.
abbrev pub may_begin_steps : Stand → Bool
may_begin_steps stand.Round = true
may_begin_steps stand.Step = true
may_begin_steps _ = false

-- A step may come: after the number of a hypothesis, or the last line of a step.
abbrev pub may_step : Stand → Bool
may_step stand.Hyp = true
may_step stand.Step = true
may_step _ = false

-- A ranked hypothesis may come: after all steps, or after a ranked one with its trace.
abbrev pub may_rank : Stand → Bool
may_rank stand.Round = true
may_rank stand.Step = true
may_rank (stand.Ranked last) = true
may_rank _ = false

-- An open hypothesis may come: after all ranked ones, or after an open one.
abbrev pub may_open : Stand → Bool
may_open stand.Open = true
may_open before = may_rank before

-- A rejected hypothesis, or the counts, may come: after all open ones, or after a rejected one.
abbrev pub may_reject : Stand → Bool
may_reject stand.Rejected = true
may_reject before = may_open before

-- after a line that leaves so many reasons of its step to come
abbrev pub after_reasons : ℕ → Stand
after_reasons zero = stand.Step
after_reasons (suc owed) = stand.Reasons (suc owed)

-- after one more reason, which may come where a step lacks some
abbrev pub after_reason : Stand → Option Stand
after_reason (stand.Reasons owed) = Some (after_reasons (owed - 1))
after_reason _ = None

-- the number is later than the last one, if there is a last one
abbrev pub is_later : Option ℕ → ℕ → Bool
is_later last number = option_map_or (λ before. nat_lt before number) last true

-- after an activation of this node, which may come after a ranked hypothesis, by rising nodes
abbrev pub after_activation : Stand → ℕ → Option Stand
after_activation (stand.Ranked last) node = then_some (is_later last node) (stand.Ranked (Some node))
after_activation _ node = None

-- after the loss of this panel, which may come after the counts, by rising numbers
abbrev pub after_loss : Stand → ℕ → Option Stand
after_loss (stand.Counts last) panel = then_some (is_later last panel) (stand.Counts (Some panel))
after_loss _ panel = None

-- the stand after one more line, if the line may come
abbrev pub stand_after : Stand → ReportLine → Option Stand
stand_after before (Head terms) = then_some (may_begin before) stand.Block
stand_after before (OldHead k budget) = then_some (may_begin before) stand.Block
stand_after before (Refused line cause) = then_some (may_begin_block before) stand.Block
stand_after before (Round number line now) = then_some (may_begin_block before) stand.Round
stand_after before (Hyp number) = then_some (may_begin_steps before) stand.Hyp
stand_after before (Split name) = then_some (may_step before) stand.Step
stand_after before (Cycle count) = then_some (may_step before) (after_reasons count)
stand_after before (Why reason) = after_reason before
stand_after before Again = then_some (may_step before) stand.Step
stand_after before (Ranked number cost alarmed monitored hypothesis) = then_some (may_rank before) (stand.Ranked None)
stand_after before (At activation) = after_activation before activation.node
stand_after before (Open number hypothesis) = then_some (may_open before) stand.Open
stand_after before (Rejected number hypothesis) = then_some (may_reject before) stand.Rejected
stand_after before (Counts counts) = then_some (may_reject before) (stand.Counts None)
stand_after before (Panel panel memory) = after_loss before panel

-- the stand after some more lines, if each of them may come
abbrev pub stand_after_all : Stand → List ReportLine → Option Stand
stand_after_all before lines =
    fold (λ (reached : Option Stand) line. option_and_then (λ (at : Stand). stand_after at line) reached) (Some before) lines

-- the stand after these lines of a report, if each of them may come
abbrev pub stand_of : List ReportLine → Option Stand
stand_of lines = stand_after_all stand.Nothing lines
