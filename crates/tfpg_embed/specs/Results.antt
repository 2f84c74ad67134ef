-- The numbers of what came last in a session.
use Rattle.std.specs.Prelude.{ℕ, if◌then◌else◌, Option, Some, None}
use Rattle.tfpg_log.specs.declared.refusal.Refusal.{Refusal}
use Rattle.tfpg_log.specs.declared.refusal.Refusal.TheVariants as refusal
use Rattle.tfpg_log.specs.declared.refused_line.RefusedLine.{RefusedLine}
use Rattle.tfpg_log.specs.declared.refused_line.RefusedLine.TheVariants as line
use Rattle.tfpg_evidence.specs.declared.round.Counts.{Counts}
use Rattle.tfpg_evidence.specs.declared.round.Round.{Round}
use Rattle.tfpg_diagnose.specs.texts.Sessions.{SessionState, lines_before}
use Rattle.tfpg_embed.specs.declared.results.TfpgResult.{TfpgResult}

-- the number of why a log refuses a line
abbrev pub refusal_number : Refusal → ℕ
refusal_number refusal.BadLine = 1
refusal_number refusal.BadNumber = 2
refusal_number refusal.TimeTooLarge = 3
refusal_number (refusal.TimeBack last) = 4
refusal_number refusal.UnknownName = 5
refusal_number refusal.NotMonitored = 6
refusal_number refusal.NotAMode = 7
refusal_number refusal.LogFull = 8
refusal_number refusal.ModesFull = 9

-- the number of why a line was refused
abbrev pub refused_number : RefusedLine → ℕ
refused_number line.TooLong = 10
refused_number (line.Offer why) = refusal_number why

-- the same of a line that may have been accepted, which is 0
abbrev pub why_number : Option RefusedLine → ℕ
why_number None = 0
why_number (Some why) = refused_number why

-- the time that goes with this refusal
abbrev pub time_of_refusal : Refusal → ℕ
time_of_refusal refusal.BadLine = 0
time_of_refusal refusal.BadNumber = 0
time_of_refusal refusal.TimeTooLarge = 0
time_of_refusal (refusal.TimeBack last) = last
time_of_refusal refusal.UnknownName = 0
time_of_refusal refusal.NotMonitored = 0
time_of_refusal refusal.NotAMode = 0
time_of_refusal refusal.LogFull = 0
time_of_refusal refusal.ModesFull = 0

-- the time that goes with why a line was refused: that of the last event, if its time was before that, and else 0
abbrev pub last_time : Option RefusedLine → ℕ
last_time None = 0
last_time (Some line.TooLong) = 0
last_time (Some (line.Offer why)) = time_of_refusal why

-- the number of a round, 0 if there is none
abbrev pub number_of_round : Option Round → ℕ
number_of_round None = 0
number_of_round (Some round) = round.number

-- the time of its event
abbrev pub now_in : Option Round → ℕ
now_in None = 0
now_in (Some round) = round.now

-- its counts
abbrev pub counts_in : Option Round → Counts
counts_in None = record { ranked = 0; covered = 0; rejected = 0; unsettled = 0 }
counts_in (Some round) = round.counts

-- The numbers of what came last in a session: of the last line why it was refused and with which time, whether it changed the ranking, and its
-- number; and the numbers of the last round.
abbrev pub result_numbers : SessionState → TfpgResult
result_numbers session =
    record {
      refusal = why_number session.latest.refusal;
      changed = if session.latest.is_changed then 1 else 0;
      line = lines_before session.next;
      last = last_time session.latest.refusal;
      round = number_of_round session.latest.round;
      now = now_in session.latest.round;
      ranked = (counts_in session.latest.round).ranked;
      covered = (counts_in session.latest.round).covered;
      rejected = (counts_in session.latest.round).rejected;
      unsettled = (counts_in session.latest.round).unsettled;
    }
