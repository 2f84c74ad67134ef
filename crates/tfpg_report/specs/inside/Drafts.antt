-- What a reader of reports keeps of a round that has not ended, and what a line changes of it.
use Rattle.std.specs.Prelude.{ℕ, [], ◌∷◌, ◌++◌, Bool, true, false}
use Rattle.tfpg_base.specs.Hypothesis.{Hypothesis}
use Rattle.tfpg_base.specs.Trace.{with_time}
use Rattle.tfpg_base.specs.declared.activation.Activation.{Activation}
use Rattle.tfpg_evidence.specs.declared.round.Counts.{Counts as CountsOf}
use Rattle.tfpg_evidence.specs.declared.reason.Reason.{Reason}
use Rattle.tfpg_evidence.specs.declared.step.Step.{Step}
use Rattle.tfpg_evidence.specs.declared.step.Step.TheVariants as step
use Rattle.tfpg_report.specs.declared.fed.Fed.{Fed}
use Rattle.tfpg_report.specs.declared.fed.Fed.TheVariants as fed
use Rattle.tfpg_report.specs.declared.stand.Stand.{Stand}
use Rattle.tfpg_report.specs.declared.stand.Stand.TheVariants as stand
use Rattle.tfpg_report.specs.declared.read_round.Part.{Part}
use Rattle.tfpg_report.specs.declared.read_round.RankedLine.{RankedLine}
use Rattle.tfpg_report.specs.declared.read_round.NamedSet.{NamedSet}
use Rattle.tfpg_report.specs.declared.read_round.ReadRound.{ReadRound}
use Rattle.tfpg_report.specs.declared.report_line.ReportLine.{ReportLine}
use Rattle.tfpg_report.specs.declared.report_line.ReportLine.TheVariants.{Head, OldHead, Refused, Round, Hyp, Split, Cycle, Why, Again, Ranked, At, Open, Rejected, Counts, Panel}
use Rattle.tfpg_report.specs.declared.block_reader.draft.RoundDraft.{RoundDraft}
use Rattle.tfpg_report.specs.declared.block_reader.draft.UnderWay.{UnderWay}
use Rattle.tfpg_report.specs.declared.block_reader.draft.UnderWay.TheVariants as under_way

-- ---- what a line changes

-- the part with one more step, which begins on this line
abbrev pub part_with : ℕ → Step → Part → Part
part_with line step part = record part { steps = part.steps ++ step ∷ []; step_lines = part.step_lines ++ line ∷ [] }

-- the ranked hypothesis with one more activation
abbrev pub ranked_with : Activation → RankedLine → RankedLine
ranked_with activation ranked = record ranked { trace = with_time activation.node activation.time ranked.trace }

-- the draft in which this is under way
abbrev pub with_under_way : UnderWay → RoundDraft → RoundDraft
with_under_way now draft = record draft { under_way = now }

-- Steps are under way.
abbrev pub has_part : UnderWay → Bool
has_part (under_way.Part part) = true
has_part _ = false

-- A ranked hypothesis is under way.
abbrev pub has_ranked : UnderWay → Bool
has_ranked (under_way.Ranked ranked) = true
has_ranked _ = false

-- what is under way, with one more step that begins on this line
abbrev pub under_way_with_step : ℕ → Step → UnderWay → UnderWay
under_way_with_step line step (under_way.Part part) = under_way.Part (part_with line step part)
under_way_with_step line step other = other

-- what is under way, with one more activation
abbrev pub under_way_with_activation : Activation → UnderWay → UnderWay
under_way_with_activation activation (under_way.Ranked ranked) = under_way.Ranked (ranked_with activation ranked)
under_way_with_activation activation other = other

-- the draft with one more step, which begins on this line
abbrev pub with_step : ℕ → Step → RoundDraft → RoundDraft
with_step line step draft = with_under_way (under_way_with_step line step draft.under_way) draft

-- the draft with one more activation
abbrev pub with_activation : Activation → RoundDraft → RoundDraft
with_activation activation draft = with_under_way (under_way_with_activation activation draft.under_way) draft

-- the draft with this among what is whole
abbrev pub with_whole : UnderWay → RoundDraft → RoundDraft
with_whole under_way.Nothing draft = draft
with_whole (under_way.Part part) draft = record draft { parts = draft.parts ++ part ∷ [] }
with_whole (under_way.Ranked ranked) draft = record draft { ranked = draft.ranked ++ ranked ∷ [] }

-- the draft in which nothing is under way any more
abbrev pub settled : RoundDraft → RoundDraft
settled draft = with_under_way under_way.Nothing (with_whole draft.under_way draft)

-- the draft in which this begins, after what was under way
abbrev pub with_begun : UnderWay → RoundDraft → RoundDraft
with_begun now draft = with_under_way now (settled draft)

-- the draft with one more open hypothesis
abbrev pub with_open : NamedSet → RoundDraft → RoundDraft
with_open named draft = record (settled draft) { unsettled = (settled draft).unsettled ++ named ∷ [] }

-- the draft with one more rejected hypothesis
abbrev pub with_rejected : NamedSet → RoundDraft → RoundDraft
with_rejected named draft = record (settled draft) { rejected = (settled draft).rejected ++ named ∷ [] }

-- the draft whose cycle, if no reason of it is to come, is one more step
abbrev pub with_cycle_ended : Stand → RoundDraft → RoundDraft
with_cycle_ended stand.Step draft = with_step draft.cycle_line (step.Cycle draft.reasons) (record draft { reasons = [] })
with_cycle_ended _ draft = draft

-- the draft with a cycle that begins on this line
abbrev pub with_cycle : ℕ → Stand → RoundDraft → RoundDraft
with_cycle line next draft = with_cycle_ended next (record draft { cycle_line = line; reasons = [] })

-- the draft with one more reason
abbrev pub with_reason : Reason → Stand → RoundDraft → RoundDraft
with_reason reason next draft = with_cycle_ended next (record draft { reasons = draft.reasons ++ reason ∷ [] })

-- the draft of a round of which only the first line was read
abbrev pub opened : ℕ → ℕ → ℕ → ℕ → RoundDraft
opened first_line number line now = record {
  number = number;
  line = line;
  now = now;
  first_line = first_line;
  parts = [];
  ranked = [];
  unsettled = [];
  rejected = [];
  under_way = under_way.Nothing;
  cycle_line = 0;
  reasons = [];
}

-- the round of a draft in which nothing is under way
abbrev pub round_of : CountsOf → ℕ → RoundDraft → ReadRound
round_of counts counts_line draft = record {
  number = draft.number;
  line = draft.line;
  now = draft.now;
  first_line = draft.first_line;
  parts = draft.parts;
  ranked = draft.ranked;
  unsettled = draft.unsettled;
  rejected = draft.rejected;
  counts = counts;
  counts_line = counts_line;
}

-- the number of a hypothesis and its sets, on this line
abbrev pub named_at : ℕ → ℕ → Hypothesis → NamedSet
named_at first_line number hypothesis =
    record { first_line = first_line; number = number; set = hypothesis.set; doubts = hypothesis.doubts }

-- a part of this number that begins on this line, without a step
abbrev pub new_part : ℕ → ℕ → UnderWay
new_part first_line number =
    under_way.Part (record { first_line = first_line; number = number; steps = []; step_lines = [] })

-- What is under way lets the line come: a step needs a part, an activation a ranked hypothesis.
abbrev pub lets : UnderWay → ReportLine → Bool
lets now (Split name) = has_part now
lets now (Cycle count) = has_part now
lets now (Why reason) = has_part now
lets now Again = has_part now
lets now (At activation) = has_ranked now
lets now _ = true

-- The line says a hypothesis with its set.
abbrev pub says_set : ReportLine → Bool
says_set (Ranked number cost alarmed monitored hypothesis) = true
says_set (Open number hypothesis) = true
says_set (Rejected number hypothesis) = true
says_set _ = false

-- the draft with the hypothesis that the line with this number says
abbrev pub with_hypothesis : ℕ → ReportLine → RoundDraft → RoundDraft
with_hypothesis at (Ranked number cost alarmed monitored hypothesis) draft =
    with_begun (under_way.Ranked (record { first_line = at; number = number; cost = cost; alarmed = alarmed; monitored = monitored; set = hypothesis.set; doubts = hypothesis.doubts; trace = [] })) draft
with_hypothesis at (Open number hypothesis) draft = with_open (named_at at number hypothesis) draft
with_hypothesis at (Rejected number hypothesis) draft = with_rejected (named_at at number hypothesis) draft
with_hypothesis at _ draft = draft

-- the draft after the line with this number, after which the reader has this stand
abbrev pub draft_after : ℕ → Stand → ReportLine → RoundDraft → RoundDraft
draft_after at next (Head terms) draft = draft
draft_after at next (OldHead k budget) draft = draft
draft_after at next (Refused line cause) draft = draft
draft_after at next (Round number line now) draft = opened at number line now
draft_after at next (Hyp number) draft =
    with_begun (new_part at number) draft
draft_after at next (Split name) draft = with_step at (step.Split name) draft
draft_after at next (Cycle count) draft = with_cycle at next draft
draft_after at next (Why reason) draft = with_reason reason next draft
draft_after at next Again draft = with_step at step.Again draft
draft_after at next (Ranked number cost alarmed monitored hypothesis) draft =
    with_hypothesis at (Ranked number cost alarmed monitored hypothesis) draft
draft_after at next (At activation) draft = with_activation activation draft
draft_after at next (Open number hypothesis) draft = with_hypothesis at (Open number hypothesis) draft
draft_after at next (Rejected number hypothesis) draft = with_hypothesis at (Rejected number hypothesis) draft
draft_after at next (Counts counts) draft = opened 0 0 0 0
draft_after at next (Panel panel memory) draft = draft

-- the draft to which the line with this number was added, after which the reader has this stand
abbrev pub draft_with : ℕ → Stand → ReportLine → RoundDraft → RoundDraft
draft_with at next (Counts counts) draft = settled draft
draft_with at next line draft = draft_after at next line draft

-- what is left of the draft to which the line was added, once it was said what that completes
abbrev pub left_after : ReportLine → RoundDraft → RoundDraft
left_after (Counts counts) draft = opened 0 0 0 0
left_after _ draft = draft

-- what the line with this number completes, by the draft to which it was added
abbrev pub completed : ℕ → ReportLine → RoundDraft → Fed
completed at (Head terms) draft = fed.Head terms.k terms.doubt terms.budget
completed at (OldHead k budget) draft = fed.Head k 0 budget
completed at (Refused line cause) draft = fed.Refused line cause
completed at (Counts counts) draft = fed.Round (round_of counts at draft)
completed at (Panel panel memory) draft = fed.Lost panel memory
completed at _ draft = fed.More
