-- What was read of the lines of a round is the round: gone through from the last line to the first, they say the same, whatever
-- their numbers.
use Rattle.std.proofs.Common.{◌≡◌, ℕ, suc, ◌+◌, eqb, cond, List, [], ◌∷◌, ◌++◌, length, map, refl, sym, ap, ◌∙◌, append_assoc, append-nil, false, arith}
use Rattle.std.specs.Prelude.{flat_map}
use Rattle.std.proofs.lemmas.Bool.{cond-false, ne_eqb}
use Rattle.tfpg_base.specs.declared.activation.Activation.{Activation}
use Rattle.tfpg_evidence.specs.declared.reason.Reason.{Reason}
use Rattle.tfpg_evidence.specs.declared.step.Step.{Step}
use Rattle.tfpg_evidence.specs.declared.step.Step.TheVariants as step
use Rattle.tfpg_evidence.specs.declared.finding.Status.{Status}
use Rattle.tfpg_evidence.specs.declared.finding.Status.TheVariants as status
use Rattle.tfpg_evidence.specs.declared.finding.Finding.{Finding}
use Rattle.tfpg_evidence.specs.declared.round.Counts.{Counts as CountsOf}
use Rattle.tfpg_evidence.specs.declared.round.Round.{Round as RoundOf}
use Rattle.tfpg_evidence.specs.Findings.{ranked_in_order, open_in, newly_rejected, hypothesis_of}
use Rattle.tfpg_report.specs.declared.read_round.ReadRound.{ReadRound}
use Rattle.tfpg_report.specs.declared.report_line.ReportLine.{ReportLine}
use Rattle.tfpg_report.specs.declared.report_line.ReportLine.TheVariants.{Head, OldHead, Refused, Round, Hyp, Split, Cycle, Why, Again, Ranked, At, Open, Rejected, Counts, Panel}
use Rattle.tfpg_report.specs.ReadRounds.{numbered_from, step_lines}
use Rattle.tfpg_report.specs.Blocks.{lines_of_finding, lines_if_ranked, round_lines}
use Rattle.tfpg_report.specs.inside.LineNames.{open_line, rejected_line}
use Rattle.tfpg_report.specs.ReadBack.{SaidSteps, SaidRanked, SaidSet, steps_of_part, steps_of_finding, ranked_of_lines, ranked_of_finding, set_of_line, set_of_finding, IsReadBack}
use Rattle.tfpg_report.specs.Reading.{IsReadFrom}
use Rattle.tfpg_report.proofs.lemmas.laws.LinesOfOneRound.{Gathered, nothing_gathered, with_line_before, with_lines_before, round_back}

-- ---- without numbers of lines

-- what a round says
record Said : Type 0 where
  number : ℕ
  line : ℕ
  now : ℕ
  parts : List SaidSteps
  ranked : List SaidRanked
  unsettled : List SaidSet
  rejected : List SaidSet
  counts : CountsOf

-- what lines of a round say: what is whole, and the steps, reasons and activations whose first line is still to come
record SaidSoFar : Type 0 where
  whole : Said
  steps : List Step
  reasons : List Reason
  trace : List Activation

-- what a round says as it was read
abbrev said_of : ReadRound → Said
said_of round = record {
  number = round.number;
  line = round.line;
  now = round.now;
  parts = map steps_of_part round.parts;
  ranked = map ranked_of_lines round.ranked;
  unsettled = map set_of_line round.unsettled;
  rejected = map set_of_line round.rejected;
  counts = round.counts;
}

-- what was gathered of lines, without their numbers
abbrev said_so_far : Gathered → SaidSoFar
said_so_far g = record { whole = said_of g.round; steps = g.steps; reasons = g.reasons; trace = g.trace }

-- what is whole alone
abbrev whole_alone : Said → SaidSoFar
whole_alone said = record { whole = said; steps = []; reasons = []; trace = [] }

-- with one line before
abbrev saying : ReportLine → SaidSoFar → SaidSoFar
saying (Head terms) later = later
saying (OldHead k budget) later = later
saying (Refused line cause) later = later
saying (Round number line now) later = record later { whole = record later.whole { number = number; line = line; now = now } }
saying (Hyp number) later = record later {
  whole = record later.whole { parts = record { number = number; steps = later.steps } ∷ later.whole.parts };
  steps = [];
}
saying (Split name) later = record later { steps = step.Split name ∷ later.steps }
saying (Cycle count) later = record later { steps = step.Cycle later.reasons ∷ later.steps; reasons = [] }
saying (Why reason) later = record later { reasons = reason ∷ later.reasons }
saying Again later = record later { steps = step.Again ∷ later.steps }
saying (Ranked number cost alarmed monitored hypothesis) later = record later {
  whole = record later.whole {
    ranked = record {
      number = number;
      cost = cost;
      alarmed = alarmed;
      monitored = monitored;
      hypothesis = hypothesis;
      trace = later.trace;
    }
        ∷ later.whole.ranked;
  };
  trace = [];
}
saying (At activation) later = record later { trace = activation ∷ later.trace }
saying (Open number hypothesis) later =
    record later { whole = record later.whole { unsettled = record { number = number; hypothesis = hypothesis } ∷ later.whole.unsettled } }
saying (Rejected number hypothesis) later =
    record later { whole = record later.whole { rejected = record { number = number; hypothesis = hypothesis } ∷ later.whole.rejected } }
saying (Counts counts) later = record later { whole = record later.whole { counts = counts } }
saying (Panel panel memory) later = later

-- with all these lines before
abbrev saying_all : List ReportLine → SaidSoFar → SaidSoFar
saying_all [] later = later
saying_all (line ∷ lines) later = saying line (saying_all lines later)

-- some lines, and then others
saying_append : (front back : List ReportLine) (later : SaidSoFar) → saying_all (front ++ back) later ≡ saying_all front (saying_all back later)
saying_append [] back later = refl
saying_append (line ∷ front) back later = ap (saying line) (saying_append front back later)

-- One line says the same without its number.
one_said : (at : ℕ) (line : ReportLine) (later : Gathered) → said_so_far (with_line_before at line later) ≡ saying line (said_so_far later)
one_said at (Head terms) later = refl
one_said at (OldHead k budget) later = refl
one_said at (Refused line cause) later = refl
one_said at (Round number line now) later = refl
one_said at (Hyp number) later = refl
one_said at (Split name) later = refl
one_said at (Cycle count) later = refl
one_said at (Why reason) later = refl
one_said at Again later = refl
one_said at (Ranked number cost alarmed monitored hypothesis) later = refl
one_said at (At activation) later = refl
one_said at (Open number hypothesis) later = refl
one_said at (Rejected number hypothesis) later = refl
one_said at (Counts counts) later = refl
one_said at (Panel panel memory) later = refl

-- So do all lines.
all_said : (first : ℕ) (lines : List ReportLine) (later : Gathered) → said_so_far (with_lines_before (numbered_from first lines) later) ≡ saying_all lines (said_so_far later)
all_said first [] later = refl
all_said first (line ∷ lines) later =
    one_said first line (with_lines_before (numbered_from (first + 1) lines) later) ∙ ap (saying line) (all_said (first + 1) lines later)

-- ---- each part of a round that was found

-- with these steps before what is whole
abbrev and_steps : List Step → Said → SaidSoFar
and_steps steps said = record (whole_alone said) { steps = steps }

whys_said : (reasons : List Reason) (steps : List Step) (said : Said) → saying_all (map Why reasons) (and_steps steps said) ≡ record (and_steps steps said) { reasons = reasons }
whys_said [] steps said = refl
whys_said (reason ∷ reasons) steps said = ap (saying (Why reason)) (whys_said reasons steps said)

step_said : (step : Step) (steps : List Step) (said : Said) → saying_all (step_lines step) (and_steps steps said) ≡ and_steps (step ∷ steps) said
step_said (step.Split name) steps said = refl
step_said (step.Cycle reasons) steps said = ap (saying (Cycle (length reasons))) (whys_said reasons steps said)
step_said step.Again steps said = refl

steps_said : (steps : List Step) (said : Said) → saying_all (flat_map step_lines steps) (whole_alone said) ≡ and_steps steps said
steps_said [] said = refl
steps_said (step ∷ steps) said =
    saying_append (step_lines step) (flat_map step_lines steps) (whole_alone said)
    ∙ ap (saying_all (step_lines step)) (steps_said steps said)
    ∙ step_said step steps said

finding_said : (finding : Finding) (said : Said) → saying_all (lines_of_finding finding) (whole_alone said) ≡ whole_alone (record said { parts = steps_of_finding finding ++ said.parts })
finding_said finding said = by finding.steps
  where
    by : (steps : List Step) → saying_all (cond (eqb (length steps) 0) [] (Hyp finding.number ∷ flat_map step_lines steps)) (whole_alone said)
        ≡ whole_alone (record said { parts = cond (eqb (length steps) 0) [] (record { number = finding.number; steps = steps } ∷ []) ++ said.parts })
    by [] = refl
    by (step ∷ others) =
        let some : eqb (suc (length others)) 0 ≡ false = ne_eqb (suc (length others)) 0 (λ none. omega (arith, none)) in
        let steps : List Step = step ∷ others in
        let lines : List ReportLine = Hyp finding.number ∷ flat_map step_lines steps in
        let part : SaidSteps = record { number = finding.number; steps = steps } in
        ap (λ shown. saying_all shown (whole_alone said)) (cond-false (eqb (suc (length others)) 0) [] lines some)
        ∙ ap (saying (Hyp finding.number)) (steps_said steps said)
        ∙ ap (λ (parts : List SaidSteps). whole_alone (record said { parts = parts ++ said.parts })) (sym (cond-false (eqb (suc (length others)) 0) [] (part ∷ []) some))

findings_said : (findings : List Finding) (said : Said) → saying_all (flat_map lines_of_finding findings) (whole_alone said) ≡ whole_alone (record said { parts = flat_map steps_of_finding findings ++ said.parts })
findings_said [] said = refl
findings_said (finding ∷ findings) said =
    saying_append (lines_of_finding finding) (flat_map lines_of_finding findings) (whole_alone said)
    ∙ ap (saying_all (lines_of_finding finding)) (findings_said findings said)
    ∙ finding_said finding (record said { parts = flat_map steps_of_finding findings ++ said.parts })
    ∙ ap (λ (parts : List SaidSteps). whole_alone (record said { parts = parts })) (sym (append_assoc (steps_of_finding finding) (flat_map steps_of_finding findings) said.parts))

trace_said : (trace : List Activation) (said : Said) → saying_all (map At trace) (whole_alone said) ≡ record (whole_alone said) { trace = trace }
trace_said [] said = refl
trace_said (activation ∷ trace) said = ap (saying (At activation)) (trace_said trace said)

ranked_said : (finding : Finding) (is : Status) (said : Said) → saying_all (lines_if_ranked finding is) (whole_alone said) ≡ whole_alone (record said { ranked = ranked_of_finding finding is ++ said.ranked })
ranked_said finding (status.Ranked trace cost alarmed monitored) said =
    ap (saying (Ranked finding.number cost alarmed monitored (hypothesis_of finding))) (trace_said trace said)
ranked_said finding (status.Covered by) said = refl
ranked_said finding status.Rejected said = refl
ranked_said finding status.Open said = refl

all_ranked_said : (findings : List Finding) (said : Said) → saying_all (flat_map (λ finding. lines_if_ranked finding finding.status) findings) (whole_alone said)
    ≡ whole_alone (record said { ranked = flat_map (λ finding. ranked_of_finding finding finding.status) findings ++ said.ranked })
all_ranked_said [] said = refl
all_ranked_said (finding ∷ findings) said =
    let shown : List ReportLine = flat_map (λ (f : Finding). lines_if_ranked f f.status) findings in
    let later : List SaidRanked = flat_map (λ (f : Finding). ranked_of_finding f f.status) findings in
    saying_append (lines_if_ranked finding finding.status) shown (whole_alone said)
    ∙ ap (saying_all (lines_if_ranked finding finding.status)) (all_ranked_said findings said)
    ∙ ranked_said finding finding.status (record said { ranked = later ++ said.ranked })
    ∙ ap (λ (ranked : List SaidRanked). whole_alone (record said { ranked = ranked })) (sym (append_assoc (ranked_of_finding finding finding.status) later said.ranked))

open_said : (findings : List Finding) (said : Said) → saying_all (map open_line findings) (whole_alone said) ≡ whole_alone (record said { unsettled = map set_of_finding findings ++ said.unsettled })
open_said [] said = refl
open_said (finding ∷ findings) said = ap (saying (open_line finding)) (open_said findings said)

rejected_said : (findings : List Finding) (said : Said) → saying_all (map rejected_line findings) (whole_alone said) ≡ whole_alone (record said { rejected = map set_of_finding findings ++ said.rejected })
rejected_said [] said = refl
rejected_said (finding ∷ findings) said = ap (saying (rejected_line finding)) (rejected_said findings said)

-- ---- the round

-- what a round says as it was found
abbrev said_by : RoundOf → Said
said_by round = record {
  number = round.number;
  line = round.line;
  now = round.now;
  parts = flat_map steps_of_finding round.findings;
  ranked = flat_map (λ finding. ranked_of_finding finding finding.status) (ranked_in_order round);
  unsettled = map set_of_finding (open_in round);
  rejected = map set_of_finding (newly_rejected round);
  counts = round.counts;
}

-- The lines of a round say it.
round_said : (round : RoundOf) → saying_all (round_lines round) (said_so_far nothing_gathered) ≡ whole_alone (said_by round)
round_said round =
    saying_append (front ++ steps ++ ranked ++ opened ++ rejected) (Counts round.counts ∷ []) (said_so_far nothing_gathered)
    ∙ saying_append (front ++ steps ++ ranked ++ opened) rejected (whole_alone counted)
    ∙ ap (saying_all (front ++ steps ++ ranked ++ opened)) (rejected_said (newly_rejected round) counted)
    ∙ saying_append (front ++ steps ++ ranked) opened (whole_alone with_rejected)
    ∙ ap (saying_all (front ++ steps ++ ranked)) (open_said (open_in round) with_rejected)
    ∙ saying_append (front ++ steps) ranked (whole_alone with_sets)
    ∙ ap (saying_all (front ++ steps)) (all_ranked_said (ranked_in_order round) with_sets)
    ∙ ap (saying (Round round.number round.line round.now)) (findings_said round.findings with_ranked)
    ∙ (λ i. whole_alone (record (said_by round) {
      parts = append-nil (said_by round).parts i;
      ranked = append-nil (said_by round).ranked i;
      unsettled = append-nil (said_by round).unsettled i;
      rejected = append-nil (said_by round).rejected i;
    }))
  where
    front : List ReportLine
    front = Round round.number round.line round.now ∷ []

    steps : List ReportLine
    steps = flat_map lines_of_finding round.findings

    ranked : List ReportLine
    ranked = flat_map (λ finding. lines_if_ranked finding finding.status) (ranked_in_order round)

    opened : List ReportLine
    opened = map open_line (open_in round)

    rejected : List ReportLine
    rejected = map rejected_line (newly_rejected round)

    counted : Said
    counted = record (said_of nothing_gathered.round) { counts = round.counts }

    with_rejected : Said
    with_rejected = record counted { rejected = map set_of_finding (newly_rejected round) ++ [] }

    with_sets : Said
    with_sets = record with_rejected { unsettled = map set_of_finding (open_in round) ++ [] }

    with_ranked : Said
    with_ranked = record with_sets { ranked = flat_map (λ finding. ranked_of_finding finding finding.status) (ranked_in_order round) ++ [] }

-- What was read from the lines of a round is the round.
pub round_read_back : (first : ℕ) (round : RoundOf) (read : ReadRound) → IsReadFrom first (round_lines round) read → IsReadBack round read
round_read_back first round read from =
    let same : said_of read ≡ said_by round = ap (λ (s : SaidSoFar). s.whole)
    (ap said_so_far (sym (round_back read from.each_step) ∙ ap (λ lines. with_lines_before lines nothing_gathered) from.lines_are)
    ∙ all_said first (round_lines round) nothing_gathered
    ∙ round_said round) in
    record {
      number = ap (λ (s : Said). s.number) same;
      line = ap (λ (s : Said). s.line) same;
      now = ap (λ (s : Said). s.now) same;
      steps = ap (λ (s : Said). s.parts) same;
      ranked = ap (λ (s : Said). s.ranked) same;
      unsettled = ap (λ (s : Said). s.unsettled) same;
      rejected = ap (λ (s : Said). s.rejected) same;
      counts = ap (λ (s : Said). s.counts) same;
    }
