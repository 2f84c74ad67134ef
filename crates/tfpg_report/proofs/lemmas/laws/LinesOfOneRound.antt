-- The lines of a round, gone through from the last one to the first, give the round back. So no other round was read from them.
use Rattle.std.proofs.Common.{◌≡◌, ℕ, ◌+◌, List, [], ◌∷◌, ◌++◌, length, map, All, refl, sym, ap, ◌∙◌, append-nil, arith}
use Rattle.std.specs.Prelude.{flat_map}
use Rattle.std.proofs.lemmas.List.Elements.{All-head, All-tail}
use Rattle.tfpg_base.specs.declared.activation.Activation.{Activation}
use Rattle.tfpg_evidence.specs.declared.reason.Reason.{Reason}
use Rattle.tfpg_evidence.specs.declared.step.Step.{Step}
use Rattle.tfpg_evidence.specs.declared.step.Step.TheVariants as step
use Rattle.tfpg_report.specs.declared.read_round.Part.{Part}
use Rattle.tfpg_report.specs.declared.read_round.RankedLine.{RankedLine}
use Rattle.tfpg_report.specs.declared.read_round.NamedSet.{NamedSet}
use Rattle.tfpg_report.specs.declared.read_round.ReadRound.{ReadRound}
use Rattle.tfpg_report.specs.declared.report_line.ReportLine.{ReportLine}
use Rattle.tfpg_report.specs.declared.report_line.ReportLine.TheVariants.{Head, OldHead, Refused, Round, Hyp, Split, Cycle, Why, Again, Ranked, At, Open, Rejected, Counts, Panel}
use Rattle.tfpg_report.specs.ReadRounds.{NumberedLine, numbered_from, step_lines, lines_of_steps, lines_of_part, lines_of_ranked, line_of_open, line_of_rejected, lines_of_round, HasLineForEachStep, hypothesis_ranked, hypothesis_named}
use Rattle.tfpg_report.specs.Reading.{IsReadFrom}

-- ---- from the last line to the first

-- What lines of a round say: what is whole, and the steps, reasons and activations whose first line is still to come.
pub record Gathered : Type 0 where
  pub round : ReadRound
  pub steps : List Step
  pub firsts : List ℕ
  pub reasons : List Reason
  pub trace : List Activation

-- what is whole alone
abbrev pub gathered : ReadRound → Gathered
gathered round = record { round = round; steps = []; firsts = []; reasons = []; trace = [] }

-- nothing
abbrev pub nothing_gathered : Gathered
nothing_gathered = gathered (record {
  number = 0;
  line = 0;
  now = 0;
  first_line = 0;
  parts = [];
  ranked = [];
  unsettled = [];
  rejected = [];
  counts = record { ranked = 0; covered = 0; rejected = 0; unsettled = 0 };
  counts_line = 0;
})

-- with one step before, on this line
abbrev pub with_step_before : ℕ → Step → Gathered → Gathered
with_step_before at step later = record later { steps = step ∷ later.steps; firsts = at ∷ later.firsts }

-- with one line before
abbrev pub with_line_before : ℕ → ReportLine → Gathered → Gathered
with_line_before at (Head terms) later = later
with_line_before at (OldHead k budget) later = later
with_line_before at (Refused line cause) later = later
with_line_before at (Round number line now) later =
    record later { round = record later.round { number = number; line = line; now = now; first_line = at } }
with_line_before at (Hyp number) later = record later {
  round = record later.round {
    parts = record { first_line = at; number = number; steps = later.steps; step_lines = later.firsts } ∷ later.round.parts;
  };
  steps = [];
  firsts = [];
}
with_line_before at (Split name) later = with_step_before at (step.Split name) later
with_line_before at (Cycle count) later = with_step_before at (step.Cycle later.reasons) (record later { reasons = [] })
with_line_before at (Why reason) later = record later { reasons = reason ∷ later.reasons }
with_line_before at Again later = with_step_before at step.Again later
with_line_before at (Ranked number cost alarmed monitored hypothesis) later = record later {
  round = record later.round {
    ranked = record {
      first_line = at;
      number = number;
      cost = cost;
      alarmed = alarmed;
      monitored = monitored;
      set = hypothesis.set;
      doubts = hypothesis.doubts;
      trace = later.trace;
    }
        ∷ later.round.ranked;
  };
  trace = [];
}
with_line_before at (At activation) later = record later { trace = activation ∷ later.trace }
with_line_before at (Open number hypothesis) later = record later {
  round = record later.round {
    unsettled = record { first_line = at; number = number; set = hypothesis.set; doubts = hypothesis.doubts } ∷ later.round.unsettled;
  };
}
with_line_before at (Rejected number hypothesis) later = record later {
  round = record later.round {
    rejected = record { first_line = at; number = number; set = hypothesis.set; doubts = hypothesis.doubts } ∷ later.round.rejected;
  };
}
with_line_before at (Counts counts) later =
    record later { round = record later.round { counts = counts; counts_line = at } }
with_line_before at (Panel panel memory) later = later

-- with all these lines before
abbrev pub with_lines_before : List NumberedLine → Gathered → Gathered
with_lines_before [] later = later
with_lines_before (line ∷ lines) later = with_line_before line.number line.says (with_lines_before lines later)

-- some lines, and then others
with_lines_append : (front back : List NumberedLine) (later : Gathered) → with_lines_before (front ++ back) later ≡ with_lines_before front (with_lines_before back later)
with_lines_append [] back later = refl
with_lines_append (line ∷ front) back later = ap (with_line_before line.number line.says) (with_lines_append front back later)

-- ---- each part of a round

rejected_back : (named : List NamedSet) (round : ReadRound) → with_lines_before (map line_of_rejected named) (gathered round) ≡ gathered (record round { rejected = named ++ round.rejected })
rejected_back [] round = refl
rejected_back (one ∷ named) round = ap (with_line_before one.first_line (Rejected one.number (hypothesis_named one))) (rejected_back named round)

open_back : (named : List NamedSet) (round : ReadRound) → with_lines_before (map line_of_open named) (gathered round) ≡ gathered (record round { unsettled = named ++ round.unsettled })
open_back [] round = refl
open_back (one ∷ named) round = ap (with_line_before one.first_line (Open one.number (hypothesis_named one))) (open_back named round)

trace_back : (first : ℕ) (trace : List Activation) (round : ReadRound) → with_lines_before (numbered_from first (map At trace)) (gathered round) ≡ record (gathered round) { trace = trace }
trace_back first [] round = refl
trace_back first (activation ∷ trace) round = ap (with_line_before first (At activation)) (trace_back (first + 1) trace round)

ranked_back : (ranked : List RankedLine) (round : ReadRound) → with_lines_before (flat_map lines_of_ranked ranked) (gathered round) ≡ gathered (record round { ranked = ranked ++ round.ranked })
ranked_back [] round = refl
ranked_back (one ∷ ranked) round =
    with_lines_append (lines_of_ranked one) (flat_map lines_of_ranked ranked) (gathered round)
    ∙ ap (with_lines_before (lines_of_ranked one)) (ranked_back ranked round)
    ∙ ap (with_line_before one.first_line (Ranked one.number one.cost one.alarmed one.monitored (hypothesis_ranked one)))
    (trace_back (one.first_line + 1) one.trace (record round { ranked = ranked ++ round.ranked }))

-- with these steps before what is whole
abbrev and_steps : List Step → List ℕ → ReadRound → Gathered
and_steps steps firsts round = record (gathered round) { steps = steps; firsts = firsts }

reasons_back : (first : ℕ) (reasons : List Reason) (steps : List Step) (firsts : List ℕ) (round : ReadRound) → with_lines_before (numbered_from first (map Why reasons)) (and_steps steps firsts round) ≡ record (and_steps steps firsts round) { reasons = reasons }
reasons_back first [] steps firsts round = refl
reasons_back first (reason ∷ reasons) steps firsts round = ap (with_line_before first (Why reason)) (reasons_back (first + 1) reasons steps firsts round)

step_back : (first : ℕ) (step : Step) (steps : List Step) (firsts : List ℕ) (round : ReadRound) → with_lines_before (numbered_from first (step_lines step)) (and_steps steps firsts round) ≡ and_steps (step ∷ steps) (first ∷ firsts) round
step_back first (step.Split name) steps firsts round = refl
step_back first (step.Cycle reasons) steps firsts round =
    ap (with_line_before first (Cycle (length reasons))) (reasons_back (first + 1) reasons steps firsts round)
step_back first step.Again steps firsts round = refl

steps_back : (firsts : List ℕ) (steps : List Step) (round : ReadRound) → length firsts ≡ length steps → with_lines_before (lines_of_steps firsts steps) (gathered round) ≡ and_steps steps firsts round
steps_back [] [] round same = refl
steps_back [] (step ∷ steps) round same = absurd (omega (arith, same))
steps_back (first ∷ firsts) [] round same = absurd (omega (arith, same))
steps_back (first ∷ firsts) (step ∷ steps) round same =
    with_lines_append (numbered_from first (step_lines step)) (lines_of_steps firsts steps) (gathered round)
    ∙ ap (with_lines_before (numbered_from first (step_lines step))) (steps_back firsts steps round (omega (arith, same)))
    ∙ step_back first step steps firsts round

parts_back : (parts : List Part) (round : ReadRound) → All HasLineForEachStep parts → with_lines_before (flat_map lines_of_part parts) (gathered round) ≡ gathered (record round { parts = parts ++ round.parts })
parts_back [] round each = refl
parts_back (part ∷ parts) round each =
    with_lines_append (lines_of_part part) (flat_map lines_of_part parts) (gathered round)
    ∙ ap (with_lines_before (lines_of_part part)) (parts_back parts round (All-tail HasLineForEachStep part parts each))
    ∙ ap (with_line_before part.first_line (Hyp part.number))
    (steps_back part.step_lines part.steps (record round { parts = parts ++ round.parts }) (All-head HasLineForEachStep part parts each))

-- ---- the round

-- The lines of a round give it back.
pub round_back : (round : ReadRound) → All HasLineForEachStep round.parts → with_lines_before (lines_of_round round) nothing_gathered ≡ gathered round
round_back round each =
    with_lines_append (front ++ parts ++ ranked ++ unsettled ++ rejected) counts nothing_gathered
    ∙ with_lines_append (front ++ parts ++ ranked ++ unsettled) rejected (gathered counted)
    ∙ ap (with_lines_before (front ++ parts ++ ranked ++ unsettled)) (rejected_back round.rejected counted)
    ∙ with_lines_append (front ++ parts ++ ranked) unsettled (gathered (record counted { rejected = round.rejected ++ [] }))
    ∙ ap (with_lines_before (front ++ parts ++ ranked)) (open_back round.unsettled (record counted { rejected = round.rejected ++ [] }))
    ∙ with_lines_append (front ++ parts) ranked (gathered with_sets)
    ∙ ap (with_lines_before (front ++ parts)) (ranked_back round.ranked with_sets)
    ∙ ap (with_line_before round.first_line (Round round.number round.line round.now)) (parts_back round.parts (record with_sets { ranked = round.ranked ++ [] }) each)
    ∙ (λ i. gathered (record round { parts = append-nil round.parts i; ranked = append-nil round.ranked i; unsettled = append-nil round.unsettled i; rejected = append-nil round.rejected i }))
  where
    front : List NumberedLine
    front = record { number = round.first_line; says = Round round.number round.line round.now } ∷ []

    parts : List NumberedLine
    parts = flat_map lines_of_part round.parts

    ranked : List NumberedLine
    ranked = flat_map lines_of_ranked round.ranked

    unsettled : List NumberedLine
    unsettled = map line_of_open round.unsettled

    rejected : List NumberedLine
    rejected = map line_of_rejected round.rejected

    counts : List NumberedLine
    counts = record { number = round.counts_line; says = Counts round.counts } ∷ []

    counted : ReadRound
    counted = record nothing_gathered.round { counts = round.counts; counts_line = round.counts_line }

    with_sets : ReadRound
    with_sets = record counted { unsettled = round.unsettled ++ []; rejected = round.rejected ++ [] }

-- One round was read from lines with their numbers.
pub one_round_read : (first : ℕ) (lines : List ReportLine) (a b : ReadRound) → IsReadFrom first lines a → IsReadFrom first lines b → a ≡ b
one_round_read first lines a b of_a of_b =
    ap (λ (g : Gathered). g.round)
    (sym (round_back a of_a.each_step)
    ∙ ap (λ numbered. with_lines_before numbered nothing_gathered) (of_a.lines_are ∙ sym of_b.lines_are)
    ∙ round_back b of_b.each_step)
