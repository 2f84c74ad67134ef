-- Each part of a round that was read has a step, since a step must come after the number of its hypothesis.
use Rattle.std.proofs.Common.{◌≡◌, ℕ, ◌<◌, Bool, true, false, List, [], ◌∷◌, ◌++◌, length, get_or, map, All, Some, None, refl, sym, ap, subst, ◌∙◌, arith, append_assoc}
use Rattle.std.specs.Prelude.{flat_map}
use Rattle.std.proofs.lemmas.List.Elements.{All-nil, All-cons, All-append, All-head, All-map}
use Rattle.tfpg_base.proofs.lemmas.lists.Choices.{then_some-true}
use Rattle.tfpg_evidence.specs.declared.step.Step.{Step}
use Rattle.tfpg_report.specs.declared.stand.Stand.{Stand}
use Rattle.tfpg_report.specs.declared.stand.Stand.TheVariants as stand
use Rattle.tfpg_report.specs.declared.read_round.NamedSet.{NamedSet}
use Rattle.tfpg_report.specs.declared.read_round.Part.{Part}
use Rattle.tfpg_report.specs.declared.read_round.RankedLine.{RankedLine}
use Rattle.tfpg_report.specs.declared.read_round.ReadRound.{ReadRound}
use Rattle.tfpg_report.specs.declared.report_line.ReportLine.{ReportLine}
use Rattle.tfpg_report.specs.declared.report_line.ReportLine.TheVariants.{Round, Hyp, Split, Cycle, Again, Ranked, At, Open, Rejected, Counts}
use Rattle.tfpg_report.specs.ReadRounds.{NumberedLine, lines_of_part, lines_of_ranked, line_of_open, line_of_rejected, lines_of_round, step_lines, HasLineForEachStep, hypothesis_ranked, hypothesis_named}
use Rattle.tfpg_report.specs.Reading.{IsReadFrom}
use Rattle.tfpg_report.specs.Stands.{may_begin_steps, stand_after, stand_after_all}
use Rattle.std.proofs.lemmas.List.{map-append}
use Rattle.tfpg_base.proofs.lemmas.lists.Images.{map-map}
use Rattle.tfpg_check.proofs.lemmas.completeness.MappedLists.{All-flat_map}
use Rattle.tfpg_check.proofs.lemmas.passing.NamedFindings.{steps_in_part}
use Rattle.tfpg_check.proofs.lemmas.passing.RightLines.{said, said_of_each, numbered_said, lines_of_numbered, parts_said, ranked_said}
use Rattle.tfpg_check.proofs.lemmas.passing.RightRounds.{HasWholeParts}
use Rattle.tfpg_check.proofs.lemmas.going_on.StandsOfLines.{comes_by}

-- the line may come after the number of a hypothesis
abbrev may_be_step : ReportLine → Bool
may_be_step (Split name) = true
may_be_step (Cycle count) = true
may_be_step Again = true
may_be_step _ = false

-- no other may
no_step : (line : ReportLine) → may_be_step line ≡ false → stand_after stand.Hyp line ≡ None
no_step (Split name) other = absurd cc
no_step (Cycle count) other = absurd cc
no_step Again other = absurd cc
no_step _ other = refl

-- The first of the lines may be no step.
record BeginsOtherwise (lines : List ReportLine) : Type 0 where
  first : ReportLine
  others : List ReportLine
  is : lines ≡ first ∷ others
  other : may_be_step first ≡ false

-- such lines may not come after the number of a hypothesis
not_after_number : (lines : List ReportLine) (to : Stand) → BeginsOtherwise lines → stand_after_all stand.Hyp lines ≡ Some to → ⊥
not_after_number lines to begins leads =
    let comes = comes_by stand.Hyp (begins.first ∷ []) begins.others to (ap (stand_after_all stand.Hyp) (sym begins.is) ∙ leads) in
    let none : None ≡ Some comes.between = sym (no_step begins.first begins.other) ∙ comes.front_leads in
    cc

-- before such lines, or parts and such lines, no number of a hypothesis comes alone
module _ (rest : List ReportLine) (begins : BeginsOtherwise rest) where
  parts_begin : (parts : List Part) → BeginsOtherwise (flat_map lines_of_numbered (map steps_in_part parts) ++ rest)
  parts_begin [] = begins
  parts_begin (part ∷ parts) = record {
    first = Hyp part.number;
    others = (flat_map step_lines part.steps ++ flat_map lines_of_numbered (map steps_in_part parts)) ++ rest;
    is = refl;
    other = refl;
  }

  one_has : (number : ℕ) (steps : List Step) (parts : List Part) (from between to : Stand) → stand_after_all from (Hyp number ∷ flat_map step_lines steps) ≡ Some between
      → stand_after_all between (flat_map lines_of_numbered (map steps_in_part parts) ++ rest) ≡ Some to → 0 < length steps
  one_has number [] parts from between to front back =
      let same : stand.Hyp ≡ between = (then_some-true (may_begin_steps from) stand.Hyp between front).1 in
      absurd (not_after_number (flat_map lines_of_numbered (map steps_in_part parts) ++ rest) to (parts_begin parts)
      (ap (λ (at : Stand). stand_after_all at (flat_map lines_of_numbered (map steps_in_part parts) ++ rest)) same ∙ back))
  one_has number (step ∷ steps) parts from between to front back = omega arith

  each_has : (parts : List Part) (from to : Stand) → stand_after_all from (flat_map lines_of_numbered (map steps_in_part parts) ++ rest) ≡ Some to
      → All (λ (part : Part). 0 < length part.steps) parts
  each_has [] from to leads = All-nil (λ (part : Part). 0 < length part.steps)
  each_has (part ∷ parts) from to leads =
      let own : List ReportLine = lines_of_numbered (steps_in_part part) in
      let later : List ReportLine = flat_map lines_of_numbered (map steps_in_part parts) in
      let comes = comes_by from own (later ++ rest) to (ap (stand_after_all from) (sym (append_assoc own later rest)) ∙ leads) in
      All-cons (λ (p : Part). 0 < length p.steps) part parts (one_has part.number part.steps parts from comes.between to comes.front_leads comes.back_leads)
      (each_has parts comes.between to comes.back_leads)

-- ---- the lines after the parts

-- the line may be no step
abbrev IsOther : ReportLine → Type 0
IsOther line = may_be_step line ≡ false

ranked_are_others : (r : RankedLine) → All IsOther (ranked_said r)
ranked_are_others r = All-cons IsOther (Ranked r.number r.cost r.alarmed r.monitored (hypothesis_ranked r)) (map At r.trace) refl (All-map IsOther At r.trace (λ k d within. refl))

open_said : NamedSet → ReportLine
open_said named = Open named.number (hypothesis_named named)

rejected_said : NamedSet → ReportLine
rejected_said named = Rejected named.number (hypothesis_named named)

-- lines that are not none begin so, if none may be a step
begins_so : (front : List ReportLine) (last : ReportLine) → All IsOther front → IsOther last → BeginsOtherwise (front ++ last ∷ [])
begins_so [] last others other = record { first = last; others = []; is = refl; other = other }
begins_so (line ∷ lines) last others other = record { first = line; others = lines ++ last ∷ []; is = refl; other = All-head IsOther line lines others }

module _ (read : ReadRound) where
  abbrev Ranks : List NumberedLine
  Ranks = flat_map lines_of_ranked read.ranked

  abbrev Opens : List NumberedLine
  Opens = map line_of_open read.unsettled

  abbrev Rejects : List NumberedLine
  Rejects = map line_of_rejected read.rejected

  after_parts : BeginsOtherwise (said (Ranks ++ Opens ++ Rejects) ++ Counts read.counts ∷ [])
  after_parts = begins_so (said (Ranks ++ Opens ++ Rejects)) (Counts read.counts) all refl
    where
      one : (r : RankedLine) → All IsOther (said (lines_of_ranked r))
      one r = subst (All IsOther) (sym (numbered_said r.first_line (ranked_said r))) (ranked_are_others r)

      ranks : All IsOther (said Ranks)
      ranks = subst (All IsOther) (sym (said_of_each lines_of_ranked read.ranked)) (All-flat_map IsOther (λ r. said (lines_of_ranked r)) read.ranked (λ k d within. one (get_or read.ranked k d)))

      opens : All IsOther (said Opens)
      opens = subst (All IsOther) (sym (map-map (λ (l : NumberedLine). l.says) line_of_open read.unsettled)) (All-map IsOther (λ (named : NamedSet). (line_of_open named).says) read.unsettled (λ k d within. refl))

      rejects : All IsOther (said Rejects)
      rejects = subst (All IsOther) (sym (map-map (λ (l : NumberedLine). l.says) line_of_rejected read.rejected)) (All-map IsOther (λ (named : NamedSet). (line_of_rejected named).says) read.rejected (λ k d within. refl))

      all : All IsOther (said (Ranks ++ Opens ++ Rejects))
      all =
          subst (All IsOther) (sym (map-append (λ (l : NumberedLine). l.says) (Ranks ++ Opens) Rejects))
          (All-append IsOther (said (Ranks ++ Opens)) (said Rejects)
          (subst (All IsOther) (sym (map-append (λ (l : NumberedLine). l.says) Ranks Opens)) (All-append IsOther (said Ranks) (said Opens) ranks opens)) rejects)

  -- the lines of the round, with those after the parts together
  said_in_parts : All HasLineForEachStep read.parts
      → said (lines_of_round read)
      ≡ Round read.number read.line read.now ∷ (flat_map lines_of_numbered (map steps_in_part read.parts) ++ (said (Ranks ++ Opens ++ Rejects) ++ Counts read.counts ∷ []))
  said_in_parts each =
      let parts : List NumberedLine = flat_map lines_of_part read.parts in
      let counts : List NumberedLine = record { number = read.counts_line; says = Counts read.counts } ∷ [] in
      let grouped : parts ++ Ranks ++ Opens ++ Rejects ++ counts ≡ parts ++ ((Ranks ++ Opens ++ Rejects) ++ counts) = simp append_assoc in
      ap (λ (ls : List NumberedLine). Round read.number read.line read.now ∷ said ls) grouped
      ∙ ap (λ (ls : List ReportLine). Round read.number read.line read.now ∷ ls)
      (map-append (λ (l : NumberedLine). l.says) parts ((Ranks ++ Opens ++ Rejects) ++ counts)
      ∙ (λ i. parts_said read.parts each i ++ map-append (λ (l : NumberedLine). l.says) (Ranks ++ Opens ++ Rejects) counts i))

-- Where the lines that a round was read from may come, each part has a step.
pub whole_parts : (from to : Stand) (first : ℕ) (lines : List ReportLine) (read : ReadRound) → IsReadFrom first lines read → stand_after_all from lines ≡ Some to → HasWholeParts read
whole_parts from to first lines read is leads =
    let all : said (lines_of_round read) ≡ lines = ap said is.lines_are ∙ numbered_said first lines in
    let rest : List ReportLine = said (flat_map lines_of_ranked read.ranked ++ map line_of_open read.unsettled ++ map line_of_rejected read.rejected) ++ Counts read.counts ∷ [] in
    let comes = comes_by from (Round read.number read.line read.now ∷ []) (flat_map lines_of_numbered (map steps_in_part read.parts) ++ rest) to
    (ap (stand_after_all from) (sym (said_in_parts read is.each_step) ∙ all) ∙ leads) in
    record {
      each_has = each_has rest (after_parts read) read.parts comes.between to comes.back_leads;
      each_step = is.each_step;
    }
