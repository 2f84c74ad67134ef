-- The lines that a round was read from are those of the round that its findings make.
use Rattle.std.proofs.Common.{◌≡◌, not, ℕ, ◌+◌, ◌<◌, Bool, true, false, cond, eqb, List, [], ◌∷◌, ◌++◌, length, map, filter, All, Option, Some, refl, sym, ap, ◌∙◌, arith}
use Rattle.std.specs.List.{Contains}
use Rattle.std.specs.Prelude.{flat_map, option_map, unwrap_or}
use Rattle.std.proofs.lemmas.List.{map-append}
use Rattle.std.proofs.lemmas.List.Elements.{All-head, All-tail}
use Rattle.std.proofs.lemmas.List.Folds.{flat_map-map}
use Rattle.tfpg_base.proofs.lemmas.lists.Elements.{All-from_members}
use Rattle.tfpg_base.proofs.lemmas.lists.Images.{map-map, flat_map-same}
use Rattle.tfpg_base.proofs.lemmas.lists.LookedUp.{flat_map-filter_map}
use Rattle.tfpg_evidence.specs.declared.finding.Finding.{Finding}
use Rattle.tfpg_evidence.specs.declared.step.Step.{Step}
use Rattle.tfpg_evidence.specs.RoundOf.{is_open, finding_numbered}
use Rattle.tfpg_evidence.specs.Findings.{is_rejected_now, findings_at}
use Rattle.tfpg_evidence.proofs.lemmas.FindingsByNumber.{finding_numbered-first}
use Rattle.tfpg_report.specs.declared.read_round.Part.{Part}
use Rattle.tfpg_report.specs.declared.read_round.RankedLine.{RankedLine}
use Rattle.tfpg_report.specs.declared.read_round.ReadRound.{ReadRound}
use Rattle.tfpg_report.specs.declared.report_line.ReportLine.{ReportLine}
use Rattle.tfpg_report.specs.declared.report_line.ReportLine.TheVariants.{Round, Hyp, Ranked, At, Open, Rejected, Counts}
use Rattle.tfpg_report.specs.Blocks.{lines_of_finding, lines_if_ranked, round_lines}
use Rattle.tfpg_report.specs.inside.LineNames.{open_line, rejected_line}
use Rattle.tfpg_report.specs.ReadRounds.{NumberedLine, numbered_from, step_lines, lines_of_steps, lines_of_part, lines_of_ranked, line_of_open, line_of_rejected, lines_of_round, HasLineForEachStep, hypothesis_ranked}
use Rattle.tfpg_check.specs.Judging.{RoundBasis, NumberedHypothesis, named_hypothesis}
use Rattle.tfpg_check.specs.Passing.{RoundPasses}
use Rattle.tfpg_check.proofs.lemmas.passing.ReadFindings.{AreReadFindings}
use Rattle.tfpg_check.proofs.lemmas.passing.OneStatus.{hypothesis_there, ranked_finding}
use Rattle.tfpg_check.proofs.lemmas.passing.RightFindings.{round_read}
use Rattle.tfpg_check.proofs.lemmas.passing.NamedFindings.{NumberedSteps, named_in, steps_in_finding, steps_in_part, has_steps, open_named, steps_named, rejected_named}

-- what lines say
abbrev pub said : List NumberedLine → List ReportLine
said lines = map (λ (line : NumberedLine). line.says) lines

-- lines with their numbers say what they say without
pub numbered_said : (first : ℕ) (lines : List ReportLine) → said (numbered_from first lines) ≡ lines
numbered_said first [] = refl
numbered_said first (line ∷ lines) = ap (λ (ls : List ReportLine). line ∷ ls) (numbered_said (first + 1) lines)

-- what the lines of all items say
pub said_of_each : {X : Type 0} (lines : X → List NumberedLine) (xs : List X) → said (flat_map lines xs) ≡ flat_map (λ x. said (lines x)) xs
said_of_each lines [] = refl
said_of_each lines (x ∷ xs) =
    map-append (λ (line : NumberedLine). line.says) (lines x) (flat_map lines xs) ∙ ap (λ (ls : List ReportLine). said (lines x) ++ ls) (said_of_each lines xs)

-- ---- steps

steps_said : (firsts : List ℕ) (steps : List Step) → length firsts ≡ length steps → said (lines_of_steps firsts steps) ≡ flat_map step_lines steps
steps_said [] [] same = refl
steps_said [] (step ∷ steps) same = absurd (omega (arith, same))
steps_said (first ∷ firsts) [] same = absurd (omega (arith, same))
steps_said (first ∷ firsts) (step ∷ steps) same =
    map-append (λ (line : NumberedLine). line.says) (numbered_from first (step_lines step)) (lines_of_steps firsts steps)
    ∙ (λ i. numbered_said first (step_lines step) i ++ steps_said firsts steps (omega (arith, same)) i)

-- the lines of a number with its steps
abbrev pub lines_of_numbered : NumberedSteps → List ReportLine
lines_of_numbered numbered = Hyp numbered.number ∷ flat_map step_lines numbered.steps

pub parts_said : (parts : List Part) → All HasLineForEachStep parts → said (flat_map lines_of_part parts) ≡ flat_map lines_of_numbered (map steps_in_part parts)
parts_said [] each = refl
parts_said (part ∷ parts) each =
    map-append (λ (line : NumberedLine). line.says) (lines_of_part part) (flat_map lines_of_part parts)
    ∙ (λ i. Hyp part.number ∷ steps_said part.step_lines part.steps (All-head HasLineForEachStep part parts each) i ++ parts_said parts (All-tail HasLineForEachStep part parts each) i)

-- a finding without steps has no lines
pub with_steps_alone : (findings : List Finding) → flat_map lines_of_finding findings ≡ flat_map lines_of_numbered (map steps_in_finding (filter has_steps findings))
with_steps_alone [] = refl
with_steps_alone (f ∷ findings) = by (eqb (length f.steps) 0) (with_steps_alone findings)
  where
    by : (none : Bool) → flat_map lines_of_finding findings ≡ flat_map lines_of_numbered (map steps_in_finding (filter has_steps findings))
        → cond none [] (lines_of_numbered (steps_in_finding f)) ++ flat_map lines_of_finding findings
        ≡ flat_map lines_of_numbered (map steps_in_finding (cond (not none) (f ∷ filter has_steps findings) (filter has_steps findings)))
    by true rest = rest
    by false rest = ap (λ (ls : List ReportLine). lines_of_numbered (steps_in_finding f) ++ ls) rest

-- ---- open and rejected hypotheses

-- their lines, by what they name
abbrev pub line_of_open_named : NumberedHypothesis → ReportLine
line_of_open_named named = Open named.number named.hypothesis

abbrev pub line_of_rejected_named : NumberedHypothesis → ReportLine
line_of_rejected_named named = Rejected named.number named.hypothesis

-- ---- ranked ones

-- the lines of a ranked hypothesis without their numbers
abbrev pub ranked_said : RankedLine → List ReportLine
ranked_said r = Ranked r.number r.cost r.alarmed r.monitored (hypothesis_ranked r) ∷ map At r.trace

module _ (basis : RoundBasis) (line : ℕ) (read : ReadRound) (passes : RoundPasses basis line read) (findings : List Finding) (are : AreReadFindings basis read findings) where
  -- the lines of the finding of a number, if there is one
  abbrev lines_at : ℕ → List ReportLine
  lines_at number = unwrap_or (option_map (λ (f : Finding). lines_if_ranked f f.status) (finding_numbered findings number)) []

  ranked_lines_at : (r : RankedLine) → Contains read.ranked r → lines_at r.number ≡ ranked_said r
  ranked_lines_at r stands =
      let found = ranked_finding basis line read passes findings are r stands in
      let at : finding_numbered findings r.number ≡ Some found.0 =
      finding_numbered-first findings r.number r.number found.0 found.1 found.2.number_is
      (λ earlier other before there same. omega (arith, before, same, (hypothesis_there basis line read passes findings are earlier other there).2.number_is)) in
      ap (λ (o : Option Finding). unwrap_or (option_map (λ (f : Finding). lines_if_ranked f f.status) o) []) at
      ∙ ap (lines_if_ranked found.0) found.3
      ∙ (λ i. Ranked (found.2.number_is i) r.cost r.alarmed r.monitored (found.2.hypothesis_is i) ∷ map At r.trace)

  ranked_are : said (flat_map lines_of_ranked read.ranked)
      ≡ flat_map (λ (f : Finding). lines_if_ranked f f.status) (findings_at findings (map (λ (r : RankedLine). r.number) read.ranked))
  ranked_are =
      said_of_each lines_of_ranked read.ranked
      ∙ flat_map-same (λ (r : RankedLine). said (lines_of_ranked r)) (λ (r : RankedLine). lines_at r.number) read.ranked
      (All-from_members (λ (r : RankedLine). said (lines_of_ranked r) ≡ lines_at r.number) read.ranked
      (λ r stands. numbered_said r.first_line (ranked_said r) ∙ sym (ranked_lines_at r stands)))
      ∙ sym (flat_map-map lines_at (λ (r : RankedLine). r.number) read.ranked)
      ∙ sym (flat_map-filter_map (λ (f : Finding). lines_if_ranked f f.status) (finding_numbered findings) (map (λ (r : RankedLine). r.number) read.ranked))

  open_are : said (map line_of_open read.unsettled) ≡ map open_line (filter (λ (f : Finding). is_open f.status) findings)
  open_are =
      map-map (λ (l : NumberedLine). l.says) line_of_open read.unsettled
      ∙ sym (map-map line_of_open_named named_hypothesis read.unsettled)
      ∙ sym (ap (map line_of_open_named) (open_named basis line read passes findings are))
      ∙ map-map line_of_open_named named_in (filter (λ (f : Finding). is_open f.status) findings)

  module _ (each_has : All (λ (part : Part). 0 < length part.steps) read.parts) (each_step : All HasLineForEachStep read.parts) where
    steps_are : said (flat_map lines_of_part read.parts) ≡ flat_map lines_of_finding findings
    steps_are =
        parts_said read.parts each_step
        ∙ sym (ap (flat_map lines_of_numbered) (steps_named basis line read passes findings are each_has))
        ∙ sym (with_steps_alone findings)

    rejected_are : said (map line_of_rejected read.rejected) ≡ map rejected_line (filter is_rejected_now findings)
    rejected_are =
        map-map (λ (l : NumberedLine). l.says) line_of_rejected read.rejected
        ∙ sym (map-map line_of_rejected_named named_hypothesis read.rejected)
        ∙ sym (ap (map line_of_rejected_named) (rejected_named basis line read passes findings are each_has))
        ∙ map-map line_of_rejected_named named_in (filter is_rejected_now findings)

    -- The lines that were read are those of the round.
    pub are_lines : map (λ (l : NumberedLine). l.says) (lines_of_round read) ≡ round_lines (round_read read findings)
    are_lines =
        let says : NumberedLine → ReportLine = λ l. l.says in
        let parts : List NumberedLine = flat_map lines_of_part read.parts in
        let ranked : List NumberedLine = flat_map lines_of_ranked read.ranked in
        let unsettled : List NumberedLine = map line_of_open read.unsettled in
        let rejected : List NumberedLine = map line_of_rejected read.rejected in
        let counts : List NumberedLine = record { number = read.counts_line; says = Counts read.counts } ∷ [] in
        let two = map-append says parts ranked ∙ (λ i. steps_are i ++ ranked_are i) in
        let three = map-append says (parts ++ ranked) unsettled ∙ (λ i. two i ++ open_are i) in
        let four = map-append says (parts ++ ranked ++ unsettled) rejected ∙ (λ i. three i ++ rejected_are i) in
        let all = map-append says (parts ++ ranked ++ unsettled ++ rejected) counts ∙ (λ i. four i ++ Counts read.counts ∷ []) in
        ap (λ (ls : List ReportLine). Round read.number read.line read.now ∷ ls) all
