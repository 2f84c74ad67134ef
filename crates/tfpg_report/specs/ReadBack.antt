-- What a round says, as it was found and as it was read.
use Rattle.std.specs.Prelude.{◌≡◌, ℕ, List, [], ◌∷◌, length, map, flat_map, if◌then◌else◌, ◌==◌}
use Rattle.tfpg_base.specs.Hypothesis.{Hypothesis}
use Rattle.tfpg_base.specs.declared.activation.Activation.{Activation}
use Rattle.tfpg_evidence.specs.declared.step.Step.{Step}
use Rattle.tfpg_evidence.specs.declared.finding.Status.{Status}
use Rattle.tfpg_evidence.specs.declared.finding.Status.TheVariants as status
use Rattle.tfpg_evidence.specs.declared.finding.Finding.{Finding}
use Rattle.tfpg_evidence.specs.declared.round.Round.{Round}
use Rattle.tfpg_evidence.specs.Findings.{hypothesis_of, ranked_in_order, open_in, newly_rejected}
use Rattle.tfpg_report.specs.declared.read_round.Part.{Part}
use Rattle.tfpg_report.specs.declared.read_round.RankedLine.{RankedLine}
use Rattle.tfpg_report.specs.declared.read_round.NamedSet.{NamedSet}
use Rattle.tfpg_report.specs.declared.read_round.ReadRound.{ReadRound}
use Rattle.tfpg_report.specs.ReadRounds.{hypothesis_ranked, hypothesis_named}

-- the steps of a hypothesis
pub record SaidSteps : Type 0 where
  pub number : ℕ
  pub steps : List Step

-- a ranked hypothesis with its trace
pub record SaidRanked : Type 0 where
  pub number : ℕ
  pub cost : ℕ
  pub alarmed : ℕ
  pub monitored : ℕ
  pub hypothesis : Hypothesis
  pub trace : List Activation

-- a hypothesis with its number
pub record SaidSet : Type 0 where
  pub number : ℕ
  pub hypothesis : Hypothesis

-- what a part says
abbrev pub steps_of_part : Part → SaidSteps
steps_of_part part = record { number = part.number; steps = part.steps }

-- what a finding says of its steps, if it has any
abbrev pub steps_of_finding : Finding → List SaidSteps
steps_of_finding finding =
    if length finding.steps == 0 then [] else record { number = finding.number; steps = finding.steps } ∷ []

-- what the lines of a ranked hypothesis say
abbrev pub ranked_of_lines : RankedLine → SaidRanked
ranked_of_lines r = record {
  number = r.number;
  cost = r.cost;
  alarmed = r.alarmed;
  monitored = r.monitored;
  hypothesis = hypothesis_ranked r;
  trace = r.trace;
}

-- what a finding says of its trace, if it is ranked
abbrev pub ranked_of_finding : Finding → Status → List SaidRanked
ranked_of_finding finding (status.Ranked trace cost alarmed monitored) =
    record {
      number = finding.number;
      cost = cost;
      alarmed = alarmed;
      monitored = monitored;
      hypothesis = hypothesis_of finding;
      trace = trace;
    }
    ∷ []
ranked_of_finding finding _ = []

-- what the line of an open or a rejected hypothesis says
abbrev pub set_of_line : NamedSet → SaidSet
set_of_line named = record { number = named.number; hypothesis = hypothesis_named named }

-- what a finding says of its hypothesis
abbrev pub set_of_finding : Finding → SaidSet
set_of_finding finding = record { number = finding.number; hypothesis = hypothesis_of finding }

-- What was read is the round: its numbers, the steps of each hypothesis that has some, the ranked ones with their traces, the
-- open ones, those that it rejected, and the counts.
pub record IsReadBack (round : Round) (read : ReadRound) : Type 0 where
  pub number : read.number ≡ round.number
  pub line : read.line ≡ round.line
  pub now : read.now ≡ round.now
  pub steps : map steps_of_part read.parts ≡ flat_map steps_of_finding round.findings
  pub ranked : map ranked_of_lines read.ranked
      ≡ flat_map (λ finding. ranked_of_finding finding finding.status) (ranked_in_order round)
  pub unsettled : map set_of_line read.unsettled ≡ map set_of_finding (open_in round)
  pub rejected : map set_of_line read.rejected ≡ map set_of_finding (newly_rejected round)
  pub counts : read.counts ≡ round.counts
