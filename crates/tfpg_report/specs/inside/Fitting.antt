-- When a draft fits the stand of its reader, and which lines it has.
use Rattle.std.specs.Prelude.{◌≡◌, ℕ, ◌+◌, ◌<◌, ◌≤◌, List, [], ◌∷◌, ◌++◌, length, map, flat_map, All, false, Option, Some, None}
use Rattle.tfpg_base.specs.declared.activation.Activation.{Activation}
use Rattle.tfpg_report.specs.declared.fed.Fed.{Fed}
use Rattle.tfpg_report.specs.declared.fed.Fed.TheVariants as fed
use Rattle.tfpg_report.specs.declared.stand.Stand.{Stand}
use Rattle.tfpg_report.specs.declared.stand.Stand.TheVariants as stand
use Rattle.tfpg_report.specs.declared.read_round.RankedLine.{RankedLine}
use Rattle.tfpg_report.specs.declared.read_round.NamedSet.{NamedSet}
use Rattle.tfpg_report.specs.declared.report_line.ReportLine.TheVariants.{Refused, Round, Cycle, Why, Counts, Panel}
use Rattle.tfpg_report.specs.declared.block_reader.draft.RoundDraft.{RoundDraft}
use Rattle.tfpg_report.specs.declared.block_reader.draft.UnderWay.{UnderWay}
use Rattle.tfpg_report.specs.declared.block_reader.draft.UnderWay.TheVariants as under_way
use Rattle.tfpg_report.specs.ReadRounds.{NumberedLine, numbered_from, lines_of_part, lines_of_ranked, line_of_open, line_of_rejected, lines_of_round, HasLineForEachStep}
use Rattle.tfpg_report.specs.Reading.{is_last, IsHead}

-- ---- the lines of a draft

-- the lines of what is whole
abbrev pub whole_lines : RoundDraft → List NumberedLine
whole_lines draft =
    record { number = draft.first_line; says = Round draft.number draft.line draft.now }
    ∷ flat_map lines_of_part draft.parts
    ++ flat_map lines_of_ranked draft.ranked
    ++ map line_of_open draft.unsettled
    ++ map line_of_rejected draft.rejected

-- the lines of what is under way
abbrev pub lines_under_way : UnderWay → List NumberedLine
lines_under_way under_way.Nothing = []
lines_under_way (under_way.Part part) = lines_of_part part
lines_under_way (under_way.Ranked ranked) = lines_of_ranked ranked

-- the lines of what is whole and what is under way
abbrev pub lines_so_far : RoundDraft → List NumberedLine
lines_so_far draft = whole_lines draft ++ lines_under_way draft.under_way

-- the lines of a cycle that lacks so many reasons
abbrev pub cycle_lines : ℕ → RoundDraft → List NumberedLine
cycle_lines owed draft =
    numbered_from draft.cycle_line (Cycle (length draft.reasons + owed) ∷ map Why draft.reasons)

-- the lines of the round that has not ended, by the stand of the reader
abbrev pub begun_lines : Stand → RoundDraft → List NumberedLine
begun_lines stand.Nothing draft = []
begun_lines stand.Block draft = []
begun_lines (stand.Counts last) draft = []
begun_lines (stand.Reasons owed) draft = lines_so_far draft ++ cycle_lines owed draft
begun_lines _ draft = lines_so_far draft

-- ---- the stand

-- Nothing is under way.
abbrev pub IsNothing : UnderWay → Type 0
IsNothing under_way.Nothing = Unit {0}
IsNothing _ = ⊥

-- Steps are under way, each of which has its line.
abbrev pub IsPart : UnderWay → Type 0
IsPart (under_way.Part part) = HasLineForEachStep part
IsPart _ = ⊥

-- The nodes of the activations are not above the last one.
abbrev pub AreUpTo : Option ℕ → List Activation → Type 0
AreUpTo None trace = trace ≡ []
AreUpTo (Some last) trace = All (λ activation. activation.node ≤ last) trace

-- A ranked hypothesis is under way, whose trace has no node above this one.
abbrev pub IsRankedUpTo : Option ℕ → UnderWay → Type 0
IsRankedUpTo last (under_way.Ranked ranked) = AreUpTo last ranked.trace
IsRankedUpTo last _ = ⊥

-- No open and no rejected hypothesis was read.
pub record LacksSets (unsettled rejected : List NamedSet) : Type 0 where
  pub no_unsettled : unsettled ≡ []
  pub no_rejected : rejected ≡ []

-- Only steps were read.
pub record HasOnlySteps (ranked : List RankedLine) (unsettled rejected : List NamedSet) : Type 0 where
  pub no_ranked : ranked ≡ []
  pub no_sets : LacksSets unsettled rejected

-- Each step that is whole has its line.
abbrev pub HasStepLines : RoundDraft → Type 0
HasStepLines draft = All HasLineForEachStep draft.parts

-- What was read ends with steps.
abbrev pub HasSteps : RoundDraft → Type 0
HasSteps draft = IsPart draft.under_way × HasStepLines draft × HasOnlySteps draft.ranked draft.unsettled draft.rejected

-- The draft fits the stand of its reader.
abbrev pub Fits : Stand → RoundDraft → Type 0
Fits stand.Nothing draft = Unit {0}
Fits stand.Block draft = Unit {0}
Fits (stand.Counts last) draft = Unit {0}
Fits stand.Round draft =
    IsNothing draft.under_way × HasStepLines draft × HasOnlySteps draft.ranked draft.unsettled draft.rejected
Fits stand.Hyp draft = HasSteps draft
Fits stand.Step draft = HasSteps draft
Fits (stand.Reasons owed) draft = HasSteps draft × (0 < owed)
Fits (stand.Ranked last) draft =
    IsRankedUpTo last draft.under_way × HasStepLines draft × LacksSets draft.unsettled draft.rejected
Fits stand.Open draft = IsNothing draft.under_way × HasStepLines draft × (draft.rejected ≡ [])
Fits stand.Rejected draft = IsNothing draft.under_way × HasStepLines draft

-- ---- what a line does

-- The lines of a round that has not ended, before and after one more line with its number, which completes this.
abbrev pub Feeds : List NumberedLine → List NumberedLine → NumberedLine → Fed → Type 0
Feeds before after line fed.More = (is_last line.says ≡ false) × (after ≡ before ++ line ∷ [])
Feeds before after line (fed.Head k doubt budget) =
    IsHead (record { k = k; doubt = doubt; budget = budget }) line.says × (after ≡ [])
Feeds before after line (fed.Refused number cause) = (line.says ≡ Refused number cause) × (after ≡ [])
Feeds before after line (fed.Round round) =
    ((counts : _) × (line.says ≡ Counts counts)) × (lines_of_round round ≡ before ++ line ∷ [])
    × All HasLineForEachStep round.parts × (after ≡ [])
Feeds before after line (fed.Lost panel memory) = (line.says ≡ Panel panel memory) × (after ≡ [])
