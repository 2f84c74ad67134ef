-- What is under way of a draft goes to what is whole, and no line changes.
use Rattle.std.proofs.Common.{◌≡◌, ℕ, List, [], ◌∷◌, ◌++◌, map, true, Option, refl, sym, ap, ◌∙◌, append_assoc, append-nil}
use Rattle.std.specs.Prelude.{flat_map}
use Rattle.std.proofs.lemmas.List.{map-append, flat_map_more}
use Rattle.std.proofs.lemmas.List.Elements.{All-cons, All-nil, All-append}
use Rattle.tfpg_report.specs.declared.stand.Stand.{Stand}
use Rattle.tfpg_report.specs.declared.stand.Stand.TheVariants as stand
use Rattle.tfpg_report.specs.declared.read_round.Part.{Part}
use Rattle.tfpg_report.specs.declared.read_round.RankedLine.{RankedLine}
use Rattle.tfpg_report.specs.declared.read_round.NamedSet.{NamedSet}
use Rattle.tfpg_report.specs.declared.block_reader.draft.RoundDraft.{RoundDraft}
use Rattle.tfpg_report.specs.declared.block_reader.draft.UnderWay.{UnderWay}
use Rattle.tfpg_report.specs.declared.block_reader.draft.UnderWay.TheVariants as under_way
use Rattle.tfpg_report.specs.declared.report_line.ReportLine.TheVariants.{Round}
use Rattle.tfpg_report.specs.Stands.{may_begin_steps, may_rank, may_open, may_reject}
use Rattle.tfpg_report.specs.ReadRounds.{NumberedLine, lines_of_part, lines_of_ranked, line_of_open, line_of_rejected, HasLineForEachStep}
use Rattle.tfpg_report.specs.inside.Drafts.{with_whole, settled}
use Rattle.tfpg_report.specs.inside.Fitting.{whole_lines, lines_under_way, lines_so_far, begun_lines, IsNothing, IsPart, IsRankedUpTo, LacksSets, HasOnlySteps, HasStepLines, Fits}

-- What was under way is whole: the lines are the same, and each step has its line.
pub record IsSettled (now : UnderWay) (draft : RoundDraft) : Type 0 where
  pub lines : whole_lines (with_whole now draft) ≡ whole_lines draft ++ lines_under_way now
  pub steps : HasStepLines (with_whole now draft)

-- ---- lists

-- a list more, where nothing comes after the lists
list_more : {X : Type 0} (f : X → List NumberedLine) (before : List NumberedLine) (xs : List X) (x : X) → before ++ flat_map f (xs ++ x ∷ []) ≡ (before ++ flat_map f xs) ++ f x
list_more f before xs x = sym (flat_map_more f before xs x)

-- a part more, where nothing comes after the parts
part_more : (first : NumberedLine) (parts : List Part) (part : Part) (ranked : List RankedLine) (unsettled rejected : List NamedSet) → ranked ≡ [] → unsettled ≡ [] → rejected ≡ []
    → first ∷ flat_map lines_of_part (parts ++ part ∷ []) ++ flat_map lines_of_ranked ranked ++ map line_of_open unsettled ++ map line_of_rejected rejected
    ≡ (first ∷ flat_map lines_of_part parts ++ flat_map lines_of_ranked ranked ++ map line_of_open unsettled ++ map line_of_rejected rejected) ++ lines_of_part part
part_more first parts part [] [] [] no_ranked no_unsettled no_rejected =
    ap (λ lines. lines ++ [] ++ [] ++ []) (list_more lines_of_part (first ∷ []) parts part)
    ∙ last_empty (first ∷ flat_map lines_of_part parts) (lines_of_part part)
  where
    last_empty : (before after : List NumberedLine) → (before ++ after) ++ [] ++ [] ++ [] ≡ (before ++ [] ++ [] ++ []) ++ after
    last_empty before after = simp append-nil
part_more first parts part [] [] (r ∷ rejected) no_ranked no_unsettled no_rejected = cc
part_more first parts part [] (u ∷ unsettled) rejected no_ranked no_unsettled no_rejected = cc
part_more first parts part (r ∷ ranked) unsettled rejected no_ranked no_unsettled no_rejected = cc

-- a ranked hypothesis more, where none is open or rejected
ranked_more : (before : List NumberedLine) (ranked : List RankedLine) (one : RankedLine) (unsettled rejected : List NamedSet) → unsettled ≡ [] → rejected ≡ []
    → before ++ flat_map lines_of_ranked (ranked ++ one ∷ []) ++ map line_of_open unsettled ++ map line_of_rejected rejected
    ≡ (before ++ flat_map lines_of_ranked ranked ++ map line_of_open unsettled ++ map line_of_rejected rejected) ++ lines_of_ranked one
ranked_more before ranked one [] [] no_unsettled no_rejected =
    ap (λ lines. lines ++ [] ++ []) (list_more lines_of_ranked before ranked one)
    ∙ last_empty (before ++ flat_map lines_of_ranked ranked) (lines_of_ranked one)
  where
    last_empty : (before after : List NumberedLine) → (before ++ after) ++ [] ++ [] ≡ (before ++ [] ++ []) ++ after
    last_empty before after = simp append-nil
ranked_more before ranked one [] (r ∷ rejected) no_unsettled no_rejected = cc
ranked_more before ranked one (u ∷ unsettled) rejected no_unsettled no_rejected = cc

-- an open hypothesis more, where none is rejected
named_more : (before : List NumberedLine) (unsettled : List NamedSet) (named : NamedSet) (rejected : List NamedSet) → rejected ≡ []
    → before ++ map line_of_open (unsettled ++ named ∷ []) ++ map line_of_rejected rejected
    ≡ (before ++ map line_of_open unsettled ++ map line_of_rejected rejected) ++ line_of_open named ∷ []
named_more before unsettled named [] no_rejected = simp (append-nil, map-append, append_assoc)
named_more before unsettled named (r ∷ rejected) no_rejected = cc

-- ---- by what is under way

-- the first line of a round
abbrev first_of_round : RoundDraft → NumberedLine
first_of_round draft = record { number = draft.first_line; says = Round draft.number draft.line draft.now }

-- the lines of a round up to its parts that are whole
abbrev whole_parts : RoundDraft → List NumberedLine
whole_parts draft = first_of_round draft ∷ flat_map lines_of_part draft.parts

-- the lines of a round up to its ranked hypotheses that are whole
abbrev whole_ranked : RoundDraft → List NumberedLine
whole_ranked draft = whole_parts draft ++ flat_map lines_of_ranked draft.ranked

-- One open hypothesis more is one line more, where none is rejected.
pub open_more : (draft : RoundDraft) (named : NamedSet) → draft.rejected ≡ [] → whole_lines (record draft { unsettled = draft.unsettled ++ named ∷ [] }) ≡ whole_lines draft ++ line_of_open named ∷ []
open_more draft named none = named_more (whole_ranked draft) draft.unsettled named draft.rejected none

-- One rejected hypothesis more is one line more.
pub rejected_more : (draft : RoundDraft) (named : NamedSet) → whole_lines (record draft { rejected = draft.rejected ++ named ∷ [] }) ≡ whole_lines draft ++ line_of_rejected named ∷ []
rejected_more draft named =
    ap (λ lines. whole_ranked draft ++ map line_of_open draft.unsettled ++ lines) (map-append line_of_rejected draft.rejected (named ∷ []))
    ∙ sym (append_assoc (whole_ranked draft ++ map line_of_open draft.unsettled) (map line_of_rejected draft.rejected) (line_of_rejected named ∷ []))

settled_nothing : (now : UnderWay) (draft : RoundDraft) → IsNothing now → HasStepLines draft → IsSettled now draft
settled_nothing under_way.Nothing draft nothing steps = record { lines = sym (append-nil (whole_lines draft)); steps = steps }
settled_nothing (under_way.Part part) draft nothing steps = absurd nothing
settled_nothing (under_way.Ranked ranked) draft nothing steps = absurd nothing

settled_part : (now : UnderWay) (draft : RoundDraft) → IsPart now → HasStepLines draft → HasOnlySteps draft.ranked draft.unsettled draft.rejected → IsSettled now draft
settled_part under_way.Nothing draft part steps only = absurd part
settled_part (under_way.Part part) draft has steps only = record {
  lines = part_more (first_of_round draft) draft.parts part draft.ranked draft.unsettled draft.rejected only.no_ranked only.no_sets.no_unsettled only.no_sets.no_rejected;
  steps = All-append HasLineForEachStep draft.parts (part ∷ []) steps (All-cons HasLineForEachStep part [] has (All-nil HasLineForEachStep));
}
settled_part (under_way.Ranked ranked) draft part steps only = absurd part

settled_ranked : (last : Option ℕ) (now : UnderWay) (draft : RoundDraft) → IsRankedUpTo last now → HasStepLines draft → LacksSets draft.unsettled draft.rejected → IsSettled now draft
settled_ranked last under_way.Nothing draft is steps lacks = absurd is
settled_ranked last (under_way.Part part) draft is steps lacks = absurd is
settled_ranked last (under_way.Ranked ranked) draft is steps lacks = record {
  lines = ranked_more (whole_parts draft) draft.ranked ranked draft.unsettled draft.rejected lacks.no_unsettled lacks.no_rejected;
  steps = steps;
}

-- What is open or rejected stays as it was.
lacks_settled : (now : UnderWay) (draft : RoundDraft) → LacksSets draft.unsettled draft.rejected → LacksSets (with_whole now draft).unsettled (with_whole now draft).rejected
lacks_settled under_way.Nothing draft lacks = lacks
lacks_settled (under_way.Part part) draft lacks = lacks
lacks_settled (under_way.Ranked ranked) draft lacks = lacks

none_rejected_settled : (now : UnderWay) (draft : RoundDraft) → draft.rejected ≡ [] → (with_whole now draft).rejected ≡ []
none_rejected_settled under_way.Nothing draft none = none
none_rejected_settled (under_way.Part part) draft none = none
none_rejected_settled (under_way.Ranked ranked) draft none = none

-- the draft has steps alone once that is whole
abbrev HasOnlyStepsThen : UnderWay → RoundDraft → Type 0
HasOnlyStepsThen now draft =
    HasOnlySteps (with_whole now draft).ranked (with_whole now draft).unsettled (with_whole now draft).rejected

only_nothing : (now : UnderWay) (draft : RoundDraft) → IsNothing now → HasOnlySteps draft.ranked draft.unsettled draft.rejected → HasOnlyStepsThen now draft
only_nothing under_way.Nothing draft nothing only = only
only_nothing (under_way.Part part) draft nothing only = absurd nothing
only_nothing (under_way.Ranked ranked) draft nothing only = absurd nothing

only_part : (now : UnderWay) (draft : RoundDraft) → IsPart now → HasOnlySteps draft.ranked draft.unsettled draft.rejected → HasOnlyStepsThen now draft
only_part under_way.Nothing draft part only = absurd part
only_part (under_way.Part part) draft has only = only
only_part (under_way.Ranked ranked) draft part only = absurd part

-- ---- by the stand

-- Where a rejected hypothesis may come, what is under way is settled.
pub is_settled : (before : Stand) (draft : RoundDraft) → may_reject before ≡ true → Fits before draft → IsSettled draft.under_way draft
is_settled stand.Nothing draft may fits = cc
is_settled stand.Block draft may fits = cc
is_settled stand.Round draft may fits = settled_nothing draft.under_way draft fits.0 fits.1
is_settled stand.Hyp draft may fits = cc
is_settled (stand.Reasons owed) draft may fits = cc
is_settled stand.Step draft may fits = settled_part draft.under_way draft fits.0 fits.1 fits.2
is_settled (stand.Ranked last) draft may fits = settled_ranked last draft.under_way draft fits.0 fits.1 fits.2
is_settled stand.Open draft may fits = settled_nothing draft.under_way draft fits.0 fits.1
is_settled stand.Rejected draft may fits = settled_nothing draft.under_way draft fits.0 fits.1
is_settled (stand.Counts last) draft may fits = cc

-- Where a rejected hypothesis may come, the lines are those of what is whole then.
pub lines_when_settled : (before : Stand) (draft : RoundDraft) → may_reject before ≡ true → Fits before draft → begun_lines before draft ≡ whole_lines (settled draft)
lines_when_settled before draft may fits = begun before draft may ∙ sym (is_settled before draft may fits).lines
  where
    begun : (before : Stand) (draft : RoundDraft) → may_reject before ≡ true → begun_lines before draft ≡ lines_so_far draft
    begun stand.Nothing draft may = cc
    begun stand.Block draft may = cc
    begun stand.Round draft may = refl
    begun stand.Hyp draft may = cc
    begun (stand.Reasons owed) draft may = cc
    begun stand.Step draft may = refl
    begun (stand.Ranked last) draft may = refl
    begun stand.Open draft may = refl
    begun stand.Rejected draft may = refl
    begun (stand.Counts last) draft may = cc

-- A part may come where only steps were read.
pub only_steps : (before : Stand) (draft : RoundDraft) → may_begin_steps before ≡ true → Fits before draft → HasOnlySteps (settled draft).ranked (settled draft).unsettled (settled draft).rejected
only_steps stand.Nothing draft may fits = cc
only_steps stand.Block draft may fits = cc
only_steps stand.Round draft may fits = only_nothing draft.under_way draft fits.0 fits.2
only_steps stand.Hyp draft may fits = cc
only_steps (stand.Reasons owed) draft may fits = cc
only_steps stand.Step draft may fits = only_part draft.under_way draft fits.0 fits.2
only_steps (stand.Ranked last) draft may fits = cc
only_steps stand.Open draft may fits = cc
only_steps stand.Rejected draft may fits = cc
only_steps (stand.Counts last) draft may fits = cc

-- A ranked hypothesis may come where no open and no rejected one was read.
pub no_sets : (before : Stand) (draft : RoundDraft) → may_rank before ≡ true → Fits before draft → LacksSets (settled draft).unsettled (settled draft).rejected
no_sets stand.Nothing draft may fits = cc
no_sets stand.Block draft may fits = cc
no_sets stand.Round draft may fits = lacks_settled draft.under_way draft fits.2.no_sets
no_sets stand.Hyp draft may fits = cc
no_sets (stand.Reasons owed) draft may fits = cc
no_sets stand.Step draft may fits = lacks_settled draft.under_way draft fits.2.no_sets
no_sets (stand.Ranked last) draft may fits = lacks_settled draft.under_way draft fits.2
no_sets stand.Open draft may fits = cc
no_sets stand.Rejected draft may fits = cc
no_sets (stand.Counts last) draft may fits = cc

-- An open hypothesis may come where no rejected one was read.
pub none_rejected : (before : Stand) (draft : RoundDraft) → may_open before ≡ true → Fits before draft → (settled draft).rejected ≡ []
none_rejected stand.Nothing draft may fits = cc
none_rejected stand.Block draft may fits = cc
none_rejected stand.Round draft may fits = none_rejected_settled draft.under_way draft fits.2.no_sets.no_rejected
none_rejected stand.Hyp draft may fits = cc
none_rejected (stand.Reasons owed) draft may fits = cc
none_rejected stand.Step draft may fits = none_rejected_settled draft.under_way draft fits.2.no_sets.no_rejected
none_rejected (stand.Ranked last) draft may fits = none_rejected_settled draft.under_way draft fits.2.no_rejected
none_rejected stand.Open draft may fits = none_rejected_settled draft.under_way draft fits.2
none_rejected stand.Rejected draft may fits = cc
none_rejected (stand.Counts last) draft may fits = cc
