-- What the lines of a round say, each kind of line by itself: equal lines say the same.
use Rattle.std.proofs.Common.{◌≡◌, ℕ, ◌<◌, Bool, true, false, leb, List, [], ◌∷◌, ◌++◌, length, get_or, map, All, refl, sym, ap, ◌∙◌, arith}
use Rattle.std.specs.Prelude.{flat_map}
use Rattle.std.proofs.lemmas.Bool.{le-leb, lt-leb}
use Rattle.std.proofs.lemmas.List.Elements.{All-nil, All-cons, All-head, All-append, All-map, All-weaker}
use Rattle.tfpg_base.specs.declared.activation.Activation.{Activation}
use Rattle.tfpg_base.specs.Hypothesis.{Hypothesis}
use Rattle.tfpg_base.proofs.lemmas.lists.Groups.{AreGroups, BeginsPassing, group, same_groups, same_parts}
use Rattle.tfpg_base.proofs.lemmas.lists.Images.{flat_map-same, map-injective}
use Rattle.tfpg_evidence.specs.declared.step.Step.{Step}
use Rattle.tfpg_evidence.specs.declared.step.Step.TheVariants as step
use Rattle.tfpg_evidence.specs.declared.reason.Reason.{Reason}
use Rattle.tfpg_evidence.specs.declared.clause_name.ClauseName.{ClauseName}
use Rattle.tfpg_evidence.specs.declared.round.Counts.{Counts as CountsOf}
use Rattle.tfpg_hyp.specs.declared.place.Place.{Place}
use Rattle.tfpg_report.specs.declared.report_line.ReportLine.{ReportLine}
use Rattle.tfpg_report.specs.declared.report_line.ReportLine.TheVariants.{Head, OldHead, Refused, Round, Hyp, Split, Cycle, Why, Again, Ranked, At, Open, Rejected, Counts, Panel}
use Rattle.tfpg_report.specs.ReadRounds.{step_lines}
use Rattle.tfpg_check.specs.Judging.{NumberedHypothesis}
use Rattle.tfpg_check.proofs.lemmas.passing.NamedFindings.{NumberedSteps}
use Rattle.tfpg_check.proofs.lemmas.passing.RightLines.{lines_of_numbered, line_of_open_named, line_of_rejected_named}
use Rattle.tfpg_check.proofs.lemmas.completeness.MappedLists.{All-flat_map}

-- what is said of a ranked hypothesis
pub record RankingSaying : Type 0 where
  pub key : Place
  pub hypothesis : Hypothesis
  pub trace : List Activation

-- the lines that say it
abbrev pub lines_of_ranking : RankingSaying → List ReportLine
lines_of_ranking said =
    Ranked said.key.number said.key.cost said.key.robust.alarmed said.key.robust.monitored said.hypothesis ∷ map At said.trace

-- what is said of a round
pub record RoundSaying : Type 0 where
  pub number : ℕ
  pub line : ℕ
  pub now : ℕ
  pub parts : List NumberedSteps
  pub ranked : List RankingSaying
  pub unsettled : List NumberedHypothesis
  pub rejected : List NumberedHypothesis
  pub counts : CountsOf

-- the lines that say it, after the first
abbrev pub later_lines : RoundSaying → List ReportLine
later_lines said =
    flat_map lines_of_numbered said.parts
    ++ flat_map lines_of_ranking said.ranked
    ++ map line_of_open_named said.unsettled
    ++ map line_of_rejected_named said.rejected
    ++ Counts said.counts ∷ []

-- the lines that say it
abbrev pub lines_of_saying : RoundSaying → List ReportLine
lines_of_saying said = Round said.number said.line said.now ∷ later_lines said

-- ---- where in a round a line may stand

-- steps come first, then ranked hypotheses, open ones, those that were rejected, and the counts
abbrev place : ReportLine → ℕ
place (Head terms) = 0
place (OldHead k budget) = 0
place (Refused line cause) = 0
place (Round number line now) = 0
place (Hyp number) = 1
place (Split name) = 1
place (Cycle count) = 1
place (Why reason) = 1
place Again = 1
place (Ranked number cost alarmed monitored hypothesis) = 2
place (At activation) = 2
place (Open number hypothesis) = 3
place (Rejected number hypothesis) = 4
place (Counts counts) = 5
place (Panel panel memory) = 6

-- The lines have this place.
abbrev StandAt : ℕ → List ReportLine → Type 0
StandAt at lines = All (λ line. place line ≡ at) lines

-- The lines stand before this place.
abbrev StandBefore : ℕ → List ReportLine → Type 0
StandBefore at lines = All (λ line. place line < at) lines

before_both : (at earlier : ℕ) (first others : List ReportLine) → StandBefore earlier first → StandAt earlier others → earlier < at → StandBefore at (first ++ others)
before_both at earlier first others before here less =
    All-append (λ line. place line < at) first others
    (All-weaker (λ line. place line < earlier) (λ line. place line < at) (λ line is. omega (arith, is, less)) first before)
    (All-weaker (λ line. place line ≡ earlier) (λ line. place line < at) (λ line is. omega (arith, is, less)) others here)

-- lines of a place after lines of earlier ones
same_cut : (at : ℕ) (xs ys us vs : List ReportLine) → StandBefore at xs → StandBefore at us → StandAt at ys → StandAt at vs → xs ++ ys ≡ us ++ vs → (xs ≡ us) × (ys ≡ vs)
same_cut at xs ys us vs first also last too same =
    same_parts late xs ys us vs (early xs first) (early us also) (begins ys last) (begins vs too) same
  where
    late : ReportLine → Bool
    late line = leb at (place line)

    early : (lines : List ReportLine) → StandBefore at lines → All (λ line. leb at (place line) ≡ false) lines
    early lines before = All-weaker (λ line. place line < at) (λ line. leb at (place line) ≡ false) (λ line is. lt-leb at (place line) is) lines before

    begins : (lines : List ReportLine) → StandAt at lines → BeginsPassing (λ line. leb at (place line)) lines
    begins [] here = tt
    begins (line ∷ lines) here = le-leb at (place line) (let is : place line ≡ at = All-head (λ l. place l ≡ at) line lines here in omega (arith, is))

-- ---- which place each kind of line has

each_stands : {X : Type 0} (at : ℕ) (lines : X → List ReportLine) → ((x : X) → StandAt at (lines x)) → (xs : List X) → StandAt at (flat_map lines xs)
each_stands at lines each xs = All-flat_map (λ line. place line ≡ at) lines xs (λ k d within. each (get_or xs k d))

one_stands : (at : ℕ) (line : ReportLine) (lines : List ReportLine) → place line ≡ at → StandAt at lines → StandAt at (line ∷ lines)
one_stands at line lines is rest = All-cons (λ l. place l ≡ at) line lines is rest

none_stand : (at : ℕ) → StandAt at []
none_stand at = All-nil (λ line. place line ≡ at)

all_stand : {X : Type 0} (at : ℕ) (make : X → ReportLine) → ((x : X) → place (make x) ≡ at) → (xs : List X) → StandAt at (map make xs)
all_stand at make each xs = All-map (λ line. place line ≡ at) make xs (λ k d within. each (get_or xs k d))

step_stands : (s : Step) → StandAt 1 (step_lines s)
step_stands (step.Split name) = one_stands 1 (Split name) [] refl (none_stand 1)
step_stands (step.Cycle reasons) = one_stands 1 (Cycle (length reasons)) (map Why reasons) refl (all_stand 1 Why (λ reason. refl) reasons)
step_stands step.Again = one_stands 1 Again [] refl (none_stand 1)

numbered_stands : (numbered : NumberedSteps) → StandAt 1 (lines_of_numbered numbered)
numbered_stands numbered = one_stands 1 (Hyp numbered.number) (flat_map step_lines numbered.steps) refl (each_stands 1 step_lines step_stands numbered.steps)

ranking_stands : (said : RankingSaying) → StandAt 2 (lines_of_ranking said)
ranking_stands said =
    one_stands 2 (Ranked said.key.number said.key.cost said.key.robust.alarmed said.key.robust.monitored said.hypothesis) (map At said.trace)
    refl (all_stand 2 At (λ activation. refl) said.trace)

module _ (said : RoundSaying) where
  parts_stand : StandAt 1 (flat_map lines_of_numbered said.parts)
  parts_stand = each_stands 1 lines_of_numbered numbered_stands said.parts

  ranked_stand : StandAt 2 (flat_map lines_of_ranking said.ranked)
  ranked_stand = each_stands 2 lines_of_ranking ranking_stands said.ranked

  open_stand : StandAt 3 (map line_of_open_named said.unsettled)
  open_stand = all_stand 3 line_of_open_named (λ named. refl) said.unsettled

  rejected_stand : StandAt 4 (map line_of_rejected_named said.rejected)
  rejected_stand = all_stand 4 line_of_rejected_named (λ named. refl) said.rejected

  counts_stand : StandAt 5 (Counts said.counts ∷ [])
  counts_stand = one_stands 5 (Counts said.counts) [] refl (none_stand 5)

  -- what stands before each kind
  before_ranked : StandBefore 2 (flat_map lines_of_numbered said.parts)
  before_ranked = All-weaker (λ line. place line ≡ 1) (λ line. place line < 2) (λ line is. omega (arith, is)) (flat_map lines_of_numbered said.parts) parts_stand

  before_open : StandBefore 3 (flat_map lines_of_numbered said.parts ++ flat_map lines_of_ranking said.ranked)
  before_open = before_both 3 2 (flat_map lines_of_numbered said.parts) (flat_map lines_of_ranking said.ranked) before_ranked ranked_stand (omega arith)

  before_rejected : StandBefore 4 (flat_map lines_of_numbered said.parts ++ flat_map lines_of_ranking said.ranked ++ map line_of_open_named said.unsettled)
  before_rejected =
      before_both 4 3 (flat_map lines_of_numbered said.parts ++ flat_map lines_of_ranking said.ranked) (map line_of_open_named said.unsettled) before_open open_stand (omega arith)

  before_counts : StandBefore 5
      (flat_map lines_of_numbered said.parts ++ flat_map lines_of_ranking said.ranked ++ map line_of_open_named said.unsettled ++ map line_of_rejected_named said.rejected)
  before_counts =
      before_both 5 4 (flat_map lines_of_numbered said.parts ++ flat_map lines_of_ranking said.ranked ++ map line_of_open_named said.unsettled)
      (map line_of_rejected_named said.rejected) before_rejected rejected_stand (omega arith)

-- ---- what lines say

-- the first line of a step, and its reasons
abbrev first_line : Step → ReportLine
first_line (step.Split name) = Split name
first_line (step.Cycle reasons) = Cycle (length reasons)
first_line step.Again = Again

abbrev reason_lines : Step → List ReportLine
reason_lines (step.Split name) = []
reason_lines (step.Cycle reasons) = map Why reasons
reason_lines step.Again = []

-- those of a hypothesis with its steps
abbrev part_line : NumberedSteps → ReportLine
part_line numbered = Hyp numbered.number

abbrev lines_of_part : NumberedSteps → List ReportLine
lines_of_part numbered = flat_map step_lines numbered.steps

-- those of a ranked hypothesis
abbrev ranking_line : RankingSaying → ReportLine
ranking_line said = Ranked said.key.number said.key.cost said.key.robust.alarmed said.key.robust.monitored said.hypothesis

abbrev trace_lines : RankingSaying → List ReportLine
trace_lines said = map At said.trace

-- whether a step begins
abbrev begins_step : ReportLine → Bool
begins_step (Split name) = true
begins_step (Cycle count) = true
begins_step Again = true
begins_step _ = false

-- whether a hypothesis with its steps does, or a ranked one
abbrev begins_part : ReportLine → Bool
begins_part (Hyp number) = true
begins_part _ = false

abbrev begins_ranking : ReportLine → Bool
begins_ranking (Ranked number cost alarmed monitored hypothesis) = true
begins_ranking _ = false

-- any item will do
abbrev Any : {X : Type 0} → X → Type 0
Any x = Unit {0}

step_grouped : (s : Step) → step_lines s ≡ first_line s ∷ reason_lines s
step_grouped (step.Split name) = refl
step_grouped (step.Cycle reasons) = refl
step_grouped step.Again = refl

first_begins : (s : Step) → begins_step (first_line s) ≡ true
first_begins (step.Split name) = refl
first_begins (step.Cycle reasons) = refl
first_begins step.Again = refl

reasons_begin_none : (s : Step) → All (λ line. begins_step line ≡ false) (reason_lines s)
reasons_begin_none (step.Split name) = All-nil (λ line. begins_step line ≡ false)
reasons_begin_none (step.Cycle reasons) = All-map (λ line. begins_step line ≡ false) Why reasons (λ k d within. refl)
reasons_begin_none step.Again = All-nil (λ line. begins_step line ≡ false)

same_reasons : (xs ys : List Reason) → map Why xs ≡ map Why ys → xs ≡ ys
same_reasons xs ys same =
    map-injective Any Why (λ a b of too is. cc) xs ys (λ k d within. tt) (λ k d within. tt) same

same_step : (s t : Step) → first_line s ∷ reason_lines s ≡ first_line t ∷ reason_lines t → s ≡ t
same_step (step.Split name) (step.Split other) same = let is : name ≡ other = cc in ap (λ (n : ClauseName). step.Split n) is
same_step (step.Cycle reasons) (step.Cycle others) same =
    let lines : map Why reasons ≡ map Why others = cc in
    ap (λ (rs : List Reason). step.Cycle rs) (same_reasons reasons others lines)
same_step step.Again step.Again same = refl
same_step _ _ same = absurd cc

-- Steps are read back from their lines,
same_steps : (xs ys : List Step) → flat_map step_lines xs ≡ flat_map step_lines ys → xs ≡ ys
same_steps xs ys same =
    map-injective Any (group begins_step first_line reason_lines) (λ a b of too is. same_step a b is) xs ys (λ k d within. tt) (λ k d within. tt)
    (same_groups begins_step first_line reason_lines xs ys (groups xs) (groups ys) (sym (grouped xs) ∙ same ∙ grouped ys))
  where
    groups : (steps : List Step) → AreGroups begins_step first_line reason_lines steps
    groups steps = record { first_passes = λ k d within. first_begins (get_or steps k d); others_fail = λ k d within. reasons_begin_none (get_or steps k d) }

    grouped : (steps : List Step) → flat_map step_lines steps ≡ flat_map (group begins_step first_line reason_lines) steps
    grouped steps = flat_map-same step_lines (group begins_step first_line reason_lines) steps (λ k d within. step_grouped (get_or steps k d))

-- so are hypotheses with steps,
step_begins_no_part : (s : Step) → All (λ line. begins_part line ≡ false) (step_lines s)
step_begins_no_part (step.Split name) = All-cons (λ line. begins_part line ≡ false) (Split name) [] refl (All-nil (λ line. begins_part line ≡ false))
step_begins_no_part (step.Cycle reasons) =
    All-cons (λ line. begins_part line ≡ false) (Cycle (length reasons)) (map Why reasons) refl
    (All-map (λ line. begins_part line ≡ false) Why reasons (λ k d within. refl))
step_begins_no_part step.Again = All-cons (λ line. begins_part line ≡ false) Again [] refl (All-nil (λ line. begins_part line ≡ false))

steps_begin_no_part : (steps : List Step) → All (λ line. begins_part line ≡ false) (flat_map step_lines steps)
steps_begin_no_part [] = All-nil (λ line. begins_part line ≡ false)
steps_begin_no_part (s ∷ steps) = All-append (λ line. begins_part line ≡ false) (step_lines s) (flat_map step_lines steps) (step_begins_no_part s) (steps_begin_no_part steps)

same_numbered : (a b : NumberedSteps) → lines_of_numbered a ≡ lines_of_numbered b → a ≡ b
same_numbered a b same =
    let numbers : a.number ≡ b.number = cc in
    let lines : flat_map step_lines a.steps ≡ flat_map step_lines b.steps = cc in
    λ i. record { number = numbers i; steps = same_steps a.steps b.steps lines i }

same_all_steps : (xs ys : List NumberedSteps) → flat_map lines_of_numbered xs ≡ flat_map lines_of_numbered ys → xs ≡ ys
same_all_steps xs ys same =
    map-injective Any lines_of_numbered (λ a b of too is. same_numbered a b is) xs ys (λ k d within. tt) (λ k d within. tt)
    (same_groups begins_part part_line lines_of_part xs ys (groups xs) (groups ys) same)
  where
    groups : (all : List NumberedSteps) → AreGroups begins_part part_line lines_of_part all
    groups all = record { first_passes = λ k d within. refl; others_fail = λ k d within. steps_begin_no_part (get_or all k d).steps }

-- ranked ones,
same_ranking : (a b : RankingSaying) → lines_of_ranking a ≡ lines_of_ranking b → a ≡ b
same_ranking a b same =
    let numbers : a.key.number ≡ b.key.number = cc in
    let costs : a.key.cost ≡ b.key.cost = cc in
    let alarmed : a.key.robust.alarmed ≡ b.key.robust.alarmed = cc in
    let monitored : a.key.robust.monitored ≡ b.key.robust.monitored = cc in
    let sets : a.hypothesis.set ≡ b.hypothesis.set = cc in
    let doubts : a.hypothesis.doubts ≡ b.hypothesis.doubts = cc in
    let lines : map At a.trace ≡ map At b.trace = cc in
    let traces : a.trace ≡ b.trace = map-injective Any At (λ x y of too is. cc) a.trace b.trace (λ k d within. tt) (λ k d within. tt) lines in
    λ i. record {
      key = record { cost = costs i; robust = record { alarmed = alarmed i; monitored = monitored i }; number = numbers i };
      hypothesis = record { set = sets i; doubts = doubts i };
      trace = traces i;
    }

same_rankings : (xs ys : List RankingSaying) → flat_map lines_of_ranking xs ≡ flat_map lines_of_ranking ys → xs ≡ ys
same_rankings xs ys same =
    map-injective Any lines_of_ranking (λ a b of too is. same_ranking a b is) xs ys (λ k d within. tt) (λ k d within. tt)
    (same_groups begins_ranking ranking_line trace_lines xs ys (groups xs) (groups ys) same)
  where
    groups : (all : List RankingSaying) → AreGroups begins_ranking ranking_line trace_lines all
    groups all = record {
      first_passes = λ k d within. refl;
      others_fail = λ k d within. All-map (λ line. begins_ranking line ≡ false) At (get_or all k d).trace (λ i e inside. refl);
    }

-- and open and rejected ones.
same_names : (make : NumberedHypothesis → ReportLine) → ((a b : NumberedHypothesis) → make a ≡ make b → a ≡ b) → (xs ys : List NumberedHypothesis) → map make xs ≡ map make ys → xs ≡ ys
same_names make apart xs ys same = map-injective Any make (λ a b of too is. apart a b is) xs ys (λ k d within. tt) (λ k d within. tt) same

same_open_name : (a b : NumberedHypothesis) → line_of_open_named a ≡ line_of_open_named b → a ≡ b
same_open_name a b same =
    let numbers : a.number ≡ b.number = cc in
    let sets : a.hypothesis.set ≡ b.hypothesis.set = cc in
    let doubts : a.hypothesis.doubts ≡ b.hypothesis.doubts = cc in
    λ i. record { number = numbers i; hypothesis = record { set = sets i; doubts = doubts i } }

same_rejected_name : (a b : NumberedHypothesis) → line_of_rejected_named a ≡ line_of_rejected_named b → a ≡ b
same_rejected_name a b same =
    let numbers : a.number ≡ b.number = cc in
    let sets : a.hypothesis.set ≡ b.hypothesis.set = cc in
    let doubts : a.hypothesis.doubts ≡ b.hypothesis.doubts = cc in
    λ i. record { number = numbers i; hypothesis = record { set = sets i; doubts = doubts i } }

-- Equal lines of rounds say the same.
pub same_saying : (a b : RoundSaying) → lines_of_saying a ≡ lines_of_saying b → a ≡ b
same_saying a b same =
    let numbers : a.number ≡ b.number = cc in
    let lines : a.line ≡ b.line = cc in
    let now : a.now ≡ b.now = cc in
    let later : later_lines a ≡ later_lines b = cc in
    let last = same_cut 5
    (flat_map lines_of_numbered a.parts ++ flat_map lines_of_ranking a.ranked ++ map line_of_open_named a.unsettled ++ map line_of_rejected_named a.rejected) (Counts a.counts ∷ [])
    (flat_map lines_of_numbered b.parts ++ flat_map lines_of_ranking b.ranked ++ map line_of_open_named b.unsettled ++ map line_of_rejected_named b.rejected) (Counts b.counts ∷ [])
    (before_counts a) (before_counts b) (counts_stand a) (counts_stand b) later in
    let fourth = same_cut 4
    (flat_map lines_of_numbered a.parts ++ flat_map lines_of_ranking a.ranked ++ map line_of_open_named a.unsettled) (map line_of_rejected_named a.rejected)
    (flat_map lines_of_numbered b.parts ++ flat_map lines_of_ranking b.ranked ++ map line_of_open_named b.unsettled) (map line_of_rejected_named b.rejected)
    (before_rejected a) (before_rejected b) (rejected_stand a) (rejected_stand b) last.0 in
    let third = same_cut 3 (flat_map lines_of_numbered a.parts ++ flat_map lines_of_ranking a.ranked) (map line_of_open_named a.unsettled)
    (flat_map lines_of_numbered b.parts ++ flat_map lines_of_ranking b.ranked) (map line_of_open_named b.unsettled)
    (before_open a) (before_open b) (open_stand a) (open_stand b) fourth.0 in
    let second = same_cut 2 (flat_map lines_of_numbered a.parts) (flat_map lines_of_ranking a.ranked) (flat_map lines_of_numbered b.parts) (flat_map lines_of_ranking b.ranked)
    (before_ranked a) (before_ranked b) (ranked_stand a) (ranked_stand b) third.0 in
    let counted : Counts a.counts ∷ [] ≡ Counts b.counts ∷ [] = last.1 in
    let counts : a.counts ≡ b.counts = cc in
    λ i. record {
      number = numbers i;
      line = lines i;
      now = now i;
      parts = same_all_steps a.parts b.parts second.0 i;
      ranked = same_rankings a.ranked b.ranked second.1 i;
      unsettled = same_names line_of_open_named same_open_name a.unsettled b.unsettled third.1 i;
      rejected = same_names line_of_rejected_named same_rejected_name a.rejected b.rejected fourth.1 i;
      counts = counts i;
    }
