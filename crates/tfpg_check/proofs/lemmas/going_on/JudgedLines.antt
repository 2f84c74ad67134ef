-- What is returned for a line is right, and a line that is accepted goes on right.
use Rattle.std.proofs.Common.{◌≡◌, ◌⊎◌, ℕ, ◌+◌, ◌-◌, Bool, true, false, List, [], ◌∷◌, ◌++◌, length, take, drop, All, Option, Some, None, slice_get, Result, Ok, Err, inl, inr, refl, sym, ap, subst, ◌∙◌, arith, append-nil, length-append}
use Rattle.std.specs.Prelude.{flat_map}
use Rattle.std.proofs.lemmas.Bool.{false≢true}
use Rattle.std.proofs.lemmas.List.Elements.{All-nil, All-cons, All-append}
use Rattle.std.proofs.lemmas.Option.{slice_get_within}
use Rattle.tfpg_base.specs.declared.terms.Terms.{Terms}
use Rattle.tfpg_base.specs.Terms.{AreReportTerms}
use Rattle.tfpg_base.proofs.lemmas.lists.Choices.{then_some-true}
use Rattle.tfpg_graph.specs.Graph.{Tfpg}
use Rattle.tfpg_graph.specs.Valid.{IsValid}
use Rattle.tfpg_log.specs.declared.event.Event.{Event}
use Rattle.tfpg_log.specs.LogOfLines.{log_of_lines}
use Rattle.tfpg_evidence.specs.declared.round.Counts.{Counts as CountsOf}
use Rattle.tfpg_hyp.specs.Hypotheses.{HasHypotheses}
use Rattle.tfpg_report.specs.declared.fed.Fed.{Fed}
use Rattle.tfpg_report.specs.declared.fed.Fed.TheVariants as fed
use Rattle.tfpg_log.specs.declared.refused_line.RefusedLine.{RefusedLine}
use Rattle.tfpg_report.specs.declared.stand.Stand.{Stand}
use Rattle.tfpg_report.specs.declared.stand.Stand.TheVariants as stand
use Rattle.tfpg_report.specs.declared.read_round.ReadRound.{ReadRound}
use Rattle.tfpg_report.specs.declared.report_line.ReportLine.{ReportLine}
use Rattle.tfpg_report.specs.declared.report_line.ReportLine.TheVariants.{Counts, Head, OldHead, Refused, Panel}
use Rattle.tfpg_report.specs.ReportLines.{IsLineWithin}
use Rattle.tfpg_report.specs.Blocks.{Block, RefusedBlock, block_lines}
use Rattle.tfpg_report.specs.ReadRounds.{NumberedLine}
use Rattle.tfpg_report.specs.Reading.{IsHead, IsReadFrom, MayCome, Completes, begun_in, is_last}
use Rattle.tfpg_report.specs.Represents.{ReaderState, TakesReportLine}
use Rattle.tfpg_report.specs.Stands.{may_begin_block, stand_after_all, stand_of}
use Rattle.tfpg_report.proofs.lemmas.block_reader.BegunLines.{begun_in_ended, begun_in_on}
use Rattle.tfpg_check.specs.declared.cause.CheckCause.{CheckCause}
use Rattle.tfpg_check.specs.declared.judge_fault.JudgeFault.{JudgeFault}
use Rattle.tfpg_check.specs.declared.judge_fault.JudgeFault.TheVariants.{NotAccepted, TooMany, NoMemory}
use Rattle.tfpg_check.specs.Report.{AreBlocks, rounds_of}
use Rattle.tfpg_check.specs.Causes.{AreRight, AreRightSoFar, BlockFails, DiagnosisProblem, block_begins, next_event}
use Rattle.tfpg_check.specs.Judging.{RoundFails}
use Rattle.tfpg_check.specs.Judged.{IsJudged}
use Rattle.tfpg_check.specs.JudgeState.{BlocksState, GoesOnTo, JudgeRepresents, JudgeState, KeepsBlocks, KeepsNone, basis_after}
use Rattle.tfpg_check.specs.inside.BlockSteps.{IsFedJudged, KeepsTerms, PassesLine, RefusedFails, RefusedIsWrong, RoundIsWrong}
use Rattle.tfpg_check.specs.inside.LineSteps.{CanRead, IsLineJudged, IsNotRead}
use Rattle.tfpg_check.proofs.lemmas.completeness.RightFronts.{right_so_far}
use Rattle.tfpg_check.proofs.lemmas.going_on.StandsOfLines.{comes_by, head_comes_first, none_begun}
use Rattle.tfpg_check.proofs.lemmas.going_on.NextLines.{keeps_log_after, log_by_refusal, next_is, none_next, rounds_with}
use Rattle.tfpg_check.proofs.lemmas.going_on.BlocksGoOn.{keeps_hypotheses_same, next_refused, right_with, right_within}
use Rattle.tfpg_check.proofs.lemmas.going_on.RoundsGoOn.{Own, is_basis, judges, keeps_log_still, number_is, round_goes_on}
use Rattle.tfpg_check.proofs.lemmas.going_on.LossesGoOn.{loss_goes_on}

-- ---- where a round begins

-- the number of the first line
abbrev first_number : List NumberedLine → ℕ
first_number [] = 0
first_number (line ∷ lines) = line.number

-- a round begins on the first of its lines
begins_at : (first : ℕ) (begun : List ReportLine) (line : ReportLine) (round : ReadRound) → IsReadFrom first (begun ++ line ∷ []) round → round.first_line ≡ first
begins_at first [] line round from = ap first_number from.lines_are
begins_at first (earlier ∷ begun) line round from = ap first_number from.lines_are

-- ---- the first line

-- the line may be the first one
abbrev may_be_first : ReportLine → Bool
may_be_first (Head terms) = true
may_be_first (OldHead k budget) = true
may_be_first _ = false

first_may : (line : ReportLine) (at : Stand) → stand_of (line ∷ []) ≡ Some at → may_be_first line ≡ true
first_may (Head terms) at leads = refl
first_may (OldHead k budget) at leads = refl
first_may _ at leads = absurd cc

first_is_last : (line : ReportLine) → may_be_first line ≡ true → is_last line ≡ true
first_is_last (Head terms) may = refl
first_is_last (OldHead k budget) may = refl
first_is_last _ may = absurd cc

-- The kinds of what a line completes, but for the first line.
abbrev completes_later : Fed → Bool
completes_later (fed.Head k doubt budget) = false
completes_later _ = true

-- the first line completes nothing else
not_first : (reads : List ReportLine) (read : ReportLine) (at : Stand) (completed : Fed) → stand_of (reads ++ read ∷ []) ≡ Some at → Completes reads read completed → completes_later completed ≡ true
    → reads ≡ [] → ⊥
not_first reads read at completed stands completes others none = by completed completes others
  where
    may : may_be_first read ≡ true
    may = first_may read at (ap (λ (ls : List ReportLine). stand_of (ls ++ read ∷ [])) (sym none) ∙ stands)

    by : (done : Fed) → Completes reads read done → completes_later done ≡ true → ⊥
    by fed.More completed later = false≢true (sym completed ∙ first_is_last read may)
    by (fed.Head k doubt budget) completed later = cc
    by (fed.Refused number cause) completed later = false≢true (ap may_be_first (sym completed) ∙ may)
    by (fed.Round round) completed later = false≢true (ap may_be_first (sym completed.0.1) ∙ may)
    by (fed.Lost panel memory) completed later = false≢true (ap may_be_first (sym completed) ∙ may)

-- ---- what is kept

-- What is kept is what these lines leave.
abbrev KeepsSome : DiagnosisProblem → List ReportLine → BlocksState → Type 0
KeepsSome problem reads state = KeepsNone problem reads state ⊎ ((terms : Terms) × (blocks : List Block) × KeepsBlocks problem terms blocks reads state)

-- What is kept is what these lines leave, the first of which has come.
abbrev KeepsMore : DiagnosisProblem → List ReportLine → BlocksState → Type 0
KeepsMore problem reads state = (terms : Terms) × (blocks : List Block) × KeepsBlocks problem terms blocks reads state

graph_is : (problem : DiagnosisProblem) (reads : List ReportLine) (state : BlocksState) → KeepsSome problem reads state → state.graph ≡ problem.graph
graph_is problem reads state (inl none) = none.log.graph
graph_is problem reads state (inr (terms, blocks, keeps)) = keeps.log.graph

are_right : (problem : DiagnosisProblem) (reads : List ReportLine) (state : BlocksState) → KeepsSome problem reads state → AreRight problem reads
are_right problem reads state (inl none) = inl none.none_read
are_right problem reads state (inr (terms, blocks, keeps)) = inr (terms, blocks, keeps.right)

-- Right lines are not none.
pub not_none : (problem : DiagnosisProblem) (terms : Terms) (blocks : List Block) (reads : List ReportLine) → AreRightSoFar problem terms blocks reads → reads ≡ [] → ⊥
not_none problem terms blocks reads right none =
    let some : right.head ∷ (flat_map block_lines blocks ++ begun_in reads) ≡ [] = sym right.lines_are ∙ none in
    cc

-- ---- each kind of line

-- the terms of a first line are within their limits
terms_within : (graph : Tfpg) (terms : Terms) (read : ReportLine) → IsHead terms read → IsLineWithin graph read → AreReportTerms terms
terms_within graph terms read (inl new) within = subst (IsLineWithin graph) new within
terms_within graph terms read (inr old) within =
    let limits : AreReportTerms (record { k = terms.k; doubt = 0; budget = terms.budget }) = subst (IsLineWithin graph) old.1 within in
    let none = old.0 in
    record { few_members = limits.few_members; few_doubts = omega (arith, none); some_splits = limits.some_splits; few_splits = limits.few_splits }

none_there : (blocks : List Block) → blocks ≡ [] → (index : ℕ) (block : Block) → slice_get blocks index ≡ Some block → ⊥
none_there blocks none index block at = let within = slice_get_within blocks index block at in let long : length blocks ≡ 0 = ap length none in omega (arith, within, long)

module _ (problem : DiagnosisProblem) (reads : List ReportLine) (bytes : List ℕ) (read : ReportLine) (may_come : MayCome problem.graph reads bytes read) (old new : BlocksState) where
  head_goes_on : (terms : Terms) → IsHead terms read → KeepsNone problem reads old → KeepsTerms terms old new → KeepsMore problem (reads ++ read ∷ []) new
  head_goes_on terms is_head none made = (
    terms,
    [],
    record {
      right = right_so_far problem terms
          (record {
            within = terms_within problem.graph terms read is_head may_come.says.within;
            few_hypotheses = λ count has. made.few count (subst (λ (g : Tfpg). HasHypotheses g terms count) (sym none.log.graph) has);
          })
          read is_head [] [] (reads ++ read ∷ []) (omega arith) no_blocks (All-nil (λ line. is_last line ≡ false)) (ap (λ (ls : List ReportLine). ls ++ read ∷ []) none.none_read);
      log = keeps_log_still problem [] old new made.kept made.after none.log;
      hypotheses = record {
        kept = made.kept;
        is_kept = ap (λ (s : BlocksState). s.hypotheses) made.after;
        on_terms = made.on_terms;
        keeps = made.keeps (basis_after problem [] made.kept new.log) new.log (sym none.log.graph) made.on_terms refl (λ number. refl);
      };
    },
  )
    where
      no_blocks : AreBlocks problem.graph terms (take (length {A = Block} []) problem.log_lines) []
      no_blocks = record { one_each = refl; each = λ index line block at_line at. absurd (none_there [] refl index block at) }

  -- where a block begins, no round has begun
  none_begun_before : (number : ℕ) (cause : RefusedLine) → read ≡ Refused number cause → begun_in reads ≡ []
  none_begun_before number cause says =
      let comes = comes_by stand.Nothing reads (read ∷ []) may_come.stand may_come.stands in
      none_begun reads comes.between comes.front_leads
      (then_some-true (may_begin_block comes.between) stand.Block may_come.stand
      (ap (λ (l : ReportLine). stand_after_all comes.between (l ∷ [])) (sym says) ∙ comes.back_leads)).0

  module _ (terms : Terms) (blocks : List Block) (keeps : KeepsBlocks problem terms blocks reads old) where
    -- nothing but the lines changes
    within_goes_on : is_last read ≡ false → new ≡ old → KeepsMore problem (reads ++ read ∷ []) new
    within_goes_on within same = (
      terms,
      blocks,
      subst (KeepsBlocks problem terms blocks (reads ++ read ∷ [])) (sym same)
          (record { right = right_within problem terms blocks reads keeps.right read within; log = keeps.log; hypotheses = keeps.hypotheses }),
    )

    -- the next line of the log is refused, as said
    refused_goes_on : (number : ℕ) (cause : RefusedLine) → read ≡ Refused number cause → PassesLine old new (Err cause) → number ≡ old.log_lines.passed + 1
        → KeepsMore problem (reads ++ read ∷ []) new
    refused_goes_on number cause says passes numbered =
        let block : Block = RefusedBlock (length blocks + 1) cause in
        let number_is : length blocks + 1 ≡ number = sym (numbered ∙ ap (λ (n : ℕ). n + 1) keeps.log.passed) in (
          terms,
          blocks ++ block ∷ [],
          record {
            right = right_with problem terms blocks reads keeps.right block read (next_refused problem terms blocks old keeps.log cause passes.next)
                (ap (λ (n : ℕ). Refused n cause ∷ []) number_is ∙ ap (λ (line : ReportLine). line ∷ []) (sym says)
                ∙ ap (λ (begun : List ReportLine). begun ++ read ∷ []) (sym (none_begun_before number cause says)));
            log = keeps_log_after problem blocks old keeps.log block new (Err cause) passes;
            hypotheses = keeps_hypotheses_same problem terms blocks (blocks ++ block ∷ []) old new (sym (rounds_with blocks block ∙ append-nil (flat_map rounds_of blocks)))
                (ap (λ (state : BlocksState). state.hypotheses) passes.after)
                (ap (λ (state : BlocksState). state.log) passes.after ∙ log_by_refusal old.graph old.log passes.next.text cause passes.next.event)
                keeps.hypotheses;
          },
        )

    -- a panel was lost
    lost_goes_on : (panel : ℕ) (memory : Bool) → read ≡ Panel panel memory → new ≡ old → KeepsMore problem (reads ++ read ∷ []) new
    lost_goes_on panel memory says same =
        let gone = loss_goes_on problem terms blocks reads panel memory may_come.stand keeps.right (subst (IsLineWithin problem.graph) says may_come.says.within)
        (ap (λ (line : ReportLine). stand_of (reads ++ line ∷ [])) (sym says) ∙ may_come.stands) in
        let long = gone.as_many in (
          terms,
          gone.more,
          record {
            right = subst (λ (line : ReportLine). AreRightSoFar problem terms gone.more (reads ++ line ∷ [])) (sym says) gone.right;
            log = record {
              graph = ap (λ (state : BlocksState). state.graph) same ∙ keeps.log.graph;
              passed = ap (λ (state : BlocksState). state.log_lines.passed) same ∙ keeps.log.passed ∙ sym long;
              left = ap (λ (state : BlocksState). state.log_lines.left) same ∙ keeps.log.left ∙ ap (λ (n : ℕ). drop n problem.log_lines) (sym long);
              log = ap (λ (state : BlocksState). state.log) same ∙ keeps.log.log ∙ ap (λ (n : ℕ). log_of_lines problem.graph (take n problem.log_lines)) (sym long);
            };
            hypotheses = keeps_hypotheses_same problem terms blocks gone.more old new gone.same_rounds (ap (λ (state : BlocksState). state.hypotheses) same) (ap (λ (state : BlocksState). state.log) same)
                keeps.hypotheses;
          },
        )

    -- ---- what is wrong

    -- it fails by the next line of the log
    abbrev FailsBy : ReportLine → Option (Result Event RefusedLine) → ℕ → CheckCause → Type 0
    FailsBy line next at why = BlockFails problem terms blocks reads line next at why

    refused_fails : (number : ℕ) (cause : RefusedLine) → read ≡ Refused number cause → (at : ℕ) (why : CheckCause)
        → RefusedIsWrong (record { at = length reads + 1; number = number; cause = cause }) old at why → FailsBy read (next_event problem blocks) at why
    refused_fails number cause says at why wrong = subst (λ (line : ReportLine). FailsBy line (next_event problem blocks) at why) (sym says) (by wrong)
      where
        first_is : length reads + 1 ≡ block_begins reads
        first_is = let none : length (begun_in reads) ≡ 0 = ap length (none_begun_before number cause says) in omega (arith, none)

        as_block : (brings : Result Event RefusedLine) → RefusedFails (length reads + 1) number cause (length blocks + 1) brings at why → FailsBy (Refused number cause) (Some brings) at why
        as_block (Err refused) fails = (fails.0 ∙ first_is, fails.1, λ both. fails.2 ((let same = both.0 in cc), both.1))
        as_block (Ok event) fails = (fails.0 ∙ first_is, fails.1, λ both. (let none = both.0 in cc))

        by : RefusedIsWrong (record { at = length reads + 1; number = number; cause = cause }) old at why → FailsBy (Refused number cause) (next_event problem blocks) at why
        by (inl none) =
            subst (λ (next : Option (Result Event RefusedLine)). FailsBy (Refused number cause) next at why) (sym (none_next problem blocks old keeps.log none.0)) (none.1 ∙ first_is, none.2)
        by (inr other) =
            subst (λ (next : Option (Result Event RefusedLine)). FailsBy (Refused number cause) next at why) (sym (next_is problem blocks old keeps.log other.0 other.1))
            (as_block other.0 (subst (λ (n : ℕ). RefusedFails (length reads + 1) number cause n other.0 at why) (ap (λ (n : ℕ). n + 1) keeps.log.passed) other.2))

    round_fails : (round : ReadRound) → Completes reads read (fed.Round round) → (at : ℕ) (why : CheckCause) → RoundIsWrong round old at why → FailsBy read (next_event problem blocks) at why
    round_fails round completes at why wrong = subst (λ (line : ReportLine). FailsBy line (next_event problem blocks) at why) (sym completes.0.1) (by wrong)
      where
        from : IsReadFrom (block_begins reads) (begun_in reads ++ Counts completes.0.0 ∷ []) round
        from = subst (λ (line : ReportLine). IsReadFrom (block_begins reads) (begun_in reads ++ line ∷ []) round) completes.0.1 completes.1

        first_is : round.first_line ≡ block_begins reads
        first_is = begins_at (block_begins reads) (begun_in reads) (Counts completes.0.0) round from

        by : RoundIsWrong round old at why → FailsBy (Counts completes.0.0) (next_event problem blocks) at why
        by (inl none) =
            subst (λ (next : Option (Result Event RefusedLine)). FailsBy (Counts completes.0.0) next at why) (sym (none_next problem blocks old keeps.log none.0)) (none.1 ∙ first_is, none.2)
        by (inr (inl (refused, next, line_is, why_is))) =
            subst (λ (found : Option (Result Event RefusedLine)). FailsBy (Counts completes.0.0) found at why) (sym (next_is problem blocks old keeps.log (Err refused) next)) (line_is ∙ first_is, why_is)
        by (inr (inr (event, state, passes, fails))) =
            subst (λ (found : Option (Result Event RefusedLine)). FailsBy (Counts completes.0.0) found at why) (sym (next_is problem blocks old keeps.log (Ok event) passes.next)) (
              round,
              Own problem terms blocks reads old keeps event state passes,
              from,
              is_basis problem terms blocks reads old keeps event state passes,
              subst (λ (n : ℕ). RoundFails (Own problem terms blocks reads old keeps event state passes) n round at why) (number_is problem terms blocks reads old keeps event state passes)
                  (fails (Own problem terms blocks reads old keeps event state passes) keeps.hypotheses.kept (judges problem terms blocks reads old keeps event state passes)),
            )

  -- ---- what a line completes

  module _ (valid : IsValid problem.graph) (kept : KeepsSome problem reads old) where
    -- a line that completes something else than the first line comes after that
    with_blocks : (completed : Fed) → Completes reads read completed → completes_later completed ≡ true → KeepsMore problem reads old
    with_blocks completed completes later = by kept
      where
        by : KeepsSome problem reads old → KeepsMore problem reads old
        by (inl none) = absurd (not_first reads read may_come.stand completed may_come.stands completes later none.none_read)
        by (inr more) = more

    -- the first line comes before all others
    before_all : (terms : Terms) → IsHead terms read → KeepsNone problem reads old
    before_all terms is_head = by kept
      where
        by : KeepsSome problem reads old → KeepsNone problem reads old
        by (inl none) = none
        by (inr more) = absurd (not_none problem more.0 more.1 reads more.2.right (head_comes_first reads terms read may_come.stand is_head may_come.stands))

    -- A line that is accepted goes on right.
    fed_goes_on : (completed : Fed) → Completes reads read completed → IsFedJudged (length reads + 1) completed old new (Ok tt) → KeepsMore problem (reads ++ read ∷ []) new
    fed_goes_on fed.More completes judged =
        let more = with_blocks fed.More completes refl in within_goes_on more.0 more.1 more.2 completes judged.1
    fed_goes_on (fed.Head k doubt budget) completes judged =
        let terms : Terms = record { k = k; doubt = doubt; budget = budget } in head_goes_on terms completes (before_all terms completes) judged
    fed_goes_on (fed.Refused number cause) completes judged =
        let more = with_blocks (fed.Refused number cause) completes refl in refused_goes_on more.0 more.1 more.2 number cause completes judged.0 judged.1
    fed_goes_on (fed.Round round) completes judged =
        let more = with_blocks (fed.Round round) completes refl in
        let counts : CountsOf = completes.0.0 in
        let gone = round_goes_on problem more.0 more.1 reads old more.2 judged.0 judged.1 judged.2 valid counts round
        (subst (λ (line : ReportLine). IsReadFrom (length reads - length (begun_in reads) + 1) (begun_in reads ++ line ∷ []) round) completes.0.1 completes.1)
        may_come.stand (ap (λ (line : ReportLine). stand_of (reads ++ line ∷ [])) (sym completes.0.1) ∙ may_come.stands) new judged.3 in
        subst (λ (line : ReportLine). KeepsMore problem (reads ++ line ∷ []) new) (sym completes.0.1) (more.0, gone.0, gone.1)
    fed_goes_on (fed.Lost panel memory) completes judged =
        let more = with_blocks (fed.Lost panel memory) completes refl in lost_goes_on more.0 more.1 more.2 panel memory completes judged.1

    -- one that completes a block that is wrong fails
    block_fails : (at : ℕ) (why : CheckCause) (more : KeepsMore problem reads old) → BlockFails problem more.0 more.1 reads read (next_event problem more.1) at why → IsJudged problem reads bytes (Err (NotAccepted at why))
    block_fails at why more fails = (are_right problem reads old kept, inr (read, more.0, more.1, may_come, more.2.right, fails))

    -- A line that is not accepted fails as the fault says.
    fed_fails : (completed : Fed) (fault : JudgeFault) → Completes reads read completed → IsFedJudged (length reads + 1) completed old new (Err fault) → IsJudged problem reads bytes (Err fault)
    fed_fails fed.More fault completes judged = let none = judged.0 in absurd cc
    fed_fails (fed.Head k doubt budget) (NotAccepted at why) completes judged = absurd judged
    fed_fails (fed.Head k doubt budget) (TooMany count) completes judged =
        let terms : Terms = record { k = k; doubt = doubt; budget = budget } in
        record {
          first = head_comes_first reads terms read may_come.stand completes may_come.stands;
          read = read;
          may_come = may_come;
          terms = terms;
          is_head = completes;
          too_many = judged.0;
          counted = subst (λ (g : Tfpg). HasHypotheses g terms count) (graph_is problem reads old kept) judged.1;
        }
    fed_fails (fed.Head k doubt budget) NoMemory completes judged = tt
    fed_fails (fed.Refused number cause) (NotAccepted at why) completes judged =
        let more = with_blocks (fed.Refused number cause) completes refl in block_fails at why more (refused_fails more.0 more.1 more.2 number cause completes at why judged)
    fed_fails (fed.Refused number cause) (TooMany count) completes judged = absurd judged
    fed_fails (fed.Refused number cause) NoMemory completes judged = tt
    fed_fails (fed.Round round) (NotAccepted at why) completes judged =
        let more = with_blocks (fed.Round round) completes refl in block_fails at why more (round_fails more.0 more.1 more.2 round completes at why judged)
    fed_fails (fed.Round round) (TooMany count) completes judged = absurd judged
    fed_fails (fed.Round round) NoMemory completes judged = tt
    fed_fails (fed.Lost panel memory) fault completes judged = let none = judged.0 in absurd cc

-- ---- a line

module _ (problem : DiagnosisProblem) (reads : List ReportLine) (bytes : List ℕ) (old : JudgeState) (represents : JudgeRepresents problem old reads) (valid : IsValid old.blocks.graph)
    (reader : ReaderState) (new : BlocksState) where
  right_graph : old.blocks.graph ≡ problem.graph
  right_graph = graph_is problem reads old.blocks represents.blocks

  valid_too : IsValid problem.graph
  valid_too = subst IsValid right_graph valid

  taken : (completed : Fed) → TakesReportLine old.blocks.graph reads bytes reader completed → TakesReportLine problem.graph reads bytes reader completed
  taken completed takes = subst (λ (g : Tfpg). TakesReportLine g reads bytes reader completed) right_graph takes

  -- What a line that is accepted is, and what is kept then.
  goes_on : IsLineJudged reads bytes reader old.blocks new (Ok tt) → (number : ℕ) → number ≡ length reads + 1 → reader.refused ≡ None → (fault : Option JudgeFault) → fault ≡ None
      → GoesOnTo problem reads bytes (record { reader = reader; blocks = new; lines = number; fault = fault })
  goes_on (inl none) number numbered ready fault running = absurd none
  goes_on (inr (completed, took, judged)) number numbered ready fault running =
      let takes = taken completed took in
      let more = fed_goes_on problem reads bytes takes.read takes.may_come old.blocks new valid_too represents.blocks completed takes.completes judged in
      record {
        read = takes.read;
        goes_on = record { may_come = takes.may_come; right = inr (more.0, more.1, more.2.right) };
        represents = record {
          running = running;
          reading = ready;
          reader = takes.represents;
          lines = numbered ∙ sym (length-append reads (takes.read ∷ []));
          blocks = inr more;
        };
      }

  -- The line is accepted and goes on right,
  pub line_goes_on : (result : Result (Unit {0}) JudgeFault) → IsLineJudged reads bytes reader old.blocks new result → (done : Unit {0}) → result ≡ Ok done → (number : ℕ) → number ≡ length reads + 1
      → reader.refused ≡ None → (fault : Option JudgeFault) → fault ≡ None → GoesOnTo problem reads bytes (record { reader = reader; blocks = new; lines = number; fault = fault })
  line_goes_on result judged done is number numbered ready fault running = goes_on (subst (IsLineJudged reads bytes reader old.blocks new) is judged) number numbered ready fault running

  -- or fails as the fault says.
  pub line_is_judged : (fault : JudgeFault) → IsLineJudged reads bytes reader old.blocks new (Err fault) → IsJudged problem reads bytes (Err fault)
  line_is_judged fault (inl not_read) = by fault not_read
    where
      by : (f : JudgeFault) → IsNotRead old.blocks.graph reads bytes (Err f) → IsJudged problem reads bytes (Err f)
      by (NotAccepted at why) none = (
        are_right problem reads old.blocks represents.blocks,
        inl (none.1, none.0, subst (λ (g : Tfpg). (read : ReportLine) → MayCome g reads bytes read → ⊥) right_graph none.2),
      )
      by (TooMany count) none = absurd none
      by NoMemory none = tt
  line_is_judged fault (inr (completed, took, judged)) =
      let takes = taken completed took in
      fed_fails problem reads bytes takes.read takes.may_come old.blocks new valid_too represents.blocks completed fault takes.completes judged

-- ---- what stays true whatever came before

-- the graph stays as it was
graph_stays : (at : ℕ) (completed : Fed) (old new : BlocksState) → IsFedJudged at completed old new (Ok tt) → new.graph ≡ old.graph
graph_stays at fed.More old new judged = ap (λ (s : BlocksState). s.graph) judged.1
graph_stays at (fed.Head k doubt budget) old new judged = ap (λ (s : BlocksState). s.graph) judged.after
graph_stays at (fed.Refused number cause) old new judged = ap (λ (s : BlocksState). s.graph) judged.0.after
graph_stays at (fed.Round round) old new judged = ap (λ (s : BlocksState). s.graph) judged.3.after ∙ ap (λ (s : BlocksState). s.graph) judged.2.after
graph_stays at (fed.Lost panel memory) old new judged = ap (λ (s : BlocksState). s.graph) judged.1

-- there are hypotheses after each line
hypotheses_are_kept : (at : ℕ) (completed : Fed) (reads : List ReportLine) (read : ReportLine) (stand_is : Stand) (old new : BlocksState) → stand_of (reads ++ read ∷ []) ≡ Some stand_is
    → Completes reads read completed → IsFedJudged at completed old new (Ok tt) → (old.hypotheses ≡ None → reads ≡ []) → new.hypotheses ≡ None → ⊥
hypotheses_are_kept at fed.More reads read stand_is old new stands completes judged begun none =
    not_first reads read stand_is fed.More stands completes refl (begun (sym (ap (λ (s : BlocksState). s.hypotheses) judged.1) ∙ none))
hypotheses_are_kept at (fed.Head k doubt budget) reads read stand_is old new stands completes judged begun none =
    let some : Some judged.kept ≡ None = sym (ap (λ (s : BlocksState). s.hypotheses) judged.after) ∙ none in cc
hypotheses_are_kept at (fed.Refused number cause) reads read stand_is old new stands completes judged begun none =
    not_first reads read stand_is (fed.Refused number cause) stands completes refl (begun (sym (ap (λ (s : BlocksState). s.hypotheses) judged.0.after) ∙ none))
hypotheses_are_kept at (fed.Round round) reads read stand_is old new stands completes judged begun none =
    let some : Some judged.3.kept ≡ None = sym (ap (λ (s : BlocksState). s.hypotheses) judged.3.after) ∙ none in cc
hypotheses_are_kept at (fed.Lost panel memory) reads read stand_is old new stands completes judged begun none =
    not_first reads read stand_is (fed.Lost panel memory) stands completes refl (begun (sym (ap (λ (s : BlocksState). s.hypotheses) judged.1) ∙ none))

-- lines within their limits stay so with one more
within_still : (graph : Tfpg) (reads : List ReportLine) (read : ReportLine) → All (IsLineWithin graph) (begun_in reads) → IsLineWithin graph read
    → All (IsLineWithin graph) (begun_in (reads ++ read ∷ []))
within_still graph reads read within own = by (is_last read) refl
  where
    by : (last : Bool) → is_last read ≡ last → All (IsLineWithin graph) (begun_in (reads ++ read ∷ []))
    by true last = subst (All (IsLineWithin graph)) (sym (begun_in_ended reads read last)) (All-nil (IsLineWithin graph))
    by false last =
        subst (All (IsLineWithin graph)) (sym (begun_in_on reads read last))
        (All-append (IsLineWithin graph) (begun_in reads) (read ∷ []) within (All-cons (IsLineWithin graph) read [] own (All-nil (IsLineWithin graph))))

-- A judge that can read can do so after one more line.
pub can_read_still : (bytes : List ℕ) (before reader : ReaderState) (old new : BlocksState) (lines number : ℕ) (result : Result (Unit {0}) JudgeFault) (can : CanRead before old lines)
    → IsLineJudged can.reads bytes reader old new result → (done : Unit {0}) → result ≡ Ok done → number ≡ lines + 1 → CanRead reader new number
can_read_still bytes before reader old new lines number result can judged done is numbered = by (subst (IsLineJudged can.reads bytes reader old new) is judged)
  where
    by : IsLineJudged can.reads bytes reader old new (Ok done) → CanRead reader new number
    by (inl none) = absurd none
    by (inr (completed, takes, fed_is)) = record {
      reads = can.reads ++ takes.read ∷ [];
      reader_is = takes.represents;
      counted = numbered ∙ ap (λ (n : ℕ). n + 1) can.counted ∙ sym (length-append can.reads (takes.read ∷ []));
      within = subst (λ (g : Tfpg). All (IsLineWithin g) (begun_in (can.reads ++ takes.read ∷ []))) (sym (graph_stays (length can.reads + 1) completed old new fed_is))
          (within_still old.graph can.reads takes.read can.within takes.may_come.says.within);
      begun = λ none. absurd (hypotheses_are_kept (length can.reads + 1) completed can.reads takes.read takes.may_come.stand old new takes.may_come.stands takes.completes fed_is can.begun none);
    }
