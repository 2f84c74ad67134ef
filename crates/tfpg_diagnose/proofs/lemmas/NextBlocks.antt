-- A diagnosis, one block after another.
use Rattle.std.proofs.Common.{◌≡◌, ℕ, ◌+◌, ◌<◌, ◌≤◌, List, [], ◌∷◌, ◌++◌, length, take, All, Option, Some, None, Result, Ok, Err, refl, sym, ap, subst, ◌∙◌, arith, inl, inr, ⊎_elim, append_assoc}
use Rattle.std.specs.Prelude.{flat_map, slice_get}
use Rattle.std.proofs.lemmas.Bool.{cases_lt}
use Rattle.std.proofs.lemmas.List.{take-append-le, append-nil, length-append, take_at}
use Rattle.std.proofs.lemmas.List.Concat.{flat_map-append}
use Rattle.std.proofs.lemmas.Option.{slice_get_within, same_Some}
use Rattle.tfpg_base.specs.declared.terms.Terms.{Terms}
use Rattle.tfpg_base.specs.declared.line.Line.{Line}
use Rattle.tfpg_base.specs.declared.line.Line.TheVariants as line
use Rattle.tfpg_base.specs.declared.line.LineFault.{LineFault}
use Rattle.tfpg_base.specs.declared.line.LineFault.TheVariants as fault
use Rattle.tfpg_base.specs.Outside.{SourceState, SinkState, Rose, Takes, Puts}
use Rattle.tfpg_base.specs.Lines.{LinesState, LinesRepresent, Continues, with_bytes, with_line, lines_of, whole_lines, new_reading}
use Rattle.tfpg_base.specs.declared.limits.TheConstants.{LONGEST_LINE, MAX_BYTES, MAX_LINE_NUMBER}
use Rattle.tfpg_base.proofs.lemmas.Taking.{Takes-append, Takes-nothing}
use Rattle.tfpg_base.proofs.lemmas.ReadingOn.{GaveLine, Continues-turn, Continues-text, Continues-too_long}
use Rattle.tfpg_graph.specs.Graph.{Tfpg}
use Rattle.std.proofs.lemmas.List.Elements.{All-nil}
use Rattle.tfpg_base.proofs.lemmas.lists.Written.{slice_get-push_before, slice_get-push_at}
use Rattle.tfpg_log.specs.declared.refused_line.RefusedLine.TheVariants.{TooLong}
use Rattle.tfpg_report.specs.Blocks.{Block, block_text, head_text, refused_text}
use Rattle.tfpg_check.specs.Report.{Progress, HasReports, IsBlock, AreBlocks, report_text, progress_of, new_progress, progress_after, rounds_of}
use Rattle.tfpg_engine.specs.EngineState.{EngineState}
use Rattle.tfpg_evidence.specs.declared.round.Round.{Round}
use Rattle.tfpg_panel.specs.Desk.{DeskState}
use Rattle.tfpg_panel.specs.ToldRounds.{HasTold}
use Rattle.tfpg_streams.specs.declared.fault.StreamFault.{StreamFault}
use Rattle.tfpg_streams.specs.declared.fault.StreamFault.TheVariants as faults
use Rattle.tfpg_streams.specs.Faults.{stream_fault_of_lines}
use Rattle.tfpg_diagnose.specs.TellsPanels.{Desks, TellsPanels, desks, rounds_in}
use Rattle.tfpg_diagnose.specs.RightReport.{BlockSays, RoundsSay, IsRightReport, BeginsRightReport}
use Rattle.tfpg_streams.specs.Outputs.{HasOutputOfFirstLines, LineByLineEnds, WorksToEnd}
use Rattle.tfpg_diagnose.specs.Diagnosing.{Diagnoses}
use Rattle.tfpg_diagnose.specs.Work.{IsBlockLimit, AreBlocksWithin, IsReportWithin}
use Rattle.std.proofs.lemmas.List.Sums.{sum_by_push}
use Rattle.tfpg_diagnose.specs.Watched.{Watched, streams_in}
use Rattle.tfpg_diagnose.specs.EngineReports.{EngineReports}
use Rattle.tfpg_diagnose.specs.inside.LineBlocks.{HasBlock, IsBlockWithin, IsUntold, numbered}
use Rattle.tfpg_diagnose.specs.inside.UnderWay.{IsDiagnosing, IsDiagnosingWithin, diagnosis_at}
use Rattle.tfpg_diagnose.proofs.lemmas.LineBlocks.{block_of_long_line}
use Rattle.tfpg_base.proofs.lemmas.lists.Cuts.{front_is_within, front_before, front_with}
use Rattle.tfpg_streams.proofs.lemmas.InputLines.{rest_of, rest_is_left, front_of_input, came_to_end}
use Rattle.tfpg_streams.proofs.lemmas.FewLines.{few_lines}
use Rattle.tfpg_streams.proofs.lemmas.Putting.{Puts-append, Puts-same_held}

-- ---- one block more

-- How far a report has come after one block more is a law of reports.
abbrev pub GoesOnByBlocks : Type 0
GoesOnByBlocks = (graph : Tfpg) (lines : List (List ℕ)) (blocks : List Block) (line : List ℕ) (block : Block)
    → progress_of graph (lines ++ line ∷ []) (blocks ++ block ∷ []) ≡ progress_after graph (progress_of graph lines blocks) line block

-- no line has no block
pub AreBlocks-none : (graph : Tfpg) (terms : Terms) → AreBlocks graph terms [] []
AreBlocks-none graph terms = record { one_each = refl; each = λ index line block at there. absurd (omega (arith, slice_get_within {A = List ℕ} [] index line at)) }

-- what holds of each line and of its block, after what the report had come to
abbrev HoldsOfEach : Tfpg → (Progress → ℕ → List ℕ → Block → Type 0) → List (List ℕ) → List Block → Type 0
HoldsOfEach graph P lines blocks =
    (index : ℕ) (line : List ℕ) (block : Block) → slice_get lines index ≡ Some line → slice_get blocks index ≡ Some block
    → P (progress_of graph (take index lines) (take index blocks)) index line block

-- so it does of one more
module _ (graph : Tfpg) (P : Progress → ℕ → List ℕ → Block → Type 0) (lines : List (List ℕ)) (blocks : List Block) (last : List ℕ) (end : Block) (one_each : length blocks ≡ length lines) where
  block_at : (index : ℕ) (line : List ℕ) (block : Block) (firsts : List (List ℕ)) (before : List Block) → take index (lines ++ last ∷ []) ≡ firsts → take index (blocks ++ end ∷ []) ≡ before
      → P (progress_of graph firsts before) index line block
      → P (progress_of graph (take index (lines ++ last ∷ [])) (take index (blocks ++ end ∷ []))) index line block
  block_at index line block firsts before f e is =
      subst (λ (fs : List (List ℕ)). P (progress_of graph fs (take index (blocks ++ end ∷ []))) index line block) (sym f)
      (subst (λ (bs : List Block). P (progress_of graph firsts bs) index line block) (sym e) is)

  pub holds_of_one_more : HoldsOfEach graph P lines blocks → P (progress_of graph lines blocks) (length lines) last end → HoldsOfEach graph P (lines ++ last ∷ []) (blocks ++ end ∷ [])
  holds_of_one_more each is index line block at there = ⊎_elim
      (λ early.
      let early_block : index < length blocks = omega (arith, early, one_each) in
      block_at index line block (take index lines) (take index blocks)
      (take-append-le index lines (last ∷ []) (omega (arith, early))) (take-append-le index blocks (end ∷ []) (omega (arith, early_block)))
      (each index line block (sym (slice_get-push_before lines last index early) ∙ at) (sym (slice_get-push_before blocks end index early_block) ∙ there)))
      (λ late.
      let here : index ≡ length lines = omega (arith, late, slice_get_within (lines ++ last ∷ []) index line at, length-append lines (last ∷ [])) in
      let here_block : index ≡ length blocks = omega (arith, here, one_each) in
      let line_is : last ≡ line = same_Some _ _ (sym (slice_get-push_at lines last index here) ∙ at) in
      let block_is : end ≡ block = same_Some _ _ (sym (slice_get-push_at blocks end index here_block) ∙ there) in
      block_at index line block lines blocks (take_at lines (last ∷ []) index (sym here)) (take_at blocks (end ∷ []) index (sym here_block))
      (subst (λ (n : ℕ). P (progress_of graph lines blocks) n line block) (sym here)
      (subst (λ (l : List ℕ). P (progress_of graph lines blocks) (length lines) l block) line_is
      (subst (λ (x : Block). P (progress_of graph lines blocks) (length lines) last x) block_is is))))
      (cases_lt index (length lines))

-- the blocks of some lines, and one block more
pub AreBlocks-push : (graph : Tfpg) (terms : Terms) (lines : List (List ℕ)) (blocks : List Block) (last : List ℕ) (end : Block) (number : ℕ) → AreBlocks graph terms lines blocks
    → number ≡ 1 + length lines → IsBlock graph terms (progress_of graph lines blocks) number last end → AreBlocks graph terms (lines ++ last ∷ []) (blocks ++ end ∷ [])
AreBlocks-push graph terms lines blocks last end number are numbered is = record {
  one_each = omega (arith, are.one_each, length-append blocks (end ∷ []), length-append lines (last ∷ []));
  each = holds_of_one_more graph (λ before index line block. IsBlock graph terms before (index + 1) line block) lines blocks last end are.one_each are.each
      (subst (λ (n : ℕ). IsBlock graph terms (progress_of graph lines blocks) n last end) (omega (arith, numbered)) is);
}

-- what the rounds of some blocks say, and of one more
pub RoundsSay-push : (graph : Tfpg) (terms : Terms) (lines : List (List ℕ)) (blocks : List Block) (last : List ℕ) (end : Block) → length blocks ≡ length lines → RoundsSay graph terms lines blocks
    → BlockSays graph terms (progress_of graph lines blocks) last end → RoundsSay graph terms (lines ++ last ∷ []) (blocks ++ end ∷ [])
RoundsSay-push graph terms lines blocks last end one_each say says =
    holds_of_one_more graph (λ before index line block. BlockSays graph terms before line block) lines blocks last end one_each say says

-- no line has no round
pub RoundsSay-none : (graph : Tfpg) (terms : Terms) → RoundsSay graph terms [] []
RoundsSay-none graph terms index line block at there = absurd (omega (arith, slice_get_within {A = List ℕ} [] index line at))

-- the text of one block more
pub report_text-push : (graph : Tfpg) (terms : Terms) (blocks : List Block) (block : Block) → report_text graph terms blocks ++ block_text graph block ≡ report_text graph terms (blocks ++ block ∷ [])
report_text-push graph terms blocks block =
    append_assoc (head_text terms) (flat_map (block_text graph) blocks) (block_text graph block)
    ∙ ap (λ (t : List ℕ). head_text terms ++ t) (sym (flat_map-append (block_text graph) blocks (block ∷ []) ∙ ap (λ (t : List ℕ). flat_map (block_text graph) blocks ++ t) (append-nil (block_text graph block))))

-- lines of few bytes have numbers that a report may have
pub few_numbered : (taken : List ℕ) (given : List (List ℕ)) → take (length given) (lines_of taken) ≡ given → length taken ≤ MAX_BYTES → length given ≤ MAX_LINE_NUMBER
few_numbered taken given front few = omega (arith, front_is_within (lines_of taken) given front, few_lines taken, few)

-- the text of the blocks of all lines is right for them
right_report : (graph : Tfpg) (terms : Terms) (desk : Desks) (lines given : List (List ℕ)) (blocks : List Block) → lines ≡ given → HasReports graph terms → length given ≤ MAX_LINE_NUMBER
    → AreBlocks graph terms given blocks → RoundsSay graph terms given blocks → TellsPanels (flat_map rounds_of blocks) blocks desk → IsRightReport graph terms desk lines (report_text graph terms blocks)
right_report graph terms desk lines given blocks same has_reports few are say tells = record {
  blocks = blocks;
  report = record { has_reports = has_reports; few_lines = subst (λ (ls : List (List ℕ)). length ls ≤ MAX_LINE_NUMBER) (sym same) few; are_blocks = subst (λ (ls : List (List ℕ)). AreBlocks graph terms ls blocks) (sym same) are; text = refl };
  say = subst (λ (ls : List (List ℕ)). RoundsSay graph terms ls blocks) (sym same) say;
  tells = tells;
}

-- so is that of the first lines of the input
right_for_first : (graph : Tfpg) (terms : Terms) (desk : Desks) (input : SourceState) (taken : List ℕ) (given : List (List ℕ)) (blocks : List Block) → take (length given) (lines_of (taken ++ rest_of input)) ≡ given
    → HasReports graph terms → length given ≤ MAX_LINE_NUMBER → AreBlocks graph terms given blocks → RoundsSay graph terms given blocks → TellsPanels (flat_map rounds_of blocks) blocks desk
    → HasOutputOfFirstLines (IsRightReport graph terms desk) input taken (report_text graph terms blocks)
right_for_first graph terms desk input taken given blocks front has_reports few are say tells = record {
  rest = rest_of input;
  left = rest_is_left input;
  count = length given;
  within = front_is_within (lines_of (taken ++ rest_of input)) given front;
  right = right_report graph terms desk (take (length given) (lines_of (taken ++ rest_of input))) given blocks front has_reports few are say tells;
}

-- a front of such a text begins what is right, where the panels were told the rounds that lie whole in it
begins : (graph : Tfpg) (terms : Terms) (desk : Desks) (input : SourceState) (taken : List ℕ) (given : List (List ℕ)) (blocks : List Block) → take (length given) (lines_of (taken ++ rest_of input)) ≡ given
    → HasReports graph terms → length given ≤ MAX_LINE_NUMBER → AreBlocks graph terms given blocks → RoundsSay graph terms given blocks → (written rest : List ℕ) → report_text graph terms blocks ≡ written ++ rest
    → TellsPanels (rounds_in graph written (head_text terms) blocks) blocks desk → HasOutputOfFirstLines (BeginsRightReport graph terms desk) input taken written
begins graph terms desk input taken given blocks front has_reports few are say written rest e tells = record {
  rest = rest_of input;
  left = rest_is_left input;
  count = length given;
  within = front_is_within (lines_of (taken ++ rest_of input)) given front;
  right = record {
    more = rest;
    blocks = blocks;
    report = record { has_reports = has_reports; few_lines = subst (λ (ls : List (List ℕ)). length ls ≤ MAX_LINE_NUMBER) (sym front) few; are_blocks = subst (λ (ls : List (List ℕ)). AreBlocks graph terms ls blocks) (sym front) are; text = sym e };
    say = subst (λ (ls : List (List ℕ)). RoundsSay graph terms ls blocks) (sym front) say;
    tells = tells;
  };
}

-- ---- the counted calls

-- without a block there is none
pub blocks_within-none : (graph : Tfpg) (count : ℕ) → AreBlocksWithin graph [] [] count count
blocks_within-none graph count = record {
  limits = [];
  are = record { one_each = refl; each = λ index line block limit at there own. absurd (omega (arith, slice_get_within {A = List ℕ} [] index line at)) };
  within = omega arith;
}

-- with one block more that keeps within its limit, all keep within theirs
pub blocks_within-push : (graph : Tfpg) (lines : List (List ℕ)) (blocks : List Block) (last : List ℕ) (end : Block) (start middle finish : ℕ) → length blocks ≡ length lines → AreBlocksWithin graph lines blocks start middle
    → IsBlockWithin graph (progress_of graph lines blocks) last end middle finish → AreBlocksWithin graph (lines ++ last ∷ []) (blocks ++ end ∷ []) start finish
blocks_within-push graph lines blocks last end start middle finish one_each is own =
    let limit = own.0 in
    let limits = is.limits ++ limit ∷ [] in
    let at_end : length lines ≡ length is.limits = omega (arith, one_each, is.are.one_each) in
    record {
      limits = limits;
      are = record {
        one_each = omega (arith, is.are.one_each, length-append is.limits (limit ∷ []), length-append blocks (end ∷ []));
        each = λ index line block l at there limited.
            holds_of_one_more graph (λ before index line block. (l : ℕ) → slice_get limits index ≡ Some l → IsBlockLimit graph before line block l) lines blocks last end one_each
            (λ i x b a t m here. is.are.each i x b m a t (sym (slice_get-push_before is.limits limit i (omega (arith, slice_get_within blocks i b t, is.are.one_each))) ∙ here))
            (λ m here. subst (IsBlockLimit graph (progress_of graph lines blocks) last end) (same_Some limit m (sym (slice_get-push_at is.limits limit (length lines) at_end) ∙ here)) own.1)
            index line block at there l limited;
      };
      within = omega (arith, is.within, own.2, sum_by_push (λ (n : ℕ). n) is.limits limit);
    }

-- ---- ends

-- What is there after the next line was asked for: only the input has changed.
abbrev pub asked : Watched → SourceState → Watched
asked now input = record { input = input; output = now.output; desk = now.desk }

-- a diagnosis ends in this way where so much more was taken and nothing more was written
ended_with : (graph : Tfpg) (terms : Terms) (before now : Watched) (lines : LinesState) (engine : EngineState) (input : SourceState) (under : IsDiagnosing graph terms before (diagnosis_at now lines engine)) (more : List ℕ)
    → Takes now.input input more → (result : Result (Unit {0}) StreamFault)
    → LineByLineEnds (IsRightReport graph terms (desks before.desk now.desk)) (BeginsRightReport graph terms (desks before.desk now.desk)) (streams_in before) (streams_in (asked now input)) result (under.reading.taken ++ more) (report_text graph terms under.blocks) → Diagnoses graph terms before (asked now input) result
ended_with graph terms before now lines engine input under more takes result ends = record {
  taken = under.reading.taken ++ more;
  takes = Takes-append before.input now.input input under.reading.taken more under.takes takes;
  written = report_text graph terms under.blocks;
  writes = under.writes;
  ends = ends;
}

-- a fault of the reader ends the diagnosis
pub ends_by_fault : (graph : Tfpg) (terms : Terms) (before now : Watched) (lines lines' : LinesState) (engine : EngineState) (input : SourceState) (f : LineFault)
    → (under : IsDiagnosing graph terms before (diagnosis_at now lines engine)) → Continues under.reading under.reading.ended now.input input (Err f) lines'
    → Diagnoses graph terms before (asked now input) (Err (stream_fault_of_lines f))
ends_by_fault graph terms before now lines lines' engine input fault.ReadFault under continues =
    let turn = Continues-turn under.reading now.input input (Err fault.ReadFault) lines' under.goes_on (λ e. cc) continues in
    ended_with graph terms before now lines engine input under turn.more turn.takes (Err faults.ReadFault) (
      (subst (λ (count : ℕ). Rose count input.faults) under.no_fault.input turn.faults, under.no_fault.output),
      right_report graph terms (desks before.desk now.desk) (whole_lines (under.reading.taken ++ turn.more)) under.reading.given under.blocks turn.returns.0 under.has_reports (few_numbered under.reading.taken under.reading.given under.front under.few) under.are_blocks under.say under.tells,
    )
ends_by_fault graph terms before now lines lines' engine input fault.TooMuchInput under continues =
    let turn = Continues-turn under.reading now.input input (Err fault.TooMuchInput) lines' under.goes_on (λ e. cc) continues in
    ended_with graph terms before now lines engine input under turn.more turn.takes (Err faults.TooMuchInput) (
      (turn.returns.1, record { input = turn.faults ∙ under.no_fault.input; output = under.no_fault.output }),
      right_report graph terms (desks before.desk now.desk) (whole_lines (take MAX_BYTES (under.reading.taken ++ turn.more))) under.reading.given under.blocks turn.returns.0 under.has_reports (few_numbered under.reading.taken under.reading.given under.front under.few) under.are_blocks under.say under.tells,
    )

-- the end of the input ends the diagnosis
pub ends_done : (graph : Tfpg) (terms : Terms) (before now : Watched) (lines lines' : LinesState) (engine : EngineState) (input : SourceState)
    → (under : IsDiagnosing graph terms before (diagnosis_at now lines engine)) → Continues under.reading under.reading.ended now.input input (Ok line.End) lines'
    → Diagnoses graph terms before (asked now input) (Ok tt)
ends_done graph terms before now lines lines' engine input under continues =
    let reading = under.reading in
    let end = came_to_end reading now.input input lines lines' under.few under.goes_on under.represents continues in
    ended_with graph terms before now lines engine input under end.more end.takes (Ok tt) (record {
      right = right_report graph terms (desks before.desk now.desk) (lines_of (reading.taken ++ end.more)) reading.given under.blocks end.all under.has_reports (few_numbered under.reading.taken under.reading.given under.front under.few) under.are_blocks under.say under.tells;
      few = end.few;
      at_end = end.end;
      no_fault = record { input = end.no_fault ∙ under.no_fault.input; output = under.no_fault.output };
    })

-- so it does within the limits of all rounds
pub done_within : (graph : Tfpg) (terms : Terms) (before now : Watched) (lines : LinesState) (engine : EngineState) (input : SourceState) (lines' : LinesState)
    (under : IsDiagnosing graph terms before (diagnosis_at now lines engine)) (l : Line) → Continues under.reading under.reading.ended now.input input (Ok l) lines' → l ≡ line.End → (start end : ℕ)
    → AreBlocksWithin graph under.reading.given under.blocks start end → WorksToEnd (IsReportWithin graph terms start end) (streams_in before) (streams_in (asked now input))
done_within graph terms before now lines engine input lines' under l continues e start finish within =
    let reading = under.reading in
    let end = came_to_end reading now.input input lines lines' under.few under.goes_on under.represents
    (subst (λ (x : Line). Continues under.reading under.reading.ended now.input input (Ok x) lines') e continues) in
    record {
      taken = reading.taken ++ end.more;
      takes = Takes-append before.input now.input input reading.taken end.more under.takes end.takes;
      written = report_text graph terms under.blocks;
      writes = under.writes;
      ends = record {
        right = record {
          blocks = under.blocks;
          report = record {
            has_reports = under.has_reports;
            few_lines = subst (λ (ls : List (List ℕ)). length ls ≤ MAX_LINE_NUMBER) (sym end.all) (few_numbered reading.taken reading.given under.front under.few);
            are_blocks = subst (λ (ls : List (List ℕ)). AreBlocks graph terms ls under.blocks) (sym end.all) under.are_blocks;
            text = refl;
          };
          within = subst (λ (ls : List (List ℕ)). AreBlocksWithin graph ls under.blocks start finish) (sym end.all) within;
        };
        few = end.few;
        at_end = end.end;
        no_fault = record { input = end.no_fault ∙ under.no_fault.input; output = under.no_fault.output };
      };
    }

-- ---- a line that was read

module _ (graph : Tfpg) (terms : Terms) (before now : Watched) (lines : LinesState) (engine : EngineState) (input : SourceState) (reader : LinesState)
    (under : IsDiagnosing graph terms before (diagnosis_at now lines engine)) (gave : GaveLine under.reading now.input input reader) where
  -- where memory runs out for the block, what was written before is the report of the lines before
  pub gave_without_memory : Diagnoses graph terms before (asked now input) (Err faults.NoMemory)
  gave_without_memory =
      let reading = under.reading in
      let taken = reading.taken ++ gave.more in
      record {
        taken = taken;
        takes = Takes-append before.input now.input input reading.taken gave.more under.takes gave.takes;
        written = report_text graph terms under.blocks;
        writes = under.writes;
        ends = (
          record { input = gave.no_fault ∙ under.no_fault.input; output = under.no_fault.output },
          inr (right_for_first graph terms (desks before.desk now.desk) input taken reading.given under.blocks
              (front_before (lines_of (taken ++ rest_of input)) reading.given gave.first (front_of_input (with_bytes reading gave.more) gave.first input gave.next)) under.has_reports (few_numbered under.reading.taken under.reading.given under.front under.few) under.are_blocks under.say
              under.tells),
        );
      }

  module _ (number : ℕ) (bytes : List ℕ) (later : EngineState) (output : SinkState) (desk : DeskState)
      (number_is : number ≡ reader.number) (block : HasBlock graph terms (progress_of graph under.reading.given under.blocks) (numbered number gave.first) bytes later) where
    pub blocks_are : AreBlocks graph terms (under.reading.given ++ gave.first ∷ []) (under.blocks ++ block.block ∷ [])
    blocks_are =
        let given = under.reading.given in
        let index : number ≡ 1 + length given = omega (arith, number_is, gave.stands.number, length-append given (gave.first ∷ [])) in
        AreBlocks-push graph terms given under.blocks gave.first block.block number under.are_blocks index block.is_block

    pub rounds_say : RoundsSay graph terms (under.reading.given ++ gave.first ∷ []) (under.blocks ++ block.block ∷ [])
    rounds_say = RoundsSay-push graph terms under.reading.given under.blocks gave.first block.block under.are_blocks.one_each under.say block.says

    -- the blocks so far, with this one
    abbrev pub all_blocks : List Block
    all_blocks = under.blocks ++ block.block ∷ []

    -- where the block is written, the diagnosis is under way still
    abbrev pub gave_block : GoesOnByBlocks → Puts now.output output bytes → output.faults ≡ now.output.faults
        → TellsPanels (flat_map rounds_of all_blocks) all_blocks (desks before.desk desk) → All (λ (r : Round). r.number ≤ length later.log.events) (flat_map rounds_of all_blocks)
        → IsDiagnosing graph terms before (diagnosis_at (record { input = input; output = output; desk = desk }) reader later)
    gave_block goes_on puts no_fault tells numbered =
        let reading = under.reading in
        let given = reading.given in
        let taken = reading.taken ++ gave.more in
        record {
          reading = with_line (with_bytes reading gave.more) gave.first;
          takes = Takes-append before.input now.input input reading.taken gave.more under.takes gave.takes;
          few = gave.next.few;
          represents = gave.stands;
          goes_on = gave.goes_on;
          front = front_with (lines_of taken) given gave.first gave.next.front;
          blocks = under.blocks ++ block.block ∷ [];
          writes = subst (Puts before.output output) (ap (λ (t : List ℕ). report_text graph terms under.blocks ++ t) block.text ∙ report_text-push graph terms under.blocks block.block)
              (Puts-append before.output now.output output (report_text graph terms under.blocks) bytes under.writes puts);
          has_reports = under.has_reports;
          are_blocks = blocks_are;
          tells = tells;
          numbered = numbered;
          say = rounds_say;
          reports = subst (EngineReports graph terms later) (sym (goes_on graph given under.blocks gave.first block.block)) block.reports;
          no_fault = record { input = gave.no_fault ∙ under.no_fault.input; output = no_fault ∙ under.no_fault.output };
        }

    -- so it is within its limits, where the block is within its own
    pub gave_within : GoesOnByBlocks → Puts now.output output bytes → output.faults ≡ now.output.faults
        → TellsPanels (flat_map rounds_of all_blocks) all_blocks (desks before.desk desk) → All (λ (r : Round). r.number ≤ length later.log.events) (flat_map rounds_of all_blocks) → (start middle finish : ℕ) → AreBlocksWithin graph under.reading.given under.blocks start middle
        → IsBlockWithin graph (progress_of graph under.reading.given under.blocks) gave.first block.block middle finish
        → IsDiagnosingWithin graph terms before (diagnosis_at (record { input = input; output = output; desk = desk }) reader later) start finish
    gave_within goes_on puts no_fault tells numbered start middle finish within own = record {
      under = gave_block goes_on puts no_fault tells numbered;
      within = blocks_within-push graph under.reading.given under.blocks gave.first block.block start middle finish under.are_blocks.one_each within own;
    }

    -- it is one line on
    pub gave_one_more : reader.number ≡ lines.number + 1
    gave_one_more = omega (arith, gave.stands.number, under.represents.number, length-append under.reading.given (gave.first ∷ []))

    -- where only a front of the block is written, the diagnosis ends with what begins the report
    pub gave_front : (front rest : List ℕ) → bytes ≡ front ++ rest → Puts now.output output front → Rose now.output.faults output.faults
        → TellsPanels (rounds_in graph (report_text graph terms under.blocks ++ front) (head_text terms) all_blocks) all_blocks (desks before.desk desk)
        → Diagnoses graph terms before (record { input = input; output = output; desk = desk }) (Err faults.WriteFault)
    gave_front front rest parts puts rose tells =
        let reading = under.reading in
        let given = reading.given in
        let taken = reading.taken ++ gave.more in
        let written = report_text graph terms under.blocks ++ front in
        let whole : report_text graph terms (under.blocks ++ block.block ∷ []) ≡ written ++ rest =
        sym (report_text-push graph terms under.blocks block.block) ∙ ap (λ (t : List ℕ). report_text graph terms under.blocks ++ t) (sym block.text ∙ parts)
        ∙ sym (append_assoc (report_text graph terms under.blocks) front rest) in
        record {
          taken = taken;
          takes = Takes-append before.input now.input input reading.taken gave.more under.takes gave.takes;
          written = written;
          writes = Puts-append before.output now.output output (report_text graph terms under.blocks) front under.writes puts;
          ends = (
            (subst (λ (count : ℕ). Rose count output.faults) under.no_fault.output rose, gave.no_fault ∙ under.no_fault.input),
            begins graph terms (desks before.desk desk) input taken (given ++ gave.first ∷ []) all_blocks
                (front_with (lines_of (taken ++ rest_of input)) given gave.first (front_of_input (with_bytes reading gave.more) gave.first input gave.next)) under.has_reports
                (few_numbered taken (given ++ gave.first ∷ []) (front_with (lines_of taken) given gave.first gave.next.front) gave.next.few) blocks_are rounds_say written rest whole tells,
          );
        }

-- ---- as the code comes to it

-- A line was read, and these bytes are its block.
pub record IsLineBlock (graph : Tfpg) (terms : Terms) (before now : Watched) (lines : LinesState) (engine : EngineState) (input : SourceState) (reader : LinesState)
    (under : IsDiagnosing graph terms before (diagnosis_at now lines engine)) (number : ℕ) (bytes : List ℕ) (later : EngineState) : Type 0 where
  pub gave : GaveLine under.reading now.input input reader
  pub block : HasBlock graph terms (progress_of graph under.reading.given under.blocks) (numbered number gave.first) bytes later

module _ (graph : Tfpg) (terms : Terms) (before now : Watched) (lines : LinesState) (engine : EngineState) (input : SourceState) (reader : LinesState)
    (under : IsDiagnosing graph terms before (diagnosis_at now lines engine)) (l : Line) (continues : Continues under.reading under.reading.ended now.input input (Ok l) reader) where
  -- the input has ended
  pub met_end : l ≡ line.End → Diagnoses graph terms before (asked now input) (Ok tt)
  met_end e = ends_done graph terms before now lines reader engine input under
      (subst (λ (x : Line). Continues under.reading under.reading.ended now.input input (Ok x) reader) e continues)

  -- a text was read
  pub met_text : l ≡ line.Text → (gave : GaveLine under.reading now.input input reader) × (length gave.first ≤ LONGEST_LINE) × (reader.text ≡ gave.first)
  met_text e = Continues-text under.reading now.input input reader under.goes_on
      (subst (λ (x : Line). Continues under.reading under.reading.ended now.input input (Ok x) reader) e continues)

  -- a line that is too long was passed
  pub met_long : l ≡ line.TooLong → (gave : GaveLine under.reading now.input input reader) × (LONGEST_LINE < length gave.first)
  met_long e = Continues-too_long under.reading now.input input reader under.goes_on
      (subst (λ (x : Line). Continues under.reading under.reading.ended now.input input (Ok x) reader) e continues)

  -- the block of a text, with the calls that it took
  pub text_within : (number : ℕ) (text bytes : List ℕ) (later : EngineState) (start finish : ℕ) → l ≡ line.Text → text ≡ reader.text
      → (round : Option Round) → ((before : Progress) → EngineReports graph terms engine before
      → (has : HasBlock graph terms before (numbered number text) bytes later) × IsUntold round has.block engine later × IsBlockWithin graph before text has.block start finish)
      → (gave : GaveLine under.reading now.input input reader) × (has : HasBlock graph terms (progress_of graph under.reading.given under.blocks) (numbered number gave.first) bytes later)
      × IsUntold round has.block engine later × IsBlockWithin graph (progress_of graph under.reading.given under.blocks) gave.first has.block start finish
  text_within number text bytes later start finish e t round gives =
      let met = met_text e in
      let text_is : text ≡ met.0.first = t ∙ met.2 in
      let at = progress_of graph under.reading.given under.blocks in
      let own = subst (λ (x : List ℕ). (has : HasBlock graph terms at (numbered number x) bytes later) × IsUntold round has.block engine later × IsBlockWithin graph at x has.block start finish) text_is (gives at under.reports) in
      (met.0, own.0, own.1, own.2)

  -- the block of a line that is too long
  pub long_within : (number : ℕ) (bytes : List ℕ) (count : ℕ) (round : Option Round) → l ≡ line.TooLong → (bytes ≡ refused_text number TooLong) × (round ≡ None)
      → (gave : GaveLine under.reading now.input input reader) × (has : HasBlock graph terms (progress_of graph under.reading.given under.blocks) (numbered number gave.first) bytes engine)
      × IsUntold round has.block engine engine × IsBlockWithin graph (progress_of graph under.reading.given under.blocks) gave.first has.block count count
  long_within number bytes count round e (text, none) =
      let met = met_long e in
      let has = block_of_long_line graph terms (progress_of graph under.reading.given under.blocks) number met.0.first bytes engine met.1 under.reports text in
      (met.0, has, subst (λ (r : Option Round). IsUntold r has.block engine engine) (sym none) (refl, refl, refl), (0, refl, omega arith))

-- ---- the whole course

-- no more lines are read than bytes may be taken, but for a last one
pub few_given : (graph : Tfpg) (terms : Terms) (before now : Watched) (lines : LinesState) (engine : EngineState) → IsDiagnosing graph terms before (diagnosis_at now lines engine) → lines.number ≤ MAX_BYTES + 1
few_given graph terms before now lines engine under =
    let within = front_is_within (lines_of under.reading.taken) under.reading.given under.front in
    omega (arith, within, few_lines under.reading.taken, under.few, under.represents.number)

-- the first line, as the engine says it
pub head_as : (other terms : Terms) (bytes : List ℕ) → other ≡ terms → bytes ≡ head_text other → bytes ≡ head_text terms
head_as other terms bytes e is = subst (λ (x : Terms). bytes ≡ head_text x) e is

-- a diagnosis begins
abbrev pub begins_under_way : (graph : Tfpg) (terms : Terms) (before : Watched) (lines : LinesState) (engine : EngineState) (output : SinkState)
    → HasReports graph terms → LinesRepresent lines new_reading → EngineReports graph terms engine new_progress → Puts before.output output (head_text terms) → output.faults ≡ before.output.faults
    → HasTold [] [] before.desk before.desk → IsDiagnosing graph terms before (diagnosis_at (record { input = before.input; output = output; desk = before.desk }) lines engine)
begins_under_way graph terms before lines engine output has_reports unread new puts no_fault told = record {
  reading = new_reading;
  takes = Takes-nothing before.input;
  few = omega arith;
  represents = unread;
  goes_on = inl refl;
  front = refl;
  blocks = [];
  writes = subst (Puts before.output output) (sym (append-nil (head_text terms))) puts;
  has_reports = has_reports;
  are_blocks = AreBlocks-none graph terms;
  tells = told;
  numbered = All-nil (λ (r : Round). r.number ≤ length engine.log.events);
  say = RoundsSay-none graph terms;
  reports = new;
  no_fault = record { input = refl; output = no_fault };
}

-- it has made no counted call
pub begins_within : (graph : Tfpg) (terms : Terms) (before : Watched) (lines : LinesState) (engine : EngineState) (output : SinkState) (count : ℕ)
    → HasReports graph terms → LinesRepresent lines new_reading → EngineReports graph terms engine new_progress → Puts before.output output (head_text terms) → output.faults ≡ before.output.faults
    → HasTold [] [] before.desk before.desk → IsDiagnosingWithin graph terms before (diagnosis_at (record { input = before.input; output = output; desk = before.desk }) lines engine) count count
begins_within graph terms before lines engine output count has_reports unread new puts no_fault told = record {
  under = begins_under_way graph terms before lines engine output has_reports unread new puts no_fault told;
  within = blocks_within-none graph count;
}

-- a diagnosis ends before it has written its first line whole
module _ (graph : Tfpg) (terms : Terms) (before : Watched) (has_reports : HasReports graph terms) (told : HasTold [] [] before.desk before.desk) where
  -- the report of no line is its first line
  no_line : report_text graph terms [] ≡ head_text terms
  no_line = append-nil (head_text terms)

  -- without memory, when nothing is written
  pub begins_without_memory : Diagnoses graph terms before before (Err faults.NoMemory)
  begins_without_memory = record {
    taken = [];
    takes = Takes-nothing before.input;
    written = [];
    writes = Puts-same_held before.output before.output refl;
    ends = (
      record { input = refl; output = refl },
      inl (refl, begins graph terms (desks before.desk before.desk) before.input [] [] [] refl has_reports (omega arith) (AreBlocks-none graph terms) (RoundsSay-none graph terms) [] (head_text terms) no_line told),
    );
  }

  -- or since the output failed
  pub begins_badly : (output : SinkState) (head front rest : List ℕ) → head ≡ head_text terms → head ≡ front ++ rest → Puts before.output output front → Rose before.output.faults output.faults
      → Diagnoses graph terms before (record { input = before.input; output = output; desk = before.desk }) (Err faults.WriteFault)
  begins_badly output head front rest is parts puts rose = record {
    taken = [];
    takes = Takes-nothing before.input;
    written = front;
    writes = puts;
    ends = ((rose, refl), begins graph terms (desks before.desk before.desk) before.input [] [] [] refl has_reports (omega arith) (AreBlocks-none graph terms) (RoundsSay-none graph terms) front rest (no_line ∙ sym is ∙ parts) told);
  }
