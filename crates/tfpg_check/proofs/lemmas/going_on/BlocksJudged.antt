-- What the judge does with a block, step by step.
use Rattle.std.proofs.Common.{◌≡◌, ℕ, ◌+◌, ◌≤◌, List, [], ◌∷◌, drop, Option, Some, Result, Ok, Err, refl, sym, ap, subst, subst₂, ◌∙◌}
use Rattle.std.specs.Prelude.{OnOk}
use Rattle.std.proofs.lemmas.Option.{same_Some}
use Rattle.tfpg_base.specs.declared.terms.Terms.{Terms}
use Rattle.tfpg_graph.specs.Graph.{Tfpg}
use Rattle.tfpg_log.specs.declared.event.Event.{Event}
use Rattle.tfpg_log.specs.Log.{Logbook, IsLogOf, GoesOn}
use Rattle.tfpg_log.specs.LogOfLines.{log_after}
use Rattle.tfpg_hyp.specs.Hypotheses.{HasHypotheses, Hypotheses, IsTableOf}
use Rattle.tfpg_hyp.specs.declared.limits.TheConstants.{MAX_HYPOTHESES}
use Rattle.tfpg_log.specs.declared.refused_line.RefusedLine.{RefusedLine}
use Rattle.tfpg_report.specs.declared.read_round.ReadRound.{ReadRound}
use Rattle.tfpg_check.specs.declared.cause.CheckCause.{CheckCause}
use Rattle.tfpg_check.specs.declared.block_judge.NextLine.TheVariants as next
use Rattle.tfpg_check.specs.declared.round_fault.RoundFault.{RoundFault}
use Rattle.tfpg_check.specs.declared.round_fault.RoundFault.TheVariants as round
use Rattle.tfpg_check.specs.Report.{event_of_line}
use Rattle.tfpg_check.specs.Judging.{RoundBasis, RoundFails}
use Rattle.tfpg_check.specs.HypothesesState.{HypothesesState, KeepsBasis}
use Rattle.tfpg_check.specs.inside.AfterRound.{after_round}
use Rattle.tfpg_check.specs.JudgeState.{BlocksState, LogLinesState}
use Rattle.tfpg_check.specs.Passing.{RoundPasses}
use Rattle.tfpg_check.specs.inside.BlockSteps.{AreOfGraph, IsNextLine, IsJudgedByHypotheses, JudgesBy, KeepsTerms, PassesLine, line_of_event}

-- ---- the next line

-- A line that was passed is the next one.
pub passed_is_next : (old new : BlocksState) (brings : Result Event RefusedLine) → PassesLine old new brings → IsNextLine old new (line_of_event brings)
passed_is_next old new (Ok event) passes = (event, passes)
passed_is_next old new (Err refused) passes = passes

-- what is kept of the blocks
abbrev kept_as : Tfpg → LogLinesState → Logbook → Option HypothesesState → BlocksState
kept_as graph lines log hypotheses = record { graph = graph; log_lines = lines; log = log; hypotheses = hypotheses }

-- A line that was offered to the log is passed.
pub offered_is_passed : (old : BlocksState) (graph : Tfpg) (lines after : LogLinesState) (log grown : Logbook) (hypotheses : Option HypothesesState) (text : List ℕ) (brings : Result Event RefusedLine)
    → kept_as graph lines log hypotheses ≡ old → lines.left ≡ text ∷ drop 1 lines.left → after ≡ record { passed = lines.passed + 1; left = drop 1 lines.left }
    → grown ≡ log_after graph log text → event_of_line graph log text ≡ brings → PassesLine old (kept_as graph after grown hypotheses) brings
offered_is_passed old graph lines after log grown hypotheses text brings is left passes grows event =
    subst (λ (state : BlocksState). PassesLine state (kept_as graph after grown hypotheses) brings) is
    (record {
      next = record { text = text; rest = drop 1 lines.left; left = left; event = event };
      after = λ i. kept_as graph (passes i) (grows i) hypotheses;
    })

-- ---- what is of the graph

-- A log and a table stay of the graph.
pub still_of_graph : (graph : Tfpg) (old log : Logbook) (before : Option HypothesesState) (kept : HypothesesState) → AreOfGraph graph old before → log ≡ old
    → IsTableOf graph kept.terms kept.table → AreOfGraph graph log (Some kept)
still_of_graph graph old log before kept are same table = record {
  log_of = subst (IsLogOf graph) (sym same) are.log_of;
  ignores_none = ap (λ (l : Logbook). l.ignored) same ∙ are.ignores_none;
  table_of = λ other is. (let own : kept ≡ other = cc in subst (λ (k : HypothesesState). IsTableOf graph k.terms k.table) own table);
}

-- ---- the first line

-- Hypotheses without a step are kept on the terms.
pub begins : (old : BlocksState) (graph : Tfpg) (lines : LogLinesState) (log : Logbook) (before : Option HypothesesState) (terms : Terms) (kept : HypothesesState)
    → kept_as graph lines log before ≡ old → kept.terms ≡ terms → IsTableOf graph kept.terms kept.table
    → ((basis : RoundBasis) (at : Logbook) → basis.graph ≡ graph → basis.terms ≡ terms → basis.hypotheses ≡ kept.table.hypotheses → ((number : ℕ) → basis.steps number ≡ [])
    → KeepsBasis basis at kept)
    → ((count : ℕ) → HasHypotheses graph terms count → count ≤ MAX_HYPOTHESES) → KeepsTerms terms old (kept_as graph lines log (Some kept))
begins old graph lines log before terms kept is on_terms table keeps few =
    subst (λ (state : BlocksState). KeepsTerms terms state (kept_as graph lines log (Some kept))) is
    (record { kept = kept; after = refl; on_terms = on_terms; table = table; keeps = keeps; few = few })

-- ---- a refused line

-- A refused line of the log with this number is the right one.
pub refused_as_said : (old new : BlocksState) (refused cause : RefusedLine) (number passed : ℕ) → IsNextLine old new (next.Refused refused) → refused ≡ cause → passed ≡ new.log_lines.passed
    → number ≡ passed → PassesLine old new (Err cause) × (number ≡ old.log_lines.passed + 1)
refused_as_said old new refused cause number passed passes same counted numbered = (
  subst (λ (r : RefusedLine). PassesLine old new (Err r)) same passes,
  numbered ∙ counted ∙ ap (λ (state : BlocksState). state.log_lines.passed) passes.after,
)

-- ---- a round

module _ (read : ReadRound) (state after : BlocksState) (own : HypothesesState) (had : state.hypotheses ≡ Some own) (new : HypothesesState) (after_is : after ≡ record state { hypotheses = Some new }) where
  -- A round that was judged by what is kept is judged by each basis of which that is kept.
  pub judged_by_hypotheses : (result : Result (Unit {0}) RoundFault)
      → ((basis : RoundBasis) (earlier : Logbook) → basis.graph ≡ state.graph → basis.log ≡ state.log → GoesOn earlier state.log → KeepsBasis basis earlier own
      → OnOk result (RoundPasses basis state.log_lines.passed read))
      → ((basis : RoundBasis) (earlier : Logbook) → basis.graph ≡ state.graph → basis.log ≡ state.log → GoesOn earlier state.log → KeepsBasis basis earlier own
      → OnOk result (KeepsBasis (after_round basis read) basis.log new))
      → ((basis : RoundBasis) (earlier : Logbook) → basis.graph ≡ state.graph → basis.log ≡ state.log → GoesOn earlier state.log → KeepsBasis basis earlier own
      → (at : ℕ) (why : CheckCause) → result ≡ Err (round.NotAccepted at why) → RoundFails basis state.log_lines.passed read at why)
      → IsJudgedByHypotheses read state after result
  judged_by_hypotheses (Ok done) passes keeps fails = record {
    kept = new;
    after = after_is;
    passes = λ basis before by. (
      passes basis by.earlier by.graph by.log by.goes_on (own_is basis before by),
      keeps basis by.earlier by.graph by.log by.goes_on (own_is basis before by),
    );
  }
    where
      own_is : (basis : RoundBasis) (before : HypothesesState) (by : JudgesBy state basis before) → KeepsBasis basis by.earlier own
      own_is basis before by = let same : before ≡ own = same_Some before own (sym by.is_kept ∙ had) in subst (KeepsBasis basis by.earlier) same by.keeps
  judged_by_hypotheses (Err (round.NotAccepted at why)) passes keeps fails =
      λ basis before by. fails basis by.earlier by.graph by.log by.goes_on
      (subst (KeepsBasis basis by.earlier) (same_Some before own (sym by.is_kept ∙ had)) by.keeps) at why refl
  judged_by_hypotheses (Err round.NoMemory) passes keeps fails = tt

-- A table that stays as it was is still of the graph.
pub table_after : (graph : Tfpg) (old new : HypothesesState) → new.terms ≡ old.terms → new.table ≡ old.table → IsTableOf graph old.terms old.table → IsTableOf graph new.terms new.table
table_after graph old new terms table is = subst₂ (λ (t : Terms) (h : Hypotheses). IsTableOf graph t h) (sym terms) (sym table) is

-- So is it, with the parts in which they are kept.
pub judged_by_kept : (read : ReadRound) (old : BlocksState) (graph : Tfpg) (lines : LogLinesState) (log after : Logbook) (hypotheses : Option HypothesesState) (own new : HypothesesState) (line : ℕ)
    → kept_as graph lines log hypotheses ≡ old → hypotheses ≡ Some own → after ≡ log → line ≡ lines.passed → (result : Result (Unit {0}) RoundFault)
    → ((d : RoundBasis) (earlier : Logbook) → d.graph ≡ graph → d.log ≡ log → GoesOn earlier log → KeepsBasis d earlier own → OnOk result (RoundPasses d line read))
    → ((d : RoundBasis) (earlier : Logbook) → d.graph ≡ graph → d.log ≡ log → GoesOn earlier log → KeepsBasis d earlier own → OnOk result (KeepsBasis (after_round d read) d.log new))
    → ((d : RoundBasis) (earlier : Logbook) → d.graph ≡ graph → d.log ≡ log → GoesOn earlier log → KeepsBasis d earlier own
    → (at : ℕ) (why : CheckCause) → result ≡ Err (round.NotAccepted at why) → RoundFails d line read at why)
    → IsJudgedByHypotheses read old (kept_as graph lines after (Some new)) result
judged_by_kept read old graph lines log after hypotheses own new line is had same numbered result passes keeps fails =
    subst (λ (state : BlocksState). IsJudgedByHypotheses read state (kept_as graph lines after (Some new)) result) is
    (judged_by_hypotheses read (kept_as graph lines log hypotheses) (kept_as graph lines after (Some new)) own had new (λ i. kept_as graph lines (same i) (Some new)) result
    (subst (λ (n : ℕ). (d : RoundBasis) (earlier : Logbook) → d.graph ≡ graph → d.log ≡ log → GoesOn earlier log → KeepsBasis d earlier own → OnOk result (RoundPasses d n read)) numbered passes)
    keeps
    (subst (λ (n : ℕ). (d : RoundBasis) (earlier : Logbook) → d.graph ≡ graph → d.log ≡ log → GoesOn earlier log → KeepsBasis d earlier own
    → (at : ℕ) (why : CheckCause) → result ≡ Err (round.NotAccepted at why) → RoundFails d n read at why) numbered fails))
