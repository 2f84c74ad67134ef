-- What a reader returns for the lines of what is rendered of a round, one by one, is the round.
use Rattle.std.proofs.Common.{◌≡◌, ℕ, ◌+◌, ◌-◌, true, false, List, [], ◌∷◌, ◌++◌, length, map, All, Some, None, Result, Ok, Err, inl, inr, sym, ap, subst, ◌∙◌, append_assoc, append-nil}
use Rattle.std.proofs.lemmas.Bool.{false≢true}
use Rattle.std.proofs.lemmas.List.Elements.{All-head, All-tail}
use Rattle.tfpg_base.specs.Lines.{lines_of}
use Rattle.tfpg_graph.specs.Graph.{Tfpg}
use Rattle.tfpg_graph.specs.Valid.{IsValid}
use Rattle.tfpg_evidence.specs.declared.round.Round.{Round as RoundOf}
use Rattle.tfpg_report.specs.declared.fed.Fed.{Fed}
use Rattle.tfpg_report.specs.declared.fed.Fed.TheVariants as fed
use Rattle.tfpg_report.specs.declared.fed.ReadRefusal.{ReadRefusal}
use Rattle.tfpg_report.specs.declared.fed.ReadRefusal.TheVariants.{BadReport, NoMemory}
use Rattle.tfpg_report.specs.declared.stand.Stand.{Stand}
use Rattle.tfpg_report.specs.declared.stand.Stand.TheVariants as stand
use Rattle.tfpg_report.specs.declared.report_line.ReportLine.{ReportLine}
use Rattle.tfpg_report.specs.declared.report_line.ReportLine.TheVariants.{Counts}
use Rattle.tfpg_report.specs.ReportLines.{Says, written_line}
use Rattle.tfpg_report.specs.Blocks.{lines_before_counts, round_lines, round_text}
use Rattle.tfpg_report.specs.Reading.{Completes, IsHead, IsReadFrom, begun_in, is_last}
use Rattle.tfpg_report.specs.Represents.{ReaderRepresents, ReaderState}
use Rattle.tfpg_report.specs.RenderedRounds.{IsWithinFormat, MayReturnInTurn, CompletesRound}
use Rattle.tfpg_report.specs.Stands.{may_begin_block, stand_of}
use Rattle.tfpg_report.proofs.lemmas.CleanLines.{lines_of_text}
use Rattle.tfpg_report.proofs.lemmas.block_reader.BegunLines.{IsWithin, before_counts_within, begun_in_on}
use Rattle.tfpg_report.proofs.lemmas.block_reader.WholeBlocks.{comes_by, none_begun}
use Rattle.tfpg_report.proofs.lemmas.reading.LinesSay.{one_line}
use Rattle.tfpg_report.proofs.lemmas.laws.ReadInOrder.{leads_append, round_leads}
use Rattle.tfpg_report.proofs.lemmas.laws.RoundsReadBack.{round_read_back}

-- what was returned for lines
abbrev Results : Type 0
Results = List (Result Fed ReadRefusal)

-- ---- what a line completes

-- a line that ends nothing completes nothing, and the others go on
within_completes : (round : RoundOf) (before : List ReportLine) (line : ReportLine) (completed : Fed) (results : Results) → is_last line ≡ false → Completes before line completed → CompletesRound round results → CompletesRound round (Ok completed ∷ results)
within_completes round before line fed.More results within completes back = back
within_completes round before line (fed.Head k doubt budget) results within completes back = absurd (false≢true (sym within ∙ by completes))
  where
    by : IsHead (record { k = k; doubt = doubt; budget = budget }) line → is_last line ≡ true
    by (inl new) = ap is_last new
    by (inr old) = ap is_last old.1
within_completes round before line (fed.Refused number cause) results within completes back = absurd (false≢true (sym within ∙ ap is_last completes))
within_completes round before line (fed.Round read) results within completes back = absurd (false≢true (sym within ∙ ap is_last completes.0.1))
within_completes round before line (fed.Lost panel memory) results within completes back = absurd (false≢true (sym within ∙ ap is_last completes))

-- the counts complete the round
counts_complete : (round : RoundOf) (before : List ReportLine) (completed : Fed) (results : Results) → begun_in before ≡ lines_before_counts round → Completes before (Counts round.counts) completed → results ≡ [] → CompletesRound round (Ok completed ∷ results)
counts_complete round before fed.More results begun completes none = absurd cc
counts_complete round before (fed.Head k doubt budget) results begun completes none = absurd (by completes)
  where
    by : IsHead (record { k = k; doubt = doubt; budget = budget }) (Counts round.counts) → ⊥
    by (inl new) = cc
    by (inr old) = let is = old.1 in cc
counts_complete round before (fed.Refused number cause) results begun completes none = absurd cc
counts_complete round before (fed.Round read) results begun completes none =
    let first : ℕ = length before - length (begun_in before) + 1 in
    (round_read_back first round read (subst (λ (lines : List ReportLine). IsReadFrom first (lines ++ Counts round.counts ∷ []) read) begun completes.1), none)
counts_complete round before (fed.Lost panel memory) results begun completes none = absurd cc

-- ---- one line, and then others

module _ (graph : Tfpg) (valid : IsValid graph) where
  -- a line that may come is not refused
  first_result : (before : List ReportLine) (line : ReportLine) (others : List (List ℕ)) (results : Results) (at : Stand) → Says graph line (written_line graph line) → stand_of (before ++ line ∷ []) ≡ Some at
      → MayReturnInTurn graph before (written_line graph line ∷ others) results → (P : Results → Type 0)
      → ((completed : Fed) (rest : Results) → Completes before line completed → MayReturnInTurn graph (before ++ line ∷ []) others rest → P (Ok completed ∷ rest))
      → ((rest : Results) → rest ≡ [] → P (Err NoMemory ∷ rest)) → P results
  first_result before line others [] at says stands may P taken short = absurd may
  first_result before line others (Ok completed ∷ rest) at says stands may P taken short =
      let is : may.1.read ≡ line = one_line graph valid (written_line graph line) may.1.read line may.1.may_come.says says in
      taken completed rest (subst (λ (l : ReportLine). Completes before l completed) is may.1.completes)
      (subst (λ (l : ReportLine). MayReturnInTurn graph (before ++ l ∷ []) others rest) is may.2)
  first_result before line others (Err (BadReport number) ∷ rest) at says stands may P taken short =
      absurd (may.0 line (record { says = says; stand = at; stands = stands }))
  first_result before line others (Err NoMemory ∷ rest) at says stands may P taken short = short rest may

  -- the lines of a round that have not been read yet
  module _ (round : RoundOf) where
    abbrev counts : List ReportLine
    counts = Counts round.counts ∷ []

    abbrev CanBeRead : ReportLine → Type 0
    CanBeRead line = Says graph line (written_line graph line)

    rest_completes : (own before : List ReportLine) (results : Results) (to : Stand) → All IsWithin own → All CanBeRead (own ++ counts) → stand_of (before ++ (own ++ counts)) ≡ Some to
        → begun_in before ++ own ≡ lines_before_counts round → MayReturnInTurn graph before (map (written_line graph) (own ++ counts)) results → CompletesRound round results
    rest_completes [] before results to within readable stands begun may =
        first_result before (Counts round.counts) [] results to (All-head CanBeRead (Counts round.counts) [] readable) stands may (CompletesRound round)
        (λ completed rest completes ended. counts_complete round before completed rest (sym (append-nil (begun_in before)) ∙ begun) completes ended)
        (λ rest none. none)
    rest_completes (line ∷ own) before results to within readable stands begun may =
        let after : List ReportLine = before ++ line ∷ [] in
        let whole : stand_of (after ++ (own ++ counts)) ≡ Some to = ap stand_of (append_assoc before (line ∷ []) (own ++ counts)) ∙ stands in
        let here = comes_by stand.Nothing after (own ++ counts) to whole in
        let ends_none : IsWithin line = All-head IsWithin line own within in
        let begun_after : begun_in after ++ own ≡ lines_before_counts round =
        ap (λ (b : List ReportLine). b ++ own) (begun_in_on before line ends_none) ∙ append_assoc (begun_in before) (line ∷ []) own ∙ begun in
        first_result before line (map (written_line graph) (own ++ counts)) results here.between (All-head CanBeRead line (own ++ counts) readable) here.front_leads may (CompletesRound round)
        (λ completed rest completes further.
        within_completes round before line completed rest ends_none completes
        (rest_completes own after rest to (All-tail IsWithin line own within) (All-tail CanBeRead line (own ++ counts) readable) whole begun_after further))
        (λ rest none. none)

-- ---- the round

-- What a reader that is between blocks returns for the lines of what is rendered of a round is the round.
pub rendered_round_read_back : (graph : Tfpg) (round : RoundOf) (reader : ReaderState) (before : List ReportLine) (results : Results) → IsValid graph → IsWithinFormat graph round → ReaderRepresents reader before
    → may_begin_block reader.stand ≡ true → MayReturnInTurn graph before (lines_of (round_text graph round)) results → CompletesRound round results
rendered_round_read_back graph round reader before results valid within represents may_begin may =
    rest_completes graph valid round (lines_before_counts round) before results (stand.Counts None) (before_counts_within round) within.lines
    (leads_append stand.Nothing reader.stand before (round_lines round) (Some (stand.Counts None)) represents.stands (round_leads round reader.stand within.traces may_begin))
    (ap (λ (begun : List ReportLine). begun ++ lines_before_counts round) (none_begun before reader.stand represents.stands may_begin))
    (subst (λ (texts : List (List ℕ)). MayReturnInTurn graph before texts results) (lines_of_text graph valid (round_lines round)) may)
