-- What lines that are within their limits complete names what the graph has.
use Rattle.std.proofs.Common.{◌≡◌, ℕ, ◌+◌, ◌<◌, ◌≤◌, List, [], ◌∷◌, ◌++◌, length, map, All, Option, Some, None, inl, inr, sym, ap, subst, ◌∙◌, arith}
use Rattle.std.specs.Prelude.{flat_map}
use Rattle.std.proofs.lemmas.List.Elements.{All-nil, All-cons, All-append, All-head, All-tail}
use Rattle.tfpg_base.specs.declared.activation.Activation.{Activation}
use Rattle.tfpg_base.specs.declared.terms.Terms.{Terms}
use Rattle.tfpg_base.specs.declared.limits.TheConstants.{MAX_DOUBT}
use Rattle.tfpg_base.proofs.lemmas.lists.Elements.{All-front, All-back}
use Rattle.tfpg_graph.specs.Graph.{Tfpg}
use Rattle.tfpg_report.specs.declared.fed.Fed.{Fed}
use Rattle.tfpg_report.specs.declared.fed.Fed.TheVariants as fed
use Rattle.tfpg_report.specs.declared.read_round.RankedLine.{RankedLine}
use Rattle.tfpg_report.specs.declared.read_round.ReadRound.{ReadRound}
use Rattle.tfpg_report.specs.declared.report_line.ReportLine.{ReportLine}
use Rattle.tfpg_report.specs.declared.report_line.ReportLine.TheVariants.{Ranked, At, Round, Counts}
use Rattle.tfpg_report.specs.ReportLines.{IsLineWithin}
use Rattle.tfpg_report.specs.ReadRounds.{NumberedLine, numbered_from, lines_of_part, lines_of_ranked, line_of_open, line_of_rejected, lines_of_round, hypothesis_ranked}
use Rattle.tfpg_report.specs.Reading.{IsHead, IsReadFrom, begun_in}
use Rattle.tfpg_report.specs.Represents.{ReaderState, TakesReportLine}
use Rattle.tfpg_report.specs.Stands.{stand_of}
use Rattle.tfpg_report.specs.declared.stand.Stand.{Stand}
use Rattle.tfpg_evidence.specs.declared.round.Counts.{Counts as CountsOf}
use Rattle.tfpg_check.specs.HypothesesState.{HypothesesState}
use Rattle.tfpg_check.specs.inside.ReadRoundOf.{IsRankedLineOf, IsReadRoundOf}
use Rattle.tfpg_check.specs.inside.BlockSteps.{IsFedOf}

module _ (graph : Tfpg) where
  -- the line with this number is within its limits
  abbrev IsWithin : NumberedLine → Type 0
  IsWithin line = IsLineWithin graph line.says

  -- lines within their limits are so with their numbers
  numbered_within : (first : ℕ) (lines : List ReportLine) → All (IsLineWithin graph) lines → All IsWithin (numbered_from first lines)
  numbered_within first [] within = All-nil IsWithin
  numbered_within first (line ∷ lines) within =
      All-cons IsWithin (record { number = first; says = line }) (numbered_from (first + 1) lines) (All-head (IsLineWithin graph) line lines within)
      (numbered_within (first + 1) lines (All-tail (IsLineWithin graph) line lines within))

  -- the nodes of a trace are of the graph
  nodes_within : (first : ℕ) (trace : List Activation) → All IsWithin (numbered_from first (map At trace)) → All (λ (activation : Activation). activation.node < length graph.nodes) trace
  nodes_within first [] within = All-nil (λ (activation : Activation). activation.node < length graph.nodes)
  nodes_within first (activation ∷ trace) within =
      All-cons (λ (a : Activation). a.node < length graph.nodes) activation trace
      (All-head IsWithin (record { number = first; says = At activation }) (numbered_from (first + 1) (map At trace)) within).0
      (nodes_within (first + 1) trace (All-tail IsWithin (record { number = first; says = At activation }) (numbered_from (first + 1) (map At trace)) within))

  ranked_within : (ranked : List RankedLine) → All IsWithin (flat_map lines_of_ranked ranked) → All (IsRankedLineOf graph) ranked
  ranked_within [] within = All-nil (IsRankedLineOf graph)
  ranked_within (r ∷ ranked) within =
      let line : NumberedLine = record { number = r.first_line; says = Ranked r.number r.cost r.alarmed r.monitored (hypothesis_ranked r) } in
      let own : All IsWithin (line ∷ numbered_from (r.first_line + 1) (map At r.trace)) = All-front IsWithin (lines_of_ranked r) (flat_map lines_of_ranked ranked) within in
      All-cons (IsRankedLineOf graph) r ranked
      (record {
        hypothesis = (All-head IsWithin line (numbered_from (r.first_line + 1) (map At r.trace)) own).4;
        nodes = nodes_within (r.first_line + 1) r.trace (All-tail IsWithin line (numbered_from (r.first_line + 1) (map At r.trace)) own);
      })
      (ranked_within ranked (All-back IsWithin (lines_of_ranked r) (flat_map lines_of_ranked ranked) within))

  -- A round that was read from lines within their limits is of the graph.
  pub round_of_graph : (first : ℕ) (lines : List ReportLine) (read : ReadRound) → All (IsLineWithin graph) lines → IsReadFrom first lines read → IsReadRoundOf graph read
  round_of_graph first lines read within from =
      let parts : List NumberedLine = flat_map lines_of_part read.parts in
      let ranked : List NumberedLine = flat_map lines_of_ranked read.ranked in
      let unsettled : List NumberedLine = map line_of_open read.unsettled in
      let rejected : List NumberedLine = map line_of_rejected read.rejected in
      let counts : List NumberedLine = record { number = read.counts_line; says = Counts read.counts } ∷ [] in
      let all : All IsWithin (lines_of_round read) = subst (All IsWithin) (sym from.lines_are) (numbered_within first lines within) in
      let later : All IsWithin (parts ++ ranked ++ unsettled ++ rejected ++ counts) =
      All-tail IsWithin (record { number = read.first_line; says = Round read.number read.line read.now }) (parts ++ ranked ++ unsettled ++ rejected ++ counts) all in
      record {
        ranked = ranked_within read.ranked
            (All-back IsWithin parts ranked
            (All-front IsWithin (parts ++ ranked) unsettled
            (All-front IsWithin (parts ++ ranked ++ unsettled) rejected
            (All-front IsWithin (parts ++ ranked ++ unsettled ++ rejected) counts later))));
        lines = from.each_step;
      }

-- the doubts of a first line are few
few_doubts : (graph : Tfpg) (terms : Terms) (read : ReportLine) → IsHead terms read → IsLineWithin graph read → terms.doubt ≤ MAX_DOUBT
few_doubts graph terms read (inl new) within = (subst (IsLineWithin graph) new within).few_doubts
few_doubts graph terms read (inr old) within = let none = old.0 in omega (arith, none)

-- counts are no first line
counts_come_later : (counts : CountsOf) (stand : Stand) → stand_of (Counts counts ∷ []) ≡ Some stand → ⊥
counts_come_later counts stand is = cc

-- What a line completes after lines within their limits is of the graph, and a round comes only after a first line.
pub fed_of_graph : (graph : Tfpg) (reads : List ReportLine) (bytes : List ℕ) (reader : ReaderState) (hypotheses : Option HypothesesState) (fed : Fed) → TakesReportLine graph reads bytes reader fed
    → All (IsLineWithin graph) (begun_in reads) → (hypotheses ≡ None → reads ≡ []) → IsFedOf graph hypotheses fed
fed_of_graph graph reads bytes reader hypotheses fed.More takes within begun = tt
fed_of_graph graph reads bytes reader hypotheses (fed.Head k doubt budget) takes within begun =
    few_doubts graph (record { k = k; doubt = doubt; budget = budget }) takes.read takes.completes takes.may_come.says.within
fed_of_graph graph reads bytes reader hypotheses (fed.Refused number cause) takes within begun = tt
fed_of_graph graph reads bytes reader hypotheses (fed.Round read) takes within begun = (
  round_of_graph graph _ (begun_in reads ++ takes.read ∷ []) read
      (All-append (IsLineWithin graph) (begun_in reads) (takes.read ∷ []) within (All-cons (IsLineWithin graph) takes.read [] takes.may_come.says.within (All-nil (IsLineWithin graph))))
      takes.completes.1,
  λ none. counts_come_later takes.completes.0.0 takes.may_come.stand
      (ap (λ (line : ReportLine). stand_of (line ∷ [])) (sym takes.completes.0.1)
      ∙ ap (λ (front : List ReportLine). stand_of (front ++ takes.read ∷ [])) (sym (begun none)) ∙ takes.may_come.stands),
)
fed_of_graph graph reads bytes reader hypotheses (fed.Lost panel memory) takes within begun = tt
