-- What a round says, and what is read from its lines: they are the same.
use Rattle.std.proofs.Common.{◌≡◌, ℕ, true, List, [], ◌∷◌, ◌++◌, get_or, map, filter, All, refl, sym, ap, ◌∙◌}
use Rattle.std.specs.Prelude.{flat_map}
use Rattle.std.proofs.lemmas.List.{map-append}
use Rattle.std.proofs.lemmas.List.Folds.{flat_map-map}
use Rattle.tfpg_base.proofs.lemmas.lists.Images.{flat_map-same, map-map}
use Rattle.tfpg_evidence.specs.declared.finding.Finding.{Finding}
use Rattle.tfpg_evidence.specs.declared.finding.Status.{Status}
use Rattle.tfpg_evidence.specs.declared.finding.Status.TheVariants as status
use Rattle.tfpg_evidence.specs.declared.round.Round.{Round as RoundOf}
use Rattle.tfpg_evidence.specs.RoundOf.{is_ranked}
use Rattle.tfpg_evidence.specs.Findings.{hypothesis_of, ranked_in_order, open_in, newly_rejected}
use Rattle.tfpg_report.specs.declared.read_round.RankedLine.{RankedLine}
use Rattle.tfpg_report.specs.declared.read_round.ReadRound.{ReadRound}
use Rattle.tfpg_report.specs.declared.report_line.ReportLine.{ReportLine}
use Rattle.tfpg_report.specs.declared.report_line.ReportLine.TheVariants.{Round, Counts}
use Rattle.tfpg_report.specs.Blocks.{lines_if_ranked, round_lines}
use Rattle.tfpg_report.specs.inside.LineNames.{open_line, rejected_line}
use Rattle.tfpg_report.specs.ReadRounds.{NumberedLine, lines_of_part, lines_of_ranked, line_of_open, line_of_rejected, hypothesis_ranked}
use Rattle.tfpg_report.specs.Reading.{IsReadFrom}
use Rattle.tfpg_check.specs.Judging.{key_read, named_hypothesis}
use Rattle.tfpg_check.proofs.lemmas.passing.NamedFindings.{named_in, steps_in_finding, steps_in_part, has_steps}
use Rattle.tfpg_check.proofs.lemmas.passing.RightLines.{line_of_open_named, line_of_rejected_named, ranked_said, said, numbered_said, said_of_each, parts_said, with_steps_alone}
use Rattle.tfpg_check.proofs.lemmas.completeness.RoundSayings.{RankingSaying, RoundSaying, lines_of_ranking, lines_of_saying, same_saying}

-- ---- what is read

-- what a ranked line says
abbrev pub ranking_read : RankedLine → RankingSaying
ranking_read r = record { key = key_read r; hypothesis = hypothesis_ranked r; trace = r.trace }

-- what a round that was read says
abbrev pub saying_read : ReadRound → RoundSaying
saying_read read =
    record {
      number = read.number;
      line = read.line;
      now = read.now;
      parts = map steps_in_part read.parts;
      ranked = map ranking_read read.ranked;
      unsettled = map named_hypothesis read.unsettled;
      rejected = map named_hypothesis read.rejected;
      counts = read.counts;
    }

rankings_said : (ranked : List RankedLine) → said (flat_map lines_of_ranked ranked) ≡ flat_map lines_of_ranking (map ranking_read ranked)
rankings_said ranked =
    said_of_each lines_of_ranked ranked
    ∙ flat_map-same (λ (r : RankedLine). said (lines_of_ranked r)) (λ (r : RankedLine). lines_of_ranking (ranking_read r)) ranked
    (λ k d within. numbered_said (get_or ranked k d).first_line (ranked_said (get_or ranked k d)))
    ∙ sym (flat_map-map lines_of_ranking ranking_read ranked)

-- its lines say it
pub read_lines : (first : ℕ) (lines : List ReportLine) (read : ReadRound) → IsReadFrom first lines read → lines ≡ lines_of_saying (saying_read read)
read_lines first lines read from =
    let says : NumberedLine → ReportLine = λ l. l.says in
    let parts : List NumberedLine = flat_map lines_of_part read.parts in
    let ranked : List NumberedLine = flat_map lines_of_ranked read.ranked in
    let unsettled : List NumberedLine = map line_of_open read.unsettled in
    let rejected : List NumberedLine = map line_of_rejected read.rejected in
    let counts : List NumberedLine = record { number = read.counts_line; says = Counts read.counts } ∷ [] in
    let opened = map-map says line_of_open read.unsettled ∙ sym (map-map line_of_open_named named_hypothesis read.unsettled) in
    let refused = map-map says line_of_rejected read.rejected ∙ sym (map-map line_of_rejected_named named_hypothesis read.rejected) in
    let two = map-append says parts ranked ∙ (λ i. parts_said read.parts from.each_step i ++ rankings_said read.ranked i) in
    let three = map-append says (parts ++ ranked) unsettled ∙ (λ i. two i ++ opened i) in
    let four = map-append says (parts ++ ranked ++ unsettled) rejected ∙ (λ i. three i ++ refused i) in
    let all = map-append says (parts ++ ranked ++ unsettled ++ rejected) counts ∙ (λ i. four i ++ Counts read.counts ∷ []) in
    sym (numbered_said first lines) ∙ sym (ap said from.lines_are) ∙ ap (λ (ls : List ReportLine). Round read.number read.line read.now ∷ ls) all

-- ---- what a round says

-- what is said of a finding with this status, if it is ranked
abbrev pub ranking_as : Finding → Status → RankingSaying
ranking_as finding (status.Ranked trace cost alarmed monitored) =
    record {
      key = record { cost = cost; robust = record { alarmed = alarmed; monitored = monitored }; number = finding.number };
      hypothesis = hypothesis_of finding;
      trace = trace;
    }
ranking_as finding _ =
    record { key = record { cost = 0; robust = record { alarmed = 0; monitored = 0 }; number = finding.number }; hypothesis = hypothesis_of finding; trace = [] }

-- what is said of a ranked finding
abbrev pub ranking_of : Finding → RankingSaying
ranking_of finding = ranking_as finding finding.status

-- what a round says
abbrev pub saying_of : RoundOf → RoundSaying
saying_of round =
    record {
      number = round.number;
      line = round.line;
      now = round.now;
      parts = map steps_in_finding (filter has_steps round.findings);
      ranked = map ranking_of (ranked_in_order round);
      unsettled = map named_in (open_in round);
      rejected = map named_in (newly_rejected round);
      counts = round.counts;
    }

ranking_lines : (finding : Finding) (s : Status) → is_ranked s ≡ true → lines_if_ranked finding s ≡ lines_of_ranking (ranking_as finding s)
ranking_lines finding (status.Ranked trace cost alarmed monitored) ranked = refl
ranking_lines finding (status.Covered by) ranked = absurd cc
ranking_lines finding status.Rejected ranked = absurd cc
ranking_lines finding status.Open ranked = absurd cc

-- The ranked hypotheses of the order are ranked.
abbrev pub OrdersRanked : RoundOf → Type 0
OrdersRanked round = All (λ (finding : Finding). is_ranked finding.status ≡ true) (ranked_in_order round)

-- its lines say it
pub lines_say : (round : RoundOf) → OrdersRanked round → round_lines round ≡ lines_of_saying (saying_of round)
lines_say round orders =
    let parts = with_steps_alone round.findings in
    let ranked : flat_map (λ (finding : Finding). lines_if_ranked finding finding.status) (ranked_in_order round) ≡ flat_map lines_of_ranking (map ranking_of (ranked_in_order round)) =
    flat_map-same (λ (finding : Finding). lines_if_ranked finding finding.status) (λ (finding : Finding). lines_of_ranking (ranking_of finding)) (ranked_in_order round)
    (λ k d within. ranking_lines (get_or (ranked_in_order round) k d) (get_or (ranked_in_order round) k d).status (orders k d within))
    ∙ sym (flat_map-map lines_of_ranking ranking_of (ranked_in_order round)) in
    let unsettled : map open_line (open_in round) ≡ map line_of_open_named (map named_in (open_in round)) = sym (map-map line_of_open_named named_in (open_in round)) in
    let rejected : map rejected_line (newly_rejected round) ≡ map line_of_rejected_named (map named_in (newly_rejected round)) = sym (map-map line_of_rejected_named named_in (newly_rejected round)) in
    λ i. Round round.number round.line round.now ∷ parts i ++ ranked i ++ unsettled i ++ rejected i ++ Counts round.counts ∷ []

-- What was read from the lines of a round says what the round says.
pub said_as_read : (first : ℕ) (round : RoundOf) (read : ReadRound) → OrdersRanked round → IsReadFrom first (round_lines round) read → saying_read read ≡ saying_of round
said_as_read first round read orders from = same_saying (saying_read read) (saying_of round) (sym (read_lines first (round_lines round) read from) ∙ lines_say round orders)

-- Rounds with equal lines say the same.
pub said_alike : (one other : RoundOf) → OrdersRanked one → OrdersRanked other → round_lines one ≡ round_lines other → saying_of one ≡ saying_of other
said_alike one other orders also same = same_saying (saying_of one) (saying_of other) (sym (lines_say one orders) ∙ same ∙ lines_say other also)
