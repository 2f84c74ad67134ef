-- Equal reports of one graph and one list of lines say the same.
use Rattle.std.proofs.Common.{◌≡◌, ℕ, ◌+◌, ◌<◌, ◌^◌, Bool, true, false, List, [], ◌∷◌, length, map, take, drop, get_or, All, Contains, Some, Result, Ok, Err, codes, slice_get, refl, sym, ap, subst, subst₂, ◌∙◌, arith}
use Rattle.std.specs.Prelude.{◌==◌, flat_map, decimal, option_and_then}
use Rattle.std.proofs.lemmas.List.Concat.{flat_map_single}
use Rattle.std.proofs.lemmas.List.Elements.{All-map, All-contains, All-nil}
use Rattle.std.proofs.lemmas.Option.{same_Some, slice_get_within}
use Rattle.tfpg_base.specs.declared.activation.Activation.{Activation}
use Rattle.tfpg_base.specs.declared.terms.Terms.{Terms}
use Rattle.tfpg_base.specs.Words.{line_of}
use Rattle.tfpg_base.proofs.lemmas.lists.Elements.{All-from_members, slice_get-contains, slice_get-there}
use Rattle.tfpg_base.proofs.lemmas.lists.FirstFound.{find-passes}
use Rattle.tfpg_base.proofs.lemmas.lists.Groups.{group, AreGroups, same_groups}
use Rattle.tfpg_base.proofs.lemmas.lists.Images.{Contains-map, Contains-map_only, flat_map-same}
use Rattle.tfpg_base.proofs.lemmas.lists.Lacking.{lacks_checked}
use Rattle.tfpg_base.proofs.lemmas.lists.Passing.{Contains-filter, Contains-filter_only, Contains-filter_map, Contains-filter_map_only}
use Rattle.tfpg_graph.specs.Graph.{Tfpg, sizes_of}
use Rattle.tfpg_graph.specs.Valid.{IsValid}
use Rattle.tfpg_log.specs.declared.event.Event.{Event}
use Rattle.tfpg_log.specs.Log.{Logbook, IsLogOf, IsOrdered}
use Rattle.tfpg_log.specs.LogOfLines.{log_of_lines}
use Rattle.tfpg_log.proofs.lemmas.logs_of_lines.LogsOfLines.{of-log_of_lines, ordered-log_of_lines}
use Rattle.tfpg_clause.proofs.lemmas.logs.TimesInRange.{now_in_range}
use Rattle.tfpg_evidence.specs.declared.finding.Finding.{Finding}
use Rattle.tfpg_evidence.specs.declared.finding.Status.{Status}
use Rattle.tfpg_evidence.specs.declared.finding.Status.TheVariants.{Ranked, Covered, Rejected, Open}
use Rattle.tfpg_evidence.specs.declared.round.Round.{Round}
use Rattle.tfpg_evidence.specs.RoundOf.{IsRoundOf, IsRankedIn, is_ranked, is_open, finding_numbered}
use Rattle.tfpg_evidence.specs.Findings.{hypothesis_of, ranked_in_order, open_in}
use Rattle.tfpg_evidence.proofs.lemmas.FindingsByNumber.{finding_numbered-first}
use Rattle.tfpg_hyp.specs.Fitting.{SayWhichSetsFit}
use Rattle.tfpg_hyp.specs.Rounds.{IsRound, key_of_status}
use Rattle.tfpg_hyp.specs.declared.place.Place.{Place}
use Rattle.tfpg_hyp.proofs.lemmas.FindingsOfRound.{HasFindingAt, evidence}
use Rattle.tfpg_log.specs.declared.refused_line.RefusedLine.{RefusedLine}
use Rattle.tfpg_report.specs.SetText.{set_word}
use Rattle.tfpg_report.specs.Blocks.{Block, Loss, RoundBlock}
use Rattle.tfpg_report.specs.LineWords.{robustness_word}
use Rattle.tfpg_report.specs.inside.LineNames.{activation_line}
use Rattle.tfpg_report.proofs.lemmas.ActivationLines.{IsInRange, one_trace}
use Rattle.tfpg_report.proofs.lemmas.BlockLines.{is_ranked_line, open_line, ranked_words, lines_of_trace, open_lines_of, trace_lines_of}
use Rattle.tfpg_report.proofs.lemmas.EqualTexts.{HaveSameLines, one_head, same_lines, same_number}
use Rattle.tfpg_check.specs.Report.{Progress, HasReports, AreBlocks, IsBlockOf, event_of_line, progress_of, report_text, rounds_of}
use Rattle.tfpg_check.specs.EqualReports.{HaveSameStatuses, SayTheSame, EqualReportsSayTheSame}
use Rattle.tfpg_check.proofs.lemmas.RoundsOfReports.{round_there}
use Rattle.tfpg_check.proofs.lemmas.SameStatuses.{PartsStandBefore, IsRoundHere, Own, trace_in, own, same_count, same_hypothesis, same_ranked, same_test, statuses}

-- That a round says which sets fit is a law of rounds.
abbrev pub RoundsSayWhichSetsFit : Type 0
RoundsSayWhichSetsFit =
    (graph : Tfpg) (terms : Terms) (line : ℕ) (rounds : List Round) (log : Logbook) (round : Round) → IsValid graph → IsLogOf graph log → IsOrdered log
    → IsRound graph terms rounds log line round → SayWhichSetsFit graph log terms round.findings

-- so is that it is of its graph
abbrev pub RoundsAreOfTheirGraph : Type 0
RoundsAreOfTheirGraph =
    (graph : Tfpg) (terms : Terms) (line : ℕ) (rounds : List Round) (log : Logbook) (round : Round) → IsLogOf graph log
    → IsRound graph terms rounds log line round → IsRoundOf (sizes_of graph) round

-- The laws that this rests on.
pub record RoundLaws : Type 0 where
  pub fitting : RoundsSayWhichSetsFit
  pub of_graph : RoundsAreOfTheirGraph
  pub parts_first : PartsStandBefore

-- ---- traces by their lines

module _ (graph : Tfpg) (valid : IsValid graph) where
  -- ---- the lines of a ranked finding

  abbrev first_line : Finding → Status → List ℕ
  first_line finding (Ranked trace cost alarmed monitored) = line_of (ranked_words graph finding cost alarmed monitored)
  first_line finding (Covered by) = []
  first_line finding Rejected = []
  first_line finding Open = []

  abbrev first_of : Finding → List ℕ
  first_of finding = first_line finding finding.status

  abbrev others_of : Finding → List (List ℕ)
  others_of finding = map (activation_line graph) (trace_in finding.status)

  abbrev trace_group : Finding → List (List ℕ)
  trace_group = group is_ranked_line first_of others_of

  abbrev AreRanked : List Finding → Type 0
  AreRanked findings = All (λ (finding : Finding). is_ranked finding.status ≡ true) findings

  is_group : (finding : Finding) (status : Status) → is_ranked status ≡ true → lines_of_trace graph finding status ≡ first_line finding status ∷ map (activation_line graph) (trace_in status)
  is_group finding (Ranked trace cost alarmed monitored) ranked = refl
  is_group finding (Covered by) ranked = cc
  is_group finding Rejected ranked = cc
  is_group finding Open ranked = cc

  first_passes : (finding : Finding) (status : Status) → is_ranked status ≡ true → is_ranked_line (first_line finding status) ≡ true
  first_passes finding (Ranked trace cost alarmed monitored) ranked = refl
  first_passes finding (Covered by) ranked = cc
  first_passes finding Rejected ranked = cc
  first_passes finding Open ranked = cc

  others_fail : (trace : List Activation) → All (λ line. is_ranked_line line ≡ false) (map (activation_line graph) trace)
  others_fail trace = All-map (λ line. is_ranked_line line ≡ false) (activation_line graph) trace (λ k d within. refl)

  -- ranked findings are groups of lines
  groups : (findings : List Finding) → AreRanked findings → AreGroups is_ranked_line first_of others_of findings
  groups findings ranked = record {
    first_passes = λ k d within. first_passes (get_or findings k d) (get_or findings k d).status (ranked k d within);
    others_fail = λ k d within. others_fail (trace_in (get_or findings k d).status);
  }

  -- so they are read back one by one
  same_one_by_one : (findings more : List Finding) → AreRanked findings → AreRanked more
      → flat_map (λ (finding : Finding). lines_of_trace graph finding finding.status) findings ≡ flat_map (λ (finding : Finding). lines_of_trace graph finding finding.status) more
      → map trace_group findings ≡ map trace_group more
  same_one_by_one findings more ranked too same =
      same_groups is_ranked_line first_of others_of findings more (groups findings ranked) (groups more too) (sym (grouped findings ranked) ∙ same ∙ grouped more too)
    where
      grouped : (fs : List Finding) → AreRanked fs → flat_map (λ (finding : Finding). lines_of_trace graph finding finding.status) fs ≡ flat_map trace_group fs
      grouped fs are =
          flat_map-same (λ (finding : Finding). lines_of_trace graph finding finding.status) trace_group fs
          (λ k d within. is_group (get_or fs k d) (get_or fs k d).status (are k d within))

  -- the number in the first line
  first_number : (finding found : Finding) (s t : Status) → is_ranked s ≡ true → is_ranked t ≡ true → finding.number < 2 ^ 64 → found.number < 2 ^ 64 → first_line finding s ≡ first_line found t
      → finding.number ≡ found.number
  first_number finding found (Ranked trace cost alarmed monitored) (Ranked other c a m) ranked too small also same =
      same_number (codes "ranked") (rest finding cost alarmed monitored) (rest found c a m) finding.number found.number (lacks_checked 32 (codes "ranked") refl) small also same
    where
      rest : Finding → ℕ → ℕ → ℕ → List ℕ
      rest f e b n = line_of (codes "cost" ∷ decimal e ∷ codes "robust" ∷ robustness_word b n ∷ codes "set" ∷ set_word graph (hypothesis_of f) ∷ [])
  first_number finding found _ _ ranked too small also same = cc

  -- the number in the line of an open one
  open_number : (finding found : Finding) → finding.number < 2 ^ 64 → found.number < 2 ^ 64 → open_line graph finding ≡ open_line graph found → finding.number ≡ found.number
  open_number finding found small also same =
      same_number (codes "open") (line_of (codes "set" ∷ set_word graph (hypothesis_of finding) ∷ [])) (line_of (codes "set" ∷ set_word graph (hypothesis_of found) ∷ []))
      finding.number found.number (lacks_checked 32 (codes "open") refl) small also same

-- a status that does not rank has no trace
no_trace : (status : Status) → is_ranked status ≡ false → trace_in status ≡ []
no_trace (Ranked trace cost alarmed monitored) not_ranked = cc
no_trace (Covered by) not_ranked = refl
no_trace Rejected not_ranked = refl
no_trace Open not_ranked = refl

-- one that ranks has a key
key_there : (number : ℕ) (status : Status) → is_ranked status ≡ true → (key : Place) × (key_of_status number status ≡ Some key)
key_there number (Ranked trace cost alarmed monitored) ranked = (_, refl)
key_there number (Covered by) ranked = cc
key_there number Rejected ranked = cc
key_there number Open ranked = cc

module _ (laws : RoundLaws) (graph : Tfpg) (valid : IsValid graph) (terms : Terms) (log : Logbook) (of : IsLogOf graph log) (ordered : IsOrdered log) (has_reports : HasReports graph terms) where
  -- ---- the findings of a round

  module _ (round : Round) (here : IsRoundHere laws.parts_first graph terms log round) where
    number_is : (number : ℕ) (finding : Finding) → HasFindingAt round number finding → finding.number ≡ number
    number_is number finding at = (evidence here.is_round number finding at).2.number_is

    -- there are few
    small : (number : ℕ) (finding : Finding) → HasFindingAt round number finding → finding.number < 2 ^ 64
    small number finding at =
        let within = slice_get_within round.findings number finding at in
        let few = has_reports.few_hypotheses (length here.is_round.hypotheses) (record { hypotheses = here.is_round.hypotheses; table = here.is_round.table; counted = refl }) in
        let complete = here.is_round.complete in
        omega (arith, within, few, complete, number_is number finding at)

    -- the ranked ones stand in the order
    in_order : (number : ℕ) (finding : Finding) → HasFindingAt round number finding → is_ranked finding.status ≡ true → Contains (ranked_in_order round) finding
    in_order number finding at ranked =
        let key = key_there number finding.status ranked in
        Contains-filter_map (finding_numbered round.findings) round.order number finding
        (here.is_round.order.each_ranked number key.0 (ap (option_and_then (λ (f : Finding). key_of_status number f.status)) at ∙ key.1))
        (finding_numbered-first round.findings number number finding at (number_is number finding at)
        (λ other f before there same. omega (arith, before, same, number_is other f there)))

    -- and no others
    order_only : (finding : Finding) → Contains (ranked_in_order round) finding → (number : ℕ) × HasFindingAt round number finding × (is_ranked finding.status ≡ true)
    order_only finding member =
        let from = Contains-filter_map_only (finding_numbered round.findings) round.order finding member in
        let is = All-contains (IsRankedIn round.findings) round.order from.0 (laws.of_graph graph terms here.line here.rounds log round of here.is_round).order from.1 in
        let found = (find-passes (λ (f : Finding). f.number == from.0) round.findings finding from.2).0 in (
          found.0,
          slice_get-contains round.findings finding found,
          subst (λ (f : Finding). is_ranked f.status ≡ true) (same_Some is.0 finding (sym is.1 ∙ from.2)) is.2,
        )

    all_ranked : All (λ (finding : Finding). is_ranked finding.status ≡ true) (ranked_in_order round)
    all_ranked = All-from_members (λ (finding : Finding). is_ranked finding.status ≡ true) (ranked_in_order round) (λ finding member. (order_only finding member).2)

    -- a trace is of the graph, and in range
    in_range : (number : ℕ) (finding : Finding) (at : HasFindingAt round number finding) (status : Status) → Own laws.parts_first graph terms log round here number finding at status
        → All (IsInRange graph valid) (trace_in status)
    in_range number finding at (Ranked trace cost alarmed monitored) is = λ k d within. record {
      node = is.1.trace_of.1 k d within;
      time = omega (arith, is.1.by_now k d within, now_in_range log ordered);
    }
    in_range number finding at (Covered by) is = All-nil (IsInRange graph valid)
    in_range number finding at Rejected is = All-nil (IsInRange graph valid)
    in_range number finding at Open is = All-nil (IsInRange graph valid)

    trace_in_range : (number : ℕ) (finding : Finding) → HasFindingAt round number finding → All (IsInRange graph valid) (trace_in finding.status)
    trace_in_range number finding at = in_range number finding at finding.status (own laws.parts_first graph terms log round here number finding at)

    -- what has the number of a finding is that finding
    one_of_number : (number index : ℕ) (finding found : Finding) → HasFindingAt round number finding → HasFindingAt round index found → found.number ≡ number → found ≡ finding
    one_of_number number index finding found at also same =
        same_Some found finding (sym also ∙ ap (λ (n : ℕ). slice_get round.findings n) (sym (number_is index found also) ∙ same) ∙ at)

  -- ---- two rounds with the same lines

  -- what is open in the one is open in the other
  opened_too : (one two : Round) (is_one : IsRoundHere laws.parts_first graph terms log one) (is_two : IsRoundHere laws.parts_first graph terms log two) → map (open_line graph) (open_in one) ≡ map (open_line graph) (open_in two)
      → (number : ℕ) (finding found : Finding) → HasFindingAt one number finding → HasFindingAt two number found → is_open finding.status ≡ true → is_open found.status ≡ true
  opened_too one two is_one is_two same number finding found at also opened =
      let member = Contains-filter (λ (f : Finding). is_open f.status) one.findings number finding at opened in
      let other = Contains-map_only (open_line graph) (open_in two) (open_line graph finding)
      (subst (λ (lines : List (List ℕ)). Contains lines (open_line graph finding)) same (Contains-map (open_line graph) (open_in one) finding member)) in
      let there = Contains-filter_only (λ (f : Finding). is_open f.status) two.findings other.0 other.1 in
      let number_same : other.0.number ≡ finding.number =
      open_number graph valid other.0 finding (small two is_two there.0 other.0 there.1) (small one is_one number finding at) other.2 in
      subst (λ (f : Finding). is_open f.status ≡ true)
      (one_of_number two is_two number there.0 found other.0 also there.1 (number_same ∙ number_is one is_one number finding at)) there.2

  module _ (one two : Round) (is_one : IsRoundHere laws.parts_first graph terms log one) (is_two : IsRoundHere laws.parts_first graph terms log two) (opens : open_lines_of graph one ≡ open_lines_of graph two)
      (traces : trace_lines_of graph one ≡ trace_lines_of graph two) where
    same_open_lines : map (open_line graph) (open_in one) ≡ map (open_line graph) (open_in two)
    same_open_lines = sym (flat_map_single (open_line graph) (open_in one)) ∙ opens ∙ flat_map_single (open_line graph) (open_in two)

    same_open : (number : ℕ) (finding found : Finding) → HasFindingAt one number finding → HasFindingAt two number found → is_open finding.status ≡ is_open found.status
    same_open number finding found at also =
        same_test (is_open finding.status) (is_open found.status) (opened_too one two is_one is_two same_open_lines number finding found at also)
        (opened_too two one is_two is_one (sym same_open_lines) number found finding also at)

    same_traces : (number : ℕ) (finding found : Finding) → HasFindingAt one number finding → HasFindingAt two number found → is_ranked finding.status ≡ true → trace_in finding.status ≡ trace_in found.status
    same_traces number finding found at also ranked =
        let all = same_one_by_one graph valid (ranked_in_order one) (ranked_in_order two) (all_ranked one is_one) (all_ranked two is_two) traces in
        let f = trace_group graph valid in
        let other = Contains-map_only f (ranked_in_order two) (f finding)
        (subst (λ (ls : List (List (List ℕ))). Contains ls (f finding)) all (Contains-map f (ranked_in_order one) finding (in_order one is_one number finding at ranked))) in
        let there = order_only two is_two other.0 other.1 in
        let number_same : other.0.number ≡ finding.number =
        first_number graph valid other.0 finding other.0.status finding.status there.2 ranked (small two is_two there.0 other.0 there.1) (small one is_one number finding at)
        (ap (λ (ls : List (List ℕ)). get_or ls 0 []) other.2) in
        let is_found : other.0 ≡ found = one_of_number two is_two number there.0 found other.0 also there.1 (number_same ∙ number_is one is_one number finding at) in
        sym (one_trace graph valid (trace_in other.0.status) (trace_in finding.status) (trace_in_range two is_two there.0 other.0 there.1) (trace_in_range one is_one number finding at)
        (ap (drop 1) other.2))
        ∙ ap (λ (g : Finding). trace_in g.status) is_found

    -- They have the same statuses.
    pub same_statuses : HaveSameStatuses one two
    same_statuses = record {
      as_many = same_count laws.parts_first graph terms log one two is_one is_two;
      each = λ number finding found at also. record {
        hypothesis = same_hypothesis laws.parts_first graph terms log one two is_one is_two number finding found at also;
        status = statuses laws.parts_first graph terms log one two is_one is_two same_open number finding found at also
            (by number finding found at also (is_ranked finding.status) refl);
      };
    }
      where
        by : (number : ℕ) (finding found : Finding) → HasFindingAt one number finding → HasFindingAt two number found → (ranks : Bool) → is_ranked finding.status ≡ ranks
            → trace_in finding.status ≡ trace_in found.status
        by number finding found at also true is = same_traces number finding found at also is
        by number finding found at also false is =
            no_trace finding.status is
            ∙ sym (no_trace found.status (sym (same_ranked laws.parts_first graph terms log one two is_one is_two same_open number finding found at also) ∙ is))

-- ---- two reports

module _ (laws : RoundLaws) (graph : Tfpg) (lines : List (List ℕ)) (terms : Terms) (blocks more : List Block) (valid : IsValid graph) (has_reports : HasReports graph terms)
    (are : AreBlocks graph terms lines blocks) (also : AreBlocks graph terms lines more)
    (index : ℕ) (same : (block other : Block) → slice_get blocks index ≡ Some block → slice_get more index ≡ Some other → HaveSameLines graph valid block other) where
  -- the log with the line
  abbrev Log : Logbook
  Log = log_of_lines graph (take (index + 1) lines)

  here : (all : List Block) (are_all : AreBlocks graph terms lines all) (round : Round) (losses : List Loss) → slice_get all index ≡ Some (RoundBlock round losses) → IsRoundHere laws.parts_first graph terms Log round
  here all are_all round losses at =
      let is_round = round_there graph terms lines all are_all index round losses at in
      record {
        line = index + 1;
        rounds = flat_map rounds_of (take index all);
        is_round = is_round;
        fitting =
            laws.fitting graph terms (index + 1) (flat_map rounds_of (take index all)) Log round valid (of-log_of_lines graph (take (index + 1) lines)) (ordered-log_of_lines graph (take (index + 1) lines)) is_round;
      }

  rounds_agree : (round other : Round) (losses lost : List Loss) → slice_get blocks index ≡ Some (RoundBlock round losses) → slice_get more index ≡ Some (RoundBlock other lost)
      → HaveSameStatuses round other
  rounds_agree round other losses lost at there =
      let ls = same (RoundBlock round losses) (RoundBlock other lost) at there in
      same_statuses laws graph valid terms Log (of-log_of_lines graph (take (index + 1) lines)) (ordered-log_of_lines graph (take (index + 1) lines)) has_reports round other
      (here blocks are round losses at) (here more also other lost there) ls.open_lines ls.trace_lines

  by : (block other : Block) (number : ℕ) (before after : Progress) (found : Result Event RefusedLine) → slice_get blocks index ≡ Some block → slice_get more index ≡ Some other
      → IsBlockOf graph terms before number block found → IsBlockOf graph terms after number other found → SayTheSame block other
  by block other number before after (Err cause) at there is too = subst₂ SayTheSame (sym is) (sym too) (refl, refl)
  by block other number before after (Ok event) at there is too =
      subst₂ SayTheSame (sym is.2) (sym too.2) (rounds_agree is.0 too.0 is.1 too.1 (at ∙ ap Some is.2) (there ∙ ap Some too.2))

  agree : (block other : Block) → slice_get blocks index ≡ Some block → slice_get more index ≡ Some other → SayTheSame block other
  agree block other at there =
      let one_each = are.one_each in
      let line = slice_get-there lines index (omega (arith, slice_get_within blocks index block at, one_each)) in
      by block other (index + 1) (progress_of graph (take index lines) (take index blocks)) (progress_of graph (take index lines) (take index more))
      (event_of_line graph (log_of_lines graph (take index lines)) line.0) at there (are.each index line.0 block line.1 at) (also.each index line.0 other line.1 there)

-- Equal reports say the same.
pub say_the_same : RoundLaws → EqualReportsSayTheSame
say_the_same laws graph lines terms others blocks more bytes valid report second =
    let same : report_text graph terms blocks ≡ report_text graph others more = sym report.text ∙ second.text in
    let one : terms ≡ others = one_head graph valid terms others blocks more same report.has_reports.within second.has_reports.within in
    let also : AreBlocks graph terms lines more = subst (λ (t : Terms). AreBlocks graph t lines more) (sym one) second.are_blocks in (
      one,
      λ index block other at there.
          agree laws graph lines terms blocks more valid report.has_reports report.are_blocks also index (same_lines graph valid terms others blocks more same index) block other at there,
    )
