-- The block of a vehicle's own line.
use Rattle.std.proofs.Common.{◌≡◌, ℕ, ◌+◌, ◌<◌, false, List, [], ◌∷◌, ◌++◌, length, Some, Ok, refl, sym, ap, subst, subst₂, ◌∙◌, arith}
use Rattle.std.specs.Prelude.{is_none}
use Rattle.std.proofs.lemmas.List.{append-nil, length-map}
use Rattle.std.proofs.lemmas.Option.{slice_get_within}
use Rattle.std.proofs.lemmas.Bool.{ltb-false}
use Rattle.tfpg_base.specs.declared.limits.TheConstants.{LONGEST_LINE}
use Rattle.tfpg_base.specs.Lines.{is_too_long}
use Rattle.tfpg_graph.specs.Graph.{Tfpg, sizes_of}
use Rattle.tfpg_graph.specs.Valid.{IsValid}
use Rattle.tfpg_log.specs.Log.{Logbook, IsLogOf, IsOrdered}
use Rattle.tfpg_log.specs.LogOfLines.{log_of_lines}
use Rattle.tfpg_evidence.specs.declared.round.Round.{Round}
use Rattle.tfpg_engine.specs.EngineState.{CountsCalls, GivesRound}
use Rattle.tfpg_engine.specs.Work.{IsRoundLimit}
use Rattle.tfpg_engine.specs.declared.told.Told.{Told}
use Rattle.tfpg_engine.specs.declared.told.Told.TheVariants as told
use Rattle.tfpg_fleet.specs.Belonging.{belongs, lines_for, vehicle_line}
use Rattle.tfpg_fleet.specs.FleetState.{FleetState, IsToldTo, VehicleRepresents, VehicleState, rounds_with}
use Rattle.tfpg_fleet.proofs.lemmas.FleetTells.{LogsGrow, told_represents}
use Rattle.tfpg_fleet.proofs.lemmas.LinesFor.{own_short}
use Rattle.tfpg_report.specs.Blocks.{round_text}
use Rattle.tfpg_check.specs.Report.{Progress, progress_of, rounds_of}
use Rattle.tfpg_run.specs.declared.fleet.watch.Watch.{Watch}
use Rattle.tfpg_diagnose.specs.TellsPanels.{losses_in}
use Rattle.tfpg_diagnose.specs.EngineReports.{EngineReports}
use Rattle.tfpg_diagnose.specs.inside.LineBlocks.{HasBlock, IsBlockWithin, numbered}
use Rattle.tfpg_run.specs.fleet.Answers.{Answer, blocks_for}
use Rattle.tfpg_run.specs.fleet.FleetOutput.{FleetProblem, rounds_for}
use Rattle.tfpg_run.specs.inside.fleet.UnderWay.{HasAnswered, IsToldOf, told_text}
use Rattle.tfpg_diagnose.proofs.lemmas.LineBlocks.{FitsOfRounds, MinimalOfRounds, NamesOfRounds, block_of_refusal, block_of_round, round_is_of_graph, round_says}

-- the laws on logs of lines and on rounds
pub record RoundLaws : Type 0 where
  pub grows : LogsGrow
  pub of : (graph : Tfpg) (lines : List (List ℕ)) → IsLogOf graph (log_of_lines graph lines)
  pub ordered : (graph : Tfpg) (lines : List (List ℕ)) → IsOrdered (log_of_lines graph lines)
  pub names : NamesOfRounds
  pub fit : FitsOfRounds
  pub minimal : MinimalOfRounds

module _ (laws : RoundLaws) (fleet : FleetProblem) (valid : IsValid fleet.graph) (lines : List (List ℕ)) (answers : List Answer) (watch : Watch)
    (so_far : HasAnswered fleet lines answers watch) (text : List ℕ) (later : FleetState) (number line : ℕ) where
  -- the vehicle's own lines before this one
  abbrev pub own_lines : List (List ℕ)
  own_lines = lines_for fleet.names number lines

  -- how far its report has come
  abbrev pub own_progress : Progress
  own_progress = progress_of fleet.graph own_lines (blocks_for number answers)

  module _ (answer : Told) (is : IsToldTo text watch.fleet later number line answer) where
    -- the line belongs to it
    pub its_line : belongs fleet.names text ≡ Some (vehicle_line number is.own)
    its_line = subst (λ (names : List (List ℕ)). belongs names text ≡ Some (vehicle_line number is.own)) so_far.names is.is_for

    its_line_short : is_too_long is.own ≡ false
    its_line_short = own_short fleet.names text number is.own its_line

    -- what it represented
    pub represented : VehicleRepresents fleet.graph fleet.terms is.before own_lines (rounds_for number answers)
    represented =
        subst (λ (names : List (List ℕ)). VehicleRepresents fleet.graph fleet.terms is.before (lines_for names number lines) (rounds_for number answers)) so_far.names
        (so_far.represents.each number is.before is.there (ap is_none is.taken.line_is))

    represents_now : VehicleRepresents fleet.graph fleet.terms is.after (own_lines ++ is.own ∷ []) (rounds_with (rounds_for number answers) answer)
    represents_now =
        told_represents laws.grows fleet.graph fleet.terms is.own its_line_short own_lines (rounds_for number answers) is.before is.after line represented answer is.taken

    reports_so_far : EngineReports fleet.graph fleet.terms is.before.engine own_progress
    reports_so_far = record { graph_is = represented.graph_is; terms_is = represented.terms_is; log_is = represented.log_is; represents = represented.represents }

    -- it is one of those that are named
    pub own_within : number < length fleet.names
    own_within =
        let inside : number < length watch.fleet.vehicles = slice_get_within watch.fleet.vehicles number is.before is.there in
        let counted : length watch.fleet.vehicles ≡ length fleet.names = sym (length-map watch.fleet.vehicles (λ (vehicle : VehicleState). vehicle.name)) ∙ ap length so_far.names in
        omega (arith, inside, counted)

    pub kept_within : number < length watch.ranked.items
    kept_within = omega (arith, own_within, so_far.one_each)

    -- its line is the next of its own
    pub own_number : line ≡ 1 + length own_lines
    own_number =
        let same : Some line ≡ Some (length own_lines + 1) = sym is.taken.line_is ∙ represented.next_is in
        let number_is : line ≡ length own_lines + 1 = cc in
        omega (arith, number_is)

  -- a round that was told is of the graph
  round_told : (round : Round) (is : IsToldTo text watch.fleet later number line (told.Round round))
      → GivesRound line is.own (rounds_for number answers) round is.before.engine is.after.engine
  round_told round is = is.taken.brings (rounds_for number answers) (represented (told.Round round) is).represents

  pub told_of_graph : (answer : Told) → IsToldTo text watch.fleet later number line answer → IsToldOf (sizes_of fleet.graph) answer
  told_of_graph (told.Refused refusal) is = tt
  told_of_graph (told.Round round) is =
      let now = represents_now (told.Round round) is in
      round_is_of_graph line is.own (rounds_for number answers) round is.before.engine is.after.engine (round_told round is) is.taken.graph
      (log_of_lines fleet.graph (own_lines ++ is.own ∷ [])) (sym now.log_is)
      (subst (λ (g : Tfpg). IsLogOf g (log_of_lines fleet.graph (own_lines ++ is.own ∷ []))) (sym now.graph_is) (laws.of fleet.graph (own_lines ++ is.own ∷ [])))
      fleet.graph (sym now.graph_is) laws.names

  -- The block of what was told, with no panel lost.
  pub record HasOwnBlock (answer : Told) (is : IsToldTo text watch.fleet later number line answer) : Type 0 where
    pub has : HasBlock fleet.graph fleet.terms own_progress (numbered line is.own) (told_text fleet.graph line answer) is.after.engine
    pub none_lost : losses_in has.block ≡ []
    pub within : (start finish : ℕ) → CountsCalls is.after.engine (rounds_for number answers) (Ok answer) start finish
        → IsBlockWithin fleet.graph own_progress is.own has.block start finish
    pub rounds : (before : List Round) → rounds_with before answer ≡ before ++ rounds_of has.block

  pub own_block : (answer : Told) (is : IsToldTo text watch.fleet later number line answer) → HasOwnBlock answer is
  own_block (told.Refused refusal) is =
      let was = represented (told.Refused refusal) is in
      let brings = is.taken.brings (rounds_for number answers) was.represents in
      record {
        has = block_of_refusal fleet.graph fleet.terms own_progress line is.own (told_text fleet.graph line (told.Refused refusal)) is.before.engine is.after.engine
            (ltb-false LONGEST_LINE (length is.own) (its_line_short (told.Refused refusal) is)) (reports_so_far (told.Refused refusal) is) refusal brings.0 brings.1 refl;
        none_lost = refl;
        within = λ start finish none. (0, refl, omega (arith, none));
        rounds = λ before. sym (append-nil before);
      }
  own_block (told.Round round) is =
      let now = represents_now (told.Round round) is in
      let was = represented (told.Round round) is in
      let gives = round_told round is in
      let log = log_of_lines fleet.graph (own_lines ++ is.own ∷ []) in
      let of = subst (λ (g : Tfpg). IsLogOf g log) (sym now.graph_is) (laws.of fleet.graph (own_lines ++ is.own ∷ [])) in
      let says = round_says line is.own (rounds_for number answers) round is.before.engine is.after.engine gives is.taken.graph log (sym now.log_is) of
      (subst IsValid (sym was.graph_is) valid) (laws.ordered fleet.graph (own_lines ++ is.own ∷ [])) laws.fit laws.minimal in
      record {
        has = block_of_round fleet.graph fleet.terms own_progress line is.own (told_text fleet.graph line (told.Round round)) is.before.engine is.after.engine
            (ltb-false LONGEST_LINE (length is.own) (its_line_short (told.Round round) is)) (reports_so_far (told.Round round) is) round gives says
            is.taken.graph is.taken.terms (ap (λ (g : Tfpg). round_text g round) (sym now.graph_is));
        none_lost = refl;
        within = λ start finish counts.
            let limit : ℕ = counts.0 in
            (limit, subst₂ (λ (g : Tfpg) (l : Logbook). IsRoundLimit g l (rounds_for number answers) round limit) now.graph_is (now.log_is ∙ laws.grows fleet.graph own_lines is.own) counts.1, counts.2);
        rounds = λ before. refl;
      }
