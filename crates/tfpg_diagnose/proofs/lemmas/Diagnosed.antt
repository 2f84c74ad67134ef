-- A diagnosis of lines in memory, one line after another.
use Rattle.std.proofs.Common.{◌≡◌, ℕ, ◌+◌, ◌-◌, ◌≤◌, ◌<◌, List, [], ◌∷◌, ◌++◌, length, Option, Some, None, refl, sym, ap, subst, subst₂, ◌∙◌, arith}
use Rattle.std.specs.Prelude.{flat_map}
use Rattle.std.proofs.lemmas.List.{append-nil, length_push}
use Rattle.tfpg_base.specs.Choice.{last_of}
use Rattle.tfpg_base.specs.declared.terms.Terms.{Terms}
use Rattle.tfpg_base.specs.declared.limits.TheConstants.{LONGEST_LINE}
use Rattle.tfpg_base.proofs.lemmas.lists.Written.{slice_get-push_at}
use Rattle.tfpg_graph.specs.Graph.{Tfpg}
use Rattle.tfpg_graph.specs.Valid.{IsValid}
use Rattle.tfpg_log.specs.declared.event.Offered.TheVariants.{Refused}
use Rattle.tfpg_log.specs.declared.refusal.Refusal.{Refusal}
use Rattle.tfpg_log.specs.Log.{Logbook}
use Rattle.tfpg_log.specs.Accepted.{reply_to}
use Rattle.tfpg_log.specs.LogOfLines.{new_log, log_of_lines}
use Rattle.tfpg_evidence.specs.declared.round.Round.{Round}
use Rattle.tfpg_hyp.specs.Rounds.{IsRound}
use Rattle.tfpg_engine.specs.EngineState.{EngineState, EngineRepresents, GivesRound}
use Rattle.tfpg_log.specs.declared.refused_line.RefusedLine.TheVariants.{TooLong, Offer}
use Rattle.tfpg_report.specs.Blocks.{refused_text, round_text}
use Rattle.tfpg_check.specs.Report.{Progress, progress_of, rounds_of}
use Rattle.tfpg_check.proofs.lemmas.Progressing.{progress_of-push}
use Rattle.tfpg_diagnose.specs.declared.diagnosis.Diagnosis.{Diagnosis}
use Rattle.tfpg_diagnose.specs.RightReport.{RoundSays}
use Rattle.tfpg_diagnose.specs.Rounds.{AreRoundsOf, IsLastRound}
use Rattle.tfpg_diagnose.specs.EngineReports.{EngineReports}
use Rattle.tfpg_diagnose.specs.inside.LineBlocks.{HasBlock, numbered}
use Rattle.tfpg_diagnose.specs.Diagnosed.{HasDiagnosed, HasLastOf}
use Rattle.tfpg_diagnose.proofs.lemmas.LineBlocks.{along, block_of_long_line, block_of_refusal, block_of_round}
use Rattle.tfpg_diagnose.proofs.lemmas.NextBlocks.{AreBlocks-none, AreBlocks-push, RoundsSay-none, RoundsSay-push}

-- a new diagnosis has taken no line
pub nothing_diagnosed : (graph : Tfpg) (terms : Terms) (d : Diagnosis) → IsValid graph → d.engine.graph ≡ graph → d.engine.terms ≡ terms → d.engine.log ≡ new_log
    → EngineRepresents d.engine [] → d.last ≡ None → HasDiagnosed graph terms [] d
nothing_diagnosed graph terms d valid graph_is terms_is log_is represents last = record {
  valid = valid;
  blocks = [];
  are_blocks = AreBlocks-none graph terms;
  say = RoundsSay-none graph terms;
  reports = record { graph_is = graph_is; terms_is = terms_is; log_is = log_is; represents = represents };
  last = subst (HasLastOf graph terms new_log []) (sym last) refl;
}

-- ---- one line more

module _ (graph : Tfpg) (terms : Terms) (lines : List (List ℕ)) (line : List ℕ) (before now : Diagnosis) (number : ℕ) (has : HasDiagnosed graph terms lines before)
    (number_is : number ≡ 1 + length lines) where
  -- the rounds so far
  abbrev Rounds : List Round
  Rounds = flat_map rounds_of has.blocks

  abbrev At : Progress
  At = progress_of graph lines has.blocks

  -- with the block of the line
  with_block : (bytes : List ℕ) (block : HasBlock graph terms At (numbered number line) bytes now.engine)
      → HasLastOf graph terms now.engine.log (Rounds ++ rounds_of block.block) now.last → HasDiagnosed graph terms (lines ++ line ∷ []) now
  with_block bytes block last =
      let step = progress_of-push graph lines has.blocks line block.block in
      let reports = subst (EngineReports graph terms now.engine) (sym step) block.reports in
      record {
        valid = has.valid;
        blocks = has.blocks ++ block.block ∷ [];
        are_blocks = AreBlocks-push graph terms lines has.blocks line block.block number has.are_blocks number_is block.is_block;
        say = RoundsSay-push graph terms lines has.blocks line block.block has.are_blocks.one_each has.say block.says;
        reports = reports;
        last = subst (λ (log : Logbook). HasLastOf graph terms log (flat_map rounds_of (has.blocks ++ block.block ∷ [])) now.last) reports.log_is
            (subst (λ (rounds : List Round). HasLastOf graph terms now.engine.log rounds now.last) (sym (ap (λ (p : Progress). p.rounds) step)) last);
      }

  -- where nothing changed, the last round is the same
  same_last : now.engine ≡ before.engine → now.last ≡ before.last → HasLastOf graph terms now.engine.log (Rounds ++ []) now.last
  same_last same last =
      subst (HasLastOf graph terms now.engine.log (Rounds ++ [])) (sym last)
      (subst₂ (λ (log : Logbook) (rounds : List Round). HasLastOf graph terms log rounds before.last)
      (sym (ap (λ (engine : EngineState). engine.log) same ∙ has.reports.log_is)) (sym (append-nil Rounds)) has.last)

  -- a line that is too long was passed over
  pub long_line_diagnosed : LONGEST_LINE < length line → now.engine ≡ before.engine → now.last ≡ before.last → HasDiagnosed graph terms (lines ++ line ∷ []) now
  long_line_diagnosed long same last =
      with_block (refused_text number TooLong)
      (block_of_long_line graph terms At number line (refused_text number TooLong) now.engine long (subst (λ (engine : EngineState). EngineReports graph terms engine At) (sym same) has.reports) refl)
      (same_last same last)

  module _ (short : length line ≤ LONGEST_LINE) where
    -- a refused line changed nothing
    pub refused_line_diagnosed : (refusal : Refusal) → reply_to before.engine.graph before.engine.log line ≡ Refused refusal → now.engine ≡ before.engine → now.last ≡ before.last
        → HasDiagnosed graph terms (lines ++ line ∷ []) now
    refused_line_diagnosed refusal refuses same last =
        with_block (refused_text number (Offer refusal))
        (block_of_refusal graph terms At number line (refused_text number (Offer refusal)) before.engine now.engine short has.reports refusal refuses same refl)
        (same_last same last)

    -- an accepted line brought a round
    pub accepted_line_diagnosed : (round : Round) (gives : GivesRound number line Rounds round before.engine now.engine)
        → RoundSays before.engine.graph before.engine.terms Rounds now.engine.log round → now.engine.graph ≡ before.engine.graph → now.engine.terms ≡ before.engine.terms
        → now.last ≡ Some round → HasDiagnosed graph terms (lines ++ line ∷ []) now
    accepted_line_diagnosed round gives says same_graph same_terms last =
        with_block (round_text now.engine.graph round)
        (block_of_round graph terms At number line (round_text now.engine.graph round) before.engine now.engine short has.reports round gives says same_graph same_terms refl)
        (subst (HasLastOf graph terms now.engine.log (Rounds ++ round ∷ [])) (sym last) (record {
          earlier = Rounds;
          cut = refl;
          line = number;
          is_round = along (λ (g : Tfpg) (x : Terms) (l : Logbook). IsRound g x Rounds l number round) before.engine.graph graph before.engine.terms terms now.engine.log now.engine.log
              has.reports.graph_is has.reports.terms_is refl gives.round_is;
          says = along (λ (g : Tfpg) (x : Terms) (l : Logbook). RoundSays g x Rounds l round) before.engine.graph graph before.engine.terms terms now.engine.log now.engine.log
              has.reports.graph_is has.reports.terms_is refl says;
        }))

-- ---- what has come of all lines

module _ (graph : Tfpg) (terms : Terms) (lines : List (List ℕ)) (d : Diagnosis) (has : HasDiagnosed graph terms lines d) where
  -- the rounds are those of the lines
  pub rounds_diagnosed : AreRoundsOf graph terms lines (flat_map rounds_of has.blocks)
  rounds_diagnosed = record { blocks = has.blocks; are_blocks = has.are_blocks; say = has.say; rounds_are = refl }

  last_by : (last : Option Round) (rounds : List Round) → HasLastOf graph terms (log_of_lines graph lines) rounds last → last ≡ last_of rounds
  last_by None rounds none = ap last_of (sym none)
  last_by (Some round) rounds is =
      sym (slice_get-push_at is.earlier round (length (is.earlier ++ round ∷ []) - 1) (omega (arith, length_push is.earlier round))) ∙ ap last_of (sym is.cut)

  -- and the last round is that of the lines
  pub last_diagnosed : IsLastRound graph terms lines d.last
  last_diagnosed = record { rounds = flat_map rounds_of has.blocks; are = rounds_diagnosed; last_is = last_by d.last (flat_map rounds_of has.blocks) has.last }

  -- its graph and its terms are those of the engine
  pub own_diagnosed : HasDiagnosed d.engine.graph d.engine.terms lines d
  own_diagnosed = subst₂ (λ (x : Tfpg) (y : Terms). HasDiagnosed x y lines d) (sym has.reports.graph_is) (sym has.reports.terms_is) has
