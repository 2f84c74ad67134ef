-- The block of a line, from what the engine gives for it.
use Rattle.std.proofs.Common.{◌≡◌, ℕ, ◌<◌, ◌≤◌, true, false, List, [], ◌∷◌, ◌++◌, length, Option, Some, None, Ok, Err, refl, sym, ap, ap₂, subst, subst₂, ◌∙◌, arith}
use Rattle.std.proofs.lemmas.Bool.{le-ltb, lt-ltb}
use Rattle.std.proofs.lemmas.List.{append-nil, length-append}
use Rattle.tfpg_base.specs.declared.terms.Terms.{Terms}
use Rattle.tfpg_graph.specs.Graph.{Tfpg, sizes_of}
use Rattle.tfpg_graph.specs.Valid.{IsValid}
use Rattle.tfpg_log.specs.declared.event.Offered.{Offered}
use Rattle.tfpg_log.specs.declared.event.Offered.TheVariants.{Accepted, Refused}
use Rattle.tfpg_log.specs.declared.refusal.Refusal.{Refusal}
use Rattle.tfpg_log.specs.Log.{Logbook, with_event, IsLogOf, IsOrdered}
use Rattle.tfpg_log.specs.Accepted.{reply_to}
use Rattle.tfpg_log.specs.LogOfLines.{log_after_reply, log_after}
use Rattle.tfpg_base.specs.Lines.{is_too_long}
use Rattle.tfpg_base.specs.declared.limits.TheConstants.{LONGEST_LINE}
use Rattle.tfpg_evidence.specs.declared.round.Round.{Round}
use Rattle.tfpg_evidence.specs.RoundOf.{IsRoundOf}
use Rattle.tfpg_hyp.specs.Rounds.{IsRound, HasNoneOpen}
use Rattle.tfpg_hyp.specs.Fitting.{SayWhichSetsFit, AreStatusesOfMinimalSets}
use Rattle.tfpg_engine.specs.EngineState.{EngineState, GivesRound, Brings, CountsCalls}
use Rattle.tfpg_engine.specs.Work.{IsRoundLimit, IsRoundWithin}
use Rattle.tfpg_engine.specs.declared.told.Told.{Told}
use Rattle.tfpg_engine.specs.declared.told.Told.TheVariants as told
use Rattle.tfpg_log.specs.declared.refused_line.RefusedLine.TheVariants.{TooLong, Offer}
use Rattle.tfpg_report.specs.Blocks.{RefusedBlock, RoundBlock, block_text, refused_text, round_text}
use Rattle.tfpg_report.proofs.lemmas.WrittenLines.{written_alone, written_refusal}
use Rattle.tfpg_check.specs.Report.{Progress, IsBlockOf, event_of_line, event_of_reply}
use Rattle.tfpg_check.proofs.lemmas.Progressing.{progress_with}
use Rattle.tfpg_diagnose.specs.RightReport.{RoundSays}
use Rattle.tfpg_diagnose.specs.EngineReports.{EngineReports}
use Rattle.tfpg_diagnose.specs.declared.line_blocks.Brought.{Brought}
use Rattle.tfpg_diagnose.specs.declared.line_blocks.Brought.TheVariants as brought
use Rattle.tfpg_diagnose.specs.inside.LineBlocks.{BringsBlock, EngineTurn, HasBlock, IsBrought, block_brought, engine_turn, numbered}
use Rattle.tfpg_diagnose.specs.texts.Latest.{round_in}

-- what a line gives that is not too long
pub short_line : (graph : Tfpg) (log : Logbook) (line : List ℕ) (reply : Offered) → length line ≤ LONGEST_LINE → reply_to graph log line ≡ reply → event_of_line graph log line ≡ event_of_reply reply
short_line graph log line reply le e = let short : is_too_long line ≡ false = le-ltb _ _ le in rw (short, e) refl

pub short_log : (graph : Tfpg) (log : Logbook) (line : List ℕ) → length line ≤ LONGEST_LINE → log_after graph log line ≡ log_after_reply log (reply_to graph log line)
short_log graph log line le = let short : is_too_long line ≡ false = le-ltb _ _ le in rw short refl

-- ---- from what is said of the engine to what is said of the report

-- what holds of an engine's graph, numbers and log holds of those of the report
pub along : (P : Tfpg → Terms → Logbook → Type 0) (g graph : Tfpg) (other terms : Terms) (l log : Logbook) → g ≡ graph → other ≡ terms → l ≡ log → P g other l → P graph terms log
along P g graph other terms l log e f i holds =
    subst (P graph terms) i (subst₂ (λ (x : Tfpg) (y : Terms). P x y l) e f holds)

-- ---- what an event brought

module _ (number : ℕ) (line : List ℕ) (rounds : List Round) where
  -- a refusal
  pub brings_refusal : (refusal : Refusal) (old new : EngineState) (t : Told) → t ≡ told.Refused refusal → Brings number line rounds old new (Ok t)
      → (reply_to old.graph old.log line ≡ Refused refusal) × (new ≡ old)
  brings_refusal refusal old new t e brings = subst (λ (x : Told). Brings number line rounds old new (Ok x)) e brings

  -- a round
  pub brings_round : (round : Round) (old new : EngineState) (t : Told) → t ≡ told.Round round → Brings number line rounds old new (Ok t) → GivesRound number line rounds round old new
  brings_round round old new t e brings = subst (λ (x : Told). Brings number line rounds old new (Ok x)) e brings

-- ---- what a round says

-- the laws on rounds
abbrev pub NamesOfRounds : Type 0
NamesOfRounds = (graph : Tfpg) (terms : Terms) (line : ℕ) (rounds : List Round) (log : Logbook) (round : Round) → IsLogOf graph log → IsRound graph terms rounds log line round → IsRoundOf (sizes_of graph) round

abbrev pub FitsOfRounds : Type 0
FitsOfRounds = (graph : Tfpg) (terms : Terms) (line : ℕ) (rounds : List Round) (log : Logbook) (round : Round) → IsValid graph → IsLogOf graph log → IsOrdered log → IsRound graph terms rounds log line round
    → SayWhichSetsFit graph log terms round.findings

abbrev pub MinimalOfRounds : Type 0
MinimalOfRounds = (graph : Tfpg) (terms : Terms) (line : ℕ) (rounds : List Round) (log : Logbook) (round : Round) → IsValid graph → IsLogOf graph log → IsOrdered log → IsRound graph terms rounds log line round
    → HasNoneOpen round → AreStatusesOfMinimalSets graph log terms round.findings

module _ (number : ℕ) (line : List ℕ) (rounds : List Round) (round : Round) (old new : EngineState) (gives : GivesRound number line rounds round old new) (same_graph : new.graph ≡ old.graph)
    (log : Logbook) (log_is : log ≡ new.log) (of : IsLogOf new.graph log) where
  -- the log is of the graph
  is_of : IsLogOf old.graph new.log
  is_of = subst₂ IsLogOf same_graph log_is of

  -- the round names only what the graph has
  pub round_is_of_graph : (lent : Tfpg) → lent ≡ new.graph → NamesOfRounds → IsRoundOf (sizes_of lent) round
  round_is_of_graph lent lent_is law =
      subst (λ (g : Tfpg). IsRoundOf (sizes_of g) round) (sym (lent_is ∙ same_graph))
      (law old.graph old.terms number rounds new.log round is_of gives.round_is)

  -- it says which sets fit, and whether a set is open
  pub round_says : IsValid old.graph → IsOrdered log → FitsOfRounds → MinimalOfRounds → RoundSays old.graph old.terms rounds new.log round
  round_says valid ordered fit minimal =
      let in_order : IsOrdered new.log = subst IsOrdered log_is ordered in
      record {
        earned = gives.earned;
        fitting = fit old.graph old.terms number rounds new.log round valid is_of in_order gives.round_is;
        minimal = minimal old.graph old.terms number rounds new.log round valid is_of in_order gives.round_is;
        none_open = gives.none_open;
      }

-- ---- the blocks

module _ (graph : Tfpg) (terms : Terms) (before : Progress) (number : ℕ) (line bytes : List ℕ) where
  -- the block of a line that is too long
  abbrev pub block_of_long_line : (engine : EngineState) → LONGEST_LINE < length line → EngineReports graph terms engine before → bytes ≡ refused_text number TooLong
      → HasBlock graph terms before (numbered number line) bytes engine
  block_of_long_line engine lt reports text =
      let long : is_too_long line ≡ true = lt-ltb _ _ lt in
      let block = RefusedBlock number TooLong in
      let none : event_of_line graph before.log line ≡ Err TooLong = rw long refl in
      let log_same : log_after graph before.log line ≡ before.log = rw long refl in
      record {
        block = block;
        is_block = subst (IsBlockOf graph terms before number block) (sym none) refl;
        says = tt;
        text = text ∙ sym (written_refusal graph number TooLong);
        reports = subst (EngineReports graph terms engine) (sym (ap₂ progress_with (append-nil before.rounds) log_same)) reports;
      }

  module _ (old new : EngineState) (short : length line ≤ LONGEST_LINE) (reports : EngineReports graph terms old before) where
    -- the block of a line that the log refused
    abbrev pub block_of_refusal : (refusal : Refusal) → reply_to old.graph old.log line ≡ Refused refusal → new ≡ old → bytes ≡ refused_text number (Offer refusal)
        → HasBlock graph terms before (numbered number line) bytes new
    block_of_refusal refusal refuses same text =
        let refused : reply_to graph before.log line ≡ Refused refusal =
        subst₂ (λ (g : Tfpg) (l : Logbook). reply_to g l line ≡ Refused refusal) reports.graph_is reports.log_is refuses in
        let block = RefusedBlock number (Offer refusal) in
        record {
          block = block;
          is_block = subst (IsBlockOf graph terms before number block) (sym (short_line graph before.log line (Refused refusal) short refused)) refl;
          says = tt;
          text = text ∙ sym (written_refusal graph number (Offer refusal));
          reports = subst (λ (e : EngineState). EngineReports graph terms e (progress_with (before.rounds ++ []) (log_after graph before.log line))) (sym same)
              (subst (EngineReports graph terms old) (sym (ap₂ progress_with (append-nil before.rounds)
              (short_log graph before.log line short ∙ ap (log_after_reply before.log) refused))) reports);
        }

    -- the block of a round
    abbrev pub block_of_round : (round : Round) → GivesRound number line before.rounds round old new → RoundSays old.graph old.terms before.rounds new.log round
        → new.graph ≡ old.graph → new.terms ≡ old.terms → bytes ≡ round_text new.graph round
        → HasBlock graph terms before (numbered number line) bytes new
    block_of_round round gives says same_graph same_terms text =
        let event = gives.event in
        let accepted : reply_to graph before.log line ≡ Accepted event =
        subst₂ (λ (g : Tfpg) (l : Logbook). reply_to g l line ≡ Accepted event) reports.graph_is reports.log_is gives.accepted in
        let log_is : new.log ≡ with_event before.log event = gives.log ∙ ap (λ (l : Logbook). with_event l event) reports.log_is in
        let after_is : log_after graph before.log line ≡ with_event before.log event = short_log graph before.log line short ∙ ap (log_after_reply before.log) accepted in
        let block = RoundBlock round [] in
        let is_round : IsRound graph terms before.rounds (with_event before.log event) number round =
        along (λ (g : Tfpg) (x : Terms) (l : Logbook). IsRound g x before.rounds l number round) old.graph graph old.terms terms new.log (with_event before.log event)
        reports.graph_is reports.terms_is log_is gives.round_is in
        record {
          block = block;
          is_block = subst (IsBlockOf graph terms before number block) (sym (short_line graph before.log line (Accepted event) short accepted))
              (round, [], refl, is_round, record { numbers = λ k d within. absurd (omega arith); rising = λ i j d lt below. absurd (omega arith) });
          says = along (λ (g : Tfpg) (x : Terms) (l : Logbook). RoundSays g x before.rounds l round) old.graph graph old.terms terms new.log (log_after graph before.log line)
              reports.graph_is reports.terms_is (log_is ∙ sym after_is) says;
          text = text ∙ ap (λ (g : Tfpg). round_text g round) (same_graph ∙ reports.graph_is) ∙ sym (written_alone graph round);
          reports = record {
            graph_is = same_graph ∙ reports.graph_is;
            terms_is = same_terms ∙ reports.terms_is;
            log_is = log_is ∙ sym after_is;
            represents = gives.represents;
          };
        }

    -- the same, with the calls that they took
    pub refused_within : (refusal : Refusal) (refuses : reply_to old.graph old.log line ≡ Refused refusal) (same : new ≡ old) (text : bytes ≡ refused_text number (Offer refusal)) (start finish : ℕ) → finish ≡ start
        → BringsBlock graph terms before (numbered number line) bytes None (engine_turn old new start finish)
    refused_within refusal refuses same text start finish none =
        (block_of_refusal refusal refuses same text, (refl, refl, ap (λ (engine : EngineState). engine.log) same), (0, refl, omega (arith, none)))

    pub round_within : (round : Round) (gives : GivesRound number line before.rounds round old new) (says : RoundSays old.graph old.terms before.rounds new.log round)
        (same_graph : new.graph ≡ old.graph) (same_terms : new.terms ≡ old.terms) (text : bytes ≡ round_text new.graph round) (start finish : ℕ) → IsRoundWithin new.graph new.log before.rounds round start finish
        → BringsBlock graph terms before (numbered number line) bytes (Some round) (engine_turn old new start finish)
    round_within round gives says same_graph same_terms text start finish within =
        let event = gives.event in
        let accepted : reply_to graph before.log line ≡ Accepted event =
        subst₂ (λ (g : Tfpg) (l : Logbook). reply_to g l line ≡ Accepted event) reports.graph_is reports.log_is gives.accepted in
        let log_is : new.log ≡ with_event before.log event = gives.log ∙ ap (λ (l : Logbook). with_event l event) reports.log_is in
        let after_is : log_after graph before.log line ≡ with_event before.log event = short_log graph before.log line short ∙ ap (log_after_reply before.log) accepted in (
          block_of_round round gives says same_graph same_terms text,
          (
            refl,
            omega (arith, gives.round_is.number, ap (λ (l : Logbook). length l.events) gives.log, length-append old.log.events (event ∷ [])),
            gives.round_is.number,
          ),
          (within.0, subst₂ (λ (g : Tfpg) (l : Logbook). IsRoundLimit g l before.rounds round within.0) (same_graph ∙ reports.graph_is) (log_is ∙ sym after_is) within.1, within.2),
        )

-- ---- what a line brought

module _ (graph : Tfpg) (terms : Terms) (before : Progress) (number : ℕ) (line : List ℕ) where
  -- a line that is too long
  pub long_brought : (engine : EngineState) → LONGEST_LINE < length line → EngineReports graph terms engine before → (count : ℕ)
      → IsBrought graph terms before (numbered number line) (brought.Refused TooLong) (engine_turn engine engine count count)
  long_brought engine long reports count = record {
    brings = (block_of_long_line graph terms before number line _ engine long reports (written_refusal graph number TooLong), (refl, refl, refl), (0, refl, omega arith));
    block_is = refl;
  }

  module _ (old new : EngineState) (short : length line ≤ LONGEST_LINE) (reports : EngineReports graph terms old before) (start finish : ℕ) where
    -- one that the log refused
    pub refusal_brought : (refusal : Refusal) → reply_to old.graph old.log line ≡ Refused refusal → new ≡ old → finish ≡ start
        → IsBrought graph terms before (numbered number line) (brought.Refused (Offer refusal)) (engine_turn old new start finish)
    unfolding refused_within
    refusal_brought refusal refuses same none = record {
      brings = refused_within graph terms before number line _ old new short reports refusal refuses same (written_refusal graph number (Offer refusal)) start finish none;
      block_is = refl;
    }

    -- one with a round
    pub round_brought : (round : Round) → GivesRound number line before.rounds round old new → RoundSays old.graph old.terms before.rounds new.log round
        → new.graph ≡ old.graph → new.terms ≡ old.terms → IsRoundWithin new.graph new.log before.rounds round start finish
        → IsBrought graph terms before (numbered number line) (brought.Round round) (engine_turn old new start finish)
    unfolding round_within
    round_brought round gives says same_graph same_terms within = record {
      brings = round_within graph terms before number line _ old new short reports round gives says same_graph same_terms
          (written_alone graph round ∙ ap (λ (g : Tfpg). round_text g round) (sym (same_graph ∙ reports.graph_is))) start finish within;
      block_is = refl;
    }

  -- its block, once it is made
  pub block_made : (what : Brought) (turn : EngineTurn) (bytes : List ℕ) (round : Option Round) → IsBrought graph terms before (numbered number line) what turn
      → bytes ≡ block_text graph (block_brought number what) → round ≡ round_in (block_brought number what) → BringsBlock graph terms before (numbered number line) bytes round turn
  block_made what turn bytes round is text same =
      subst₂ (λ (b : List ℕ) (r : Option Round). BringsBlock graph terms before (numbered number line) b r turn) (sym text) (sym same) is.brings

-- ---- the calls of an event

pub counts_refusal : (engine : EngineState) (rounds : List Round) (refusal : Refusal) (t : Told) (start end : ℕ) → t ≡ told.Refused refusal → CountsCalls engine rounds (Ok t) start end → end ≡ start
counts_refusal engine rounds refusal t start end e counts = subst (λ (x : Told). CountsCalls engine rounds (Ok x) start end) e counts

pub counts_round : (engine : EngineState) (rounds : List Round) (round : Round) (t : Told) (start end : ℕ) → t ≡ told.Round round → CountsCalls engine rounds (Ok t) start end
    → IsRoundWithin engine.graph engine.log rounds round start end
counts_round engine rounds round t start end e counts = subst (λ (x : Told). CountsCalls engine rounds (Ok x) start end) e counts
