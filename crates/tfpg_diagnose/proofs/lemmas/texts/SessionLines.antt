-- A session, one line after another.
use Rattle.std.proofs.Common.{◌≡◌, ℕ, ◌+◌, ◌-◌, ◌<◌, List, [], ◌∷◌, ◌++◌, length, Some, None, IfSome, refl, sym, ap, subst, ◌∙◌, arith}
use Rattle.std.specs.Option.{option_map_or}
use Rattle.std.proofs.lemmas.List.{append-nil, length_push}
use Rattle.std.proofs.lemmas.List.Sums.{fold_push}
use Rattle.std.proofs.lemmas.List.Concat.{flat_map-append}
use Rattle.tfpg_base.specs.declared.terms.Terms.{Terms}
use Rattle.tfpg_base.specs.declared.limits.TheConstants.{MAX_LINE_NUMBER}
use Rattle.tfpg_graph.specs.Graph.{Tfpg, sizes_of}
use Rattle.tfpg_graph.specs.Valid.{IsValid}
use Rattle.tfpg_evidence.specs.RoundOf.{IsRoundOf}
use Rattle.tfpg_evidence.specs.declared.round.Round.{Round}
use Rattle.tfpg_engine.specs.EngineState.{EngineState, calls_of_engine}
use Rattle.tfpg_log.specs.declared.refused_line.RefusedLine.{RefusedLine}
use Rattle.tfpg_report.specs.Blocks.{Block, block_text, head_text, refused_text, round_text}
use Rattle.tfpg_check.specs.Report.{HasReports, Progress, progress_of}
use Rattle.tfpg_check.proofs.lemmas.Progressing.{progress_of-push}
use Rattle.tfpg_report.proofs.lemmas.WrittenLines.{written_alone, written_refusal}
use Rattle.tfpg_diagnose.specs.TellsPanels.{losses_in}
use Rattle.tfpg_diagnose.specs.EngineReports.{EngineReports}
use Rattle.tfpg_diagnose.specs.declared.line_blocks.Brought.{Brought}
use Rattle.tfpg_diagnose.specs.declared.line_blocks.Brought.TheVariants as brought
use Rattle.tfpg_diagnose.specs.inside.LineBlocks.{EngineTurn, HasBlock, IsBrought, IsEngineReady, NumberedLine, block_brought, engine_turn, numbered}
use Rattle.tfpg_diagnose.specs.inside.texts.Opened.{IsNewEngineOf}
use Rattle.tfpg_diagnose.specs.inside.texts.SessionKeeps.{HasPlainBlock}
use Rattle.tfpg_diagnose.specs.declared.texts.latest.Latest.{Latest}
use Rattle.tfpg_diagnose.specs.texts.Latest.{latest_after, latest_block, latest_with_block, nothing_yet, round_in, text_of_latest}
use Rattle.tfpg_diagnose.specs.texts.Sessions.{CountsBlock, IsNewSession, SessionRepresents, SessionState, latest_text, lines_before}
use Rattle.tfpg_diagnose.proofs.lemmas.NextBlocks.{AreBlocks-none, AreBlocks-push, RoundsSay-none, RoundsSay-push, report_text-push}

-- a session of a new engine has the first line as its text
pub new_session : (graph_text : List ℕ) (terms : Terms) (engine : EngineState) → IsNewEngineOf graph_text terms engine → (latest : Latest) → latest ≡ nothing_yet
    → IsNewSession graph_text terms (record { engine = engine; next = Some 1; latest = latest })
new_session graph_text terms engine new latest nothing = record {
  graph = engine.graph;
  gives = new.gives;
  represents = record {
    report = record {
      blocks = [];
      report = record {
        has_reports = subst (HasReports engine.graph) new.terms_is new.has_reports;
        few_lines = omega arith;
        are_blocks = AreBlocks-none engine.graph terms;
        text = sym (append-nil (head_text terms));
      };
      say = RoundsSay-none engine.graph terms;
      no_losses = refl;
    };
    next_is = refl;
    graph_is = refl;
    terms_is = new.terms_is;
    log_is = new.log_is;
    represents = new.represents;
    latest_is = nothing;
  };
  text_is = ap (text_of_latest engine.graph engine.terms 0) nothing ∙ ap head_text new.terms_is;
  no_calls = new.uncounted;
}

-- ---- what came last

-- no panel is lost at the block of what a line brought
no_panel_lost : (number : ℕ) (what : Brought) → losses_in (block_brought number what) ≡ []
no_panel_lost number (brought.Refused cause) = refl
no_panel_lost number (brought.Round round) = refl

-- its text is the text of what came last, once it is noted
pub text_noted : (graph : Tfpg) (terms : Terms) (number next : ℕ) → next ≡ number + 1 → (what : Brought) (old latest : Latest) → latest ≡ latest_with_block old (block_brought number what)
    → text_of_latest graph terms (lines_before (Some next)) latest ≡ block_text graph (block_brought number what)
text_noted graph terms number next next_is what old latest noted =
    let number_is : next - 1 ≡ number = omega (arith, next_is) in
    (λ i. text_of_latest graph terms (number_is i) (noted i)) ∙ by what
  where
    by : (what : Brought) → text_of_latest graph terms number (latest_with_block old (block_brought number what)) ≡ block_text graph (block_brought number what)
    by (brought.Refused cause) = refl
    by (brought.Round round) = refl

-- the last round is of the graph, once it is noted
pub round_noted : (graph : Tfpg) (number : ℕ) (what : Brought) (old latest : Latest) → latest ≡ latest_with_block old (block_brought number what)
    → IfSome old.round (IsRoundOf (sizes_of graph)) → IfSome (round_in (block_brought number what)) (IsRoundOf (sizes_of graph)) → IfSome latest.round (IsRoundOf (sizes_of graph))
round_noted graph number what old latest noted before own =
    subst (λ (l : Latest). IfSome l.round (IsRoundOf (sizes_of graph))) (sym noted) (by what own)
  where
    by : (what : Brought) → IfSome (round_in (block_brought number what)) (IsRoundOf (sizes_of graph)) → IfSome (latest_with_block old (block_brought number what)).round (IsRoundOf (sizes_of graph))
    by (brought.Refused cause) own = before
    by (brought.Round round) own = own

-- the text of what came last, by what it is
module _ (graph : Tfpg) (terms : Terms) (number : ℕ) (latest : Latest) where
  pub text_of_refusal : (cause : RefusedLine) → latest.refusal ≡ Some cause → text_of_latest graph terms number latest ≡ refused_text number cause
  text_of_refusal cause is = (λ i. option_map_or (block_text graph) (latest_block number (is i) latest.round) (head_text terms)) ∙ written_refusal graph number cause

  pub text_of_round : (round : Round) → latest.refusal ≡ None → latest.round ≡ Some round → text_of_latest graph terms number latest ≡ round_text graph round
  text_of_round round none is = (λ i. option_map_or (block_text graph) (latest_block number (none i) (is i)) (head_text terms)) ∙ written_alone graph round

  pub text_of_nothing : latest.refusal ≡ None → latest.round ≡ None → text_of_latest graph terms number latest ≡ head_text terms
  text_of_nothing none is = λ i. option_map_or (block_text graph) (latest_block number (none i) (is i)) (head_text terms)

-- ---- one line more

module _ (graph : Tfpg) (terms : Terms) (lines : List (List ℕ)) (bytes : List ℕ) (old : SessionState) (so_far : SessionRepresents graph terms lines bytes old) where
  abbrev Blocks : List Block
  Blocks = so_far.report.blocks

  -- what its engine reports
  pub reports_so_far : EngineReports graph terms old.engine (progress_of graph lines Blocks)
  reports_so_far = record { graph_is = so_far.graph_is; terms_is = so_far.terms_is; log_is = so_far.log_is; represents = so_far.represents }

  module _ (number : ℕ) (at : old.next ≡ Some number) (few : number < MAX_LINE_NUMBER) (line : List ℕ) (what : Brought) (engine : EngineState)
      (is : HasPlainBlock graph terms (progress_of graph lines Blocks) (numbered number line) what engine) where
    number_is : number ≡ 1 + length lines
    number_is = let same : Some number ≡ Some (length lines + 1) = sym at ∙ so_far.next_is in let e : number ≡ length lines + 1 = cc in omega (arith, e)

    -- what came last, after this block
    latest_now : (latest : Latest) → latest ≡ latest_with_block old.latest (block_brought number what) → latest ≡ latest_after (Blocks ++ is.has.block ∷ [])
    latest_now latest noted =
        noted ∙ (λ i. latest_with_block (so_far.latest_is i) (sym is.block_is i)) ∙ sym (fold_push latest_with_block nothing_yet Blocks is.has.block)

    pub session_with_line : (next : ℕ) → next ≡ number + 1 → (latest : Latest) → latest ≡ latest_with_block old.latest (block_brought number what)
        → (now : SessionState) → now ≡ record { engine = engine; next = Some next; latest = latest }
        → SessionRepresents graph terms (lines ++ line ∷ []) (bytes ++ latest_text now) now
    session_with_line next next_is latest noted now now_is =
        let step = progress_of-push graph lines Blocks line is.has.block in
        let reports = subst (EngineReports graph terms engine) (sym step) is.has.reports in
        let so_far_is = so_far.report.report in
        let text_is : text_of_latest engine.graph engine.terms (lines_before (Some next)) latest ≡ block_text graph is.has.block =
        text_noted engine.graph engine.terms number next next_is what old.latest latest noted
        ∙ (λ i. block_text (reports.graph_is i) (sym is.block_is i)) in
        subst (λ (s : SessionState). SessionRepresents graph terms (lines ++ line ∷ []) (bytes ++ latest_text s) s) (sym now_is) (record {
          report = record {
            blocks = Blocks ++ is.has.block ∷ [];
            report = record {
              has_reports = so_far_is.has_reports;
              few_lines = omega (arith, number_is, few, length_push lines line);
              are_blocks = AreBlocks-push graph terms lines Blocks line is.has.block number so_far_is.are_blocks number_is is.has.is_block;
              text = (λ i. so_far_is.text i ++ text_is i) ∙ report_text-push graph terms Blocks is.has.block;
            };
            say = RoundsSay-push graph terms lines Blocks line is.has.block so_far_is.are_blocks.one_each so_far.report.say is.has.says;
            no_losses = flat_map-append losses_in Blocks (is.has.block ∷ [])
                ∙ (λ i. so_far.report.no_losses i ++ (append-nil (losses_in is.has.block) ∙ ap losses_in is.block_is ∙ no_panel_lost number what) i);
          };
          next_is = ap Some (omega (arith, next_is, number_is, length_push lines line));
          graph_is = reports.graph_is;
          terms_is = reports.terms_is;
          log_is = reports.log_is;
          represents = reports.represents;
          latest_is = latest_now latest noted;
        })

-- ---- what a line brought

-- its block
pub plain_block : (graph : Tfpg) (terms : Terms) (before : Progress) (line : NumberedLine) (what : Brought) (turn : EngineTurn) → IsBrought graph terms before line what turn
    → HasPlainBlock graph terms before line what turn.new
plain_block graph terms before line what turn is = record { has = is.brings.0; block_is = is.block_is }

module _ (old : EngineState) (ready : IsEngineReady old) where
  -- what a ready engine has come to
  abbrev pub own_progress : Progress
  own_progress = record { rounds = ready.rounds; log = old.log }

  pub own_reports : EngineReports old.graph old.terms old own_progress
  own_reports = record { graph_is = refl; terms_is = refl; log_is = refl; represents = ready.represents }

-- with the block it is ready again
pub ready_after : (old new : EngineState) (ready : IsEngineReady old) (number : ℕ) (line bytes : List ℕ) → HasBlock old.graph old.terms (own_progress old ready) (numbered number line) bytes new → IsEngineReady new
ready_after old new ready number line bytes has =
    record { valid = subst IsValid (sym has.reports.graph_is) ready.valid; rounds = _; represents = has.reports.represents }

-- ---- how many calls it takes

-- it keeps within the limit of its block
pub brought_counts : (old new : EngineState) (rounds : List Round) (number : ℕ) (line : List ℕ) (what : Brought) (start finish : ℕ)
    → IsBrought old.graph old.terms (record { rounds = rounds; log = old.log }) (numbered number line) what (engine_turn old new start finish)
    → CountsBlock old rounds line (block_text old.graph (block_brought number what)) start finish
brought_counts old new rounds number line what start finish is =
    let within = is.brings.2 in
    record {
      number = number;
      block = is.brings.0.block;
      is_block = is.brings.0.is_block;
      text = is.brings.0.text;
      limit = within.0;
      is_limit = within.1;
      within = within.2;
    }

-- what the counter counts, the systems of the engine count
pub counted_by_systems : (old new : EngineState) (rounds : List Round) (line bytes : List ℕ) (start finish : ℕ) → calls_of_engine new + start ≡ calls_of_engine old + finish
    → CountsBlock old rounds line bytes start finish → CountsBlock old rounds line bytes (calls_of_engine old) (calls_of_engine new)
counted_by_systems old new rounds line bytes start finish counted counts =
    let within = counts.within in
    record {
      number = counts.number;
      block = counts.block;
      is_block = counts.is_block;
      text = counts.text;
      limit = counts.limit;
      is_limit = counts.is_limit;
      within = omega (arith, counted, within);
    }
