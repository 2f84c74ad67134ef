-- The lines of a block, as they are written, may come in their order.
use Rattle.std.proofs.Common.{◌≡◌, ℕ, suc, ◌<◌, eqb, cond, List, [], ◌∷◌, ◌++◌, length, map, All, Bool, true, Option, Some, None, refl, sym, ap, subst, ◌∙◌, ⊎_elim, arith}
use Rattle.std.specs.Prelude.{flat_map, fold, option_and_then, option_map, unwrap_or, filter_map}
use Rattle.std.specs.Bool.{then_some}
use Rattle.std.proofs.lemmas.Bool.{cond-false, lt-ltb, ne_eqb}
use Rattle.std.proofs.lemmas.List.Elements.{All-head, All-tail, All-weaker}
use Rattle.std.proofs.lemmas.List.Sums.{fold-append}
use Rattle.tfpg_base.specs.Trace.{IsRisingByNode}
use Rattle.tfpg_base.specs.declared.terms.Terms.{Terms}
use Rattle.tfpg_base.specs.declared.activation.Activation.{Activation}
use Rattle.tfpg_base.proofs.lemmas.lists.Elements.{AllPairs-head, AllPairs-tail}
use Rattle.tfpg_base.proofs.lemmas.lists.LookedUp.{flat_map-filter_map}
use Rattle.tfpg_evidence.specs.declared.reason.Reason.{Reason}
use Rattle.tfpg_evidence.specs.declared.step.Step.{Step}
use Rattle.tfpg_evidence.specs.declared.step.Step.TheVariants as step
use Rattle.tfpg_evidence.specs.declared.finding.Status.{Status}
use Rattle.tfpg_evidence.specs.declared.finding.Status.TheVariants as status
use Rattle.tfpg_evidence.specs.declared.finding.Finding.{Finding}
use Rattle.tfpg_evidence.specs.declared.round.Round.{Round as RoundOf}
use Rattle.tfpg_evidence.specs.RoundOf.{finding_numbered}
use Rattle.tfpg_evidence.specs.Findings.{ranked_in_order, open_in, newly_rejected, hypothesis_of}
use Rattle.tfpg_report.specs.declared.stand.Stand.{Stand}
use Rattle.tfpg_report.specs.declared.stand.Stand.TheVariants as stand
use Rattle.tfpg_report.specs.declared.report_line.ReportLine.{ReportLine}
use Rattle.tfpg_report.specs.declared.report_line.ReportLine.TheVariants.{Round, Hyp, Cycle, Why, Ranked, At, Counts}
use Rattle.tfpg_report.specs.Stands.{may_begin_block, may_begin_steps, may_step, may_rank, may_open, may_reject, after_reasons, is_later, stand_after, stand_after_all}
use Rattle.tfpg_report.specs.ReadRounds.{step_lines}
use Rattle.tfpg_report.specs.Blocks.{lines_of_finding, lines_if_ranked, round_lines, Loss, Block, RefusedBlock, RoundBlock, block_lines}
use Rattle.tfpg_report.specs.inside.LineNames.{open_line, rejected_line, loss_line}
use Rattle.tfpg_report.specs.Reading.{IsHead}
use Rattle.tfpg_report.specs.InOrder.{HasRisingTrace, HasRisingTraces, RiseByPanel, IsInOrder}
use Rattle.tfpg_evidence.proofs.lemmas.FindingsByNumber.{finding_numbered-all}
use Rattle.tfpg_report.proofs.lemmas.block_reader.Turns.{steps_or_rank, rank_or_open, open_or_reject}

-- ---- lines in a row

-- one line more of those that may each come
abbrev stepped : Option Stand → ReportLine → Option Stand
stepped reached line = option_and_then (λ (at : Stand). stand_after at line) reached

-- one line, and then others
pub leads_cons : (from middle : Stand) (line : ReportLine) (lines : List ReportLine) (to : Option Stand) → stand_after from line ≡ Some middle → stand_after_all middle lines ≡ to → stand_after_all from (line ∷ lines) ≡ to
leads_cons from middle line lines to first rest = ap (λ (reached : Option Stand). fold stepped reached lines) first ∙ rest

-- some lines, and then others
pub leads_append : (from middle : Stand) (front back : List ReportLine) (to : Option Stand) → stand_after_all from front ≡ Some middle → stand_after_all middle back ≡ to → stand_after_all from (front ++ back) ≡ to
leads_append from middle front back to first rest =
    fold-append stepped (Some from) front back ∙ ap (λ (reached : Option Stand). fold stepped reached back) first ∙ rest

-- The lines may come, and lead to a stand of this kind.
pub record Arrives (IsThere : Stand → Type 0) (from : Stand) (lines : List ReportLine) : Type 0 where
  pub to : Stand
  pub leads : stand_after_all from lines ≡ Some to
  pub there : IsThere to

-- nothing more
stays : (IsThere : Stand → Type 0) (from : Stand) → IsThere from → Arrives IsThere from []
stays IsThere from there = record { to = from; leads = refl; there = there }

-- lines, and then others
pub arrives_append : (Here There : Stand → Type 0) (from : Stand) (front back : List ReportLine) → Arrives Here from front → ((middle : Stand) → Here middle → Arrives There middle back) → Arrives There from (front ++ back)
arrives_append Here There from front back first then =
    let rest : Arrives There first.to back = then first.to first.there in
    record { to = rest.to; leads = leads_append from first.to front back (Some rest.to) first.leads rest.leads; there = rest.there }

-- one line, and then others
arrives_cons : (There : Stand → Type 0) (from middle : Stand) (line : ReportLine) (lines : List ReportLine) → stand_after from line ≡ Some middle → Arrives There middle lines → Arrives There from (line ∷ lines)
arrives_cons There from middle line lines first rest =
    record { to = rest.to; leads = leads_cons from middle line lines (Some rest.to) first rest.leads; there = rest.there }

-- a section: what holds before the lines of each item holds after them
section : {X : Type 0} (Keeps : Stand → Type 0) (shown : X → List ReportLine) → ((x : X) (from : Stand) → Keeps from → Arrives Keeps from (shown x)) → (xs : List X) (from : Stand) → Keeps from → Arrives Keeps from (flat_map shown xs)
section Keeps shown each [] from here = stays Keeps from here
section Keeps shown each (x ∷ xs) from here =
    arrives_append Keeps Keeps from (shown x) (flat_map shown xs) (each x from here) (λ middle there. section Keeps shown each xs middle there)

-- the same of a line for each item
section_of_lines : {X : Type 0} (Keeps : Stand → Type 0) (shown : X → ReportLine) (there : Stand) → Keeps there → ((x : X) (from : Stand) → Keeps from → stand_after from (shown x) ≡ Some there) → (xs : List X) (from : Stand) → Keeps from → Arrives Keeps from (map shown xs)
section_of_lines Keeps shown there keeps each [] from here = stays Keeps from here
section_of_lines Keeps shown there keeps each (x ∷ xs) from here =
    arrives_cons Keeps from there (shown x) (map shown xs) (each x from here) (section_of_lines Keeps shown there keeps each xs there keeps)

-- a stand that a test lets be
pub let_be : (test : Bool) (there : Stand) → test ≡ true → then_some test there ≡ Some there
let_be test there may = ap (λ (t : Bool). then_some t there) may

-- ---- steps

-- the reasons of a cycle
whys_lead : (reasons : List Reason) → stand_after_all (after_reasons (length reasons)) (map Why reasons) ≡ Some stand.Step
whys_lead [] = refl
whys_lead (reason ∷ reasons) =
    leads_cons (after_reasons (suc (length reasons))) (after_reasons (length reasons)) (Why reason) (map Why reasons) (Some stand.Step)
    (ap (λ (n : ℕ). Some (after_reasons n)) (omega arith)) (whys_lead reasons)

-- the lines of a step
step_leads : (step : Step) (from : Stand) → may_step from ≡ true → stand_after_all from (step_lines step) ≡ Some stand.Step
step_leads (step.Split name) from may = let_be (may_step from) stand.Step may
step_leads (step.Cycle reasons) from may =
    leads_cons from (after_reasons (length reasons)) (Cycle (length reasons)) (map Why reasons) (Some stand.Step)
    (let_be (may_step from) (after_reasons (length reasons)) may) (whys_lead reasons)
step_leads step.Again from may = let_be (may_step from) stand.Step may

-- the lines of steps, of which there is one
steps_arrive : (step : Step) (others : List Step) (from : Stand) → may_step from ≡ true → Arrives (λ s. s ≡ stand.Step) from (flat_map step_lines (step ∷ others))
steps_arrive step others from may =
    arrives_append (λ s. s ≡ stand.Step) (λ s. s ≡ stand.Step) from (step_lines step) (flat_map step_lines others)
    (record { to = stand.Step; leads = step_leads step from may; there = refl })
    (section (λ s. s ≡ stand.Step) step_lines (λ one s at_step. record { to = stand.Step; leads = step_leads one s (ap may_step at_step); there = refl }) others)

-- the lines of a finding
finding_arrives : (finding : Finding) (from : Stand) → may_begin_steps from ≡ true → Arrives (λ s. may_begin_steps s ≡ true) from (lines_of_finding finding)
finding_arrives finding from may = by finding.steps
  where
    by : (steps : List Step) → Arrives (λ s. may_begin_steps s ≡ true) from (cond (eqb (length steps) 0) [] (Hyp finding.number ∷ flat_map step_lines steps))
    by [] = stays (λ s. may_begin_steps s ≡ true) from may
    by (step ∷ others) =
        let lines : List ReportLine = Hyp finding.number ∷ flat_map step_lines (step ∷ others) in
        let some : cond (eqb (suc (length others)) 0) [] lines ≡ lines =
        cond-false (eqb (suc (length others)) 0) [] lines (ne_eqb (suc (length others)) 0 (λ none. omega (arith, none))) in
        let rest : Arrives (λ s. s ≡ stand.Step) stand.Hyp (flat_map step_lines (step ∷ others)) = steps_arrive step others stand.Hyp refl in
        subst (Arrives (λ s. may_begin_steps s ≡ true) from) (sym some)
        (arrives_cons (λ s. may_begin_steps s ≡ true) from stand.Hyp (Hyp finding.number) (flat_map step_lines (step ∷ others)) (let_be (may_begin_steps from) stand.Hyp may)
        (record { to = rest.to; leads = rest.leads; there = ap may_begin_steps rest.there }))

-- ---- ranked hypotheses

-- Each is later than the last one.
abbrev AreLater : Option ℕ → List ℕ → Type 0
AreLater last numbers = All (λ number. is_later last number ≡ true) numbers

-- the activations of a trace
trace_arrives : (trace : List Activation) (last : Option ℕ) → All (λ activation. is_later last activation.node ≡ true) trace → IsRisingByNode trace → Arrives (λ s. may_rank s ≡ true) (stand.Ranked last) (map At trace)
trace_arrives [] last later rising = stays (λ s. may_rank s ≡ true) (stand.Ranked last) refl
trace_arrives (first ∷ others) last later rising =
    let Later : Activation → Type 0 = λ activation. is_later (Some first.node) activation.node ≡ true in
    let Above : Activation → Type 0 = λ activation. first.node < activation.node in
    let above : All Above others = AllPairs-head (λ (earlier later : Activation). earlier.node < later.node) first others rising in
    arrives_cons (λ s. may_rank s ≡ true) (stand.Ranked last) (stand.Ranked (Some first.node)) (At first) (map At others)
    (let_be (is_later last first.node) (stand.Ranked (Some first.node)) (All-head (λ (activation : Activation). is_later last activation.node ≡ true) first others later))
    (trace_arrives others (Some first.node)
    (All-weaker Above Later (λ activation less. lt-ltb first.node activation.node less) others above)
    (AllPairs-tail (λ (earlier later : Activation). earlier.node < later.node) first others rising))

-- the lines of a finding, if it is ranked
ranked_arrives : (finding : Finding) (is : Status) → HasRisingTrace is → (from : Stand) → may_rank from ≡ true → Arrives (λ s. may_rank s ≡ true) from (lines_if_ranked finding is)
ranked_arrives finding (status.Ranked trace cost alarmed monitored) rising from may =
    arrives_cons (λ s. may_rank s ≡ true) from (stand.Ranked None) (Ranked finding.number cost alarmed monitored (hypothesis_of finding)) (map At trace)
    (let_be (may_rank from) (stand.Ranked None) may)
    (trace_arrives trace None (all_later trace) rising)
  where
    all_later : (activations : List Activation) → All (λ activation. is_later None activation.node ≡ true) activations
    all_later activations index d within = refl
ranked_arrives finding (status.Covered by) rising from may = stays (λ s. may_rank s ≡ true) from may
ranked_arrives finding status.Rejected rising from may = stays (λ s. may_rank s ≡ true) from may
ranked_arrives finding status.Open rising from may = stays (λ s. may_rank s ≡ true) from may

-- the lines of the ranked findings, best first
all_ranked_arrive : (findings : List Finding) (order : List ℕ) → All (λ finding. HasRisingTrace finding.status) findings → (from : Stand) → may_rank from ≡ true
    → Arrives (λ s. may_rank s ≡ true) from (flat_map (λ finding. lines_if_ranked finding finding.status) (filter_map (finding_numbered findings) order))
all_ranked_arrive findings order rising from may =
    subst (Arrives (λ s. may_rank s ≡ true) from) (sym (flat_map-filter_map shown (finding_numbered findings) order))
    (section (λ s. may_rank s ≡ true) (λ number. unwrap_or (option_map shown (finding_numbered findings number)) []) numbered_arrives order from may)
  where
    shown : Finding → List ReportLine
    shown finding = lines_if_ranked finding finding.status

    numbered_arrives : (number : ℕ) (from : Stand) → may_rank from ≡ true → Arrives (λ s. may_rank s ≡ true) from (unwrap_or (option_map shown (finding_numbered findings number)) [])
    numbered_arrives number from may = by (finding_numbered findings number) refl
      where
        by : (found : Option Finding) → finding_numbered findings number ≡ found → Arrives (λ s. may_rank s ≡ true) from (unwrap_or (option_map shown found) [])
        by None is = stays (λ s. may_rank s ≡ true) from may
        by (Some finding) is = ranked_arrives finding finding.status (finding_numbered-all (λ (f : Finding). HasRisingTrace f.status) findings number finding rising is) from may

-- ---- blocks

-- A kind of stand is one of another kind, so lines that lead to the one lead to the other.
pub arrives_weaker : (Here There : Stand → Type 0) (from : Stand) (lines : List ReportLine) → ((s : Stand) → Here s → There s) → Arrives Here from lines → Arrives There from lines
arrives_weaker Here There from lines weaker first = record { to = first.to; leads = first.leads; there = weaker first.to first.there }

-- The lines of a round lead from where a block may begin to its counts.
pub round_leads : (round : RoundOf) (at : Stand) → HasRisingTraces round → may_begin_block at ≡ true → stand_after_all at (round_lines round) ≡ Some (stand.Counts None)
round_leads round at rising may =
    leads_append at rejected.to (front ++ steps ++ ranked ++ opened ++ refused) (Counts round.counts ∷ []) (Some (stand.Counts None)) rejected.leads
    (let_be (may_reject rejected.to) (stand.Counts None) rejected.there)
  where
    front : List ReportLine
    front = Round round.number round.line round.now ∷ []

    steps : List ReportLine
    steps = flat_map lines_of_finding round.findings

    ranked : List ReportLine
    ranked = flat_map (λ finding. lines_if_ranked finding finding.status) (ranked_in_order round)

    opened : List ReportLine
    opened = map open_line (open_in round)

    refused : List ReportLine
    refused = map rejected_line (newly_rejected round)

    first : Arrives (λ s. may_begin_steps s ≡ true) at (front ++ steps)
    first =
        arrives_cons (λ s. may_begin_steps s ≡ true) at stand.Round (Round round.number round.line round.now) steps (let_be (may_begin_block at) stand.Round may)
        (section (λ s. may_begin_steps s ≡ true) lines_of_finding finding_arrives round.findings stand.Round refl)

    second : Arrives (λ s. may_rank s ≡ true) at (front ++ steps ++ ranked)
    second =
        arrives_append (λ s. may_begin_steps s ≡ true) (λ s. may_rank s ≡ true) at (front ++ steps) ranked first
        (λ middle here. all_ranked_arrive round.findings round.order rising middle (steps_or_rank middle here))

    third : Arrives (λ s. may_open s ≡ true) at (front ++ steps ++ ranked ++ opened)
    third =
        arrives_append (λ s. may_rank s ≡ true) (λ s. may_open s ≡ true) at (front ++ steps ++ ranked) opened second
        (λ middle here. section_of_lines (λ s. may_open s ≡ true) open_line stand.Open refl (λ finding from may. let_be (may_open from) stand.Open may) (open_in round) middle (rank_or_open middle here))

    rejected : Arrives (λ s. may_reject s ≡ true) at (front ++ steps ++ ranked ++ opened ++ refused)
    rejected =
        arrives_append (λ s. may_open s ≡ true) (λ s. may_reject s ≡ true) at (front ++ steps ++ ranked ++ opened) refused third
        (λ middle here. section_of_lines (λ s. may_reject s ≡ true) rejected_line stand.Rejected refl (λ finding from may. let_be (may_reject from) stand.Rejected may) (newly_rejected round) middle (open_or_reject middle here))

-- Panels were lost, or none was.
abbrev pub IsAfterCounts : Stand → Type 0
IsAfterCounts at = (last : Option ℕ) × (at ≡ stand.Counts last)

-- the losses of panels, each later than the last one
losses_arrive : (losses : List Loss) (last : Option ℕ) → All (λ loss. is_later last loss.panel ≡ true) losses → RiseByPanel losses → Arrives IsAfterCounts (stand.Counts last) (map loss_line losses)
losses_arrive [] last later rising = stays IsAfterCounts (stand.Counts last) (last, refl)
losses_arrive (first ∷ others) last later rising =
    let Later : Loss → Type 0 = λ loss. is_later (Some first.panel) loss.panel ≡ true in
    let Above : Loss → Type 0 = λ loss. first.panel < loss.panel in
    let above : All Above others = AllPairs-head (λ (earlier later : Loss). earlier.panel < later.panel) first others rising in
    arrives_cons IsAfterCounts (stand.Counts last) (stand.Counts (Some first.panel)) (loss_line first) (map loss_line others)
    (let_be (is_later last first.panel) (stand.Counts (Some first.panel)) (All-head (λ (loss : Loss). is_later last loss.panel ≡ true) first others later))
    (losses_arrive others (Some first.panel)
    (All-weaker Above Later (λ loss less. lt-ltb first.panel loss.panel less) others above)
    (AllPairs-tail (λ (earlier later : Loss). earlier.panel < later.panel) first others rising))

-- The losses of panels by rising numbers may come after the counts.
pub all_losses_arrive : (losses : List Loss) → RiseByPanel losses → Arrives IsAfterCounts (stand.Counts None) (map loss_line losses)
all_losses_arrive losses rising = losses_arrive losses None (all_later losses) rising
  where
    all_later : (these : List Loss) → All (λ loss. is_later None loss.panel ≡ true) these
    all_later these index d within = refl

-- A block leads from where one may begin to where another one may.
pub block_arrives : (block : Block) (at : Stand) → IsInOrder block → may_begin_block at ≡ true → Arrives (λ s. may_begin_block s ≡ true) at (block_lines block)
block_arrives (RefusedBlock line cause) at order may =
    record { to = stand.Block; leads = let_be (may_begin_block at) stand.Block may; there = refl }
block_arrives (RoundBlock round losses) at order may =
    arrives_append (λ s. s ≡ stand.Counts None) (λ s. may_begin_block s ≡ true) at (round_lines round) (map loss_line losses)
    (record { to = stand.Counts None; leads = round_leads round at order.0 may; there = refl })
    (λ middle here.
    subst (λ s. Arrives (λ s. may_begin_block s ≡ true) s (map loss_line losses)) (sym here)
    (arrives_weaker IsAfterCounts (λ s. may_begin_block s ≡ true) (stand.Counts None) (map loss_line losses) (λ s after. ap may_begin_block after.1) (all_losses_arrive losses order.1)))

-- So do blocks.
pub blocks_arrive : (blocks : List Block) (at : Stand) → All IsInOrder blocks → may_begin_block at ≡ true → Arrives (λ s. may_begin_block s ≡ true) at (flat_map block_lines blocks)
blocks_arrive [] at order may = stays (λ s. may_begin_block s ≡ true) at may
blocks_arrive (block ∷ blocks) at order may =
    arrives_append (λ s. may_begin_block s ≡ true) (λ s. may_begin_block s ≡ true) at (block_lines block) (flat_map block_lines blocks)
    (block_arrives block at (All-head IsInOrder block blocks order) may)
    (λ middle here. blocks_arrive blocks middle (All-tail IsInOrder block blocks order) here)

-- ---- what begins a report

-- The first line of a report leads to where a block may begin.
head_leads : (terms : Terms) (head : ReportLine) → IsHead terms head → stand_after stand.Nothing head ≡ Some stand.Block
head_leads terms head is = ⊎_elim (λ new. ap (stand_after stand.Nothing) new) (λ old. ap (stand_after stand.Nothing) old.1) is

-- The first line and blocks may come in this order.
pub report_arrives : (terms : Terms) (head : ReportLine) (blocks : List Block) → IsHead terms head → All IsInOrder blocks → Arrives (λ s. may_begin_block s ≡ true) stand.Nothing (head ∷ flat_map block_lines blocks)
report_arrives terms head blocks is order =
    arrives_cons (λ s. may_begin_block s ≡ true) stand.Nothing stand.Block head (flat_map block_lines blocks) (head_leads terms head is)
    (blocks_arrive blocks stand.Block order refl)
