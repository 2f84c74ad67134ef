use Rattle.std.proofs.Common.{ℕ, refl, sym, ap, subst, ◌∙◌, ◌+◌, length}
use Rattle.tfpg_search.specs.SearchState.{SearchState}
use Rattle.tfpg_search.specs.inside.Leaf.{pick_reasons}
use Rattle.tfpg_search.specs.inside.EnteredPicks.{IsNext}
use Rattle.tfpg_search.proofs.lemmas.stated_system.PicksEntered.{IsNext-first}
use Rattle.tfpg_search.proofs.lemmas.work.CallsPaid.{entered_counts}
use Rattle.tfpg_search.proofs.lemmas.leaves.MovesStayAtLeaf.{marked_stated, marked_closes, entered_stands, left_stands}
use Rattle.tfpg_search.proofs.search.Search.enter.Goals as goal

pub push_all-requires-clause-stated : goal.push_all-requires-clause-stated
push_all-requires-clause-stated g c = marked_stated c.args.graph.now c.args.log.now c.args.self.now c.requires.stands c.mark.new.self c.in_ok-mark.ensures.ok

pub push_all-requires-clause-next : goal.push_all-requires-clause-next
push_all-requires-clause-next g c =
    subst (λ (s : SearchState). IsNext s.entered (length (pick_reasons s.leaf)) (c.entered_count-split.result + 1) 1) (sym c.in_ok-mark.ensures.ok)
    (IsNext-first c.args.self.now.entered (length (pick_reasons c.args.self.now.leaf)) (c.entered_count-split.result + 1) (ap (λ (n : ℕ). n + 1) c.entered_count-split.ensures))

pub returns-in-Ok-clause-stands : goal.returns-in-Ok-clause-stands
returns-in-Ok-clause-stands g c =
    entered_stands c.args.graph.now c.args.log.now c.args.self.now c.requires.stands c.mark.new.self c.in_ok-mark.ensures.ok c.push_all.new.self c.push_all.ensures.same c.push_all.ensures.pushing
    c.entered_count-split.result c.entered_count-split.ensures (λ all. c.if-split-depth.false (all ∙ sym c.depth.ensures)) (c.entered_count-split.result + 1) refl c.in-Ok.ensures.ok

pub returns-in-Err-clause-stands : goal.returns-in-Err-clause-stands
returns-in-Err-clause-stands g c =
    (left_stands c.args.graph.now c.args.log.now c.args.self.now c.requires.stands c.mark.new.self c.in_ok-mark.ensures.ok c.push_all.new.self c.push_all.ensures.same c.push_all.ensures.pushing
    c.entered_count-split.result c.entered_count-split.ensures c.leave.new.self c.leave.ensures.same c.leave.ensures.leaf)

pub returns-in-Err-clause-closes : goal.returns-in-Err-clause-closes
returns-in-Err-clause-closes g c =
    marked_closes c.args.graph.now c.args.log.now c.args.self.now c.requires.stands c.mark.new.self c.in_ok-mark.ensures.ok c.in-Err.fault c.in-Err.ensures.closes

pub returns-in-Ok-clause-counts : goal.returns-in-Ok-clause-counts
returns-in-Ok-clause-counts g c =
    entered_counts c.args.work.now c.push_all.new.work (length c.args.self.now.path) (length c.args.self.now.entered) c.entered_count-split.result c.push_all.ensures.counts
    c.requires.stands.picks.few c.entered_count-split.ensures (λ all. c.if-split-depth.false (all ∙ sym c.depth.ensures))

pub returns-in-Err-clause-counts : goal.returns-in-Err-clause-counts
returns-in-Err-clause-counts g c =
    entered_counts c.args.work.now c.push_all.new.work (length c.args.self.now.path) (length c.args.self.now.entered) c.entered_count-split.result c.push_all.ensures.counts
    c.requires.stands.picks.few c.entered_count-split.ensures (λ all. c.if-split-depth.false (all ∙ sym c.depth.ensures))

pub returns-in-Ok-clause-bounds : goal.returns-in-Ok-clause-bounds
returns-in-Ok-clause-bounds g c = c.push_all.ensures.bounds ∙ ap (λ (s : SearchState). s.leaf.demands.bounds) c.in_ok-mark.ensures.ok

pub returns-in-Err-clause-bounds : goal.returns-in-Err-clause-bounds
returns-in-Err-clause-bounds g c = c.leave.ensures.bounds ∙ c.push_all.ensures.bounds ∙ ap (λ (s : SearchState). s.leaf.demands.bounds) c.in_ok-mark.ensures.ok
