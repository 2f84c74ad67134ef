use Rattle.std.proofs.Common.{◌≢◌, ℕ, ◌<◌, Some, IfSome, subst, arith, Option, IfNone}
use Rattle.tfpg_base.specs.Lines.{parts_of}
use Rattle.tfpg_graph.specs.inside.reading.Turns.{ReaderRepresents}
use Rattle.tfpg_graph.specs.ZeroCycle.{HasZeroOrder, LiesOnZeroCycle}
use Rattle.tfpg_graph.proofs.lemmas.reading.saying.LinesSaying.{count-node_lines, count-edge_lines}
use Rattle.tfpg_graph.proofs.lemmas.reading.spelling.SpelledBy.{has_mode}
use Rattle.tfpg_graph.proofs.lemmas.reading.graphs.ValidGraphs.{edge_within, IsValid-whole, IsEndRefusal-cycle, IsEndRefusal-unended}
use Rattle.tfpg_graph.proofs.reading.reader.Reader.test_whole.Goals as goal
use Rattle.tfpg_graph.proofs.reading.reader.Reader.test_whole.Goals.{After-without_incoming, In_ok-edge, In-Some-2}
use Rattle.tfpg_base.proofs.lemmas.lists.Choices.{none-from_never}

-- what is read represents the parts
stands : (c : After-without_incoming)
    → ReaderRepresents c.args.self.now (parts_of c.args.text.now)
stands c = c.requires.stands

-- where no edge was found, no cycle takes no time
order : (c : In_ok-edge) → ((edge : ℕ) → c.in_ok-edge.field-0 ≢ Some edge) → HasZeroOrder c.args.self.now.declared
order c none = subst (λ (o : Option ℕ). IfNone o (HasZeroOrder c.args.self.now.declared)) (none-from_never c.in_ok-edge.field-0 none) c.in_ok-edge.ensures.order

-- the edge that was found lies on a cycle that takes no time
lies : (c : In-Some-2) → LiesOnZeroCycle c.args.self.now.declared c.in-Some-2.edge
lies c = subst (λ o. IfSome o (LiesOnZeroCycle c.args.self.now.declared)) c.in-Some-2.is c.in_ok-edge.ensures.lies

pub line_declaring-line-requires : goal.line_declaring-line-requires
line_declaring-line-requires c =
    let read = stands (goal.at.line_declaring-line-requires c).After-without_incoming in
    record { version = read.version; there = omega (arith, c.in-Some.ensures.lacking.0, count-node_lines _ (parts_of c.args.text.now) read) }

pub line_declaring-line-requires-in-Some-2 : goal.line_declaring-line-requires-in-Some-2
line_declaring-line-requires-in-Some-2 c =
    let at = goal.at.line_declaring-line-requires-in-Some-2 c in
    let read = stands at.After-without_incoming in
    let within = edge_within c.args.self.now.declared c.in-Some-2.edge (lies at.In-Some-2) in
    record { version = read.version; there = omega (arith, within, count-edge_lines _ (parts_of c.args.text.now) read) }

pub returns-in-Some-2-clause-fault : goal.returns-in-Some-2-clause-fault
returns-in-Some-2-clause-fault c =
    let at = goal.at.returns-in-Some-2-clause-fault c in
    let first = subst
    (λ o. IfSome o (λ n. (earlier : ℕ) → earlier < n → LiesOnZeroCycle c.args.self.now.declared earlier → ⊥))
    c.in-Some-2.is c.in_ok-edge.ensures.first in
    IsEndRefusal-cycle _ c.args.text.now (stands at.After-without_incoming) c.in-Some-2.edge
    c.line_declaring-line-in-Some-2.result c.at-in-Some-2.result c.in_default.ensures.all (lies at.In-Some-2) first
    c.line_declaring-line-in-Some-2.ensures c.at-in-Some-2.ensures

pub returns-in-Ended-clause-valid : goal.returns-in-Ended-clause-valid
returns-in-Ended-clause-valid c =
    let at = goal.at.returns-in-Ended-clause-valid c in
    IsValid-whole c.args.self.now.declared c.in_default.ensures.so_far c.in_default.ensures.all
    (order at.In_ok-edge c.in_default-2.not-Some)
    (has_mode (parts_of c.args.text.now) _ (stands at.After-without_incoming) c.in-Ended.is)

pub returns-in_default-part : goal.returns-in_default-part
returns-in_default-part c =
    let at = goal.at.returns-in_default-part c in
    record {
      ended = tt;
      valid = tt;
      fault = IsEndRefusal-unended _ c.args.text.now (stands at.After-without_incoming) c.args.line_count
          c.at-in_default-part.result c.in_default.ensures.all (order at.In_ok-edge c.in_default-2.not-Some)
          c.in_default-part.not-Ended c.requires.count c.at-in_default-part.ensures;
    }
