use Rattle.std.proofs.Common.{◌≡◌, Bool, true, [], ◌++◌, map, ap, subst, sym, ◌∙◌}
use Rattle.std.proofs.lemmas.Bool.{both_ways}
use Rattle.tfpg_base.specs.Append.{Appends}
use Rattle.tfpg_base.specs.Hypothesis.{Hypothesis}
use Rattle.tfpg_base.proofs.lemmas.Appended.{Appends-after}
use Rattle.tfpg_graph.specs.Graph.{failure_word}
use Rattle.tfpg_graph.specs.Members.{doubt_word}
use Rattle.tfpg_report.specs.SetText.{set_word}
use Rattle.tfpg_report.specs.inside.Further.{further_words}
use Rattle.tfpg_report.proofs.lemmas.WrittenMembers.{set_written, still_first-test}
use Rattle.tfpg_report.proofs.set_line.append_set.Goals as goal

pub returns : goal.returns
returns c =
    let graph = c.args.graph.now in
    let hypothesis : Hypothesis = record { set = c.hypothesis.inside.set; doubts = c.hypothesis.inside.doubts } in
    let same : hypothesis ≡ c.args.hypothesis = c.hypothesis.view_is in
    let old = c.args.into.now.items in
    let names = further_words true (map (failure_word graph) hypothesis.set) in
    let some : hypothesis.set ≡ [] → hypothesis.doubts ≡ [] → ⊥ =
    λ no_set no_doubts. both_ways c.is_empty.result c.if-is_empty.false (c.is_empty.ensures.1 (sym same ∙ (λ i. record { set = no_set i; doubts = no_doubts i }))) in
    subst (λ (h : Hypothesis). Appends c.append_doubts.result old c.append_doubts.new.into.items (set_word graph h)) same
    (subst (Appends c.append_doubts.result old c.append_doubts.new.into.items)
    (sym (set_written graph hypothesis some
    ∙ ap (λ (b : Bool). names ++ further_words b (map (doubt_word graph) hypothesis.doubts)) (still_first-test c.is_empty-2.result hypothesis.set c.is_empty-2.ensures)))
    (Appends-after c.append_doubts.result old _ _ names _ c.in_ok-append_failures.ensures c.append_doubts.ensures))
