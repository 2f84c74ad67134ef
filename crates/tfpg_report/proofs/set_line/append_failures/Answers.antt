use Rattle.std.proofs.Common.{◌≡◌, ◌<◌, List, ℕ, ◌∷◌, ◌++◌, ◌∙◌, ap, subst, length}
use Rattle.std.proofs.lemmas.List.Elements.{All-tail}
use Rattle.tfpg_base.specs.TextLine.{separated}
use Rattle.tfpg_graph.specs.Graph.{AreFailures, failure_word, failures}
use Rattle.tfpg_report.proofs.lemmas.WrittenMembers.{IsPartWritten-more, words_left}
use Rattle.tfpg_report.proofs.set_line.append_failures.Goals as goal

pub loop-parts-preserved : goal.loop-parts-preserved
loop-parts-preserved c =
    let word : ℕ → List ℕ = failure_word c.args.graph.now in
    let is_first = c.loop-parts.is_first in
    let splits : c.loop-parts.left ≡ c.in-Some.parts.0 ∷ c.in-Some.parts.1 = c.in-Some.ensures in
    record {
      written = IsPartWritten-more _ _ _ _ (separated 44 is_first (word c.in-Some.parts.0)) _ _ (ap (words_left word is_first) splits) c.loop-parts.invariant.written
          (c.in_ok-append_part.ensures ∙ ap (λ (t : List ℕ). c.loop-parts.into.items ++ separated 44 is_first t) c.failure_word.ensures);
      within = All-tail (λ position. position < length (failures c.args.graph.now)) c.in-Some.parts.0 c.in-Some.parts.1
          (subst (AreFailures c.args.graph.now) splits c.loop-parts.invariant.within);
    }
