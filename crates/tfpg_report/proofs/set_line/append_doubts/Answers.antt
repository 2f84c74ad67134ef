use Rattle.std.proofs.Common.{◌≡◌, ◌<◌, List, ℕ, ◌∷◌, ap, subst, length, All}
use Rattle.std.proofs.lemmas.List.Elements.{All-tail}
use Rattle.tfpg_base.specs.TextLine.{separated}
use Rattle.tfpg_graph.specs.Members.{doubt_word}
use Rattle.tfpg_report.proofs.lemmas.WrittenMembers.{IsPartWritten-more, words_left}
use Rattle.tfpg_report.proofs.set_line.append_doubts.Goals as goal

pub loop-parts-preserved : goal.loop-parts-preserved
loop-parts-preserved c =
    let word : ℕ → List ℕ = doubt_word c.args.graph.now in
    let is_first = c.loop-parts.is_next_first in
    let splits : c.loop-parts.left ≡ c.in-Some.parts.0 ∷ c.in-Some.parts.1 = c.in-Some.ensures in
    record {
      written = IsPartWritten-more _ _ _ _ (separated 44 is_first (word c.in-Some.parts.0)) _ _ (ap (words_left word is_first) splits) c.loop-parts.invariant.written
          c.in_ok-append_doubt.ensures;
      within = All-tail (λ node. node < length c.args.graph.now.nodes) c.in-Some.parts.0 c.in-Some.parts.1
          (subst (All (λ node. node < length c.args.graph.now.nodes)) splits c.loop-parts.invariant.within);
    }
