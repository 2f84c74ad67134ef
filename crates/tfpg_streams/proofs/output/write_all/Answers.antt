use Rattle.std.proofs.Common.{◌++◌, take, drop, List, ℕ, ◌∙◌, ap, sym, append_assoc}
use Rattle.std.proofs.lemmas.List.{take-append-drop}
use Rattle.tfpg_streams.proofs.lemmas.Putting.{Puts-append}
use Rattle.tfpg_streams.proofs.output.write_all.Goals as goal

pub loop-rest-preserved : goal.loop-rest-preserved
loop-rest-preserved g c =
    let front = c.loop-rest.invariant.front in
    let rest = c.loop-rest.rest.now in
    let count = c.in_ok-count.count in
    record {
      front = front ++ take count rest;
      parts = c.loop-rest.invariant.parts ∙ ap (λ (r : List ℕ). front ++ r) (sym (take-append-drop count rest))
          ∙ sym (append_assoc front (take count rest) (drop count rest)) ∙ ap (λ (r : List ℕ). (front ++ take count rest) ++ r) (sym c.split_at.ensures.back);
      puts = Puts-append (g.K.Sink.state c.args.out.now) (g.K.Sink.state c.loop-rest.out) (g.K.Sink.state c.put.new.self) front (take count rest) c.loop-rest.invariant.puts c.in_ok-count.ensures.put;
      no_fault = c.in_ok-count.ensures.no_fault ∙ c.loop-rest.invariant.no_fault;
    }
