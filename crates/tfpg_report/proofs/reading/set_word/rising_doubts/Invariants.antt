use Rattle.std.proofs.Common.{map, drop}
use Rattle.tfpg_graph.specs.Members.{doubt_word}
use Rattle.tfpg_report.specs.inside.ReadMembers.{IsMonitor}
use Rattle.tfpg_report.proofs.lemmas.reading.RisingMembers.{IsReadTo}
use Rattle.tfpg_report.proofs.reading.set_word.rising_doubts.Given as goal

abbrev pub invariant-loop-word : goal.invariant-loop-word
invariant-loop-word l =
    IsReadTo (doubt_word l.graph) (IsMonitor l.graph) (map (λ word. word.now) l.words) l.doubts l.least
    (map (λ word. word.now) (drop l.word-index l.words))
