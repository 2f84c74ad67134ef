use Rattle.std.proofs.Common.{◌≡◌, ℕ, ◌<◌, None, length, slice_index_or}
use Rattle.tfpg_clause.specs.inside.KnownWindows.{window_over, AreKnown}
use Rattle.tfpg_clause.proofs.known_windows.take_windows.Given as goal

abbrev pub invariant-loop-index : goal.invariant-loop-index
invariant-loop-index l = record {
  taken : (index : ℕ) → index < l.index
      → slice_index_or l.known index None
      ≡ window_over l.site.graph.now l.site.log.now l.site.span l.site.horizon (slice_index_or l.edges index 0);
  known : AreKnown l.site.graph.now l.site.log.now l.site.horizon l.edges l.known;
  same : length l.known ≡ length l.initial.known;
}
