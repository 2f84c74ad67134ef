-- The end of lines that are read: a valid graph, or what is wrong with the whole.
use Rattle.std.proofs.Common.{◌≡◌, ◌≢◌, ℕ, ◌+◌, ◌<◌, List, [], ◌∷◌, length, refl, sym, ap, ◌∙◌, subst, arith}
use Rattle.std.proofs.lemmas.Option.{slice_get_within}
use Rattle.tfpg_base.specs.Lines.{parts_of}
use Rattle.tfpg_base.proofs.lemmas.LinesOf.{parts_of_some}
use Rattle.tfpg_graph.specs.declared.cause.GraphCause.TheVariants.{ZeroCycle, MissingEnd}
use Rattle.tfpg_graph.specs.declared.cause.GraphRefusal.{GraphRefusal}
use Rattle.tfpg_graph.specs.declared.reading.reader.GraphLineRefusal.TheVariants.{Cause}
use Rattle.tfpg_graph.specs.Graph.{Tfpg}
use Rattle.tfpg_graph.specs.Valid.{IsValid, IsValidSoFar, HasIncomingBefore}
use Rattle.tfpg_graph.specs.ZeroCycle.{LiesOnZeroCycle, HasZeroOrder}
use Rattle.tfpg_graph.specs.Statements.{declares_edge}
use Rattle.tfpg_graph.specs.Faults.{IsLineSaying}
use Rattle.tfpg_graph.specs.declared.reading.reader.ReadingStage.{ReadingStage}
use Rattle.tfpg_graph.specs.declared.reading.reader.ReadingStage.TheVariants.{Header, Declarations, Ended}
use Rattle.tfpg_graph.specs.declared.reading.reader.Reader.{Reader}
use Rattle.tfpg_graph.specs.inside.reading.Turns.{part_after, ReaderRepresents}
use Rattle.tfpg_graph.specs.inside.reading.TurnResults.{refusal_at, IsEndRefusal}
use Rattle.tfpg_graph.proofs.lemmas.reading.causes.PartAfter.{no_header}
use Rattle.tfpg_graph.proofs.lemmas.zero_cycle.ZeroCycles.{HasZeroOrder-no_cycle}
use Rattle.tfpg_graph.proofs.lemmas.reading.faults.FirstFaults.{whole_fault-cycle, whole_fault-end}

-- What broke no rule so far is valid where each discrepancy has an edge into it, nodes have ranks, and there is a mode.
pub IsValid-whole : (graph : Tfpg) → IsValidSoFar graph → HasIncomingBefore graph (length graph.nodes)
    → HasZeroOrder graph → 0 < length graph.modes → IsValid graph
IsValid-whole graph is incoming order mode = record {
  so_far = is;
  has_incoming = incoming;
  no_zero_cycle = HasZeroOrder-no_cycle graph order;
  has_mode = mode;
}

-- An edge on a cycle is among the edges.
pub edge_within : (graph : Tfpg) (number : ℕ) → LiesOnZeroCycle graph number → number < length graph.edges
edge_within graph number lies = slice_get_within graph.edges number lies.edge lies.numbered

module _ (progress : Reader) (bytes : List ℕ) (stands : ReaderRepresents progress (parts_of bytes)) where
  -- after a part the header is read
  read : progress.part ≢ Header
  read at = by (parts_of bytes) (parts_of_some bytes) (sym at ∙ stands.part)
    where
      by : (lines : List (List ℕ)) → 0 < length lines → Header ≡ part_after lines → ⊥
      by [] some header = absurd (omega arith)
      by (first ∷ others) some header = no_header first others header

  -- The first edge on a cycle that may take no time.
  pub IsEndRefusal-cycle : (edge line : ℕ) (refusal : GraphRefusal)
      → HasIncomingBefore progress.declared (length progress.declared.nodes) → LiesOnZeroCycle progress.declared edge
      → ((earlier : ℕ) → earlier < edge → LiesOnZeroCycle progress.declared earlier → ⊥)
      → IsLineSaying declares_edge (parts_of bytes) edge line
      → refusal ≡ refusal_at (Cause ZeroCycle) line → IsEndRefusal (parts_of bytes) refusal
  IsEndRefusal-cycle edge line refusal incoming lies first says is =
      subst (IsEndRefusal (parts_of bytes)) (sym is)
      (whole_fault-cycle progress (parts_of bytes) stands read edge line incoming lies first says)

  -- what is not ended is after the header
  unended : progress.part ≢ Ended → progress.part ≡ Declarations
  unended goes_on = by progress.part read goes_on
    where
      by : (part : ReadingStage) → part ≢ Header → part ≢ Ended → part ≡ Declarations
      by Header no_header_so goes_on_so = absurd (no_header_so refl)
      by Declarations no_header_so goes_on_so = refl
      by Ended no_header_so goes_on_so = absurd (goes_on_so refl)

  -- No end.
  pub IsEndRefusal-unended : (count : ℕ) (refusal : GraphRefusal)
      → HasIncomingBefore progress.declared (length progress.declared.nodes) → HasZeroOrder progress.declared
      → progress.part ≢ Ended → count ≡ length (parts_of bytes)
      → refusal ≡ refusal_at (Cause MissingEnd) (count + 1) → IsEndRefusal (parts_of bytes) refusal
  IsEndRefusal-unended count refusal incoming order goes_on counted is =
      subst (IsEndRefusal (parts_of bytes)) (sym (is ∙ ap (λ n. refusal_at (Cause MissingEnd) (n + 1)) counted))
      (whole_fault-end progress (parts_of bytes) stands (unended goes_on) incoming
      (HasZeroOrder-no_cycle progress.declared order))
