-- The first fault of lines, from what is read.
use Rattle.std.proofs.Common.{◌≡◌, ◌≢◌, ℕ, ◌+◌, ◌<◌, ⊎_elim, inl, inr, List, [], ◌∷◌, ◌++◌, length, Err, refl, sym, ◌∙◌, subst, arith}
use Rattle.std.proofs.lemmas.List.{length-append}
use Rattle.tfpg_graph.specs.declared.cause.GraphCause.{GraphCause}
use Rattle.tfpg_graph.specs.declared.cause.GraphCause.TheVariants.{ZeroCycle, MissingEnd}
use Rattle.tfpg_graph.specs.ZeroCycle.{LiesOnZeroCycle}
use Rattle.tfpg_graph.specs.Statements.{declares_edge}
use Rattle.tfpg_graph.specs.Valid.{HasIncomingBefore, HasNoZeroCycle}
use Rattle.tfpg_graph.specs.Faults.{IsClean, IsLineFault, IsLineSaying, IsWholeFault}
use Rattle.tfpg_graph.specs.declared.reading.reader.ReadingStage.TheVariants.{Header, Declarations}
use Rattle.tfpg_graph.specs.declared.reading.reader.Reader.{Reader}
use Rattle.tfpg_graph.specs.inside.reading.Turns.{turn, part_after, ReaderRepresents}
use Rattle.tfpg_graph.proofs.lemmas.reading.causes.CauseAt.{cause_at-append, cause_at-after}
use Rattle.tfpg_graph.proofs.lemmas.reading.causes.PartAfter.{part-declarations}
use Rattle.tfpg_graph.proofs.lemmas.reading.causes.CausedTurns.{ReaderRepresents-err}

-- A line by which a turn fails is the first fault, whatever stands after it.
pub IsLineFault-err : (progress : Reader) (before after : List (List ℕ)) (line : List ℕ) (cause : GraphCause)
    → ReaderRepresents progress before → turn progress line ≡ Err cause
    → IsLineFault (before ++ line ∷ after) (record { line = length before + 1; cause = cause })
IsLineFault-err progress before after line cause stands failed = record {
  index = length before;
  number = refl;
  tested = inr (omega (arith, length-append before (line ∷ after)));
  cause = cause_at-after before after line (length before) (omega arith) ∙ ReaderRepresents-err progress before line cause stands failed;
  first = λ earlier within. cause_at-append before (line ∷ after) earlier within ∙ stands.clean earlier within;
}

module _ (progress : Reader) (lines : List (List ℕ)) (stands : ReaderRepresents progress lines) where
  -- Where a line was read, none has a cause.
  pub IsClean-some : 0 < length lines → IsClean lines
  IsClean-some some index tested = stands.clean index (⊎_elim (λ first. omega (arith, first)) (λ within. within) tested)

  -- after the header a line was read
  some_line : progress.part ≢ Header → 0 < length lines
  some_line read = by lines stands.part
    where
      by : (xs : List (List ℕ)) → progress.part ≡ part_after xs → 0 < length xs
      by [] at = absurd (read at)
      by (first ∷ others) at = omega arith

  -- After the header no line has a cause.
  pub IsClean-read : progress.part ≢ Header → IsClean lines
  IsClean-read read = IsClean-some (some_line read)

  module _ (read : progress.part ≢ Header) where
    -- Where none is, the first edge on a cycle that may take no time is.
    pub whole_fault-cycle : (edge line : ℕ) → HasIncomingBefore progress.declared (length progress.declared.nodes)
        → LiesOnZeroCycle progress.declared edge
        → ((earlier : ℕ) → earlier < edge → LiesOnZeroCycle progress.declared earlier → ⊥)
        → IsLineSaying declares_edge lines edge line
        → IsClean lines × IsWholeFault lines (record { line = line; cause = ZeroCycle })
    whole_fault-cycle edge line incoming lies first says = (
      IsClean-read read,
      inr (inl (record {
        cause = refl;
        incoming = subst (λ graph. HasIncomingBefore graph (length graph.nodes)) stands.graph incoming;
        edge = edge;
        lies = subst (λ graph. LiesOnZeroCycle graph edge) stands.graph lies;
        first = λ earlier before on_cycle. first earlier before (subst (λ graph. LiesOnZeroCycle graph earlier) (sym stands.graph) on_cycle);
        line = says;
      })),
    )

  -- And where neither is, a missing end is.
  pub whole_fault-end : progress.part ≡ Declarations → HasIncomingBefore progress.declared (length progress.declared.nodes)
      → HasNoZeroCycle progress.declared
      → IsClean lines × IsWholeFault lines (record { line = length lines + 1; cause = MissingEnd })
  whole_fault-end unended incoming no_cycle =
      let before = part-declarations lines (sym unended ∙ stands.part) in (
        IsClean-some before.0,
        inr (inr (record {
          cause = refl;
          incoming = subst (λ graph. HasIncomingBefore graph (length graph.nodes)) stands.graph incoming;
          no_cycle = subst HasNoZeroCycle stands.graph no_cycle;
          no_end = before.1;
          line = refl;
        })),
      )
