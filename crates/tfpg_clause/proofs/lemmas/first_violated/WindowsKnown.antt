-- Windows that are known: they are those round later spans too.
use Rattle.std.proofs.Common.{◌≡◌, ℕ, ◌+◌, ◌<◌, ◌≤◌, List, length, replicate, set, get_or, Option, Some, None, IfSome, inl, inr, sym, subst, ◌∙◌, arith}
use Rattle.std.specs.Prelude.{option_and_then, slice_get, slice_index_or}
use Rattle.std.proofs.lemmas.Bool.{cases_eq}
use Rattle.std.proofs.lemmas.List.{get_or-replicate, get_or-set_same, get_or-set_other}
use Rattle.tfpg_graph.specs.declared.edge.Edge.{Edge}
use Rattle.tfpg_graph.specs.Graph.{Tfpg}
use Rattle.tfpg_log.specs.declared.span.Span.{Span}
use Rattle.tfpg_log.specs.declared.span.Window.{Window}
use Rattle.tfpg_log.specs.Log.{Logbook}
use Rattle.tfpg_log.specs.Spans.{span_number, span_at, window_of}
use Rattle.tfpg_log.proofs.lemmas.instants.SpanRuns.{is_span}
use Rattle.tfpg_log.proofs.lemmas.instants.WindowInstants.{throughout}
use Rattle.tfpg_clause.specs.inside.KnownWindows.{window_over, IsWindowOver, AreKnown}

module _ (graph : Tfpg) (log : Logbook) (edge number horizon : ℕ) where
  -- A window of the edge is the one round each span that begins in it.
  pub window_again : (span : Span) (window : Window) → span_at log number horizon ≡ Some span → IsWindowOver graph log horizon edge window
      → window.lo ≤ span.lo → span.lo ≤ window.hi
      → Some window ≡ option_and_then (λ e. window_of log e number horizon) (slice_get graph.edges edge)
  window_again span window here over from upto = by (slice_get graph.edges edge) over.1
    where
      numbered : span_number log span.lo ≡ number
      numbered = let is = is_span log number horizon span here in is.numbered span.lo (omega arith) is.run.in_order

      by : (o : Option Edge) → option_and_then (λ e. window_of log e over.0 horizon) o ≡ Some window
          → Some window ≡ option_and_then (λ e. window_of log e number horizon) o
      by None at = absurd cc
      by (Some e) at =
          sym (subst (λ n. window_of log e n horizon ≡ Some window) numbered (throughout log e over.0 horizon span.lo window at from upto))

  -- What is found round a span is a window of the edge.
  pub is_over : (found : Option Window) → found ≡ option_and_then (λ e. window_of log e number horizon) (slice_get graph.edges edge)
      → IfSome found (IsWindowOver graph log horizon edge)
  is_over None at = tt
  is_over (Some window) at = (number, sym at)

module _ (graph : Tfpg) (log : Logbook) (horizon : ℕ) where
  -- where nothing is known,
  pub none_known : (edges : List ℕ) (count : ℕ) → length edges ≤ count → AreKnown graph log horizon edges (replicate count None)
  none_known edges count room index below =
      subst (λ o. IfSome o (IsWindowOver graph log horizon (get_or edges index 0)))
      (sym (get_or-replicate {A = Option Window} count index None None (omega arith))) tt

  -- and one more
  pub more_known : (edges : List ℕ) (known : List (Option Window)) (at : ℕ) (found : Option Window) → at < length known
      → IfSome found (IsWindowOver graph log horizon (get_or edges at 0)) → AreKnown graph log horizon edges known
      → AreKnown graph log horizon edges (set known at found)
  more_known edges known at found within own others index below = elim (cases_eq index at) [
    | inl same ↦ subst (λ k. IfSome (get_or (set known at found) k None) (IsWindowOver graph log horizon (get_or edges k 0))) (sym same)
        (subst (λ o. IfSome o (IsWindowOver graph log horizon (get_or edges at 0))) (sym (get_or-set_same known at found None within)) own)
    | inr apart ↦
        subst (λ o. IfSome o (IsWindowOver graph log horizon (get_or edges index 0)))
        (sym (get_or-set_other known at index found None apart)) (others index below)
  ]

-- the windows of the first edges, and of one more
pub more_windows : (graph : Tfpg) (log : Logbook) (number horizon : ℕ) (edges : List ℕ) (known : List (Option Window)) (at : ℕ)
    (found : Option Window) → at < length known
    → found ≡ window_over graph log number horizon (get_or edges at 0)
    → ((index : ℕ) → index < at → slice_index_or known index None ≡ window_over graph log number horizon (get_or edges index 0))
    → (index : ℕ) → index < at + 1
    → slice_index_or (set known at found) index None ≡ window_over graph log number horizon (get_or edges index 0)
more_windows graph log number horizon edges known at found within own others index below = elim (cases_eq index at) [
  | inl same ↦
      subst (λ k. slice_index_or (set known at found) k None ≡ window_over graph log number horizon (get_or edges k 0)) (sym same)
      (get_or-set_same known at found None within ∙ own)
  | inr apart ↦ get_or-set_other known at index found None apart ∙ others index (omega (arith, below, apart))
]
