-- The first instant at which a node breaks the must rule, span after span.
use Rattle.std.proofs.Common.{◌≡◌, ℕ, ◌+◌, ◌<◌, ◌≤◌, cond, leb, List, Option, Some, None, inl, inr, ◌∙◌, arith}
use Rattle.std.proofs.lemmas.Bool.{cases_lt, le-leb, cond-true}
use Rattle.tfpg_base.specs.declared.activation.Activation.{Activation}
use Rattle.tfpg_graph.specs.Graph.{Tfpg}
use Rattle.tfpg_log.specs.Log.{Logbook, now_of}
use Rattle.tfpg_log.specs.Rules.{IsActive, KeepsMust}
use Rattle.tfpg_log.specs.Spans.{span_number}
use Rattle.tfpg_log.proofs.lemmas.instants.SpanRuns.{number_rises}
use Rattle.tfpg_trace.specs.Broken.{FirstBreaksMust}
use Rattle.tfpg_trace.specs.inside.FirstFaultIn.{IsFirstMustFault}
use Rattle.tfpg_trace.specs.inside.FirstFaultIn.{FirstBreaksIn, IsFirstFaultIn}
use Rattle.tfpg_trace.proofs.lemmas.MustFaults.{keeps_active}

module _ (log : Logbook) where
  -- what a look-up says of an instant up to now
  numbered : (horizon : ℕ) (found : Option ℕ) → horizon ≤ now_of log
      → found ≡ cond (leb horizon (now_of log)) (Some (span_number log horizon)) None
      → found ≡ Some (span_number log horizon)
  numbered horizon found by_now e = e ∙ cond-true (leb horizon (now_of log)) _ _ (le-leb horizon (now_of log) by_now)

  module _ (graph : Tfpg) (trace : List Activation) (node : ℕ) where
    -- the node keeps the must rule at all instants up to now of spans before this one
    abbrev pub KeepsMustBefore : ℕ → Type 0
    KeepsMustBefore end = (instant : ℕ) → instant ≤ now_of log → span_number log instant < end → KeepsMust graph log trace node instant

    -- one span more
    pub one_span_more : (number : ℕ) → KeepsMustBefore number → IsFirstFaultIn graph log trace node number None
        → KeepsMustBefore (number + 1)
    one_span_more number before here = λ instant within below. elim (cases_lt (span_number log instant) number) [
      | inl earlier ↦ before instant within earlier
      | inr upto ↦ here instant within (omega arith)
    ]

    -- The first fault of the first span that has one is the first of all.
    pub first_of_all : (number instant : ℕ) → KeepsMustBefore number → FirstBreaksIn graph log trace node number instant
        → FirstBreaksMust graph log trace node instant
    first_of_all number instant before fault = record {
      by_now = fault.by_now;
      broken = fault.broken;
      first = λ earlier lesser.
          let upto : span_number log earlier ≤ span_number log instant = number_rises log earlier instant (omega (arith, lesser)) in
          elim (cases_lt (span_number log earlier) number) [
            | inl below ↦ before earlier (omega (arith, lesser, fault.by_now)) below
            | inr above ↦ fault.first earlier lesser (omega (arith, upto, above, fault.inside))
          ];
    }

    -- Where no span up to an instant has one, and the node is active after it, there is none.
    pub none_at_all : (horizon last end : ℕ) → horizon ≤ now_of log
        → Some last ≡ cond (leb horizon (now_of log)) (Some (span_number log horizon)) None
        → ((instant : ℕ) → horizon < instant → instant ≤ now_of log → IsActive trace node instant) → last < end → KeepsMustBefore end
        → IsFirstMustFault graph log trace node None
    none_at_all horizon last end by_now e rest enough before = λ instant within. elim (cases_lt horizon instant) [
      | inl behind ↦ keeps_active graph log trace node instant (rest instant behind within)
      | inr upto ↦ (
          let is : Some last ≡ Some (span_number log horizon) = numbered horizon (Some last) by_now e in
          let last_is : last ≡ span_number log horizon = cc in
          before instant within (omega (arith, number_rises log instant horizon upto, last_is, enough)))
    ]
