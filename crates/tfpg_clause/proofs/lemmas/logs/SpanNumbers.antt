-- Instants up to now have the number of a span, and those after now have none.
use Rattle.std.proofs.Common.{◌≡◌, ℕ, ◌<◌, ◌≤◌, cond, leb, Some, None, sym}
use Rattle.std.proofs.lemmas.Bool.{leb-true, leb-false}
use Rattle.std.proofs.lemmas.Option.{cond_some}
use Rattle.tfpg_base.proofs.lemmas.lists.Choices.{cond-none_first}
use Rattle.tfpg_log.specs.Log.{Logbook, now_of}
use Rattle.tfpg_log.specs.Spans.{span_number}

module _ (log : Logbook) where
  -- an instant with a span is up to now, and the span has its number;
  pub numbered_so : (instant number : ℕ) → Some number ≡ cond (leb instant (now_of log)) (Some (span_number log instant)) None
      → (instant ≤ now_of log) × (span_number log instant ≡ number)
  numbered_so instant number at =
      let parts = cond_some (leb instant (now_of log)) (span_number log instant) number (sym at) in
      (leb-true instant (now_of log) parts.0, parts.1)

  -- one without is after now
  pub after_now : (instant : ℕ) → None ≡ cond (leb instant (now_of log)) (Some (span_number log instant)) None → now_of log < instant
  after_now instant at = leb-false instant (now_of log) (cond-none_first (leb instant (now_of log)) (span_number log instant) (sym at))
