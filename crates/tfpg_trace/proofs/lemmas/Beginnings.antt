-- Where, in a run of instants, one or all of several things begin to hold, to stay.
use Rattle.std.proofs.Common.{ℕ, ◌+◌, ◌<◌, ◌≤◌, Option, Some, None, inl, inr, arith, below_more, max}
use Rattle.std.proofs.lemmas.Bool.{cases_lt}
use Rattle.tfpg_base.specs.Choice.{earlier}
use Rattle.tfpg_base.proofs.lemmas.lists.Sequences.{some_below-not_last}
use Rattle.tfpg_trace.specs.inside.Due.{Begins}

-- What holds of the same instants of a run begins to hold there at the same one.
pub carried : (P Q : ℕ → Type 0) (lo hi : ℕ) (found : Option ℕ) → ((instant : ℕ) → lo ≤ instant → instant ≤ hi → P instant → Q instant)
    → ((instant : ℕ) → lo ≤ instant → instant ≤ hi → Q instant → P instant) → Begins P lo hi found → Begins Q lo hi found
carried P Q lo hi None there back none = λ instant from upto holds. none instant from upto (back instant from upto holds)
carried P Q lo hi (Some begin) there back at = record {
  from = at.from;
  upto = at.upto;
  not_before = λ instant from before holds. at.not_before instant from before (back instant from (omega (arith, at.upto, before)) holds);
  since = λ instant since upto. there instant (omega (arith, at.from, since)) upto (at.since instant since upto);
}

module _ (Due : ℕ → ℕ → Type 0) where
  -- one of the first things so many holds
  abbrev pub OneOf : ℕ → ℕ → Type 0
  OneOf count instant = (index : ℕ) × (index < count) × Due index instant

  -- each of them does
  abbrev pub EachOf : ℕ → ℕ → Type 0
  EachOf count instant = (index : ℕ) → index < count → Due index instant

  one_less : (count instant : ℕ) → OneOf count instant → OneOf (count + 1) instant
  one_less count instant one = (one.0, omega (arith, one.1), one.2)

  newest : (count instant : ℕ) → Due count instant → OneOf (count + 1) instant
  newest count instant holds = (count, omega arith, holds)

  -- One of one thing more begins to hold with the earlier of the two.
  pub begins_one_more : (lo hi count : ℕ) (first next : Option ℕ) → Begins (OneOf count) lo hi first → Begins (Due count) lo hi next
      → Begins (OneOf (count + 1)) lo hi (earlier first next)
  begins_one_more lo hi count None None none neither =
      λ instant from upto one. none instant from upto
      (some_below-not_last (λ index. Due index instant) count one (neither instant from upto))
  begins_one_more lo hi count None (Some next) none at = record {
    from = at.from;
    upto = at.upto;
    not_before = λ instant from before one.
        none instant from (omega (arith, at.upto, before))
        (some_below-not_last (λ index. Due index instant) count one (at.not_before instant from before));
    since = λ instant since upto. newest count instant (at.since instant since upto);
  }
  begins_one_more lo hi count (Some first) None at none = record {
    from = at.from;
    upto = at.upto;
    not_before = λ instant from before one.
        at.not_before instant from before
        (some_below-not_last (λ index. Due index instant) count one (none instant from (omega (arith, at.upto, before))));
    since = λ instant since upto. one_less count instant (at.since instant since upto);
  }
  begins_one_more lo hi count (Some first) (Some next) at other = record {
    from = omega (arith, at.from, other.from);
    upto = omega (arith, at.upto, other.upto);
    not_before = λ instant from before one.
        at.not_before instant from (omega (arith, before))
        (some_below-not_last (λ index. Due index instant) count one (other.not_before instant from (omega (arith, before))));
    since = λ instant since upto. elim (cases_lt instant first) [
      | inl below ↦ newest count instant (other.since instant (omega (arith, since, below)) upto)
      | inr above ↦ one_less count instant (at.since instant above upto)
    ];
  }

  -- each of no things holds of all instants
  pub each_of_none : (lo hi : ℕ) → lo ≤ hi → Begins (EachOf 0) lo hi (Some lo)
  each_of_none lo hi order = record {
    from = omega arith;
    upto = order;
    not_before = λ instant from before each. omega (arith, from, before);
    since = λ instant since upto index below. absurd (omega (arith, below));
  }

  each_less : (count instant : ℕ) → EachOf (count + 1) instant → EachOf count instant
  each_less count instant each index below = each index (omega arith)

  -- Each of one thing more begins to hold with the later of the two.
  pub begins_each_more : (lo hi count first next : ℕ) → Begins (EachOf count) lo hi (Some first) → Begins (Due count) lo hi (Some next)
      → Begins (EachOf (count + 1)) lo hi (Some (max first next))
  begins_each_more lo hi count first next at other = record {
    from = omega (arith, at.from, other.from);
    upto = omega (arith, at.upto, other.upto);
    not_before = λ instant from before each. elim (cases_lt instant first) [
      | inl below ↦ at.not_before instant from below (each_less count instant each)
      | inr above ↦ other.not_before instant from (omega (arith, before, above)) (each count (omega arith))
    ];
    since = λ instant since upto.
        below_more (λ index. Due index instant) count (at.since instant (omega (arith, since)) upto)
        (other.since instant (omega (arith, since)) upto);
  }

  -- Where one thing never holds, all do not.
  pub never_each : (lo hi count index : ℕ) → index < count → Begins (Due index) lo hi None → Begins (EachOf count) lo hi None
  never_each lo hi count index below none = λ instant from upto each. none instant from upto (each index below)
