-- The counted calls of a round are within its limits, and what is kept stays as the rounds worked on it.
use Rattle.std.proofs.Common.{◌≡◌, ℕ, Bool, true, false, List, [], ◌∷◌, ◌++◌, refl, sym, ap, subst, ◌∙◌}
use Rattle.std.specs.Prelude.{Some, slice_get, option_map, unwrap_or, ◌||◌, if◌then◌else◌}
use Rattle.std.proofs.lemmas.List.Folds.{list_any-append}
use Rattle.std.proofs.lemmas.List.Sums.{fold-append}
use Rattle.tfpg_evidence.specs.declared.finding.Finding.{Finding}
use Rattle.tfpg_evidence.specs.declared.finding.Status.{Status}
use Rattle.tfpg_evidence.specs.declared.finding.Status.TheVariants as status
use Rattle.tfpg_evidence.specs.declared.round.Round.{Round}
use Rattle.tfpg_evidence.specs.RoundOf.{is_rejected}
use Rattle.tfpg_clause.specs.Case.{Case}
use Rattle.tfpg_search.specs.Work.{IsWorkLimit}
use Rattle.tfpg_engine.specs.declared.slot.Slot.{Slot}
use Rattle.tfpg_engine.specs.declared.slot.Slot.TheVariants.{Untouched}
use Rattle.tfpg_engine.specs.EngineState.{is_rejected_slot, events_seen, IsWorkedOn}
use Rattle.tfpg_engine.specs.Work.{has_status, is_ranked_or_open, was_rejected, last_worked_on, is_worked_on}
use Rattle.tfpg_engine.specs.inside.SlotWork.{IsLimitWhere}
use Rattle.tfpg_engine.specs.inside.NewFindings.{IsSearchedOn, IsKeptAfter}

-- ---- before the first round

pub never_worked_on : (number : ℕ) (slot : Slot) → slot ≡ Untouched → IsWorkedOn number [] slot
never_worked_on number slot is = subst (IsWorkedOn number []) (sym is) (record { rejected = refl; seen = λ fresh. refl })

-- ---- one round more

or_false : (b : Bool) → (b || false) ≡ b
or_false true = refl
or_false false = refl

or_true : (b : Bool) → (b || true) ≡ true
or_true true = refl
or_true false = refl

module _ (number : ℕ) (rounds : List Round) (round : Round) (finding : Finding) (at : slice_get round.findings number ≡ Some finding) where
  status_at : (test : Status → Bool) → has_status test number round ≡ test finding.status
  status_at test = ap (λ f. unwrap_or (option_map (λ (finding : Finding). test finding.status) f) false) at

  rejected_then : was_rejected number (rounds ++ round ∷ []) ≡ (was_rejected number rounds || is_rejected finding.status)
  rejected_then = list_any-append (has_status is_rejected number) rounds (round ∷ []) ∙ ap (λ (b : Bool). was_rejected number rounds || b) (or_false (has_status is_rejected number round) ∙ status_at is_rejected)

  worked_on_then : last_worked_on number (rounds ++ round ∷ []) ≡ (if is_ranked_or_open finding.status then round.number else last_worked_on number rounds)
  worked_on_then =
      fold-append (λ (events : ℕ) (r : Round). if has_status is_ranked_or_open number r then r.number else events) 0 rounds (round ∷ [])
      ∙ ap (λ (b : Bool). if b then round.number else last_worked_on number rounds) (status_at is_ranked_or_open)

  module _ (old new : Slot) (events : ℕ) (numbered : round.number ≡ events) (is : IsWorkedOn number rounds old) where
    searched_on : is_rejected finding.status ≡ false → is_ranked_or_open finding.status ≡ true → IsSearchedOn events old new → IsWorkedOn number (rounds ++ round ∷ []) new
    searched_on open_yet worked kept = record {
      rejected = kept.not_now ∙ sym (rejected_then ∙ ap (λ (b : Bool). was_rejected number rounds || b) open_yet ∙ or_false (was_rejected number rounds) ∙ sym is.rejected ∙ kept.not_before);
      seen = λ fresh. kept.seen ∙ sym (worked_on_then ∙ ap (λ (b : Bool). if b then round.number else last_worked_on number rounds) worked ∙ numbered);
    }

    by_status : (s : Status) → finding.status ≡ s → IsKeptAfter events s old new → IsWorkedOn number (rounds ++ round ∷ []) new
    by_status (status.Ranked trace cost alarmed monitored) has kept = searched_on (ap is_rejected has) (ap is_ranked_or_open has) kept
    by_status (status.Covered by) has kept = record {
      rejected = ap is_rejected_slot kept ∙ is.rejected
          ∙ sym (rejected_then ∙ ap (λ (b : Bool). was_rejected number rounds || b) (ap is_rejected has) ∙ or_false (was_rejected number rounds));
      seen = λ fresh. ap events_seen kept ∙ is.seen (sym (ap is_rejected_slot kept) ∙ fresh)
          ∙ sym (worked_on_then ∙ ap (λ (b : Bool). if b then round.number else last_worked_on number rounds) (ap is_ranked_or_open has));
    }
    by_status status.Rejected has kept = record {
      rejected = kept ∙ sym (rejected_then ∙ ap (λ (b : Bool). was_rejected number rounds || b) (ap is_rejected has) ∙ or_true (was_rejected number rounds));
      seen = λ fresh. (let clash : true ≡ false = sym kept ∙ fresh in cc);
    }
    by_status status.Open has kept = searched_on (ap is_rejected has) (ap is_ranked_or_open has) kept

    -- What is kept after one round more is as it was worked on with that round.
    pub worked_on_still : IsKeptAfter events finding.status old new → IsWorkedOn number (rounds ++ round ∷ []) new
    worked_on_still kept = by_status finding.status refl kept

-- ---- the limit of a finding

module _ (number : ℕ) (rounds : List Round) (old new : Slot) (events steps limit : ℕ) (case : Case) (is : IsWorkedOn number rounds old) where
  searched_limit : is_rejected_slot old ≡ false → IsWorkLimit case (events_seen old) steps limit → IsWorkLimit case (last_worked_on number rounds) steps limit
  searched_limit fresh own = subst (λ (n : ℕ). IsWorkLimit case n steps limit) (is.seen fresh) own

  rejected_limit : (b : Bool) → is_rejected_slot old ≡ b → IsLimitWhere (is_worked_on b status.Rejected) case (events_seen old) steps limit → IsLimitWhere (is_worked_on b status.Rejected) case (last_worked_on number rounds) steps limit
  rejected_limit true has own = own
  rejected_limit false has own = searched_limit has own

  -- The limit by what was kept before is that by the rounds before.
  pub limit_by_rounds : (s : Status) → IsKeptAfter events s old new → IsLimitWhere (is_worked_on (is_rejected_slot old) s) case (events_seen old) steps limit
      → IsLimitWhere (is_worked_on (was_rejected number rounds) s) case (last_worked_on number rounds) steps limit
  limit_by_rounds (status.Ranked trace cost alarmed monitored) kept own = searched_limit kept.not_before own
  limit_by_rounds (status.Covered by) kept own = own
  limit_by_rounds status.Rejected kept own =
      subst (λ (b : Bool). IsLimitWhere (is_worked_on b status.Rejected) case (last_worked_on number rounds) steps limit) is.rejected (rejected_limit (is_rejected_slot old) refl own)
  limit_by_rounds status.Open kept own = searched_limit kept.not_before own
