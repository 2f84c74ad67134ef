-- Times as a trace, one node more.
use Rattle.std.proofs.Common.{◌≡◌, ℕ, suc, ◌+◌, ◌<◌, ◌≤◌, List, [], ◌∷◌, ◌++◌, length, take, get_or, Bool, true, false, if◌then◌else◌, refl, sym, ap, ◌∙◌, arith}
use Rattle.std.specs.Prelude.{nat_le}
use Rattle.std.proofs.lemmas.List.{take_all, take_more, length-take-le}
use Rattle.std.proofs.lemmas.Bool.{le-leb, lt-leb}
use Rattle.std.proofs.lemmas.Bool.Decides.{nat_tests}
use Rattle.tfpg_base.specs.declared.activation.Activation.{Activation}
use Rattle.tfpg_base.specs.Trace.{with_time}
use Rattle.tfpg_base.proofs.lemmas.Traces.{with_time-above}
use Rattle.tfpg_clause.specs.Cut.{cut_from, cut}

abbrev at : ℕ → ℕ → Activation
at node time = record { node = node; time = time }

module _ (instant time : ℕ) where
  active_more : (first y : ℕ) (times : List ℕ) → cut_from (first + 1) instant (times ++ time ∷ []) ≡ with_time (first + suc (length times)) time (cut_from (first + 1) instant times)
      → (b : Bool) → (if b then at first y ∷ cut_from (first + 1) instant (times ++ time ∷ []) else cut_from (first + 1) instant (times ++ time ∷ []))
      ≡ with_time (first + suc (length times)) time (if b then at first y ∷ cut_from (first + 1) instant times else cut_from (first + 1) instant times)
  active_more first y times rest true =
      ap (λ (ts : List Activation). at first y ∷ ts) rest ∙ sym (with_time-above (first + suc (length times)) time (at first y) (cut_from (first + 1) instant times) (omega arith))
  active_more first y times rest false = rest

  cut_active : time ≤ instant → (first : ℕ) (times : List ℕ) → cut_from first instant (times ++ time ∷ []) ≡ with_time (first + length times) time (cut_from first instant times)
  cut_active upto first [] =
      let same : first ≡ first + 0 = omega arith in
      ap (λ (b : Bool). if b then at first time ∷ [] else []) (le-leb time instant upto) ∙ ap (λ (n : ℕ). at n time ∷ []) same
  cut_active upto first (y ∷ times) =
      let same : first + 1 + length times ≡ first + suc (length times) = omega arith in
      active_more first y times (cut_active upto (first + 1) times ∙ ap (λ (n : ℕ). with_time n time (cut_from (first + 1) instant times)) same) (nat_le y instant)

  cut_inactive : instant < time → (first : ℕ) (times : List ℕ) → cut_from first instant (times ++ time ∷ []) ≡ cut_from first instant times
  cut_inactive past_it first [] = ap (λ (b : Bool). if b then at first time ∷ [] else []) (lt-leb time instant past_it)
  cut_inactive past_it first (y ∷ times) =
      ap (λ (ts : List Activation). if nat_le y instant then at first y ∷ ts else ts) (cut_inactive past_it (first + 1) times)

module _ (instant : ℕ) (times : List ℕ) (node : ℕ) (within : node < length times) where
  abbrev time : ℕ
  time = get_or times node 0

  number : 0 + length (take node times) ≡ node
  number = let short : length (take node times) ≡ node = length-take-le node times (omega arith) in omega arith

  -- the cut of one time more
  pub more_cut : (before after : List Activation) → before ≡ cut instant (take node times) → after ≡ (if nat_le time instant then with_time node time before else before)
      → after ≡ cut instant (take (node + 1) times)
  more_cut before after are is = by (nat_le time instant) refl is
    where
      by : (b : Bool) → nat_le time instant ≡ b → after ≡ (if b then with_time node time before else before) → after ≡ cut instant (take (node + 1) times)
      by true test active =
          let upto : time ≤ instant = grind (arith, nat_tests) in
          active
          ∙ ap (λ (ts : List Activation). with_time node time ts) are
          ∙ ap (λ (n : ℕ). with_time n time (cut instant (take node times))) (sym number)
          ∙ sym (cut_active instant time upto 0 (take node times))
          ∙ ap (λ (xs : List ℕ). cut instant xs) (sym (take_more times node 0 within))
      by false test inactive =
          let past_it : instant < time = grind (arith, nat_tests) in
          inactive ∙ are ∙ sym (cut_inactive instant time past_it 0 (take node times)) ∙ ap (λ (xs : List ℕ). cut instant xs) (sym (take_more times node 0 within))

pub all_cut : (instant : ℕ) (times : List ℕ) (node : ℕ) (trace : List Activation) → length times ≤ node → trace ≡ cut instant (take node times) → trace ≡ cut instant times
all_cut instant times node trace past_it are = are ∙ ap (λ (xs : List ℕ). cut instant xs) (take_all node times past_it)
