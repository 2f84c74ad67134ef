-- A text that was made, or none.
use Rattle.std.proofs.Common.{◌≡◌, ◌⊎◌, ℕ, List, Result, Ok, Err, ap, inl, inr, ⊎_elim}
use Rattle.tfpg_embed.specs.TextCalls.{IsMade}
use Rattle.tfpg_embed.proofs.lemmas.SessionCalls.{err_refuses, ok_refuses}

module _ {E : Type 0} (IsRight : List ℕ → Type 0) (IsFault : E → Type 0) (CanMake : Type 0) (memory : E) where
  -- one was made
  pub made_text : {T : Type 0} (value : T) (text : List ℕ) → IsRight text
      → ((why : E) → (why ≡ memory → ⊥) → IsFault why → (◌≡◌ {A = Result T E} (Ok value) (Err why)) ⊎ (◌≡◌ {A = Result T E} (Ok value) (Err memory)))
      → IsMade IsRight IsFault CanMake memory (Ok text)
  made_text value text right refuses = record {
    right = right;
    fault = tt;
    completes = λ can. tt;
    refuses = λ why real stands. absurd (ok_refuses value why memory (refuses why real stands));
  }

  -- none was
  pub made_none : {T : Type 0} (fault : E) → IsFault fault → (CanMake → fault ≡ memory)
      → ((why : E) → (why ≡ memory → ⊥) → IsFault why → (◌≡◌ {A = Result T E} (Err fault) (Err why)) ⊎ (◌≡◌ {A = Result T E} (Err fault) (Err memory)))
      → IsMade IsRight IsFault CanMake memory (Err fault)
  made_none fault is completes refuses = record {
    right = tt;
    fault = is;
    completes = completes;
    refuses = λ why real stands. ⊎_elim (λ same. inl (ap Err same)) (λ none. inr (ap Err none)) (err_refuses fault why memory (refuses why real stands));
  }
