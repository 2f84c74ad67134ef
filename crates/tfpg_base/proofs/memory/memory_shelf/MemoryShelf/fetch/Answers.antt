use Rattle.std.proofs.Common.{◌≡◌, ◌⊎◌, ⊎_elim, inl, inr, ◌<◌, ◌++◌, List, ℕ, length, cond, Option, Some, None, Result, Ok, Err, refl, ap, subst, sym, ◌∙◌, arith}
use Rattle.std.proofs.lemmas.Bool.{le-ltb, lt-ltb}
use Rattle.std.proofs.lemmas.List.{length-append}
use Rattle.std.proofs.lemmas.Option.{same_Some}
use Rattle.tfpg_base.specs.declared.limits.TheConstants.{LONGEST_FILE}
use Rattle.tfpg_base.specs.declared.outside.ShelfFault.{ShelfFault}
use Rattle.tfpg_base.specs.declared.outside.ShelfFault.TheVariants as faults
use Rattle.tfpg_base.specs.Outside.{file_of}
use Rattle.tfpg_base.specs.Memory.{Copies, Fetches, FailsNext, FailsOrLacksMemory, GivesOrLacksMemory, MemoryShelfState}
use Rattle.tfpg_base.proofs.memory.memory_shelf.MemoryShelf.fetch.Goals as goal

-- a call that is not to fail copies the file
Fetches-copied : (fails : Type 0) (content : Option (List ℕ)) (copy : List ℕ) (result : Result (Unit {0}) ShelfFault) → (fails → ⊥) → Copies content copy result → Fetches fails content copy result
Fetches-copied fails content copy (Ok done) goes copied = (goes, copied)
Fetches-copied fails content copy (Err faults.TooLong) goes copied = (goes, copied)
Fetches-copied fails content copy (Err faults.NoMemory) goes copied = copied
Fetches-copied fails content copy (Err faults.Failed) goes copied = (copied.0, inr copied.1)

pub returns-then-fails-clause-fetched : goal.returns-then-fails-clause-fetched
returns-then-fails-clause-fetched c =
    (c.clear.ensures.items, inl (subst (λ (shelf : MemoryShelfState). FailsNext shelf.failing shelf.calls) c.self.view_is (c.next_fails-fails.ensures.fails.0 c.if-fails.true)))

pub returns-else-fails-clause-fetched : goal.returns-else-fails-clause-fetched
returns-else-fails-clause-fetched c =
    let goes : FailsNext c.args.self.now.failing c.args.self.now.calls → ⊥ =
    λ fails. let to_fail = c.next_fails-fails.ensures.fails.1 (subst (λ (shelf : MemoryShelfState). FailsNext shelf.failing shelf.calls) (sym c.self.view_is) fails) in cc (c.if-fails.false) in
    Fetches-copied (FailsNext c.args.self.now.failing c.args.self.now.calls) (file_of c.args.self.now.files c.args.name.now) c.copy_named-fetched.new.into.items c.copy_named-fetched.result goes
    (subst (λ (shelf : MemoryShelfState). Copies (file_of shelf.files c.args.name.now) c.copy_named-fetched.new.into.items c.copy_named-fetched.result) c.self.view_is c.copy_named-fetched.ensures)

module _ (fails : Type 0) (content : Option (List ℕ)) (copy : List ℕ) where
  -- a call that is to fail, or that finds no file, fails, or memory runs out
  Fetches-fails : (result : Result (Unit {0}) ShelfFault) → Fetches fails content copy result → fails ⊎ (content ≡ None)
      → FailsOrLacksMemory result
  Fetches-fails (Ok done) fetched bad =
      absurd (⊎_elim (λ to_fail. fetched.0 to_fail) (λ none. let some : None ≡ Some copy = sym none ∙ fetched.1.0 in cc) bad)
  Fetches-fails (Err faults.TooLong) fetched bad =
      absurd (⊎_elim (λ to_fail. fetched.0 to_fail)
      (λ none. let some : None ≡ Some (copy ++ fetched.1.1.0) = sym none ∙ fetched.1.1.2 in cc) bad)
  Fetches-fails (Err faults.NoMemory) fetched bad = inr refl
  Fetches-fails (Err faults.Failed) fetched bad = inl refl

  -- and any other gives the file, unless memory runs out
  Fetches-gives : (result : Result (Unit {0}) ShelfFault) → Fetches fails content copy result → (fails → ⊥) → (own : List ℕ)
      → content ≡ Some own → GivesOrLacksMemory own result
  Fetches-gives (Ok done) fetched goes own is =
      let same : copy ≡ own = same_Some copy own (sym fetched.1.0 ∙ is) in
      inl (ap (λ b. cond b (Err faults.TooLong) (Ok tt)) (sym (le-ltb LONGEST_FILE (length own) (omega (arith, fetched.1.1, ap length same)))))
  Fetches-gives (Err faults.TooLong) fetched goes own is =
      let more : List ℕ = fetched.1.1.0 in
      let same : copy ++ more ≡ own = same_Some (copy ++ more) own (sym fetched.1.1.2 ∙ is) in
      let some : 0 < length more = fetched.1.1.1 in
      let long : LONGEST_FILE < length own = omega (arith, fetched.1.0, some, length-append copy more, ap length same) in
      inl (ap (λ b. cond b (Err faults.TooLong) (Ok tt)) (sym (lt-ltb LONGEST_FILE (length own) long)))
  Fetches-gives (Err faults.NoMemory) fetched goes own is = inr refl
  Fetches-gives (Err faults.Failed) fetched goes own is =
      absurd (⊎_elim goes (λ none. let some : None ≡ Some own = sym none ∙ is in cc) fetched.1)

pub returns-then-fails-clause-fails : goal.returns-then-fails-clause-fails
returns-then-fails-clause-fails c = Fetches-fails _ _ _ _ (returns-then-fails-clause-fetched c)

pub returns-else-fails-clause-fails : goal.returns-else-fails-clause-fails
returns-else-fails-clause-fails c = Fetches-fails _ _ _ _ (returns-else-fails-clause-fetched c)

pub returns-then-fails-clause-gives : goal.returns-then-fails-clause-gives
returns-then-fails-clause-gives c = Fetches-gives _ _ _ _ (returns-then-fails-clause-fetched c)

pub returns-else-fails-clause-gives : goal.returns-else-fails-clause-gives
returns-else-fails-clause-gives c = Fetches-gives _ _ _ _ (returns-else-fails-clause-fetched c)
