-- Laws of what the outside gives: taking in turns, and counts of faults in turns.
use Rattle.std.proofs.Common.{◌≡◌, ℕ, List, [], ◌++◌, Option, Some, None, Err, refl, ap, ◌∙◌, sym, subst, append_assoc, IfSome}
use Rattle.tfpg_base.specs.declared.line.LineFault.{LineFault}
use Rattle.tfpg_base.specs.declared.line.LineFault.TheVariants as fault
use Rattle.tfpg_base.specs.Outside.{SourceState, Takes, Rose}
use Rattle.tfpg_base.specs.Lines.{CountsReadFault}

-- nothing is taken where what is left stays as it was
pub Takes-same_left : (before after : SourceState) → after.left ≡ before.left → Takes before after []
Takes-same_left before after same = go before.left same where
  go : (left : Option (List ℕ)) → after.left ≡ left → IfSome left (λ had. (rest : List ℕ) × (after.left ≡ Some rest) × (had ≡ rest))
  go None is = tt
  go (Some rest) is = (rest, is, refl)

-- nothing is taken where nothing changed
pub Takes-nothing : (source : SourceState) → Takes source source []
Takes-nothing source = Takes-same_left source source refl

-- equal bytes were taken
pub Takes-same : (before after : SourceState) (bytes same : List ℕ) → bytes ≡ same → Takes before after bytes → Takes before after same
Takes-same before after bytes same is takes = subst (λ b. Takes before after b) is takes

-- what was taken in two turns
pub Takes-append : (before mid after : SourceState) (first second : List ℕ) → Takes before mid first → Takes mid after second → Takes before after (first ++ second)
Takes-append before mid after first second one two = go before.left one where
  go : (left : Option (List ℕ)) → IfSome left (λ had. (rest : List ℕ) × (mid.left ≡ Some rest) × (had ≡ first ++ rest))
      → IfSome left (λ had. (rest : List ℕ) × (after.left ≡ Some rest) × (had ≡ first ++ second ++ rest))
  go None taken = tt
  go (Some had) taken =
      let later : (rest : List ℕ) × (after.left ≡ Some rest) × (taken.0 ≡ second ++ rest) = subst (λ left. IfSome left (λ had. (rest : List ℕ) × (after.left ≡ Some rest) × (had ≡ second ++ rest))) taken.1 two in
      (later.0, later.1, taken.2 ∙ ap (λ rest. first ++ rest) later.2 ∙ sym (append_assoc first second later.0))

-- a fault that was counted in a later turn was counted in the call
pub CountsReadFault-later : (X Y : Type 0) (why : LineFault) (before mid after : SourceState) → mid.faults ≡ before.faults → CountsReadFault {X = X} (Err why) mid after → CountsReadFault {X = Y} (Err why) before after
CountsReadFault-later X Y fault.ReadFault before mid after same counts = subst (λ count. Rose count after.faults) same counts
CountsReadFault-later X Y fault.TooMuchInput before mid after same counts = counts ∙ same
