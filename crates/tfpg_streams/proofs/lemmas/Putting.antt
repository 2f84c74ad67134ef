-- Writing one piece after another.
use Rattle.std.proofs.Common.{◌≡◌, ℕ, ◌<◌, List, [], ◌++◌, length, Result, Ok, Err, Option, Some, None, IfSome, sym, ap, subst, ◌∙◌, append_assoc, arith}
use Rattle.std.proofs.lemmas.List.{append-nil, length-append}
use Rattle.std.specs.Prelude.{IsErrAnd}
use Rattle.tfpg_base.specs.declared.outside.Failed.{Failed}
use Rattle.tfpg_base.specs.Outside.{SinkState, Puts, Rose}
use Rattle.tfpg_streams.specs.Writing.{Cuts, Writes}

-- what was written in two turns
pub Puts-append : (before mid after : SinkState) (first second : List ℕ) → Puts before mid first → Puts mid after second → Puts before after (first ++ second)
Puts-append before mid after first second one two = go before.holds one
  where
    go : (holds : Option (List ℕ)) → IfSome holds (λ held. mid.holds ≡ Some (held ++ first)) → IfSome holds (λ held. after.holds ≡ Some (held ++ (first ++ second)))
    go None put = tt
    go (Some held) put =
        subst (λ (m : Option (List ℕ)). IfSome m (λ h. after.holds ≡ Some (h ++ second))) put two ∙ ap Some (append_assoc held first second)

-- nothing is written where what is held stays as it was
pub Puts-same_held : (before after : SinkState) → after.holds ≡ before.holds → Puts before after []
Puts-same_held before after same = go before.holds same
  where
    go : (holds : Option (List ℕ)) → after.holds ≡ holds → IfSome holds (λ held. after.holds ≡ Some (held ++ []))
    go None is = tt
    go (Some held) is = is ∙ ap Some (sym (append-nil held))

-- equal bytes were written
pub Puts-same : (before after : SinkState) (bytes same : List ℕ) → bytes ≡ same → Puts before after bytes → Puts before after same
Puts-same before after bytes same e h = subst (Puts before after) e h

-- ---- pieces one after another

-- the output failed with this much written
pub cut_here : (piece front rest : List ℕ) (before mid after : SinkState) → piece ≡ front ++ rest → 0 < length rest → Puts before mid front → mid.faults ≡ before.faults → after.holds ≡ mid.holds
    → Rose mid.faults after.faults → Cuts piece before after
cut_here piece front rest before mid after parts left puts no_fault same rose = record {
  front = front;
  rest = rest;
  parts = parts;
  some_left = left;
  puts = Puts-same before after (front ++ []) front (append-nil front) (Puts-append before mid after front [] puts (Puts-same_held mid after same));
  rose = subst (λ (count : ℕ). Rose count after.faults) no_fault rose;
}

-- the first piece was cut
pub cut_first : (first second : List ℕ) (before after : SinkState) → Cuts first before after → Cuts (first ++ second) before after
cut_first first second before after cut = record {
  front = cut.front;
  rest = cut.rest ++ second;
  parts = ap (λ (t : List ℕ). t ++ second) cut.parts ∙ append_assoc cut.front cut.rest second;
  some_left = omega (arith, cut.some_left, length-append cut.rest second);
  puts = cut.puts;
  rose = cut.rose;
}

-- the first was written, and the second was cut
pub cut_second : (first second : List ℕ) (before mid after : SinkState) → Puts before mid first → mid.faults ≡ before.faults → Cuts second mid after → Cuts (first ++ second) before after
cut_second first second before mid after puts no_fault cut = record {
  front = first ++ cut.front;
  rest = cut.rest;
  parts = ap (λ (t : List ℕ). first ++ t) cut.parts ∙ sym (append_assoc first cut.front cut.rest);
  some_left = cut.some_left;
  puts = Puts-append before mid after first cut.front puts cut.puts;
  rose = subst (λ (count : ℕ). Rose count after.faults) no_fault cut.rose;
}

-- the first was written, and the second as it was
pub Writes-then : (first second : List ℕ) (before mid after : SinkState) (result : Result (Unit {0}) Failed) → Puts before mid first → mid.faults ≡ before.faults → Writes second mid after result
    → Writes (first ++ second) before after result
Writes-then first second before mid after (Ok done) puts no_fault wrote = (Puts-append before mid after first second puts wrote.0, wrote.1 ∙ no_fault)
Writes-then first second before mid after (Err failed) puts no_fault cut = cut_second first second before mid after puts no_fault cut

-- the result of a failure says no more
pub Writes-failed : (text : List ℕ) (before after : SinkState) (result : Result (Unit {0}) Failed) (fault : Failed) → IsErrAnd result (λ e. e ≡ fault) → Cuts text before after → Writes text before after result
Writes-failed text before after (Ok done) fault is cut = absurd is
Writes-failed text before after (Err failed) fault is cut = cut

-- equal pieces
pub Writes-same : (piece same : List ℕ) (before after : SinkState) (result : Result (Unit {0}) Failed) → piece ≡ same → Writes piece before after result → Writes same before after result
Writes-same piece same before after result e writes = subst (λ (t : List ℕ). Writes t before after result) e writes
