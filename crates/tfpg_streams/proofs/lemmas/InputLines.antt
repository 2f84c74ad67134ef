-- The lines of the input, as a reader of lines comes to them.
use Rattle.std.proofs.Common.{◌-◌, ◌≡◌, ◌⊎◌, ℕ, ◌+◌, ◌<◌, ◌≤◌, List, [], ◌∷◌, ◌++◌, length, take, Option, Some, None, Result, Ok, refl, sym, ap, subst, ◌∙◌, arith, inl, inr}
use Rattle.std.specs.Prelude.{IfSome, unwrap_or, slice_get}
use Rattle.std.proofs.lemmas.List.{take-append-le, append-nil, take_all}
use Rattle.std.proofs.lemmas.Option.{slice_get_within}
use Rattle.tfpg_base.specs.declared.line.Line.{Line}
use Rattle.tfpg_base.specs.declared.line.Line.TheVariants as line
use Rattle.tfpg_base.specs.declared.line.LineFault.{LineFault}
use Rattle.tfpg_base.specs.Outside.{SourceState, Takes, IsAtEnd}
use Rattle.tfpg_base.specs.Lines.{Reading, LinesState, LinesRepresent, Continues, IsNext, next_whole, lines_of, whole_lines, line_of_part, last_part}
use Rattle.tfpg_base.specs.declared.limits.TheConstants.{MAX_BYTES}
use Rattle.tfpg_base.proofs.lemmas.LinesOf.{lines_of-append}
use Rattle.tfpg_base.proofs.lemmas.Taking.{Takes-nothing}
use Rattle.tfpg_streams.specs.Streams.{HasLeft}

-- ---- what is left of the input

-- the bytes that the input has left, where they are known
abbrev pub rest_of : SourceState → List ℕ
rest_of input = unwrap_or input.left []

-- it has those left
pub rest_is_left : (input : SourceState) → HasLeft input (rest_of input)
rest_is_left input = by input.left
  where
    by : (left : Option (List ℕ)) → IfSome left (λ known. unwrap_or left [] ≡ known)
    by None = tt
    by (Some known) = refl

-- at its end it has none left
pub rest_at_end : (input : SourceState) → IsAtEnd input → rest_of input ≡ []
rest_at_end input end = by input.left end.left
  where
    by : (left : Option (List ℕ)) → IfSome left (λ rest. rest ≡ []) → unwrap_or left [] ≡ []
    by None h = refl
    by (Some known) h = h

module _ (reading : Reading) (first : List ℕ) (input : SourceState) (next : IsNext reading first (IsAtEnd input)) where
  -- a line that has come whole is a line of the bytes whatever follows
  front_of_whole_line : (rest : List ℕ) → next_whole reading ≡ Some first → take (length reading.given + 1) (lines_of (reading.taken ++ rest)) ≡ reading.given ++ first ∷ []
  front_of_whole_line rest whole =
      let all : take MAX_BYTES reading.taken ≡ reading.taken = take_all MAX_BYTES reading.taken next.few in
      let there : slice_get (whole_lines reading.taken) (length reading.given) ≡ Some first = sym (ap (λ (bytes : List ℕ). slice_get (whole_lines bytes) (length reading.given)) all) ∙ whole in
      let within : length reading.given + 1 ≤ length (whole_lines reading.taken) = omega (arith, slice_get_within (whole_lines reading.taken) (length reading.given) first there) in
      ap (take (length reading.given + 1)) (lines_of-append reading.taken rest)
      ∙ take-append-le (length reading.given + 1) (whole_lines reading.taken) (lines_of (last_part reading.taken ++ rest)) within
      ∙ sym (take-append-le (length reading.given + 1) (whole_lines reading.taken) (line_of_part (last_part reading.taken)) within)
      ∙ next.front

  -- the lines that were read are the first of the input
  pub front_of_input : take (length reading.given + 1) (lines_of (reading.taken ++ rest_of input)) ≡ reading.given ++ first ∷ []
  front_of_input = by next.whole
    where
      by : (next_whole reading ≡ Some first) ⊎ IsAtEnd input → take (length reading.given + 1) (lines_of (reading.taken ++ rest_of input)) ≡ reading.given ++ first ∷ []
      by (inl whole) = front_of_whole_line (rest_of input) whole
      by (inr end) = ap (λ (rest : List ℕ). take (length reading.given + 1) (lines_of (reading.taken ++ rest))) (rest_at_end input end)
          ∙ ap (λ (bytes : List ℕ). take (length reading.given + 1) (lines_of bytes)) (append-nil reading.taken) ∙ next.front

-- What holds where a call has found the end, after which no more was taken than may be.
pub record FoundEnd (reading : Reading) (before after : SourceState) : Type 0 where
  pub more : List ℕ
  pub takes : Takes before after more
  pub few : length (reading.taken ++ more) ≤ MAX_BYTES
  pub all : lines_of (reading.taken ++ more) ≡ reading.given
  pub end : IsAtEnd after
  pub no_fault : after.faults ≡ before.faults

pub came_to_end : (reading : Reading) (before after : SourceState) (old reader : LinesState) → length reading.taken ≤ MAX_BYTES
    → (reading.ended ≡ None) ⊎ ((reading.ended ≡ Some (Ok line.End)) × IsAtEnd before) → LinesRepresent old reading → Continues reading reading.ended before after (Ok line.End) reader
    → FoundEnd reading before after
came_to_end reading before after old reader few goes_on represents continues = go reading.ended refl goes_on continues
  where
    go : (ended : Option (Result Line LineFault)) → reading.ended ≡ ended → (ended ≡ None) ⊎ ((ended ≡ Some (Ok line.End)) × IsAtEnd before)
        → Continues reading ended before after (Ok line.End) reader → FoundEnd reading before after
    go None was is turn = record { more = turn.more; takes = turn.takes; few = turn.returns.2; all = turn.returns.0; end = turn.returns.1; no_fault = turn.faults }
    go (Some result) was (inl is) turn = absurd cc
    go (Some result) was (inr is) turn = record {
      more = [];
      takes = subst (λ source. Takes before source []) (sym turn.1) (Takes-nothing before);
      few = omega (arith, few, ap length (append-nil reading.taken));
      all = ap lines_of (append-nil reading.taken) ∙ represents.all_given (was ∙ is.0);
      end = subst IsAtEnd (sym turn.1) is.1;
      no_fault = ap (λ (source : SourceState). source.faults) turn.1;
    }

-- one line on, fewer are left
pub falls_short : (number after : ℕ) → number ≤ MAX_BYTES + 1 → after ≡ number + 1 → MAX_BYTES + 2 - after < MAX_BYTES + 2 - number
falls_short number after le e = omega arith

-- where it has come to its end, it had what was taken
pub all_taken : (before now : SourceState) (known taken : List ℕ) → before.left ≡ Some known → Takes before now taken → IsAtEnd now → known ≡ taken
all_taken before now known taken left takes end =
    let there = subst (λ (l : Option (List ℕ)). IfSome l (λ had. (rest : List ℕ) × (now.left ≡ Some rest) × (had ≡ taken ++ rest))) left takes in
    let none : there.0 ≡ [] = subst (λ (l : Option (List ℕ)). IfSome l (λ rest. rest ≡ [])) there.1 end.left in
    there.2 ∙ ap (λ (rest : List ℕ). taken ++ rest) none ∙ append-nil taken
