-- The bits that keep a set can be had back from its members.
use Rattle.std.specs.Prelude.{◌≡◌, ℕ, zero, suc, ◌+◌, ◌*◌, ◌%◌, ◌<◌, ◌^◌, [], ◌∷◌, ◌==◌, if◌then◌else◌}
use Rattle.std.specs.Int.{bit_at}
use Rattle.std.proofs.Common.{sym, ap, ◌∙◌, zero-add, add-one}
use Rattle.std.proofs.Math.Nat.{add_comm, zero-mul, one-mul, mod-one, mod-eq_of_lt, not-suc-le-zero, le_of_suc-le-suc}
use Rattle.std.proofs.Math.Pow.{mod-pow-add}
use Rattle.std.proofs.lemmas.List.Sums.{sum_by-append}
use Rattle.std.proofs.lemmas.Nat.Bits.{bit_at-lt}
use Rattle.tfpg_base.specs.declared.limits.TheConstants.{MAX_MEMBERS}
use Rattle.tfpg_base.specs.SetBits.{ones_below, members_of, bits_of}

-- one bit is worth the power of two of its index
pub bits_of-one : (bit index : ℕ) → bit < 2 → bits_of (if bit == 1 then index ∷ [] else []) ≡ bit * 2 ^ index
bits_of-one zero index small = sym (zero-mul (2 ^ index))
bits_of-one (suc zero) index small = zero-add (2 ^ index) ∙ sym (one-mul (2 ^ index))
bits_of-one (suc (suc bit)) index small = absurd (not-suc-le-zero (le_of_suc-le-suc (le_of_suc-le-suc small)))

-- the ones among the lowest bits are worth what those bits are
pub bits_of-ones_below : (count bits : ℕ) → bits_of (ones_below count bits) ≡ bits % 2 ^ count
unfolding ones_below
bits_of-ones_below zero bits = sym (mod-one bits)
bits_of-ones_below (suc count) bits =
    sum_by-append (λ index. 2 ^ index) (ones_below count bits) _
    ∙ ap (λ low. low + bits_of (if bit_at bits count == 1 then count ∷ [] else [])) (bits_of-ones_below count bits)
    ∙ ap (λ high. bits % 2 ^ count + high) (bits_of-one (bit_at bits count) count (bit_at-lt bits count))
    ∙ add_comm (bits % 2 ^ count) (bit_at bits count * 2 ^ count)
    ∙ sym (mod-pow-add bits 1 count)
    ∙ ap (λ upto. bits % 2 ^ upto) (add_comm 1 count ∙ add-one count)

-- The bits can be had back from the members.
pub bits_of-members_of : (bits : ℕ) → bits < 2 ^ 64 → bits_of (members_of bits) ≡ bits
unfolding members_of
bits_of-members_of bits small = bits_of-ones_below MAX_MEMBERS bits ∙ mod-eq_of_lt small
