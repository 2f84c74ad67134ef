use Rattle.std.proofs.Common.{◌*◌, ◌%◌, ◌^◌, arith, w64}
use Rattle.std.proofs.lemmas.Nat.{and_le_l}
use Rattle.std.proofs.lemmas.Nat.Bits.{bit_at-trailing_zeros}
use Rattle.std.specs.Int.{bit_not, trailing_zeros}
use Rattle.tfpg_base.proofs.lemmas.Sets.{members_of-split}
use Rattle.tfpg_base.proofs.bits.split_lowest.Goals as goal

pub returns : goal.returns
returns c =
    let word = c.args.word in record {
      members = members_of-split word c.requires c.ranges.word.fits;
      index = (bit_at-trailing_zeros w64 word c.requires c.ranges.word.fits).0;
      rest = omega (arith, c.ranges.word.fits, and_le_l word (bit_not w64 (1 * 2 ^ trailing_zeros w64 word % 2 ^ 64)));
    }
