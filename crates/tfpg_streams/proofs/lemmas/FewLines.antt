-- Bytes have no more lines than there are bytes, and one.
use Rattle.std.proofs.Common.{ℕ, ◌+◌, ◌-◌, ◌≤◌, List, [], ◌∷◌, length, arith}
use Rattle.std.specs.List.{slice_split}
use Rattle.std.proofs.lemmas.List.{length-append, length-take}
use Rattle.std.proofs.lemmas.List.Splits.{length-slice_split}
use Rattle.std.proofs.lemmas.List.Sums.{count_by-le-length}
use Rattle.tfpg_base.specs.Lines.{lines_of, whole_lines, line_of_part, last_part, ends_line}

short_part : (part : List ℕ) → length (line_of_part part) ≤ 1
short_part [] = omega arith
short_part (byte ∷ bytes) = omega arith

pub few_lines : (bytes : List ℕ) → length (lines_of bytes) ≤ length bytes + 1
few_lines bytes =
    let parts = slice_split ends_line bytes in
    omega (
      arith,
      length-append (whole_lines bytes) (line_of_part (last_part bytes)),
      length-take (length parts - 1) parts,
      short_part (last_part bytes),
      length-slice_split ends_line bytes,
      count_by-le-length ends_line bytes,
    )
