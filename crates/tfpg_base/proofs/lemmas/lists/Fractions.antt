-- The order of fractions, each as what is above and what is below.
use Rattle.std.proofs.Common.{ℕ, ◌*◌, ◌<◌, ◌≤◌, arith}
use Rattle.std.proofs.Math.Nat.{mul-le-mul_right, mul-lt-mul_of_pos_right, le_of_mul-le-mul_right, lt_of_mul-lt-mul_right}

module _ (above_a below_a above_b below_b above_c below_c : ℕ) where
  -- no less than what is no less
  pub fractions-le : 1 ≤ below_b → above_b * below_a ≤ above_a * below_b → above_c * below_b ≤ above_b * below_c → above_c * below_a ≤ above_a * below_c
  fractions-le some first second =
      let left = mul-le-mul_right below_a second in
      let right = mul-le-mul_right below_c first in
      let products : above_c * below_a * below_b ≤ above_a * below_c * below_b = omega (arith, left, right) in
      le_of_mul-le-mul_right products (omega (arith, some))

  -- greater than what is no less
  pub fractions-lt_le : 1 ≤ below_c → above_b * below_a < above_a * below_b → above_c * below_b ≤ above_b * below_c → above_c * below_a < above_a * below_c
  fractions-lt_le some first second =
      let left = mul-le-mul_right below_a second in
      let right = mul-lt-mul_of_pos_right {k = below_c} first (omega (arith, some)) in
      let products : above_c * below_a * below_b < above_a * below_c * below_b = omega (arith, left, right) in
      lt_of_mul-lt-mul_right below_b products

  -- no less than what is greater
  pub fractions-le_lt : 1 ≤ below_a → above_b * below_a ≤ above_a * below_b → above_c * below_b < above_b * below_c → above_c * below_a < above_a * below_c
  fractions-le_lt some first second =
      let left = mul-lt-mul_of_pos_right {k = below_a} second (omega (arith, some)) in
      let right = mul-le-mul_right below_c first in
      let products : above_c * below_a * below_b < above_a * below_c * below_b = omega (arith, left, right) in
      lt_of_mul-lt-mul_right below_b products
