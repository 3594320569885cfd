-- What a mask means: a mask of one bit asks for that bit.
-- Assumes nothing.
use mathlib.Core.Path.{◌≡◌, refl, sym, ap, ◌∙◌}
use mathlib.Core.Bool.{not}
use mathlib.Core.Logic.{◌⊎◌, inl, inr, ⊎_elim}
use Prim.Native.Nat.{ℕ, zero, suc, ◌+◌, ◌-◌, ◌*◌, ◌/◌, ◌%◌, ◌^◌, ◌<◌}
use native.Mathlib.Nat.{mod-lt, zero-mul, one-mul, not-suc-le-zero, le_of_suc-le-suc}
use native.Mathlib.Omega.{arith}
use borrow.Author.Tests.{ne_eqb}
use lib.Bits.{bit_and, and_high}
use lib.Dec.{eqb}
use lib.Pow.{pow_pos, pow-add}
use Rattle.rules.specs.Flags.{has}

zero_or_one : (b : ℕ) → b < 2 → (b ≡ 0) ⊎ (b ≡ 1)
zero_or_one zero h = inl refl
zero_or_one (suc zero) h = inr refl
zero_or_one (suc (suc b)) h = absurd (not-suc-le-zero (le_of_suc-le-suc (le_of_suc-le-suc h)))

one_bit_mask : (x n : ℕ) → bit_and x (2 ^ n) ≡ x / 2 ^ n % 2 * 2 ^ n
one_bit_mask x n =
    let double : 2 ^ (1 + n) - 2 ^ n ≡ 2 ^ n = omega (arith, pow-add 2 1 n) in
    sym (ap (bit_and x) double) ∙ and_high x 1 n

pub has-bit : (x n : ℕ) → has x (2 ^ n) ≡ eqb (x / 2 ^ n % 2) 1
has-bit x n =
    ⊎_elim
    (λ (z : x / 2 ^ n % 2 ≡ 0). simp (one_bit_mask x n, z, zero-mul))
    (λ (o : x / 2 ^ n % 2 ≡ 1). simp (one_bit_mask x n, o, one-mul) (ap not (ne_eqb (2 ^ n) 0 (λ e. omega (arith, pow_pos n)))))
    (zero_or_one (x / 2 ^ n % 2) (mod-lt (x / 2 ^ n) (omega arith)))
