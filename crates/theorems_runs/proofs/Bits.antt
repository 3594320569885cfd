-- Laws of flags set and cleared.
-- Assumes nothing.
use mathlib.Core.Path.{◌≡◌, refl, sym, ◌∙◌, ap}
use mathlib.Core.Bool.{Bool, true, false, ◌&&◌, ◌||◌}
use Prim.Native.Nat.{ℕ, zero, suc, ◌+◌, ◌-◌, ◌*◌, ◌/◌, ◌%◌, ◌^◌, ◌<◌, min, max}
use native.Mathlib.Omega.{arith}
use lib.Arith.{bin_ind}
use lib.Bits.{and_shr, and_mod, bit_and, bit_or, or_shr, or_mod, or_lt, and_mask, or_zero_l, or_add_and, and_le_r}
use lib.Bits.{and_step, or_step, and_comm, or_comm, or_self}
use lib.Dec.{eqb}
use borrow.Author.Tests.{ne_eqb}
use Rattle.rules.proofs.FlagLaws.{has-bit}
use Rattle.rules.specs.Flags.{has, lacks, with, without, flag_if}
use Rattle.rules.specs.Masks.{PRIMARY}

-- a mask of one bit asks for that bit, so a law of two bits is one of flags
two-bits : (P : ℕ → ℕ → Type 0) → P 0 0 → P 0 1 → P 1 0 → P 1 1 → (x y : ℕ) → x < 2 → y < 2 → P x y
two-bits P a b c d zero zero h k = a
two-bits P a b c d zero (suc zero) h k = b
two-bits P a b c d (suc zero) zero h k = c
two-bits P a b c d (suc zero) (suc zero) h k = d
two-bits P a b c d zero (suc (suc y)) h k = absurd (omega arith)
two-bits P a b c d (suc zero) (suc (suc y)) h k = absurd (omega arith)
two-bits P a b c d (suc (suc x)) y h k = absurd (omega arith)

pub has_or : (k a b : ℕ) → has (bit_or a b) (2 ^ k) ≡ (has a (2 ^ k) || has b (2 ^ k))
has_or k a b =
    rw (has-bit (bit_or a b) k, has-bit a k, has-bit b k, or_shr a b k, or_mod (a / 2 ^ k) (b / 2 ^ k) 1)
    (two-bits (λ x y. eqb (bit_or x y) 1 ≡ (eqb x 1 || eqb y 1)) refl refl refl refl (a / 2 ^ k % 2) (b / 2 ^ k % 2) (omega arith) (omega arith))

pub has_and : (k a b : ℕ) → has (bit_and a b) (2 ^ k) ≡ (has a (2 ^ k) && has b (2 ^ k))
has_and k a b =
    rw (has-bit (bit_and a b) k, has-bit a k, has-bit b k, and_shr a b k, and_mod (a / 2 ^ k) (b / 2 ^ k) 1)
    (two-bits (λ x y. eqb (bit_and x y) 1 ≡ (eqb x 1 && eqb y 1)) refl refl refl refl (a / 2 ^ k % 2) (b / 2 ^ k % 2) (omega arith) (omega arith))

-- The primary flags, which are the low six bits

primary : (v : ℕ) → lacks v PRIMARY ≡ eqb (v % 64) 0
primary v = ap (λ (n : ℕ). eqb n 0) (and_mask v 6)

pub or-none : (x y : ℕ) → eqb (bit_or x y) 0 ≡ (eqb x 0 && eqb y 0)
or-none zero y = ap (λ (n : ℕ). eqb n 0) (or_zero_l y)
or-none (suc x) y =
    rw (ne_eqb (suc x) 0 (λ e. omega arith)) (ne_eqb (bit_or (suc x) y) 0 λ e. omega (arith, or_add_and (suc x) y, and_le_r (suc x) y))

pub lacks_or : (a b : ℕ) → lacks (bit_or a b) PRIMARY ≡ (lacks a PRIMARY && lacks b PRIMARY)
lacks_or a b = rw (primary (bit_or a b), primary a, primary b, or_mod a b 6) (or-none (a % 64) (b % 64))

pub lacks_and : (v m : ℕ) → m % 64 ≡ 63 → lacks (bit_and v m) PRIMARY ≡ lacks v PRIMARY
lacks_and v m h =
    let low : v % 64 % 64 ≡ v % 64 = omega arith in
    rw (primary (bit_and v m), primary v, and_mod v m 6, h, and_mask (v % 64) 6, low)

pub lacks_small : (e : ℕ) → e < 64 → lacks e PRIMARY ≡ eqb e 0
lacks_small e h = let low : e % 64 ≡ e = omega arith in rw (primary e, low)

-- so many bits
pub small_if : {n : ℕ} (t : Bool) (m : ℕ) → m < n → flag_if t m < n
small_if true m h = h
small_if false m h = omega arith

pub or-if : {x : ℕ} (k : ℕ) (t : Bool) (m : ℕ) → m < 2 ^ k → x < 2 ^ k → with x (flag_if t m) < 2 ^ k
or-if {x} k t m h l = or_lt k x (flag_if t m) l (small_if t m h)

-- Flags set and cleared twice

-- an operation that goes digit by digit is associative where it is so on single digits, and where its first operand is zero
module _ (op digit : ℕ → ℕ → ℕ) (step : (a b : ℕ) → op a b ≡ op (a / 2) (b / 2) * 2 + digit (a % 2) (b % 2)) where
  associative : ((x y : ℕ) → x < 2 → y < 2 → digit x y < 2)
      → ((x y z : ℕ) → x < 2 → y < 2 → z < 2 → digit (digit x y) z ≡ digit x (digit y z))
      → ((b c : ℕ) → op (op 0 b) c ≡ op 0 (op b c))
      → (a b c : ℕ) → op (op a b) c ≡ op a (op b c)
  associative small one none =
      bin_ind (λ (a : ℕ). (b c : ℕ) → op (op a b) c ≡ op a (op b c)) none λ n ih b c.
      let hi : (a b : ℕ) → op a b / 2 ≡ op (a / 2) (b / 2) = λ a b. omega (arith, step a b, small (a % 2) (b % 2) (omega arith) (omega arith)) in
      let lo : (a b : ℕ) → op a b % 2 ≡ digit (a % 2) (b % 2) = λ a b.
      omega (arith, step a b, small (a % 2) (b % 2) (omega arith) (omega arith)) in
      rw (
        step (op n b) c,
        step n (op b c),
        hi n b,
        hi b c,
        lo n b,
        lo b c,
        ih (b / 2) (c / 2),
        one (n % 2) (b % 2) (c % 2) (omega arith) (omega arith) (omega arith),
      )

pub or_assoc : (a b c : ℕ) → bit_or (bit_or a b) c ≡ bit_or a (bit_or b c)
or_assoc = associative bit_or max or_step (λ x y h k. omega arith) (λ x y z h k l. omega arith) (λ b c. refl)

and_assoc : (a b c : ℕ) → bit_and (bit_and a b) c ≡ bit_and a (bit_and b c)
and_assoc = associative bit_and min and_step (λ x y h k. omega arith) (λ x y z h k l. omega arith) (λ b c. refl)

pub with_twice : (a m : ℕ) → with (with a m) m ≡ with a m
with_twice a m = or_assoc a m m ∙ ap (bit_or a) (or_self m)

pub with-either : (a m n : ℕ) → with (with a m) n ≡ with (with a n) m
with-either a m n = or_assoc a m n ∙ ap (bit_or a) (or_comm m n) ∙ sym (or_assoc a n m)

-- where the flags of n are among those of m
pub without-part : (v m n : ℕ) → bit_and (255 - m) (255 - n) ≡ 255 - m → without (without v m) n ≡ without v m
without-part v m n e = and_assoc v (255 - m) (255 - n) ∙ ap (bit_and v) e

pub without-either : (v m n : ℕ) → without (without v m) n ≡ without (without v n) m
without-either v m n = and_assoc v (255 - m) (255 - n) ∙ ap (bit_and v) (and_comm (255 - m) (255 - n)) ∙ sym (and_assoc v (255 - n) (255 - m))
