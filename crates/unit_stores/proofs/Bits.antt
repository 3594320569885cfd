-- Flags as the bits of a number, from bit 0 up: each is found at its own bit, the number has no other bits, and a number with no other bits
-- is that of the flags that are found in it.
-- Assumes nothing.
use mathlib.Core.Path.{◌≡◌, refl, sym, ap, ◌∙◌}
use mathlib.Core.Bool.{Bool, true, false}
use mathlib.Core.List.{List, [], ◌∷◌}
use Prim.Native.Nat.{ℕ, zero, suc, ◌+◌, ◌*◌, ◌/◌, ◌%◌, ◌^◌, ◌<◌}
use native.Mathlib.Nat.{pow-suc, zero-mul, one-mul, add-mul, mul_assoc, mul_comm}
use native.Mathlib.Nat.{zero-div, div-one, div-div-eq-div-mul, mod-lt, mod-eq_of_lt}
use native.Mathlib.Numerals.{add-one}
use native.Mathlib.Omega.{arith}
use lib.Bits.{or_shifted_r}
use lib.Dec.{eqb}
use lib.ListN.{length, get_or}
use lib.Pow.{mod-pow-add}
use Rattle.rules.proofs.FlagLaws.{has-bit}
use Rattle.rules.specs.Flags.{has, with, flag_if}

-- flags beside those that stand already, each with the mask above the one before, and flags from bit 0 up; in a list that is written out
-- they compute to their masks
abbrev pub flags_from : (byte mask : ℕ) → List Bool → ℕ
flags_from byte mask [] = byte
flags_from byte mask (on ∷ rest) = flags_from (with byte (flag_if on mask)) (mask * 2) rest

abbrev pub flags : List Bool → ℕ
flags [] = 0
flags (on ∷ rest) = flags_from (flag_if on 1) 2 rest

-- the flags that are found in a number, n of them from bit k on
abbrev pub flags_in : (n k : ℕ) → ℕ → List Bool
flags_in zero k b = []
flags_in (suc n) k b = has b (2 ^ k) ∷ flags_in n (suc k) b

-- ---- the same number as a sum
sum : List Bool → ℕ
sum [] = 0
sum (on ∷ rest) = flag_if on 1 + 2 * sum rest

-- a flag set above all bits that stand
one_more : (on : Bool) (k x : ℕ) → x < 2 ^ k → with x (flag_if on (2 ^ k)) ≡ flag_if on 1 * 2 ^ k + x
one_more true k x h = ap (with x) (sym (one-mul (2 ^ k))) ∙ or_shifted_r 1 k x h
one_more false k x h = ap (with x) (sym (zero-mul (2 ^ k))) ∙ or_shifted_r 0 k x h

still_less : (on : Bool) (k x : ℕ) → x < 2 ^ k → flag_if on 1 * 2 ^ k + x < 2 ^ suc k
still_less true k x h = omega (arith, pow-suc 2 k)
still_less false k x h = omega (arith, pow-suc 2 k)

from_sum : (l : List Bool) (k x : ℕ) → x < 2 ^ k → flags_from x (2 ^ k) l ≡ sum l * 2 ^ k + x
unfolding sum
from_sum [] k x h = omega (arith, zero-mul (2 ^ k))
from_sum (on ∷ rest) k x h =
    let next : ℕ = flag_if on 1 * 2 ^ k + x in
    let double : sum rest * 2 ^ suc k ≡ 2 * sum rest * 2 ^ k =
    ap (λ (m : ℕ). sum rest * m) (pow-suc 2 k ∙ mul_comm (2 ^ k) 2) ∙ sym (mul_assoc (sum rest) 2 (2 ^ k))
    ∙ ap (λ (m : ℕ). m * 2 ^ k) (mul_comm (sum rest) 2) in
    ap (λ (m : ℕ). flags_from (with x (flag_if on (2 ^ k))) m rest) (sym (pow-suc 2 k))
    ∙ ap (λ (b : ℕ). flags_from b (2 ^ suc k) rest) (one_more on k x h)
    ∙ from_sum rest (suc k) next (still_less on k x h)
    ∙ omega (arith, double, add-mul (flag_if on 1) (2 * sum rest) (2 ^ k))

is_sum : (l : List Bool) → flags l ≡ sum l
unfolding sum
is_sum [] = refl
is_sum (true ∷ rest) = from_sum rest 1 1 (omega arith) ∙ omega arith
is_sum (false ∷ rest) = from_sum rest 1 0 (omega arith) ∙ omega arith

-- ---- each flag at its own bit
half : (on : Bool) (n : ℕ) → (flag_if on 1 + 2 * n) / 2 ≡ n
half true n = omega arith
half false n = omega arith

odd : (on : Bool) (n : ℕ) → (flag_if on 1 + 2 * n) / 1 % 2 ≡ flag_if on 1
odd true n = omega (arith, div-one (1 + 2 * n))
odd false n = omega (arith, div-one (0 + 2 * n))

bit_of_sum : (l : List Bool) (i : ℕ) → eqb (sum l / 2 ^ i % 2) 1 ≡ get_or l i false
unfolding sum
bit_of_sum [] i = ap (λ (n : ℕ). eqb (n % 2) 1) (zero-div (2 ^ i))
bit_of_sum (on ∷ rest) zero = ap (λ (n : ℕ). eqb n 1) (odd on (sum rest)) ∙ by on
  where
    by : (t : Bool) → eqb (flag_if t 1) 1 ≡ t
    by true = refl
    by false = refl
bit_of_sum (on ∷ rest) (suc i) =
    let all : ℕ = flag_if on 1 + 2 * sum rest in
    ap (λ (m : ℕ). eqb (all / m % 2) 1) (pow-suc 2 i ∙ mul_comm (2 ^ i) 2)
    ∙ ap (λ (n : ℕ). eqb (n % 2) 1) (sym (div-div-eq-div-mul all 2 (2 ^ i)))
    ∙ ap (λ (n : ℕ). eqb (n / 2 ^ i % 2) 1) (half on (sum rest))
    ∙ bit_of_sum rest i

pub flag_found : (l : List Bool) (i : ℕ) → has (flags l) (2 ^ i) ≡ get_or l i false
flag_found l i = ap (λ (n : ℕ). has n (2 ^ i)) (is_sum l) ∙ has-bit (sum l) i ∙ bit_of_sum l i

-- ---- no other bits
sum_less : (l : List Bool) → sum l < 2 ^ length l
unfolding sum
sum_less [] = omega arith
sum_less (true ∷ rest) = omega (arith, sum_less rest, pow-suc 2 (length rest))
sum_less (false ∷ rest) = omega (arith, sum_less rest, pow-suc 2 (length rest))

pub flags_less : (l : List Bool) → flags l < 2 ^ length l
flags_less l = rw (is_sum l) (sum_less l)

-- ---- a number with no other bits
bit-again : (b : ℕ) → flag_if (eqb (b % 2) 1) 1 ≡ b % 2
bit-again b = by (b % 2) (mod-lt b (omega arith))
  where
    by : (r : ℕ) → r < 2 → flag_if (eqb r 1) 1 ≡ r
    by zero h = refl
    by (suc zero) h = refl
    by (suc (suc r)) h = absurd (omega arith)

sum_found : (n k b : ℕ) → sum (flags_in n k b) ≡ b / 2 ^ k % 2 ^ n
unfolding sum
sum_found zero k b = omega arith
sum_found (suc n) k b =
    let c : ℕ = b / 2 ^ k in
    let later : b / 2 ^ suc k ≡ c / 2 = ap (λ (m : ℕ). b / m) (pow-suc 2 k) ∙ sym (div-div-eq-div-mul b (2 ^ k) 2) in
    let first : flag_if (has b (2 ^ k)) 1 ≡ c % 2 = ap (λ (t : Bool). flag_if t 1) (has-bit b k) ∙ bit-again c in
    let rest : sum (flags_in n (suc k) b) ≡ c / 2 % 2 ^ n = sum_found n (suc k) b ∙ ap (λ (m : ℕ). m % 2 ^ n) later in
    let split : c % 2 ^ suc n ≡ c / 2 % 2 ^ n * 2 + c % 2 = ap (λ (m : ℕ). c % 2 ^ m) (sym (add-one n)) ∙ mod-pow-add c n 1 in
    omega arith

pub flags_back : (n b : ℕ) → b < 2 ^ n → flags (flags_in n 0 b) ≡ b
flags_back n b h = is_sum (flags_in n 0 b) ∙ sum_found n 0 b ∙ ap (λ (m : ℕ). m % 2 ^ n) (div-one b) ∙ mod-eq_of_lt h
