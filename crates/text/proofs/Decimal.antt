-- `decimal` is the decimal numeral: its digits say the number, and no zero stands in front.
-- Assumes nothing.
use Prim.Native.Nat.{ℕ, ◌*◌, ◌/◌, ◌%◌, ◌<◌, ◌≤◌}
use native.Mathlib.Nat.{div-div-eq-div-mul, div-lt_iff_lt-mul, mod-eq_of_lt}
use native.Mathlib.Omega.{arith}
use mathlib.Core.Path.{◌≡◌, refl}
use mathlib.Core.Bool.{Bool, true, false}
use mathlib.Core.List.{List, ◌++◌}
use lib.ListN.{get_or}
use lib.Dec.{leb}
use borrow.Author.Tests.{leb-true, leb-false}
use Rattle.text.specs.Digits.{decimals, place_text, decimal, value}

-- `decimal` with its tests decided
abbrev places : (e d c b : Bool) → ℕ → List ℕ
places e d c b n =
    place_text e (n / 10000 % 10)
    ++ (place_text d (n / 1000 % 10)
    ++ (place_text c (n / 100 % 10)
    ++ (place_text b (n / 10 % 10)
    ++ place_text true (n % 10))))

-- the topmost place of a number below ten times its weight
top : (n w : ℕ) → 0 < w → n < 10 * w → n / w % 10 ≡ n / w
top n w pos h = mod-eq_of_lt ((div-lt_iff_lt-mul pos).1 h)

by : (n : ℕ) (e d c b : Bool) → leb 10000 n ≡ e → leb 1000 n ≡ d → leb 100 n ≡ c → leb 10 n ≡ b → n < decimals
    → value 0 (places e d c b n) ≡ n
unfolding value
by n true true true true p q r s h =
    omega (arith, top n 10000 (omega arith) h, div-div-eq-div-mul n 10 10, div-div-eq-div-mul n 100 10, div-div-eq-div-mul n 1000 10)
by n false true true true p q r s h =
    omega (arith, top n 1000 (omega arith) (leb-false 10000 n p), div-div-eq-div-mul n 10 10, div-div-eq-div-mul n 100 10)
by n false false true true p q r s h = omega (arith, top n 100 (omega arith) (leb-false 1000 n q), div-div-eq-div-mul n 10 10)
by n false false false true p q r s h = omega (arith, top n 10 (omega arith) (leb-false 100 n r))
by n false false false false p q r s h = omega (arith, leb-false 10 n s)
by n true false c b p q r s h = absurd (omega (arith, leb-true 10000 n p, leb-false 1000 n q))
by n true true false b p q r s h = absurd (omega (arith, leb-true 1000 n q, leb-false 100 n r))
by n true true true false p q r s h = absurd (omega (arith, leb-true 100 n r, leb-false 10 n s))
by n false true false b p q r s h = absurd (omega (arith, leb-true 1000 n q, leb-false 100 n r))
by n false true true false p q r s h = absurd (omega (arith, leb-true 100 n r, leb-false 10 n s))
by n false false true false p q r s h = absurd (omega (arith, leb-true 100 n r, leb-false 10 n s))

pub decimal-value : (n : ℕ) → n < decimals → value 0 (decimal n) ≡ n
unfolding decimal
decimal-value n h = by n (leb 10000 n) (leb 1000 n) (leb 100 n) (leb 10 n) refl refl refl refl h

first : (n : ℕ) (e d c b : Bool) → leb 10000 n ≡ e → leb 1000 n ≡ d → leb 100 n ≡ c → leb 10 n ≡ b → n < decimals → 10 ≤ n
    → 48 < get_or (places e d c b n) 0 0
first n true d c b p q r s h m = omega (arith, top n 10000 (omega arith) h, leb-true 10000 n p)
first n false true c b p q r s h m = omega (arith, top n 1000 (omega arith) (leb-false 10000 n p), leb-true 1000 n q)
first n false false true b p q r s h m = omega (arith, top n 100 (omega arith) (leb-false 1000 n q), leb-true 100 n r)
first n false false false true p q r s h m = omega (arith, top n 10 (omega arith) (leb-false 100 n r), leb-true 10 n s)
first n false false false false p q r s h m = absurd (omega (arith, leb-false 10 n s))

-- a number of more than one digit does not begin with 0
pub decimal-first : (n : ℕ) → n < decimals → 10 ≤ n → 48 < get_or (decimal n) 0 0
unfolding decimal
decimal-first n h m = first n (leb 10000 n) (leb 1000 n) (leb 100 n) (leb 10 n) refl refl refl refl h m
