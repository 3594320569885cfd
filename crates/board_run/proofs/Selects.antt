-- The select bits of the first n units as a number: whether it is 0, how many ones it has, and where its lowest stands.
-- Assumes nothing.
use mathlib.Core.Path.{◌≡◌, refl, sym, ap, ◌∙◌}
use mathlib.Core.Bool.{Bool, true, false, not, cond, ◌||◌}
use Prim.Native.Nat.{ℕ, zero, suc, ◌+◌, ◌*◌, ◌/◌, ◌%◌, ◌^◌, ◌<◌, ◌≤◌}
use native.Mathlib.Nat.{add-zero, add-suc, suc-add, mod-one, pow-suc, le_of_suc-le-suc}
use native.Mathlib.Omega.{arith}
use borrow.Author.Tests.{ne_eqb, lt-ltb, le-ltb}
use lib.Arith.{mod-mul}
use lib.Count.{ones, ones_in, ones_step, count_trailing_zeros, under}
use lib.Dec.{eqb, ltb}
use lib.Pow.{pow_pos, pow_mono}
use Rattle.std.proofs.lemmas.Nat.{zero_from_ones}
use Rattle.std.specs.Bool.{then_some}
use Rattle.std.specs.Prelude.{is_some, unwrap_or}
use Rattle.board_run.specs.Plan.{any_on, several_on, first_on}

-- the first n of the bits
abbrev pub low : (n left : ℕ) → ℕ
low n left = left % 2 ^ n

low_next : (n left : ℕ) → low (suc n) left ≡ low n (left / 2) * 2 + left % 2
low_next n left = ap (λ (k : ℕ). left % k) (pow-suc 2 n) ∙ mod-mul left (pow_pos n) (omega arith)

half : (n left : ℕ) → low (suc n) left / 2 ≡ low n (left / 2)
half n left = let e = low_next n left in omega (arith, e)

last : (n left : ℕ) → low (suc n) left % 2 ≡ left % 2
last n left = let e = low_next n left in omega (arith, e)

zero_test : (x y : ℕ) → (x ≡ 0 → y ≡ 0) → (y ≡ 0 → x ≡ 0) → eqb x 0 ≡ eqb y 0
zero_test zero y f g = sym (ap (λ (k : ℕ). eqb k 0) (f refl))
zero_test (suc x) y f g = ne_eqb (suc x) 0 (λ e. omega (arith, e)) ∙ sym (ne_eqb y 0 (λ e. let z : suc x ≡ 0 = g e in absurd (omega arith)))

pub any_is : (n left : ℕ) → any_on n left ≡ not (eqb (low n left) 0)
unfolding any_on
any_is zero left = rw (mod-one left)
any_is (suc n) left =
    ap (λ (b : Bool). eqb (left % 2) 1 || b) (any_is n (left / 2)) ∙ go (left % 2) (omega arith) (low n (left / 2)) (low (suc n) left) (low_next n left)
  where
    go : (r : ℕ) → r < 2 → (q l : ℕ) → l ≡ q * 2 + r → (eqb r 1 || not (eqb q 0)) ≡ not (eqb l 0)
    go zero h q l e = ap not (zero_test q l (λ z. omega (arith, e, z)) (λ z. omega (arith, e, z)))
    go (suc zero) h q l e = ap not (sym (ne_eqb l 0 (λ z. omega (arith, e, z))))
    go (suc (suc r)) h q l e = absurd (omega arith)

ones_zero : ones 0 ≡ 0
unfolding ones ones_in
ones_zero = refl

some_one : (q : ℕ) → not (eqb q 0) ≡ ltb 1 (1 + ones q)
some_one zero = let z = ones_zero in sym (le-ltb 1 (1 + ones 0) (omega (arith, z)))
some_one (suc q) = ap not (ne_eqb (suc q) 0 (λ e. omega (arith, e))) ∙ go (ones (suc q)) refl
  where
    go : (k : ℕ) → ones (suc q) ≡ k → true ≡ ltb 1 (1 + ones (suc q))
    go zero e = let z = zero_from_ones (suc q) e in absurd (omega (arith, z))
    go (suc k) e = sym (lt-ltb 1 (1 + ones (suc q)) (omega (arith, e)))

pub several_is : (n left : ℕ) → several_on n left ≡ ltb 1 (ones (low n left))
unfolding several_on
several_is zero left = rw (mod-one left, ones_zero)
several_is (suc n) left =
    ap (λ (b : Bool). cond (eqb (left % 2) 1) b (several_on n (left / 2))) (any_is n (left / 2))
    ∙ ap (λ (b : Bool). cond (eqb (left % 2) 1) (not (eqb (low n (left / 2)) 0)) b) (several_is n (left / 2))
    ∙ go (left % 2) (omega arith)
    ∙ ap (λ (k : ℕ). ltb 1 k) (sym count)
  where
    count : ones (low (suc n) left) ≡ left % 2 + ones (low n (left / 2))
    count =
        ones_step (low (suc n) left)
        ∙ ap (λ (r : ℕ). r + ones (low (suc n) left / 2)) (last n left)
        ∙ ap (λ (q : ℕ). left % 2 + ones q) (half n left)

    go : (r : ℕ) → r < 2
        → cond (eqb r 1) (not (eqb (low n (left / 2)) 0)) (ltb 1 (ones (low n (left / 2)))) ≡ ltb 1 (r + ones (low n (left / 2)))
    go zero h = ap (λ (k : ℕ). ltb 1 k) (omega arith)
    go (suc zero) h = some_one (low n (left / 2))
    go (suc (suc r)) h = absurd (omega arith)

-- where a bit is on, the lowest
first_lowest : (i n k left : ℕ) → n ≤ k → 0 < low n left → first_on i n left ≡ i + count_trailing_zeros k (low n left)
unfolding first_on count_trailing_zeros
first_lowest i zero k left h some = let z = mod-one left in absurd (omega (arith, z))
first_lowest i (suc n) zero left h some = absurd (omega arith)
first_lowest i (suc n) (suc k) left h some =
    go (left % 2) (omega arith)
    (λ e. let next = low_next n left in first_lowest (suc i) n k (left / 2) (le_of_suc-le-suc h) (omega (arith, e, next)))
    ∙ ap (λ (r : ℕ). i + under r (count_trailing_zeros k (low n (left / 2)))) (sym (last n left))
    ∙ ap (λ (q : ℕ). i + under (low (suc n) left % 2) (count_trailing_zeros k q)) (sym (half n left))
  where
    go : (r : ℕ) → r < 2 → (r ≡ 0 → first_on (suc i) n (left / 2) ≡ suc i + count_trailing_zeros k (low n (left / 2)))
        → cond (eqb r 1) i (first_on (suc i) n (left / 2)) ≡ i + under r (count_trailing_zeros k (low n (left / 2)))
    go zero h later = later refl ∙ suc-add i _ ∙ sym (add-suc i _)
    go (suc zero) h later = sym (add-zero i)
    go (suc (suc r)) h later = absurd (omega arith)

-- where none is, the number behind the last
first_none : (i n left : ℕ) → low n left ≡ 0 → first_on i n left ≡ i + n
unfolding first_on
first_none i zero left e = sym (add-zero i)
first_none i (suc n) left e =
    let next = low_next n left in
    let even : left % 2 ≡ 0 = omega (arith, e, next) in
    let none : low n (left / 2) ≡ 0 = omega (arith, e, next) in
    rw even (first_none (suc i) n (left / 2) none ∙ suc-add i n ∙ sym (add-suc i n))

pub first_is : (n k left : ℕ) → n ≤ k
    → unwrap_or (then_some (not (eqb (low n left) 0)) (count_trailing_zeros k (low n left))) n ≡ first_on 0 n left
first_is n k left h = go (low n left) refl
  where
    go : (l : ℕ) → low n left ≡ l → unwrap_or (then_some (not (eqb l 0)) (count_trailing_zeros k l)) n ≡ first_on 0 n left
    go zero e = let z : n ≡ 0 + n = omega arith in z ∙ sym (first_none 0 n left e)
    go (suc l) e =
        let t : ℕ = count_trailing_zeros k (suc l) in
        let z : t ≡ 0 + t = omega arith in
        rw (ne_eqb (suc l) 0 (λ q. omega (arith, q)))
        (z ∙ ap (λ (x : ℕ). 0 + count_trailing_zeros k x) (sym e) ∙ sym (first_lowest 0 n k left h (omega (arith, e))))

pub some_is : (n left : ℕ) (x : ℕ) → is_some (then_some (not (eqb (low n left) 0)) x) ≡ any_on n left
some_is n left x = go (not (eqb (low n left) 0)) ∙ sym (any_is n left)
  where
    go : (b : Bool) → is_some (then_some b x) ≡ b
    go true = refl
    go false = refl

pub place : (n : ℕ) → n ≤ 16 → 1 * 2 ^ n % 4294967296 ≡ 2 ^ n
place n h =
    let small : 2 ^ n ≤ 2 ^ 16 = pow_mono h in
    let one : 1 * 2 ^ n ≡ 2 ^ n = omega arith in
    ap (λ (k : ℕ). k % 4294967296) one ∙ omega (arith, small)
