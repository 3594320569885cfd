-- A trace that no number refuses gives all its records, and a record that no number refuses lies within its trace.
-- Assumes nothing.
use mathlib.Core.Path.{◌≡◌, refl, ap}
use mathlib.Core.Bool.{Bool, true, false, not, cond}
use mathlib.Core.List.{List}
use Prim.Native.Nat.{ℕ, ◌+◌, ◌*◌, ◌<◌, ◌≤◌}
use native.Mathlib.Nat.{mul-suc, mul-le-mul_left}
use native.Mathlib.Omega.{arith}
use lib.Dec.{eqb, leb}
use lib.ListN.{length}
use borrow.Author.Tests.{leb-false, eqb-true, eqb-false, not-true, not-false, eq-eqb}
use Rattle.trace_header.specs.Header.{Format, record_start, count_of, refusal_in}
use Rattle.trace_header.proofs.Taken.{taken}
use Rattle.trace_records.specs.Trace.{given_in, record_refusal_by, record_refusal_in}

pub all-given : (f : Format) (t : List ℕ) → refusal_in f t ≡ 0 → given_in f t ≡ count_of t
unfolding given_in
all-given f t e = ap (λ (b : Bool). cond b (count_of t) 0) (eq-eqb (refusal_in f t) 0 e)

by : (f : Format) (t : List ℕ) (n : ℕ) (refused past : Bool) → not (eqb (refusal_in f t) 0) ≡ refused → leb (count_of t) n ≡ past
    → record_refusal_by refused past (refusal_in f t) ≡ 0 → (n < f.most) × (record_start f n + f.record_size ≤ length t)
by f t n true past r p e = absurd (eqb-false (refusal_in f t) 0 (not-true _ r) e)
by f t n false true r p e = absurd (omega (arith, e))
by f t n false false r p e =
    let told = taken f t (eqb-true (refusal_in f t) 0 (not-false _ r)) in
    let below : n < count_of t = leb-false (count_of t) n p in
    let whole : f.record_size * n + f.record_size ≤ f.record_size * count_of t =
    rw (mul-suc f.record_size n) at (mul-le-mul_left f.record_size below) in
    (omega (arith, told.0), omega (arith, told.1))

pub record_within : (f : Format) (t : List ℕ) (n : ℕ) → record_refusal_in f t n ≡ 0
    → (n < f.most) × (record_start f n + f.record_size ≤ length t)
unfolding record_refusal_in
record_within f t n e = by f t n (not (eqb (refusal_in f t) 0)) (leb (count_of t) n) refl refl e
