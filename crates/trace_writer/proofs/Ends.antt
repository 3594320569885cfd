-- What the writer's number 0 means.
-- Assumes nothing.
use mathlib.Core.Path.{◌≡◌, refl}
use mathlib.Core.Bool.{Bool, true, false}
use Prim.Native.Nat.{ℕ, ◌+◌, ◌<◌, ◌≤◌}
use native.Mathlib.Omega.{arith}
use lib.Dec.{ltb}
use borrow.Author.Tests.{ltb-false}
use Rattle.rules.specs.Refusals.{out_of_range}
use Rattle.rules.specs.declared.Cycle.{Cycle}
use Rattle.trace_header.specs.Header.{Format, format1, record_start}
use Rattle.trace_writer.specs.Writing.{number_by, number_in, record_number}

-- the cycle is within its numbers, one record more is allowed, and there is room for it
none_of : (outside many short : Bool) → number_by outside many short ≡ 0 → (outside ≡ false) × (many ≡ false) × (short ≡ false)
none_of true many short e = absurd (omega (arith, e))
none_of false true short e = absurd (omega (arith, e))
none_of false false true e = absurd (omega (arith, e))
none_of false false false e = (refl, refl, refl)

pub fits_in : (f : Format) (outside : Bool) (bytes count : ℕ) → number_in f outside bytes count ≡ 0
    → (outside ≡ false) × (count < f.most) × (record_start f (count + 1) ≤ bytes)
fits_in f outside bytes count e =
    let met = none_of outside (ltb f.most (count + 1)) (ltb bytes (record_start f (count + 1))) e in
    let most = ltb-false f.most (count + 1) met.1 in
    (met.0, omega (arith, most), ltb-false bytes (record_start f (count + 1)) met.2)

pub fits : (bytes count : ℕ) (c : Cycle) → record_number bytes count c ≡ 0
    → (out_of_range c ≡ false) × (count < format1.most) × (record_start format1 (count + 1) ≤ bytes)
unfolding record_number
fits bytes count c e = fits_in format1 (out_of_range c) bytes count e
