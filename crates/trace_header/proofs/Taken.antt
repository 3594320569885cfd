-- What a trace says of its mark, its version, its count and its length where no number refuses it.
-- Assumes nothing.
use mathlib.Core.Path.{◌≡◌, refl}
use mathlib.Core.Bool.{Bool, true, false, not}
use mathlib.Core.List.{List}
use Prim.Native.Nat.{ℕ, ◌≤◌}
use native.Mathlib.Omega.{arith}
use lib.Dec.{eqb, ltb}
use lib.ListN.{length}
use borrow.Author.Tests.{ltb-false, eqb-true, not-false}
use Rattle.trace_header.specs.Header.{head_size, Format, record_start, marked, version_of, count_of, refusal_by, refusal_in}

none_of : (s u o m v : Bool) → refusal_by s u o m v ≡ 0 → (s ≡ false) × (u ≡ false) × (o ≡ false) × (m ≡ false) × (v ≡ false)
none_of true u o m v e = absurd (omega (arith, e))
none_of false true o m v e = absurd (omega (arith, e))
none_of false false true m v e = absurd (omega (arith, e))
none_of false false false true v e = absurd (omega (arith, e))
none_of false false false false true e = absurd (omega (arith, e))
none_of false false false false false e = (refl, refl, refl, refl, refl)

module _ (f : Format) (t : List ℕ) (good : refusal_in f t ≡ 0) where
  abbrev other : Bool
  other = not (eqb (version_of t) f.version)

  abbrev many : Bool
  many = ltb f.most (count_of t)

  abbrev uneven : Bool
  uneven = not (eqb (length t) (record_start f (count_of t)))

  met : (head_size ≤ length t) × (not (marked t) ≡ false) × (other ≡ false) × (many ≡ false) × (uneven ≡ false)
  unfolding refusal_in
  met =
      let w = none_of (ltb (length t) head_size) (not (marked t)) other many uneven good in
      let long = ltb-false (length t) _ w.0 in
      (omega (arith, long), w.1, w.2, w.3, w.4)

  pub opened : (head_size ≤ length t) × (marked t ≡ true) × (version_of t ≡ f.version)
  opened = (met.0, not-false _ met.1, eqb-true (version_of t) f.version (not-false _ met.2))

  pub taken : (count_of t ≤ f.most) × (length t ≡ record_start f (count_of t))
  taken = (ltb-false f.most (count_of t) met.3, eqb-true (length t) (record_start f (count_of t)) (not-false _ met.4))
