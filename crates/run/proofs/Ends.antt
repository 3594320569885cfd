-- What a run's promise comes to, of a trace that is taken and of a buffer with room.
-- Assumes nothing.
use mathlib.Core.Path.{◌≡◌, refl, sym, ◌∙◌}
use mathlib.Core.Bool.{Bool, true, false}
use mathlib.Core.List.{List}
use Prim.Native.Nat.{ℕ, ◌*◌, ◌≤◌}
use native.Mathlib.Omega.{arith}
use lib.Dec.{eqb}
use lib.ListN.{length}
use lib.Seq.{sets}
use borrow.Author.Tests.{eqb-true, eqb-false, not-true, not-false, le-ltb}
use Rattle.trace_header.specs.Header.{format1, record_start, refusal_of}
use Rattle.trace_header.proofs.Taken.{taken}
use Rattle.unit_packed.specs.Packed.{width, packed_all}
use Rattle.rules.specs.PowerOn.{power_on}
use Rattle.rules.specs.Runs.{answers}
use Rattle.trace_records.specs.Trace.{given_of, cycles_of}
use Rattle.trace_records.proofs.Within.{all-given}
use Rattle.run.specs.Run.{answers_room, buffer_by, trace_refused, narrow, Ran}

-- all records of a trace that is taken lie within it
pub fits : (t : List ℕ) → refusal_of t ≡ 0 → (given_of t ≤ format1.most) × (length t ≡ record_start format1 (given_of t))
fits t e = rw (all-given format1 t e) (taken format1 t e)

-- a buffer with room for the longest trace: the number is the trace's own, and the answers of a trace that is taken stand in the buffer
module _ {t l m : List ℕ} {number : ℕ} (ran : Ran t l m number) (long : answers_room ≤ length l) where
  wide : refusal_of t ≡ 0 → narrow t l ≡ false
  wide e = le-ltb (length l) (width * given_of t) (omega (arith, (fits t e).0))

  by : (b : Bool) → trace_refused t ≡ b → (number ≡ refusal_of t) × (refusal_of t ≡ 0 → m ≡ buffer_by false false t l)
  by true e = (
    rw e at ran.says,
    λ (z : refusal_of t ≡ 0). absurd (eqb-false (refusal_of t) 0 (not-true (eqb (refusal_of t) 0) e) z),
  )
  by false e =
      let z : refusal_of t ≡ 0 = eqb-true (refusal_of t) 0 (not-false (eqb (refusal_of t) 0) e) in (
        rw (e, wide z) at ran.says ∙ sym z,
        λ (z : refusal_of t ≡ 0). rw (e, wide z) at ran.leaves,
      )

  pub with_room : (number ≡ refusal_of t) × (refusal_of t ≡ 0 → m ≡ sets l 0 (packed_all (answers power_on (cycles_of t))))
  with_room = by (trace_refused t) refl
