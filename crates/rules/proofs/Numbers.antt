-- A refusal is known by its number, and no refusal has the number 0 of what nothing says no to. Assumes nothing.
use mathlib.Core.Bool.{cond}
use mathlib.Core.Path.{◌≡◌, refl, sym, ap, ◌∙◌}
use Prim.Native.Nat.{ℕ}
use lib.Dec.{eqb}
use Rattle.std.specs.Prelude.{Result, Ok, Err}
use native.Mathlib.Omega.{arith}
use Rattle.rules.specs.Numbers.{refusal_number, number_of_outcome}
use Rattle.rules.specs.declared.refusal.Refusal.{Refusal}
use Rattle.rules.specs.declared.refusal.Refusal.TheVariants.{OutOfRange, Damaged, Unlisted, WrongWay, NoTrace, OtherVersion, TooMany, WrongLength}
use Rattle.rules.specs.declared.refusal.Refusal.TheVariants.{PastTheCount, NoRoomToRecord, WrongCount, TwoDrive, SeveralRead, NoRoom}

-- the refusal of a number
refusal_at : ℕ → Refusal
refusal_at n =
    cond (eqb n 1) OutOfRange (cond (eqb n 2) Damaged (cond (eqb n 3) Unlisted (cond (eqb n 4) WrongWay
    (cond (eqb n 5) NoTrace (cond (eqb n 6) OtherVersion (cond (eqb n 7) TooMany (cond (eqb n 8) WrongLength
    (cond (eqb n 9) PastTheCount (cond (eqb n 10) NoRoomToRecord (cond (eqb n 11) WrongCount (cond (eqb n 12) TwoDrive
    (cond (eqb n 13) SeveralRead NoRoom))))))))))))

back : (r : Refusal) → refusal_at (refusal_number r) ≡ r
unfolding refusal_at
back OutOfRange = refl
back Damaged = refl
back Unlisted = refl
back WrongWay = refl
back NoTrace = refl
back OtherVersion = refl
back TooMany = refl
back WrongLength = refl
back PastTheCount = refl
back NoRoomToRecord = refl
back WrongCount = refl
back TwoDrive = refl
back SeveralRead = refl
back NoRoom = refl

pub refusal_by_number : (r s : Refusal) → refusal_number r ≡ refusal_number s → r ≡ s
refusal_by_number r s e = sym (back r) ∙ ap refusal_at e ∙ back s

pub refusal_says_no : (r : Refusal) → refusal_number r ≡ 0 → ⊥
refusal_says_no OutOfRange e = absurd (omega (arith, e))
refusal_says_no Damaged e = absurd (omega (arith, e))
refusal_says_no Unlisted e = absurd (omega (arith, e))
refusal_says_no WrongWay e = absurd (omega (arith, e))
refusal_says_no NoTrace e = absurd (omega (arith, e))
refusal_says_no OtherVersion e = absurd (omega (arith, e))
refusal_says_no TooMany e = absurd (omega (arith, e))
refusal_says_no WrongLength e = absurd (omega (arith, e))
refusal_says_no PastTheCount e = absurd (omega (arith, e))
refusal_says_no NoRoomToRecord e = absurd (omega (arith, e))
refusal_says_no WrongCount e = absurd (omega (arith, e))
refusal_says_no TwoDrive e = absurd (omega (arith, e))
refusal_says_no SeveralRead e = absurd (omega (arith, e))
refusal_says_no NoRoom e = absurd (omega (arith, e))

-- an outcome that carries no value is its number
pub outcome_by_number : (x y : Result (Unit {0}) Refusal) → number_of_outcome x ≡ number_of_outcome y → x ≡ y
outcome_by_number (Ok u) (Ok v) e = refl
outcome_by_number (Ok u) (Err s) e = absurd (refusal_says_no s (sym e))
outcome_by_number (Err r) (Ok v) e = absurd (refusal_says_no r e)
outcome_by_number (Err r) (Err s) e = ap Err (refusal_by_number r s e)
