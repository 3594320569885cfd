-- What one turn does in the loop that goes over the registers from the last unit to the first.
-- Assumes nothing.
use mathlib.Core.Path.{◌≡◌, refl, sym, ap, ◌∙◌, subst}
use mathlib.Core.Bool.{Bool, true, false, cond, ◌&&◌, ◌||◌, false≢true}
use mathlib.Core.List.{List, [], ◌∷◌, ◌++◌, append_assoc}
use Prim.Native.Nat.{ℕ, suc, ◌+◌, ◌*◌, ◌-◌, ◌/◌, ◌%◌, ◌<◌, ◌≤◌, ◌^◌}
use native.Mathlib.Nat.{pow-succ'}
use native.Mathlib.Numerals.{add-one}
use native.Mathlib.Omega.{arith}
use lib.Dec.{eqb}
use lib.ListN.{length, get_or, length-append}
use lib.Seq.{get_or-append_seam}
use mir.Val.{bool_byte}
use Rattle.std.specs.List.{push}
use Rattle.rules.specs.PowerOn.{power_on}
use Rattle.rules.specs.declared.Cycle.{Cycle}
use Rattle.rules.specs.declared.Registers.{Registers}
use Rattle.board_rules.specs.Board.{Seat, seated, some_of, two_of}
use Rattle.theorems_boards.specs.Numbers.{may_drive, seat_drives}
use Rattle.board_run.specs.Plan.{units_from, Off, DrivingFrom}
use Rattle.board_run.proofs.Classes.{memory_class, memory-concerns}

-- the last of the registers that are left, those behind it having been looked at
module _ (rs left front behind : List Registers) (r : Registers) (ends : left ≡ push front r) (split : left ++ behind ≡ rs) where
  pub shorter : front ++ (r ∷ behind) ≡ rs
  shorter = sym (append_assoc front (r ∷ []) behind) ∙ ap (λ (l : List Registers). l ++ behind) (sym ends) ∙ split

  pub one_fewer : length left ≡ suc (length front)
  one_fewer = ap length ends ∙ length-append front (r ∷ []) ∙ add-one (length front)

  pub last_is : r ≡ get_or rs (length front) power_on.registers
  last_is =
      sym (get_or-append_seam front r behind power_on.registers)
      ∙ ap (λ (l : List Registers). get_or l (length front) power_on.registers) shorter

-- what is known of the units from k on, k being one lower
pub lower : (P : ℕ → Type 0) (k n count : ℕ) → n ≡ suc k → n ≤ count → P (suc (count - n)) → P (count - k)
lower P k n count e l p = let more : suc (count - n) ≡ count - k = omega (arith, e) in subst P more p

-- the mask has a bit for each unit from k on, counted as if there were sixteen
pub mask_bound : (k n mask b : ℕ) → n ≡ suc k → n ≤ 16 → b ≤ 1 → mask < 2 ^ (16 - n) → mask * 2 + b < 2 ^ (16 - k)
mask_bound k n mask b e l small m =
    let more : 16 - k ≡ suc (16 - n) = omega (arith, e) in
    rw (more, pow-succ' 2 (16 - n)) (omega arith)

-- drivers

two_some : (p : Seat → Bool) (l : List Seat) → (two_of p l || some_of p l) ≡ some_of p l
unfolding some_of two_of
two_some p [] = refl
two_some p (x ∷ l) = go (p x) (some_of p l) (two_of p l) (two_some p l)
  where
    go : (x any two : Bool) → (two || any) ≡ any → (cond x any two || (x || any)) ≡ (x || any)
    go true true two e = refl
    go true false two e = refl
    go false any two e = e

two-next : (x any two : Bool) → (two || any) ≡ any → (two || (x && any)) ≡ cond x any two
two-next true any two e = e
two-next false any true e = refl
two-next false any false e = refl

module _ (rs : List Registers) (k n : ℕ) (c : Cycle) where
  abbrev r : Registers
  r = get_or rs k power_on.registers

  abbrev drive : Bool
  drive = may_drive r.control.mr c

  abbrev on : Bool
  on = drive || (r.notes.awaits || (r.notes.own || r.notes.hold))

  pub driving_none : DrivingFrom rs k 0 c 0 false false
  unfolding units_from seated some_of two_of Off
  driving_none = record { one = λ ts left. refl; two = λ ts left. refl; off = λ ts left e. refl }

  bit-off : (b : Bool) (mask : ℕ) → eqb ((mask * 2 + bool_byte b) % 2) 1 ≡ false → b ≡ false
  bit-off false mask e = refl
  bit-off true mask e = let odd : (mask * 2 + 1) % 2 ≡ 1 = omega arith in absurd (false≢true (sym (rw odd at e)))

  half : (b : Bool) (mask : ℕ) → (mask * 2 + bool_byte b) / 2 ≡ mask
  half false mask = omega arith
  half true mask = omega arith

  swap : (d b : Bool) → (d || b) ≡ false → (b || d) ≡ false
  swap false false e = refl
  swap false true e = e
  swap true b e = absurd (false≢true (sym e))

  pub driving_turn : (mask : ℕ) (drives clash : Bool) → DrivingFrom rs (suc k) n c mask drives clash
      → DrivingFrom rs k (suc n) c (mask * 2 + bool_byte on) (drive || drives) (clash || (drive && drives))
  unfolding units_from seated some_of two_of Off
  driving_turn mask drives clash h = record {
    one = λ ts left. ap (λ (b : Bool). drive || b) (h.one ts (left / 2));
    two = λ ts left.
        ap (λ (b : Bool). b || (drive && drives)) (h.two ts (left / 2))
        ∙ ap (λ (b : Bool). two_of (seat_drives c) (seated (units_from rs ts (suc k) n) (left / 2)) || (drive && b)) (h.one ts (left / 2))
        ∙ two-next drive (some_of (seat_drives c) (seated (units_from rs ts (suc k) n) (left / 2)))
        (two_of (seat_drives c) (seated (units_from rs ts (suc k) n) (left / 2)))
        (two_some (seat_drives c) (seated (units_from rs ts (suc k) n) (left / 2)));
    off = λ ts left e. (
      (λ q. memory-concerns c r (eqb (left % 2) 1) (memory_class c e)
          ∙ swap drive (r.notes.awaits || (r.notes.own || r.notes.hold)) (bit-off on mask q)),
      rw (half on mask) (h.off ts (left / 2) e),
    );
  }
