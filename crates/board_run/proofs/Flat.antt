-- The units that the flat arrays hold: unit k has registers k, and the 64 descriptors from 64 x k on.
-- Assumes nothing.
use mathlib.Core.Path.{◌≡◌, refl, sym, ap, ◌∙◌}
use mathlib.Core.Logic.{◌≢◌, ⊎_elim}
use mathlib.Core.Bool.{Bool, true, false}
use mathlib.Core.List.{List, ◌∷◌, ◌++◌}
use Prim.Native.Nat.{ℕ, zero, suc, ◌+◌, ◌*◌, ◌-◌, ◌<◌, ◌≤◌}
use native.Mathlib.Nat.{add-zero, add-suc, suc-add, not-suc-le-zero, le_of_suc-le-suc, eq-or-lt_of_le}
use native.Mathlib.Omega.{arith}
use lib.Dec.{ltb}
use lib.ListN.{length, get_or, take, drop, set, length-take, length-drop, length-set, take-append-drop}
use lib.Seq.{get_or-take, get_or-drop, get_or-set_same, get_or-set_other, take-set-le, take-set-lt, drop-set-lt, drop-set-add, length-take-le, take_at, drop_at, drop-drop}
use Rattle.std.proofs.lemmas.List.{drop-append-le, take-append-le}
use borrow.Rule.Slice.PartMut.{put_mid, same_len_mid, take_put, drop_put}
use borrow.Author.Tests.{ltb-true, ltb-false}
use Rattle.rules.specs.PowerOn.{power_on}
use Rattle.rules.specs.declared.Descriptor.{Descriptor}
use Rattle.rules.specs.declared.Registers.{Registers}
use Rattle.rules.specs.declared.Unit.{Unit}
use Rattle.board_run.specs.Plan.{table_of, unit_of, units_from, units_of, Changed}

-- Lists of them

from_length : (rs : List Registers) (ts : List Descriptor) (k n : ℕ) → length (units_from rs ts k n) ≡ n
unfolding units_from
from_length rs ts k zero = refl
from_length rs ts k (suc n) = ap suc (from_length rs ts (suc k) n)

pub units-length : (rs : List Registers) (ts : List Descriptor) (n : ℕ) → length (units_of rs ts n) ≡ n
units-length rs ts n = from_length rs ts 0 n

from_at : (rs : List Registers) (ts : List Descriptor) (k n i : ℕ) (d : Unit) → i < n → get_or (units_from rs ts k n) i d ≡ unit_of rs ts (k + i)
unfolding units_from
from_at rs ts k zero i d h = absurd (not-suc-le-zero h)
from_at rs ts k (suc n) zero d h = ap (unit_of rs ts) (sym (add-zero k))
from_at rs ts k (suc n) (suc i) d h =
    from_at rs ts (suc k) n i d (le_of_suc-le-suc h) ∙ ap (unit_of rs ts) (suc-add k i ∙ sym (add-suc k i))

pub units_at : (rs : List Registers) (ts : List Descriptor) (n i : ℕ) (d : Unit) → i < n → get_or (units_of rs ts n) i d ≡ unit_of rs ts i
units_at rs ts n i d h = from_at rs ts 0 n i d h ∙ ap (unit_of rs ts) (omega arith)

module _ (rs rs' : List Registers) (ts ts' : List Descriptor) where
  from_same : (k n : ℕ) → ((j : ℕ) → k ≤ j → unit_of rs' ts' j ≡ unit_of rs ts j) → units_from rs' ts' k n ≡ units_from rs ts k n
  unfolding units_from
  from_same k zero h = refl
  from_same k (suc n) h =
      ap (λ (u : Unit). u ∷ units_from rs' ts' (suc k) n) (h k (omega arith))
      ∙ ap (λ (l : List Unit). unit_of rs ts k ∷ l) (from_same (suc k) n (λ j e. h j (omega arith)))

  from_set : (k n i m : ℕ) (v : Unit) → m ≡ k + i → i < n → ((j : ℕ) → j ≢ m → unit_of rs' ts' j ≡ unit_of rs ts j) → unit_of rs' ts' m ≡ v
      → units_from rs' ts' k n ≡ set (units_from rs ts k n) i v
  unfolding units_from
  from_set k zero i m v e h same here = absurd (not-suc-le-zero h)
  from_set k (suc n) zero m v e h same here =
      let at : m ≡ k = e ∙ add-zero k in
      ap (λ (u : Unit). u ∷ units_from rs' ts' (suc k) n) (ap (unit_of rs' ts') (sym at) ∙ here)
      ∙ ap (λ (l : List Unit). v ∷ l) (from_same (suc k) n (λ j q. same j (λ x. omega arith)))
  from_set k (suc n) (suc i) m v e h same here =
      ap (λ (u : Unit). u ∷ units_from rs' ts' (suc k) n) (same k (λ x. omega arith))
      ∙ ap (λ (l : List Unit). unit_of rs ts k ∷ l) (from_set (suc k) n i m v (omega arith) (le_of_suc-le-suc h) same here)

  -- one unit changed, and no other
  pub units-set : (n i : ℕ) (v : Unit) → i < n → ((j : ℕ) → j ≢ i → unit_of rs' ts' j ≡ unit_of rs ts j) → unit_of rs' ts' i ≡ v
      → units_of rs' ts' n ≡ set (units_of rs ts n) i v
  units-set n i v h same here = from_set 0 n i i v (omega arith) h same here

-- Stores

-- a descriptor of a unit
pub descriptor_at_lem : (ts : List Descriptor) (k p : ℕ) (d : Descriptor) → p < 64 → get_or (table_of ts k) p d ≡ get_or ts (64 * k + p) d
descriptor_at_lem ts k p d h = get_or-take 64 (drop (64 * k) ts) p d h ∙ get_or-drop (64 * k) ts p d

-- one stored in the table of unit i
pub table_here : (ts : List Descriptor) (i p : ℕ) (e : Descriptor) → p < 64 → table_of (set ts (64 * i + p) e) i ≡ set (table_of ts i) p e
table_here ts i p e h = ap (take 64) (drop-set-add (64 * i) ts p e) ∙ take-set-lt 64 (drop (64 * i) ts) p e h

other_lt : (i j : ℕ) → j ≢ i → j ≤ i → j < i
other_lt i j n h = ⊎_elim (λ (e : j ≡ i). absurd (n e)) (λ l. l) (eq-or-lt_of_le h)

-- leaves those of the others
pub table_there : (ts : List Descriptor) (i p j : ℕ) (e : Descriptor) → p < 64 → j ≢ i → table_of (set ts (64 * i + p) e) j ≡ table_of ts j
table_there ts i p j e h other = go (ltb i j) refl
  where
    go : (b : Bool) → ltb i j ≡ b → table_of (set ts (64 * i + p) e) j ≡ table_of ts j
    go true q =
        let before : i < j = ltb-true i j q in
        ap (take 64) (drop-set-lt (64 * j) ts (64 * i + p) e (omega arith))
    go false q =
        let behind : j ≤ i = ltb-false i j q in
        let apart : j + 1 ≤ i = omega (arith, other_lt i j other behind) in
        let at : 64 * i + p ≡ 64 * j + (64 * i + p - 64 * j) = omega arith in
        ap (λ (k : ℕ). table_of (set ts k e) j) at
        ∙ ap (take 64) (drop-set-add (64 * j) ts (64 * i + p - 64 * j) e)
        ∙ take-set-le 64 (drop (64 * j) ts) (64 * i + p - 64 * j) e (omega arith)

pub table_long : (ts : List Descriptor) (k : ℕ) → 64 * k + 64 ≤ length ts → length (table_of ts k) ≡ 64
table_long ts k h = simp (length-take, length-drop) (omega arith)

-- one stored is a change of one table
pub stored_changed : (ts : List Descriptor) (i p : ℕ) (e : Descriptor) → p < 64 → Changed i (set (table_of ts i) p e) ts (set ts (64 * i + p) e)
stored_changed ts i p e h = record {
  size = length-set ts (64 * i + p) e;
  here = table_here ts i p e h;
  there = λ j other. table_there ts i p j e h other;
}

-- the table of unit i put back, as the code cut it out
table_before : (a j : ℕ) (ts : List Descriptor) → a ≤ length ts → 64 * j + 64 ≤ a → table_of (take a ts) j ≡ table_of ts j
table_before a j ts h l =
    let front : length (take a ts) ≡ a = length-take-le a ts h in
    let left : length (drop (64 * j) (take a ts)) ≡ a - 64 * j = length-drop (64 * j) (take a ts) ∙ ap (λ (k : ℕ). k - 64 * j) front in
    sym (take-append-le 64 (drop (64 * j) (take a ts)) (drop a ts) (omega (arith, left)))
    ∙ ap (take 64) (sym (drop-append-le (64 * j) (take a ts) (drop a ts) (omega (arith, front))))
    ∙ ap (λ (m : List Descriptor). table_of m j) (take-append-drop a ts)

table_behind : (e j : ℕ) (ts : List Descriptor) → e ≤ 64 * j → take 64 (drop (64 * j - e) (drop e ts)) ≡ table_of ts j
table_behind e j ts h = ap (take 64) (drop-drop (64 * j - e) e ts ∙ ap (λ (k : ℕ). drop k ts) (omega arith))

module _ (ts y : List Descriptor) (i : ℕ) (room : 64 * i + 64 ≤ length ts) (long : length y ≡ 64) where
  abbrev part : ℕ
  part = 64 * i + 64 - 64 * i

  whole : part ≡ 64
  whole = omega arith

  put_size : length (put_mid (64 * i) part ts y) ≡ length ts
  put_size = same_len_mid (64 * i) part ts y (long ∙ sym (ap (λ (k : ℕ). length (take k (drop (64 * i) ts))) whole ∙ table_long ts i room))

  pub put_changed : Changed i y ts (put_mid (64 * i) part ts y)
  put_changed = record {
    size = put_size;
    here =
        ap (take 64) (drop_at (take (64 * i) ts) (y ++ drop part (drop (64 * i) ts)) (64 * i) (length-take-le (64 * i) ts (omega arith)))
        ∙ take_at y (drop part (drop (64 * i) ts)) 64 long;
    there = λ j other. go j other (ltb i j) refl;
  }
    where
      go : (j : ℕ) → j ≢ i → (b : Bool) → ltb i j ≡ b → table_of (put_mid (64 * i) part ts y) j ≡ table_of ts j
      go j other true q =
          let behind : i < j = ltb-true i j q in
          sym (table_behind (64 * i + 64) j (put_mid (64 * i) part ts y) (omega arith))
          ∙ ap (λ (m : List Descriptor). take 64 (drop (64 * j - (64 * i + 64)) m)) (drop_put (64 * i) (64 * i + 64) ts y (omega arith) room (omega (arith, long)))
          ∙ table_behind (64 * i + 64) j ts (omega arith)
      go j other false q =
          let before : j ≤ i = ltb-false i j q in
          let apart : j + 1 ≤ i = omega (arith, other_lt i j other before) in
          sym (table_before (64 * i) j (put_mid (64 * i) part ts y) (omega (arith, put_size)) (omega arith))
          ∙ ap (λ (m : List Descriptor). table_of m j) (take_put (64 * i) part ts y (omega arith))
          ∙ table_before (64 * i) j ts (omega arith) (omega arith)

pub kept-changed : (ts : List Descriptor) (i : ℕ) → Changed i (table_of ts i) ts ts
kept-changed ts i = record { size = refl; here = refl; there = λ j other. refl }

-- registers and the table of one unit changed: that unit is another
pub unit-changed : (rs : List Registers) (ts ts' : List Descriptor) (n i : ℕ) (r : Registers) (t : List Descriptor) → i < n → n ≤ length rs
    → Changed i t ts ts' → units_of (set rs i r) ts' n ≡ set (units_of rs ts n) i (record { table = t; registers = r })
unit-changed rs ts ts' n i r t h long e =
    units-set rs (set rs i r) ts ts' n i (record { table = t; registers = r }) h
    (λ j other. ap (λ (m : List Descriptor). record { table = m; registers = get_or (set rs i r) j power_on.registers }) (e.there j other)
    ∙ ap (λ (x : Registers). record { table = table_of ts j; registers = x }) (get_or-set_other rs i j r power_on.registers other))
    (ap (λ (m : List Descriptor). record { table = m; registers = get_or (set rs i r) i power_on.registers }) e.here
    ∙ ap (λ (x : Registers). record { table = t; registers = x }) (get_or-set_same rs i r power_on.registers (omega arith)))
