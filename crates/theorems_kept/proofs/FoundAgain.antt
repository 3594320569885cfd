-- The unit whose bytes were put into a buffer is the unit that is found there.
-- Assumes nothing.
use mathlib.Core.Path.{◌≡◌, refl, sym, ap, ◌∙◌}
use mathlib.Core.Bool.{false}
use mathlib.Core.List.{List, [], ◌∷◌, ◌++◌, append_assoc}
use Prim.Native.Nat.{ℕ, zero, suc, ◌+◌, ◌*◌, ◌<◌, ◌≤◌}
use native.Mathlib.Nat.{le_of_suc-le-suc, not-suc-le-zero}
use native.Mathlib.Omega.{arith}
use lib.ListN.{length, get_or, take, drop, length-append}
use lib.Seq.{sets, sets-eq, take-suc, take_all, get_or-append-add}
use Rattle.rules.specs.PowerOn.{blank}
use Rattle.rules.specs.declared.Descriptor.{Descriptor}
use Rattle.rules.specs.declared.Registers.{Registers}
use Rattle.rules.specs.declared.Unit.{Unit}
use Rattle.unit_bytes.specs.Snapshot.{descriptor_size, segments, descriptor_at, low_at, unit_size}
use Rattle.unit_bytes.specs.Snapshot.{descriptor_in, table_in, registers_in, unit_in}
use Rattle.unit_bytes.specs.Snapshot.{descriptor_bytes, table_bytes, register_bytes, unit_bytes}
use Rattle.unit_bytes.proofs.Found.{notes_found, notes_small, descriptor_past, descriptor-found}
use Rattle.unit_bytes.proofs.Tables.{table_of}
use Rattle.unit_bytes.specs.Cycled.{strange}
use Rattle.theorems_kept.specs.Kept.{FoundAgain}

-- ---- the table: a descriptor behind other descriptors
one_found : (t : List Descriptor) (rest : List ℕ) (n : ℕ) → n < length t
    → descriptor_in (table_bytes t ++ rest) (descriptor_size * n) ≡ get_or t n blank
unfolding table_bytes descriptor_bytes
one_found [] rest n h = absurd (not-suc-le-zero h)
one_found (d ∷ t) rest zero h = descriptor-found d (table_bytes t ++ rest)
one_found (d ∷ t) rest (suc n) h =
    let next : descriptor_size * suc n ≡ length (descriptor_bytes d) + descriptor_size * n = omega arith in
    ap (descriptor_in (descriptor_bytes d ++ table_bytes t ++ rest)) next
    ∙ descriptor_past (descriptor_bytes d) (table_bytes t ++ rest) (descriptor_size * n)
    ∙ one_found t rest n (le_of_suc-le-suc h)

module _ (r : Registers) (t : List Descriptor) (rest : List ℕ) where
  table_found : (n : ℕ) → n ≤ length t → table_in (register_bytes r ++ table_bytes t ++ rest) n ≡ take n t
  unfolding table_in register_bytes
  table_found zero h = refl
  table_found (suc n) h =
      let x : List ℕ = register_bytes r ++ table_bytes t ++ rest in
      ap (λ (s : List Descriptor). s ++ (descriptor_in x (descriptor_at n) ∷ [])) (table_found n (omega arith))
      ∙ ap (λ (d : Descriptor). take n t ++ (d ∷ []))
      (descriptor_past (register_bytes r) (table_bytes t ++ rest) (descriptor_size * n) ∙ one_found t rest n h)
      ∙ sym (take-suc t n blank h)

  -- ---- the registers, the low byte behind the table
  low-found : (low : ℕ) → length t ≡ segments → get_or (register_bytes r ++ table_bytes t ++ (low ∷ rest)) low_at 0 ≡ low
  unfolding register_bytes
  low-found low size =
      ap (λ (k : ℕ). get_or (table_bytes t ++ (low ∷ rest)) (k + 0) 0) (sym (table_of t segments size)) ∙ get_or-append-add (table_bytes t) (low ∷ rest) 0 0

  registers-found : length t ≡ segments → registers_in (register_bytes r ++ table_bytes t ++ (r.low ∷ rest)) ≡ r
  unfolding registers_in register_bytes
  registers-found size =
      let low : _ ≡ r.low = low-found r.low size in
      λ i. record {
        control = r.control;
        faults = r.faults;
        fetched = r.fetched;
        notes = notes_found r.notes i;
        low = low i;
      }

-- ---- the whole

-- the bytes of a unit with 64 descriptors
pub unit-length : (u : Unit) → length u.table ≡ segments → length (unit_bytes u) ≡ unit_size
unfolding unit_bytes register_bytes
unit-length u size =
    let table : length (table_bytes u.table) ≡ descriptor_size * segments = table_of u.table segments size in
    let behind : length (table_bytes u.table ++ (u.registers.low ∷ [])) ≡ length (table_bytes u.table) + 1 =
    length-append (table_bytes u.table) (u.registers.low ∷ []) in
    omega arith

module _ (l : List ℕ) (u : Unit) (room : unit_size ≤ length l) (size : length u.table ≡ segments) where
  rest : List ℕ
  rest = drop (0 + length (unit_bytes u)) l

  shape : sets l 0 (unit_bytes u) ≡ register_bytes u.registers ++ table_bytes u.table ++ (u.registers.low ∷ rest)
  unfolding unit_bytes register_bytes rest
  shape =
      let first : List ℕ = register_bytes u.registers in
      let table : List ℕ = table_bytes u.table in
      let last : List ℕ = u.registers.low ∷ [] in
      sets-eq (unit_bytes u) l 0 (omega (arith, unit-length u size))
      ∙ append_assoc first (table ++ last) rest
      ∙ ap (λ (x : List ℕ). first ++ x) (append_assoc table last rest)

  pub never_strange : strange (sets l 0 (unit_bytes u)) ≡ false
  unfolding register_bytes
  never_strange = ap strange shape ∙ notes_small u.registers.notes

  whole : unit_in (sets l 0 (unit_bytes u)) ≡ u
  unfolding unit_in
  whole =
      let r : Registers = u.registers in
      let t : List Descriptor = u.table in
      let behind : List ℕ = r.low ∷ rest in
      let x : List ℕ = register_bytes r ++ table_bytes t ++ behind in
      let all : table_in x segments ≡ t = table_found r t behind segments (omega arith) ∙ take_all segments t (omega arith) in
      ap unit_in shape
      ∙ ap (λ (s : List Descriptor). record { table = s; registers = registers_in x }) all
      ∙ ap (λ (s : Registers). record { table = t; registers = s }) (registers-found r t rest size)

pub found-again : FoundAgain
found-again = whole
