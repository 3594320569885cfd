-- The bytes of the unit that bytes hold are those bytes.
-- Assumes nothing.
use mathlib.Core.Path.{◌≡◌, refl, sym, ap, ◌∙◌}
use mathlib.Core.List.{List, [], ◌∷◌, ◌++◌}
use Prim.Native.Nat.{ℕ, zero, suc, ◌+◌, ◌*◌, ◌≤◌}
use native.Mathlib.Numerals.{towards_suc}
use native.Mathlib.Omega.{arith}
use lib.ListN.{length, get_or, set}
use lib.Seq.{sets, set-get_or}
use Rattle.rules.specs.declared.Descriptor.{Descriptor}
use Rattle.unit_stores.proofs.Bits.{flags_back}
use Rattle.unit_stores.proofs.Laws.{sets-append}
use Rattle.unit_stores.proofs.Words.{high_back, low_back}
use Rattle.unit_stores.specs.Word.{word_at}
use Rattle.unit_bytes.specs.Snapshot.{notes_at, table_at, descriptor_size, segments, descriptor_at, low_at, LAST_NOTES}
use Rattle.unit_bytes.specs.Snapshot.{descriptor_in, table_in, notes_in, registers_in, unit_in}
use Rattle.unit_bytes.specs.Snapshot.{descriptor_bytes, table_bytes, notes_byte, register_bytes, unit_bytes}
use Rattle.unit_bytes.proofs.Tables.{table_more, table_of, table_long, low_stored}
use Rattle.theorems_kept.specs.Kept.{Bytes}

-- ---- the notes
pub notes_back : (b : ℕ) → b ≤ LAST_NOTES → notes_byte (notes_in b) ≡ b
unfolding notes_byte notes_in
notes_back b h = flags_back 4 b (omega arith)

-- ---- the table
module _ (l : List ℕ) (bytes : Bytes l) where
  one_back : (k : ℕ) → sets l k (descriptor_bytes (descriptor_in l k)) ≡ l
  unfolding word_at descriptor_bytes descriptor_in
  one_back k =
      let high : ℕ = get_or l k 0 in
      let low : ℕ = get_or l (suc k) 0 in
      simp (high_back high low (bytes (suc k)), low_back high low (bytes (suc k)), towards_suc, set-get_or)

  table_back : (n : ℕ) → sets l table_at (table_bytes (table_in l n)) ≡ l
  unfolding table_in table_bytes
  table_back zero = refl
  table_back (suc n) =
      let first : List ℕ = table_bytes (table_in l n) in
      let d : Descriptor = descriptor_in l (descriptor_at n) in
      let long : length first ≡ descriptor_size * n = table_of (table_in l n) n (table_long l n) in
      ap (sets l table_at) (table_more (table_in l n) d)
      ∙ sym (sets-append l table_at first (descriptor_bytes d))
      ∙ ap (λ (m : List ℕ). sets m (table_at + length first) (descriptor_bytes d)) (table_back n)
      ∙ ap (λ (k : ℕ). sets l (table_at + k) (descriptor_bytes d)) long
      ∙ one_back (descriptor_at n)

  -- ---- the registers, and the whole
  registers_back : get_or l notes_at 0 ≤ LAST_NOTES → sets l 0 (register_bytes (registers_in l)) ≡ l
  unfolding register_bytes registers_in
  registers_back h = simp (notes_back (get_or l notes_at 0) h, set-get_or)

  pub put_back : get_or l notes_at 0 ≤ LAST_NOTES → sets l 0 (unit_bytes (unit_in l)) ≡ l
  unfolding unit_bytes unit_in register_bytes registers_in
  put_back h =
      let low : ℕ = get_or l low_at 0 in
      let behind : List ℕ = table_bytes (table_in l segments) ++ (low ∷ []) in
      sym (sets-append l 0 (register_bytes (registers_in l)) behind)
      ∙ ap (λ (m : List ℕ). sets m table_at behind) (registers_back h)
      ∙ sym (low_stored l (table_in l segments) low (table_long l segments))
      ∙ ap (λ (m : List ℕ). set m low_at low) (table_back segments)
      ∙ set-get_or l low_at 0
