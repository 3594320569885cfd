-- What each store of a cycle in place leaves: flags in every descriptor, a change at a place, the registers.
-- Assumes nothing.
use mathlib.Core.Path.{◌≡◌, refl, sym, ap, ◌∙◌}
use mathlib.Core.List.{List, ◌++◌, map}
use mathlib.Core.Logic.{⊎_elim}
use Prim.Native.Nat.{ℕ, zero, suc, ◌+◌, ◌-◌, ◌<◌, ◌≤◌}
use native.Mathlib.Decide.{ℕ_discrete}
use native.Mathlib.Nat.{le_of_suc-le-suc, not-suc-le-zero, eq-or-lt_of_le}
use native.Mathlib.Omega.{arith}
use lib.ListN.{length, get_or, set, drop, length-set, length-drop, length-map, get_or-map}
use lib.Seq.{sets, sets-eq, length-sets, get_or-set_same, get_or-set_other, drop-set-lt}
use Rattle.rules.specs.Flags.{with}
use Rattle.rules.specs.PowerOn.{blank, faults_of}
use Rattle.rules.specs.Step.{with_flags, changed}
use Rattle.rules.specs.declared.Change.{Change}
use Rattle.rules.specs.declared.Change.TheVariants.{Keep, Put, Raise}
use Rattle.rules.specs.declared.Descriptor.{Descriptor}
use Rattle.rules.specs.declared.Registers.{Registers}
use Rattle.unit_stores.specs.Word.{word_at, word}
use Rattle.unit_bytes.specs.InPlace.{put_registers, flags_at, raised_in, put_change}
use Rattle.unit_bytes.specs.Snapshot.{mr_at, sar_at, dscr_at, vtr_at, vsn_at, voff_at, bcsr_at, isn_at, ioff_at, notes_at}
use Rattle.unit_bytes.specs.Snapshot.{table_at, limit_at, segments, descriptor_at, low_at, unit_size}
use Rattle.unit_bytes.specs.Snapshot.{descriptor_in, table_in, notes_in, registers_in, descriptor_bytes, notes_byte, register_bytes}
use Rattle.unit_bytes.proofs.Found.{notes_found, descriptor_there, descriptor_same, elsewhere, sets-drop}
use Rattle.unit_bytes.proofs.Tables.{table_long, table_at_lem, table_is}

-- ---- flags set in the first n descriptors, byte by byte; and in all 64, one descriptor of them
module _ (mask : ℕ) (l : List ℕ) where
  raised-length : (n : ℕ) → length (raised_in mask n l) ≡ length l
  unfolding raised_in
  raised-length zero = refl
  raised-length (suc n) = length-set (raised_in mask n l) (flags_at n) _ ∙ raised-length n

  raised-drop : (n : ℕ) → n ≤ segments → drop unit_size (raised_in mask n l) ≡ drop unit_size l
  unfolding raised_in
  raised-drop zero h = refl
  raised-drop (suc n) h = drop-set-lt unit_size (raised_in mask n l) (flags_at n) _ (omega arith) ∙ raised-drop n (omega arith)

  raised-other : (n j : ℕ) → ((k : ℕ) → k < n → j ≡ flags_at k → ⊥) → get_or (raised_in mask n l) j 0 ≡ get_or l j 0
  unfolding raised_in
  raised-other zero j apart = refl
  raised-other (suc n) j apart =
      get_or-set_other (raised_in mask n l) (flags_at n) j _ 0 (apart n (omega arith))
      ∙ raised-other n j (λ k less. apart k (omega arith))

  raised_at : (n k : ℕ) → k < n → flags_at k < length l → get_or (raised_in mask n l) (flags_at k) 0 ≡ with (get_or l (flags_at k) 0) mask
  unfolding raised_in
  raised_at zero k h room = absurd (not-suc-le-zero h)
  raised_at (suc n) k h room =
      let m : List ℕ = raised_in mask n l in
      ⊎_elim
      (λ (e : k ≡ n).
      ap (λ (i : ℕ). get_or (set m (flags_at i) (with (get_or m (flags_at i) 0) mask)) (flags_at k) 0) (sym e)
      ∙ get_or-set_same m (flags_at k) _ 0 (omega (arith, raised-length n))
      ∙ ap (λ (b : ℕ). with b mask) (raised-other n (flags_at k) (λ i less same. omega arith)))
      (λ (less : k < n). get_or-set_other m (flags_at n) (flags_at k) _ 0 (λ same. omega arith) ∙ raised_at n k less room)
      (eq-or-lt_of_le (le_of_suc-le-suc h))

  raised-one : (k : ℕ) → k < segments → unit_size ≤ length l
      → descriptor_in (raised_in mask segments l) (descriptor_at k) ≡ with_flags mask (descriptor_in l (descriptor_at k))
  unfolding word_at descriptor_in
  raised-one k h room =
      let high = raised-other segments (descriptor_at k) (λ i less same. omega arith) in
      let low = raised-other segments (descriptor_at k + 1) (λ i less same. omega arith) in
      let limit = raised-other segments (descriptor_at k + limit_at) (λ i less same. omega arith) in
      let attributes = raised_at segments k h (omega arith) in
      λ i. record { base = word (high i) (low i); limit = limit i; attributes = attributes i }

-- ---- a change at a place of the table
module _ (l : List ℕ) (i : ℕ) (inside : i < segments) where
  pub change-length : (h : Change) → length (put_change h i l) ≡ length l
  unfolding put_change
  change-length Keep = refl
  change-length (Put d) = length-sets l (descriptor_at i) (descriptor_bytes d)
  change-length (Raise mask) = raised-length mask l segments

  -- no byte before the table or behind it changes
  pub change-other : (h : Change) (j : ℕ) → (table_at ≤ j → j < low_at → ⊥) → get_or (put_change h i l) j 0 ≡ get_or l j 0
  unfolding put_change descriptor_bytes
  change-other Keep j apart = refl
  change-other (Put d) j apart =
      elsewhere (descriptor_bytes d) l (descriptor_at i) j (λ e less same. apart (omega arith) (omega arith))
  change-other (Raise mask) j apart = raised-other mask l segments j (λ k less same. apart (omega arith) (omega arith))

  pub change-drop : (h : Change) → drop unit_size (put_change h i l) ≡ drop unit_size l
  unfolding put_change descriptor_bytes
  change-drop Keep = refl
  change-drop (Put d) = sets-drop (descriptor_bytes d) l (descriptor_at i) unit_size (omega arith)
  change-drop (Raise mask) = raised-drop mask l segments (omega arith)

  put_table : (d : Descriptor) → unit_size ≤ length l
      → table_in (sets l (descriptor_at i) (descriptor_bytes d)) segments ≡ set (table_in l segments) i d
  unfolding descriptor_bytes
  put_table d room = table_is m segments (set t i d) blank (length-set t i d ∙ long) (λ k h. each k h (ℕ_discrete k i))
    where
      m : List ℕ
      m = sets l (descriptor_at i) (descriptor_bytes d)

      t : List Descriptor
      t = table_in l segments

      long : length t ≡ segments
      long = table_long l segments

      each : (k : ℕ) → k < segments → Dec (k ≡ i) → descriptor_in m (descriptor_at k) ≡ get_or (set t i d) k blank
      each k h (yes e) =
          ap (λ (n : ℕ). descriptor_in m (descriptor_at n)) e
          ∙ descriptor_there l (descriptor_at i) d (omega arith)
          ∙ sym (get_or-set_same t i d blank (omega (arith, long)))
          ∙ ap (λ (n : ℕ). get_or (set t i d) n blank) (sym e)
      each k h (no other) =
          descriptor_same l m (descriptor_at k)
          (λ j from to. elsewhere (descriptor_bytes d) l (descriptor_at i) j (λ e less same. other (omega arith)))
          ∙ sym (table_at_lem l segments k blank h)
          ∙ sym (get_or-set_other t i k d blank other)

  raised_table : (mask : ℕ) → unit_size ≤ length l → table_in (raised_in mask segments l) segments ≡ map (with_flags mask) (table_in l segments)
  raised_table mask room =
      let t : List Descriptor = table_in l segments in
      let f : Descriptor → Descriptor = with_flags mask in
      table_is (raised_in mask segments l) segments (map f t) (f blank) (length-map t f ∙ table_long l segments)
      (λ k h. raised-one mask l k h room ∙ ap f (sym (table_at_lem l segments k blank h)) ∙ sym (get_or-map f t k blank))

  pub change_table : (h : Change) → unit_size ≤ length l → table_in (put_change h i l) segments ≡ changed h i (table_in l segments)
  unfolding put_change changed
  change_table Keep room = refl
  change_table (Put d) room = put_table d room
  change_table (Raise mask) room = raised_table mask room

-- ---- the registers stored
module _ (r : Registers) (l : List ℕ) where
  pub registers-length : length (put_registers r l) ≡ length l
  unfolding put_registers
  registers-length = length-set (sets l 0 (register_bytes r)) low_at r.low ∙ length-sets l 0 (register_bytes r)

  pub registers-drop : drop unit_size (put_registers r l) ≡ drop unit_size l
  unfolding put_registers register_bytes
  registers-drop =
      drop-set-lt unit_size (sets l 0 (register_bytes r)) low_at r.low (omega arith) ∙ sets-drop (register_bytes r) l 0 unit_size (omega arith)

  -- no byte of the table changes
  registers-other : (j : ℕ) → table_at ≤ j → j < low_at → get_or (put_registers r l) j 0 ≡ get_or l j 0
  unfolding put_registers register_bytes
  registers-other j from to =
      get_or-set_other (sets l 0 (register_bytes r)) low_at j r.low 0 (λ same. omega arith)
      ∙ elsewhere (register_bytes r) l 0 j (λ e less same. omega arith)

  pub registers_table : table_in (put_registers r l) segments ≡ table_in l segments
  registers_table =
      table_is (put_registers r l) segments (table_in l segments) blank (table_long l segments)
      (λ k h. descriptor_same l (put_registers r l) (descriptor_at k) (λ j from to. registers-other j (omega arith) (omega arith))
      ∙ sym (table_at_lem l segments k blank h))

  -- what is found at the start
  module _ (room : unit_size ≤ length l) where
    registers_shape : put_registers r l ≡ register_bytes r ++ set (drop table_at l) (low_at - table_at) r.low
    unfolding put_registers register_bytes
    registers_shape = ap (λ (m : List ℕ). set m low_at r.low) (sets-eq (register_bytes r) l 0 (omega arith))

    pub registers-found : registers_in (put_registers r l) ≡ r
    unfolding registers_in register_bytes
    registers-found =
        let long : length (drop table_at l) ≡ length l - table_at = length-drop table_at l in
        let low = get_or-set_same (drop table_at l) (low_at - table_at) r.low 0 (omega arith) in
        ap registers_in registers_shape ∙ (λ i. record {
          control = r.control;
          faults = r.faults;
          fetched = r.fetched;
          notes = notes_found r.notes i;
          low = low i;
        })

    pub registers_notes : get_or (put_registers r l) notes_at 0 ≡ notes_byte r.notes
    unfolding register_bytes
    registers_notes = ap (λ (m : List ℕ). get_or m notes_at 0) registers_shape

-- ---- registers of the same bytes
pub registers_same : (l m : List ℕ) → ((j : ℕ) → (table_at ≤ j → j < low_at → ⊥) → get_or m j 0 ≡ get_or l j 0) → registers_in m ≡ registers_in l
unfolding registers_in
registers_same l m same =
    let first : (j : ℕ) → j < table_at → get_or m j 0 ≡ get_or l j 0 = λ j less. same j (λ from to. omega arith) in
    let mr = first mr_at (omega arith) in
    let sar = first sar_at (omega arith) in
    let dscr = first dscr_at (omega arith) in
    let vtr = first vtr_at (omega arith) in
    let vsn = first vsn_at (omega arith) in
    let voff = first voff_at (omega arith) in
    let bcsr = first bcsr_at (omega arith) in
    let isn = first isn_at (omega arith) in
    let ioff = first ioff_at (omega arith) in
    let notes = first notes_at (omega arith) in
    let low = same low_at (λ from to. omega arith) in
    λ i. record {
      control = record { mr = mr i; sar = sar i; dscr = dscr i };
      faults = faults_of (vtr i) (vsn i) (voff i) (bcsr i);
      fetched = record { isn = isn i; ioff = ioff i };
      notes = notes_in (notes i);
      low = low i;
    }
