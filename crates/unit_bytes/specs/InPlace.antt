-- A cycle of the unit in the bytes, where it stands: what is decided from one descriptor, and the bytes that are written. `InPlace` (proofs/)
-- shows that it is a step of the unit that the bytes hold.
use Rattle.std.specs.Prelude.{List, ℕ, zero, suc, ◌+◌, ◌%◌, get_or, set}
use Rattle.std.proofs.lemmas.List.Edits.{sets}
use Rattle.rules.specs.Flags.{with}
use Rattle.rules.specs.Step.{decided, place_of}
use Rattle.rules.specs.declared.Change.{Change}
use Rattle.rules.specs.declared.Change.TheVariants.{Keep, Put, Raise}
use Rattle.rules.specs.declared.Cycle.{Cycle}
use Rattle.rules.specs.declared.Decision.{Decision}
use Rattle.rules.specs.declared.Registers.{Registers}
use Rattle.unit_bytes.specs.Snapshot.{attributes_at, segments, descriptor_at, low_at}
use Rattle.unit_bytes.specs.Snapshot.{descriptor_in, registers_in, register_bytes, descriptor_bytes}

-- ---- what is decided, from the registers and one descriptor

-- the number of the descriptor that a cycle looks at
unfoldable pub looked_at : (unit : List ℕ) → Cycle → ℕ
looked_at l c = place_of (registers_in l) c % segments

unfoldable pub decided_in : (unit : List ℕ) → Cycle → Decision
decided_in l c = decided (registers_in l) (descriptor_in l (descriptor_at (looked_at l c))) c

-- ---- what is written

-- the registers: their bytes at the start, and the low byte behind the table
unfoldable pub put_registers : Registers → (unit : List ℕ) → List ℕ
put_registers r l = set (sets l 0 (register_bytes r)) low_at r.low

-- where the attributes of a descriptor stand
abbrev pub flags_at : (n : ℕ) → ℕ
flags_at n = descriptor_at n + attributes_at

-- flags set in the attributes of the first n descriptors
unfoldable pub raised_in : (mask n : ℕ) → (unit : List ℕ) → List ℕ
raised_in mask zero l = l
raised_in mask (suc n) l = set (raised_in mask n l) (flags_at n) (with (get_or (raised_in mask n l) (flags_at n) 0) mask)

-- a change at a place: one descriptor's bytes, or one byte of each
unfoldable pub put_change : Change → (place : ℕ) → (unit : List ℕ) → List ℕ
put_change Keep i l = l
put_change (Put d) i l = sets l (descriptor_at i) (descriptor_bytes d)
put_change (Raise mask) i l = raised_in mask segments l

-- the bytes after a cycle
unfoldable pub in_place : (unit : List ℕ) → Cycle → List ℕ
in_place l c = put_change (decided_in l c).change (looked_at l c) (put_registers (decided_in l c).registers l)
