-- Document 01, "Commands", a second time and in another form: each code by the byte that it shows, and by what it leaves, in a unit in which
-- every register has a value of its own. `Lists` (proofs/) shows that all of it holds of the rules.
use Rattle.std.specs.Prelude.{true, false, List, [], ◌∷◌, ◌++◌, ℕ, ◌+◌, set, replicate}
use Rattle.rules.specs.PowerOn.{stored_of, unit_of}
use Rattle.rules.specs.Seen.{Row, row, below, segment, no_note, every_note, command, drives_byte, drives_nothing, refusal}
use Rattle.rules.specs.declared.Descriptor.{Descriptor}
use Rattle.rules.specs.declared.Notes.{Notes}
use Rattle.rules.specs.declared.Unit.{Unit}
use Rattle.rules.specs.declared.Kind.TheVariants as kind

-- 64 descriptors, with one at %15 and attributes alone in the others
abbrev pub table_with : Descriptor → (attributes : ℕ) → List Descriptor
table_with d attributes = set (replicate 64 (segment 0 0 attributes)) 0x15 d

-- what commands can change, and a value of its own in every other register
abbrev pub unit_by : (mr sar dscr vtr : ℕ) → Notes → (table : List Descriptor) → Unit
unit_by mr sar dscr vtr n table = unit_of table mr sar dscr (stored_of vtr 0x6A 0x9C 0x38 0xE2) 0x53 0x71 n

-- the descriptor at SAR, and the unit at a DSCR
abbrev pub own : Descriptor
own = segment 0x1234 0x56 0x68

abbrev pub unit_at : (dscr : ℕ) → Unit
unit_at dscr = unit_by 0x5A 0x15 dscr 0xE5 every_note (table_with own 0)

-- reads: the byte is driven, and all stays, or SAR and DSCR are stepped
abbrev pub shows : (code byte : ℕ) → Row
shows code b = row (unit_at 1) (command true code 0xC7) (drives_byte kind.Command b true) (unit_at 1)

abbrev pub shows_byte : (dscr code byte : ℕ) → (sar next : ℕ) → Row
shows_byte dscr code b sar next =
    row (unit_at dscr) (command true code 0xC7) (drives_byte kind.Command b true) (unit_by 0x5A sar next 0xE5 every_note (table_with own 0))

-- writes of the byte %C7: nothing is driven
abbrev pub leaves : (code : ℕ) → (left : Unit) → Row
leaves code u = row (unit_at 1) (command false code 0xC7) (drives_nothing kind.Command false u.registers.notes.request) u

abbrev pub stores_byte : (dscr code : ℕ) → Descriptor → (sar next : ℕ) → Row
stores_byte dscr code d sar next =
    row (unit_at dscr) (command false code 0xC7) (drives_nothing kind.Command false true)
    (unit_by 0x5A sar next 0xE5 every_note (table_with d 0))

-- "Codes %00 MR, %01 SAR (low six bits kept), then read-only %02 VTR, %03 VSN, %04 VOFF, %05 BCSR, %06 ISN, %07 IOFF."; "and DSCR [%20] (low
-- two bits kept)"
abbrev pub registers : List Row
registers =
    shows 0x00 0x5A ∷
    shows 0x01 0x15 ∷
    shows 0x02 0xE5 ∷
    shows 0x03 0x6A ∷
    shows 0x04 0x9C ∷
    shows 0x05 0x38 ∷
    shows 0x06 0x53 ∷
    shows 0x07 0x71 ∷
    shows 0x20 0x01 ∷
    leaves 0x00 (unit_by 0xC7 0x15 1 0xE5 every_note (table_with own 0)) ∷
    leaves 0x01 (unit_by 0x5A 0x07 1 0xE5 every_note (table_with own 0)) ∷
    leaves 0x20 (unit_by 0x5A 0x15 3 0xE5 every_note (table_with own 0)) ∷
    []

-- "%08 base, %09 limit, %0A attributes, %0B whole descriptor; %0C to %0F the same four with SAR stepped."; "bytes 0 and 1 the base (high
-- first), 2 the limit, 3 the attributes"; "%09, %0A, %0D, %0E use byte 2 or 3 and leave DSCR 0. %08 and %0C use byte DSCR; DSCR goes from
-- 0 to 1, from any other value to 0. %0B and %0F use byte DSCR, and DSCR goes up modulo 4. The stepping forms add 1 to SAR modulo 64
-- exactly when DSCR is 0 after the byte."
abbrev pub entries : List Row
entries =
    shows_byte 0 0x08 0x12 0x15 1 ∷
    shows_byte 1 0x08 0x34 0x15 0 ∷
    shows_byte 2 0x08 0x56 0x15 0 ∷
    shows_byte 3 0x08 0x68 0x15 0 ∷
    shows_byte 1 0x09 0x56 0x15 0 ∷
    shows_byte 1 0x0A 0x68 0x15 0 ∷
    shows_byte 0 0x0B 0x12 0x15 1 ∷
    shows_byte 1 0x0B 0x34 0x15 2 ∷
    shows_byte 2 0x0B 0x56 0x15 3 ∷
    shows_byte 3 0x0B 0x68 0x15 0 ∷
    shows_byte 0 0x0C 0x12 0x15 1 ∷
    shows_byte 1 0x0C 0x34 0x16 0 ∷
    shows_byte 1 0x0D 0x56 0x16 0 ∷
    shows_byte 1 0x0E 0x68 0x16 0 ∷
    shows_byte 1 0x0F 0x34 0x15 2 ∷
    shows_byte 3 0x0F 0x68 0x16 0 ∷
    stores_byte 0 0x08 (segment 0xC734 0x56 0x68) 0x15 1 ∷
    stores_byte 1 0x08 (segment 0x12C7 0x56 0x68) 0x15 0 ∷
    stores_byte 1 0x09 (segment 0x1234 0xC7 0x68) 0x15 0 ∷
    stores_byte 1 0x0A (segment 0x1234 0x56 0xC7) 0x15 0 ∷
    stores_byte 2 0x0B (segment 0x1234 0xC7 0x68) 0x15 3 ∷
    stores_byte 0 0x0C (segment 0xC734 0x56 0x68) 0x15 1 ∷
    stores_byte 1 0x0D (segment 0x1234 0xC7 0x68) 0x16 0 ∷
    stores_byte 1 0x0E (segment 0x1234 0x56 0xC7) 0x16 0 ∷
    stores_byte 3 0x0F (segment 0x1234 0x56 0xC7) 0x16 0 ∷
    []

-- "software reset [%10], clear VTR [%11], clear SWW [%13], clear FATL [%14], set all CPUI [%15], set all DMAI [%16]"; "Software reset clears
-- MR, VTR, DSCR and the notes."
abbrev pub actions : List Row
actions =
    leaves 0x10 (unit_by 0 0x15 0 0 no_note (table_with own 0)) ∷
    leaves 0x11 (unit_by 0x5A 0x15 1 0 every_note (table_with own 0)) ∷
    leaves 0x13 (unit_by 0x5A 0x15 1 0xA5 every_note (table_with own 0)) ∷
    leaves 0x14 (unit_by 0x5A 0x15 1 0x65 every_note (table_with own 0)) ∷
    leaves 0x15 (unit_by 0x5A 0x15 1 0xE5 every_note (table_with (segment 0x1234 0x56 0x6C) 0x04)) ∷
    leaves 0x16 (unit_by 0x5A 0x15 1 0xE5 every_note (table_with (segment 0x1234 0x56 0x78) 0x10)) ∷
    []

-- "4: write to a read-only register, or read of a set or clear command"
abbrev pub wrong_way : List Row
wrong_way =
    below 6 (λ n. refusal 4 (unit_at 1) (command false (0x02 + n) 0xC7))
    ++ (refusal 4 (unit_at 1) (command true 0x10 0) ∷
    refusal 4 (unit_at 1) (command true 0x11 0) ∷
    refusal 4 (unit_at 1) (command true 0x13 0) ∷
    refusal 4 (unit_at 1) (command true 0x14 0) ∷
    refusal 4 (unit_at 1) (command true 0x15 0) ∷
    refusal 4 (unit_at 1) (command true 0x16 0) ∷
    [])

-- "3: selected command with a code not listed": %12, %17 to %1F and %21 to %FF, read and written
abbrev pub unlisted : List Row
unlisted =
    refusal 3 (unit_at 1) (command true 0x12 0) ∷
    refusal 3 (unit_at 1) (command false 0x12 0) ∷
    below 9 (λ n. refusal 3 (unit_at 1) (command true (0x17 + n) 0))
    ++ below 9 (λ n. refusal 3 (unit_at 1) (command false (0x17 + n) 0))
    ++ below 223 (λ n. refusal 3 (unit_at 1) (command true (0x21 + n) 0))
    ++ below 223 (λ n. refusal 3 (unit_at 1) (command false (0x21 + n) 0))

abbrev pub code_rows : List Row
code_rows = registers ++ (entries ++ (actions ++ (wrong_way ++ unlisted)))
