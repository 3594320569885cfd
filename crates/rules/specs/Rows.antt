-- Document 01, "Proved rows", and rows of tickets 2, 8 and 11: one table. Each row is a unit, the cycles before, the cycle that is looked at, its
-- whole answer and the whole unit that is left (`Seen`).
-- `Rows` (proofs/) shows that all of them hold of the rules.
use Rattle.std.specs.Prelude.{Bool, true, false, List, [], ◌∷◌, ◌++◌, ℕ, suc, ◌+◌, ◌-◌}
use Rattle.rules.specs.PowerOn.{Stored, stored_of, notes_of}
use Rattle.rules.specs.Seen.{Row, row, row_after, below, no_note, warned, every_note, unit_holding, standing}
use Rattle.rules.specs.Seen.{segment, unit_with, translating, LOW, cycle_with, cycle, reads, writes, pushes, acknowledge, command, resets}
use Rattle.rules.specs.Seen.{drives_block, drives_byte, drives_nothing, translated, refusal}
use Rattle.rules.specs.declared.Cycle.{Cycle}
use Rattle.rules.specs.declared.Notes.{Notes}
use Rattle.rules.specs.declared.Unit.{Unit}
use Rattle.rules.specs.declared.Kind.TheVariants as kind

-- "P1 base %2311, offset %15: %2326. P2 base %FFF0, offset %20: %0010."
abbrev pub sums : List Row
sums =
    row (translating (segment 0x2311 0xFF 0)) (reads 0x15) (translated 0x2326 false false 0xEA) (translating (segment 0x2311 0xFF 0x80)) ∷
    row (translating (segment 0xFFF0 0xFF 0)) (reads 0x20) (translated 0x0010 false false 0xDF) (translating (segment 0xFFF0 0xFF 0x80)) ∷
    []

-- Reads and writes of a segment from block 0, so that the block driven is the offset byte. One that passes sets REF, and CHG by a write;
-- one that is SLV is suppressed, requests and sets every note, and the descriptor stays; a warning is not suppressed, and sets no hold.
-- %38 and %28 are the BCSR of a normal read and write at status 8.
abbrev pub read_passes : (limit attributes offset distance : ℕ) → Row
read_passes l a o n = row (translating (segment 0 l a)) (reads o) (translated o false false n) (translating (segment 0 l (a + 0x80)))

abbrev pub write_passes : (limit attributes offset distance : ℕ) → Row
write_passes l a o n = row (translating (segment 0 l a)) (writes o) (translated o false false n) (translating (segment 0 l (a + 0xC0)))

abbrev pub read_is_slv : (limit attributes offset : ℕ) → Row
read_is_slv l a o =
    row (translating (segment 0 l a)) (reads o) (translated o true true 0) (standing (stored_of 0x04 0 o 0x38 LOW) every_note (segment 0 l a))

abbrev pub write_is_slv : (limit attributes offset : ℕ) → Row
write_is_slv l a o =
    row (translating (segment 0 l a)) (writes o) (translated o true true 0) (standing (stored_of 0x04 0 o 0x28 LOW) every_note (segment 0 l a))

abbrev pub write_warns : (limit attributes offset : ℕ) → Row
write_warns l a o =
    row (translating (segment 0 l a)) (writes o) (translated o false true 0)
    (standing (stored_of 0x20 0 o 0x28 LOW) warned (segment 0 l (a + 0xC0)))

-- "P3 limit %02: offset %02 passes, %03 is SLV. Limit %FF: all pass."
-- "P4 DIRW, limit %F0: write at %F0 warns, %EF is SLV, %F1 neither."
-- "P5 limit 0: only %00 passes; with DIRW nothing is SLV, and a write at %00 warns."
abbrev pub lengths : List Row
lengths =
    read_passes 0x02 0 0x02 0 ∷
    read_is_slv 0x02 0 0x03 ∷
    write_warns 0xF0 0x20 0xF0 ∷
    write_is_slv 0xF0 0x20 0xEF ∷
    write_passes 0xF0 0x20 0xF1 1 ∷
    read_passes 0 0 0 0 ∷
    write_warns 0 0x20 0 ∷
    read_passes 0 0x20 0 0 ∷
    below 256 (λ o. write_passes 0xFF 0 o (0xFF - o))
    ++ below 255 (λ o. read_is_slv 0 0 (suc o))
    ++ below 255 (λ o. write_passes 0 0x20 (suc o) (suc o))

-- a unit by MR, with URS or without, what is stored, ISN, IOFF, notes and the attributes of descriptor 1, which has limit %02
abbrev pub half_of : (mr : ℕ) → Stored → (isn ioff : ℕ) → Notes → (attributes : ℕ) → Unit
half_of mr s isn ioff n a = unit_holding mr 0 0 s isn ioff n 1 (segment 0 0x02 a)

-- P6's write, and a fetch from block 2, of a segment
abbrev pub writes_to : (number : ℕ) → Cycle
writes_to number = cycle false false true 8 number 0x93

abbrev pub fetches_from : (number : ℕ) → Cycle
fetches_from number = cycle false true true 0xD number 0x02

-- such a unit before anything, after the write, and after the fetch
abbrev pub idle_half : (mr : ℕ) → Unit
idle_half mr = half_of mr (stored_of 0 0 0 0 0) 0 0 no_note 0x01

abbrev pub faulted_half : (mr vsn : ℕ) → Unit
faulted_half mr vsn = half_of mr (stored_of 0x05 vsn 0x93 0x28 LOW) 0 0 every_note 0x01

abbrev pub fetched_half : (mr isn : ℕ) → Unit
fetched_half mr isn = half_of mr (stored_of 0 0 0 0 0) isn 0x02 no_note 0x81

-- a segment that VSN keeps, and ISN, and that commands %03 and %06 read
abbrev pub keeps : (mr number : ℕ) → List Row
keeps mr number =
    row (idle_half mr) (writes_to number) (translated 0x93 true true 0) (faulted_half mr number) ∷
    row_after (idle_half mr) (writes_to number ∷ []) (command true 0x03 0) (drives_byte kind.Command number true) (faulted_half mr number) ∷
    row (idle_half mr) (fetches_from number) (translated 0x02 false false 0) (fetched_half mr number) ∷
    row_after (idle_half mr) (fetches_from number ∷ []) (command true 0x06 0) (drives_byte kind.Command number false) (fetched_half mr number) ∷
    []

-- "P6 unit with URS, segment 65, limit %02, attributes %01, normal data write at %93: VTR %05, BCSR %28, [..] VOFF %93"; ticket 2: "P6 becomes
-- VSN %41." "VSN and ISN keep all seven bits": of either half
abbrev pub recording : List Row
recording = keeps 0xE0 0x41 ++ keeps 0xC0 0x01

-- at SAR 63 and DSCR 3, byte 3 of a descriptor is its attributes
abbrev pub last_byte : (sar dscr attributes : ℕ) → Unit
last_byte sar dscr attributes = unit_holding 0 sar dscr (stored_of 0 0 0 0 0) 0 0 no_note 63 (segment 0x1234 0x56 attributes)

-- "P7 MSEN, ID 2, request, acknowledge: data %04. P8 SAR 63, DSCR 3, %0F: SAR 0, DSCR 0", read and written
abbrev pub commands : List Row
commands =
    row (unit_holding 0x82 0 0 (stored_of 0x04 0 0 0 0) 0 0 every_note 0 (segment 0 0 0)) acknowledge (drives_byte kind.Acknowledge 0x04 false)
    (unit_holding 0x82 0 0 (stored_of 0x04 0 0 0 0) 0 0 no_note 0 (segment 0 0 0)) ∷
    row (last_byte 63 3 0x78) (command true 0x0F 0x9A) (drives_byte kind.Command 0x78 false) (last_byte 0 0 0x78) ∷
    row (last_byte 63 3 0x78) (command false 0x0F 0x9A) (drives_nothing kind.Command false false) (last_byte 0 0 0x9A) ∷
    []

-- "P9 DMA write, RD: SUP, VTR and request unchanged.": with nothing standing, and with an entry, its notes and its request.
-- "P10 TRNS clear, segment 5, offset %15: %0515."
abbrev pub others : List Row
others =
    row (translating (segment 0 0xFF 0x01)) (cycle true false true 8 0 0) (translated 0 true false 0xFF) (translating (segment 0 0xFF 0x01)) ∷
    row (standing (stored_of 0x04 0 0 0x28 0) every_note (segment 0 0xFF 0x01)) (cycle true false true 8 0 0) (translated 0 true true 0xFF)
    (standing (stored_of 0x04 0 0 0x28 0) every_note (segment 0 0xFF 0x01)) ∷
    row (unit_with 0x80 5 (segment 0x2311 0 0)) (cycle false true true 8 5 0x15) (drives_block kind.Passed 0x0515 false false)
    (unit_with 0x80 5 (segment 0x2311 0 0)) ∷
    []

-- a system stack down to block %F0, marked by a write; what stands in the VTR, and its companions from the first warning
abbrev pub stack : (vtr : ℕ) → (request awaits own : Bool) → Unit
stack vtr request awaits own = standing (stored_of vtr 0 0xF0 0x09 LOW) (notes_of request awaits own false) (segment 0 0xF0 0xE0)

-- "P11 PWW, acknowledge, two system stack warnings: VTR %60 after the first, which requests; the second changes nothing in VTR and
-- requests nothing": it leaves the request, standing or acknowledged
abbrev pub stacks : List Row
stacks =
    row (translating (segment 0 0xF0 0x20)) (pushes 0xF0) (translated 0xF0 false true 0) (stack 0x20 true true true) ∷
    row_after (translating (segment 0 0xF0 0x20)) (pushes 0xF0 ∷ acknowledge ∷ []) (pushes 0xF0) (translated 0xF0 false true 0)
    (stack 0x60 true true false) ∷
    row_after (translating (segment 0 0xF0 0x20)) (pushes 0xF0 ∷ acknowledge ∷ pushes 0xF0 ∷ []) (pushes 0xF0)
    (translated 0xF0 false true 0) (stack 0x60 true true false) ∷
    row_after (translating (segment 0 0xF0 0x20)) (pushes 0xF0 ∷ acknowledge ∷ pushes 0xF0 ∷ acknowledge ∷ []) (pushes 0xF0)
    (translated 0xF0 false false 0) (stack 0x60 false false false) ∷
    []

-- a unit with a VTR and its request
abbrev pub unit_at : (vtr : ℕ) → Unit
unit_at vtr = standing (stored_of vtr 0 0 0 0) (notes_of true false false false) (segment 0 0 0)

-- Ticket 11. SWW alone, FATL alone, both: "such a VTR counts as damaged", and neither a reset nor clear VTR mends it. A clear command on
-- PWW beside both leaves a primary flag or nothing.
abbrev pub orphans : List Row
orphans =
    refusal 2 (unit_at 0x40) (reads 0) ∷
    refusal 2 (unit_at 0x80) (reads 0) ∷
    refusal 2 (unit_at 0xC0) (reads 0) ∷
    refusal 2 (unit_at 0x40) resets ∷
    refusal 2 (unit_at 0x80) (command false 0x11 0) ∷
    row (unit_at 0xE0) (command false 0x11 0) (drives_nothing kind.Command false true) (unit_at 0x00) ∷
    row (unit_at 0xE0) (command false 0x13 0) (drives_nothing kind.Command false true) (unit_at 0xA0) ∷
    row (unit_at 0xE0) (command false 0x14 0) (drives_nothing kind.Command false true) (unit_at 0x60) ∷
    []

-- Segment 0 up to block %40: a unit by what is stored and its notes, and a read past the limit by its offset and low bytes.
abbrev pub up_to40 : Stored → Notes → Unit
up_to40 s n = standing s n (segment 0 0x40 0)

abbrev pub reads_past : (offset low : ℕ) → Cycle
reads_past o l = cycle_with 8 true true false false 0 o l 0 false

-- a low byte kept over an older one
abbrev pub keeps_low : (low : ℕ) → Row
keeps_low l =
    row (up_to40 (stored_of 0 0 0x9C 0x28 0xE2) no_note) (reads_past 0x41 l) (translated 0x41 true true 0) (up_to40 (stored_of 0x04 0 0x41 0x38 l) every_note)

-- Ticket 8, "the unit record is to keep it when VOFF is stored, under the same rows. [..] it has the full byte range." A later violation of the
-- same instruction leaves it, and so does clear VTR, after which the next is a first one again. "Version 1 traces give 0": over an older one.
abbrev pub low_bytes : List Row
low_bytes =
    keeps_low 0x00 ∷
    keeps_low 0x7F ∷
    keeps_low 0x80 ∷
    keeps_low 0xFF ∷
    row_after (up_to40 (stored_of 0 0 0 0 0) no_note) (reads_past 0x41 0x12 ∷ []) (reads_past 0x42 0x34) (translated 0x42 true true 0)
    (up_to40 (stored_of 0x04 0 0x41 0x38 0x12) every_note) ∷
    row_after (up_to40 (stored_of 0 0 0 0 0) no_note) (reads_past 0x41 0x12 ∷ []) (command false 0x11 0) (drives_nothing kind.Command false true)
    (up_to40 (stored_of 0 0 0x41 0x38 0x12) every_note) ∷
    row_after (up_to40 (stored_of 0 0 0 0 0) no_note) (reads_past 0x41 0x12 ∷ command false 0x11 0 ∷ []) (reads_past 0x42 0x34)
    (translated 0x42 true true 0) (up_to40 (stored_of 0x04 0 0x42 0x38 0x34) every_note) ∷
    []

-- the lengths last: they are the most, and a wrong row before them is told at once
abbrev pub rows : List Row
rows = sums ++ (recording ++ (commands ++ (others ++ (stacks ++ (orphans ++ (low_bytes ++ lengths))))))
