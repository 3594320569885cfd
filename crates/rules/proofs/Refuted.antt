-- What the rules are not: document 01's wrong turns, and open points of docs/DECISIONS.md read the other way. Each stands on one cycle: a
-- row that holds of the rules, and the answer and unit that the wrong reading would give there, with which it doesn't. antt computes both.
-- Assumes nothing.
use mathlib.Core.Bool.{Bool, true, false, not, ◌&&◌}
use mathlib.Core.List.{List, [], ◌∷◌}
use Prim.Native.Nat.{ℕ}
use lib.Dec.{T}
use Rattle.rules.specs.Computed.{computed}
use Rattle.rules.specs.Recording.{first_entry}
use Rattle.rules.specs.PowerOn.{stored_of, notes_of}
use Rattle.rules.specs.Registers.{with_low}
use Rattle.rules.specs.Seen.{Row, row, row_after, holds, segment, no_note, warned, every_note, standing, translating}
use Rattle.rules.specs.Seen.{LOW, cycle, writes, command, resets, drives_block, drives_byte, drives_nothing, translated, refusal, answer_with}
use Rattle.rules.specs.Rows.{writes_to, fetches_from, idle_half, faulted_half, fetched_half}
use Rattle.rules.specs.CycleRows.{numbered, idle}
use Rattle.rules.specs.MemoryRows.{unit_as, unit_in, fetched_at, fetch_at, read_at, write_at, requested, remains}
use Rattle.rules.specs.CodeRows.{unit_by, unit_at, table_with, own}
use Rattle.rules.specs.declared.Answer.{Answer}
use Rattle.rules.specs.declared.Unit.{Unit}
use Rattle.rules.specs.declared.Kind.TheVariants as kind

-- a row, and the answer and the unit that a wrong reading would have in it
pub record Turned : Type 0 where
  pub right : Row
  pub answer : Answer
  pub left : Unit

abbrev pub turned : Row → Answer → (left : Unit) → Turned
turned r a l = record { right = r; answer = a; left = l }

-- the row holds, and with the other two it doesn't
abbrev pub refuted : Turned → Bool
refuted t = holds t.right && not (holds (row_after t.right.unit t.right.before t.right.cycle t.answer t.left))

abbrev pub all_refuted : List Turned → Bool
all_refuted [] = true
all_refuted (t ∷ ts) = refuted t && all_refuted ts

-- Document 01, "Wrong turns seen before"
abbrev pub wrong_turns : List Turned
wrong_turns =
    -- "Suppress ending with the faulting cycle, when it lasts to the next fetch."
    turned (row (unit_in 0x04 every_note 0) (read_at 0x15) (translated 0x2315 true true 0x2B) (unit_in 0x04 every_note 0))
    (translated 0x2315 false true 0x2B) (unit_in 0x04 every_note 0x80) ∷
    -- "The warning block of a stack taken at the top": at the limit, and at the top
    turned (row (translating (segment 0 0xF0 0x20)) (writes 0xF0) (translated 0xF0 false true 0)
    (standing (stored_of 0x20 0 0xF0 0x28 LOW) warned (segment 0 0xF0 0xE0)))
    (translated 0xF0 false false 0) (translating (segment 0 0xF0 0xE0)) ∷
    turned (row (translating (segment 0 0xF0 0x20)) (writes 0xFF) (translated 0xFF false false 0x0F) (translating (segment 0 0xF0 0xE0)))
    (translated 0xFF false true 0x0F) (standing (stored_of 0x20 0 0xFF 0x28 LOW) warned (segment 0 0xF0 0xE0)) ∷
    -- "or a DIRW range measured as limit + 1 blocks": %F1 blocks would begin at %0F
    turned (row (translating (segment 0 0xF0 0x20)) (writes 0x0F) (translated 0x0F true true 0)
    (standing (stored_of 0x04 0 0x0F 0x28 LOW) every_note (segment 0 0xF0 0x20)))
    (translated 0x0F false false 0) (translating (segment 0 0xF0 0xE0)) ∷
    -- "FATL set by two violations of one instruction."
    turned (row (unit_in 0x01 every_note 0) (read_at 0x41) (translated 0x2341 true true 0) (unit_in 0x05 every_note 0))
    (translated 0x2341 true true 0) (unit_in 0x81 every_note 0) ∷
    -- "The aborted fetch overwriting ISN": where VTR was cleared
    turned (row (unit_in 0 every_note 0) (fetch_at 0x15) (drives_block kind.Aborted 0x2315 false true) (unit_in 0 requested 0))
    (drives_block kind.Aborted 0x2315 false true) (fetched_at 0xC0 5 0x15 requested 0) ∷
    -- "or forgiving a second fetch too": both past the limit, the first aborted, the second a violation
    turned (row_after (unit_in 0x04 every_note 0) (fetch_at 0x41 ∷ []) (fetch_at 0x41) (translated 0x2341 true true 0)
    (unit_in 0x84 (notes_of true true false true) 0))
    (drives_block kind.Aborted 0x2341 false true) (unit_in 0x04 requested 0) ∷
    -- "A DMA cycle held back by the CPU's fault."
    turned (row (unit_in 0x04 every_note 0) (cycle true true true 8 5 0x15) (translated 0x2315 false true 0x2B) (unit_in 0x04 every_note 0x80))
    (translated 0x2315 true true 0x2B) (unit_in 0x04 every_note 0) ∷
    []

-- a row, and the low byte that a wrong reading would leave in it
abbrev turned_low : Row → (low : ℕ) → Turned
turned_low r low = turned r r.answer (record { table = r.left.table; registers = with_low r.left.registers low })

-- a row, and the distance that a wrong reading would answer in it
abbrev turned_distance : Row → (distance : ℕ) → Turned
turned_distance r n =
    let a : Answer = r.answer in
    turned r (answer_with a.kind a.address.driven a.address.block a.sup a.trap a.drives a.byte n) r.left

-- Open points of docs/DECISIONS.md, by their numbers
abbrev pub turned_readings : List Turned
turned_readings =
    -- 8: an aborted fetch drives nothing
    turned (row (unit_in 0x04 every_note 0) (fetch_at 0x15) (drives_block kind.Aborted 0x2315 false true) (unit_in 0x04 requested 0))
    (drives_nothing kind.Aborted false true) (unit_in 0x04 requested 0) ∷
    -- 10: a write that hold suppresses does not warn
    turned (row (unit_in 0x01 every_note 0x20) (write_at true 0x8 0x40) (translated 0x2340 true true 0) (unit_in 0x21 every_note 0x20))
    (translated 0x2340 true true 0) (unit_in 0x01 every_note 0x20) ∷
    -- 14: hold suppresses translated cycles alone: none that is passed, and none that is not driven
    turned (row (unit_as 0x80 0x04 every_note 0) (read_at 0x15) (drives_block kind.Passed 0x0515 true true) (unit_as 0x80 0x04 every_note 0))
    (drives_block kind.Passed 0x0515 false true) (unit_as 0x80 0x04 every_note 0) ∷
    turned (row (unit_as 0 0x04 every_note 0) (read_at 0x15) (drives_nothing kind.Ignored true true) (unit_as 0 0x04 every_note 0))
    (drives_nothing kind.Ignored false true) (unit_as 0 0x04 every_note 0) ∷
    -- 23: a DMA write sets neither REF nor CHG, or REF alone
    turned (row (unit_in 0 no_note 0) (cycle true false true 8 5 0x15) (translated 0x2315 false false 0x2B) (unit_in 0 no_note 0xC0))
    (translated 0x2315 false false 0x2B) (unit_in 0 no_note 0) ∷
    turned (row (unit_in 0 no_note 0) (cycle true false true 8 5 0x15) (translated 0x2315 false false 0x2B) (unit_in 0 no_note 0xC0))
    (translated 0x2315 false false 0x2B) (unit_in 0 no_note 0x80) ∷
    -- 25: %08 with DSCR 2 moves a byte of the base
    turned (row (unit_at 2) (command true 0x08 0) (drives_byte kind.Command 0x56 true) (unit_by 0x5A 0x15 0 0xE5 every_note (table_with own 0)))
    (drives_byte kind.Command 0x12 true) (unit_by 0x5A 0x15 0 0xE5 every_note (table_with own 0)) ∷
    -- 29: clear VTR clears the notes
    turned (row (unit_at 1) (command false 0x11 0) (drives_nothing kind.Command false true)
    (unit_by 0x5A 0x15 1 0 every_note (table_with own 0)))
    (drives_nothing kind.Command false false) (unit_by 0x5A 0x15 1 0 no_note (table_with own 0)) ∷
    -- 48: VSN keeps six bits, or ISN does
    turned (row (idle_half 0xE0) (writes_to 65) (translated 0x93 true true 0) (faulted_half 0xE0 0x41))
    (translated 0x93 true true 0) (faulted_half 0xE0 0x01) ∷
    turned (row (idle_half 0xE0) (fetches_from 65) (translated 0x02 false false 0) (fetched_half 0xE0 0x41))
    (translated 0x02 false false 0) (fetched_half 0xE0 0x01) ∷
    -- 49: VSN is bounded by 63 still, or ISN is; SAR or BCSR by 127 too
    turned (row (numbered 63 3 64 63 63) (idle 15) (drives_nothing kind.Ignored false true) (numbered 63 3 64 63 63))
    (drives_nothing (kind.Refused 2) false true) (numbered 63 3 64 63 63) ∷
    turned (row (numbered 63 3 63 63 64) (idle 15) (drives_nothing kind.Ignored false true) (numbered 63 3 63 63 64))
    (drives_nothing (kind.Refused 2) false true) (numbered 63 3 63 63 64) ∷
    turned (refusal 2 (numbered 64 3 63 63 63) (idle 15)) (drives_nothing kind.Ignored false true) (numbered 64 3 63 63 63) ∷
    turned (refusal 2 (numbered 63 3 63 64 63) (idle 15)) (drives_nothing kind.Ignored false true) (numbered 63 3 63 64 63) ∷
    -- 50: a read of VSN takes bit 6 from URS as it stands, here clear, or a read of ISN does
    turned (row (unit_at 1) (command true 0x03 0) (drives_byte kind.Command 0x6A true) (unit_at 1)) (drives_byte kind.Command 0x2A true) (unit_at 1) ∷
    turned (row (unit_at 1) (command true 0x06 0) (drives_byte kind.Command 0x53 true) (unit_at 1)) (drives_byte kind.Command 0x13 true) (unit_at 1) ∷
    -- 51: a later row stores the low byte: of the same instruction, FATL, SWW; or a fetch does, with ISN and IOFF
    turned_low (row (unit_in 0x01 every_note 0) (read_at 0x41) (translated 0x2341 true true 0) (unit_in 0x05 every_note 0)) LOW ∷
    turned_low (row (unit_in 0x01 no_note 0) (read_at 0x41) (translated 0x2341 true true 0) (unit_in 0x81 (notes_of true true false true) 0)) LOW ∷
    turned_low (row (unit_in 0x01 no_note 0x20) (write_at false 0x9 0x40) (translated 0x2340 false true 0)
    (unit_in 0x41 (notes_of true true false false) 0xE0)) LOW ∷
    turned_low (row (unit_in 0 no_note 0) (fetch_at 0x15) (translated 0x2315 false false 0x2B) (fetched_at 0xC0 5 0x15 no_note 0x80)) LOW ∷
    -- and a DMA violation does
    turned_low (row (unit_in 0 no_note 0) (cycle true true true 8 5 0x41) (translated 0x2341 true false 0) (unit_in 0 no_note 0)) LOW ∷
    -- 52: clear VTR clears the low byte, or a reset does
    turned_low (row (unit_at 1) (command false 0x11 0) (drives_nothing kind.Command false true)
    (unit_by 0x5A 0x15 1 0 every_note (table_with own 0))) 0 ∷
    turned_low (row (unit_at 1) resets (drives_nothing kind.Reset false false) (unit_by 0 0x15 0 0 no_note (table_with own 0))) 0 ∷
    -- 53: a read of VOFF shows it
    turned (row (unit_at 1) (command true 0x04 0) (drives_byte kind.Command 0x9C true) (unit_at 1)) (drives_byte kind.Command 0xE2 true) (unit_at 1) ∷
    -- 56: no violation carries a distance, or no cycle that hold suppresses, or no DMA cycle
    turned_distance (row (unit_in 0x01 every_note 0x21) (write_at true 0x8 0x50) (translated 0x2350 true true 0x10) (unit_in 0x01 every_note 0x21)) 0 ∷
    turned_distance (row (unit_in 0 every_note 0x20) (read_at 0x50) (translated 0x2350 true true 0x10) (unit_in 0 every_note 0x20)) 0 ∷
    turned_distance (row (unit_in 0 no_note 0x20) (cycle true true true 8 5 0x50) (translated 0x2350 false false 0x10) (unit_in 0 no_note 0xA0)) 0 ∷
    -- an aborted fetch carries one, or a cycle that is passed
    turned_distance (row (unit_in 0 every_note 0x20) (fetch_at 0x50) (drives_block kind.Aborted 0x2350 false true) (unit_in 0 requested 0x20)) 0x10 ∷
    turned_distance (row (unit_as 0x80 0 no_note 0x20) (read_at 0x50) (drives_block kind.Passed 0x0550 false false) (unit_as 0x80 0 no_note 0x20)) 0x10 ∷
    -- 57: the accessed block is counted too, of a segment or of a stack
    turned_distance (remains 0 0x3F 0x01) 0x02 ∷
    turned_distance (remains 0x20 0x41 0x01) 0x02 ∷
    -- a stack is measured to its top, to block 0, or as if DIRW were clear
    turned_distance (remains 0x20 0xF0 0xB0) 0x0F ∷
    turned_distance (remains 0x20 0xF0 0xB0) 0xF0 ∷
    turned_distance (remains 0x20 0xF0 0xB0) 0 ∷
    -- past the limit it is what a byte makes of the difference, or the blocks back to it
    turned_distance (row (unit_in 0x04 every_note 0x20) (read_at 0x3F) (translated 0x233F true true 0) (unit_in 0x04 every_note 0x20)) 0xFF ∷
    turned_distance (row (unit_in 0x04 every_note 0x20) (read_at 0x3F) (translated 0x233F true true 0) (unit_in 0x04 every_note 0x20)) 0x01 ∷
    []

pub wrong_turns_refuted : T (all_refuted wrong_turns)
unfolding computed
wrong_turns_refuted = tt

pub turned_readings_refuted : T (all_refuted turned_readings)
unfolding computed
turned_readings_refuted = tt

-- Ticket 11, "take the row out": a first entry requests beside FATL too. No cycle shows it, since a unit with FATL alone refuses each.
pub orphan_row_refuted : T (first_entry (unit_in 0x80 no_note 0).registers (read_at 0x41) 0x04).notes.request
unfolding computed
orphan_row_refuted = tt
