-- Which cycles the claims name, by status and code number as document 01 prints them.
-- Assumes nothing.
use Rattle.std.specs.Prelude.{Bool, true, false, not, ◌&&◌, ◌||◌, List, [], ◌∷◌, ℕ, eqb, leb}
use Rattle.std.specs.Bool.{beq}
use Rattle.rules.specs.Bus.{cpu, write}
use Rattle.rules.specs.Flags.{has}
use Rattle.rules.specs.Masks.{NMS, MST, URS, TRNS, MSEN, UPPER}
use Rattle.rules.specs.Refusals.{out_of_range}
use Rattle.rules.specs.Seen.{cycle_with}
use Rattle.rules.specs.declared.Cycle.{Cycle}
use Rattle.rules.specs.declared.Unit.{Unit}
use Rattle.theorems_runs.specs.Sequences.{among}

-- "Status 3, CPU, select on: command", with the reset line off
abbrev pub selected_command : Cycle → Bool
selected_command c = not c.reset && eqb c.status 3 && (cpu c && c.select)

-- "Status 4, CPU: acknowledge", with the reset line off
abbrev pub acknowledge : Cycle → Bool
acknowledge c = not c.reset && eqb c.status 4 && cpu c

-- "Status %8 to %D: memory cycle, CPU or DMA", with the reset line off
abbrev pub memory_cycle : Cycle → Bool
memory_cycle c = not c.reset && (leb 0x8 c.status && leb c.status 0xD)

-- "A CPU read with status %D starts an instruction", with the reset line off; "A write with status %D starts nothing"
abbrev pub fetches : Cycle → Bool
fetches c = not c.reset && (cpu c && c.read && eqb c.status 0xD)

-- "MSEN clear: not driven. TRNS clear: [..] unchecked": passed is what has MSEN set and TRNS clear
abbrev pub passing_conditions : (mr : ℕ) → Bool
passing_conditions mr = has mr MSEN && not (has mr TRNS)

-- the translation conditions: neither "MSEN clear" nor "TRNS clear", "URS must equal segment bit 6, and if MST is set, NMS must equal the
-- mode (1 for normal)"
abbrev pub translation_conditions : (mr : ℕ) → Cycle → Bool
translation_conditions mr c =
    has mr MSEN && has mr TRNS && beq (has mr URS) (has c.segment UPPER)
    && (not (has mr MST) || beq (has mr NMS) c.normal)

-- a memory cycle that 1 does not refuse and that meets them, an aborted fetch or not
abbrev pub meets_conditions : Unit → Cycle → Bool
meets_conditions u c = not (out_of_range c) && memory_cycle c && translation_conditions u.registers.control.mr c

-- "read-only %02 VTR, %03 VSN, %04 VOFF, %05 BCSR, %06 ISN, %07 IOFF"
abbrev pub read_only : (code : ℕ) → Bool
read_only n = leb 0x02 n && leb n 0x07

-- "%08 base, %09 limit, %0A attributes, %0B whole descriptor; %0C to %0F the same four with SAR stepped"
abbrev pub on_descriptor : (code : ℕ) → Bool
on_descriptor n = leb 0x08 n && leb n 0x0F

-- software reset %10, clear VTR %11, clear SWW %13, clear FATL %14, set all CPUI %15, set all DMAI %16
abbrev pub sets_and_clears : List ℕ
sets_and_clears = 0x10 ∷ 0x11 ∷ 0x13 ∷ 0x14 ∷ 0x15 ∷ 0x16 ∷ []

abbrev pub set_or_clear : (code : ℕ) → Bool
set_or_clear n = among n sets_and_clears

-- %00 to %11, %13 to %16, and DSCR %20
abbrev pub listed : (code : ℕ) → Bool
listed n = leb n 0x11 || leb 0x13 n && leb n 0x16 || eqb n 0x20

-- a command that is not refused, and writes a byte of a descriptor
unfoldable pub descriptor_write : Cycle → Bool
descriptor_write c = not (out_of_range c) && selected_command c && write c && on_descriptor c.offset

-- a command that 1 does not refuse, and that reads or writes a byte of a descriptor
abbrev pub descriptor_command : Cycle → Bool
descriptor_command c = not (out_of_range c) && selected_command c && on_descriptor c.offset

-- one that reads it
abbrev pub descriptor_read : Cycle → Bool
descriptor_read c = descriptor_command c && c.read

-- "Software reset": a write of %10
abbrev pub software_reset : Cycle → Bool
software_reset c = selected_command c && write c && eqb c.offset 0x10

-- a selected CPU write with this code, in the ranges of 1; its data byte, its low byte, its mode and its segment are left open
abbrev pub writes : (code : ℕ) → Cycle → Bool
writes n c = not (out_of_range c) && selected_command c && write c && eqb c.offset n

-- a CPU write in system mode with select on and low byte 0, by its status, its code, its data byte and the reset line
abbrev pub written : (status code byte : ℕ) → (reset : Bool) → Cycle
written status code byte reset = cycle_with status false false false true 0 code 0 byte reset
