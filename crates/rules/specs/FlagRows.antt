-- Document 01, "Flags, from bit 0 up", a second time and in another form: each flag by the number of its bit, and by what it does to a cycle.
-- `Lists` (proofs/) shows that all of it holds of the rules.
use Rattle.std.specs.Prelude.{Bool, true, false, ◌&&◌, List, [], ◌∷◌, ◌++◌, ℕ, zero, suc, ◌+◌, ◌-◌, ◌*◌, ◌/◌, ◌%◌, ◌^◌, eqb}
use Rattle.rules.specs.Flags.{has, lacks, with, without}
use Rattle.rules.specs.Masks.{RD, SYS, CPUI, EXC, DMAI, DIRW, CHG, REF}
use Rattle.rules.specs.Masks.{RDV, SYSV, SLV, CPUIV, EXCV, PWW, SWW, FATL, PRIMARY, DMAIV}
use Rattle.rules.specs.Masks.{NMS, MST, URS, TRNS, MSEN, READ, NORMAL, UPPER}
use Rattle.rules.specs.PowerOn.{stored_of, notes_of}
use Rattle.rules.specs.Seen.{Row, row, segment, every_note, unit_with, standing, translating, LOW, cycle}
use Rattle.rules.specs.Seen.{drives_block, drives_nothing, translated, same_bit}
use Rattle.rules.specs.declared.Cycle.{Cycle}
use Rattle.rules.specs.declared.Kind.TheVariants as kind

-- Masks

-- the masks of the bits n, n + 1 and so on
abbrev pub from_bit : (n : ℕ) → List ℕ → Bool
from_bit n [] = true
from_bit n (m ∷ ms) = eqb m (2 ^ n) && from_bit (suc n) ms

-- "attributes: RD, SYS, CPUI, EXC, DMAI, DIRW, CHG, REF"; "VTR: RDV, SYSV, SLV, CPUIV, EXCV, PWW, SWW, FATL"; "MR: bits 0 to 2 ID, then
-- NMS, MST, URS, TRNS, MSEN"; "bit 4 set for read, bit 5 set for normal mode"; "segment bit 6". "The first six VTR flags are primary."
abbrev pub in_order : Bool
in_order =
    from_bit 0 (RD ∷ SYS ∷ CPUI ∷ EXC ∷ DMAI ∷ DIRW ∷ CHG ∷ REF ∷ [])
    && from_bit 0 (RDV ∷ SYSV ∷ SLV ∷ CPUIV ∷ EXCV ∷ PWW ∷ SWW ∷ FATL ∷ [])
    && from_bit 3 (NMS ∷ MST ∷ URS ∷ TRNS ∷ MSEN ∷ [])
    && from_bit 4 (READ ∷ NORMAL ∷ [])
    && from_bit 6 (UPPER ∷ [])
    && from_bit 7 (DMAIV ∷ [])
    && eqb PRIMARY (RDV + SYSV + SLV + CPUIV + EXCV + PWW)

-- The flag of bit n in the byte x: tested, set and cleared, it is that bit, and the other bits stay.
abbrev pub one_bit : (x n : ℕ) → Bool
one_bit x n =
    let bit : ℕ = x / 2 ^ n % 2 in
    same_bit (has x (2 ^ n)) (eqb bit 1) && same_bit (lacks x (2 ^ n)) (eqb bit 0)
    && eqb (with x (2 ^ n)) (x + (1 - bit) * 2 ^ n) && eqb (without x (2 ^ n)) (x - bit * 2 ^ n)

abbrev pub each_below : ℕ → (ℕ → Bool) → Bool
each_below zero f = true
each_below (suc n) f = f n && each_below n f

-- every flag of every byte
abbrev pub bit_by_bit : Bool
bit_by_bit = each_below 8 (λ n. each_below 256 (λ x. one_bit x n))

-- Rows. Cycles at offset byte 0 of segment 0, which has every length.

abbrev pub read : Bool
read = true

abbrev pub write : Bool
write = false

abbrev pub normal : Bool
normal = true

abbrev pub system : Bool
system = false

abbrev pub cpu : (read normal : Bool) → (status : ℕ) → Cycle
cpu r m status = cycle false r m status 0 0

abbrev pub dma : (read normal : Bool) → (status : ℕ) → Cycle
dma r m status = cycle true r m status 0 0

-- the attributes allow the cycle: nothing is recorded, and they are marked
abbrev pub allowed : (attributes : ℕ) → Cycle → (marked : ℕ) → Row
allowed a c marked = row (translating (segment 0 0xFF a)) c (translated 0 false false 0xFF) (translating (segment 0 0xFF marked))

-- a violation of the CPU, with the VTR and BCSR that it leaves
abbrev pub violation : (attributes : ℕ) → Cycle → (vtr bcsr : ℕ) → Row
violation a c vtr bcsr =
    row (translating (segment 0 0xFF a)) c (translated 0 true true 0xFF) (standing (stored_of vtr 0 0 bcsr LOW) every_note (segment 0 0xFF a))

-- a violation of DMA: SUP alone
abbrev pub stopped : (attributes : ℕ) → Cycle → Row
stopped a c = row (translating (segment 0 0xFF a)) c (translated 0 true false 0xFF) (translating (segment 0 0xFF a))

-- "RD and a write; SYS and normal mode; EXC and status neither %C nor %D"; "CPUI for the CPU; DMAI for DMA"
abbrev pub rights : List Row
rights =
    violation 0x01 (cpu write normal 0x8) 0x01 0x28 ∷
    violation 0x01 (cpu write system 0x9) 0x01 0x09 ∷
    stopped 0x01 (dma write normal 0x8) ∷
    allowed 0x01 (cpu read normal 0x8) 0x81 ∷
    allowed 0x01 (dma read system 0x8) 0x81 ∷
    violation 0x02 (cpu read normal 0x8) 0x02 0x38 ∷
    violation 0x02 (cpu write normal 0x8) 0x02 0x28 ∷
    stopped 0x02 (dma read normal 0x8) ∷
    allowed 0x02 (cpu write system 0x8) 0xC2 ∷
    allowed 0x02 (dma read system 0x8) 0x82 ∷
    violation 0x04 (cpu read system 0x8) 0x08 0x18 ∷
    violation 0x04 (cpu write normal 0x8) 0x08 0x28 ∷
    allowed 0x04 (dma write normal 0x8) 0xC4 ∷
    allowed 0x04 (dma read system 0x8) 0x84 ∷
    violation 0x08 (cpu read normal 0x8) 0x10 0x38 ∷
    violation 0x08 (cpu read system 0x9) 0x10 0x19 ∷
    violation 0x08 (cpu write normal 0xA) 0x10 0x2A ∷
    violation 0x08 (cpu write system 0xB) 0x10 0x0B ∷
    allowed 0x08 (cpu read normal 0xC) 0x88 ∷
    allowed 0x08 (cpu read normal 0xD) 0x88 ∷
    allowed 0x08 (cpu write system 0xD) 0xC8 ∷
    stopped 0x08 (dma read system 0xB) ∷
    allowed 0x08 (dma write normal 0xC) 0xC8 ∷
    stopped 0x10 (dma read system 0xC) ∷
    stopped 0x10 (dma write normal 0x8) ∷
    allowed 0x10 (cpu write normal 0x8) 0xD0 ∷
    allowed 0x10 (cpu read system 0xC) 0x90 ∷
    violation 0x1F (cpu write normal 0x8) 0x1B 0x28 ∷
    stopped 0x1F (dma write normal 0x8) ∷
    []

-- "sets REF, and CHG too if it writes": beside what stands
abbrev pub marks : List Row
marks =
    allowed 0x00 (cpu read normal 0x8) 0x80 ∷
    allowed 0x00 (cpu write normal 0x8) 0xC0 ∷
    allowed 0x40 (dma read system 0x8) 0xC0 ∷
    allowed 0x80 (dma write system 0x8) 0xC0 ∷
    allowed 0xC0 (cpu read normal 0xD) 0xC0 ∷
    []

-- A read at offset byte %15 of a segment, by a unit with MR, and with base %2300 in descriptor 1.

abbrev pub translates : (mr number : ℕ) → (normal : Bool) → Row
translates mr number m =
    row (unit_with mr 1 (segment 0x2300 0xFF 0)) (cycle false true m 8 number 0x15) (translated 0x2315 false false 0xEA)
    (unit_with mr 1 (segment 0x2300 0xFF 0x80))

abbrev pub passes : (mr number block : ℕ) → Row
passes mr number block =
    row (unit_with mr 1 (segment 0x2300 0xFF 0)) (cycle false true true 8 number 0x15) (drives_block kind.Passed block false false)
    (unit_with mr 1 (segment 0x2300 0xFF 0))

abbrev pub silent : (mr number : ℕ) → (normal : Bool) → Row
silent mr number m =
    row (unit_with mr 1 (segment 0x2300 0xFF 0)) (cycle false true m 8 number 0x15) (drives_nothing kind.Ignored false false)
    (unit_with mr 1 (segment 0x2300 0xFF 0))

-- "MSEN clear: not driven. TRNS clear: address lines A23 to A8 are segment x 256 + offset byte, unchecked. Then URS must equal segment
-- bit 6, and if MST is set, NMS must equal the mode (1 for normal); else not driven."
abbrev pub modes : List Row
modes =
    silent 0x00 1 normal ∷
    silent 0x7F 65 normal ∷
    passes 0x80 1 0x0115 ∷
    passes 0xBF 65 0x4115 ∷
    translates 0xC0 1 normal ∷
    translates 0xC7 1 system ∷
    silent 0xC0 65 normal ∷
    translates 0xE0 65 normal ∷
    silent 0xE0 1 normal ∷
    translates 0xD0 1 system ∷
    silent 0xD0 1 normal ∷
    translates 0xD8 1 normal ∷
    silent 0xD8 1 system ∷
    translates 0xC8 1 normal ∷
    translates 0xC8 1 system ∷
    []

-- "The first six VTR flags are primary": beside each of them a later instruction's violation sets FATL, and requests
abbrev pub primary : (vtr : ℕ) → Row
primary vtr =
    row (standing (stored_of vtr 0 0 0 0) (notes_of false false false false) (segment 0 0xFF 0x04)) (cpu read normal 0x8) (translated 0 true true 0xFF)
    (standing (stored_of (vtr + 0x80) 0 0 0 0) (notes_of true true false true) (segment 0 0xFF 0x04))

abbrev pub primaries : List Row
primaries = primary 0x01 ∷ primary 0x02 ∷ primary 0x04 ∷ primary 0x08 ∷ primary 0x10 ∷ primary 0x20 ∷ []

abbrev pub flag_rows : List Row
flag_rows = rights ++ (marks ++ (modes ++ primaries))
