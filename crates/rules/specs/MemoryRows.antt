-- Document 01, "Fetch", "SUP" and "Recording", and ticket 5, a second time and in another form: what each sentence leaves in a unit in which every register
-- has a value of its own. `Lists` (proofs/) shows that all of it holds of the rules.
use Rattle.std.specs.Prelude.{Bool, true, false, List, [], ◌∷◌, ◌++◌, ℕ, ◌+◌}
use Rattle.rules.specs.PowerOn.{stored_of, notes_of}
use Rattle.rules.specs.Seen.{Row, row, segment, no_note, warned, every_note, unit_holding, LOW, cycle}
use Rattle.rules.specs.Seen.{drives_block, drives_nothing, translated}
use Rattle.rules.specs.declared.Cycle.{Cycle}
use Rattle.rules.specs.declared.Notes.{Notes}
use Rattle.rules.specs.declared.Unit.{Unit}
use Rattle.rules.specs.declared.Kind.TheVariants as kind

-- a unit by MR, VTR, notes and the attributes of segment 5, which has base %2300 and limit %40
abbrev pub unit_as : (mr vtr : ℕ) → Notes → (attributes : ℕ) → Unit
unit_as mr vtr n a = unit_holding mr 0 0 (stored_of vtr 0x6A 0x9C 0x38 0xE2) 0x53 0x71 n 5 (segment 0x2300 0x40 a)

-- the same that translates; and with an instruction stored
abbrev pub unit_in : (vtr : ℕ) → Notes → (attributes : ℕ) → Unit
unit_in = unit_as 0xC0

abbrev pub fetched_at : (mr isn ioff : ℕ) → Notes → (attributes : ℕ) → Unit
fetched_at mr isn ioff n a = unit_holding mr 0 0 (stored_of 0 0x6A 0x9C 0x38 0xE2) isn ioff n 5 (segment 0x2300 0x40 a)

-- cycles of segment 5
abbrev pub fetch_at : (offset : ℕ) → Cycle
fetch_at o = cycle false true true 0xD 5 o

abbrev pub read_at : (offset : ℕ) → Cycle
read_at o = cycle false true true 0x8 5 o

abbrev pub write_at : (normal : Bool) → (status offset : ℕ) → Cycle
write_at m status o = cycle false false m status 5 o

-- the request alone
abbrev pub requested : Notes
requested = notes_of true false false false

-- "If await is set, this is the aborted fetch: await, own and hold are cleared, the address is driven as below, SUP is off, and nothing is
-- checked or recorded." Offset %41 is past the limit, and %04 is CPUI.
abbrev pub aborted_fetches : List Row
aborted_fetches =
    row (unit_in 0 every_note 0) (fetch_at 0x15) (drives_block kind.Aborted 0x2315 false true) (unit_in 0 requested 0) ∷
    row (unit_in 0x08 every_note 0x04) (fetch_at 0x41) (drives_block kind.Aborted 0x2341 false true) (unit_in 0x08 requested 0x04) ∷
    row (unit_in 0 (notes_of false true true true) 0) (fetch_at 0x15) (drives_block kind.Aborted 0x2315 false false) (unit_in 0 no_note 0) ∷
    row (unit_as 0x80 0 every_note 0) (fetch_at 0x15) (drives_block kind.Aborted 0x0515 false true) (unit_as 0x80 0 requested 0) ∷
    row (unit_as 0 0 every_note 0) (fetch_at 0x15) (drives_nothing kind.Aborted false true) (unit_as 0 0 requested 0) ∷
    []

-- "Otherwise own and hold are cleared first, and the cycle goes on." "A CPU read at %D translated without violation, not aborted, stores ISN
-- [..] and IOFF while VTR is zero."; ticket 2: the whole segment, 69 in a unit with URS
abbrev pub fetches : List Row
fetches =
    row (unit_in 0 (notes_of true false true true) 0) (fetch_at 0x15) (translated 0x2315 false true 0x2B) (fetched_at 0xC0 5 0x15 requested 0x80) ∷
    row (unit_as 0xE0 0 no_note 0) (cycle false true true 0xD 69 0x15) (translated 0x2315 false false 0x2B) (fetched_at 0xE0 69 0x15 no_note 0x80) ∷
    row (unit_in 0x20 (notes_of true false true true) 0) (fetch_at 0x15) (translated 0x2315 false true 0x2B) (unit_in 0x20 requested 0x80) ∷
    row (unit_in 0x20 (notes_of true false true true) 0) (fetch_at 0x41) (translated 0x2341 true true 0)
    (unit_in 0xA0 (notes_of true true false true) 0) ∷
    row (unit_in 0 no_note 0) (fetch_at 0x41) (translated 0x2341 true true 0)
    (unit_holding 0xC0 0 0 (stored_of 0x04 5 0x41 0x3D LOW) 0x53 0x71 every_note 5 (segment 0x2300 0x40 0)) ∷
    row (unit_as 0x80 0 (notes_of true false true true) 0) (fetch_at 0x15) (drives_block kind.Passed 0x0515 false true) (unit_as 0x80 0 requested 0) ∷
    row (unit_as 0 0 (notes_of true false true true) 0) (fetch_at 0x15) (drives_nothing kind.Ignored false true) (unit_as 0 0 requested 0) ∷
    []

-- "A CPU read with status %D starts an instruction"; "A write with status %D starts nothing and records no instruction address."
abbrev pub no_fetches : List Row
no_fetches =
    row (unit_in 0 every_note 0) (write_at true 0xD 0x15) (translated 0x2315 true true 0x2B) (unit_in 0 every_note 0) ∷
    row (unit_in 0 no_note 0) (write_at true 0xD 0x15) (translated 0x2315 false false 0x2B) (unit_in 0 no_note 0xC0) ∷
    row (unit_in 0 every_note 0) (cycle true true true 0xD 5 0x15) (translated 0x2315 false true 0x2B) (unit_in 0 every_note 0x80) ∷
    row (unit_in 0 every_note 0) (cycle false true true 0xC 5 0x15) (translated 0x2315 true true 0x2B) (unit_in 0 every_note 0) ∷
    row (unit_in 0 no_note 0) (cycle false true true 0xC 5 0x15) (translated 0x2315 false false 0x2B) (unit_in 0 no_note 0x80) ∷
    []

-- "SUP is on exactly for a violation of this cycle, or, for any CPU memory cycle, translated or not, while hold was already set."
abbrev pub suppresses : List Row
suppresses =
    row (unit_in 0 every_note 0) (read_at 0x15) (translated 0x2315 true true 0x2B) (unit_in 0 every_note 0) ∷
    row (unit_as 0x80 0 every_note 0) (read_at 0x15) (drives_block kind.Passed 0x0515 true true) (unit_as 0x80 0 every_note 0) ∷
    row (unit_as 0 0 every_note 0) (read_at 0x15) (drives_nothing kind.Ignored true true) (unit_as 0 0 every_note 0) ∷
    row (unit_in 0 every_note 0) (cycle true true true 8 5 0x15) (translated 0x2315 false true 0x2B) (unit_in 0 every_note 0x80) ∷
    row (unit_as 0x80 0 every_note 0) (cycle true true true 8 5 0x15) (drives_block kind.Passed 0x0515 false true) (unit_as 0x80 0 every_note 0) ∷
    row (unit_as 0 0 every_note 0) (cycle true true true 8 5 0x15) (drives_nothing kind.Ignored false true) (unit_as 0 0 every_note 0) ∷
    row (unit_in 0 every_note 0) (cycle true true true 8 5 0x41) (translated 0x2341 true true 0) (unit_in 0 every_note 0) ∷
    []

-- Ticket 5. A read within segment 5, by its attributes, and the blocks that remain to block %40
abbrev pub remains : (attributes offset distance : ℕ) → Row
remains a o n = row (unit_in 0 no_note a) (read_at o) (translated (0x2300 + o) false false n) (unit_in 0 no_note (a + 0x80))

-- "how many whole blocks remain between the accessed block and the last permitted one in the segment's direction: limit less offset byte, or
-- offset byte less limit with DIRW [%20]"
abbrev pub distances : List Row
distances =
    remains 0 0x00 0x40 ∷
    remains 0 0x3F 0x01 ∷
    remains 0 0x40 0x00 ∷
    remains 0x20 0xFF 0xBF ∷
    remains 0x20 0x41 0x01 ∷
    remains 0x20 0x40 0x00 ∷
    row (unit_in 0 no_note 0x20) (write_at true 0x8 0x41) (translated 0x2341 false false 0x01) (unit_in 0 no_note 0xE0) ∷
    []

-- "and 0 in a length violation": of the CPU and of DMA, and beside another (RD, %01)
abbrev pub no_distances : List Row
no_distances =
    row (unit_in 0x04 every_note 0x20) (read_at 0x3F) (translated 0x233F true true 0) (unit_in 0x04 every_note 0x20) ∷
    row (unit_in 0 no_note 0x20) (cycle true true true 8 5 0x3F) (translated 0x233F true false 0) (unit_in 0 no_note 0x20) ∷
    row (unit_in 0x05 every_note 0x21) (write_at true 0x8 0x3F) (translated 0x233F true true 0) (unit_in 0x05 every_note 0x21) ∷
    row (unit_in 0x05 every_note 0x01) (write_at true 0x8 0x41) (translated 0x2341 true true 0) (unit_in 0x05 every_note 0x01) ∷
    []

-- "Every answer of a translated cycle that is not an aborted fetch carries it": in a violation that is none of length (RD; DMAI, %10), suppressed
-- by hold, of DMA, a fetch. "all other answers carry 0": an aborted fetch, one that is passed, one that is not driven, of the same block.
abbrev pub carriers : List Row
carriers =
    row (unit_in 0x01 every_note 0x21) (write_at true 0x8 0x50) (translated 0x2350 true true 0x10) (unit_in 0x01 every_note 0x21) ∷
    row (unit_in 0 every_note 0x20) (read_at 0x50) (translated 0x2350 true true 0x10) (unit_in 0 every_note 0x20) ∷
    row (unit_in 0 no_note 0x20) (cycle true true true 8 5 0x50) (translated 0x2350 false false 0x10) (unit_in 0 no_note 0xA0) ∷
    row (unit_in 0 no_note 0x30) (cycle true true true 8 5 0x50) (translated 0x2350 true false 0x10) (unit_in 0 no_note 0x30) ∷
    row (unit_in 0x01 no_note 0x20) (fetch_at 0x50) (translated 0x2350 false false 0x10) (unit_in 0x01 no_note 0xA0) ∷
    row (unit_in 0 every_note 0x20) (fetch_at 0x50) (drives_block kind.Aborted 0x2350 false true) (unit_in 0 requested 0x20) ∷
    row (unit_as 0x80 0 no_note 0x20) (read_at 0x50) (drives_block kind.Passed 0x0550 false false) (unit_as 0x80 0 no_note 0x20) ∷
    row (unit_as 0 0 no_note 0x20) (read_at 0x50) (drives_nothing kind.Ignored false false) (unit_as 0 0 no_note 0x20) ∷
    []

-- Recording. A violation below is a read past the limit, a warning a write at %40 of a stack (DIRW, %20) down to there.

-- by a VTR and notes: a violation leaves a VTR and notes
abbrev pub violates : (vtr : ℕ) → Notes → (trap : Bool) → (left : ℕ) → Notes → Row
violates vtr n trap left m = row (unit_in vtr n 0) (read_at 0x41) (translated 0x2341 true trap 0) (unit_in left m 0)

-- the same of a warning, not suppressed, in a mode and at a status: it marks the descriptor
abbrev pub warns : (normal : Bool) → (status vtr : ℕ) → Notes → (trap : Bool) → (left : ℕ) → Notes → Row
warns m status vtr n trap left k =
    row (unit_in vtr n 0x20) (write_at m status 0x40) (translated 0x2340 false trap 0) (unit_in left k 0xE0)

-- "No primary flag in VTR: its violation flags, or PWW, are added; VSN [..], VOFF and BCSR are stored; own is set; request and await are
-- set": own or not. (P6, P11 and the rows of ticket 2 have more.)
abbrev pub first_entries : List Row
first_entries =
    row (unit_in 0 no_note 0) (read_at 0x41) (translated 0x2341 true true 0)
    (unit_holding 0xC0 0 0 (stored_of 0x04 5 0x41 0x38 LOW) 0x53 0x71 every_note 5 (segment 0x2300 0x40 0)) ∷
    row (unit_in 0 warned 0) (read_at 0x41) (translated 0x2341 true true 0)
    (unit_holding 0xC0 0 0 (stored_of 0x04 5 0x41 0x38 LOW) 0x53 0x71 every_note 5 (segment 0x2300 0x40 0)) ∷
    []

-- "A primary flag, and own set: flags are added, nothing else; addresses stay." "Every CPU violation also sets hold."
abbrev pub same_instruction : List Row
same_instruction =
    violates 0x01 every_note true 0x05 every_note ∷
    violates 0x20 warned true 0x24 every_note ∷
    violates 0xA0 (notes_of false false true false) false 0xA4 (notes_of false false true true) ∷
    warns false 0x9 0x01 warned true 0x21 warned ∷
    warns true 0x8 0x01 (notes_of false false true false) false 0x21 (notes_of false false true false) ∷
    row (unit_in 0x01 every_note 0x20) (write_at true 0x8 0x40) (translated 0x2340 true true 0) (unit_in 0x21 every_note 0x20) ∷
    []

-- "A primary flag, own clear, violation: FATL is set; request and await only if FATL was clear.": at the system stack too
abbrev pub fatal : List Row
fatal =
    violates 0x01 no_note true 0x81 (notes_of true true false true) ∷
    violates 0x61 requested true 0xE1 (notes_of true true false true) ∷
    violates 0x81 no_note false 0x81 (notes_of false false false true) ∷
    row (unit_in 0x01 no_note 0) (write_at false 0x9 0x41) (translated 0x2341 true true 0) (unit_in 0x81 (notes_of true true false true) 0) ∷
    []

-- "A primary flag, own clear, warning in system mode at status %9: if SWW is clear it is set, with request and await only while FATL is clear.
-- If SWW stands, nothing." "The same, any other warning: as for a violation, FATL."
abbrev pub later_warnings : List Row
later_warnings =
    warns false 0x9 0x01 no_note true 0x41 (notes_of true true false false) ∷
    warns false 0x9 0x81 no_note false 0xC1 no_note ∷
    warns false 0x9 0x41 no_note false 0x41 no_note ∷
    warns false 0x9 0xC1 no_note false 0xC1 no_note ∷
    warns true 0x9 0x01 no_note true 0x81 (notes_of true true false false) ∷
    warns false 0xB 0x01 no_note true 0x81 (notes_of true true false false) ∷
    warns false 0x8 0x41 no_note true 0xC1 (notes_of true true false false) ∷
    warns true 0xD 0x81 no_note false 0x81 no_note ∷
    []

-- "A warning is a CPU write without violation, DIRW set, offset byte equal to limit.": not a read, not DMA, not with DIRW clear, and with a
-- violation (RD, %01) that violation alone
abbrev pub no_warnings : List Row
no_warnings =
    row (unit_in 0 no_note 0x20) (read_at 0x40) (translated 0x2340 false false 0) (unit_in 0 no_note 0xA0) ∷
    row (unit_in 0 no_note 0x20) (cycle true false true 8 5 0x40) (translated 0x2340 false false 0) (unit_in 0 no_note 0xE0) ∷
    row (unit_in 0 no_note 0) (write_at true 0x8 0x40) (translated 0x2340 false false 0) (unit_in 0 no_note 0xC0) ∷
    row (unit_in 0x04 every_note 0x21) (write_at true 0x8 0x40) (translated 0x2340 true true 0) (unit_in 0x05 every_note 0x21) ∷
    []

abbrev pub recording_rows : List Row
recording_rows = first_entries ++ (same_instruction ++ (fatal ++ (later_warnings ++ no_warnings)))

abbrev pub memory_rows : List Row
memory_rows = aborted_fetches ++ (fetches ++ (no_fetches ++ (suppresses ++ (distances ++ (no_distances ++ (carriers ++ recording_rows))))))
