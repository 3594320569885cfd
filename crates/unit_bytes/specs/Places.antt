-- Where each field of a unit stands among its bytes, and each note in its byte: one table, with the numbers of include/distantarm.h.
-- `sample_unit` has a value of its own in each field. `Places` (proofs/) shows that the rows hold both ways, of the bytes of a unit and of
-- the unit in bytes.
use Rattle.std.specs.Prelude.{Bool, true, false, ◌&&◌, List, [], ◌∷◌, map, ◌≡◌, ℕ, ◌/◌, ◌%◌, eqb, length, get_or, set, replicate}
use Rattle.rules.specs.PowerOn.{stored_of, notes_of, unit_of, blank}
use Rattle.rules.specs.Seen.{segment}
use Rattle.rules.specs.declared.Notes.{Notes}
use Rattle.rules.specs.declared.Unit.{Unit}
use Rattle.unit_bytes.specs.Snapshot.{segments, unit_size, notes_in, unit_in, notes_byte, unit_bytes}

-- ---- the unit that the rows speak of: descriptors 0, 1 and 63, and every register, with values that differ

abbrev pub sample_unit : Unit
sample_unit =
    unit_of
    (set (set (set (replicate segments blank) 0 (segment 0xA1A2 0xA3 0xA4)) 1 (segment 0xB1B2 0xB3 0xB4)) 63 (segment 0xC1C2 0xC3 0xC4))
    0xD0 0x21 0x02 (stored_of 0x43 0x24 0x85 0x36 0xE9) 0x27 0x98 (notes_of true false true false)

-- ---- its bytes

-- the byte at a place, and the field of a unit that it holds
pub record ByteRow : Type 0 where
  pub at : ℕ
  pub byte : ℕ
  pub field : Unit → ℕ

abbrev byte_row : (at byte : ℕ) → (Unit → ℕ) → ByteRow
byte_row at byte field = record { at = at; byte = byte; field = field }

-- the four bytes of the descriptor with a number: base (high byte first), limit, attributes
abbrev high : ℕ → Unit → ℕ
high n u = (get_or u.table n blank).base / 256

abbrev low : ℕ → Unit → ℕ
low n u = (get_or u.table n blank).base % 256

abbrev limit : ℕ → Unit → ℕ
limit n u = (get_or u.table n blank).limit

abbrev attributes : ℕ → Unit → ℕ
attributes n u = (get_or u.table n blank).attributes

abbrev pub byte_rows : List ByteRow
byte_rows =
    byte_row 0 0xD0 (λ u. u.registers.control.mr)
    ∷ byte_row 1 0x21 (λ u. u.registers.control.sar)
    ∷ byte_row 2 0x02 (λ u. u.registers.control.dscr)
    ∷ byte_row 3 0x43 (λ u. u.registers.faults.vtr)
    ∷ byte_row 4 0x24 (λ u. u.registers.faults.vsn)
    ∷ byte_row 5 0x85 (λ u. u.registers.faults.voff)
    ∷ byte_row 6 0x36 (λ u. u.registers.faults.bcsr)
    ∷ byte_row 7 0x27 (λ u. u.registers.fetched.isn)
    ∷ byte_row 8 0x98 (λ u. u.registers.fetched.ioff)
    ∷ byte_row 9 0x05 (λ u. notes_byte u.registers.notes)
    ∷ byte_row 10 0xA1 (high 0)
    ∷ byte_row 11 0xA2 (low 0)
    ∷ byte_row 12 0xA3 (limit 0)
    ∷ byte_row 13 0xA4 (attributes 0)
    ∷ byte_row 14 0xB1 (high 1)
    ∷ byte_row 15 0xB2 (low 1)
    ∷ byte_row 16 0xB3 (limit 1)
    ∷ byte_row 17 0xB4 (attributes 1)
    ∷ byte_row 262 0xC1 (high 63)
    ∷ byte_row 263 0xC2 (low 63)
    ∷ byte_row 264 0xC3 (limit 63)
    ∷ byte_row 265 0xC4 (attributes 63)
    ∷ byte_row 266 0xE9 (λ u. u.registers.low)
    ∷ []

-- as many bytes as a unit has, with those of the rows in their places
abbrev row_bytes : List ByteRow → List ℕ
row_bytes [] = replicate unit_size 0
row_bytes (r ∷ rs) = set (row_bytes rs) r.at r.byte

-- the byte stands there in the bytes of the unit, and the field has it in the unit of the rows' bytes
abbrev byte_row_holds : ByteRow → Bool
byte_row_holds r = eqb (get_or (unit_bytes sample_unit) r.at 0) r.byte && eqb (r.field (unit_in (row_bytes byte_rows))) r.byte

abbrev byte_rows_hold : List ByteRow → Bool
byte_rows_hold [] = true
byte_rows_hold (r ∷ rs) = byte_row_holds r && byte_rows_hold rs

abbrev pub laid_out : Bool
laid_out = eqb (length (unit_bytes sample_unit)) 267 && byte_rows_hold byte_rows

-- ---- the notes' bits: none, each alone, and all

abbrev pub note_rows : List (ℕ × Notes)
note_rows =
    (0, notes_of false false false false)
    ∷ (1, notes_of true false false false)
    ∷ (2, notes_of false true false false)
    ∷ (4, notes_of false false true false)
    ∷ (8, notes_of false false false true)
    ∷ (15, notes_of true true true true)
    ∷ []

-- both ways
abbrev pub NoteRowsHold : Type 0
NoteRowsHold =
    (map (λ p. notes_byte p.1) note_rows ≡ map (λ p. p.0) note_rows)
    × (map (λ p. notes_in p.0) note_rows ≡ map (λ p. p.1) note_rows)
