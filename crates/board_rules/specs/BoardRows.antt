-- Rows for ticket 3: a board, a cycle with its select bits, the whole answer, the unit that is named, and every unit that is left. Answers, cycles
-- and units are written out by their values. `Rows` (proofs/) shows that all of them hold of the rules.
use Rattle.std.specs.Prelude.{Bool, true, false, ◌&&◌, List, [], ◌∷◌, ℕ, suc, eqb, Some, None}
use Rattle.rules.specs.PowerOn.{stored_of, notes_of}
use Rattle.rules.specs.Seen.{same_answer, same_registers, same_table, segment, no_note, unit_holding, cycle_with, LOW}
use Rattle.rules.specs.Seen.{drives_block, drives_byte, drives_nothing, translated}
use Rattle.rules.specs.declared.Answer.{Answer}
use Rattle.rules.specs.declared.Cycle.{Cycle}
use Rattle.rules.specs.declared.Notes.{Notes}
use Rattle.rules.specs.declared.Unit.{Unit}
use Rattle.rules.specs.declared.Kind.TheVariants as kind
use Rattle.board_rules.specs.Board.{board_stepped, Named}
use Rattle.board_rules.specs.declared.BoardStepped.{BoardStepped}

pub record BoardRow : Type 0 where
  pub units : List Unit
  pub count : ℕ
  pub selects : ℕ
  pub cycle : Cycle
  pub answer : Answer
  pub named : Named
  pub left : List Unit

-- When a row holds

abbrev same_name : Named → Named → Bool
same_name None None = true
same_name None (Some j) = false
same_name (Some i) None = false
same_name (Some i) (Some j) = eqb i j

abbrev same_units : List Unit → List Unit → Bool
same_units [] [] = true
same_units [] (v ∷ vs) = false
same_units (u ∷ us) [] = false
same_units (u ∷ us) (v ∷ vs) = same_registers u.registers v.registers && same_table u.table v.table && same_units us vs

abbrev agrees : BoardStepped → BoardRow → Bool
agrees s r = same_answer s.answer.answer r.answer && same_name s.answer.named r.named && same_units s.board.units r.left

abbrev holds : BoardRow → Bool
holds r = agrees (board_stepped (record { units = r.units; count = r.count }) (record { cycle = r.cycle; selects = r.selects })) r

abbrev pub all_hold : List BoardRow → Bool
all_hold [] = true
all_hold (r ∷ rs) = holds r && all_hold rs

-- Rows

abbrev units_of : List Unit → ℕ
units_of [] = 0
units_of (u ∷ us) = suc (units_of us)

-- a board of all its units, and one of some
abbrev row_of : List Unit → (count selects : ℕ) → Cycle → Answer → Named → (left : List Unit) → BoardRow
row_of us n k c a w l = record { units = us; count = n; selects = k; cycle = c; answer = a; named = w; left = l }

abbrev row : List Unit → (selects : ℕ) → Cycle → Answer → Named → (left : List Unit) → BoardRow
row us k c a w l = row_of us (units_of us) k c a w l

-- "The board stays as it was"
abbrev refused : (number : ℕ) → (trap : Bool) → Named → List Unit → (selects : ℕ) → Cycle → BoardRow
refused n trap w us k c = row us k c (drives_nothing (kind.Refused n) false trap) w us

-- Units: by MR, notes and segment 5, whose limit is %40

abbrev unit : (mr : ℕ) → Notes → (base attributes : ℕ) → Unit
unit mr n base a = unit_holding mr 0 0 (stored_of 0 0 0 0 0) 0 0 n 5 (segment base 0x40 a)

-- MSEN and TRNS: the lower half, with a base of its own, and the upper
abbrev low : Unit
low = unit 0xC0 no_note 0x1000 0

abbrev high : Unit
high = unit 0xE0 no_note 0x2000 0

-- MSEN alone: it passes
abbrev passing : Unit
passing = unit 0x80 no_note 0x3000 0

-- SAR 64
abbrev broken : Notes → Unit
broken n = unit_holding 0xC0 64 0 (stored_of 0 0 0 0 0) 0 0 n 5 (segment 0x1000 0x40 0)

abbrev asking : Notes
asking = notes_of true false false false

-- Cycles: the cycle's own select is on in every one, and looked at by nothing

abbrev read : (number offset : ℕ) → Cycle
read number offset = cycle_with 8 true true false true number offset LOW 0 false

abbrev fetch : (number offset : ℕ) → Cycle
fetch number offset = cycle_with 0xD true true false true number offset LOW 0 false

abbrev command : (reads : Bool) → (code byte : ℕ) → Cycle
command reads code b = cycle_with 3 reads false false true 0 code LOW b false

abbrev acknowledge : Cycle
acknowledge = cycle_with 4 true false false true 0 0 LOW 0 false

abbrev reset : Cycle
reset = cycle_with 0 true false false true 0 0 LOW 0 true

-- "A cycle [..] goes to all": who drives is named, with its address and its distance, and REF is its own; nobody drives: I
abbrev pub driven_rows : List BoardRow
driven_rows =
    row (low ∷ high ∷ []) 0 (read 5 0x15) (translated 0x1015 false false 0x2B) (Some 0) (unit 0xC0 no_note 0x1000 0x80 ∷ high ∷ []) ∷
    row (low ∷ high ∷ []) 3 (read 69 0x16) (translated 0x2016 false false 0x2A) (Some 1) (low ∷ unit 0xE0 no_note 0x2000 0x80 ∷ []) ∷
    row (unit 0 no_note 0 0 ∷ passing ∷ []) 0 (read 5 0x15) (drives_block kind.Passed 0x0515 false false) (Some 1) (unit 0 no_note 0 0 ∷ passing ∷ []) ∷
    row (low ∷ low ∷ []) 0 (read 69 0x15) (drives_nothing kind.Ignored false false) None (low ∷ low ∷ []) ∷
    []

-- "12, two units would drive the address": translated, passed and aborted-fetch addresses, equal ones too; the trap line as any request stood
abbrev pub clash_rows : List BoardRow
clash_rows =
    refused 12 false None (low ∷ high ∷ unit 0xC0 no_note 0x4000 0 ∷ []) 0 (read 5 0x15) ∷
    refused 12 false None (low ∷ low ∷ []) 0 (read 5 0x15) ∷
    refused 12 false None (passing ∷ unit 0xC0 no_note 0x0500 0 ∷ []) 0 (read 5 0x15) ∷
    refused 12 true None (low ∷ unit 0xC0 (notes_of true true true true) 0x1000 0 ∷ []) 0 (fetch 5 0x15) ∷
    refused 12 true None (low ∷ low ∷ unit 0 asking 0 0 ∷ []) 0 (read 5 0x15) ∷
    []

-- "A command may write several units and read only one"; "bits past the count are ignored"
abbrev pub command_rows : List BoardRow
command_rows =
    row (low ∷ high ∷ []) 3 (command false 0x00 0x85) (drives_nothing kind.Command false false) None
    (unit 0x85 no_note 0x1000 0 ∷ unit 0x85 no_note 0x2000 0 ∷ []) ∷
    row (low ∷ high ∷ []) 2 (command true 0x00 0) (drives_byte kind.Command 0xE0 false) None (low ∷ high ∷ []) ∷
    row (low ∷ high ∷ []) 5 (command true 0x00 0) (drives_byte kind.Command 0xC0 false) None (low ∷ high ∷ []) ∷
    refused 13 false None (low ∷ high ∷ []) 3 (command true 0x00 0) ∷
    refused 13 true None (low ∷ unit 0 asking 0 0 ∷ high ∷ []) 5 (command true 0x00 0) ∷
    row (low ∷ high ∷ []) 4 (command false 0xFF 0) (drives_nothing kind.Ignored false false) None (low ∷ high ∷ []) ∷
    []

-- "then any unit's own refusal, lowest unit first; then 12 [..]; then 13": 4 of unit 0 before 2 of unit 1, 3 and 4 before 13, 2 before 12
abbrev pub own_rows : List BoardRow
own_rows =
    refused 3 false (Some 1) (low ∷ high ∷ []) 2 (command false 0xFF 0) ∷
    refused 4 false (Some 0) (low ∷ broken no_note ∷ []) 1 (command false 0x02 0) ∷
    refused 2 true (Some 0) (broken asking ∷ low ∷ []) 2 (command false 0xFF 0) ∷
    refused 2 false (Some 1) (low ∷ broken no_note ∷ low ∷ []) 0 (read 5 0x15) ∷
    refused 4 false (Some 0) (low ∷ high ∷ []) 3 (command true 0x10 0) ∷
    refused 1 true (Some 0) (low ∷ unit 0 asking 0 0 ∷ []) 0 (read 128 0) ∷
    row_of (low ∷ broken asking ∷ []) 1 0 (read 5 0x15) (translated 0x1015 false false 0x2B) (Some 0)
    (unit 0xC0 no_note 0x1000 0x80 ∷ broken asking ∷ []) ∷
    []

-- "11, unit count not 1 to 16, comes first"; "11 shows the trap line off"
abbrev seventeen : List Unit
seventeen =
    broken asking ∷ low ∷ low ∷ low ∷ low ∷ low ∷ low ∷ low ∷ low ∷ low ∷ low ∷ low ∷ low ∷ low ∷ low ∷ low ∷ low ∷ []

abbrev pub count_rows : List BoardRow
count_rows =
    row_of (unit 0xC0 asking 0 0 ∷ []) 0 1 (command false 0xFF 0) (drives_nothing (kind.Refused 11) false false) None (unit 0xC0 asking 0 0 ∷ []) ∷
    row_of seventeen 17 1 (command false 0xFF 0) (drives_nothing (kind.Refused 11) false false) None seventeen ∷
    row_of seventeen 16 0 (read 5 0x15) (drives_nothing (kind.Refused 2) false true) (Some 0) seventeen ∷
    []

-- "SUP and the trap line are on if any unit's is": another unit's hold and request, and REF set all the same; one unit's aborted fetch beside
-- another's ordinary fetch, and one that nobody drives
abbrev pub joined_rows : List BoardRow
joined_rows =
    row (low ∷ unit 0xE0 (notes_of true false false true) 0x2000 0 ∷ []) 0 (read 5 0x15) (translated 0x1015 true true 0x2B) (Some 0)
    (unit 0xC0 no_note 0x1000 0x80 ∷ unit 0xE0 (notes_of true false false true) 0x2000 0 ∷ []) ∷
    row (unit 0xE0 (notes_of true true true true) 0x2000 0 ∷ low ∷ []) 0 (fetch 5 0x15) (translated 0x1015 false true 0x2B) (Some 1)
    (unit 0xE0 asking 0x2000 0 ∷ unit_holding 0xC0 0 0 (stored_of 0 0 0 0 0) 5 0x15 no_note 5 (segment 0x1000 0x40 0x80) ∷ []) ∷
    row (low ∷ unit 0xC0 (notes_of false true false true) 0x1000 0 ∷ []) 0 (fetch 69 0x15) (drives_nothing kind.Aborted false false) None (low ∷ low ∷ []) ∷
    []

-- "acknowledge lines are joined: a line is high if any unit drives it so", two units on one line too; driven if any unit drives. A reset gives each unit its own select.
abbrev pub acknowledge_rows : List BoardRow
acknowledge_rows =
    row (unit 0xC1 asking 0 0 ∷ unit 0xC2 asking 0 0 ∷ unit 0xC4 no_note 0 0 ∷ unit 0x43 asking 0 0 ∷ []) 0 acknowledge
    (drives_byte kind.Acknowledge 0x06 false) None (unit 0xC1 no_note 0 0 ∷ unit 0xC2 no_note 0 0 ∷ unit 0xC4 no_note 0 0 ∷ unit 0x43 no_note 0 0 ∷ []) ∷
    row (unit 0xC1 asking 0 0 ∷ unit 0xC1 asking 0 0 ∷ []) 0 acknowledge (drives_byte kind.Acknowledge 0x02 false) None
    (unit 0xC1 no_note 0 0 ∷ unit 0xC1 no_note 0 0 ∷ []) ∷
    row (unit 0x41 asking 0 0 ∷ unit 0x42 asking 0 0 ∷ []) 0 acknowledge (drives_nothing kind.Acknowledge false false) None
    (unit 0x41 no_note 0 0 ∷ unit 0x42 no_note 0 0 ∷ []) ∷
    row (low ∷ high ∷ unit 0xC1 asking 0 0 ∷ []) 3 reset (drives_nothing kind.Reset false false) None
    (unit 0x80 no_note 0x1000 0 ∷ unit 0x80 no_note 0x2000 0 ∷ unit 0 no_note 0 0 ∷ []) ∷
    []
