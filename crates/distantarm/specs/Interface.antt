-- What the exported functions promise: the number they give, and every byte of the buffers they are lent.
use Rattle.std.specs.Prelude.{Bool, true, false, ◌||◌, List, ◌≡◌, ℕ, ltb, length}
use Rattle.std.proofs.lemmas.List.Edits.{sets}
use Rattle.rules.specs.PowerOn.{power_on}
use Rattle.rules.specs.Seen.{cycle_with}
use Rattle.rules.specs.declared.Cycle.{Cycle}
use Rattle.unit_bytes.specs.Snapshot.{unit_size, unit_bytes}
use Rattle.unit_bytes.specs.Cycled.{Cycled}
use Rattle.unit_packed.specs.Packed.{width}
use Rattle.unit_stores.specs.Put.{NO_ROOM}
use Rattle.board_rules.specs.declared.BoardCycle.{BoardCycle}
use Rattle.board_bytes.specs.Boarded.{Boarded}
use Rattle.trace_writer.specs.Writing.{Recorded, Starts, Records}

-- a buffer without room for a unit, or for a packed answer
abbrev pub no_unit : List ℕ → Bool
no_unit unit = ltb (length unit) unit_size

abbrev pub no_answer : List ℕ → Bool
no_answer answer = ltb (length answer) width

-- ---- power-on: 0, and the unit's bytes at the start; a buffer without room is left as it was
abbrev pub start_number : (short : Bool) → ℕ
start_number true = NO_ROOM
start_number false = 0

abbrev pub start_bytes : (short : Bool) → List ℕ → List ℕ
start_bytes true unit = unit
start_bytes false unit = sets unit 0 (unit_bytes power_on)

pub record PoweredOn (before after : List ℕ) (number : ℕ) : Type 0 where
  pub says : number ≡ start_number (no_unit before)
  pub leaves : after ≡ start_bytes (no_unit before) before

-- ---- a cycle

-- the cycle of the numbers that a caller hands over
abbrev pub given : (status : ℕ) (read normal dma select : Bool) (segment offset low byte : ℕ) (reset : Bool) → Cycle
given = cycle_with

abbrev pub no_room : (unit answer : List ℕ) → Bool
no_room unit answer = no_unit unit || no_answer answer

-- the same of buffers of any length
abbrev pub Called : Cycle → (unit answer unit' answer' : List ℕ) → (number : ℕ) → Type 0
Called c unit answer unit' answer' number = Cycled (no_room unit answer) c unit answer unit' answer' number

-- ---- a cycle of a board

-- the board's cycle of the numbers that a caller hands over; the cycle's own select is looked at by nothing
abbrev pub board_given : (status : ℕ) (read normal dma : Bool) (segment offset low byte : ℕ) (reset : Bool) (selects : ℕ) → BoardCycle
board_given status read normal dma segment offset low byte reset selects =
    record { cycle = given status read normal dma false segment offset low byte reset; selects = selects }

-- of buffers of any length and of any count
abbrev pub BoardCalled : BoardCycle → (count : ℕ) → (units answer units' answer' : List ℕ) → (number : ℕ) → Type 0
BoardCalled c count units answer units' answer' number = Boarded c count units answer units' answer' number

-- ---- a recording

-- the number and the count that a caller is given
abbrev pub recorded : (number count : ℕ) → Recorded
recorded number count = record { number = number; count = count }

-- a buffer of any length
abbrev pub RecordingStarted : (trace trace' : List ℕ) → (count' number : ℕ) → Type 0
RecordingStarted trace trace' count' number = Starts trace trace' (recorded number count')

-- and of any count
abbrev pub CycleRecorded : Cycle → (trace : List ℕ) → (count : ℕ) → (trace' : List ℕ) → (count' number : ℕ) → Type 0
CycleRecorded c trace count trace' count' number = Records c count trace trace' (recorded number count')
