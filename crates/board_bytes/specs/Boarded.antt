-- A board whose units stand in bytes, one unit's 267 behind another's: the board that bytes hold, and what one cycle of it promises of its
-- number and of every byte of the two buffers.
use Rattle.std.specs.Prelude.{Bool, true, false, not, ◌&&◌, ◌||◌, List, [], ◌∷◌, ◌++◌, map, ◌≡◌, ℕ, zero, suc, ◌*◌, ◌/◌, ◌%◌, eqb, ltb, length, take, drop}
use Rattle.std.proofs.Math.Option.{Option, none, some}
use Rattle.std.proofs.lemmas.List.Edits.{sets}
use Rattle.rules.specs.Kinds.{number_of}
use Rattle.rules.specs.Registers.{with_control}
use Rattle.rules.specs.declared.Cycle.{Cycle}
use Rattle.rules.specs.declared.Registers.{Registers}
use Rattle.rules.specs.declared.Unit.{Unit}
use Rattle.unit_stores.specs.Put.{NO_ROOM}
use Rattle.unit_bytes.specs.Cycled.{strange}
use Rattle.unit_bytes.specs.InPlace.{in_place}
use Rattle.unit_bytes.specs.Snapshot.{segments, unit_size, table_in, registers_in}
use Rattle.board_rules.specs.Board.{Seat, seated, seen_by, Refusal, wrong_count, verdict, board_answer}
use Rattle.board_rules.specs.declared.Board.{Board}
use Rattle.board_rules.specs.declared.BoardAnswer.{BoardAnswer}
use Rattle.board_rules.specs.declared.BoardCycle.{BoardCycle}
use Rattle.board_packed.specs.BoardPacked.{board_width, board_packed}

-- The board that bytes hold

-- the bytes of each of the first `count` units
unfoldable pub parts_in : List ℕ → (count : ℕ) → List (List ℕ)
parts_in bytes zero = []
parts_in bytes (suc n) = take unit_size bytes ∷ parts_in (drop unit_size bytes) n

-- those of unit i
abbrev pub part_at : List ℕ → (i : ℕ) → List ℕ
part_at bytes i = take unit_size (drop (unit_size * i) bytes)

-- the unit of its bytes. No unit has strange notes: such bytes hold one that meets 2, by a SAR of 64, and nothing else of it is made up, so
-- that its request is still the notes' bit 0
abbrev pub held_by : (strange : Bool) → Registers → Registers
held_by true r = with_control r (record { mr = r.control.mr; sar = 64; dscr = r.control.dscr })
held_by false r = r

unfoldable pub held_registers : (part : List ℕ) → Registers
held_registers part = held_by (strange part) (registers_in part)

unfoldable pub held_in : (part : List ℕ) → Unit
held_in part = record { table = table_in part segments; registers = held_registers part }

abbrev pub units_in : List ℕ → (count : ℕ) → List Unit
units_in bytes count = map held_in (parts_in bytes count)

-- with their select bits
abbrev pub seats_in : List ℕ → (count selects : ℕ) → List Seat
seats_in bytes count selects = seated (units_in bytes count) selects

abbrev pub board_in : List ℕ → (count : ℕ) → Board
board_in bytes count = record { units = units_in bytes count; count = count }

-- The bytes after a cycle that is not refused: each of the first `count` units is stepped where it stands, with its own select, and what
-- stands behind them stays

unfoldable pub stepped_in : Cycle → (count selects : ℕ) → List ℕ → List ℕ
stepped_in c zero selects bytes = bytes
stepped_in c (suc n) selects bytes =
    in_place (take unit_size bytes) (seen_by (eqb (selects % 2) 1) c) ++ stepped_in c n (selects / 2) (drop unit_size bytes)

-- "The board stays as it was": a refusal leaves every byte
abbrev pub bytes_by : (wrong : Bool) → Option Refusal → List ℕ → (count : ℕ) → BoardCycle → List ℕ
bytes_by true v bytes count c = bytes
bytes_by false (some r) bytes count c = bytes
bytes_by false none bytes count c = stepped_in c.cycle count c.selects bytes

abbrev pub board_bytes : List ℕ → (count : ℕ) → BoardCycle → List ℕ
board_bytes bytes count c = bytes_by (wrong_count count) (verdict c.cycle (seats_in bytes count c.selects)) bytes count c

-- One call

-- a buffer without room for the packed answer, or for the units
abbrev pub no_answer : List ℕ → Bool
no_answer answer = ltb (length answer) board_width

abbrev pub no_units : List ℕ → (count : ℕ) → Bool
no_units units count = ltb (length units) (unit_size * count)

-- "11 [..] comes first": of a wrong count the units' room is not asked
abbrev pub no_room : (units answer : List ℕ) → (count : ℕ) → Bool
no_room units answer count = no_answer answer || (not (wrong_count count) && no_units units count)

-- 0 or the number of the refusal; where a buffer has no room both are left as they were
abbrev pub call_number : (short : Bool) → BoardAnswer → ℕ
call_number true a = NO_ROOM
call_number false a = number_of a.answer.kind

abbrev pub call_answer : (short : Bool) → (answer : List ℕ) → BoardAnswer → List ℕ
call_answer true answer a = answer
call_answer false answer a = sets answer 0 (board_packed a)

abbrev pub call_units : (short : Bool) → (units after : List ℕ) → List ℕ
call_units true units after = units
call_units false units after = after

-- what a call promises of its number and of both buffers, whole
pub record Boarded (c : BoardCycle) (count : ℕ) (units answer units' answer' : List ℕ) (number : ℕ) : Type 0 where
  pub says : number ≡ call_number (no_room units answer count) (board_answer (board_in units count) c)
  pub shows : answer' ≡ call_answer (no_room units answer count) answer (board_answer (board_in units count) c)
  pub leaves : units' ≡ call_units (no_room units answer count) units (board_bytes units count c)
