-- A run of a board from power-on: the cycles of records, and a packed answer for each in a lent buffer.
use Rattle.std.specs.Prelude.{false, cond, List, [], ◌∷◌, ◌++◌, ℕ, zero, suc, ◌+◌, ◌*◌, ◌/◌, ltb, get_or, take, drop, replicate}
use Rattle.std.proofs.lemmas.List.Edits.{sets}
use Rattle.rules.specs.PowerOn.{power_on}
use Rattle.rules.specs.declared.Cycle.{Cycle}
use Rattle.unit_stores.specs.Word.{word_at}
use Rattle.trace_records.specs.Trace.{cycle_of}
use Rattle.board_rules.specs.Board.{nobodys, refusing, board_answers}
use Rattle.board_rules.specs.declared.Board.{Board}
use Rattle.board_rules.specs.declared.BoardCycle.{BoardCycle}
use Rattle.board_packed.specs.BoardPacked.{board_width, board_packed_all}

-- a record: the four bytes of a trace's record, the low byte, 16 select bits with the high byte first
abbrev pub low_at : ℕ
low_at = 4

abbrev pub selects_at : ℕ
selects_at = 5

abbrev pub record_size : ℕ
record_size = 7

abbrev pub most : ℕ
most = 16000

-- a trace's cycle with this low byte
abbrev pub with_low : (low : ℕ) → Cycle → Cycle
with_low low c = record {
  status = c.status;
  read = c.read;
  normal = c.normal;
  dma = c.dma;
  select = c.select;
  segment = c.segment;
  offset = c.offset;
  low = low;
  byte = c.byte;
  reset = c.reset;
}

-- the cycle of the record that starts at an index
unfoldable pub board_cycle_at : List ℕ → (at : ℕ) → BoardCycle
board_cycle_at t at = record { cycle = with_low (get_or t (at + low_at) 0) (cycle_of (take low_at (drop at t))); selects = word_at t (at + selects_at) }

-- the cycles of the first n records
unfoldable pub board_cycles_to : List ℕ → (n : ℕ) → List BoardCycle
board_cycles_to t zero = []
board_cycles_to t (suc n) = board_cycles_to t n ++ (board_cycle_at t (record_size * n) ∷ [])

-- a board of so many units, all at power-on
abbrev pub board_on : (count : ℕ) → Board
board_on count = record { units = replicate count power_on; count = count }

-- the buffer after the first n records
unfoldable pub board_ran_to : List ℕ → (count n : ℕ) → List ℕ → List ℕ
board_ran_to t count n buffer = sets buffer 0 (board_packed_all (board_answers (board_on count) (board_cycles_to t n)))

-- the buffer after n refusals by 11
unfoldable pub refused_to : (n : ℕ) → List ℕ → List ℕ
refused_to n buffer = sets buffer 0 (board_packed_all (replicate n (refusing (nobodys 11) false)))

abbrev pub lesser : ℕ → ℕ → ℕ
lesser a b = cond (ltb a b) a b

-- how many records are run: those that are there, that have room for their answers, and no more than the most
abbrev pub cycles_for : (records buffer : ℕ) → ℕ
cycles_for records buffer = lesser most (lesser (buffer / board_width) (records / record_size))
