-- What a caller may rely on that keeps a board's units in bytes. Each claim is proved under `proofs/`. No claim asks that the numbers be bytes,
-- and units with strange notes are in all of them.
use Rattle.std.specs.Prelude.{◌≡◌, false, not, ◌&&◌, List, [], ◌∷◌, ◌++◌, ℕ, ◌*◌, ◌≤◌, ◌<◌, length, get_or, drop, replicate}
use Rattle.std.proofs.Math.Option.{none, some}
use Rattle.std.proofs.lemmas.List.Edits.{sets}
use Rattle.rules.specs.Kinds.{number_of}
use Rattle.rules.specs.PowerOn.{power_on}
use Rattle.rules.specs.declared.Unit.{Unit}
use Rattle.theorems_runs.specs.Sequences.{Every}
use Rattle.unit_bytes.specs.Cycled.{answer_of}
use Rattle.unit_bytes.specs.InPlace.{in_place}
use Rattle.unit_bytes.specs.Snapshot.{segments, unit_size, unit_bytes}
use Rattle.board_rules.specs.Board.{wrong_count, seats_after, board_answer, board_answers, board_final}
use Rattle.board_rules.specs.declared.Board.{Board}
use Rattle.board_rules.specs.declared.BoardAnswer.{BoardAnswer}
use Rattle.board_rules.specs.declared.BoardCycle.{BoardCycle}
use Rattle.theorems_boards.specs.Alone.{board_on, as_boards}
use Rattle.theorems_boards.specs.Seats.{cycle_at, refusal_of}
use Rattle.board_packed.specs.BoardPacked.{board_packed}
use Rattle.board_bytes.specs.Boarded.{part_at, held_in, units_in, seats_in, board_in, board_bytes, no_units, no_room, Boarded}

-- Where each unit stands

-- CLAIM: unit i is that of the 267 bytes from 267 times i on.
abbrev pub UnitStandsAt : Type 0
UnitStandsAt = (bytes : List ℕ) (count i : ℕ) (d : Unit) → i < count → get_or (units_in bytes count) i d ≡ held_in (part_at bytes i)

-- CLAIM: a cycle that is not refused steps the bytes of each unit within the count in place, with the unit's own select.
abbrev pub EachInPlace : Type 0
EachInPlace = (c : BoardCycle) (count i : ℕ) (bytes : List ℕ) → refusal_of (board_in bytes count) c ≡ none → i < count
    → unit_size * count ≤ length bytes → part_at (board_bytes bytes count c) i ≡ in_place (part_at bytes i) (cycle_at i c)

-- One cycle

-- the bytes after a cycle: the units that they hold, and what stands behind those
pub record BoardHeld (c : BoardCycle) (count : ℕ) (before after : List ℕ) : Type 0 where
  pub units : units_in after count ≡ seats_after c.cycle (seats_in before count c.selects)
  pub behind : drop (unit_size * count) after ≡ drop (unit_size * count) before
  pub size : length after ≡ length before

-- CLAIM: with a good count and room for its units, the units that are found after a cycle are those of the board after it; the bytes behind
-- them and the length stay.
abbrev pub HeldAfter : Type 0
HeldAfter = (c : BoardCycle) (count : ℕ) (bytes : List ℕ) → wrong_count count ≡ false → unit_size * count ≤ length bytes
    → BoardHeld c count bytes (board_bytes bytes count c)

-- CLAIM: a refused cycle leaves every byte, with any count.
abbrev pub BoardRefusalKeeps : Type 0
BoardRefusalKeeps = (c : BoardCycle) (count n : ℕ) (bytes : List ℕ) → refusal_of (board_in bytes count) c ≡ some n → board_bytes bytes count c ≡ bytes

-- CLAIM: a call that finds room gives the number and the packed answer of the board that its bytes hold, and the bytes of that cycle.
abbrev pub BoardCallGives : Type 0
BoardCallGives = (c : BoardCycle) (count number : ℕ) (units answer units' answer' : List ℕ) → no_room units answer count ≡ false
    → Boarded c count units answer units' answer' number
    → (number ≡ number_of (board_answer (board_in units count) c).answer.kind)
    × (answer' ≡ sets answer 0 (board_packed (board_answer (board_in units count) c)))
    × (units' ≡ board_bytes units count c)

-- CLAIM: a board of one unit in bytes answers as a call on that unit's bytes does, with bit 0 of the selects as the select.
abbrev pub OneInBytes : Type 0
OneInBytes = (c : BoardCycle) (bytes : List ℕ) → board_answer (board_in bytes 1) c ≡ as_boards (answer_of bytes (cycle_at 0 c))

-- Cycles one after another

-- the answers of one call after another, each on the bytes that the one before it left
unfoldable pub board_calls : (units : List ℕ) → (count : ℕ) → List BoardCycle → List BoardAnswer
board_calls units count [] = []
board_calls units count (c ∷ cs) = board_answer (board_in units count) c ∷ board_calls (board_bytes units count c) count cs

-- the bytes that the last of them leaves
unfoldable pub board_left : (units : List ℕ) → (count : ℕ) → List BoardCycle → List ℕ
board_left units count [] = units
board_left units count (c ∷ cs) = board_left (board_bytes units count c) count cs

-- the units have room, or the count is wrong
abbrev pub Roomy : (units : List ℕ) → (count : ℕ) → Type 0
Roomy units count = (not (wrong_count count) && no_units units count) ≡ false

-- what the calls from bytes come to, beside a board's run
pub record TheRun (b : Board) (cs : List BoardCycle) (units : List ℕ) (count : ℕ) : Type 0 where
  pub answers : board_calls units count cs ≡ board_answers b cs
  pub board : board_in (board_left units count cs) count ≡ board_final b cs
  pub behind : drop (unit_size * count) (board_left units count cs) ≡ drop (unit_size * count) units
  pub size : length (board_left units count cs) ≡ length units

-- CLAIM: they are the answers of the run of the board that the first bytes hold, and the last bytes hold its last board; the bytes behind the
-- count's units stay.
abbrev pub BoardCallsAreTheRun : Type 0
BoardCallsAreTheRun = (cs : List BoardCycle) (units : List ℕ) (count : ℕ) → Roomy units count → TheRun (board_in units count) cs units count

-- Units that were put there

-- the bytes of units, one's behind another's
unfoldable pub units_bytes : List Unit → List ℕ
units_bytes [] = []
units_bytes (u ∷ us) = unit_bytes u ++ units_bytes us

-- CLAIM: units with 64 descriptors that were put one behind another, with anything behind them, are the units that are found there.
abbrev pub BoardFoundAgain : Type 0
BoardFoundAgain = (us : List Unit) (rest : List ℕ) → Every (λ u. length u.table ≡ segments) us → units_in (units_bytes us ++ rest) (length us) ≡ us

-- CLAIM: so the calls from the bytes of units at power-on are the run from power-on.
abbrev pub BoardFromPowerOnBytes : Type 0
BoardFromPowerOnBytes = (cs : List BoardCycle) (count : ℕ) (rest : List ℕ)
    → TheRun (board_on count count) cs (units_bytes (replicate count power_on) ++ rest) count
