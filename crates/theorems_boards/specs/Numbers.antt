-- Ticket 3, "Refusals": which number a board gives, by conditions on its registers and the cycle alone, and what a refusal leaves.
-- Assumes nothing.
use Rattle.std.specs.Prelude.{◌≡◌, ◌↔◌, Bool, true, false, not, ◌&&◌, ◌||◌, List, [], ◌∷◌, map, ℕ, suc, ◌≤◌, Some}
use Rattle.std.specs.Bool.{beq}
use Rattle.std.proofs.Math.Option
use Rattle.std.proofs.Math.Option.{Option, none, some}
use Rattle.rules.specs.Flags.{has}
use Rattle.rules.specs.Masks.{NMS, MST, URS, TRNS, MSEN, UPPER}
use Rattle.rules.specs.Refusals.{damaged, out_of_range}
use Rattle.rules.specs.Replies.{off}
use Rattle.rules.specs.declared.Cycle.{Cycle}
use Rattle.rules.specs.declared.Registers.{Registers}
use Rattle.rules.specs.declared.Unit.{Unit}
use Rattle.theorems_runs.specs.Cycles.{selected_command, memory_cycle}
use Rattle.theorems_runs.specs.Refusal.{earliest, unlisted, wrong_way}
use Rattle.board_rules.specs.Board.{Seat, seats_of, seen_by, some_of, two_of, Refusal, nobodys, wrong_count, board_answer, board_stepped}
use Rattle.board_rules.specs.declared.Board.{Board}
use Rattle.board_rules.specs.declared.BoardCycle.{BoardCycle}
use Rattle.board_rules.specs.declared.BoardStepped.{BoardStepped}
use Rattle.theorems_boards.specs.Seats.{live, refusal_of}

-- What a refusal leaves

abbrev pub asks : Unit → Bool
asks u = u.registers.notes.request

-- "The board stays as it was; 11 shows the trap line off."
pub record BoardAsItStood (b : Board) (s : BoardStepped) : Type 0 where
  pub address : s.answer.answer.address ≡ off
  pub sup : s.answer.answer.sup ≡ false
  pub trap : s.answer.answer.trap ≡ (not (wrong_count b.count) && some_of asks (live b))
  pub drives : s.answer.answer.drives ≡ false
  pub byte : s.answer.answer.byte ≡ 0
  pub distance : s.answer.answer.distance ≡ 0
  pub board : s.board ≡ b

-- CLAIM: a refusal leaves every unit, those that would have answered too, drives nothing, and shows whether a request stood.
abbrev pub BoardRefusalLeaves : Type 0
BoardRefusalLeaves = (b : Board) (c : BoardCycle) (n : ℕ) → refusal_of b c ≡ some n → BoardAsItStood b (board_stepped b c)

-- Which number

-- a unit with this MR drives the address of a memory cycle: MSEN set and either TRNS clear, or URS equal to segment bit 6 and (MST clear or NMS
-- equal to the mode)
abbrev pub may_drive : (mr : ℕ) → Cycle → Bool
may_drive mr c =
    has mr MSEN
    && (not (has mr TRNS) || beq (has mr URS) (has c.segment UPPER) && (not (has mr MST) || beq (has mr NMS) c.normal))

-- a unit's own number, if any: 2, 1, 3, 4
abbrev pub own_number : Registers → Cycle → Option ℕ
own_number r c = earliest (damaged r) (out_of_range c) (unlisted c) (wrong_way c)

abbrev pub seat_number : Cycle → Seat → Option ℕ
seat_number c s = own_number s.unit.registers (seen_by s.select c)

-- the lowest unit's, with the unit's number
unfoldable pub lowest_from : (i : ℕ) → List (Option ℕ) → Option Refusal
lowest_from i [] = none
lowest_from i (some n ∷ os) = some (record { number = n; named = Some i })
lowest_from i (none ∷ os) = lowest_from (suc i) os

-- "12, two units would drive the address": a memory cycle, and two units that each may drive
abbrev pub seat_drives : Cycle → Seat → Bool
seat_drives c s = may_drive s.unit.registers.control.mr c

abbrev pub two_drive : Cycle → List Seat → Bool
two_drive c ss = memory_cycle c && two_of (seat_drives c) ss

-- "13, a command read selects more than one unit"
abbrev pub seat_commanded : Cycle → Seat → Bool
seat_commanded c s = selected_command (seen_by s.select c)

abbrev pub two_read : Cycle → List Seat → Bool
two_read c ss = c.read && two_of (seat_commanded c) ss

-- "11 [..] comes first; then any unit's own refusal, lowest unit first; then 12 [..]; then 13"
abbrev pub in_order : (eleven : Bool) → (own : Option Refusal) → (twelve thirteen : Bool) → Option Refusal
in_order true own twelve thirteen = some (nobodys 11)
in_order false (some r) twelve thirteen = some r
in_order false none true thirteen = some (nobodys 12)
in_order false none false true = some (nobodys 13)
in_order false none false false = none

abbrev pub own_of : Cycle → List Seat → Option Refusal
own_of c ss = lowest_from 0 (map (seat_number c) ss)

abbrev pub expected_by : (wrong : Bool) → Cycle → List Seat → Option Refusal
expected_by wrong c ss = in_order wrong (own_of c ss) (two_drive c ss) (two_read c ss)

abbrev pub expected : Board → BoardCycle → Option Refusal
expected b c = expected_by (wrong_count b.count) c.cycle (seats_of b c.selects)

-- CLAIM: each number is given exactly under its condition, in the order 11, own (lowest unit first), 12, 13, and none where none is met.
abbrev pub BoardNumbersExactly : Type 0
BoardNumbersExactly = (b : Board) (c : BoardCycle) → refusal_of b c ≡ Option.map (λ r. r.number) (expected b c)

-- CLAIM: and the answer names the unit whose own number refuses, and nobody for 11, 12 and 13.
abbrev pub NamedExactly : Type 0
NamedExactly = (b : Board) (c : BoardCycle) (r : Refusal) → expected b c ≡ some r → (board_answer b c).named ≡ r.named

-- CLAIM: a count is good exactly if it is 1 to 16.
abbrev pub CountGood : Type 0
CountGood = (b : Board) → (wrong_count b.count ≡ false) ↔ ((1 ≤ b.count) × (b.count ≤ 16))

-- CLAIM: 11 exactly: the count is not 1 to 16.
abbrev pub ElevenExactly : Type 0
ElevenExactly = (b : Board) (c : BoardCycle) → (refusal_of b c ≡ some 11) ↔ (((1 ≤ b.count) × (b.count ≤ 16)) → ⊥)

-- CLAIM: 12 exactly: a good count, no unit's own refusal, a memory cycle, and two units that may drive.
abbrev pub TwelveExactly : Type 0
TwelveExactly =
    (b : Board) (c : BoardCycle)
    → (refusal_of b c ≡ some 12)
    ↔ ((wrong_count b.count ≡ false) × (own_of c.cycle (seats_of b c.selects) ≡ none)
    × (two_drive c.cycle (seats_of b c.selects) ≡ true))

-- CLAIM: 13 exactly: a good count, no unit's own refusal, not 12, and a command read that selects two units.
abbrev pub ThirteenExactly : Type 0
ThirteenExactly =
    (b : Board) (c : BoardCycle)
    → (refusal_of b c ≡ some 13)
    ↔ ((wrong_count b.count ≡ false) × (own_of c.cycle (seats_of b c.selects) ≡ none)
    × (two_drive c.cycle (seats_of b c.selects) ≡ false) × (two_read c.cycle (seats_of b c.selects) ≡ true))
