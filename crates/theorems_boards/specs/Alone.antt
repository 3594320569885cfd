-- Ticket 3, "Units that share nothing but the cycle": each unit of a board is the single unit, alone.
-- Assumes nothing.
use Rattle.std.specs.Prelude.{◌≡◌, cond, ◌||◌, List, [], ◌∷◌, map, ℕ, ◌<◌, length, drop, replicate, Some, None}
use Rattle.std.proofs.Math.Option.{none}
use Rattle.rules.specs.Kinds.{number_in}
use Rattle.rules.specs.PowerOn.{power_on}
use Rattle.rules.specs.Runs.{answers, final}
use Rattle.rules.specs.Step.{stepped}
use Rattle.rules.specs.declared.Answer.{Answer}
use Rattle.rules.specs.declared.Cycle.{Cycle}
use Rattle.rules.specs.declared.Stepped.{Stepped}
use Rattle.rules.specs.declared.Unit.{Unit}
use Rattle.theorems_runs.specs.Sequences.{Every}
use Rattle.theorems_runs.specs.Undamaged.{Undamaged}
use Rattle.board_rules.specs.Board.{on_lines, board_after, board_answers, board_final}
use Rattle.board_rules.specs.declared.Board.{Board}
use Rattle.board_rules.specs.declared.BoardAnswer.{BoardAnswer}
use Rattle.board_rules.specs.declared.BoardCycle.{BoardCycle}
use Rattle.theorems_boards.specs.Seats.{live, unit_at, cycle_at, alone_at, refusal_of, given}

-- Each unit is the single unit

-- CLAIM: after a cycle that the board does not refuse, each unit within the count is what the single unit would be, with its own select.
abbrev pub EachAlone : Type 0
EachAlone =
    (b : Board) (c : BoardCycle) (i : ℕ) → refusal_of b c ≡ none → i < length (live b) → unit_at i (board_after b c) ≡ (alone_at i b c).unit

-- the cycles that unit i is stepped by: those that the board does not refuse, each with the unit's own select
unfoldable pub heard : (i : ℕ) → Board → List BoardCycle → List Cycle
heard i b [] = []
heard i b (c ∷ cs) = cond (given (refusal_of b c)) (heard i (board_after b c) cs) (cycle_at i c ∷ heard i (board_after b c) cs)

-- CLAIM: so over every list of cycles: each unit is the single unit after the cycles that it was stepped by. The other units have a part in
-- this only where one of them has the board refuse.
abbrev pub EachAloneThroughout : Type 0
EachAloneThroughout =
    (cs : List BoardCycle) (b : Board) (i : ℕ) → i < length (live b) → unit_at i (board_final b cs) ≡ final (unit_at i b) (heard i b cs)

-- What is proved of the single unit holds of each unit of a board

-- what every cycle of the single unit keeps is kept in each unit within the count, whatever comes
abbrev pub KeptInEach : Type 1
KeptInEach =
    (P : Unit → Type 0)
    → ((u : Unit) (c : Cycle) → P u → P (stepped u c).unit)
    → (b : Board) (cs : List BoardCycle) → Every P (live b) → Every P (live (board_final b cs))

-- unit i of a board after a cycle, and what it would have answered alone
abbrev pub stepped_at : (i : ℕ) → Board → BoardCycle → Stepped
stepped_at i b c = record { unit = unit_at i (board_after b c); answer = (alone_at i b c).answer }

-- what is true of every unit, cycle, unit after it and answer is true of each unit of a board where the board does not refuse
abbrev pub ShownByEach : Type 1
ShownByEach =
    (R : Unit → Cycle → Stepped → Type 0)
    → ((u : Unit) (c : Cycle) → R u c (stepped u c))
    → (b : Board) (c : BoardCycle) (i : ℕ) → refusal_of b c ≡ none → i < length (live b) → R (unit_at i b) (cycle_at i c) (stepped_at i b c)

-- what is true after every run of the single unit is true of each unit of a board after every run of the board
abbrev pub ReachedByEach : Type 1
ReachedByEach =
    (P : Unit → Type 0) (b : Board) (i : ℕ)
    → i < length (live b)
    → ((cs : List Cycle) → P (final (unit_at i b) cs))
    → (cs : List BoardCycle) → P (unit_at i (board_final b cs))

-- CLAIM: whatever is kept by every cycle, is true of every cycle, or is true after every run of the single unit is so of each unit of a board.
abbrev pub HoldsOfEach : Type 1
HoldsOfEach = KeptInEach × ShownByEach × ReachedByEach

-- Undamaged units

-- CLAIM: where each unit within the count is undamaged, each stays so, whatever comes; those past the count may be damaged.
abbrev pub BoardStaysUndamaged : Type 0
BoardStaysUndamaged = (b : Board) (cs : List BoardCycle) → Every Undamaged (live b) → Every Undamaged (live (board_final b cs))

-- any number of units at power-on
abbrev pub board_on : (size count : ℕ) → Board
board_on size count = record { units = replicate size power_on; count = count }

-- CLAIM: so no run from power-on ever meets 2, in any unit, with any count.
abbrev pub BoardFromPowerOn : Type 0
BoardFromPowerOn = (size count : ℕ) (cs : List BoardCycle) → Every Undamaged (live (board_final (board_on size count) cs))

-- Past the count

-- the units of b past the count of a are those of a, and so are the count and the number of units
pub record PastStay (a b : Board) : Type 0 where
  pub past : drop a.count b.units ≡ drop a.count a.units
  pub count : b.count ≡ a.count
  pub size : length b.units ≡ length a.units

-- CLAIM: units past the count, the count and the number of units stay, whatever comes.
abbrev pub PastTheCount : Type 0
PastTheCount = (b : Board) (cs : List BoardCycle) → PastStay b (board_final b cs)

-- A board of one

-- a board whose count is 1; the units us lie past it
abbrev pub board_of_one : Unit → (us : List Unit) → Board
board_of_one u us = record { units = u ∷ us; count = 1 }

-- an answer of the single unit as that of a board of one: unit 0 is named exactly where it drives the address or refuses
abbrev pub as_boards : Answer → BoardAnswer
as_boards x = record { answer = x; named = cond (on_lines x || given (number_in x.kind)) (Some 0) None }

-- CLAIM: a board of one unit is the unit: its answers and its registers, over every list of cycles, with bit 0 of the selects as the select.
-- Nobody but unit 0 is ever named, and the units past the count stay.
abbrev pub OneIsTheUnit : Type 0
OneIsTheUnit =
    (u : Unit) (us : List Unit) (cs : List BoardCycle)
    → (board_answers (board_of_one u us) cs ≡ map as_boards (answers u (map (cycle_at 0) cs)))
    × (board_final (board_of_one u us) cs ≡ board_of_one (final u (map (cycle_at 0) cs)) us)
