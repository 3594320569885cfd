-- Ticket 3, "A cycle carries a select bit for each unit (bits past the count are ignored) and goes to all": what each unit sees of a cycle, and
-- what a board does not look at.
-- Assumes nothing.
use Rattle.std.specs.Prelude.{◌≡◌, false, List, ℕ, ◌<◌}
use Rattle.rules.specs.Seen.{cycle_with}
use Rattle.rules.specs.declared.Cycle.{Cycle}
use Rattle.board_rules.specs.Board.{board_stepped, board_answers, board_final}
use Rattle.board_rules.specs.declared.Board.{Board}
use Rattle.board_rules.specs.declared.BoardCycle.{BoardCycle}
use Rattle.theorems_boards.specs.Seats.{select_of, live, cycle_at}

-- What each unit sees

-- a cycle with its own select, which stands beside the select bits, made off
abbrev pub unselected : Cycle → Cycle
unselected c =
    cycle_with c.status c.read c.normal c.dma false c.segment c.offset c.low c.byte c.reset

-- CLAIM: each unit sees the cycle as it is, with its own select bit for the select.
abbrev pub CycleSeen : Type 0
CycleSeen =
    (i : ℕ) (c : BoardCycle) → ((cycle_at i c).select ≡ select_of i c.selects) × (unselected (cycle_at i c) ≡ unselected c.cycle)

-- What is not looked at

-- two cycles are the same but for the cycle's own select and for select bits past the count
pub record SameFor (count : ℕ) (c d : BoardCycle) : Type 0 where
  pub cycle : unselected c.cycle ≡ unselected d.cycle
  pub selects : (i : ℕ) → i < count → select_of i c.selects ≡ select_of i d.selects

-- CLAIM: select bits past the count are looked at by nothing, 13 and a unit's own refusals among it; nor is the cycle's own select.
abbrev pub SelectsUnseen : Type 0
SelectsUnseen = (b : Board) (c d : BoardCycle) → SameFor b.count c d → board_stepped b c ≡ board_stepped b d

-- two boards have one count, and the same units within it
pub record AlikeWithin (a b : Board) : Type 0 where
  pub count : a.count ≡ b.count
  pub units : live a ≡ live b

-- CLAIM: units past the count are looked at by nothing, damaged or not: over every list of cycles they have no part in the answers, nor in
-- the units within the count.
abbrev pub PastUnseen : Type 0
PastUnseen =
    (a b : Board) (cs : List BoardCycle)
    → AlikeWithin a b
    → (board_answers a cs ≡ board_answers b cs) × AlikeWithin (board_final a cs) (board_final b cs)
