-- Words about the units of a board that the claims are written in.
-- Assumes nothing.
use Rattle.std.specs.Prelude.{Bool, true, false, List, ℕ, ◌/◌, ◌%◌, ◌^◌, eqb, get_or, take}
use Rattle.std.proofs.Math.Option.{Option, none, some}
use Rattle.rules.specs.Kinds.{number_in}
use Rattle.rules.specs.PowerOn.{power_on}
use Rattle.rules.specs.Step.{stepped}
use Rattle.rules.specs.declared.Stepped.{Stepped}
use Rattle.rules.specs.declared.Cycle.{Cycle}
use Rattle.rules.specs.declared.Unit.{Unit}
use Rattle.board_rules.specs.Board.{seen_by, board_answer}
use Rattle.board_rules.specs.declared.Board.{Board}
use Rattle.board_rules.specs.declared.BoardCycle.{BoardCycle}

-- the select bit of unit i
abbrev pub select_of : (i selects : ℕ) → Bool
select_of i selects = eqb (selects / 2 ^ i % 2) 1

-- the units that the count takes in
abbrev pub live : Board → List Unit
live b = take b.count b.units

abbrev pub unit_at : (i : ℕ) → Board → Unit
unit_at i b = get_or (live b) i power_on

-- the cycle as unit i sees it, with its own select
abbrev pub cycle_at : (i : ℕ) → BoardCycle → Cycle
cycle_at i c = seen_by (select_of i c.selects) c.cycle

-- unit i alone
abbrev pub alone_at : (i : ℕ) → Board → BoardCycle → Stepped
alone_at i b c = stepped (unit_at i b) (cycle_at i c)

-- the number that the board's answer gives, if it is a refusal
abbrev pub refusal_of : Board → BoardCycle → Option ℕ
refusal_of b c = number_in (board_answer b c).answer.kind

-- a number was given: the cycle was refused
abbrev pub given : Option ℕ → Bool
given none = false
given (some n) = true
