-- "A unit that doesn't meet 2 is called undamaged."
-- Assumes nothing.
use Rattle.std.specs.Prelude.{◌≡◌, false, List, ◌↔◌, ◌≤◌, length}
use Rattle.rules.specs.PowerOn.{power_on}
use Rattle.rules.specs.Refusals.{orphan, damaged}
use Rattle.rules.specs.Runs.{final, units}
use Rattle.rules.specs.declared.Cycle.{Cycle}
use Rattle.rules.specs.declared.Registers.{Registers}
use Rattle.rules.specs.declared.Unit.{Unit}
use Rattle.theorems_runs.specs.Sequences.{Every}

-- the ranges of "What the unit is given, what it keeps" that 2 holds registers to; ticket 2: VSN and ISN up to 127
pub record Bounded (r : Registers) : Type 0 where
  pub sar : r.control.sar ≤ 63
  pub vsn : r.faults.vsn ≤ 127
  pub isn : r.fetched.isn ≤ 127
  pub bcsr : r.faults.bcsr ≤ 63
  pub dscr : r.control.dscr ≤ 3

-- an undamaged unit
pub record Undamaged (u : Unit) : Type 0 where
  -- "64 descriptors": the code's type says so of every unit; a list of antt may have any length
  pub size : length u.table ≡ 64
  pub sound : damaged u.registers ≡ false

-- CLAIM: 2 is not met exactly where the bounds hold and no orphan stands.
abbrev pub BoundedExactly : Type 0
BoundedExactly = (r : Registers) → (damaged r ≡ false) ↔ (Bounded r × (orphan r.faults.vtr ≡ false))

-- CLAIM: an undamaged unit stays undamaged, whatever cycles come, in whatever order.
abbrev pub StaysUndamaged : Type 0
StaysUndamaged = (u : Unit) (cs : List Cycle) → Undamaged u → Undamaged (final u cs)

-- CLAIM: and it is undamaged after each cycle on the way.
abbrev pub UndamagedThroughout : Type 0
UndamagedThroughout = (u : Unit) (cs : List Cycle) → Undamaged u → Every Undamaged (units u cs)

-- CLAIM: so no run from power-on ever meets 2.
abbrev pub UndamagedFromPowerOn : Type 0
UndamagedFromPowerOn = (cs : List Cycle) → Undamaged (final power_on cs)
