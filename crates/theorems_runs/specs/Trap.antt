-- The trap line: what the answers show of it, and what takes it back.
-- Assumes nothing.
use Rattle.std.specs.Prelude.{◌≡◌, Bool, true, false, ◌&&◌, ◌||◌, List, [], ◌∷◌}
use Rattle.rules.specs.PowerOn.{stored_of, notes_of, unit_of, power_on}
use Rattle.rules.specs.Runs.{answers}
use Rattle.rules.specs.Step.{stepped}
use Rattle.rules.specs.declared.Cycle.{Cycle}
use Rattle.rules.specs.declared.Unit.{Unit}
use Rattle.theorems_runs.specs.Cycles.{acknowledge, software_reset, written}
use Rattle.theorems_runs.specs.Refusal.{admitted}
use Rattle.theorems_runs.specs.Sequences.{Every, Along}

-- CLAIM: "otherwise it shows the request after the cycle". After a refusal the request is what it was before, so this holds of every cycle.
abbrev pub TrapShows : Type 0
TrapShows = (u : Unit) (c : Cycle) → (stepped u c).answer.trap ≡ (stepped u c).unit.registers.notes.request

-- the three that take the trap line back, where they are not refused; a damaged unit refuses every cycle
abbrev pub takes_back : Unit → Cycle → Bool
takes_back u c = admitted u c && (c.reset || acknowledge c || software_reset c)

-- CLAIM: a trap line that stands is taken back only by an acknowledge, a reset or a software reset that is not refused.
abbrev pub TrapStands : Type 0
TrapStands =
    (u : Unit) (cs : List Cycle)
    -- the line stands, in any unit, damaged or not
    → u.registers.notes.request ≡ true
    -- none of the three comes unrefused; all else may, and the three where they are refused
    → Along (λ v c. takes_back v c ≡ false) u cs
    → Every (λ x. x.trap ≡ true) (answers u cs)

-- a unit whose trap line stands, all else as at power-on
abbrev pub requesting : Unit
requesting = unit_of power_on.table 0 0 0 (stored_of 0 0 0 0 0) 0 0 (notes_of true false false false)

-- CLAIM: each of the three does take it back: an acknowledge, a reset, a software reset. So none of them can be left out above.
abbrev pub EachTakesBack : Type 0
EachTakesBack =
    Every (λ c. (takes_back requesting c ≡ true) × ((stepped requesting c).answer.trap ≡ false))
    (written 4 0x00 0 false ∷ written 0 0x00 0 true ∷ written 3 0x10 0 false ∷ [])
