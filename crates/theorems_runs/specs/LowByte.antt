-- Ticket 8: the low byte of the address. Nothing reads it, and what is kept is that of the cycle that stored VOFF.
-- Assumes nothing.
use Rattle.std.specs.Prelude.{◌≡◌, true, false, cond, List, [], ◌∷◌, ℕ}
use Rattle.rules.specs.Registers.{with_low}
use Rattle.rules.specs.Runs.{answers, final, units}
use Rattle.rules.specs.Seen.{cycle_with}
use Rattle.rules.specs.Step.{stepped}
use Rattle.rules.specs.declared.Cycle.{Cycle}
use Rattle.rules.specs.declared.Registers.{Registers}
use Rattle.rules.specs.declared.Unit.{Unit}
use Rattle.theorems_runs.specs.SegmentNumbers.{stores_fault}
use Rattle.theorems_runs.specs.Sequences.{Both, Along}

-- "Nothing else reads it"

-- registers, a unit and a cycle with 0 for their low byte
abbrev pub bare_registers : Registers → Registers
bare_registers r = with_low r 0

abbrev pub bare_unit : Unit → Unit
bare_unit u = record { table = u.table; registers = bare_registers u.registers }

abbrev pub bare_cycle : Cycle → Cycle
bare_cycle c =
    cycle_with c.status c.read c.normal c.dma c.select c.segment c.offset 0 c.byte c.reset

-- alike but for it
abbrev pub AlikeUnits : Unit → Unit → Type 0
AlikeUnits u v = bare_unit u ≡ bare_unit v

abbrev pub AlikeCycles : Cycle → Cycle → Type 0
AlikeCycles c d = bare_cycle c ≡ bare_cycle d

-- CLAIM: units alike but for the kept low byte, given cycles alike but for their low bytes, answer the same and stay alike but for it: over
-- every sequence of cycles, in every unit, damaged or not.
abbrev pub LowUnread : Type 0
LowUnread =
    (u v : Unit) (cs ds : List Cycle) → AlikeUnits u v → Both AlikeCycles cs ds
    → (answers u cs ≡ answers v ds) × Both AlikeUnits (units u cs) (units v ds)

-- CLAIM: they need not stay the same: a low byte is kept, and some two runs whose cycles differ in low bytes alone leave different units.
abbrev pub LowKept : Type 0
LowKept = ((u : Unit) (cs ds : List Cycle) → Both AlikeCycles cs ds → units u cs ≡ units u ds) → ⊥

-- "to keep it when VOFF is stored, under the same rows"

-- a whole address: segment, offset byte, low byte; the one that a unit keeps in VSN, VOFF and the low byte, and a cycle's own
pub record WholeAddress : Type 0 where
  pub segment : ℕ
  pub offset : ℕ
  pub low : ℕ

abbrev pub kept_address : Unit → WholeAddress
kept_address u = record { segment = u.registers.faults.vsn; offset = u.registers.faults.voff; low = u.registers.low }

abbrev pub address_in : Cycle → WholeAddress
address_in c = record { segment = c.segment; offset = c.offset; low = c.low }

-- the address of the last cycle of a run that stored one, or what stood before
unfoldable pub last_stored : (before : WholeAddress) → Unit → List Cycle → WholeAddress
last_stored before u [] = before
last_stored before u (c ∷ cs) = last_stored (cond (stores_fault u c) (address_in c) before) (stepped u c).unit cs

-- CLAIM: after every run from every unit VSN, VOFF and the low byte are those of one cycle, the last that stored VOFF, or, where none did, all
-- three as they stood.
abbrev pub AddressKept : Type 0
AddressKept = (u : Unit) (cs : List Cycle) → kept_address (final u cs) ≡ last_stored (kept_address u) u cs

-- CLAIM: up to the next cycle that stores VOFF the three are those of the cycle that did, whatever else comes: resets, clear VTR, refusals.
abbrev pub AddressLasts : Type 0
AddressLasts =
    (u : Unit) (c : Cycle) (cs : List Cycle) → stores_fault u c ≡ true → Along (λ v d. stores_fault v d ≡ false) (stepped u c).unit cs
    → kept_address (final (stepped u c).unit cs) ≡ address_in c
