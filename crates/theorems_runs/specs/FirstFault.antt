-- The first fault is kept: while a primary flag stands in VTR, what it and its addresses say is left alone.
-- Assumes nothing.
use Rattle.std.specs.Prelude.{◌≡◌, Bool, true, false, ◌&&◌, ◌||◌, List, [], ◌∷◌, ℕ, eqb}
use Rattle.rules.specs.Bus.{write}
use Rattle.rules.specs.Flags.{has}
use Rattle.rules.specs.Masks.{RDV, SYSV, SLV, CPUIV, EXCV, PWW}
use Rattle.rules.specs.PowerOn.{stored_of, blank}
use Rattle.rules.specs.Runs.{units}
use Rattle.rules.specs.Seen.{no_note, unit_holding}
use Rattle.rules.specs.Step.{stepped}
use Rattle.rules.specs.declared.Cycle.{Cycle}
use Rattle.rules.specs.declared.Registers.{Registers}
use Rattle.rules.specs.declared.Unit.{Unit}
use Rattle.theorems_runs.specs.Cycles.{selected_command, software_reset, written}
use Rattle.theorems_runs.specs.Refusal.{admitted}
use Rattle.theorems_runs.specs.Reported.{faulted}
use Rattle.theorems_runs.specs.Sequences.{◌⇒◌, Every, Along}

-- "clear VTR": a write of %11
abbrev pub clear_vtr : Cycle → Bool
clear_vtr c = selected_command c && write c && eqb c.offset 0x11

-- the three that empty the VTR, where they are not refused: a reset, a software reset, clear VTR
abbrev pub wipes : Unit → Cycle → Bool
wipes u c = admitted u c && (c.reset || software_reset c || clear_vtr c)

-- s has the primary flags of r, and perhaps more, and its addresses
pub record FaultKept (r s : Registers) : Type 0 where
  pub flags : Every (λ flag. has r.faults.vtr flag ⇒ has s.faults.vtr flag) (RDV ∷ SYSV ∷ SLV ∷ CPUIV ∷ EXCV ∷ PWW ∷ [])
  pub vsn : s.faults.vsn ≡ r.faults.vsn
  pub voff : s.faults.voff ≡ r.faults.voff
  pub bcsr : s.faults.bcsr ≡ r.faults.bcsr
  pub low : s.low ≡ r.low
  pub isn : s.fetched.isn ≡ r.fetched.isn
  pub ioff : s.fetched.ioff ≡ r.fetched.ioff

-- after each cycle of a run, with the start and the cycles that may come left open
abbrev pub KeptFrom : (Start : Registers → Type 0) → (May : Unit → Cycle → Type 0) → Type 0
KeptFrom Start May =
    (u : Unit) (cs : List Cycle) → Start u.registers → Along May u cs → Every (λ v. FaultKept u.registers v.registers) (units u cs)

abbrev pub WipesNot : Unit → Cycle → Type 0
WipesNot u c = wipes u c ≡ false

-- CLAIM: while a primary flag stands ("addresses stay", ISN and IOFF are stored "while VTR is zero"), no primary flag goes and VSN, VOFF, BCSR,
-- the low byte, ISN and IOFF do not change, until one of the three comes unrefused. Acknowledges, clear SWW and clear FATL, refused cycles and all else may
-- come, in any unit, damaged or not.
abbrev pub FirstFaultKept : Type 0
FirstFaultKept = KeptFrom faulted WipesNot

-- CLAIM: not where no primary flag stands: the next fault stores its own addresses.
abbrev pub FlagNeeded : Type 0
FlagNeeded = KeptFrom (λ r. true ≡ true) WipesNot → ⊥

-- a unit with this VTR, all else as at power-on
abbrev pub faulted_by : (vtr : ℕ) → Unit
faulted_by vtr = unit_holding 0 0 0 (stored_of vtr 0 0 0 0) 0 0 no_note 0 blank

-- CLAIM: each of the three does wipe it: a reset, a software reset, clear VTR. So none of them can be left out above.
abbrev pub EachWipes : Type 0
EachWipes =
    Every (λ c. (wipes (faulted_by RDV) c ≡ true) × ((stepped (faulted_by RDV) c).unit.registers.faults.vtr ≡ 0))
    (written 0 0x00 0 true ∷ written 3 0x10 0 false ∷ written 3 0x11 0 false ∷ [])
