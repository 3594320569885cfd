-- Every violation is reported.
-- Assumes nothing.
use Rattle.std.specs.Prelude.{◌≡◌, true, false, ◌||◌, List}
use Rattle.rules.specs.Flags.{has, lacks}
use Rattle.rules.specs.Masks.{FATL, PRIMARY}
use Rattle.rules.specs.PowerOn.{power_on}
use Rattle.rules.specs.Runs.{final}
use Rattle.rules.specs.Step.{stepped}
use Rattle.rules.specs.declared.Cycle.{Cycle}
use Rattle.rules.specs.declared.Registers.{Registers}
use Rattle.rules.specs.declared.Unit.{Unit}
use Rattle.theorems_runs.specs.Hold.{cpu_violation}
use Rattle.theorems_runs.specs.Sequences.{◌⇒◌}
use Rattle.theorems_runs.specs.Undamaged.{Undamaged}

-- "The first six VTR flags are primary.": one of them stands
abbrev pub faulted : Registers → Type 0
faulted r = lacks r.faults.vtr PRIMARY ≡ false

-- own implies request
abbrev pub OwnRequests : Unit → Type 0
OwnRequests u = u.registers.notes.own ⇒ u.registers.notes.request

-- a primary flag stands in VTR after the cycle, and the request stands or FATL stood before: "FATL is set; request and await only if FATL was
-- clear"
pub record Reported (u : Unit) (c : Cycle) : Type 0 where
  pub flag : faulted (stepped u c).unit.registers
  pub request : ((stepped u c).unit.registers.notes.request || has u.registers.faults.vtr FATL) ≡ true

-- every CPU violation is reported in the units that are as said
abbrev pub ReportedIn : (Start : Unit → Type 0) → Type 0
ReportedIn Start = (u : Unit) (c : Cycle) → Start u → cpu_violation u c ≡ true → Reported u c

-- CLAIM: in every unit whose own implies request, a CPU violation is reported.
abbrev pub ViolationReported : Type 0
ViolationReported = ReportedIn OwnRequests

-- CLAIM: every cycle keeps that own implies request.
abbrev pub OwnRequestsKept : Type 0
OwnRequestsKept = (u : Unit) (c : Cycle) → OwnRequests u → OwnRequests (stepped u c).unit

-- CLAIM: so from power-on every CPU violation is reported, whatever cycles come before it.
abbrev pub ReportedFromPowerOn : Type 0
ReportedFromPowerOn = (cs : List Cycle) (c : Cycle) → cpu_violation (final power_on cs) c ≡ true → Reported (final power_on cs) c

-- CLAIM: of undamaged units in general it is false: one made by hand, own without request, takes a second fault in silence.
abbrev pub OwnNeeded : Type 0
OwnNeeded = ReportedIn Undamaged → ⊥

-- CLAIM: nor does the request stand after each violation: not while FATL stands.
abbrev pub FatlSilent : Type 0
FatlSilent =
    ((u : Unit) (c : Cycle) → Undamaged u → OwnRequests u → cpu_violation u c ≡ true → (stepped u c).unit.registers.notes.request ≡ true) → ⊥
