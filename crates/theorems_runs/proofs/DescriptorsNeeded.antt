-- Why descriptors stay but for three cycles, and why the unit must have the descriptor: single cycles that antt computes.
-- Assumes nothing.
use mathlib.Core.Path.{refl, ap}
use mathlib.Core.Bool.{true, false, false≢true, true≢false}
use Prim.Native.Nat.{ℕ}
use lib.Dec.{eqb, lit<}
use Rattle.rules.specs.Masks.{CPUI}
use Rattle.rules.specs.PowerOn.{power_on}
use Rattle.rules.specs.Seen.{segment, cycle, command, translating}
use Rattle.rules.specs.declared.Descriptor.{Descriptor}
use Rattle.theorems_runs.specs.Descriptors.{EachChanges, HasNeeded, CommandsExcluded, SuppressedMarksNot}
use Rattle.theorems_runs.proofs.Computed.{computed}
use Rattle.theorems_runs.proofs.Examples.{bare}

-- a write of %08 puts %01 into descriptor 0, set all CPUI and set all DMAI set their flags there
pub each_changes : EachChanges
unfolding computed
each_changes = (
  λ claim. false≢true (ap (λ (n : ℕ). eqb n 0) (claim power_on (command false 0x08 1) 0 refl).base),
  λ claim. true≢false (claim power_on (command false 0x15 0) 0 refl).flags.1.1.0,
  λ claim. true≢false (claim power_on (command false 0x16 0) 0 refl).flags.1.1.1.1.0,
)

-- a unit of no descriptors; MR %C0
pub has_needed : HasNeeded
unfolding computed
has_needed = (
  λ claim. true≢false (ap (λ (d : Descriptor). eqb d.base 0) (claim bare (command false 0x08 1) 0 refl refl)),
  λ claim. true≢false (ap (λ (d : Descriptor). eqb d.attributes 0) ((claim bare (command false 0x15 0) 0 refl).0 refl)),
  λ claim. true≢false (ap (λ (d : Descriptor). eqb d.attributes 0) (claim bare (cycle false true false 8 0 0) 0 refl refl)),
)

pub commands_excluded : CommandsExcluded
unfolding computed
commands_excluded claim =
    false≢true (ap (λ (d : Descriptor). eqb d.base 0) (claim power_on (command false 0x08 1) 0 (lit< tt) refl))

-- segment 0 is closed to the CPU
pub suppressed_marks_not : SuppressedMarksNot
unfolding computed
suppressed_marks_not claim =
    true≢false
    (ap (λ (d : Descriptor). eqb d.attributes CPUI)
    (claim (translating (segment 0 0xFF CPUI)) (cycle false true false 8 0 0) 0 (lit< tt) refl))
