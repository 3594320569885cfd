-- Why demand 3 needs its stop and leaves out writes to descriptors: two runs that antt computes.
-- Assumes nothing.
use mathlib.Core.Path.{◌≡◌, refl, subst}
use mathlib.Core.Bool.{Bool, true, false, false≢true}
use mathlib.Core.List.{List, [], ◌∷◌}
use Prim.Native.Nat.{ℕ}
use native.Mathlib.Omega.{arith}
use Rattle.rules.specs.Masks.{DIRW}
use lib.Dec.{lit≤}
use Rattle.rules.specs.PowerOn.{blank}
use Rattle.rules.specs.Seen.{segment, cycle, command}
use Rattle.rules.specs.Runs.{answers}
use Rattle.rules.specs.Step.{stepped}
use Rattle.rules.specs.declared.Answer.{Answer}
use Rattle.rules.specs.declared.Cycle.{Cycle}
use Rattle.rules.specs.declared.Descriptor.{Descriptor}
use Rattle.rules.specs.declared.Unit.{Unit}
use Rattle.theorems_runs.specs.Sequences.{Both}
use Rattle.theorems_runs.specs.Tighter.{Wider, Covers, before, nowhere, NoDescriptorWrite, TighterBy, StopNeeded}
use Rattle.theorems_runs.specs.Tighter.{in_either, Any, WritesExcluded}
use Rattle.theorems_runs.proofs.Computed.{computed}
use Rattle.theorems_runs.proofs.Examples.{unit, unit_undamaged, unit_loosened, read_only, writable, closed, writable_wider}
use Rattle.theorems_runs.proofs.Wider.{wider_refl}

-- The stop. Segment 1 is read-only in the first unit alone, segment 2 is closed to the CPU in both. A write to segment 1 is a violation in
-- the first unit, whose next fetch is therefore an aborted one, SUP off; the second unit suppresses that fetch.

fault_then_fetch : List Cycle
fault_then_fetch = cycle false false false 8 1 0 ∷ cycle false true false 13 2 0 ∷ []

pub stop_needed : StopNeeded
unfolding fault_then_fetch before computed
stop_needed claim = refuted nowhere claim refl
  where
    first : Unit
    first = unit blank read_only closed

    second : Unit
    second = unit blank writable closed

    -- by any stop that leaves both cycles
    refuted : (stop : Unit → Unit → Cycle → Bool) → TighterBy Covers NoDescriptorWrite stop
        → before stop first second fault_then_fetch ≡ fault_then_fetch → ⊥
    refuted stop claim both =
        false≢true
        ((subst (λ (cs : List Cycle). Both Covers (answers first cs) (answers second cs)) both
        (claim first second fault_then_fetch
        (unit_undamaged _ _ _) (unit_undamaged _ _ _) (unit_loosened (wider_refl _) writable_wider)
        (refl, (refl, refl)))).1.0.sup refl)

-- Writes to descriptors. Segment 0 ends at %10 in the first unit and at %20 in the second. Once DIRW is written to both, it begins there: the
-- block %18 is then inside the first's and outside the second's, and %30 is %20 blocks from the first's edge and %10 from the second's.

short : Descriptor
short = segment 0 0x10 0

long : Descriptor
long = segment 0 0x20 0

turn_then_read : (offset : ℕ) → List Cycle
turn_then_read offset = command false 0x0A DIRW ∷ cycle false true false 8 0 offset ∷ []

long_wider : Wider short long
unfolding short long
long_wider =
    record {
      base = refl;
      direction = refl;
      rights = (λ e. e, (λ e. e, (λ e. e, (λ e. e, (λ e. e, refl)))));
      up = λ e. lit≤ tt;
      down = λ e. absurd (false≢true e);
    }

pub writes_excluded : WritesExcluded
unfolding short long turn_then_read before computed
writes_excluded = (λ claim. false≢true ((told claim 0x18).sup refl), λ claim. absurd (omega (arith, told claim 0x30 refl refl)))
  where
    told : {Line : Answer → Answer → Type 0} → TighterBy Line Any in_either → (offset : ℕ)
        → Line (stepped (stepped (unit short blank blank) (command false 0x0A DIRW)).unit (cycle false true false 8 0 offset)).answer
        (stepped (stepped (unit long blank blank) (command false 0x0A DIRW)).unit (cycle false true false 8 0 offset)).answer
    told claim offset =
        (claim (unit short blank blank) (unit long blank blank) (turn_then_read offset)
        (unit_undamaged _ _ _) (unit_undamaged _ _ _) (unit_loosened long_wider (wider_refl _))
        (refl, (refl, refl))).1.0
