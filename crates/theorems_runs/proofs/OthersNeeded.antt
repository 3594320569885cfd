-- Why ticket 12 needs its conditions: runs that antt computes.
-- Assumes nothing.
use mathlib.Core.Path.{◌≡◌, refl, sym, ◌∙◌, ap}
use mathlib.Core.Bool.{Bool, true, false, not, ◌&&◌, and-false, true≢false, false≢true}
use mathlib.Core.List.{List, [], ◌∷◌}
use Prim.Native.Nat.{ℕ, zero, suc, ◌<◌}
use native.Mathlib.Omega.{arith}
use lib.Dec.{eqb, leb}
use lib.ListN.{get_or}
use borrow.Author.Tests.{eq-eqb, eqb-true, leb-true, not-true}
use Rattle.rules.specs.Masks.{RD}
use Rattle.rules.specs.PowerOn.{blank, power_on}
use Rattle.rules.specs.Refusals.{out_of_range}
use Rattle.rules.specs.Seen.{segment, cycle, command}
use Rattle.rules.specs.Runs.{answers}
use Rattle.rules.specs.Step.{stepped}
use Rattle.rules.specs.declared.Answer.{Answer}
use Rattle.rules.specs.declared.Cycle.{Cycle}
use Rattle.rules.specs.declared.Descriptor.{Descriptor}
use Rattle.rules.specs.declared.Unit.{Unit}
use Rattle.theorems_runs.specs.Cycles.{on_descriptor}
use Rattle.theorems_runs.specs.Others.{Alike, MayRead, RegistersNeeded, InsideNeeded, SizeNeeded, NamesNeeded, AbortsNeeded}
use Rattle.theorems_runs.specs.Others.{ReadsNeeded}
use Rattle.theorems_runs.specs.Sequences.{Along, all}
use Rattle.theorems_runs.specs.Trap.{requesting}
use Rattle.theorems_runs.proofs.Computed.{computed}
use Rattle.theorems_runs.proofs.Examples.{unit, unit_undamaged, bare}
use Rattle.theorems_runs.proofs.Tests.{at, and_r}
use Rattle.theorems_runs.proofs.Undamaged.{undamaged_from_power_on}

-- Two units that differ in segment 0 alone, in every byte that a read with DSCR 0 shows. Segment 2 is read-only in both.

abbrev locked : Descriptor
locked = segment 0x3000 0xFF RD

abbrev left : Unit
left = unit (segment 0x1000 0x10 0) blank locked

abbrev right : Unit
right = unit (segment 0x2000 0x20 RD) blank locked

-- the set: all segments but 0
abbrev mine : ℕ → Bool
mine i = not (eqb i 0)

alike : Alike mine left right
alike = record { registers = refl; table = entries }
  where
    entries : (i : ℕ) → i < 64 → mine i ≡ true → get_or left.table i blank ≡ get_or right.table i blank
    entries zero low e = absurd (false≢true e)
    entries (suc zero) low e = refl
    entries (suc (suc i)) low e = refl

abbrev read_zero : Cycle
read_zero = cycle false true false 8 0 0

-- no answer drives the second unit's block of segment 0
abbrev elsewhere : List Answer → Bool
elsewhere l = all (λ (x : Answer). not (eqb x.address.block 0x2000)) l

read_tells : answers left (read_zero ∷ []) ≡ answers right (read_zero ∷ []) → ⊥
unfolding computed
read_tells same = true≢false (ap elsewhere same)

pub inside_needed : InsideNeeded
unfolding Along out_of_range
inside_needed claim =
    read_tells
    (claim (λ i. true) left right (read_zero ∷ []) (unit_undamaged _ _ _) (unit_undamaged _ _ _) refl ((λ e. refl, refl), refl)).0

pub names_needed : NamesNeeded
unfolding Along out_of_range
names_needed claim =
    read_tells (claim mine left right (read_zero ∷ []) (unit_undamaged _ _ _) (unit_undamaged _ _ _) alike (refl, refl)).0

-- Aborted fetches. A write to segment 2 is a violation in both units, and the fetch after it is the aborted one.

abbrev fault_then_fetch : List Cycle
fault_then_fetch = cycle false false false 8 2 0 ∷ cycle false true false 13 0 0 ∷ []

pub aborts_needed : AbortsNeeded
unfolding Along computed
aborts_needed claim =
    true≢false
    (ap elsewhere
    (claim mine left right fault_then_fetch (unit_undamaged _ _ _) (unit_undamaged _ _ _) alike
    ((λ e. refl, refl), ((λ e. absurd (false≢true e), refl), refl))).0)

-- Reads of %08 to %0F, SAR 0 and DSCR 0

abbrev reads : (code : ℕ) → Cycle
reads code = command true code 0

abbrev shown : Unit → (code : ℕ) → ℕ
shown u code = (stepped u (reads code)).answer.byte

abbrev first_byte : List Answer → ℕ
first_byte [] = 0
first_byte (x ∷ l) = x.byte

abbrev differs : (code : ℕ) → Bool
differs code = not (on_descriptor code && eqb (shown left code) (shown right code))

each_differs : (code : ℕ) → on_descriptor code ≡ true → eqb (shown left code) (shown right code) ≡ false
unfolding computed
each_differs code e =
    not-true _ (rw e at (at 16 differs refl code (omega (arith, leb-true code 15 (and_r (leb 8 code) _ e)))))

-- a read of the one code is all that is excused
reads_may : (code : ℕ) → MayRead code mine left (reads code)
unfolding out_of_range
reads_may code =
    (λ e. absurd (false≢true e), ap (λ (one : Bool). on_descriptor code && not one) (eq-eqb code code refl) ∙ and-false (on_descriptor code))

pub reads_needed : ReadsNeeded
unfolding Along answers
reads_needed code e claim =
    let same : answers left (reads code ∷ []) ≡ answers right (reads code ∷ []) =
    (claim mine left right (reads code ∷ []) (unit_undamaged _ _ _) (unit_undamaged _ _ _) alike (reads_may code, refl)).0 in
    false≢true (sym (each_differs code e) ∙ eq-eqb _ _ (ap first_byte same))

-- The registers. The trap line stands in the second unit alone; the cycle has status 0 and is ignored.

pub registers_needed : RegistersNeeded
unfolding Along computed
registers_needed claim =
    true≢false
    (ap (all (λ (x : Answer). not x.trap))
    (claim mine power_on requesting (cycle false true false 0 0 0 ∷ []) (undamaged_from_power_on []) (record { size = refl; sound = refl })
    (λ i low e. refl) ((λ e. absurd (false≢true e), refl), refl)).0)

-- The 64 descriptors. The first unit has none: set all CPUI closes segment 0 in the second alone, which suppresses the read.

pub size_needed : SizeNeeded
unfolding Along computed
size_needed claim =
    true≢false
    (ap (all (λ (x : Answer). not x.sup))
    (claim (λ i. eqb i 0) bare (unit blank blank blank) (command false 0x15 0 ∷ read_zero ∷ []) refl refl
    (record { registers = refl; table = entries })
    ((λ e. absurd (false≢true e), refl), ((λ e. refl, refl), refl))).0)
  where
    entries : (i : ℕ) → i < 64 → eqb i 0 ≡ true → get_or bare.table i blank ≡ get_or (unit blank blank blank).table i blank
    entries zero low e = refl
    entries (suc i) low e = absurd (omega (arith, eqb-true (suc i) 0 e))
