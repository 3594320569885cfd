-- Units that counterexamples are made of. `Seen` of the rules has their descriptors and cycles.
-- Assumes nothing.
use mathlib.Core.Path.{refl}
use mathlib.Core.Bool.{Bool, false}
use mathlib.Core.List.{[], ◌∷◌}
use Prim.Native.Nat.{ℕ, zero, suc, ◌<◌}
use lib.Dec.{lit≤}
use lib.ListN.{get_or, replicate}
use Rattle.rules.specs.Masks.{RD, CPUI}
use Rattle.rules.specs.PowerOn.{stored_of, notes_of, unit_of, blank}
use Rattle.rules.specs.Refusals.{damaged}
use Rattle.rules.specs.Seen.{segment}
use Rattle.rules.specs.declared.Descriptor.{Descriptor}
use Rattle.rules.specs.declared.Unit.{Unit}
use Rattle.theorems_runs.specs.Tighter.{Wider, Loosened}
use Rattle.theorems_runs.specs.Undamaged.{Undamaged}
use Rattle.theorems_runs.proofs.Wider.{wider_refl}

-- MR, SAR, DSCR, hold and the descriptors of segments 0 to 2, all else as at power-on
abbrev pub unit_of_three : (mr sar dscr : ℕ) → (hold : Bool) → (x y z : Descriptor) → Unit
unit_of_three mr sar dscr hold x y z =
    unit_of (x ∷ y ∷ z ∷ replicate 61 blank) mr sar dscr (stored_of 0 0 0 0 0) 0 0 (notes_of false false false hold)

-- the descriptors of segments 0 to 2, MR %C0 (MSEN and TRNS set)
abbrev pub unit : (x y z : Descriptor) → Unit
unit x y z = unit_of_three 0xC0 0 0 false x y z

pub unit_undamaged : (x y z : Descriptor) → Undamaged (unit x y z)
unfolding damaged
unit_undamaged x y z = record { size = refl; sound = refl }

-- a unit of no descriptors
abbrev pub bare : Unit
bare = record { table = []; registers = (unit blank blank blank).registers }

-- where these descriptors are wider, all are
pub wider_entries : {x y z x' y' z' : Descriptor} → Wider x x' → Wider y y' → Wider z z' → (i : ℕ) → i < 64
    → Wider (get_or (x ∷ y ∷ z ∷ replicate 61 blank) i blank) (get_or (x' ∷ y' ∷ z' ∷ replicate 61 blank) i blank)
wider_entries p q s zero h = p
wider_entries p q s (suc zero) h = q
wider_entries p q s (suc (suc zero)) h = s
wider_entries p q s (suc (suc (suc i))) h = wider_refl _

-- and the units differ in nothing else
pub unit_loosened : {x y x' y' z : Descriptor} → Wider x x' → Wider y y' → Loosened (unit x y z) (unit x' y' z)
unit_loosened w v = record { registers = refl; table = wider_entries w v (wider_refl _) }

-- segment 1 read-only and writable, segment 2 closed to the CPU
abbrev pub read_only : Descriptor
read_only = segment 0x1000 0xFF RD

abbrev pub writable : Descriptor
writable = segment 0x1000 0xFF 0

abbrev pub closed : Descriptor
closed = segment 0x2000 0xFF CPUI

pub writable_wider : Wider read_only writable
writable_wider =
    record {
      base = refl;
      direction = refl;
      rights = (λ e. refl, (λ e. e, (λ e. e, (λ e. e, (λ e. e, refl)))));
      up = λ e. lit≤ tt;
      down = λ e. lit≤ tt;
    }
