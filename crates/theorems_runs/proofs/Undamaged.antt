-- An undamaged unit stays undamaged, whatever the cycles.
-- Assumes nothing.
use mathlib.Core.Path.{◌≡◌, refl, ◌∙◌}
use mathlib.Core.Bool.{Bool, false, ◌||◌}
use mathlib.Core.List.{List}
use Prim.Native.Nat.{ℕ, ◌%◌, ◌≤◌, ◌<◌}
use native.Mathlib.Omega.{arith}
use lib.Dec.{ltb, lit<}
use lib.ListN.{length, length-set, length-map}
use borrow.Author.Tests.{le-ltb, ltb-false}
use Rattle.rules.specs.Masks.{READ, NORMAL}
use Rattle.rules.specs.PowerOn.{power_on}
use Rattle.rules.specs.Refusals.{damaged}
use Rattle.rules.specs.Status.{quieted}
use Rattle.rules.specs.Recording.{bus_status, first_entry, added, raised, recorded}
use Rattle.rules.specs.Memory.{begun, noted, resumed}
use Rattle.rules.specs.Commands.{restarted}
use Rattle.rules.specs.Step.{place, changed, decision, after, stepped}
use Rattle.rules.specs.declared.Change.{Change}
use Rattle.rules.specs.declared.Change.TheVariants.{Keep, Put, Raise}
use Rattle.rules.specs.declared.Cycle.{Cycle}
use Rattle.rules.specs.declared.Descriptor.{Descriptor}
use Rattle.rules.specs.declared.Registers.{Registers}
use Rattle.rules.specs.declared.Unit.{Unit}
use Rattle.theorems_runs.specs.Undamaged.{Bounded, Undamaged, BoundedExactly, StaysUndamaged, UndamagedFromPowerOn, UndamagedThroughout}
use Rattle.theorems_runs.proofs.Bits.{or-if}
use Rattle.theorems_runs.proofs.Orphans.{Rooted, became_rooted}
use Rattle.theorems_runs.proofs.Runs.{always, throughout}
use Rattle.theorems_runs.proofs.Ways.{Became, stayed, controls, empties, clears, restarts, quiets, resumes, begins}
use Rattle.theorems_runs.proofs.Ways.{records, by_row, made}
use Rattle.theorems_runs.proofs.Tests.{cond_le, or_l, or_r}

-- The bounds

sound_bounded : (r : Registers) → damaged r ≡ false → Bounded r × Rooted r
unfolding damaged
sound_bounded r h =
    let a : Bool = ltb 63 r.control.sar in
    let b : Bool = ltb 127 r.faults.vsn in
    let c : Bool = ltb 127 r.fetched.isn in
    let d : Bool = ltb 63 r.faults.bcsr in
    let e : Bool = ltb 3 r.control.dscr in
    let h₅ : (a || b || c || d || e) ≡ false = or_l (a || b || c || d || e) _ h in
    let h₄ : (a || b || c || d) ≡ false = or_l (a || b || c || d) _ h₅ in
    let h₃ : (a || b || c) ≡ false = or_l (a || b || c) _ h₄ in
    let h₂ : (a || b) ≡ false = or_l (a || b) _ h₃ in (
      record {
        sar = ltb-false _ _ (or_l a _ h₂);
        vsn = ltb-false _ _ (or_r a b h₂);
        isn = ltb-false _ _ (or_r (a || b) c h₃);
        bcsr = ltb-false _ _ (or_r (a || b || c) d h₄);
        dscr = ltb-false _ _ (or_r (a || b || c || d) e h₅);
      },
      or_r (a || b || c || d || e) _ h,
    )

bounded_sound : (r : Registers) → Bounded r × Rooted r → damaged r ≡ false
unfolding damaged
bounded_sound r f =
    simp (
      le-ltb _ _ f.0.sar,
      le-ltb _ _ f.0.vsn,
      le-ltb _ _ f.0.isn,
      le-ltb _ _ f.0.bcsr,
      le-ltb _ _ f.0.dscr,
      f.1,
    )

pub bounded_exactly : BoundedExactly
bounded_exactly r = (sound_bounded r, bounded_sound r)

-- The registers

bus_bounded : (c : Cycle) → bus_status c ≤ 63
unfolding bus_status
bus_bounded c =
    let h : bus_status c < 64 = or-if 6 c.normal NORMAL (lit< tt) (or-if {x = c.status % 16} 6 c.read READ (lit< tt) (omega arith)) in
    omega (arith, h)

became_bounded : {back wiped : Bool} {c : Cycle} {r s : Registers} → Became back wiped c r s → Bounded r → Bounded s
unfolding restarted quieted resumed begun noted first_entry added raised
became_bounded stayed h = h
became_bounded (controls k f) h = record { sar = f.0 h.sar; vsn = h.vsn; isn = h.isn; bcsr = h.bcsr; dscr = f.1 h.dscr }
became_bounded (empties w) h = omega arith
became_bounded (clears flag f) h = omega arith
became_bounded (restarts mr f w) h = omega arith
became_bounded (quiets f) h = omega arith
became_bounded resumes h = omega arith
became_bounded (begins starts) h = omega arith
became_bounded {c} {r} (records starts event small stores holds w) h =
    let f : Bounded (recorded (begun r starts) c event) =
    by_row Bounded (begun r starts) c event (omega arith)
    (λ n p. record { sar = h.sar; vsn = omega arith; isn = h.isn; bcsr = bus_bounded c; dscr = h.dscr })
    (λ p. omega arith) (λ flag p. omega arith) in
    record { sar = f.sar; vsn = f.vsn; isn = cond_le stores (omega arith) f.isn; bcsr = f.bcsr; dscr = f.dscr }

-- The unit

changed_size : (h : Change) (i : ℕ) (t : List Descriptor) → length (changed h i t) ≡ length t
unfolding changed
changed_size Keep i t = refl
changed_size (Put d) i t = length-set t i d
changed_size (Raise m) i t = length-map t _

pub size_after : (u : Unit) (c : Cycle) → length (stepped u c).unit.table ≡ length u.table
unfolding after
size_after u c = changed_size (decision u c).change (place u c) u.table

pub undamaged_after : (u : Unit) (c : Cycle) → Undamaged u → Undamaged (stepped u c).unit
unfolding after
undamaged_after u c h =
    let before : Bounded u.registers × Rooted u.registers = sound_bounded _ h.sound in
    record {
      size = size_after u c ∙ h.size;
      sound = bounded_sound _ (became_bounded (made u c).became before.0, became_rooted (made u c).became before.1);
    }

-- Runs

pub stays_undamaged : StaysUndamaged
stays_undamaged = always Undamaged undamaged_after

pub undamaged_throughout : UndamagedThroughout
undamaged_throughout = throughout Undamaged undamaged_after

pub undamaged_from_power_on : UndamagedFromPowerOn
unfolding damaged
undamaged_from_power_on cs = stays_undamaged power_on cs (record { size = refl; sound = refl })
