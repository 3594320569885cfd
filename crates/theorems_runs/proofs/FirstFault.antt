-- While a primary flag stands in VTR, the first fault is kept.
-- Assumes nothing.
use mathlib.Core.Path.{◌≡◌, refl, sym, ◌∙◌, ap}
use mathlib.Core.Bool.{Bool, true, false, not, ◌&&◌, ◌||◌, and-false, true≢false, false≢true}
use mathlib.Core.List.{List, [], ◌∷◌}
use Prim.Native.Nat.{ℕ, zero, suc, ◌-◌, ◌/◌, ◌%◌, ◌^◌, ◌<◌}
use native.Mathlib.Omega.{arith}
use lib.Bits.{bit_and, bit_or}
use lib.Dec.{eqb}
use borrow.Author.Tests.{eqb-true, eq-eqb}
use Rattle.rules.proofs.FlagLaws.{has-bit}
use Rattle.rules.specs.Flags.{has, lacks}
use Rattle.rules.specs.Masks.{SYS, RDV, SYSV, SLV, CPUIV, EXCV, PWW, PRIMARY}
use Rattle.rules.specs.PowerOn.{blank}
use Rattle.rules.specs.Seen.{segment, cycle}
use Rattle.rules.specs.Runs.{units}
use Rattle.rules.specs.Status.{quieted}
use Rattle.rules.specs.Recording.{first_entry, added, raised}
use Rattle.rules.specs.Memory.{begun, noted, resumed}
use Rattle.rules.specs.Step.{after, stepped}
use Rattle.rules.specs.declared.Cycle.{Cycle}
use Rattle.rules.specs.declared.Registers.{Registers}
use Rattle.rules.specs.declared.Unit.{Unit}
use Rattle.theorems_runs.specs.Answers.{segment_of, breaks, translated}
use Rattle.theorems_runs.specs.Cycles.{fetches}
use Rattle.theorems_runs.specs.FirstFault.{wipes, FaultKept, WipesNot, FirstFaultKept, FlagNeeded, EachWipes}
use Rattle.theorems_runs.specs.Hold.{cpu_violation}
use Rattle.theorems_runs.specs.Reported.{faulted}
use Rattle.theorems_runs.specs.SegmentNumbers.{warning, stores_fault, stores_fetch, StoredBy}
use Rattle.theorems_runs.specs.Sequences.{◌⇒◌, Every, Along}
use Rattle.theorems_runs.proofs.Bits.{has_or, has_and, lacks_or, lacks_and}
use Rattle.theorems_runs.proofs.Computed.{computed}
use Rattle.theorems_runs.proofs.Examples.{unit}
use Rattle.theorems_runs.proofs.SegmentNumbers.{old, stored_exactly}
use Rattle.theorems_runs.proofs.Tests.{every_both}
use Rattle.theorems_runs.proofs.Ways.{Became, stayed, controls, empties, clears, restarts, quiets, resumes, begins}
use Rattle.theorems_runs.proofs.Ways.{records, by_row, made}

-- the primary flags are the masks of bits 0 to 5
abbrev Kept : ℕ → ℕ → Type 0
Kept v w = Every (λ flag. has v flag ⇒ has w flag) (RDV ∷ SYSV ∷ SLV ∷ CPUIV ∷ EXCV ∷ PWW ∷ [])

by_bit : (v w : ℕ) → ((k : ℕ) → k < 6 → has v (2 ^ k) ⇒ has w (2 ^ k)) → Kept v w
by_bit v w h =
    (h 0 (omega arith), (h 1 (omega arith), (h 2 (omega arith), (h 3 (omega arith), (h 4 (omega arith), (h 5 (omega arith), refl))))))

or_kept : (v m : ℕ) → Kept v (bit_or v m)
or_kept v m = by_bit v (bit_or v m) λ k h e. has_or k v m ∙ rw e

low_bit : (m : ℕ) → m % 64 ≡ 63 → (k : ℕ) → k < 6 → has m (2 ^ k) ≡ true
low_bit m e zero h = has-bit m 0 ∙ eq-eqb (m / 1 % 2) 1 (omega arith)
low_bit m e (suc zero) h = has-bit m 1 ∙ eq-eqb (m / 2 % 2) 1 (omega arith)
low_bit m e (suc (suc zero)) h = has-bit m 2 ∙ eq-eqb (m / 4 % 2) 1 (omega arith)
low_bit m e (suc (suc (suc zero))) h = has-bit m 3 ∙ eq-eqb (m / 8 % 2) 1 (omega arith)
low_bit m e (suc (suc (suc (suc zero)))) h = has-bit m 4 ∙ eq-eqb (m / 16 % 2) 1 (omega arith)
low_bit m e (suc (suc (suc (suc (suc zero))))) h = has-bit m 5 ∙ eq-eqb (m / 32 % 2) 1 (omega arith)
low_bit m e (suc (suc (suc (suc (suc (suc k)))))) h = absurd (omega arith)

and_kept : (v m : ℕ) → m % 64 ≡ 63 → Kept v (bit_and v m)
and_kept v m f = by_bit v (bit_and v m) λ k h e. has_and k v m ∙ rw (e, low_bit m f k h)

all-kept : (v : ℕ) → Kept v v
all-kept v = (λ e. e, (λ e. e, (λ e. e, (λ e. e, (λ e. e, (λ e. e, refl))))))

kept_refl : (r : Registers) → FaultKept r r
kept_refl r = record { flags = all-kept r.faults.vtr; vsn = refl; voff = refl; bcsr = refl; low = refl; isn = refl; ioff = refl }

kept_then : {r s t : Registers} → FaultKept r s → FaultKept s t → FaultKept r t
kept_then {r} {s} {t} a b =
    record {
      flags =
          every_both (λ f. has r.faults.vtr f ⇒ has s.faults.vtr f) (λ f. has s.faults.vtr f ⇒ has t.faults.vtr f)
          (λ f. has r.faults.vtr f ⇒ has t.faults.vtr f) (λ f p q e. q (p e)) (RDV ∷ SYSV ∷ SLV ∷ CPUIV ∷ EXCV ∷ PWW ∷ []) a.flags
          b.flags;
      vsn = b.vsn ∙ a.vsn;
      voff = b.voff ∙ a.voff;
      bcsr = b.bcsr ∙ a.bcsr;
      low = b.low ∙ a.low;
      isn = b.isn ∙ a.isn;
      ioff = b.ioff ∙ a.ioff;
    }

-- The flags: a primary flag still stands, and each that stood

abbrev Stands : Registers → Registers → Type 0
Stands r s = faulted s × Kept r.faults.vtr s.faults.vtr

became_stands : {back wiped : Bool} {c : Cycle} {r s : Registers} → Became back wiped c r s → wiped ≡ false → faulted r → Stands r s
unfolding quieted resumed begun noted first_entry added raised
became_stands {r} stayed e p = (p, all-kept r.faults.vtr)
became_stands {r} (controls k f) e p = (p, all-kept r.faults.vtr)
became_stands (empties w) e p = absurd (true≢false (sym w ∙ e))
became_stands {r} (clears flag f) e p =
    (lacks_and r.faults.vtr (255 - flag) f ∙ p, and_kept r.faults.vtr (255 - flag) f)
became_stands (restarts mr f w) e p = absurd (true≢false (sym w ∙ e))
became_stands {r} (quiets f) e p = (p, all-kept r.faults.vtr)
became_stands {r} resumes e p = (p, all-kept r.faults.vtr)
became_stands {r} (begins starts) e p = (p, all-kept r.faults.vtr)
became_stands {c} {r} (records starts event small stores holds w) e p =
    by_row (Stands r) (begun r starts) c event (p, all-kept r.faults.vtr) (λ n t. absurd (true≢false (sym t ∙ p)))
    (λ t. (lacks_or r.faults.vtr event ∙ rw p, or_kept r.faults.vtr event))
    (λ flag t. (lacks_or r.faults.vtr flag ∙ rw p, or_kept r.faults.vtr flag))

-- The addresses: no cycle stores them

module _ (u : Unit) (c : Cycle) (p : faulted u.registers) where
  no_fault : stores_fault u c ≡ false
  no_fault = ap (λ (t : Bool). (cpu_violation u c || warning u c) && t) p ∙ and-false (cpu_violation u c || warning u c)

  no_fetch : stores_fetch u c ≡ false
  no_fetch = go (eqb u.registers.faults.vtr 0) refl
    where
      go : (t : Bool) → eqb u.registers.faults.vtr 0 ≡ t → (fetches c && translated u c && not (breaks (segment_of u c) c) && t) ≡ false
      go true e = absurd (true≢false (sym (ap (λ (v : ℕ). lacks v PRIMARY) (eqb-true u.registers.faults.vtr 0 e)) ∙ p))
      go false e = and-false (fetches c && translated u c && not (breaks (segment_of u c) c))

  stands_after : wipes u c ≡ false → faulted (stepped u c).unit.registers × FaultKept u.registers (stepped u c).unit.registers
  unfolding after
  stands_after e =
      let flags : Stands u.registers (stepped u c).unit.registers = became_stands (made u c).became e p in
      let s : StoredBy u c (stepped u c).unit.registers = stored_exactly u c in (
        flags.0,
        record {
          flags = flags.1;
          vsn = s.vsn ∙ old _ _ _ no_fault;
          voff = s.voff ∙ old _ _ _ no_fault;
          bcsr = s.bcsr ∙ old _ _ _ no_fault;
          low = s.low ∙ old _ _ _ no_fault;
          isn = s.isn ∙ old _ _ _ no_fetch;
          ioff = s.ioff ∙ old _ _ _ no_fetch;
        },
      )

pub first-fault-kept : FirstFaultKept
unfolding units Along
first-fault-kept u cs p q = go u.registers cs u p (kept_refl u.registers) q
  where
    go : (r : Registers) (cs : List Cycle) (v : Unit) → faulted v.registers → FaultKept r v.registers → Along WipesNot v cs
        → Every (λ v. FaultKept r v.registers) (units v cs)
    go r [] v p k q = refl
    go r (c ∷ cs) v p k q =
        let s : _ = stands_after v c p q.0 in
        (kept_then k s.1, go r cs (stepped v c).unit s.0 (kept_then k s.1) q.1)

-- a normal write at segment 1, which is open to system mode alone, stores VSN 1
pub flag_needed : FlagNeeded
unfolding computed units Along
flag_needed claim =
    false≢true
    (ap (λ (n : ℕ). eqb n 0)
    (claim (unit blank (segment 0 0xFF SYS) blank) (cycle false false true 8 1 0 ∷ []) refl (refl, refl)).0.vsn)

pub each_wipes : EachWipes
unfolding computed
each_wipes = ((refl, refl), ((refl, refl), ((refl, refl), refl)))
