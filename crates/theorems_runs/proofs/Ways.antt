-- One walk over the rules for the claims about VTR and its companions, damage and the trap line: how the registers of a single unit after a
-- cycle come from those before it, and that the trap answer shows their request.
-- Assumes nothing.
use mathlib.Core.Path.{◌≡◌, refl}
use mathlib.Core.Bool.{Bool, true, false, cond, not, ◌&&◌, ◌||◌, and-false}
use Prim.Native.Nat.{ℕ, ◌-◌, ◌%◌, ◌≤◌, ◌<◌}
use native.Mathlib.Omega.{arith}
use lib.Bits.{or_lt}
use lib.Dec.{eqb, lit<}
use Rattle.rules.specs.Bus.{cpu, write, fetch, program}
use Rattle.rules.specs.Flags.{flag_if, has, lacks, with, without}
use Rattle.rules.specs.Masks.{RD, SYS, CPUI, EXC, DMAI, RDV, SYSV, SLV, CPUIV, EXCV, DMAIV, SWW, FATL, PRIMARY}
use Rattle.rules.specs.Refusals.{damaged, out_of_range}
use Rattle.rules.specs.Replies.{plain, refused, seen}
use Rattle.rules.specs.Status.{reset_by, quieted, acknowledged, ignored, purpose_of, by_purpose, by_status}
use Rattle.rules.specs.Checks.{rights_of, out_of_length, found}
use Rattle.rules.specs.Recording.{event_by, event_of, first_entry, added, raised, row_of, stack_warning, recorded}
use Rattle.rules.specs.Memory.{begun, noted, storing, checked, accessed, resumed, aborted, untranslated}
use Rattle.rules.specs.Memory.{memory_by, aborts, memory}
use Rattle.rules.specs.Translation.{way_of}
use Rattle.rules.specs.Codes.{command_of, steps}
use Rattle.rules.specs.Entry.{next_counter, next_segment, moved}
use Rattle.rules.specs.Commands.{replied, restarted, programmed, entry, acted, executed, commanded}
use Rattle.rules.specs.Registers.{with_control, with_vtr}
use Rattle.rules.specs.Step.{decided_by, decided, decision}
use Rattle.rules.specs.declared.Action.{Action}
use Rattle.rules.specs.declared.Action.TheVariants.{SoftwareReset, ClearVtr, ClearSww, ClearFatl, SetCpui, SetDmai}
use Rattle.rules.specs.declared.Command.{Command}
use Rattle.rules.specs.declared.Command.TheVariants.{Mr, Sar, Dscr, Show, Entry, Act, Unlisted}
use Rattle.rules.specs.declared.Control.{Control}
use Rattle.rules.specs.declared.Cycle.{Cycle}
use Rattle.rules.specs.declared.Decision.{Decision}
use Rattle.rules.specs.declared.Descriptor.{Descriptor}
use Rattle.rules.specs.declared.Address.{Address}
use Rattle.rules.specs.declared.Part.{Part}
use Rattle.rules.specs.declared.Part.TheVariants.{Base, Limit, Attributes, Whole}
use Rattle.rules.specs.declared.Purpose.{Purpose}
use Rattle.rules.specs.declared.Registers.{Registers}
use Rattle.rules.specs.declared.Unit.{Unit}
use Rattle.rules.specs.declared.Way.{Way}
use Rattle.theorems_runs.specs.FirstFault.{wipes}
use Rattle.theorems_runs.specs.Trap.{takes_back}
use Rattle.theorems_runs.proofs.Bits.{small_if, or-if}
use Rattle.theorems_runs.proofs.Codes.{is_act_of, software_reset_code, clear_vtr_code}
use Rattle.theorems_runs.proofs.Purposes.{is_command, is_acknowledge, command_status, acknowledge_status}
use Rattle.theorems_runs.proofs.Tests.{and_r, cond_le}
use Rattle.rules.specs.declared.Purpose.TheVariants as purpose
use Rattle.rules.specs.declared.Way.TheVariants as way

-- a SAR and a DSCR in their ranges, where those before were
abbrev Follows : Control → Control → Type 0
Follows j k = (j.sar ≤ 63 → k.sar ≤ 63) × (j.dscr ≤ 3 → k.dscr ≤ 3)

-- s comes from r in a cycle c; `back` says that the cycle is one that takes the trap line back, `wiped` that it is one that empties the VTR
pub data Became (back wiped : Bool) (c : Cycle) (r : Registers) : Registers → Type 0 where
  stayed : Became back wiped c r r
  controls : (k : Control) → Follows r.control k → Became back wiped c r (with_control r k)
  empties : wiped ≡ true → Became back wiped c r (with_vtr r 0)
  -- a flag that is not primary
  clears : (flag : ℕ) → (255 - flag) % 64 ≡ 63 → Became back wiped c r (with_vtr r (without r.faults.vtr flag))
  restarts : (mr : ℕ) → back ≡ true → wiped ≡ true → Became back wiped c r (restarted r mr)
  quiets : back ≡ true → Became back wiped c r (quieted r)
  resumes : Became back wiped c r (resumed r)
  begins : (starts : Bool) → Became back wiped c r (begun r starts)
  -- ISN and IOFF are stored only while VTR is zero
  records : (starts : Bool) (event : ℕ) → event < 64 → (stores holds : Bool) → (stores ≡ true → eqb r.faults.vtr 0 ≡ true)
      → Became back wiped c r (noted (recorded (begun r starts) c event) stores holds c)

-- one decision
pub record Made (back wiped : Bool) (c : Cycle) (r : Registers) (x : Decision) : Type 0 where
  pub shown : x.answer.trap ≡ x.registers.notes.request
  pub became : Became back wiped c r x.registers

-- Recording, row by row: what holds of each row's registers holds of what is recorded
pub by_row : (P : Registers → Type 0) (r : Registers) (c : Cycle) (event : ℕ) → P r
    → (eqb event 0 ≡ false → lacks r.faults.vtr PRIMARY ≡ true → P (first_entry r c event))
    → (lacks r.faults.vtr PRIMARY ≡ false → P (added r event))
    → ((flag : ℕ) → lacks r.faults.vtr PRIMARY ≡ false → P (raised r flag))
    → P (recorded r c event)
unfolding recorded
by_row P r c event none first own later =
    go (eqb event 0) (lacks r.faults.vtr PRIMARY) r.notes.own (stack_warning c event) (has r.faults.vtr SWW) refl refl
  where
    go : (n f o s t : Bool) → eqb event 0 ≡ n → lacks r.faults.vtr PRIMARY ≡ f → P (row_of n f o s t r c event)
    go true f o s t e p = none
    go false true o s t e p = first e p
    go false false true s t e p = own p
    go false false false true true e p = none
    go false false false true false e p = later SWW p
    go false false false false t e p = later FATL p

-- the rights of a CPU cycle fit five bits: DMAI has no part in them
pub rights_small : (a : ℕ) (c : Cycle) → c.dma ≡ false → rights_of a c < 32
unfolding rights_of
rights_small a c e =
    or_lt 5 _ (flag_if (has a DMAI && c.dma) DMAIV)
    (or-if 5 (has a EXC && not (program c)) EXCV (lit< tt)
    (or-if 5 (has a CPUI && cpu c) CPUIV (lit< tt)
    (or-if 5 (has a SYS && c.normal) SYSV (lit< tt) (small_if (has a RD && write c) RDV (lit< tt)))))
    (rw (e, and-false (has a DMAI)) (lit< tt))

-- a violation's flags too, and PWW is the sixth
event_small : (d : Descriptor) (c : Cycle) → event_of c.dma (found d c) < 64
unfolding event_of
event_small d c = go c.dma (found d c).violation (found d c).warning refl
  where
    go : (dma v w : Bool) → c.dma ≡ dma → event_by dma v w (with (rights_of d.attributes c) (flag_if (out_of_length d c) SLV)) < 64
    go true v w e = lit< tt
    go false true w e =
        let flags : with (rights_of d.attributes c) (flag_if (out_of_length d c) SLV) < 32 =
        or-if 5 (out_of_length d c) SLV (lit< tt) (rights_small d.attributes c e) in
        omega (arith, flags)
    go false false true e = lit< tt
    go false false false e = lit< tt

counter_bounded : (p : Part) (n : ℕ) → next_counter p n ≤ 3
unfolding next_counter
counter_bounded Base n = cond_le (eqb n 0) (omega arith) (omega arith)
counter_bounded Limit n = omega arith
counter_bounded Attributes n = omega arith
counter_bounded Whole n = omega arith

module _ (back wiped : Bool) (c : Cycle) (r : Registers) (d : Descriptor) where
  -- Memory cycles

  accessed_made : (starts : Bool) (l : Address) → Made back wiped c r (accessed (begun r starts) d c l)
  unfolding accessed checked seen noted begun
  accessed_made starts l =
      let v : Bool = (found d c).violation in
      record {
        shown = refl;
        became =
            records starts _ (event_small d c) (storing (begun r starts) c v) (v && cpu c) (λ e. and_r (fetch c && not v) _ e);
      }

  memory_made : (b : Bool) (w : Way) (l : Address) → Made back wiped c r (memory_by b w r d c l)
  unfolding aborted seen untranslated resumed
  memory_made true w l = record { shown = refl; became = resumes }
  memory_made false way.Translated l = accessed_made (fetch c) l
  memory_made false way.Passed l = record { shown = refl; became = begins (fetch c) }
  memory_made false way.Silent l = record { shown = refl; became = begins (fetch c) }

  -- Commands

  programmed_made : (old : ℕ) (k : Control) → Follows r.control k → Made back wiped c r (programmed r c old k)
  unfolding programmed replied
  programmed_made old k h = record { shown = refl; became = controls _ (either c.read) }
    where
      either : (b : Bool) → Follows r.control (cond b r.control k)
      either true = (λ s. s, λ s. s)
      either false = h

  entry_made : (p : Part) → Made back wiped c r (entry r d p c)
  unfolding entry replied moved next_segment
  entry_made p =
      record {
        shown = refl;
        became =
            controls (moved r.control p c) (
              λ s. cond_le (steps c.offset && eqb (next_counter p r.control.dscr) 0) (omega arith) s,
              λ s. counter_bounded p r.control.dscr,
            );
      }

  acted_made : (a : Action) → (is_act_of 0x10 (Act a) ≡ true → back ≡ true)
      → ((is_act_of 0x10 (Act a) || is_act_of 0x11 (Act a)) ≡ true → wiped ≡ true)
      → Made back wiped c r (acted r a)
  unfolding acted plain
  acted_made SoftwareReset t z = record { shown = refl; became = restarts 0 (t refl) (z refl) }
  acted_made ClearVtr t z = record { shown = refl; became = empties (z refl) }
  acted_made ClearSww t z = record { shown = refl; became = clears SWW refl }
  acted_made ClearFatl t z = record { shown = refl; became = clears FATL refl }
  acted_made SetCpui t z = record { shown = refl; became = stayed }
  acted_made SetDmai t z = record { shown = refl; became = stayed }

  executed_made : (m : Command) (read : Bool) → ((not read && is_act_of 0x10 m) ≡ true → back ≡ true)
      → ((not read && is_act_of 0x10 m || not read && is_act_of 0x11 m) ≡ true → wiped ≡ true) → Made back wiped c r (executed m read r d c)
  unfolding executed replied refused plain
  executed_made Mr read t z = programmed_made _ _ (λ s. s, λ s. s)
  executed_made Sar read t z = programmed_made _ _ (λ s. omega arith, λ s. s)
  executed_made Dscr read t z = programmed_made _ _ (λ s. s, λ s. omega arith)
  executed_made (Show g) true t z = record { shown = refl; became = stayed }
  executed_made (Show g) false t z = record { shown = refl; became = stayed }
  executed_made (Entry p) read t z = entry_made p
  executed_made (Act a) true t z = record { shown = refl; became = stayed }
  executed_made (Act a) false t z = acted_made a t z
  executed_made Unlisted read t z = record { shown = refl; became = stayed }

-- One cycle

module _ (c : Cycle) (r : Registers) (d : Descriptor) where
  purpose_made : (p : Purpose) (x y : Bool)
      → Made (is_acknowledge p && x || is_command p && y && write c && is_act_of 0x10 (command_of c.offset))
      (is_command p && y && write c && is_act_of 0x10 (command_of c.offset)
      || is_command p && y && write c && is_act_of 0x11 (command_of c.offset))
      c r (by_purpose p x y r d c)
  unfolding acknowledged quieted ignored plain commanded memory
  purpose_made purpose.Acknowledge true y = record { shown = refl; became = quiets refl }
  purpose_made purpose.Acknowledge false y = record { shown = refl; became = stayed }
  purpose_made purpose.Command x true = executed_made _ _ c r d (command_of c.offset) c.read (λ t. t) (λ z. z)
  purpose_made purpose.Command x false = record { shown = refl; became = stayed }
  purpose_made purpose.Memory x y = memory_made _ _ c r d (aborts r c) (way_of r.control.mr c) _
  purpose_made purpose.Other x y = record { shown = refl; became = stayed }

  decided_made : (two one reset : Bool)
      → Made
      (not two && not one
      && (reset || not reset && eqb c.status 4 && cpu c
      || not reset && eqb c.status 3 && (cpu c && c.select) && write c && eqb c.offset 0x10))
      (not two && not one
      && (reset || not reset && eqb c.status 3 && (cpu c && c.select) && write c && eqb c.offset 0x10
      || not reset && eqb c.status 3 && (cpu c && c.select) && write c && eqb c.offset 0x11))
      c r (decided_by two one reset r d c)
  unfolding refused plain reset_by restarted by_status
  decided_made true one reset = record { shown = refl; became = stayed }
  decided_made false true reset = record { shown = refl; became = stayed }
  decided_made false false true = record { shown = refl; became = restarts _ refl refl }
  decided_made false false false =
      rw (
        ← command_status c.status,
        ← acknowledge_status c.status,
        ← software_reset_code c.offset,
        ← clear_vtr_code c.offset,
      )
      (purpose_made (purpose_of c.status) (cpu c) (cpu c && c.select))

pub made : (u : Unit) (c : Cycle) → Made (takes_back u c) (wipes u c) c u.registers (decision u c)
unfolding decision decided
made u c = decided_made c u.registers _ (damaged u.registers) (out_of_range c) c.reset
