-- What a cycle leaves of the registers and of hold, the VTR left out: one walk over every decision.
-- Assumes nothing.
use mathlib.Core.Path.{◌≡◌, refl, sym, ◌∙◌, ap}
use mathlib.Core.Bool.{Bool, true, false, cond, not, ◌&&◌, ◌||◌, and_comm, or_comm, and-false, or-false}
use Prim.Native.Nat.{ℕ, ◌%◌}
use lib.Dec.{eqb, leb}
use lib.ListN.{get_or}
use borrow.Author.Tests.{eqb-true}
use Rattle.rules.proofs.Blind.{is_translated}
use Rattle.rules.specs.Bus.{cpu, write, fetch, seven_bits}
use Rattle.rules.specs.Checks.{found}
use Rattle.rules.specs.Flags.{has, lacks}
use Rattle.rules.specs.Masks.{SWW, PRIMARY}
use Rattle.rules.specs.PowerOn.{Stored, stored_of, blank}
use Rattle.rules.specs.Refusals.{damaged, out_of_range}
use Rattle.rules.specs.Replies.{plain, refused}
use Rattle.rules.specs.Status.{reset_by, quieted, acknowledged, ignored, purpose_of, by_purpose, by_status}
use Rattle.rules.specs.Recording.{bus_status, first_entry, added, raised, event_of, row_of, stack_warning, recorded}
use Rattle.rules.specs.Registers.{with_vtr}
use Rattle.rules.specs.Memory.{begun, noted, storing, checked, accessed, resumed, aborted, untranslated, memory_by, aborts, memory}
use Rattle.rules.specs.Translation.{way_of}
use Rattle.rules.specs.Codes.{command_of}
use Rattle.rules.specs.Entry.{moved}
use Rattle.rules.specs.Commands.{replied, restarted, programmed, entry, acted, executed, commanded}
use Rattle.rules.specs.Step.{decided_by, decided, place, decision}
use Rattle.rules.specs.declared.Action.{Action}
use Rattle.rules.specs.declared.Action.TheVariants.{SoftwareReset, ClearVtr, ClearSww, ClearFatl, SetCpui, SetDmai}
use Rattle.rules.specs.declared.Command.{Command}
use Rattle.rules.specs.declared.Command.TheVariants.{Mr, Sar, Dscr, Show, Entry, Act, Unlisted}
use Rattle.rules.specs.declared.Control.{Control}
use Rattle.rules.specs.declared.Cycle.{Cycle}
use Rattle.rules.specs.declared.Decision.{Decision}
use Rattle.rules.specs.declared.Descriptor.{Descriptor}
use Rattle.rules.specs.declared.Fetched.{Fetched}
use Rattle.rules.specs.declared.Address.{Address}
use Rattle.rules.specs.declared.Purpose.{Purpose}
use Rattle.rules.specs.declared.Registers.{Registers}
use Rattle.rules.specs.declared.Unit.{Unit}
use Rattle.rules.specs.declared.Way.{Way}
use Rattle.theorems_runs.proofs.Answers.{fails}
use Rattle.theorems_runs.proofs.Codes.{is_software_reset, software_reset_code}
use Rattle.theorems_runs.proofs.Purposes.{is_command, is_acknowledge, is_memory, command_status, acknowledge_status, memory_status}
use Rattle.theorems_runs.proofs.Tests.{and_l, and_r}
use Rattle.theorems_runs.proofs.Ways.{by_row}
use Rattle.rules.specs.declared.Purpose.TheVariants as purpose
use Rattle.rules.specs.declared.Way.TheVariants as way

-- MR, SAR and DSCR after a command, from those before it
abbrev act_control : Action → Control → Control
act_control SoftwareReset k = record { mr = 0; sar = k.sar; dscr = 0 }
act_control ClearVtr k = k
act_control ClearSww k = k
act_control ClearFatl k = k
act_control SetCpui k = k
act_control SetDmai k = k

abbrev pub command_control : Command → (read : Bool) → Cycle → Control → Control
command_control Mr read c k = cond c.read k (record { mr = c.byte; sar = k.sar; dscr = k.dscr })
command_control Sar read c k = cond c.read k (record { mr = k.mr; sar = c.byte % 64; dscr = k.dscr })
command_control Dscr read c k = cond c.read k (record { mr = k.mr; sar = k.sar; dscr = c.byte % 4 })
command_control (Show g) read c k = k
command_control (Entry p) read c k = moved k p c
command_control (Act a) true c k = k
command_control (Act a) false c k = act_control a k
command_control Unlisted read c k = k

-- and after a cycle
abbrev pub control_by : (two one reset command : Bool) → Cycle → Control → Control
control_by true one reset command c k = k
control_by false true reset command c k = k
control_by false false true command c k = record { mr = cond c.select 128 0; sar = k.sar; dscr = 0 }
control_by false false false true c k = command_control (command_of c.offset) c.read c k
control_by false false false false c k = k

-- what stands beside the VTR: the faults, with no VTR, and the low byte; after a cycle that stores it or not, from the registers before
abbrev beside_vtr : Registers → Stored
beside_vtr r = record { faults = (with_vtr r 0).faults; low = r.low }

abbrev pub companions : (stores : Bool) → Cycle → Registers → Stored
companions stores c r = cond stores (stored_of 0 (seven_bits c) c.offset (bus_status c) c.low) (beside_vtr r)

-- and ISN and IOFF
abbrev pub instruction : (stores : Bool) → Cycle → Registers → Fetched
instruction stores c r = cond stores (record { isn = seven_bits c; ioff = c.offset }) r.fetched

-- a decision from the registers r leaves MR, SAR and DSCR, hold, and stores beside the VTR or not (`first`), and an instruction or not (`start`)
pub record Leaves (r : Registers) (c : Cycle) (x : Decision) (k : Control) (h first start : Bool) : Type 0 where
  pub control : x.registers.control ≡ k
  pub hold : x.registers.notes.hold ≡ h
  pub faults : beside_vtr x.registers ≡ companions first c r
  pub fetched : x.registers.fetched ≡ instruction start c r

-- all but what a row records stays in it
record Beside (r s : Registers) : Type 0 where
  control : s.control ≡ r.control
  hold : s.notes.hold ≡ r.notes.hold
  fetched : s.fetched ≡ r.fetched

beside : {r s : Registers} → s.control ≡ r.control → s.notes.hold ≡ r.notes.hold → s.fetched ≡ r.fetched → Beside r s
beside k h f = record { control = k; hold = h; fetched = f }

recorded-beside : (r : Registers) (c : Cycle) (e : ℕ) → Beside r (recorded r c e)
unfolding first_entry added raised
recorded-beside r c e =
    by_row (Beside r) r c e (beside refl refl refl) (λ n p. beside refl refl refl) (λ p. beside refl refl refl) (λ flag p. beside refl refl refl)

-- "No primary flag in VTR": the first row alone stores
recorded_companions : (r : Registers) (c : Cycle) (e : ℕ)
    → beside_vtr (recorded r c e) ≡ companions (not (eqb e 0) && lacks r.faults.vtr PRIMARY) c r
unfolding recorded first_entry added raised
recorded_companions r c e =
    go (eqb e 0) (lacks r.faults.vtr PRIMARY) r.notes.own (stack_warning c e) (has r.faults.vtr SWW)
  where
    go : (n f o s t : Bool) → beside_vtr (row_of n f o s t r c e) ≡ companions (not n && f) c r
    go true f o s t = refl
    go false true o s t = refl
    go false false true s t = refl
    go false false false true true = refl
    go false false false true false = refl
    go false false false false t = refl

noted_instruction : (m : Registers) (stores holds : Bool) (c : Cycle) → (noted m stores holds c).fetched ≡ instruction stores c m
unfolding noted
noted_instruction m true holds c = refl
noted_instruction m false holds c = refl

-- a cycle that is checked has something to record
abbrev pub eventful : Descriptor → Cycle → Bool
eventful d c = not (eqb (event_of c.dma (found d c)) 0)

module _ (r : Registers) (d : Descriptor) (c : Cycle) where
  accessed-leaves : (s : Registers) (l : Address)
      → Leaves s c (accessed s d c l) s.control (fails d c && cpu c || s.notes.hold)
      (eventful d c && lacks s.faults.vtr PRIMARY) (storing s c (fails d c))
  unfolding accessed checked noted
  accessed-leaves s l =
      let e : ℕ = event_of c.dma (found d c) in
      let t : Bool = storing s c (fails d c) in
      let m : Beside s (recorded s c e) = recorded-beside s c e in
      record {
        control = m.control;
        hold = ap (λ (h : Bool). h || (fails d c && cpu c)) m.hold ∙ or_comm s.notes.hold (fails d c && cpu c);
        faults = recorded_companions s c e;
        fetched =
            noted_instruction (recorded s c e) t (fails d c && cpu c) c
            ∙ ap (λ (f : Fetched). cond t (record { isn = seven_bits c; ioff = c.offset }) f) m.fetched;
      }

  memory-leaves : (b : Bool) (w : Way) (l : Address) → (b ≡ true → fetch c ≡ true)
      → Leaves r c (memory_by b w r d c l) r.control (not b && is_translated w && fails d c && cpu c || not (fetch c) && r.notes.hold)
      (not b && is_translated w && (eventful d c && lacks r.faults.vtr PRIMARY)) (not b && is_translated w && storing r c (fails d c))
  unfolding aborted resumed untranslated begun
  memory-leaves true w l f =
      record { control = refl; hold = sym (ap (λ (t : Bool). not t && r.notes.hold) (f refl)); faults = refl; fetched = refl }
  memory-leaves false way.Translated l f =
      let x : _ = accessed-leaves (begun r (fetch c)) l in
      record {
        control = x.control;
        hold = x.hold ∙ ap (λ (h : Bool). fails d c && cpu c || h) (and_comm r.notes.hold (not (fetch c)));
        faults = x.faults;
        fetched = x.fetched;
      }
  memory-leaves false way.Passed l f = record { control = refl; hold = and_comm r.notes.hold (not (fetch c)); faults = refl; fetched = refl }
  memory-leaves false way.Silent l f = record { control = refl; hold = and_comm r.notes.hold (not (fetch c)); faults = refl; fetched = refl }

  acted-leaves : (a : Action) → Leaves r c (acted r a) (act_control a r.control) (not (is_software_reset (Act a)) && r.notes.hold) false false
  unfolding acted plain restarted
  acted-leaves SoftwareReset = record { control = refl; hold = refl; faults = refl; fetched = refl }
  acted-leaves ClearVtr = record { control = refl; hold = refl; faults = refl; fetched = refl }
  acted-leaves ClearSww = record { control = refl; hold = refl; faults = refl; fetched = refl }
  acted-leaves ClearFatl = record { control = refl; hold = refl; faults = refl; fetched = refl }
  acted-leaves SetCpui = record { control = refl; hold = refl; faults = refl; fetched = refl }
  acted-leaves SetDmai = record { control = refl; hold = refl; faults = refl; fetched = refl }

  keeps_hold : (t : Bool) → r.notes.hold ≡ (not (t && false) && r.notes.hold)
  keeps_hold t = rw (and-false t)

  executed-leaves : (m : Command) (read : Bool)
      → Leaves r c (executed m read r d c) (command_control m read c r.control) (not (not read && is_software_reset m) && r.notes.hold) false false
  unfolding executed programmed replied entry refused plain
  executed-leaves Mr read = record { control = refl; hold = keeps_hold (not read); faults = refl; fetched = refl }
  executed-leaves Sar read = record { control = refl; hold = keeps_hold (not read); faults = refl; fetched = refl }
  executed-leaves Dscr read = record { control = refl; hold = keeps_hold (not read); faults = refl; fetched = refl }
  executed-leaves (Show g) true = record { control = refl; hold = refl; faults = refl; fetched = refl }
  executed-leaves (Show g) false = record { control = refl; hold = refl; faults = refl; fetched = refl }
  executed-leaves (Entry p) read = record { control = refl; hold = keeps_hold (not read); faults = refl; fetched = refl }
  executed-leaves (Act a) true = record { control = refl; hold = refl; faults = refl; fetched = refl }
  executed-leaves (Act a) false = acted-leaves a
  executed-leaves Unlisted read = record { control = refl; hold = keeps_hold (not read); faults = refl; fetched = refl }

  -- a CPU violation of a memory cycle
  unfoldable pub violated : Bool
  violated = not (aborts r c) && is_translated (way_of r.control.mr c) && fails d c && cpu c

  -- and a memory cycle that stores VSN, VOFF, BCSR and the low byte, or ISN and IOFF
  unfoldable pub faultStored : Bool
  faultStored = not (aborts r c) && is_translated (way_of r.control.mr c) && (eventful d c && lacks r.faults.vtr PRIMARY)

  unfoldable pub fetchStored : Bool
  fetchStored = not (aborts r c) && is_translated (way_of r.control.mr c) && storing r c (fails d c)

  purpose_leaves : (p : Purpose) (x y : Bool)
      → Leaves r c (by_purpose p x y r d c) (control_by false false false (is_command p && y) c r.control)
      (is_memory p && violated
      || not (is_acknowledge p && x || is_memory p && fetch c || is_command p && y && write c && is_software_reset (command_of c.offset))
      && r.notes.hold)
      (is_memory p && faultStored) (is_memory p && fetchStored)
  unfolding violated faultStored fetchStored acknowledged quieted ignored plain commanded memory
  purpose_leaves purpose.Acknowledge true y = record { control = refl; hold = refl; faults = refl; fetched = refl }
  purpose_leaves purpose.Acknowledge false y = record { control = refl; hold = refl; faults = refl; fetched = refl }
  purpose_leaves purpose.Command x true = executed-leaves (command_of c.offset) c.read
  purpose_leaves purpose.Command x false = record { control = refl; hold = refl; faults = refl; fetched = refl }
  purpose_leaves purpose.Memory x y =
      let m : _ = memory-leaves (aborts r c) (way_of r.control.mr c) _ (λ e. and_l (fetch c) _ e) in
      record {
        control = m.control;
        hold = m.hold ∙ ap (λ (t : Bool). violated || not t && r.notes.hold) (sym (or-false (fetch c)));
        faults = m.faults;
        fetched = m.fetched;
      }
  purpose_leaves purpose.Other x y = record { control = refl; hold = refl; faults = refl; fetched = refl }

  -- a fetch is a memory cycle
  fetch-memory : (is_memory (purpose_of c.status) && fetch c) ≡ fetch c
  fetch-memory = go (fetch c) refl
    where
      go : (t : Bool) → fetch c ≡ t → (is_memory (purpose_of c.status) && t) ≡ t
      go true e =
          ap (λ (m : Bool). m && true)
          (memory_status c.status ∙ ap (λ (s : ℕ). leb 8 s && leb s 13) (eqb-true c.status 13 (and_r (cpu c && c.read) _ e)))
      go false e = and-false (is_memory (purpose_of c.status))

  decided-leaves : (two one reset : Bool)
      → Leaves r c (decided_by two one reset r d c) (control_by two one reset (eqb c.status 3 && (cpu c && c.select)) c r.control)
      (not two && not one && (not reset && (leb 8 c.status && leb c.status 13)) && violated
      || not
      (not two && not one
      && (reset || not reset && eqb c.status 4 && cpu c || not reset && fetch c
      || not reset && eqb c.status 3 && (cpu c && c.select) && write c && eqb c.offset 0x10))
      && r.notes.hold)
      (not two && not one && (not reset && (leb 8 c.status && leb c.status 13)) && faultStored)
      (not two && not one && (not reset && (leb 8 c.status && leb c.status 13)) && fetchStored)
  unfolding refused plain reset_by restarted by_status
  decided-leaves true one reset = record { control = refl; hold = refl; faults = refl; fetched = refl }
  decided-leaves false true reset = record { control = refl; hold = refl; faults = refl; fetched = refl }
  decided-leaves false false true = record { control = refl; hold = refl; faults = refl; fetched = refl }
  decided-leaves false false false =
      let x : _ = purpose_leaves (purpose_of c.status) (cpu c) (cpu c && c.select) in
      rw (← command_status c.status, ← acknowledge_status c.status, ← memory_status c.status, ← software_reset_code c.offset)
      (record {
        control = x.control;
        hold =
            x.hold
            ∙ ap (λ (f : Bool).
            is_memory (purpose_of c.status) && violated
            || not
            (is_acknowledge (purpose_of c.status) && cpu c || f
            || is_command (purpose_of c.status) && (cpu c && c.select) && write c && is_software_reset (command_of c.offset))
            && r.notes.hold) fetch-memory;
        faults = x.faults;
        fetched = x.fetched;
      })

pub leaves : (u : Unit) (c : Cycle)
    → Leaves u.registers c (decision u c)
    (control_by (damaged u.registers) (out_of_range c) c.reset (eqb c.status 3 && (cpu c && c.select)) c u.registers.control)
    (not (damaged u.registers) && not (out_of_range c) && (not c.reset && (leb 8 c.status && leb c.status 13))
    && violated u.registers (get_or u.table (place u c) blank) c
    || not
    (not (damaged u.registers) && not (out_of_range c)
    && (c.reset || not c.reset && eqb c.status 4 && cpu c || not c.reset && fetch c
    || not c.reset && eqb c.status 3 && (cpu c && c.select) && write c && eqb c.offset 0x10))
    && u.registers.notes.hold)
    (not (damaged u.registers) && not (out_of_range c) && (not c.reset && (leb 8 c.status && leb c.status 13))
    && faultStored u.registers (get_or u.table (place u c) blank) c)
    (not (damaged u.registers) && not (out_of_range c) && (not c.reset && (leb 8 c.status && leb c.status 13))
    && fetchStored u.registers (get_or u.table (place u c) blank) c)
unfolding decision decided
leaves u c = decided-leaves u.registers (get_or u.table (place u c) blank) c (damaged u.registers) (out_of_range c) c.reset
