-- Nothing reads the low byte, and it is kept with VOFF.
-- Assumes nothing.
use mathlib.Core.Path.{◌≡◌, refl, sym, ◌∙◌, ap}
use mathlib.Core.Bool.{Bool, true, false, cond, ◌&&◌, false≢true}
use mathlib.Core.List.{List, [], ◌∷◌}
use Prim.Native.Nat.{ℕ}
use lib.Dec.{eqb}
use lib.ListN.{get_or}
use Rattle.rules.specs.Bus.{cpu, fetch}
use Rattle.rules.specs.Checks.{rights_of, out_of_length, distance_of, warns, found}
use Rattle.rules.specs.Codes.{command_of}
use Rattle.rules.specs.Commands.{replied, programmed, entry, restarted, acted, executed, commanded}
use Rattle.rules.specs.Entry.{moved}
use Rattle.rules.specs.Flags.{has, lacks}
use Rattle.rules.specs.Masks.{SYS, PRIMARY, SWW}
use Rattle.rules.specs.Memory.{aborts, resumed, aborted, begun, suppressed, untranslated, touched, touched_by, storing, noted, checked, accessed, memory_by, memory}
use Rattle.rules.specs.PowerOn.{blank}
use Rattle.rules.specs.Recording.{event_of, bus_status, first_entry, added, raised, stack_warning, row_of, recorded}
use Rattle.rules.specs.Refusals.{damaged, out_of_range}
use Rattle.rules.specs.Replies.{seen, plain, refused}
use Rattle.rules.specs.Runs.{answers, final, units}
use Rattle.rules.specs.Seen.{segment, cycle}
use Rattle.rules.specs.Status.{reset_by, acknowledge_byte, quieted, acknowledged, ignored, purpose_of, by_purpose, by_status}
use Rattle.rules.specs.Step.{decided_by, decided, place_of, place, changed, decision, after, stepped}
use Rattle.rules.specs.Translation.{way_of, address_of}
use Rattle.rules.specs.declared.Action.TheVariants.{SoftwareReset, ClearVtr, ClearSww, ClearFatl, SetCpui, SetDmai}
use Rattle.rules.specs.declared.Address.{Address}
use Rattle.rules.specs.declared.Command.{Command}
use Rattle.rules.specs.declared.Command.TheVariants.{Mr, Sar, Dscr, Show, Entry, Act, Unlisted}
use Rattle.rules.specs.declared.Register.TheVariants.{Vtr, Vsn, Voff, Bcsr, Isn, Ioff}
use Rattle.rules.specs.declared.Cycle.{Cycle}
use Rattle.rules.specs.declared.Decision.{Decision}
use Rattle.rules.specs.declared.Descriptor.{Descriptor}
use Rattle.rules.specs.declared.Purpose.{Purpose}
use Rattle.rules.specs.declared.Registers.{Registers}
use Rattle.rules.specs.declared.Unit.{Unit}
use Rattle.rules.specs.declared.Way.{Way}
use Rattle.theorems_runs.specs.LowByte.{bare_registers, bare_unit, bare_cycle, AlikeUnits, LowUnread, LowKept}
use Rattle.theorems_runs.specs.LowByte.{WholeAddress, kept_address, address_in, last_stored, AddressKept, AddressLasts}
use Rattle.theorems_runs.specs.SegmentNumbers.{stores_fault}
use Rattle.theorems_runs.specs.Sequences.{Along}
use Rattle.theorems_runs.proofs.Computed.{computed}
use Rattle.theorems_runs.proofs.Examples.{unit}
use Rattle.theorems_runs.proofs.SegmentNumbers.{stored_exactly}
use Rattle.rules.specs.declared.Kind.TheVariants as kind
use Rattle.rules.specs.declared.Purpose.TheVariants as purpose
use Rattle.rules.specs.declared.Way.TheVariants as way

-- two decisions differ in the low byte at most
record Bare (x y : Decision) : Type 0 where
  answer : x.answer ≡ y.answer
  registers : bare_registers x.registers ≡ bare_registers y.registers
  change : x.change ≡ y.change

same : {x y : Decision} → x.answer ≡ y.answer → bare_registers x.registers ≡ bare_registers y.registers → x.change ≡ y.change → Bare x y
same a r h = record { answer = a; registers = r; change = h }

-- each part of a cycle, with the low bytes and without them
module _ (r : Registers) (d : Descriptor) (c : Cycle) where
  recorded_bare : (s : Registers) (e : ℕ)
      → bare_registers (recorded s c e) ≡ bare_registers (recorded (bare_registers s) (bare_cycle c) e)
  unfolding recorded first_entry added raised bus_status
  recorded_bare s e =
      go (eqb e 0) (lacks s.faults.vtr PRIMARY) s.notes.own (stack_warning c e) (has s.faults.vtr SWW)
    where
      go : (n f o w t : Bool)
          → bare_registers (row_of n f o w t s c e) ≡ bare_registers (row_of n f o w t (bare_registers s) (bare_cycle c) e)
      go true f o w t = refl
      go false true o w t = refl
      go false false true w t = refl
      go false false false true true = refl
      go false false false true false = refl
      go false false false false t = refl

  touched_bare : (sup : Bool) → touched_by sup d c ≡ touched_by sup d (bare_cycle c)
  unfolding touched_by touched
  touched_bare true = refl
  touched_bare false = refl

  accessed_bare : (s : Registers) (l : Address) → Bare (accessed s d c l) (accessed (bare_registers s) d (bare_cycle c) l)
  unfolding accessed checked rights_of out_of_length distance_of warns noted
  accessed_bare s l =
      let e : ℕ = event_of c.dma (found d c) in
      let v : Bool = (found d c).violation in
      record {
        answer = ap (λ (m : Registers). seen kind.Translated l (suppressed v s c) m.notes.request (distance_of d c)) (recorded_bare s e);
        registers = ap (λ (m : Registers). noted m (storing s c v) (v && cpu c) c) (recorded_bare s e);
        change = touched_bare (suppressed v s c);
      }

  memory_bare : (t : Bool) (w : Way)
      → Bare (memory_by t w r d c (address_of w d.base c))
      (memory_by t w (bare_registers r) d (bare_cycle c) (address_of w d.base (bare_cycle c)))
  unfolding address_of aborted resumed untranslated begun
  memory_bare true way.Translated = same refl refl refl
  memory_bare true way.Passed = same refl refl refl
  memory_bare true way.Silent = same refl refl refl
  memory_bare false way.Translated = accessed_bare (begun r (fetch c)) (address_of way.Translated d.base c)
  memory_bare false way.Passed = same refl refl refl
  memory_bare false way.Silent = same refl refl refl

  -- no command shows it
  executed_bare : (m : Command) (read : Bool) → Bare (executed m read r d c) (executed m read (bare_registers r) d (bare_cycle c))
  unfolding executed programmed replied entry moved acted restarted plain refused
  executed_bare Mr read = same refl refl refl
  executed_bare Sar read = same refl refl refl
  executed_bare Dscr read = same refl refl refl
  executed_bare (Show Vtr) true = same refl refl refl
  executed_bare (Show Vsn) true = same refl refl refl
  executed_bare (Show Voff) true = same refl refl refl
  executed_bare (Show Bcsr) true = same refl refl refl
  executed_bare (Show Isn) true = same refl refl refl
  executed_bare (Show Ioff) true = same refl refl refl
  executed_bare (Show g) false = same refl refl refl
  executed_bare (Entry p) read = same refl refl refl
  executed_bare (Act a) true = same refl refl refl
  executed_bare (Act SoftwareReset) false = same refl refl refl
  executed_bare (Act ClearVtr) false = same refl refl refl
  executed_bare (Act ClearSww) false = same refl refl refl
  executed_bare (Act ClearFatl) false = same refl refl refl
  executed_bare (Act SetCpui) false = same refl refl refl
  executed_bare (Act SetDmai) false = same refl refl refl
  executed_bare Unlisted read = same refl refl refl

  purpose_bare : (p : Purpose) (x y : Bool) → Bare (by_purpose p x y r d c) (by_purpose p x y (bare_registers r) d (bare_cycle c))
  unfolding acknowledged acknowledge_byte quieted ignored plain commanded memory way_of
  purpose_bare purpose.Acknowledge true y = same refl refl refl
  purpose_bare purpose.Acknowledge false y = same refl refl refl
  purpose_bare purpose.Command x true = executed_bare (command_of c.offset) c.read
  purpose_bare purpose.Command x false = same refl refl refl
  purpose_bare purpose.Memory x y = memory_bare (aborts r c) (way_of r.control.mr c)
  purpose_bare purpose.Other x y = same refl refl refl

  decided_bare : (broken outside reset : Bool)
      → Bare (decided_by broken outside reset r d c) (decided_by broken outside reset (bare_registers r) d (bare_cycle c))
  unfolding refused plain reset_by restarted by_status
  decided_bare true outside reset = same refl refl refl
  decided_bare false true reset = same refl refl refl
  decided_bare false false true = same refl refl refl
  decided_bare false false false = purpose_bare (purpose_of c.status) (cpu c) (cpu c && c.select)

-- one cycle
module _ (u : Unit) (c : Cycle) where
  decision_bare : Bare (decision u c) (decision (bare_unit u) (bare_cycle c))
  unfolding decision decided place_of damaged out_of_range
  decision_bare = decided_bare u.registers (get_or u.table (place u c) blank) c (damaged u.registers) (out_of_range c) c.reset

  stepped_bare : bare_unit (stepped u c).unit ≡ bare_unit (stepped (bare_unit u) (bare_cycle c)).unit
  unfolding after place_of
  stepped_bare =
      λ i. record { table = changed (decision_bare.change i) (place u c) u.table; registers = decision_bare.registers i }

pub low_unread : LowUnread
unfolding answers units
low_unread u v [] [] p q = (refl, refl)
low_unread u v [] (d ∷ ds) p q = absurd q
low_unread u v (c ∷ cs) [] p q = absurd q
low_unread u v (c ∷ cs) (d ∷ ds) p q =
    let answer : (stepped u c).answer ≡ (stepped v d).answer =
    (decision_bare u c).answer ∙ (λ i. (stepped (p i) (q.0 i)).answer) ∙ sym (decision_bare v d).answer in
    let unit : AlikeUnits (stepped u c).unit (stepped v d).unit =
    stepped_bare u c ∙ (λ i. bare_unit (stepped (p i) (q.0 i)).unit) ∙ sym (stepped_bare v d) in
    let rest = low_unread (stepped u c).unit (stepped v d).unit cs ds unit q.1 in
    (λ i. answer i ∷ rest.0 i, (unit, rest.1))

-- a normal write at segment 1, which is open to system mode alone, by two low bytes
pub low-kept : LowKept
unfolding computed
low-kept claim =
    let c : Cycle = cycle false false true 8 1 0 in
    false≢true
    (ap (λ (us : List Unit). eqb (head us).registers.low 0)
    (claim start (c ∷ []) (bare_cycle c ∷ []) (refl, refl)))
  where
    start : Unit
    start = unit blank (segment 0 0xFF SYS) blank

    head : List Unit → Unit
    head [] = start
    head (u ∷ us) = u

-- the three are stored together
stored_address : (u : Unit) (c : Cycle) → kept_address (stepped u c).unit ≡ cond (stores_fault u c) (address_in c) (kept_address u)
stored_address u c = whole (stores_fault u c) (stored_exactly u c).vsn (stored_exactly u c).voff (stored_exactly u c).low
  where
    whole : (t : Bool) {s o l : ℕ} → s ≡ cond t c.segment u.registers.faults.vsn
        → o ≡ cond t c.offset u.registers.faults.voff → l ≡ cond t c.low u.registers.low
        → record { segment = s; offset = o; low = l } ≡ cond t (address_in c) (kept_address u)
    whole true s o l = λ i. record { segment = s i; offset = o i; low = l i }
    whole false s o l = λ i. record { segment = s i; offset = o i; low = l i }

pub address_kept : AddressKept
unfolding final last_stored
address_kept u [] = refl
address_kept u (c ∷ cs) =
    address_kept (stepped u c).unit cs
    ∙ ap (λ (a : WholeAddress). last_stored a (stepped u c).unit cs) (stored_address u c)

pub address_lasts : AddressLasts
unfolding last_stored Along
address_lasts u c cs e q =
    address_kept (stepped u c).unit cs ∙ still cs (stepped u c).unit (kept_address (stepped u c).unit) q
    ∙ stored_address u c ∙ ap (λ (t : Bool). cond t (address_in c) (kept_address u)) e
  where
    still : (cs : List Cycle) (v : Unit) (a : WholeAddress) → Along (λ v d. stores_fault v d ≡ false) v cs → last_stored a v cs ≡ a
    still [] v a q = refl
    still (d ∷ cs) v a q =
        ap (λ (t : Bool). last_stored (cond t (address_in d) a) (stepped v d).unit cs) q.0 ∙ still cs (stepped v d).unit a q.1
