-- A board's latch has the low byte that the unit keeps, where clear VTR comes when the trap line is off.
-- Assumes nothing.
use mathlib.Core.Path.{◌≡◌, refl, sym, ◌∙◌, ap}
use mathlib.Core.Bool.{Bool, true, false, not, cond, ◌&&◌, ◌||◌, and-false, true≢false, false≢true}
use mathlib.Core.List.{List, [], ◌∷◌}
use Prim.Native.Nat.{ℕ, ◌-◌}
use lib.Dec.{eqb}
use borrow.Author.Tests.{not-true}
use Rattle.rules.specs.Bus.{write}
use Rattle.rules.specs.Codes.{command_of}
use Rattle.rules.specs.Commands.{restarted, acted, executed}
use Rattle.rules.specs.Flags.{lacks}
use Rattle.rules.specs.Masks.{PRIMARY}
use Rattle.rules.specs.Memory.{resumed, begun, noted}
use Rattle.rules.specs.PowerOn.{power_on}
use Rattle.rules.specs.Recording.{first_entry, added, raised}
use Rattle.rules.specs.Registers.{with_vtr}
use Rattle.rules.specs.Replies.{plain}
use Rattle.rules.specs.Runs.{final}
use Rattle.rules.specs.Seen.{cycle_with, acknowledge, command}
use Rattle.rules.specs.Status.{reset_by, quieted}
use Rattle.rules.specs.Step.{decided, decision, after, stepped}
use Rattle.rules.specs.declared.Cycle.{Cycle}
use Rattle.rules.specs.declared.Registers.{Registers}
use Rattle.rules.specs.declared.Unit.{Unit}
use Rattle.theorems_runs.specs.Cycles.{selected_command, software_reset}
use Rattle.theorems_runs.specs.FirstFault.{clear_vtr, wipes}
use Rattle.theorems_runs.specs.Latch.{Latch, latched_by, rises, latch_after, ClearsLate, LatchExact, ClearsLateNeeded, ShutNeeded}
use Rattle.theorems_runs.specs.Refusal.{admitted}
use Rattle.theorems_runs.specs.Sequences.{Along}
use Rattle.theorems_runs.proofs.Bits.{lacks_or, lacks_and, lacks_small}
use Rattle.theorems_runs.proofs.Computed.{computed}
use Rattle.theorems_runs.proofs.Effects.{decides, admitted_sound, admitted_inside, code_decided}
use Rattle.theorems_runs.proofs.Tests.{and_l, and_r}
use Rattle.theorems_runs.proofs.Trap.{trap_shows}
use Rattle.theorems_runs.proofs.Ways.{Became, stayed, controls, empties, clears, restarts, quiets, resumes, begins}
use Rattle.theorems_runs.proofs.Ways.{records, by_row, made}

-- The latch is shut exactly while a primary flag stands, and the trap line is on only then

record Fits (l : Latch) (r : Registers) : Type 0 where
  byte : l.byte ≡ r.low
  shut : l.shut ≡ not (lacks r.faults.vtr PRIMARY)
  line : lacks r.faults.vtr PRIMARY ≡ true → r.notes.request ≡ false

-- the latch after a cycle that does not empty the VTR, from the registers before it and after
abbrev next : Latch → Cycle → (r s : Registers) → Latch
next l c r s = latched_by (not r.notes.request && s.notes.request) false c.low l

module _ (l : Latch) (c : Cycle) (r : Registers) (f : Fits l r) where
  -- the line did not go on, and the low byte and the primary flags stayed
  quiet-fits : (s : Registers) → s.low ≡ r.low → lacks s.faults.vtr PRIMARY ≡ lacks r.faults.vtr PRIMARY
      → (s.notes.request ≡ true → r.notes.request ≡ true) → Fits (next l c r s) s
  quiet-fits s low flags down = go r.notes.request s.notes.request refl refl
    where
      fits : Fits l s
      fits =
          record {
            byte = f.byte ∙ sym low;
            shut = f.shut ∙ ap not (sym flags);
            line = λ e. off s.notes.request refl (f.line (sym flags ∙ e));
          }
        where
          off : (t : Bool) → s.notes.request ≡ t → r.notes.request ≡ false → t ≡ false
          off true e n = absurd (true≢false (sym (down e) ∙ n))
          off false e n = refl

      go : (x y : Bool) → r.notes.request ≡ x → s.notes.request ≡ y → Fits (latched_by (not x && y) false c.low l) s
      go true y p q = fits
      go false true p q = absurd (false≢true (sym p ∙ down q))
      go false false p q = fits

  -- a latch that is shut stays as it is
  shut_fits : (s : Registers) → lacks r.faults.vtr PRIMARY ≡ false → s.low ≡ r.low
      → lacks s.faults.vtr PRIMARY ≡ false → Fits (next l c r s) s
  shut_fits s stood low stands = go (not r.notes.request && s.notes.request)
    where
      closed : l.shut ≡ true
      closed = f.shut ∙ ap not stood

      go : (t : Bool) → Fits (latched_by t false c.low l) s
      go true =
          record {
            byte = ap (λ (b : Bool). cond b l.byte c.low) closed ∙ f.byte ∙ sym low;
            shut = sym (ap not stands);
            line = λ e. absurd (false≢true (sym stands ∙ e));
          }
      go false =
          record { byte = f.byte ∙ sym low; shut = closed ∙ sym (ap not stands); line = λ e. absurd (false≢true (sym stands ∙ e)) }

  -- the first entry: the line goes on, and the latch takes the low byte
  first_fits : (s : Registers) → lacks r.faults.vtr PRIMARY ≡ true → s.notes.request ≡ true → s.low ≡ c.low
      → lacks s.faults.vtr PRIMARY ≡ false → Fits (next l c r s) s
  first_fits s none on low stands =
      rw (f.line none, on)
      (record {
        byte = ap (λ (b : Bool). cond b l.byte c.low) (f.shut ∙ ap not none) ∙ sym low;
        shut = sym (ap not stands);
        line = λ e. absurd (false≢true (sym stands ∙ e));
      })

  became_fits : {back wiped : Bool} {s : Registers} → Became back wiped c r s → wiped ≡ false → Fits (next l c r s) s
  unfolding quieted resumed begun noted first_entry added raised
  became_fits stayed e = quiet-fits _ refl refl (λ z. z)
  became_fits (controls k h) e = quiet-fits _ refl refl (λ z. z)
  became_fits (empties w) e = absurd (true≢false (sym w ∙ e))
  became_fits (clears flag h) e = quiet-fits _ refl (lacks_and r.faults.vtr (255 - flag) h) (λ z. z)
  became_fits (restarts mr h w) e = absurd (true≢false (sym w ∙ e))
  became_fits (quiets h) e = quiet-fits _ refl refl (λ z. absurd (false≢true z))
  became_fits resumes e = quiet-fits _ refl refl (λ z. z)
  became_fits (begins starts) e = quiet-fits _ refl refl (λ z. z)
  became_fits (records starts event small stores holds w) e =
      let s : Registers → Registers = λ m. noted m stores holds c in
      by_row (λ m. Fits (next l c r (s m)) (s m)) (begun r starts) c event
      (quiet-fits (s (begun r starts)) refl refl (λ z. z))
      (λ n p.
      first_fits (s (first_entry (begun r starts) c event)) p refl refl
      (lacks_or r.faults.vtr event ∙ rw (p, lacks_small event small) n))
      (λ p. shut_fits (s (added (begun r starts) event)) p refl (lacks_or r.faults.vtr event ∙ rw p))
      (λ flag p. shut_fits (s (raised (begun r starts) flag)) p refl (lacks_or r.faults.vtr flag ∙ rw p))

-- What a cycle that empties the VTR leaves

data Wiped (c : Cycle) (r : Registers) : Registers → Type 0 where
  restarted_to : (mr : ℕ) → Wiped c r (restarted r mr)
  cleared : clear_vtr c ≡ true → Wiped c r (with_vtr r 0)

module _ (u : Unit) (c : Cycle) (a : admitted u c ≡ true) where
  -- a write of a command
  acts : (n : ℕ) → (selected_command c && write c && eqb c.offset n) ≡ true → decision u c ≡ decides (command_of n) false u c
  acts n e =
      let s : (selected_command c && write c) ≡ true = and_l (selected_command c && write c) _ e in
      code_decided u c a (and_l (selected_command c) _ s) n false (not-true _ (and_r (selected_command c) _ s)) (and_r (selected_command c && write c) _ e)

  starts_anew : c.reset ≡ true → Wiped c u.registers (decision u c).registers
  unfolding decision decided reset_by plain
  starts_anew e = rw (admitted_sound u c a, admitted_inside u c a, e) (restarted_to _)

  wiped : (c.reset || software_reset c || clear_vtr c) ≡ true → Wiped c u.registers (decision u c).registers
  unfolding command_of executed acted plain
  wiped e = go c.reset (software_reset c) (clear_vtr c) refl refl refl e
    where
      go : (x y z : Bool) → c.reset ≡ x → software_reset c ≡ y → clear_vtr c ≡ z → (x || y || z) ≡ true
          → Wiped c u.registers (decision u c).registers
      go true y z p q k e = starts_anew p
      go false true z p q k e = rw (acts 0x10 q) (restarted_to 0)
      go false false true p q k e = rw (acts 0x11 k) (cleared k)
      go false false false p q k e = absurd (false≢true e)

-- the latch is open again
wiped_fits : (l : Latch) (c : Cycle) (r s : Registers) → Fits l r → (clear_vtr c ≡ true → r.notes.request ≡ false) → Wiped c r s
    → Fits (latched_by (not r.notes.request && s.notes.request) true c.low l) s
unfolding restarted
wiped_fits l c r s f late (restarted_to mr) =
    rw (and-false (not r.notes.request)) (record { byte = f.byte; shut = refl; line = λ e. refl })
wiped_fits l c r s f late (cleared e) = rw (late e) (record { byte = f.byte; shut = refl; line = λ z. refl })

-- One cycle, and a run

step_fits : (l : Latch) (u : Unit) (c : Cycle) → Fits l u.registers → ClearsLate u c
    → Fits (latched_by (rises u c) (wipes u c) c.low l) (stepped u c).unit.registers
unfolding after
step_fits l u c f late =
    rw (trap_shows u c) (go (wipes u c) refl)
  where
    go : (t : Bool) → wipes u c ≡ t
        → Fits (latched_by (not u.registers.notes.request && (decision u c).registers.notes.request) t c.low l) (decision u c).registers
    go true e =
        let a : admitted u c ≡ true = and_l (admitted u c) _ e in
        let both : (clear_vtr c ≡ true → true ≡ (admitted u c && clear_vtr c)) = λ k. rw (a, k) in
        let off : (clear_vtr c ≡ true → u.registers.notes.request ≡ false) =
        λ k. ap (λ (t : Bool). t && u.registers.notes.request) (both k) ∙ late in
        wiped_fits l c u.registers (decision u c).registers f off
        (wiped u c a (and_r (admitted u c) _ e))
    go false e = became_fits l c u.registers f (made u c).became e

run_fits : (cs : List Cycle) (l : Latch) (u : Unit) → Fits l u.registers → Along ClearsLate u cs
    → Fits (latch_after latched_by l u cs) (final u cs).registers
unfolding latch_after final Along
run_fits [] l u f q = f
run_fits (c ∷ cs) l u f q = run_fits cs _ (stepped u c).unit (step_fits l u c f q.0) q.1

pub latch_exact : LatchExact
latch_exact cs q = (run_fits cs _ power_on (record { byte = refl; shut = refl; line = λ e. refl }) q).byte

-- MR %C0; reads past the limit of segment 0, which is one block
on : Cycle
on = command false 0x00 0xC0

past : (low : ℕ) → Cycle
past low = cycle_with 8 true false false false 0 0x01 low 0 false

-- VTR is cleared between the two, and the line stands: the second stores 2, and the latch has 1
pub clears_late_needed : ClearsLateNeeded
unfolding on past computed latch_after Along
clears_late_needed claim =
    false≢true
    (ap (λ (n : ℕ). eqb n 2) (claim (on ∷ past 1 ∷ command false 0x11 0 ∷ past 2 ∷ []) (refl, (refl, (refl, (refl, refl))))))

-- an acknowledge between them: the second is FATL, which turns the line on. The low byte stays 1, and such a latch has 2
pub shut_needed : ShutNeeded
unfolding on past computed latch_after Along
shut_needed claim =
    true≢false
    (ap (λ (n : ℕ). eqb n 2) (claim (on ∷ past 1 ∷ acknowledge ∷ past 2 ∷ []) (refl, (refl, (refl, (refl, refl))))))
