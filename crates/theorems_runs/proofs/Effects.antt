-- What a selected command does to a unit: one that shows or writes a register, and a set or clear command, whatever its data byte, with how
-- that goes together with what other commands do.
-- Assumes nothing.
use mathlib.Core.Path.{◌≡◌, refl, sym, ◌∙◌, ap}
use mathlib.Core.Bool.{Bool, true, false, not, ◌&&◌, true≢false, false≢true}
use mathlib.Core.List.{map}
use Prim.Native.Nat.{ℕ, ◌-◌, ◌%◌}
use native.Mathlib.Omega.{arith}
use lib.Bits.{bit_and, and_zero_r}
use lib.Dec.{eqb}
use lib.ListN.{length, get_or}
use borrow.Author.Tests.{eqb-true, not-true}
use Rattle.rules.specs.Bus.{cpu}
use Rattle.rules.specs.Codes.{command_of}
use Rattle.rules.specs.Flags.{without}
use Rattle.rules.specs.Masks.{CPUI, DMAI, SWW, FATL}
use Rattle.rules.specs.PowerOn.{blank}
use Rattle.rules.specs.Refusals.{damaged, out_of_range}
use Rattle.rules.specs.Replies.{spoken, plain, refused}
use Rattle.rules.specs.Computed.{moving}
use Rattle.rules.specs.Entry.{replaced}
use Rattle.rules.specs.Commands.{replied, programmed, entry, restarted, acted, executed, commanded}
use Rattle.rules.specs.Registers.{with_vtr}
use Rattle.rules.specs.Status.{purpose_of, by_status}
use Rattle.rules.specs.Step.{with_flags, place_of, place, changed, decided, decision}
use Rattle.rules.specs.declared.Action.{Action}
use Rattle.rules.specs.declared.Action.TheVariants.{SoftwareReset, ClearVtr, ClearSww, ClearFatl, SetCpui, SetDmai}
use Rattle.rules.specs.declared.Answer.{Answer}
use Rattle.rules.specs.declared.Command.{Command}
use Rattle.rules.specs.declared.Command.TheVariants.{Mr, Sar, Dscr, Show, Entry, Act, Unlisted}
use Rattle.rules.specs.declared.Cycle.{Cycle}
use Rattle.rules.specs.declared.Decision.{Decision}
use Rattle.rules.specs.declared.Descriptor.{Descriptor}
use Rattle.rules.specs.declared.Part.TheVariants.{Base, Limit, Attributes, Whole}
use Rattle.rules.specs.declared.Stepped.{Stepped}
use Rattle.rules.specs.declared.Unit.{Unit}
use Rattle.theorems_runs.specs.Cycles.{selected_command}
use Rattle.theorems_runs.specs.Refusal.{admitted}
use Rattle.theorems_runs.proofs.Bits.{with_twice, with-either, without-part, without-either}
use Rattle.theorems_runs.proofs.Tables.{at_map, map-set, map-map}
use Rattle.theorems_runs.proofs.Tests.{and_l, and_r}
use Rattle.rules.specs.declared.Kind.TheVariants as kind

-- what is decided in a command
abbrev pub decides : Command → (read : Bool) → Unit → Cycle → Decision
decides m read u c = executed m read u.registers (get_or u.table (u.registers.control.sar % 64) blank) c

-- and what one that writes does
abbrev pub done : Command → Unit → Cycle → Stepped
done m u c = record {
  unit = record {
    table = changed (decides m false u c).change (u.registers.control.sar % 64) u.table;
    registers = (decides m false u c).registers;
  };
  answer = (decides m false u c).answer;
}

-- what is refused neither by 2 nor by 1
pub admitted_sound : (u : Unit) (c : Cycle) → admitted u c ≡ true → damaged u.registers ≡ false
admitted_sound u c a = not-true _ (and_l (not (damaged u.registers)) _ a)

pub admitted_inside : (u : Unit) (c : Cycle) → admitted u c ≡ true → out_of_range c ≡ false
admitted_inside u c a = not-true _ (and_r (not (damaged u.registers)) _ a)

-- a selected command that is refused neither by 2 nor by 1 works at SAR, and decides what its code stands for
module _ (u : Unit) (c : Cycle) (a : admitted u c ≡ true) (s : selected_command c ≡ true) where
  pub command-place : place u c ≡ u.registers.control.sar % 64
  unfolding place_of
  command-place = rw (and_r (not c.reset) _ (and_l (not c.reset && eqb c.status 3) _ s))

  pub command-decided : decision u c ≡ decides (command_of c.offset) c.read u c
  unfolding decision decided by_status purpose_of commanded
  command-decided =
      let r : (not c.reset && eqb c.status 3) ≡ true = and_l (not c.reset && eqb c.status 3) _ s in
      let running : c.reset ≡ false = not-true _ (and_l (not c.reset) _ r) in
      let command : c.status ≡ 3 = eqb-true _ _ (and_r (not c.reset) _ r) in
      let selected : (cpu c && c.select) ≡ true = and_r (not c.reset && eqb c.status 3) _ s in
      rw (command-place, admitted_sound u c a, admitted_inside u c a, running, command, selected)

  -- the same of a code, read or written
  pub code_decided : (n : ℕ) (read : Bool) → c.read ≡ read → eqb c.offset n ≡ true → decision u c ≡ decides (command_of n) read u c
  code_decided n read way code =
      command-decided ∙ ap (λ (k : ℕ). decides (command_of k) c.read u c) (eqb-true _ _ code)
      ∙ ap (λ (t : Bool). decides (command_of n) t u c) way

abbrev pub left : Stepped → Unit
left s = s.unit

-- What a set or clear command does to a unit

pub data Effect : Type 0 where
  -- clears flags of VTR
  clears : (flags : ℕ) → Effect
  -- sets a flag in all descriptors
  raises : (flag : ℕ) → Effect
  resets : Effect

abbrev pub effect : Action → Effect
effect SoftwareReset = resets
effect ClearVtr = clears 255
effect ClearSww = clears SWW
effect ClearFatl = clears FATL
effect SetCpui = raises CPUI
effect SetDmai = raises DMAI

unfoldable pub does : Effect → Unit → Unit
does (clears m) u = record { table = u.table; registers = with_vtr u.registers (without u.registers.faults.vtr m) }
does (raises m) u = record { table = map (with_flags m) u.table; registers = u.registers }
does resets u = record { table = u.table; registers = restarted u.registers 0 }

-- what it answers: nothing is driven, and the trap line is as the request stands after it
abbrev pub said : (request : Bool) → Answer
said request = spoken kind.Command request false 0

abbrev pub request : Unit → Bool
request u = u.registers.notes.request

abbrev pub acted_on : Effect → Unit → Stepped
acted_on e u = record { unit = does e u; answer = said (request (does e u)) }

pub act_done : (a : Action) (u : Unit) (c : Cycle) → done (Act a) u c ≡ acted_on (effect a) u
unfolding does executed acted plain restarted changed
act_done SoftwareReset u c = refl
act_done ClearVtr u c = rw (and_zero_r u.registers.faults.vtr)
act_done ClearSww u c = refl
act_done ClearFatl u c = refl
act_done SetCpui u c = refl
act_done SetDmai u c = refl

-- any two of them, in either order
pub either : (e f : Effect) (u : Unit) → does f (does e u) ≡ does e (does f u)
unfolding does restarted
either (clears m) (clears n) u = rw (without-either u.registers.faults.vtr m n)
either (clears m) (raises n) u = refl
either (clears m) resets u = refl
either (raises m) (clears n) u = refl
either (raises m) (raises n) u =
    let both : Descriptor → Descriptor = λ d. with_flags m (with_flags n d) in
    rw (
      map-map (with_flags m) (with_flags n) both (λ d. rw (with-either d.attributes m n)) u.table,
      map-map (with_flags n) (with_flags m) both (λ d. refl) u.table,
    )
either (raises m) resets u = refl
either resets (clears n) u = refl
either resets (raises n) u = refl
either resets resets u = refl

-- the first does nothing after the second
abbrev pub within : Effect → Effect → Bool
within (clears n) (clears m) = eqb (bit_and (255 - m) (255 - n)) (255 - m)
within (clears n) (raises m) = false
within (clears n) resets = true
within (raises n) (clears m) = false
within (raises n) (raises m) = eqb n m
within (raises n) resets = false
within resets (clears m) = false
within resets (raises m) = false
within resets resets = true

pub idle : (e f : Effect) (u : Unit) → within f e ≡ true → does f (does e u) ≡ does e u
unfolding does restarted
idle (clears m) (clears n) u t = rw (without-part u.registers.faults.vtr m n (eqb-true _ _ t))
idle (clears m) (raises n) u t = absurd (false≢true t)
idle (clears m) resets u t = absurd (false≢true t)
idle (raises m) (clears n) u t = absurd (false≢true t)
idle (raises m) (raises n) u t =
    rw (eqb-true n m t, map-map (with_flags m) (with_flags m) (with_flags m) (λ d. rw (with_twice d.attributes m)) u.table)
idle (raises m) resets u t = absurd (false≢true t)
idle resets (clears n) u t = refl
idle resets (raises n) u t = absurd (false≢true t)
idle resets resets u t = refl

-- A set or clear command and another command

-- the other command writes what the effect clears or sets, or goes by it
abbrev pub clash : Effect → Command → Bool
clash (clears m) k = false
clash (raises m) (Entry Base) = true
clash (raises m) (Entry Limit) = false
clash (raises m) (Entry Attributes) = true
clash (raises m) (Entry Whole) = true
clash (raises m) Mr = false
clash (raises m) Sar = false
clash (raises m) Dscr = false
clash (raises m) (Show g) = false
clash (raises m) (Act a) = false
clash (raises m) Unlisted = false
clash resets (Entry Base) = true
clash resets (Entry Limit) = false
clash resets (Entry Attributes) = false
clash resets (Entry Whole) = true
clash resets Mr = true
clash resets Sar = false
clash resets Dscr = true
clash resets (Show g) = false
clash resets (Act a) = false
clash resets Unlisted = false

pub no_clash : (e : Effect) (a : Action) → clash e (Act a) ≡ false
no_clash (clears m) a = refl
no_clash (raises m) a = refl
no_clash resets a = refl

pub passes : (e : Effect) (k : Command) (u : Unit) (c : Cycle) → length u.table ≡ 64 → c.read ≡ false → clash e k ≡ false
    → (done k (does e u) c).unit ≡ does e (done k u c).unit
unfolding does executed programmed replied entry restarted refused plain changed moving
passes e (Act a) u c h w t =
    ap left (act_done a (does e u) c) ∙ either e (effect a) u ∙ sym (ap (λ (s : Stepped). does e (left s)) (act_done a u c))
passes (clears m) Mr u c h w t = refl
passes (clears m) Sar u c h w t = refl
passes (clears m) Dscr u c h w t = refl
passes (clears m) (Show g) u c h w t = refl
passes (clears m) (Entry p) u c h w t = refl
passes (clears m) Unlisted u c h w t = refl
passes (raises m) Mr u c h w t = refl
passes (raises m) Sar u c h w t = refl
passes (raises m) Dscr u c h w t = refl
passes (raises m) (Show g) u c h w t = refl
passes (raises m) (Entry Limit) u c h w t =
    let i : ℕ = u.registers.control.sar % 64 in
    rw (
      w,
      at_map (with_flags m) u.table i blank (omega (arith, h)),
      map-set (with_flags m) u.table i (replaced (get_or u.table i blank) 2 c.byte),
    )
passes (raises m) (Entry Base) u c h w t = absurd (true≢false t)
passes (raises m) (Entry Attributes) u c h w t = absurd (true≢false t)
passes (raises m) (Entry Whole) u c h w t = absurd (true≢false t)
passes (raises m) Unlisted u c h w t = refl
passes resets Mr u c h w t = absurd (true≢false t)
passes resets Sar u c h w t = rw w
passes resets Dscr u c h w t = absurd (true≢false t)
passes resets (Show g) u c h w t = refl
passes resets (Entry Limit) u c h w t = refl
passes resets (Entry Attributes) u c h w t = refl
passes resets (Entry Base) u c h w t = absurd (true≢false t)
passes resets (Entry Whole) u c h w t = absurd (true≢false t)
passes resets Unlisted u c h w t = refl

-- a reset takes the trap line back; the others leave it
abbrev pub is_reset : Effect → Bool
is_reset (clears m) = false
is_reset (raises m) = false
is_reset resets = true

pub request_after : (e : Effect) (u : Unit) → request (does e u) ≡ (not (is_reset e) && request u)
unfolding does restarted
request_after (clears m) u = refl
request_after (raises m) u = refl
request_after resets u = refl
