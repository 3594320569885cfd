-- Which cycles look at a descriptor, told by their numbers.
-- Assumes nothing.
use mathlib.Core.Path.{◌≡◌, refl}
use mathlib.Core.Bool.{Bool, true, false, not, ◌&&◌, ◌||◌, beq}
use Prim.Native.Nat.{ℕ}
use Rattle.rules.proofs.Blind.{is_translated, shows, looks_for, looks}
use Rattle.rules.specs.Bus.{cpu}
use Rattle.rules.specs.Codes.{command_of}
use Rattle.rules.specs.Flags.{has, lacks}
use Rattle.rules.specs.Masks.{NMS, MST, URS, TRNS, MSEN, UPPER}
use Rattle.rules.specs.Refusals.{out_of_range}
use Rattle.rules.specs.Status.{purpose_of}
use Rattle.rules.specs.Translation.{way_by, way_of}
use Rattle.rules.specs.declared.Command.{Command}
use Rattle.rules.specs.declared.Command.TheVariants.{Mr, Sar, Dscr, Show, Entry, Act, Unlisted}
use Rattle.rules.specs.declared.Cycle.{Cycle}
use Rattle.rules.specs.declared.Purpose.{Purpose}
use Rattle.rules.specs.declared.Unit.{Unit}
use Rattle.theorems_runs.specs.Cycles.{translation_conditions, meets_conditions, on_descriptor, descriptor_read}
use Rattle.theorems_runs.proofs.Codes.{is_entry, entry-codes}
use Rattle.theorems_runs.proofs.Purposes.{is_command, is_memory, command_status, memory_status}
use Rattle.theorems_runs.proofs.Tests.{or_l}
use Rattle.rules.specs.declared.Purpose.TheVariants as purpose

pub conditions_way : (mr : ℕ) (c : Cycle) → is_translated (way_of mr c) ≡ translation_conditions mr c
unfolding way_of
conditions_way mr c =
    go (lacks mr MSEN) (lacks mr TRNS) (beq (has mr URS) (has c.segment UPPER)) (lacks mr MST) (beq (has mr NMS) c.normal)
  where
    go : (disabled passing half either mode : Bool)
        → is_translated (way_by disabled passing half either mode) ≡ (not disabled && not passing && half && (not (not either) || mode))
    go true passing half either mode = refl
    go false true half either mode = refl
    go false false false either mode = refl
    go false false true true mode = refl
    go false false true false true = refl
    go false false true false false = refl

shows-entry : (m : Command) (read : Bool) → shows m read ≡ (is_entry m && read)
shows-entry Mr read = refl
shows-entry Sar read = refl
shows-entry Dscr read = refl
shows-entry (Show g) read = refl
shows-entry (Entry p) read = refl
shows-entry (Act a) read = refl
shows-entry Unlisted read = refl

pub looks_told : (u : Unit) (c : Cycle) → (meets_conditions u c || descriptor_read c) ≡ false
    → (not (out_of_range c) && not c.reset && looks u.registers c) ≡ false
looks_told u c f =
    rw (
      conditions_way u.registers.control.mr c,
      shows-entry (command_of c.offset) c.read,
      entry-codes c.offset,
    )
    (go (out_of_range c) c.reset (purpose_of c.status) (cpu c && c.select) (translation_conditions u.registers.control.mr c)
    (on_descriptor c.offset) c.read (rw (memory_status c.status, command_status c.status) f))
  where
    go : (outside reset : Bool) (p : Purpose) (selected translated on_descriptor read : Bool)
        → (not outside && (not reset && is_memory p) && translated
        || not outside && (not reset && is_command p && selected) && on_descriptor && read) ≡ false
        → (not outside && not reset && looks_for p selected translated (on_descriptor && read)) ≡ false
    go true reset p s t o r f = refl
    go false true p s t o r f = refl
    go false false purpose.Acknowledge s t o r f = refl
    go false false purpose.Command true t o r f = f
    go false false purpose.Command false t o r f = refl
    go false false purpose.Memory s t o r f = or_l t _ f
    go false false purpose.Other s t o r f = refl
