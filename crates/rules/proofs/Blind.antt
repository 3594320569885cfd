-- What a cycle doesn't look at: whatever descriptor stands at its place, one that is neither translated nor reads a byte of a descriptor has the
-- same answer and the same registers after it, and changes that place in the same way. Callers compare units whose tables differ.
-- Assumes nothing.
use mathlib.Core.Path.{◌≡◌, refl, ◌∙◌}
use mathlib.Core.Bool.{Bool, true, false, not, ◌&&◌, true≢false}
use Prim.Native.Nat.{ℕ}
use lib.Dec.{eqb}
use Rattle.rules.specs.Bus.{cpu}
use Rattle.rules.specs.Status.{purpose_of, by_purpose, by_status}
use Rattle.rules.specs.Memory.{aborts, memory_by, memory}
use Rattle.rules.specs.Translation.{way_of, address_of}
use Rattle.rules.specs.Codes.{command_of}
use Rattle.rules.specs.Entry.{index_of, replaced, written_by}
use Rattle.rules.specs.Commands.{replied, entry, executed, commanded}
use Rattle.rules.specs.Step.{decided_by, place_of}
use Rattle.rules.specs.declared.Change.{Change}
use Rattle.rules.specs.declared.Change.TheVariants.{Keep, Put, Raise}
use Rattle.rules.specs.declared.Command.{Command}
use Rattle.rules.specs.declared.Command.TheVariants.{Mr, Sar, Dscr, Show, Entry, Act, Unlisted}
use Rattle.rules.specs.declared.Cycle.{Cycle}
use Rattle.rules.specs.declared.Decision.{Decision}
use Rattle.rules.specs.declared.Descriptor.{Descriptor}
use Rattle.rules.specs.declared.Purpose.{Purpose}
use Rattle.rules.specs.declared.Registers.{Registers}
use Rattle.rules.specs.declared.Way.{Way}
use Rattle.rules.specs.declared.Purpose.TheVariants as purpose
use Rattle.rules.specs.declared.Way.TheVariants as way

-- Decisions

-- two changes of one kind; what each puts is made in one way of the descriptor that stood there, d or e
pub data Kindred (d e : Descriptor) : Change → Change → Type 0 where
  keep : Kindred d e Keep Keep
  put : (make : Descriptor → Descriptor) → Kindred d e (Put (make d)) (Put (make e))
  raise : (mask : ℕ) → Kindred d e (Raise mask) (Raise mask)

-- what is decided by the descriptor d, and what by e: the difference is not seen
pub record Unseen (d e : Descriptor) (x y : Decision) : Type 0 where
  pub answer : x.answer ≡ y.answer
  pub registers : x.registers ≡ y.registers
  pub change : Kindred d e x.change y.change

pub unseen_refl : {d e : Descriptor} (x : Decision) → Unseen d e x x
unseen_refl {d} {e} x = record { answer = refl; registers = refl; change = go x.change }
  where
    go : (h : Change) → Kindred d e h h
    go Keep = keep
    go (Put f) = put (λ g. f)
    go (Raise mask) = raise mask

-- What looks: a memory cycle that is translated, and a command that drives a byte of the descriptor at SAR

abbrev pub is_translated : Way → Bool
is_translated way.Translated = true
is_translated way.Passed = false
is_translated way.Silent = false

abbrev pub shows : Command → (read : Bool) → Bool
shows Mr read = false
shows Sar read = false
shows Dscr read = false
shows (Show g) read = false
shows (Entry p) read = read
shows (Act a) read = false
shows Unlisted read = false

abbrev pub looks_for : Purpose → (selected translated shown : Bool) → Bool
looks_for purpose.Acknowledge selected translated shown = false
looks_for purpose.Command selected translated shown = selected && shown
looks_for purpose.Memory selected translated shown = translated
looks_for purpose.Other selected translated shown = false

-- a cycle with the reset line off, in its ranges, looks at the descriptor at its place
abbrev pub looks : Registers → Cycle → Bool
looks r c =
    looks_for (purpose_of c.status) (cpu c && c.select) (is_translated (way_of r.control.mr c)) (shows (command_of c.offset) c.read)

-- What doesn't

module _ (r : Registers) (d e : Descriptor) (c : Cycle) where
  memory_unseen : is_translated (way_of r.control.mr c) ≡ false → memory r d c ≡ memory r e c
  unfolding memory address_of
  memory_unseen f = go (aborts r c) (way_of r.control.mr c) f
    where
      go : (t : Bool) (w : Way) → is_translated w ≡ false
          → memory_by t w r d c (address_of w d.base c) ≡ memory_by t w r e c (address_of w e.base c)
      go t way.Translated f = absurd (true≢false f)
      go true way.Passed f = refl
      go true way.Silent f = refl
      go false way.Passed f = refl
      go false way.Silent f = refl

  executed_unseen : (m : Command) (read : Bool) → c.read ≡ read → shows m read ≡ false
      → Unseen d e (executed m read r d c) (executed m read r e c)
  unfolding executed entry replied written_by
  executed_unseen Mr read q f = unseen_refl _
  executed_unseen Sar read q f = unseen_refl _
  executed_unseen Dscr read q f = unseen_refl _
  executed_unseen (Show g) true q f = unseen_refl _
  executed_unseen (Show g) false q f = unseen_refl _
  executed_unseen (Entry p) read q f =
      rw (q ∙ f)
      (record { answer = refl; registers = refl; change = put (λ g. replaced g (index_of p r.control.dscr) c.byte) })
  executed_unseen (Act a) true q f = unseen_refl _
  executed_unseen (Act a) false q f = unseen_refl _
  executed_unseen Unlisted read q f = unseen_refl _

  purpose_unseen : (p : Purpose) (x y : Bool)
      → looks_for p y (is_translated (way_of r.control.mr c)) (shows (command_of c.offset) c.read) ≡ false
      → Unseen d e (by_purpose p x y r d c) (by_purpose p x y r e c)
  unfolding commanded
  purpose_unseen purpose.Acknowledge true y f = unseen_refl _
  purpose_unseen purpose.Acknowledge false y f = unseen_refl _
  purpose_unseen purpose.Command x true f = executed_unseen (command_of c.offset) c.read refl f
  purpose_unseen purpose.Command x false f = unseen_refl _
  purpose_unseen purpose.Memory x y f = rw (memory_unseen f) (unseen_refl _)
  purpose_unseen purpose.Other x y f = unseen_refl _

  pub decided_unseen : (broken outside reset : Bool) → (not outside && not reset && looks r c) ≡ false
      → Unseen d e (decided_by broken outside reset r d c) (decided_by broken outside reset r e c)
  unfolding by_status
  decided_unseen true outside reset f = unseen_refl _
  decided_unseen false true reset f = unseen_refl _
  decided_unseen false false true f = unseen_refl _
  decided_unseen false false false f = purpose_unseen (purpose_of c.status) (cpu c) (cpu c && c.select) f

-- Where one looks: a cycle that is no command, at its own segment
pub own-segment : (r : Registers) (c : Cycle) → eqb c.status 3 ≡ false → place_of r c ≡ c.segment
unfolding place_of
own-segment r c f = rw f
