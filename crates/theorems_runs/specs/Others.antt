-- Ticket 12, other people's segments: two units that differ only in descriptors outside a set, over the same cycles.
-- Assumes nothing.
use Rattle.std.specs.Prelude.{◌≡◌, Bool, true, false, not, ◌&&◌, ◌||◌, List, ℕ, ◌%◌, ◌<◌, eqb, length, get_or}
use Rattle.rules.specs.PowerOn.{blank}
use Rattle.rules.specs.Refusals.{damaged}
use Rattle.rules.specs.Runs.{answers, units}
use Rattle.rules.specs.Step.{place}
use Rattle.rules.specs.declared.Cycle.{Cycle}
use Rattle.rules.specs.declared.Unit.{Unit}
use Rattle.theorems_runs.specs.Answers.{awaited}
use Rattle.theorems_runs.specs.Cycles.{meets_conditions, on_descriptor, descriptor_command, descriptor_read}
use Rattle.theorems_runs.specs.Sequences.{◌⇒◌, Both, Along}
use Rattle.theorems_runs.specs.Undamaged.{Undamaged}

-- Units. A set of segments is a test `inside` of their numbers modulo 64, any at all.

-- the descriptors in the set are equal
abbrev pub AlikeInside : (inside : ℕ → Bool) → Unit → Unit → Type 0
AlikeInside inside a b = (i : ℕ) → i < 64 → inside i ≡ true → get_or a.table i blank ≡ get_or b.table i blank

-- "differ only in descriptors outside a set"
pub record Alike (inside : ℕ → Bool) (a b : Unit) : Type 0 where
  pub registers : a.registers ≡ b.registers
  pub table : AlikeInside inside a b

-- a table of 64 descriptors, in a unit damaged or not
abbrev pub Sized : Unit → Type 0
Sized u = length u.table ≡ 64

-- Cycles

-- "each cycle that meets the translation conditions of document 01 names a segment whose number modulo 64 lies in the set": an aborted
-- fetch too, since it drives an address from a descriptor
abbrev pub NamesInside : (inside : ℕ → Bool) → Unit → Cycle → Type 0
NamesInside inside u c = meets_conditions u c ⇒ inside (c.segment % 64)

-- and "no selected command %08 to %0F occurs", read or write
abbrev pub ByTicket : (inside : ℕ → Bool) → Unit → Cycle → Type 0
ByTicket inside u c = NamesInside inside u c × (descriptor_command c ≡ false)

-- less than that: a cycle that looks at a descriptor, to translate by it or to read a byte of it, looks at one in the set
abbrev pub LooksInside : (inside : ℕ → Bool) → Unit → Cycle → Type 0
LooksInside inside u c = (meets_conditions u c || descriptor_read c) ⇒ inside (place u c)

-- Ticket 12, with what is asked of each unit, of the two together and of each cycle left open
abbrev pub OthersUnseen : (Fit : Unit → Type 0) → (Like : (ℕ → Bool) → Unit → Unit → Type 0) → (May : (ℕ → Bool) → Unit → Cycle → Type 0)
    → Type 0
OthersUnseen Fit Like May =
    (inside : ℕ → Bool) (a b : Unit) (cs : List Cycle)
    -- "two undamaged units": damaged ones do no harm (`LooksAlone`), but the tables must be of one length (`SizeNeeded`), and 64 is the code's
    → Fit a
    → Fit b
    -- "that differ only in descriptors outside a set" (`RegistersNeeded`, `InsideNeeded`)
    → Like inside a b
    -- "the same cycles", each as the ticket asks (`NamesNeeded`, `AbortsNeeded`, `ReadsNeeded`). The first unit's run alone is asked, since the
    -- registers are the same in the second
    → Along (May inside) a cs
    -- "all answers are the same at every cycle, refusals [..] included", and "every register but those descriptors is equal in the two units
    -- after each cycle"
    → (answers a cs ≡ answers b cs) × Both (Alike inside) (units a cs) (units b cs)

-- CLAIM, ticket 12. Set all CPUI and set all DMAI, resets, acknowledges, DMA and refused cycles may all come.
abbrev pub Ticket12 : Type 0
Ticket12 = OthersUnseen Undamaged Alike ByTicket

-- CLAIM: the same of damaged units, and with %08 to %0F written anywhere, and read where SAR is in the set.
abbrev pub LooksAlone : Type 0
LooksAlone = OthersUnseen Sized Alike LooksInside

-- What is left of the ticket's conditions is needed: with all of them but one the statement is false.

-- CLAIM: the registers. A trap line that stands in one unit alone shows in its answers.
abbrev pub RegistersNeeded : Type 0
RegistersNeeded = OthersUnseen Undamaged AlikeInside ByTicket → ⊥

-- CLAIM: the descriptors in the set. A read drives its address from one.
abbrev pub InsideNeeded : Type 0
InsideNeeded = OthersUnseen Undamaged (λ inside a b. a.registers ≡ b.registers) ByTicket → ⊥

-- CLAIM: the 64 descriptors, which the code's type gives every unit. Set all CPUI goes over the table as it is.
abbrev pub SizeNeeded : Type 0
SizeNeeded = OthersUnseen (λ u. damaged u.registers ≡ false) Alike ByTicket → ⊥

-- CLAIM: translated cycles in the set. A read outside it drives another address.
abbrev pub NamesNeeded : Type 0
NamesNeeded = OthersUnseen Undamaged Alike (λ inside u c. descriptor_command c ≡ false) → ⊥

-- all of the ticket's conditions, but aborted fetches may name any segment
abbrev pub AbortsAnywhere : (inside : ℕ → Bool) → Unit → Cycle → Type 0
AbortsAnywhere inside u c =
    ((meets_conditions u c && not (awaited u c)) ⇒ inside (c.segment % 64)) × (descriptor_command c ≡ false)

-- CLAIM: aborted fetches among them. One outside the set drives another address.
abbrev pub AbortsNeeded : Type 0
AbortsNeeded = OthersUnseen Undamaged Alike AbortsAnywhere → ⊥

-- all of the ticket's conditions, but one code may be read
abbrev pub MayRead : (code : ℕ) → (inside : ℕ → Bool) → Unit → Cycle → Type 0
MayRead code inside u c = NamesInside inside u c × ((descriptor_command c && not (c.read && eqb c.offset code)) ≡ false)

-- CLAIM: no read of %08 to %0F, whichever of the eight. Each shows the other descriptor.
abbrev pub ReadsNeeded : Type 0
ReadsNeeded = (code : ℕ) → on_descriptor code ≡ true → OthersUnseen Undamaged Alike (MayRead code) → ⊥
