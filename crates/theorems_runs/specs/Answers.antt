-- What a cycle answers, as one equation each, of every unit and every cycle: its kind, the address that is driven, SUP, the distance.
-- Assumes nothing.
use Rattle.std.specs.Prelude.{◌≡◌, Bool, true, false, cond, not, ◌&&◌, ◌||◌, ℕ, ◌+◌, ◌*◌, ◌-◌, ◌%◌, eqb, ltb, get_or}
use Rattle.std.proofs.Math.Option.{Option, none, some}
use Rattle.rules.specs.Bus.{cpu, write}
use Rattle.rules.specs.Flags.{has}
use Rattle.rules.specs.Masks.{RD, SYS, CPUI, EXC, DMAI, DIRW, TRNS}
use Rattle.rules.specs.PowerOn.{blank}
use Rattle.rules.specs.Replies.{off}
use Rattle.rules.specs.Step.{stepped}
use Rattle.rules.specs.declared.Cycle.{Cycle}
use Rattle.rules.specs.declared.Descriptor.{Descriptor}
use Rattle.rules.specs.declared.Kind.{Kind}
use Rattle.rules.specs.declared.Kind.TheVariants.{Reset, Acknowledge, Command, Aborted, Translated, Passed, Ignored}
use Rattle.rules.specs.declared.Kind.TheVariants.{Refused}
use Rattle.rules.specs.declared.Address.{Address}
use Rattle.rules.specs.declared.Unit.{Unit}
use Rattle.theorems_runs.specs.Cycles.{selected_command, acknowledge, memory_cycle, fetches, passing_conditions, translation_conditions}
use Rattle.theorems_runs.specs.Refusal.{refusal_of, admitted}

-- The aborted fetch

-- a fetch, and "If await is set, this is the aborted fetch"
abbrev pub awaited : Unit → Cycle → Bool
awaited u c = fetches c && u.registers.notes.awaits

-- a cycle is an aborted fetch in a unit: no refusal, no reset, a CPU read at %D, await
abbrev pub aborted_fetch : Unit → Cycle → Bool
aborted_fetch u c = admitted u c && awaited u c

-- Kind

-- "if not refused the first that fits: R reset, A acknowledge, C command, F aborted fetch, T translated, P passed with TRNS clear, I anything
-- else, X [..] if refused"; F, T and P are memory cycles
abbrev pub kind_by : (refusal : Option ℕ) → (reset acknowledge command memory awaited translated passed : Bool) → Kind
kind_by (some n) r a k m w t p = Refused n
kind_by none true a k m w t p = Reset
kind_by none false true k m w t p = Acknowledge
kind_by none false false true m w t p = Command
kind_by none false false false true true t p = Aborted
kind_by none false false false true false true p = Translated
kind_by none false false false true false false true = Passed
kind_by none false false false true false false false = Ignored
kind_by none false false false false w t p = Ignored

abbrev pub kind_of : Unit → Cycle → Kind
kind_of u c =
    kind_by (refusal_of u c) c.reset (acknowledge c) (selected_command c) (memory_cycle c) (awaited u c)
    (translation_conditions u.registers.control.mr c) (passing_conditions u.registers.control.mr)

-- CLAIM: the kind, by the refusals, reset, status, master, select, direction, MR and await.
abbrev pub KindExactly : Type 0
KindExactly = (u : Unit) (c : Cycle) → (stepped u c).answer.kind ≡ kind_of u c

abbrev pub is_aborted : Kind → Bool
is_aborted Reset = false
is_aborted Acknowledge = false
is_aborted Command = false
is_aborted Aborted = true
is_aborted Translated = false
is_aborted Passed = false
is_aborted Ignored = false
is_aborted (Refused n) = false

-- CLAIM: the answer is that of an aborted fetch exactly for no refusal, no reset, a CPU read at %D, await. `Demand3` stops there.
abbrev pub AbortedExactly : Type 0
AbortedExactly = (u : Unit) (c : Cycle) → is_aborted (stepped u c).answer.kind ≡ aborted_fetch u c

-- Address

-- "MSEN clear: not driven. TRNS clear: address lines A23 to A8 are segment x 256 + offset byte, unchecked. Then URS must equal segment bit 6,
-- and if MST is set, NMS must equal the mode (1 for normal); else not driven." An aborted fetch too: "the address is driven as below".
abbrev pub drives_address : Unit → Cycle → Bool
drives_address u c =
    admitted u c && memory_cycle c
    && (passing_conditions u.registers.control.mr || translation_conditions u.registers.control.mr c)

-- "descriptor segment modulo 64"
abbrev pub segment_of : Unit → Cycle → Descriptor
segment_of u c = get_or u.table (c.segment % 64) blank

-- "TRNS clear: [..] segment x 256 + offset byte"; "Translated: base + offset byte, modulo 65,536, driven in a violation as well."
abbrev pub block_driven : Unit → Cycle → ℕ
block_driven u c =
    cond (has u.registers.control.mr TRNS) (((segment_of u c).base + c.offset) % 65536) (c.segment * 256 + c.offset)

abbrev pub driven : (block : ℕ) → Address
driven b = record { driven = true; block = b }

-- CLAIM: the address lines are driven exactly there, and so; else they are off, and "An address [..] that isn't driven [..] has the value 0".
abbrev pub AddressExactly : Type 0
AddressExactly = (u : Unit) (c : Cycle) → (stepped u c).answer.address ≡ cond (drives_address u c) (driven (block_driven u c)) off

-- SUP

-- "length: offset byte above limit with DIRW clear, below limit with DIRW set": of a block of the segment
abbrev pub beyond_limit : Descriptor → (block : ℕ) → Bool
beyond_limit d o = cond (has d.attributes DIRW) (ltb o d.limit) (ltb d.limit o)

-- "RD and a write; SYS and normal mode; EXC and status neither %C nor %D"; length; "CPUI for the CPU; DMAI for DMA"
abbrev pub breaks : Descriptor → Cycle → Bool
breaks d c =
    has d.attributes RD && write c || has d.attributes SYS && c.normal
    || has d.attributes EXC && not (eqb c.status 0xC || eqb c.status 0xD)
    || beyond_limit d c.offset
    || has d.attributes CPUI && cpu c || has d.attributes DMAI && c.dma

-- an unrefused memory cycle, no aborted fetch, that meets the translation conditions
abbrev pub translated : Unit → Cycle → Bool
translated u c = admitted u c && memory_cycle c && not (awaited u c) && translation_conditions u.registers.control.mr c

-- a violation: it breaks a rule of its segment's descriptor. "Checks, on translated cycles only, with descriptor segment modulo 64"
abbrev pub violation : Unit → Cycle → Bool
violation u c = translated u c && breaks (segment_of u c) c

-- "any CPU memory cycle, translated or not, while hold was already set": a fetch clears hold first
abbrev pub held_back : Unit → Cycle → Bool
held_back u c = admitted u c && memory_cycle c && cpu c && not (fetches c) && u.registers.notes.hold

-- CLAIM: SUP is on exactly for an unrefused memory cycle, no aborted fetch, that is translated and violates, or that is the CPU's and no
-- fetch while hold stood. Why hold stands is in `Hold`.
abbrev pub SupExactly : Type 0
SupExactly = (u : Unit) (c : Cycle) → (stepped u c).answer.sup ≡ (violation u c || held_back u c)

-- Distance

-- ticket 5: "limit less offset byte, or offset byte less limit with DIRW, and 0 in a length violation"
abbrev pub blocks_left : Descriptor → (block : ℕ) → ℕ
blocks_left d o = cond (beyond_limit d o) 0 (cond (has d.attributes DIRW) (o - d.limit) (d.limit - o))

-- CLAIM: "Every answer of a translated cycle that is not an aborted fetch carries it; all other answers carry 0": of CPU and DMA, in a violation
-- and under SUP too. Neither hold nor any protection flag has a part in it.
abbrev pub DistanceExactly : Type 0
DistanceExactly = (u : Unit) (c : Cycle) → (stepped u c).answer.distance ≡ cond (translated u c) (blocks_left (segment_of u c) c.offset) 0

-- Two units

abbrev pub SameMr : Unit → Unit → Type 0
SameMr a b = a.registers.control.mr ≡ b.registers.control.mr
